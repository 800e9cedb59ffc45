use Rattle.std.proofs.Common.{◌≡◌, ◌+◌, ◌-◌, ℕ, List, take, drop, length, ap, refl, arith, rules, subst}
use Rattle.std.specs.Vec.{with_items}
use Rattle.std.proofs.lemmas.List.{with_items_is}
use Rattle.std.specs.Io.KnownBytes.{Consumes}
use Rattle.job_decode.proofs.Feeds.{fed_on, read_on, end_on, fails_on}
use Rattle.job_decode.proofs.piece.advance.Goals as goal

pub returns-then-piece-clause-fed : goal.returns-then-piece-clause-fed
returns-then-piece-clause-fed g c named name let_go so =
    let p = c.args.piece.now in
    fed_on c.args.cutter.now c.feed.new.self p (record { bytes = p.bytes; at = p.at + c.feed.result; end = p.end }) (take (p.end - p.at) (drop p.at c.deref.result.now)) c.feed.result
    (ap (λ (s : List ℕ). take (p.end - p.at) (drop p.at s)) c.deref.ensures.value) c.requires.fits c.requires.more c.feed.ensures.within c.feed.ensures.fed c.feed.ensures.stands refl refl refl named name (g.S.Shelf.told c.args.shelf.now).rest let_go so

pub returns-in_err-count-clause-fed : goal.returns-in_err-count-clause-fed
returns-in_err-count-clause-fed g c named name let_go so =
    let p = c.args.piece.now in
    fails_on c.args.cutter.now p (record { bytes = with_items p.bytes c.read.new.buf; at = p.at; end = p.end }) (g.S.Shelf.told c.args.shelf.now).rest (g.S.Shelf.told c.read.new.self).rest
    c.requires.more (omega (arith, c.if-piece.false)) c.in_err-count.ensures.bytes refl refl named name let_go so

pub returns-then-count-eq0-clause-fed : goal.returns-then-count-eq0-clause-fed
returns-then-count-eq0-clause-fed g c named name let_go so =
    let p = c.args.piece.now in
    let none : c.in_ok-count.count ≡ 0 = omega (arith, c.if-count-eq0.true) in
    end_on c.args.cutter.now c.close.new.self p (record { bytes = with_items p.bytes c.read.new.buf; at = 0; end = c.in_ok-count.count }) c.read.new.buf (g.S.Shelf.told c.args.shelf.now).rest (g.S.Shelf.told c.read.new.self).rest
    c.requires.fits c.requires.more (omega (arith, c.if-piece.false))
    (subst (λ (n : ℕ). Consumes (g.S.Shelf.told c.args.shelf.now).rest (g.S.Shelf.told c.read.new.self).rest (take n c.read.new.buf)) none c.in_ok-count.ensures.bytes.0)
    (c.in_ok-count.ensures.bytes.1 none (search rules)) c.close.ensures.stands refl none named name let_go so

pub returns-else-count-eq0-clause-fed : goal.returns-else-count-eq0-clause-fed
returns-else-count-eq0-clause-fed g c named name let_go so =
    let p = c.args.piece.now in
    let len : length c.read.new.buf ≡ p.bytes.len = omega arith in
    read_on c.args.cutter.now p (record { bytes = with_items p.bytes c.read.new.buf; at = 0; end = c.in_ok-count.count }) c.read.new.buf c.in_ok-count.count (g.S.Shelf.told c.args.shelf.now).rest (g.S.Shelf.told c.read.new.self).rest
    c.requires.fits c.requires.more (omega (arith, c.if-piece.false)) c.in_ok-count.ensures.bytes.0 (omega (arith, len, c.requires.fits.full, p.bytes.ok.0))
    (with_items_is p.bytes c.read.new.buf len) refl refl named name let_go so
