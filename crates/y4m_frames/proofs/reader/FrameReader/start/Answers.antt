use Rattle.std.proofs.Common.{◌+◌, ◌-◌, ◌<◌, ◌∙◌, ap, sym, take, length, List, ℕ, None, arith}
use Rattle.std.proofs.lemmas.Result.{err_from_is_err_and}
use Rattle.y4m_frames.specs.Header.{header_of}
use Rattle.y4m_frames.specs.Frames.{file_limit}
use Rattle.y4m_frames.specs.Reading.{Reading, Starts}
use Rattle.y4m_frames.specs.Behind.{read_limit}
use Rattle.std.proofs.lemmas.List.{length-drop}
use Rattle.y4m_frames.proofs.BehindLaws.{starts_behind}
use Rattle.y4m_frames.proofs.HeaderExits.{from_rest, no_header, bad_header, starts}
use Rattle.y4m_frames.proofs.reader.FrameReader.start.Goals as goal

pub returns-in_default-clause-tells : goal.returns-in_default-clause-tells
returns-in_default-clause-tells g c = λ s told.
    let e = c.in_ok-text.ensures in
    let old = (g.S.Shelf.told c.args.shelf.now).rest in
    let rest = (g.S.Shelf.told c.line.new.shelf).rest in
    no_header s c.line.new.self old rest c.in_ok-text.field-0 told (from_rest c.in_ok-ahead.ahead c.line.new.self old rest c.in_ok-ahead.ensures e.same) e.found e.all c.in_default.is

pub returns-in_err-header-clause-tells : goal.returns-in_err-header-clause-tells
returns-in_err-header-clause-tells g c = λ s told.
    let p = err_from_is_err_and c.from_residual-in_err-header.result c.from_residual-in_err-header.ensures.1 in
    let e = c.in_ok-text.ensures in
    let old = (g.S.Shelf.told c.args.shelf.now).rest in
    let rest = (g.S.Shelf.told c.line.new.shelf).rest in
    rw (p.1, p.2) (bad_header s c.line.new.self old rest c.in_ok-text.field-0 c.in-Some.text c.in_err-header.field-0.0 told (from_rest c.in_ok-ahead.ahead c.line.new.self old rest c.in_ok-ahead.ensures e.same) e.found c.in-Some.is
    (ap (λ (x : List ℕ). header_of (take c.in-Some.text x)) (sym c.bytes-held.ensures.value) ∙ sym c.in_err-header.ensures))

pub returns-clause-starts : goal.returns-clause-starts
returns-clause-starts g c =
    let e = c.in_ok-text.ensures in
    let old = (g.S.Shelf.told c.args.shelf.now).rest in
    let rest = (g.S.Shelf.told c.line.new.shelf).rest in
    starts c.line.new.self c.skip.new.self c.in_ok-line.line.items old rest c.in_ok-text.field-0 c.in-Some.text c.in_ok-header.header (from_rest c.in_ok-ahead.ahead c.line.new.self old rest c.in_ok-ahead.ensures e.same) e.found c.in-Some.is
    (ap (λ (x : List ℕ). header_of (take c.in-Some.text x)) (sym c.bytes-held.ensures.value) ∙ sym c.in_ok-header.ensures)
    (c.in_ok-line.ensures.items ∙ ap (take (c.in-Some.text + 1)) c.bytes-held.ensures.value)
    c.skip.ensures

pub returns-clause-behind : goal.returns-clause-behind
returns-clause-behind g c = λ file told.
    let r : Reading = record { header = c.in_ok-header.header; line = c.in_ok-line.line.items; count = 0; room = file_limit - (c.in-Some.text + 1); ahead = c.skip.new.self; failed = None } in
    let old = (g.S.Shelf.told c.args.shelf.now).rest in
    let rest = (g.S.Shelf.told c.line.new.shelf).rest in
    let start : Starts old rest r = returns-clause-starts g c in
    let within : (c.in-Some.text < 1024) × (c.in-Some.text < length c.line.new.self) = rw c.in-Some.is at c.in_ok-text.ensures.within in
    let few : length r.ahead < read_limit = omega (arith, ap length c.skip.ensures, length-drop (c.in-Some.text + 1) c.line.new.self, c.in_ok-text.ensures.most, within.1) in
    starts_behind r old rest file start few told
