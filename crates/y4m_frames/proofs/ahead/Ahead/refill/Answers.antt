use Rattle.std.proofs.Common.{◌≡◌, ◌+◌, ◌++◌, arith, ◌∙◌, sym, ap, drop, take, subst, List, [], ℕ, slice_range, append-nil}
use Rattle.std.proofs.lemmas.List.{with_items_is}
use Rattle.std.specs.Vec.{with_items}
use Rattle.std.specs.Io.KnownBytes.{Consumes, prepend_known}
use Rattle.y4m_frames.proofs.AheadLemmas.{grown, moved_over}
use Rattle.y4m_frames.proofs.ahead.Ahead.refill.Goals as goal

pub returns-clause-same : goal.returns-clause-same
returns-clause-same g c =
    let s = c.self.inside in
    let st = c.read_behind.new.store in
    let moved_is : (with_items s.store c.to_front-held.new.store).items ≡ c.to_front-held.new.store = with_items_is s.store c.to_front-held.new.store (omega arith) in
    let items_is : (with_items (with_items s.store c.to_front-held.new.store) st).items ≡ st = with_items_is (with_items s.store c.to_front-held.new.store) st (omega arith) in
    let front : take c.to_front-held.result st ≡ c.args.self.now =
    c.in_ok-count.ensures.front ∙ ap (take c.to_front-held.result) (c.deref_mut-2.ensures.value ∙ moved_is) ∙ c.to_front-held.ensures.moved
    ∙ ap (λ (xs : List ℕ). slice_range xs s.at s.end) c.deref_mut.ensures.value ∙ c.self.view_is in
    let now_is = grown st c.args.self.now c.to_front-held.result c.in_ok-count.count front in
    subst (λ (a : List ℕ). Consumes (prepend_known c.args.self.now (g.S.Shelf.told c.args.shelf.now).rest) (prepend_known a (g.S.Shelf.told c.read_behind.new.shelf).rest) [])
    (sym (ap (λ (xs : List ℕ). slice_range xs 0 (c.to_front-held.result + c.in_ok-count.count)) items_is ∙ now_is))
    (moved_over c.args.self.now (take c.in_ok-count.count (drop c.to_front-held.result st)) (g.S.Shelf.told c.args.shelf.now).rest (g.S.Shelf.told c.read_behind.new.shelf).rest c.in_ok-count.ensures.read)

pub returns-clause-none : goal.returns-clause-none
returns-clause-none g c = λ zero_is.
    let s = c.self.inside in
    let st = c.read_behind.new.store in
    let moved_is : (with_items s.store c.to_front-held.new.store).items ≡ c.to_front-held.new.store = with_items_is s.store c.to_front-held.new.store (omega arith) in
    let items_is : (with_items (with_items s.store c.to_front-held.new.store) st).items ≡ st = with_items_is (with_items s.store c.to_front-held.new.store) st (omega arith) in
    let front : take c.to_front-held.result st ≡ c.args.self.now =
    c.in_ok-count.ensures.front ∙ ap (take c.to_front-held.result) (c.deref_mut-2.ensures.value ∙ moved_is) ∙ c.to_front-held.ensures.moved
    ∙ ap (λ (xs : List ℕ). slice_range xs s.at s.end) c.deref_mut.ensures.value ∙ c.self.view_is in
    let now_is = grown st c.args.self.now c.to_front-held.result c.in_ok-count.count front in
    ap (λ (xs : List ℕ). slice_range xs 0 (c.to_front-held.result + c.in_ok-count.count)) items_is ∙ now_is ∙ ap (λ n. c.args.self.now ++ take n (drop c.to_front-held.result st)) zero_is ∙ append-nil c.args.self.now
