use Rattle.std.proofs.Common.{◌≡◌, ◌≤◌, ◌∙◌, sym, subst, arith, List, ℕ, take, drop, length, slice_range, Option, Result, Ok, Err, ◌-◌, IfOk, OnOk, OnErr}
use Rattle.std.specs.Io.KnownBytes.{Consumes, prepend_known}
use Rattle.y4m_frames.specs.Reading.{TakesFewer}
use Rattle.y4m_frames.proofs.AheadLemmas.{front_and_more}
use Rattle.y4m_frames.proofs.PartLemmas.{fewer_filled}
use Rattle.y4m_frames.proofs.ahead.Ahead.fill.Goals as goal

-- all that was ahead, and what was read behind it
all_and_more : {E : Type 0} (a left to first : List ℕ) (old new : Option (List ℕ)) (given : ℕ) (r : Result ℕ E) → length a ≤ given → left ≡ drop given a → take given first ≡ take given a → OnOk r (take given to ≡ take given first) →
    IfOk r (λ n. (given ≤ n) × (n ≤ length first)) → IfOk r (λ n. Consumes old new (slice_range to given n)) → IfOk r (λ n. Consumes (prepend_known a old) (prepend_known left new) (take n to))
all_and_more a left to first old new given (Ok n) all left_is front same within read =
    subst (λ (d : List ℕ). Consumes (prepend_known a old) (prepend_known d new) (take n to)) (sym left_is) (front_and_more a to old new given n all within.0 (same ∙ front) read)
all_and_more a left to first old new given (Err e) all left_is front same within read = tt

pub returns-clause-read : goal.returns-clause-read
returns-clause-read g c =
    let e = c.read_all.ensures in
    let given = c.give-given.ensures in
    let all : length c.args.self.now ≤ c.give-given.result = omega (arith, given.count, c.if-given-to.false) in
    all_and_more c.args.self.now c.give-given.new.self c.read_all.new.to c.give-given.new.to (g.S.Shelf.told c.args.shelf.now).rest (g.S.Shelf.told c.read_all.new.shelf).rest c.give-given.result c.read_all.result
    all given.left given.given e.front e.within e.read

pub returns-clause-part : goal.returns-clause-part
returns-clause-part g c =
    let given = c.give-given.ensures in
    fewer_filled c.args.self.now (length c.args.to.now) c.give-given.result (g.S.Shelf.told c.args.shelf.now).rest (g.S.Shelf.told c.read_all.new.shelf).rest c.read_all.result
    (omega (arith, given.count, c.if-given-to.false, c.give-given.auto.to)) (omega (arith, given.count))
    (subst (λ n. OnErr c.read_all.result (TakesFewer (n - c.give-given.result) (g.S.Shelf.told c.args.shelf.now).rest (g.S.Shelf.told c.read_all.new.shelf).rest)) c.give-given.auto.to c.read_all.ensures.part)
