use Rattle.std.proofs.Common.{refl, rules, w16, sym, ◌∙◌}
use Rattle.std.proofs.lemmas.Int.{to_z-of_z}
use Rattle.mv_codes.specs.Coefficients.{levels_14, first_codes_14}
use Rattle.mv_codes.proofs.LookUpFacts.{levels_14_found}
use Rattle.mv_codes.proofs.FirstLemmas.{first_read, first_sign}
use Rattle.mv_codes.proofs.coefficient.read_first.Goals as goal

pub read_escape-requires-clause-look_up : goal.read_escape-requires-clause-look_up
unfolding levels_14
read_escape-requires-clause-look_up c = levels_14_found

pub returns : goal.returns
unfolding levels_14
returns c = first_read c.args.w.now c.read_escape.new.w c.read_escape.result (λ e. c.if-peek-eq1.false (c.peek.ensures.value ∙ e)) c.read_escape.ensures

pub returns-then-peek-eq1 : goal.returns-then-peek-eq1
unfolding first_codes_14
returns-then-peek-eq1 c =
    let after = c.take-negative.ensures.rest in
    rw (to_z-of_z w16 c.with_sign.result (search rules), c.with_sign.ensures)
    (first_sign c.args.w.now c.take-negative-then-peek-eq1.new.self _ (sym c.peek.ensures.value ∙ c.if-peek-eq1.true) (rw (c.take-negative-then-peek-eq1.ensures.value, after) refl) (rw (c.take-negative-then-peek-eq1.ensures.rest, after) refl))
