use Rattle.std.proofs.Common.{sym, ◌∙◌}
use Rattle.mv_codes.specs.declared.coefficient.Coef.TheVariants.{End}
use Rattle.mv_codes.specs.Tables.{code}
use Rattle.mv_codes.specs.Coefficients.{with_escape, levels_14, codes_14}
use Rattle.mv_codes.proofs.TableLaws.{Reads-here, Reads-later}
use Rattle.mv_codes.proofs.LookUpFacts.{levels_14_found}
use Rattle.mv_codes.proofs.coefficient.read_14.Goals as goal

pub returns-then-peek-eq2 : goal.returns-then-peek-eq2
unfolding codes_14
returns-then-peek-eq2 c = Reads-here (code 2 2 End) (with_escape levels_14) c.args.w.now c.take.new.self (sym c.peek.ensures.value ∙ c.if-peek-eq2.true) c.take.ensures.rest

pub returns : goal.returns
unfolding codes_14 levels_14
returns c = Reads-later (code 2 2 End) (with_escape levels_14) c.args.w.now c.read_escape.new.w c.read_escape.result (λ b. c.if-peek-eq2.false (c.peek.ensures.value ∙ b)) c.read_escape.ensures

pub read_escape-requires-clause-look_up : goal.read_escape-requires-clause-look_up
unfolding levels_14
read_escape-requires-clause-look_up c = levels_14_found
