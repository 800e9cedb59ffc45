use Rattle.std.proofs.Common.{sym, ◌∙◌}
use Rattle.mv_codes.specs.declared.coefficient.Coef.TheVariants.{End}
use Rattle.mv_codes.specs.Tables.{code}
use Rattle.mv_codes.specs.Coefficients.{with_escape, levels_15, codes_15}
use Rattle.mv_codes.proofs.TableLaws.{Reads-here, Reads-later}
use Rattle.mv_codes.proofs.LookUpFacts.{levels_15_found}
use Rattle.mv_codes.proofs.coefficient.read_15.Goals as goal

pub returns-then-peek-eq6 : goal.returns-then-peek-eq6
unfolding codes_15
returns-then-peek-eq6 c = Reads-here (code 6 4 End) (with_escape levels_15) c.args.w.now c.take.new.self (sym c.peek.ensures.value ∙ c.if-peek-eq6.true) c.take.ensures.rest

pub returns : goal.returns
unfolding codes_15 levels_15
returns c = Reads-later (code 6 4 End) (with_escape levels_15) c.args.w.now c.read_escape.new.w c.read_escape.result (λ b. c.if-peek-eq6.false (c.peek.ensures.value ∙ b)) c.read_escape.ensures

pub read_escape-requires-clause-look_up : goal.read_escape-requires-clause-look_up
unfolding levels_15
read_escape-requires-clause-look_up c = levels_15_found
