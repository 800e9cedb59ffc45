use Rattle.std.proofs.Common.{[], Result, subst}
use Rattle.std.specs.Result.{IfOk}
use Rattle.mv_terms.specs.declared.head.Context.{Context}
use Rattle.mv_terms.specs.declared.status.Why.{Why}
use Rattle.mv_terms.specs.UnitLists.{lent_unit}
use Rattle.mv_decode.specs.Units.{FitsAsFirst}
use Rattle.job_decode.proofs.Keeps.{ok_before, ok_behind}
use Rattle.job_decode.proofs.Works.{started}
use Rattle.job_decode.proofs.work.start_work.Goals as goal

pub returns-clause-started : goal.returns-clause-started
returns-clause-started c =
    let fits = subst (λ (r : Result Context Why). IfOk r (λ context. FitsAsFirst context.mb_wide context.mb_high [] (lent_unit c.args.unit.now)))
    (ok_before _ _ _ _ c.map_err.ensures.cases c.in_ok-context.was) c.first_context.ensures.fits in
    ok_behind c.start.result _ _ _ _ c.map_err-2.ensures.cases
    (λ work is. started work c.in_ok-context.context.mb_wide c.in_ok-context.context.mb_high (lent_unit c.args.unit.now) is fits) c.start.ensures
