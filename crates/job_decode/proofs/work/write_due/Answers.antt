use Rattle.std.proofs.Common.{◌++◌, ℕ, List, ap, ◌∙◌, subst}
use Rattle.std.specs.Prelude.{option_copied}
use Rattle.std.proofs.lemmas.Result.{err_from_is_err_and}
use Rattle.mv_ends.specs.Sends.{Sends}
use Rattle.mv_ends.proofs.SendLaws.{sends_first, sends_behind}
use Rattle.job_decode.specs.Steps.{heading, shown_frame}
use Rattle.job_decode.proofs.work.write_due.Goals as goal

pub returns-in_err-write_heading : goal.returns-in_err-write_heading
returns-in_err-write_heading g c =
    let p = err_from_is_err_and c.from_residual.result c.from_residual.ensures.1 in
    rw p.1 (sends_first _ _ (heading c.args.first (option_copied c.args.context)) (shown_frame c.args.shown c.args.work.now.held.items c.args.work.now.next.items) _ _ c.in_err-write_heading.ensures)

pub returns : goal.returns
returns g c =
    let same = ap (λ (s : List ℕ). shown_frame c.args.shown s c.deref-2.result.now) c.deref.ensures.value
    ∙ ap (λ (s : List ℕ). shown_frame c.args.shown c.args.work.now.held.items s) c.deref-2.ensures.value in
    subst (λ (s : List ℕ). Sends (g.O.Sink.told c.args.out.now) (g.O.Sink.told c.write_shown.new.out) (heading c.args.first (option_copied c.args.context) ++ s) c.write_shown.result) same
    (sends_behind _ _ _ (heading c.args.first (option_copied c.args.context)) (shown_frame c.args.shown c.deref.result.now c.deref-2.result.now) _
    c.in_ok-write_heading.ensures.sent c.in_ok-write_heading.ensures.keeps c.write_shown.ensures)
