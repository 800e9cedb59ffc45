use Rattle.mv_store.proofs.AnswerLaws.{answers_follow_display_order}
use Rattle.mv_store.proofs.laws.answers_law.Goals as goal

pub returns : goal.returns
returns c = answers_follow_display_order
