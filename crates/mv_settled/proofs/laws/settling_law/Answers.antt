use Rattle.mv_settled.proofs.SettlingLaws.{settling_keeps_picture}
use Rattle.mv_settled.proofs.laws.settling_law.Goals as goal

pub returns : goal.returns
returns c = settling_keeps_picture
