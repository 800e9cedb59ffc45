use Rattle.cert_picture.proofs.FrameFileLaws.{due_grows}
use Rattle.cert_picture.proofs.laws.due_law.Goals as goal

pub returns : goal.returns
returns c = due_grows
