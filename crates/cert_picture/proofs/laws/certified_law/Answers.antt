use Rattle.cert_picture.proofs.RecordLaws.{certified_comes_from_samples}
use Rattle.cert_picture.proofs.laws.certified_law.Goals as goal

pub returns : goal.returns
returns c = certified_comes_from_samples c.requantised_law.ensures.coded c.read_back_law.ensures.tells
