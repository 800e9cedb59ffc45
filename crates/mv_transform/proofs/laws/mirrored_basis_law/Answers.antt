use Rattle.mv_transform.proofs.BasisLemmas.{basis_mirrored}
use Rattle.mv_transform.proofs.laws.mirrored_basis_law.Goals as goal

pub returns : goal.returns
returns c = basis_mirrored
