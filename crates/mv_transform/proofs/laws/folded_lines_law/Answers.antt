use Rattle.mv_transform.proofs.LineLemmas.{inverse_is_folded, forward_is_folded}
use Rattle.mv_transform.proofs.laws.folded_lines_law.Goals as goal

pub returns-clause-inverse : goal.returns-clause-inverse
returns-clause-inverse c = inverse_is_folded

pub returns-clause-forward : goal.returns-clause-forward
returns-clause-forward c = forward_is_folded
