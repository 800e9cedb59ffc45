use Rattle.mv_transform.proofs.LineLemmas.{inverse_by_lines, forward_by_lines}
use Rattle.mv_transform.proofs.laws.lines_law.Goals as goal

pub returns-clause-inverse : goal.returns-clause-inverse
returns-clause-inverse c = inverse_by_lines

pub returns-clause-forward : goal.returns-clause-forward
returns-clause-forward c = forward_by_lines
