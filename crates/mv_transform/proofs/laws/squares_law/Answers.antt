use Rattle.mv_transform.proofs.SquareLemmas.{squares_of_errors_are_small}
use Rattle.mv_transform.proofs.laws.squares_law.Goals as goal

pub returns : goal.returns
returns c = squares_of_errors_are_small
