use Rattle.std.proofs.Common.{◌≡◌, ℕ, List, length}
use Rattle.plan_numbers.specs.Stands.{StandsFor}
use Rattle.file_tests.proofs.numbers.number_frames.Given as goal

abbrev pub invariant-frames : goal.invariant-frames
invariant-frames g l = (contexts : List (List ℕ)) × (numbers : List (List ℕ)) × StandsFor l.numbers contexts numbers × (length contexts ≡ l.i)
