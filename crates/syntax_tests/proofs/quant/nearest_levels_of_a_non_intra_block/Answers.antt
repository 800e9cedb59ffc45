use Rattle.std.proofs.Common.{arith}
use Rattle.syntax_tests.proofs.MatrixLemmas.{all_alike}
use Rattle.syntax_tests.proofs.quant.nearest_levels_of_a_non_intra_block.Goals as goal

pub nearest-found-requires-clause-matrix : goal.nearest-found-requires-clause-matrix
nearest-found-requires-clause-matrix g c = all_alike 16 (omega arith)
