use Rattle.std.proofs.Common.{arith}
use Rattle.syntax_tests.proofs.MatrixLemmas.{all_alike}
use Rattle.syntax_tests.proofs.quant.nearest_first_level.Goals as goal

pub nearest-requires-clause-matrix : goal.nearest-requires-clause-matrix
nearest-requires-clause-matrix c = all_alike 16 (omega arith)
