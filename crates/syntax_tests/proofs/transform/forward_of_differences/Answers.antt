use Rattle.std.proofs.Common.{lit≤}
use Rattle.syntax_tests.specs.declared.transform.TheConstants.{DIFFERENCES}
use Rattle.syntax_tests.proofs.LargestLemmas.{within_largest}
use Rattle.syntax_tests.proofs.transform.forward_of_differences.Goals as goal

pub forward-requires : goal.forward-requires
forward-requires g c = within_largest 255 DIFFERENCES (lit≤ tt)
