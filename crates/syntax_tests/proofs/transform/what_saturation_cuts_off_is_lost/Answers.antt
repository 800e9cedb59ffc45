use Rattle.std.proofs.Common.{lit≤}
use Rattle.syntax_tests.specs.declared.transform.TheConstants.{BRIGHT}
use Rattle.syntax_tests.proofs.LargestLemmas.{within_largest}
use Rattle.syntax_tests.proofs.transform.what_saturation_cuts_off_is_lost.Goals as goal

pub forward-back-requires : goal.forward-back-requires
forward-back-requires g c = within_largest 255 BRIGHT (lit≤ tt)
