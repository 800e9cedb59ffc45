use Rattle.std.proofs.Common.{◌≡◌, take}
use Rattle.std.specs.Prelude.{unsigned_abs, ◌==◌}
use Rattle.std.specs.List.{list_all}
use Rattle.cert_picture.proofs.sure.are_zero.Given as goal

abbrev pub invariant-loop-k : goal.invariant-loop-k
invariant-loop-k l = l.zero ≡ list_all (λ level. unsigned_abs level == 0) (take l.k l.levels)
