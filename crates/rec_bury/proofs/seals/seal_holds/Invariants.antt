use Rattle.std.proofs.Common.{◌≡◌, ℕ, ◌+◌, ◌<◌, get_or, length}
use Rattle.rec_bury.proofs.seals.seal_holds.Given as goal
use Rattle.rec_bury.specs.Steps.{sheet_at}

abbrev pub invariant-bytes : goal.invariant-bytes
invariant-bytes l = record {
  long : length l.digest ≡ 32;
  same : (k : ℕ) → k < l.i → sheet_at l.wide l.high l.frame (l.first + k) ≡ get_or l.digest k 0;
}
