use Rattle.std.proofs.Common.{◌≡◌, ℕ, ◌<◌, slice_index, length}
use Rattle.mv_quant.specs.Steps.{IsSmall}
use Rattle.mv_quant.proofs.levels.excesses.Given as goal

abbrev pub invariant-loop-k : goal.invariant-loop-k
invariant-loop-k l = record {
  long : length l.excesses ≡ 64;
  told : (k : ℕ) → k < l.k → slice_index l.excesses k ≡ 0 → IsSmall l.kind l.coefs k;
}
