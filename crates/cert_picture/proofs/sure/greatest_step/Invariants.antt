use Rattle.std.proofs.Common.{◌<◌, ◌≤◌, ℕ}
use Rattle.mv_quant.specs.Dequantised.{step_at}
use Rattle.cert_picture.proofs.sure.greatest_step.Given as goal

abbrev pub invariant-loop-k : goal.invariant-loop-k
invariant-loop-k l = record {
  some : 0 < l.greatest;
  above : (j : ℕ) → j < l.k → step_at l.kind j ≤ l.greatest;
}
