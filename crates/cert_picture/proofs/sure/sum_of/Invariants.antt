use Rattle.std.proofs.Common.{◌≡◌, ◌≤◌, ◌*◌}
use Rattle.mv_terms.specs.Sums.{total_below}
use Rattle.cert_picture.specs.Steps.{sample_at}
use Rattle.cert_picture.proofs.sure.sum_of.Given as goal

abbrev pub invariant-loop-y : goal.invariant-loop-y
invariant-loop-y l = record {
  value : l.sum ≡ total_below l.y (λ y. total_below 8 (sample_at l.samples y));
  range : l.sum ≤ 2040 * l.y;
}
