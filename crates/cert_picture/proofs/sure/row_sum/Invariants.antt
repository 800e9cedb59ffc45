use Rattle.std.proofs.Common.{◌≡◌, ◌≤◌, ◌*◌}
use Rattle.mv_terms.specs.Sums.{total_below}
use Rattle.cert_picture.specs.Steps.{sample_at}
use Rattle.cert_picture.proofs.sure.row_sum.Given as goal

abbrev pub invariant-loop-x : goal.invariant-loop-x
invariant-loop-x l = record {
  value : l.sum ≡ total_below l.x (sample_at l.samples l.y);
  range : l.sum ≤ 255 * l.x;
}
