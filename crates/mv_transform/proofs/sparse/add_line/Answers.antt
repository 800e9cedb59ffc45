use Rattle.std.proofs.Common.{◌/◌, ◌%◌, sym, ◌∙◌}
use Rattle.mv_terms.specs.Block.{item}
use Rattle.mv_transform.specs.Basis.{basis}
use Rattle.mv_transform.proofs.SparseLemmas.{zero_row}
use Rattle.mv_transform.proofs.sparse.add_line.Goals as goal

pub returns-then-is_zero : goal.returns-then-is_zero
returns-then-is_zero c = λ k h. zero_row (item c.args.sums.now k) (basis c.args.v (k / 8)) c.args.line.now (k % 8) (sym c.is_zero.ensures ∙ c.if-is_zero.true)
