use Rattle.std.proofs.Common.{arith, ap, ◌∙◌, ℕ, unsigned_abs}
use Rattle.mv_terms.specs.Sums.{total_below}
use Rattle.mv_terms.specs.Block.{item}
use Rattle.mv_transform.proofs.sparse.size_of_line.Goals as goal

pub returns : goal.returns
returns c = c.places.invariant.0 ∙ ap (λ (n : ℕ). total_below n (λ u. unsigned_abs (item c.args.line.now u))) (omega arith)
