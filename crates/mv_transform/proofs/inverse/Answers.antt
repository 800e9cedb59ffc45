use Rattle.mv_transform.proofs.SparseLemmas.{apart}
use Rattle.mv_transform.proofs.inverse.Goals as goal

pub returns-then-is_sparse : goal.returns-then-is_sparse
returns-then-is_sparse c = λ y x hy hx. apart c.args.c.now c.without_first-others.result c.inverse_of_sparse.result c.without_first-others.ensures c.inverse_of_sparse.ensures y x hy hx
