use Rattle.std.proofs.Common.{pos, replicate}
use Rattle.std.proofs.lemmas.List.{get_or-replicate}
use Rattle.mv_transform.proofs.SparseLemmas.{lone_image, last_fits, last_alone}
use Rattle.mv_transform.proofs.sparse.sums_of_last_row.Goals as goal

pub returns-then-is_lone_last : goal.returns-then-is_lone_last
returns-then-is_lone_last c = lone_image c.args.line.now (c.is_lone_last.ensures c.if-is_lone_last.true)

pub add_line-requires-clause-fits : goal.add_line-requires-clause-fits
add_line-requires-clause-fits c = λ k h. last_fits (replicate 32 (pos 0)) c.args.line.now k c.requires h (get_or-replicate 32 k (pos 0) (pos 0) h)

pub returns : goal.returns
returns c = λ k h. last_alone _ _ _ (c.add_line.ensures k h) (get_or-replicate 32 k (pos 0) (pos 0) h)
