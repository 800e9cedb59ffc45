use Rattle.std.proofs.Common.{rules}
use Rattle.rec_legal.proofs.HeldLemmas.{held_of}
use Rattle.rec_legal.proofs.parts.is_held.Goals as goal

pub returns : goal.returns
returns c = held_of c.args.decision.now (search rules) (search rules) c.are_two_selects.ensures c.are_two_selects-2.ensures c.are_two_vectors.ensures c.are_two_vectors-2.ensures (search rules)
