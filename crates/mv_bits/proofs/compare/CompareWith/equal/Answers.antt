use Rattle.std.proofs.Common.{true}
use Rattle.mv_bits.proofs.CompareLemmas.{equal_then, equal_else}
use Rattle.mv_bits.proofs.compare.CompareWith.equal.Goals as goal

pub returns-then-self : goal.returns-then-self
returns-then-self c = equal_then c.self.inside.agrees c.is_empty.result c.self.inside.rest.now c.self.inside.zeros c.args.self.now c.self.view_is c.if-self.true c.is_empty.ensures

pub returns-else-self : goal.returns-else-self
returns-else-self c = equal_else c.self.inside.agrees true c.self.inside.rest.now c.self.inside.zeros c.args.self.now c.self.view_is c.if-self.false
