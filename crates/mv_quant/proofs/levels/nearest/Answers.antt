use Rattle.std.proofs.Common.{◌≡◌, arith, to_z, of_z, w16, rules}
use Rattle.std.proofs.lemmas.Int.{to_z-of_z}
use Rattle.mv_terms.specs.Block.{item}
use Rattle.mv_quant.proofs.RowLemmas.{inter_levels, intra_levels}
use Rattle.mv_quant.proofs.levels.nearest.Goals as goal

pub returns-then-kind : goal.returns-then-kind
returns-then-kind c =
    let same : to_z w16 (of_z w16 c.nearest_dc.result) ≡ c.nearest_dc.result = grind (arith, to_z-of_z) in
    let first : to_z w16 (of_z w16 (item c.args.coefs.now 0)) ≡ item c.args.coefs.now 0 = grind (arith, to_z-of_z) in
    rw same (intra_levels c.args.kind.now c.args.coefs.now c.nearest_by_steps-levels.result c.nearest_dc.result c.if-kind.true (search rules) c.nearest_by_steps-levels.ensures (rw first at c.nearest_dc.ensures))

pub returns-else-kind : goal.returns-else-kind
returns-else-kind c = inter_levels c.args.kind.now c.args.coefs.now c.nearest_by_steps-levels.result c.if-kind.false c.nearest_by_steps-levels.ensures
