use Rattle.std.proofs.Common.{arith, rules, sym, ◌∙◌, w16}
use Rattle.std.proofs.lemmas.Int.{to_z-of_z}
use Rattle.mv_blocks.proofs.ListedLemmas.{listed_zero, listed_level, listed_all, level_is_zero, zero_level}
use Rattle.mv_blocks.proofs.block.pairs.Goals.{then-level-eq0, else-level-eq0}
use Rattle.mv_blocks.proofs.block.pairs.Goals as goal

pub places-preserved : goal.places-preserved
places-preserved c = elim c.if-level-eq0.branch [
  | then-level-eq0 w ↦ rw (w.pairs-is, w.run-is)
      (listed_zero c.args.levels.now c.args.intra c.args.alternate c.places.invariant c.places-test.true
      (sym c.level_at-level.ensures ∙ level_is_zero c.level_at-level.result c.level_at-level.type_inv w.if-level-eq0.true))
  | else-level-eq0 w ↦ rw (w.pairs-is, w.run-is, w.push.ensures.items, to_z-of_z w16 c.level_at-level.result (search rules), c.level_at-level.ensures)
      (listed_level c.args.levels.now c.args.intra c.args.alternate c.places.invariant c.places-test.true
      (λ zero. w.if-level-eq0.false (zero_level c.level_at-level.result (c.level_at-level.ensures ∙ zero))))
]

pub returns : goal.returns
returns c = listed_all c.args.levels.now c.args.intra c.args.alternate c.places.invariant (omega arith)
