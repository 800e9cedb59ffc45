use Rattle.std.proofs.Common.{rules, sym, subst, ◌∙◌, ◌<◌, ◌^◌, w32, ℤ, pos}
use Rattle.std.specs.Prelude.{slice_index_or, unsigned_abs}
use Rattle.std.proofs.lemmas.Int.{to_z-of_z}
use Rattle.mv_blocks.proofs.DcBack.{difference_fits}
use Rattle.mv_blocks.proofs.FitLaws.{intra_fit, non_intra_fit}
use Rattle.mv_blocks.proofs.WriteLemmas.{intra_put}
use Rattle.mv_blocks.proofs.write.write_block.Goals as goal

pub write_difference-requires : goal.write_difference-requires
write_difference-requires g c =
    let dc = c.requires.dc c.if-code.true in
    subst (λ (z : ℤ). unsigned_abs z < 2 ^ 11) (sym (to_z-of_z w32 c.difference.result (search rules) ∙ c.difference.ensures))
    (difference_fits c.args.dc.now (slice_index_or c.args.levels.now 0 (pos 0)) c.args.code.dc_precision c.requires.precision dc.0 dc.1)

pub write_levels-requires-clause-fit : goal.write_levels-requires-clause-fit
write_levels-requires-clause-fit g c = intra_fit c.args.code.alternate c.args.levels.now c.requires.legal

pub write_levels-requires-else-code-clause-fit : goal.write_levels-requires-else-code-clause-fit
write_levels-requires-else-code-clause-fit g c =
    non_intra_fit c.args.code.alternate c.args.levels.now c.requires.whole c.requires.legal (c.requires.some c.if-code.false)

pub returns-then-code-clause-written : goal.returns-then-code-clause-written
returns-then-code-clause-written g c =
    intra_put g.P.Put.stands c.args.code c.args.dc.now c.args.levels.now c.args.to.now c.write_difference.new.to c.write_levels.new.to c.args.out.now c.write_difference.new.out c.write_levels.new.out _
    c.if-code.true (to_z-of_z w32 c.difference.result (search rules) ∙ c.difference.ensures) c.write_difference.ensures c.write_levels.ensures
