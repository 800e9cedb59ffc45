-- Settling keeps the picture.
use Rattle.std.proofs.Common.{◌≡◌, ℕ, List, [], length, sym, ◌∙◌, subst}
use Rattle.std.specs.Prelude.{◌+ℤ◌, slice_index_or}
use Rattle.mv_terms.specs.declared.head.Head.{Head}
use Rattle.mv_terms.specs.declared.macroblock.Decision.{Decision}
use Rattle.mv_terms.specs.declared.macroblock.MacroLevels.{MacroLevels}
use Rattle.mv_terms.specs.CodedPicture.{macroblocks}
use Rattle.mv_terms.specs.Decisions.{no_blocks, no_decision}
use Rattle.mv_planes.specs.Layout.{macroblock_of}
use Rattle.mv_planes.specs.Raster.{picture_of}
use Rattle.mv_recon.specs.Pictures.{clipped, residual_of, picture_with}
use Rattle.mv_macro.specs.Past.{CodedMacroblock, decisions_of}
use Rattle.mv_macro.specs.Legal.{AreLegalDecisions}
use Rattle.mv_slices.specs.Canonical.{paired, in_slices, all_of, settled_picture, settled}
use Rattle.mv_slices.proofs.LegalSlices.{all_in_slices, decisions_paired, levels_paired}
use Rattle.mv_settled.specs.Settling.{SettlingKeepsPicture}
use Rattle.mv_settled.proofs.MacroblockLemmas.{LookAlike, AllMayBeSettled, AllLookAlike, all_may_be_settled, alike_slices, alike_at}

module _ (head : Head) (decisions : List Decision) (levels : List MacroLevels) (legal : AreLegalDecisions head decisions) (long : length levels ≡ macroblocks head) where
  abbrev ms : List CodedMacroblock
  ms = paired decisions levels

  same_length : length decisions ≡ length levels
  same_length = legal.size ∙ sym long

  alike : AllLookAlike head ms (all_of (settled_picture head decisions levels))
  alike =
      let all = all_in_slices ms in
      let may : AllMayBeSettled head ms = all_may_be_settled head 0 [] decisions levels legal.each in
      subst (λ (z : List CodedMacroblock). AllLookAlike head z (all_of (settled_picture head decisions levels))) all
      (alike_slices head 0 (in_slices ms) (subst (AllMayBeSettled head) (sym all) may))

  -- macroblock by macroblock
  each : (k : ℕ) → LookAlike head (slice_index_or levels k no_blocks) (slice_index_or decisions k no_decision) (slice_index_or (settled head decisions levels) k no_decision)
  each k =
      let h = alike_at head ms (all_of (settled_picture head decisions levels)) k alike in
      subst (λ (z : List Decision). LookAlike head (slice_index_or levels k no_blocks) (slice_index_or z k no_decision) (slice_index_or (settled head decisions levels) k no_decision)) (decisions_paired decisions levels same_length)
      (subst (λ (z : List MacroLevels). LookAlike head (slice_index_or z k no_blocks) (slice_index_or (decisions_of ms) k no_decision) (slice_index_or (settled head decisions levels) k no_decision)) (levels_paired decisions levels same_length) h)

pub settling_keeps_picture : SettlingKeepsPicture
unfolding picture_with residual_of
settling_keeps_picture head decisions levels refs legal long =
    let at : (k : ℕ) → LookAlike head (slice_index_or levels k no_blocks) (slice_index_or decisions k no_decision) (slice_index_or (settled head decisions levels) k no_decision) = each head decisions levels legal long in
    λ i. picture_of head.mb_wide head.mb_high (λ p x y.
    let k = macroblock_of head.mb_wide p x y in
    clipped ((at k).prediction refs p x y i +ℤ (at k).residual p x y i))
