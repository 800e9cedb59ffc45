-- A block reads back from its canonical bits.
use Rattle.std.proofs.Common.{◌≡◌, Bool, true, false, List, get_or, refl, ℤ, pos}
use Rattle.std.specs.Prelude.{slice_index_or}
use Rattle.mv_blocks.specs.declared.block.BlockCode.{BlockCode}
use Rattle.mv_terms.specs.Ranges.{IsDcLevel}
use Rattle.mv_blocks.specs.Blocks.{DcLevel, Pairs, BlockBy, Block, pairs_of}
use Rattle.mv_terms.specs.declared.status.Why.{Why}
use Rattle.mv_bits.specs.ReadBack.{ReadsBack}
use Rattle.mv_bits.proofs.BackLaws.{back_gives, back_then, back_last}
use Rattle.mv_blocks.specs.Written.{block_bits, block_bits_by, has_level, IsWritable}
use Rattle.mv_blocks.proofs.LevelLaws.{pairs_give, intra_pairs_give}
use Rattle.mv_blocks.proofs.DcBack.{dc_back}
use Rattle.mv_blocks.proofs.PairsBack.{pairs_back}
use Rattle.mv_blocks.proofs.FitLaws.{intra_fit, non_intra_fit}

pub block_back : (code : BlockCode) (predictor : ℤ) (levels : List ℤ) → IsWritable code predictor levels → ReadsBack Why (Block code predictor) levels (block_bits code predictor levels)
block_back code predictor levels w = go code.intra w.dc w.some
  where
    go : (t : Bool) → (t ≡ true → IsDcLevel code.dc_precision (slice_index_or levels 0 (pos 0)) × IsDcLevel code.dc_precision predictor) → (t ≡ false → has_level levels ≡ true) → ReadsBack Why (BlockBy t code predictor) levels (block_bits_by t code predictor levels)
    go true dc some =
        let pairs = pairs_of levels true code.alternate in
        let right = dc refl in
        back_then (DcLevel code predictor) _ (get_or levels 0 (pos 0)) levels _ _ (dc_back code predictor (get_or levels 0 (pos 0)) w.precision right.0 right.1)
        (back_last (Pairs code 1) _ pairs levels _ (pairs_back code 1 pairs (intra_fit code.alternate levels w.legal))
        (back_gives _ _ (intra_pairs_give code.alternate levels w.whole)))
    go false dc some =
        let pairs = pairs_of levels false code.alternate in
        back_last (Pairs code 0) _ pairs levels _ (pairs_back code 0 pairs (non_intra_fit code.alternate levels w.whole w.legal (some refl)))
        (back_gives _ _ (pairs_give code.alternate levels w.whole))
