-- The plain reading of a macroblock (H.262, 6.2.5): that of `mv_macro` with the plain readings of vectors and blocks.
-- What it gives counts, and not the reason of a refusal.
use Rattle.std.specs.Prelude.{ℕ, ◌||◌, Bool, true, false, IsTrue, List, ℤ, pos, Result}
use Rattle.mv_terms.specs.declared.status.Why.{Why}
use Rattle.mv_terms.specs.declared.status.Why.TheVariants.{BadCode, BadVector}
use Rattle.mv_terms.specs.declared.head.Head.{Head}
use Rattle.mv_terms.specs.declared.macroblock.MacroLevels.{MacroLevels}
use Rattle.mv_terms.specs.Decisions.{six, no_levels}
use Rattle.mv_bits.specs.Readings.{◌>>=◌, Gives, Flag, Demands, When}
use Rattle.mv_codes.specs.Tables.{CodeOf}
use Rattle.mv_codes.specs.Types.{type_codes}
use Rattle.mv_vectors.specs.Vectors.{undirected}
use Rattle.mv_vectors.specs.Inside.{is_inside}
use Rattle.mv_macro.specs.Past.{CodedMacroblock, Given, coded, dc_level}
use Rattle.mv_macro.specs.Macroblocks.{block_code, predictor_of, is_coded, MotionType, ScaleCode, Marker, Pattern, decided, sends_motion_type, sends_dct_type, has_concealment}
use Rattle.mv_spellings.specs.Vectors.{PlainDirection}
use Rattle.mv_spellings.specs.Blocks.{PlainBlock}

abbrev pub PlainIntraBlock : Head → Bool → ℤ → List Bool → Result (List ℤ × List Bool) Why → Type 0
PlainIntraBlock head luma predictor = PlainBlock (block_code head true luma) predictor

abbrev pub PlainIntraBlocks : Head → List ℤ
    → List Bool → Result (MacroLevels × List Bool) Why → Type 0
PlainIntraBlocks head dc = do
  y0 ← PlainIntraBlock head true (predictor_of dc 0)
  y1 ← PlainIntraBlock head true (dc_level y0)
  y2 ← PlainIntraBlock head true (dc_level y1)
  y3 ← PlainIntraBlock head true (dc_level y2)
  cb ← PlainIntraBlock head false (predictor_of dc 1)
  cr ← PlainIntraBlock head false (predictor_of dc 2)
  Gives (six y0 y1 y2 y3 cb cr)

abbrev pub PlainPatternBlock : Head → Bool → ℕ → ℕ
    → List Bool → Result (List ℤ × List Bool) Why → Type 0
PlainPatternBlock head luma pattern worth =
    When (is_coded pattern worth) no_levels (PlainBlock (block_code head false luma) (pos 0))

abbrev pub PlainPatternBlocks : Head → ℕ → List Bool → Result (MacroLevels × List Bool) Why → Type 0
PlainPatternBlocks head pattern = do
  y0 ← PlainPatternBlock head true pattern 32
  y1 ← PlainPatternBlock head true pattern 16
  y2 ← PlainPatternBlock head true pattern 8
  y3 ← PlainPatternBlock head true pattern 4
  cb ← PlainPatternBlock head false pattern 2
  cr ← PlainPatternBlock head false pattern 1
  Gives (six y0 y1 y2 y3 cb cr)

-- block(i) of a macroblock
abbrev pub PlainBlocks : Head → List ℤ → Bool → ℕ
    → List Bool → Result (MacroLevels × List Bool) Why → Type 0
PlainBlocks head dc true pattern = PlainIntraBlocks head dc
PlainBlocks head dc false pattern = PlainPatternBlocks head pattern

-- a macroblock behind its increment
abbrev pub PlainMacroblock : Head → Given
    → List Bool → Result (CodedMacroblock × List Bool) Why → Type 0
PlainMacroblock head given = do
  type ← CodeOf (type_codes head.pic) BadCode
  field_motion ← When (sends_motion_type head type) false MotionType
  field_dct ← When (sends_dct_type head type) false Flag
  scale ← When type.quant given.scale ScaleCode
  forward ← When (type.forward || has_concealment head type) undirected
      (PlainDirection head given.predictors 0 field_motion)
  backward ← When type.backward undirected (PlainDirection head given.predictors 1 field_motion)
  marker ← When (has_concealment head type) tt Marker
  inside ← Demands
      (IsTrue (is_inside head given.mb_x given.mb_y
      (decided given type field_motion field_dct scale forward backward))) BadVector
  pattern ← When type.pattern 0 Pattern
  blocks ← PlainBlocks head given.dc type.intra pattern
  Gives (coded (decided given type field_motion field_dct scale forward backward) blocks)
