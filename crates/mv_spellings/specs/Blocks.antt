-- The plain reading of a block (H.262, 6.2.6 and 7.2): that of `mv_blocks`, where an escape stands only for a run and a
-- level that have no code. What it gives counts, and not the reason of a refusal.
use Rattle.std.specs.Prelude.{◌≡◌, ℕ, Bool, true, false, List, ℤ, Result, Ok, Err}
use Rattle.mv_terms.specs.declared.status.Why.{Why}
use Rattle.mv_bits.specs.Readings.{◌>>=◌, Gives}
use Rattle.mv_bits.specs.Runs.{Ends}
use Rattle.mv_codes.specs.declared.coefficient.Coef.TheVariants as coef
use Rattle.mv_codes.specs.Tables.{Spells}
use Rattle.mv_codes.specs.Spelled.{has_code, same_coef}
use Rattle.mv_blocks.specs.declared.block.BlockCode.{BlockCode}
use Rattle.mv_blocks.specs.declared.block.Pair.{Pair}
use Rattle.mv_blocks.specs.Raster.{in_raster}
use Rattle.mv_blocks.specs.Blocks.{At, StepsPair, StopsBlock, DcLevel, codes_at, level_at, intra_level_at}

-- DEMAND: a run and a level that are read behind an escape have no code of the table
pub record StepsPlainPair (code : BlockCode) (s : At) (p : Pair) (t : At) : Type 0 where
  pub reads : StepsPair code s p t
  pub plain : (behind : List Bool) → Spells (codes_at code s.place) s.bits coef.Escape behind
      → has_code (same_coef (coef.Pair p.run p.level)) (codes_at code s.place) ≡ false

-- runs and levels from a place of the scan on, up to the end of the block
abbrev pub PlainPairs : BlockCode → ℕ → List Bool → Result (List Pair × List Bool) Why → Type 0
PlainPairs code start bits (Ok (pairs, rest)) =
    Ends (StepsPlainPair code) (StopsBlock code) (record { place = start; bits = bits }) pairs
    (Ok rest)
PlainPairs code start bits (Err why) = ⊥

abbrev pub PlainIntraBlock : BlockCode → ℤ → List Bool → Result (List ℤ × List Bool) Why → Type 0
PlainIntraBlock code predictor = do
  dc ← DcLevel code predictor
  pairs ← PlainPairs code 1
  Gives (in_raster code.alternate (intra_level_at dc pairs))

abbrev pub PlainNonIntraBlock : BlockCode → List Bool → Result (List ℤ × List Bool) Why → Type 0
PlainNonIntraBlock code = do
  pairs ← PlainPairs code 0
  Gives (in_raster code.alternate (level_at 0 pairs))

-- a block of an intra macroblock, or of another
abbrev pub PlainBlockBy : Bool → BlockCode → ℤ
    → List Bool → Result (List ℤ × List Bool) Why → Type 0
PlainBlockBy true code predictor = PlainIntraBlock code predictor
PlainBlockBy false code predictor = PlainNonIntraBlock code

-- a block, with the predictor of its DC level where it is intra
abbrev pub PlainBlock : BlockCode → ℤ → List Bool → Result (List ℤ × List Bool) Why → Type 0
PlainBlock code predictor = PlainBlockBy code.intra code predictor
