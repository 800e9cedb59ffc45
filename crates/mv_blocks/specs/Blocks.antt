-- The bits of a block, and its levels (H.262, 6.2.6 and 7.2).
use Rattle.std.specs.Prelude.{ℕ, zero, suc, ◌≡◌, ◌+◌, ◌*◌, ◌^◌, ◌<◌, ◌==◌, ◌⊎◌, nat_lt, Bool, true, false, not, ◌&&◌, List, [], ◌∷◌, drop, map, if◌then◌else◌, slice_index_or, ℤ, pos, neg_ℤ, ◌+ℤ◌, ◌-ℤ◌, Result, Ok, Err, Option, Some, None, ⊤}
use Rattle.std.specs.List.{range_with_len}
use Rattle.mv_terms.specs.Ranges.{IsDcLevel}
use Rattle.mv_terms.specs.declared.status.Why.{Why}
use Rattle.mv_terms.specs.declared.status.Why.TheVariants.{BadCode, BadBlock}
use Rattle.mv_bits.specs.Readings.{◌>>=◌, Gives, Field, Demands}
use Rattle.mv_bits.specs.Runs.{Ends}
use Rattle.mv_codes.specs.declared.code.Code.{Code}
use Rattle.mv_codes.specs.declared.coefficient.Coef.{Coef}
use Rattle.mv_codes.specs.declared.coefficient.Coef.TheVariants as coef
use Rattle.mv_codes.specs.Tables.{CodeOf}
use Rattle.mv_codes.specs.Sizes.{dc_size_codes}
use Rattle.mv_codes.specs.Coefficients.{coef_codes}
use Rattle.mv_blocks.specs.declared.block.BlockCode.{BlockCode}
use Rattle.mv_blocks.specs.declared.block.Pair.{Pair}
use Rattle.mv_terms.specs.Scans.{raster_place}
use Rattle.mv_blocks.specs.Raster.{in_raster}

-- H.262, 7.2.1: dct_diff of dct_dc_size and dct_dc_differential, with half_range 2 ^ n for the size n + 1
abbrev pub dct_diff : ℕ → ℕ → ℤ
dct_diff zero differential = pos 0
dct_diff (suc n) differential =
    if nat_lt differential (2 ^ n)
    then (pos (differential + 1) -ℤ pos (2 * 2 ^ n)) else pos differential

-- the DC level of an intra block: the predictor and a difference from it
abbrev pub DcLevel : BlockCode → ℤ → List Bool → Result (ℤ × List Bool) Why → Type 0
DcLevel code predictor = do
  size ← CodeOf (dc_size_codes code.luma) BadCode
  differential ← Field size
  inside ← Demands (IsDcLevel code.dc_precision (predictor +ℤ dct_diff size differential)) BadBlock
  Gives (predictor +ℤ dct_diff size differential)

-- the codes of the coefficient at a place of the scan (H.262, 7.2.2.1 and Table 7-3)
abbrev pub codes_at : BlockCode → ℕ → List (Code Coef)
codes_at code place = coef_codes (code.intra && code.table_15) (not code.intra && (place == 0))

-- a number of 12 bits in two's complement
abbrev pub signed_12 : ℕ → ℤ
signed_12 n = if nat_lt n 2048 then pos n else (pos n -ℤ pos 4096)

-- the levels that an escape may not have (H.262, 7.2.2.3)
abbrev pub IsForbidden : ℤ → Type 0
IsForbidden level = (level ≡ pos 0) ⊎ (level ≡ neg_ℤ (pos 2048))

abbrev pub pair : ℕ → ℤ → Pair
pair run level = record { run = run; level = level }

-- behind an escape, a run and a level (H.262, 7.2.2.3)
abbrev pub Escaped : List Bool → Result (Option Pair × List Bool) Why → Type 0
Escaped = do
  run ← Field 6
  number ← Field 12
  allowed ← Demands (IsForbidden (signed_12 number) → ⊥) BadBlock
  Gives (Some (pair run (signed_12 number)))

-- what is behind a code: a run and a level, or none at the end
abbrev pub Behind : Coef → List Bool → Result (Option Pair × List Bool) Why → Type 0
Behind coef.End = Gives None
Behind coef.Escape = Escaped
Behind (coef.Pair run level) = Gives (Some (pair run level))

-- the run and level that begin the bits, or none where they begin with the end of the block (H.262, 7.2.2)
abbrev pub Coefficient : BlockCode → ℕ → List Bool → Result (Option Pair × List Bool) Why → Type 0
Coefficient code place = do
  first ← CodeOf (codes_at code place) BadCode
  Behind first

-- a coefficient at this place or behind it is in the block
abbrev pub IsInside : ℕ → Option Pair → Type 0
IsInside place None = ⊤
IsInside place (Some p) = place + p.run < 64

-- the next run and level from a place of the scan on, or none at the end
abbrev pub Next : BlockCode → ℕ → List Bool → Result (Option Pair × List Bool) Why → Type 0
Next code place = do
  found ← Coefficient code place
  inside ← Demands (IsInside place found) BadBlock
  Gives found

-- where the reading of a block stands: a place of the scan, and the bits
pub record At : Type 0 where
  pub place : ℕ
  pub bits : List Bool

-- one run and level read
pub record StepsPair (code : BlockCode) (s : At) (p : Pair) (t : At) : Type 0 where
  pub is_next : Next code s.place s.bits (Ok (Some p, t.bits))
  pub next : t.place ≡ s.place + p.run + 1

-- what ends a block: its end, with the bits behind it, or a refusal
abbrev pub StopsBlock : BlockCode → At → Result (List Bool) Why → Type 0
StopsBlock code s (Ok rest) = Next code s.place s.bits (Ok (None, rest))
StopsBlock code s (Err why) = Next code s.place s.bits (Err why)

-- these runs and levels from a place of the scan on, and then the end of the block or a refusal
abbrev pub EndsBlock : BlockCode → ℕ → List Bool → List Pair → Result (List Bool) Why → Type 0
EndsBlock code start bits pairs outcome =
    Ends (StepsPair code) (StopsBlock code) (record { place = start; bits = bits }) pairs outcome

-- runs and levels from a place of the scan on, up to the end of the block
abbrev pub Pairs : BlockCode → ℕ → List Bool → Result (List Pair × List Bool) Why → Type 0
Pairs code start bits (Ok (pairs, rest)) = EndsBlock code start bits pairs (Ok rest)
Pairs code start bits (Err why) = (pairs : List Pair) × EndsBlock code start bits pairs (Err why)

-- QFS[k]: the level at a place of the scan, from these runs and levels at a place and behind it (H.262, 7.2.2)
abbrev pub level_at : ℕ → List Pair → ℕ → ℤ
level_at place [] k = pos 0
level_at place (p ∷ ps) k =
    if k == place + p.run then p.level else level_at (place + p.run + 1) ps k

-- the same of an intra block, whose DC level is at the first place
abbrev pub intra_level_at : ℤ → List Pair → ℕ → ℤ
intra_level_at dc pairs k = if k == 0 then dc else level_at 1 pairs k

-- an intra block: its 64 levels in raster order
abbrev pub IntraBlock : BlockCode → ℤ → List Bool → Result (List ℤ × List Bool) Why → Type 0
IntraBlock code predictor = do
  dc ← DcLevel code predictor
  pairs ← Pairs code 1
  Gives (in_raster code.alternate (intra_level_at dc pairs))

-- a block that isn't intra: its 64 levels in raster order
abbrev pub NonIntraBlock : BlockCode → List Bool → Result (List ℤ × List Bool) Why → Type 0
NonIntraBlock code = do
  pairs ← Pairs code 0
  Gives (in_raster code.alternate (level_at 0 pairs))

-- a block of an intra macroblock, or of another
abbrev pub BlockBy : Bool → BlockCode → ℤ → List Bool → Result (List ℤ × List Bool) Why → Type 0
BlockBy true code predictor = IntraBlock code predictor
BlockBy false code predictor = NonIntraBlock code

-- a block, with the predictor of its DC level where it is intra
abbrev pub Block : BlockCode → ℤ → List Bool → Result (List ℤ × List Bool) Why → Type 0
Block code predictor = BlockBy code.intra code predictor

-- what is the first refusal in the bits of a block
abbrev pub RefusesBlock : BlockCode → ℤ → List Bool → Why → Type 0
RefusesBlock code predictor bits why = Block code predictor bits (Err why)

-- what reading runs and levels leaves in the levels, and in the bits where it answers Ok
abbrev pub ReadsPairs : BlockCode → ℕ → List Bool → List Bool → List ℤ → Result (Unit {0}) Why
    → Type 0
ReadsPairs code start old new levels (Ok _) =
    (pairs : List Pair)
    × Pairs code start old (Ok (pairs, new))
    × (levels ≡ in_raster code.alternate (level_at start pairs))
ReadsPairs code start old new levels (Err why) = Pairs code start old (Err why)

-- the same of an intra block, with its DC level
abbrev pub IntraReads : BlockCode → ℤ → List Bool → List Bool → List ℤ → Result (Unit {0}) Why
    → Type 0
IntraReads code predictor old new levels (Ok _) = IntraBlock code predictor old (Ok (levels, new))
IntraReads code predictor old new levels (Err why) = IntraBlock code predictor old (Err why)

-- what reading a block leaves in its levels, and in the bits where it answers Ok
abbrev pub ReadsBlock : BlockCode → ℤ → List Bool → List Bool → List ℤ → Result (Unit {0}) Why
    → Type 0
ReadsBlock code predictor old new levels (Ok _) = Block code predictor old (Ok (levels, new))
ReadsBlock code predictor old new levels (Err why) = RefusesBlock code predictor old why

-- the predictor of the next block's DC level: the DC level of an intra block (H.262, 7.2.1)
abbrev pub next_predictor : BlockCode → ℤ → List ℤ → ℤ
next_predictor code predictor levels =
    if code.intra then slice_index_or levels 0 (pos 0) else predictor

-- the first place of the scan of which a pair says the level
abbrev pub first_place : Bool → ℕ
first_place intra = if intra then 1 else 0

-- the runs of zeros and the levels behind them, where so many zeros went before
abbrev pub pairs_in : ℕ → List ℤ → List Pair
pairs_in run [] = []
pairs_in run (pos zero ∷ levels) = pairs_in (run + 1) levels
pairs_in run (level ∷ levels) = pair run level ∷ pairs_in 0 levels

-- QFS: the levels of a block in the order of the scan
unfoldable pub in_scan : Bool → List ℤ → List ℤ
in_scan alternate levels =
    map (λ k. slice_index_or levels (raster_place alternate k) (pos 0)) (range_with_len 0 64)

-- the runs and levels of a block, without the DC level of an intra block
abbrev pub pairs_of : List ℤ → Bool → Bool → List Pair
pairs_of levels intra alternate = pairs_in 0 (drop (first_place intra) (in_scan alternate levels))
