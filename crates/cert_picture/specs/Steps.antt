-- The contracts of inner steps of certifying. Nobody needs to believe these: they only carry proofs.
use Rattle.std.specs.Prelude.{◌≡◌, ◌≢◌, ℕ, ◌+◌, ◌*◌, ◌/◌, ◌^◌, ◌<◌, ◌≤◌, Bool, true, false, ◌&&◌, ◌==◌, if◌then◌else◌, nat_le, List, length, bytes_eq, slice_index, slice_index_or, ℤ, pos, ◌≤ℤ◌, ◌<ℤ◌, unsigned_abs}
use Rattle.mv_terms.specs.Block.{item, entry}
use Rattle.mv_terms.specs.Sums.{total_below}
use Rattle.mv_terms.specs.CodedPicture.{HasMacroblocks}
use Rattle.mv_terms.specs.Decisions.{no_blocks}
use Rattle.mv_terms.specs.Ranges.{IsHead, IsLevel}
use Rattle.mv_terms.specs.declared.head.Head.{Head}
use Rattle.mv_terms.specs.declared.macroblock.Decision.{Decision}
use Rattle.mv_terms.specs.declared.macroblock.MacroLevels.{MacroLevels}
use Rattle.mv_planes.specs.Planes.{Planes, sample_of}
use Rattle.mv_planes.specs.declared.part.Part.{Part}
use Rattle.mv_planes.specs.Parts.{column, line}
use Rattle.mv_planes.specs.Layout.{plane_of, part_at}
use Rattle.mv_planes.specs.References.{References, references_lent}
use Rattle.mv_planes.specs.declared.coded.Coded.{Coded}
use Rattle.mv_macro.specs.Legal.{AreLegalLevels}
use Rattle.mv_predict.specs.Blocks.{HasSizeOf}
use Rattle.mv_predict.specs.Prediction.{predicted_at}
use Rattle.mv_quant.specs.declared.Kind.{Kind}
use Rattle.mv_quant.specs.Dequantised.{is_first_of_intra, step_at}
use Rattle.mv_quant.specs.Nearest.{distance}
use Rattle.mv_recon.specs.Pictures.{picture_from}
use Rattle.mv_slices.specs.Canonical.{canonical_slices, canonical_tail}
use Rattle.mv_vectors.specs.Predictable.{AllCanBeReconstructed}
use Rattle.cert_requant.specs.Requantised.{requantised_at}
use Rattle.cert_requant.specs.Stays.{StandsAlone, IsDecoded, AreSamples, found_level}
use Rattle.cert_requant.specs.Steps.{HasBytes}
use Rattle.cert_picture.specs.Certifying.{coded_lent}

-- The canonical slices of decisions and levels are these bytes, and their tail is at most so many zero bytes.
abbrev pub are_canonical : Head → List Decision → List MacroLevels → List ℕ → ℕ → Bool
are_canonical head decisions levels bytes zero_count =
    bytes_eq (canonical_slices head decisions levels) bytes
    && nat_le (canonical_tail head decisions levels) zero_count

-- ---- a block

-- the sample at row y and column x of a block of samples in raster order, and of a part of a picture
abbrev pub sample_at : List ℕ → ℕ → ℕ → ℕ
sample_at samples y x = slice_index samples (8 * y + x)

abbrev pub sample_in : Planes → Part → ℕ → ℕ → ℕ
sample_in picture part y x = sample_of picture part.plane (column part x) (line part y)

-- the samples of block b of the macroblock at this column and row
abbrev pub block_samples : Planes → Bool → ℕ → ℕ → ℕ → ℕ → ℕ → ℕ
block_samples picture field_dct mb_x mb_y b =
    sample_in picture (part_at field_dct (plane_of b) mb_x mb_y b)

-- the prediction of a part
abbrev pub predicted_in : Head → Decision → References → Part → ℕ → ℕ → ℤ
predicted_in head d refs part y x =
    predicted_at head d refs part.plane (column part x) (line part y)

-- Samples were decoded from these levels, each in its range, and a prediction, which is zero in an intra block.
pub record IsDecodedFrom (kind : Kind) (levels : List ℤ) (prediction : ℕ → ℕ → ℤ)
    (sample : ℕ → ℕ → ℕ) : Type 0 where
  pub decoded : IsDecoded kind levels prediction sample
  pub predicted : AreSamples prediction
  pub intra : kind.intra ≡ true → (y x : ℕ) → y < 8 → x < 8 → prediction y x ≡ pos 0
  pub long : length levels ≡ 64
  pub legal : (k : ℕ) → k < 64 → IsLevel (item levels k)
  pub dc : kind.intra ≡ true
      → (pos 0 ≤ℤ item levels 0) × (item levels 0 <ℤ pos (2 ^ (8 + kind.dc_precision)))

-- these levels are the nearest ones
abbrev pub IsFound : Kind → List ℤ → (ℕ → ℕ → ℤ) → (ℕ → ℕ → ℕ) → Type 0
IsFound kind levels prediction sample = (v u : ℕ) → v < 8 → u < 8
    → found_level kind prediction sample v u ≡ entry levels v u

-- Levels that were decoded to these samples are the nearest ones, whatever the prediction was.
abbrev pub StaysFound : Kind → List ℤ → (ℕ → ℕ → ℕ) → Type 0
StaysFound kind levels sample = (prediction : ℕ → ℕ → ℤ)
    → IsDecodedFrom kind levels prediction sample → IsFound kind levels prediction sample

-- how far from the value of its level a coefficient may be found, by its place in raster order
abbrev pub reach_at : ℕ → ℕ
reach_at k = if k == 63 then 6 else 5

-- the values of levels at a place lie farther apart than that
abbrev pub IsApart : Kind → ℕ → Type 0
IsApart kind k = 2 * reach_at k < step_at kind k / 16

-- so at all places but the first of an intra block
abbrev pub AreApart : Kind → Type 0
AreApart kind = (k : ℕ) → k < 64 → (kind.intra ≡ true → k ≢ 0) → IsApart kind k

-- levels of this size stand alone there
abbrev pub StandAlone : Kind → ℕ → Type 0
StandAlone kind size = (v u : ℕ) → v < 8 → u < 8 → is_first_of_intra kind v u ≡ false
    → (level : ℤ) → IsLevel level → unsigned_abs level ≤ size → StandsAlone kind v u level

-- all levels but the first of an intra block have this size
abbrev pub AreUpTo : Bool → List ℤ → ℕ → Type 0
AreUpTo intra levels size = (k : ℕ) → k < 64 → (intra ≡ true → k ≢ 0)
    → unsigned_abs (item levels k) ≤ size

-- by how much mismatch control may have changed the value at a place
abbrev pub change_at : ℕ → ℕ
change_at k = if k == 63 then 1 else 0

-- a value lies so close to a coefficient that its level is the nearest one
abbrev pub IsClose : Kind → ℕ → ℤ → ℤ → Type 0
IsClose kind k value coefficient =
    (2 * (distance value coefficient + change_at k) < step_at kind k / 16)
    × (unsigned_abs value + change_at k + step_at kind k / 16 ≤ 2047)

-- the sum of a block of samples, and the first coefficient of samples with this sum
abbrev pub total_of : List ℕ → ℕ
total_of samples = total_below 8 (λ y. total_below 8 (sample_at samples y))

abbrev pub first_coefficient : ℕ → ℕ
first_coefficient sum = (8386816 * sum + 2 ^ 25) / 2 ^ 26

-- ---- a picture

-- A picture that was decoded, with all that its decoding asks.
pub record WasDecoded (coded : Coded) : Type 0 where
  pub head : IsHead coded.head.now
  pub macroblocks : HasMacroblocks (coded_lent coded)
  pub decisions : AllCanBeReconstructed coded.head.now coded.decisions.now
  pub levels : AreLegalLevels coded.head.now coded.decisions.now coded.levels.now
  pub decoded : coded.picture.now ≡ picture_from (references_lent coded.refs) (coded_lent coded)
  pub forward : HasSizeOf coded.head.now coded.refs.forward.now
  pub backward : HasSizeOf coded.head.now coded.refs.backward.now

-- the samples of its references are bytes
pub record HasByteReferences (coded : Coded) : Type 0 where
  pub forward : HasBytes coded.refs.forward.now
  pub backward : HasBytes coded.refs.backward.now

-- the nearest levels of macroblock k are those that it was decoded from
abbrev pub MacroblockStays : Coded → ℕ → Type 0
MacroblockStays coded k =
    requantised_at coded.head.now coded.decisions.now coded.picture.now
    (references_lent coded.refs) k
    ≡ slice_index_or coded.levels.now k no_blocks
