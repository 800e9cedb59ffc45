-- How far a frame is written, taken out or hashed. Nobody needs to believe it: it only carries proofs.
use Rattle.std.specs.Prelude.{◌≡◌, ℕ, ◌+◌, ◌-◌, ◌*◌, ◌/◌, ◌%◌, ◌^◌, ◌<◌, ◌&&◌, ◌==◌, Bool, List, length, slice_index}
use Rattle.mv_planes.specs.declared.picture.Plane.TheVariants.{Cb}
use Rattle.mv_planes.specs.Layout.{macroblock_of}
use Rattle.rec_bury.specs.Buried.{slot_pair, number_in_block}
use Rattle.rec_bury.specs.Exhumed.{byte_in}
use Rattle.rec_bury.specs.Seals.{without_pair}

-- sample k of a frame is written with this value
pub record HasSample (frame : List ℕ) (k v : ℕ) : Type 0 where
  pub low : slice_index frame (2 * k) ≡ v % 256
  pub high : slice_index frame (2 * k + 1) ≡ v / 256

-- the first n samples are written with their values
pub record AreWritten (v : ℕ → ℕ) (frame : List ℕ) (n : ℕ) : Type 0 where
  pub filled : (k : ℕ) → k < n → HasSample frame k (v k)

-- pair x of the eight of two bytes, the high one first
abbrev pub pair_of_word : ℕ → ℕ → ℕ
pair_of_word word x = word / 2 ^ (14 - 2 * x) % 4

-- the values of a row of a chroma plane, whose samples stand from `at` on: that of line b of the slots from macroblock m
-- on; Cb has lines 0 to 7, and Cr lines 8 to 15
pub record AreRowValues (v : ℕ → ℕ) (samples slots sheet : List ℕ) (at m wide b : ℕ) : Type 0 where
  pub value : (x : ℕ) → x < 8 * wide → v (at + x)
      ≡ 4 * slice_index samples (at + x) + slot_pair slots sheet (m + x / 8) (8 * b + x % 8)

-- the values of a chroma plane, whose samples stand from `start` on, and the slots' lines from `first` on
pub record ArePlaneValues (v : ℕ → ℕ) (samples slots sheet : List ℕ)
    (start wide high first : ℕ) : Type 0 where
  pub value : (x y : ℕ) → x < 8 * wide → y < 8 * high → v (start + (y * (8 * wide) + x))
      ≡ 4 * slice_index samples (start + (y * (8 * wide) + x))
      + slot_pair slots sheet (macroblock_of wide Cb x y) (8 * first + number_in_block x y)

-- byte i of the slots and of the sheet that a frame has
abbrev pub slots_at : ℕ → ℕ → List ℕ → ℕ → ℕ
slots_at wide high frame i = byte_in wide high frame (i / 20) (i % 20)

abbrev pub sheet_at : ℕ → ℕ → List ℕ → ℕ → ℕ
sheet_at wide high frame i = byte_in wide high frame (i / 12) (20 + i % 12)

-- the first n bytes are taken out
pub record AreTaken (f : ℕ → ℕ) (bytes : List ℕ) (n : ℕ) : Type 0 where
  pub value : (i : ℕ) → i < n → slice_index bytes i ≡ f i

-- byte j of eight samples, with its low pair taken as zero where asked: the low bytes are the even ones
abbrev pub piece_byte : Bool → ℕ → ℕ → ℕ
piece_byte clear j byte = without_pair (clear && (j % 2 == 0)) byte

-- the first n bytes of eight samples are those of the frame, so cleared
pub record IsPiece (piece frame : List ℕ) (start : ℕ) (clear : Bool) (n : ℕ) : Type 0 where
  pub long : length piece ≡ 16
  pub value : (j : ℕ) → j < n → slice_index piece j
      ≡ piece_byte clear j (slice_index frame (start + j))
