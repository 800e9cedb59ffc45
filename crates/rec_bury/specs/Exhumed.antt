-- What the bytes of a frame hold: its samples, the slots and the sheet that are buried, and the picture on top.
use Rattle.std.specs.Prelude.{ℕ, ◌+◌, ◌*◌, ◌/◌, ◌%◌, ◌<◌, List, length, map, slice_index, nat_lt, if◌then◌else◌}
use Rattle.std.specs.List.{range_with_len}
use Rattle.mv_planes.specs.declared.picture.Plane.{Plane}
use Rattle.mv_planes.specs.declared.picture.Plane.TheVariants.{Cb, Cr}
use Rattle.mv_planes.specs.Planes.{Planes, place_of}
use Rattle.mv_planes.specs.Raster.{picture_of}

-- 10-bit sample k of a frame, of two bytes with the low one first
abbrev pub value_at : List ℕ → ℕ → ℕ
value_at frame k = slice_index frame (2 * k) + 256 * slice_index frame (2 * k + 1)

-- no sample is above 1023
pub record HasTenBits (frame : List ℕ) : Type 0 where
  pub small : (k : ℕ) → 2 * k + 1 < length frame → value_at frame k < 1024

-- the sample of a plane at column x of row y, in a frame of this size in macroblocks
abbrev pub sample_in : ℕ → ℕ → List ℕ → Plane → ℕ → ℕ → ℕ
sample_in wide high frame p x y =
    value_at frame (place_of (record { mb_wide = wide; mb_high = high; samples = frame }) p x y)

-- the low pair of chroma sample n of macroblock m
abbrev pub pair_in : ℕ → ℕ → List ℕ → ℕ → ℕ → ℕ
pair_in wide high frame m n =
    sample_in wide high frame (if nat_lt n 64 then Cb else Cr) (8 * (m % wide) + n % 8)
    (8 * (m / wide) + n % 64 / 8) % 4

-- byte b of the slot of macroblock m
abbrev pub byte_in : ℕ → ℕ → List ℕ → ℕ → ℕ → ℕ
byte_in wide high frame m b =
    64 * pair_in wide high frame m (4 * b) + 16 * pair_in wide high frame m (4 * b + 1)
    + 4 * pair_in wide high frame m (4 * b + 2) + pair_in wide high frame m (4 * b + 3)

-- the bytes of all decisions, macroblock after macroblock, and the sheet
unfoldable pub slots_in : ℕ → ℕ → List ℕ → List ℕ
slots_in wide high frame =
    map (λ i. byte_in wide high frame (i / 20) (i % 20)) (range_with_len 0 (20 * (wide * high)))

unfoldable pub sheet_in : ℕ → ℕ → List ℕ → List ℕ
sheet_in wide high frame =
    map (λ i. byte_in wide high frame (i / 12) (20 + i % 12))
    (range_with_len 0 (12 * (wide * high)))

-- the picture that a frame is a source of: the high 8 bits of each sample
abbrev pub source_of : ℕ → ℕ → List ℕ → Planes
source_of wide high frame = picture_of wide high (λ p x y. sample_in wide high frame p x y / 4)
