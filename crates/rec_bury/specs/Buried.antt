-- The sample bytes of a frame in which slots and a sheet are buried (docs/FRAME-FILES.md). Each macroblock has a slot of
-- 32 bytes: 20 that say its decision, and 12 of the picture's sheet. They are the low pairs of bits of its chroma
-- samples: of the 64 of Cb and then of the 64 of Cr, each in raster order.
use Rattle.std.specs.Prelude.{ℕ, ◌+◌, ◌-◌, ◌*◌, ◌/◌, ◌%◌, ◌^◌, List, slice_index, nat_lt, if◌then◌else◌}
use Rattle.std.specs.List.{flat_map}
use Rattle.y4m_frames.specs.FrameFile.{sample_bytes}
use Rattle.mv_planes.specs.declared.picture.Plane.{Plane}
use Rattle.mv_planes.specs.declared.picture.Plane.TheVariants.{Y, Cb, Cr}
use Rattle.mv_planes.specs.Planes.{Planes, sample_of}
use Rattle.mv_planes.specs.Layout.{macroblock_of}
use Rattle.mv_planes.specs.Raster.{picture_of}

-- the bytes of a frame of this size in macroblocks whose 10-bit sample of a plane at column x of row y is `at plane x y`
abbrev pub frame_bytes : ℕ → ℕ → (Plane → ℕ → ℕ → ℕ) → List ℕ
frame_bytes wide high at = flat_map sample_bytes (picture_of wide high at).samples

-- byte b of the slot of macroblock m
abbrev pub slot_byte : List ℕ → List ℕ → ℕ → ℕ → ℕ
slot_byte slots sheet m b =
    if nat_lt b 20 then slice_index slots (20 * m + b) else slice_index sheet (12 * m + (b - 20))

-- pair n of a byte, the high one first
abbrev pub pair_of : ℕ → ℕ → ℕ
pair_of byte n = byte / 4 ^ (3 - n) % 4

-- pair n of the slot of macroblock m
abbrev pub slot_pair : List ℕ → List ℕ → ℕ → ℕ → ℕ
slot_pair slots sheet m n = pair_of (slot_byte slots sheet m (n / 4)) (n % 4)

-- the number of a chroma sample among the 64 of its block
abbrev pub number_in_block : ℕ → ℕ → ℕ
number_in_block x y = 8 * (y % 8) + x % 8

-- the pair that is buried in a sample: none in luma, the first 64 of the slot in Cb, the other 64 in Cr
abbrev pub buried : ℕ → List ℕ → List ℕ → Plane → ℕ → ℕ → ℕ
buried wide slots sheet Y x y = 0
buried wide slots sheet Cb x y =
    slot_pair slots sheet (macroblock_of wide Cb x y) (number_in_block x y)
buried wide slots sheet Cr x y =
    slot_pair slots sheet (macroblock_of wide Cr x y) (64 + number_in_block x y)

-- the frame of a picture: each sample on top of its 10 bits, and below it the pair that is buried
abbrev pub frame_of : Planes → List ℕ → List ℕ → List ℕ
frame_of f slots sheet =
    frame_bytes f.mb_wide f.mb_high (λ p x y. 4 * sample_of f p x y
    + buried f.mb_wide slots sheet p x y)
