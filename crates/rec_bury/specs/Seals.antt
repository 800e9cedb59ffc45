-- The seal of a frame: the SHA-256 digest of its bytes, with the bits of the seal itself taken as zero. It stands in the
-- last 32 bytes of the sheet.
use Rattle.std.specs.Prelude.{◌≡◌, drop, ℕ, ◌+◌, ◌-◌, ◌*◌, ◌/◌, ◌&&◌, Bool, false, List, nat_le, if◌then◌else◌}
use Rattle.sha2.specs.Sha256.{sha256}
use Rattle.mv_planes.specs.declared.picture.Plane.{Plane}
use Rattle.mv_planes.specs.declared.picture.Plane.TheVariants.{Y, Cb, Cr}
use Rattle.mv_planes.specs.Layout.{macroblock_of}
use Rattle.rec_bury.specs.Buried.{frame_bytes, number_in_block}
use Rattle.rec_bury.specs.Exhumed.{sample_in, sheet_in}

-- Whether a sample carries a pair of the seal. Sample n of the 64 of Cr has one of byte 16 + n / 4 of the slot, so the
-- sheet's from n = 16 on; of the sheet of `wide * high` shares it is byte 12 * macroblock + n / 4 - 4.
abbrev pub has_seal : ℕ → ℕ → Plane → ℕ → ℕ → Bool
has_seal wide high Cr x y =
    nat_le 16 (number_in_block x y)
    && nat_le (12 * (wide * high)) (12 * macroblock_of wide Cr x y + number_in_block x y / 4 + 28)
has_seal wide high Cb x y = false
has_seal wide high Y x y = false

-- a number with its low pair taken as zero, where asked
abbrev pub without_pair : Bool → ℕ → ℕ
without_pair clear v = if clear then 4 * (v / 4) else v

-- the bytes of a frame with the bits of the seal taken as zero
abbrev pub unsealed : ℕ → ℕ → List ℕ → List ℕ
unsealed wide high frame =
    frame_bytes wide high (λ p x y. without_pair (has_seal wide high p x y)
    (sample_in wide high frame p x y))

-- the seal
abbrev pub seal_of : ℕ → ℕ → List ℕ → List ℕ
seal_of wide high frame = sha256 (unsealed wide high frame)

-- the last 32 bytes of the sheet that a frame has are its seal
abbrev pub SealHolds : ℕ → ℕ → List ℕ → Type 0
SealHolds wide high frame =
    drop (12 * (wide * high) - 32) (sheet_in wide high frame) ≡ seal_of wide high frame
