-- A frame of a file has two bytes for each 10-bit sample of its macroblocks.
use Rattle.std.proofs.Common.{◌≡◌, ℕ, zero, suc, ◌+◌, ◌*◌, ◌/◌, ◌%◌, ◌<◌, Bool, true, false, ◌&&◌, nat_le, List, [], ◌∷◌, length, slice_index, refl, sym, ap, ap₂, ◌∙◌, subst, arith}
use Rattle.std.proofs.Math.Nat.{mul_assoc, mul_comm}
use Rattle.std.proofs.lemmas.Bool.{leb-true}
use Rattle.mv_terms.specs.declared.frame_header.FrameHeader.{FrameHeader}
use Rattle.mv_terms.specs.Ranges.{IsFrameHeader, macroblock_columns, macroblock_rows, row_lines}
use Rattle.y4m_frames.specs.Frames.{are_samples}
use Rattle.rec_bury.specs.Exhumed.{HasTenBits, value_at}
use Rattle.rec_reader.specs.Room.{file_macroblocks}
use Rattle.enc_guided.specs.Stands.{macroblocks_of}
use Rattle.job_coding.specs.Codings.{IsFrameOf}

-- its samples have ten bits

both : (a b : Bool) → a && b ≡ true → (a ≡ true) × (b ≡ true)
both true b h = (refl, h)
both false b h = absurd cc

behind_two : (low high : ℕ) (samples : List ℕ) (n m i j : ℕ) → i ≡ suc (suc n) → j ≡ suc (suc m) → slice_index samples n + 256 * slice_index samples m < 1024 → slice_index (low ∷ high ∷ samples) i + 256 * slice_index (low ∷ high ∷ samples) j < 1024
behind_two low high samples n m i j i_is j_is small =
    subst (λ (a : ℕ). slice_index (low ∷ high ∷ samples) a + 256 * slice_index (low ∷ high ∷ samples) j < 1024) (sym i_is)
    (subst (λ (b : ℕ). slice_index (low ∷ high ∷ samples) (suc (suc n)) + 256 * slice_index (low ∷ high ∷ samples) b < 1024) (sym j_is) small)

ten_bits : (frame : List ℕ) → are_samples frame ≡ true → (k : ℕ) → 2 * k + 1 < length frame → value_at frame k < 1024
ten_bits [] right k lt = absurd (omega (arith, lt))
ten_bits (low ∷ []) right k lt = absurd (omega (arith, lt))
ten_bits (low ∷ high ∷ samples) right zero lt =
    let small = leb-true (low + 256 * high) 1023 (both (nat_le (low + 256 * high) 1023) (are_samples samples) right).0 in
    omega (arith, small)
ten_bits (low ∷ high ∷ samples) right (suc k) lt =
    let small = ten_bits samples (both (nat_le (low + 256 * high) 1023) (are_samples samples) right).1 k (omega (arith, lt)) in
    behind_two low high samples (2 * k) (2 * k + 1) (2 * suc k) (2 * suc k + 1) (omega arith) (omega arith) small

pub has_ten_bits : (header : FrameHeader) (frame : List ℕ) → IsFrameOf header frame → HasTenBits frame
has_ten_bits header frame is = record { small = ten_bits frame is.range }

-- and there are as many as its macroblocks have

whole_rows : (progressive : Bool) (high : ℕ) → high % row_lines progressive ≡ 0 → high ≡ 16 * macroblock_rows progressive high
whole_rows true high whole = omega arith
whole_rows false high whole = omega arith

area : (wide high : ℕ) → 48 * wide * (16 * high) ≡ 768 * (wide * high)
area wide high = omega (arith, mul_assoc 48 wide (16 * high), mul_comm wide (16 * high), mul_assoc 16 high wide, mul_comm high wide)

whole_columns : (header : FrameHeader) → IsFrameHeader header → header.wide ≡ 16 * macroblock_columns header.wide
whole_columns header is = omega (arith, is.whole_wide)

pub frame_size : (header : FrameHeader) (frame : List ℕ) → IsFrameHeader header → IsFrameOf header frame → length frame ≡ 768 * macroblocks_of header
frame_size header frame is frame_is =
    frame_is.all
    ∙ ap₂ (λ (x y : ℕ). 3 * x * y) (whole_columns header is) (whole_rows header.progressive header.high is.whole_high)
    ∙ ap (λ (x : ℕ). x * (16 * macroblock_rows header.progressive header.high)) (omega arith)
    ∙ area (macroblock_columns header.wide) (macroblock_rows header.progressive header.high)

-- the same by the numbers of the file's header

sixteenth : (n m : ℕ) → n ≡ 16 * m → n / 16 ≡ m
sixteenth n m e = omega (arith, e)

same_macroblocks : (header : FrameHeader) → IsFrameHeader header → file_macroblocks header ≡ macroblocks_of header
same_macroblocks header is =
    ap₂ (λ (x y : ℕ). x * y) (sixteenth header.wide (macroblock_columns header.wide) (whole_columns header is))
    (sixteenth header.high (macroblock_rows header.progressive header.high) (whole_rows header.progressive header.high is.whole_high))

pub file_frame_size : (header : FrameHeader) (frame : List ℕ) → IsFrameHeader header → IsFrameOf header frame → length frame ≡ 768 * file_macroblocks header
file_frame_size header frame is frame_is =
    frame_size header frame is frame_is ∙ ap (λ (n : ℕ). 768 * n) (sym (same_macroblocks header is))
