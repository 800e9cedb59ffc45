-- A seal is the digest of the frame that has zeros in its place.
use Rattle.std.proofs.Common.{◌≡◌, ℕ, zero, ◌+◌, ◌-◌, ◌*◌, ◌/◌, ◌%◌, ◌^◌, ◌<◌, ◌≤◌, ◌∙◌, ◌⊎◌, inl, inr, List, ◌++◌, length, get_or, replicate, arith, ap, refl, sym, true, false, cond}
use Rattle.std.specs.Prelude.{nat_le, nat_lt, ◌&&◌}
use Rattle.std.specs.List.{flat_map}
use Rattle.std.proofs.Math.Nat.{zero-div}
use Rattle.std.proofs.lemmas.Bool.{cases_lt, lt-ltb, le-ltb, le-leb, lt-leb}
use Rattle.std.proofs.lemmas.List.{get_or_append_left, get_or-append_right, get_or-replicate, get_or_past, length-replicate}
use Rattle.sha2.specs.Sha256.{sha256}
use Rattle.y4m_frames.specs.FrameFile.{sample_bytes}
use Rattle.mv_planes.specs.declared.picture.Plane.{Plane}
use Rattle.mv_planes.specs.declared.picture.Plane.TheVariants.{Y, Cb, Cr}
use Rattle.mv_planes.specs.Planes.{Planes, mb_size, sample_of}
use Rattle.mv_planes.specs.Raster.{picture_of}
use Rattle.mv_planes.proofs.RasterLaws.{whole_picture, sample_of-picture_of, same_picture}
use Rattle.rec_bury.proofs.BackLemmas.{sample_of_frame, small_buried}
use Rattle.mv_planes.specs.Layout.{macroblock_of}
use Rattle.rec_bury.specs.Buried.{frame_bytes, frame_of, buried, slot_byte, pair_of, number_in_block}
use Rattle.rec_bury.specs.Seals.{without_pair, has_seal, unsealed}
use Rattle.rec_bury.specs.Laws.{SealIsOfZeros}

-- frames with the same samples at all places are one
pub same_frame : (wide high : ℕ) (a b : Plane → ℕ → ℕ → ℕ) → ((p : Plane) (x y : ℕ) → x < mb_size p * wide → y < mb_size p * high → a p x y ≡ b p x y) → frame_bytes wide high a ≡ frame_bytes wide high b
same_frame wide high a b same =
    let f : Planes = picture_of wide high a in
    let g : Planes = picture_of wide high b in
    ap (λ (h : Planes). flat_map sample_bytes h.samples)
    (same_picture g f (whole_picture wide high b) record { wide = refl; high = refl; count = whole_picture wide high a ∙ sym (whole_picture wide high b) }
    (λ p x y h. sample_of-picture_of wide high a p x y h.0 h.1 ∙ (same p x y h.0 h.1 ∙ sym (sample_of-picture_of wide high b p x y h.0 h.1))))

pub zero_at : (n k : ℕ) → get_or (replicate n zero) k zero ≡ zero
zero_at n k = elim (cases_lt k n) [ inl h ↦ get_or-replicate n k zero zero h | inr h ↦ get_or_past (replicate n zero) k zero (omega (arith, length-replicate n zero)) ]

pub no_pair : (byte n : ℕ) → byte ≡ 0 → pair_of byte n ≡ 0
no_pair byte n e = rw (e, zero-div (4 ^ (3 - n))) refl

cleared_pair : (s q : ℕ) → q < 4 → 4 * ((4 * s + q) / 4) ≡ 4 * s + 0
cleared_pair s q h = omega arith

-- a byte of a slot, apart from the seal and in it
apart_byte : (slots body s t : List ℕ) (m b : ℕ) → (b < 20) ⊎ (12 * m + (b - 20) < length body) → slot_byte slots (body ++ s) m b ≡ slot_byte slots (body ++ t) m b
apart_byte slots body s t m b (inl h) = rw (lt-ltb b 20 h) refl
apart_byte slots body s t m b (inr h) =
    ap (λ v. cond (nat_lt b 20) (get_or slots (20 * m + b) 0) v) (get_or_append_left body s 0 (12 * m + (b - 20)) h ∙ sym (get_or_append_left body t 0 (12 * m + (b - 20)) h))

seal_byte : (slots body : List ℕ) (m b : ℕ) → 20 ≤ b → length body ≤ 12 * m + (b - 20) → slot_byte slots (body ++ replicate 32 0) m b ≡ 0
seal_byte slots body m b high behind =
    rw (le-ltb b 20 high) (get_or-append_right body (replicate 32 0) (length body) (12 * m + (b - 20)) 0 refl behind ∙ zero_at 32 (12 * m + (b - 20) - length body))

-- whether two tests hold together
data Both (a b c d : ℕ) : Type 0 where
  yes : a ≤ b → c ≤ d → (nat_le a b && nat_le c d) ≡ true → Both a b c d
  no_first : b < a → (nat_le a b && nat_le c d) ≡ false → Both a b c d
  no_second : a ≤ b → d < c → (nat_le a b && nat_le c d) ≡ false → Both a b c d

both : (a b c d : ℕ) → Both a b c d
both a b c d = elim (cases_lt b a) [
  | inl h ↦ no_first h (ap (λ t. t && nat_le c d) (lt-leb a b h))
  | inr h ↦ elim (cases_lt d c) [
    | inl k ↦ no_second h k (ap (λ t. t && nat_le c d) (le-leb a b h) ∙ lt-leb c d k)
    | inr k ↦ yes h k (ap (λ t. t && nat_le c d) (le-leb a b h) ∙ le-leb c d k)
  ]
]

abbrev with_zeros : List ℕ → List ℕ
with_zeros body = body ++ replicate 32 0

-- a sample of Cr
cr_sample : (wide high : ℕ) (slots body s : List ℕ) (x y v : ℕ) → length body + 32 ≡ 12 * (wide * high) → Both 16 (number_in_block x y) (12 * (wide * high)) (12 * macroblock_of wide Cb x y + number_in_block x y / 4 + 28)
    → without_pair (has_seal wide high Cr x y) (4 * v + buried wide slots (body ++ s) Cr x y) ≡ 4 * v + buried wide slots (with_zeros body) Cr x y
cr_sample wide high slots body s x y v size (yes a b e) =
    let none : slot_byte slots (with_zeros body) (macroblock_of wide Cb x y) ((64 + number_in_block x y) / 4) ≡ 0 = seal_byte slots body (macroblock_of wide Cb x y) ((64 + number_in_block x y) / 4) (omega arith) (omega arith) in
    ap (λ t. without_pair t (4 * v + buried wide slots (body ++ s) Cr x y)) e
    ∙ (cleared_pair v _ (small_buried wide slots (body ++ s) Cr x y) ∙ ap (λ q. 4 * v + q) (sym (no_pair _ ((64 + number_in_block x y) % 4) none)))
cr_sample wide high slots body s x y v size (no_first a e) =
    ap (λ t. without_pair t (4 * v + buried wide slots (body ++ s) Cr x y)) e
    ∙ ap (λ b. 4 * v + pair_of b ((64 + number_in_block x y) % 4)) (apart_byte slots body s (replicate 32 0) (macroblock_of wide Cb x y) ((64 + number_in_block x y) / 4) (inl (omega arith)))
cr_sample wide high slots body s x y v size (no_second a b e) =
    ap (λ t. without_pair t (4 * v + buried wide slots (body ++ s) Cr x y)) e
    ∙ ap (λ b. 4 * v + pair_of b ((64 + number_in_block x y) % 4)) (apart_byte slots body s (replicate 32 0) (macroblock_of wide Cb x y) ((64 + number_in_block x y) / 4) (inr (omega arith)))

cb_number : (x y : ℕ) → number_in_block x y / 4 < 20
cb_number x y = omega arith

any_sample : (f : Planes) (slots body s : List ℕ) → length body + 32 ≡ 12 * (f.mb_wide * f.mb_high) → (p : Plane) (x y v : ℕ) → without_pair (has_seal f.mb_wide f.mb_high p x y) (4 * v + buried f.mb_wide slots (body ++ s) p x y) ≡ 4 * v + buried f.mb_wide slots (with_zeros body) p x y
any_sample f slots body s size Y x y v = refl
any_sample f slots body s size Cb x y v = ap (λ b. 4 * v + pair_of b (number_in_block x y % 4)) (apart_byte slots body s (replicate 32 0) (macroblock_of f.mb_wide Cb x y) (number_in_block x y / 4) (inl (cb_number x y)))
any_sample f slots body s size Cr x y v = cr_sample f.mb_wide f.mb_high slots body s x y v size (both _ _ _ _)

pub unsealed_frame : (f : Planes) (slots body s : List ℕ) → length body + 32 ≡ 12 * (f.mb_wide * f.mb_high) → unsealed f.mb_wide f.mb_high (frame_of f slots (body ++ s)) ≡ frame_of f slots (with_zeros body)
unsealed_frame f slots body s size =
    same_frame f.mb_wide f.mb_high _ (λ p x y. 4 * sample_of f p x y + buried f.mb_wide slots (with_zeros body) p x y) (λ p x y h k.
    ap (λ v. without_pair (has_seal f.mb_wide f.mb_high p x y) v) (sample_of_frame f.mb_wide f.mb_high (λ q u w. 4 * sample_of f q u w + buried f.mb_wide slots (body ++ s) q u w) p x y h k)
    ∙ any_sample f slots body s size p x y (sample_of f p x y))

pub seal_is_of_zeros : SealIsOfZeros
seal_is_of_zeros f slots body s size _ = ap sha256 (unsealed_frame f slots body s size)
