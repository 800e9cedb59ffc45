-- A frame as a whole, from its samples.
use Rattle.std.proofs.Common.{◌≡◌, ℕ, zero, suc, ◌+◌, ◌*◌, ◌/◌, ◌%◌, ◌<◌, ◌∙◌, ◌⊎◌, inl, inr, List, [], ◌∷◌, length, get_or, arith, ap, refl, sym, subst, zero-add}
use Rattle.std.specs.List.{flat_map}
use Rattle.std.proofs.lemmas.Grind.{same_number_lists}
use Rattle.y4m_frames.specs.FrameFile.{sample_bytes}
use Rattle.mv_planes.specs.declared.picture.Plane.{Plane}
use Rattle.mv_planes.specs.declared.picture.Plane.TheVariants.{Y, Cb, Cr}
use Rattle.mv_planes.specs.Planes.{Planes, place_of, sample_of, IsInside}
use Rattle.mv_planes.specs.Raster.{picture_of}
use Rattle.mv_planes.proofs.RasterLaws.{whole_picture, sample_of-picture_of}
use Rattle.mv_planes.proofs.Places.{in_rows}
use Rattle.rec_bury.proofs.WriteLemmas.{written_along}
use Rattle.rec_bury.specs.Buried.{frame_of, buried, number_in_block}
use Rattle.rec_bury.specs.Steps.{AreWritten, ArePlaneValues}

pub length-bytes : (xs : List ℕ) → length (flat_map sample_bytes xs) ≡ 2 * length xs
length-bytes [] = refl
length-bytes (x ∷ xs) = omega (arith, length-bytes xs)

-- the two bytes of sample k
pub low_byte : (xs : List ℕ) (k j : ℕ) → k < length xs → j ≡ 2 * k → get_or (flat_map sample_bytes xs) j 0 ≡ get_or xs k 0 % 256
low_byte [] k j h e = absurd (omega arith)
low_byte (x ∷ xs) zero zero h e = refl
low_byte (x ∷ xs) zero (suc j) h e = absurd (omega arith)
low_byte (x ∷ xs) (suc k) zero h e = absurd (omega arith)
low_byte (x ∷ xs) (suc k) (suc zero) h e = absurd (omega arith)
low_byte (x ∷ xs) (suc k) (suc (suc j)) h e = low_byte xs k j (omega arith) (omega arith)

pub high_byte : (xs : List ℕ) (k j : ℕ) → k < length xs → j ≡ 2 * k + 1 → get_or (flat_map sample_bytes xs) j 0 ≡ get_or xs k 0 / 256
high_byte [] k j h e = absurd (omega arith)
high_byte (x ∷ xs) zero zero h e = absurd (omega arith)
high_byte (x ∷ xs) zero (suc zero) h e = refl
high_byte (x ∷ xs) zero (suc (suc j)) h e = absurd (omega arith)
high_byte (x ∷ xs) (suc k) zero h e = absurd (omega arith)
high_byte (x ∷ xs) (suc k) (suc zero) h e = absurd (omega arith)
high_byte (x ∷ xs) (suc k) (suc (suc j)) h e = high_byte xs k j (omega arith) (omega arith)

even_or_odd : (j : ℕ) → (j ≡ 2 * (j / 2)) ⊎ (j ≡ 2 * (j / 2) + 1)
even_or_odd zero = inl refl
even_or_odd (suc zero) = inr refl
even_or_odd (suc (suc j)) = elim (even_or_odd j) [ inl e ↦ inl (omega arith) | inr e ↦ inr (omega arith) ]

-- a frame whose samples are all written
pub all_written_bytes : (xs frame : List ℕ) → length frame ≡ 2 * length xs → AreWritten (λ k. get_or xs k 0) frame (length xs) → frame ≡ flat_map sample_bytes xs
all_written_bytes xs frame size f = same_number_lists frame (flat_map sample_bytes xs) (size ∙ sym (length-bytes xs)) (λ j h. each j h (even_or_odd j))
  where
    each : (j : ℕ) → j < length frame → (j ≡ 2 * (j / 2)) ⊎ (j ≡ 2 * (j / 2) + 1) → get_or frame j 0 ≡ get_or (flat_map sample_bytes xs) j 0
    each j h (inl e) =
        let inside : j / 2 < length xs = omega arith in
        ap (λ i. get_or frame i 0) e ∙ ((f.filled (j / 2) inside).low ∙ sym (low_byte xs (j / 2) j inside e))
    each j h (inr e) =
        let inside : j / 2 < length xs = omega arith in
        ap (λ i. get_or frame i 0) e ∙ ((f.filled (j / 2) inside).high ∙ sym (high_byte xs (j / 2) j inside e))

-- the samples that a buried frame has
abbrev pub ten_bit_picture : Planes → List ℕ → List ℕ → Planes
ten_bit_picture f slots sheet = picture_of f.mb_wide f.mb_high (λ p x y. 4 * sample_of f p x y + buried f.mb_wide slots sheet p x y)

abbrev pub ten_bit : Planes → List ℕ → List ℕ → ℕ → ℕ
ten_bit f slots sheet k = get_or (ten_bit_picture f slots sheet).samples k 0

ten_bit_at : (f : Planes) (slots sheet : List ℕ) (p : Plane) (x y : ℕ) → IsInside f p x y → ten_bit f slots sheet (place_of f p x y) ≡ 4 * sample_of f p x y + buried f.mb_wide slots sheet p x y
ten_bit_at f slots sheet p x y h = sample_of-picture_of f.mb_wide f.mb_high (λ p x y. 4 * sample_of f p x y + buried f.mb_wide slots sheet p x y) p x y h.0 h.1

pub cb_is_plane : (f : Planes) (slots sheet : List ℕ) (wide high start : ℕ) → wide ≡ f.mb_wide → high ≡ f.mb_high → start ≡ 256 * (f.mb_wide * f.mb_high) → ArePlaneValues (ten_bit f slots sheet) f.samples slots sheet start wide high 0
cb_is_plane f slots sheet wide high start a b e = rw (a, b, e) record { value = λ x y h k. rw (zero-add (number_in_block x y)) (ten_bit_at f slots sheet Cb x y (h, k)) }

pub cr_is_plane : (f : Planes) (slots sheet : List ℕ) (wide high start : ℕ) → wide ≡ f.mb_wide → high ≡ f.mb_high → start ≡ 320 * (f.mb_wide * f.mb_high) → ArePlaneValues (ten_bit f slots sheet) f.samples slots sheet start wide high 8
cr_is_plane f slots sheet wide high start a b e = rw (a, b, e) record { value = λ x y h k. ten_bit_at f slots sheet Cr x y (h, k) }

pub luma_is_plain : (f : Planes) (slots sheet : List ℕ) (n : ℕ) → n ≡ 256 * (f.mb_wide * f.mb_high) → (k : ℕ) → k < n → ten_bit f slots sheet k ≡ 4 * get_or f.samples k 0
luma_is_plain f slots sheet n e k h =
    let r = in_rows (16 * f.mb_wide) (16 * f.mb_high) k (omega arith) in
    let x : ℕ = k % (16 * f.mb_wide) in
    let y : ℕ = k / (16 * f.mb_wide) in
    let here : 0 * (f.mb_wide * f.mb_high) + (y * (16 * f.mb_wide) + x) ≡ k = omega (arith, r.number) in
    let same : ten_bit f slots sheet (place_of f Y x y) ≡ 4 * sample_of f Y x y + 0 = ten_bit_at f slots sheet Y x y (r.column_in, r.row_in) in
    let first : ten_bit f slots sheet k ≡ ten_bit f slots sheet (place_of f Y x y) = ap (ten_bit f slots sheet) (sym here) in
    let last : sample_of f Y x y ≡ get_or f.samples k 0 = ap (λ i. get_or f.samples i 0) here in
    omega (arith, first, same, last)

pub length-frame_of : (f : Planes) (slots sheet : List ℕ) → length (frame_of f slots sheet) ≡ 2 * (384 * (f.mb_wide * f.mb_high))
length-frame_of f slots sheet = omega (arith, length-bytes (ten_bit_picture f slots sheet).samples, whole_picture f.mb_wide f.mb_high (λ p x y. 4 * sample_of f p x y + buried f.mb_wide slots sheet p x y))

-- luma, then Cb, then Cr: the whole frame
pub whole_frame : (f : Planes) (slots sheet samples : List ℕ) (wide high n m : ℕ) (luma blue red : List ℕ) → samples ≡ f.samples → wide ≡ f.mb_wide → high ≡ f.mb_high → n ≡ 256 * (f.mb_wide * f.mb_high) → m ≡ 320 * (f.mb_wide * f.mb_high)
    → length red ≡ 2 * (384 * (f.mb_wide * f.mb_high))
    → ((v : ℕ → ℕ) → ((k : ℕ) → k < n → v k ≡ 4 * get_or samples k 0) → AreWritten v luma n)
    → ((v : ℕ → ℕ) → ArePlaneValues v samples slots sheet n wide high 0 → AreWritten v luma n → AreWritten v blue (n + 64 * (wide * high)))
    → ((v : ℕ → ℕ) → ArePlaneValues v samples slots sheet m wide high 8 → AreWritten v blue m → AreWritten v red (m + 64 * (wide * high)))
    → red ≡ frame_of f slots sheet
whole_frame f slots sheet samples wide high n m luma blue red s a b e g size first second third =
    let v : ℕ → ℕ = ten_bit f slots sheet in
    let whole = whole_picture f.mb_wide f.mb_high (λ p x y. 4 * sample_of f p x y + buried f.mb_wide slots sheet p x y) in
    let area : wide * high ≡ f.mb_wide * f.mb_high = ap (λ w. w * high) a ∙ ap (λ h. f.mb_wide * h) b in
    let x = first v (λ k h. luma_is_plain f slots sheet n e k h ∙ ap (λ l. 4 * get_or l k 0) (sym s)) in
    let y = second v (subst (λ (l : List ℕ). ArePlaneValues v l slots sheet n wide high 0) (sym s) (cb_is_plane f slots sheet wide high n a b e)) x in
    let z = third v (subst (λ (l : List ℕ). ArePlaneValues v l slots sheet m wide high 8) (sym s) (cr_is_plane f slots sheet wide high m a b g)) (written_along v blue _ m (omega arith) y) in
    all_written_bytes (ten_bit_picture f slots sheet).samples red (omega (arith, size, whole)) (written_along v red _ _ (omega (arith, whole)) z)
