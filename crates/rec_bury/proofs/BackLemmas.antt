-- What is buried comes back.
use Rattle.std.proofs.Common.{◌≡◌, ℕ, ◌+◌, ◌-◌, ◌*◌, ◌/◌, ◌%◌, ◌<◌, ◌≤◌, ◌∙◌, ◌⊎◌, inl, inr, List, length, get_or, arith, ap, refl, sym, subst}
use Rattle.std.proofs.lemmas.Nat.{div-add-mod'}
use Rattle.std.proofs.lemmas.Bool.{cases_lt, lt-ltb, le-ltb}
use Rattle.std.proofs.lemmas.Grind.{same_number_lists}
use Rattle.std.proofs.lemmas.List.FromFn.{length-map-range_with_len, get_or-map-range_with_len}
use Rattle.mv_planes.specs.declared.picture.Plane.{Plane}
use Rattle.mv_planes.specs.declared.picture.Plane.TheVariants.{Y, Cb, Cr}
use Rattle.mv_planes.specs.Planes.{Planes, mb_size, place_of, sample_of, IsWhole, SameSize}
use Rattle.mv_planes.proofs.Places.{place_in}
use Rattle.mv_planes.specs.Raster.{picture_of}
use Rattle.mv_planes.proofs.RasterLaws.{whole_picture, sample_of-picture_of, same_picture}
use Rattle.rec_bury.proofs.FrameLemmas.{low_byte, high_byte}
use Rattle.rec_bury.proofs.PairLemmas.{small_pair, byte_of_pairs}
use Rattle.rec_bury.proofs.ExhumeLemmas.{plane_of, cb_sample, cr_sample}
use Rattle.mv_planes.specs.Layout.{macroblock_of}
use Rattle.mv_planes.proofs.Places.{in_rows}
use Rattle.rec_bury.specs.Buried.{frame_bytes, frame_of, buried, slot_byte, slot_pair, pair_of, number_in_block}
use Rattle.rec_bury.specs.Exhumed.{sample_in, pair_in, byte_in, slots_in, sheet_in, source_of}
use Rattle.rec_bury.specs.Steps.{slots_at, sheet_at}
use Rattle.rec_bury.specs.Laws.{FitsPicture, BuriedComesBack}

of_two_bytes : (v : ℕ) → v % 256 + 256 * (v / 256) ≡ v
of_two_bytes v = omega arith

-- a frame of samples has them at their places
pub sample_of_frame : (wide high : ℕ) (at : Plane → ℕ → ℕ → ℕ) (p : Plane) (x y : ℕ) → x < mb_size p * wide → y < mb_size p * high → sample_in wide high (frame_bytes wide high at) p x y ≡ at p x y
sample_of_frame wide high at p x y h k =
    let g : Planes = picture_of wide high at in
    let place : ℕ = place_of g p x y in
    let inside : place < length g.samples = place_in g p x y (whole_picture wide high at) (h, k) in
    let low = low_byte g.samples place (2 * place) inside refl in
    let high_one = high_byte g.samples place (2 * place + 1) inside refl in
    rw (low, high_one) (of_two_bytes (get_or g.samples place 0) ∙ sample_of-picture_of wide high at p x y h k)

abbrev buried_sample : Planes → List ℕ → List ℕ → Plane → ℕ → ℕ → ℕ
buried_sample f slots sheet p x y = 4 * sample_of f p x y + buried f.mb_wide slots sheet p x y

pair_left : (s q : ℕ) → q < 4 → (4 * s + q) % 4 ≡ q
pair_left s q h = omega arith

sample_left : (s q : ℕ) → q < 4 → (4 * s + q) / 4 ≡ s
sample_left s q h = omega arith

pub small_buried : (wide : ℕ) (slots sheet : List ℕ) (p : Plane) (x y : ℕ) → buried wide slots sheet p x y < 4
small_buried wide slots sheet Y x y = omega arith
small_buried wide slots sheet Cb x y = small_pair _ _
small_buried wide slots sheet Cr x y = small_pair _ _

-- the place of chroma sample n of macroblock m
abbrev column_of : ℕ → ℕ → ℕ → ℕ
column_of wide m n = 8 * (m % wide) + n % 8

abbrev line_of : ℕ → ℕ → ℕ → ℕ
line_of wide m n = 8 * (m / wide) + n % 64 / 8

pair_at : (wide high : ℕ) (slots sheet : List ℕ) (m n : ℕ) (p : Plane) → m < wide * high → n < 128 → plane_of n ≡ p → buried wide slots sheet p (column_of wide m n) (line_of wide m n) ≡ slot_pair slots sheet m n
pair_at wide high slots sheet m n p below small is = by_half (cases_lt n 64)
  where
    r : m / wide * wide + m % wide ≡ m
    r = div-add-mod' m wide

    mb : macroblock_of wide Cb (column_of wide m n) (line_of wide m n) ≡ m
    mb =
        let a : (8 * (m / wide) + n % 64 / 8) / 8 ≡ m / wide = omega arith in
        let b : (8 * (m % wide) + n % 8) / 8 ≡ m % wide = omega arith in
        rw (a, b) r

    by_half : (n < 64) ⊎ (64 ≤ n) → buried wide slots sheet p (column_of wide m n) (line_of wide m n) ≡ slot_pair slots sheet m n
    by_half (inl h) =
        let e : Cb ≡ p = sym (cb_sample n h) ∙ is in
        let number : number_in_block (column_of wide m n) (line_of wide m n) ≡ n = omega arith in
        subst (λ (q : Plane). buried wide slots sheet q (column_of wide m n) (line_of wide m n) ≡ slot_pair slots sheet m n) e
        (ap (λ u. slot_pair slots sheet u (number_in_block (column_of wide m n) (line_of wide m n))) mb ∙ ap (slot_pair slots sheet m) number)
    by_half (inr h) =
        let e : Cr ≡ p = sym (cr_sample n h) ∙ is in
        let number : 64 + number_in_block (column_of wide m n) (line_of wide m n) ≡ n = omega arith in
        subst (λ (q : Plane). buried wide slots sheet q (column_of wide m n) (line_of wide m n) ≡ slot_pair slots sheet m n) e
        (ap (λ u. slot_pair slots sheet u (64 + number_in_block (column_of wide m n) (line_of wide m n))) mb ∙ ap (slot_pair slots sheet m) number)

size_of_chroma : (n : ℕ) → mb_size (plane_of n) ≡ 8
size_of_chroma n = elim (cases_lt n 64) [ inl h ↦ ap mb_size (cb_sample n h) | inr h ↦ ap mb_size (cr_sample n h) ]

pub pair_back : (f : Planes) (slots sheet : List ℕ) (m n : ℕ) → m < f.mb_wide * f.mb_high → n < 128 → pair_in f.mb_wide f.mb_high (frame_of f slots sheet) m n ≡ slot_pair slots sheet m n
pair_back f slots sheet m n below small =
    let r = in_rows f.mb_wide f.mb_high m below in
    let size = size_of_chroma n in
    let column : column_of f.mb_wide m n < mb_size (plane_of n) * f.mb_wide = rw size (let a = r.column_in in omega arith) in
    let line : line_of f.mb_wide m n < mb_size (plane_of n) * f.mb_high = rw size (let a = r.row_in in omega arith) in
    let here = sample_of_frame f.mb_wide f.mb_high (buried_sample f slots sheet) (plane_of n) (column_of f.mb_wide m n) (line_of f.mb_wide m n) column line in
    let is = pair_at f.mb_wide f.mb_high slots sheet m n (plane_of n) below small refl in
    ap (λ v. v % 4) here ∙ (pair_left (sample_of f (plane_of n) (column_of f.mb_wide m n) (line_of f.mb_wide m n)) _ (small_buried f.mb_wide slots sheet (plane_of n) (column_of f.mb_wide m n) (line_of f.mb_wide m n)) ∙ is)

pub byte_back : (f : Planes) (slots sheet : List ℕ) (m b : ℕ) → m < f.mb_wide * f.mb_high → b < 32 → slot_byte slots sheet m b < 256 → byte_in f.mb_wide f.mb_high (frame_of f slots sheet) m b ≡ slot_byte slots sheet m b
byte_back f slots sheet m b below small fits =
    let four : (i n : ℕ) → i < 4 → n ≡ 4 * b + i → pair_in f.mb_wide f.mb_high (frame_of f slots sheet) m n ≡ pair_of (slot_byte slots sheet m b) i = λ (i : ℕ) (n : ℕ) h e.
    let q : n / 4 ≡ b = omega arith in
    let r : n % 4 ≡ i = omega arith in
    pair_back f slots sheet m n below (omega arith) ∙ (ap (λ j. pair_of (slot_byte slots sheet m j) (n % 4)) q ∙ ap (pair_of (slot_byte slots sheet m b)) r) in
    rw (four 0 (4 * b) (omega arith) (omega arith), four 1 (4 * b + 1) (omega arith) refl, four 2 (4 * b + 2) (omega arith) refl, four 3 (4 * b + 3) (omega arith) refl)
    (byte_of_pairs (slot_byte slots sheet m b) fits)

decision_byte : (slots sheet : List ℕ) (m b : ℕ) → b < 20 → slot_byte slots sheet m b ≡ get_or slots (20 * m + b) 0
decision_byte slots sheet m b h = rw (lt-ltb b 20 h) refl

share_byte : (slots sheet : List ℕ) (m b : ℕ) → slot_byte slots sheet m (20 + b) ≡ get_or sheet (12 * m + b) 0
share_byte slots sheet m b =
    let e : 20 + b - 20 ≡ b = omega arith in
    let h : 20 ≤ 20 + b = omega arith in
    rw (le-ltb (20 + b) 20 h, e) refl

slots_back : (f : Planes) (slots sheet : List ℕ) → FitsPicture slots sheet f → slots_in f.mb_wide f.mb_high (frame_of f slots sheet) ≡ slots
unfolding slots_in
slots_back f slots sheet fit =
    let g = slots_at f.mb_wide f.mb_high (frame_of f slots sheet) in
    let n : ℕ = 20 * (f.mb_wide * f.mb_high) in
    let long = length-map-range_with_len g 0 n in
    same_number_lists _ slots (long ∙ sym fit.slots_size) (λ i h.
    let below : i < n = omega (arith, long) in
    let m : i / 20 < f.mb_wide * f.mb_high = omega arith in
    let b : i % 20 < 20 = omega arith in
    let place : 20 * (i / 20) + i % 20 ≡ i = omega arith in
    let byte = decision_byte slots sheet (i / 20) (i % 20) b in
    get_or-map-range_with_len g 0 n i i 0 below (omega arith)
    ∙ (byte_back f slots sheet (i / 20) (i % 20) m (omega arith) (rw byte (fit.slot_bytes _)) ∙ (byte ∙ ap (λ j. get_or slots j 0) place)))

sheet_back : (f : Planes) (slots sheet : List ℕ) → FitsPicture slots sheet f → sheet_in f.mb_wide f.mb_high (frame_of f slots sheet) ≡ sheet
unfolding sheet_in
sheet_back f slots sheet fit =
    let g = sheet_at f.mb_wide f.mb_high (frame_of f slots sheet) in
    let n : ℕ = 12 * (f.mb_wide * f.mb_high) in
    let long = length-map-range_with_len g 0 n in
    same_number_lists _ sheet (long ∙ sym fit.sheet_size) (λ i h.
    let below : i < n = omega (arith, long) in
    let m : i / 12 < f.mb_wide * f.mb_high = omega arith in
    let place : 12 * (i / 12) + i % 12 ≡ i = omega arith in
    let byte = share_byte slots sheet (i / 12) (i % 12) in
    get_or-map-range_with_len g 0 n i i 0 below (omega arith)
    ∙ (byte_back f slots sheet (i / 12) (20 + i % 12) m (omega arith) (rw byte (fit.sheet_bytes _)) ∙ (byte ∙ ap (λ j. get_or sheet j 0) place)))

picture_back : (f : Planes) (slots sheet : List ℕ) → IsWhole f → source_of f.mb_wide f.mb_high (frame_of f slots sheet) ≡ f
picture_back f slots sheet whole =
    let at : Plane → ℕ → ℕ → ℕ = λ p x y. sample_in f.mb_wide f.mb_high (frame_of f slots sheet) p x y / 4 in
    let g : Planes = source_of f.mb_wide f.mb_high (frame_of f slots sheet) in
    let size : SameSize f g = record { wide = refl; high = refl; count = whole_picture f.mb_wide f.mb_high at ∙ sym whole } in
    same_picture f g whole size (λ p x y h.
    sample_of-picture_of f.mb_wide f.mb_high at p x y h.0 h.1
    ∙ (ap (λ v. v / 4) (sample_of_frame f.mb_wide f.mb_high (buried_sample f slots sheet) p x y h.0 h.1)
    ∙ sample_left (sample_of f p x y) _ (small_buried f.mb_wide slots sheet p x y)))

pub buried_comes_back : BuriedComesBack
buried_comes_back f slots sheet whole fit = record {
  same_slots = slots_back f slots sheet fit;
  same_sheet = sheet_back f slots sheet fit;
  same_picture = picture_back f slots sheet whole;
}
