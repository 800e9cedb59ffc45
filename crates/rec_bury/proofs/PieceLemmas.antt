-- The bytes of a frame without its seal, piece by piece.
use Rattle.std.proofs.Common.{◌≡◌, ℕ, zero, suc, ◌+◌, ◌-◌, ◌*◌, ◌/◌, ◌%◌, ◌<◌, ◌≤◌, ◌∙◌, ◌⊎◌, inl, inr, List, ◌++◌, take, drop, length, get_or, arith, ap, refl, sym, Bool, true, false, length-append, length-drop}
use Rattle.std.specs.Prelude.{nat_le, ◌&&◌, ◌==◌}
use Rattle.std.proofs.lemmas.Bool.{cases_lt, le-leb, lt-leb}
use Rattle.std.proofs.lemmas.Grind.{same_number_lists}
use Rattle.std.proofs.lemmas.List.{get_or_append_left, get_or-append_right, get_or-take, get_or-drop, length-take-le, take_all}
use Rattle.mv_planes.specs.declared.picture.Plane.{Plane}
use Rattle.mv_planes.specs.declared.picture.Plane.TheVariants.{Y, Cb, Cr}
use Rattle.mv_planes.specs.Planes.{Planes, place_of, IsInside}
use Rattle.mv_planes.proofs.Places.{place_in}
use Rattle.mv_planes.specs.Raster.{picture_of}
use Rattle.mv_planes.proofs.RasterLaws.{whole_picture, sample_of-picture_of}
use Rattle.rec_bury.proofs.ChromaLemmas.{row_inside}
use Rattle.rec_bury.proofs.FrameLemmas.{low_byte, high_byte, length-bytes}
use Rattle.mv_planes.specs.Layout.{macroblock_of}
use Rattle.mv_planes.proofs.Places.{in_rows}
use Rattle.rec_bury.specs.Buried.{number_in_block}
use Rattle.rec_bury.specs.Exhumed.{sample_in}
use Rattle.rec_bury.specs.Seals.{without_pair, has_seal, unsealed}
use Rattle.rec_bury.specs.Steps.{IsPiece, piece_byte}

-- one more piece of a list
pub take_joined : (all piece : List ℕ) (n m : ℕ) → m ≡ n + length piece → m ≤ length all → ((j : ℕ) → j < length piece → get_or piece j 0 ≡ get_or all (n + j) 0) → take n all ++ piece ≡ take m all
take_joined all piece n m size inside same =
    let front : length (take n all) ≡ n = length-take-le n all (omega arith) in
    let whole : length (take m all) ≡ m = length-take-le m all inside in
    let sizes : length (take n all ++ piece) ≡ length (take m all) = omega (arith, length-append (take n all) piece, front, whole) in
    same_number_lists (take n all ++ piece) (take m all) sizes (λ i h. each i (omega (arith, sizes, whole)) (cases_lt i n))
  where
    each : (i : ℕ) → i < m → (i < n) ⊎ (n ≤ i) → get_or (take n all ++ piece) i 0 ≡ get_or (take m all) i 0
    each i h (inl sooner) =
        let front : length (take n all) ≡ n = length-take-le n all (omega arith) in
        get_or_append_left (take n all) piece 0 i (omega arith) ∙ (get_or-take n all i 0 sooner ∙ sym (get_or-take m all i 0 h))
    each i h (inr later) =
        let front : length (take n all) ≡ n = length-take-le n all (omega arith) in
        let back : n + (i - n) ≡ i = omega arith in
        get_or-append_right (take n all) piece n i 0 front later ∙ (same (i - n) (omega arith) ∙ (ap (λ k. get_or all k 0) back ∙ sym (get_or-take m all i 0 h)))

low_cleared : (t : Bool) (lo hi : ℕ) → lo < 256 → without_pair t (lo + 256 * hi) % 256 ≡ piece_byte t 0 lo
low_cleared true lo hi h = omega arith
low_cleared false lo hi h = omega arith

high_cleared : (t : Bool) (lo hi : ℕ) → lo < 256 → without_pair t (lo + 256 * hi) / 256 ≡ piece_byte t 1 hi
high_cleared true lo hi h = omega arith
high_cleared false lo hi h = omega arith

abbrev cleared_at : ℕ → ℕ → List ℕ → Plane → ℕ → ℕ → ℕ
cleared_at wide high frame p x y = without_pair (has_seal wide high p x y) (sample_in wide high frame p x y)

abbrev sized : ℕ → ℕ → List ℕ → Planes
sized wide high frame = record { mb_wide = wide; mb_high = high; samples = frame }

pub length-unsealed : (wide high : ℕ) (frame : List ℕ) → length (unsealed wide high frame) ≡ 768 * (wide * high)
length-unsealed wide high frame = omega (arith, length-bytes (picture_of wide high (cleared_at wide high frame)).samples, whole_picture wide high (cleared_at wide high frame))

-- the two bytes at a place
pub unsealed_byte : (wide high : ℕ) (frame : List ℕ) (p : Plane) (x y e i : ℕ) → ((k : ℕ) → get_or frame k 0 < 256) → IsInside (sized wide high frame) p x y → e < 2 → i ≡ 2 * place_of (sized wide high frame) p x y + e
    → get_or (unsealed wide high frame) i 0 ≡ piece_byte (has_seal wide high p x y) e (get_or frame i 0)
unsealed_byte wide high frame p x y e i fits inside small is = by_half e small is
  where
    g : Planes
    g = picture_of wide high (cleared_at wide high frame)

    place : ℕ
    place = place_of (sized wide high frame) p x y

    below : place_of (picture_of wide high (cleared_at wide high frame)) p x y < length (picture_of wide high (cleared_at wide high frame)).samples
    below = place_in (picture_of wide high (cleared_at wide high frame)) p x y (whole_picture wide high (cleared_at wide high frame)) inside

    value : get_or (picture_of wide high (cleared_at wide high frame)).samples (place_of (sized wide high frame) p x y) 0 ≡ cleared_at wide high frame p x y
    value = sample_of-picture_of wide high (cleared_at wide high frame) p x y inside.0 inside.1

    by_half : (e : ℕ) → e < 2 → i ≡ 2 * place_of (sized wide high frame) p x y + e → get_or (unsealed wide high frame) i 0 ≡ piece_byte (has_seal wide high p x y) e (get_or frame i 0)
    by_half zero h is =
        let even : i ≡ 2 * place_of (sized wide high frame) p x y = omega arith in
        low_byte (picture_of wide high (cleared_at wide high frame)).samples (place_of (sized wide high frame) p x y) i below even
        ∙ (ap (λ v. v % 256) value ∙ (low_cleared (has_seal wide high p x y) _ _ (fits _) ∙ ap (λ k. piece_byte (has_seal wide high p x y) 0 (get_or frame k 0)) (sym even)))
    by_half (suc zero) h is =
        high_byte (picture_of wide high (cleared_at wide high frame)).samples (place_of (sized wide high frame) p x y) i below is
        ∙ (ap (λ v. v / 256) value ∙ (high_cleared (has_seal wide high p x y) _ _ (fits _) ∙ ap (λ k. piece_byte (has_seal wide high p x y) 1 (get_or frame k 0)) (sym is)))
    by_half (suc (suc e)) h is = absurd (omega arith)

-- byte j of line y of Cr
pub line_byte : (wide high : ℕ) (frame : List ℕ) (y j : ℕ) → ((k : ℕ) → get_or frame k 0 < 256) → y < 8 * high → j < 16 * wide
    → get_or (unsealed wide high frame) (640 * (wide * high) + 16 * (y * wide) + j) 0 ≡ piece_byte (has_seal wide high Cr (j / 2) y) (j % 2) (get_or frame (640 * (wide * high) + 16 * (y * wide) + j) 0)
line_byte wide high frame y j fits below inside =
    unsealed_byte wide high frame Cr (j / 2) y (j % 2) (640 * (wide * high) + 16 * (y * wide) + j) fits (omega arith, below) (omega arith) (omega arith)

same_test : (a b c d : ℕ) → (a ≤ b → c ≤ d) → (c ≤ d → a ≤ b) → nat_le a b ≡ nat_le c d
same_test a b c d there back = elim (cases_lt b a) [
  | inl less ↦ lt-leb a b less ∙ sym (lt-leb c d (elim (cases_lt d c) [ inl k ↦ k | inr k ↦ absurd (let h = back k in omega arith) ]))
  | inr more ↦ le-leb a b more ∙ sym (le-leb c d (there more))
]

-- a line of Cr in a macroblock carries pairs of the seal as a whole or not at all
pub seal_by_line : (wide high x y : ℕ) → (nat_le 2 (y % 8) && nat_le (12 * (wide * high)) (12 * macroblock_of wide Cb x y + 2 * (y % 8) + 28)) ≡ has_seal wide high Cr x y
seal_by_line wide high x y =
    let a : nat_le 2 (y % 8) ≡ nat_le 16 (number_in_block x y) = same_test _ _ _ _ (λ h. omega arith) (λ h. omega arith) in
    let b : nat_le (12 * (wide * high)) (12 * macroblock_of wide Cb x y + 2 * (y % 8) + 28) ≡ nat_le (12 * (wide * high)) (12 * macroblock_of wide Cb x y + number_in_block x y / 4 + 28) = same_test _ _ _ _ (λ h. omega arith) (λ h. omega arith) in
    ap (λ t. t && nat_le (12 * (wide * high)) (12 * macroblock_of wide Cb x y + 2 * (y % 8) + 28)) a ∙ ap (λ t. nat_le 16 (number_in_block x y) && t) b

and_false : (t : Bool) → (t && false) ≡ false
and_false true = refl
and_false false = refl

-- lines above the last three macroblocks carry none
pub no_seal : (wide high x y : ℕ) → x < 8 * wide → y / 8 * wide + wide + 3 ≤ wide * high → has_seal wide high Cr x y ≡ false
no_seal wide high x y inside above =
    ap (λ t. nat_le 16 (number_in_block x y) && t) (lt-leb (12 * (wide * high)) (12 * macroblock_of wide Cb x y + number_in_block x y / 4 + 28) (omega arith)) ∙ and_false _

kept_byte : (e b : ℕ) → piece_byte false e b ≡ b
kept_byte e b = refl

pub line_as_it_stands : (wide high : ℕ) (frame : List ℕ) (y : ℕ) → ((k : ℕ) → get_or frame k 0 < 256) → y < 8 * high → y / 8 * wide + wide + 3 ≤ wide * high → (j : ℕ) → j < 16 * wide
    → get_or frame (640 * (wide * high) + 16 * (y * wide) + j) 0 ≡ get_or (unsealed wide high frame) (640 * (wide * high) + 16 * (y * wide) + j) 0
line_as_it_stands wide high frame y fits below above j inside =
    sym (line_byte wide high frame y j fits below inside ∙ ap (λ t. piece_byte t (j % 2) (get_or frame (640 * (wide * high) + 16 * (y * wide) + j) 0)) (no_seal wide high (j / 2) y (omega arith) above))

pub line_joined : (wide high : ℕ) (frame : List ℕ) (y : ℕ) → ((k : ℕ) → get_or frame k 0 < 256) → length frame ≡ 768 * (wide * high) → y < 8 * high → y / 8 * wide + wide + 3 ≤ wide * high
    → take (640 * (wide * high) + 16 * (y * wide)) (unsealed wide high frame) ++ take (640 * (wide * high) + 16 * (y * wide) + 16 * wide - (640 * (wide * high) + 16 * (y * wide))) (drop (640 * (wide * high) + 16 * (y * wide)) frame)
    ≡ take (640 * (wide * high) + 16 * ((y + 1) * wide)) (unsealed wide high frame)
line_joined wide high frame y fits size below above =
    let n : ℕ = 640 * (wide * high) + 16 * (y * wide) in
    let inside : 8 * (y * wide) + 8 * wide ≤ 64 * (wide * high) = row_inside wide high y below in
    let width : n + 16 * wide - n ≡ 16 * wide = omega arith in
    let long : length (take (n + 16 * wide - n) (drop n frame)) ≡ 16 * wide = length-take-le (n + 16 * wide - n) (drop n frame) (omega (arith, length-drop n frame)) ∙ width in
    take_joined (unsealed wide high frame) (take (n + 16 * wide - n) (drop n frame)) n (640 * (wide * high) + 16 * ((y + 1) * wide)) (omega (arith, long)) (omega (arith, length-unsealed wide high frame))
    (λ j h.
    let here : j < 16 * wide = omega (arith, long) in
    get_or-take (n + 16 * wide - n) (drop n frame) j 0 (omega arith) ∙ (get_or-drop n frame j 0 ∙ line_as_it_stands wide high frame y fits below above j here))

pub piece_joined : (wide high : ℕ) (frame : List ℕ) (y x : ℕ) (piece : List ℕ) (clear : Bool) → ((k : ℕ) → get_or frame k 0 < 256) → y < 8 * high → x < wide
    → clear ≡ (nat_le 2 (y % 8) && nat_le (12 * (wide * high)) (12 * (y / 8 * wide + x) + 2 * (y % 8) + 28))
    → IsPiece piece frame (640 * (wide * high) + 16 * (y * wide) + 16 * x) clear 16
    → take (640 * (wide * high) + 16 * (y * wide) + 16 * x) (unsealed wide high frame) ++ piece ≡ take (640 * (wide * high) + 16 * (y * wide) + 16 * (x + 1)) (unsealed wide high frame)
piece_joined wide high frame y x piece clear fits below inside is cleared =
    let n : ℕ = 640 * (wide * high) + 16 * (y * wide) in
    let room : 8 * (y * wide) + 8 * wide ≤ 64 * (wide * high) = row_inside wide high y below in
    take_joined (unsealed wide high frame) piece (n + 16 * x) (n + 16 * (x + 1)) (let l = cleared.long in omega arith) (omega (arith, length-unsealed wide high frame))
    (λ j h.
    let small : j < 16 = (let l = cleared.long in omega arith) in
    let column : (16 * x + j) / 2 / 8 ≡ x = omega arith in
    let parity : j % 2 ≡ (16 * x + j) % 2 % 2 = omega arith in
    let place : n + 16 * x + j ≡ n + (16 * x + j) = omega arith in
    let test : clear ≡ has_seal wide high Cr ((16 * x + j) / 2) y = is ∙ (ap (λ u. nat_le 2 (y % 8) && nat_le (12 * (wide * high)) (12 * (y / 8 * wide + u) + 2 * (y % 8) + 28)) (sym column) ∙ seal_by_line wide high ((16 * x + j) / 2) y) in
    cleared.value j small
    ∙ (ap (λ t. piece_byte t j (get_or frame (n + 16 * x + j) 0)) test
    ∙ (ap (λ r. without_pair (has_seal wide high Cr ((16 * x + j) / 2) y && (r == 0)) (get_or frame (n + 16 * x + j) 0)) parity
    ∙ (ap (λ k. piece_byte (has_seal wide high Cr ((16 * x + j) / 2) y) ((16 * x + j) % 2) (get_or frame k 0)) place
    ∙ (sym (line_byte wide high frame y (16 * x + j) fits below (omega arith)) ∙ ap (λ k. get_or (unsealed wide high frame) k 0) (sym place))))))

-- luma and Cb stand as they are
plain_byte : (wide high : ℕ) (frame : List ℕ) (i : ℕ) → ((k : ℕ) → get_or frame k 0 < 256) → i < 640 * (wide * high) → get_or frame i 0 ≡ get_or (unsealed wide high frame) i 0
plain_byte wide high frame i fits below = by_plane (cases_lt (i / 2) (256 * (wide * high)))
  where
    by_plane : (i / 2 < 256 * (wide * high)) ⊎ (256 * (wide * high) ≤ i / 2) → get_or frame i 0 ≡ get_or (unsealed wide high frame) i 0
    by_plane (inl a) =
        let r = in_rows (16 * wide) (16 * high) (i / 2) (omega arith) in
        sym (unsealed_byte wide high frame Y (i / 2 % (16 * wide)) (i / 2 / (16 * wide)) (i % 2) i fits (r.column_in, r.row_in) (omega arith) (omega (arith, r.number)))
    by_plane (inr a) =
        let k : ℕ = i / 2 - 256 * (wide * high) in
        let r = in_rows (8 * wide) (8 * high) (i / 2 - 256 * (wide * high)) (omega arith) in
        sym (unsealed_byte wide high frame Cb (k % (8 * wide)) (k / (8 * wide)) (i % 2) i fits (r.column_in, r.row_in) (omega arith) (omega (arith, r.number)))

pub plain_front : (wide high : ℕ) (frame : List ℕ) → ((k : ℕ) → get_or frame k 0 < 256) → length frame ≡ 768 * (wide * high) → take (640 * (wide * high)) frame ≡ take (640 * (wide * high) + 16 * (0 * wide)) (unsealed wide high frame)
plain_front wide high frame fits size =
    let m : ℕ = 640 * (wide * high) in
    let none : 640 * (wide * high) + 16 * (0 * wide) ≡ m = omega arith in
    let long : length (take m frame) ≡ m = length-take-le m frame (omega arith) in
    rw none (take_joined (unsealed wide high frame) (take m frame) 0 m (omega (arith, long)) (omega (arith, length-unsealed wide high frame))
    (λ j h. get_or-take m frame j 0 (omega (arith, long)) ∙ (plain_byte wide high frame j fits (omega (arith, long)) ∙ ap (λ k. get_or (unsealed wide high frame) k 0) (omega arith))))

pub all_lines : (wide high y : ℕ) (frame : List ℕ) → y ≡ 8 * high → take (640 * (wide * high) + 16 * (y * wide)) (unsealed wide high frame) ≡ unsealed wide high frame
all_lines wide high y frame all =
    let rows : y * wide ≡ 8 * (wide * high) = rw all (omega arith) in
    take_all _ (unsealed wide high frame) (omega (arith, length-unsealed wide high frame, rows))

pub same_area : (w h wide high : ℕ) → w ≡ wide → h ≡ high → w * h ≡ wide * high
same_area w h wide high a b = rw (a, b) refl
