-- Rows and lines of a frame, and those of a picture of it.
use Rattle.std.proofs.Common.{◌≡◌, ℕ, ◌+◌, ◌*◌, ◌%◌, ◌<◌, ◌==◌, true, false, not, refl, ap, arith}
use Rattle.std.proofs.lemmas.Bool.{eqb-true}
use Rattle.mv_terms.specs.declared.head.Head.{Head}
use Rattle.mv_terms.specs.declared.head.Structure.{Structure}
use Rattle.mv_terms.specs.declared.head.Structure.TheVariants.{Frame, Top, Bottom}
use Rattle.mv_terms.specs.Structures.{IsOfFrame, are_opposite, frame_rows, has_line, is_field, is_frame, line_in, line_of_frame, rows_in, rows_of_frame}

pub field_or_frame : (s : Structure) → is_field s ≡ not (is_frame s)
field_or_frame Frame = refl
field_or_frame Top = refl
field_or_frame Bottom = refl

-- ---- rows

-- a frame picture has the rows of its frame
pub rows_of_whole : (head : Head) → IsOfFrame head → frame_rows head ≡ head.mb_high
rows_of_whole head frame = ap (λ s. rows_of_frame s head.mb_high) frame.structure

-- a picture has half of an even number of rows, where it is a field
pub rows_back : (s : Structure) (half : ℕ) → rows_of_frame s (rows_in s (2 * half)) ≡ 2 * half
rows_back Frame half = refl
rows_back Top half = omega arith
rows_back Bottom half = omega arith

-- ---- lines

-- a line of the picture is a line of the frame that belongs to it
pub has_its_line : (s : Structure) (y : ℕ) → has_line s (line_of_frame s y) ≡ true
has_its_line Frame y = refl
has_its_line Top y = let m : (2 * y) % 2 ≡ 0 = omega arith in rw m refl
has_its_line Bottom y = let m : (2 * y + 1) % 2 ≡ 1 = omega arith in rw m refl

pub line_back : (s : Structure) (y : ℕ) → line_in s (line_of_frame s y) ≡ y
line_back Frame y = refl
line_back Top y = omega arith
line_back Bottom y = omega arith

pub line_again : (s : Structure) (y : ℕ) → has_line s y ≡ true → line_of_frame s (line_in s y) ≡ y
line_again Frame y h = refl
line_again Top y h = let m : y % 2 ≡ 0 = eqb-true (y % 2) 0 h in omega (arith, m)
line_again Bottom y h = let m : y % 2 ≡ 1 = eqb-true (y % 2) 1 h in omega (arith, m)

twice : (size rows : ℕ) → size * (2 * rows) ≡ 2 * (size * rows)
twice size rows = omega arith

-- a line lies in the picture where it lies in the frame, by rows of so many lines
pub line_below : (s : Structure) (size rows y : ℕ) → y < size * rows_of_frame s rows → line_in s y < size * rows
line_below Frame size rows y h = h
line_below Top size rows y h = let e = twice size rows in omega (arith, e)
line_below Bottom size rows y h = let e = twice size rows in omega (arith, e)

pub frame_line_below : (s : Structure) (size rows y : ℕ) → y < size * rows → line_of_frame s y < size * rows_of_frame s rows
frame_line_below Frame size rows y h = h
frame_line_below Top size rows y h = let e = twice size rows in omega (arith, e)
frame_line_below Bottom size rows y h = let e = twice size rows in omega (arith, e)

-- ---- two fields

odd : (rest : ℕ) → rest < 2 → (rest == 0) ≡ false → (rest == 1) ≡ true
odd rest small e = grind arith

even : (rest : ℕ) → rest < 2 → (rest == 1) ≡ false → (rest == 0) ≡ true
even rest small e = grind arith

-- a line that isn't of one field is of the other
pub other_has_line : (s t : Structure) (y : ℕ) → are_opposite s t ≡ true → has_line t y ≡ false → has_line s y ≡ true
other_has_line Top Bottom y o h = even (y % 2) (omega arith) h
other_has_line Bottom Top y o h = odd (y % 2) (omega arith) h
other_has_line Frame t y o h = absurd cc
other_has_line Top Top y o h = absurd cc
other_has_line Top Frame y o h = absurd cc
other_has_line Bottom Bottom y o h = absurd cc
other_has_line Bottom Frame y o h = absurd cc

-- and of one of them alone
pub not_both : (s t : Structure) (y : ℕ) → are_opposite s t ≡ true → has_line t y ≡ true → has_line s y ≡ false
not_both Top Bottom y o h = let m : y % 2 ≡ 1 = eqb-true (y % 2) 1 h in rw m refl
not_both Bottom Top y o h = let m : y % 2 ≡ 0 = eqb-true (y % 2) 0 h in rw m refl
not_both Frame t y o h = absurd cc
not_both Top Top y o h = absurd cc
not_both Top Frame y o h = absurd cc
not_both Bottom Bottom y o h = absurd cc
not_both Bottom Frame y o h = absurd cc

pub opposite_fields : (s t : Structure) → are_opposite s t ≡ true → is_field t ≡ true
opposite_fields Top Bottom o = refl
opposite_fields Bottom Top o = refl
opposite_fields Frame t o = absurd cc
opposite_fields Top Top o = absurd cc
opposite_fields Top Frame o = absurd cc
opposite_fields Bottom Bottom o = absurd cc
opposite_fields Bottom Frame o = absurd cc
