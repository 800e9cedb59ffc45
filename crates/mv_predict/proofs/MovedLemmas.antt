-- Places moved by a vector.
use Rattle.std.proofs.Common.{◌≡◌, ◌∙◌, ◌<◌, ℕ, ◌+◌, ◌*◌, ◌/◌, ◌%◌, Bool, true, false, true≢false, Option, None, Some, ℤ, pos, negsuc, ◌+ℤ◌, ◌≤ℤ◌, zero, suc, arith, ap, refl, sym, length}
use Rattle.std.specs.Prelude.{not, ◌==◌, ◌&&◌, slice_index}
use native.Mathlib.Numerals.{unary_clauses}
use Rattle.std.proofs.lemmas.Int.{ints}
use Rattle.mv_planes.specs.declared.picture.Plane.{Plane}
use Rattle.mv_planes.specs.declared.picture.Plane.TheVariants.{Y, Cb, Cr}
use Rattle.mv_planes.specs.Planes.{Planes, IsWhole, width_of, height_of, place_of}
use Rattle.mv_planes.proofs.Places.{place_in}
use Rattle.mv_vectors.specs.Inside.{whole_samples}
use Rattle.mv_terms.specs.declared.macroblock.Decision.{Decision}
use Rattle.mv_terms.specs.declared.macroblock.Vector.{Vector}
use Rattle.mv_predict.specs.declared.kernel.Lines.{Lines}
use Rattle.mv_predict.specs.Prediction.{Source, moved, natural, line_in, vector_in, half_way, sample_in, predicted_from, has_direction, source_by, source_of}
use Rattle.mv_predict.specs.Steps.{IsReadable, value_at, quarter, lines_at, half_left, distance, AreInside, beside, beside_column, apart_in, rows_apart}

pub natural_of : (z : ℤ) → pos 0 ≤ℤ z → pos (natural z) ≡ z
natural_of (pos n) h = refl
natural_of (negsuc n) h = absurd (omega (arith, ints, h))

pub moved_more : (x c : ℕ) (a : ℤ) → pos 0 ≤ℤ (pos x +ℤ whole_samples a) → moved (x + c) a ≡ moved x a + c
moved_more x c a h =
    let here : pos (moved x a) ≡ pos x +ℤ whole_samples a = natural_of (pos x +ℤ whole_samples a) h in
    let there : pos (x + c) +ℤ whole_samples a ≡ pos (moved x a + c) = omega (arith, ints, here) in
    ap natural there

-- the last sample that the lines take lies in the list
far : (f : Planes) (p : Plane) (field : Option Bool) (mx my step hx hy : ℕ) → IsWhole f → mx + beside_column p + 7 + hx < width_of f p → line_in field (my + 3 * rows_apart field step + hy) < height_of f p
    → place_of f p mx (line_in field my) + apart_in f p + 3 * (2 * step * width_of f p) + 7 + hy * distance f p field + hx < length f.samples
far f Y None mx my step hx hy whole r b = omega (arith, place_in f Y (mx + 8 + 7 + hx) (my + 3 * (2 * step) + hy) whole (r, b))
far f Y (Some true) mx my step hx hy whole r b = omega (arith, place_in f Y (mx + 8 + 7 + hx) (2 * (my + 3 * step + hy) + 1) whole (r, b))
far f Y (Some false) mx my step hx hy whole r b = omega (arith, place_in f Y (mx + 8 + 7 + hx) (2 * (my + 3 * step + hy) + 0) whole (r, b))
far f Cb None mx my step hx hy whole r b = omega (arith, place_in f Cr (mx + 0 + 7 + hx) (my + 3 * (2 * step) + hy) whole (r, b))
far f Cb (Some true) mx my step hx hy whole r b = omega (arith, place_in f Cr (mx + 0 + 7 + hx) (2 * (my + 3 * step + hy) + 1) whole (r, b))
far f Cb (Some false) mx my step hx hy whole r b = omega (arith, place_in f Cr (mx + 0 + 7 + hx) (2 * (my + 3 * step + hy) + 0) whole (r, b))
far f Cr None mx my step hx hy whole r b = omega (arith, place_in f Cr (mx + 0 + 7 + hx) (my + 3 * (2 * step) + hy) whole (r, b))
far f Cr (Some true) mx my step hx hy whole r b = omega (arith, place_in f Cr (mx + 0 + 7 + hx) (2 * (my + 3 * step + hy) + 1) whole (r, b))
far f Cr (Some false) mx my step hx hy whole r b = omega (arith, place_in f Cr (mx + 0 + 7 + hx) (2 * (my + 3 * step + hy) + 0) whole (r, b))

pub readable : (f : Planes) (p : Plane) (x : ℕ) (s : Source) (step : ℕ) → IsWhole f → AreInside f p x s step → IsReadable f.samples (lines_at f p x s step)
readable f p x s step whole h = far f p s.field _ _ step _ _ whole h.right h.bottom

-- the places of the samples of a line
same_place : (f : Planes) (p : Plane) (field : Option Bool) (mx my step k c hx hy : ℕ)
    → place_of f p mx (line_in field my) + k * (2 * step * width_of f p) + c + hy * distance f p field + hx ≡ place_of f p (mx + c + hx) (line_in field (my + k * rows_apart field step + hy))
same_place f p None mx my step k c hx hy = omega arith
same_place f p (Some true) mx my step k c hx hy = omega arith
same_place f p (Some false) mx my step k c hx hy = omega arith

-- a quarter of four samples by the half samples
four : (g : ℕ → ℕ → ℕ) (x y hx hy : ℕ) → hx < 2 → hy < 2
    → (g x y + g (x + hx) y + g x (y + hy) + g (x + hx) (y + hy) + 2) / 4 ≡ half_way g x y (not (hx == 0)) (not (hy == 0))
four g x y zero zero r d = simp unary_clauses (omega arith)
four g x y (suc zero) zero r d = simp unary_clauses (omega arith)
four g x y zero (suc zero) r d = simp unary_clauses (omega arith)
four g x y (suc zero) (suc zero) r d = simp unary_clauses refl
four g x y (suc (suc n)) hy r d = absurd (omega arith)
four g x y hx (suc (suc n)) r d = absurd (omega arith)

pub half_small : (a : ℤ) → half_left a < 2
half_small (pos n) = omega (arith, ints)
half_small (negsuc n) = omega (arith, ints)

-- a source some lines further on
abbrev pub further : Source → ℕ → Source
further s lines = record s { line = s.line + lines }

-- a sample of the list by its place
at_place : (f : Planes) (p : Plane) (field : Option Bool) (mx my step k c hx hy i u w : ℕ) → i ≡ place_of f p mx (line_in field my) + k * (2 * step * width_of f p) + c + hy * distance f p field + hx
    → mx + c + hx ≡ u → my + k * rows_apart field step + hy ≡ w → slice_index f.samples i ≡ sample_in f p field u w
at_place f p field mx my step k c hx hy i u w e across down = rw (e ∙ same_place f p field mx my step k c hx hy, across, down) refl

quarter_of : (f : Planes) (p : Plane) (field : Option Bool) (mx my step k c hx hy at : ℕ) → at ≡ place_of f p mx (line_in field my) + k * (2 * step * width_of f p) + c → hx < 2 → hy < 2
    → quarter f.samples at hx (hy * distance f p field) ≡ half_way (sample_in f p field) (mx + c) (my + k * rows_apart field step) (not (hx == 0)) (not (hy == 0))
quarter_of f p field mx my step k c hx hy at e r d =
    let x = mx + c in
    let y = my + k * rows_apart field step in
    let here = at_place f p field mx my step k c 0 0 at x y (omega (arith, e)) (omega arith) (omega arith) in
    let across = at_place f p field mx my step k c hx 0 (at + hx) (x + hx) y (omega (arith, e)) refl (omega arith) in
    let under = at_place f p field mx my step k c 0 hy (at + hy * distance f p field) x (y + hy) (omega (arith, e)) (omega arith) refl in
    let both = at_place f p field mx my step k c hx hy (at + hy * distance f p field + hx) (x + hx) (y + hy) (omega (arith, e)) refl refl in
    rw (here, across, under, both) (four (sample_in f p field) x y hx hy r d)

pub value_of : (f : Planes) (p : Plane) (x : ℕ) (s : Source) (step k c : ℕ) → AreInside f p x s step
    → value_at f.samples (lines_at f p x s step) (lines_at f p x s step).at k c ≡ predicted_from f (further s (k * rows_apart s.field step)) p (x + c)
unfolding predicted_from
value_of f p x s step k c h =
    let v = vector_in p s.vector in
    let n = k * rows_apart s.field step in
    let across : moved (x + c) v.x ≡ moved x v.x + c = moved_more x c v.x h.left in
    let down : moved (s.line + n) v.y ≡ moved s.line v.y + n = moved_more s.line n v.y h.top in
    let q = quarter_of f p s.field (moved x v.x) (moved s.line v.y) step k c (half_left v.x) (half_left v.y) _ refl (half_small v.x) (half_small v.y) in
    rw (across, down) q

-- the same of the second eight of a line
pub value_beside : (f : Planes) (p : Plane) (x : ℕ) (s : Source) (step k c : ℕ) → AreInside f p x s step
    → value_at f.samples (lines_at f p x s step) ((lines_at f p x s step).at + apart_in f p) k c ≡ predicted_from f (further s (k * rows_apart s.field step)) (beside p) (x + beside_column p + c)
value_beside f Y x s step k c h =
    let same : (lines_at f Y x s step).at + 8 + k * (2 * step * width_of f Y) + c ≡ (lines_at f Y x s step).at + k * (2 * step * width_of f Y) + (8 + c) = omega arith in
    let column : x + 8 + c ≡ x + (8 + c) = omega arith in
    rw (same, column) (value_of f Y x s step k (8 + c) h)
value_beside f Cb x s step k c h =
    let other : AreInside f Cr x s step = record { left = h.left; top = h.top; right = h.right; bottom = h.bottom } in
    let same : (lines_at f Cb x s step).at + 64 * (f.mb_wide * f.mb_high) ≡ (lines_at f Cr x s step).at = omega arith in
    let column : x + 0 + c ≡ x + c = omega arith in
    rw (same, column) (value_of f Cr x s step k c other)
value_beside f Cr x s step k c h =
    let same : (lines_at f Cr x s step).at + 0 ≡ (lines_at f Cr x s step).at = omega arith in
    let column : x + 0 + c ≡ x + c = omega arith in
    rw (same, column) (value_of f Cr x s step k c h)

-- the source of a row further on, in lines of the same field
source_by_more : (has field : Bool) (d : Decision) (s y n step : ℕ) → source_by has field d s (y + 2 * (n * step)) ≡ further (source_by has field d s y) (n * rows_apart (source_by has field d s y).field step)
source_by_more false field d s y n step =
    let same : y + 2 * (n * step) ≡ y + n * (2 * step) = omega arith in
    rw same refl
source_by_more true false d s y n step =
    let same : y + 2 * (n * step) ≡ y + n * (2 * step) = omega arith in
    rw same refl
source_by_more true true d s y n step =
    let parity : (y + 2 * (n * step)) % 2 ≡ y % 2 = omega arith in
    let line : (y + 2 * (n * step)) / 2 ≡ y / 2 + n * step = omega arith in
    rw (parity, line) refl

pub source_more : (d : Decision) (s y n step : ℕ) → further (source_of d s y) (n * rows_apart (source_of d s y).field step) ≡ source_of d s (y + 2 * (n * step))
unfolding source_of
source_more d s y n step = sym (source_by_more (has_direction d s) d.field_motion d s y n step)

-- lines that begin so many samples further on
abbrev behind : Lines → ℕ → Lines
behind s n = record s { at = s.at + n }

begun : (a b apart stride right down : ℕ) → a ≡ b
    → ◌≡◌ {A = Lines} (record { at = a; apart = apart; stride = stride; right = right; down = down }) (record { at = b; apart = apart; stride = stride; right = right; down = down })
begun a b apart stride right down e = rw e refl

-- the lines of a frame that begin some lines further on
frame_below : (f : Planes) (p : Plane) (x y n step : ℕ) (v : Vector) → pos 0 ≤ℤ (pos y +ℤ whole_samples (vector_in p v).y)
    → behind (lines_at f p x (record { field = None; vector = v; line = y }) step) (n * width_of f p) ≡ lines_at f p x (record { field = None; vector = v; line = y + n }) step
frame_below f p x y n step v top =
    let down : moved (y + n) (vector_in p v).y ≡ moved y (vector_in p v).y + n = moved_more y n (vector_in p v).y top in
    rw down (begun _ _ _ _ _ _ (omega arith))

source_below : (has field : Bool) (f : Planes) (p : Plane) (x y n step : ℕ) (d : Decision) (s : ℕ) → (has && field) ≡ false → AreInside f p x (source_by has field d s y) step
    → behind (lines_at f p x (source_by has field d s y) step) (n * width_of f p) ≡ lines_at f p x (source_by has field d s (y + n)) step
source_below false field f p x y n step d s e h = frame_below f p x y n step _ h.top
source_below true false f p x y n step d s e h = frame_below f p x y n step _ h.top
source_below true true f p x y n step d s e h = absurd (true≢false e)

pub lines_below : (f : Planes) (p : Plane) (x y step : ℕ) (d : Decision) (s : ℕ) (even : Lines) → even ≡ lines_at f p x (source_of d s y) step → (has_direction d s && d.field_motion) ≡ false
    → AreInside f p x (source_of d s y) step → behind even (even.stride / 2) ≡ lines_at f p x (source_of d s (y + step)) step
unfolding source_of
lines_below f p x y step d s even same frame h =
    let half : 2 * step * width_of f p / 2 ≡ step * width_of f p = omega arith in
    rw (same, half) (source_below (has_direction d s) d.field_motion f p x y step step d s frame h)
