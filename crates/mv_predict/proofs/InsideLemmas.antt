-- What a macroblock with vectors inside takes lies in the picture.
use Rattle.std.proofs.Common.{◌≡◌, ◌<◌, ◌≤◌, ℕ, ◌+◌, ◌*◌, ◌/◌, ◌%◌, zero, suc, Bool, true, false, Option, None, Some, ℤ, pos, negsuc, ◌+ℤ◌, ◌≤ℤ◌, arith, refl, sym, true≢false}
use Rattle.std.specs.Prelude.{not, ◌&&◌, ◌||◌, int_lt}
use Rattle.std.proofs.lemmas.Int.{ints}
use Rattle.mv_terms.specs.declared.head.Head.{Head}
use Rattle.mv_terms.specs.declared.macroblock.Vector.{Vector}
use Rattle.mv_terms.specs.declared.macroblock.Decision.{Decision}
use Rattle.mv_planes.specs.declared.picture.Plane.{Plane}
use Rattle.mv_planes.specs.declared.picture.Plane.TheVariants.{Y, Cb}
use Rattle.mv_planes.specs.Planes.{Planes, width_of, height_of}
use Rattle.mv_planes.specs.Layout.{luma_top, luma_step}
use Rattle.mv_terms.specs.Decisions.{vector_of, select_of, still}
use Rattle.mv_vectors.specs.Inside.{chroma, whole_samples, half_sample, lies_in, is_vector_inside, is_direction_inside, is_inside}
use Rattle.mv_predict.specs.Prediction.{moved, vector_in, has_direction, source_by, source_of}
use Rattle.mv_predict.specs.Steps.{half_left, AreInside, SourcesInside, MacroblockInside, beside_column, rows_apart}
use Rattle.mv_predict.proofs.MovedLemmas.{natural_of, moved_more}

never : false ≡ true → ⊥
never e = true≢false (sym e)

both : (a b : Bool) → (a && b) ≡ true → (a ≡ true) × (b ≡ true)
both true b h = (refl, h)
both false b h = (h, grind (arith, h))

is_false : (t : Bool) → not t ≡ true → t ≡ false
is_false false h = refl
is_false true h = sym h

not_below : (a b : ℤ) → not (int_lt a b) ≡ true → b ≤ℤ a
not_below a b h =
    let e : int_lt a b ≡ false = is_false (int_lt a b) h in
    omega (arith, ints, e)

half_left_is : (a : ℤ) → pos (half_left a) ≡ half_sample a
half_left_is (pos n) = omega (arith, ints)
half_left_is (negsuc n) = omega (arith, ints)

-- so many samples from a place on, moved by a component, lie in a row or column of this size
pub record Reaches (from samples size : ℕ) (component : ℤ) : Type 0 where
  pub first : pos 0 ≤ℤ (pos from +ℤ whole_samples component)
  pub last : moved from component + samples + half_left component ≤ size

reaches : (from samples size : ℕ) (v : ℤ) → lies_in from samples size v ≡ true → Reaches from samples size v
reaches from samples size v h =
    let parts = both _ _ h in
    let first : pos 0 ≤ℤ (pos from +ℤ whole_samples v) = not_below _ _ parts.0 in
    let last : (pos (from + samples) +ℤ whole_samples v +ℤ half_sample v) ≤ℤ pos size = not_below _ _ parts.1 in
    let here : pos (moved from v) ≡ pos from +ℤ whole_samples v = natural_of _ first in
    record { first = first; last = omega (arith, ints, here, last, half_left_is v) }

-- a line behind the first of those that lie inside
line_inside : (from n size off : ℕ) (v : ℤ) → Reaches from n size v → off < n → (pos 0 ≤ℤ (pos (from + off) +ℤ whole_samples v)) × (moved (from + off) v + half_left v < size)
line_inside from n size off v r lt =
    let m : moved (from + off) v ≡ moved from v + off = moved_more from off v r.first in
    (omega (arith, ints, r.first), omega (arith, r.last, m, lt))

-- the lines of a plane, or of one of its fields
abbrev lines_in : Planes → Plane → Option Bool → ℕ → Type 0
lines_in f p None n = n ≡ height_of f p
lines_in f p (Some bottom) n = 2 * n ≡ height_of f p

-- what the lines of a source take lies inside, where the whole of the macroblock does
inside_of : (f : Planes) (p : Plane) (x from off n lines step : ℕ) (field : Option Bool) (v : Vector)
    → Reaches x (beside_column p + 8) (width_of f p) (vector_in p v).x → Reaches from n lines (vector_in p v).y → lines_in f p field lines
    → off + 3 * rows_apart field step < n → AreInside f p x (record { field = field; vector = v; line = from + off }) step
inside_of f p x from off n lines step None v r d e lt =
    let m : moved (from + off) (vector_in p v).y ≡ moved from (vector_in p v).y + off = moved_more from off (vector_in p v).y d.first in
    record { left = r.first; top = omega (arith, ints, d.first); right = omega (arith, r.last); bottom = omega (arith, d.last, m, lt, e) }
inside_of f p x from off n lines step (Some true) v r d e lt =
    let m : moved (from + off) (vector_in p v).y ≡ moved from (vector_in p v).y + off = moved_more from off (vector_in p v).y d.first in
    record { left = r.first; top = omega (arith, ints, d.first); right = omega (arith, r.last); bottom = omega (arith, d.last, m, lt, e) }
inside_of f p x from off n lines step (Some false) v r d e lt =
    let m : moved (from + off) (vector_in p v).y ≡ moved from (vector_in p v).y + off = moved_more from off (vector_in p v).y d.first in
    record { left = r.first; top = omega (arith, ints, d.first); right = omega (arith, r.last); bottom = omega (arith, d.last, m, lt, e) }

-- a vector leads to samples of the picture, from all places of a macroblock with so many lines of luma
record VectorInside (f : Planes) (n half mb_x mb_y : ℕ) (v : Vector) : Type 0 where
  luma_x : Reaches (16 * mb_x) 16 (16 * f.mb_wide) v.x
  luma_y : Reaches (n * mb_y) n (n * f.mb_high) v.y
  chroma_x : Reaches (8 * mb_x) 8 (8 * f.mb_wide) (chroma v).x
  chroma_y : Reaches (half * mb_y) half (half * f.mb_high) (chroma v).y

vector_inside : (f : Planes) (head : Head) (n mb_x mb_y : ℕ) (v : Vector) → f.mb_wide ≡ head.mb_wide → f.mb_high ≡ head.mb_high → is_vector_inside head n mb_x mb_y v ≡ true → VectorInside f n (n / 2) mb_x mb_y v
vector_inside f head n mb_x mb_y v wide high h =
    let lx : Bool = lies_in (16 * mb_x) 16 (16 * head.mb_wide) v.x in
    let ly : Bool = lies_in (n * mb_y) n (n * head.mb_high) v.y in
    let cx : Bool = lies_in (8 * mb_x) 8 (8 * head.mb_wide) (chroma v).x in
    let cy : Bool = lies_in (n / 2 * mb_y) (n / 2) (n / 2 * head.mb_high) (chroma v).y in
    let a = both (lx && ly && cx) cy h in
    let b = both (lx && ly) cx a.0 in
    let c = both lx ly b.0 in
    record {
      luma_x = rw wide (reaches _ _ _ _ c.0);
      luma_y = rw high (reaches _ _ _ _ c.1);
      chroma_x = rw wide (reaches _ _ _ _ b.1);
      chroma_y = rw high (reaches _ _ _ _ a.1);
    }

still_reaches : (from samples size : ℕ) → from + samples ≤ size → Reaches from samples size (pos 0)
still_reaches from samples size h = record { first = omega (arith, ints); last = omega (arith, ints, h, natural_of (pos from +ℤ whole_samples (pos 0)) (omega (arith, ints))) }

still_inside : (f : Planes) (mb_x mb_y : ℕ) → mb_x < f.mb_wide → mb_y < f.mb_high → VectorInside f 16 8 mb_x mb_y still
still_inside f mb_x mb_y x y = record {
  luma_x = still_reaches _ _ _ (omega (arith, x));
  luma_y = still_reaches _ _ _ (omega (arith, y));
  chroma_x = still_reaches _ _ _ (omega (arith, x));
  chroma_y = still_reaches _ _ _ (omega (arith, y));
}

-- the vectors of a direction do, by whether it has any, and field motion
record DirectionInside (has field_motion : Bool) (f : Planes) (d : Decision) (s mb_x mb_y : ℕ) : Type 0 where
  across : mb_x < f.mb_wide
  down : mb_y < f.mb_high
  frame : has ≡ true → field_motion ≡ false → VectorInside f 16 8 mb_x mb_y (vector_of d s 0)
  field : has ≡ true → field_motion ≡ true → (r : ℕ) → r < 2 → VectorInside f 8 4 mb_x mb_y (vector_of d s r)

luma_inside : (has field_motion : Bool) (f : Planes) (d : Decision) (s mb_x mb_y y off step : ℕ) → DirectionInside has field_motion f d s mb_x mb_y → y ≡ 16 * mb_y + off → off + 6 * step < 16
    → AreInside f Y (16 * mb_x) (source_by has field_motion d s y) step
luma_inside false field_motion f d s mb_x mb_y y off step h e lt =
    let v = still_inside f mb_x mb_y h.across h.down in
    rw e (inside_of f Y (16 * mb_x) (16 * mb_y) off 16 (16 * f.mb_high) step None still v.luma_x v.luma_y refl (omega (arith, lt)))
luma_inside true false f d s mb_x mb_y y off step h e lt =
    let v = h.frame refl refl in
    rw e (inside_of f Y (16 * mb_x) (16 * mb_y) off 16 (16 * f.mb_high) step None (vector_of d s 0) v.luma_x v.luma_y refl (omega (arith, lt)))
luma_inside true true f d s mb_x mb_y y off step h e lt =
    let v = h.field refl refl (y % 2) (omega arith) in
    let line : y / 2 ≡ 8 * mb_y + off / 2 = omega (arith, e) in
    rw line (inside_of f Y (16 * mb_x) (8 * mb_y) (off / 2) 8 (8 * f.mb_high) step (Some (select_of d s (y % 2))) (vector_of d s (y % 2)) v.luma_x v.luma_y (omega arith) (omega (arith, lt)))

chroma_inside : (has field_motion : Bool) (f : Planes) (d : Decision) (s mb_x mb_y y off step : ℕ) → DirectionInside has field_motion f d s mb_x mb_y → y ≡ 8 * mb_y + off → off + 6 * step < 8
    → AreInside f Cb (8 * mb_x) (source_by has field_motion d s y) step
chroma_inside false field_motion f d s mb_x mb_y y off step h e lt =
    let v = still_inside f mb_x mb_y h.across h.down in
    rw e (inside_of f Cb (8 * mb_x) (8 * mb_y) off 8 (8 * f.mb_high) step None still v.chroma_x v.chroma_y refl (omega (arith, lt)))
chroma_inside true false f d s mb_x mb_y y off step h e lt =
    let v = h.frame refl refl in
    rw e (inside_of f Cb (8 * mb_x) (8 * mb_y) off 8 (8 * f.mb_high) step None (vector_of d s 0) v.chroma_x v.chroma_y refl (omega (arith, lt)))
chroma_inside true true f d s mb_x mb_y y off step h e lt =
    let v = h.field refl refl (y % 2) (omega arith) in
    let line : y / 2 ≡ 4 * mb_y + off / 2 = omega (arith, e) in
    rw line (inside_of f Cb (8 * mb_x) (4 * mb_y) (off / 2) 4 (4 * f.mb_high) step (Some (select_of d s (y % 2))) (vector_of d s (y % 2)) v.chroma_x v.chroma_y (omega arith) (omega (arith, lt)))

luma_part : (f : Planes) (d : Decision) (s mb_x mb_y x y off step : ℕ) → DirectionInside (has_direction d s) d.field_motion f d s mb_x mb_y → x ≡ 16 * mb_x → y ≡ 16 * mb_y + off → off + 7 * step < 16
    → SourcesInside f d s (record { plane = Y; x = x; y = y; step = step })
unfolding source_of
luma_part f d s mb_x mb_y x y off step h ex e lt = rw ex (record {
  even = luma_inside (has_direction d s) d.field_motion f d s mb_x mb_y y off step h e (omega (arith, lt));
  odd = luma_inside (has_direction d s) d.field_motion f d s mb_x mb_y (y + step) (off + step) step h (omega (arith, e)) (omega (arith, lt));
})

chroma_part : (f : Planes) (d : Decision) (s mb_x mb_y : ℕ) → DirectionInside (has_direction d s) d.field_motion f d s mb_x mb_y → SourcesInside f d s (record { plane = Cb; x = 8 * mb_x; y = 8 * mb_y; step = 1 })
unfolding source_of
chroma_part f d s mb_x mb_y h = record {
  even = chroma_inside (has_direction d s) d.field_motion f d s mb_x mb_y (8 * mb_y) 0 1 h (omega arith) (omega arith);
  odd = chroma_inside (has_direction d s) d.field_motion f d s mb_x mb_y (8 * mb_y + 1) 1 1 h refl (omega arith);
}

fits : (field_dct : Bool) (half : ℕ) → half < 2 → luma_top field_dct half + 7 * luma_step field_dct < 16
fits true half h = omega (arith, h)
fits false half h = omega (arith, h)

all_parts : (f : Planes) (d : Decision) (s mb_x mb_y : ℕ) → DirectionInside (has_direction d s) d.field_motion f d s mb_x mb_y → MacroblockInside f d s mb_x mb_y
all_parts f d s mb_x mb_y h = record {
  upper = luma_part f d s mb_x mb_y _ _ (luma_top d.field_dct 0) (luma_step d.field_dct) h (omega arith) refl (fits d.field_dct 0 (omega arith));
  lower = luma_part f d s mb_x mb_y _ _ (luma_top d.field_dct 1) (luma_step d.field_dct) h (omega arith) refl (fits d.field_dct 1 (omega arith));
  chroma = chroma_part f d s mb_x mb_y h;
}

-- a direction that is used is inside
used : (has inside : Bool) → (not has || inside) ≡ true → has ≡ true → inside ≡ true
used true inside h e = h
used false inside h e = absurd (never e)

direction_inside : (f : Planes) (head : Head) (d : Decision) (s mb_x mb_y : ℕ) (has : Bool) → f.mb_wide ≡ head.mb_wide → f.mb_high ≡ head.mb_high → mb_x < head.mb_wide → mb_y < head.mb_high
    → (has ≡ true → is_direction_inside head mb_x mb_y d s ≡ true) → (field_motion : Bool) → d.field_motion ≡ field_motion → DirectionInside has field_motion f d s mb_x mb_y
direction_inside f head d s mb_x mb_y has wide high x y h false m = record {
  across = omega (arith, wide, x);
  down = omega (arith, high, y);
  frame = λ e g. vector_inside f head 16 mb_x mb_y (vector_of d s 0) wide high (rw m at h e);
  field = λ e g. absurd (never g);
}
direction_inside f head d s mb_x mb_y has wide high x y h true m = record {
  across = omega (arith, wide, x);
  down = omega (arith, high, y);
  frame = λ e g. absurd (never (sym g));
  field = λ e g. each (both _ _ (rw m at h e));
}
  where
    each : (is_vector_inside head 8 mb_x mb_y (vector_of d s 0) ≡ true) × (is_vector_inside head 8 mb_x mb_y (vector_of d s 1) ≡ true) → (r : ℕ) → r < 2 → VectorInside f 8 4 mb_x mb_y (vector_of d s r)
    each p zero lt = vector_inside f head 8 mb_x mb_y (vector_of d s 0) wide high p.0
    each p (suc zero) lt = vector_inside f head 8 mb_x mb_y (vector_of d s 1) wide high p.1
    each p (suc (suc n)) lt = absurd (omega arith)

pub forward_inside : (f : Planes) (head : Head) (d : Decision) (mb_x mb_y : ℕ) → f.mb_wide ≡ head.mb_wide → f.mb_high ≡ head.mb_high → mb_x < head.mb_wide → mb_y < head.mb_high
    → is_inside head mb_x mb_y d ≡ true → MacroblockInside f d 0 mb_x mb_y
forward_inside f head d mb_x mb_y wide high x y h = all_parts f d 0 mb_x mb_y (direction_inside f head d 0 mb_x mb_y d.forward wide high x y (used d.forward _ (both _ _ h).0) d.field_motion refl)

pub backward_inside : (f : Planes) (head : Head) (d : Decision) (mb_x mb_y : ℕ) → f.mb_wide ≡ head.mb_wide → f.mb_high ≡ head.mb_high → mb_x < head.mb_wide → mb_y < head.mb_high
    → is_inside head mb_x mb_y d ≡ true → MacroblockInside f d 1 mb_x mb_y
backward_inside f head d mb_x mb_y wide high x y h = all_parts f d 1 mb_x mb_y (direction_inside f head d 1 mb_x mb_y d.backward wide high x y (used d.backward _ (both _ _ h).1) d.field_motion refl)
