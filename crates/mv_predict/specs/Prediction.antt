-- The prediction of a sample, at its place, from the whole reference pictures (H.262, 7.6.2 to 7.6.7).
use Rattle.std.specs.Prelude.{ℕ, ◌+◌, ◌/◌, ◌%◌, ◌==◌, ◌||◌, ◌&&◌, not, Bool, true, false, if◌then◌else◌, ℤ, pos, negsuc, ◌+ℤ◌, unsigned_abs, Option, None, Some}
use Rattle.mv_terms.specs.declared.head.Head.{Head}
use Rattle.mv_terms.specs.declared.macroblock.Vector.{Vector}
use Rattle.mv_terms.specs.declared.macroblock.Decision.{Decision}
use Rattle.mv_terms.specs.PicTypes.{is_p, is_b}
use Rattle.mv_terms.specs.Decisions.{still, vector_of, select_of}
use Rattle.mv_planes.specs.declared.picture.Plane.{Plane}
use Rattle.mv_planes.specs.declared.picture.Plane.TheVariants.{Y, Cb, Cr}
use Rattle.mv_planes.specs.Planes.{Planes, sample_of, field_line}
use Rattle.mv_planes.specs.References.{References}
use Rattle.mv_vectors.specs.Inside.{chroma, whole_samples, half_sample}

-- A source, in direction s, of a place: the lines that its prediction is taken from, which are those of the frame or of
-- one field (the bottom one where that is true), the luma vector, and the place's own line among these lines.
pub record Source : Type 0 where
  pub field : Option Bool
  pub vector : Vector
  pub line : ℕ

-- The line of the picture that is this one of the frame or of the field (H.262, 7.6.2.1 and 6.1.1.3).
abbrev pub line_in : Option Bool → ℕ → ℕ
line_in None y = y
line_in (Some bottom) y = field_line bottom y

abbrev pub sample_in : Planes → Plane → Option Bool → ℕ → ℕ → ℕ
sample_in f p field x y = sample_of f p x (line_in field y)

-- the vector for the plane (H.262, 7.6.3.7)
abbrev pub vector_in : Plane → Vector → Vector
vector_in Y v = v
vector_in Cb v = chroma v
vector_in Cr v = chroma v

-- a column or line moved by the whole samples of a component; it lies to the right of or below an edge
abbrev pub natural : ℤ → ℕ
natural (pos n) = n
natural (negsuc n) = 0

abbrev pub moved : ℕ → ℤ → ℕ
moved at component = natural (pos at +ℤ whole_samples component)

-- half_flag of a component (H.262, 7.6.4)
abbrev pub half_flag : ℤ → Bool
half_flag component = not (unsigned_abs (half_sample component) == 0)

-- The sample at a place, or half a sample behind it in its line, half a line below it, or both (H.262, 7.6.4).
abbrev pub half_way : (ℕ → ℕ → ℕ) → ℕ → ℕ → Bool → Bool → ℕ
half_way sample x y false false = sample x y
half_way sample x y true false = (sample x y + sample (x + 1) y + 1) / 2
half_way sample x y false true = (sample x y + sample x (y + 1) + 1) / 2
half_way sample x y true true =
    (sample x y + sample (x + 1) y + sample x (y + 1) + sample (x + 1) (y + 1) + 2) / 4

-- the sample that a vector leads to from a place
abbrev pub led_to : (ℕ → ℕ → ℕ) → ℕ → ℕ → Vector → ℕ
led_to sample x y v = half_way sample (moved x v.x) (moved y v.y) (half_flag v.x) (half_flag v.y)

-- the prediction from a picture and a source, in column x of a plane
unfoldable pub predicted_from : Planes → Source → Plane → ℕ → ℕ
predicted_from f s p x = led_to (sample_in f p s.field) x s.line (vector_in p s.vector)

-- the macroblock has vectors of its own in direction s, 0 for forward and 1 for backward
abbrev pub has_direction : Decision → ℕ → Bool
has_direction d s = if s == 0 then d.forward else d.backward

-- The source of a place on line y of a plane of a frame, by whether there is a vector, and field motion. By frame
-- prediction this line is of the frame. By field prediction the first vector is that of the lines of the top field and
-- the second that of the bottom field, each into the field that is selected (H.262, 7.6.2 and 7.6.3). Without a vector
-- the prediction is frame-based with the vector zero (7.6.3.5 and 7.6.6.1).
abbrev pub source_by : Bool → Bool → Decision → ℕ → ℕ → Source
source_by false field_motion d s y = record { field = None; vector = still; line = y }
source_by true false d s y = record { field = None; vector = vector_of d s 0; line = y }
source_by true true d s y = record {
  field = Some (select_of d s (y % 2));
  vector = vector_of d s (y % 2);
  line = y / 2;
}

unfoldable pub source_of : Decision → ℕ → ℕ → Source
source_of d s y = source_by (has_direction d s) d.field_motion d s y

-- the prediction in direction s from a picture
abbrev pub predicted_by : Decision → ℕ → Planes → Plane → ℕ → ℕ → ℕ
predicted_by d s f p x y = predicted_from f (source_of d s y) p x

-- Which of the references a macroblock that isn't intra is predicted from: in a P picture always the forward one, and
-- the backward one in a B picture alone (H.262, 7.6).
abbrev pub goes_forward : Head → Decision → Bool
goes_forward head d = d.forward || is_p head.pic

abbrev pub goes_backward : Head → Decision → Bool
goes_backward head d = d.backward && is_b head.pic

-- the two directions together (H.262, 7.6.7.1)
abbrev pub combined : Bool → Bool → ℕ → ℕ → ℕ
combined false false forward backward = 0
combined true false forward backward = forward
combined false true forward backward = backward
combined true true forward backward = (forward + backward + 1) / 2

-- the prediction from one of the references or both
abbrev pub predicted_with : Bool → Bool → Decision → References → Plane → ℕ → ℕ → ℕ
predicted_with forward backward d refs p x y =
    combined forward backward
    (predicted_by d 0 refs.forward p x y) (predicted_by d 1 refs.backward p x y)

-- the prediction at column x of line y of a plane, by the decision of its macroblock; 0 where that is intra
unfoldable pub predicted_at : Head → Decision → References → Plane → ℕ → ℕ → ℤ
predicted_at head d refs p x y =
    if d.intra then pos 0
    else pos (predicted_with (goes_forward head d) (goes_backward head d) d refs p x y)
