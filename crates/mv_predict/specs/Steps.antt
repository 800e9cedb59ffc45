-- Nobody needs to believe it, it only carries proofs: what the steps of `predict` do, lines of samples in a picture's list,
-- where they lie, and blocks made of them.
use Rattle.std.specs.Prelude.{◌≡◌, ℕ, ◌+◌, ◌*◌, ◌/◌, ◌<◌, Bool, Option, None, Some, ℤ, pos, ◌+ℤ◌, ◌≤ℤ◌, unsigned_abs, List, [], length, slice_index, slice_index_or}
use Rattle.mv_terms.specs.declared.macroblock.Decision.{Decision}
use Rattle.mv_terms.specs.Block.{entry}
use Rattle.mv_planes.specs.declared.picture.Plane.{Plane}
use Rattle.mv_planes.specs.declared.picture.Plane.TheVariants.{Y, Cb, Cr}
use Rattle.mv_planes.specs.Planes.{Planes, width_of, height_of, place_of}
use Rattle.mv_planes.specs.declared.part.Part.{Part}
use Rattle.mv_planes.specs.Parts.{column, line}
use Rattle.mv_planes.specs.Layout.{part_at}
use Rattle.mv_vectors.specs.Inside.{whole_samples, half_sample}
use Rattle.mv_predict.specs.declared.kernel.Lines.{Lines}
use Rattle.mv_predict.specs.declared.source.Source.{Source as SourceAt}
use Rattle.mv_predict.specs.Prediction.{Source, moved, line_in, vector_in, source_of}

-- the source that the code's struct is
abbrev pub source_given : SourceAt → Source
source_given s = record { field = s.field; vector = s.vector; line = s.line }

-- a quarter of four samples: the one at a place, that `right` of it, that `down` of it, and that right of that
abbrev pub quarter : List ℕ → ℕ → ℕ → ℕ → ℕ
quarter samples at right down =
    (slice_index samples at + slice_index samples (at + right)
    + slice_index samples (at + down) + slice_index samples (at + down + right) + 2) / 4

-- the value in column c of line k, where the first line begins at a place
abbrev pub value_at : List ℕ → Lines → ℕ → ℕ → ℕ → ℕ
value_at samples s at k c = quarter samples (at + k * s.stride + c) s.right s.down

-- all that its four lines take lies in the list
abbrev pub IsReadable : List ℕ → Lines → Type 0
IsReadable samples s = s.at + s.apart + 3 * s.stride + 7 + s.down + s.right < length samples

-- A line of a macroblock in luma has sixteen samples; in chrominance it has eight of Cb, and eight of Cr with them.
abbrev pub beside : Plane → Plane
beside Y = Y
beside Cb = Cr
beside Cr = Cr

abbrev pub beside_column : Plane → ℕ
beside_column Y = 8
beside_column Cb = 0
beside_column Cr = 0

-- how far the second eight lie from the first
abbrev pub apart_in : Planes → Plane → ℕ
apart_in f Y = 8
apart_in f Cb = 64 * (f.mb_wide * f.mb_high)
apart_in f Cr = 0

-- how far two lines lie apart in the list, of the frame or of a field
abbrev pub distance : Planes → Plane → Option Bool → ℕ
distance f p None = width_of f p
distance f p (Some bottom) = 2 * width_of f p

-- how many lines every other row of a block lies apart, where its rows lie so many lines of the frame apart
abbrev pub rows_apart : Option Bool → ℕ → ℕ
rows_apart None step = 2 * step
rows_apart (Some bottom) step = step

-- the half sample that is left of a component, 0 or 1
abbrev pub half_left : ℤ → ℕ
half_left component = unsigned_abs (half_sample component)

-- the lines of every other row of a block, the first in this column and from this source
abbrev pub lines_at : Planes → Plane → ℕ → Source → ℕ → Lines
lines_at f p x s step =
    let v = vector_in p s.vector in
    record {
      at = place_of f p (moved x v.x) (line_in s.field (moved s.line v.y));
      apart = apart_in f p;
      stride = 2 * step * width_of f p;
      right = half_left v.x;
      down = half_left v.y * distance f p s.field;
    }

-- they lie in the plane
pub record AreInside (f : Planes) (p : Plane) (x : ℕ) (s : Source) (step : ℕ) : Type 0 where
  pub left : pos 0 ≤ℤ (pos x +ℤ whole_samples (vector_in p s.vector).x)
  pub top : pos 0 ≤ℤ (pos s.line +ℤ whole_samples (vector_in p s.vector).y)
  pub right : moved x (vector_in p s.vector).x + beside_column p + 7 + half_left
      (vector_in p s.vector).x
      < width_of f p
  pub bottom : line_in s.field (moved s.line (vector_in p s.vector).y + 3 * rows_apart s.field step
      + half_left (vector_in p s.vector).y) < height_of f p

-- the lines that direction s takes for the eight rows of a part lie in the picture
pub record SourcesInside (f : Planes) (d : Decision) (s : ℕ) (part : Part) : Type 0 where
  pub even : AreInside f part.plane part.x (source_of d s part.y) part.step
  pub odd : AreInside f part.plane part.x (source_of d s (part.y + part.step)) part.step

-- so do all that it takes for a macroblock, by the first block of each pair
pub record MacroblockInside (f : Planes) (d : Decision) (s mb_x mb_y : ℕ) : Type 0 where
  pub upper : SourcesInside f d s (part_at d.field_dct Y mb_x mb_y 0)
  pub lower : SourcesInside f d s (part_at d.field_dct Y mb_x mb_y 2)
  pub chroma : SourcesInside f d s (part_at d.field_dct Cb mb_x mb_y 4)

-- the part of the second eight samples of the lines of a part
abbrev pub beside_part : Part → Part
beside_part part =
    record part { plane = beside part.plane; x = part.x + beside_column part.plane }

-- eight lines have these values in a part, and beside it
pub record LinesHave (value : Plane → ℕ → ℕ → ℕ) (part : Part) (lines : List (List ℕ)) : Type 0
  where
    pub first : (r c : ℕ) → r < 8 → c < 8 → slice_index (slice_index_or lines r []) c
        ≡ value part.plane (column part c) (line part r)
    pub second : (r c : ℕ) → r < 8 → c < 8 → slice_index (slice_index_or lines r []) (8 + c)
        ≡ value (beside part.plane) (column (beside_part part) c) (line part r)

-- a block has these values in a part
abbrev pub PartHas : (Plane → ℕ → ℕ → ℕ) → Part → List ℤ → Type 0
PartHas value part samples = (row col : ℕ) → row < 8 → col < 8
    → entry samples row col ≡ pos (value part.plane (column part col) (line part row))

-- so has block b of a plane
abbrev pub BlockHas : (Plane → ℕ → ℕ → ℕ) → Bool → ℕ → ℕ → Plane → ℕ → List ℤ → Type 0
BlockHas value field_dct mb_x mb_y p b samples =
    let part = part_at field_dct p mb_x mb_y b in (row col : ℕ) → row < 8 → col < 8
    → entry samples row col ≡ pos (value p (column part col) (line part row))
