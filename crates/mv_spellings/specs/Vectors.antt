-- The plain reading of motion vectors (H.262, 6.2.5.2 and 7.6.3): that of `mv_vectors`, where each delta lies in the range
-- of components. What it gives counts, and not the reason of a refusal.
use Rattle.std.specs.Prelude.{◌==◌, ◌-◌, ◌&&◌, not, ℕ, Bool, true, false, IsTrue, List, ℤ, pos, ◌+ℤ◌, unsigned_abs, Result}
use Rattle.std.specs.Int.{int_div_euclid}
use Rattle.mv_terms.specs.declared.status.Why.{Why}
use Rattle.mv_terms.specs.declared.status.Why.TheVariants.{BadCode, BadVector}
use Rattle.mv_terms.specs.declared.head.Head.{Head}
use Rattle.mv_terms.specs.declared.macroblock.Vector.{Vector}
use Rattle.mv_terms.specs.Decisions.{vector}
use Rattle.mv_bits.specs.Readings.{◌>>=◌, Gives, Field, Flag, Demands, When}
use Rattle.mv_codes.specs.Tables.{CodeOf}
use Rattle.mv_codes.specs.Motions.{motion_codes}
use Rattle.mv_vectors.specs.Vectors.{Directed, f_code, f_of, delta, wrapped, is_in_range, predictor_at, frame_directed, field_directed}

-- DEMAND: a delta lies in -16f to 16f - 1
abbrev pub PlainComponent : ℕ → ℤ → List Bool → Result (ℤ × List Bool) Why → Type 0
PlainComponent code prediction = do
  motion_code ← CodeOf motion_codes BadCode
  motion_residual ← When (not (code == 1) && not (unsigned_abs motion_code == 0)) 0
      (Field (code - 1))
  plain ← Demands
      (IsTrue (is_in_range (f_of code) (delta (f_of code) motion_code motion_residual))) BadVector
  Gives (wrapped (f_of code) (prediction +ℤ delta (f_of code) motion_code motion_residual))

abbrev pub PlainFrameVector : Head → ℕ → Vector
    → List Bool → Result (Vector × List Bool) Why → Type 0
PlainFrameVector head s predictor = do
  x ← PlainComponent (f_code head s 0) predictor.x
  y ← PlainComponent (f_code head s 1) predictor.y
  Gives (vector x y)

abbrev pub PlainFieldVector : Head → ℕ → Vector
    → List Bool → Result ((Bool × Vector) × List Bool) Why → Type 0
PlainFieldVector head s predictor = do
  select ← Flag
  x ← PlainComponent (f_code head s 0) predictor.x
  y ← PlainComponent (f_code head s 1) (int_div_euclid predictor.y (pos 2))
  Gives (select, vector x y)

abbrev pub PlainDirectionFrom : Head → ℕ → Vector → Vector → Bool → List Bool
    → Result (Directed × List Bool) Why → Type 0
PlainDirectionFrom head s first_predictor second_predictor false = do
  v ← PlainFrameVector head s first_predictor
  Gives (frame_directed v)
PlainDirectionFrom head s first_predictor second_predictor true = do
  first ← PlainFieldVector head s first_predictor
  second ← PlainFieldVector head s second_predictor
  Gives (field_directed first second)

-- motion_vectors(s)
abbrev pub PlainDirection : Head → List (List Vector) → ℕ → Bool → List Bool
    → Result (Directed × List Bool) Why → Type 0
PlainDirection head predictors s field =
    PlainDirectionFrom head s (predictor_at predictors s 0) (predictor_at predictors s 1) field
