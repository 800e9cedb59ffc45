-- The blocks of a macroblock, predicted, and the pictures that they are predicted from.
use Rattle.std.specs.Prelude.{◌≡◌, ℕ, ◌<◌, List, ℤ}
use Rattle.mv_terms.specs.declared.head.Head.{Head}
use Rattle.mv_terms.specs.declared.macroblock.Decision.{Decision}
use Rattle.mv_terms.specs.Block.{entry}
use Rattle.mv_planes.specs.declared.picture.Plane.{Plane}
use Rattle.mv_planes.specs.Planes.{Planes}
use Rattle.mv_planes.specs.Parts.{column, line}
use Rattle.mv_planes.specs.Layout.{part_at}
use Rattle.mv_planes.specs.References.{References}
use Rattle.mv_predict.specs.Prediction.{predicted_at}

-- a picture has the size in macroblocks that the head says
pub record HasSizeOf (head : Head) (f : Planes) : Type 0 where
  pub wide : f.mb_wide ≡ head.mb_wide
  pub high : f.mb_high ≡ head.mb_high

-- Block b of a macroblock, which stands where the layout of its dct_type says, holds the prediction of its places, row
-- after row.
abbrev pub HoldsPrediction : Head → Decision → References → ℕ → ℕ → Plane → ℕ → List ℤ → Type 0
HoldsPrediction head d refs mb_x mb_y p b samples =
    let part = part_at d.field_dct p mb_x mb_y b in (row col : ℕ) → row < 8 → col < 8
    → entry samples row col ≡ predicted_at head d refs p (column part col) (line part row)
