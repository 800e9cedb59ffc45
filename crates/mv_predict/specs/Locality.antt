-- What the prediction of a macroblock depends on.
use Rattle.std.specs.Prelude.{◌≡◌, ℕ, true, false}
use Rattle.mv_terms.specs.declared.head.Head.{Head}
use Rattle.mv_terms.specs.declared.macroblock.Decision.{Decision}
use Rattle.mv_planes.specs.declared.picture.Plane.{Plane}
use Rattle.mv_planes.specs.References.{References}
use Rattle.mv_predict.specs.Prediction.{goes_forward, goes_backward, predicted_at}

-- two pairs of references have the same pictures where the macroblock is predicted from them
pub record AgreeFor (head : Head) (d : Decision) (r s : References) : Type 0 where
  pub forward : d.intra ≡ false → goes_forward head d ≡ true → r.forward ≡ s.forward
  pub backward : d.intra ≡ false → goes_backward head d ≡ true → r.backward ≡ s.backward

-- the prediction comes from these references alone
abbrev pub PredictionIsLocal : Type 0
PredictionIsLocal = (head : Head) (d : Decision) (r s : References) (p : Plane) (x y : ℕ)
    → AgreeFor head d r s → predicted_at head d r p x y ≡ predicted_at head d s p x y
