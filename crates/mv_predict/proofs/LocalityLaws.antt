-- What the prediction of a macroblock depends on.
use Rattle.std.proofs.Common.{◌≡◌, ℕ, Bool, true, false, refl, ap}
use Rattle.mv_terms.specs.declared.macroblock.Decision.{Decision}
use Rattle.mv_planes.specs.declared.picture.Plane.{Plane}
use Rattle.mv_planes.specs.Planes.{Planes}
use Rattle.mv_planes.specs.References.{References}
use Rattle.std.specs.Prelude.{if◌then◌else◌, pos}
use Rattle.mv_predict.specs.Prediction.{goes_forward, goes_backward, predicted_by, predicted_with, predicted_at}
use Rattle.mv_predict.specs.Locality.{PredictionIsLocal}

with_same : (forward backward : Bool) (d : Decision) (r s : References) (p : Plane) (x y : ℕ)
    → (forward ≡ true → r.forward ≡ s.forward) → (backward ≡ true → r.backward ≡ s.backward)
    → predicted_with forward backward d r p x y ≡ predicted_with forward backward d s p x y
with_same false false d r s p x y f b = refl
with_same true false d r s p x y f b = ap (λ (g : Planes). predicted_by d 0 g p x y) (f refl)
with_same false true d r s p x y f b = ap (λ (g : Planes). predicted_by d 1 g p x y) (b refl)
with_same true true d r s p x y f b = rw (f refl, b refl) refl

by_intra : (intra forward backward : Bool) (d : Decision) (r s : References) (p : Plane) (x y : ℕ)
    → (intra ≡ false → forward ≡ true → r.forward ≡ s.forward) → (intra ≡ false → backward ≡ true → r.backward ≡ s.backward)
    → (if intra then pos 0 else pos (predicted_with forward backward d r p x y)) ≡ (if intra then pos 0 else pos (predicted_with forward backward d s p x y))
by_intra true forward backward d r s p x y f b = refl
by_intra false forward backward d r s p x y f b = ap pos (with_same forward backward d r s p x y (f refl) (b refl))

pub prediction_is_local : PredictionIsLocal
unfolding predicted_at
prediction_is_local head d r s p x y same =
    by_intra d.intra (goes_forward head d) (goes_backward head d) d r s p x y same.forward same.backward
