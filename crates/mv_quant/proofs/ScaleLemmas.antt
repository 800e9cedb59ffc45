-- The scales by their steps.
use Rattle.std.proofs.Common.{◌≡◌, ℕ, ◌-◌, ◌*◌, ◌<◌, true, false, nat_le, cond, get_or, map, refl, ap, ◌∙◌, arith}
use Rattle.std.specs.List.{range_with_len}
use Rattle.std.proofs.lemmas.List.FromFn.{get_or-map-range_with_len}
use Rattle.std.proofs.lemmas.Bool.Decides.{nat_tests}
use Rattle.mv_quant.specs.Scale.{scale_of, non_linear_scales}

-- the table by its steps
abbrev stepped : ℕ → ℕ
stepped code = cond (nat_le code 8) code (cond (nat_le code 16) (2 * (code - 4)) (cond (nat_le code 24) (4 * (code - 10)) (8 * (code - 17))))

is_stepped : non_linear_scales ≡ map stepped (range_with_len 0 32)
is_stepped = refl

pub non_linear_is : (code : ℕ) → code < 32 → scale_of true code ≡ stepped code
unfolding scale_of
non_linear_is code h = ap (λ s. get_or s code 0) is_stepped ∙ get_or-map-range_with_len stepped 0 32 code code 0 h (omega arith)

pub linear_is : (code : ℕ) → scale_of false code ≡ 2 * code
unfolding scale_of
linear_is code = refl

pub ruleset scales = (nat_tests, non_linear_is, linear_is)
