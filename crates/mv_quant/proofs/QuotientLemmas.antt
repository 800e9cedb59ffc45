-- Division by multiplying with reciprocals.
use Rattle.std.proofs.Common.{◌≡◌, ℕ, suc, ◌+◌, ◌-◌, ◌*◌, ◌/◌, ◌%◌, ◌^◌, ◌<◌, ◌≤◌, List, get_or, arith, refl, ap, ◌∙◌, sym, ⊎_elim}
use Rattle.std.proofs.Math.Nat.{div-add-mod', mod-lt, mul-le-mul_right}
use Rattle.std.proofs.lemmas.Nat.{mul-le}
use Rattle.std.proofs.lemmas.Bool.{cases_lt}
use Rattle.std.proofs.lemmas.List.FromFn.{get_or-map-range_with_len}
use Rattle.mv_quant.specs.declared.reciprocals.TheConstants.{RECIPROCALS}
use Rattle.mv_quant.specs.Steps.{reciprocals}

-- a quotient by its bounds
quotient_is : (m p q : ℕ) → 0 < p → q * p ≤ m → m < (q + 1) * p → m / p ≡ q
quotient_is m p q h low high = ⊎_elim
    (λ (l : m / p < q). absurd (let k : suc (m / p) * p ≤ q * p = mul-le-mul_right p l in omega (arith, div-add-mod' m p, mod-lt m h, k)))
    (λ (l : q ≤ m / p). ⊎_elim
    (λ (g : q < m / p). absurd (let k : suc q * p ≤ m / p * p = mul-le-mul_right p g in omega (arith, div-add-mod' m p, k)))
    (λ (g : m / p ≤ q). omega arith)
    (cases_lt q (m / p)))
    (cases_lt (m / p) q)

-- n by d is n times the reciprocal of d in units of 1 / p, rounded up
pub by_reciprocal : (p n d : ℕ) → 0 < d → n * d < p → n * (p / d + 1) / p ≡ n / d
by_reciprocal p n d h small =
    let q : ℕ = n / d in
    let r : ℕ = p / d + 1 in
    let n_is : n / d * d + n % d ≡ n = div-add-mod' n d in
    let n_mod = mod-lt n h in
    let p_is : p / d * d + p % d ≡ p = div-add-mod' p d in
    let p_mod = mod-lt p h in
    let above : p ≤ r * d = omega (arith, p_is, p_mod) in
    let near : r * d ≤ p + d = omega (arith, p_is) in
    let low_1 : q * p ≤ q * (r * d) = mul-le q p q (r * d) (omega arith) above in
    let low_2 : q * d * r ≤ n * r = mul-le (q * d) r n r (omega (arith, n_is)) (omega arith) in
    let turn : q * (r * d) ≡ q * d * r = omega arith in
    let high_1 : n * (r * d) ≤ n * (p + d) = mul-le n (r * d) n (p + d) (omega arith) near in
    let n_below : n + 1 ≤ (q + 1) * d = omega (arith, n_is, n_mod) in
    let high_2 : (n + 1) * p ≤ (q + 1) * d * p = mul-le (n + 1) p ((q + 1) * d) p n_below (omega arith) in
    quotient_is (n * r) p q (omega arith) (omega (arith, low_1, low_2, turn))
    (⊎_elim
    (λ (l : n * r < (q + 1) * p). l)
    (λ (l : (q + 1) * p ≤ n * r).
    let k : (q + 1) * p * d ≤ n * r * d = mul-le-mul_right d l in
    absurd (omega (arith, k, high_1, high_2, small)))
    (cases_lt (n * r) ((q + 1) * p)))

-- the quotient by a product is one by its factors in turn
pub by_factors : (n w s : ℕ) → 0 < w → 0 < s → n / w / s ≡ n / (w * s)
by_factors n w s hw hs = sym (quotient_is n (w * s) (n / w / s) (omega (arith, mul-le 1 1 w s hw hs))
    (let a : n / w / s * s ≤ n / w = omega (arith, div-add-mod' (n / w) s) in
    let b : n / w / s * s * w ≤ n / w * w = mul-le-mul_right w a in
    omega (arith, b, div-add-mod' n w))
    (let a : n / w + 1 ≤ (n / w / s + 1) * s = omega (arith, div-add-mod' (n / w) s, mod-lt (n / w) hs) in
    let b : (n / w + 1) * w ≤ (n / w / s + 1) * s * w = mul-le-mul_right w a in
    omega (arith, b, div-add-mod' n w, mod-lt n hw)))

-- the table is that of the reciprocals
is_table : RECIPROCALS ≡ reciprocals
unfolding reciprocals
is_table = refl

pub reciprocal_at : (d : ℕ) → 0 < d → d ≤ 255 → get_or RECIPROCALS (d - 1) 0 ≡ 2 ^ 25 / d + 1
unfolding reciprocals
reciprocal_at d some small =
    ap (λ (s : List ℕ). get_or s (d - 1) 0) is_table
    ∙ get_or-map-range_with_len (λ d. 2 ^ 25 / d + 1) 1 255 (d - 1) d 0 (omega arith) (omega arith)

pub reciprocal_small : (d : ℕ) → 0 < d → 2 ^ 25 / d + 1 ≤ 2 ^ 25 + 1
reciprocal_small d some =
    let whole : 2 ^ 25 / d * d + 2 ^ 25 % d ≡ 2 ^ 25 = div-add-mod' (2 ^ 25) d in
    let less : 2 ^ 25 / d * 1 ≤ 2 ^ 25 / d * d = mul-le (2 ^ 25 / d) 1 (2 ^ 25 / d) d (omega arith) some in
    omega (arith, whole, less)

-- the quotient of what n and the reciprocal were widened to
pub quotient_from : (n d a r : ℕ) → n < 2 ^ 17 → 0 < d → d ≤ 255 → a ≡ n → r ≡ 2 ^ 25 / d + 1 → a * r / 2 ^ 25 ≡ n / d
quotient_from n d a r hn some small a_is r_is =
    let fits : n * d ≤ 131071 * 255 = mul-le n d 131071 255 (omega arith) small in
    rw (a_is, r_is) (by_reciprocal (2 ^ 25) n d some (omega (arith, fits)))
