-- Sizes of levels and of their values: which size comes nearest to that of a coefficient.
use Rattle.std.proofs.Common.{◌≡◌, ℕ, zero, suc, ◌+◌, ◌-◌, ◌*◌, ◌/◌, ◌<◌, ◌≤◌, min, Bool, true, false, cond, arith, refl, ⊎_elim, inl, inr}
use Rattle.std.proofs.Math.Nat.{le_refl}
use Rattle.std.proofs.Math.Nat.{div-add-mod', mod-lt, mul-le-mul_right}
use Rattle.std.proofs.lemmas.Bool.{cases_lt}
use Rattle.mv_quant.specs.Steps.{value_size, gap, ComesBefore}

-- the quotient rounded up, times the divisor, is no less
pub ceiling_covers : (a s : ℕ) → 0 < s → a ≤ ((a + s - 1) / s) * s
ceiling_covers a s h = omega (arith, div-add-mod' (a + s - 1) s, mod-lt (a + s - 1) h)

-- and it is the least with this property
pub ceiling_least : (a s m : ℕ) → 0 < s → a ≤ m * s → (a + s - 1) / s ≤ m
ceiling_least a s m h k = ⊎_elim
    (λ (l : m < (a + s - 1) / s). absurd (omega (arith, div-add-mod' (a + s - 1) s, mul-le-mul_right s l)))
    (λ (l : (a + s - 1) / s ≤ m). l)
    (cases_lt m ((a + s - 1) / s))

pub none_size : (odd step : ℕ) → value_size odd step 0 ≡ 0
unfolding value_size
none_size odd step = refl

pub some_size : (odd step q : ℕ) → 0 < q → value_size odd step q ≡ (2 * q + odd) * step / 32
unfolding value_size
some_size odd step zero h = absurd (omega arith)
some_size odd step (suc q) h = refl

pub reached : (odd step target q : ℕ) → 0 < q → 0 < step → (32 * target + step - 1) / step ≤ 2 * q + odd → target ≤ value_size odd step q
reached odd step target q h p k =
    omega (arith, some_size odd step q h, ceiling_covers (32 * target) step p, mul-le-mul_right step k)

pub reached_least : (odd step target p : ℕ) → 0 < target → 0 < step → target ≤ value_size odd step p → (0 < p) × ((32 * target + step - 1) / step ≤ 2 * p + odd)
reached_least odd step target zero h s k = absurd (omega (arith, none_size odd step))
reached_least odd step target (suc p) h s k =
    let big : 0 < suc p = omega arith in
    (big, ceiling_least (32 * target) step (2 * suc p + odd) s (omega (arith, some_size odd step (suc p) big)))

pub size_grows : (odd step p q : ℕ) → p ≤ q → value_size odd step p ≤ value_size odd step q
size_grows odd step zero q h = omega (arith, none_size odd step)
size_grows odd step (suc p) q h =
    let big : 0 < suc p = omega arith in
    let large : 0 < q = omega arith in
    let wide : 2 * suc p + odd ≤ 2 * q + odd = omega arith in
    omega (arith, some_size odd step (suc p) big, some_size odd step q large, mul-le-mul_right step wide)

pub reaching_is_positive : (odd step target up : ℕ) → 0 < target → target ≤ value_size odd step up → 0 < up
reaching_is_positive odd step target zero h k = absurd (omega (arith, none_size odd step))
reaching_is_positive odd step target (suc up) h k = omega arith

-- `up` is the least level whose value reaches the target
pub record IsLeast (odd step target up : ℕ) : Type 0 where
  pub reaches : target ≤ value_size odd step up
  pub least : (p : ℕ) → target ≤ value_size odd step p → up ≤ p

pub falls_short : {odd step target up : ℕ} (p : ℕ) → IsLeast odd step target up → p < up → value_size odd step p < target
falls_short {odd} {step} {target} {up} p w l = ⊎_elim
    (λ (b : value_size odd step p < target). b)
    (λ (b : target ≤ value_size odd step p). absurd (omega (arith, w.least p b)))
    (cases_lt (value_size odd step p) target)

pub by_gaps : (m : ℕ → ℕ) (c q p : ℕ) → gap (m q) c ≤ gap (m p) c → q ≤ p → ComesBefore m c q p
by_gaps m c q p h l = ⊎_elim
    (λ (b : gap (m q) c < gap (m p) c). inl b)
    (λ (b : gap (m p) c ≤ gap (m q) c). inr (omega arith, l))
    (cases_lt (gap (m q) c) (gap (m p) c))

pub upper_first : (odd step limit target up : ℕ) → target ≤ limit → IsLeast odd step target up → 0 < up → up ≤ 2047
    → min (value_size odd step up) limit - target < target - value_size odd step (up - 1)
    → (p : ℕ) → p ≤ 2047 → ComesBefore (λ n. min (value_size odd step n) limit) target up p
upper_first odd step limit target up hl w pos_up hu better p hp = ⊎_elim
    (λ (l : p < up).
    let short = falls_short p w l in
    let most = size_grows odd step p (up - 1) (omega arith) in
    let reach = w.reaches in
    inl (omega arith))
    (λ (l : up ≤ p).
    let more = size_grows odd step up p l in
    let reach = w.reaches in
    by_gaps (λ n. min (value_size odd step n) limit) target up p (omega arith) l)
    (cases_lt p up)

pub lower_first : (odd step limit target up low : ℕ) → target ≤ limit → IsLeast odd step target up → 0 < up
    → IsLeast odd step (value_size odd step (min (up - 1) 2047)) low
    → (up ≤ 2047 → target - value_size odd step (up - 1) ≤ min (value_size odd step up) limit - target)
    → (p : ℕ) → p ≤ 2047 → ComesBefore (λ n. min (value_size odd step n) limit) target low p
lower_first odd step limit target up low hl w pos_up v better p hp =
    let m : ℕ = min (up - 1) 2047 in
    let low_in : low ≤ min (up - 1) 2047 = v.least (min (up - 1) 2047) (le_refl (value_size odd step (min (up - 1) 2047))) in
    let value_low : value_size odd step low ≤ value_size odd step (min (up - 1) 2047) = size_grows odd step low (min (up - 1) 2047) low_in in
    let reach = v.reaches in
    let short = falls_short (min (up - 1) 2047) w (omega arith) in
    ⊎_elim
    (λ (l : p < up).
    let most = size_grows odd step p (min (up - 1) 2047) (omega arith) in
    ⊎_elim
    (λ (b : value_size odd step p < value_size odd step (min (up - 1) 2047)). inl (omega arith))
    (λ (b : value_size odd step (min (up - 1) 2047) ≤ value_size odd step p). by_gaps (λ n. min (value_size odd step n) limit) target low p (omega arith) (v.least p b))
    (cases_lt (value_size odd step p) (value_size odd step (min (up - 1) 2047))))
    (λ (l : up ≤ p).
    let more = size_grows odd step up p l in
    let e : min (up - 1) 2047 ≡ up - 1 = omega arith in
    let value_low' : value_size odd step low ≤ value_size odd step (up - 1) = rw e at value_low in
    let reach' : value_size odd step (up - 1) ≤ value_size odd step low = rw e at reach in
    let short' : value_size odd step (up - 1) < target = rw e at short in
    let b = better (omega arith) in
    let top = w.reaches in
    by_gaps (λ n. min (value_size odd step n) limit) target low p (omega (arith, b)) (omega arith))
    (cases_lt p up)

-- from a step of 16 on, each level has a value of its own
pub own_size : (odd step p m : ℕ) → 16 ≤ step → p < m → value_size odd step p < value_size odd step m
own_size odd step p zero h l = absurd (omega arith)
own_size odd step zero (suc m) h l =
    let wide : 2 ≤ 2 * suc m + odd = omega arith in
    omega (arith, none_size odd step, some_size odd step (suc m) (omega arith), mul-le-mul_right step wide)
own_size odd step (suc p) (suc m) h l =
    let wide : (2 * suc p + odd) + 2 ≤ 2 * suc m + odd = omega arith in
    omega (arith, some_size odd step (suc p) (omega arith), some_size odd step (suc m) (omega arith), mul-le-mul_right step wide)

pub own_value : (odd step p m : ℕ) → 16 ≤ step → value_size odd step m ≤ value_size odd step p → m ≤ p
own_value odd step p m h k = ⊎_elim
    (λ (l : p < m). absurd (omega (arith, own_size odd step p m h l)))
    (λ (l : m ≤ p). l)
    (cases_lt p m)

-- no level from 1 on is nearer than 0 to what lies below half the first value
pub stays_none : (odd step limit target : ℕ) → 2 * target ≤ min (value_size odd step 1) limit
    → (p : ℕ) → p ≤ 2047 → ComesBefore (λ n. min (value_size odd step n) limit) target 0 p
stays_none odd step limit target h zero hp = inr (refl, omega arith)
stays_none odd step limit target h (suc p) hp =
    let none = none_size odd step in
    let more = size_grows odd step 1 (suc p) (omega arith) in
    by_gaps (λ n. min (value_size odd step n) limit) target 0 (suc p) (omega arith) (omega arith)

pub small_size : (odd step m : ℕ) → odd ≤ 1 → step < 16 → m ≤ 2047 → value_size odd step m ≤ 2048
small_size odd step zero ho h l = omega (arith, none_size odd step)
small_size odd step (suc m) ho h l =
    let wide : 2 * suc m + odd ≤ 4095 = omega arith in
    let near : step ≤ 15 = omega arith in
    omega (arith, some_size odd step (suc m) (omega arith), mul-le-mul_right step wide)

-- the values of two levels lie at least a sixteenth of the step apart
pub sizes_apart : (odd step p m : ℕ) → p < m → value_size odd step p + step / 16 ≤ value_size odd step m
sizes_apart odd step p zero l = absurd (omega arith)
sizes_apart odd step zero (suc m) l =
    let wide : 2 ≤ 2 * suc m + odd = omega arith in
    omega (arith, none_size odd step, some_size odd step (suc m) (omega arith), mul-le-mul_right step wide)
sizes_apart odd step (suc p) (suc m) l =
    let wide : (2 * suc p + odd) + 2 ≤ 2 * suc m + odd = omega arith in
    omega (arith, some_size odd step (suc p) (omega arith), some_size odd step (suc m) (omega arith), mul-le-mul_right step wide)

pub close_size : (odd step limit n target : ℕ) → 2 * gap (value_size odd step n) target < step / 16 → value_size odd step n + step / 16 ≤ limit
    → (p : ℕ) → p ≤ 2047 → ComesBefore (λ m. min (value_size odd step m) limit) target n p
close_size odd step limit n target near room p hp = ⊎_elim
    (λ (l : p < n). let a = sizes_apart odd step p n l in inl (omega arith))
    (λ (l : n ≤ p). ⊎_elim
    (λ (m : n < p). let a = sizes_apart odd step n p m in by_gaps (λ m. min (value_size odd step m) limit) target n p (omega arith) l)
    (λ (m : p ≤ n). let e : p ≡ n = omega arith in rw e (inr (refl, omega arith)))
    (cases_lt n p))
    (cases_lt p n)

-- the first level of an intra block
pub dc_8 : (c r : ℕ) → r ≤ 255 → ComesBefore (λ n. 8 * n) c (min ((2 * c + 7) / 16) 255) r
dc_8 c r h = ⊎_elim (λ (l : r < min ((2 * c + 7) / 16) 255). inl (omega arith)) (λ (l : min ((2 * c + 7) / 16) 255 ≤ r). by_gaps (λ n. 8 * n) c (min ((2 * c + 7) / 16) 255) r (omega arith) l) (cases_lt r (min ((2 * c + 7) / 16) 255))

pub dc_4 : (c r : ℕ) → r ≤ 511 → ComesBefore (λ n. 4 * n) c (min ((2 * c + 3) / 8) 511) r
dc_4 c r h = ⊎_elim (λ (l : r < min ((2 * c + 3) / 8) 511). inl (omega arith)) (λ (l : min ((2 * c + 3) / 8) 511 ≤ r). by_gaps (λ n. 4 * n) c (min ((2 * c + 3) / 8) 511) r (omega arith) l) (cases_lt r (min ((2 * c + 3) / 8) 511))

pub dc_2 : (c r : ℕ) → r ≤ 1023 → ComesBefore (λ n. 2 * n) c (min ((2 * c + 1) / 4) 1023) r
dc_2 c r h = ⊎_elim (λ (l : r < min ((2 * c + 1) / 4) 1023). inl (omega arith)) (λ (l : min ((2 * c + 1) / 4) 1023 ≤ r). by_gaps (λ n. 2 * n) c (min ((2 * c + 1) / 4) 1023) r (omega arith) l) (cases_lt r (min ((2 * c + 1) / 4) 1023))

pub dc_1 : (c r : ℕ) → r ≤ 2047 → ComesBefore (λ n. 1 * n) c (min c 2047) r
dc_1 c r h = ⊎_elim (λ (l : r < min c 2047). inl (omega arith)) (λ (l : min c 2047 ≤ r). by_gaps (λ n. 1 * n) c (min c 2047) r (omega arith) l) (cases_lt r (min c 2047))

-- of the level that reaches the target and the one below it the nearer one is the nearest
pub nearer_first : (odd step limit target up below above low : ℕ) (b : Bool) → target ≤ limit → IsLeast odd step target up → 0 < up
    → below ≡ value_size odd step (min (up - 1) 2047) → above ≡ min (value_size odd step (min up 2047)) limit
    → (b ≡ true → (up ≤ 2047) × (above - target < target - below)) → (b ≡ false → up ≤ 2047 → target - below ≤ above - target)
    → IsLeast odd step (value_size odd step (cond b up (min (up - 1) 2047))) low → (low ≤ 2047) × ((p : ℕ) → p ≤ 2047 → ComesBefore (λ n. min (value_size odd step n) limit) target low p)
nearer_first odd step limit target up below above low true hl w some below_is above_is upper lower v =
    let y = upper refl in
    let fits = y.0 in
    let near = y.1 in
    let low_up = v.least up (le_refl (value_size odd step up)) in
    let reach = w.reaches in
    let reach_low = v.reaches in
    let up_low = w.least low (omega arith) in
    let e : low ≡ up = omega arith in
    let m : min (up - 1) 2047 ≡ up - 1 = omega arith in
    let n : min up 2047 ≡ up = omega arith in
    let near' : min (value_size odd step up) limit - target < target - value_size odd step (up - 1) = rw (below_is, above_is, m, n) at near in
    rw e (fits, upper_first odd step limit target up hl w some fits near')
nearer_first odd step limit target up below above low false hl w some below_is above_is upper lower v =
    let low_in = v.least (min (up - 1) 2047) (le_refl (value_size odd step (min (up - 1) 2047))) in (
      omega arith,
      lower_first odd step limit target up low hl w some v (λ fits.
          let n : min up 2047 ≡ up = omega arith in
          let m : min (up - 1) 2047 ≡ up - 1 = omega arith in
          rw (below_is, above_is, m, n) at (lower refl fits)),
    )
