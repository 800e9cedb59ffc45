-- A block of the nearest levels decodes to samples near its own.
use Rattle.std.proofs.Common.{◌≡◌, ◌∙◌, ℕ, zero, suc, ◌+◌, ◌*◌, ◌/◌, ◌%◌, ◌^◌, ◌<◌, ◌≤◌, Bool, true, false, List, [], ◌∷◌, length, min, ℤ, pos, negsuc, ◌+ℤ◌, ◌-ℤ◌, ◌*ℤ◌, ◌≤ℤ◌, unsigned_abs, cond, nat_eq, ◌&&◌, refl, ap, sym, arith, get_or}
use Rattle.std.proofs.lemmas.Int.{ints}
use Rattle.std.proofs.lemmas.Nat.{mul-le}
use Rattle.std.proofs.lemmas.Bool.Decides.{nat_tests}
use Rattle.std.proofs.lemmas.List.FromFn.{get_or-map-range_with_len, length-map-range_with_len}
use Rattle.std.specs.List.{list_all}
use Rattle.std.specs.Int.{int_shr}
use Rattle.mv_terms.specs.Sums.{sum_below, total_below}
use Rattle.mv_terms.specs.Block.{entry, IsWithin, IsSameBlock}
use Rattle.mv_transform.specs.Transform.{inverse_at, forward_at, rounded}
use Rattle.mv_transform.proofs.BoundLemmas.{forward_is_bounded}
use Rattle.mv_transform.proofs.BackLemmas.{first_is_sum}
use Rattle.mv_transform.proofs.TransformLemmas.{forward_of_same}
use Rattle.mv_quant.specs.Steps.{oddness}
use Rattle.mv_quant.proofs.SizeLemmas.{none_size}
use Rattle.mv_quant.proofs.SignLemmas.{value_pos}
use Rattle.mv_quant.proofs.NearestLemmas.{value_scaled}
use Rattle.mv_quant.specs.declared.Kind.{Kind}
use Rattle.mv_quant.specs.Dequantised.{value_of, value_sum, is_even, toggled, dequantised, is_first_of_intra, step_at}
use Rattle.mv_quant.specs.Macroblocks.{is_absent, coefficient_at}
use Rattle.mv_quant.specs.Nearest.{distance, nearest_level}
use Rattle.mv_recon.specs.Pictures.{residual_at, clipped}
use Rattle.cert_requant.specs.Requantised.{nearest_block}
use Rattle.mv_transform.specs.Near.{AreNear, carried, square_sum, error_at}
use Rattle.mv_transform.proofs.TotalLemmas.{total_le}
use Rattle.mv_transform.proofs.NearLemmas.{inverse_of_forward_is_near}
use Rattle.mv_transform.proofs.SquareLemmas.{squares_of_errors_are_small}
use Rattle.mv_quant.proofs.HalfLemmas.{nearest_is_within_half, other_is_within_half, first_is_within_half}
use Rattle.enc_near.specs.Blocks.{IsFine, change_of, apart, AreBytes, nearest_to, rebuilt, AreClose, NearestBlockIsNear}

toggled_near : (z : ℤ) → unsigned_abs (toggled z -ℤ z) ≤ 1
toggled_near z = by (is_even z)
  where
    by : (b : Bool) → unsigned_abs (cond b (z +ℤ pos 1) (z -ℤ pos 1) -ℤ z) ≤ 1
    by true = omega (arith, ints)
    by false = omega (arith, ints)

-- mismatch control changes the last value alone
dequantised_near : (kind : Kind) (QF : ℕ → ℕ → ℤ) (v u : ℕ) → unsigned_abs (dequantised kind QF v u -ℤ value_of kind v u (QF v u)) ≤ cond (nat_eq v 7 && nat_eq u 7) 1 0
unfolding dequantised
dequantised_near kind QF v u = by (nat_eq v 7 && nat_eq u 7) (is_even (value_sum kind QF)) (value_of kind v u (QF v u)) (toggled_near (value_of kind v u (QF v u)))
  where
    by : (a b : Bool) (z : ℤ) → unsigned_abs (toggled z -ℤ z) ≤ 1 → unsigned_abs (cond (a && b) (toggled z) z -ℤ z) ≤ cond a 1 0
    by true true z h = omega (arith, h)
    by true false z h = omega (arith, ints)
    by false b z h = omega (arith, ints)

coefficient_is : (kind : Kind) (levels : List ℤ) (v u : ℕ) → is_absent kind levels ≡ false → coefficient_at kind levels v u ≡ dequantised kind (entry levels) v u
unfolding coefficient_at
coefficient_is kind levels v u present = rw present refl

absent_is : (kind : Kind) (levels : List ℤ) (v u : ℕ) → is_absent kind levels ≡ true → coefficient_at kind levels v u ≡ pos 0
unfolding coefficient_at
absent_is kind levels v u absent = rw absent refl

block_long : (kind : Kind) (f : ℕ → ℕ → ℤ) → length (nearest_block kind f) ≡ 64
unfolding nearest_block
block_long kind f = length-map-range_with_len (λ k. nearest_level kind (k / 8) (k % 8) (forward_at f (k / 8) (k % 8))) 0 64

all_at : (p : ℤ → Bool) (xs : List ℤ) (k : ℕ) → list_all p xs ≡ true → k < length xs → p (get_or xs k (pos 0)) ≡ true
all_at p [] k h l = absurd (omega (arith, l))
all_at p (x ∷ xs) zero h l = left (p x) (list_all p xs) h
  where
    left : (a b : Bool) → (a && b) ≡ true → a ≡ true
    left true b h = refl
    left false b h = h
all_at p (x ∷ xs) (suc k) h l = all_at p xs k (right (p x) (list_all p xs) h) (omega (arith, l))
  where
    right : (a b : Bool) → (a && b) ≡ true → b ≡ true
    right true b h = h
    right false b h = absurd (let n : false ≡ true = h in cc n)

-- the levels of an absent block are zero
absent_levels : (kind : Kind) (levels : List ℤ) (v u : ℕ) → v < 8 → u < 8 → length levels ≡ 64 → kind.intra ≡ false → is_absent kind levels ≡ true → entry levels v u ≡ pos 0
absent_levels kind levels v u hv hu long inter absent =
    let all : list_all (λ level. nat_eq (unsigned_abs level) 0) levels ≡ true = rw inter at absent in
    none (entry levels v u) (all_at (λ level. nat_eq (unsigned_abs level) 0) levels (8 * v + u) all (omega (arith, long)))
  where
    none : (z : ℤ) → nat_eq (unsigned_abs z) 0 ≡ true → z ≡ pos 0
    none z h = let e : unsigned_abs z ≡ 0 = grind (arith, nat_tests) in omega (arith, ints, e)

value_of_none : (kind : Kind) (v u : ℕ) → kind.intra ≡ false → value_of kind v u (pos 0) ≡ pos 0
value_of_none kind v u inter =
    let other : is_first_of_intra kind v u ≡ false = rw inter refl in
    value_scaled kind v u (pos 0) other ∙ (value_pos kind.intra (step_at kind (8 * v + u)) 0 ∙ ap (λ (n : ℕ). pos (min n 2047)) (none_size (oddness kind.intra) (step_at kind (8 * v + u))))

level_at : (kind : Kind) (f : ℕ → ℕ → ℤ) (v u : ℕ) → v < 8 → u < 8 → entry (nearest_block kind f) v u ≡ nearest_level kind v u (forward_at f v u)
unfolding nearest_block
level_at kind f v u hv hu =
    let row : (8 * v + u) / 8 ≡ v = omega arith in
    let col : (8 * v + u) % 8 ≡ u = omega arith in
    get_or-map-range_with_len (λ k. nearest_level kind (k / 8) (k % 8) (forward_at f (k / 8) (k % 8))) 0 64 (8 * v + u) (8 * v + u) (pos 0) (omega arith) (omega arith)
    ∙ rw (row, col) refl

-- ---- the first coefficient

some_sum : (n : ℕ) (f : ℕ → ℕ) → sum_below n (λ k. pos (f k)) ≡ pos (total_below n f)
unfolding sum_below total_below
some_sum zero f = refl
some_sum (suc n) f = let e : sum_below n (λ k. pos (f k)) ≡ pos (total_below n f) = some_sum n f in omega (arith, ints, e)

some_rows : (n : ℕ) (f : ℕ → ℤ) (g : ℕ → ℕ) → ((k : ℕ) → f k ≡ pos (g k)) → sum_below n f ≡ pos (total_below n g)
unfolding sum_below total_below
some_rows zero f g h = refl
some_rows (suc n) f g h = let e : sum_below n f ≡ pos (total_below n g) = some_rows n f g h in let d : f n ≡ pos (g n) = h n in omega (arith, ints, e, d)

rounded_some : (n : ℕ) → rounded (pos 8386816 *ℤ pos n) ≡ pos ((8386816 * n + 33554432) / 67108864)
rounded_some n = shifted (pos 8386816 *ℤ pos n +ℤ pos 33554432) (8386816 * n + 33554432) (omega (arith, ints))
  where
    shifted : (z : ℤ) (m : ℕ) → z ≡ pos m → int_shr z 26 ≡ pos (m / 67108864)
    shifted z m e = rw e (omega (arith, ints))

first_some : (s : ℕ → ℕ → ℕ) → (c : ℕ) × (forward_at (λ y x. pos (s y x)) 0 0 ≡ pos c)
first_some s =
    let n : ℕ = total_below 8 (λ y. total_below 8 (s y)) in (
      (8386816 * n + 33554432) / 67108864,
      first_is_sum (λ y x. pos (s y x))
          ∙ (ap (λ (z : ℤ). rounded (pos 8386816 *ℤ z)) (some_rows 8 (λ y. sum_below 8 (λ x. pos (s y x))) (λ y. total_below 8 (s y)) (λ y. some_sum 8 (s y)))
          ∙ rounded_some n),
    )

-- ---- how far the coefficients are changed

first_value : (kind : Kind) (f : ℕ → ℕ → ℤ) (s : ℕ → ℕ → ℕ) → kind.intra ≡ true → kind.dc_precision ≤ 3 → IsWithin 255 f → IsSameBlock f (λ y x. pos (s y x))
    → distance (value_of kind 0 0 (nearest_level kind 0 0 (forward_at f 0 0))) (forward_at f 0 0) ≤ 4 / 2 ^ kind.dc_precision
first_value kind f s intra precision within same = by (first_some s)
  where
    halved : (p n : ℕ) → p ≤ 3 → 2 * n ≤ 8 / 2 ^ p → n ≤ 4 / 2 ^ p
    halved zero n h k = omega arith
    halved (suc zero) n h k = omega arith
    halved (suc (suc zero)) n h k = omega arith
    halved (suc (suc (suc zero))) n h k = omega arith
    halved (suc (suc (suc (suc p)))) n h k = absurd (omega arith)

    by : ((c : ℕ) × (forward_at (λ y x. pos (s y x)) 0 0 ≡ pos c)) → distance (value_of kind 0 0 (nearest_level kind 0 0 (forward_at f 0 0))) (forward_at f 0 0) ≤ 4 / 2 ^ kind.dc_precision
    by (c, e) =
        let d : forward_at f 0 0 ≡ pos c = forward_of_same f (λ y x. pos (s y x)) same 0 0 ∙ e in
        let bound = forward_is_bounded f within 0 0 (omega arith) (omega arith) in
        let small : c ≤ 2040 = omega (arith, bound, ap unsigned_abs d) in
        rw d (halved kind.dc_precision _ precision (first_is_within_half kind c intra precision small))

zeros : (v u : ℕ) → (nat_eq v 0 && nat_eq u 0) ≡ true → (v ≡ 0) × (u ≡ 0)
zeros v u e = by (nat_eq v 0) (nat_eq u 0) refl refl e
  where
    is_zero : (n : ℕ) → nat_eq n 0 ≡ true → n ≡ 0
    is_zero n h = grind (arith, nat_tests)

    by : (a b : Bool) → nat_eq v 0 ≡ a → nat_eq u 0 ≡ b → (a && b) ≡ true → (v ≡ 0) × (u ≡ 0)
    by true true h k e = (is_zero v h, is_zero u k)
    by true false h k e = absurd (let n : false ≡ true = e in cc n)
    by false b h k e = absurd (let n : false ≡ true = e in cc n)

placed : (v u : ℕ) → (nat_eq v 0 && nat_eq u 0) ≡ false → 0 < 8 * v + u
placed zero zero e = absurd (let n : true ≡ false = e in cc n)
placed zero (suc u) e = omega arith
placed (suc v) u e = omega arith

value_near : (kind : Kind) (f : ℕ → ℕ → ℤ) (s : ℕ → ℕ → ℕ) (v u : ℕ) → v < 8 → u < 8 → kind.dc_precision ≤ 3 → IsFine kind → IsWithin 255 f
    → (intra first : Bool) → kind.intra ≡ intra → (nat_eq v 0 && nat_eq u 0) ≡ first → (intra ≡ true → IsSameBlock f (λ y x. pos (s y x)))
    → distance (value_of kind v u (nearest_level kind v u (forward_at f v u))) (forward_at f v u)
    ≤ cond (intra && first) (4 / 2 ^ kind.dc_precision) (cond intra ((step_at kind (8 * v + u) + 15) / 32) ((3 * step_at kind (8 * v + u) + 30) / 64))
value_near kind f s v u hv hu precision fine within true true i e same =
    let z = zeros v u e in
    rw (z.0, z.1) (first_value kind f s i precision within (same refl))
value_near kind f s v u hv hu precision fine within true false i e same =
    let other : is_first_of_intra kind v u ≡ false = rw (i, e) refl in
    let bound = forward_is_bounded f within v u hv hu in
    nearest_is_within_half kind v u (forward_at f v u) i other (fine (8 * v + u) (omega arith) (λ _. placed v u e)) (omega (arith, bound))
value_near kind f s v u hv hu precision fine within false first i e same =
    let bound = forward_is_bounded f within v u hv hu in
    other_is_within_half kind v u (forward_at f v u) i (fine (8 * v + u) (omega arith) (λ h. absurd (let n : false ≡ true = sym i ∙ h in cc n))) (omega (arith, bound))

-- the change by the tests of the place
changed : (intra first last : Bool) (d a b : ℕ) → ℕ
changed intra first last d a b = cond (intra && first) d (cond intra a b + cond last 1 0)

change_is : (kind : Kind) (v u : ℕ) (intra first : Bool) → kind.intra ≡ intra → (nat_eq v 0 && nat_eq u 0) ≡ first
    → change_of kind v u ≡ cond (intra && first) (4 / 2 ^ kind.dc_precision) (cond intra ((step_at kind (8 * v + u) + 15) / 32) ((3 * step_at kind (8 * v + u) + 30) / 64) + cond (nat_eq v 7 && nat_eq u 7) 1 0)
change_is kind v u intra first i e = rw (i, e) refl

pub coefficients_near : (kind : Kind) (f : ℕ → ℕ → ℤ) (s : ℕ → ℕ → ℕ) → kind.dc_precision ≤ 3 → IsFine kind → IsWithin 255 f → (kind.intra ≡ true → IsSameBlock f (λ y x. pos (s y x)))
    → AreNear (change_of kind) f (coefficient_at kind (nearest_block kind f))
coefficients_near kind f s precision fine within same v u hv hu =
    by kind.intra (nat_eq v 0 && nat_eq u 0) (is_absent kind (nearest_block kind f)) refl refl refl
  where
    join : (F a c : ℤ) (m n : ℕ) → unsigned_abs (F -ℤ a) ≤ m → unsigned_abs (a -ℤ c) ≤ n → unsigned_abs (F -ℤ c) ≤ n + m
    join F a c m n h k = omega (arith, ints)

    ends : (first last : Bool) (d h : ℕ) → (first ≡ true → last ≡ false) → cond first d h + cond last 1 0 ≤ cond first d (h + cond last 1 0)
    ends true true d h k = absurd (let n : true ≡ false = k refl in cc n)
    ends true false d h k = omega arith
    ends false last d h k = omega arith

    not_both : (v u : ℕ) → (nat_eq v 0 && nat_eq u 0) ≡ true → (nat_eq v 7 && nat_eq u 7) ≡ false
    not_both v u e = let z = zeros v u e in rw z.0 refl

    second : (a b : Bool) → (a && b) ≡ true → b ≡ true
    second true b h = h
    second false b h = absurd (let n : false ≡ true = h in cc n)

    never : kind.intra ≡ true → is_absent kind (nearest_block kind f) ≡ true → ⊥
    never i a = let n : false ≡ true = rw i at a in cc n

    by : (intra first absent : Bool) → kind.intra ≡ intra → (nat_eq v 0 && nat_eq u 0) ≡ first → is_absent kind (nearest_block kind f) ≡ absent
        → unsigned_abs (coefficient_at kind (nearest_block kind f) v u -ℤ forward_at f v u) ≤ change_of kind v u
    by intra first false i e present =
        let level = level_at kind f v u hv hu in
        let near = value_near kind f s v u hv hu precision fine within intra first i e (λ t. same (i ∙ t)) in
        let toggle = dequantised_near kind (entry (nearest_block kind f)) v u in
        let near' : distance (value_of kind v u (entry (nearest_block kind f) v u)) (forward_at f v u) ≤ cond (intra && first) (4 / 2 ^ kind.dc_precision) (cond intra ((step_at kind (8 * v + u) + 15) / 32) ((3 * step_at kind (8 * v + u) + 30) / 64)) = rw level near in
        let j = join (dequantised kind (entry (nearest_block kind f)) v u) (value_of kind v u (entry (nearest_block kind f) v u)) (forward_at f v u) _ _ toggle near' in
        let w = ends (intra && first) (nat_eq v 7 && nat_eq u 7) (4 / 2 ^ kind.dc_precision) (cond intra ((step_at kind (8 * v + u) + 15) / 32) ((3 * step_at kind (8 * v + u) + 30) / 64)) (λ t. not_both v u (e ∙ second intra first t)) in
        let c = coefficient_is kind (nearest_block kind f) v u present in
        rw (c, change_is kind v u intra first i e) (omega (arith, j, w))
    by true first true i e absent = absurd (never i absent)
    by false first true i e absent =
        let none = absent_levels kind (nearest_block kind f) v u hv hu (block_long kind f) i absent in
        let level = level_at kind f v u hv hu in
        let near = value_near kind f s v u hv hu precision fine within false first i e (λ t. same (i ∙ t)) in
        let zero' : value_of kind v u (nearest_level kind v u (forward_at f v u)) ≡ pos 0 = ap (value_of kind v u) (sym level ∙ none) ∙ value_of_none kind v u i in
        let near' : distance (pos 0) (forward_at f v u) ≤ (3 * step_at kind (8 * v + u) + 30) / 64 = rw zero' at near in
        let c = absent_is kind (nearest_block kind f) v u absent in
        rw (c, change_is kind v u false first i e) (omega (arith, near'))

-- ---- the samples

cut : (z p : ℤ) (n : ℕ) → n ≤ 255 → apart (clipped (p +ℤ z)) n ≤ unsigned_abs (z -ℤ (pos n -ℤ p))
cut z p n h = by (p +ℤ z) refl
  where
    by : (t : ℤ) → p +ℤ z ≡ t → apart (clipped t) n ≤ unsigned_abs (z -ℤ (pos n -ℤ p))
    by (pos k) e = omega (arith, ints)
    by (negsuc k) e = omega (arith, ints)

residual_is : (kind : Kind) (levels : List ℤ) (y x : ℕ) → residual_at kind levels y x ≡ inverse_at (coefficient_at kind levels) y x
unfolding residual_at
residual_is kind levels y x = refl

sample_near : (kind : Kind) (prediction : ℕ → ℕ → ℤ) (s : ℕ → ℕ → ℕ) → AreBytes s → (y x : ℕ) → y < 8 → x < 8
    → apart (rebuilt kind prediction s y x) (s y x) ≤ error_at (λ y x. pos (s y x) -ℤ prediction y x) (coefficient_at kind (nearest_to kind prediction s)) y x
sample_near kind prediction s bytes y x hy hx =
    let c = cut (residual_at kind (nearest_to kind prediction s) y x) (prediction y x) (s y x) (bytes y x hy hx) in
    let e = ap (λ (z : ℤ). unsigned_abs (z -ℤ (pos (s y x) -ℤ prediction y x))) (residual_is kind (nearest_to kind prediction s) y x) in
    omega (arith, c, e)

squares_less : (g h : ℕ → ℕ → ℕ) → ((y x : ℕ) → y < 8 → x < 8 → g y x ≤ h y x) → square_sum g ≤ square_sum h
unfolding square_sum
squares_less g h p =
    total_le 8 (λ y. total_below 8 (λ x. g y x * g y x)) (λ y. total_below 8 (λ x. h y x * h y x))
    (λ y k. total_le 8 (λ x. g y x * g y x) (λ x. h y x * h y x) (λ x l. mul-le (g y x) (g y x) (h y x) (h y x) (p y x k l) (p y x k l)))

pub nearest_block_is_near : NearestBlockIsNear
nearest_block_is_near kind prediction s precision fine predicted bytes =
    let f : ℕ → ℕ → ℤ = λ y x. pos (s y x) -ℤ prediction y x in
    let within : IsWithin 255 f = λ y x hy hx. apart_within (s y x) (prediction y x) (bytes y x hy hx) (predicted.bytes y x hy hx) in
    let near = coefficients_near kind f s precision fine within (λ i y x hy hx. less_nothing (pos (s y x)) (prediction y x) (predicted.none i y x hy hx)) in
    let F : ℕ → ℕ → ℤ = coefficient_at kind (nearest_to kind prediction s) in
    record {
      each = λ y x hy hx.
          let a = inverse_of_forward_is_near (change_of kind) f F within near y x hy hx in
          let b = sample_near kind prediction s bytes y x hy hx in
          divided (apart (rebuilt kind prediction s y x) (s y x)) (error_at f F y x) (carried (change_of kind) y x) a b;
      all = λ k.
          let a = squares_of_errors_are_small (change_of kind) f F within near k in
          let b = squares_less (λ y x. apart (rebuilt kind prediction s y x) (s y x)) (error_at f F) (λ y x p q. sample_near kind prediction s bytes y x p q) in
          let m = mul-le (8192 * k) (square_sum (λ y x. apart (rebuilt kind prediction s y x) (s y x))) (8192 * k) (square_sum (error_at f F)) (omega arith) b in
          omega (arith, a, m);
    }
  where
    divided : (a e c : ℕ) → 134217728 * e ≤ c + 88080384 → a ≤ e → a ≤ (c + 88080384) / 134217728
    divided a e c h k = omega arith

    apart_within : (n : ℕ) (p : ℤ) → n ≤ 255 → (pos 0 ≤ℤ p) × (p ≤ℤ pos 255) → unsigned_abs (pos n -ℤ p) ≤ 255
    apart_within n p h r = omega (arith, ints, r.0, r.1)

    less_nothing : (a b : ℤ) → b ≡ pos 0 → a -ℤ b ≡ a
    less_nothing a b e = omega (arith, ints, e)

-- what has the same samples is as close
pub close_same : (kind : Kind) (s r q : ℕ → ℕ → ℕ) → ((y x : ℕ) → y < 8 → x < 8 → q y x ≡ r y x) → AreClose kind s r → AreClose kind s q
close_same kind s r q same w = record {
  each = λ y x hy hx. rw (same y x hy hx) (w.each y x hy hx);
  all = λ k.
      let b = squares_less (λ y x. apart (q y x) (s y x)) (λ y x. apart (r y x) (s y x)) (λ y x hy hx. rw (same y x hy hx) (omega arith)) in
      let m = mul-le (8192 * k) (square_sum (λ y x. apart (q y x) (s y x))) (8192 * k) (square_sum (λ y x. apart (r y x) (s y x))) (omega arith) b in
      omega (arith, w.all k, m);
}

-- and so where the samples that it is near are the same, too
pub both_same : (kind : Kind) (s t r q : ℕ → ℕ → ℕ) → ((y x : ℕ) → y < 8 → x < 8 → t y x ≡ s y x) → ((y x : ℕ) → y < 8 → x < 8 → q y x ≡ r y x) → AreClose kind s r → AreClose kind t q
both_same kind s t r q source same w = record {
  each = λ y x hy hx. rw (source y x hy hx, same y x hy hx) (w.each y x hy hx);
  all = λ k.
      let b = squares_less (λ y x. apart (q y x) (t y x)) (λ y x. apart (r y x) (s y x)) (λ y x hy hx. rw (source y x hy hx, same y x hy hx) (omega arith)) in
      let m = mul-le (8192 * k) (square_sum (λ y x. apart (q y x) (t y x))) (8192 * k) (square_sum (λ y x. apart (r y x) (s y x))) (omega arith) b in
      omega (arith, w.all k, m);
}
