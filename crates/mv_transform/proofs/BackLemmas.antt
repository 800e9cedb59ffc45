-- A line there and back, and then a block: the weights of two frequencies are nearly at right angles.
use Rattle.std.proofs.Common.{◌≡◌, ℕ, zero, suc, ◌-◌, ◌*◌, ◌<◌, ◌≤◌, ℤ, pos, negsuc, ◌+ℤ◌, ◌-ℤ◌, ◌*ℤ◌, unsigned_abs, cond, nat_eq, refl, ap, sym, ◌∙◌, arith}
use Rattle.std.proofs.lemmas.Int.{ints, unsigned_abs-mul}
use Rattle.std.proofs.lemmas.Nat.{mul-le}
use Rattle.std.proofs.Math.IntN.{*ℤ_comm}
use Rattle.std.specs.Int.{int_shr}
use Rattle.mv_terms.specs.Block.{IsWithin}
use Rattle.mv_terms.specs.Sums.{sum_below, total_below}
use Rattle.mv_terms.proofs.SumLemmas.{mul-add_ℤ, mul_assoc_ℤ, sum_below_same, sum_below_scaled}
use Rattle.mv_transform.specs.Basis.{basis}
use Rattle.mv_transform.specs.Lines.{inverse_line, forward_line}
use Rattle.mv_transform.specs.Transform.{inverse_sum, forward_sum, forward_at, rounded, saturated}
use Rattle.mv_transform.specs.Back.{ForwardOfInverseIsClose, InverseOfZeros, ForwardOfZeros, FirstIsSum}
use Rattle.mv_transform.proofs.BasisLemmas.{same_table, table}
use Rattle.mv_transform.proofs.LineLemmas.{inverse_by_lines, forward_by_lines, forward_line_same, inverse_line_same, parts_sum}
use Rattle.mv_transform.proofs.SparseLemmas.{sum_below_total}

-- ---- sums of sums

pub sum_plus : (n : ℕ) (f g : ℕ → ℤ) → sum_below n (λ k. f k +ℤ g k) ≡ sum_below n f +ℤ sum_below n g
unfolding sum_below
sum_plus zero f g = refl
sum_plus (suc n) f g = let e : sum_below n (λ k. f k +ℤ g k) ≡ sum_below n f +ℤ sum_below n g = sum_plus n f g in omega (arith, ints, e)

sum_zero : (n : ℕ) → sum_below n (λ k. pos 0) ≡ pos 0
unfolding sum_below
sum_zero zero = refl
sum_zero (suc n) = let e : sum_below n (λ k. pos 0) ≡ pos 0 = sum_zero n in omega (arith, ints, e)

-- in either order
pub sum_swap : (m n : ℕ) (f : ℕ → ℕ → ℤ) → sum_below m (λ i. sum_below n (λ j. f i j)) ≡ sum_below n (λ j. sum_below m (λ i. f i j))
unfolding sum_below
sum_swap zero n f = sym (sum_zero n)
sum_swap (suc m) n f =
    let e : sum_below m (λ i. sum_below n (λ j. f i j)) ≡ sum_below n (λ j. sum_below m (λ i. f i j)) = sum_swap m n f in
    ap (λ (z : ℤ). z +ℤ sum_below n (λ j. f m j)) e ∙ sym (sum_plus n (λ j. sum_below m (λ i. f i j)) (λ j. f m j))

pub turned : (a b g : ℤ) → a *ℤ (b *ℤ g) ≡ b *ℤ (a *ℤ g)
turned a b g = sym (mul_assoc_ℤ a b g) ∙ (ap (λ (z : ℤ). z *ℤ g) (*ℤ_comm a b) ∙ mul_assoc_ℤ b a g)

-- the forward line of a sum of lines g, each so many times
mixed : (b : ℕ → ℤ) (g : ℕ → ℕ → ℤ) (u : ℕ) → forward_line (λ x. sum_below 8 (λ i. b i *ℤ g i x)) u ≡ sum_below 8 (λ i. b i *ℤ forward_line (g i) u)
unfolding forward_line
mixed b g u =
    sum_below_same 8 (λ x. basis u x *ℤ sum_below 8 (λ i. b i *ℤ g i x)) (λ x. sum_below 8 (λ i. basis u x *ℤ (b i *ℤ g i x)))
    (λ x h. sum_below_scaled (basis u x) 8 (λ i. b i *ℤ g i x))
    ∙ (sum_swap 8 8 (λ x i. basis u x *ℤ (b i *ℤ g i x))
    ∙ sum_below_same 8 (λ i. sum_below 8 (λ x. basis u x *ℤ (b i *ℤ g i x))) (λ i. b i *ℤ sum_below 8 (λ x. basis u x *ℤ g i x))
    (λ i h. sum_below_same 8 (λ x. basis u x *ℤ (b i *ℤ g i x)) (λ x. b i *ℤ (basis u x *ℤ g i x)) (λ x k. turned (basis u x) (b i) (g i x))
    ∙ sym (sum_below_scaled (b i) 8 (λ x. basis u x *ℤ g i x))))

-- ---- a line there and back

-- the products of the weights of two frequencies, summed over the places
unfoldable pub product_sum : ℕ → ℕ → ℤ
product_sum u k = sum_below 8 (λ x. basis u x *ℤ basis k x)

unfoldable pub right_angle : ℕ → ℕ → ℤ
right_angle u k = cond (nat_eq u k) (pos 67108864) (pos 0)

abbrev pub defect : ℕ → ℕ → ℤ
defect u k = product_sum u k -ℤ right_angle u k

pub by_products : (F : ℕ → ℤ) (u : ℕ) → forward_line (inverse_line F) u ≡ sum_below 8 (λ k. F k *ℤ product_sum u k)
unfolding inverse_line forward_line product_sum
by_products F u =
    sum_below_same 8 (λ x. basis u x *ℤ sum_below 8 (λ k. basis k x *ℤ F k)) (λ x. basis u x *ℤ sum_below 8 (λ k. F k *ℤ basis k x))
    (λ x h. ap (λ (z : ℤ). basis u x *ℤ z) (sum_below_same 8 (λ k. basis k x *ℤ F k) (λ k. F k *ℤ basis k x) (λ k l. *ℤ_comm (basis k x) (F k))))
    ∙ mixed F basis u

pub own_value : (F : ℕ → ℤ) (u : ℕ) → u < 8 → sum_below 8 (λ k. F k *ℤ right_angle u k) ≡ pos 67108864 *ℤ F u
unfolding sum_below right_angle
own_value F zero h = omega (arith, ints)
own_value F (suc zero) h = omega (arith, ints)
own_value F (suc (suc zero)) h = omega (arith, ints)
own_value F (suc (suc (suc zero))) h = omega (arith, ints)
own_value F (suc (suc (suc (suc zero)))) h = omega (arith, ints)
own_value F (suc (suc (suc (suc (suc zero))))) h = omega (arith, ints)
own_value F (suc (suc (suc (suc (suc (suc zero)))))) h = omega (arith, ints)
own_value F (suc (suc (suc (suc (suc (suc (suc zero))))))) h = omega (arith, ints)
own_value F (suc (suc (suc (suc (suc (suc (suc (suc u)))))))) h = absurd (omega arith)

-- the defects of a frequency, and its weights, in all
defects_excess : table (λ u k. pos (total_below 8 (λ k. unsigned_abs (defect u k)) - 14336)) ≡ table (λ u k. pos 0)
unfolding basis total_below sum_below product_sum right_angle
defects_excess = refl

pub defects : (u : ℕ) → u < 8 → total_below 8 (λ k. unsigned_abs (defect u k)) ≤ 14336
defects u h =
    let e : pos (total_below 8 (λ k. unsigned_abs (defect u k)) - 14336) ≡ pos 0 =
    same_table (λ u k. pos (total_below 8 (λ k. unsigned_abs (defect u k)) - 14336)) (λ u k. pos 0) defects_excess u 0 h (omega arith) in
    omega (arith, ap unsigned_abs e)

weights_excess : table (λ u x. pos (total_below 8 (λ k. unsigned_abs (basis u k)) - 23168)) ≡ table (λ u x. pos 0)
unfolding basis total_below
weights_excess = refl

weights : (u : ℕ) → u < 8 → total_below 8 (λ k. unsigned_abs (basis u k)) ≤ 23168
weights u h =
    let e : pos (total_below 8 (λ k. unsigned_abs (basis u k)) - 23168) ≡ pos 0 =
    same_table (λ u x. pos (total_below 8 (λ k. unsigned_abs (basis u k)) - 23168)) (λ u x. pos 0) weights_excess u 0 h (omega arith) in
    omega (arith, ap unsigned_abs e)

pub product_size : (a b : ℤ) (m : ℕ) → unsigned_abs a ≤ m → unsigned_abs (a *ℤ b) ≤ m * unsigned_abs b
product_size a b m h = rw unsigned_abs-mul (mul-le (unsigned_abs a) (unsigned_abs b) m (unsigned_abs b) h (omega arith))

pub whole : (a b : ℤ) → a ≡ (a -ℤ b) +ℤ b
whole a b = omega (arith, ints)

-- in units of 2^-26, a line there and back is within 14336 times its greatest value
near_line : (m : ℕ) (F : ℕ → ℤ) (u : ℕ) → u < 8 → ((k : ℕ) → k < 8 → unsigned_abs (F k) ≤ m) → unsigned_abs (forward_line (inverse_line F) u -ℤ pos 67108864 *ℤ F u) ≤ m * 14336
near_line m F u hu small =
    let split : sum_below 8 (λ k. F k *ℤ product_sum u k) ≡ sum_below 8 (λ k. F k *ℤ defect u k) +ℤ sum_below 8 (λ k. F k *ℤ right_angle u k) =
    sum_below_same 8 (λ k. F k *ℤ product_sum u k) (λ k. F k *ℤ defect u k +ℤ F k *ℤ right_angle u k)
    (λ k h. ap (λ (z : ℤ). F k *ℤ z) (whole (product_sum u k) (right_angle u k)) ∙ mul-add_ℤ (F k) (defect u k) (right_angle u k))
    ∙ sum_plus 8 (λ k. F k *ℤ defect u k) (λ k. F k *ℤ right_angle u k) in
    let rest = sum_below_total m 8 (λ k. F k *ℤ defect u k) (λ k. unsigned_abs (defect u k)) (λ k h. product_size (F k) (defect u k) m (small k h)) in
    let most : m * total_below 8 (λ k. unsigned_abs (defect u k)) ≤ m * 14336 = mul-le m (total_below 8 (λ k. unsigned_abs (defect u k))) m 14336 (omega arith) (defects u hu) in
    close (forward_line (inverse_line F) u) (sum_below 8 (λ k. F k *ℤ defect u k)) (pos 67108864 *ℤ F u) (m * 14336)
    (by_products F u ∙ split ∙ ap (λ (z : ℤ). sum_below 8 (λ k. F k *ℤ defect u k) +ℤ z) (own_value F u hu)) (omega (arith, rest, most))
  where
    close : (a b c : ℤ) (n : ℕ) → a ≡ b +ℤ c → unsigned_abs b ≤ n → unsigned_abs (a -ℤ c) ≤ n
    close a b c n e h = omega (arith, ints)

line_bound : (m : ℕ) (f : ℕ → ℤ) (u : ℕ) → u < 8 → ((k : ℕ) → k < 8 → unsigned_abs (f k) ≤ m) → unsigned_abs (forward_line f u) ≤ m * 23168
unfolding forward_line
line_bound m f u hu small =
    let b = sum_below_total m 8 (λ x. basis u x *ℤ f x) (λ x. unsigned_abs (basis u x)) (λ k h. let p = product_size (f k) (basis u k) m (small k h) in omega (arith, p, ap unsigned_abs (*ℤ_comm (f k) (basis u k)))) in
    let most : m * total_below 8 (λ k. unsigned_abs (basis u k)) ≤ m * 23168 = mul-le m (total_below 8 (λ k. unsigned_abs (basis u k))) m 23168 (omega arith) (weights u hu) in
    omega (arith, b, most)

forward_line_parts : (a : ℤ) (H L : ℕ → ℤ) (u : ℕ) → forward_line (λ k. a *ℤ H k +ℤ L k) u ≡ a *ℤ forward_line H u +ℤ forward_line L u
unfolding forward_line
forward_line_parts a H L u = parts_sum a 8 (basis u) H L

-- ---- a block there and back

inverse_line_is : (F : ℕ → ℤ) (y : ℕ) → inverse_line F y ≡ sum_below 8 (λ i. basis i y *ℤ F i)
unfolding inverse_line
inverse_line_is F y = refl

by_lines : (F : ℕ → ℕ → ℤ) (v u : ℕ) → forward_sum (inverse_sum F) v u ≡ forward_line (inverse_line (λ i. forward_line (inverse_line (F i)) u)) v
by_lines F v u =
    sym (forward_by_lines (inverse_sum F) v u)
    ∙ forward_line_same (λ y. forward_line (inverse_sum F y) u) (inverse_line (λ i. forward_line (inverse_line (F i)) u)) v (λ y h.
    forward_line_same (inverse_sum F y) (λ x. sum_below 8 (λ i. basis i y *ℤ inverse_line (F i) x)) u (λ x k. sym (inverse_by_lines F y x) ∙ inverse_line_is (λ i. inverse_line (F i) x) y)
    ∙ (mixed (λ i. basis i y) (λ i. inverse_line (F i)) u ∙ sym (inverse_line_is (λ i. forward_line (inverse_line (F i)) u) y)))

-- without rounding, in units of 2^-52
sums_close : (F : ℕ → ℕ → ℤ) → IsWithin 2048 F → (v u : ℕ) → v < 8 → u < 8 → unsigned_abs (forward_sum (inverse_sum F) v u -ℤ pos 4503599627370496 *ℤ F v u) ≤ 3941070580744192
sums_close F small v u hv hu =
    let H : ℕ → ℤ = λ i. forward_line (inverse_line (F i)) u in
    let near : (i : ℕ) → i < 8 → unsigned_abs (H i -ℤ pos 67108864 *ℤ F i u) ≤ 29360128 = λ i h. let n = near_line 2048 (F i) u hu (λ k l. small i k h l) in omega (arith, n) in
    let size : (i : ℕ) → i < 8 → unsigned_abs (H i) ≤ 137468313600 = λ i h. bounded (H i) (F i u) (near i h) (small i u h hu) in
    let outer = near_line 137468313600 H v hv size in
    together (forward_sum (inverse_sum F) v u) (forward_line (inverse_line H) v) (H v) (F v u) (by_lines F v u) (omega (arith, outer)) (near v hv)
  where
    bounded : (h f : ℤ) → unsigned_abs (h -ℤ pos 67108864 *ℤ f) ≤ 29360128 → unsigned_abs f ≤ 2048 → unsigned_abs h ≤ 137468313600
    bounded h f n s = omega (arith, ints)

    together : (s l h f : ℤ) → s ≡ l → unsigned_abs (l -ℤ pos 67108864 *ℤ h) ≤ 1970745743769600 → unsigned_abs (h -ℤ pos 67108864 *ℤ f) ≤ 29360128
        → unsigned_abs (s -ℤ pos 4503599627370496 *ℤ f) ≤ 3941070580744192
    together s l h f e a b = omega (arith, ints)

pub rounded_near : (z : ℤ) → unsigned_abs (pos 67108864 *ℤ rounded z -ℤ z) ≤ 33554432
rounded_near z = by (z +ℤ pos 33554432) z refl
  where
    by : (a z : ℤ) → a ≡ z +ℤ pos 33554432 → unsigned_abs (pos 67108864 *ℤ int_shr a 26 -ℤ z) ≤ 33554432
    by (pos n) z e = omega (arith, ints)
    by (negsuc n) z e = omega (arith, ints)

-- the forward sum of a times f and N together
forward_sum_parts : (a : ℤ) (f N S : ℕ → ℕ → ℤ) → ((y x : ℕ) → y < 8 → x < 8 → S y x ≡ a *ℤ f y x +ℤ N y x) → (v u : ℕ) → forward_sum S v u ≡ a *ℤ forward_sum f v u +ℤ forward_sum N v u
forward_sum_parts a f N S h v u =
    sym (forward_by_lines S v u)
    ∙ (forward_line_same (λ y. forward_line (S y) u) (λ y. a *ℤ forward_line (f y) u +ℤ forward_line (N y) u) v
    (λ y p. forward_line_same (S y) (λ x. a *ℤ f y x +ℤ N y x) u (λ x q. h y x p q) ∙ forward_line_parts a (f y) (N y) u)
    ∙ (forward_line_parts a (λ y. forward_line (f y) u) (λ y. forward_line (N y) u) v
    ∙ both (forward_by_lines f v u) (forward_by_lines N v u)))
  where
    both : {b c d e : ℤ} → b ≡ c → d ≡ e → a *ℤ b +ℤ d ≡ a *ℤ c +ℤ e
    both {b} {c} {d} {e} p q = ap (λ (z : ℤ). a *ℤ z +ℤ d) p ∙ ap (λ (z : ℤ). a *ℤ c +ℤ z) q

pub forward_of_inverse_is_close : ForwardOfInverseIsClose
forward_of_inverse_is_close F f small inverse v u hv hu =
    let N : ℕ → ℕ → ℤ = λ y x. inverse_sum F y x -ℤ pos 67108864 *ℤ f y x in
    let parts = forward_sum_parts (pos 67108864) f N (inverse_sum F) (λ y x p q. whole (inverse_sum F y x) (pos 67108864 *ℤ f y x)) v u in
    let rest : (y x : ℕ) → y < 8 → x < 8 → unsigned_abs (N y x) ≤ 33554432 = λ y x p q. left (inverse_sum F y x) (f y x) (inverse y x p q) (rounded_near (inverse_sum F y x)) in
    let lines : (y : ℕ) → y < 8 → unsigned_abs (forward_line (N y) u) ≤ 777389080576 = λ y p. let b = line_bound 33554432 (N y) u hu (λ x q. rest y x p q) in omega (arith, b) in
    let all = line_bound 777389080576 (λ y. forward_line (N y) u) v hv lines in
    let noise : unsigned_abs (forward_sum N v u) ≤ 18010550218784768 = omega (arith, all, ap unsigned_abs (forward_by_lines N v u)) in
    finish (forward_sum f v u) (forward_at f v u) (forward_sum N v u) (forward_sum (inverse_sum F) v u) (F v u) parts noise (sums_close F small v u hv hu) (rounded_near (forward_sum f v u))
  where
    whole : (s t : ℤ) → s ≡ t +ℤ (s -ℤ t)
    whole s t = omega (arith, ints)

    left : (s t : ℤ) → t ≡ rounded s → unsigned_abs (pos 67108864 *ℤ rounded s -ℤ s) ≤ 33554432 → unsigned_abs (s -ℤ pos 67108864 *ℤ t) ≤ 33554432
    left s t e h = let k : unsigned_abs (pos 67108864 *ℤ t -ℤ s) ≤ 33554432 = rw e h in omega (arith, ints, k)

    finish : (z c n s f : ℤ) → s ≡ pos 67108864 *ℤ z +ℤ n → unsigned_abs n ≤ 18010550218784768 → unsigned_abs (s -ℤ pos 4503599627370496 *ℤ f) ≤ 3941070580744192
        → unsigned_abs (pos 67108864 *ℤ c -ℤ z) ≤ 33554432 → unsigned_abs (c -ℤ f) ≤ 5
    finish z c n s f e hn hs hc = omega (arith, ints)

-- ---- zeros, and the first coefficient

products_of_zeros : (n : ℕ) (b : ℕ → ℤ) → sum_below n (λ k. b k *ℤ pos 0) ≡ pos 0
unfolding sum_below
products_of_zeros zero b = refl
products_of_zeros (suc n) b = let e : sum_below n (λ k. b k *ℤ pos 0) ≡ pos 0 = products_of_zeros n b in omega (arith, ints, e)

forward_line_zero : (u : ℕ) → forward_line (λ x. pos 0) u ≡ pos 0
unfolding forward_line
forward_line_zero u = products_of_zeros 8 (basis u)

inverse_line_zero : (x : ℕ) → inverse_line (λ u. pos 0) x ≡ pos 0
unfolding inverse_line
inverse_line_zero x = products_of_zeros 8 (λ u. basis u x)

pub forward_of_zeros : ForwardOfZeros
forward_of_zeros v u = ap rounded (sym (forward_by_lines (λ y x. pos 0) v u) ∙ (forward_line_same (λ y. forward_line (λ x. pos 0) u) (λ y. pos 0) v (λ y h. forward_line_zero u) ∙ forward_line_zero v))

pub inverse_of_zeros : InverseOfZeros
inverse_of_zeros y x = ap (λ (z : ℤ). saturated (rounded z)) (sym (inverse_by_lines (λ v u. pos 0) y x) ∙ (inverse_line_same (λ v. inverse_line (λ u. pos 0) x) (λ v. pos 0) y (λ v h. inverse_line_zero x) ∙ inverse_line_zero y))

first_weight : (x : ℕ) → basis 0 x ≡ pos 2896
unfolding basis
first_weight x = refl

first_line : (f : ℕ → ℤ) → forward_line f 0 ≡ pos 2896 *ℤ sum_below 8 f
unfolding forward_line
first_line f =
    sum_below_same 8 (λ x. basis 0 x *ℤ f x) (λ x. pos 2896 *ℤ f x) (λ x h. ap (λ (z : ℤ). z *ℤ f x) (first_weight x))
    ∙ sym (sum_below_scaled (pos 2896) 8 f)

pub first_is_sum : FirstIsSum
first_is_sum f = ap rounded (
    sym (forward_by_lines f 0 0)
    ∙ (forward_line_same (λ y. forward_line (f y) 0) (λ y. pos 2896 *ℤ sum_below 8 (f y)) 0 (λ y h. first_line (f y))
    ∙ (first_line (λ y. pos 2896 *ℤ sum_below 8 (f y))
    ∙ (ap (λ (z : ℤ). pos 2896 *ℤ z) (sym (sum_below_scaled (pos 2896) 8 (λ y. sum_below 8 (f y))))
    ∙ sym (mul_assoc_ℤ (pos 2896) (pos 2896) (sum_below 8 (λ y. sum_below 8 (f y))))))))
