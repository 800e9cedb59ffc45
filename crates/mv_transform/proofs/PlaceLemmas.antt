-- A line of samples there and back: the weights at two places are nearly at right angles.
use Rattle.std.proofs.Common.{◌≡◌, ℕ, ◌-◌, ◌*◌, ◌<◌, ◌≤◌, ℤ, pos, ◌+ℤ◌, ◌-ℤ◌, ◌*ℤ◌, unsigned_abs, refl, ap, sym, ◌∙◌, arith}
use Rattle.std.proofs.lemmas.Int.{ints}
use Rattle.std.proofs.lemmas.Nat.{mul-le}
use Rattle.std.proofs.Math.IntN.{*ℤ_comm}
use Rattle.mv_terms.specs.Block.{IsWithin}
use Rattle.mv_terms.specs.Sums.{sum_below, total_below}
use Rattle.mv_terms.proofs.SumLemmas.{mul-add_ℤ, sum_below_same, sum_below_scaled}
use Rattle.mv_transform.specs.Basis.{basis}
use Rattle.mv_transform.specs.Lines.{inverse_line, forward_line}
use Rattle.mv_transform.specs.Transform.{inverse_sum, forward_sum}
use Rattle.mv_transform.proofs.BasisLemmas.{same_table, table}
use Rattle.mv_transform.proofs.LineLemmas.{inverse_by_lines, forward_by_lines, inverse_line_same, inverse_line_parts}
use Rattle.mv_transform.proofs.SparseLemmas.{sum_below_total}
use Rattle.mv_transform.proofs.BackLemmas.{sum_plus, sum_swap, turned, right_angle, own_value, product_size, whole}

-- the inverse line of a sum of lines g, each so many times
mixed : (b : ℕ → ℤ) (g : ℕ → ℕ → ℤ) (x : ℕ) → inverse_line (λ u. sum_below 8 (λ i. b i *ℤ g i u)) x ≡ sum_below 8 (λ i. b i *ℤ inverse_line (g i) x)
unfolding inverse_line
mixed b g x =
    sum_below_same 8 (λ u. basis u x *ℤ sum_below 8 (λ i. b i *ℤ g i u)) (λ u. sum_below 8 (λ i. basis u x *ℤ (b i *ℤ g i u)))
    (λ u h. sum_below_scaled (basis u x) 8 (λ i. b i *ℤ g i u))
    ∙ (sum_swap 8 8 (λ u i. basis u x *ℤ (b i *ℤ g i u))
    ∙ sum_below_same 8 (λ i. sum_below 8 (λ u. basis u x *ℤ (b i *ℤ g i u))) (λ i. b i *ℤ sum_below 8 (λ u. basis u x *ℤ g i u))
    (λ i h. sum_below_same 8 (λ u. basis u x *ℤ (b i *ℤ g i u)) (λ u. b i *ℤ (basis u x *ℤ g i u)) (λ u k. turned (basis u x) (b i) (g i u))
    ∙ sym (sum_below_scaled (b i) 8 (λ u. basis u x *ℤ g i u))))

-- the products of the weights at two places, summed over the frequencies
place_sum : ℕ → ℕ → ℤ
place_sum x k = sum_below 8 (λ u. basis u x *ℤ basis u k)

abbrev defect : ℕ → ℕ → ℤ
defect x k = place_sum x k -ℤ right_angle x k

by_places : (f : ℕ → ℤ) (x : ℕ) → inverse_line (forward_line f) x ≡ sum_below 8 (λ k. f k *ℤ place_sum x k)
unfolding inverse_line forward_line place_sum
by_places f x =
    sum_below_same 8 (λ u. basis u x *ℤ sum_below 8 (λ k. basis u k *ℤ f k)) (λ u. basis u x *ℤ sum_below 8 (λ k. f k *ℤ basis u k))
    (λ u h. ap (λ (z : ℤ). basis u x *ℤ z) (sum_below_same 8 (λ k. basis u k *ℤ f k) (λ k. f k *ℤ basis u k) (λ k l. *ℤ_comm (basis u k) (f k))))
    ∙ mixed f (λ k u. basis u k) x

defects_excess : table (λ x k. pos (total_below 8 (λ k. unsigned_abs (defect x k)) - 17168)) ≡ table (λ x k. pos 0)
unfolding basis total_below sum_below place_sum right_angle
defects_excess = refl

defects : (x : ℕ) → x < 8 → total_below 8 (λ k. unsigned_abs (defect x k)) ≤ 17168
defects x h =
    let e : pos (total_below 8 (λ k. unsigned_abs (defect x k)) - 17168) ≡ pos 0 =
    same_table (λ x k. pos (total_below 8 (λ k. unsigned_abs (defect x k)) - 17168)) (λ x k. pos 0) defects_excess x 0 h (omega arith) in
    omega (arith, ap unsigned_abs e)

-- in units of 2^-26, a line there and back is within 17168 times its greatest value
near_line : (m : ℕ) (f : ℕ → ℤ) (x : ℕ) → x < 8 → ((k : ℕ) → k < 8 → unsigned_abs (f k) ≤ m) → unsigned_abs (inverse_line (forward_line f) x -ℤ pos 67108864 *ℤ f x) ≤ m * 17168
near_line m f x hx small =
    let split : sum_below 8 (λ k. f k *ℤ place_sum x k) ≡ sum_below 8 (λ k. f k *ℤ defect x k) +ℤ sum_below 8 (λ k. f k *ℤ right_angle x k) =
    sum_below_same 8 (λ k. f k *ℤ place_sum x k) (λ k. f k *ℤ defect x k +ℤ f k *ℤ right_angle x k)
    (λ k h. ap (λ (z : ℤ). f k *ℤ z) (whole (place_sum x k) (right_angle x k)) ∙ mul-add_ℤ (f k) (defect x k) (right_angle x k))
    ∙ sum_plus 8 (λ k. f k *ℤ defect x k) (λ k. f k *ℤ right_angle x k) in
    let rest = sum_below_total m 8 (λ k. f k *ℤ defect x k) (λ k. unsigned_abs (defect x k)) (λ k h. product_size (f k) (defect x k) m (small k h)) in
    let most : m * total_below 8 (λ k. unsigned_abs (defect x k)) ≤ m * 17168 = mul-le m (total_below 8 (λ k. unsigned_abs (defect x k))) m 17168 (omega arith) (defects x hx) in
    close (inverse_line (forward_line f) x) (sum_below 8 (λ k. f k *ℤ defect x k)) (pos 67108864 *ℤ f x) (m * 17168)
    (by_places f x ∙ split ∙ ap (λ (z : ℤ). sum_below 8 (λ k. f k *ℤ defect x k) +ℤ z) (own_value f x hx)) (omega (arith, rest, most))
  where
    close : (a b c : ℤ) (n : ℕ) → a ≡ b +ℤ c → unsigned_abs b ≤ n → unsigned_abs (a -ℤ c) ≤ n
    close a b c n e h = omega (arith, ints)

forward_line_is : (f : ℕ → ℤ) (v : ℕ) → forward_line f v ≡ sum_below 8 (λ i. basis v i *ℤ f i)
unfolding forward_line
forward_line_is f v = refl

by_lines : (f : ℕ → ℕ → ℤ) (y x : ℕ) → inverse_sum (forward_sum f) y x ≡ inverse_line (forward_line (λ i. inverse_line (forward_line (f i)) x)) y
by_lines f y x =
    sym (inverse_by_lines (forward_sum f) y x)
    ∙ inverse_line_same (λ v. inverse_line (forward_sum f v) x) (forward_line (λ i. inverse_line (forward_line (f i)) x)) y (λ v h.
    inverse_line_same (forward_sum f v) (λ u. sum_below 8 (λ i. basis v i *ℤ forward_line (f i) u)) x (λ u k. sym (forward_by_lines f v u) ∙ forward_line_is (λ i. forward_line (f i) u) v)
    ∙ (mixed (basis v) (λ i. forward_line (f i)) x ∙ sym (forward_line_is (λ i. inverse_line (forward_line (f i)) x) v)))

-- without rounding, in units of 2^-52
pub sums_close : (f : ℕ → ℕ → ℤ) → IsWithin 255 f → (y x : ℕ) → y < 8 → x < 8 → unsigned_abs (inverse_sum (forward_sum f) y x -ℤ pos 4503599627370496 *ℤ f y x) ≤ 587658897104640
sums_close f small y x hy hx =
    let H : ℕ → ℤ = λ i. inverse_line (forward_line (f i)) x in
    let near : (i : ℕ) → i < 8 → unsigned_abs (H i -ℤ pos 67108864 *ℤ f i x) ≤ 4377840 = λ i h. let n = near_line 255 (f i) x hx (λ k l. small i k h l) in omega (arith, n) in
    let size : (i : ℕ) → i < 8 → unsigned_abs (H i) ≤ 17117138160 = λ i h. bounded (H i) (f i x) (near i h) (small i x h hx) in
    let outer = near_line 17117138160 H y hy size in
    together (inverse_sum (forward_sum f) y x) (inverse_line (forward_line H) y) (H y) (f y x) (by_lines f y x) (omega (arith, outer)) (near y hy)
  where
    bounded : (h f : ℤ) → unsigned_abs (h -ℤ pos 67108864 *ℤ f) ≤ 4377840 → unsigned_abs f ≤ 255 → unsigned_abs h ≤ 17117138160
    bounded h f n s = omega (arith, ints)

    together : (s l h f : ℤ) → s ≡ l → unsigned_abs (l -ℤ pos 67108864 *ℤ h) ≤ 293867027930880 → unsigned_abs (h -ℤ pos 67108864 *ℤ f) ≤ 4377840
        → unsigned_abs (s -ℤ pos 4503599627370496 *ℤ f) ≤ 587658897104640
    together s l h f e a b = omega (arith, ints)

-- the inverse sum of a times F and N together
pub inverse_sum_parts : (a : ℤ) (F N S : ℕ → ℕ → ℤ) → ((v u : ℕ) → v < 8 → u < 8 → S v u ≡ a *ℤ F v u +ℤ N v u) → (y x : ℕ) → inverse_sum S y x ≡ a *ℤ inverse_sum F y x +ℤ inverse_sum N y x
inverse_sum_parts a F N S h y x =
    sym (inverse_by_lines S y x)
    ∙ (inverse_line_same (λ v. inverse_line (S v) x) (λ v. a *ℤ inverse_line (F v) x +ℤ inverse_line (N v) x) y
    (λ v p. inverse_line_same (S v) (λ u. a *ℤ F v u +ℤ N v u) x (λ u q. h v u p q) ∙ inverse_line_parts a (F v) (N v) x)
    ∙ (inverse_line_parts a (λ v. inverse_line (F v) x) (λ v. inverse_line (N v) x) y
    ∙ (ap (λ (z : ℤ). a *ℤ z +ℤ inverse_line (λ v. inverse_line (N v) x) y) (inverse_by_lines F y x)
    ∙ ap (λ (z : ℤ). a *ℤ inverse_sum F y x +ℤ z) (inverse_by_lines N y x))))
