-- A block there and back with its coefficients changed, by squares.
use Rattle.std.proofs.Common.{◌≡◌, ℕ, zero, suc, ◌+◌, ◌*◌, ◌<◌, ◌≤◌, ℤ, pos, ◌+ℤ◌, ◌*ℤ◌, unsigned_abs, refl, ap, sym, ◌∙◌, arith}
use Rattle.std.proofs.lemmas.Int.{ints, unsigned_abs-mul}
use Rattle.std.proofs.lemmas.Nat.{mul-le}
use Rattle.std.proofs.Math.IntN.{*ℤ_comm}
use Rattle.mv_terms.specs.Block.{IsWithin}
use Rattle.mv_terms.specs.Sums.{sum_below, total_below}
use Rattle.mv_terms.proofs.SumLemmas.{mul-add_ℤ, sum_below_same, sum_below_scaled}
use Rattle.mv_transform.specs.Basis.{basis}
use Rattle.mv_transform.specs.Lines.{inverse_line, forward_line}
use Rattle.mv_transform.specs.Transform.{inverse_sum}
use Rattle.mv_transform.proofs.BasisLemmas.{same_table, table}
use Rattle.mv_transform.proofs.LineLemmas.{inverse_by_lines}
use Rattle.mv_transform.specs.Near.{AreNear, twice, square_sum, error_at, SquaresOfErrorsAreSmall}
use Rattle.mv_transform.proofs.TotalLemmas.{total_same, total_le, total_plus, total_swap, total_scaled, sum_size, sq, squares_are, two_products}
use Rattle.mv_transform.proofs.BackLemmas.{sum_plus, sum_swap, turned, product_sum, by_products, right_angle, own_value, defect, defects, whole}
use Rattle.mv_transform.proofs.NearLemmas.{change, change_size, error_parts}

-- a line against the samples of another is its coefficients against theirs
across : (p g : ℕ → ℤ) → sum_below 8 (λ x. g x *ℤ inverse_line p x) ≡ sum_below 8 (λ u. p u *ℤ forward_line g u)
unfolding inverse_line forward_line
across p g =
    sum_below_same 8 (λ x. g x *ℤ sum_below 8 (λ u. basis u x *ℤ p u)) (λ x. sum_below 8 (λ u. g x *ℤ (basis u x *ℤ p u)))
    (λ x h. sum_below_scaled (g x) 8 (λ u. basis u x *ℤ p u))
    ∙ (sum_swap 8 8 (λ x u. g x *ℤ (basis u x *ℤ p u))
    ∙ sum_below_same 8 (λ u. sum_below 8 (λ x. g x *ℤ (basis u x *ℤ p u))) (λ u. p u *ℤ sum_below 8 (λ x. basis u x *ℤ g x))
    (λ u h. sum_below_same 8 (λ x. g x *ℤ (basis u x *ℤ p u)) (λ x. p u *ℤ (basis u x *ℤ g x)) (λ x k. reordered (g x) (basis u x) (p u))
    ∙ sym (sum_below_scaled (p u) 8 (λ x. basis u x *ℤ g x))))
  where
    reordered : (g b p : ℤ) → g *ℤ (b *ℤ p) ≡ p *ℤ (b *ℤ g)
    reordered g b p = ap (λ (z : ℤ). g *ℤ z) (*ℤ_comm b p) ∙ (turned g p b ∙ ap (λ (z : ℤ). p *ℤ z) (*ℤ_comm g b))

mirrored_defects : table defect ≡ table (λ u k. defect k u)
unfolding basis sum_below product_sum right_angle
mirrored_defects = refl

defects_turned : (k : ℕ) → k < 8 → total_below 8 (λ u. unsigned_abs (defect u k)) ≤ 14336
defects_turned k h =
    let e : total_below 8 (λ u. unsigned_abs (defect u k)) ≡ total_below 8 (λ u. unsigned_abs (defect k u)) =
    total_same 8 (λ u. unsigned_abs (defect u k)) (λ u. unsigned_abs (defect k u)) (λ u l. ap unsigned_abs (same_table defect (λ u k. defect k u) mirrored_defects u k l h)) in
    omega (arith, e, defects k h)

-- what the defects of the weights bring to a frequency
abbrev rest : (ℕ → ℤ) → ℕ → ℤ
rest p u = sum_below 8 (λ k. p k *ℤ defect u k)

there_and_back : (p : ℕ → ℤ) (u : ℕ) → u < 8 → forward_line (inverse_line p) u ≡ rest p u +ℤ pos 67108864 *ℤ p u
there_and_back p u hu =
    by_products p u
    ∙ (sum_below_same 8 (λ k. p k *ℤ product_sum u k) (λ k. p k *ℤ defect u k +ℤ p k *ℤ right_angle u k)
    (λ k h. ap (λ (z : ℤ). p k *ℤ z) (whole (product_sum u k) (right_angle u k)) ∙ mul-add_ℤ (p k) (defect u k) (right_angle u k))
    ∙ (sum_plus 8 (λ k. p k *ℤ defect u k) (λ k. p k *ℤ right_angle u k)
    ∙ ap (λ (z : ℤ). rest p u +ℤ z) (own_value p u hu)))

-- twice the part of one frequency
rest_size : (p : ℕ → ℤ) (u : ℕ) → 2 * unsigned_abs (p u *ℤ rest p u) ≤ total_below 8 (λ k. unsigned_abs (defect u k) * sq (p u) + unsigned_abs (defect u k) * sq (p k))
rest_size p u =
    let r : unsigned_abs (rest p u) ≤ total_below 8 (λ k. unsigned_abs (p k *ℤ defect u k)) = sum_size 8 (λ k. p k *ℤ defect u k) in
    let m : unsigned_abs (p u) * unsigned_abs (rest p u) ≤ unsigned_abs (p u) * total_below 8 (λ k. unsigned_abs (p k *ℤ defect u k)) =
    mul-le (unsigned_abs (p u)) (unsigned_abs (rest p u)) (unsigned_abs (p u)) (total_below 8 (λ k. unsigned_abs (p k *ℤ defect u k))) (omega arith) r in
    let s : total_below 8 (λ k. 2 * unsigned_abs (p u) * unsigned_abs (p k *ℤ defect u k)) ≡ 2 * unsigned_abs (p u) * total_below 8 (λ k. unsigned_abs (p k *ℤ defect u k)) =
    total_scaled (2 * unsigned_abs (p u)) 8 (λ k. unsigned_abs (p k *ℤ defect u k)) in
    let t : total_below 8 (λ k. 2 * unsigned_abs (p u) * unsigned_abs (p k *ℤ defect u k)) ≤ total_below 8 (λ k. unsigned_abs (defect u k) * sq (p u) + unsigned_abs (defect u k) * sq (p k)) =
    total_le 8 (λ k. 2 * unsigned_abs (p u) * unsigned_abs (p k *ℤ defect u k)) (λ k. unsigned_abs (defect u k) * sq (p u) + unsigned_abs (defect u k) * sq (p k))
    (λ k h. term (unsigned_abs (p u)) (unsigned_abs (p k)) (unsigned_abs (defect u k)) (unsigned_abs (p k *ℤ defect u k)) (unsigned_abs-mul (p k) (defect u k))) in
    let e : unsigned_abs (p u *ℤ rest p u) ≡ unsigned_abs (p u) * unsigned_abs (rest p u) = unsigned_abs-mul (p u) (rest p u) in
    omega (arith, e, m, s, t)
  where
    term : (a b d n : ℕ) → n ≡ b * d → 2 * a * n ≤ d * (a * a) + d * (b * b)
    term a b d n e =
        let h : d * (2 * (a * b)) ≤ d * (a * a + b * b) = mul-le d (2 * (a * b)) d (a * a + b * b) (omega arith) (two_products a b) in
        rw e (omega (arith, h))

-- the squares of a line
abbrev line_squares : (ℕ → ℤ) → ℕ
line_squares p = total_below 8 (λ k. sq (p k))

all_rests : (p : ℕ → ℤ) → total_below 8 (λ u. total_below 8 (λ k. unsigned_abs (defect u k) * sq (p u) + unsigned_abs (defect u k) * sq (p k))) ≤ 28672 * line_squares p
all_rests p =
    let a : total_below 8 (λ u. total_below 8 (λ k. unsigned_abs (defect u k) * sq (p u))) ≤ 14336 * line_squares p = own p (λ u k. unsigned_abs (defect u k)) (λ u h. defects u h) in
    let b : total_below 8 (λ u. total_below 8 (λ k. unsigned_abs (defect u k) * sq (p k))) ≤ 14336 * line_squares p =
    (let e = total_swap 8 8 (λ u k. unsigned_abs (defect u k) * sq (p k)) in
    let o = own p (λ k u. unsigned_abs (defect u k)) (λ k h. defects_turned k h) in omega (arith, e, o)) in
    let s : total_below 8 (λ u. total_below 8 (λ k. unsigned_abs (defect u k) * sq (p u) + unsigned_abs (defect u k) * sq (p k)))
    ≡ total_below 8 (λ u. total_below 8 (λ k. unsigned_abs (defect u k) * sq (p u))) + total_below 8 (λ u. total_below 8 (λ k. unsigned_abs (defect u k) * sq (p k))) =
    total_same 8 (λ u. total_below 8 (λ k. unsigned_abs (defect u k) * sq (p u) + unsigned_abs (defect u k) * sq (p k)))
    (λ u. total_below 8 (λ k. unsigned_abs (defect u k) * sq (p u)) + total_below 8 (λ k. unsigned_abs (defect u k) * sq (p k)))
    (λ u h. total_plus 8 (λ k. unsigned_abs (defect u k) * sq (p u)) (λ k. unsigned_abs (defect u k) * sq (p k)))
    ∙ total_plus 8 (λ u. total_below 8 (λ k. unsigned_abs (defect u k) * sq (p u))) (λ u. total_below 8 (λ k. unsigned_abs (defect u k) * sq (p k))) in
    omega (arith, a, b, s)
  where
    own : (p : ℕ → ℤ) (d : ℕ → ℕ → ℕ) → ((u : ℕ) → u < 8 → total_below 8 (d u) ≤ 14336) → total_below 8 (λ u. total_below 8 (λ k. d u k * sq (p u))) ≤ 14336 * total_below 8 (λ k. sq (p k))
    own p d h =
        let t = total_le 8 (λ u. total_below 8 (λ k. d u k * sq (p u))) (λ u. 14336 * sq (p u))
        (λ u l. let e : total_below 8 (λ k. d u k * sq (p u)) ≡ sq (p u) * total_below 8 (d u) =
        total_same 8 (λ k. d u k * sq (p u)) (λ k. sq (p u) * d u k) (λ k j. omega arith) ∙ total_scaled (sq (p u)) 8 (d u) in
        let m = mul-le (sq (p u)) (total_below 8 (d u)) (sq (p u)) 14336 (omega arith) (h u l) in omega (arith, e, m)) in
        let s = total_scaled 14336 8 (λ u. sq (p u)) in
        omega (arith, t, s)

-- in units of 2^-26: an inverse line has hardly more of squares than its coefficients
line_law : (p : ℕ → ℤ) → line_squares (inverse_line p) ≤ 67123200 * line_squares p
line_law p =
    let e : sum_below 8 (λ x. inverse_line p x *ℤ inverse_line p x) ≡ sum_below 8 (λ u. p u *ℤ forward_line (inverse_line p) u) = across p (inverse_line p) in
    let s : sum_below 8 (λ u. p u *ℤ forward_line (inverse_line p) u) ≡ sum_below 8 (λ u. p u *ℤ rest p u) +ℤ sum_below 8 (λ u. p u *ℤ (pos 67108864 *ℤ p u)) =
    sum_below_same 8 (λ u. p u *ℤ forward_line (inverse_line p) u) (λ u. p u *ℤ rest p u +ℤ p u *ℤ (pos 67108864 *ℤ p u))
    (λ u h. ap (λ (z : ℤ). p u *ℤ z) (there_and_back p u h) ∙ mul-add_ℤ (p u) (rest p u) (pos 67108864 *ℤ p u))
    ∙ sum_plus 8 (λ u. p u *ℤ rest p u) (λ u. p u *ℤ (pos 67108864 *ℤ p u)) in
    let o : sum_below 8 (λ u. p u *ℤ (pos 67108864 *ℤ p u)) ≡ pos 67108864 *ℤ sum_below 8 (λ u. p u *ℤ p u) =
    sum_below_same 8 (λ u. p u *ℤ (pos 67108864 *ℤ p u)) (λ u. pos 67108864 *ℤ (p u *ℤ p u)) (λ u h. turned (p u) (pos 67108864) (p u)) ∙ sym (sum_below_scaled (pos 67108864) 8 (λ u. p u *ℤ p u)) in
    let r : unsigned_abs (sum_below 8 (λ u. p u *ℤ rest p u)) ≤ total_below 8 (λ u. unsigned_abs (p u *ℤ rest p u)) = sum_size 8 (λ u. p u *ℤ rest p u) in
    let t : total_below 8 (λ u. 2 * unsigned_abs (p u *ℤ rest p u)) ≡ 2 * total_below 8 (λ u. unsigned_abs (p u *ℤ rest p u)) = total_scaled 2 8 (λ u. unsigned_abs (p u *ℤ rest p u)) in
    let l = total_le 8 (λ u. 2 * unsigned_abs (p u *ℤ rest p u)) (λ u. total_below 8 (λ k. unsigned_abs (defect u k) * sq (p u) + unsigned_abs (defect u k) * sq (p k))) (λ u h. rest_size p u) in
    let a = all_rests p in
    finish (line_squares (inverse_line p)) (line_squares p) (sum_below 8 (λ x. inverse_line p x *ℤ inverse_line p x)) (sum_below 8 (λ u. p u *ℤ rest p u)) (sum_below 8 (λ u. p u *ℤ p u))
    (squares_are 8 (inverse_line p)) (squares_are 8 p) (e ∙ s ∙ ap (λ (z : ℤ). sum_below 8 (λ u. p u *ℤ rest p u) +ℤ z) o) (omega (arith, r, t, l, a))
  where
    finish : (i q : ℕ) (s r w : ℤ) → pos i ≡ s → pos q ≡ w → s ≡ r +ℤ pos 67108864 *ℤ w → unsigned_abs r ≤ 14336 * q → i ≤ 67123200 * q
    finish i q s r w a b c d = omega (arith, ints)

abbrev block_squares : (ℕ → ℕ → ℤ) → ℕ
block_squares p = total_below 8 (λ y. total_below 8 (λ x. sq (p y x)))

-- in units of 2^-52, and so has an inverse block
block_law : (p : ℕ → ℕ → ℤ) → block_squares (inverse_sum p) ≤ 4505523978240000 * block_squares p
block_law p =
    let lines : block_squares (inverse_sum p) ≡ total_below 8 (λ x. line_squares (inverse_line (λ v. inverse_line (p v) x))) =
    total_swap 8 8 (λ y x. sq (inverse_sum p y x))
    ∙ total_same 8 (λ x. total_below 8 (λ y. sq (inverse_sum p y x))) (λ x. line_squares (inverse_line (λ v. inverse_line (p v) x)))
    (λ x h. total_same 8 (λ y. sq (inverse_sum p y x)) (λ y. sq (inverse_line (λ v. inverse_line (p v) x) y)) (λ y k. ap sq (sym (inverse_by_lines p y x)))) in
    let outer = total_le 8 (λ x. line_squares (inverse_line (λ v. inverse_line (p v) x))) (λ x. 67123200 * line_squares (λ v. inverse_line (p v) x)) (λ x h. line_law (λ v. inverse_line (p v) x)) in
    let out = total_scaled 67123200 8 (λ x. line_squares (λ v. inverse_line (p v) x)) in
    let turn : total_below 8 (λ x. line_squares (λ v. inverse_line (p v) x)) ≡ total_below 8 (λ v. line_squares (inverse_line (p v))) = total_swap 8 8 (λ x v. sq (inverse_line (p v) x)) in
    let inner = total_le 8 (λ v. line_squares (inverse_line (p v))) (λ v. 67123200 * line_squares (p v)) (λ v h. line_law (p v)) in
    let in' = total_scaled 67123200 8 (λ v. line_squares (p v)) in
    omega (arith, lines, outer, out, turn, inner, in')

-- ---- the errors of a block

-- the square of a sum of two, with the first one taken k times as heavy
mixed_square : (k e a b s : ℕ) → s * e ≤ a + b → k * (s * e * (s * e)) ≤ (k + 1) * (a * a) + k * (k + 1) * (b * b)
mixed_square k e a b s h =
    let q : s * e * (s * e) ≤ (a + b) * (a + b) = mul-le (s * e) (s * e) (a + b) (a + b) h h in
    let m : k * (s * e * (s * e)) ≤ k * ((a + b) * (a + b)) = mul-le k (s * e * (s * e)) k ((a + b) * (a + b)) (omega arith) q in
    let t : 2 * (a * (k * b)) ≤ a * a + k * b * (k * b) = two_products a (k * b) in
    omega (arith, m, t)

error_square : (f F : ℕ → ℕ → ℤ) (k : ℕ) → IsWithin 255 f → (y x : ℕ) → y < 8 → x < 8
    → k * 20282409603651670423947251286016 * (error_at f F y x * error_at f F y x)
    ≤ (k + 1) * sq (inverse_sum (change f F) y x) + k * (k + 1) * 8734904917197643219688220524544
error_square f F k small y x hy hx =
    let m = mixed_square k (error_at f F y x) (unsigned_abs (inverse_sum (change f F) y x)) 2955487255461888 4503599627370496 (error_parts f F small y x hy hx) in
    omega (arith, m)

total_bound : (n c d e : ℕ) (g h : ℕ → ℕ) → ((k : ℕ) → k < n → c * g k ≤ d * h k + e) → c * total_below n g ≤ d * total_below n h + n * e
unfolding total_below
total_bound zero c d e g h p = omega arith
total_bound (suc n) c d e g h p =
    let i : c * total_below n g ≤ d * total_below n h + n * e = total_bound n c d e g h (λ k l. p k (omega arith)) in
    let j : c * g n ≤ d * h n + e = p n (omega arith) in
    omega (arith, i, j)

block_bound : (c d e : ℕ) (g h : ℕ → ℕ → ℕ) → ((y x : ℕ) → y < 8 → x < 8 → c * g y x ≤ d * h y x + e)
    → c * total_below 8 (λ y. total_below 8 (g y)) ≤ d * total_below 8 (λ y. total_below 8 (h y)) + 64 * e
block_bound c d e g h p =
    let b = total_bound 8 c d (8 * e) (λ y. total_below 8 (g y)) (λ y. total_below 8 (h y)) (λ y k. total_bound 8 c d e (g y) (h y) (λ x l. p y x k l)) in
    omega (arith, b)

change_squares : (m : ℕ → ℕ → ℕ) (f F : ℕ → ℕ → ℤ) → AreNear m f F → block_squares (change f F) ≤ 1125899906842624 * square_sum (twice m)
unfolding square_sum
change_squares m f F near =
    let b = block_bound 1 1125899906842624 0 (λ v u. sq (change f F v u)) (λ v u. twice m v u * twice m v u)
    (λ v u p q. let c = change_size m f F near v u p q in
    let l = mul-le (unsigned_abs (change f F v u)) (unsigned_abs (change f F v u)) (33554432 * twice m v u) (33554432 * twice m v u) c c in omega (arith, l)) in
    omega (arith, b)

all_errors : (f F : ℕ → ℕ → ℤ) (k : ℕ) → IsWithin 255 f
    → k * 20282409603651670423947251286016 * square_sum (error_at f F)
    ≤ (k + 1) * block_squares (inverse_sum (change f F)) + 64 * (k * (k + 1) * 8734904917197643219688220524544)
unfolding square_sum
all_errors f F k small =
    block_bound (k * 20282409603651670423947251286016) (k + 1) (k * (k + 1) * 8734904917197643219688220524544) (λ y x. error_at f F y x * error_at f F y x) (λ y x. sq (inverse_sum (change f F) y x))
    (λ y x p q. error_square f F k small y x p q)

pub squares_of_errors_are_small : SquaresOfErrorsAreSmall
squares_of_errors_are_small m f F small near k =
    finish k (square_sum (error_at f F)) (block_squares (inverse_sum (change f F))) (block_squares (change f F)) (square_sum (twice m))
    (all_errors f F k small) (block_law (change f F)) (change_squares m f F near)
  where
    finish : (k s i c q : ℕ) → k * 20282409603651670423947251286016 * s ≤ (k + 1) * i + 64 * (k * (k + 1) * 8734904917197643219688220524544) → i ≤ 4505523978240000 * c → c ≤ 1125899906842624 * q
        → 8192 * k * s ≤ (k + 1) * (2049 * q + 225792 * k)
    finish k s i c q a b d =
        let t : i ≤ 4505523978240000 * (1125899906842624 * q) = omega (arith, b, d) in
        let m : (k + 1) * i ≤ (k + 1) * (4505523978240000 * (1125899906842624 * q)) = mul-le (k + 1) i (k + 1) (4505523978240000 * (1125899906842624 * q)) (omega arith) t in
        omega (arith, a, m)
