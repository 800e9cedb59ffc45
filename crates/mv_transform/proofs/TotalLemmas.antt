-- Sums of numbers without a sign, by index and over a block, and of squares.
use Rattle.std.proofs.Common.{◌≡◌, ℕ, zero, suc, ◌+◌, ◌-◌, ◌*◌, ◌<◌, ◌≤◌, ℤ, pos, negsuc, ◌+ℤ◌, ◌*ℤ◌, List, unsigned_abs, refl, ap, sym, ◌∙◌, arith, subst, add-one, ⊎_elim}
use Rattle.std.proofs.lemmas.Int.{ints}
use Rattle.std.proofs.lemmas.Bool.{cases_lt}
use Rattle.mv_terms.specs.Sums.{sum_below, total_below}
use Rattle.mv_terms.specs.Block.{item, entry}
use Rattle.mv_transform.specs.Steps.{total_size}

pub total_none : (f : ℕ → ℕ) → total_below 0 f ≡ 0
unfolding total_below
total_none f = refl

pub total_more : (n : ℕ) (f : ℕ → ℕ) → total_below (n + 1) f ≡ total_below n f + f n
unfolding total_below
total_more n f = rw add-one refl

-- what a loop that adds up sizes needs
pub ruleset totals = (total_none, total_more)

total_along : (n k : ℕ) (f : ℕ → ℕ) → total_below n f ≤ total_below (n + k) f
unfolding total_below
total_along n zero f = let e : n + 0 ≡ n = omega arith in rw e (omega arith)
total_along n (suc k) f = let e : n + suc k ≡ suc (n + k) = omega arith in let h = total_along n k f in rw e (omega (arith, h))

pub total_up : (n m : ℕ) (f : ℕ → ℕ) → n ≤ m → total_below n f ≤ total_below m f
total_up n m f h = let e : n + (m - n) ≡ m = omega arith in subst (λ (k : ℕ). total_below n f ≤ total_below k f) e (total_along n (m - n) f)

total_parts : (a b : ℕ) (f : ℕ → ℕ) → total_below (a + b) f ≡ total_below a f + total_below b (λ k. f (a + k))
unfolding total_below
total_parts a zero f = let e : a + zero ≡ a = omega arith in rw e (omega arith)
total_parts a (suc b) f =
    let e : a + suc b ≡ suc (a + b) = omega arith in
    let h : total_below (a + b) f ≡ total_below a f + total_below b (λ k. f (a + k)) = total_parts a b f in
    rw e (omega (arith, h))

total_rows : (m n : ℕ) (f : ℕ → ℕ) → total_below (m * n) f ≡ total_below n (λ v. total_below m (λ u. f (m * v + u)))
unfolding total_below
total_rows m zero f = let e : m * zero ≡ 0 = omega arith in rw e refl
total_rows m (suc n) f =
    let e : m * suc n ≡ m * n + m = omega arith in
    let h : total_below (m * n) f ≡ total_below n (λ v. total_below m (λ u. f (m * v + u))) = total_rows m n f in
    rw e (omega (arith, h, total_parts (m * n) m f))

pub total_of_places : (block : List ℤ) (n : ℕ) → n ≡ 64 → total_below n (λ k. unsigned_abs (item block k)) ≡ total_size (entry block)
unfolding total_size
total_of_places block n e = ap (λ (m : ℕ). total_below m (λ k. unsigned_abs (item block k))) e ∙ total_rows 8 8 (λ k. unsigned_abs (item block k))

-- a sum of zeros alone
pub total_zero : (n : ℕ) (f : ℕ → ℕ) → total_below n f ≡ 0 → (k : ℕ) → k < n → f k ≡ 0
total_zero n f e k h =
    let more : total_below (k + 1) f ≡ total_below k f + f k = total_more k f in
    let up : total_below (k + 1) f ≤ total_below n f = total_up (k + 1) n f (omega arith) in
    omega (arith, more, up, e)

pub total_same : (n : ℕ) (f g : ℕ → ℕ) → ((k : ℕ) → k < n → f k ≡ g k) → total_below n f ≡ total_below n g
unfolding total_below
total_same zero f g h = refl
total_same (suc n) f g h =
    let e : total_below n f ≡ total_below n g = total_same n f g (λ k l. h k (omega arith)) in
    let d : f n ≡ g n = h n (omega arith) in
    omega (arith, e, d)

pub size_zero : (z : ℤ) → unsigned_abs z ≡ 0 → z ≡ pos 0
size_zero z e = omega (arith, ints)

-- ---- sums of sums, and against sums of whole numbers

pub total_le : (n : ℕ) (f g : ℕ → ℕ) → ((k : ℕ) → k < n → f k ≤ g k) → total_below n f ≤ total_below n g
unfolding total_below
total_le zero f g h = omega arith
total_le (suc n) f g h =
    let e : total_below n f ≤ total_below n g = total_le n f g (λ k l. h k (omega arith)) in
    let d : f n ≤ g n = h n (omega arith) in
    omega (arith, e, d)

pub total_plus : (n : ℕ) (f g : ℕ → ℕ) → total_below n (λ k. f k + g k) ≡ total_below n f + total_below n g
unfolding total_below
total_plus zero f g = refl
total_plus (suc n) f g = let e : total_below n (λ k. f k + g k) ≡ total_below n f + total_below n g = total_plus n f g in omega (arith, e)

total_of_zeros : (n : ℕ) → total_below n (λ k. 0) ≡ 0
unfolding total_below
total_of_zeros zero = refl
total_of_zeros (suc n) = let e : total_below n (λ k. 0) ≡ 0 = total_of_zeros n in omega (arith, e)

pub total_swap : (m n : ℕ) (f : ℕ → ℕ → ℕ) → total_below m (λ i. total_below n (λ j. f i j)) ≡ total_below n (λ j. total_below m (λ i. f i j))
unfolding total_below
total_swap zero n f = sym (total_of_zeros n)
total_swap (suc m) n f =
    let e : total_below m (λ i. total_below n (λ j. f i j)) ≡ total_below n (λ j. total_below m (λ i. f i j)) = total_swap m n f in
    ap (λ (z : ℕ). z + total_below n (λ j. f m j)) e ∙ sym (total_plus n (λ j. total_below m (λ i. f i j)) (λ j. f m j))

pub total_scaled : (a n : ℕ) (f : ℕ → ℕ) → total_below n (λ k. a * f k) ≡ a * total_below n f
unfolding total_below
total_scaled a zero f = omega arith
total_scaled a (suc n) f = let e : total_below n (λ k. a * f k) ≡ a * total_below n f = total_scaled a n f in omega (arith, e)

-- a sum is no larger than its terms together
pub sum_size : (n : ℕ) (f : ℕ → ℤ) → unsigned_abs (sum_below n f) ≤ total_below n (λ k. unsigned_abs (f k))
unfolding sum_below total_below
sum_size zero f = omega arith
sum_size (suc n) f =
    let e : unsigned_abs (sum_below n f) ≤ total_below n (λ k. unsigned_abs (f k)) = sum_size n f in
    let t : unsigned_abs (sum_below n f +ℤ f n) ≤ unsigned_abs (sum_below n f) + unsigned_abs (f n) = omega (arith, ints) in
    omega (arith, t, e)

-- ---- squares

abbrev pub sq : ℤ → ℕ
sq z = unsigned_abs z * unsigned_abs z

pub sq_is : (z : ℤ) → pos (sq z) ≡ z *ℤ z
sq_is (pos n) = omega (arith, ints)
sq_is (negsuc n) = omega (arith, ints)

pub squares_are : (n : ℕ) (f : ℕ → ℤ) → pos (total_below n (λ k. sq (f k))) ≡ sum_below n (λ k. f k *ℤ f k)
unfolding sum_below total_below
squares_are zero f = refl
squares_are (suc n) f =
    let e : pos (total_below n (λ k. sq (f k))) ≡ sum_below n (λ k. f k *ℤ f k) = squares_are n f in
    let d : pos (sq (f n)) ≡ f n *ℤ f n = sq_is (f n) in
    plus (total_below n (λ k. sq (f k))) (sq (f n)) ∙ ap (λ (z : ℤ). z +ℤ pos (sq (f n))) e ∙ ap (λ (z : ℤ). sum_below n (λ k. f k *ℤ f k) +ℤ z) d
  where
    plus : (a b : ℕ) → pos (a + b) ≡ pos a +ℤ pos b
    plus a b = omega (arith, ints)

-- twice a product is no more than both squares
pub two_products : (a b : ℕ) → 2 * (a * b) ≤ a * a + b * b
two_products a b = ⊎_elim (λ (l : a < b). less a (b - a) b (omega arith)) (λ (l : b ≤ a). let h = less b (a - b) a (omega arith) in omega (arith, h)) (cases_lt a b)
  where
    less : (a t b : ℕ) → b ≡ a + t → 2 * (a * b) ≤ a * a + b * b
    less a t b e = rw e (omega arith)
