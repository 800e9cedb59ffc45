-- The inverse of a block by those of its rows that aren't zero, even and odd rows apart and above the middle.
use Rattle.std.proofs.Common.{◌≡◌, ℕ, zero, suc, ◌+◌, ◌-◌, ◌*◌, ◌/◌, ◌%◌, ◌<◌, ◌≤◌, ℤ, pos, negsuc, ◌+ℤ◌, ◌-ℤ◌, ◌*ℤ◌, ◌≤ℤ◌, ◌<ℤ◌, Bool, true, false, cond, eqb, ◌&&◌, List, [], ◌∷◌, unsigned_abs, refl, ap, sym, ◌∙◌, arith, length, get_or, set, map, get_or-set_other, get_or-set_same, length-set, below_more, subst, ⊎_elim}
use Rattle.std.proofs.lemmas.Bool.{ne_eqb, cases_lt}
use Rattle.std.proofs.lemmas.Bool.Decides.{nat_tests}
use Rattle.std.proofs.lemmas.Int.{ints, unsigned_abs-mul}
use Rattle.std.proofs.lemmas.Nat.{mul-le}
use Rattle.std.proofs.lemmas.List.FromFn.{get_or-map-range_with_len}
use Rattle.std.specs.List.{range_with_len, list_all}
use Rattle.std.specs.Int.{int_shr}
use Rattle.mv_terms.specs.Sums.{sum_below, total_below}
use Rattle.mv_terms.specs.Block.{item, entry}
use Rattle.mv_terms.proofs.SumLemmas.{sum_below_same, sum_below_none, sum_below_more}
use Rattle.mv_transform.specs.Basis.{basis}
use Rattle.mv_transform.specs.Lines.{inverse_line, even_part, odd_part}
use Rattle.mv_transform.specs.Steps.{without_first, total_size, line_size, even_size, odd_size, IsLoneLast}
use Rattle.mv_transform.specs.Transform.{inverse_sum, inverse_at, weight, rounded, saturated}
use Rattle.mv_transform.specs.declared.sparse.TheConstants.{LAST_IMAGE}
use Rattle.mv_transform.proofs.LineLemmas.{basis_size, line_low, line_high, inverse_line_same, inverse_by_lines}
use Rattle.mv_transform.proofs.TotalLemmas.{total_more, total_up, total_zero, total_same, size_zero}

-- a sum whose terms are at most m times those of a total
pub sum_below_total : (m n : ℕ) (f : ℕ → ℤ) (g : ℕ → ℕ) → ((k : ℕ) → k < n → unsigned_abs (f k) ≤ m * g k) → unsigned_abs (sum_below n f) ≤ m * total_below n g
unfolding sum_below total_below
sum_below_total m zero f g h = omega arith
sum_below_total m (suc n) f g h =
    let e : unsigned_abs (sum_below n f) ≤ m * total_below n g = sum_below_total m n f g (λ k l. h k (omega arith)) in
    let d : unsigned_abs (f n) ≤ m * g n = h n (omega arith) in
    let t : unsigned_abs (sum_below n f +ℤ f n) ≤ unsigned_abs (sum_below n f) + unsigned_abs (f n) = omega (arith, ints) in
    omega (arith, d, t, e)

-- the sum of a line is at most 2^12 times the sizes of its values
pub line_total : (F : ℕ → ℤ) (x : ℕ) → x < 8 → unsigned_abs (inverse_line F x) ≤ 4096 * total_below 8 (λ u. unsigned_abs (F u))
unfolding inverse_line
line_total F x hx = sum_below_total 4096 8 (λ u. basis u x *ℤ F u) (λ u. unsigned_abs (F u))
    (λ k l. rw unsigned_abs-mul (mul-le (unsigned_abs (basis k x)) (unsigned_abs (F k)) 4096 (unsigned_abs (F k)) (omega (arith, basis_size k x l hx)) (omega arith)))

-- each of the first n of 32 sums has a further term, and the others stay
pub record AreAdded (g : ℕ → ℤ) (old s : List ℤ) (n : ℕ) : Type 0 where
  pub long : length s ≡ 32
  pub done : (k : ℕ) → k < n → item s k ≡ item old k +ℤ g k
  pub left : (k : ℕ) → n ≤ k → item s k ≡ item old k

pub added_none : (g : ℕ → ℤ) (s : List ℤ) → length s ≡ 32 → AreAdded g s s 0
added_none g s h = record { long = h; done = λ k l. absurd (omega (arith, l)); left = λ k l. refl }

pub added_along : (g : ℕ → ℤ) (old s : List ℤ) (n m : ℕ) → AreAdded g old s n → m ≡ n → AreAdded g old s m
added_along g old s n m w e = record { long = w.long; done = λ k l. w.done k (omega arith); left = λ k l. w.left k (omega arith) }

pub added_more : (g : ℕ → ℤ) (old s : List ℤ) (n : ℕ) (a : ℤ) → AreAdded g old s n → n < 32 → a ≡ item s n +ℤ g n → AreAdded g old (set s n a) (n + 1)
added_more g old s n a w h e =
    let near : n < length s = omega (arith, w.long) in
    record {
      long = length-set s n a ∙ w.long;
      done = below_more (λ k. get_or (set s n a) k (pos 0) ≡ item old k +ℤ g k) n
          (λ k l. get_or-set_other s n k a (pos 0) (omega arith) ∙ w.done k l)
          (get_or-set_same s n a (pos 0) near ∙ e ∙ ap (λ (z : ℤ). z +ℤ g n) (w.left n (omega arith)));
      left = λ k l. get_or-set_other s n k a (pos 0) (omega arith) ∙ w.left k (omega arith);
    }

zero_term : (b z : ℤ) → z ≡ pos 0 → b *ℤ z ≡ pos 0
zero_term b z e = rw e (omega (arith, ints))

sum_of_zeros : (n : ℕ) (f : ℕ → ℤ) → ((k : ℕ) → k < n → f k ≡ pos 0) → sum_below n f ≡ pos 0
unfolding sum_below
sum_of_zeros zero f h = refl
sum_of_zeros (suc n) f h =
    let e : sum_below n f ≡ pos 0 = sum_of_zeros n f (λ k l. h k (omega arith)) in
    let d : f n ≡ pos 0 = h n (omega arith) in
    omega (arith, ints, e, d)

zero_line : (F : ℕ → ℤ) (x : ℕ) → ((u : ℕ) → u < 8 → F u ≡ pos 0) → inverse_line F x ≡ pos 0
unfolding inverse_line
zero_line F x h = sum_of_zeros 8 (λ u. basis u x *ℤ F u) (λ k l. zero_term (basis k x) (F k) (h k l))

plus_nothing : (a b : ℤ) → b ≡ pos 0 → a ≡ a +ℤ b
plus_nothing a b e = rw e (omega (arith, ints))

pub all_zero : (s : List ℤ) → list_all (λ z. eqb (unsigned_abs z) 0) s ≡ true → (k : ℕ) → item s k ≡ pos 0
all_zero [] e k = refl
all_zero (z ∷ s) e zero = first z (and_true _ _ e).0
  where
    and_true : (a b : Bool) → (a && b) ≡ true → (a ≡ true) × (b ≡ true)
    and_true true b e = (refl, e)
    and_true false b e = cc

    first : (z : ℤ) → eqb (unsigned_abs z) 0 ≡ true → z ≡ pos 0
    first (pos zero) e = refl
    first (pos (suc n)) e = absurd (grind (arith, nat_tests))
    first (negsuc n) e = absurd (grind (arith, nat_tests))
all_zero (z ∷ s) e (suc k) = all_zero s (and_true _ _ e).1 k
  where
    and_true : (a b : Bool) → (a && b) ≡ true → (a ≡ true) × (b ≡ true)
    and_true true b e = (refl, e)
    and_true false b e = cc

-- a row of zeros adds nothing
pub zero_row : (a b : ℤ) (line : List ℤ) (x : ℕ) → list_all (λ z. eqb (unsigned_abs z) 0) line ≡ true → a ≡ a +ℤ b *ℤ inverse_line (item line) x
zero_row a b line x h = plus_nothing a (b *ℤ inverse_line (item line) x) (zero_term b (inverse_line (item line) x) (zero_line (item line) x (λ u l. all_zero line h u)))

-- a last coefficient of 1 alone in its row
lone_line : (f : ℕ → ℤ) (x : ℕ) → IsLoneLast f → inverse_line f x ≡ basis 7 x
unfolding inverse_line
lone_line f x h =
    let sizes : total_below 8 (λ u. unsigned_abs (f u)) ≡ total_below 7 (λ u. unsigned_abs (f u)) + unsigned_abs (f 7) = total_more 7 (λ u. unsigned_abs (f u)) in
    let none : total_below 7 (λ u. unsigned_abs (f u)) ≡ 0 = omega (arith, sizes, h.0, ap unsigned_abs h.1) in
    let before : sum_below 7 (λ u. basis u x *ℤ f u) ≡ pos 0 = sum_of_zeros 7 (λ u. basis u x *ℤ f u) (λ k l. zero_term (basis k x) (f k) (size_zero (f k) (total_zero 7 (λ u. unsigned_abs (f u)) none k l))) in
    let last : basis 7 x *ℤ f 7 ≡ basis 7 x = ap (λ (z : ℤ). basis 7 x *ℤ z) h.1 ∙ omega (arith, ints) in
    let all : sum_below 8 (λ u. basis u x *ℤ f u) ≡ sum_below 7 (λ u. basis u x *ℤ f u) +ℤ basis 7 x *ℤ f 7 = sum_below_more 7 (λ u. basis u x *ℤ f u) in
    omega (arith, ints, before, last, all)

image_is_table : LAST_IMAGE ≡ map (λ k. basis 7 (k / 8) *ℤ basis 7 (k % 8)) (range_with_len 0 32)
unfolding basis
image_is_table = refl

pub lone_image : (line : List ℤ) → IsLoneLast (item line) → (k : ℕ) → k < 32 → item LAST_IMAGE k ≡ basis 7 (k / 8) *ℤ inverse_line (item line) (k % 8)
lone_image line h k l =
    ap (λ (t : List ℤ). get_or t k (pos 0)) image_is_table
    ∙ get_or-map-range_with_len (λ k. basis 7 (k / 8) *ℤ basis 7 (k % 8)) 0 32 k k (pos 0) l (omega arith)
    ∙ ap (λ (z : ℤ). basis 7 (k / 8) *ℤ z) (sym (lone_line (item line) (k % 8) h))

-- what row v of a block adds at place k
abbrev pub row_term : (ℕ → ℕ → ℤ) → ℕ → ℕ → ℤ
row_term F k v = basis v (k / 8) *ℤ inverse_line (F v) (k % 8)

-- how large the term of one row is
line_term_size : (f : ℕ → ℤ) (v k : ℕ) → v < 8 → k < 32 → unsigned_abs (basis v (k / 8) *ℤ inverse_line f (k % 8)) ≤ 16777216 * line_size f
line_term_size f v k l hk =
    let b = basis_size v (k / 8) l (omega arith) in
    let t = line_total f (k % 8) (omega arith) in
    let m = mul-le (unsigned_abs (basis v (k / 8))) (unsigned_abs (inverse_line f (k % 8))) 4096 (4096 * line_size f) (omega (arith, b)) t in
    rw unsigned_abs-mul (omega (arith, m))

-- beside the sums first, of size a, the terms of the first n of some rows of a block above its middle
pub record AreSummed (F : ℕ → ℕ → ℤ) (row : ℕ → ℕ) (first : ℕ → ℤ) (a : ℕ) (s : List ℤ) (n : ℕ) : Type 0 where
  pub long : length s ≡ 32
  pub value : (k : ℕ) → k < 32 → item s k ≡ first k +ℤ sum_below n (λ j. row_term F k (row j))
  pub size : (k : ℕ) → k < 32 → unsigned_abs (item s k) ≤ 16777216 * (a + total_below n (λ j. line_size (F (row j))))

pub summed_zeros : (F : ℕ → ℕ → ℤ) (row : ℕ → ℕ) (s : List ℤ) → length s ≡ 32 → ((k : ℕ) → k < 32 → item s k ≡ pos 0) → AreSummed F row (λ k. pos 0) 0 s 0
summed_zeros F row s h e = record {
  long = h;
  value = λ k l. e k l ∙ plus_nothing (pos 0) (sum_below 0 (λ j. row_term F k (row j))) (sum_below_none (λ j. row_term F k (row j)));
  size = λ k l. omega (arith, ap unsigned_abs (e k l));
}

pub summed_last : (F : ℕ → ℕ → ℤ) (row : ℕ → ℕ) (s line : List ℤ) → length s ≡ 32 → ((u : ℕ) → u < 8 → item line u ≡ F 7 u)
    → ((k : ℕ) → k < 32 → item s k ≡ basis 7 (k / 8) *ℤ inverse_line (item line) (k % 8)) → AreSummed F row (λ k. row_term F k 7) (line_size (F 7)) s 0
summed_last F row s line h same e =
    let here : (k : ℕ) → k < 32 → item s k ≡ row_term F k 7 = λ k l. e k l ∙ ap (λ (z : ℤ). basis 7 (k / 8) *ℤ z) (inverse_line_same (item line) (F 7) (k % 8) same) in
    record {
      long = h;
      value = λ k l. here k l ∙ plus_nothing (row_term F k 7) (sum_below 0 (λ j. row_term F k (row j))) (sum_below_none (λ j. row_term F k (row j)));
      size = λ k l.
          let t : unsigned_abs (row_term F k 7) ≤ 16777216 * line_size (F 7) = line_term_size (F 7) 7 k (omega arith) l in
          omega (arith, ap unsigned_abs (here k l), t);
    }

plus_more : (a b d t : ℤ) → t ≡ b +ℤ d → (a +ℤ b) +ℤ d ≡ a +ℤ t
plus_more a b d t e = omega (arith, ints)

pub summed_line : (F : ℕ → ℕ → ℤ) (row : ℕ → ℕ) (first : ℕ → ℤ) (a : ℕ) (s t line : List ℤ) (n : ℕ) → AreSummed F row first a s n → row n < 8 → length t ≡ 32
    → ((u : ℕ) → u < 8 → item line u ≡ F (row n) u)
    → ((k : ℕ) → k < 32 → item t k ≡ item s k +ℤ basis (row n) (k / 8) *ℤ inverse_line (item line) (k % 8)) → AreSummed F row first a t (n + 1)
summed_line F row first a s t line n w low h same e =
    let here : (k : ℕ) → k < 32 → item t k ≡ item s k +ℤ row_term F k (row n) = λ k l.
    e k l ∙ ap (λ (z : ℤ). item s k +ℤ basis (row n) (k / 8) *ℤ z) (inverse_line_same (item line) (F (row n)) (k % 8) same) in
    record {
      long = h;
      value = λ k l.
          here k l
          ∙ ap (λ (z : ℤ). z +ℤ row_term F k (row n)) (w.value k l)
          ∙ plus_more (first k) (sum_below n (λ j. row_term F k (row j))) (row_term F k (row n)) (sum_below (n + 1) (λ j. row_term F k (row j))) (sum_below_more n (λ j. row_term F k (row j)));
      size = λ k l.
          let T : ℕ → ℕ = λ j. line_size (F (row j)) in
          let before : unsigned_abs (item s k) ≤ 16777216 * (a + total_below n T) = w.size k l in
          let term : unsigned_abs (row_term F k (row n)) ≤ 16777216 * T n = line_term_size (F (row n)) (row n) k low l in
          let more : total_below (n + 1) T ≡ total_below n T + T n = total_more n T in
          let both : unsigned_abs (item s k +ℤ row_term F k (row n)) ≤ unsigned_abs (item s k) + unsigned_abs (row_term F k (row n)) = omega (arith, ints) in
          omega (arith, ap unsigned_abs (here k l), before, term, more, both);
    }

-- the term at a place
pub place_term : (v y x : ℕ) (line : List ℤ) → x < 8 → basis v y *ℤ item line x ≡ basis v ((8 * y + x) / 8) *ℤ item line ((8 * y + x) % 8)
place_term v y x line h =
    let a : (8 * y + x) / 8 ≡ y = omega arith in
    let b : (8 * y + x) % 8 ≡ x = omega arith in
    rw (a, b) refl

pub term_fits : (old s line : List ℤ) (g : ℕ → ℤ) (y x : ℕ) → AreAdded g old s (8 * y + x) → y < 4 → x < 8 → ((k : ℕ) → k < 32 → unsigned_abs (item old k) + 4096 * unsigned_abs (item line (k % 8)) ≤ 2080374784)
    → unsigned_abs (item s (8 * y + x)) + 4096 * unsigned_abs (item line x) ≤ 2080374784
term_fits old s line g y x w hy hx h =
    let b : (8 * y + x) % 8 ≡ x = omega arith in
    let f : unsigned_abs (item old (8 * y + x)) + 4096 * unsigned_abs (item line x) ≤ 2080374784 = rw b at (h (8 * y + x) (omega arith)) in
    rw (w.left (8 * y + x) (omega arith)) f

-- the even and the odd terms of a sum
split_total : (n : ℕ) (f : ℕ → ℕ) → total_below (2 * n) f ≡ total_below n (λ k. f (2 * k)) + total_below n (λ k. f (2 * k + 1))
unfolding total_below
split_total zero f = refl
split_total (suc n) f =
    let e : 2 * suc n ≡ suc (suc (2 * n)) = omega arith in
    let h : total_below (2 * n) f ≡ total_below n (λ k. f (2 * k)) + total_below n (λ k. f (2 * k + 1)) = split_total n f in
    let d : f (suc (2 * n)) ≡ f (2 * n + 1) = ap f (omega arith) in
    rw e (omega (arith, h, d))

both_sizes : (F : ℕ → ℕ → ℤ) → total_size F ≡ even_size F + odd_size F
unfolding total_size
both_sizes F = split_total 4 (λ v. line_size (F v))

odd_size_more : (F : ℕ → ℕ → ℤ) → odd_size F ≡ total_below 3 (λ j. line_size (F (2 * j + 1))) + line_size (F 7)
odd_size_more F = total_more 3 (λ j. line_size (F (2 * j + 1)))

pub last_size : (F : ℕ → ℕ → ℤ) (line : List ℤ) → total_size F ≤ 124 → ((u : ℕ) → u < 8 → item line u ≡ F 7 u) → line_size (item line) ≤ 124
last_size F line small same =
    let e : line_size (item line) ≡ line_size (F 7) = total_same 8 (λ u. unsigned_abs (item line u)) (λ u. unsigned_abs (F 7 u)) (λ k l. ap unsigned_abs (same k l)) in
    omega (arith, e, odd_size_more F, both_sizes F, small)

-- the last row fits alone
pub last_fits : (s line : List ℤ) (k : ℕ) → line_size (item line) ≤ 124 → k < 32 → item s k ≡ pos 0
    → unsigned_abs (item s k) + 4096 * unsigned_abs (inverse_line (item line) (k % 8)) ≤ 2080374784
last_fits s line k small h z =
    let t = line_total (item line) (k % 8) (omega arith) in
    omega (arith, t, small, ap unsigned_abs z)

pub last_alone : (t a b : ℤ) → t ≡ a +ℤ b → a ≡ pos 0 → t ≡ b
last_alone t a b e z = omega (arith, ints)

-- a further row fits
row_fits : (F : ℕ → ℕ → ℤ) (row : ℕ → ℕ) (first : ℕ → ℤ) (a : ℕ) (s line : List ℤ) (n : ℕ) → AreSummed F row first a s n
    → a + total_below (n + 1) (λ j. line_size (F (row j))) ≤ 124 → ((u : ℕ) → u < 8 → item line u ≡ F (row n) u)
    → (k : ℕ) → k < 32 → unsigned_abs (item s k) + 4096 * unsigned_abs (inverse_line (item line) (k % 8)) ≤ 2080374784
row_fits F row first a s line n w small e k hk =
    let T : ℕ → ℕ = λ j. line_size (F (row j)) in
    let size : unsigned_abs (item s k) ≤ 16777216 * (a + total_below n T) = w.size k hk in
    let size_of_line : unsigned_abs (inverse_line (item line) (k % 8)) ≤ 4096 * T n = rw (inverse_line_same (item line) (F (row n)) (k % 8) e) (line_total (F (row n)) (k % 8) (omega arith)) in
    let more : total_below (n + 1) T ≡ total_below n T + T n = total_more n T in
    omega (arith, size, size_of_line, more, small)

pub even_row_fits : (F : ℕ → ℕ → ℤ) (s line : List ℤ) (n : ℕ) → total_size F ≤ 124 → n < 4 → AreSummed F (λ j. 2 * j) (λ k. pos 0) 0 s n → ((u : ℕ) → u < 8 → item line u ≡ F (2 * n) u)
    → (k : ℕ) → k < 32 → unsigned_abs (item s k) + 4096 * unsigned_abs (inverse_line (item line) (k % 8)) ≤ 2080374784
even_row_fits F s line n small hn w e =
    let up : total_below (n + 1) (λ j. line_size (F (2 * j))) ≤ even_size F = total_up (n + 1) 4 (λ j. line_size (F (2 * j))) (omega arith) in
    row_fits F (λ j. 2 * j) (λ k. pos 0) 0 s line n w (omega (arith, up, both_sizes F, small)) e

pub odd_row_fits : (F : ℕ → ℕ → ℤ) (s line : List ℤ) (n : ℕ) → total_size F ≤ 124 → n < 3 → AreSummed F (λ j. 2 * j + 1) (λ k. row_term F k 7) (line_size (F 7)) s n
    → ((u : ℕ) → u < 8 → item line u ≡ F (2 * n + 1) u)
    → (k : ℕ) → k < 32 → unsigned_abs (item s k) + 4096 * unsigned_abs (inverse_line (item line) (k % 8)) ≤ 2080374784
odd_row_fits F s line n small hn w e =
    let up : total_below (n + 1) (λ j. line_size (F (2 * j + 1))) ≤ total_below 3 (λ j. line_size (F (2 * j + 1))) = total_up (n + 1) 3 (λ j. line_size (F (2 * j + 1))) (omega arith) in
    row_fits F (λ j. 2 * j + 1) (λ k. row_term F k 7) (line_size (F 7)) s line n w (omega (arith, up, odd_size_more F, both_sizes F, small)) e

-- a term at a place of a row and a column
term_at : (F : ℕ → ℕ → ℤ) (v y x : ℕ) → x < 8 → row_term F (8 * y + x) v ≡ basis v y *ℤ inverse_line (F v) x
term_at F v y x h =
    let a : (8 * y + x) / 8 ≡ y = omega arith in
    let b : (8 * y + x) % 8 ≡ x = omega arith in
    rw (a, b) refl

nothing_plus : (a b c : ℤ) → a ≡ pos 0 +ℤ b → b ≡ c → a ≡ c
nothing_plus a b c e h = omega (arith, ints)

pub even_sums : (F : ℕ → ℕ → ℤ) (s : List ℤ) (n : ℕ) → AreSummed F (λ j. 2 * j) (λ k. pos 0) 0 s n → n ≡ 4
    → (y x : ℕ) → y < 4 → x < 8 → entry s y x ≡ even_part (λ v. inverse_line (F v) x) y
unfolding even_part
even_sums F s n w e y x hy hx =
    let k = 8 * y + x in
    nothing_plus (item s k) (sum_below n (λ j. row_term F k (2 * j))) _ (w.value k (omega arith))
    (ap (λ (m : ℕ). sum_below m (λ j. row_term F k (2 * j))) e
    ∙ sum_below_same 4 (λ j. row_term F k (2 * j)) (λ j. basis (2 * j) y *ℤ inverse_line (F (2 * j)) x) (λ j l. term_at F (2 * j) y x hx))

pub even_sizes : (F : ℕ → ℕ → ℤ) (s : List ℤ) (n : ℕ) → AreSummed F (λ j. 2 * j) (λ k. pos 0) 0 s n → n ≡ 4
    → (y x : ℕ) → y < 4 → x < 8 → unsigned_abs (entry s y x) ≤ 16777216 * even_size F
even_sizes F s n w e y x hy hx =
    let size : unsigned_abs (entry s y x) ≤ 16777216 * (0 + total_below n (λ j. line_size (F (2 * j)))) = w.size (8 * y + x) (omega arith) in
    let same : total_below n (λ j. line_size (F (2 * j))) ≡ even_size F = ap (λ (m : ℕ). total_below m (λ j. line_size (F (2 * j)))) e in
    omega (arith, size, same)

turned_sum : (a b c : ℤ) → c ≡ b +ℤ a → a +ℤ b ≡ c
turned_sum a b c e = omega (arith, ints)

pub odd_sums : (F : ℕ → ℕ → ℤ) (s : List ℤ) (n : ℕ) → AreSummed F (λ j. 2 * j + 1) (λ k. row_term F k 7) (line_size (F 7)) s n → n ≡ 3
    → (y x : ℕ) → y < 4 → x < 8 → entry s y x ≡ odd_part (λ v. inverse_line (F v) x) y
unfolding odd_part
odd_sums F s n w e y x hy hx =
    let k = 8 * y + x in
    w.value k (omega arith)
    ∙ ap (λ (m : ℕ). row_term F k 7 +ℤ sum_below m (λ j. row_term F k (2 * j + 1))) e
    ∙ turned_sum (row_term F k 7) (sum_below 3 (λ j. row_term F k (2 * j + 1))) (sum_below 4 (λ j. row_term F k (2 * j + 1))) (sum_below_more 3 (λ j. row_term F k (2 * j + 1)))
    ∙ sum_below_same 4 (λ j. row_term F k (2 * j + 1)) (λ j. basis (2 * j + 1) y *ℤ inverse_line (F (2 * j + 1)) x) (λ j l. term_at F (2 * j + 1) y x hx)

pub odd_sizes : (F : ℕ → ℕ → ℤ) (s : List ℤ) (n : ℕ) → AreSummed F (λ j. 2 * j + 1) (λ k. row_term F k 7) (line_size (F 7)) s n → n ≡ 3
    → (y x : ℕ) → y < 4 → x < 8 → unsigned_abs (entry s y x) ≤ 16777216 * odd_size F
odd_sizes F s n w e y x hy hx =
    let size : unsigned_abs (entry s y x) ≤ 16777216 * (line_size (F 7) + total_below n (λ j. line_size (F (2 * j + 1)))) = w.size (8 * y + x) (omega arith) in
    let same : total_below n (λ j. line_size (F (2 * j + 1))) ≡ total_below 3 (λ j. line_size (F (2 * j + 1))) = ap (λ (m : ℕ). total_below m (λ j. line_size (F (2 * j + 1)))) e in
    omega (arith, size, same, odd_size_more F)

-- both sums fit together
pub both_fit : (F : ℕ → ℕ → ℤ) (even odd : List ℤ) → total_size F ≤ 124
    → ((y x : ℕ) → y < 4 → x < 8 → unsigned_abs (entry even y x) ≤ 16777216 * even_size F) → ((y x : ℕ) → y < 4 → x < 8 → unsigned_abs (entry odd y x) ≤ 16777216 * odd_size F)
    → (y x : ℕ) → y < 4 → x < 8 → unsigned_abs (entry even y x) + unsigned_abs (entry odd y x) ≤ 2080374784
both_fit F even odd small p q y x hy hx = omega (arith, both_sizes F, small, p y x hy hx, q y x hy hx)

-- the place that mirrors a place above the middle
abbrev mirror : ℕ → ℕ
mirror k = 8 * (7 - k / 8) + k % 8

-- the first n places of 32 and those that mirror them have their sums
pub record AreUnfolded (even odd s : List ℤ) (n : ℕ) : Type 0 where
  pub long : length s ≡ 64
  pub above : (k : ℕ) → k < n → item s k ≡ item even k +ℤ item odd k
  pub below : (k : ℕ) → k < n → item s (mirror k) ≡ item even k -ℤ item odd k

pub unfolded_none : (even odd s : List ℤ) → length s ≡ 64 → AreUnfolded even odd s 0
unfolded_none even odd s h = record { long = h; above = λ k l. absurd (omega (arith, l)); below = λ k l. absurd (omega (arith, l)) }

pub unfolded_along : (even odd s : List ℤ) (n m : ℕ) → AreUnfolded even odd s n → m ≡ n → AreUnfolded even odd s m
unfolded_along even odd s n m w e = record { long = w.long; above = λ k l. w.above k (omega arith); below = λ k l. w.below k (omega arith) }

unfolded_next : (even odd s : List ℤ) (n : ℕ) (a b : ℤ) → AreUnfolded even odd s n → n < 32 → a ≡ item even n +ℤ item odd n → b ≡ item even n -ℤ item odd n
    → AreUnfolded even odd (set (set s n a) (mirror n) b) (n + 1)
unfolded_next even odd s n a b w h p q =
    let near : n < length s = omega (arith, w.long) in
    let far : mirror n < length (set s n a) = omega (arith, w.long, length-set s n a) in
    record {
      long = length-set (set s n a) (mirror n) b ∙ length-set s n a ∙ w.long;
      above = below_more (λ k. get_or (set (set s n a) (mirror n) b) k (pos 0) ≡ item even k +ℤ item odd k) n
          (λ k l. get_or-set_other (set s n a) (mirror n) k b (pos 0) (omega arith) ∙ get_or-set_other s n k a (pos 0) (omega arith) ∙ w.above k l)
          (get_or-set_other (set s n a) (mirror n) n b (pos 0) (omega arith) ∙ get_or-set_same s n a (pos 0) near ∙ p);
      below = below_more (λ k. get_or (set (set s n a) (mirror n) b) (mirror k) (pos 0) ≡ item even k -ℤ item odd k) n
          (λ k l. get_or-set_other (set s n a) (mirror n) (mirror k) b (pos 0) (omega arith) ∙ get_or-set_other s n (mirror k) a (pos 0) (omega arith) ∙ w.below k l)
          (get_or-set_same (set s n a) (mirror n) b (pos 0) far ∙ q);
    }

pub unfolded_more : (even odd s : List ℤ) (y x : ℕ) (a b : ℤ) → AreUnfolded even odd s (8 * y + x) → y < 4 → x < 8
    → a ≡ item even (8 * y + x) +ℤ item odd (8 * y + x) → b ≡ item even (8 * y + x) -ℤ item odd (8 * y + x)
    → AreUnfolded even odd (set (set s (8 * y + x) a) (8 * (7 - y) + x) b) (8 * y + x + 1)
unfolded_more even odd s y x a b w hy hx p q =
    let e : mirror (8 * y + x) ≡ 8 * (7 - y) + x = omega arith in
    subst (λ (m : ℕ). AreUnfolded even odd (set (set s (8 * y + x) a) m b) (8 * y + x + 1)) e
    (unfolded_next even odd s (8 * y + x) a b w (omega arith) p q)

pub all_above : (even odd s : List ℤ) (n : ℕ) → AreUnfolded even odd s n → 32 ≤ n → (y x : ℕ) → y < 4 → x < 8 → entry s y x ≡ entry even y x +ℤ entry odd y x
all_above even odd s n w h y x hy hx = w.above (8 * y + x) (omega arith)

pub all_below : (even odd s : List ℤ) (n : ℕ) → AreUnfolded even odd s n → 32 ≤ n → (y x : ℕ) → y < 4 → x < 8 → entry s (7 - y) x ≡ entry even y x -ℤ entry odd y x
all_below even odd s n w h y x hy hx =
    let e : mirror (8 * y + x) ≡ 8 * (7 - y) + x = omega arith in
    subst (λ (m : ℕ). item s m ≡ entry even y x -ℤ entry odd y x) e (w.below (8 * y + x) (omega arith))

-- even and odd sums above the middle, and the sums at all places
pub record AreBoth (F : ℕ → ℕ → ℤ) (even odd s : List ℤ) : Type 0 where
  pub evens : (y x : ℕ) → y < 4 → x < 8 → entry even y x ≡ even_part (λ v. inverse_line (F v) x) y
  pub odds : (y x : ℕ) → y < 4 → x < 8 → entry odd y x ≡ odd_part (λ v. inverse_line (F v) x) y
  pub above : (y x : ℕ) → y < 4 → x < 8 → entry s y x ≡ entry even y x +ℤ entry odd y x
  pub below : (y x : ℕ) → y < 4 → x < 8 → entry s (7 - y) x ≡ entry even y x -ℤ entry odd y x

sum_above : (F : ℕ → ℕ → ℤ) (even odd s : List ℤ) → AreBoth F even odd s → (y x : ℕ) → y < 4 → x < 8 → entry s y x ≡ inverse_sum F y x
sum_above F even odd s w y x hy hx =
    w.above y x hy hx ∙ ap (λ (z : ℤ). z +ℤ entry odd y x) (w.evens y x hy hx) ∙ ap (λ (z : ℤ). even_part (λ v. inverse_line (F v) x) y +ℤ z) (w.odds y x hy hx)
    ∙ sym (line_low (λ v. inverse_line (F v) x) y) ∙ inverse_by_lines F y x

sum_below_middle : (F : ℕ → ℕ → ℤ) (even odd s : List ℤ) → AreBoth F even odd s → (y x : ℕ) → y < 4 → x < 8 → entry s (7 - y) x ≡ inverse_sum F (7 - y) x
sum_below_middle F even odd s w y x hy hx =
    w.below y x hy hx ∙ ap (λ (z : ℤ). z -ℤ entry odd y x) (w.evens y x hy hx) ∙ ap (λ (z : ℤ). even_part (λ v. inverse_line (F v) x) y -ℤ z) (w.odds y x hy hx)
    ∙ sym (line_high (λ v. inverse_line (F v) x) y (omega arith)) ∙ inverse_by_lines F (7 - y) x

-- what holds of each place above the middle and of each that mirrors one holds of all
everywhere : (P : ℕ → ℕ → Type 0) → ((y x : ℕ) → y < 4 → x < 8 → P y x) → ((y x : ℕ) → y < 4 → x < 8 → P (7 - y) x) → (y x : ℕ) → y < 8 → x < 8 → P y x
everywhere P high low y x hy hx = ⊎_elim
    (λ (l : y < 4). high y x l hx)
    (λ (l : 4 ≤ y). let back : 7 - (7 - y) ≡ y = omega arith in subst (λ (n : ℕ). P n x) back (low (7 - y) x (omega arith) hx))
    (cases_lt y 4)

pub all_sums : (F : ℕ → ℕ → ℤ) (even odd s : List ℤ) → AreBoth F even odd s → (k : ℕ) → k < 64 → item s k ≡ inverse_sum F (k / 8) (k % 8)
all_sums F even odd s w k h =
    let place : item s k ≡ entry s (k / 8) (k % 8) = ap (item s) (omega arith) in
    place ∙ everywhere (λ y x. entry s y x ≡ inverse_sum F y x) (sum_above F even odd s w) (sum_below_middle F even odd s w) (k / 8) (k % 8) (omega arith) (omega arith)

size_above : (a b z : ℤ) → z ≡ a +ℤ b → unsigned_abs z ≤ unsigned_abs a + unsigned_abs b
size_above a b z e = omega (arith, ints)

size_below : (a b z : ℤ) → z ≡ a -ℤ b → unsigned_abs z ≤ unsigned_abs a + unsigned_abs b
size_below a b z e = omega (arith, ints)

pub all_sizes : (F : ℕ → ℕ → ℤ) (even odd s : List ℤ) → AreBoth F even odd s
    → ((y x : ℕ) → y < 4 → x < 8 → unsigned_abs (entry even y x) + unsigned_abs (entry odd y x) ≤ 2080374784)
    → (k : ℕ) → k < 64 → unsigned_abs (item s k) ≤ 2080374784
all_sizes F even odd s w fit k h =
    let place : item s k ≡ entry s (k / 8) (k % 8) = ap (item s) (omega arith) in
    let size : unsigned_abs (entry s (k / 8) (k % 8)) ≤ 2080374784 =
    everywhere (λ y x. unsigned_abs (entry s y x) ≤ 2080374784)
    (λ y x hy hx. omega (arith, size_above (entry even y x) (entry odd y x) (entry s y x) (w.above y x hy hx), fit y x hy hx))
    (λ y x hy hx. omega (arith, size_below (entry even y x) (entry odd y x) (entry s (7 - y) x) (w.below y x hy hx), fit y x hy hx))
    (k / 8) (k % 8) (omega arith) (omega arith) in
    omega (arith, ap unsigned_abs place, size)

-- the first coefficient apart: its weight is the same at each place
weight_of_first : (y x : ℕ) → weight 0 0 y x ≡ pos 8386816
unfolding basis
weight_of_first y x = refl

sum_first : (n : ℕ) (f g : ℕ → ℤ) (a : ℤ) → f 0 ≡ a +ℤ g 0 → ((k : ℕ) → k < n → f (suc k) ≡ g (suc k)) → sum_below (suc n) f ≡ a +ℤ sum_below (suc n) g
unfolding sum_below
sum_first zero f g a h e = omega (arith, ints, h)
sum_first (suc n) f g a h e =
    let before : sum_below (suc n) f ≡ a +ℤ sum_below (suc n) g = sum_first n f g a h (λ k l. e k (omega arith)) in
    let here = e n (omega arith) in
    omega (arith, ints, before, here)

-- G is F with 0 for its first value
record Others (F G : ℕ → ℕ → ℤ) : Type 0 where
  none : G 0 0 ≡ pos 0
  row : (u : ℕ) → u < 7 → G 0 (suc u) ≡ F 0 (suc u)
  rows : (v u : ℕ) → v < 7 → u < 8 → G (suc v) u ≡ F (suc v) u

first_apart_sum : (F G : ℕ → ℕ → ℤ) (y x : ℕ) → Others F G → inverse_sum F y x ≡ pos 8386816 *ℤ F 0 0 +ℤ inverse_sum G y x
unfolding inverse_sum
first_apart_sum F G y x o =
    let a : ℤ = pos 8386816 *ℤ F 0 0 in
    sum_first 7 (λ v. sum_below 8 (λ u. weight v u y x *ℤ F v u)) (λ v. sum_below 8 (λ u. weight v u y x *ℤ G v u)) a
    (sum_first 7 (λ u. weight 0 u y x *ℤ F 0 u) (λ u. weight 0 u y x *ℤ G 0 u) a
    (ap (λ (z : ℤ). z *ℤ F 0 0) (weight_of_first y x) ∙ plus_nothing a (weight 0 0 y x *ℤ G 0 0) (zero_term (weight 0 0 y x) (G 0 0) o.none))
    (λ u l. ap (λ (z : ℤ). weight 0 (suc u) y x *ℤ z) (sym (o.row u l))))
    (λ v h. sum_below_same 8 (λ u. weight (suc v) u y x *ℤ F (suc v) u) (λ u. weight (suc v) u y x *ℤ G (suc v) u) (λ u l. ap (λ (z : ℤ). weight (suc v) u y x *ℤ z) (sym (o.rows v u h l))))

not_first : (f : ℕ → ℤ) (k : ℕ) → 0 < k → without_first f k ≡ f k
not_first f k h = ap (λ (b : Bool). cond b (pos 0) (f k)) (ne_eqb k 0 (λ e. absurd (omega (arith, h, e))))

-- between which sums a quotient stands
shr_between : (z : ℤ) → ((pos 67108864 *ℤ int_shr z 26) ≤ℤ z) × (z <ℤ (pos 67108864 *ℤ int_shr z 26 +ℤ pos 67108864))
shr_between (pos a) = (omega (arith, ints), omega (arith, ints))
shr_between (negsuc a) = (omega (arith, ints), omega (arith, ints))

-- what was divided into a high and a low part is rounded as a whole
pub finish : (first high low sum answer whole : ℤ) → whole ≡ pos 8386816 *ℤ first +ℤ pos 33554432 → low ≡ whole -ℤ pos 67108864 *ℤ high → answer ≡ high +ℤ int_shr (low +ℤ sum) 26
    → answer ≡ rounded (pos 8386816 *ℤ first +ℤ sum)
finish first high low sum answer whole w l a =
    let all = shr_between (pos 8386816 *ℤ first +ℤ sum +ℤ pos 33554432) in
    let part = shr_between (low +ℤ sum) in
    omega (arith, ints, all.0, all.1, part.0, part.1, w, l, a)

others_are : (c others : List ℤ) → ((k : ℕ) → k < 64 → item others k ≡ without_first (item c) k) → Others (entry c) (entry others)
others_are c others same = record {
  none = same 0 (omega arith);
  row = λ u l. same (8 * 0 + suc u) (omega arith) ∙ not_first (item c) (8 * 0 + suc u) (omega arith);
  rows = λ v u h l. same (8 * suc v + u) (omega arith) ∙ not_first (item c) (8 * suc v + u) (omega arith);
}

pub finish_all : (first high low sum answer whole total sample : ℤ) → whole ≡ pos 8386816 *ℤ first +ℤ pos 33554432 → low ≡ whole -ℤ pos 67108864 *ℤ high → answer ≡ high +ℤ int_shr (low +ℤ sum) 26
    → sum ≡ total → sample ≡ saturated answer → sample ≡ saturated (rounded (pos 8386816 *ℤ first +ℤ total))
finish_all first high low sum answer whole total sample w l a t s =
    s ∙ ap saturated (finish first high low sum answer whole w l a ∙ ap (λ (z : ℤ). rounded (pos 8386816 *ℤ first +ℤ z)) t)

-- the inverse with its first coefficient apart
pub apart : (c others answer : List ℤ) → ((k : ℕ) → k < 64 → item others k ≡ without_first (item c) k)
    → ((k : ℕ) → k < 64 → item answer k ≡ saturated (rounded (pos 8386816 *ℤ item c 0 +ℤ inverse_sum (entry others) (k / 8) (k % 8))))
    → (y x : ℕ) → y < 8 → x < 8 → entry answer y x ≡ inverse_at (entry c) y x
apart c others answer same value y x hy hx =
    let a : (8 * y + x) / 8 ≡ y = omega arith in
    let b : (8 * y + x) % 8 ≡ x = omega arith in
    let here : item answer (8 * y + x) ≡ saturated (rounded (pos 8386816 *ℤ item c 0 +ℤ inverse_sum (entry others) y x)) = rw (a, b) at (value (8 * y + x) (omega arith)) in
    here ∙ ap (λ (z : ℤ). saturated (rounded z)) (sym (first_apart_sum (entry c) (entry others) y x (others_are c others same)))
