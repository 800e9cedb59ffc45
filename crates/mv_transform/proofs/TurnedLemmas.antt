-- Blocks whose columns are written one after the other.
use Rattle.std.proofs.Common.{◌≡◌, ℕ, ◌+◌, ◌*◌, ◌<◌, ◌≤◌, ℤ, pos, List, ◌∙◌, arith, length, set, get_or-set_other, get_or-set_same, length-set, ⊎_elim}
use Rattle.std.proofs.lemmas.Bool.{cases_lt}
use Rattle.mv_terms.specs.Block.{entry}

-- the columns of a block of 64 are filled one after the other with the values of g, n values so far
pub record AreTurned (g : ℕ → ℕ → ℤ) (s : List ℤ) (n : ℕ) : Type 0 where
  pub long : length s ≡ 64
  pub value : (k i : ℕ) → k < 8 → i < 8 → 8 * i + k < n → entry s k i ≡ g k i

pub turned_none : (g : ℕ → ℕ → ℤ) (s : List ℤ) → length s ≡ 64 → AreTurned g s 0
turned_none g s h = record { long = h; value = λ k i p q l. absurd (omega (arith, l)) }

pub turned_along : (g : ℕ → ℕ → ℤ) (s : List ℤ) (n m : ℕ) → AreTurned g s n → m ≡ n → AreTurned g s m
turned_along g s n m w e = record { long = w.long; value = λ k i p q l. w.value k i p q (omega arith) }

pub turned_more : (g : ℕ → ℕ → ℤ) (s : List ℤ) (k i : ℕ) (a : ℤ) → AreTurned g s (8 * i + k) → k < 8 → i < 8 → a ≡ g k i → AreTurned g (set s (8 * k + i) a) (8 * i + (k + 1))
turned_more g s k i a w hk hi e =
    let near : 8 * k + i < length s = omega (arith, w.long) in
    record {
      long = length-set s (8 * k + i) a ∙ w.long;
      value = λ k' i' p q l. ⊎_elim
          (λ (b : 8 * i' + k' < 8 * i + k). get_or-set_other s (8 * k + i) (8 * k' + i') a (pos 0) (omega arith) ∙ w.value k' i' p q b)
          (λ (b : 8 * i + k ≤ 8 * i' + k').
          let same_k : k' ≡ k = omega arith in
          let same_i : i' ≡ i = omega arith in
          rw (same_k, same_i) (get_or-set_same s (8 * k + i) a (pos 0) near ∙ e))
          (cases_lt (8 * i' + k') (8 * i + k));
    }

pub turned_all : (g : ℕ → ℕ → ℤ) (s : List ℤ) (n : ℕ) → AreTurned g s n → 64 ≤ n → (k i : ℕ) → k < 8 → i < 8 → entry s k i ≡ g k i
turned_all g s n w h k i p q = w.value k i p q (omega arith)
