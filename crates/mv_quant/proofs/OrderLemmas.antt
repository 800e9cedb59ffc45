-- The first nearest of levels in a row is preferred to all of them, and no other level is.
use Rattle.std.proofs.Common.{◌≡◌, ℕ, zero, suc, ◌<◌, ◌≤◌, Bool, true, false, cond, nat_lt, ℤ, pos, negsuc, unsigned_abs, arith, refl, ap, ⊎_elim, inl, inr, ◌⊎◌}
use Rattle.std.proofs.lemmas.Int.{ints}
use Rattle.std.proofs.lemmas.Bool.{cases_lt}
use Rattle.std.proofs.lemmas.Bool.Decides.{nat_tests}
use Rattle.mv_quant.specs.Nearest.{distance, nearer, first_nearest, IsSimpler, IsPreferred}
use Rattle.mv_quant.specs.Steps.{IsNearestOf, IsUpTo}

pub no_farther : (value : ℤ → ℤ) (c q p : ℤ) → IsPreferred value c q p → distance (value q) c ≤ distance (value p) c
no_farther value c q p (inl b) = omega arith
no_farther value c q p (inr b) = omega (arith, b.0)

-- `now` is taken of q and p: it is preferred to p, and to all levels that q was preferred to
record IsTaken (value : ℤ → ℤ) (c : ℤ) (Earlier : ℤ → Type 0) (q p now : ℤ) : Type 0 where
  pub earlier : (r : ℤ) → Earlier r → IsPreferred value c now r
  pub last : IsPreferred value c now p
  pub one : (now ≡ q) ⊎ (now ≡ p)

taken : (value : ℤ → ℤ) (c : ℤ) (Earlier : ℤ → Type 0) (q p : ℤ) → ((r : ℤ) → Earlier r → IsPreferred value c q r) → IsSimpler q p → IsTaken value c Earlier q p (nearer value c q p)
taken value c Earlier q p first simpler = by (nat_lt (distance (value p) c) (distance (value q) c)) refl
  where
    by : (b : Bool) → nat_lt (distance (value p) c) (distance (value q) c) ≡ b → IsTaken value c Earlier q p (cond b p q)
    by true e =
        let l : distance (value p) c < distance (value q) c = grind (arith, nat_tests) in
        record { earlier = λ r s. inl (omega (arith, no_farther value c q r (first r s))); last = inr (refl, inr (refl, omega (arith, ints))); one = inr refl }
    by false e =
        let l : distance (value q) c ≤ distance (value p) c = grind (arith, nat_tests) in
        record {
          earlier = first;
          last = ⊎_elim
              (λ (b : distance (value q) c < distance (value p) c). inl b)
              (λ (b : distance (value p) c ≤ distance (value q) c). inr (omega arith, simpler))
              (cases_lt (distance (value q) c) (distance (value p) c));
          one = inl refl;
        }

first_of_none : (signed : Bool) (value : ℤ → ℤ) (c : ℤ) → first_nearest signed value c 0 ≡ pos 0
unfolding first_nearest
first_of_none signed value c = refl

first_with_signs : (value : ℤ → ℤ) (c : ℤ) (n : ℕ) → first_nearest true value c (suc n) ≡ nearer value c (nearer value c (first_nearest true value c n) (pos (suc n))) (negsuc n)
unfolding first_nearest
first_with_signs value c n = refl

first_without : (value : ℤ → ℤ) (c : ℤ) (n : ℕ) → first_nearest false value c (suc n) ≡ nearer value c (first_nearest false value c n) (pos (suc n))
unfolding first_nearest
first_without value c n = refl

only_zero : (value : ℤ → ℤ) (c p : ℤ) → unsigned_abs p ≤ 0 → IsPreferred value c (pos 0) p
only_zero value c p h = let e : p ≡ pos 0 = omega (arith, ints) in rw e (inr (refl, inr (refl, omega (arith, ints))))

-- levels of size up to n
abbrev pub HasSize : ℕ → ℤ → Type 0
HasSize n p = unsigned_abs p ≤ n

pub first_of_signed : (value : ℤ → ℤ) (c : ℤ) (n : ℕ) → IsNearestOf value (HasSize n) c (first_nearest true value c n)
first_of_signed value c zero = rw (first_of_none true value c) (record { level = omega (arith, ints); first = λ p h. only_zero value c p h })
first_of_signed value c (suc n) =
    let w = first_of_signed value c n in
    let q : ℤ = first_nearest true value c n in
    let up : ℤ = nearer value c q (pos (suc n)) in
    let small = w.level in
    let a = taken value c (HasSize n) q (pos (suc n)) w.first (inl (omega (arith, ints))) in
    let two : (r : ℤ) → ((HasSize n r) ⊎ (r ≡ pos (suc n))) → IsPreferred value c up r =
    λ r s. ⊎_elim (λ (h : HasSize n r). a.earlier r h) (λ (e : r ≡ pos (suc n)). rw e a.last) s in
    let simpler : IsSimpler up (negsuc n) =
    ⊎_elim (λ (e : up ≡ q). inl (omega (arith, ap unsigned_abs e))) (λ (e : up ≡ pos (suc n)). inr (omega (arith, ap unsigned_abs e), omega (arith, ints, e))) a.one in
    let size : unsigned_abs up ≤ suc n = ⊎_elim (λ (e : up ≡ q). omega (arith, ap unsigned_abs e)) (λ (e : up ≡ pos (suc n)). omega (arith, ap unsigned_abs e)) a.one in
    let b = taken value c (λ r. (HasSize n r) ⊎ (r ≡ pos (suc n))) up (negsuc n) two simpler in
    rw (first_with_signs value c n) (record {
      level = ⊎_elim (λ (e : nearer value c up (negsuc n) ≡ up). omega (arith, ap unsigned_abs e)) (λ (e : nearer value c up (negsuc n) ≡ negsuc n). omega (arith, ap unsigned_abs e)) b.one;
      first = λ p h. by p h b.earlier b.last;
    })
  where
    by : {now : ℤ} (p : ℤ) → HasSize (suc n) p → ((r : ℤ) → ((HasSize n r) ⊎ (r ≡ pos (suc n))) → IsPreferred value c now r) → IsPreferred value c now (negsuc n) → IsPreferred value c now p
    by (pos k) h earlier last = ⊎_elim (λ (l : k < suc n). earlier (pos k) (inl (omega arith))) (λ (l : suc n ≤ k). let e : pos k ≡ pos (suc n) = ap pos (omega arith) in earlier (pos k) (inr e)) (cases_lt k (suc n))
    by {now} (negsuc k) h earlier last = ⊎_elim (λ (l : k < n). earlier (negsuc k) (inl (omega arith))) (λ (l : n ≤ k). let e : k ≡ n = omega arith in rw e last) (cases_lt k n)

pub first_of_unsigned : (value : ℤ → ℤ) (c : ℤ) (n : ℕ) → IsNearestOf value (IsUpTo n) c (first_nearest false value c n)
first_of_unsigned value c zero = rw (first_of_none false value c) (record { level = (omega (arith, ints), omega (arith, ints)); first = λ p h. only_zero value c p (omega (arith, ints, h.0, h.1)) })
first_of_unsigned value c (suc n) =
    let w = first_of_unsigned value c n in
    let q : ℤ = first_nearest false value c n in
    let low = w.level.0 in
    let high = w.level.1 in
    let a = taken value c (IsUpTo n) q (pos (suc n)) w.first (inl (omega (arith, ints))) in
    rw (first_without value c n) (record {
      level = ⊎_elim (λ (e : nearer value c q (pos (suc n)) ≡ q). rw e (omega (arith, ints), omega (arith, ints))) (λ (e : nearer value c q (pos (suc n)) ≡ pos (suc n)). rw e (omega (arith, ints), omega (arith, ints))) a.one;
      first = λ p h. by p h a.earlier a.last;
    })
  where
    by : {now : ℤ} (p : ℤ) → IsUpTo (suc n) p → ((r : ℤ) → IsUpTo n r → IsPreferred value c now r) → IsPreferred value c now (pos (suc n)) → IsPreferred value c now p
    by {now} (pos k) h earlier last = ⊎_elim (λ (l : k < suc n). earlier (pos k) (omega (arith, ints), omega (arith, ints))) (λ (l : suc n ≤ k). let e : k ≡ suc n = omega (arith, ints, h.1) in rw e last) (cases_lt k (suc n))
    by (negsuc k) h earlier last = absurd (omega (arith, ints, h.0))

tie : (q p : ℤ) → IsSimpler q p → IsSimpler p q → q ≡ p
tie q p (inl a) (inl b) = absurd (omega arith)
tie q p (inl a) (inr b) = absurd (omega (arith, b.0))
tie q p (inr a) (inl b) = absurd (omega (arith, a.0))
tie q p (inr a) (inr b) = omega (arith, ints, a.1, b.1)

both_preferred : (value : ℤ → ℤ) (c q p : ℤ) → IsPreferred value c q p → IsPreferred value c p q → q ≡ p
both_preferred value c q p (inl a) (inl b) = absurd (omega arith)
both_preferred value c q p (inl a) (inr b) = absurd (omega (arith, b.0))
both_preferred value c q p (inr a) (inl b) = absurd (omega (arith, a.0))
both_preferred value c q p (inr a) (inr b) = tie q p a.1 b.1

pub one_is_nearest : (value : ℤ → ℤ) (IsAllowed : ℤ → Type 0) (c q p : ℤ) → IsNearestOf value IsAllowed c q → IsNearestOf value IsAllowed c p → q ≡ p
one_is_nearest value IsAllowed c q p w r = both_preferred value c q p (w.first p r.level) (r.first q w.level)

-- the same level by other words for the values and for what is allowed
pub nearest_same : (value other : ℤ → ℤ) (IsAllowed IsMeant : ℤ → Type 0) (c q : ℤ) → ((p : ℤ) → value p ≡ other p) → ((p : ℤ) → IsAllowed p → IsMeant p) → ((p : ℤ) → IsMeant p → IsAllowed p)
    → IsNearestOf value IsAllowed c q → IsNearestOf other IsMeant c q
nearest_same value other IsAllowed IsMeant c q same into back w = record {
  level = into q w.level;
  first = λ p h. rw (← same p, ← same q) (w.first p (back p h));
}
