-- What is read at the places of a slot is the decision that it is the slot of.
use Rattle.std.proofs.Common.{◌≡◌, ℕ, zero, suc, ◌+◌, ◌*◌, ◌/◌, ◌%◌, ◌<◌, ◌∙◌, Bool, true, false, cond, ltb, leb, eqb, List, [], ◌∷◌, ◌++◌, length, take, drop, get_or, arith, ap, refl, sym, subst, pos, Option, Some, None}
use Rattle.std.specs.Prelude.{nat_eq, FitsSigned}
use Rattle.std.specs.Int.{cast_unsigned, cast_signed, w16}
use Rattle.std.specs.List.{AllByRecursion, flat_map}
use mir.Facts.{sfits_to_z}
use Rattle.std.proofs.lemmas.Bool.Decides.{nat_tests}
use Rattle.std.proofs.lemmas.Int.{of_z-to_z, fits_signed_from_abs}
use Rattle.std.proofs.lemmas.List.{take_at, drop_at, length-take-le, get_or-drop}
use Rattle.std.proofs.lemmas.List.FromFn.{fill_by_all}
use Rattle.mv_terms.specs.declared.macroblock.Decision.{Decision}
use Rattle.mv_terms.specs.Decisions.{HasPlainOrFieldMotion, vector_of}
use Rattle.mv_terms.specs.Ranges.{HasLegalScales}
use Rattle.rec_slot.specs.Slot.{number_of, slot_of, IsSlot, IsSlotOf, IsHeld, WrittenIsASlot, OneDecision}
use Rattle.rec_legal.specs.Said.{two_at, component_at, decision_at, is_slot, decision_said, decisions_said, ◌>>=◌}
use Rattle.rec_legal.proofs.OptionLemmas.{both_true, true_both, when_some, when_true, same_some, bind_some, no_some}

-- ---- bits and bytes

abbrev bit : ℕ → ℕ → Bool
bit byte worth = nat_eq (byte / worth % 2) 1

worth_of_digit : (digit worth : ℕ) → digit < 2 → cond (nat_eq digit 1) worth 0 ≡ worth * digit
worth_of_digit zero worth small = omega arith
worth_of_digit (suc zero) worth small = omega arith
worth_of_digit (suc (suc digit)) worth small = absurd (omega arith)

worth_of : (quotient worth : ℕ) → cond (nat_eq (quotient % 2) 1) worth 0 ≡ worth * (quotient % 2)
worth_of quotient worth = worth_of_digit (quotient % 2) worth (omega arith)

eight_bits : (b : ℕ) → b < 256 → number_of (bit b 128 ∷ bit b 64 ∷ bit b 32 ∷ bit b 16 ∷ bit b 8 ∷ bit b 4 ∷ bit b 2 ∷ bit b 1 ∷ []) ≡ b
eight_bits b small = omega (arith, worth_of (b / 128) 128, worth_of (b / 64) 64, worth_of (b / 32) 32, worth_of (b / 16) 16, worth_of (b / 8) 8, worth_of (b / 4) 4, worth_of (b / 2) 2, worth_of (b / 1) 1)

high_nibble : (b : ℕ) → b < 256 → b % 16 ≡ 0 → number_of (bit b 128 ∷ bit b 64 ∷ bit b 32 ∷ bit b 16 ∷ false ∷ false ∷ false ∷ false ∷ []) ≡ b
high_nibble b small empty = omega (arith, worth_of (b / 128) 128, worth_of (b / 64) 64, worth_of (b / 32) 32, worth_of (b / 16) 16)

high_byte : (high low : ℕ) → high < 256 → low < 256 → cast_unsigned w16 (cast_signed w16 (256 * high + low)) / 256 ≡ high
high_byte high low a b = let e = of_z-to_z w16 (256 * high + low) (omega arith) in omega (arith, e)

low_byte : (high low : ℕ) → high < 256 → low < 256 → cast_unsigned w16 (cast_signed w16 (256 * high + low)) % 256 ≡ low
low_byte high low a b = let e = of_z-to_z w16 (256 * high + low) (omega arith) in omega (arith, e)

next_same : (x y : ℕ) (xs ys : List ℕ) → x ≡ y → xs ≡ ys → x ∷ xs ≡ y ∷ ys
next_same x y xs ys first others = rw (first, others) refl

one_by_one : (bytes : List ℕ) → length bytes ≡ 20 → bytes ≡ get_or bytes 0 0 ∷ get_or bytes 1 0 ∷ get_or bytes 2 0 ∷ get_or bytes 3 0 ∷ get_or bytes 4 0 ∷ get_or bytes 5 0 ∷ get_or bytes 6 0 ∷ get_or bytes 7 0 ∷ get_or bytes 8 0 ∷ get_or bytes 9 0
    ∷ get_or bytes 10 0 ∷ get_or bytes 11 0 ∷ get_or bytes 12 0 ∷ get_or bytes 13 0 ∷ get_or bytes 14 0 ∷ get_or bytes 15 0 ∷ get_or bytes 16 0 ∷ get_or bytes 17 0 ∷ get_or bytes 18 0 ∷ get_or bytes 19 0 ∷ []
one_by_one bytes size = fill_by_all (λ i. get_or bytes i 0) bytes 20 0 size (λ k inside. refl)

-- ---- a slot and its decision

abbrev AreSmall : List ℕ → Type 0
AreSmall bytes = (k : ℕ) → get_or bytes k 0 < 256

slot_is : (bytes : List ℕ) → length bytes ≡ 20 → AreSmall bytes → get_or bytes 2 0 % 16 ≡ 0 → slot_of (decision_at bytes) ≡ bytes
slot_is bytes size fits empty =
    let high : (k : ℕ) → cast_unsigned w16 (component_at bytes k) / 256 ≡ get_or bytes k 0 = λ (k : ℕ). high_byte (get_or bytes k 0) (get_or bytes (k + 1) 0) (fits k) (fits (k + 1)) in
    let low : (k : ℕ) → cast_unsigned w16 (component_at bytes k) % 256 ≡ get_or bytes (k + 1) 0 = λ (k : ℕ). low_byte (get_or bytes k 0) (get_or bytes (k + 1) 0) (fits k) (fits (k + 1)) in
    next_same _ _ _ _ (eight_bits (get_or bytes 0 0) (fits 0))
    (next_same _ _ _ _ refl
    (next_same _ _ _ _ (high_nibble (get_or bytes 2 0) (fits 2) empty)
    (next_same _ _ _ _ (high 3) (next_same _ _ _ _ (low 3) (next_same _ _ _ _ (high 5) (next_same _ _ _ _ (low 5)
    (next_same _ _ _ _ (high 7) (next_same _ _ _ _ (low 7) (next_same _ _ _ _ (high 9) (next_same _ _ _ _ (low 9)
    (next_same _ _ _ _ (high 11) (next_same _ _ _ _ (low 11) (next_same _ _ _ _ (high 13) (next_same _ _ _ _ (low 13)
    (next_same _ _ _ _ (high 15) (next_same _ _ _ _ (low 15) (next_same _ _ _ _ (high 17) (next_same _ _ _ _ (low 17)
    refl))))))))))))))))))
    ∙ sym (one_by_one bytes size)

component_fits : (bytes : List ℕ) (at : ℕ) → AreSmall bytes → FitsSigned w16 (component_at bytes at)
component_fits bytes at small =
    let a = small at in
    let b = small (at + 1) in
    sfits_to_z {w = w16} {n = two_at bytes at} (record { fits = omega (arith, a, b) })

zero_fits : FitsSigned w16 (pos 0)
zero_fits = fits_signed_from_abs w16 (pos 0) (omega arith)

x_fits : (bytes : List ℕ) → AreSmall bytes → (s r : ℕ) → FitsSigned w16 (vector_of (decision_at bytes) s r).x
x_fits bytes small zero zero = component_fits bytes 3 small
x_fits bytes small zero (suc zero) = component_fits bytes 7 small
x_fits bytes small zero (suc (suc r)) = zero_fits
x_fits bytes small (suc zero) zero = component_fits bytes 11 small
x_fits bytes small (suc zero) (suc zero) = component_fits bytes 15 small
x_fits bytes small (suc zero) (suc (suc r)) = zero_fits
x_fits bytes small (suc (suc s)) r = zero_fits

y_fits : (bytes : List ℕ) → AreSmall bytes → (s r : ℕ) → FitsSigned w16 (vector_of (decision_at bytes) s r).y
y_fits bytes small zero zero = component_fits bytes 5 small
y_fits bytes small zero (suc zero) = component_fits bytes 9 small
y_fits bytes small zero (suc (suc r)) = zero_fits
y_fits bytes small (suc zero) zero = component_fits bytes 13 small
y_fits bytes small (suc zero) (suc zero) = component_fits bytes 17 small
y_fits bytes small (suc zero) (suc (suc r)) = zero_fits
y_fits bytes small (suc (suc s)) r = zero_fits

decision_held : (bytes : List ℕ) → AreSmall bytes → IsHeld (decision_at bytes)
decision_held bytes small = record { selects = refl; vectors = refl; dual_delta = refl; x_fits = x_fits bytes small; y_fits = y_fits bytes small }

decision_motion : (bytes : List ℕ) → HasPlainOrFieldMotion (decision_at bytes)
decision_motion bytes = record { half = refl; dual = refl; dual_delta = refl }

-- ---- tests

slot_tested : (bytes : List ℕ) → is_slot bytes ≡ true → IsSlot bytes
slot_tested bytes e =
    let a = both_true _ _ e in
    let b = both_true _ _ a.0 in
    let c = both_true _ _ b.1 in
    let b0 : eqb (get_or bytes 2 0 % 16) 0 ≡ true = b.0 in
    let c0 : ltb 0 (get_or bytes 1 0) ≡ true = c.0 in
    let c1 : leb (get_or bytes 1 0) 31 ≡ true = c.1 in
    let a1 : leb (get_or bytes 19 0) 31 ≡ true = a.1 in
    record { low_nibble = grind (arith, nat_tests); scale = (grind (arith, nat_tests), grind (arith, nat_tests)); head_scale = grind (arith, nat_tests) }

slot_test : (bytes : List ℕ) → IsSlot bytes → is_slot bytes ≡ true
slot_test bytes is =
    let a = is.low_nibble in
    let b = is.scale.0 in
    let c = is.scale.1 in
    let d = is.head_scale in
    let e0 : eqb (get_or bytes 2 0 % 16) 0 ≡ true = grind (arith, nat_tests) in
    let e1 : ltb 0 (get_or bytes 1 0) ≡ true = grind (arith, nat_tests) in
    let e2 : leb (get_or bytes 1 0) 31 ≡ true = grind (arith, nat_tests) in
    let e3 : leb (get_or bytes 19 0) 31 ≡ true = grind (arith, nat_tests) in
    true_both _ _ (true_both _ _ e0 (true_both _ _ e1 e2)) e3

-- ---- the laws of a slot

-- what is read of a slot
pub record IsReadOf (d : Decision) (bytes : List ℕ) : Type 0 where
  pub held : IsHeld d
  pub motion : HasPlainOrFieldMotion d
  pub scales : HasLegalScales d
  pub same : slot_of d ≡ bytes

pub slot_sound : (bytes : List ℕ) (d : Decision) → length bytes ≡ 20 → AreSmall bytes → decision_said bytes ≡ Some d → IsReadOf d bytes
unfolding decision_said
slot_sound bytes d size small e =
    let w = when_some (is_slot bytes) (decision_at bytes) d e in
    let is = slot_tested bytes w.0 in
    subst (λ (x : Decision). IsReadOf x bytes) w.1 (record {
      held = decision_held bytes small;
      motion = decision_motion bytes;
      scales = record { scale = is.scale; head_scale = is.head_scale };
      same = slot_is bytes size small is.low_nibble;
    })

module _ (written : WrittenIsASlot) (one : OneDecision) where
  pub slot_complete : (bytes : List ℕ) (d : Decision) → length bytes ≡ 20 → AreSmall bytes → IsReadOf d bytes → decision_said bytes ≡ Some d
  unfolding decision_said
  slot_complete bytes d size small is =
      let slot : IsSlot bytes = subst IsSlot is.same (written d is.scales) in
      let same : decision_at bytes ≡ d = one (decision_at bytes) d (decision_held bytes small) is.held (decision_motion bytes) is.motion (slot_is bytes size small slot.low_nibble ∙ sym is.same) in
      when_true (is_slot bytes) (decision_at bytes) (slot_test bytes slot) ∙ ap (λ (x : Decision). Some x) same

  -- what is answered of a slot, from its bytes in an array
  pub slot_none : (slot bytes : List ℕ) → length slot ≡ 20 → AreSmall slot → bytes ≡ slot → (¬ IsSlot bytes) → None ≡ decision_said slot
  slot_none slot bytes size small same none =
      sym (no_some (decision_said slot) (λ d e. let is = slot_sound slot d size small e in none (subst IsSlot (is.same ∙ sym same) (written d is.scales))))

  pub slot_some : (slot bytes : List ℕ) (d : Decision) → length slot ≡ 20 → AreSmall slot → bytes ≡ slot → IsSlotOf d bytes → IsHeld d → Some d ≡ decision_said slot
  slot_some slot bytes d size small same is held = sym (slot_complete slot d size small (record { held = held; motion = is.motion; scales = is.scales; same = is.same_bytes ∙ same }))

-- ---- the laws of all slots

pub record AreReadOf (n : ℕ) (ds : List Decision) (slots : List ℕ) : Type 0 where
  pub count : length ds ≡ n
  pub held : AllByRecursion IsHeld ds
  pub scales : AllByRecursion HasLegalScales ds
  pub same : flat_map slot_of ds ≡ slots

small_take : (n : ℕ) (bytes : List ℕ) → AreSmall bytes → AreSmall (take n bytes)
small_take zero bytes small k = omega arith
small_take (suc n) [] small k = small k
small_take (suc n) (b ∷ bytes) small zero = small zero
small_take (suc n) (b ∷ bytes) small (suc k) = small_take n bytes (λ j. small (suc j)) k

small_drop : (n : ℕ) (bytes : List ℕ) → AreSmall bytes → AreSmall (drop n bytes)
small_drop n bytes small k = let e = get_or-drop n bytes k 0 in let s = small (n + k) in omega (arith, e, s)

split_at : (n : ℕ) (xs : List ℕ) → take n xs ++ drop n xs ≡ xs
split_at zero xs = refl
split_at (suc n) [] = refl
split_at (suc n) (x ∷ xs) = ap (λ (ys : List ℕ). x ∷ ys) (split_at n xs)

no_bytes : (xs : List ℕ) → length xs ≡ 0 → [] ≡ xs
no_bytes [] e = refl
no_bytes (x ∷ xs) e = absurd (omega (arith, e))

length_drop : (n : ℕ) (xs : List ℕ) (m : ℕ) → length xs ≡ n + m → length (drop n xs) ≡ m
length_drop zero xs m e = omega (arith, e)
length_drop (suc n) [] m e = absurd (omega (arith, e))
length_drop (suc n) (x ∷ xs) m e = length_drop n xs m (omega (arith, e))

pub slots_sound : (n : ℕ) (slots : List ℕ) (ds : List Decision) → length slots ≡ 20 * n → AreSmall slots → decisions_said n slots ≡ Some ds → AreReadOf n ds slots
unfolding decisions_said
slots_sound zero slots ds size small e =
    subst (λ (xs : List Decision). AreReadOf zero xs slots) (same_some [] ds e)
    (record { count = refl; held = tt; scales = tt; same = no_bytes slots (omega (arith, size)) })
slots_sound (suc n) slots ds size small e =
    let a = bind_some (decision_said (take 20 slots)) (λ (d : Decision). decisions_said n (drop 20 slots) >>= (λ later. Some (d ∷ later))) ds e in
    let d = a.0 in
    let b = bind_some (decisions_said n (drop 20 slots)) (λ (later : List Decision). Some (d ∷ later)) ds a.2 in
    let later = b.0 in
    let first = slot_sound (take 20 slots) d (length-take-le 20 slots (omega (arith, size))) (small_take 20 slots small) a.1 in
    let others = slots_sound n (drop 20 slots) later (length_drop 20 slots (20 * n) (omega (arith, size))) (small_drop 20 slots small) b.1 in
    subst (λ (xs : List Decision). AreReadOf (suc n) xs slots) (same_some (d ∷ later) ds b.2)
    (record {
      count = ap (λ (k : ℕ). suc k) others.count;
      held = (first.held, others.held);
      scales = (first.scales, others.scales);
      same = ap (λ (xs : List ℕ). xs ++ flat_map slot_of later) first.same ∙ (ap (λ (xs : List ℕ). take 20 slots ++ xs) others.same ∙ split_at 20 slots);
    })

module _ (written : WrittenIsASlot) (one : OneDecision) where
  bind_is : {A B : Type 0} (o : Option A) (x : A) (f : A → Option B) → o ≡ Some x → (o >>= f) ≡ f x
  bind_is {A} {B} o x f e = ap (λ (p : Option A). p >>= f) e

  pub slots_complete : (ds : List Decision) (slots : List ℕ) → AreSmall slots → AllByRecursion IsHeld ds → AllByRecursion HasPlainOrFieldMotion ds → AllByRecursion HasLegalScales ds → flat_map slot_of ds ≡ slots → decisions_said (length ds) slots ≡ Some ds
  unfolding decisions_said
  slots_complete [] slots small held motions scales same = refl
  slots_complete (d ∷ ds) slots small held motions scales same =
      let front : slot_of d ≡ take 20 slots = sym (take_at (slot_of d) (flat_map slot_of ds) 20 refl) ∙ ap (λ (xs : List ℕ). take 20 xs) same in
      let behind : flat_map slot_of ds ≡ drop 20 slots = sym (drop_at (slot_of d) (flat_map slot_of ds) 20 refl) ∙ ap (λ (xs : List ℕ). drop 20 xs) same in
      let first : decision_said (take 20 slots) ≡ Some d = slot_complete written one (take 20 slots) d (sym (ap (λ (xs : List ℕ). length xs) front)) (small_take 20 slots small) (record { held = held.0; motion = motions.0; scales = scales.0; same = front }) in
      let others = slots_complete ds (drop 20 slots) (small_drop 20 slots small) held.1 motions.1 scales.1 behind in
      bind_is (decision_said (take 20 slots)) d (λ (x : Decision). decisions_said (length ds) (drop 20 slots) >>= (λ later. Some (x ∷ later))) first
      ∙ bind_is (decisions_said (length ds) (drop 20 slots)) ds (λ (later : List Decision). Some (d ∷ later)) others
