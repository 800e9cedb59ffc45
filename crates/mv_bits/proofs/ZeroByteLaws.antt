-- Zero bytes in front and at the end.
use Rattle.std.proofs.Common.{◌≡◌, ℕ, zero, suc, ◌+◌, ◌-◌, ◌<◌, ◌≤◌, true, eqb, List, [], ◌∷◌, ◌++◌, length, get_or, take, drop, reverse, refl, sym, ap, ◌∙◌, arith, inl, inr}
use Rattle.std.proofs.lemmas.Bool.{cases_lt, cases_Bool, eqb-true}
use Rattle.std.proofs.lemmas.List.{length-drop, length-reverse, reverse-append, reverse-reverse, length-replicate, take-append-drop}
use Rattle.mv_bits.specs.Elements.{is_start, code}
use Rattle.mv_bits.proofs.CutLaws.{three}
use Rattle.mv_bits.specs.Zeros.{zero_bytes, zeros_at_end, zeros_in_front}

pub front_le : (bytes : List ℕ) → zeros_in_front bytes ≤ length bytes
front_le [] = omega arith
front_le (b ∷ bs) =
    elim (cases_Bool (eqb b 0)) [
      | inl is ↦ rw is (let later = front_le bs in omega (arith, later))
      | inr is ↦ rw is (omega arith)
    ]

pub zeros_le : (bytes : List ℕ) → zeros_at_end bytes ≤ length bytes
unfolding zeros_at_end
zeros_le bytes = let h = front_le (reverse bytes) in omega (arith, h, length-reverse bytes)

pub front_append_some : (x y : List ℕ) → zeros_in_front x < length x → zeros_in_front (x ++ y) ≡ zeros_in_front x
front_append_some [] y lt = absurd (omega arith)
front_append_some (b ∷ bs) y lt =
    elim (cases_Bool (eqb b 0)) [
      | inl is ↦
          let lt' : 1 + zeros_in_front bs < suc (length bs) = rw is at lt in
          rw is (let h = front_append_some bs y (omega arith) in omega (arith, h))
      | inr is ↦ rw is refl
    ]

pub front_append_all : (x y : List ℕ) → zeros_in_front x ≡ length x → zeros_in_front (x ++ y) ≡ length x + zeros_in_front y
front_append_all [] y all = omega arith
front_append_all (b ∷ bs) y all =
    elim (cases_Bool (eqb b 0)) [
      | inl is ↦
          let all' : 1 + zeros_in_front bs ≡ suc (length bs) = rw is at all in
          rw is (let h = front_append_all bs y (omega arith) in omega (arith, h))
      | inr is ↦ absurd (let none : 0 ≡ suc (length bs) = rw is at all in omega arith)
    ]

pub front_zeros : (n : ℕ) → zeros_in_front (zero_bytes n) ≡ n
front_zeros zero = refl
front_zeros (suc n) = let h = front_zeros n in omega arith

-- the zeros that end what stands behind end all
pub zeros_suffix : (x y : List ℕ) → zeros_at_end y ≤ zeros_at_end (x ++ y)
unfolding zeros_at_end
zeros_suffix x y =
    rw reverse-append (
    elim (cases_lt (zeros_in_front (reverse y)) (length (reverse y))) [
      | inl some ↦ let h = front_append_some (reverse y) (reverse x) some in omega arith
      | inr past ↦ let le = front_le (reverse y) in let h = front_append_all (reverse y) (reverse x) (omega arith) in omega arith
    ])

pub zero_len : (n : ℕ) → length (zero_bytes n) ≡ n
zero_len n = length-replicate n 0

-- so many zeros from both ends
reverse_zeros : (n : ℕ) → zeros_in_front (reverse (zero_bytes n)) ≡ n
reverse_zeros zero = refl
reverse_zeros (suc n) =
    let one : List ℕ = 0 ∷ [] in
    let len : length (reverse (zero_bytes n)) ≡ n = length-reverse (zero_bytes n) ∙ length-replicate n 0 in
    let z = reverse_zeros n in
    let h = front_append_all (reverse (zero_bytes n)) one (z ∙ sym len) in
    let e : zeros_in_front (reverse (zero_bytes (suc n))) ≡ zeros_in_front (reverse (zero_bytes n) ++ one) = ap (λ (x : List ℕ). zeros_in_front x) (reverse-append one (zero_bytes n)) in
    omega arith

pub zeros_more : (x : List ℕ) (n : ℕ) → zeros_at_end x ≡ 0 → zeros_at_end (x ++ zero_bytes n) ≡ n
unfolding zeros_at_end
zeros_more x n none =
    let len : length (reverse (zero_bytes n)) ≡ n = length-reverse (zero_bytes n) ∙ length-replicate n 0 in
    let h = front_append_all (reverse (zero_bytes n)) (reverse x) (reverse_zeros n ∙ sym len) in
    let e : zeros_in_front (reverse (x ++ zero_bytes n)) ≡ zeros_in_front (reverse (zero_bytes n) ++ reverse x) = ap (λ (y : List ℕ). zeros_in_front y) (reverse-append x (zero_bytes n)) in
    omega arith

pub zeros_read : (n k : ℕ) → get_or (zero_bytes n) k 0 ≡ 0
zeros_read zero k = refl
zeros_read (suc n) zero = refl
zeros_read (suc n) (suc k) = zeros_read n k

-- the code of an element doesn't change by zeros behind it
pub code_zeros : (e : List ℕ) (n : ℕ) → code (e ++ zero_bytes n) ≡ code e
code_zeros [] n = zeros_read n 3
code_zeros (a ∷ []) n = zeros_read n 2
code_zeros (a ∷ b ∷ []) n = zeros_read n 1
code_zeros (a ∷ b ∷ c ∷ []) n = zeros_read n 0
code_zeros (a ∷ b ∷ c ∷ d ∷ e) n = refl

-- so many zeros in front of a byte 01 that ends a start code
pub front_of_start : (k : ℕ) (y : List ℕ) → (zeros_in_front (zero_bytes k ++ 0 ∷ 0 ∷ 1 ∷ y) ≡ k + 2) × (get_or (zero_bytes k ++ 0 ∷ 0 ∷ 1 ∷ y) (k + 2) 0 ≡ 1)
front_of_start zero y = (refl, refl)
front_of_start (suc k) y =
    let later = front_of_start k y in
    let a = later.0 in
    let e : suc k + 2 ≡ suc (k + 2) = omega arith in
    (omega arith, rw e later.1)

pub zeros_append_some : (x y : List ℕ) → zeros_at_end y < length y → zeros_at_end (x ++ y) ≡ zeros_at_end y
unfolding zeros_at_end
zeros_append_some x y some =
    let e : zeros_in_front (reverse (x ++ y)) ≡ zeros_in_front (reverse y ++ reverse x) = ap (λ (z : List ℕ). zeros_in_front z) (reverse-append x y) in
    let len = length-reverse y in
    e ∙ front_append_some (reverse y) (reverse x) (omega arith)

-- a start code isn't all zeros
pub zeros_of_start : (e : List ℕ) → is_start e ≡ true → zeros_at_end e < length e
unfolding zeros_at_end
zeros_of_start e starts =
    let y = drop 3 e in
    let code_bytes : List ℕ = 0 ∷ 0 ∷ 1 ∷ [] in
    let whole : e ≡ code_bytes ++ y = three e starts in
    let turned : zeros_in_front (reverse e) ≡ zeros_in_front (reverse y ++ (1 ∷ 0 ∷ 0 ∷ [])) = ap (λ (z : List ℕ). zeros_in_front (reverse z)) whole ∙ ap (λ (z : List ℕ). zeros_in_front z) (reverse-append code_bytes y) in
    let len : length e ≡ 3 + length y = ap (λ (z : List ℕ). length z) whole ∙ omega arith in
    let rev = length-reverse y in
    let le = front_le (reverse y) in
    elim (cases_lt (zeros_in_front (reverse y)) (length (reverse y))) [
      | inl some ↦ let h = front_append_some (reverse y) (1 ∷ 0 ∷ 0 ∷ []) some in omega arith
      | inr past ↦
          let none : zeros_in_front (1 ∷ 0 ∷ 0 ∷ []) ≡ 0 = refl in
          let h = front_append_all (reverse y) (1 ∷ 0 ∷ 0 ∷ []) (omega arith) in omega arith
    ]

-- the zero bytes in front, of which so many are known
pub front_split : (bytes : List ℕ) (k : ℕ) → k ≤ zeros_in_front bytes → zeros_in_front bytes ≡ k + zeros_in_front (drop k bytes)
front_split bytes zero le = omega arith
front_split [] (suc k) le = absurd (omega arith)
front_split (b ∷ bs) (suc k) le =
    elim (cases_Bool (eqb b 0)) [
      | inl is ↦
          let le' : suc k ≤ 1 + zeros_in_front bs = rw is at le in
          let later = front_split bs k (omega arith) in
          rw is (omega (arith, later))
      | inr is ↦ absurd (let none : suc k ≤ 0 = rw is at le in omega arith)
    ]

-- the zero bytes at the end of two lists
pub zeros_append_all : (x y : List ℕ) → zeros_at_end y ≡ length y → zeros_at_end (x ++ y) ≡ zeros_at_end x + length y
unfolding zeros_at_end
zeros_append_all x y all =
    rw reverse-append (
    let h = front_append_all (reverse y) (reverse x) (all ∙ sym (length-reverse y)) in
    omega (arith, h, length-reverse y))

-- where all are zeros from the end, all are from the front
pub all_from_front : (x : List ℕ) → zeros_at_end x ≡ length x → zeros_in_front x ≡ length x
unfolding zeros_at_end
all_from_front [] all = refl
all_from_front (b ∷ bs) all =
    let whole : zeros_in_front (reverse bs ++ b ∷ []) ≡ suc (length bs) = ap (λ (x : List ℕ). zeros_in_front x) (sym (reverse-append (b ∷ []) bs)) ∙ all in
    elim (cases_lt (zeros_in_front (reverse bs)) (length (reverse bs))) [
      | inl some ↦ absurd (
          let h = front_append_some (reverse bs) (b ∷ []) some in
          omega (arith, h, whole, some, length-reverse bs))
      | inr past ↦
          let every : zeros_in_front (reverse bs) ≡ length (reverse bs) = omega (arith, past, front_le (reverse bs)) in
          let later = all_from_front bs (every ∙ length-reverse bs) in
          let h = front_append_all (reverse bs) (b ∷ []) every in
          elim (cases_Bool (eqb b 0)) [
            | inl is ↦ rw is (omega (arith, later))
            | inr is ↦ absurd (let none : zeros_in_front (b ∷ []) ≡ 0 = rw is refl in omega (arith, h, none, whole, length-reverse bs))
          ]
    ]

-- where all but k bytes are zeros at the end, all behind the first k are
pub all_behind : (x : List ℕ) (k : ℕ) → k ≤ length x → length x - k ≤ zeros_at_end x → zeros_in_front (drop k x) ≡ length (drop k x)
all_behind x k le all =
    let parts : take k x ++ drop k x ≡ x = take-append-drop k x in
    let len = length-drop k x in
    elim (cases_lt (zeros_at_end (drop k x)) (length (drop k x))) [
      | inl some ↦ absurd (
          let h : zeros_at_end x ≡ zeros_at_end (drop k x) = ap zeros_at_end (sym parts) ∙ zeros_append_some (take k x) (drop k x) some in
          omega (arith, h, some, len, all))
      | inr past ↦ all_from_front (drop k x) (omega (arith, past, zeros_le (drop k x)))
    ]

-- each of the zero bytes in front
pub zero_read : (bytes : List ℕ) (k : ℕ) → k < zeros_in_front bytes → get_or bytes k 0 ≡ 0
zero_read [] k lt = absurd (omega arith)
zero_read (b ∷ bs) zero lt =
    elim (cases_Bool (eqb b 0)) [
      | inl is ↦ eqb-true _ _ is
      | inr is ↦ absurd (let none : 0 < 0 = rw is at lt in omega arith)
    ]
zero_read (b ∷ bs) (suc k) lt =
    elim (cases_Bool (eqb b 0)) [
      | inl is ↦ let lt' : suc k < 1 + zeros_in_front bs = rw is at lt in zero_read bs k (omega arith)
      | inr is ↦ absurd (let none : suc k < 0 = rw is at lt in omega arith)
    ]

-- the zeros in front, and what is behind them
pub zeros_split : (x : List ℕ) → (x ≡ zero_bytes (zeros_in_front x) ++ drop (zeros_in_front x) x) × (zeros_in_front (drop (zeros_in_front x) x) ≡ 0)
zeros_split [] = (refl, refl)
zeros_split (b ∷ bs) =
    elim (cases_Bool (eqb b 0)) [
      | inr other ↦ rw other (refl, rw other refl)
      | inl is ↦
          let later = zeros_split bs in
          let zero_there : b ≡ 0 = eqb-true b 0 is in
          let one : 1 + zeros_in_front bs ≡ suc (zeros_in_front bs) = omega arith in
          rw (is, one) (ap (λ (x : List ℕ). b ∷ x) later.0 ∙ ap (λ (k : ℕ). k ∷ (zero_bytes (zeros_in_front bs) ++ drop (zeros_in_front bs) bs)) zero_there, later.1)
    ]

-- zeros backward
zeros_snoc : (n : ℕ) → zero_bytes n ++ 0 ∷ [] ≡ zero_bytes (suc n)
zeros_snoc zero = refl
zeros_snoc (suc n) = ap (λ (x : List ℕ). 0 ∷ x) (zeros_snoc n)

reverse_zero_bytes : (n : ℕ) → reverse (zero_bytes n) ≡ zero_bytes n
reverse_zero_bytes zero = refl
reverse_zero_bytes (suc n) = let one : List ℕ = 0 ∷ [] in reverse-append one (zero_bytes n) ∙ ap (λ (x : List ℕ). x ++ one) (reverse_zero_bytes n) ∙ zeros_snoc n

-- bytes without the zeros that end them
pub solid : List ℕ → List ℕ
solid x = reverse (drop (zeros_at_end x) (reverse x))

pub solid_split : (x : List ℕ) → (x ≡ solid x ++ zero_bytes (zeros_at_end x)) × (zeros_at_end (solid x) ≡ 0)
unfolding solid zeros_at_end
solid_split x =
    let z = zeros_in_front (reverse x) in
    let h = zeros_split (reverse x) in
    let back : x ≡ reverse (zero_bytes z ++ drop z (reverse x)) = sym (reverse-reverse x) ∙ ap (λ (y : List ℕ). reverse y) h.0 in (
      back ∙ reverse-append (zero_bytes z) (drop z (reverse x)) ∙ ap (λ (y : List ℕ). reverse (drop z (reverse x)) ++ y) (reverse_zero_bytes z),
      ap (λ (y : List ℕ). zeros_in_front y) (reverse-reverse (drop z (reverse x))) ∙ h.1,
    )
