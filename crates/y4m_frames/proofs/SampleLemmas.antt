-- Samples of two bytes.
use Rattle.std.proofs.Common.{◌≡◌, ℕ, ◌+◌, ◌*◌, ◌/◌, ◌<◌, ◌≤◌, max, Bool, true, false, ◌&&◌, nat_le, List, [], ◌∷◌, length, drop, get_or, refl, sym, ap, ◌∙◌, arith, ⊎_elim}
use Rattle.std.proofs.lemmas.Bool.{cases_lt, le-leb, lt-leb}
use Rattle.std.proofs.lemmas.List.{drop_more, length-drop}
use Rattle.y4m_frames.specs.Frames.{are_samples}

joined : (g v : ℕ) (others : Bool) → (nat_le g 1023 && (nat_le v 1023 && others)) ≡ (nat_le (max v g) 1023 && others)
joined g v others = ⊎_elim
    (λ (a : 1023 < g). ap (λ b. b && (nat_le v 1023 && others)) (lt-leb g 1023 a) ∙ sym (ap (λ b. b && others) (lt-leb (max v g) 1023 (omega arith))))
    (λ (s : g ≤ 1023). ap (λ b. b && (nat_le v 1023 && others)) (le-leb g 1023 s) ∙ ⊎_elim
    (λ (a : 1023 < v). ap (λ b. b && others) (lt-leb v 1023 a ∙ sym (lt-leb (max v g) 1023 (omega arith))))
    (λ (t : v ≤ 1023). ap (λ b. b && others) (le-leb v 1023 t ∙ sym (le-leb (max v g) 1023 (omega arith))))
    (cases_lt 1023 v))
    (cases_lt 1023 g)

pub samples_step : (s : List ℕ) (i g : ℕ) → 2 * i + 1 < length s →
    (nat_le g 1023 && are_samples (drop (2 * i) s)) ≡ (nat_le (max (get_or s (2 * i) 0 + 256 * get_or s (2 * i + 1) 0) g) 1023 && are_samples (drop (2 * (i + 1)) s))
samples_step s i g within =
    let next : 2 * i + 1 + 1 ≡ 2 * (i + 1) = omega arith in
    let cut : drop (2 * i) s ≡ get_or s (2 * i) 0 ∷ get_or s (2 * i + 1) 0 ∷ drop (2 * (i + 1)) s =
    drop_more s (2 * i) 0 (omega arith) ∙ ap (λ t. get_or s (2 * i) 0 ∷ t) (drop_more s (2 * i + 1) 0 within ∙ ap (λ k. get_or s (2 * i + 1) 0 ∷ drop k s) next) in
    ap (λ t. nat_le g 1023 && are_samples t) cut
    ∙ joined g (get_or s (2 * i) 0 + 256 * get_or s (2 * i + 1) 0) (are_samples (drop (2 * (i + 1)) s))

few : (t : List ℕ) → length t ≤ 1 → are_samples t ≡ true
few [] h = refl
few (a ∷ []) h = refl
few (a ∷ b ∷ t) h = absurd (omega arith)

pub samples_all : (s : List ℕ) (i g : ℕ) → length s / 2 ≤ i → (nat_le g 1023 && are_samples (drop (2 * i) s)) ≡ nat_le g 1023
samples_all s i g h = ap (λ b. nat_le g 1023 && b) (few (drop (2 * i) s) (omega (arith, length-drop (2 * i) s))) ∙ and_true (nat_le g 1023)
  where
    and_true : (b : Bool) → (b && true) ≡ b
    and_true true = refl
    and_true false = refl
