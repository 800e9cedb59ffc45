-- What levels of a block are found to be.
use Rattle.std.proofs.Common.{◌≡◌, ◌∙◌, ℕ, ◌+◌, ◌*◌, ◌/◌, ◌%◌, ◌<◌, Bool, true, false, nat_eq, List, length, get_or, ℤ, pos, ◌-ℤ◌, ◌+ℤ◌, ◌≤ℤ◌, unsigned_abs, refl, sym, ap, ap₂, subst, arith, eqb-true, int_eq}
use Rattle.std.specs.Bool.{Decides}
use Rattle.std.specs.List.{list_all}
use Rattle.std.specs.Prelude.{◌↔◌, IsTrue}
use Rattle.std.specs.Cmp.Lexicographic.{pointwise}
use Rattle.std.proofs.lemmas.Bool.Decides.{Decides-int_eq}
use Rattle.std.proofs.lemmas.Slice.Eq.{slice_eq-Decides}
use Rattle.std.proofs.lemmas.List.{ext_get_or}
use Rattle.std.proofs.lemmas.List.Folds.{list_all_at}
use Rattle.mv_terms.specs.Block.{item, entry, IsSameBlock}
use Rattle.mv_transform.specs.Transform.{forward_at}
use Rattle.mv_transform.proofs.TransformLemmas.{forward_of_same}
use Rattle.mv_quant.specs.declared.Kind.{Kind}
use Rattle.mv_quant.specs.Macroblocks.{is_absent}
use Rattle.mv_quant.specs.Nearest.{nearest_level}
use Rattle.mv_recon.specs.Pictures.{residual_at, clipped}
use Rattle.mv_recon.proofs.ResidualLemmas.{zero_of}
use Rattle.cert_requant.specs.Stays.{AreSamples, found_level}
use Rattle.cert_requant.specs.Steps.{HoldsSamples}
use Rattle.cert_requant.proofs.StaysLaws.{absent_stays}
use Rattle.cert_picture.specs.Steps.{IsDecodedFrom, IsFound, StaysFound, sample_at}

-- ---- samples and predictions that agree within the block

abbrev AreSame : (ℕ → ℕ → ℕ) → (ℕ → ℕ → ℕ) → Type 0
AreSame s t = (y x : ℕ) → y < 8 → x < 8 → s y x ≡ t y x

pub found_like : (kind : Kind) (levels : List ℤ) (p q : ℕ → ℕ → ℤ) (s t : ℕ → ℕ → ℕ) → IsSameBlock p q → AreSame s t → IsFound kind levels p s → IsFound kind levels q t
found_like kind levels p q s t e f found v u hv hu =
    ap (nearest_level kind v u) (forward_of_same (λ y x. pos (t y x) -ℤ q y x) (λ y x. pos (s y x) -ℤ p y x)
    (λ y x a b. sym (ap₂ (λ (n : ℕ) (z : ℤ). pos n -ℤ z) (f y x a b) (e y x a b))) v u)
    ∙ found v u hv hu

pub from_like : (kind : Kind) (levels : List ℤ) (p q : ℕ → ℕ → ℤ) (s t : ℕ → ℕ → ℕ) → IsSameBlock p q → AreSame s t → IsDecodedFrom kind levels p s → IsDecodedFrom kind levels q t
from_like kind levels p q s t e f from = record {
  decoded = λ y x a b. sym (f y x a b) ∙ from.decoded y x a b ∙ ap (λ (z : ℤ). clipped (z +ℤ residual_at kind levels y x)) (e y x a b);
  predicted = λ y x a b. subst (λ (z : ℤ). (pos 0 ≤ℤ z) × (z ≤ℤ pos 255)) (e y x a b) (from.predicted y x a b);
  intra = λ i y x a b. sym (e y x a b) ∙ from.intra i y x a b;
  long = from.long;
  legal = from.legal;
  dc = from.dc;
}

pub stays_like : (kind : Kind) (levels : List ℤ) (s t : ℕ → ℕ → ℕ) → AreSame s t → StaysFound kind levels s → StaysFound kind levels t
stays_like kind levels s t f stays prediction from =
    found_like kind levels prediction prediction s t (λ y x a b. refl) f
    (stays prediction (from_like kind levels prediction prediction t s (λ y x a b. refl) (λ y x a b. sym (f y x a b)) from))

-- ---- absent blocks

are_zero : (kind : Kind) (levels : List ℤ) → is_absent kind levels ≡ true → list_all (λ z. nat_eq (unsigned_abs z) 0) levels ≡ true
are_zero kind levels h = by kind.intra refl h
  where
    by : (b : Bool) → kind.intra ≡ b → is_absent kind levels ≡ true → list_all (λ z. nat_eq (unsigned_abs z) 0) levels ≡ true
    by true e k = let never : false ≡ true = rw e at k in cc
    by false e k = rw e at k

zero_level : (levels : List ℤ) (k : ℕ) → list_all (λ z. nat_eq (unsigned_abs z) 0) levels ≡ true → k < length levels → item levels k ≡ pos 0
zero_level levels k all lt = by (nat_eq (unsigned_abs (item levels k)) 0) refl
  where
    by : (b : Bool) → nat_eq (unsigned_abs (item levels k)) 0 ≡ b → item levels k ≡ pos 0
    by true e = let none = eqb-true (unsigned_abs (item levels k)) 0 e in zero_of (item levels k) (omega (arith, none))
    by false e = absurd (let no : true ≡ false = sym all ∙ list_all_at (λ z. nat_eq (unsigned_abs z) 0) levels k (pos 0) lt e in cc)

pub absent_found : (kind : Kind) (levels : List ℤ) (sample : ℕ → ℕ → ℕ) → is_absent kind levels ≡ true → StaysFound kind levels sample
absent_found kind levels sample absent prediction from v u hv hu =
    absent_stays kind levels prediction sample absent from.predicted from.decoded v u
    ∙ sym (zero_level levels (8 * v + u) (are_zero kind levels absent) (let long = from.long in omega (arith, long, hv, hu)))

-- ---- the nearest levels

pub nearest_found : (kind : Kind) (samples : List ℕ) (prediction differences coefs nearest levels : List ℤ) (result : Bool)
    → ((y x : ℕ) → y < 8 → x < 8 → entry differences y x ≡ pos (sample_at samples y x) -ℤ entry prediction y x)
    → ((v u : ℕ) → v < 8 → u < 8 → entry coefs v u ≡ forward_at (entry differences) v u)
    → ((v u : ℕ) → v < 8 → u < 8 → entry nearest v u ≡ nearest_level kind v u (entry coefs v u))
    → length nearest ≡ 64 → length levels ≡ 64 → result ≡ pointwise int_eq nearest levels
    → IsTrue result ↔ IsFound kind levels (entry prediction) (sample_at samples)
nearest_found kind samples prediction differences coefs nearest levels result is_difference is_forward is_nearest long levels_long same = (to, from)
  where
    found : (v u : ℕ) → v < 8 → u < 8 → entry nearest v u ≡ found_level kind (entry prediction) (sample_at samples) v u
    found v u p q = is_nearest v u p q ∙ ap (nearest_level kind v u) (is_forward v u p q ∙ forward_of_same (entry differences) (λ y x. pos (sample_at samples y x) -ℤ entry prediction y x) is_difference v u)

    decides : Decides result (nearest ≡ levels)
    decides = slice_eq-Decides Decides-int_eq nearest levels result same

    to : IsTrue result → IsFound kind levels (entry prediction) (sample_at samples)
    to h v u p q = sym (found v u p q) ∙ ap (λ (l : List ℤ). entry l v u) (decides.0 h)

    at : IsFound kind levels (entry prediction) (sample_at samples) → (k : ℕ) → k < length nearest → get_or nearest k (pos 0) ≡ get_or levels k (pos 0)
    at h k lt =
        let e : 8 * (k / 8) + k % 8 ≡ k = omega arith in
        let here : entry nearest (k / 8) (k % 8) ≡ entry levels (k / 8) (k % 8) = found (k / 8) (k % 8) (omega (arith, lt, long)) (omega arith) ∙ h (k / 8) (k % 8) (omega (arith, lt, long)) (omega arith) in
        subst (λ (j : ℕ). get_or nearest j (pos 0) ≡ get_or levels j (pos 0)) e here

    from : IsFound kind levels (entry prediction) (sample_at samples) → IsTrue result
    from h = decides.1 (ext_get_or (pos 0) nearest levels (long ∙ sym levels_long) (at h))

pub close_found : (kind : Kind) (samples : List ℕ) (prediction differences coefs levels : List ℤ)
    → ((y x : ℕ) → y < 8 → x < 8 → entry differences y x ≡ pos (sample_at samples y x) -ℤ entry prediction y x)
    → ((v u : ℕ) → v < 8 → u < 8 → entry coefs v u ≡ forward_at (entry differences) v u)
    → ((v u : ℕ) → v < 8 → u < 8 → nearest_level kind v u (entry coefs v u) ≡ entry levels v u)
    → IsFound kind levels (entry prediction) (sample_at samples)
close_found kind samples prediction differences coefs levels is_difference is_forward is_level v u p q =
    sym (ap (nearest_level kind v u) (is_forward v u p q ∙ forward_of_same (entry differences) (λ y x. pos (sample_at samples y x) -ℤ entry prediction y x) is_difference v u))
    ∙ is_level v u p q

pub holds_samples : (prediction : List ℤ) → AreSamples (entry prediction) → HoldsSamples prediction
holds_samples prediction h k lt =
    let e : 8 * (k / 8) + k % 8 ≡ k = omega arith in
    subst (λ (j : ℕ). (pos 0 ≤ℤ item prediction j) × (item prediction j ≤ℤ pos 255)) e (h (k / 8) (k % 8) (omega (arith, lt)) (omega arith))
