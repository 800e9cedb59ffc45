-- Numbers are worth as much as contexts.
use Rattle.std.proofs.Common.{◌≡◌, ◌↔◌, ℕ, ◌^◌, ◌<◌, ◌∙◌, Bool, true, false, List, [], length, map, take, get_or, slice_get, Some, option_map, refl, sym, ap, ap₂, arith}
use Rattle.std.specs.Int.{from_le_bytes, w64}
use Rattle.std.specs.Bool.{Decides}
use Rattle.std.specs.Str.{bytes_eq}
use Rattle.std.proofs.lemmas.List.{get_or-map, length-map}
use Rattle.std.proofs.lemmas.Nat.{from_le_bytes-to_le_bytes_8}
use Rattle.std.proofs.lemmas.Option.{slice_get-map, slice_get_within, get_or_from_slice_get}
use Rattle.std.proofs.lemmas.Slice.Eq.{bytes_eq-Decides}
use Rattle.plan_window.specs.declared.summary.Summary.{Summary}
use Rattle.plan_window.specs.Plan.{ahead}
use Rattle.plan_numbers.specs.Numbered.{number_bytes, NumbersPlan}
use Rattle.plan_numbers.specs.Stands.{NumbersAgree}

-- no two numbers have the same bytes
same_number : (a b : ℕ) → a < 2 ^ 64 → b < 2 ^ 64 → number_bytes a ≡ number_bytes b → a ≡ b
same_number a b la lb e =
    sym (from_le_bytes-to_le_bytes_8 a la) ∙ (ap (λ (xs : List ℕ). from_le_bytes w64 (take 8 xs)) e ∙ from_le_bytes-to_le_bytes_8 b lb)

-- tests of facts that hold together
same_test : (p q a b : List ℕ) → (p ≡ q) ↔ (a ≡ b) → bytes_eq p q ≡ bytes_eq a b
same_test p q a b h = go (bytes_eq p q) (bytes_eq a b) (bytes_eq-Decides p q) (bytes_eq-Decides a b)
  where
    go : (x y : Bool) → Decides x (p ≡ q) → Decides y (a ≡ b) → x ≡ y
    go true true d e = refl
    go true false d e = sym (e.1 (h.0 (d.0 refl)))
    go false true d e = d.1 (h.1 (e.0 refl))
    go false false d e = refl

-- the same for the numbers with these counts
number_test : (p q : List ℕ) (a b : ℕ) → a < 2 ^ 64 → b < 2 ^ 64 → (p ≡ q) ↔ (a ≡ b) → bytes_eq p q ≡ bytes_eq (number_bytes a) (number_bytes b)
number_test p q a b la lb h = same_test p q (number_bytes a) (number_bytes b) (λ e. ap number_bytes (h.0 e), λ e. h.1 (same_number a b la lb e))

number_at : (numbers : List (List ℕ)) (counts : List ℕ) (i : ℕ) → numbers ≡ map number_bytes counts → i < length counts → get_or numbers i [] ≡ number_bytes (get_or counts i 0)
number_at numbers counts i e h = ap (λ (xs : List (List ℕ)). get_or xs i []) e ∙ get_or-map number_bytes counts i 0 [] h

pub numbers_agree : NumbersAgree
unfolding ahead
numbers_agree n contexts numbers stands = record {
  many = ap (λ (xs : List (List ℕ)). length xs) stands.numbers_are ∙ (length-map stands.counts number_bytes ∙ stands.counted.many);
  near = λ i j lt le l.
      let m = stands.counted.many in let few = stands.few in
      let si = stands.counted.small i (omega (arith, lt, l)) in let sj = stands.counted.small j l in
      number_test (get_or contexts i []) (get_or contexts j []) (get_or stands.counts i 0) (get_or stands.counts j 0) (omega (arith, si, lt, l, few)) (omega (arith, sj, l, few))
      (stands.counted.near i j lt le l)
      ∙ sym (ap₂ bytes_eq (number_at numbers stands.counts i stands.numbers_are (omega (arith, m, lt, l))) (number_at numbers stands.counts j stands.numbers_are (omega (arith, m, l))));
}

-- what stands in a list of summaries is the context of one
context_at : (frames : List Summary) (contexts : List (List ℕ)) (i : ℕ) (s : Summary) → map (λ (t : Summary). t.context) frames ≡ contexts → slice_get frames i ≡ Some s
    → get_or contexts i [] ≡ s.context
context_at frames contexts i s e h =
    get_or_from_slice_get contexts i s.context [] (ap (λ (xs : List (List ℕ)). slice_get xs i) (sym e)
    ∙ (slice_get-map (λ (t : Summary). t.context) frames i ∙ ap (option_map (λ (t : Summary). t.context)) h))

pub numbers_plan : NumbersPlan
numbers_plan frames numbered contexts numbers agree rest contexts_are numbers_are = record {
  rest = rest;
  contexts = λ i j a b c d lt le at_i at_j is_i is_j.
      let w = slice_get_within frames j b at_j in
      let e = ap (λ (xs : List (List ℕ)). length xs) (sym contexts_are) ∙ length-map frames (λ (t : Summary). t.context) in
      sym (ap₂ bytes_eq (context_at frames contexts i a contexts_are at_i) (context_at frames contexts j b contexts_are at_j))
      ∙ (agree.near i j lt le (omega (arith, w, e))
      ∙ ap₂ bytes_eq (context_at numbered numbers i c numbers_are is_i) (context_at numbered numbers j d numbers_are is_j));
}
