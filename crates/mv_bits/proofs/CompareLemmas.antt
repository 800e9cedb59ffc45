-- The steps of a comparison.
use Rattle.std.proofs.Common.{◌≡◌, ◌≢◌, ℕ, zero, suc, ◌-◌, ◌<◌, Bool, true, false, not, eqb, List, [], ◌∷◌, ◌++◌, length, get_or, take, drop, refl, sym, ap, ◌∙◌, subst, arith, append_assoc, ◌↔◌}
use Rattle.std.proofs.lemmas.Bool.Decides.{nat_tests}
use Rattle.std.proofs.lemmas.List.{append-nil, take_all}
use Rattle.mv_bits.specs.Zeros.{zero_bytes}
use Rattle.mv_bits.specs.Receivers.{HasPut, TakesAnything, Compared, compared, Matches, Comparison, Awaits, Compares}

abbrev comparison : Bool → List ℕ → ℕ → Comparison
comparison agrees rest zeros = record { agrees = agrees; left = compared rest zeros }

-- behind this byte the old comparison awaits what the new one awaits
abbrev Follows : Comparison → ℕ → Comparison → Type 0
Follows old b new = (more : List ℕ) → Awaits old (b ∷ more) ↔ Awaits new more

has_put : (old new : Comparison) (b : ℕ) → Follows old b new → HasPut Compares old new (b ∷ [])
has_put old new b follows kind before stands more =
    let same = append_assoc before (b ∷ []) more in
    let here = stands (b ∷ more) in
    ((λ m. (follows more).0 (here.0 (subst (Matches kind) same m))), (λ a. subst (Matches kind) (sym same) (here.1 ((follows more).1 a))))

is_zero : (n : ℕ) → eqb n 0 ≡ true → n ≡ 0
is_zero n e = grind (arith, nat_tests)

is_same : (a b : ℕ) → eqb a b ≡ true → a ≡ b
is_same a b e = grind (arith, nat_tests)

is_other : (a b : ℕ) → eqb a b ≡ false → a ≢ b
is_other a b e = grind (arith, nat_tests)

is_not_zero : (n : ℕ) → eqb n 0 ≡ false → n ≢ 0
is_not_zero n e = grind (arith, nat_tests)

heads_same : (a b : ℕ) (xs ys : List ℕ) → a ∷ xs ≡ b ∷ ys → a ≡ b
heads_same a b xs ys e = cc

tails_same : (a b : ℕ) (xs ys : List ℕ) → a ∷ xs ≡ b ∷ ys → xs ≡ ys
tails_same a b xs ys e = cc

some_zero : (b : ℕ) (more : List ℕ) (n : ℕ) → b ∷ more ≡ zero_bytes n → (b ≡ 0) × (0 < n) × (more ≡ zero_bytes (n - 1))
some_zero b more zero e = absurd cc
some_zero b more (suc n) e = let less : suc n - 1 ≡ n = omega arith in (heads_same _ _ _ _ e, omega arith, tails_same _ _ _ _ e ∙ ap zero_bytes (sym less))

follows_byte : (b z : ℕ) (rest : List ℕ) → Follows (comparison true (b ∷ rest) z) b (comparison true rest z)
follows_byte b z rest more =
    ((λ (t, (n, few, same)). (t, (n, few, tails_same _ _ _ _ same))), (λ (t, (n, few, same)). (t, (n, few, ap (λ (xs : List ℕ). b ∷ xs) same))))

follows_other : (b r z : ℕ) (rest : List ℕ) → r ≢ b → Follows (comparison true (r ∷ rest) z) b (comparison false rest z)
follows_other b r z rest other more = ((λ (t, (n, few, same)). absurd (other (sym (heads_same _ _ _ _ same)))), (λ a. absurd (let f : false ≡ true = a.0 in cc)))

follows_zero : (z : ℕ) → 0 < z → Follows (comparison true [] z) 0 (comparison true [] (z - 1))
follows_zero z some more = (
  (λ (t, (n, few, same)). let s = some_zero 0 more n same in (t, (n - 1, omega (arith, few), s.2))),
  (λ (t, (n, few, same)). (t, (suc n, omega (arith, few, some), ap (λ (xs : List ℕ). 0 ∷ xs) same))),
)

follows_end : (b z : ℕ) → (b ≡ 0 → 0 < z → ⊥) → Follows (comparison true [] z) b (comparison false [] z)
follows_end b z none more =
    ((λ (t, (n, few, same)). let s = some_zero b more n same in absurd (none s.0 (omega (arith, few, s.1)))), (λ a. absurd (let f : false ≡ true = a.0 in cc)))

follows_none : (b z : ℕ) (rest : List ℕ) → Follows (comparison false rest z) b (comparison false rest z)
follows_none b z rest more = ((λ a. absurd (let f : false ≡ true = a.0 in cc)), (λ a. absurd (let f : false ≡ true = a.0 in cc)))

-- the same in the code's terms: `now` is a comparison that has these fields
module _ (agrees : Bool) (rest : List ℕ) (z : ℕ) (now : Comparison) (view : comparison agrees rest z ≡ now) (b : ℕ) where
  from_true : agrees ≡ true → (new : Comparison) → Follows (comparison true rest z) b new → HasPut Compares now new (b ∷ [])
  from_true t new follows = subst (λ (c : Comparison). HasPut Compares c new (b ∷ [])) (ap (λ (a : Bool). comparison a rest z) (sym t) ∙ view) (has_put _ new b follows)

  tail_whole : (xs : List ℕ) → take (length xs - 1) (drop 1 xs) ≡ drop 1 xs
  tail_whole [] = refl
  tail_whole (x ∷ xs) = take_all (length (x ∷ xs) - 1) xs (omega arith)

  some_byte : (xs : List ℕ) → length xs ≢ 0 → xs ≡ get_or xs 0 0 ∷ drop 1 xs
  some_byte [] some = absurd (some refl)
  some_byte (x ∷ xs) some = refl

  no_byte : (xs : List ℕ) → length xs ≡ 0 → xs ≡ []
  no_byte [] none = refl
  no_byte (x ∷ xs) none = absurd (omega (arith, none))

  puts_byte : agrees ≡ true → length rest ≢ 0 → get_or rest 0 0 ≡ b → HasPut Compares now (comparison true (drop 1 rest) z) (b ∷ [])
  puts_byte t some same =
      let split : rest ≡ b ∷ drop 1 rest = some_byte rest some ∙ ap (λ (x : ℕ). x ∷ drop 1 rest) same in
      from_true t _ (subst (λ (xs : List ℕ). Follows (comparison true xs z) b (comparison true (drop 1 rest) z)) (sym split) (follows_byte b z (drop 1 rest)))

  puts_other : agrees ≡ true → length rest ≢ 0 → get_or rest 0 0 ≢ b → HasPut Compares now (comparison false (drop 1 rest) z) (b ∷ [])
  puts_other t some other =
      from_true t _ (subst (λ (xs : List ℕ). Follows (comparison true xs z) b (comparison false (drop 1 rest) z)) (sym (some_byte rest some)) (follows_other b (get_or rest 0 0) z (drop 1 rest) other))

  pub puts_next : agrees ≡ true → false ≡ eqb (length rest) 0 → HasPut Compares now (comparison (eqb (get_or rest 0 0) b) (take (length rest - 1) (drop 1 rest)) z) (b ∷ [])
  puts_next t there =
      subst (λ (xs : List ℕ). HasPut Compares now (comparison (eqb (get_or rest 0 0) b) xs z) (b ∷ [])) (sym (tail_whole rest)) (go (eqb (get_or rest 0 0) b) refl)
    where
      some : length rest ≢ 0
      some = is_not_zero (length rest) (sym there)

      go : (same : Bool) → eqb (get_or rest 0 0) b ≡ same → HasPut Compares now (comparison same (drop 1 rest) z) (b ∷ [])
      go true e = puts_byte t some (is_same _ _ e)
      go false e = puts_other t some (is_other _ _ e)

  pub puts_zero : agrees ≡ true → true ≡ eqb (length rest) 0 → b ≡ 0 → 0 < z → HasPut Compares now (comparison agrees rest (z - 1)) (b ∷ [])
  puts_zero t none is some =
      let follows = subst (λ (y : ℕ). Follows (comparison true [] z) y (comparison true [] (z - 1))) (sym is) (follows_zero z some) in
      subst (λ (a : Bool). HasPut Compares now (comparison a rest (z - 1)) (b ∷ [])) (sym t)
      (from_true t _ (subst (λ (xs : List ℕ). Follows (comparison true xs z) b (comparison true xs (z - 1))) (sym (no_byte rest (is_zero (length rest) (sym none)))) follows))

  pub puts_end : agrees ≡ true → true ≡ eqb (length rest) 0 → (b ≡ 0 → 0 < z → ⊥) → HasPut Compares now (comparison false rest z) (b ∷ [])
  puts_end t none never =
      from_true t _ (subst (λ (xs : List ℕ). Follows (comparison true xs z) b (comparison false xs z)) (sym (no_byte rest (is_zero (length rest) (sym none)))) (follows_end b z never))

  pub puts_none : agrees ≡ false → HasPut Compares now now (b ∷ [])
  puts_none f =
      subst (λ (c : Comparison). HasPut Compares c c (b ∷ [])) (ap (λ (a : Bool). comparison a rest z) (sym f) ∙ view) (has_put _ _ b (follows_none b z rest))

-- what is equal is what awaits nothing more
equal_now : (with_these : Compared) (now : Comparison) (put : List ℕ) → Compares now with_these put → Matches with_these put ↔ Awaits now []
equal_now with_these now put stands =
    let same = append-nil put in
    let here = stands [] in
    ((λ m. here.0 (subst (Matches with_these) (sym same) m)), (λ a. subst (Matches with_these) same (here.1 a)))

awaits_none : (agrees : Bool) (rest : List ℕ) (z : ℕ) → Awaits (comparison agrees rest z) [] ↔ ((agrees ≡ true) × (rest ≡ []))
awaits_none agrees [] z = ((λ a. (a.0, refl)), (λ p. (p.0, (0, omega arith, refl))))
awaits_none agrees (r ∷ rest) z = ((λ (t, (n, few, same)). absurd cc), (λ p. absurd (let e : r ∷ rest ≡ [] = p.1 in cc)))

equal_is : (agrees : Bool) (rest : List ℕ) (z : ℕ) (now : Comparison) → comparison agrees rest z ≡ now → (with_these : Compared) (put : List ℕ) → Compares now with_these put → ((agrees ≡ true) × (rest ≡ [])) ↔ Matches with_these put
equal_is agrees rest z now view with_these put stands =
    let e = equal_now with_these now put stands in
    let a = awaits_none agrees rest z in
    ((λ p. e.1 (subst (λ (c : Comparison). Awaits c []) view (a.1 p))), (λ m. a.0 (subst (λ (c : Comparison). Awaits c []) (sym view) (e.0 m))))

no_byte_left : (rest : List ℕ) → rest ≡ [] → eqb (length rest) 0 ≡ true
no_byte_left rest e = rw e refl

none_left : (rest : List ℕ) → eqb (length rest) 0 ≡ true → rest ≡ []
none_left [] e = refl
none_left (r ∷ rest) e = absurd (let n = is_zero (length (r ∷ rest)) e in omega (arith, n))

module _ (agrees is_empty : Bool) (rest : List ℕ) (z : ℕ) (now : Comparison) (view : comparison agrees rest z ≡ now) where
  pub equal_then : agrees ≡ true → is_empty ≡ eqb (length rest) 0 → (with_these : Compared) (put : List ℕ) → Compares now with_these put → (is_empty ≡ true) ↔ Matches with_these put
  equal_then t e with_these put stands =
      let is = equal_is agrees rest z now view with_these put stands in
      ((λ y. is.0 (t, none_left rest (sym e ∙ y))), (λ m. e ∙ no_byte_left rest (is.1 m).1))

  pub equal_else : agrees ≡ false → (with_these : Compared) (put : List ℕ) → Compares now with_these put → (agrees ≡ true) ↔ Matches with_these put
  equal_else f with_these put stands =
      let is = equal_is agrees rest z now view with_these put stands in
      ((λ t. absurd (let e : false ≡ true = sym f ∙ t in cc)), (λ m. (is.1 m).0))

-- where a byte differed nothing is awaited, whatever comes
module _ (agrees : Bool) (rest : List ℕ) (z : ℕ) (now : Comparison) (view : comparison agrees rest z ≡ now) where
  awaits_nothing : not agrees ≡ true → (more : List ℕ) → Awaits now more → ⊥
  awaits_nothing f more a = let t : now.agrees ≡ true = a.0 in differed agrees (ap (λ (c : Comparison). c.agrees) view ∙ t) f
    where
      differed : (b : Bool) → b ≡ true → not b ≡ true → ⊥
      differed true e n = let f : false ≡ true = n in cc
      differed false e n = cc

  pub takes_anything : not agrees ≡ true → TakesAnything Compares now
  takes_anything f bytes kind before stands more =
      let same = append_assoc before bytes more in
      ((λ m. absurd (awaits_nothing f (bytes ++ more) ((stands (bytes ++ more)).0 (subst (Matches kind) same m)))), (λ a. absurd (awaits_nothing f more a)))
