-- From look-up tables to the code that begins the bits.
use Rattle.std.proofs.Common.{◌≡◌, ℕ, zero, suc, ◌+◌, ◌-◌, ◌*◌, ◌/◌, ◌^◌, ◌<◌, ◌≤◌, Bool, true, false, leb, ltb, eqb, not, ◌&&◌, ◌||◌, List, [], ◌∷◌, length, get_or, drop, refl, sym, ap, ◌∙◌, subst, arith, inl, inr, ◌⊎◌, zero-add, le-leb, lt-ltb, eq-eqb}
use Rattle.std.proofs.lemmas.Bool.{and_parts, cases_Bool, eqb-true, leb-true, ltb-true, ne_eqb}
use Rattle.std.proofs.lemmas.List.{get_or_default}
use Rattle.std.specs.List.{list_all, AllByRecursion}
use Rattle.std.proofs.lemmas.List.Elements.{All-from_recursion}
use Rattle.mv_bits.specs.Bits.{front}
use Rattle.mv_bits.proofs.BitLaws.{front_lt, front-add}
use Rattle.mv_codes.specs.declared.code.Code.{Code}
use Rattle.mv_codes.specs.Tables.{Begins, NoneBegins}
use Rattle.mv_codes.proofs.TableLaws.{front_shorter}
use Rattle.mv_codes.specs.LookUp.{leads, row_leads, is_row, are_rows, has_words, find_all, entry, long_entry, LooksUp}

or_true : (a b : Bool) → (a || b) ≡ true → (a ≡ true) ⊎ (b ≡ true)
or_true true b e = inl refl
or_true false b e = inr e

not_both : (a b : Bool) → not (a && b) ≡ true → a ≡ true → b ≡ true → ⊥
not_both true true e f g = cc
not_both true false e f g = cc
not_both false b e f g = cc

module _ {M : Type 0} where
  leads_begins : (width : ℕ) (c : Code M) (bits : List Bool) → leads width (front width bits) c ≡ true → Begins c bits
  leads_begins width c bits e =
      let both = and_parts _ _ e in
      sym (front_shorter c.size width bits (leb-true c.size width both.0)) ∙ eqb-true _ _ both.1

  begins_leads : (width : ℕ) (c : Code M) (bits : List Bool) → not (leads width (front width bits) c) ≡ true → c.size ≤ width → Begins c bits → ⊥
  begins_leads width c bits e small b = not_both _ _ e (le-leb _ _ small) (eq-eqb _ _ (front_shorter c.size width bits small ∙ b))

  -- the code in a row that leads
  row_code : (width word : ℕ) (codes : List (Code M)) (row : ℕ) → row_leads width word codes row ≡ true → (c : Code M) × (row < length codes) × (get_or codes row c ≡ c) × (leads width word c ≡ true)
  row_code width word [] row e = absurd cc
  row_code width word (c ∷ cs) zero e = (c, omega arith, refl, e)
  row_code width word (c ∷ cs) (suc row) e = let r = row_code width word cs row e in (r.0, omega (arith, r.1), r.2, r.3)

  row_at : (width word : ℕ) (codes : List (Code M)) (rows : List ℕ) (k : ℕ) → are_rows width codes word rows ≡ true → k < length rows → is_row width codes (word + k) (get_or rows k 0) ≡ true
  unfolding are_rows
  row_at width word codes [] k e lt = absurd (omega arith)
  row_at width word codes (row ∷ rows) zero e lt = let z : word + 0 ≡ word = omega arith in rw z (and_parts _ _ e).0
  row_at width word codes (row ∷ rows) (suc k) e lt =
      let z : word + suc k ≡ suc word + k = omega arith in
      rw z (row_at width (suc word) codes rows k (and_parts _ _ e).1 (omega arith))

  -- the first bits are among the words that begin with a code that begins them
  word_in : (width first count : ℕ) (c : Code M) (bits : List Bool) → has_words width first count c ≡ true → Begins c bits → (first ≤ front width bits) × (front width bits < first + count)
  word_in width first count c bits words b =
      let size = and_parts _ _ words in
      let ends = and_parts _ _ size.1 in
      let le = leb-true c.size width size.0 in
      let low = leb-true first (c.value * 2 ^ (width - c.size)) ends.0 in
      let high = leb-true (c.value * 2 ^ (width - c.size) + 2 ^ (width - c.size)) (first + count) ends.1 in
      let e : width ≡ c.size + (width - c.size) = omega arith in
      let split : front width bits ≡ front c.size bits * 2 ^ (width - c.size) + front (width - c.size) (drop c.size bits) =
      ap (λ k. front k bits) e ∙ front-add c.size (width - c.size) bits in
      let split' : front width bits ≡ c.value * 2 ^ (width - c.size) + front (width - c.size) (drop c.size bits) = rw b at split in
      let small = front_lt (width - c.size) (drop c.size bits) in
      (omega (arith, low, split'), omega (arith, high, split', small))

  module _ (width first count : ℕ) (bits : List Bool) where
    abbrev Short : List (Code M) → Type 0
    Short codes = list_all (λ (c : Code M). not (leads 8 (front 8 bits) c)) codes ≡ true

    abbrev Found : List (Code M) → Type 0
    Found codes = list_all (λ (c : Code M). leb c.size 8 || has_words width first count c) codes ≡ true

    -- no code begins the bits where both tables have an entry of none
    none_in : (codes : List (Code M)) → Short codes → Found codes → list_all (λ (c : Code M). not (leads width (front width bits) c)) codes ≡ true → AllByRecursion (λ (c : Code M). Begins c bits → ⊥) codes
    none_in [] s f l = tt
    none_in (c ∷ cs) s f l =
        let ss = and_parts _ _ s in
        let ff = and_parts _ _ f in
        let ll = and_parts _ _ l in (
          elim (or_true _ _ ff.0) [
            | inl small ↦ begins_leads 8 c bits ss.0 (leb-true c.size 8 small)
            | inr words ↦ begins_leads width c bits ll.0 (leb-true c.size width (and_parts _ _ words).0)
          ],
          none_in cs ss.1 ff.1 ll.1,
        )

    -- and where the long one has no entry
    none_out : (codes : List (Code M)) → Short codes → Found codes → ((first ≤ front width bits) × (front width bits < first + count) → ⊥) → AllByRecursion (λ (c : Code M). Begins c bits → ⊥) codes
    none_out [] s f out = tt
    none_out (c ∷ cs) s f out =
        let ss = and_parts _ _ s in
        let ff = and_parts _ _ f in (
          elim (or_true _ _ ff.0) [
            | inl small ↦ begins_leads 8 c bits ss.0 (leb-true c.size 8 small)
            | inr words ↦ λ b. out (word_in width first count c bits words b)
          ],
          none_out cs ss.1 ff.1 out,
        )

  abbrev Named : List (Code M) → List Bool → ℕ → Type 0
  Named codes bits row =
      ((c : Code M) × (row < length codes) × (get_or codes row c ≡ c) × Begins c bits) ⊎ ((row ≡ 255) × NoneBegins codes bits)

  -- the long table, where the short one has no entry
  long_named : (codes : List (Code M)) (width first : ℕ) (long : List ℕ) (bits : List Bool) → width ≤ 16 → are_rows width codes first long ≡ true
      → list_all (λ (c : Code M). not (leads 8 (front 8 bits) c)) codes ≡ true
      → list_all (λ (c : Code M). leb c.size 8 || has_words width first (length long) c) codes ≡ true
      → Named codes bits (long_entry width first long (front 16 bits))
  unfolding long_entry
  long_named codes width first long bits fits rows short found =
      let word_is : front 16 bits / 2 ^ (16 - width) ≡ front width bits = front_shorter width 16 bits fits in
      let w = front width bits in
      let none : Code M → Type 0 = λ c. Begins c bits → ⊥ in
      elim (cases_Bool (leb first w && ltb (w - first) (length long))) [
        | inl inside ↦
            let both = and_parts _ _ inside in
            let le = leb-true first w both.0 in
            let sum : first + (w - first) ≡ w = omega arith in
            let here : is_row width codes w (get_or long (w - first) 0) ≡ true =
            rw sum at (row_at width first codes long (w - first) rows (ltb-true _ _ both.1)) in
            rw (word_is, inside) (
            elim (or_true _ _ here) [
              | inl r ↦ let c = row_code width w codes (get_or long (w - first) 0) r in inl (c.0, c.1, c.2, leads_begins width c.0 bits c.3)
              | inr n ↦ let one = and_parts _ _ n in inr (eqb-true _ _ one.0, All-from_recursion none codes (none_in width first (length long) bits codes short found one.1))
            ])
        | inr outside ↦
            let out : (first ≤ w) × (w < first + length long) → ⊥ = λ h.
            let low : leb first w ≡ true = le-leb first w h.0 in
            let high : ltb (w - first) (length long) ≡ true = lt-ltb (w - first) (length long) (let a = h.0 in let b = h.1 in omega (arith, a, b)) in
            let never : true ≡ false = sym (rw (low, high) refl) ∙ outside in cc in
            rw (word_is, outside) (inr (refl, All-from_recursion none codes (none_out width first (length long) bits codes short found out)))
      ]

  pub looks_up : (codes : List (Code M)) (short : List ℕ) (width first : ℕ) (long : List ℕ) → length codes ≤ 255 → length short ≡ 256 → find_all codes short width first long ≡ true → LooksUp codes short width first long
  unfolding find_all entry
  looks_up codes short width first long few whole are bits =
      let fits = and_parts _ _ are in
      let first_table = and_parts _ _ fits.1 in
      let others = and_parts _ _ first_table.1 in
      let k = front 8 bits in
      let byte_is : front 16 bits / 256 ≡ k = front_shorter 8 16 bits (omega arith) in
      let small : k < 256 = front_lt 8 bits in
      let inside : k < length short = omega (arith, small, whole) in
      let here : is_row 8 codes k (get_or short k 0) ≡ true = rw (zero-add k) at (row_at 8 0 codes short k first_table.0 inside) in
      elim (or_true _ _ here) [
        | inl r ↦
            let c = row_code 8 k codes (get_or short k 0) r in
            let row_below = c.1 in
            let other : eqb (get_or short k 0) 255 ≡ false = ne_eqb (get_or short k 0) 255 (λ e. omega (arith, e, row_below, few)) in
            rw (byte_is, other) (inl (c.0, c.1, c.2, leads_begins 8 c.0 bits c.3))
        | inr n ↦
            let one = and_parts _ _ n in
            let empty : eqb (get_or short k 0) 255 ≡ true = one.0 in
            rw (byte_is, empty) (long_named codes width first long bits (leb-true width 16 fits.0) others.0 one.1 others.1)
      ]

  -- what the tables name, for the function that looks up
  pub row_begins : (codes : List (Code M)) (short : List ℕ) (width first : ℕ) (long : List ℕ) (bits : List Bool) (n row : ℕ) (c : Code M) → length codes ≤ 255 → length short ≡ 256 → find_all codes short width first long ≡ true
      → n ≡ front 16 bits → row ≡ entry short width first long n → row < length codes → c ≡ get_or codes row c → Begins c bits
  row_begins codes short width first long bits n row c few whole are is named below at =
      let same_row : entry short width first long (front 16 bits) ≡ row = ap (λ k. entry short width first long k) (sym is) ∙ sym named in
      elim (looks_up codes short width first long few whole are bits) [
        | inl s ↦
            let there : get_or codes row s.0 ≡ s.0 = rw same_row at s.2 in
            subst (λ (x : Code M). Begins x bits) (sym there ∙ get_or_default codes row s.0 c below ∙ sym at) s.3
        | inr none ↦ absurd (let past = none.0 in omega (arith, past, same_row, below, few))
      ]

  pub row_none : (codes : List (Code M)) (short : List ℕ) (width first : ℕ) (long : List ℕ) (bits : List Bool) (n row : ℕ) → length codes ≤ 255 → length short ≡ 256 → find_all codes short width first long ≡ true
      → n ≡ front 16 bits → row ≡ entry short width first long n → length codes ≤ row → NoneBegins codes bits
  row_none codes short width first long bits n row few whole are is named past =
      let same_row : entry short width first long (front 16 bits) ≡ row = ap (λ k. entry short width first long k) (sym is) ∙ sym named in
      elim (looks_up codes short width first long few whole are bits) [
        | inl s ↦ absurd (let below = s.1 in omega (arith, below, same_row, past))
        | inr none ↦ none.1
      ]

  pub width_fits : (codes : List (Code M)) (short : List ℕ) (width first : ℕ) (long : List ℕ) → find_all codes short width first long ≡ true → width ≤ 16
  unfolding find_all
  width_fits codes short width first long are = leb-true width 16 (and_parts _ _ are).0
