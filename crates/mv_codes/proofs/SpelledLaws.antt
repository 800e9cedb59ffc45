-- A table's code of a meaning is a spelling of it.
use Rattle.std.proofs.Common.{◌≡◌, ℕ, zero, suc, ◌^◌, ◌<◌, ◌≤◌, Bool, true, false, ◌||◌, ◌&&◌, not, cond, leb, ltb, inl, inr, List, [], ◌∷◌, ◌++◌, length, get_or, refl, ap, sym, ◌∙◌, arith}
use Rattle.std.proofs.lemmas.Bool.{cases_lt}
use Rattle.std.proofs.lemmas.Bool.Decides.{nat_tests}
use Rattle.std.specs.List.{Contains, list_all}
use Rattle.mv_bits.specs.Bits.{digits, trim}
use Rattle.mv_bits.proofs.TrimLaws.{front-trim, drop-trim}
use Rattle.mv_codes.specs.declared.code.Code.{Code}
use Rattle.mv_codes.specs.Tables.{IsSpelling, Spells, is_sized}
use Rattle.mv_codes.specs.Spelled.{has_code, code_or, code_of, IsWritten}
use Rattle.mv_codes.specs.Steps.{HoldsCode}
use Rattle.mv_codes.proofs.TableLaws.{Spells-written}

pub and_true : (a b : Bool) → (a && b) ≡ true → (a ≡ true) × (b ≡ true)
and_true true b e = (refl, e)
and_true false b e = cc

-- where the table has the meaning, the code is its spelling
pub code_spells : {M : Type 0} (is : M → Bool) (otherwise : List Bool) (table : List (Code M)) (v : M) → ((m : M) → is m ≡ true → m ≡ v) → has_code is table ≡ true → IsSpelling table v (code_or otherwise is table)
code_spells is otherwise [] v one h = absurd (let e : false ≡ true = h in cc)
code_spells {M} is otherwise (c ∷ cs) v one h = go (is c.meaning) refl h (code_spells is otherwise cs v one)
  where
    go : (t : Bool) → is c.meaning ≡ t → (t || has_code is cs) ≡ true → (has_code is cs ≡ true → IsSpelling cs v (code_or otherwise is cs)) → IsSpelling (c ∷ cs) v (cond t (digits c.size c.value) (code_or otherwise is cs))
    go true e h later = record { code = c; among = (0, omega arith, refl); means = one c.meaning e; bits_are = refl }
    go false e h later = let s = later h in record { code = s.code; among = (suc s.among.0, omega (arith, s.among.1), s.among.2); means = s.means; bits_are = s.bits_are }

-- where it hasn't, it is the other bits
pub code_otherwise : {M : Type 0} (is : M → Bool) (otherwise : List Bool) (table : List (Code M)) → has_code is table ≡ false → code_or otherwise is table ≡ otherwise
code_otherwise is otherwise [] h = refl
code_otherwise {M} is otherwise (c ∷ cs) h = go (is c.meaning) h (code_otherwise is otherwise cs)
  where
    go : (t : Bool) → (t || has_code is cs) ≡ false → (has_code is cs ≡ false → code_or otherwise is cs ≡ otherwise) → cond t (digits c.size c.value) (code_or otherwise is cs) ≡ otherwise
    go true h later = absurd (let e : true ≡ false = h in cc)
    go false h later = later h

-- where it has, the other bits say nothing
pub code_whatever : {M : Type 0} (is : M → Bool) (xs ys : List Bool) (table : List (Code M)) → has_code is table ≡ true → code_or xs is table ≡ code_or ys is table
code_whatever is xs ys [] h = absurd (let e : false ≡ true = h in cc)
code_whatever {M} is xs ys (c ∷ cs) h = go (is c.meaning) h (code_whatever is xs ys cs)
  where
    go : (t : Bool) → (t || has_code is cs) ≡ true → (has_code is cs ≡ true → code_or xs is cs ≡ code_or ys is cs) → cond t (digits c.size c.value) (code_or xs is cs) ≡ cond t (digits c.size c.value) (code_or ys is cs)
    go true h later = refl
    go false h later = later h

-- what holds of each meaning of the table holds of one that it has
pub has_test : {M : Type 0} (is test : M → Bool) (table : List (Code M)) (v : M) → ((m : M) → is m ≡ true → m ≡ v) → list_all (λ (c : Code M). test c.meaning) table ≡ true → has_code is table ≡ true → test v ≡ true
has_test is test [] v one all h = absurd (let e : false ≡ true = h in cc)
has_test {M} is test (c ∷ cs) v one all h = go (is c.meaning) refl h (has_test is test cs v one (and_true _ _ all).1)
  where
    go : (t : Bool) → is c.meaning ≡ t → (t || has_code is cs) ≡ true → (has_code is cs ≡ true → test v ≡ true) → test v ≡ true
    go true e h later = rw (← one c.meaning e) (and_true _ _ all).0
    go false e h later = later h

or_right : (a b : Bool) → b ≡ true → (a || b) ≡ true
or_right true b e = refl
or_right false b e = e

-- a row's meaning has a code
pub row_has : {M : Type 0} (is : M → Bool) (table : List (Code M)) (c : Code M) (i : ℕ) → is c.meaning ≡ true → i < length table → get_or table i c ≡ c → has_code is table ≡ true
row_has is [] c i e h same = absurd (omega arith)
row_has is (x ∷ xs) c zero e h same = let here : is x.meaning ≡ true = rw same e in rw here refl
row_has is (x ∷ xs) c (suc i) e h same = or_right (is x.meaning) (has_code is xs) (row_has is xs c i e (omega arith) same)

-- the law of one table: its codes fit their sizes, and the test says what is the same
pub is_written : {M : Type 0} (same : M → M → Bool) (table : List (Code M)) → list_all is_sized table ≡ true → ((v m : M) → same v m ≡ true → m ≡ v) → ((v : M) → same v v ≡ true) → IsWritten same table
is_written {M} same table sized one each = (rows, back)
  where
    rows : (c : Code M) → Contains table c → has_code (same c.meaning) table ≡ true
    rows c h = row_has (same c.meaning) table c h.0 (each c.meaning) h.1 h.2

    back : (v : M) → has_code (same v) table ≡ true → (rest : List Bool) → Spells table (trim (code_of (same v) table ++ rest)) v (trim rest)
    back v h rest =
        let s = code_spells (same v) [] table v (one v) h in
        let w = Spells-written table v (code_of (same v) table) rest sized s in
        record {
          code = w.code;
          among = w.among;
          begins = front-trim w.code.size (code_of (same v) table ++ rest) ∙ w.begins;
          means = w.means;
          behind = ap trim w.behind ∙ sym (drop-trim w.code.size (code_of (same v) table ++ rest));
        }

-- ---- codes in lists

abbrev pub same_bits : List Bool → List Bool → Bool
same_bits [] [] = true
same_bits [] (b ∷ bs) = false
same_bits (a ∷ xs) [] = false
same_bits (true ∷ xs) (b ∷ bs) = b && same_bits xs bs
same_bits (false ∷ xs) (b ∷ bs) = not b && same_bits xs bs

not_true : (b : Bool) → not b ≡ true → b ≡ false
not_true true e = cc
not_true false e = refl

bits_same : (xs ys : List Bool) → same_bits xs ys ≡ true → xs ≡ ys
bits_same [] [] e = refl
bits_same [] (b ∷ bs) e = cc
bits_same (a ∷ xs) [] e = cc
bits_same (true ∷ xs) (b ∷ bs) e = let both = and_true b (same_bits xs bs) e in let t = both.0 in let r = bits_same xs bs both.1 in rw (t, r) refl
bits_same (false ∷ xs) (b ∷ bs) e = let both = and_true (not b) (same_bits xs bs) e in let t = not_true b both.0 in let r = bits_same xs bs both.1 in rw (t, r) refl

abbrev pub holds : List ℕ → List ℕ → ℕ → Bool
holds values sizes at = ltb at (length values) && (ltb at (length sizes) && (leb (get_or sizes at 0) 31 && ltb (get_or values at 0) (2 ^ get_or sizes at 0)))

-- these bits stand at this place
abbrev pub is_at : List ℕ → List ℕ → List Bool → ℕ → Bool
is_at values sizes bits at = same_bits (digits (get_or sizes at 0) (get_or values at 0)) bits && holds values sizes at

below : (a b : ℕ) → ltb a b ≡ true → a < b
below a b e = grind (arith, nat_tests)

at_most : (a b : ℕ) → leb a b ≡ true → a ≤ b
at_most a b e = grind (arith, nat_tests)

pub holds_code : (values sizes : List ℕ) (at : ℕ) → holds values sizes at ≡ true → HoldsCode values sizes at
holds_code values sizes at e =
    let a = and_true _ _ e in
    let b = and_true _ _ a.1 in
    let c = and_true _ _ b.1 in
    record { in_values = below _ _ a.0; in_sizes = below _ _ b.0; few = at_most _ _ c.0; fits = below _ _ c.1 }

abbrev pub IsAt : List ℕ → List ℕ → List Bool → ℕ → Type 0
IsAt values sizes bits at = (digits (get_or sizes at 0) (get_or values at 0) ≡ bits) × HoldsCode values sizes at

pub code_at : (values sizes : List ℕ) (bits : List Bool) (at : ℕ) → is_at values sizes bits at ≡ true → IsAt values sizes bits at
code_at values sizes bits at e = let a = and_true _ _ e in (bits_same _ _ a.0, holds_code values sizes at a.1)

-- ---- tests of all numbers below a bound, and of both flags

abbrev pub all_below : (ℕ → Bool) → ℕ → Bool
all_below test zero = true
all_below test (suc n) = test n && all_below test n

pub each_below : (test : ℕ → Bool) (n k : ℕ) → all_below test n ≡ true → k < n → test k ≡ true
each_below test zero k e h = absurd (omega arith)
each_below test (suc n) k e h =
    let both = and_true (test n) (all_below test n) e in
    elim (cases_lt k n) [
      | inl l ↦ each_below test n k both.1 l
      | inr g ↦ let same : k ≡ n = omega arith in rw same both.0
    ]

abbrev pub both_ways : (Bool → Bool) → Bool
both_ways test = test true && test false

pub each_way : (test : Bool → Bool) (b : Bool) → both_ways test ≡ true → test b ≡ true
each_way test true e = (and_true _ _ e).0
each_way test false e = (and_true _ _ e).1

-- a test that is demanded where another one holds
abbrev pub where_it : Bool → Bool → Bool
where_it a b = not a || b

pub there : (a b : Bool) → where_it a b ≡ true → a ≡ true → b ≡ true
there true b e h = e
there false b e h = absurd cc
