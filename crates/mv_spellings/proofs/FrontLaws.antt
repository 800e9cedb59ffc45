-- Bits in front of other bits, part by part.
use Rattle.std.proofs.Common.{◌≡◌, ℕ, zero, suc, ◌+◌, ◌*◌, ◌^◌, Bool, true, false, eqb, List, [], ◌∷◌, ◌++◌, length, drop, refl, ap, sym, ◌∙◌, subst, arith, length-append, drop-drop, Result, Ok}
use Rattle.mv_bits.specs.Bits.{front, digits, worth}
use Rattle.mv_bits.proofs.BitLaws.{front-digits, front_lt, length-digits, front_nil}
use Rattle.mv_bits.specs.Readings.{When}
use Rattle.mv_bits.specs.ReadBack.{sent}
use Rattle.mv_bits.proofs.PackedLaws.{front_once}
use Rattle.mv_bits.proofs.ReadingLaws.{ok_same}
use Rattle.std.proofs.lemmas.List.{append-nil}
use Rattle.std.proofs.Common.{mod-eq_of_lt}
use Rattle.mv_codes.specs.declared.code.Code.{Code}
use Rattle.mv_codes.specs.Tables.{Spells, has_each_once}
use Rattle.mv_codes.specs.Spelled.{has_code, code_or, IsWritten}
use Rattle.mv_codes.proofs.TableLaws.{one_way}
use Rattle.mv_codes.proofs.SpelledLaws.{code_spells}
use Rattle.mv_spellings.specs.Front.{first, IsInFront}

first_nothing : (n : ℕ) → drop n (let z : List Bool = [] in z) ≡ []
first_nothing zero = refl
first_nothing (suc n) = refl

first-add : (m n : ℕ) (bits : List Bool) → first (m + n) bits ≡ first m bits ++ first n (drop m bits)
unfolding first
first-add zero n bits = let e : zero + n ≡ n = omega arith in ap (λ (k : ℕ). first k bits) e
first-add (suc m) n [] =
    let e : suc m + n ≡ suc (m + n) = omega arith in
    ap (λ (k : ℕ). first k []) e ∙ ap (λ (z : List Bool). false ∷ z) (first-add m n [] ∙ ap (λ (z : List Bool). first m [] ++ first n z) (first_nothing m))
first-add (suc m) n (b ∷ bits) =
    let e : suc m + n ≡ suc (m + n) = omega arith in
    ap (λ (k : ℕ). first k (b ∷ bits)) e ∙ ap (λ (z : List Bool). b ∷ z) (first-add m n bits)

pub length-first : (n : ℕ) (bits : List Bool) → length (first n bits) ≡ n
unfolding first
length-first zero bits = refl
length-first (suc n) [] = ap suc (length-first n [])
length-first (suc n) (b ∷ bits) = ap suc (length-first n bits)

front_first : (n : ℕ) (bits : List Bool) → front n (first n bits) ≡ front n bits
unfolding first front
front_first zero bits = refl
front_first (suc n) [] = let e = front_first n [] ∙ front_nil n in omega (arith, e)
front_first (suc n) (b ∷ bits) = ap (λ (z : ℕ). worth b * 2 ^ n + z) (front_first n bits)

-- the digits of the number that the first bits are
pub digits_front : (n : ℕ) (bits : List Bool) → digits n (front n bits) ≡ first n bits
digits_front n bits =
    let small = mod-eq_of_lt (front_lt n bits) in
    let f = rw (append-nil (digits n (front n bits))) at (front-digits n (front n bits) []) in
    front_once n (digits n (front n bits)) (first n bits) (length-digits n (front n bits)) (length-first n bits) (f ∙ small ∙ sym (front_first n bits))

pub in_front_none : (bits : List Bool) → IsInFront [] bits bits
unfolding first
in_front_none bits = record { begins = refl; behind = refl }

pub in_front_then : (xs ys bits mid rest : List Bool) → IsInFront xs bits mid → IsInFront ys mid rest → IsInFront (xs ++ ys) bits rest
in_front_then xs ys bits mid rest a b = record {
  begins = ap (λ (n : ℕ). first n bits) (length-append xs ys) ∙ first-add (length xs) (length ys) bits
      ∙ ap (λ (z : List Bool). z ++ first (length ys) (drop (length xs) bits)) a.begins
      ∙ ap (λ (z : List Bool). xs ++ first (length ys) z) (sym a.behind)
      ∙ ap (λ (z : List Bool). xs ++ z) b.begins;
  behind = b.behind ∙ ap (λ (z : List Bool). drop (length ys) z) a.behind ∙ drop-drop (length ys) (length xs) bits
      ∙ ap (λ (n : ℕ). drop n bits) (sym (length-append xs ys));
}

pub in_front_same : (xs ys bits rest : List Bool) → xs ≡ ys → IsInFront xs bits rest → IsInFront ys bits rest
in_front_same xs ys bits rest e h = subst (λ (z : List Bool). IsInFront z bits rest) e h

-- a number of n bits
pub in_front_field : (n v : ℕ) (bits rest : List Bool) → v ≡ front n bits → rest ≡ drop n bits → IsInFront (digits n v) bits rest
in_front_field n v bits rest e r =
    let len = length-digits n v in record {
      begins = ap (λ (k : ℕ). first k bits) len ∙ sym (digits_front n bits) ∙ ap (digits n) (sym e);
      behind = r ∙ ap (λ (k : ℕ). drop k bits) (sym len);
    }

one_digit : (v : ℕ) → (eqb v 1 ∷ []) ≡ digits 1 v → length (eqb v 1 ∷ []) ≡ 1
one_digit v e = refl

flag_bit : (b : Bool) (bits : List Bool) → b ≡ eqb (front 1 bits) 1 → first 1 bits ≡ b ∷ []
unfolding first front
flag_bit b [] e = ap (λ (z : Bool). z ∷ []) (sym e)
flag_bit b (true ∷ bits) e = ap (λ (z : Bool). z ∷ []) (sym e)
flag_bit b (false ∷ bits) e = ap (λ (z : Bool). z ∷ []) (sym e)

pub in_front_flag : (b : Bool) (bits rest : List Bool) → b ≡ eqb (front 1 bits) 1 → rest ≡ drop 1 bits → IsInFront (b ∷ []) bits rest
in_front_flag b bits rest e r = record { begins = flag_bit b bits e; behind = r }

-- a code of a table, which has each meaning once
pub in_front_code : {M : Type 0} (same : M → M → Bool) (number : M → ℕ) (table : List (Code M)) → IsWritten same table → ((v m : M) → same v m ≡ true → m ≡ v) → has_each_once number table ≡ true
    → (otherwise : List Bool) (v : M) (bits rest : List Bool) → Spells table bits v rest → IsInFront (code_or otherwise (same v) table) bits rest
in_front_code {M} same number table written one once otherwise v bits rest s =
    let c = s.code in
    let has : has_code (same v) table ≡ true = subst (λ (m : M). has_code (same m) table ≡ true) s.means (written.0 c s.among) in
    let e = one_way number table v (digits c.size c.value) (code_or otherwise (same v) table) once (record { code = c; among = s.among; means = s.means; bits_are = refl }) (code_spells (same v) otherwise table v (one v) has) in
    in_front_same (digits c.size c.value) (code_or otherwise (same v) table) bits rest e (in_front_field c.size c.value bits rest (sym s.begins) s.behind)

pub code_there : {M : Type 0} (same : M → M → Bool) (table : List (Code M)) → IsWritten same table → (v : M) (bits rest : List Bool) → Spells table bits v rest → has_code (same v) table ≡ true
code_there {M} same table written v bits rest s = subst (λ (m : M). has_code (same m) table ≡ true) s.means (written.0 s.code s.among)

-- the rest that is read
pub rest_is : {X W : Type 0} (x y : X) (a b : List Bool) → ◌≡◌ {A = Result (X × List Bool) W} (Ok (x, a)) (Ok (y, b)) → a ≡ b
rest_is {X} x y a b e = ap (λ (z : X × List Bool). z.1) (ok_same _ _ e)

-- where no bit is put between
pub in_front_rest : (xs bits rest more : List Bool) → more ≡ rest → IsInFront xs bits rest → IsInFront xs bits more
in_front_rest xs bits rest more e h = subst (λ (z : List Bool). IsInFront xs bits z) (sym e) h

-- a reading that is sent or not
pub in_front_when : {A W : Type 0} (is : Bool) (default : A) (reading : List Bool → Result (A × List Bool) W → Type 0) (own : A → List Bool)
    → ((v : A) (bits rest : List Bool) → reading bits (Ok (v, rest)) → IsInFront (own v) bits rest)
    → (v : A) (bits rest : List Bool) → When is default reading bits (Ok (v, rest)) → IsInFront (sent is (own v)) bits rest
in_front_when true default reading own each v bits rest h = each v bits rest h
in_front_when false default reading own each v bits rest h = in_front_rest [] bits bits rest (rest_is v default rest bits h) (in_front_none bits)
