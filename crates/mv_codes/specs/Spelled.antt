-- The code that a table has for a meaning: what a writer puts.
use Rattle.std.specs.Prelude.{ℕ, ◌-◌, ◌≡◌, ◌==◌, ◌&&◌, ◌||◌, Bool, true, false, List, [], ◌∷◌, ◌++◌, if◌then◌else◌, ℤ, pos, negsuc}
use Rattle.std.specs.List.{Contains}
use Rattle.mv_bits.specs.Bits.{digits, trim}
use Rattle.mv_codes.specs.declared.code.Code.{Code}
use Rattle.mv_codes.specs.declared.increment.Increment.{Increment}
use Rattle.mv_codes.specs.declared.increment.Increment.TheVariants as increment
use Rattle.mv_codes.specs.declared.macroblock_type.TypeBits.{TypeBits}
use Rattle.mv_codes.specs.declared.coefficient.Coef.{Coef}
use Rattle.mv_codes.specs.declared.coefficient.Coef.TheVariants as coef
use Rattle.mv_codes.specs.Tables.{Spells}

-- the table has a meaning that passes the test
abbrev pub has_code : {M : Type 0} → (M → Bool) → List (Code M) → Bool
has_code is [] = false
has_code is (c ∷ cs) = is c.meaning || has_code is cs

-- the first code of the table whose meaning passes the test, or other bits where there is none
abbrev pub code_or : {M : Type 0} → List Bool → (M → Bool) → List (Code M) → List Bool
code_or otherwise is [] = otherwise
code_or otherwise is (c ∷ cs) =
    if is c.meaning then digits c.size c.value else code_or otherwise is cs

abbrev pub code_of : {M : Type 0} → (M → Bool) → List (Code M) → List Bool
code_of is table = code_or [] is table

-- Tests of meanings: the same increment, flags of a type, number or coefficient.
abbrev pub same_increment : Increment → Increment → Bool
same_increment (increment.Step n) (increment.Step m) = m == n
same_increment (increment.Step n) increment.Escape = false
same_increment increment.Escape (increment.Step m) = false
same_increment increment.Escape increment.Escape = true

abbrev pub same_flag : Bool → Bool → Bool
same_flag true b = b
same_flag false true = false
same_flag false false = true

abbrev pub same_type : TypeBits → TypeBits → Bool
same_type t u =
    same_flag t.quant u.quant
    && (same_flag t.forward u.forward
    && (same_flag t.backward u.backward
    && (same_flag t.pattern u.pattern && same_flag t.intra u.intra)))

abbrev pub same_number : ℕ → ℕ → Bool
same_number n m = m == n

abbrev pub same_integer : ℤ → ℤ → Bool
same_integer (pos n) (pos m) = m == n
same_integer (pos n) (negsuc m) = false
same_integer (negsuc n) (pos m) = false
same_integer (negsuc n) (negsuc m) = m == n

abbrev pub same_coef : Coef → Coef → Bool
same_coef coef.End coef.End = true
same_coef coef.End coef.Escape = false
same_coef coef.End (coef.Pair run level) = false
same_coef coef.Escape coef.End = false
same_coef coef.Escape coef.Escape = true
same_coef coef.Escape (coef.Pair run level) = false
same_coef (coef.Pair r l) coef.End = false
same_coef (coef.Pair r l) coef.Escape = false
same_coef (coef.Pair r l) (coef.Pair run level) = run == r && same_integer l level

-- a number of 12 bits in two's complement
abbrev pub twos_12 : ℤ → ℕ
twos_12 (pos n) = n
twos_12 (negsuc n) = 4095 - n

-- an escape, and a run and a level behind it (H.262, 7.2.2.3)
abbrev pub escape_bits : List (Code Coef) → ℕ → ℤ → List Bool
escape_bits table run level =
    code_of (same_coef coef.Escape) table ++ (digits 6 run ++ digits 12 (twos_12 level))

-- a run and a level: their code where the table has one, and else an escape (H.262, 7.2.2)
abbrev pub coefficient_bits : List (Code Coef) → ℕ → ℤ → List Bool
coefficient_bits table run level =
    code_or (escape_bits table run level) (same_coef (coef.Pair run level)) table

-- LAW: each row's meaning has a code, and a meaning's code reads back as the meaning, whatever follows it.
abbrev pub IsWritten : {M : Type 0} → (M → M → Bool) → List (Code M) → Type 0
IsWritten {M} same table =
    ((c : Code M) → Contains table c → has_code (same c.meaning) table ≡ true)
    × ((v : M) → has_code (same v) table ≡ true → (rest : List Bool)
    → Spells table (trim (code_of (same v) table ++ rest)) v (trim rest))
