-- Bits that read as a value, whatever follows them.
use Rattle.std.specs.Prelude.{Bool, true, false, List, [], ◌++◌, Result, Ok}
use Rattle.mv_bits.specs.Bits.{trim}

-- These bits read as this value, and what follows them is left. W is the reason of a refusal.
pub record ReadsBack (W : Type 0) {A : Type 0}
    (reading : List Bool → Result (A × List Bool) W → Type 0) (value : A)
    (bits : List Bool) : Type 0 where
  pub back : (rest : List Bool) → reading (trim (bits ++ rest)) (Ok (value, trim rest))

-- the bits where they are sent, and else none
abbrev pub sent : Bool → List Bool → List Bool
sent true bits = bits
sent false bits = []
