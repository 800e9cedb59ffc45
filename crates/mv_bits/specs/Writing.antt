-- Bits that are put into a receiver of bytes, the high bit of each byte first.
use Rattle.std.specs.Prelude.{ℕ, ◌≡◌, ◌-◌, ◌%◌, ◌<◌, Bool, false, List, ◌++◌, length, replicate}
use Rattle.std.specs.List.{AllByRecursion}
use Rattle.mv_bits.specs.Bits.{bits_of}
use Rattle.mv_bits.specs.Receivers.{HasPut}

abbrev pub AreBytes : List ℕ → Type 0
AreBytes numbers = AllByRecursion (λ n. n < 256) numbers

-- These bits were put behind the pending ones: the whole bytes into the receiver, and the bits that are left are pending.
pub record Writes {P Kind : Type 0} (stands : P → Kind → List ℕ → Type 0) (old new : P)
    (pending left : List Bool) (bits : List Bool) : Type 0 where
  pub whole : List ℕ
  pub are_bytes : AreBytes whole
  pub has_put : HasPut stands old new whole
  pub in_order : bits_of whole ++ left ≡ pending ++ bits

-- the zero bits up to the end of the byte
abbrev pub padding : List Bool → List Bool
padding pending = replicate ((8 - length pending % 8) % 8) false
