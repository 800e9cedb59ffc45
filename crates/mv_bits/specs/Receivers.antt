-- Receivers of bytes, each seen by the bytes that were put into it.
use Rattle.std.specs.Prelude.{◌≡◌, ◌↔◌, ℕ, ◌≤◌, Bool, IsTrue, List, ◌++◌, take}
use Rattle.mv_bits.specs.Zeros.{zero_bytes}

-- These bytes were put: of whatever kind the receiver is, where it stood for some bytes, it stands for them and these
-- behind them now.
abbrev pub HasPut : {P Kind : Type 0} → (P → Kind → List ℕ → Type 0) → P → P → List ℕ → Type 0
HasPut {P} {Kind} stands old new bytes =
    (kind : Kind) (before : List ℕ) → stands old kind before → stands new kind (before ++ bytes)

-- Nothing that is put from here on changes what the receiver stands for, of whatever kind it is.
abbrev pub TakesAnything : {P Kind : Type 0} → (P → Kind → List ℕ → Type 0) → P → Type 0
TakesAnything stands receiver = (bytes : List ℕ) → HasPut stands receiver receiver bytes

-- ROOM: how many bytes it takes, and those that it keeps.
pub record Kept : Type 0 where
  pub room : ℕ
  pub bytes : List ℕ

-- a room for so many bytes keeps the first of those that were put
abbrev pub KeepsFirst : Kept → ℕ → List ℕ → Type 0
KeepsFirst kept room put = (kept.room ≡ room) × (kept.bytes ≡ take room put)

-- COMPARISON: the bytes to compare with, and how many zero bytes may stand behind them.
pub record Compared : Type 0 where
  pub bytes : List ℕ
  pub zeros : ℕ

abbrev pub compared : List ℕ → ℕ → Compared
compared bytes zeros = record { bytes = bytes; zeros = zeros }

-- the bytes, and at most so many zero bytes behind them
abbrev pub Matches : Compared → List ℕ → Type 0
Matches with_these put = (n : ℕ) × (n ≤ with_these.zeros) × (put ≡ with_these.bytes ++ zero_bytes n)

-- whether all bytes agreed so far, and what is left to compare with
pub record Comparison : Type 0 where
  pub agrees : Bool
  pub left : Compared

-- what may still come
abbrev pub Awaits : Comparison → List ℕ → Type 0
Awaits comparison more = IsTrue comparison.agrees × Matches comparison.left more

-- A comparison with these bytes stands for what was put: whatever comes behind it, the whole matches exactly where the
-- comparison still awaits what comes.
abbrev pub Compares : Comparison → Compared → List ℕ → Type 0
Compares comparison with_these put =
    (more : List ℕ) → Matches with_these (put ++ more) ↔ Awaits comparison more
