-- For which contexts and numbers the kept ones stand.
use Rattle.std.specs.Prelude.{◌≡◌, ◌↔◌, ℕ, ◌+◌, ◌%◌, ◌^◌, ◌<◌, ◌≤◌, List, [], length, map, All, slice_index, slice_index_or}
use Rattle.mv_bits.specs.Receivers.{Kept}
use Rattle.plan_numbers.specs.declared.numbers.ContextNumbers.{ContextNumbers}
use Rattle.plan_numbers.specs.Numbered.{number_bytes, Agree}

-- no context is longer
abbrev pub context_limit : ℕ
context_limit = 65536

-- room for a context
pub record HasRoom (room : Kept) : Type 0 where
  pub size : room.room ≡ context_limit
  pub short : length room.bytes ≤ context_limit

-- room for 16 contexts and their numbers
pub record HasRooms (n : ContextNumbers) : Type 0 where
  pub contexts : length n.contexts.items ≡ 16
  pub numbers : length n.numbers ≡ 16
  pub rooms : All HasRoom n.contexts.items

-- the contexts place by place
abbrev pub kept_contexts : ContextNumbers → List (List ℕ)
kept_contexts n = map (λ (room : Kept). room.bytes) n.contexts.items

-- place k is that of a frame with this context
pub record IsAt (n : ContextNumbers) (context : List ℕ) (k : ℕ) : Type 0 where
  pub inside : k < 16
  pub filled : k < n.count
  pub same : slice_index_or (kept_contexts n) k [] ≡ context

-- The last 16 frames are kept, each in its place, with these contexts and these counts in place of them.
pub record AreKept (n : ContextNumbers) (contexts : List (List ℕ)) (counts : List ℕ) : Type 0 where
  pub rooms : HasRooms n
  pub count : n.count ≡ length contexts
  pub context : (i : ℕ) → i < length contexts → length contexts ≤ i + 16
      → slice_index_or (kept_contexts n) (i % 16) [] ≡ slice_index_or contexts i []
  pub number : (i : ℕ) → i < length contexts → length contexts ≤ i + 16
      → slice_index n.numbers (i % 16) ≡ slice_index counts i

-- Of two frames at most 16 apart the counts are equal exactly where the contexts are; none is past the frame's own.
pub record AreCounted (contexts : List (List ℕ)) (counts : List ℕ) : Type 0 where
  pub many : length counts ≡ length contexts
  pub small : (i : ℕ) → i < length contexts → slice_index counts i ≤ i
  pub near : (i j : ℕ) → i < j → j ≤ i + 16 → j < length contexts
      → (slice_index_or contexts i [] ≡ slice_index_or contexts j [])
      ↔ (slice_index counts i ≡ slice_index counts j)

-- It stands for the contexts of the frames that were numbered, and for their numbers.
pub record StandsFor (n : ContextNumbers) (contexts numbers : List (List ℕ)) : Type 0 where
  pub few : length contexts ≤ 2 ^ 44
  pub counts : List ℕ
  pub numbers_are : numbers ≡ map number_bytes counts
  pub kept : AreKept n contexts counts
  pub counted : AreCounted contexts counts

-- LAW: what it stands for agrees.
abbrev pub NumbersAgree : Type 0
NumbersAgree = (n : ContextNumbers) (contexts numbers : List (List ℕ))
    → StandsFor n contexts numbers → Agree contexts numbers
