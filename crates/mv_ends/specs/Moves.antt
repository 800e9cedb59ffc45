-- What calls of a shelf and of a sink do to the bytes that are told.
use Rattle.std.specs.Prelude.{◌≡◌, ℕ, ◌≤◌, ◌<◌, List, [], ◌++◌, length, ⊤, Option, None, Some, Result, IfOk, unwrap_or}
use Rattle.std.specs.Borrow.{Bor}
use Rattle.std.specs.List.{flat_map}
use Rattle.std.specs.Ordering.{nat_cmp}
use Rattle.std.specs.Cmp.Lexicographic.{slice_cmp}
use Rattle.std.specs.FinMap.{FinMap, get}
use Rattle.std.specs.Io.KnownBytes.{Appends}

-- inputs by name: a finite map from the bytes of a name to the bytes of its input
abbrev pub Inputs : Type 0
Inputs = FinMap (slice_cmp nat_cmp) (List ℕ)

-- the input of a name; a name that the map lacks has the empty one
abbrev pub input_of : Inputs → List ℕ → List ℕ
input_of inputs name = unwrap_or (get inputs name) []

-- The rest is the whole input of this name, where the inputs are told.
abbrev pub Opens : Option Inputs → List ℕ → Option (List ℕ) → Type 0
Opens None name rest = ⊤
Opens (Some inputs) name None = ⊥
Opens (Some inputs) name (Some bytes) = bytes ≡ input_of inputs name

-- At least one byte of the piece was taken, and no more than all.
abbrev pub WritesSome : {E : Type 0} → Result ℕ E → List ℕ → Type 0
WritesSome result piece = IfOk result (λ n. (1 ≤ n) × (n ≤ length piece))

-- Known bytes grew by the front of some bytes, maybe by all of them.
pub record AppendsPart (old new : Option (List ℕ)) (bytes : List ℕ) : Type 0 where
  pub front : List ℕ
  pub back : List ℕ
  pub parts : bytes ≡ front ++ back
  pub grown : Appends old new front

-- Known bytes grew by the front of some bytes, and not by all of them.
pub record AppendsFront (old new : Option (List ℕ)) (bytes : List ℕ) : Type 0 where
  pub front : List ℕ
  pub back : List ℕ
  pub parts : bytes ≡ front ++ back
  pub some_left : 0 < length back
  pub grown : Appends old new front

-- the bytes of all pieces
abbrev pub joined : List (Bor (List ℕ)) → List ℕ
joined pieces = flat_map (λ piece. piece.now) pieces
