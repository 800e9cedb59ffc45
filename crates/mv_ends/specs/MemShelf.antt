-- What a shelf in memory holds.
use Rattle.std.specs.Prelude.{◌≡◌, ℕ, List, Bool, false, slice_index, Some}
use Rattle.mv_ends.specs.declared.failing.MemShelf.{MemShelf}
use Rattle.mv_ends.specs.declared.failing.Plan.{Plan}
use Rattle.mv_ends.specs.Moves.{Inputs}
use Rattle.mv_ends.specs.Places.{inputs_of, place_of, left_of, is_place}
use Rattle.mv_ends.specs.Told.{ShelfTold}

-- the inputs, what is left of the selected one, and whether a name counts as selected
abbrev pub inputs_in : MemShelf → Inputs
inputs_in s = inputs_of s.inputs.items

abbrev pub left_in : MemShelf → List ℕ
left_in s = left_of s.inputs.items s.selected s.at

abbrev pub selected_in : MemShelf → List ℕ → Bool
selected_in s name = is_place s.selected (place_of s.inputs.items name)

-- how often opening and reading the input of a name failed
abbrev pub open_faults_in : MemShelf → List ℕ → ℕ
open_faults_in s name = slice_index s.opens.items (place_of s.inputs.items name)

abbrev pub read_faults_in : MemShelf → List ℕ → ℕ
read_faults_in s name = slice_index s.reads.items (place_of s.inputs.items name)

-- what it tells: all
abbrev pub told_by : MemShelf → ShelfTold
told_by s = record {
  named = Some (inputs_in s);
  rest = Some (left_in s);
  selected = selected_in s;
  open_faults = open_faults_in s;
  read_faults = read_faults_in s;
}

-- which calls are to fail
abbrev pub plan_of : MemShelf → Plan
plan_of s = s.plan

-- A shelf of which nothing was asked yet.
pub record IsNew (shelf : MemShelf) (inputs : Inputs) (fails : List ℕ) (most : ℕ) : Type 0 where
  pub inputs_are : inputs_in shelf ≡ inputs
  pub selected : (name : List ℕ) → selected_in shelf name ≡ false
  pub opens : (name : List ℕ) → open_faults_in shelf name ≡ 0
  pub reads : (name : List ℕ) → read_faults_in shelf name ≡ 0
  pub call : (plan_of shelf).call ≡ 0
  pub fails_are : (plan_of shelf).fails.items ≡ fails
  pub most_is : (plan_of shelf).most ≡ most
