-- What an endpoint tells of itself.
use Rattle.std.specs.Prelude.{ℕ, List, Bool, Option}
use Rattle.mv_ends.specs.Moves.{Inputs}

-- What a shelf tells: its inputs and what is left of the selected one, where these are told; whether a name counts as
-- selected; and how often it failed to open the input of a name, and to read it.
pub record ShelfTold : Type 0 where
  pub named : Option Inputs
  pub rest : Option (List ℕ)
  pub selected : List ℕ → Bool
  pub open_faults : List ℕ → ℕ
  pub read_faults : List ℕ → ℕ

-- What a sink tells: the bytes that it took so far, where they are told; how often writing failed; and how many bytes it
-- surely takes, with those that it took already.
pub record SinkTold : Type 0 where
  pub written : Option (List ℕ)
  pub faults : ℕ
  pub room : ℕ
