-- Which calls of an endpoint in memory are to fail.
use Rattle.std.specs.Prelude.{◌≡◌, ◌+◌, ◌-◌, ◌^◌, min, Contains}
use Rattle.mv_ends.specs.declared.failing.Plan.{Plan}

-- The next call is to fail.
abbrev pub FailsNext : Plan → Type 0
FailsNext plan = Contains plan.fails.items plan.call

-- One more call was made.
pub record IsPast (old new : Plan) : Type 0 where
  pub call : new.call ≡ min (old.call + 1) (2 ^ 64 - 1)
  pub fails : new.fails.items ≡ old.fails.items
  pub most : new.most ≡ old.most
