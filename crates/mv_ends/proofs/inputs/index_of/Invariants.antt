use Rattle.std.proofs.Common.{◌≡◌, ◌+◌, drop}
use Rattle.mv_ends.specs.Places.{place_of}
use Rattle.mv_ends.proofs.inputs.index_of.Given as goal

abbrev pub invariant-loop-i : goal.invariant-loop-i
invariant-loop-i l = place_of l.inputs l.name ≡ l.i + place_of (drop l.i l.inputs) l.name
