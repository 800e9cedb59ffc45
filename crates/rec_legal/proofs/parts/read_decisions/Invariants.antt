use Rattle.std.proofs.Common.{◌≡◌, ◌-◌, ◌*◌, length, take}
use Rattle.rec_legal.specs.Said.{decisions_said}
use Rattle.rec_legal.proofs.DecisionLemmas.{Behind}
use Rattle.rec_legal.proofs.parts.read_decisions.Given as goal

abbrev pub invariant-slots : goal.invariant-slots
invariant-slots l = record {
  size : length l.decisions ≡ length l.fn.decisions;
  left : length l.rest ≡ 20 * (length l.fn.decisions - l.i);
  said : decisions_said (length l.fn.decisions) l.slots ≡ Behind (take l.i l.decisions) (decisions_said (length l.fn.decisions - l.i) l.rest);
}
