use Rattle.std.proofs.Common.{◌≡◌, ◌*◌, ◌&&◌, nat_le, drop}
use Rattle.y4m_frames.specs.Frames.{are_samples}
use Rattle.y4m_frames.proofs.frame.are_samples.Given as goal

abbrev pub invariant-loop-i : goal.invariant-loop-i
invariant-loop-i l = are_samples l.bytes ≡ (nat_le l.greatest 1023 && are_samples (drop (2 * l.i) l.bytes))
