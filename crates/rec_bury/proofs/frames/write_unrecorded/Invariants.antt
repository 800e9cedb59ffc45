use Rattle.std.proofs.Common.{◌≡◌, ◌*◌, length, take}
use Rattle.std.specs.List.{flat_map}
use Rattle.y4m_frames.specs.FrameFile.{sample_bytes}
use Rattle.rec_bury.proofs.frames.write_unrecorded.Given as goal

abbrev pub invariant-samples : goal.invariant-samples
invariant-samples l = record {
  written : take (2 * l.k) l.to ≡ flat_map (λ v. sample_bytes (4 * v)) (take l.k l.samples);
  size : length l.to ≡ 2 * length l.samples;
}
