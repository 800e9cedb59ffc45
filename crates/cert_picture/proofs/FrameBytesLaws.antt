-- The sample bytes of a frame.
use Rattle.std.proofs.Common.{◌≡◌, ℕ, ◌*◌, List, [], ◌∷◌, length, refl, arith}
use Rattle.std.specs.List.{flat_map}
use Rattle.mv_planes.specs.Planes.{Planes}
use Rattle.rec_bury.specs.FrameBytes.{unrecorded}
use Rattle.y4m_frames.specs.FrameFile.{sample_bytes}

two_each : (samples : List ℕ) → length (flat_map (λ v. sample_bytes (4 * v)) samples) ≡ 2 * length samples
two_each [] = refl
two_each (v ∷ samples) = let more = two_each samples in omega (arith, more)

-- two for each sample
pub unrecorded_length : (picture : Planes) → length (unrecorded picture) ≡ 2 * length picture.samples
unrecorded_length picture = two_each picture.samples
