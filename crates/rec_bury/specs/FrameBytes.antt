-- The sample bytes of a frame that a picture was decoded to.
use Rattle.std.specs.Prelude.{ℕ, ◌*◌, List}
use Rattle.std.specs.List.{flat_map}
use Rattle.mv_planes.specs.Planes.{Planes}
use Rattle.y4m_frames.specs.FrameFile.{sample_bytes}

-- Without a record: each sample has its 8 bits on top of its 10, and the two low bits are zero.
abbrev pub unrecorded : Planes → List ℕ
unrecorded picture = flat_map (λ v. sample_bytes (4 * v)) picture.samples
