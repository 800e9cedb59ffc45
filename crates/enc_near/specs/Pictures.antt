-- How far a picture lies from the source that its levels are nearest to.
use Rattle.std.specs.Prelude.{◌≡◌, ℕ, ◌+◌, ◌*◌, ◌%◌, ◌<◌, ◌≤◌, true, false, List}
use Rattle.mv_terms.specs.declared.head.Head.{Head}
use Rattle.mv_terms.specs.declared.macroblock.Decision.{Decision}
use Rattle.mv_terms.specs.CodedPicture.{CodedPicture}
use Rattle.mv_planes.specs.declared.picture.Plane.{Plane}
use Rattle.mv_planes.specs.Planes.{Planes, sample_of, IsInside}
use Rattle.mv_planes.specs.declared.part.Part.{Part}
use Rattle.mv_planes.specs.Parts.{column, line}
use Rattle.mv_planes.specs.References.{References}
use Rattle.mv_quant.specs.declared.Kind.{Kind}
use Rattle.mv_quant.specs.Macroblocks.{kind_of}
use Rattle.mv_recon.specs.Pictures.{picture_from}
use Rattle.cert_requant.specs.Requantised.{decision_of, block_part, requantised}
use Rattle.cert_requant.specs.Steps.{HasBytes}
use Rattle.enc_near.specs.Blocks.{IsFine, AreClose, HasSmallSquares, apart, greatest_error}

-- the samples of a part of a picture
abbrev pub samples_in : Planes → Part → ℕ → ℕ → ℕ
samples_in f part row col = sample_of f part.plane (column part col) (line part row)

-- the picture that a source is coded as with its nearest levels
abbrev pub coded_from : Head → List Decision → Planes → References → CodedPicture
coded_from head decisions source refs = record {
  head = head;
  decisions = decisions;
  levels = requantised head decisions source refs;
}

-- a source of the size of a head, of samples of 8 bits
pub record IsSourceFor (head : Head) (source : Planes) : Type 0 where
  pub wide : source.mb_wide ≡ head.mb_wide
  pub high : source.mb_high ≡ head.mb_high
  pub bytes : (p : Plane) (x y : ℕ) → IsInside source p x y → sample_of source p x y ≤ 255

-- the decision of the macroblock at this column and row
abbrev pub decision_in : Head → List Decision → ℕ → ℕ → Decision
decision_in head decisions mb_x mb_y = decision_of decisions (mb_y * head.mb_wide + mb_x)

-- a block of the macroblock at this column and row is near that of the source
abbrev pub IsNearPart : Head → List Decision → Planes → References → ℕ → ℕ → ℕ → Type 0
IsNearPart head decisions source refs mb_x mb_y b =
    let d = decision_in head decisions mb_x mb_y in
    let part = block_part d mb_x mb_y b in
    IsFine (kind_of head d) → AreClose (kind_of head d) (samples_in source part)
    (samples_in (picture_from refs (coded_from head decisions source refs)) part)

-- LAWS: each block of an intra macroblock is near that of the source, whatever stands in other macroblocks;
abbrev pub IntraPartIsNear : Type 0
IntraPartIsNear = (head : Head) (decisions : List Decision) (source : Planes) (refs : References)
    (mb_x mb_y b : ℕ) → IsSourceFor head source → mb_x < head.mb_wide → mb_y < head.mb_high
    → b < 6 → head.dc_precision ≤ 3 → (decision_in head decisions mb_x mb_y).intra ≡ true
    → IsNearPart head decisions source refs mb_x mb_y b

-- so is each block of any macroblock, whatever it is predicted from: an error of the references doesn't add to its own;
abbrev pub PartIsNear : Type 0
PartIsNear = (head : Head) (decisions : List Decision) (source : Planes) (refs : References)
    (mb_x mb_y b : ℕ) → IsSourceFor head source → mb_x < head.mb_wide → mb_y < head.mb_high
    → b < 6 → head.dc_precision ≤ 3 → HasBytes refs.forward → HasBytes refs.backward
    → IsNearPart head decisions source refs mb_x mb_y b

-- A picture is near a source, in blocks of one kind: each sample, and the squares of each block of eight by eight samples.
pub record IsNear (kind : Kind) (source picture : Planes) : Type 0 where
  pub each : (p : Plane) (x y : ℕ) → IsInside source p x y
      → apart (sample_of picture p x y) (sample_of source p x y)
      ≤ greatest_error kind (y % 8) (x % 8)
  pub blocks : (p : Plane) (i j : ℕ) → IsInside source p (8 * i) (8 * j)
      → HasSmallSquares kind (λ row col.
      apart (sample_of picture p (8 * i + col) (8 * j + row))
      (sample_of source p (8 * i + col) (8 * j + row)))

-- A picture is coded as intra macroblocks of one kind, by frame lines.
abbrev pub IsUniform : Kind → Head → List Decision → Type 0
IsUniform kind head decisions = (k : ℕ) → k < head.mb_wide * head.mb_high
    → let d = decision_of decisions k in
    (d.intra ≡ true) × (d.field_dct ≡ false) × (kind_of head d ≡ kind)

-- LAW: such a picture is near the source that its levels are nearest to.
abbrev pub UniformIsNear : Type 0
UniformIsNear = (kind : Kind) (head : Head) (decisions : List Decision) (source : Planes)
    (refs : References) → IsSourceFor head source → head.dc_precision ≤ 3
    → IsUniform kind head decisions → IsFine kind
    → IsNear kind source (picture_from refs (coded_from head decisions source refs))
