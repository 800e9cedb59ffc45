-- A step by the record of a certified picture, from a source of it and behind the pictures that it uses, gives its bytes and
-- the picture itself.
use Rattle.std.proofs.Common.{◌≡◌, ℕ, ◌≤◌, max, true, List, ◌++◌, bytes_eq, leb, Option, Some, refl, sym, ap, ap₂, ◌∙◌, subst, arith}
use Rattle.std.proofs.lemmas.Bool.{and_parts, leb-true}
use Rattle.std.proofs.lemmas.Slice.Eq.{bytes_eq-Decides}
use Rattle.mv_terms.specs.declared.head.Head.{Head}
use Rattle.mv_terms.specs.declared.macroblock.Decision.{Decision}
use Rattle.mv_terms.specs.declared.macroblock.MacroLevels.{MacroLevels}
use Rattle.mv_terms.specs.CodedPicture.{CodedPicture, pic_of}
use Rattle.mv_bits.specs.Zeros.{zero_bytes}
use Rattle.mv_planes.specs.Planes.{Planes}
use Rattle.mv_planes.specs.References.{DecodedPicture, References}
use Rattle.mv_slices.specs.Slices.{Slices}
use Rattle.mv_slices.specs.Canonical.{canonical_slices, canonical_tail}
use Rattle.mv_recon.specs.Decoded.{decoded_behind}
use Rattle.mv_recon.specs.Locality.{PicturesAreLocal}
use Rattle.cert_requant.specs.Requantised.{RequantisedIsLocal, requantised}
use Rattle.rec_legal.specs.FoundRecord.{FoundRecord}
use Rattle.rec_legal.specs.Laws.{LegalCanBeReconstructed, SaidIsLegal}
use Rattle.cert_picture.specs.Records.{are_slices_of, is_certified}
use Rattle.cert_picture.specs.RecordLaws.{CertifiedComesFromSamples, ComesFromSamples}
use Rattle.cert_picture.specs.FrameFileOf.{frame_behind, frames_of, pictures_in}
use Rattle.enc_guided.specs.Recoded.{CodedStep, Front, FrameStep, Recoding, bytes_with, coded_step, coded_with, front_of, guide_by, guided_front, levels_of, pictures_of_steps, source_in, step_by, target_of}
use Rattle.cert_chains.specs.Intact.{StreamPicture, IsAccepted, frame_in_stream, parts_in_stream}
use Rattle.cert_chains.specs.ComesBack.{AreSameUsed, CameBack, glue_before, original, references_at}
use Rattle.cert_chains.proofs.FoundLemmas.{record_in_stream, returned}
use Rattle.cert_chains.proofs.SourceLemmas.{Found}
use Rattle.cert_chains.proofs.UseLemmas.{agree_for}

-- ---- a step with what is found in its frame, and what it is coded by

abbrev pub step_for : Recoding → FrameStep → Option FoundRecord → Option FoundRecord → List CodedStep → CodedStep
step_for r s found guide before =
    let target = target_of r.header found before in
    step_by r s guide target (front_of r s guide target before) before

pub step_is : (r : Recoding) (s : FrameStep) (before : List CodedStep) → coded_step r s before ≡ step_for r s (r.find s.frame) (guide_by s.step.mode (r.find s.frame)) before
unfolding coded_step
step_is r s before = refl

-- ---- the slices of a certified picture are those of its own levels

pub record ReturnsSlices (p : StreamPicture) : Type 0 where
  pub slices : canonical_slices p.unit.picture.head p.unit.picture.decisions p.unit.picture.levels ≡ p.unit.lists.slices
  pub tail : canonical_tail p.unit.picture.head p.unit.picture.decisions p.unit.picture.levels ≤ p.unit.lists.zeros

returns_by : (p : StreamPicture) → are_slices_of (parts_in_stream p) p.unit.picture.levels ≡ true → ReturnsSlices p
returns_by p is =
    let slices = canonical_slices p.unit.picture.head p.unit.picture.decisions p.unit.picture.levels in
    let both = and_parts (bytes_eq slices p.unit.lists.slices) (leb (canonical_tail p.unit.picture.head p.unit.picture.decisions p.unit.picture.levels) p.unit.lists.zeros) is in
    record { slices = (bytes_eq-Decides slices p.unit.lists.slices).0 both.0; tail = leb-true _ _ both.1 }

read_slices : (p : StreamPicture) → IsAccepted p → Slices p.unit.picture.head p.unit.lists.slices p.unit.picture.decisions p.unit.picture.levels
read_slices p are =
    subst (λ (h : Head). Slices h p.unit.lists.slices p.unit.picture.decisions p.unit.picture.levels) (sym are.1.accepts.head) are.1.accepts.slices

pub comes : SaidIsLegal → CertifiedComesFromSamples → (p : StreamPicture) → IsAccepted p → Found p → is_certified (parts_in_stream p) ≡ true → ComesFromSamples (parts_in_stream p)
comes legal law p are found is =
    law (parts_in_stream p) (legal p.unit.accepted.heads.first _ _ (record_in_stream p) found.is_said).head found.is_said.legal (read_slices p are) (returned p is)

larger : (z t : ℕ) → t ≤ z → max z t ≡ z
larger z t h = omega arith

-- ---- the step

decoded_is : (p : StreamPicture) → (frame_in_stream p).decoded ≡ decoded_behind (pictures_in (frames_of p.before)) p.unit.picture
unfolding frame_behind
decoded_is p = refl

-- what lower layers say of it
pub record StepLaws : Type 0 where
  pub legal : SaidIsLegal
  pub reconstructed : LegalCanBeReconstructed
  pub certified : CertifiedComesFromSamples
  pub levels : RequantisedIsLocal
  pub pictures : PicturesAreLocal

pub step_back : StepLaws → (r : Recoding) (s : FrameStep) (before : List CodedStep) (p : StreamPicture) → IsAccepted p → Found p → is_certified (parts_in_stream p) ≡ true
    → source_in r.header s.frame ≡ (parts_in_stream p).decoded
    → AreSameUsed p.unit.picture.head p.unit.picture.decisions (references_at p before) (parts_in_stream p).references
    → CameBack p (glue_before r s p before) (step_for r s (Some (record_in_stream p)) (Some (record_in_stream p)) before)
step_back laws r s before p are found is source same =
    let q = parts_in_stream p in
    let u = p.unit.picture in
    let front : Front = guided_front (record_in_stream p) in
    let refs : References = references_at p before in
    let own = comes laws.legal laws.certified p are found is in
    let agree = agree_for laws.reconstructed u.head u.decisions refs q.references found.is_said.legal same in
    let now : levels_of front (source_in r.header s.frame) before ≡ u.levels =
    ap (λ (x : Planes). requantised u.head u.decisions x refs) source
    ∙ laws.levels u.head u.decisions q.decoded refs q.references agree
    ∙ own.levels in
    let coded : coded_with front (levels_of front (source_in r.header s.frame) before) ≡ u =
    ap (coded_with front) now
    ∙ ap (λ (d : List Decision). let x : CodedPicture = record { head = u.head; decisions = d; levels = u.levels } in x) own.decisions in
    let returns : ReturnsSlices p = returns_by p (subst (λ (l : List MacroLevels). are_slices_of q l ≡ true) own.levels (returned p is)) in
    let bytes : bytes_with front (levels_of front (source_in r.header s.frame) before) ≡ original p.unit.lists =
    ap (bytes_with front) now
    ∙ ap₂ (λ (slices : List ℕ) (n : ℕ). p.unit.lists.prefix ++ (p.unit.lists.head ++ (slices ++ zero_bytes n))) returns.slices
    (larger p.unit.lists.zeros (canonical_tail u.head u.decisions u.levels) returns.tail) in
    record {
      guided = refl;
      bytes = ap (λ (b : List ℕ). glue_before r s p before ++ b) bytes;
      coded = coded;
      decoded = ap (decoded_behind (pictures_of_steps before)) coded
          ∙ ap (λ (x : Planes). let d : DecodedPicture = record { pic = pic_of u; picture = x } in d) (laws.pictures u refs q.references agree)
          ∙ sym (decoded_is p);
    }
