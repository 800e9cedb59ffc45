-- The step law: a step whose frame holds a certified picture comes back as it, where its references are those of the picture.
use Rattle.std.proofs.Common.{◌≡◌, ℕ, true, List, [], ◌∷◌, Option, Some, refl, sym, ap, ap₂, ◌∙◌, subst}
use Rattle.mv_recon.specs.Pictures.{PicturesHaveTheirSamples}
use Rattle.plan_window.specs.declared.summary.Mode.{Mode}
use Rattle.plan_window.specs.declared.summary.Mode.TheVariants.{Guided}
use Rattle.rec_legal.specs.FoundRecord.{FoundRecord}
use Rattle.rec_legal.specs.Conditions.{file_size}
use Rattle.rec_legal.specs.Laws.{FoundIsFound}
use Rattle.cert_picture.specs.Records.{is_certified}
use Rattle.cert_picture.specs.RecordLaws.{PictureComesBack}
use Rattle.cert_found.specs.RecordLaw.{RecordIsFound}
use Rattle.enc_guided.specs.Recoded.{CodedStep, FrameStep, Recoding, coded_step, guide_by, source_in}
use Rattle.enc_guided.specs.FileSteps.{recoding_by_records}
use Rattle.cert_chains.specs.Intact.{StreamPicture, IsAccepted, Holds, frame_in_stream, parts_in_stream}
use Rattle.cert_chains.specs.ComesBack.{AreSameUsed, CameBack, glue_before, references_at}
use Rattle.cert_chains.specs.Laws.{CertifiedComesFromItself, StepComesBack}
use Rattle.cert_chains.proofs.FoundLemmas.{IsByRecords, finds_record, is_found, record_in_stream}
use Rattle.cert_chains.proofs.SourceLemmas.{source_is}
use Rattle.cert_chains.proofs.StepLemmas.{StepLaws, comes, step_back, step_for, step_is}

-- what lower layers say of records and of steps
pub record RecordLaws : Type 0 where
  pub record_found : RecordIsFound
  pub found : FoundIsFound
  pub source : PictureComesBack
  pub samples : PicturesHaveTheirSamples
  pub step : StepLaws

pub step_by_record : RecordLaws → (r : Recoding) (s : FrameStep) (before : List CodedStep) (p : StreamPicture) → IsByRecords r → IsAccepted p
    → file_size r.header ≡ p.unit.accepted.heads.first → s.frame ≡ (frame_in_stream p).samples → is_certified (parts_in_stream p) ≡ true → s.step.mode ≡ Guided
    → AreSameUsed p.unit.picture.head p.unit.picture.decisions (references_at p before) (parts_in_stream p).references
    → CameBack p (glue_before r s p before) (coded_step r s before)
step_by_record laws r s before p by are size bytes is mode same =
    let own : Option FoundRecord = Some (record_in_stream p) in
    let alone : List (List ℕ) = s.frame ∷ [] in
    let held : Holds r alone 0 p = record { size = size; frame = ap (λ (b : List ℕ). Some b) bytes } in
    let there = is_found laws.record_found laws.found p are is in
    let find : r.find s.frame ≡ own = ap r.find bytes ∙ finds_record laws.record_found r alone 0 p by are held is in
    let whole : coded_step r s before ≡ step_for r s own own before =
    step_is r s before ∙ ap₂ (λ (o : Option FoundRecord) (m : Mode). step_for r s o (guide_by m o) before) find mode in
    let source = ap (source_in r.header) bytes ∙ source_is laws.step.legal laws.samples laws.source r alone 0 p by are held there in
    subst (λ (c : CodedStep). CameBack p (glue_before r s p before) c) (sym whole) (step_back laws.step r s before p are there is source same)

pub step_comes_back : RecordLaws → StepComesBack
step_comes_back laws scale header s before p legal =
    step_by_record laws (recoding_by_records scale header) s before p (record { header = legal; finds = λ frame. refl })

pub certified_comes_from_itself : RecordLaws → CertifiedComesFromItself
certified_comes_from_itself laws p are is = comes laws.step.legal laws.step.certified p are (is_found laws.record_found laws.found p are is) is
