-- Where the bytes of a picture that came back stand in the stream.
use Rattle.std.proofs.Common.{◌≡◌, ℕ, ◌<◌, List, [], ◌∷◌, ◌++◌, length, map, refl, sym, ap, ◌∙◌, subst, append_assoc, append-nil}
use Rattle.std.proofs.lemmas.List.{length-map, map-append}
use Rattle.std.proofs.lemmas.Option.{slice_get_within}
use Rattle.plan_window.specs.Plan.{ahead, step_at}
use Rattle.enc_guided.specs.Recoded.{FrameStep, Recoding, bytes_of_steps, coded_step, coded_steps, ending_of}
use Rattle.enc_guided.specs.FileSteps.{recoding_by_records, step_of_frame, steps_of_frames, summaries_in, summary_in}
use Rattle.cert_chains.specs.Intact.{StreamPicture, frame_in_stream}
use Rattle.cert_chains.specs.Intact.Intact.{intact}
use Rattle.cert_chains.specs.ComesBack.{CameBack, IsKept, glue_before, original}
use Rattle.cert_chains.specs.Laws.{IntactIsKept}
use Rattle.cert_chains.proofs.OrderLemmas.{has_step}
use Rattle.cert_chains.proofs.PlaceLemmas.{StepBehind}
use Rattle.cert_chains.proofs.BackLemmas.{LowerLaws, intact_back}

-- the bytes of a step stand behind those of the steps before it
bytes_there : (r : Recoding) (later : List FrameStep) (s : FrameStep) (before : List FrameStep)
    → (rest : List ℕ) × (bytes_of_steps (coded_steps r (later ++ s ∷ before)) ≡ bytes_of_steps (coded_steps r before) ++ ((coded_step r s (coded_steps r before)).bytes ++ rest))
unfolding coded_steps
bytes_there r [] s before = ([], ap (λ (b : List ℕ). bytes_of_steps (coded_steps r before) ++ b) (sym (append-nil (coded_step r s (coded_steps r before)).bytes)))
bytes_there r (t ∷ later) s before =
    let (rest, e) = bytes_there r later s before in
    let more = (coded_step r t (coded_steps r (later ++ s ∷ before))).bytes in
    let old = bytes_of_steps (coded_steps r before) in
    let here = (coded_step r s (coded_steps r before)).bytes in
    (rest ++ more, ap (λ (b : List ℕ). b ++ more) e ∙ append_assoc old (here ++ rest) more ∙ ap (λ (b : List ℕ). old ++ b) (append_assoc here rest more))

kept_at : (r : Recoding) (frames : List (List ℕ)) (i : ℕ) (p : StreamPicture) (later : List FrameStep) (s : FrameStep) (before : List FrameStep)
    → steps_of_frames r frames ≡ later ++ s ∷ before → s.step.frame ≡ i
    → CameBack p (glue_before r s p (coded_steps r before)) (coded_step r s (coded_steps r before)) → IsKept r frames i p
kept_at r frames i p later s before parts frame back =
    let (rest, e) = bytes_there r later s before in
    let old = bytes_of_steps (coded_steps r before) in
    let last = ending_of (coded_steps r (steps_of_frames r frames)) in
    let own = original p.unit.lists in
    let glue = glue_before r s p (coded_steps r before) in
    record {
      later = later;
      step = s;
      before = before;
      is_step = parts;
      is_frame = frame;
      back = back;
      behind = rest ++ last;
      bytes = ap (λ (b : List ℕ). b ++ last) (ap (λ (l : List FrameStep). bytes_of_steps (coded_steps r l)) parts ∙ e ∙ ap (λ (b : List ℕ). old ++ (b ++ rest)) back.bytes)
          ∙ four old glue own rest last;
    }
  where
    four : (a b c d e : List ℕ) → (a ++ ((b ++ c) ++ d)) ++ e ≡ a ++ (b ++ (c ++ (d ++ e)))
    four a b c d e = simp append_assoc

pub intact_is_kept : LowerLaws → IntactIsKept
intact_is_kept laws scale header frames i p is are (intact held certified fwd bwd) =
    let r = recoding_by_records scale header in
    let within : i < length (summaries_in r frames) = subst (λ (n : ℕ). i < n) (sym (length-map frames (summary_in r))) (slice_get_within frames i (frame_in_stream p).samples held.frame) in
    let at = has_step ahead (summaries_in r frames) i within in
    let h : StepBehind = record { step = step_at ahead (summaries_in r frames) i; before = at.before } in
    let back = intact_back laws r frames (record { header = is; finds = λ frame. refl }) i p are (intact held certified fwd bwd) h (at.later, at.parts) refl in
    kept_at r frames i p (map (step_of_frame frames) at.later) (step_of_frame frames h.step) (map (step_of_frame frames) at.before)
    (ap (map (step_of_frame frames)) at.parts ∙ map-append (step_of_frame frames) at.later (h.step ∷ at.before)) refl back
