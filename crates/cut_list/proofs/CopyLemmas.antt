-- The listed frames so far.
use Rattle.std.proofs.Common.{◌≡◌, ℕ, suc, ◌+◌, ◌-◌, ◌<◌, ◌≤◌, cond, List, [], ◌∷◌, ◌++◌, length, take, drop, refl, sym, ap, ◌∙◌, arith, Option, Some, None, nat_lt, nat_eq, lt-ltb, le-ltb, append-nil, append_assoc, ⊎_elim, ne_eqb}
use Rattle.std.specs.List.{flat_map}
use Rattle.std.proofs.Math.Seq.{take-add}
use Rattle.std.proofs.lemmas.Grind.{flat_map-append}
use Rattle.std.proofs.lemmas.Bool.{cases_lt}
use Rattle.std.proofs.lemmas.List.{length-append, length-drop, take_at, drop_at, take_all, drop_all, drop-append-le}
use Rattle.mv_terms.specs.declared.status.FrameFault.{FrameFault}
use Rattle.mv_terms.specs.declared.status.FrameFault.TheVariants.{BadHeader, BadSize, NoFrames, BadFrame, BadSample, TooLong}
use Rattle.mv_terms.specs.declared.status.LineFault.TheVariants as why
use Rattle.y4m_frames.specs.FrameFile.{frame}
use Rattle.y4m_frames.specs.Frames.{Frames, behind_frames}
use Rattle.cut_list.specs.Cut.{listed, line_fault, text_of}
use Rattle.cut_list.specs.Steps.{piece}

-- all frames up to TO
pub listed_whole : (from to : ℕ) (done : List (List ℕ)) (others : Frames) → length done ≡ to + 1 → listed from to (behind_frames done others) ≡ record { frames = drop from done; fault = None }
listed_whole from to done others count =
    let more : to < length (done ++ others.frames) = omega (arith, count, length-append done others.frames) in
    ap (λ b. record { frames = take (to + 1 - from) (drop from (done ++ others.frames)); fault = cond b None (Some (line_fault others.fault)) }) (lt-ltb to (length (done ++ others.frames)) more)
    ∙ ap (λ fs. record { frames = fs; fault = None }) frames
  where
    frames : take (to + 1 - from) (drop from (done ++ others.frames)) ≡ drop from done
    frames = ⊎_elim
        (λ (l : to < from).
        let none : to + 1 - from ≡ 0 = omega arith in
        ap (λ k. take k (drop from (done ++ others.frames))) none ∙ sym (drop_all from done (omega arith)))
        (λ (g : from ≤ to).
        ap (take (to + 1 - from)) (drop-append-le from done others.frames (omega arith)) ∙ take_at (drop from done) others.frames (to + 1 - from) (omega (arith, length-drop from done)))
        (cases_lt to from)

-- no frame TO
pub listed_part : (from to : ℕ) (done : List (List ℕ)) (fault : Option FrameFault) → length done ≤ to → listed from to (behind_frames done (record { frames = []; fault = fault })) ≡ record { frames = drop from done; fault = Some (line_fault fault) }
listed_part from to done fault few =
    let same : done ++ [] ≡ done = append-nil done in
    let frames : take (to + 1 - from) (drop from (done ++ [])) ≡ drop from done =
    ap (λ d. take (to + 1 - from) (drop from d)) same ∙ take_all (to + 1 - from) (drop from done) (omega (arith, length-drop from done)) in
    ap (λ b. record { frames = take (to + 1 - from) (drop from (done ++ [])); fault = cond b None (Some (line_fault fault)) }) (ap (λ d. nat_lt to (length d)) same ∙ le-ltb to (length done) few)
    ∙ ap (λ fs. record { frames = fs; fault = Some (line_fault fault) }) frames

-- the listed frames begin with those so far
pub listed_more : (from to : ℕ) (done : List (List ℕ)) (others : Frames) → length done ≤ to + 1 → (more : List (List ℕ)) × ((listed from to (behind_frames done others)).frames ≡ drop from done ++ more)
listed_more from to done others few = ⊎_elim
    (λ (l : length done < from). (
      take (to + 1 - from) (drop from (done ++ others.frames)),
      sym (ap (λ d. d ++ take (to + 1 - from) (drop from (done ++ others.frames))) (drop_all from done (omega arith))),
    ))
    (λ (g : from ≤ length done).
    let m = to + 1 - from - length (drop from done) in
    let count : length (drop from done) ≡ length done - from = length-drop from done in
    let parts : to + 1 - from ≡ length (drop from done) + m = omega (arith, count, few, g) in (
      take m others.frames,
      ap (take (to + 1 - from)) (drop-append-le from done others.frames g)
          ∙ ap (λ k. take k (drop from done ++ others.frames)) parts
          ∙ take-add (length (drop from done)) m (drop from done ++ others.frames)
          ∙ ap (λ d. d ++ take m (drop (length (drop from done)) (drop from done ++ others.frames))) (take_at (drop from done) others.frames (length (drop from done)) refl)
          ∙ ap (λ d. drop from done ++ take m d) (drop_at (drop from done) others.frames (length (drop from done)) refl),
    ))
    (cases_lt (length done) from)

-- texts grow with frames
pub text_more : (opening : List ℕ) (xs more : List (List ℕ)) → (bytes : List ℕ) × (text_of opening (xs ++ more) ≡ text_of opening xs ++ bytes)
text_more opening [] more = (text_of opening more, refl)
text_more opening (x ∷ xs) more = (flat_map frame more, ap (λ b. opening ++ b) (flat_map-append frame (x ∷ xs) more) ∙ sym (append_assoc opening (flat_map frame (x ∷ xs)) (flat_map frame more)))

pub text_push : (opening : List ℕ) (xs : List (List ℕ)) (samples : List ℕ) → text_of opening (xs ++ samples ∷ []) ≡ text_of opening xs ++ piece (nat_eq (length xs) 0) opening samples
text_push opening [] samples = ap (λ b. opening ++ b) (append-nil (frame samples))
text_push opening (x ∷ xs) samples =
    let front : List ℕ = flat_map frame (x ∷ xs) in
    ap (λ b. opening ++ b) (flat_map-append frame (x ∷ xs) (samples ∷ []))
    ∙ ap (λ t. opening ++ (front ++ t)) (append-nil (frame samples))
    ∙ sym (append_assoc opening front (frame samples))
    ∙ ap (λ b. (opening ++ front) ++ ((cond b opening []) ++ frame samples)) (sym (ne_eqb (suc (length xs)) 0 (omega arith)))

pub listed_push : (from : ℕ) (done : List (List ℕ)) (samples : List ℕ) → from ≤ length done → drop from (done ++ samples ∷ []) ≡ drop from done ++ samples ∷ []
listed_push from done samples le = drop-append-le from done (samples ∷ []) le

pub unlisted_push : (from : ℕ) (done : List (List ℕ)) (samples : List ℕ) → length done < from → drop from (done ++ samples ∷ []) ≡ drop from done
unlisted_push from done samples l = drop_all from (done ++ samples ∷ []) (omega (arith, length-append done (samples ∷ []))) ∙ sym (drop_all from done (omega arith))

pub fault_is : (f : FrameFault) → (f ≡ NoFrames → ⊥) → line_fault (Some f) ≡ why.Frames f
fault_is BadHeader h = refl
fault_is BadSize h = refl
fault_is NoFrames h = absurd (h refl)
fault_is (BadFrame n) h = refl
fault_is (BadSample n) h = refl
fault_is (TooLong n) h = refl
