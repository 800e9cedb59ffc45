-- The steps of frames in the order of coding have the chains of the plan.
use Rattle.std.proofs.Common.{◌≡◌, ℕ, suc, ◌<◌, Bool, true, false, cond, ◌||◌, ◌&&◌, not, List, [], ◌∷◌, ◌++◌, length, map, drop, filter, get_or, option_map, Option, Some, None, refl, sym, ap, ap₂, ◌∙◌, arith}
use Rattle.std.proofs.lemmas.List.{length-map}
use Rattle.std.proofs.lemmas.Option.{slice_get-get_or}
use Rattle.std.specs.Option.{option_and_then, option_map_or}
use Rattle.plan_window.specs.Plan.{ahead, mode_at, step_at, anchors_before, first_anchor, group_before, coding_order}
use Rattle.plan_window.specs.Stands.{NoAnchor}
use Rattle.plan_window.proofs.ReferenceLemmas.{filter-map}
use Rattle.rec_legal.specs.FoundRecord.{FoundRecord}
use Rattle.rec_legal.specs.Conditions.{has_flag, uses_forward_flag}
use Rattle.enc_guided.specs.Recoded.{Recoding, FrameStep, guide_by}
use Rattle.enc_guided.specs.FileSteps.{step_of_frame, summary_in, summaries_in}
use Rattle.cert_chains.specs.Planned.{anchor_in, found_at}
use Rattle.cert_chains.specs.Chains.{says_certified, is_chain_of, has_forward_chain, has_chain}
use Rattle.plan_window.specs.declared.summary.Mode.{Mode}
use Rattle.plan_window.specs.declared.summary.Mode.TheVariants as mode
use Rattle.job_audit.specs.Audit.{said_by}
use Rattle.job_audit.specs.StepLines.{chain_behind, chain_by, chain_of_steps, anchors_of, last_chain, chain_before, step_has_chain}
use Rattle.job_audit.proofs.AnchorLemmas.{AllBelow, anchors_below, before_anchor, before_b, group_at, stay}

-- the step of frame i, and the steps of some frames
abbrev pub at : Recoding → List (List ℕ) → ℕ → FrameStep
at r frames i = step_of_frame frames (step_at ahead (summaries_in r frames) i)

abbrev pub steps : Recoding → List (List ℕ) → List ℕ → List FrameStep
steps r frames xs = map (at r frames) xs

-- the record in the frame of a step
pub found_here : (r : Recoding) (frames : List (List ℕ)) (i : ℕ) → i < length frames → r.find (get_or frames i []) ≡ found_at r frames i
found_here r frames i lt = sym (ap (option_and_then r.find) (slice_get-get_or frames i [] lt))

chain_cases : (m : Mode) (found : Option FoundRecord) (behind : Bool) → chain_by m (option_map said_by found) behind
    ≡ option_map_or says_certified (guide_by m found) false && (not (option_map_or (λ r. has_flag r.sheet uses_forward_flag) (guide_by m found) false) || behind)
chain_cases mode.Guided (Some r) behind = refl
chain_cases mode.Guided None behind = refl
chain_cases mode.Fresh found behind = refl

chain_steps : (r : Recoding) (frames : List (List ℕ)) (xs : List ℕ) → AllBelow (length frames) xs → chain_of_steps r (steps r frames xs) ≡ is_chain_of r frames xs
chain_steps r frames [] below = refl
chain_steps r frames (i ∷ xs) below =
    ap₂ (λ (found : Option FoundRecord) (b : Bool). chain_by (mode_at ahead (summaries_in r frames) i) (option_map said_by found) b)
    (found_here r frames i below.0) (chain_steps r frames xs below.1)
    ∙ chain_cases (mode_at ahead (summaries_in r frames) i) (found_at r frames i) (is_chain_of r frames xs)

anchors_are : (r : Recoding) (frames : List (List ℕ)) (xs : List ℕ) → anchors_of (steps r frames xs) ≡ steps r frames (filter (anchor_in r frames) xs)
anchors_are r frames xs = filter-map (at r frames) (λ s. s.step.anchor) (anchor_in r frames) (λ i. refl) xs

-- the step of an anchor
pub anchor_chain : (r : Recoding) (frames : List (List ℕ)) (m : ℕ) → m < length frames → anchor_in r frames m ≡ true →
    step_has_chain r (steps r frames (coding_order (anchor_in r frames) m)) (at r frames m) ≡ has_chain r frames m
anchor_chain r frames m lt e =
    ap (λ (b : Bool). cond b (chain_behind r (at r frames m) (last_chain r before)) (chain_behind r (at r frames m) (chain_before r before) && last_chain r before)) e
    ∙ ap (λ (l : List FrameStep). chain_of_steps r (at r frames m ∷ l)) (anchors_are r frames (coding_order anchor m) ∙ ap (steps r frames) (before_anchor anchor m e))
    ∙ chain_steps r frames (m ∷ anchors_before anchor m) (lt, anchors_below anchor (length frames) m (omega (arith, lt)))
    ∙ sym (and_true (has_forward_chain r frames m))
    ∙ sym (ap (λ (b : Bool). has_forward_chain r frames m && cond b true (option_map_or (has_forward_chain r frames) (first_anchor anchor (suc m) ahead) false)) e)
  where
    anchor : ℕ → Bool
    anchor = anchor_in r frames

    before : List FrameStep
    before = steps r frames (coding_order anchor m)

    and_true : (b : Bool) → (b && true) ≡ b
    and_true true = refl
    and_true false = refl

-- the step of a B in the group of an anchor
pub b_chain : (r : Recoding) (frames : List (List ℕ)) (m i : ℕ) → m < length frames → i < m → anchor_in r frames m ≡ true → NoAnchor (anchor_in r frames) i m →
    step_has_chain r (steps r frames (group_before (anchor_in r frames) i ++ m ∷ coding_order (anchor_in r frames) m)) (at r frames i) ≡ has_chain r frames i
b_chain r frames m i within lt e clear =
    ap (λ (b : Bool). cond b (chain_behind r (at r frames i) (last_chain r before)) (chain_behind r (at r frames i) (chain_before r before) && last_chain r before)) plain
    ∙ ap (λ (l : List FrameStep). chain_of_steps r (at r frames i ∷ drop 1 l) && chain_of_steps r l) (anchors_are r frames (group_before anchor i ++ m ∷ coding_order anchor m) ∙ ap (steps r frames) (before_b anchor i m e (omega (arith, lt)) clear))
    ∙ ap₂ (λ (a b : Bool). a && b) own groups
    ∙ sym (ap (λ (o : Option ℕ). has_forward_chain r frames i && option_map_or (has_forward_chain r frames) o false) (group_at (summaries_in r frames) m i (omega (arith, within, length-map frames (summary_in r))) lt e clear))
    ∙ sym (ap (λ (b : Bool). has_forward_chain r frames i && cond b true (option_map_or (has_forward_chain r frames) (first_anchor anchor (suc i) ahead) false)) plain)
  where
    anchor : ℕ → Bool
    anchor = anchor_in r frames

    before : List FrameStep
    before = steps r frames (group_before anchor i ++ m ∷ coding_order anchor m)

    plain : anchor i ≡ false
    plain = clear i (omega arith) lt

    own : chain_of_steps r (steps r frames (i ∷ anchors_before anchor i)) ≡ has_forward_chain r frames i
    own = chain_steps r frames (i ∷ anchors_before anchor i) (omega (arith, lt, within), anchors_below anchor (length frames) i (omega (arith, lt, within)))

    groups : chain_of_steps r (steps r frames (m ∷ anchors_before anchor i)) ≡ has_forward_chain r frames m
    groups = chain_steps r frames (m ∷ anchors_before anchor i) (within, anchors_below anchor (length frames) i (omega (arith, lt, within)))
        ∙ ap (λ (l : List ℕ). is_chain_of r frames (m ∷ l)) (sym (stay anchor i m (omega (arith, lt)) clear))
