-- The lines that steps give come in the order of the frames.
use Rattle.std.proofs.Common.{◌≡◌, ◌⊎◌, ℕ, zero, suc, ◌<◌, ◌≤◌, Bool, true, false, cond, List, [], ◌∷◌, ◌++◌, length, map, Option, Some, option_map, refl, sym, ap, ap₂, ◌∙◌, inl, inr, append_assoc, append-nil, arith}
use Rattle.std.proofs.lemmas.List.{length-map}
use Rattle.std.proofs.lemmas.Simd.{map-map}
use Rattle.std.proofs.lemmas.Bool.{cases_lt}
use Rattle.std.specs.Option.{option_map_or}
use Rattle.plan_window.specs.Plan.{ahead, mode_at, step_at, group_before, coding_order}
use Rattle.plan_window.specs.Stands.{NoAnchor}
use Rattle.rec_legal.specs.FoundRecord.{FoundRecord}
use Rattle.enc_guided.specs.Recoded.{Recoding, FrameStep}
use Rattle.enc_guided.specs.FileSteps.{step_of_frame, summary_in, summaries_in}
use Rattle.cert_chains.specs.Planned.{anchor_in}
use Rattle.cert_chains.specs.Chains.{has_chain}
use Rattle.job_coding.specs.Codings.{bytes_of_coding, output_of, steps_of}
use Rattle.job_audit.specs.declared.line.Line.{Line}
use Rattle.job_audit.specs.Audit.{audit_line, audit_text, first_lines, line_text, said_by}
use Rattle.job_audit.specs.StepLines.{audit_by, step_has_chain, step_line, waiting_line, waiting_text}
use Rattle.job_audit.proofs.AnchorLemmas.{last_is_anchor}
use Rattle.job_audit.proofs.ChainLemmas.{anchor_chain, at, b_chain, found_here, steps}

-- what the steps of some frames give
abbrev given : Recoding → List (List ℕ) → List ℕ → List ℕ
given r frames xs = bytes_of_coding (audit_by r) (steps r frames xs)

-- the text of the line of frame i, and the lines of the Bs that stand directly before frame n
abbrev line_at : Recoding → List (List ℕ) → ℕ → List ℕ
line_at r frames i = line_text (audit_line r frames i)

abbrev group_lines : Recoding → List (List ℕ) → ℕ → List ℕ
group_lines r frames zero = []
group_lines r frames (suc n) = cond (anchor_in r frames n) [] (group_lines r frames n ++ line_at r frames n)

-- a step with the chain of its frame gives the line of the frame
line_here : (r : Recoding) (frames : List (List ℕ)) (before : List FrameStep) (i : ℕ) → i < length frames → step_has_chain r before (at r frames i) ≡ has_chain r frames i → step_line r before (at r frames i) ≡ audit_line r frames i
line_here r frames before i lt chain =
    let line : Option FoundRecord → Bool → Line = λ found word. record { frame = i; found = option_map said_by found; mode = mode_at ahead (summaries_in r frames) i; has_chain = word } in
    ap₂ line (found_here r frames i lt) chain

-- the Bs of a group leave the line that waits
group_waits : (r : Recoding) (frames : List (List ℕ)) (n : ℕ) (xs : List ℕ) → waiting_line r (steps r frames (group_before (anchor_in r frames) n ++ xs)) ≡ waiting_line r (steps r frames xs)
group_waits r frames zero xs = refl
group_waits r frames (suc n) xs = go (anchor_in r frames n) refl (group_waits r frames n xs)
  where
    go : (b : Bool) → anchor_in r frames n ≡ b → waiting_line r (steps r frames (group_before (anchor_in r frames) n ++ xs)) ≡ waiting_line r (steps r frames xs)
        → waiting_line r (steps r frames (cond b [] (n ∷ group_before (anchor_in r frames) n) ++ xs)) ≡ waiting_line r (steps r frames xs)
    go true e more = refl
    go false e more =
        let rest = steps r frames (group_before (anchor_in r frames) n ++ xs) in
        ap (λ (b : Bool). cond b (Some (step_line r rest (at r frames n))) (waiting_line r rest)) e ∙ more

-- and give their own
group_text : (r : Recoding) (frames : List (List ℕ)) (m : ℕ) → anchor_in r frames m ≡ true → m < length frames → (k : ℕ) → k ≤ m → NoAnchor (anchor_in r frames) k m →
    given r frames (group_before (anchor_in r frames) k ++ m ∷ coding_order (anchor_in r frames) m) ≡ given r frames (m ∷ coding_order (anchor_in r frames) m) ++ group_lines r frames k
group_text r frames m e lt zero le clear = sym (append-nil (given r frames (m ∷ coding_order (anchor_in r frames) m)))
group_text r frames m e lt (suc k) le clear = go (anchor_in r frames k) refl (group_text r frames m e lt k)
  where
    all : List ℕ
    all = m ∷ coding_order (anchor_in r frames) m

    rest : List ℕ
    rest = group_before (anchor_in r frames) k ++ all

    go : (b : Bool) → anchor_in r frames k ≡ b → (k ≤ m → NoAnchor (anchor_in r frames) k m → given r frames (group_before (anchor_in r frames) k ++ m ∷ coding_order (anchor_in r frames) m) ≡ given r frames (m ∷ coding_order (anchor_in r frames) m) ++ group_lines r frames k)
        → given r frames (cond b [] (k ∷ group_before (anchor_in r frames) k) ++ m ∷ coding_order (anchor_in r frames) m)
        ≡ given r frames (m ∷ coding_order (anchor_in r frames) m) ++ cond b [] (group_lines r frames k ++ line_at r frames k)
    go true p more = sym (append-nil (given r frames all))
    go false p more =
        let clear_k : NoAnchor (anchor_in r frames) k m = λ j b c. by j b c (cases_lt k j) in
        let chain = b_chain r frames m k lt (omega arith) e clear_k in
        let line = line_here r frames (steps r frames rest) k (omega (arith, le, lt)) chain in
        ap (λ (b : Bool). given r frames rest ++ cond b (waiting_text r (steps r frames rest)) (line_text (step_line r (steps r frames rest) (at r frames k)))) p
        ∙ ap₂ (λ (x : List ℕ) (l : Line). x ++ line_text l) (more (omega arith) clear_k) line
        ∙ append_assoc (given r frames all) (group_lines r frames k) (line_at r frames k)
      where
        by : (j : ℕ) → k ≤ j → j < m → (k < j) ⊎ (j ≤ k) → anchor_in r frames j ≡ false
        by j b c (inl h) = clear j h c
        by j b c (inr h) = let f : j ≡ k = omega arith in rw f p

-- What was given, the line that waits and the lines of the Bs that wait are the lines so far.
text_so_far : (r : Recoding) (frames : List (List ℕ)) (n : ℕ) → n ≤ length frames →
    (given r frames (coding_order (anchor_in r frames) n) ++ waiting_text r (steps r frames (coding_order (anchor_in r frames) n))) ++ group_lines r frames n ≡ first_lines r frames n
text_so_far r frames zero le = refl
text_so_far r frames (suc n) le = go (anchor_in r frames n) refl (text_so_far r frames n (omega arith))
  where
    order : List ℕ
    order = coding_order (anchor_in r frames) n

    go : (b : Bool) → anchor_in r frames n ≡ b
        → (given r frames (coding_order (anchor_in r frames) n) ++ waiting_text r (steps r frames (coding_order (anchor_in r frames) n))) ++ group_lines r frames n ≡ first_lines r frames n
        → (given r frames (cond b (group_before (anchor_in r frames) n ++ n ∷ coding_order (anchor_in r frames) n) (coding_order (anchor_in r frames) n))
        ++ waiting_text r (steps r frames (cond b (group_before (anchor_in r frames) n ++ n ∷ coding_order (anchor_in r frames) n) (coding_order (anchor_in r frames) n)))) ++ cond b [] (group_lines r frames n ++ line_at r frames n)
        ≡ first_lines r frames n ++ line_at r frames n
    go false e more =
        sym (append_assoc (given r frames order ++ waiting_text r (steps r frames order)) (group_lines r frames n) (line_at r frames n))
        ∙ ap (λ (x : List ℕ). x ++ line_at r frames n) more
    go true e more =
        let text = group_text r frames n e (omega arith) n (omega arith) (λ j b c. absurd (omega arith)) in
        let own : given r frames (n ∷ order) ≡ given r frames order ++ waiting_text r (steps r frames order) =
        ap (λ (b : Bool). given r frames order ++ cond b (waiting_text r (steps r frames order)) (line_text (step_line r (steps r frames order) (at r frames n)))) e in
        let line = line_here r frames (steps r frames order) n (omega arith) (anchor_chain r frames n (omega arith) e) in
        let waits : waiting_text r (steps r frames (group_before (anchor_in r frames) n ++ n ∷ order)) ≡ line_at r frames n =
        ap (λ (o : Option Line). option_map_or line_text o []) (group_waits r frames n (n ∷ order) ∙ ap (λ (b : Bool). cond b (Some (step_line r (steps r frames order) (at r frames n))) (waiting_line r (steps r frames order))) e ∙ ap (λ (l : Line). Some l) line) in
        append-nil _ ∙ ap₂ (λ (x y : List ℕ). x ++ y) (text ∙ ap (λ (x : List ℕ). x ++ group_lines r frames n) own ∙ more) waits

-- the last frame is an anchor, so no B waits
none_waits : (r : Recoding) (frames : List (List ℕ)) (n : ℕ) → n ≡ length frames → group_lines r frames n ≡ []
none_waits r frames zero e = refl
none_waits r frames (suc n) e = ap (λ (b : Bool). cond b [] (group_lines r frames n ++ line_at r frames n)) (last_is_anchor (summaries_in r frames) n (omega (arith, e, length-map frames (summary_in r))))

-- the audit of the frames
pub in_order : (r : Recoding) (frames : List (List ℕ)) → output_of (audit_by r) frames ≡ audit_text r frames
in_order r frames =
    let order = coding_order (anchor_in r frames) in
    let is : steps_of (audit_by r) frames ≡ steps r frames (order (length frames)) =
    ap (λ (n : ℕ). map (step_of_frame frames) (map (step_at ahead (summaries_in r frames)) (order n))) (length-map frames (summary_in r))
    ∙ map-map (step_of_frame frames) (step_at ahead (summaries_in r frames)) (order (length frames)) in
    ap (λ (s : List FrameStep). bytes_of_coding (audit_by r) s ++ waiting_text r s) is
    ∙ sym (append-nil _)
    ∙ ap (λ (x : List ℕ). (given r frames (order (length frames)) ++ waiting_text r (steps r frames (order (length frames)))) ++ x) (sym (none_waits r frames (length frames) refl))
    ∙ text_so_far r frames (length frames) (omega arith)
