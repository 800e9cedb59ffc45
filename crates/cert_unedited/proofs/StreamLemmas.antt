-- The steps of an unedited file write the bytes of its units.
use Rattle.std.proofs.Common.{◌≡◌, ℕ, ◌+◌, ◌/◌, ◌%◌, ◌≤◌, Bool, true, false, cond, eqb, List, [], ◌∷◌, ◌++◌, map, reverse, Option, None, Some, is_some, refl, sym, ap, ap₂, ◌∙◌, append_assoc, append-nil, arith}
use Rattle.std.specs.Prelude.{unwrap_or}
use Rattle.std.specs.List.{AllByRecursion, AllZip}
use Rattle.std.specs.Option.{option_map_or}
use Rattle.std.proofs.lemmas.Grind.{reverse_onto}
use Rattle.mv_terms.specs.declared.frame_header.FrameHeader.{FrameHeader}
use Rattle.mv_terms.specs.Ranges.{IsFrameHeader}
use Rattle.mv_terms.specs.UnitLists.{UnitLists}
use Rattle.mv_bits.specs.Zeros.{zero_bytes}
use Rattle.mv_heads.specs.HeadElements.{sequence_bytes}
use Rattle.mv_heads.specs.HeadsInTurn.{context_bytes}
use Rattle.mv_units.specs.Profile.{CodedUnit}
use Rattle.mv_units.specs.Written.{end_bytes, stream_of, unit_bytes}
use Rattle.rec_legal.specs.FoundRecord.{FoundRecord}
use Rattle.rec_legal.specs.Laws.{FoundIsFound, SaidIsLegal}
use Rattle.plan_window.specs.Fits.{PlanRefersToNearest, PlanStandsInOrder}
use Rattle.cert_picture.specs.Records.{flag}
use Rattle.cert_picture.specs.RecordLaws.{CertifiedComesFromSamples}
use Rattle.cert_picture.specs.FrameFileOf.{UnitFrame, frame_behind, frames_of}
use Rattle.cert_found.specs.RecordLaw.{RecordIsFound}
use Rattle.enc_guided.specs.Recoded.{CodedStep, FrameStep, Recoding, bytes_in_force, bytes_of_steps, coded_step, coded_steps, ending_of, has_end}
use Rattle.enc_guided.specs.FileSteps.{recoded_frames, recoding_by_records, stream_of_steps}
use Rattle.cert_chains.specs.Intact.{StreamPicture, pictures_in_stream}
use Rattle.cert_chains.specs.ComesBack.{original}
use Rattle.cert_chains.specs.Laws.{IntactIsKept}
use Rattle.cert_unedited.specs.Unedited.{HaveNoEnd, UneditedGivesStream, bytes_of_units}
use Rattle.cert_unedited.proofs.RunLemmas.{as_b, is_anchor_in}
use Rattle.cert_unedited.proofs.FrameLemmas.{AreInPlan, IsSound, is_planned, record_in_stream}
use Rattle.cert_unedited.proofs.IntactLemmas.{IsIntactAt, all_intact}
use Rattle.cert_unedited.proofs.CameBackLemmas.{IsAs, came_back, place, plan_order, steps_are}
use Rattle.cert_unedited.proofs.OriginalLemmas.{by_record, in_force_behind, no_glue_of, original_bytes, target_bytes}

-- what lower crates promise
pub record Laws : Type 0 where
  pub kept : IntactIsKept
  pub record_found : RecordIsFound
  pub found : FoundIsFound
  pub legal : SaidIsLegal
  pub certified : CertifiedComesFromSamples
  pub nearest : PlanRefersToNearest
  pub in_order : PlanStandsInOrder

-- ---- bytes of units

stream_more : (xs : List UnitLists) (x : UnitLists) → stream_of (xs ++ x ∷ []) ≡ stream_of xs ++ unit_bytes x
unfolding stream_of
stream_more [] x = append-nil (unit_bytes x)
stream_more (y ∷ xs) x = ap (λ l. unit_bytes y ++ l) (stream_more xs x) ∙ sym (append_assoc (unit_bytes y) (stream_of xs) (unit_bytes x))

unit_is : (u : UnitLists) → unit_bytes u ≡ original u ++ end_bytes u.end
unit_is u =
    let behind = end_bytes u.end in
    let zeros = zero_bytes u.zeros in
    sym (append_assoc u.prefix (u.head ++ (u.slices ++ zeros)) behind
    ∙ (ap (λ l. u.prefix ++ l) (append_assoc u.head (u.slices ++ zeros) behind
    ∙ ap (λ l. u.head ++ l) (append_assoc u.slices zeros behind))))

units_more : (u : CodedUnit) (us : List CodedUnit) → bytes_of_units (u ∷ us) ≡ bytes_of_units us ++ (original u.lists ++ end_bytes u.lists.end)
units_more u us =
    let lists = map (λ (v : CodedUnit). v.lists) us in
    ap stream_of (reverse_onto lists u.lists []) ∙ (stream_more (reverse lists) u.lists ∙ ap (λ l. stream_of (reverse lists) ++ l) (unit_is u.lists))

-- ---- the sequence part in force

abbrev pub lists_of : List CodedUnit → List UnitLists
lists_of us = map (λ u. u.lists) us

frame_lists : (us : List CodedUnit) → map (λ (f : UnitFrame). f.unit.lists) (frames_of us) ≡ lists_of us
unfolding frames_of frame_behind
frame_lists [] = refl
frame_lists (u ∷ before) = ap (λ ls. u.lists ∷ ls) (frame_lists before)

context_is : (p : StreamPicture) → (record_in_stream p).sheet.context ≡ context_bytes (p.unit.lists ∷ lists_of p.before)
context_is p = ap (λ ls. context_bytes (p.unit.lists ∷ ls)) (frame_lists p.before)

context_stays : (u : UnitLists) (before : List UnitLists) → sequence_bytes u.prefix ≡ None → context_bytes (u ∷ before) ≡ context_bytes before
unfolding context_bytes
context_stays u before none = ap (λ o. unwrap_or o (context_bytes before)) none

-- ---- one step

record StepIs (r : Recoding) (s : FrameStep) (before : List CodedStep) (p : StreamPicture) : Type 0 where
  bytes : (coded_step r s before).bytes ≡ original p.unit.lists
  in_force : bytes_in_force (coded_step r s before ∷ before) ≡ context_bytes (p.unit.lists ∷ lists_of p.before)

step_is : Laws → (r : Recoding) (s : FrameStep) (before : List CodedStep) (p : StreamPicture) → IsSound r.header p → IsAs p (coded_step r s before) → s.step.anchor ≡ is_anchor_in p
    → bytes_in_force before ≡ context_bytes (lists_of p.before) → StepIs r s before p
step_is laws r s before p sound back kind in_force =
    let g = record_in_stream p in
    let c = coded_step r s before in
    let b = by_record r s before g back.guided in
    let none : sequence_bytes p.unit.lists.prefix ≡ None → bytes_in_force before ≡ g.sheet.context
    = λ e. in_force ∙ (sym (context_stays p.unit.lists (lists_of p.before) e) ∙ sym (context_is p)) in
    let glue = no_glue_of r.header s.step.anchor g before kind (λ t e. none e) in
    record {
      bytes = b.bytes ∙ ap₂ (λ x y. x ++ y) glue
          (original_bytes laws.found laws.legal laws.certified r.header p c.coded.levels sound (ap (λ x. x.levels) back.coded));
      in_force = in_force_behind c before ∙ by (is_anchor_in p) refl;
    }
  where
    by : (t : Bool) → is_anchor_in p ≡ t → cond (coded_step r s before).anchor (coded_step r s before).target.bytes (bytes_in_force before) ≡ context_bytes (p.unit.lists ∷ lists_of p.before)
    by true t =
        let b = by_record r s before (record_in_stream p) back.guided in
        ap (λ x. cond x (coded_step r s before).target.bytes (bytes_in_force before)) (b.anchor ∙ (kind ∙ t))
        ∙ (ap (λ x. x.bytes) b.target ∙ (target_bytes r.header (record_in_stream p) before t ∙ context_is p))
    by false t =
        let b = by_record r s before (record_in_stream p) back.guided in
        ap (λ x. cond x (coded_step r s before).target.bytes (bytes_in_force before)) (b.anchor ∙ (kind ∙ t))
        ∙ (in_force ∙ sym (context_stays p.unit.lists (lists_of p.before) (as_b p.unit p.before sound.accepted.1 t).no_part))

-- ---- the end code

at_most : (b : Bool) (n : ℕ) → flag b n ≤ n
at_most true n = omega arith
at_most false n = omega arith

last_flag : (n : ℕ) (e : Bool) → n ≤ 15 → eqb ((n + flag e 16) / 16 % 2) 1 ≡ e
last_flag n true le = let h : (n + 16) / 16 % 2 ≡ 1 = omega (arith, le) in ap (λ m. eqb m 1) h
last_flag n false le = let h : (n + 0) / 16 % 2 ≡ 0 = omega (arith, le) in ap (λ m. eqb m 1) h

has_end_is : (p : StreamPicture) → has_end (record_in_stream p) ≡ is_some p.unit.lists.end
has_end_is p = end_flag _ _ _ _ (is_some p.unit.lists.end)
  where
    end_flag : (c u f b e : Bool) → eqb ((flag c 1 + flag u 2 + flag f 4 + flag b 8 + flag e 16) / 16 % 2) 1 ≡ e
    end_flag c u f b e =
        let mc = at_most c 1 in
        let mu = at_most u 2 in
        let mf = at_most f 4 in
        let mb = at_most b 8 in
        last_flag (flag c 1 + flag u 2 + flag f 4 + flag b 8) e (omega (arith, mc, mu, mf, mb))

ending_by : (end : Option ℕ) → cond (is_some end) (end_bytes (Some (unwrap_or end 0))) [] ≡ end_bytes end
ending_by None = refl
ending_by (Some n) = refl

ending_is : (c : CodedStep) (before : List CodedStep) (p : StreamPicture) → IsAs p c → ending_of (c ∷ before) ≡ end_bytes p.unit.lists.end
ending_is c before p back =
    ap (λ o. option_map_or (λ (r : FoundRecord). cond (has_end r) (end_bytes (Some r.sheet.n2)) []) o []) back.guided
    ∙ (ap (λ b. cond b (end_bytes (Some (unwrap_or p.unit.lists.end 0))) []) (has_end_is p) ∙ ending_by p.unit.lists.end)

-- ---- all steps

record IsWritten (r : Recoding) (steps : List FrameStep) (us : List CodedUnit) : Type 0 where
  bytes : bytes_of_steps (coded_steps r steps) ≡ bytes_of_units us
  in_force : bytes_in_force (coded_steps r steps) ≡ context_bytes (lists_of us)

nothing_written : (r : Recoding) → IsWritten r [] []
unfolding coded_steps context_bytes stream_of
nothing_written r = record { bytes = refl; in_force = refl }

one_more : Laws → (r : Recoding) (s : FrameStep) (steps : List FrameStep) (u : CodedUnit) (us : List CodedUnit) → u.lists.end ≡ None → IsWritten r steps us
    → StepIs r s (coded_steps r steps) (record { unit = u; before = us }) → IsWritten r (s ∷ steps) (u ∷ us)
unfolding coded_steps
one_more laws r s steps u us none so_far st = record {
  bytes = ap₂ (λ x y. x ++ y) so_far.bytes st.bytes
      ∙ (ap (λ x. bytes_of_units us ++ x) (sym (append-nil (original u.lists)) ∙ ap (λ e. original u.lists ++ end_bytes e) (sym none)) ∙ sym (units_more u us));
  in_force = st.in_force;
}

module _ (laws : Laws) (scale : ℕ) (header : FrameHeader) (frames : List (List ℕ)) (shown coded : List StreamPicture)
    (f : AreInPlan (recoding_by_records scale header) frames shown coded) (is_header : IsFrameHeader header) where
  abbrev r : Recoding
  r = recoding_by_records scale header

  abbrev AreIntact : List ℕ → List CodedUnit → Type 0
  AreIntact is us = AllZip (IsIntactAt laws.nearest laws.in_order r frames shown coded f) is (pictures_in_stream us)

  abbrev step_at_place : ℕ → FrameStep
  step_at_place = place laws.in_order r frames

  abbrev order : List ℕ
  order = plan_order laws.in_order r frames

  back_at : (later : List ℕ) (i : ℕ) (rest : List ℕ) (u : CodedUnit) (us : List CodedUnit) → order ≡ later ++ i ∷ rest → IsSound header (record { unit = u; before = us })
      → IsIntactAt laws.nearest laws.in_order r frames shown coded f i (record { unit = u; before = us })
      → IsAs (record { unit = u; before = us }) (coded_step r (step_at_place i) (coded_steps r (map step_at_place rest)))
  back_at later i rest u us e s h =
      came_back laws.in_order r frames later i rest (record { unit = u; before = us }) e (laws.kept scale header frames i (record { unit = u; before = us }) is_header s.accepted h.1)

  step_at_is : (later : List ℕ) (i : ℕ) (rest : List ℕ) (u : CodedUnit) (us : List CodedUnit) → order ≡ later ++ i ∷ rest → IsSound header (record { unit = u; before = us })
      → IsIntactAt laws.nearest laws.in_order r frames shown coded f i (record { unit = u; before = us })
      → IsWritten r (map step_at_place rest) us → StepIs r (step_at_place i) (coded_steps r (map step_at_place rest)) (record { unit = u; before = us })
  step_at_is later i rest u us e s h so_far =
      step_is laws r (step_at_place i) (coded_steps r (map step_at_place rest)) (record { unit = u; before = us }) s (back_at later i rest u us e s h)
      (f.anchors_are i (record { unit = u; before = us }) h.0) so_far.in_force

  written_from : (later is : List ℕ) (us : List CodedUnit) → order ≡ later ++ is → AreIntact is us → AllByRecursion (IsSound header) (pictures_in_stream us) → HaveNoEnd us
      → IsWritten r (map step_at_place is) us
  written_from later [] [] e z s n = nothing_written r
  written_from later [] (u ∷ us) e z s n = absurd z
  written_from later (i ∷ rest) [] e z s n = absurd z
  written_from later (i ∷ rest) (u ∷ us) e z s n =
      let more = written_from (later ++ i ∷ []) rest us (e ∙ sym (append_assoc later (i ∷ []) rest)) z.1 s.1 n.1 in
      one_more laws r (step_at_place i) (map step_at_place rest) u us n.0 more (step_at_is later i rest u us e s.0 z.0 more)

  whole : (is : List ℕ) (u : CodedUnit) (us : List CodedUnit) → order ≡ is → AreIntact is (u ∷ us) → AllByRecursion (IsSound header) (pictures_in_stream (u ∷ us)) → HaveNoEnd us
      → stream_of_steps (coded_steps r (map step_at_place is)) ≡ bytes_of_units (u ∷ us)
  unfolding coded_steps
  whole [] u us e z s n = absurd z
  whole (i ∷ rest) u us e z s n =
      let p : StreamPicture = record { unit = u; before = us } in
      let steps = map step_at_place rest in
      let c = coded_step r (step_at_place i) (coded_steps r steps) in
      let more = written_from (i ∷ []) rest us e z.1 s.1 n in
      let st = step_at_is [] i rest u us e s.0 z.0 more in
      ap₂ (λ x y. x ++ y) (ap₂ (λ x y. x ++ y) more.bytes st.bytes) (ending_is c (coded_steps r steps) p (back_at [] i rest u us e s.0 z.0))
      ∙ (append_assoc (bytes_of_units us) (original u.lists) (end_bytes u.lists.end) ∙ sym (units_more u us))

  pub gives_stream : (u : CodedUnit) (us : List CodedUnit) → coded ≡ pictures_in_stream (u ∷ us) → AllByRecursion (IsSound header) (pictures_in_stream (u ∷ us)) → HaveNoEnd us
      → recoded_frames r frames ≡ bytes_of_units (u ∷ us)
  gives_stream u us e s n =
      ap (λ steps. stream_of_steps (coded_steps r steps)) (steps_are laws.in_order r frames)
      ∙ whole order u us refl (all_intact laws.nearest laws.in_order r frames shown coded f (u ∷ us) e s) s n

pub unedited_gives_stream : Laws → UneditedGivesStream
unedited_gives_stream laws scale header frames last before is_header un =
    let x = is_planned laws.record_found scale header frames last before un in
    gives_stream laws scale header frames x.shown (pictures_in_stream (last ∷ before)) x.in_plan is_header last before refl x.sound un.no_end
