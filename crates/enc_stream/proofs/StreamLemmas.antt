-- Steps are written as a stream: units one behind the other, each accepted behind those before it.
use Rattle.std.proofs.Common.{◌≡◌, ℕ, suc, ◌≤◌, Bool, true, false, List, [], ◌∷◌, ◌++◌, length, map, Option, None, Some, inl, refl, sym, ap, ◌∙◌, subst, arith}
use Rattle.std.specs.Prelude.{if◌then◌else◌}
use Rattle.std.specs.Option.{option_map_or}
use mathlib.Core.List.{reverse_aux}
use Rattle.mv_terms.specs.declared.status.Why.{Why}
use Rattle.mv_terms.specs.Ranges.{IsFrameHeader, IsScaleCode}
use Rattle.mv_terms.specs.UnitLists.{UnitLists}
use Rattle.mv_heads.specs.declared.sequence_header.CodedSize.{CodedSize}
use Rattle.mv_heads.specs.declared.head_state.Heads.{Heads}
use Rattle.mv_heads.specs.HeadsInTurn.{after}
use Rattle.mv_units.specs.Profile.{Accepts, CodedUnit, HasUnitsIn, Judged, JudgedTo, heads_in}
use Rattle.mv_units.specs.Written.{end_bytes}
use Rattle.mv_recon.specs.Decoded.{decoded_behind, pictures_of}
use Rattle.rec_legal.specs.FoundRecord.{FoundRecord}
use Rattle.rec_legal.specs.Conditions.{file_size}
use Rattle.plan_window.specs.Fits.{IsInGroup, Planned, since_anchor}
use Rattle.plan_window.specs.Plan.{ahead}
use Rattle.enc_glue.specs.Joined.{with_end, written}
use Rattle.enc_guided.specs.Recoded.{CodedStep, FrameStep, Recoding, Target, bytes_of_steps, coded_step, coded_steps, ending_of, has_end, in_force, pictures_of_steps}
use Rattle.enc_guided.specs.FileSteps.{stream_of_steps}
use Rattle.enc_guided.specs.Stands.{AreSteps, IsStep, last_zeros, planned_by, zeros_by}
use Rattle.enc_stream.specs.Stream.{AreAnchorsWhereRecorded, IsAnchorWhereRecorded, IsStreamOf, coded_by_steps, NoStepsAreNothing, StepsAreStream, StepsHaveTheirPictures, StreamsAreInProfile}
use Rattle.enc_stream.proofs.FrontLemmas.{IsPart, Laws}
use Rattle.enc_stream.proofs.UnitLemmas.{AreAccepted, Standing, lists_of, since, since_more}
use Rattle.enc_stream.proofs.StandLemmas.{stand_first, stand_next}
use Rattle.enc_stream.proofs.StepLemmas.{backward_is, coded_by}

-- ---- the pictures

pub steps_have_their_pictures : StepsHaveTheirPictures
unfolding coded_steps coded_step pictures_of
steps_have_their_pictures r [] = refl
steps_have_their_pictures r (s ∷ before) = ap (λ ps. decoded_behind ps (coded_step r s (coded_steps r before)).coded ∷ ps) (steps_have_their_pictures r before)

pub no_steps_are_nothing : NoStepsAreNothing
unfolding coded_steps
no_steps_are_nothing r = refl

-- ---- how many Bs

planned_more : (p : Planned) (rest : List Planned) (a : Bool) → p.step.anchor ≡ a → length (since_anchor (p ∷ rest)) ≡ (if a then 0 else suc (length (since_anchor rest)))
planned_more p rest true e = rw e refl
planned_more p rest false e = rw e refl

coded_anchor : (r : Recoding) (s : FrameStep) (done : List CodedStep) → (coded_step r s done).anchor ≡ s.step.anchor
unfolding coded_step
coded_anchor r s done = refl

since_same : (r : Recoding) (steps : List FrameStep) → since (coded_steps r steps) ≡ length (since_anchor (map (planned_by r) steps))
unfolding coded_steps
since_same r [] = refl
since_same r (s ∷ before) =
    let done : List CodedStep = coded_steps r before in
    let a : Bool = s.step.anchor in
    since_more (coded_step r s done) done a (coded_anchor r s done)
    ∙ ap (λ (n : ℕ). if a then 0 else suc n) (since_same r before)
    ∙ sym (planned_more (planned_by r s) (map (planned_by r) before) a refl)

ahead_is : ahead ≡ 16
unfolding ahead
ahead_is = refl

-- ---- all steps

none_before : (r : Recoding) → (t : Target) → in_force (coded_steps r []) ≡ Some t → IsPart (file_size r.header) t
unfolding coded_steps
none_before r t e = absurd cc

stand_one : (laws : Laws) (r : Recoding) → IsFrameHeader r.header → IsScaleCode r.scale → (s : FrameStep) → IsStep r [] s → IsAnchorWhereRecorded r s → (a : Bool) → s.step.anchor ≡ a → Standing (file_size r.header) (coded_step r s [] ∷ [])
unfolding coded_steps
stand_one laws r is_header is_scale s f none true a = stand_first laws r s (coded_by laws r is_header is_scale s [] f none (none_before r)) a
stand_one laws r is_header is_scale s f none false a =
    let p : Planned = planned_by r s in
    absurd (subst (λ (o : Option Planned). IsInGroup o p) (backward_is p [] a) (f.fits.group a))

in_force_part : (size : CodedSize) (done : List CodedStep) → Standing size done → (t : Target) → in_force done ≡ Some t → IsPart size t
in_force_part size done stands t e = subst (λ (x : Target). IsPart size x) (some_is stands.target t (sym stands.target_is ∙ e)) stands.part
  where
    some_is : (x y : Target) → Some x ≡ Some y → x ≡ y
    some_is x y e = cc

stand_more : (laws : Laws) (r : Recoding) → IsFrameHeader r.header → IsScaleCode r.scale → (s : FrameStep) (before : List FrameStep) → IsStep r before s → IsAnchorWhereRecorded r s → Standing (file_size r.header) (coded_steps r before)
    → Standing (file_size r.header) (coded_step r s (coded_steps r before) ∷ coded_steps r before)
stand_more laws r is_header is_scale s before f none stands =
    let done : List CodedStep = coded_steps r before in
    stand_next laws r s done stands (coded_by laws r is_header is_scale s before f none (in_force_part (file_size r.header) done stands))
    (λ a. omega (arith, since_same r before, f.fits.few a, ahead_is)) s.step.anchor refl

all_stand : (laws : Laws) (r : Recoding) → IsFrameHeader r.header → IsScaleCode r.scale → (s : FrameStep) (before : List FrameStep) → AreSteps r (s ∷ before) → AreAnchorsWhereRecorded r (s ∷ before)
    → Standing (file_size r.header) (coded_steps r (s ∷ before))
unfolding coded_steps
all_stand laws r is_header is_scale s [] f none = stand_one laws r is_header is_scale s f.0 none.0 s.step.anchor refl
all_stand laws r is_header is_scale s (b ∷ before) f none =
    stand_more laws r is_header is_scale s (b ∷ before) f.0 none.0 (all_stand laws r is_header is_scale b before f.1 none.1)

-- ---- the stream

-- what is accepted in turn is judged so
judged_to : (units : List CodedUnit) (later : List UnitLists) (refusal : Option Why) (judged : Judged) → AreAccepted units → JudgedTo units later refusal judged → JudgedTo [] (reverse_aux (lists_of units) later) refusal judged
judged_to [] later refusal judged are h = h
judged_to (u ∷ before) later refusal judged are h = judged_to before (u.lists ∷ later) refusal judged are.0 (inl (u, are.1, h))

-- an end code behind the last unit
ended_by : (g : FoundRecord) (b : Bool) → (if b then end_bytes (Some g.sheet.n2) else []) ≡ end_bytes (if b then Some g.sheet.n2 else None)
ended_by g true = refl
ended_by g false = refl

ending_by : (o : Option FoundRecord) → option_map_or (λ (g : FoundRecord). if has_end g then end_bytes (Some g.sheet.n2) else []) o [] ≡ end_bytes (zeros_by o)
ending_by None = refl
ending_by (Some g) = ended_by g (has_end g)

ending_is : (done : List CodedStep) → ending_of done ≡ end_bytes (last_zeros done)
ending_is [] = refl
ending_is (s ∷ before) = ending_by s.guide

abbrev ended : Option ℕ → CodedUnit → CodedUnit
ended end u = record { lists = with_end end u.lists; accepted = u.accepted; picture = u.picture }

end_accepted : (end : Option ℕ) (before : Option Heads) (u : CodedUnit) → Accepts before u.lists u → Accepts before (with_end end u.lists) (ended end u)
unfolding after
end_accepted end before u a = record { lists_are = refl; headers = a.headers; head = a.head; slices = a.slices }

stands_as_stream : (laws : Laws) (size : CodedSize) (done : List CodedStep) → Standing size done → pictures_of_steps done ≡ pictures_of (coded_by_steps done) → IsStreamOf done (stream_of_steps done)
stands_as_stream laws size done s pictures =
    let end : Option ℕ = last_zeros done in
    let last : CodedUnit = ended end s.last in
    let others : List UnitLists = lists_of s.before in
    let judgement : Judged = record { units = last ∷ s.before; refusal = None } in
    let bytes : written (s.last.lists ∷ others) ++ end_bytes end ≡ stream_of_steps done =
    ap (λ (x : List ℕ). x ++ end_bytes end) s.written_is ∙ ap (λ (x : List ℕ). bytes_of_steps done ++ x) (sym (ending_is done)) in
    record {
      units = last ∷ s.before;
      in_profile = λ room fits.
          let found = laws.joined room end s.last.lists others s.are_open (subst (λ (x : List ℕ). length x ≤ room) (sym bytes) fits) in
          let accepted : AreAccepted (last ∷ s.before) = (s.accepted.0, end_accepted end (heads_in s.before) s.last s.accepted.1) in
          let judged = judged_to (last ∷ s.before) [] None judgement accepted refl in
          subst (λ (x : List ℕ). HasUnitsIn room x judgement) bytes
          (subst (λ f. JudgedTo [] (f.units) (f.refusal) judgement) (sym found) judged);
      coded = s.coded;
      decoded = ap pictures_of s.coded ∙ sym pictures;
    }

pub steps_are_stream : Laws → StepsAreStream
steps_are_stream laws r s before is_header is_scale f none = stands_as_stream laws (file_size r.header) (coded_steps r (s ∷ before)) (all_stand laws r is_header is_scale s before f none) (steps_have_their_pictures r (s ∷ before))

-- the length of a stream is room enough for it
pub streams_are_in_profile : StreamsAreInProfile
streams_are_in_profile steps bytes is = (record { units = is.units; refusal = None }, is.in_profile (length bytes) (omega arith), refl)
