-- How a stream ends.
use Rattle.std.proofs.Common.{◌≡◌, ◌≤◌, ◌<◌, ℕ, ◌+◌, ◌-◌, Bool, true, false, List, [], ◌∷◌, ◌++◌, length, take, drop, Option, None, Some, inl, inr, refl, sym, ap, ◌∙◌, subst, append_assoc, append-nil, arith}
use Rattle.std.proofs.lemmas.List.{length-append, length-drop, take_at}
use Rattle.std.specs.Io.KnownBytes.{Appends, IsAtEnd, Keeps}
use Rattle.mv_ends.specs.Ends.{Outcome, Ends, open_fault}
use Rattle.mv_ends.specs.Kept.{KeepsSink}
use Rattle.mv_ends.specs.Moves.{Inputs, input_of, AppendsFront}
use Rattle.mv_ends.specs.Told.{SinkTold}
use Rattle.mv_ends.proofs.Known.{Appends-trans, Keeps-Appends, keeps_sink_trans}
use Rattle.mv_ends.proofs.Parts.{none_of, all_of}
use Rattle.mv_ends.proofs.SendLaws.{front_first, front_behind}
use Rattle.mv_terms.specs.declared.status.Why.{Why}
use Rattle.mv_terms.specs.declared.status.Status.{Status}
use Rattle.mv_terms.specs.declared.status.Status.TheVariants as status
use Rattle.mv_terms.specs.UnitLists.{UnitLists}
use Rattle.mv_slices.specs.Slices.{IsCodedOrRefused}
use Rattle.mv_units.specs.declared.cutter.Cut.TheVariants as cuts
use Rattle.mv_units.specs.declared.walk.Next.{Next}
use Rattle.mv_units.specs.declared.walk.Next.TheVariants.{More, Ready, Refused}
use Rattle.mv_units.specs.Units.{Units, Fed, cut_at, cut_of, next_of, ready_unit, behind_ready, units_left, Settles, open_stream}
use Rattle.mv_units.specs.Profile.{CodedUnit, Judged, HasUnits, Accepts, Refuses, heads_in}
use Rattle.cert_picture.specs.FrameFileOf.{frame_behind, frames_of, gives, due, held_frame, file_front, frame_file_of, due_to}
use Rattle.cert_picture.proofs.FrameFileLaws.{due_next, due_grows, file_is_due_and_held}
use Rattle.job_decode.specs.declared.work.Work.{Work}
use Rattle.job_decode.specs.Stream.{IsOutcome, status_by, outcome_of, units_shown, first_units, TakesNear}
use Rattle.job_decode.specs.Steps.{WorkStands, Takes, Finishes, EndsStream}
use Rattle.job_decode.proofs.OutcomeLaws.{each_has_one}
use Rattle.job_decode.proofs.Growth.{first_are, few_units}
use Rattle.job_decode.proofs.Turns.{Turn, begins, settled, wrong, fed_next, follows, judged_next}

-- ---- the bytes appended

appended_long : (p q : List ℕ) (mid : Option (List ℕ)) (b x : List ℕ) → Appends (Some p) mid b → AppendsFront mid (Some q) x → length b ≤ length (drop (length p) q)
appended_long p q mid b x written f =
    let all : q ≡ p ++ (b ++ f.front) = Appends-trans (Some p) mid (Some q) b f.front written f.grown in
    omega (arith, ap (λ (s : List ℕ). length s) all, length-append p (b ++ f.front), length-append b f.front, length-drop (length p) q)

pub due_is_appended : (old mid new : Option (List ℕ)) (p q b x : List ℕ) → old ≡ Some p → new ≡ Some q → Appends old mid b → AppendsFront mid new x → length b ≤ length (drop (length p) q)
due_is_appended old mid new p q b x o n written f =
    appended_long p q mid b x (subst (λ (s : Option (List ℕ)). Appends s mid b) o written) (subst (λ (s : Option (List ℕ)). AppendsFront mid s x) n f)

-- ---- the frame that is held is written, or isn't

-- the whole frame file is written
all_written : (before : List CodedUnit) (old mid new : Option (List ℕ)) → Appends old mid (due before) → Appends mid new (held_frame before) → Appends old new (frame_file_of before)
all_written before old mid new written last =
    subst (λ (s : List ℕ). Appends old new s) (sym (file_is_due_and_held before)) (Appends-trans old mid new (due before) (held_frame before) written last)

front_written : (before : List CodedUnit) (old mid new : Option (List ℕ)) → Appends old mid (due before) → AppendsFront mid new (held_frame before) → AppendsFront old new (frame_file_of before)
front_written before old mid new written last =
    subst (λ (s : List ℕ). AppendsFront old new s) (sym (file_is_due_and_held before)) (front_behind old mid new (due before) (held_frame before) written last)

-- the status that is due
ends_whole : (named : Option Inputs) (name : List ℕ) (rest old new : Option (List ℕ)) (before : List CodedUnit) (refusal : Option Why)
    → ((inputs : Inputs) → named ≡ Some inputs → HasUnits (input_of inputs name) (record { units = before; refusal = refusal }))
    → (refusal ≡ None → IsAtEnd rest) → Appends old new (frame_file_of before) → EndsStream named name rest old new (status_by refusal (length before))
ends_whole named name rest old new before None has end written = record {
  kind = tt;
  ends = λ inputs told. (outcome_of (input_of inputs name) (record { units = before; refusal = None }), (record { units = before; refusal = None }, has inputs told, refl), (refl, written));
  done = λ e. end refl;
  no_memory = λ e. absurd cc;
  read_part = λ e. absurd cc;
  near = λ e. absurd cc;
}
ends_whole named name rest old new before (Some why) has end written = record {
  kind = tt;
  ends = λ inputs told. (outcome_of (input_of inputs name) (record { units = before; refusal = Some why }), (record { units = before; refusal = Some why }, has inputs told, refl), (refl, written));
  done = λ e. absurd cc;
  no_memory = λ e. absurd cc;
  read_part = λ e. absurd cc;
  near = λ e. absurd cc;
}

-- a write failed
ends_by_write : (named : Option Inputs) (name : List ℕ) (rest old new : Option (List ℕ))
    → ((inputs : Inputs) → named ≡ Some inputs → (judged : Judged) × HasUnits (input_of inputs name) judged × AppendsFront old new (frame_file_of judged.units))
    → TakesNear name named rest old new → EndsStream named name rest old new status.WriteFault
ends_by_write named name rest old new has near = record {
  kind = tt;
  ends = λ inputs told. (let h = has inputs told in (outcome_of (input_of inputs name) h.0, (h.0, h.1, refl), h.2));
  done = λ e. absurd cc;
  no_memory = λ e. absurd cc;
  read_part = λ e. absurd cc;
  near = λ e. near;
}

-- all that is due was written, and no more frames are needed
pub finished : (named : Option Inputs) (name : List ℕ) (rest : Option (List ℕ)) (work : Option Work) (before : List CodedUnit) (refusal : Option Why) (count : ℕ) (answer result : Status) (old mid new : Option (List ℕ))
    → ((inputs : Inputs) → named ≡ Some inputs → HasUnits (input_of inputs name) (record { units = before; refusal = refusal }))
    → (refusal ≡ None → IsAtEnd rest) → answer ≡ status_by refusal count → count ≡ length before → WorkStands work before → Appends old mid (due before)
    → Finishes work answer result mid new → EndsStream named name rest old new result
finished named name rest work before refusal count answer result old mid new has end is count_is stands written (inl h) =
    subst (λ (s : Status). EndsStream named name rest old new s) (sym (h.0 ∙ (is ∙ ap (λ (n : ℕ). status_by refusal n) count_is)))
    (ends_whole named name rest old new before refusal has end (all_written before old mid new written (h.1 before stands)))
finished named name rest work before refusal count answer result old mid new has end is count_is stands written (inr h) =
    subst (λ (s : Status). EndsStream named name rest old new s) (sym h.0)
    (ends_by_write named name rest old new
    (λ inputs told. (record { units = before; refusal = refusal }, has inputs told, front_written before old mid new written (h.1 before stands)))
    (λ inputs told left rest_is p o q n. (
      record { units = before; refusal = refusal },
      has inputs told,
      λ m k few more within. absurd (
          let long = due_is_appended old mid new p q (due before) (held_frame before) o n written (h.1 before stands) in
          let most = few_units [] before m (drop (length p) q) long few in
          omega (arith, most, more)),
    )))

-- ---- the exits of the loop

pub cut_settled : (named : Option Inputs) (name : List ℕ) (rest : Option (List ℕ)) (fed : Fed) (unfed : List ℕ) (work : Option Work) (count : ℕ) (result : Status) (old mid new : Option (List ℕ)) (why : Why) → Turn named name rest fed unfed work count old mid
    → Settles fed (cuts.Refused why) → Finishes work (status.Unit count why) result mid new → EndsStream named name rest old new result
cut_settled named name rest fed unfed work count result old mid new why t settles finishes =
    finished named name rest work t.before (Some why) count (status.Unit count why) result old mid new
    (λ inputs told. settled (input_of inputs name) rest fed unfed t.is_fed.past t.let_go t.before (Some why) t.are_judged (settles t.is_fed.past t.let_go t.is_fed.stands) (t.is_fed.told inputs told))
    (λ e. absurd cc) refl t.count_is t.stands t.written finishes

closed_at : (closed : Bool) (next : Next) → cut_at closed next ≡ cuts.Ended → closed ≡ true
closed_at true next h = refl
closed_at false More h = absurd cc
closed_at false (Ready f) h = absurd cc
closed_at false (Refused why) h = absurd cc

pub cut_ended : (named : Option Inputs) (name : List ℕ) (rest : Option (List ℕ)) (fed : Fed) (unfed : List ℕ) (work : Option Work) (count : ℕ) (result : Status) (old mid new : Option (List ℕ)) → Turn named name rest fed unfed work count old mid
    → cut_of fed ≡ cuts.Ended → Settles fed cuts.Ended → Finishes work status.Done result mid new → EndsStream named name rest old new result
cut_ended named name rest fed unfed work count result old mid new t is settles finishes =
    finished named name rest work t.before None count status.Done result old mid new
    (λ inputs told. settled (input_of inputs name) rest fed unfed t.is_fed.past t.let_go t.before None t.are_judged (settles t.is_fed.past t.let_go t.is_fed.stands) (t.is_fed.told inputs told))
    (λ e. t.is_fed.at_end (closed_at fed.closed (next_of fed) is)) refl t.count_is t.stands t.written finishes

-- a unit is refused
pub unit_refused : (named : Option Inputs) (name : List ℕ) (rest : Option (List ℕ)) (fed : Fed) (unfed : List ℕ) (work later : Option Work) (count : ℕ) (lists : UnitLists) (result : Status) (old mid mid' new : Option (List ℕ)) (why : Why) → (t : Turn named name rest fed unfed work count old mid)
    → cut_of fed ≡ cuts.Ready → lists ≡ ready_unit fed → Refuses (heads_in t.before) lists why → WorkStands later t.before → mid' ≡ mid
    → Finishes later (status.Unit count why) result mid' new → EndsStream named name rest old new result
unit_refused named name rest fed unfed work later count lists result old mid mid' new why t ready is refuses stands same finishes =
    let next = fed_next named name rest fed unfed t.let_go ready t.is_fed in
    let because : Refuses (heads_in t.before) (ready_unit fed) why = subst (λ (x : UnitLists). Refuses (heads_in t.before) x why) is refuses in
    finished named name rest later t.before (Some why) count (status.Unit count why) result old mid new
    (λ inputs told. wrong (input_of inputs name) rest (behind_ready fed) unfed next.past t.let_go t.before (ready_unit fed) why t.are_judged next.stands (next.told inputs told) because)
    (λ e. absurd cc) refl t.count_is stands t.written (subst (λ (s : Option (List ℕ)). Finishes later (status.Unit count why) result s new) same finishes)

-- memory is wanting before the first unit
nothing_kept : (old new : Option (List ℕ)) → Appends old new [] → Keeps old new
nothing_kept None new h = tt
nothing_kept (Some p) None h = absurd h
nothing_kept (Some p) (Some q) h = h ∙ append-nil p

none_due : (old new : Option (List ℕ)) (before : List CodedUnit) → before ≡ [] → Appends old new (due before) → Keeps old new
unfolding frames_of due_to
none_due old new before is written = nothing_kept old new (subst (λ (us : List CodedUnit). Appends old new (due us)) is written)

pub no_memory : IsCodedOrRefused → (named : Option Inputs) (name : List ℕ) (rest old new : Option (List ℕ)) → Keeps old new → EndsStream named name rest old new status.NoMemory
no_memory law named name rest old new keeps = record {
  kind = tt;
  ends = λ inputs told. (let one = each_has_one law (input_of inputs name) in (one.outcome, one.is, none_of old new one.outcome.output keeps));
  done = λ e. absurd cc;
  no_memory = λ e. keeps;
  read_part = λ e. absurd cc;
  near = λ e. absurd cc;
}

pub no_memory_yet : IsCodedOrRefused → (named : Option Inputs) (name : List ℕ) (rest : Option (List ℕ)) (fed : Fed) (unfed : List ℕ) (work : Option Work) (count : ℕ) (old mid new : Option (List ℕ)) → (t : Turn named name rest fed unfed work count old mid)
    → t.before ≡ [] → new ≡ mid → EndsStream named name rest old new status.NoMemory
no_memory_yet law named name rest fed unfed work count old mid new t none same =
    no_memory law named name rest old new (subst (λ (s : Option (List ℕ)). Keeps old s) (sym same) (none_due old mid t.before none t.written))

-- what is due to a unit can't be written
front_further : (before more : List CodedUnit) (u : CodedUnit) (old mid new : Option (List ℕ)) → Appends old mid (due before) → AppendsFront mid new (gives (frames_of before) (frame_behind (frames_of before) u))
    → AppendsFront old new (frame_file_of (more ++ u ∷ before))
front_further before more u old mid new written front =
    let grows = due_grows more (u ∷ before) in
    let back = grows.0 ++ held_frame (more ++ u ∷ before) in
    let file : frame_file_of (more ++ u ∷ before) ≡ due (u ∷ before) ++ back =
    file_is_due_and_held (more ++ u ∷ before) ∙ (ap (λ (s : List ℕ). s ++ held_frame (more ++ u ∷ before)) grows.1 ∙ append_assoc (due (u ∷ before)) grows.0 (held_frame (more ++ u ∷ before))) in
    subst (λ (s : List ℕ). AppendsFront old new s) (sym file)
    (front_first old new (due (u ∷ before)) back
    (subst (λ (s : List ℕ). AppendsFront old new s) (sym (due_next before u))
    (front_behind old mid new (due before) (gives (frames_of before) (frame_behind (frames_of before) u)) written front)))

pub unit_unwritten : IsCodedOrRefused → (named : Option Inputs) (name : List ℕ) (rest : Option (List ℕ)) (fed : Fed) (unfed : List ℕ) (work : Option Work) (count : ℕ) (lists : UnitLists) (old mid new : Option (List ℕ)) → (t : Turn named name rest fed unfed work count old mid)
    → cut_of fed ≡ cuts.Ready → lists ≡ ready_unit fed → Takes t.before lists (AppendsFront mid new) → EndsStream named name rest old new status.WriteFault
unit_unwritten law named name rest fed unfed work count lists old mid new t ready is takes =
    let u = takes.unit in
    let next = fed_next named name rest fed unfed t.let_go ready t.is_fed in
    let accepts : Accepts (heads_in t.before) (ready_unit fed) u = subst (λ (x : UnitLists). Accepts (heads_in t.before) x u) is takes.accepts in
    let judged = judged_next t.let_go t.before (ready_unit fed) u t.are_judged accepts in
    ends_by_write named name rest old new
    (λ inputs told. (
    let b = begins law (input_of inputs name) rest (behind_ready fed) unfed next.past (t.let_go ++ ready_unit fed ∷ []) (u ∷ t.before) judged next.stands (next.told inputs told) in
    (b.judged, b.has, subst (λ (us : List CodedUnit). AppendsFront old new (frame_file_of us)) (sym b.units_are) (front_further t.before b.more u old mid new t.written takes.moves))))
    (λ inputs told left rest_is p o q n. (
    let b = begins law (input_of inputs name) rest (behind_ready fed) unfed next.past (t.let_go ++ ready_unit fed ∷ []) (u ∷ t.before) judged next.stands (next.told inputs told) in (
      b.judged,
      b.has,
      λ m k few more within. (
          let long = due_is_appended old mid new p q (due t.before) (gives (frames_of t.before) (frame_behind (frames_of t.before) u)) o n t.written takes.moves in
          let units : b.judged.units ≡ (b.more ++ u ∷ []) ++ t.before = b.units_are ∙ sym (append_assoc b.more (u ∷ []) t.before) in
          let most = few_units (b.more ++ u ∷ []) t.before m (drop (length p) q) long (subst (λ (us : List CodedUnit). length (drop (length p) q) < length (file_front (m + 1) (frames_of us))) units few) in
          let taken = t.is_fed.told inputs told in
          let f = follows (input_of inputs name) t.is_fed.past unfed fed rest (length t.let_go) taken in
          let so_many : length t.before ≡ length t.let_go = t.same_count in
          let near = taken.near k (omega (arith, most, within, so_many)) in
          let same : f.left ≡ left = (let e : Some f.left ≡ Some left = sym f.rest_is ∙ rest_is in cc) in
          omega (arith, near, ap (λ (s : List ℕ). length s) f.input_is, ap (λ (s : List ℕ). length s) same, length-append t.is_fed.past (unfed ++ f.left), length-append unfed f.left, length-append t.is_fed.past unfed)),
    )))

-- reading failed, where the cutter waits for bytes and all are fed
given_is : (input past left : List ℕ) (let_go : List UnitLists) (before more : List CodedUnit) (judged : Judged) → input ≡ past ++ left → units_left (open_stream past) ≡ record { units = let_go; refusal = None } → length before ≡ length let_go
    → judged.units ≡ more ++ before → (outcome_of input judged).given (length input - length left) ≡ due before
given_is input past left let_go before more judged is waits so_many units_are =
    let n : length input - length left ≡ length past = omega (arith, ap (λ (s : List ℕ). length s) is, length-append past left) in
    let front : take (length input - length left) input ≡ past = ap (λ (k : ℕ). take k input) n ∙ (ap (λ (s : List ℕ). take (length past) s) is ∙ take_at past left (length past) refl) in
    let shown : units_shown input (length input - length left) ≡ length before =
    ap (λ (s : List ℕ). length (units_left (open_stream s)).units) front ∙ (ap (λ (us : Units). length us.units) waits ∙ sym so_many) in
    ap (λ (k : ℕ). due (first_units k judged.units)) shown
    ∙ (ap (λ (us : List CodedUnit). due (first_units (length before) us)) units_are ∙ ap due (first_are more before))

pub unread : IsCodedOrRefused → (named : Option Inputs) (name : List ℕ) (rest : Option (List ℕ)) (fed : Fed) (unfed : List ℕ) (work : Option Work) (count : ℕ) (old new : Option (List ℕ)) → (t : Turn named name rest fed unfed work count old new)
    → Settles fed cuts.More → unfed ≡ [] → EndsStream named name rest old new status.ReadFault
unread law named name rest fed unfed work count old new t settles empty =
    let waits = settles t.is_fed.past t.let_go t.is_fed.stands in
    let so_many : length t.before ≡ length t.let_go = t.same_count in
    record {
      kind = tt;
      ends = λ inputs told. (
          let taken = t.is_fed.told inputs told in
          let b = begins law (input_of inputs name) rest fed unfed t.is_fed.past t.let_go t.before t.are_judged t.is_fed.stands taken in
          let f = follows (input_of inputs name) t.is_fed.past unfed fed rest (length t.let_go) taken in
          let all : input_of inputs name ≡ t.is_fed.past ++ f.left = f.input_is ∙ ap (λ (s : List ℕ). t.is_fed.past ++ (s ++ f.left)) empty in (
            outcome_of (input_of inputs name) b.judged,
            (b.judged, b.has, refl),
            (
              length (input_of inputs name) - length f.left,
              all_of old new ((outcome_of (input_of inputs name) b.judged).given (length (input_of inputs name) - length f.left)) (subst (λ (s : List ℕ). Appends old new s)
                  (sym (given_is (input_of inputs name) t.is_fed.past f.left t.let_go t.before b.more b.judged all waits so_many b.units_are)) t.written),
            ),
          ));
      done = λ e. absurd cc;
      no_memory = λ e. absurd cc;
      read_part = λ e inputs told left rest_is. (
          let taken = t.is_fed.told inputs told in
          let b = begins law (input_of inputs name) rest fed unfed t.is_fed.past t.let_go t.before t.are_judged t.is_fed.stands taken in
          let f = follows (input_of inputs name) t.is_fed.past unfed fed rest (length t.let_go) taken in
          let same : f.left ≡ left = (let e : Some f.left ≡ Some left = sym f.rest_is ∙ rest_is in cc) in
          let all : input_of inputs name ≡ t.is_fed.past ++ left = f.input_is ∙ (ap (λ (s : List ℕ). t.is_fed.past ++ (s ++ f.left)) empty ∙ ap (λ (s : List ℕ). t.is_fed.past ++ s) same) in (
            outcome_of (input_of inputs name) b.judged,
            (b.judged, b.has, refl),
            subst (λ (s : List ℕ). Appends old new s)
                (sym (given_is (input_of inputs name) t.is_fed.past left t.let_go t.before b.more b.judged all waits so_many b.units_are)) t.written,
          ));
      near = λ e. absurd cc;
    }

-- ---- nothing is written

kept : (bytes : Option (List ℕ)) → Keeps bytes bytes
kept None = tt
kept (Some x) = refl

pub nothing_yet : IsCodedOrRefused → (named : Option Inputs) (name : List ℕ) (rest old : Option (List ℕ)) → EndsStream named name rest old old status.NoMemory
nothing_yet law named name rest old = no_memory law named name rest old old (kept old)

pub not_opened : IsCodedOrRefused → (input : List ℕ) (old : Option (List ℕ)) → (outcome : Outcome Status) × IsOutcome input outcome × Ends outcome open_fault old old
not_opened law input old =
    let one = each_has_one law input in
    (one.outcome, one.is, (0, subst (λ (xs : List ℕ). Appends old old xs) (sym (ap (λ (o : Outcome Status). o.at_open 0) one.is.2)) (Keeps-Appends old old (kept old))))

-- ---- what is kept of the sink

appends_same : (a b : Option (List ℕ)) → b ≡ a → Appends a b []
appends_same a b same = subst (λ (s : Option (List ℕ)). Appends a s []) (sym same) (Keeps-Appends a a (kept a))

pub keeps_sink_still : (a b c : SinkTold) (x : List ℕ) → KeepsSink a b → KeepsSink b c → Appends a.written b.written x → c.written ≡ b.written → KeepsSink a c
keeps_sink_still a b c x first then written none = keeps_sink_trans a b c x [] first then written (appends_same b.written c.written none)

finishes_some : (work : Option Work) (before : List CodedUnit) (answer result : Status) (old new : Option (List ℕ)) → WorkStands work before → Finishes work answer result old new → (bytes : List ℕ) × Appends old new bytes
finishes_some work before answer result old new stands (inl h) = (held_frame before, h.1 before stands)
finishes_some work before answer result old new stands (inr h) = let f = h.1 before stands in (f.front, f.grown)

pub exit_keeps_sink : (a b c : SinkTold) (x : List ℕ) (work : Option Work) (before : List CodedUnit) (answer result : Status) → KeepsSink a b → KeepsSink b c → Appends a.written b.written x
    → WorkStands work before → Finishes work answer result b.written c.written → KeepsSink a c
exit_keeps_sink a b c x work before answer result first then written stands finishes =
    let some = finishes_some work before answer result b.written c.written stands finishes in
    keeps_sink_trans a b c x some.0 first then written some.1

pub still_written : (a b c : Option (List ℕ)) (x : List ℕ) → Appends a b x → c ≡ b → Appends a c x
still_written a b c x written same = subst (λ (s : Option (List ℕ)). Appends a s x) (sym same) written
