-- The exits of the loop.
use Rattle.std.proofs.Common.{◌≡◌, ℕ, ◌+◌, ◌-◌, ◌%◌, ◌<◌, ◌≤◌, Bool, true, false, List, [], ◌∷◌, ◌++◌, length, take, drop, slice_get, Option, Some, None, Result, Ok, Err, refl, sym, ap, ◌∙◌, subst, inl, inr, append-nil, length-append, arith, OnOk, OnErr}
use Rattle.std.specs.Option.{ForSome}
use Rattle.std.proofs.lemmas.List.{length-map, length-drop, take_all}
use Rattle.std.specs.Io.KnownBytes.{Appends}
use Rattle.mv_ends.specs.Ends.{Ends}
use Rattle.mv_ends.specs.Endings.{ending_of}
use Rattle.mv_ends.specs.Moves.{AppendsFront, AppendsPart, Inputs, Opens, input_of}
use Rattle.mv_ends.proofs.Known.{Appends-trans}
use Rattle.mv_ends.proofs.SendLaws.{front_first, front_behind}
use Rattle.mv_terms.specs.declared.frame_header.FrameHeader.{FrameHeader}
use Rattle.mv_terms.specs.declared.status.FrameFault.{FrameFault}
use Rattle.mv_terms.specs.declared.status.Status.{Status}
use Rattle.mv_terms.specs.declared.status.Status.TheVariants as status
use Rattle.y4m_frames.specs.declared.halt.Halt.{Halt}
use Rattle.y4m_frames.specs.declared.halt.Halt.TheVariants as halts
use Rattle.y4m_frames.specs.Frames.{File, Frames, file_of, behind_frames}
use Rattle.y4m_frames.specs.Header.{file_header}
use Rattle.y4m_frames.specs.Reading.{Reading}
use Rattle.y4m_frames.specs.Behind.{IsBehind, HasFrames, AnswersBehind, frames_within, read_limit, up_to}
use Rattle.y4m_frames.proofs.BehindLaws.{begins_its_frames, header_faults_are_faults, reads_near}
use Rattle.plan_window.specs.declared.summary.Summary.{Summary}
use Rattle.plan_window.specs.declared.summary.Step.{Step}
use Rattle.plan_window.specs.Plan.{ahead}
use Rattle.plan_window.specs.State.{WindowState, count_pushed}
use Rattle.plan_window.specs.Stands.{StandsFor, MayFollow}
use Rattle.enc_guided.specs.Recoded.{FrameStep}
use Rattle.enc_guided.specs.FileSteps.{step_of_frame}
use Rattle.job_coding.specs.Codings.{Coding, summaries, bytes_of_coding, frame_steps, steps_of, output_of, first_steps}
use Rattle.job_coding.specs.Outcome.{HeaderCoding, AppendsSettled, IsNear, outcome_of, output_by, status_by, status_of, taken_of}
use Rattle.job_coding.specs.Steps.{EndsFile, FillsSlot}
use Rattle.job_coding.proofs.Growth.{Below, bytes_begin, steps_begin, few_steps, front_is_less}
use Rattle.job_coding.proofs.Turns.{Turn, Comes, NoStep, lag, all_pushed, frame_is, nothing_yet}

-- what was appended is at least what was written whole
appended_long : (p q : List ℕ) (old mid new : Option (List ℕ)) (b x : List ℕ) → old ≡ Some p → new ≡ Some q → Appends old mid b → AppendsFront mid new x → length b ≤ length (drop (length p) q)
appended_long p q old mid new b x o w written f =
    let all : Appends old new (b ++ f.front) = Appends-trans old mid new b f.front written f.grown in
    let is : q ≡ p ++ (b ++ f.front) = subst (λ (y : Option (List ℕ)). Appends (Some p) y (b ++ f.front)) w (subst (λ (y : Option (List ℕ)). Appends y new (b ++ f.front)) o all) in
    omega (arith, ap (λ (s : List ℕ). length s) is, length-append p (b ++ f.front), length-append b f.front, length-drop (length p) q)

ok_is : (r : Result File FrameFault) (x y : File) → r ≡ Ok x → r ≡ Ok y → x ≡ y
ok_is r x y e f = cc

-- What is known of a file whose first frames these are.
record Told (k : Coding) (coding : HeaderCoding) (file : List ℕ) (frames : List (List ℕ)) (ending : Option (Option FrameFault)) : Type 0 where
  others : List (List ℕ)
  fault : Option FrameFault
  line : List ℕ
  file_is : file_of file ≡ Ok (record { line = line; header = k.header; frames = record { frames = frames ++ others; fault = fault } })
  last : (f : Option FrameFault) → ending ≡ Some f → (others ≡ []) × (fault ≡ f)

-- what is written for the file
told_output : {k : Coding} {coding : HeaderCoding} {file : List ℕ} {frames : List (List ℕ)} {ending : Option (Option FrameFault)} → coding k.header ≡ k → (t : Told k coding file frames ending) → output_by coding (file_of file) ≡ output_of k (frames ++ t.others)
told_output {k} {coding} {file} {frames} {ending} is t = ap (output_by coding) t.file_is ∙ ap (λ (c : Coding). output_of c (frames ++ t.others)) is

comes_to : (k : Coding) (coding : HeaderCoding) (reader : Reading) (rest : Option (List ℕ)) (file : List ℕ) (frames : List (List ℕ)) (ending : Option (Option FrameFault)) → reader.header ≡ k.header → Comes reader rest file frames ending → Told k coding file frames ending
comes_to k coding reader rest file frames None header comes = go (begins_its_frames reader rest file frames comes)
  where
    go : (others : Frames) × HasFrames reader file (behind_frames frames others) → Told k coding file frames None
    go (others, has) = record {
      others = others.frames;
      fault = others.fault;
      line = reader.line;
      file_is = has ∙ ap (λ (h : FrameHeader). Ok (record { line = reader.line; header = h; frames = behind_frames frames others })) header;
      last = λ f e. absurd cc;
    }
comes_to k coding reader rest file frames (Some fault) header comes = record {
  others = [];
  fault = fault;
  line = reader.line;
  file_is = comes ∙ ap (λ (h : FrameHeader). Ok (record { line = reader.line; header = h; frames = up_to frames fault })) header
      ∙ ap (λ (fs : List (List ℕ)). Ok (record { line = reader.line; header = k.header; frames = up_to fs fault })) (sym (append-nil frames));
  last = λ f e. (refl, some_is fault f e);
}
  where
    some_is : (x y : Option FrameFault) → Some x ≡ Some y → x ≡ y
    some_is x y e = cc

-- whatever may follow in the file may follow in the window
may_follow : (k : Coding) (others : List (List ℕ)) (ending : Option (Option FrameFault)) (window : WindowState) → ((f : Option FrameFault) → ending ≡ Some f → others ≡ []) → (ending ≡ None → window.closed ≡ false) → MayFollow window.closed (summaries k others)
may_follow k others None window last is_open = λ closed. absurd (let no : true ≡ false = sym closed ∙ is_open refl in cc)
may_follow k others (Some fault) window last is_open = λ closed. ap (summaries k) (last fault refl)

module _ {k : Coding} {Codes : List (List ℕ) → List Summary → List FrameStep → Type 0} {Begins : List ℕ → Type 0} {reader : Reading} {rest : Option (List ℕ)} {window : WindowState} {slots : List (List ℕ)} {old mid : Option (List ℕ)} {count : ℕ} {ending : Option (Option FrameFault)} where
  told_of : (t : Turn k Codes Begins reader rest window slots old mid count ending) (coding : HeaderCoding) (file : List ℕ) → Begins file → Told k coding file t.frames ending
  told_of t coding file begins = comes_to k coding reader rest file t.frames ending t.header (t.told file begins)

  -- the file isn't read far ahead of what is written, where coding the next step failed
  near_at_step : (new : Option (List ℕ)) (x : List ℕ) → (t : Turn k Codes Begins reader rest window slots old mid count ending) → 0 < length t.frames → AppendsFront mid new x
      → (coding : HeaderCoding) (file : List ℕ) → coding k.header ≡ k → Begins file
      → (left : List ℕ) → rest ≡ Some left → (p : List ℕ) → old ≡ Some p → (q : List ℕ) → new ≡ Some q → IsNear coding file (length file - length left) (drop (length p) q)
  near_at_step new x t some front coding file coding_is begins left rest_is p o q w = λ f f_is s n few enough within.
      let told = told_of t coding file begins in
      let all : f ≡ record { line = told.line; header = k.header; frames = record { frames = t.frames ++ told.others; fault = told.fault } } = ok_is (file_of file) f _ f_is told.file_is in
      let frames_are : f.frames.frames ≡ t.frames ++ told.others = ap (λ (y : File). y.frames.frames) all in
      let k_is : coding f.header ≡ k = ap (λ (y : File). coding y.header) all ∙ coding_is in
      let first : first_steps (coding f.header) f.frames.frames (s + 1) ≡ first_steps k (t.frames ++ told.others) (s + 1) =
      ap (λ (c : Coding). first_steps c f.frames.frames (s + 1)) k_is ∙ ap (λ (fs : List (List ℕ)). first_steps k fs (s + 1)) frames_are in
      let long = appended_long p q old mid new (bytes_of_coding k (frame_steps t.frames t.given)) x o w t.written front in
      go told s n
      (subst (λ (y : List ℕ). length (drop (length p) q) < length y) first few)
      (subst (λ (y : List (List ℕ)). s + 17 ≤ length y) frames_are enough) within long
      (steps_begin k window t.frames t.numbered t.given t.stands t.same t.below told.others (may_follow k told.others ending window (λ fault e. (told.last fault e).0) t.goes_on))
    where
      by : (e : Option (Option FrameFault)) → ending ≡ e → (told : Told k coding file t.frames ending) (s n : ℕ) → length t.given ≤ s → s + 17 ≤ length (t.frames ++ told.others) → s + 17 ≤ frames_within file n → length file - length left < n + read_limit
      by None e told s n le enough within =
          let few : length t.frames ≤ length t.given + 17 = subst (λ (y : Option (Option FrameFault)). length t.frames ≤ length t.given + lag y) e t.few in
          let behind : IsBehind reader rest file t.frames = subst (λ (y : Option (Option FrameFault)). Comes reader rest file t.frames y) e (t.told file begins) in
          reads_near reader rest file t.frames n behind (λ none. let z : length t.frames ≡ 0 = ap length none in omega (arith, z, some)) (omega (arith, few, le, within)) left rest_is
      by (Some fault) e told s n le enough within = absurd (
          let few : length t.frames ≤ length t.given + 16 = subst (λ (y : Option (Option FrameFault)). length t.frames ≤ length t.given + lag y) e t.few in
          let none : told.others ≡ [] = (told.last fault e).0 in
          omega (arith, few, le, enough, length-append t.frames told.others, ap length none))

      go : (told : Told k coding file t.frames ending) (s n : ℕ) → length (drop (length p) q) < length (first_steps k (t.frames ++ told.others) (s + 1)) → s + 17 ≤ length (t.frames ++ told.others) → s + 17 ≤ frames_within file n
          → length (bytes_of_coding k (frame_steps t.frames t.given)) ≤ length (drop (length p) q)
          → (later : List FrameStep) × (steps_of k (t.frames ++ told.others) ≡ later ++ frame_steps t.frames t.given) → length file - length left < n + read_limit
      go told s n few enough within long (later, e) =
          let steps = frame_steps t.frames t.given in
          let more : length (drop (length p) q) < length (bytes_of_coding k (drop (length (later ++ steps) - (s + 1)) (later ++ steps))) =
          subst (λ (cs : List FrameStep). length (drop (length p) q) < length (bytes_of_coding k (drop (length cs - (s + 1)) cs))) e few in
          let given : length steps ≤ s = few_steps k later steps s (length (drop (length p) q)) long more in
          by ending refl told s n (omega (arith, given, length-map t.given (step_of_frame t.frames))) enough within

  -- coding a step failed
  pub exit_step : (next : WindowState) (new : Option (List ℕ)) (s : Step) (frame : List ℕ) → (t : Turn k Codes Begins reader rest window slots old mid count ending)
      → StandsFor ahead next t.numbered (s ∷ t.given) → (window.first ≤ s.frame) × (s.frame < count_pushed window) → next.closed ≡ window.closed → slice_get slots (s.frame % 17) ≡ Some frame
      → AppendsFront mid new (k.bytes (frame_steps t.frames t.given) (record { step = s; frame = frame }))
      → (coding : HeaderCoding) (file : List ℕ) → coding k.header ≡ k → Begins file → EndsFile coding file rest old new status.WriteFault
  exit_step next new s frame t after among closed at front coding file coding_is begins = record {
    ends = subst (λ (x : List ℕ). AppendsFront old new x) (sym (told_output coding_is told)) (go (bytes_begin k next t.frames t.numbered (s ∷ t.given) after t.same below told.others may));
    settled = λ failed. absurd (not_read failed);
    near = λ failed left rest_is p o q w. near_at_step new (k.bytes (frame_steps t.frames t.given) (record { step = s; frame = frame })) t (omega (arith, lt)) front coding file coding_is begins left rest_is p o q w;
  }
    where
      not_read : status.WriteFault ≡ status.ReadFault → ⊥
      not_read e = cc

      told : Told k coding file t.frames ending
      told = told_of t coding file begins

      lt : s.frame < length t.frames
      lt = let all = all_pushed t in omega (arith, among.1, all)

      below : Below (s ∷ t.given) (length t.frames)
      below = (lt, t.below)

      may : MayFollow next.closed (summaries k told.others)
      may = may_follow k told.others ending next (λ fault e. (told.last fault e).0) (λ e. closed ∙ t.goes_on e)

      sent : AppendsFront mid new (k.bytes (frame_steps t.frames t.given) (step_of_frame t.frames s))
      sent = subst (λ (c : FrameStep). AppendsFront mid new (k.bytes (frame_steps t.frames t.given) c)) (sym (frame_is t s frame among at)) front

      go : (b : List ℕ) × (output_of k (t.frames ++ told.others) ≡ bytes_of_coding k (frame_steps t.frames (s ∷ t.given)) ++ b) → AppendsFront old new (output_of k (t.frames ++ told.others))
      go (b, e) = subst (λ (x : List ℕ). AppendsFront old new x) (sym e)
          (front_first old new (bytes_of_coding k (frame_steps t.frames (s ∷ t.given))) b
          (front_behind old mid new (bytes_of_coding k (frame_steps t.frames t.given)) (k.bytes (frame_steps t.frames t.given) (step_of_frame t.frames s)) t.written sent))

-- where all frames were read

nothing_held : (window : WindowState) → window.closed ≡ true → NoStep window → window.held ≡ []
nothing_held window shut (inl few) = absurd (let no : true ≡ false = sym shut ∙ few.1 in cc)
nothing_held window shut (inr none) = none

-- the status is that of the file
ends_by : (rest old : Option (List ℕ)) (f : Option FrameFault) (coding : HeaderCoding) (file : List ℕ) (new : Option (List ℕ)) → status_by (file_of file) ≡ status_of f → Appends old new (output_by coding (file_of file)) → EndsFile coding file rest old new (status_of f)
ends_by rest old None coding file new is sent = record {
  ends = (sym is, sent);
  settled = λ failed. absurd (not_read failed);
  near = λ failed. absurd (not_write failed);
}
  where
    not_read : status.Done ≡ status.ReadFault → ⊥
    not_read e = cc

    not_write : status.Done ≡ status.WriteFault → ⊥
    not_write e = cc
ends_by rest old (Some f) coding file new is sent = record {
  ends = (sym is, sent);
  settled = λ failed. absurd (not_read failed);
  near = λ failed. absurd (not_write failed);
}
  where
    not_read : status.Frames f ≡ status.ReadFault → ⊥
    not_read e = cc

    not_write : status.Frames f ≡ status.WriteFault → ⊥
    not_write e = cc

module _ {k : Coding} {Codes : List (List ℕ) → List Summary → List FrameStep → Type 0} {Begins : List ℕ → Type 0} {reader : Reading} {rest : Option (List ℕ)} {window : WindowState} {slots : List (List ℕ)} {old mid : Option (List ℕ)} {count : ℕ} {fault : Option FrameFault} where
  -- all steps were given
  all_steps : (t : Turn k Codes Begins reader rest window slots old mid count (Some fault)) → NoStep window → frame_steps t.frames t.given ≡ steps_of k t.frames
  all_steps t none =
      let whole = t.laws.whole window t.numbered t.given t.stands (nothing_held window (t.shut fault refl) none) in
      ap (frame_steps t.frames) (whole ∙ sym (t.laws.serve (summaries k t.frames) t.numbered t.same))

  -- the file has no further frame
  pub all_frames : (t : Turn k Codes Begins reader rest window slots old mid count (Some fault)) (coding : HeaderCoding) (file : List ℕ) → Begins file → file_of file ≡ Ok (record { line = reader.line; header = k.header; frames = up_to t.frames fault })
  all_frames t coding file begins = t.told file begins ∙ ap (λ (h : FrameHeader). Ok (record { line = reader.line; header = h; frames = up_to t.frames fault })) t.header

  output_is : (t : Turn k Codes Begins reader rest window slots old mid count (Some fault)) → NoStep window → (coding : HeaderCoding) (file : List ℕ) → coding k.header ≡ k → Begins file
      → bytes_of_coding k (frame_steps t.frames t.given) ++ k.ending (frame_steps t.frames t.given) ≡ output_by coding (file_of file)
  output_is t none coding file coding_is begins =
      ap (λ (cs : List FrameStep). bytes_of_coding k cs ++ k.ending cs) (all_steps t none)
      ∙ ap (λ (c : Coding). output_of c t.frames) (sym coding_is)
      ∙ ap (output_by coding) (sym (all_frames t coding file begins))

  -- the output was ended
  pub exit_ended : (new : Option (List ℕ)) (result : Status) → (t : Turn k Codes Begins reader rest window slots old mid count (Some fault)) → NoStep window → Appends mid new (k.ending (frame_steps t.frames t.given)) → result ≡ status_of fault
      → (coding : HeaderCoding) (file : List ℕ) → coding k.header ≡ k → Begins file → EndsFile coding file rest old new result
  exit_ended new result t none sent is coding file coding_is begins =
      let whole = Appends-trans old mid new (bytes_of_coding k (frame_steps t.frames t.given)) (k.ending (frame_steps t.frames t.given)) t.written sent in
      subst (λ (st : Status). EndsFile coding file rest old new st) (sym is)
      (ends_by rest old fault coding file new (ap status_by (all_frames t coding file begins)) (subst (λ (x : List ℕ). Appends old new x) (output_is t none coding file coding_is begins) whole))

  -- ending the output failed
  pub exit_unended : (new : Option (List ℕ)) → (t : Turn k Codes Begins reader rest window slots old mid count (Some fault)) → NoStep window → AppendsFront mid new (k.ending (frame_steps t.frames t.given))
      → (coding : HeaderCoding) (file : List ℕ) → coding k.header ≡ k → Begins file → EndsFile coding file rest old new status.WriteFault
  exit_unended new t none front coding file coding_is begins = record {
    ends = subst (λ (x : List ℕ). AppendsFront old new x) (output_is t none coding file coding_is begins)
        (front_behind old mid new (bytes_of_coding k (frame_steps t.frames t.given)) (k.ending (frame_steps t.frames t.given)) t.written front);
    settled = λ failed. absurd (not_read failed);
    near = λ failed left rest_is p o q w f f_is s n few enough within. absurd (
        let all : f ≡ record { line = reader.line; header = k.header; frames = up_to t.frames fault } = ok_is (file_of file) f _ f_is (all_frames t coding file begins) in
        let steps = frame_steps t.frames t.given in
        let first : first_steps (coding f.header) f.frames.frames (s + 1) ≡ bytes_of_coding k (drop (length steps - (s + 1)) steps) =
        ap (λ (y : File). first_steps (coding y.header) y.frames.frames (s + 1)) all ∙ ap (λ (c : Coding). first_steps c t.frames (s + 1)) coding_is
        ∙ ap (λ (cs : List FrameStep). bytes_of_coding k (drop (length cs - (s + 1)) cs)) (sym (all_steps t none)) in
        let long = appended_long p q old mid new (bytes_of_coding k steps) (k.ending steps) o w t.written front in
        let less = front_is_less k (length steps - (s + 1)) steps in
        omega (arith, long, less, few, ap length first));
  }
    where
      not_read : status.WriteFault ≡ status.ReadFault → ⊥
      not_read e = cc

-- reading failed

module _ {k : Coding} {Codes : List (List ℕ) → List Summary → List FrameStep → Type 0} {Begins : List ℕ → Type 0} {reader : Reading} {rest : Option (List ℕ)} {window : WindowState} {slots : List (List ℕ)} {old new : Option (List ℕ)} {count : ℕ} where
  -- what was written begins the stream of the frames read and of any that may follow
  settled_yet : (t : Turn k Codes Begins reader rest window slots old new count None) → (more : List (List ℕ)) → AppendsPart old new (output_of k (t.frames ++ more))
  settled_yet t more = go (bytes_begin k window t.frames t.numbered t.given t.stands t.same t.below more (λ closed. absurd (let no : true ≡ false = sym closed ∙ t.goes_on refl in cc)))
    where
      go : (b : List ℕ) × (output_of k (t.frames ++ more) ≡ bytes_of_coding k (frame_steps t.frames t.given) ++ b) → AppendsPart old new (output_of k (t.frames ++ more))
      go (b, e) = record { front = bytes_of_coding k (frame_steps t.frames t.given); back = b; parts = e; grown = t.written }

module _ {k : Coding} {Codes : List (List ℕ) → List Summary → List FrameStep → Type 0} {Begins : List ℕ → Type 0} {reader reader_new : Reading} {rest rest_new : Option (List ℕ)} {window : WindowState} {slots slots_new : List (List ℕ)} {old new : Option (List ℕ)} {count : ℕ} {result : Result Bool Halt} where
  pub exit_read : (t : Turn k Codes Begins reader rest window slots old new count None) → FillsSlot slots slots_new count reader reader_new rest rest_new result → result ≡ Err halts.Read
      → (coding : HeaderCoding) (file : List ℕ) → coding k.header ≡ k → Begins file → EndsFile coding file rest_new old new status.ReadFault
  exit_read t fills failed coding file coding_is begins = record {
    ends = (
      length file,
      let told = comes_to k coding reader rest file t.frames None t.header (t.told file begins) in
          let all : take (length file) file ≡ file = take_all (length file) file (omega arith) in
          subst (λ (x : List ℕ). AppendsPart old new x) (sym (ap (λ (b : List ℕ). output_by coding (file_of b)) all ∙ told_output coding_is told)) (settled_yet t told.others),
    );
    settled = λ same left left_is. go left (said left left_is);
    near = λ other. absurd (not_write other);
  }
    where
      not_write : status.ReadFault ≡ status.WriteFault → ⊥
      not_write e = cc

      said : ForSome rest_new (λ left. (fault : Option FrameFault) × HasFrames reader (taken_of file left) (up_to t.frames fault))
      said = subst (λ (r : Result Bool Halt). AnswersBehind reader reader_new rest_new file t.frames fills.frame r) failed (fills.answers file t.frames (t.told file begins))

      go : (left : List ℕ) → (fault : Option FrameFault) × HasFrames reader (taken_of file left) (up_to t.frames fault) → AppendsSettled coding (file_of (taken_of file left)) old new
      go left (fault, has) =
          let k_is : coding reader.header ≡ k = ap coding t.header ∙ coding_is in
          subst (λ (r : Result File FrameFault). AppendsSettled coding r old new) (sym has)
          (λ more. subst (λ (c : Coding). AppendsPart old new (output_of c (t.frames ++ more))) (sym k_is) (settled_yet t more))

-- what a call says of its result

pub on_ok : {T E A : Type 0} (result : Result T E) (x : T) → OnOk result A → result ≡ Ok x → A
on_ok {T} {E} {A} result x h is = subst (λ (r : Result T E). OnOk r A) is h

pub on_err : {T E A : Type 0} (result : Result T E) (x : E) → OnErr result A → result ≡ Err x → A
on_err {T} {E} {A} result x h is = subst (λ (r : Result T E). OnErr r A) is h

-- what a select opened

pub opened_is : (named : Option Inputs) (rest : Option (List ℕ)) (inputs : Inputs) (name : List ℕ) → named ≡ Some inputs → Opens named name rest → rest ≡ Some (input_of inputs name)
opened_is named None inputs name e h = absurd (subst (λ (o : Option Inputs). Opens o name None) e h)
opened_is named (Some bytes) inputs name e h = ap (λ b. Some b) (subst (λ (o : Option Inputs). Opens o name (Some bytes)) e h)

-- no reader starts
pub exit_unstarted : (coding : HeaderCoding) (file : List ℕ) (fault : FrameFault) (old : Option (List ℕ)) → file_header file ≡ Err fault → Ends (outcome_of coding file) (ending_of (status.Frames fault)) old old
exit_unstarted coding file fault old refused =
    let bad = header_faults_are_faults file fault refused in
    (sym (ap status_by bad), subst (λ (r : Result File FrameFault). Appends old old (output_by coding r)) (sym bad) (nothing_yet old))
