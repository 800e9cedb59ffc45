-- What the loop keeps, and its turns.
use Rattle.std.proofs.Common.{◌≡◌, ◌≢◌, ◌⊎◌, ℕ, zero, suc, ◌+◌, ◌%◌, ◌<◌, ◌≤◌, ◌^◌, map, Bool, true, false, List, [], ◌∷◌, ◌++◌, length, slice_get, slice_set, Option, Some, None, refl, sym, ap, ap₂, ◌∙◌, subst, inl, inr, append-nil, length-append, Result, Ok, Err, arith}
use Rattle.std.proofs.lemmas.List.{length-map}
use Rattle.std.proofs.lemmas.Option.{get_or_from_slice_get}
use Rattle.std.proofs.lemmas.Bool.{cases_lt}
use Rattle.std.specs.Io.KnownBytes.{Appends}
use Rattle.mv_ends.proofs.Known.{Appends-trans}
use Rattle.mv_terms.specs.declared.status.FrameFault.{FrameFault}
use Rattle.mv_terms.specs.declared.frame_header.FrameHeader.{FrameHeader}
use Rattle.y4m_frames.specs.declared.halt.Halt.{Halt}
use Rattle.y4m_frames.specs.declared.halt.Halt.TheVariants as halts
use Rattle.y4m_frames.specs.Reading.{Reading}
use Rattle.y4m_frames.specs.Behind.{IsBehind, HasFrames, AnswersBehind, up_to}
use Rattle.plan_window.specs.declared.summary.Summary.{Summary}
use Rattle.plan_window.specs.declared.summary.Step.{Step}
use Rattle.plan_window.specs.Plan.{ahead}
use Rattle.plan_window.specs.Fits.{Fits}
use Rattle.plan_window.specs.PlanLaws.{OfWindows, ArePlan, AreCounted}
use Rattle.plan_window.specs.Numbers.{AreNumbered, NumbersServe, without_context}
use Rattle.plan_window.specs.State.{WindowState, left_of, steps_left, count_pushed}
use Rattle.plan_window.specs.Stands.{StandsFor}
use Rattle.enc_guided.specs.Recoded.{FrameStep}
use Rattle.enc_guided.specs.FileSteps.{step_of_frame}
use Rattle.job_coding.specs.Codings.{Coding, IsNextStep, IsFrameOf, summaries, bytes_of_coding, frame_steps, planned_of}
use Rattle.job_coding.specs.Steps.{FillsSlot}
use Rattle.job_coding.proofs.Growth.{Below, below_more, steps_same, step_fits}

-- The frames from this one on stand in their slots, that of frame i being i mod 17.
abbrev pub Kept : List (List ℕ) → List (List ℕ) → ℕ → Type 0
Kept slots frames first = (i : ℕ) → first ≤ i → i < length frames → slice_get slots (i % 17) ≡ slice_get frames i

-- How far a file has come: while it is read the reader stands behind these frames, and then they are all that it has in
-- front of its first fault.
abbrev pub Comes : Reading → Option (List ℕ) → List ℕ → List (List ℕ) → Option (Option FrameFault) → Type 0
Comes reader rest file frames None = IsBehind reader rest file frames
Comes reader rest file frames (Some fault) = HasFrames reader file (up_to frames fault)

-- by how many frames the steps may be behind the reading
abbrev pub lag : Option (Option FrameFault) → ℕ
lag None = 17
lag (Some fault) = 16

-- 1 while the file is read
abbrev pub still : Option (Option FrameFault) → ℕ
still None = 1
still (Some fault) = 0

-- the laws of plan and window that the loop stands on
pub record PlanLaws : Type 0 where
  pub whole : OfWindows ArePlan
  pub counted : OfWindows AreCounted
  pub serve : NumbersServe

-- What the loop keeps: the frames that were read, their summaries, and the steps that the window gave, the last one first.
-- `Codes` says what the coder stands behind, and `Begins` that a file is told to the reader that the loop began with.
pub record Turn (k : Coding) (Codes : List (List ℕ) → List Summary → List FrameStep → Type 0) (Begins : List ℕ → Type 0) (reader : Reading) (rest : Option (List ℕ)) (window : WindowState) (slots : List (List ℕ)) (old new : Option (List ℕ)) (count : ℕ) (ending : Option (Option FrameFault)) : Type 0 where
  pub laws : PlanLaws
  pub frames : List (List ℕ)
  pub numbered : List Summary
  pub given : List Step
  pub codes : Codes frames numbered (frame_steps frames given)
  pub same : AreNumbered ahead (summaries k frames) numbered
  pub stands : StandsFor ahead window numbered given
  pub written : Appends old new (bytes_of_coding k (frame_steps frames given))
  pub below : Below given (length frames)
  pub header : reader.header ≡ k.header
  pub right : (i : ℕ) (frame : List ℕ) → slice_get frames i ≡ Some frame → IsFrameOf k.header frame
  pub kept : Kept slots frames window.first
  pub counted : count ≡ length frames
  pub few : length frames ≤ length given + lag ending
  pub goes_on : ending ≡ None → window.closed ≡ false
  pub shut : (fault : Option FrameFault) → ending ≡ Some fault → window.closed ≡ true
  pub told : (file : List ℕ) → Begins file → Comes reader rest file frames ending

pub nothing_yet : (old : Option (List ℕ)) → Appends old old []
nothing_yet None = tt
nothing_yet (Some p) = sym (append-nil p)

pub turn_starts : {Codes : List (List ℕ) → List Summary → List FrameStep → Type 0} (k : Coding) (reader : Reading) (rest : Option (List ℕ)) (window : WindowState) (slots : List (List ℕ)) (old : Option (List ℕ)) → PlanLaws →
    StandsFor ahead window [] [] → window.closed ≡ false → Codes [] [] [] → k.header ≡ reader.header → Turn k Codes (λ file. IsBehind reader rest file []) reader rest window slots old old 0 None
turn_starts k reader rest window slots old laws stands is_open codes header = record {
  laws = laws;
  frames = [];
  numbered = [];
  given = [];
  codes = codes;
  same = record { rest = refl; contexts = λ i j a b c d lt le at_i at_j is_i is_j. absurd (nothing i a at_i) };
  stands = stands;
  written = nothing_yet old;
  below = tt;
  header = sym header;
  right = λ i frame at. absurd (nothing i frame at);
  kept = λ i le lt. absurd (omega arith);
  counted = refl;
  few = omega arith;
  goes_on = λ e. is_open;
  shut = λ fault e. absurd cc;
  told = λ file begins. begins;
}
  where
    nothing : {X : Type 0} (i : ℕ) (x : X) → slice_get [] i ≡ Some x → ⊥
    nothing i x e = cc

-- the turn, where the window and the ending are known by other names
pub turn_at : {k : Coding} {Codes : List (List ℕ) → List Summary → List FrameStep → Type 0} {Begins : List ℕ → Type 0} {reader : Reading} {rest : Option (List ℕ)} {window : WindowState} {slots : List (List ℕ)} {old new : Option (List ℕ)} {count : ℕ} {ending : Option (Option FrameFault)}
    (next : WindowState) (now : Option (Option FrameFault)) → Turn k Codes Begins reader rest window slots old new count ending → next ≡ window → ending ≡ now → Turn k Codes Begins reader rest next slots old new count now
turn_at {k} {Codes} {Begins} {reader} {rest} {window} {slots} {old} {new} {count} {ending} next now t e f =
    subst (λ (x : Option (Option FrameFault)). Turn k Codes Begins reader rest next slots old new count x) f
    (subst (λ (w : WindowState). Turn k Codes Begins reader rest w slots old new count ending) (sym e) t)

-- where the window stands

left_within : (window : WindowState) → steps_left window ≤ length window.held
left_within window = go window.group
  where
    go : (o : Option ℕ) → left_of o (length window.held) ≤ length window.held
    go None = omega arith
    go (Some d) = omega arith

held_within : (window : WindowState) → length window.held ≤ steps_left window + 1
held_within window = go window.group
  where
    go : (o : Option ℕ) → length window.held ≤ left_of o (length window.held) + 1
    go None = omega arith
    go (Some d) = omega arith

pub as_many : (k : Coding) (frames : List (List ℕ)) (numbered : List Summary) → AreNumbered ahead (summaries k frames) numbered → length numbered ≡ length frames
as_many k frames numbered same =
    sym (length-map numbered without_context) ∙ ap (λ (l : List Summary). length l) (sym same.rest)
    ∙ length-map (summaries k frames) without_context ∙ length-map frames k.summary

module _ {k : Coding} {Codes : List (List ℕ) → List Summary → List FrameStep → Type 0} {Begins : List ℕ → Type 0} {reader : Reading} {rest : Option (List ℕ)} {window : WindowState} {slots : List (List ℕ)} {old new : Option (List ℕ)} {count : ℕ} {ending : Option (Option FrameFault)} where
  -- as many frames as were pushed
  pub all_pushed : (t : Turn k Codes Begins reader rest window slots old new count ending) → window.first + length window.held ≡ length t.frames
  all_pushed t = t.stands.first ∙ as_many k t.frames t.numbered t.same

  pub all_counted : (t : Turn k Codes Begins reader rest window slots old new count ending) → length t.given + steps_left window ≡ length t.frames
  all_counted t = (t.laws.counted window t.numbered t.given t.stands).1 ∙ as_many k t.frames t.numbered t.same

  -- the frame of a step that the window gives stands in its slot
  pub frame_at : (t : Turn k Codes Begins reader rest window slots old new count ending) (n : ℕ) (frame : List ℕ) → (window.first ≤ n) × (n < count_pushed window) → slice_get slots (n % 17) ≡ Some frame → slice_get t.frames n ≡ Some frame
  frame_at t n frame among at = sym (t.kept n among.0 (let all = all_pushed t in omega (arith, among.1, all))) ∙ at

  pub frame_is : (t : Turn k Codes Begins reader rest window slots old new count ending) (s : Step) (frame : List ℕ) → (window.first ≤ s.frame) × (s.frame < count_pushed window) → slice_get slots (s.frame % 17) ≡ Some frame → step_of_frame t.frames s ≡ record { step = s; frame = frame }
  frame_is t s frame among at = ap (λ (f : List ℕ). record { step = s; frame = f }) (get_or_from_slice_get t.frames s.frame frame [] (frame_at t s.frame frame among at))

  -- what the coder may rely on
  pub step_ready : (t : Turn k Codes Begins reader rest window slots old new count ending) (next : WindowState) (s : Step) (frame : List ℕ) → StandsFor ahead next t.numbered (s ∷ t.given) → (window.first ≤ s.frame) × (s.frame < count_pushed window) → steps_left next + 1 ≡ steps_left window
      → slice_get slots (s.frame % 17) ≡ Some frame → count ≤ 2 ^ 44 → IsNextStep k (frame_steps t.frames t.given) (record { step = s; frame = frame })
  step_ready t next s frame after among left at most =
      let all = all_counted t in
      record {
        fits = subst (λ (x : FrameStep). Fits (map (planned_of k) (frame_steps t.frames t.given)) (planned_of k x)) (frame_is t s frame among at) (step_fits k next t.frames t.numbered s t.given after t.same);
        frame = t.right s.frame frame (frame_at t s.frame frame among at);
        few = omega (arith, all, left, most, t.counted, length-map t.given (step_of_frame t.frames));
      }

  -- a step was coded
  pub turn_steps : {Now : List (List ℕ) → List Summary → List FrameStep → Type 0} (next : WindowState) (later : Option (List ℕ)) (s : Step) (frame : List ℕ) → (t : Turn k Codes Begins reader rest window slots old new count ending)
      → StandsFor ahead next t.numbered (s ∷ t.given) → (window.first ≤ s.frame) × (s.frame < count_pushed window) → steps_left next + 1 ≡ steps_left window → next.closed ≡ window.closed
      → slice_get slots (s.frame % 17) ≡ Some frame
      → Now t.frames t.numbered (record { step = s; frame = frame } ∷ frame_steps t.frames t.given)
      → Appends new later (k.bytes (frame_steps t.frames t.given) (record { step = s; frame = frame }))
      → Turn k Now Begins reader rest next slots old later count ending
  turn_steps {Now} next later s frame t after among left closed at coding sent =
      let all = all_pushed t in
      let then : next.first + length next.held ≡ length t.frames = after.first ∙ as_many k t.frames t.numbered t.same in
      let grows : window.first ≤ next.first = omega (arith, all, then, left, left_within window, held_within next) in
      let lt : s.frame < length t.frames = omega (arith, among.1, all) in
      let is = frame_is t s frame among at in
      record {
        laws = t.laws;
        frames = t.frames;
        numbered = t.numbered;
        given = s ∷ t.given;
        codes = subst (λ (c : FrameStep). Now t.frames t.numbered (c ∷ frame_steps t.frames t.given)) (sym is) coding;
        same = t.same;
        stands = after;
        written = Appends-trans old new later (bytes_of_coding k (frame_steps t.frames t.given)) (k.bytes (frame_steps t.frames t.given) (step_of_frame t.frames s)) t.written
            (subst (λ (c : FrameStep). Appends new later (k.bytes (frame_steps t.frames t.given) c)) (sym is) sent);
        below = (lt, t.below);
        header = t.header;
        right = t.right;
        kept = λ i le l. t.kept i (omega (arith, le, grows)) l;
        counted = t.counted;
        few = omega (arith, t.few);
        goes_on = λ e. closed ∙ t.goes_on e;
        shut = λ fault e. closed ∙ t.shut fault e;
        told = t.told;
      }

  -- how many steps are left to give
  pub left_more : (next : WindowState) (summary : Summary) → (t : Turn k Codes Begins reader rest window slots old new count ending) → StandsFor ahead next (t.numbered ++ summary ∷ []) t.given → steps_left next ≡ steps_left window + 1
  left_more next summary t after =
      let before = (t.laws.counted window t.numbered t.given t.stands).1 in
      let then = (t.laws.counted next (t.numbered ++ summary ∷ []) t.given after).1 in
      omega (arith, before, then, length-append t.numbered (summary ∷ []))

  pub left_same : (next : WindowState) → (t : Turn k Codes Begins reader rest window slots old new count ending) → StandsFor ahead next t.numbered t.given → steps_left next ≡ steps_left window
  left_same next t after =
      let before = (t.laws.counted window t.numbered t.given t.stands).1 in
      let then = (t.laws.counted next t.numbered t.given after).1 in
      omega (arith, before, then)

-- one slot more is written

get_set_other : {X : Type 0} (xs : List X) (i j : ℕ) (x : X) → j ≢ i → slice_get (slice_set xs i x) j ≡ slice_get xs j
get_set_other [] i j x ne = refl
get_set_other (y ∷ xs) zero zero x ne = absurd (ne refl)
get_set_other (y ∷ xs) zero (suc j) x ne = refl
get_set_other (y ∷ xs) (suc i) zero x ne = refl
get_set_other (y ∷ xs) (suc i) (suc j) x ne = get_set_other xs i j x (λ e. ne (ap suc e))

get_set_same : {X : Type 0} (xs : List X) (i : ℕ) (x : X) → i < length xs → slice_get (slice_set xs i x) i ≡ Some x
get_set_same [] i x lt = absurd (omega arith)
get_set_same (y ∷ xs) zero x lt = refl
get_set_same (y ∷ xs) (suc i) x lt = get_set_same xs i x (omega arith)

get_before : {X : Type 0} (xs ys : List X) (i : ℕ) → i < length xs → slice_get (xs ++ ys) i ≡ slice_get xs i
get_before [] ys i h = absurd (omega arith)
get_before (x ∷ xs) ys zero h = refl
get_before (x ∷ xs) ys (suc i) h = get_before xs ys i (omega arith)

get_last : {X : Type 0} (xs : List X) (x : X) (i : ℕ) → i ≡ length xs → slice_get (xs ++ x ∷ []) i ≡ Some x
get_last [] x zero e = refl
get_last [] x (suc i) e = absurd (omega arith)
get_last (y ∷ xs) x zero e = absurd (omega arith)
get_last (y ∷ xs) x (suc i) e = get_last xs x i (omega arith)

get_within : {X : Type 0} (xs : List X) (i : ℕ) (x : X) → slice_get xs i ≡ Some x → i < length xs
get_within [] i x e = absurd cc
get_within (y ∷ xs) zero x e = omega arith
get_within (y ∷ xs) (suc i) x e = let h = get_within xs i x e in omega (arith, h)

some_is : {X : Type 0} (x y : X) → Some x ≡ Some y → x ≡ y
some_is x y e = cc

other_slot : (i n : ℕ) → i < n → n ≤ i + 16 → i % 17 ≢ n % 17
other_slot i n lt le = λ e. omega (arith, e)

kept_others : (slots frames : List (List ℕ)) (first n : ℕ) (x : List ℕ) → Kept slots frames first → n ≡ length frames → length frames ≤ first + 16 → Kept (slice_set slots (n % 17) x) frames first
kept_others slots frames first n x kept is near = λ i le lt. get_set_other slots (n % 17) (i % 17) x (other_slot i n (omega (arith, is, lt)) (omega (arith, is, near, le))) ∙ kept i le lt

kept_more : (slots frames : List (List ℕ)) (first n : ℕ) (x : List ℕ) → Kept slots frames first → n ≡ length frames → length frames ≤ first + 16 → length slots ≡ 17 → Kept (slice_set slots (n % 17) x) (frames ++ x ∷ []) first
kept_more slots frames first n x kept is near many = λ i le lt. go i le lt (cases_lt i (length frames))
  where
    go : (i : ℕ) → first ≤ i → i < length (frames ++ x ∷ []) → (i < length frames) ⊎ (length frames ≤ i) → slice_get (slice_set slots (n % 17) x) (i % 17) ≡ slice_get (frames ++ x ∷ []) i
    go i le lt (inl l) = kept_others slots frames first n x kept is near i le l ∙ sym (get_before frames (x ∷ []) i l)
    go i le lt (inr g) =
        let e : i ≡ n = omega (arith, lt, g, is, length-append frames (x ∷ [])) in
        ap (λ (j : ℕ). slice_get (slice_set slots (n % 17) x) (j % 17)) e ∙ get_set_same slots (n % 17) x (omega (arith, many)) ∙ sym (get_last frames x i (omega (arith, e, is)))

right_more : (header : FrameHeader) (frames : List (List ℕ)) (x : List ℕ) → ((i : ℕ) (frame : List ℕ) → slice_get frames i ≡ Some frame → IsFrameOf header frame) → IsFrameOf header x → (i : ℕ) (frame : List ℕ) → slice_get (frames ++ x ∷ []) i ≡ Some frame → IsFrameOf header frame
right_more header frames x right one = λ i frame at. go i frame at (cases_lt i (length frames))
  where
    go : (i : ℕ) (frame : List ℕ) → slice_get (frames ++ x ∷ []) i ≡ Some frame → (i < length frames) ⊎ (length frames ≤ i) → IsFrameOf header frame
    go i frame at (inl l) = right i frame (sym (get_before frames (x ∷ []) i l) ∙ at)
    go i frame at (inr g) =
        let lt = get_within (frames ++ x ∷ []) i frame at in
        let e : i ≡ length frames = omega (arith, lt, g, length-append frames (x ∷ [])) in
        subst (λ (f : List ℕ). IsFrameOf header f) (some_is x frame (sym (get_last frames x i e) ∙ at)) one

-- what holds where the window wants a frame
pub record Wants (window : WindowState) : Type 0 where
  pub is_open : window.closed ≡ false
  pub few : length window.held ≤ 16

-- why no step is given
abbrev pub NoStep : WindowState → Type 0
NoStep window = ((length window.held ≤ 16) × (window.closed ≡ false)) ⊎ (window.held ≡ [])

wants : (window : WindowState) → window.closed ≡ false → NoStep window → Wants window
wants window is_open (inl few) = record { is_open = is_open; few = few.0 }
wants window is_open (inr empty) = record { is_open = is_open; few = let e : length window.held ≡ 0 = ap length empty in omega (arith, e) }

module _ {k : Coding} {Codes : List (List ℕ) → List Summary → List FrameStep → Type 0} {Begins : List ℕ → Type 0} {reader reader_new : Reading} {rest rest_new : Option (List ℕ)} {window : WindowState} {slots slots_new : List (List ℕ)} {old new : Option (List ℕ)} {count : ℕ} {result : Result Bool Halt} where
  -- the frame that was read
  frame_read : (t : Turn k Codes Begins reader rest window slots old new count None) (fills : FillsSlot slots slots_new count reader reader_new rest rest_new result) (frame : List ℕ) → length slots ≡ 17 → slice_get slots_new (count % 17) ≡ Some frame → fills.frame ≡ frame
  frame_read t fills frame many at = some_is fills.frame frame (sym (get_set_same slots (count % 17) fills.frame (omega (arith, many))) ∙ ap (λ (l : List (List ℕ)). slice_get l (count % 17)) (sym fills.slots_are) ∙ at)

  pub look_ready : (t : Turn k Codes Begins reader rest window slots old new count None) (fills : FillsSlot slots slots_new count reader reader_new rest rest_new result) (frame : List ℕ) → length slots ≡ 17 → slice_get slots_new (count % 17) ≡ Some frame → result ≡ Ok true → IsFrameOf k.header frame
  look_ready t fills frame many at ok = subst (λ (f : List ℕ). IsFrameOf k.header f) (frame_read t fills frame many at) (subst (λ (h : FrameHeader). IsFrameOf h fills.frame) t.header (fills.right ok))

  -- a frame was read
  pub turn_reads : {Now : List (List ℕ) → List Summary → List FrameStep → Type 0} (next : WindowState) (frame : List ℕ) (summary : Summary) → (t : Turn k Codes Begins reader rest window slots old new count None) → NoStep window → length slots ≡ 17
      → FillsSlot slots slots_new count reader reader_new rest rest_new result → reader_new.header ≡ reader.header → result ≡ Ok true → slice_get slots_new (count % 17) ≡ Some frame
      → Now (t.frames ++ frame ∷ []) (t.numbered ++ summary ∷ []) (frame_steps t.frames t.given)
      → ((frames : List (List ℕ)) (numbered : List Summary) (steps : List FrameStep) → Now frames numbered steps → AreNumbered ahead (summaries k frames) numbered)
      → StandsFor ahead next (t.numbered ++ summary ∷ []) t.given → length next.held ≡ length window.held + 1 → next.closed ≡ false
      → Turn k Now Begins reader_new rest_new next slots_new old new (count + 1) None
  turn_reads {Now} next frame summary t none many fills header_same ok at codes numbers after longer is_open =
      let want = wants window (t.goes_on refl) none in
      let few = want.few in
      let is : fills.frame ≡ frame = frame_read t fills frame many at in
      let then : slots_new ≡ slice_set slots (count % 17) frame = fills.slots_are ∙ ap (slice_set slots (count % 17)) is in
      let was = all_pushed t in
      let long = length-append t.frames (frame ∷ []) in
      let same = numbers (t.frames ++ frame ∷ []) (t.numbered ++ summary ∷ []) (frame_steps t.frames t.given) codes in
      let now : next.first + length next.held ≡ length (t.frames ++ frame ∷ []) = after.first ∙ as_many k (t.frames ++ frame ∷ []) (t.numbered ++ summary ∷ []) same in
      let given_is = all_counted t in
      let first : next.first ≡ window.first = omega (arith, was, now, long, longer) in
      let steps_are = steps_same t.frames (frame ∷ []) t.given t.below in
      record {
        laws = t.laws;
        frames = t.frames ++ frame ∷ [];
        numbered = t.numbered ++ summary ∷ [];
        given = t.given;
        codes = subst (λ (steps : List FrameStep). Now (t.frames ++ frame ∷ []) (t.numbered ++ summary ∷ []) steps) (sym steps_are) codes;
        same = same;
        stands = after;
        written = subst (λ (steps : List FrameStep). Appends old new (bytes_of_coding k steps)) (sym steps_are) t.written;
        below = below_more t.given (length t.frames) (length (t.frames ++ frame ∷ [])) (omega (arith, long)) t.below;
        header = header_same ∙ t.header;
        right = right_more k.header t.frames frame t.right (look_ready t fills frame many at ok);
        kept = subst (λ (l : List (List ℕ)). Kept l (t.frames ++ frame ∷ []) next.first) (sym then)
            (subst (λ (f : ℕ). Kept (slice_set slots (count % 17) frame) (t.frames ++ frame ∷ []) f) (sym first)
            (kept_more slots t.frames window.first count frame t.kept t.counted (omega (arith, was, few)) many));
        counted = omega (arith, t.counted, long);
        few = omega (arith, given_is, long, left_within window, few);
        goes_on = λ e. is_open;
        shut = λ fault e. absurd cc;
        told = λ file begins.
            let said = subst (λ (r : Result Bool Halt). AnswersBehind reader reader_new rest_new file t.frames fills.frame r) ok (fills.answers file t.frames (t.told file begins)) in
            subst (λ (f : List ℕ). IsBehind reader_new rest_new file (t.frames ++ f ∷ [])) is said;
      }

  -- an end was found, or a fault
  pub turn_closes : (next : WindowState) (fault : Option FrameFault) → (t : Turn k Codes Begins reader rest window slots old new count None) → NoStep window
      → FillsSlot slots slots_new count reader reader_new rest rest_new result → (reader_new.header ≡ reader.header) × (reader_new.line ≡ reader.line)
      → ((file : List ℕ) (samples : List ℕ) → AnswersBehind reader reader_new rest_new file t.frames samples result → HasFrames reader file (up_to t.frames fault))
      → StandsFor ahead next t.numbered t.given → next.held ≡ window.held → next.closed ≡ true
      → Turn k Codes Begins reader_new rest_new next slots_new old new count (Some fault)
  turn_closes next fault t none fills header_same says after held_same shut =
      let want = wants window (t.goes_on refl) none in
      let few = want.few in
      let was = all_pushed t in
      let now : next.first + length next.held ≡ length t.frames = after.first ∙ as_many k t.frames t.numbered t.same in
      let first : next.first ≡ window.first = omega (arith, was, now, ap length held_same) in
      let given_is = all_counted t in
      record {
        laws = t.laws;
        frames = t.frames;
        numbered = t.numbered;
        given = t.given;
        codes = t.codes;
        same = t.same;
        stands = after;
        written = t.written;
        below = t.below;
        header = header_same.0 ∙ t.header;
        right = t.right;
        kept = subst (λ (l : List (List ℕ)). Kept l t.frames next.first) (sym fills.slots_are)
            (subst (λ (f : ℕ). Kept (slice_set slots (count % 17) fills.frame) t.frames f) (sym first)
            (kept_others slots t.frames window.first count fills.frame t.kept t.counted (omega (arith, was, few))));
        counted = t.counted;
        few = omega (arith, given_is, left_within window, few);
        goes_on = λ e. absurd cc;
        shut = λ f e. shut;
        told = λ file begins.
            let has = says file fills.frame (fills.answers file t.frames (t.told file begins)) in
            has ∙ ap₂ (λ (l : List ℕ) (h : FrameHeader). Ok (record { line = l; header = h; frames = up_to t.frames fault })) (sym header_same.1) (sym header_same.0);
      }

-- what the reader says of the file at a fault, at the end, and where it can't read

pub says_fault : (old new : Reading) (rest : Option (List ℕ)) (file : List ℕ) (frames : List (List ℕ)) (samples : List ℕ) (result : Result Bool Halt) (fault : FrameFault) → result ≡ Err (halts.Fault fault) → AnswersBehind old new rest file frames samples result → HasFrames old file (up_to frames (Some fault))
says_fault old new rest file frames samples result fault is h = subst (λ (r : Result Bool Halt). AnswersBehind old new rest file frames samples r) is h

pub says_end : (old new : Reading) (rest : Option (List ℕ)) (file : List ℕ) (frames : List (List ℕ)) (samples : List ℕ) (result : Result Bool Halt) → result ≡ Ok false → AnswersBehind old new rest file frames samples result → HasFrames old file (up_to frames None) × (rest ≡ Some [])
says_end old new rest file frames samples result is h = subst (λ (r : Result Bool Halt). AnswersBehind old new rest file frames samples r) is h
