-- What a unit lets be shown, and what is held behind it.
use Rattle.std.proofs.Common.{◌≡◌, ◌≢◌, ℕ, ◌*◌, Bool, true, false, List, [], ◌∷◌, ◌++◌, length, Option, None, Some, Result, Ok, Err, refl, sym, ap, ◌∙◌, subst, append-nil, arith}
use Rattle.std.specs.Prelude.{if◌then◌else◌, is_some}
use Rattle.std.specs.Io.KnownBytes.{Appends}
use Rattle.mv_terms.specs.declared.status.Why.{Why}
use Rattle.mv_terms.specs.declared.head.Context.{Context}
use Rattle.mv_terms.specs.declared.head.PicType.{PicType}
use Rattle.mv_terms.specs.declared.head.PicType.TheVariants as pic
use Rattle.mv_terms.specs.PicTypes.{is_anchor}
use Rattle.mv_terms.specs.Order.{anchors, first, held, listed, shows, holds}
use Rattle.mv_terms.specs.UnitLists.{UnitLists}
use Rattle.mv_terms.proofs.ShownLaws.{held_grows}
use Rattle.mv_bits.specs.Elements.{are_elements}
use Rattle.mv_bits.proofs.JoinLaws.{front_none}
use Rattle.mv_heads.specs.HeadsInTurn.{context_in}
use Rattle.mv_slices.specs.UnitSlices.{IsUnitSlices}
use Rattle.mv_units.specs.Profile.{CodedUnit, Refuses, heads_in}
use Rattle.mv_planes.specs.Planes.{Planes, IsWhole}
use Rattle.mv_planes.specs.References.{DecodedPicture, type_of}
use Rattle.mv_recon.specs.Decoded.{references_behind}
use Rattle.mv_recon.specs.Pictures.{prediction_from}
use Rattle.mv_recon.proofs.PictureLemmas.{pictures_have_their_samples}
use Rattle.mv_store.specs.declared.store.Shown.{Shown}
use Rattle.mv_store.specs.declared.store.Shown.TheVariants.{Nothing, Previous, Current}
use Rattle.mv_store.specs.Answers.{answer_to, answer_to_anchor}
use Rattle.mv_decode.specs.Units.{pictures_in, FitsAsFirst}
use Rattle.mv_decode.specs.Stands.{StandsFor as IsDecoderOf, DecodesUnit as DecoderDecodes, IsLent}
use Rattle.y4m_frames.specs.FrameFile.{frame}
use Rattle.cert_picture.specs.FrameFileOf.{UnitFrame, pic_of_frame, pictures_in as pictures_of_frames, frame_behind, frames_of, bytes_of, opening, gives, held_frame}
use Rattle.cert_picture.proofs.FrameFileLaws.{frames_have_pictures}
use Rattle.mv_planes.specs.declared.coded.Coded.{Coded}
use Rattle.mv_terms.specs.CodedPicture.{frame_macroblocks}
use Rattle.mv_terms.specs.Structures.{IsOfFrame}
use Rattle.cert_picture.proofs.RecordLemmas.{all_of_frame}
use Rattle.mv_terms.specs.declared.head.Head.{Head}
use Rattle.mv_predict.specs.Blocks.{HasSizeOf}
use Rattle.job_decode.specs.declared.frames.FrameMaker.{FrameMaker}
use Rattle.job_decode.specs.declared.work.Work.{Work}
use Rattle.job_decode.specs.declared.work.Stop.{Stop}
use Rattle.job_decode.specs.declared.work.Stop.TheVariants as stop
use Rattle.job_decode.specs.Steps.{AreHeld, MakesFrames, HasMade, IsWork, IsStarted, WorkStands, MayTake, HasDecoded, is_empty, heading, shown_frame, kept, held_bytes, Takes, TakesWhole, StepsTo}

-- slices are elements
pub are_their_elements : (slices : List ℕ) → IsUnitSlices slices → are_elements slices ≡ true
are_their_elements slices h = front_none slices h.front

-- ---- the store's answer says the same of the frames

one_more : {A B : Type 0} (b : Bool) (xs : List A) (ys : List B) (x : A) (y : B) → answer_to_anchor (first xs) ≡ answer_to_anchor (first ys)
    → answer_to_anchor (first (if b then x ∷ xs else xs)) ≡ answer_to_anchor (first (if b then y ∷ ys else ys))
one_more true xs ys x y h = refl
one_more false xs ys x y h = h

same_answer : (fs : List UnitFrame) → answer_to_anchor (held type_of (pictures_of_frames fs)) ≡ answer_to_anchor (held pic_of_frame fs)
same_answer [] = refl
same_answer (f ∷ fs) = one_more (is_anchor (pic_of_frame f)) (anchors type_of (pictures_of_frames fs)) (anchors pic_of_frame fs) f.decoded f (same_answer fs)

-- what the decoder answers of the pictures, said of the frames
pub answer_is : (before : List CodedUnit) (t : PicType) → answer_to type_of t (pictures_in before) ≡ answer_to pic_of_frame t (frames_of before)
answer_is before t =
    ap (λ (ps : List DecodedPicture). answer_to type_of t ps) (sym (frames_have_pictures before))
    ∙ ap (λ (s : Shown). (if is_anchor t then s else Current)) (same_answer (frames_of before))

held_frame_is : (o : Option UnitFrame) (bytes next : List ℕ) → AreHeld o bytes → shown_frame (answer_to_anchor o) bytes next ≡ bytes_of (listed o)
held_frame_is None bytes next h = refl
held_frame_is (Some f) bytes next h = ap frame h ∙ sym (append-nil (frame f.samples))

frame_shown : (t : PicType) (o : Option UnitFrame) (f : UnitFrame) (bytes next : List ℕ) → AreHeld o bytes → next ≡ f.samples
    → shown_frame (if is_anchor t then answer_to_anchor o else Current) bytes next ≡ bytes_of (if is_anchor t then listed o else f ∷ [])
frame_shown pic.I o f bytes next h is = held_frame_is o bytes next h
frame_shown pic.P o f bytes next h is = held_frame_is o bytes next h
frame_shown pic.B o f bytes next h is = ap frame is ∙ sym (append-nil (frame f.samples))

opening_is : (before : List CodedUnit) (u : CodedUnit) → heading (is_empty before) (Some u.accepted.heads.context) ≡ opening (frames_of before) (frame_behind (frames_of before) u)
unfolding frames_of frame_behind
opening_is [] u = refl
opening_is (v ∷ before) u = refl

shown_is : (before : List CodedUnit) (u : CodedUnit) (bytes next : List ℕ) → AreHeld (held pic_of_frame (frames_of before)) bytes → next ≡ (frame_behind (frames_of before) u).samples
    → shown_frame (answer_to pic_of_frame u.picture.head.pic (frames_of before)) bytes next ≡ bytes_of (shows pic_of_frame (held pic_of_frame (frames_of before)) (frame_behind (frames_of before) u))
unfolding frame_behind
shown_is before u bytes next h is = frame_shown u.picture.head.pic (held pic_of_frame (frames_of before)) (frame_behind (frames_of before) u) bytes next h is

-- what is written of a unit is what it gives
gives_are : (old mid : Work) (before : List CodedUnit) (lists : UnitLists) (shown : Shown) (first_one : Bool) (context : Option Context) → IsWork old before → first_one ≡ is_empty before → (d : HasDecoded old mid before lists shown) → context ≡ Some d.unit.accepted.heads.context
    → heading first_one context ++ shown_frame shown mid.held.items mid.next.items ≡ gives (frames_of before) (frame_behind (frames_of before) d.unit)
gives_are old mid before lists shown first_one context stands is d context_is =
    let held_is : AreHeld (held pic_of_frame (frames_of before)) mid.held.items = subst (λ x. AreHeld (held pic_of_frame (frames_of before)) x.items) (sym d.held) stands.held_is in
    ap (λ (b : Bool). heading b context ++ shown_frame shown mid.held.items mid.next.items) is
    ∙ (ap (λ (x : Option Context). heading (is_empty before) x ++ shown_frame shown mid.held.items mid.next.items) context_is
    ∙ (ap (λ (xs : List ℕ). xs ++ shown_frame shown mid.held.items mid.next.items) (opening_is before d.unit)
    ∙ ap (λ (xs : List ℕ). opening (frames_of before) (frame_behind (frames_of before) d.unit) ++ xs)
    (ap (λ (s : Shown). shown_frame s mid.held.items mid.next.items) d.shown_is ∙ shown_is before d.unit mid.held.items mid.next.items held_is d.next)))

-- ---- what is held then

record Holds (work : Work) (o : Option UnitFrame) : Type 0 where
  holds : work.holds ≡ is_some o
  held_is : AreHeld o work.held.items

holds_first : (mid : Work) (o : Option UnitFrame) (f : UnitFrame) → mid.next.items ≡ f.samples → Holds mid o → Holds (kept (answer_to_anchor o) mid) (Some f)
holds_first mid None f next h = record { holds = refl; held_is = next }
holds_first mid (Some g) f next h = record { holds = refl; held_is = next }

holds_next : (t : PicType) (mid : Work) (o : Option UnitFrame) (f : UnitFrame) → mid.next.items ≡ f.samples → Holds mid o
    → Holds (kept (if is_anchor t then answer_to_anchor o else Current) mid) (if is_anchor t then Some f else o)
holds_next pic.I mid o f next h = holds_first mid o f next h
holds_next pic.P mid o f next h = holds_first mid o f next h
holds_next pic.B mid o f next h = h

held_by : (before : List CodedUnit) (u : CodedUnit)
    → held pic_of_frame (frames_of (u ∷ before)) ≡ (if is_anchor u.picture.head.pic then Some (frame_behind (frames_of before) u) else held pic_of_frame (frames_of before))
unfolding frames_of frame_behind
held_by before u = held_grows pic_of_frame (frame_behind (frames_of before) u) (frames_of before)

-- what keeping a frame leaves as it is
record Keeps (mid new : Work) : Type 0 where
  decoder : new.decoder ≡ mid.decoder
  frames : new.frames ≡ mid.frames
  held_room : (n : ℕ) → length mid.held.items ≡ n → length mid.next.items ≡ n → length new.held.items ≡ n
  next_room : (n : ℕ) → length mid.held.items ≡ n → length mid.next.items ≡ n → length new.next.items ≡ n

keeps : (shown : Shown) (mid : Work) → Keeps mid (kept shown mid)
keeps Nothing mid = record { decoder = refl; frames = refl; held_room = λ n a b. b; next_room = λ n a b. a }
keeps Previous mid = record { decoder = refl; frames = refl; held_room = λ n a b. b; next_room = λ n a b. a }
keeps Current mid = record { decoder = refl; frames = refl; held_room = λ n a b. a; next_room = λ n a b. b }

stands_behind : (old mid new : Work) (before : List CodedUnit) (lists : UnitLists) (shown : Shown) → IsWork old before → (d : HasDecoded old mid before lists shown) → new ≡ kept shown mid
    → IsWork new (d.unit ∷ before)
stands_behind old mid new before lists shown stands d is =
    let before_it : Holds mid (held pic_of_frame (frames_of before)) = record {
      holds = ap (λ (b : Bool). b) d.holds ∙ stands.holds;
      held_is = subst (λ x. AreHeld (held pic_of_frame (frames_of before)) x.items) (sym d.held) stands.held_is;
    } in
    let behind = holds_next d.unit.picture.head.pic mid (held pic_of_frame (frames_of before)) (frame_behind (frames_of before) d.unit) d.next before_it in
    let now : Holds new (held pic_of_frame (frames_of (d.unit ∷ before))) =
    subst (λ (o : Option UnitFrame). Holds new o) (sym (held_by before d.unit))
    (subst (λ (w : Work). Holds w (if is_anchor d.unit.picture.head.pic then Some (frame_behind (frames_of before) d.unit) else held pic_of_frame (frames_of before)))
    (sym (is ∙ ap (λ (s : Shown). kept s mid) d.shown_is)) behind) in
    let same : Keeps mid new = subst (λ (w : Work). Keeps mid w) (sym is) (keeps shown mid) in
    record {
      mb_wide = d.mb_wide;
      mb_high = d.mb_high;
      decoder = subst (λ x. IsDecoderOf d.mb_wide d.mb_high x (d.unit ∷ before)) (sym same.decoder) d.decoder;
      frames = subst (λ (x : FrameMaker). MakesFrames (d.mb_wide * d.mb_high) x (frames_of (d.unit ∷ before))) (sym same.frames) d.frames;
      holds = now.holds;
      held_is = now.held_is;
      held_room = same.held_room (768 * (d.mb_wide * d.mb_high)) d.held_room d.next_room;
      next_room = same.next_room (768 * (d.mb_wide * d.mb_high)) d.held_room d.next_room;
    }

-- what a decoder says of the context of the unit accepted last
abbrev pub SaysContext : Work → Option Context → Type 0
SaysContext work context = (mb_wide mb_high : ℕ) (units : List CodedUnit) → IsDecoderOf mb_wide mb_high work.decoder units → context ≡ context_in (heads_in units)

pub takes : (old mid : Work) (before : List CodedUnit) (lists : UnitLists) (shown : Shown) (first_one : Bool) (context : Option Context) (Moves : List ℕ → Type 0) → IsWork old before → first_one ≡ is_empty before → HasDecoded old mid before lists shown → SaysContext mid context
    → Moves (heading first_one context ++ shown_frame shown mid.held.items mid.next.items) → Takes before lists Moves
takes old mid before lists shown first_one context Moves stands is d says moves = record {
  unit = d.unit;
  accepts = d.accepts;
  moves = subst (λ (s : List ℕ). Moves s) (gives_are old mid before lists shown first_one context stands is d (says d.mb_wide d.mb_high (d.unit ∷ before) d.decoder)) moves;
}

pub takes_whole : (old mid new : Work) (before : List CodedUnit) (lists : UnitLists) (shown : Shown) (first_one : Bool) (context : Option Context) (out now : Option (List ℕ)) → IsWork old before → first_one ≡ is_empty before → HasDecoded old mid before lists shown → SaysContext mid context
    → Appends out now (heading first_one context ++ shown_frame shown mid.held.items mid.next.items) → new ≡ kept shown mid → TakesWhole (λ units. IsWork new units) before lists out now
unfolding takes
takes_whole old mid new before lists shown first_one context out now stands is d says moves keep = record {
  takes = takes old mid before lists shown first_one context (Appends out now) stands is d says moves;
  stands = stands_behind old mid new before lists shown stands d keep;
}

-- ---- the frame that is held is written, where one is

by_held : (o : Option UnitFrame) (b : Bool) (items : List ℕ) → b ≡ is_some o → AreHeld o items → (if b then frame items else []) ≡ bytes_of (listed o)
by_held None true items h at = absurd cc
by_held None false items h at = refl
by_held (Some f) true items h at = ap frame at ∙ sym (append-nil (frame f.samples))
by_held (Some f) false items h at = absurd cc

none_held : (before : List CodedUnit) → before ≡ [] → [] ≡ held_frame before
unfolding frames_of
none_held before is = ap held_frame (sym is)

pub held_is : (work : Option Work) (before : List CodedUnit) → WorkStands work before → held_bytes work ≡ held_frame before
held_is None before stands = none_held before stands
held_is (Some work) before stands = by_held (held pic_of_frame (frames_of before)) work.holds work.held.items stands.0.holds stands.0.held_is

-- ---- the step of a unit, and the work that is there or isn't

pub may_take : (work : Work) (before : List CodedUnit) (lists : UnitLists) → WorkStands (Some work) before → MayTake work before lists
may_take work [] lists stands = absurd (let none : true ≡ false = stands.1 in cc)
may_take work (u ∷ before) lists stands = record { stands = stands.0; fits = tt }

pub step_behind : (work : Work) (before : List CodedUnit) (lists : UnitLists) (old now : Option (List ℕ)) (result : Result (Unit {0}) Stop) → is_empty before ≡ false
    → StepsTo (λ units. IsWork work units) before lists old now result → StepsTo (λ units. WorkStands (Some work) units) before lists old now result
step_behind work before lists old now (Ok _) some h = record { takes = h.takes; stands = (h.stands, refl) }
step_behind work before lists old now (Err (stop.Refused why)) some h = (h.0, (h.1, some), h.2)
step_behind work before lists old now (Err stop.NoMemory) some h = h
step_behind work before lists old now (Err stop.WriteFault) some h = h

pub first_step : (work : Work) (before : List CodedUnit) (lists : UnitLists) (old now : Option (List ℕ))
    → TakesWhole (λ units. IsWork work units) before lists old now → TakesWhole (λ units. WorkStands (Some work) units) before lists old now
first_step work before lists old now h = record { takes = h.takes; stands = (h.stands, refl) }

pub first_stops : (before : List CodedUnit) (lists : UnitLists) (old now : Option (List ℕ)) (Stands : List CodedUnit → Type 0) (said : Stop) → before ≡ []
    → StepsTo Stands before lists old now (Err said) → StepsTo (λ units. WorkStands None units) before lists old now (Err said)
first_stops before lists old now Stands (stop.Refused why) none h = (h.0, none, h.2)
first_stops before lists old now Stands stop.NoMemory none h = h
first_stops before lists old now Stands stop.WriteFault none h = h

pub none_started : (before : List CodedUnit) (lists : UnitLists) (old : Option (List ℕ)) (said : Stop) → before ≡ [] → ((why : Why) → said ≡ stop.Refused why → Refuses None lists why) → said ≢ stop.WriteFault
    → StepsTo (λ units. WorkStands None units) before lists old old (Err said)
none_started before lists old (stop.Refused why) none refused other =
    (subst (λ (us : List CodedUnit). Refuses (heads_in us) lists why) (sym none) (refused why refl), none, refl)
none_started before lists old stop.NoMemory none refused other = (none, refl)
none_started before lists old stop.WriteFault none refused other = absurd (other refl)

pub may_start : (work : Work) (before : List CodedUnit) (lists : UnitLists) → before ≡ [] → MayTake work [] lists → MayTake work before lists
may_start work before lists none h = subst (λ (us : List CodedUnit). MayTake work us lists) (sym none) h

pub is_first : (before : List CodedUnit) → before ≡ [] → true ≡ is_empty before
is_first before none = sym (ap is_empty none)

-- the work for pictures of the size of the first unit
pub started : (work : Work) (mb_wide mb_high : ℕ) (lists : UnitLists) → IsStarted mb_wide mb_high work → FitsAsFirst mb_wide mb_high [] lists → MayTake work [] lists
unfolding frames_of
started work mb_wide mb_high lists s fits = record {
  stands = record { mb_wide = mb_wide; mb_high = mb_high; decoder = s.stands; frames = s.frames; holds = s.holds; held_is = tt; held_room = s.held_room; next_room = s.next_room };
  fits = fits;
}

-- ---- the frame of a unit is made

-- the size that a lent picture has
pub record IsOfWork (mb_wide mb_high : ℕ) (coded : Coded) : Type 0 where
  pub count : frame_macroblocks coded.head.now ≡ mb_wide * mb_high
  pub samples : 2 * length coded.picture.now.samples ≡ 768 * (mb_wide * mb_high)

pub size_is : (before : List CodedUnit) (u : CodedUnit) (mb_wide mb_high : ℕ) (coded : Coded) → IsLent coded u before → IsOfFrame coded.head.now → HasSizeOf coded.head.now coded.picture.now
    → u.picture.head.mb_wide ≡ mb_wide → u.picture.head.mb_high ≡ mb_high → IsOfWork mb_wide mb_high coded
size_is before u mb_wide mb_high coded lent frame size wide high =
    let head = coded.head.now in
    let whole : IsWhole coded.picture.now = subst (λ (p : Planes). IsWhole p) (sym lent.picture) (pictures_have_their_samples (prediction_from (references_behind (pictures_in before) u.picture) u.picture) u.picture).whole in
    let as_wide : head.mb_wide ≡ mb_wide = ap (λ (h : Head). h.mb_wide) lent.head ∙ wide in
    let as_high : head.mb_high ≡ mb_high = ap (λ (h : Head). h.mb_high) lent.head ∙ high in
    let count : head.mb_wide * head.mb_high ≡ mb_wide * mb_high = ap (λ (k : ℕ). k * head.mb_high) as_wide ∙ ap (λ (k : ℕ). mb_wide * k) as_high in
    let planes : coded.picture.now.mb_wide * coded.picture.now.mb_high ≡ mb_wide * mb_high = ap (λ (k : ℕ). k * coded.picture.now.mb_high) size.wide ∙ (ap (λ (k : ℕ). head.mb_wide * k) size.high ∙ count) in
    let samples : length coded.picture.now.samples ≡ 384 * (mb_wide * mb_high) = whole ∙ ap (λ (k : ℕ). 384 * k) planes in
    record { count = all_of_frame head frame ∙ count; samples = omega (arith, samples) }

pub frames_for : (count n : ℕ) (maker : FrameMaker) (frames : List UnitFrame) → count ≡ n → MakesFrames n maker frames → MakesFrames count maker frames
frames_for count n maker frames same h = subst (λ (k : ℕ). MakesFrames k maker frames) (sym same) h

frames_more : (before : List CodedUnit) (u : CodedUnit) (n : ℕ) (maker : FrameMaker) → MakesFrames n maker (frame_behind (frames_of before) u ∷ frames_of before) → MakesFrames n maker (frames_of (u ∷ before))
unfolding frames_of
frames_more before u n maker h = h

pub decoded : (old mid : Work) (before : List CodedUnit) (lists : UnitLists) (shown : Shown) (coded : Coded) (m : MayTake old before lists) → (d : DecoderDecodes m.stands.mb_wide m.stands.mb_high mid.decoder before lists shown)
    → IsOfWork m.stands.mb_wide m.stands.mb_high coded → HasMade (frame_macroblocks coded.head.now) mid.frames mid.next.items (frames_of before) d.unit
    → length mid.next.items ≡ length old.next.items → mid.held ≡ old.held → mid.holds ≡ old.holds → HasDecoded old mid before lists shown
decoded old mid before lists shown coded m d size made same_room held holds = record {
  unit = d.unit;
  accepts = d.accepts;
  mb_wide = m.stands.mb_wide;
  mb_high = m.stands.mb_high;
  decoder = d.accepted.stands;
  frames = frames_for (m.stands.mb_wide * m.stands.mb_high) (frame_macroblocks coded.head.now) mid.frames (frames_of (d.unit ∷ before)) (sym size.count)
      (frames_more before d.unit (frame_macroblocks coded.head.now) mid.frames made.stands);
  shown_is = d.shown_is ∙ answer_is before d.unit.picture.head.pic;
  next = made.samples_are;
  held = held;
  holds = holds;
  held_room = ap (λ x. length x.items) held ∙ m.stands.held_room;
  next_room = same_room ∙ m.stands.next_room;
}
