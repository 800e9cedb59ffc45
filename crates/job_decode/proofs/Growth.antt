-- The frame file as units are accepted.
use Rattle.std.proofs.Common.{◌≡◌, ◌≤◌, ◌<◌, ℕ, ◌+◌, Bool, true, false, List, [], ◌∷◌, ◌++◌, length, take, drop, Option, None, Some, inl, inr, refl, sym, ap, ◌∙◌, append_assoc, subst, arith, reverse}
use Rattle.std.specs.List.{flat_map}
use Rattle.std.proofs.lemmas.List.{length-append, take-append-le, take-append-drop, take-map, drop_at}
use Rattle.std.proofs.Math.Seq.{take-nil}
use Rattle.std.specs.Prelude.{if◌then◌else◌}
use Rattle.std.proofs.lemmas.Bool.{cases_lt}
use Rattle.mv_terms.specs.declared.status.Why.{Why}
use Rattle.mv_terms.specs.UnitLists.{UnitLists}
use Rattle.mv_terms.specs.Order.{held, listed, shown_by, shown_from, shows, display_order}
use Rattle.mv_terms.specs.PicTypes.{is_anchor}
use Rattle.mv_terms.proofs.ShownLaws.{shown_and_held, shown_earlier, held_grows}
use Rattle.mv_units.specs.Profile.{CodedUnit, Judged, JudgedTo}
use Rattle.y4m_frames.specs.FrameFile.{frame, header_line}
use Rattle.cert_picture.specs.FrameFileOf.{UnitFrame, pic_of_frame, frame_behind, frames_of, header_of, bytes_of, file_front, due_to, due}
use Rattle.cert_picture.proofs.FrameFileLaws.{bytes_append, due_is}
use Rattle.job_decode.specs.Stream.{first_units}

-- What is judged behind units stands in front of them, the latest first.
pub record HasMore (before : List CodedUnit) (judged : Judged) : Type 0 where
  pub more : List CodedUnit
  pub units_are : judged.units ≡ more ++ before

none_more : (before : List CodedUnit) (judged : Judged) (refusal : Option Why) → judged ≡ record { units = before; refusal = refusal } → HasMore before judged
none_more before judged refusal h = record { more = []; units_are = ap (λ (j : Judged). j.units) h }

one_more : (before : List CodedUnit) (judged : Judged) (u : CodedUnit) → HasMore (u ∷ before) judged → HasMore before judged
one_more before judged u h = record { more = h.more ++ u ∷ []; units_are = h.units_are ∙ sym (append_assoc h.more (u ∷ []) before) }

pub judged_more : (later : List UnitLists) (before : List CodedUnit) (refusal : Option Why) (judged : Judged) → JudgedTo before later refusal judged → HasMore before judged
judged_more [] before refusal judged h = none_more before judged refusal h
judged_more (lists ∷ later) before refusal judged (inl h) = one_more before judged h.0 (judged_more later (h.0 ∷ before) refusal judged h.2)
judged_more (lists ∷ later) before refusal judged (inr h) = none_more before judged (Some h.0) h.2

pub first_are : (more before : List CodedUnit) → first_units (length before) (more ++ before) ≡ before
first_are more before =
    ap (λ (n : ℕ). drop n (more ++ before)) (omega (arith, length-append more before)) ∙ drop_at more before (length more) refl

-- ---- the frames of more units

-- they are others in front of these
pub frames_more : (more before : List CodedUnit) → (others : List UnitFrame) × (frames_of (more ++ before) ≡ others ++ frames_of before)
unfolding frames_of
frames_more [] before = ([], refl)
frames_more (u ∷ more) before =
    let earlier = frames_more more before in
    (frame_behind (frames_of (more ++ before)) u ∷ earlier.0, ap (λ (fs : List UnitFrame). frame_behind (frames_of (more ++ before)) u ∷ fs) earlier.1)

header_stays : (others : List UnitFrame) (f g : UnitFrame) (before : List UnitFrame) → header_of f (others ++ g ∷ before) ≡ header_of g before
header_stays [] f g before = refl
header_stays (h ∷ others) f g before = header_stays others h g before

-- The header line of the first one, nothing where there is none.
pub line_of : List UnitFrame → List ℕ
line_of [] = []
line_of (f ∷ before) = header_line (header_of f before)

line_stays : (others : List UnitFrame) (g : UnitFrame) (before : List UnitFrame) → line_of (others ++ g ∷ before) ≡ line_of (g ∷ before)
unfolding line_of
line_stays [] g before = refl
line_stays (f ∷ others) g before = ap header_line (header_stays others f g before)

pub due_by_line : (frames : List UnitFrame) → due_to frames ≡ line_of frames ++ bytes_of (shown_by pic_of_frame frames)
unfolding line_of due_to shown_by
due_by_line [] = refl
due_by_line (f ∷ before) = due_is before f

front_by_line : (n : ℕ) (frames : List UnitFrame) → file_front n frames ≡ line_of frames ++ bytes_of (take n (display_order pic_of_frame (reverse frames)))
unfolding line_of shown_from
front_by_line n [] = sym (ap bytes_of (take-nil n))
front_by_line n (f ∷ before) =
    ap (λ (s : List (List ℕ)). header_line (header_of f before) ++ flat_map frame s) (take-map (λ (g : UnitFrame). g.samples) n (display_order pic_of_frame (reverse (f ∷ before))))

-- ---- how many frames were shown

shown_by_test : (b : Bool) (o : Option UnitFrame) (f : UnitFrame)
    → length (if b then listed o else f ∷ []) + length (listed (if b then Some f else o)) ≡ length (listed o) + 1
shown_by_test true o f = refl
shown_by_test false None f = refl
shown_by_test false (Some g) f = refl

-- each frame was shown or is held
all_shown : (frames : List UnitFrame) → length (shown_by pic_of_frame frames) + length (listed (held pic_of_frame frames)) ≡ length frames
unfolding shown_by
all_shown [] = refl
all_shown (f ∷ before) =
    let earlier = all_shown before in
    let now = shown_by_test (is_anchor (pic_of_frame f)) (held pic_of_frame before) f in
    let holds : length (listed (held pic_of_frame (f ∷ before))) ≡ length (listed (if is_anchor (pic_of_frame f) then Some f else held pic_of_frame before)) =
    ap (λ (o : Option UnitFrame). length (listed o)) (held_grows pic_of_frame f before) in
    omega (arith, earlier, now, holds, length-append (shown_by pic_of_frame before) (shows pic_of_frame (held pic_of_frame before) f))

one_held : (o : Option UnitFrame) → length (listed o) ≤ 1
one_held None = omega arith
one_held (Some f) = omega arith

front_shorter : (k : ℕ) (frames : List UnitFrame) → length (bytes_of (take k frames)) ≤ length (bytes_of frames)
front_shorter k frames =
    let whole : bytes_of frames ≡ bytes_of (take k frames) ++ bytes_of (drop k frames) = ap bytes_of (sym (take-append-drop k frames)) ∙ bytes_append (take k frames) (drop k frames) in
    omega (arith, ap (λ (s : List ℕ). length s) whole, length-append (bytes_of (take k frames)) (bytes_of (drop k frames)))

-- Where all that is due to frames was written, but fewer bytes than m + 1 frames take, they are m + 1 at most.
few_frames : (others : List UnitFrame) (g : UnitFrame) (before : List UnitFrame) (m : ℕ) (appended : List ℕ) → length (due_to (g ∷ before)) ≤ length appended
    → length appended < length (file_front (m + 1) (others ++ g ∷ before)) → length (g ∷ before) ≤ m + 1
few_frames others g before m appended long few = elim (cases_lt m (length (shown_by pic_of_frame (g ∷ before)))) [
  | inl many ↦ absurd (
      let all = others ++ g ∷ before in
      let shown = shown_by pic_of_frame (g ∷ before) in
      let more = shown_earlier pic_of_frame others (g ∷ before) in
      let order : display_order pic_of_frame (reverse all) ≡ shown ++ (more.0 ++ listed (held pic_of_frame all)) =
      shown_and_held pic_of_frame all ∙ (ap (λ (s : List UnitFrame). s ++ listed (held pic_of_frame all)) more.1 ∙ append_assoc shown more.0 (listed (held pic_of_frame all))) in
      let cut : take (m + 1) (display_order pic_of_frame (reverse all)) ≡ take (m + 1) shown =
      ap (λ (s : List UnitFrame). take (m + 1) s) order ∙ take-append-le (m + 1) shown (more.0 ++ listed (held pic_of_frame all)) (omega arith) in
      let front : file_front (m + 1) all ≡ line_of (g ∷ before) ++ bytes_of (take (m + 1) shown) =
      front_by_line (m + 1) all ∙ (ap (λ (s : List UnitFrame). line_of all ++ bytes_of s) cut ∙ ap (λ (s : List ℕ). s ++ bytes_of (take (m + 1) shown)) (line_stays others g before)) in
      omega (
        arith,
        few,
        long,
        ap (λ (s : List ℕ). length s) front,
        ap (λ (s : List ℕ). length s) (due_by_line (g ∷ before)),
        length-append (line_of (g ∷ before)) (bytes_of (take (m + 1) shown)),
        length-append (line_of (g ∷ before)) (bytes_of shown),
        front_shorter (m + 1) shown,
      ))
  | inr few_shown ↦ omega (arith, few_shown, all_shown (g ∷ before), one_held (held pic_of_frame (g ∷ before)))
]

frames_count : (units : List CodedUnit) → length (frames_of units) ≡ length units
unfolding frames_of
frames_count [] = refl
frames_count (u ∷ before) = let n = frames_count before in omega (arith, n)

few_by : (frames all others : List UnitFrame) (m : ℕ) (appended : List ℕ) → all ≡ others ++ frames → length (due_to frames) ≤ length appended
    → length appended < length (file_front (m + 1) all) → length frames ≤ m + 1
few_by [] all others m appended is long few = omega arith
few_by (g ∷ before) all others m appended is long few =
    few_frames others g before m appended long (subst (λ (fs : List UnitFrame). length appended < length (file_front (m + 1) fs)) is few)

-- the same of units
pub few_units : (more before : List CodedUnit) (m : ℕ) (appended : List ℕ) → length (due before) ≤ length appended
    → length appended < length (file_front (m + 1) (frames_of (more ++ before))) → length before ≤ m + 1
few_units more before m appended long few =
    let all = frames_more more before in
    let some = few_by (frames_of before) (frames_of (more ++ before)) all.0 m appended all.1 long few in
    omega (arith, some, frames_count before)
