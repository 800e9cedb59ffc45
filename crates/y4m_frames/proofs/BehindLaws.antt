-- A reader behind the first frames of a file.
use Rattle.std.proofs.Common.{◌≡◌, ◌≢◌, ℕ, suc, ◌+◌, ◌-◌, ◌<◌, ◌≤◌, List, [], ◌∷◌, ◌++◌, length, take, drop, refl, sym, ap, ◌∙◌, subst, arith, Option, Some, None, Result, Ok, Err, append-nil, append_assoc, ⊎_elim, ◌⊎◌, inl, inr, IfNone, IsErrOf}
use Rattle.std.proofs.lemmas.Bool.{cases_lt}
use Rattle.std.proofs.lemmas.List.{length-append, length-take, take_at, take-append-le, take-append-drop, nil_from_length}
use Rattle.std.proofs.Math.Seq.{take-append-add}
use Rattle.std.specs.Io.KnownBytes.{Consumes, prepend_known}
use Rattle.std.specs.Option.{ForSome}
use Rattle.mv_terms.specs.declared.status.FrameFault.{FrameFault}
use Rattle.mv_terms.specs.declared.status.FrameFault.TheVariants.{BadHeader}
use Rattle.mv_terms.specs.declared.frame_header.FrameHeader.{FrameHeader}
use Rattle.y4m_frames.specs.declared.halt.Halt.{Halt}
use Rattle.y4m_frames.specs.declared.halt.Halt.TheVariants as halts
use Rattle.y4m_frames.specs.Lines.{line_within}
use Rattle.y4m_frames.specs.Header.{header_limit, file_header, start_by}
use Rattle.y4m_frames.specs.Frames.{IsFrame, AreFrames, IsHeaderLine, Frames, behind_frames, none_but, frames_by, frames_left, next_frame, frame_len, file_limit, file_of, file_by, line_len, line_limit}
use Rattle.y4m_frames.specs.Reading.{Reading, left_of, StandsFor, Starts, Hands, next_of}
use Rattle.y4m_frames.specs.Steps.{FrameTells, StopsShort}
use Rattle.y4m_frames.specs.Behind.{read_limit, IsBehind, HasFrames, up_to, AnswersBehind, HeaderFaultsAreFaults, BeginsItsFrames, FramesEndWithin, ReadsNear, frames_within, count_of}
use Rattle.y4m_frames.proofs.LineLemmas.{line_stays}
use Rattle.y4m_frames.proofs.NextLemmas.{none_before}
use Rattle.y4m_frames.proofs.FileLaws.{line_at, frames_step, frames_more, header_stands, stands_for_its_frames}
use Rattle.y4m_frames.proofs.OnlyLaws.{found_end}
use Rattle.y4m_frames.proofs.PartLemmas.{frame_line, frame_needs}

-- where no frame is next, none is left
stopped : (len n room : ℕ) (s : List ℕ) (fault : Option FrameFault) (answer : Result (Option ℕ) FrameFault) → next_frame len n room s ≡ answer
    → ((t : List ℕ) (others : ℕ → Frames) → frames_by answer len t others ≡ none_but fault) → frames_left len n room s ≡ none_but fault
stopped len n room s fault answer is none =
    frames_step len n room s
    ∙ ap (λ a. frames_by a len s (λ taken. frames_left len (n + 1) (room - taken) (drop taken s))) is
    ∙ none s (λ taken. frames_left len (n + 1) (room - taken) (drop taken s))

no_others : (r : Reading) (past s : List ℕ) (frames : List (List ℕ)) (fault : Option FrameFault) → StandsFor r past frames
    → frames_left (frame_len r.header) r.count r.room s ≡ none_but fault → HasFrames r (past ++ s) (up_to frames fault)
no_others r past s frames fault st none =
    stands_for_its_frames r past frames st s
    ∙ ap (λ f. Ok (record { line = r.line; header = r.header; frames = behind_frames frames f })) none
    ∙ ap (λ fs. Ok (record { line = r.line; header = r.header; frames = up_to fs fault })) (append-nil frames)

left_told : (r : Reading) (rest : Option (List ℕ)) (file : List ℕ) (frames : List (List ℕ)) (b : IsBehind r rest file frames) → left_of r rest ≡ Some (r.ahead ++ b.left)
left_told r rest file frames b = ap (prepend_known r.ahead) b.rest_is

-- no reader starts
pub header_faults_are_faults : HeaderFaultsAreFaults
unfolding file_of
header_faults_are_faults file fault e =
    let n = line_len (line_within header_limit file) in ap (λ r. file_by r (take n file) (drop n file)) e

-- a reader that starts
pub starts_behind : (r : Reading) (old rest : Option (List ℕ)) (file : List ℕ) → Starts old rest r → length r.ahead < read_limit → old ≡ Some file → IsBehind r rest file []
starts_behind r old rest file s few told = by rest refl (subst (λ o. Consumes o (left_of r rest) r.line) told s.consumed)
  where
    by : (o : Option (List ℕ)) → rest ≡ o → Consumes (Some file) (prepend_known r.ahead o) r.line → IsBehind r rest file []
    by None e c = absurd c
    by (Some left) e c = record { past = r.line; left = left; stands = s.stands; rest_is = e; whole = c; runs = s.runs; few = few }

-- a frame that is handed out
pub hands_behind : (old new : Reading) (rest_old rest_new : Option (List ℕ)) (file samples : List ℕ) (frames : List (List ℕ)) → Hands old new rest_old rest_new samples → new.failed ≡ None
    → length new.ahead < read_limit → IsBehind old rest_old file frames → IsBehind new rest_new file (frames ++ samples ∷ [])
hands_behind old new rest_old rest_new file samples frames h runs few b =
    by rest_new refl (subst (λ o. Consumes o (left_of new rest_new) h.taken) (left_told old rest_old file frames b) h.consumed)
  where
    by : (o : Option (List ℕ)) → rest_new ≡ o → Consumes (Some (old.ahead ++ b.left)) (prepend_known new.ahead o) h.taken → IsBehind new rest_new file (frames ++ samples ∷ [])
    by None e c = absurd c
    by (Some left) e c = record {
      past = b.past ++ h.taken;
      left = left;
      stands = h.stands b.past frames b.stands;
      rest_is = e;
      whole = b.whole ∙ ap (λ s. b.past ++ s) c ∙ sym (append_assoc b.past h.taken (new.ahead ++ left));
      runs = runs;
      few = few;
    }

-- the end
pub ends_behind : (old : Reading) (ahead : List ℕ) (len : ℕ) (found : Option ℕ) (rest_old rest_new : Option (List ℕ)) (file : List ℕ) (frames : List (List ℕ)) → len ≡ frame_len old.header → found ≡ None
    → ForSome (left_of old rest_old) (λ s. FrameTells len old.count old.room s (Ok found)) → IfNone found (Consumes (left_of old rest_old) (prepend_known ahead rest_new) [])
    → IsBehind old rest_old file frames → HasFrames old file (up_to frames None) × (rest_new ≡ Some [])
ends_behind old ahead len (Some taken) rest_old rest_new file frames len_is empty_is tells same b = cc
ends_behind old ahead len None rest_old rest_new file frames len_is empty_is tells same b =
    let left : List ℕ = old.ahead ++ b.left in
    let told = left_told old rest_old file frames b in
    let none : next_of old left ≡ Ok None = ap (λ k. next_frame k old.count old.room left) (sym len_is) ∙ tells left told in
    let ended = found_end (frame_len old.header) old.count old.room left none in
    let kept : Consumes (Some []) (prepend_known ahead rest_new) [] = subst (λ o. Consumes o (prepend_known ahead rest_new) []) (told ∙ ap Some ended.0) same in (
      subst (λ (f : List ℕ). HasFrames old f (up_to frames None)) (sym b.whole)
          (no_others old b.past left frames None b.stands (stopped (frame_len old.header) old.count old.room left None (Ok None) none (λ t others. refl))),
      by rest_new kept,
    )
  where
    empty : (a y : List ℕ) → [] ≡ a ++ y → y ≡ []
    empty [] y e = sym e
    empty (x ∷ a) y e = cc

    by : (o : Option (List ℕ)) → Consumes (Some []) (prepend_known ahead o) [] → o ≡ Some []
    by None c = absurd c
    by (Some y) c = ap Some (empty ahead y c)

taken_front : (a b : List ℕ) → take (length (a ++ b) - length b) (a ++ b) ≡ a
taken_front a b = take_at a b (length (a ++ b) - length b) (omega (arith, length-append a b))

-- the shelf failed
reads_short : (old : Reading) (rest_old rest_new : Option (List ℕ)) (file : List ℕ) (frames : List (List ℕ)) → StopsShort (frame_len old.header) old.count old.room (left_of old rest_old) rest_new
    → IsBehind old rest_old file frames → ForSome rest_new (λ left. (fault : Option FrameFault) × HasFrames old (take (length file - length left) file) (up_to frames fault))
reads_short old rest_old rest_new file frames s b left is =
    let c : Consumes (Some (old.ahead ++ b.left)) (Some left) s.taken =
    subst (λ o. Consumes (Some (old.ahead ++ b.left)) o s.taken) is (subst (λ o. Consumes o rest_new s.taken) (left_told old rest_old file frames b) s.consumed) in
    let whole : file ≡ (b.past ++ s.taken) ++ left = b.whole ∙ ap (λ t. b.past ++ t) c ∙ sym (append_assoc b.past s.taken left) in
    let front : take (length file - length left) file ≡ b.past ++ s.taken = ap (λ (f : List ℕ). take (length f - length left) f) whole ∙ taken_front (b.past ++ s.taken) left in
    let (fault, none) = by (next_of old s.taken) refl in
    (fault, subst (λ (f : List ℕ). HasFrames old f (up_to frames fault)) (sym front) (no_others old b.past s.taken frames fault b.stands none))
  where
    by : (answer : Result (Option ℕ) FrameFault) → next_of old s.taken ≡ answer → (fault : Option FrameFault) × (frames_left (frame_len old.header) old.count old.room s.taken ≡ none_but fault)
    by (Err fault) e = (Some fault, stopped (frame_len old.header) old.count old.room s.taken (Some fault) (Err fault) e (λ t others. refl))
    by (Ok None) e = (None, stopped (frame_len old.header) old.count old.room s.taken None (Ok None) e (λ t others. refl))
    by (Ok (Some line)) e = absurd (s.part line e)

-- a fault, or the shelf failed
pub halts_behind : (old new : Reading) (len : ℕ) (halt : Halt) (rest_old rest_new : Option (List ℕ)) (file samples : List ℕ) (frames : List (List ℕ)) → len ≡ frame_len old.header
    → ForSome (left_of old rest_old) (λ s. FrameTells len old.count old.room s (Err halt)) → (IsErrOf {T = Option ℕ} (Err halt) halts.Read → StopsShort len old.count old.room (left_of old rest_old) rest_new)
    → IsBehind old rest_old file frames → AnswersBehind old new rest_new file frames samples (Err halt)
halts_behind old new len (halts.Fault fault) rest_old rest_new file samples frames len_is tells part b =
    let left : List ℕ = old.ahead ++ b.left in
    let is : next_of old left ≡ Err fault = ap (λ k. next_frame k old.count old.room left) (sym len_is) ∙ tells left (left_told old rest_old file frames b) in
    subst (λ (f : List ℕ). HasFrames old f (up_to frames (Some fault))) (sym b.whole)
    (no_others old b.past left frames (Some fault) b.stands (stopped (frame_len old.header) old.count old.room left (Some fault) (Err fault) is (λ t others. refl)))
halts_behind old new len halts.Read rest_old rest_new file samples frames len_is tells part b =
    reads_short old rest_old rest_new file frames (subst (λ k. StopsShort k old.count old.room (left_of old rest_old) rest_new) len_is (part refl)) b
halts_behind old new len halts.NoMemory rest_old rest_new file samples frames len_is tells part b = tells (old.ahead ++ b.left) (left_told old rest_old file frames b)

-- the file has these frames first
pub begins_its_frames : BeginsItsFrames
begins_its_frames r rest file frames b =
    (frames_left (frame_len r.header) r.count r.room (r.ahead ++ b.left), ap file_of b.whole ∙ stands_for_its_frames r b.past frames b.stands (r.ahead ++ b.left))

-- a part of some frames has fewer frames
few_frames : (len c room : ℕ) (frames : List (List ℕ)) (behind : List ℕ) (n : ℕ) → AreFrames len frames behind → length behind ≤ room → n < length behind
    → length (frames_left len c room (take n behind)).frames < length frames
few_frames len c room [] behind n h fits lt = absurd (let z : length behind ≡ 0 = ap length h in omega arith)
few_frames len c room (f ∷ frames) behind n h fits lt =
    by (cases_lt n (length h.0)) (λ room' m fits' lt'. few_frames len (c + 1) room' frames h.1 m h.4 fits' lt')
  where
    t : List ℕ
    t = h.0

    rest : List ℕ
    rest = h.1

    is : IsFrame len t f
    is = h.2

    whole : behind ≡ t ++ rest
    whole = h.3

    long : length behind ≡ length t + length rest
    long = ap length whole ∙ length-append t rest

    part : n < length t → (line : ℕ) → next_frame len c room (take n t) ≡ Ok (Some line) → ⊥
    part l line e =
        let needs = frame_needs len c room (take n t) line e in
        let here : line_within line_limit t ≡ Some needs.0 = ap (line_within line_limit) (sym (take-append-drop n t)) ∙ line_stays line_limit (take n t) (drop n t) needs.0 needs.1 in
        let there : line_within line_limit t ≡ Some (length is.text) = ap (line_within line_limit) (sym (append-nil t)) ∙ frame_line len t f [] is in
        let same : Some needs.0 ≡ Some (length is.text) = sym here ∙ there in
        let at : needs.0 ≡ length is.text = cc in
        let all : length f ≡ len = is.all in
        omega (arith, needs.2, at, l, all, length-take n t, ap length is.parts, length-append is.text (10 ∷ f))

    none : (s : List ℕ) (answer : Result (Option ℕ) FrameFault) → next_frame len c room s ≡ answer → ((line : ℕ) → next_frame len c room s ≡ Ok (Some line) → ⊥) → length (frames_left len c room s).frames < length (f ∷ frames)
    none s (Err fault) e _ =
        let z : length (frames_left len c room s).frames ≡ 0 = ap (λ (x : Frames). length x.frames) (stopped len c room s (Some fault) (Err fault) e (λ u others. refl)) in
        omega arith
    none s (Ok None) e _ =
        let z : length (frames_left len c room s).frames ≡ 0 = ap (λ (x : Frames). length x.frames) (stopped len c room s None (Ok None) e (λ u others. refl)) in
        omega arith
    none s (Ok (Some line)) e not = absurd (not line e)

    by : (n < length t) ⊎ (length t ≤ n) → ((room' m : ℕ) → length rest ≤ room' → m < length rest → length (frames_left len (c + 1) room' (take m rest)).frames < length frames)
        → length (frames_left len c room (take n behind)).frames < length (f ∷ frames)
    by (inl l) more =
        let front : take n behind ≡ take n t = ap (take n) whole ∙ take-append-le n t rest (omega arith) in
        subst (λ (s : List ℕ). length (frames_left len c room s).frames < length (f ∷ frames)) (sym front) (none (take n t) (next_frame len c room (take n t)) refl (part l))
    by (inr g) more =
        let m = n - length t in
        let number : n ≡ length t + m = omega arith in
        let front : take n behind ≡ t ++ take m rest = ap (take n) whole ∙ ap (λ k. take k (t ++ rest)) number ∙ take-append-add t rest m in
        let later = more (room - length t) m (omega (arith, long)) (omega (arith, long)) in
        let count : length (frames_left len c room (take n behind)).frames ≡ suc (length (frames_left len (c + 1) (room - length t) (take m rest)).frames) =
        ap (λ (s : List ℕ). length (frames_left len c room s).frames) front ∙ ap (λ (x : Frames). length x.frames) (frames_more len c room t f (take m rest) is (omega (arith, long))) in
        omega (arith, later, count)

-- a part of a header line is none
header_cut : (line : List ℕ) (h : FrameHeader) (n : ℕ) → IsHeaderLine line h → n < length line → file_of (take n line) ≡ Err BadHeader
unfolding file_of file_header
header_cut line h n is lt =
    let there : line_within header_limit line ≡ Some (length is.text) = ap (line_within header_limit) is.parts ∙ line_at header_limit is.text [] is.one_line is.short in
    let none : line_within header_limit (take n line) ≡ None = none_before header_limit n line (length is.text) there (omega (arith, lt, ap length is.parts, length-append is.text (10 ∷ []))) in
    ap (λ r. file_by (start_by r (take n line)) (take (line_len r) (take n line)) (drop (line_len r) (take n line))) none

-- a part of what a reader stands for has fewer frames
fewer_within : (r : Reading) (past more : List ℕ) (frames : List (List ℕ)) (n : ℕ) → StandsFor r past frames → frames ≢ [] → n < length past → frames_within (past ++ more) n < length frames
fewer_within r past more frames n s some lt = by (cases_lt n (length r.line))
  where
    h : ℕ
    h = length r.line

    long : length past ≡ length r.line + length s.behind
    long = ap length s.parts ∙ length-append r.line s.behind

    not_none : length frames ≢ 0
    not_none z = some (nil_from_length frames z)

    front : take n (past ++ more) ≡ take n (r.line ++ s.behind)
    front = take-append-le n past more (omega arith) ∙ ap (take n) s.parts

    by : (n < length r.line) ⊎ (length r.line ≤ n) → frames_within (past ++ more) n < length frames
    by (inl l) =
        let all : take n (past ++ more) ≡ take n r.line = front ∙ take-append-le n r.line s.behind (omega arith) in
        let count : frames_within (past ++ more) n ≡ 0 = ap (λ (t : List ℕ). count_of (file_of t)) all ∙ ap count_of (header_cut r.line r.header n s.header l) in
        omega (arith, count, not_none)
    by (inr g) =
        let m = n - length r.line in
        let number : n ≡ length r.line + m = omega arith in
        let all : take n (past ++ more) ≡ r.line ++ take m s.behind = front ∙ ap (λ k. take k (r.line ++ s.behind)) number ∙ take-append-add r.line s.behind m in
        let room = file_limit - length r.line in
        let count : frames_within (past ++ more) n ≡ length (frames_left (frame_len r.header) 0 room (take m s.behind)).frames =
        ap (λ (t : List ℕ). count_of (file_of t)) all ∙ ap count_of (header_stands r.line (take m s.behind) r.header s.header) in
        let room_is = s.room in
        let few = few_frames (frame_len r.header) 0 room frames s.behind m s.frames_are (omega (arith, long, room_is)) (omega (arith, long)) in
        omega (arith, count, few)

-- the frames that a reader stands for end within n bytes where what it stands for does
pub frames_end_within : FramesEndWithin
frames_end_within r past more frames n s some = (
  (λ le. ⊎_elim (λ (l : n < length past). absurd (let few = fewer_within r past more frames n s some l in omega (arith, few, le))) (λ (g : length past ≤ n). g) (cases_lt n (length past))),
  (λ g.
      let m = n - length past in
      let number : n ≡ length past + m = omega arith in
      let front : take n (past ++ more) ≡ past ++ take m more = ap (λ k. take k (past ++ more)) number ∙ take-append-add past more m in
      let others : Frames = frames_left (frame_len r.header) r.count r.room (take m more) in
      let count : frames_within (past ++ more) n ≡ length (frames ++ others.frames) =
      ap (λ (t : List ℕ). count_of (file_of t)) front ∙ ap count_of (stands_for_its_frames r past frames s (take m more)) in
      omega (arith, count, length-append frames others.frames)),
)

-- less than can be read at once was taken beyond them
pub reads_near : ReadsNear
reads_near r rest file frames n b some le left is =
    let same : Some b.left ≡ Some left = sym b.rest_is ∙ is in
    let left_is : b.left ≡ left = cc in
    let within : length b.past ≤ n = (frames_end_within r b.past (r.ahead ++ b.left) frames n b.stands some).0 (subst (λ (f : List ℕ). length frames ≤ frames_within f n) b.whole le) in
    let few = b.few in
    omega (arith, ap length b.whole, length-append b.past (r.ahead ++ b.left), length-append r.ahead b.left, ap length left_is, within, few)
