-- Frames of what is left: step by step, and of whole files.
use Rattle.std.proofs.Common.{◌≡◌, ◌≢◌, ℕ, zero, suc, ◌+◌, ◌-◌, ◌<◌, ◌≤◌, Bool, true, false, cond, List, [], ◌∷◌, ◌++◌, length, take, drop, get_or, refl, sym, ap, ◌∙◌, arith, Option, Some, None, Result, Ok, Err, nat_lt, nat_eq, le-ltb, eq-eqb, append-nil, append_assoc, add-one, add-zero, zero-add}
use Rattle.std.specs.List.{list_any}
use Rattle.std.proofs.lemmas.List.{length-append, length-take, length-drop, take_at, drop_at, take-take, get_or_at, get_or_append_left, get_or-take, nil_from_length}
use Rattle.std.proofs.lemmas.List.Folds.{list_any_at}
use Rattle.mv_terms.specs.declared.status.FrameFault.{FrameFault}
use Rattle.y4m_frames.specs.Lines.{is_line_feed, line_within}
use Rattle.y4m_frames.specs.Frames.{IsFrame, AreFrames, Frames, Front, nothing, whole, short, high, other, next_frame, first_frames, frames_left, frames_by, none_but, in_front, behind_frames, file_by, file_of, line_len, file_limit, frame_len, IsHeaderLine, front, line_front, judged, samples_front, line_limit, is_frame_line, are_samples}
use Rattle.mv_terms.specs.declared.frame_header.FrameHeader.{FrameHeader}
use Rattle.y4m_frames.specs.Header.{header_limit, header_of, file_header, start_by}
use Rattle.y4m_frames.specs.Reading.{StandsForItsFrames, FrameFilesAreRead}
use Rattle.y4m_frames.proofs.NextLemmas.{ended}
use Rattle.y4m_frames.proofs.LineLemmas.{at_first}
use Rattle.y4m_frames.proofs.NextLemmas.{line_there}
use Rattle.y4m_frames.proofs.SampleExits.{shifted}

no_line_feed : (text : List ℕ) (j : ℕ) → list_any is_line_feed text ≡ false → j < length text → is_line_feed (get_or text j 0) ≡ false
no_line_feed text j h l = by_answer (is_line_feed (get_or text j 0)) refl
  where
    by_answer : (b : Bool) → is_line_feed (get_or text j 0) ≡ b → is_line_feed (get_or text j 0) ≡ false
    by_answer false e = e
    by_answer true e = let yes : list_any is_line_feed text ≡ true = list_any_at is_line_feed text j 0 l e in cc

pub line_at : (most : ℕ) (text rest : List ℕ) → list_any is_line_feed text ≡ false → length text < most → line_within most (text ++ 10 ∷ rest) ≡ Some (length text)
unfolding line_within
line_at most text rest none l =
    let k = length text in
    let s : List ℕ = text ++ 10 ∷ rest in
    let len : length s ≡ k + suc (length rest) = length-append text (10 ∷ rest) in
    let here : get_or s k 0 ≡ 10 = get_or_at text 10 rest 0 k refl in
    at_first is_line_feed (take most s) k (omega (arith, length-take most s, len))
    (ap is_line_feed (get_or-take most s k 0 l ∙ here))
    (λ j less. ap is_line_feed (get_or-take most s j 0 (omega arith) ∙ get_or_append_left text (10 ∷ rest) 0 j less) ∙ no_line_feed text j none less)

-- a frame in front of other bytes is the next one
pub frame_is_next : (len n room : ℕ) (taken samples more : List ℕ) (is : IsFrame len taken samples) → length taken ≤ room → next_frame len n room (taken ++ more) ≡ Ok (Some (length is.text + 1))
frame_is_next len n room taken samples more is fits =
    let text = is.text in
    let k = length text in
    let t : List ℕ = text ++ 10 ∷ [] in
    let rest : List ℕ = samples ++ more in
    let s : List ℕ = taken ++ more in
    let parts : s ≡ text ++ 10 ∷ rest = ap (λ b. b ++ more) is.parts ∙ append_assoc text (10 ∷ samples) more in
    let split : s ≡ t ++ rest = parts ∙ sym (append_assoc text (10 ∷ []) rest) in
    let len_t : length t ≡ k + 1 = length-append text (10 ∷ []) in
    let all = is.all in
    let len_taken : length taken ≡ k + suc (length samples) = ap length is.parts ∙ length-append text (10 ∷ samples) in
    let there : line_within line_limit s ≡ Some k = ap (line_within line_limit) parts ∙ line_at line_limit text rest is.one_line is.short in
    let right : is_frame_line (take k s) ≡ true = ap is_frame_line (ap (take k) parts ∙ take_at text (10 ∷ rest) k refl) ∙ is.right in
    let m = room - (k + 1) in
    let enough : len ≤ m = omega (arith, len_taken, fits, all) in
    let long : len ≤ length (take m rest) = omega (arith, length-take m rest, length-append samples more, all) in
    let bytes : take len (take m rest) ≡ samples = take-take len m rest enough ∙ take_at samples more len all in
    line_there len n room s k there (omega (arith, len_taken, fits))
    ∙ ap (λ b. judged (nat_lt room (length s)) n (cond b (samples_front (k + 1) len (drop (k + 1) (take room s))) other)) right
    ∙ shifted s t rest n room (k + 1) len split len_t (omega (arith, len_taken, fits))
    ∙ ap (λ b. judged (nat_lt m (length rest)) n (cond b short (cond (are_samples (take len (take m rest))) (whole (k + 1)) high))) (le-ltb (length (take m rest)) len long)
    ∙ ap (λ b. judged (nat_lt m (length rest)) n (cond b (whole (k + 1)) high)) (ap are_samples bytes ∙ is.range)

-- what is handed out has a line

pub judged_whole : (more : Bool) (n : ℕ) (f : Front) (line : ℕ) → judged more n f ≡ Ok (Some line) → f ≡ whole line
judged_whole more n nothing line h = absurd (no more (nat_eq n 0) h)
  where
    no : (a b : Bool) → cond a (Err (Rattle.mv_terms.specs.declared.status.FrameFault.TheVariants.TooLong n)) (cond b (Err Rattle.mv_terms.specs.declared.status.FrameFault.TheVariants.NoFrames) (Ok None)) ≡ Ok (Some line) → ⊥
    no true b h = cc
    no false true h = cc
    no false false h = cc
judged_whole more n (whole l) line h = cc
judged_whole true n short line h = cc
judged_whole false n short line h = cc
judged_whole more n other line h = cc
judged_whole more n high line h = cc

line_front_whole : (r : Option ℕ) (len : ℕ) (t : List ℕ) (line : ℕ) → line_front r len t ≡ whole line → 0 < line
line_front_whole None len t line h = absurd (no (nat_lt (length t) line_limit) h)
  where
    no : (b : Bool) → cond b short other ≡ whole line → ⊥
    no true h = cc
    no false h = cc
line_front_whole (Some k) len t line h = by_tests (is_frame_line (take k t)) (nat_lt (length (drop (k + 1) t)) len) (are_samples (take len (drop (k + 1) t))) h
  where
    by_tests : (a b c : Bool) → cond a (cond b short (cond c (whole (k + 1)) high)) other ≡ whole line → 0 < line
    by_tests false b c h = cc
    by_tests true true c h = cc
    by_tests true false false h = cc
    by_tests true false true h = let e : k + 1 ≡ line = cc in omega arith

front_whole : (len : ℕ) (t : List ℕ) (line : ℕ) → front len t ≡ whole line → (0 < line) × (0 < length t)
front_whole len t line h = by_test (nat_eq (length t) 0) refl
  where
    by_test : (b : Bool) → nat_eq (length t) 0 ≡ b → (0 < line) × (0 < length t)
    by_test true e = let no : nothing ≡ whole line = sym (ap (λ b. cond b nothing (line_front (line_within line_limit t) len t)) e) ∙ h in cc
    by_test false e =
        let some : line_front (line_within line_limit t) len t ≡ whole line = sym (ap (λ b. cond b nothing (line_front (line_within line_limit t) len t)) e) ∙ h in
        let not_nil : length t ≢ 0 = λ z. (let yes : nat_eq (length t) 0 ≡ true = eq-eqb (length t) 0 z in cc) in
        (line_front_whole (line_within line_limit t) len t line some, omega arith)

pub some_frame : (len n room : ℕ) (s : List ℕ) (line : ℕ) → next_frame len n room s ≡ Ok (Some line) → (0 < line) × (0 < length s)
unfolding next_frame
some_frame len n room s line h =
    let w = front_whole len (take room s) line (judged_whole (nat_lt room (length s)) n (front len (take room s)) line h) in
    (w.0, omega (arith, w.1, length-take room s))

-- what is done with what is left behind a frame doesn't matter but there
same_behind : (len n room : ℕ) (s : List ℕ) (f g : ℕ → Frames) → ((line : ℕ) → next_frame len n room s ≡ Ok (Some line) → f (line + len) ≡ g (line + len)) →
    frames_by (next_frame len n room s) len s f ≡ frames_by (next_frame len n room s) len s g
same_behind len n room s f g h = by_next (next_frame len n room s) refl
  where
    by_next : (r : Result (Option ℕ) FrameFault) → next_frame len n room s ≡ r → frames_by (next_frame len n room s) len s f ≡ frames_by (next_frame len n room s) len s g
    by_next (Err fault) e = ap (λ r. frames_by r len s f) e ∙ sym (ap (λ r. frames_by r len s g) e)
    by_next (Ok None) e = ap (λ r. frames_by r len s f) e ∙ sym (ap (λ r. frames_by r len s g) e)
    by_next (Ok (Some line)) e =
        ap (λ r. frames_by r len s f) e ∙ ap (in_front (take len (drop line s))) (h line e) ∙ sym (ap (λ r. frames_by r len s g) e)

-- more turns than bytes make no difference
pub enough_turns : (a b len n room : ℕ) (s : List ℕ) → length s < a → length s < b → first_frames a len n room s ≡ first_frames b len n room s
unfolding first_frames
enough_turns zero b len n room s la lb = absurd (omega arith)
enough_turns (suc a) zero len n room s la lb = absurd (omega arith)
enough_turns (suc a) (suc b) len n room s la lb =
    same_behind len n room s _ _ (λ line e.
    let w = some_frame len n room s line e in
    let fewer : length (drop (line + len) s) < length s = omega (arith, w.0, w.1, length-drop (line + len) s) in
    enough_turns a b len (n + 1) (room - (line + len)) (drop (line + len) s) (omega arith) (omega arith))

one_turn : (len n room : ℕ) (s : List ℕ) → first_frames (suc (length s)) len n room s ≡ frames_by (next_frame len n room s) len s (λ taken. first_frames (length s) len (n + 1) (room - taken) (drop taken s))
unfolding first_frames
one_turn len n room s = refl

-- what the next frame makes of the frames of what is left
pub frames_step : (len n room : ℕ) (s : List ℕ) → frames_left len n room s ≡ frames_by (next_frame len n room s) len s (λ taken. frames_left len (n + 1) (room - taken) (drop taken s))
unfolding frames_left
frames_step len n room s =
    ap (λ k. first_frames k len n room s) (add-one (length s)) ∙ one_turn len n room s
    ∙ same_behind len n room s _ _ (λ line e.
    let w = some_frame len n room s line e in
    let fewer : length (drop (line + len) s) < length s = omega (arith, w.0, w.1, length-drop (line + len) s) in
    enough_turns (length s) (length (drop (line + len) s) + 1) len (n + 1) (room - (line + len)) (drop (line + len) s) fewer (omega arith))

-- a frame in front is the first of the frames that are left
pub frames_more : (len n room : ℕ) (taken samples more : List ℕ) → IsFrame len taken samples → length taken ≤ room →
    frames_left len n room (taken ++ more) ≡ in_front samples (frames_left len (n + 1) (room - length taken) more)
frames_more len n room taken samples more is fits =
    let line = length is.text + 1 in
    let s : List ℕ = taken ++ more in
    let t : List ℕ = is.text ++ 10 ∷ [] in
    let split : s ≡ t ++ (samples ++ more) = ap (λ b. b ++ more) is.parts ∙ append_assoc is.text (10 ∷ samples) more ∙ sym (append_assoc is.text (10 ∷ []) (samples ++ more)) in
    let len_t : length t ≡ line = length-append is.text (10 ∷ []) in
    let all = is.all in
    let count : line + len ≡ length taken = omega (arith, ap length is.parts, length-append is.text (10 ∷ samples), all) in
    let bytes : take len (drop line s) ≡ samples = ap (take len) (ap (drop line) split ∙ drop_at t (samples ++ more) line len_t) ∙ take_at samples more len all in
    let behind : drop (line + len) s ≡ more = ap (λ k. drop k s) count ∙ drop_at taken more (length taken) refl in
    frames_step len n room s
    ∙ ap (λ r. frames_by r len s (λ k. frames_left len (n + 1) (room - k) (drop k s))) (frame_is_next len n room taken samples more is fits)
    ∙ ap (λ b. in_front b (frames_left len (n + 1) (room - (line + len)) (drop (line + len) s))) bytes
    ∙ ap (λ d. in_front samples (frames_left len (n + 1) (room - (line + len)) d)) behind
    ∙ ap (λ k. in_front samples (frames_left len (n + 1) (room - k) more)) count

-- frames in front are the first of the frames that are left
pub frames_all : (len n room : ℕ) (frames : List (List ℕ)) (behind more : List ℕ) → AreFrames len frames behind → length behind ≤ room →
    frames_left len n room (behind ++ more) ≡ behind_frames frames (frames_left len (n + length frames) (room - length behind) more)
frames_all len n room [] behind more h fits =
    let len_is : length behind ≡ 0 = ap length h in
    let none : room - length behind ≡ room = omega (arith, len_is) in
    ap (λ b. frames_left len n room (b ++ more)) h ∙ sym (ap (λ k. frames_left len k (room - length behind) more) (add-zero n) ∙ ap (λ k. frames_left len n k more) none)
frames_all len n room (samples ∷ frames) behind more h fits =
    let count : length behind ≡ length h.0 + length h.1 = ap length h.3 ∙ length-append h.0 h.1 in
    let later = frames_all len (n + 1) (room - length h.0) frames h.1 more h.4 (omega (arith, count, fits)) in
    let number : n + 1 + length frames ≡ n + suc (length frames) = omega arith in
    let left : room - length h.0 - length h.1 ≡ room - length behind = omega (arith, count) in
    ap (λ b. frames_left len n room b) (ap (λ b. b ++ more) h.3 ∙ append_assoc h.0 h.1 more)
    ∙ frames_more len n room h.0 samples (h.1 ++ more) h.2 (omega (arith, count, fits))
    ∙ ap (in_front samples) (later ∙ ap (λ k. behind_frames frames (frames_left len k (room - length h.0 - length h.1) more)) number
    ∙ ap (λ k. behind_frames frames (frames_left len (n + suc (length frames)) k more)) left)

pub header_stands : (line behind : List ℕ) (h : FrameHeader) → IsHeaderLine line h →
    file_of (line ++ behind) ≡ Ok (record { line = line; header = h; frames = frames_left (frame_len h) 0 (file_limit - length line) behind })
unfolding file_of file_header
header_stands line behind h is =
    let text = is.text in
    let k = length text in
    let s : List ℕ = line ++ behind in
    let parts : s ≡ text ++ 10 ∷ behind = ap (λ b. b ++ behind) is.parts ∙ append_assoc text (10 ∷ []) behind in
    let there : line_within header_limit s ≡ Some k = ap (line_within header_limit) parts ∙ line_at header_limit text behind is.one_line is.short in
    let len_is : length line ≡ k + 1 = ap length is.parts ∙ length-append text (10 ∷ []) in
    let means : header_of (take k s) ≡ Ok h = ap header_of (ap (take k) parts ∙ take_at text (10 ∷ behind) k refl) ∙ is.means in
    ap (λ r. file_by (start_by r s) (take (line_len r) s) (drop (line_len r) s)) there
    ∙ ap (λ r. file_by r (take (k + 1) s) (drop (k + 1) s)) means
    ∙ ap (λ t. file_by (Ok h) t (drop (k + 1) s)) (take_at line behind (k + 1) len_is)
    ∙ ap (λ d. file_by (Ok h) line d) (drop_at line behind (k + 1) len_is)

-- whatever comes, the frames of the file are those that a reader stands for, and then those of what is left
pub stands_for_its_frames : StandsForItsFrames
stands_for_its_frames r past frames s more =
    let len = frame_len r.header in
    let long : length past ≡ length r.line + length s.behind = ap length s.parts ∙ length-append r.line s.behind in
    let room_is = s.room in
    let fits : length s.behind ≤ file_limit - length r.line = omega (arith, long, room_is) in
    let left : file_limit - length r.line - length s.behind ≡ r.room = omega (arith, long, room_is) in
    ap file_of (ap (λ b. b ++ more) s.parts ∙ append_assoc r.line s.behind more)
    ∙ header_stands r.line (s.behind ++ more) r.header s.header
    ∙ ap (λ f. Ok (record { line = r.line; header = r.header; frames = f }))
    (frames_all len 0 (file_limit - length r.line) frames s.behind more s.frames_are fits
    ∙ ap (λ n. behind_frames frames (frames_left len n (file_limit - length r.line - length s.behind) more)) (zero-add (length frames) ∙ sym s.count)
    ∙ ap (λ k. behind_frames frames (frames_left len r.count k more)) left)

-- a frame file is read as what it holds
pub frame_files_are_read : FrameFilesAreRead
frame_files_are_read bytes line h frames f =
    let len = frame_len h in
    let long : length bytes ≡ length line + length f.behind = ap length f.parts ∙ length-append line f.behind in
    let short_enough = f.within in
    let fits : length f.behind ≤ file_limit - length line = omega (arith, long, short_enough) in
    let not_none : length frames ≢ 0 = λ z. f.some (nil_from_length frames z) in
    let last : frames_left len (length frames) (file_limit - length line - length f.behind) [] ≡ none_but None =
    frames_step len (length frames) (file_limit - length line - length f.behind) []
    ∙ ap (λ r. frames_by r len [] (λ taken. frames_left len (length frames + 1) (file_limit - length line - length f.behind - taken) (drop taken []))) (ended len (length frames) (file_limit - length line - length f.behind) [] refl not_none) in
    ap file_of f.parts ∙ header_stands line f.behind h f.header
    ∙ ap (λ g. Ok (record { line = line; header = h; frames = g }))
    (ap (frames_left len 0 (file_limit - length line)) (sym (append-nil f.behind))
    ∙ frames_all len 0 (file_limit - length line) frames f.behind [] f.frames_are fits
    ∙ ap (λ n. behind_frames frames (frames_left len n (file_limit - length line - length f.behind) [])) (zero-add (length frames))
    ∙ ap (behind_frames frames) last
    ∙ ap (λ fs. record { frames = fs; fault = None }) (append-nil frames))
