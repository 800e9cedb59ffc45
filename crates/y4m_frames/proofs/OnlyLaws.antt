-- Only frame files are read without a fault.
use Rattle.std.proofs.Common.{◌≡◌, ◌≢◌, ℕ, zero, suc, ◌+◌, ◌-◌, ◌<◌, ◌≤◌, Bool, true, false, cond, List, [], ◌∷◌, ◌++◌, length, take, drop, refl, sym, ap, ◌∙◌, subst, arith, Option, Some, None, Result, Ok, Err, nat_lt, nat_eq, lt-ltb, eq-eqb, zero-add, ⊎_elim, ne_eqb}
use Rattle.std.proofs.lemmas.Bool.{cases_lt, cases_eq}
use Rattle.std.proofs.lemmas.List.{length-take, length-take-le, length-drop, take-append-drop, take-take, drop-take, nil_from_length}
use Rattle.mv_terms.specs.declared.status.FrameFault.{FrameFault}
use Rattle.mv_terms.specs.declared.status.FrameFault.TheVariants.{NoFrames}
use Rattle.mv_terms.specs.declared.frame_header.FrameHeader.{FrameHeader}
use Rattle.y4m_frames.specs.Lines.{line_within}
use Rattle.y4m_frames.specs.Header.{header_limit, header_of, file_header, start_by}
use Rattle.y4m_frames.specs.Frames.{File, Frames, Front, nothing, whole, short, other, high, IsFrame, AreFrames, IsHeaderLine, Holds, are_samples, file_by, file_limit, file_of, frame_len, frames_by, frames_left, front, in_front, is_frame_line, judged, line_front, line_len, line_limit, next_frame}
use Rattle.y4m_frames.specs.Reading.{OnlyFrameFilesAreRead}
use Rattle.y4m_frames.proofs.FileLaws.{frames_step, judged_whole, some_frame}
use Rattle.y4m_frames.proofs.LineLemmas.{line_is}

-- what is whole has a line of a frame, and samples
record IsWhole (len : ℕ) (t : List ℕ) (line : ℕ) : Type 0 where
  k : ℕ
  line_is : line ≡ k + 1
  there : line_within line_limit t ≡ Some k
  right : is_frame_line (take k t) ≡ true
  all : len ≤ length (drop (k + 1) t)
  range : are_samples (take len (drop (k + 1) t)) ≡ true

whole_line : (len : ℕ) (t : List ℕ) (line : ℕ) (r : Option ℕ) → line_within line_limit t ≡ r → line_front r len t ≡ whole line → IsWhole len t line
whole_line len t line None e h = absurd (no (nat_lt (length t) line_limit) h)
  where
    no : (b : Bool) → cond b short other ≡ whole line → ⊥
    no true h = cc
    no false h = cc
whole_line len t line (Some k) e h = by_tests (is_frame_line (take k t)) (nat_lt (length (drop (k + 1) t)) len) (are_samples (take len (drop (k + 1) t))) refl refl refl h
  where
    by_tests : (a b c : Bool) → is_frame_line (take k t) ≡ a → nat_lt (length (drop (k + 1) t)) len ≡ b → are_samples (take len (drop (k + 1) t)) ≡ c → cond a (cond b short (cond c (whole (k + 1)) high)) other ≡ whole line → IsWhole len t line
    by_tests false b c ea eb ec h = cc
    by_tests true true c ea eb ec h = cc
    by_tests true false false ea eb ec h = cc
    by_tests true false true ea eb ec h =
        let same : k + 1 ≡ line = cc in
        record {
          k = k;
          line_is = sym same;
          there = e;
          right = ea;
          all = not_less (length (drop (k + 1) t)) len eb;
          range = ec;
        }
      where
        not_less : (a b : ℕ) → nat_lt a b ≡ false → b ≤ a
        not_less a b e = ⊎_elim (λ (l : a < b). (let yes : nat_lt a b ≡ true = lt-ltb a b l in cc)) (λ (g : b ≤ a). g) (cases_lt a b)

whole_front : (len : ℕ) (t : List ℕ) (line : ℕ) → front len t ≡ whole line → IsWhole len t line
whole_front len t line h = by_test (nat_eq (length t) 0) refl
  where
    by_test : (b : Bool) → nat_eq (length t) 0 ≡ b → IsWhole len t line
    by_test true e = let no : nothing ≡ whole line = sym (ap (λ b. cond b nothing (line_front (line_within line_limit t) len t)) e) ∙ h in cc
    by_test false e = whole_line len t line (line_within line_limit t) refl (sym (ap (λ b. cond b nothing (line_front (line_within line_limit t) len t)) e) ∙ h)

-- the frame that is found next
pub found_frame : (len n room : ℕ) (s : List ℕ) (line : ℕ) → next_frame len n room s ≡ Ok (Some line) → IsFrame len (take (line + len) s) (take len (drop line s)) × (line + len ≤ room) × (line + len ≤ length s)
unfolding next_frame
found_frame len n room s line h =
    let t : List ℕ = take room s in
    let w = whole_front len t line (judged_whole (nat_lt room (length s)) n (front len t) line h) in
    let i = line_is line_limit t w.k w.there in
    let behind : length (drop (w.k + 1) t) ≡ length t - (w.k + 1) = length-drop (w.k + 1) t in
    let whole_is = w.line_is in
    let enough : line + len ≤ length t = omega (arith, w.all, behind, i.within, whole_is) in
    let bounds : (line + len ≤ room) × (line + len ≤ length s) = (omega (arith, enough, length-take room s), omega (arith, enough, length-take room s)) in
    let text : take w.k t ≡ take w.k s = take-take w.k room s (omega (arith, whole_is, bounds.0)) in
    let same : take (line + len) t ≡ take (line + len) s = take-take (line + len) room s bounds.0 in
    let samples : take len (drop line s) ≡ take len (drop (w.k + 1) t) =
    ap (λ j. take len (drop j s)) whole_is ∙ sym (drop-take (w.k + 1) len s) ∙ ap (λ j. drop (w.k + 1) (take j s)) (ap (λ j. j + len) (sym whole_is)) ∙ ap (drop (w.k + 1)) (sym same) ∙ ap (λ j. drop (w.k + 1) (take j t)) (ap (λ j. j + len) whole_is) ∙ drop-take (w.k + 1) len t in
    let parts : take (line + len) s ≡ take w.k t ++ 10 ∷ take len (drop line s) =
    sym same ∙ sym (take-append-drop w.k (take (line + len) t))
    ∙ ap (λ x. x ++ drop w.k (take (line + len) t)) (take-take w.k (line + len) t (omega (arith, whole_is)))
    ∙ ap (λ x. take w.k t ++ x) (ap (λ j. drop w.k (take j t)) (ap (λ j. j + len) whole_is ∙ omega arith) ∙ drop-take w.k (suc len) t ∙ ap (take (suc len)) i.ends)
    ∙ ap (λ x. take w.k t ++ 10 ∷ x) (sym samples) in (
      record {
        text = take w.k t;
        parts = parts;
        one_line = i.one_line;
        short = omega (arith, i.short, length-take-le w.k t (omega (arith, i.within)));
        right = w.right;
        all = length-take-le len (drop line s) (omega (arith, bounds.1, length-drop line s));
        range = ap are_samples samples ∙ w.range;
      },
      bounds.0,
      bounds.1,
    )

-- whether a file that ends has a frame
abbrev end_by : Bool → Result (Option ℕ) FrameFault
end_by none = cond none (Err NoFrames) (Ok None)

-- the end of a file
pub found_end : (len n room : ℕ) (s : List ℕ) → next_frame len n room s ≡ Ok None → (s ≡ []) × (n ≢ 0)
unfolding next_frame
found_end len n room s h = by_front (front len (take room s)) (nat_lt room (length s)) refl refl h
  where
    no_line : (t : List ℕ) (r : Option ℕ) → line_front r len t ≡ nothing → ⊥
    no_line t None h = no (nat_lt (length t) line_limit) h
      where
        no : (b : Bool) → cond b short other ≡ nothing → ⊥
        no true h = cc
        no false h = cc
    no_line t (Some k) h = no (is_frame_line (take k t)) (nat_lt (length (drop (k + 1) t)) len) (are_samples (take len (drop (k + 1) t))) h
      where
        no : (a b c : Bool) → cond a (cond b short (cond c (whole (k + 1)) high)) other ≡ nothing → ⊥
        no false b c h = cc
        no true true c h = cc
        no true false true h = cc
        no true false false h = cc

    empty : (t : List ℕ) → front len t ≡ nothing → length t ≡ 0
    empty t h = ⊎_elim (λ (e : length t ≡ 0). e)
        (λ (n : length t ≡ 0 → ⊥). absurd (no_line t (line_within line_limit t) (sym (ap (λ b. cond b nothing (line_front (line_within line_limit t) len t)) (ne_eqb (length t) 0 n)) ∙ h)))
        (cases_eq (length t) 0)

    by_count : (b : Bool) → nat_eq n 0 ≡ b → end_by b ≡ Ok None → n ≢ 0
    by_count true e h = cc
    by_count false e h = λ z. (let yes : nat_eq n 0 ≡ true = eq-eqb n 0 z in cc)

    by_front : (f : Front) (more : Bool) → front len (take room s) ≡ f → nat_lt room (length s) ≡ more → judged more n f ≡ Ok None → (s ≡ []) × (n ≢ 0)
    by_front nothing true ef em h = cc
    by_front nothing false ef em h =
        let none = empty (take room s) ef in
        let all : length s ≤ room = ⊎_elim (λ (l : room < length s). (let yes : nat_lt room (length s) ≡ true = lt-ltb room (length s) l in cc)) (λ (g : length s ≤ room). g) (cases_lt room (length s)) in
        (nil_from_length s (omega (arith, none, all, length-take room s)), by_count (nat_eq n 0) refl h)
    by_front (whole line) more ef em h = cc
    by_front short true ef em h = cc
    by_front short false ef em h = cc
    by_front other more ef em h = cc
    by_front high more ef em h = cc

-- whole and right frames up to the end, of which there is one at least
frames_found : (turns len n room : ℕ) (s : List ℕ) (frames : List (List ℕ)) → length s < turns → frames_left len n room s ≡ record { frames = frames; fault = None } → AreFrames len frames s × (length s ≤ room) × (n + length frames ≢ 0)
frames_found zero len n room s frames few h = absurd (omega arith)
frames_found (suc turns) len n room s frames few h = by_next (next_frame len n room s) refl frames (sym (frames_step len n room s) ∙ h) (λ line taken. frames_found turns len (n + 1) (room - taken) (drop taken s))
  where
    by_next : (r : Result (Option ℕ) FrameFault) → next_frame len n room s ≡ r → (frames : List (List ℕ)) →
        frames_by (next_frame len n room s) len s (λ taken. frames_left len (n + 1) (room - taken) (drop taken s)) ≡ record { frames = frames; fault = None } →
        ((line taken : ℕ) (others : List (List ℕ)) → length (drop taken s) < turns → frames_left len (n + 1) (room - taken) (drop taken s) ≡ record { frames = others; fault = None } → AreFrames len others (drop taken s) × (length (drop taken s) ≤ room - taken) × (n + 1 + length others ≢ 0)) →
        AreFrames len frames s × (length s ≤ room) × (n + length frames ≢ 0)
    by_next (Err fault) e frames h others =
        let no : Some fault ≡ None = ap (λ (f : Frames). f.fault) (sym (ap (λ r. frames_by r len s (λ taken. frames_left len (n + 1) (room - taken) (drop taken s))) e) ∙ h) in cc
    by_next (Ok None) e frames h others =
        let f : [] ≡ frames = ap (λ (f : Frames). f.frames) (sym (ap (λ r. frames_by r len s (λ taken. frames_left len (n + 1) (room - taken) (drop taken s))) e) ∙ h) in
        let ended = found_end len n room s e in
        let count : length s ≡ 0 = ap length ended.0 in
        (subst (λ fs. AreFrames len fs s) f ended.0, omega (arith, count), λ z. ended.1 (omega (arith, z)))
    by_next (Ok (Some line)) e frames h others =
        let left : Frames = frames_left len (n + 1) (room - (line + len)) (drop (line + len) s) in
        let all : in_front (take len (drop line s)) left ≡ record { frames = frames; fault = None } = sym (ap (λ r. frames_by r len s (λ taken. frames_left len (n + 1) (room - taken) (drop taken s))) e) ∙ h in
        let fault : left.fault ≡ None = ap (λ (f : Frames). f.fault) all in
        let first : take len (drop line s) ∷ left.frames ≡ frames = ap (λ (f : Frames). f.frames) all in
        let found = found_frame len n room s line e in
        let some = some_frame len n room s line e in
        let fewer : length (drop (line + len) s) < turns = omega (arith, few, some.0, some.1, length-drop (line + len) s) in
        let rest = others line (line + len) left.frames fewer (ap (λ x. record { frames = left.frames; fault = x }) fault) in
        let split : s ≡ take (line + len) s ++ drop (line + len) s = sym (take-append-drop (line + len) s) in (
          subst (λ fs. AreFrames len fs s) first (take (line + len) s, drop (line + len) s, found.0, split, rest.0),
          omega (arith, rest.1, found.1, found.2, length-drop (line + len) s),
          subst (λ (fs : List (List ℕ)). n + length fs ≢ 0) first (λ z. absurd (omega (arith, z))),
        )

-- Only a frame file is read without a fault.
pub only_frame_files_are_read : OnlyFrameFilesAreRead
unfolding file_of file_header
only_frame_files_are_read bytes line h frames is = by_line (line_within header_limit bytes) refl is
  where
    by_line : (r : Option ℕ) → line_within header_limit bytes ≡ r → file_by (start_by r bytes) (take (line_len r) bytes) (drop (line_len r) bytes) ≡ Ok (record { line = line; header = h; frames = record { frames = frames; fault = None } }) → Holds bytes line h frames
    by_line None e is = cc
    by_line (Some k) e is = by_header (header_of (take k bytes)) refl is
      where
        by_header : (r : Result FrameHeader FrameFault) → header_of (take k bytes) ≡ r → file_by r (take (k + 1) bytes) (drop (k + 1) bytes) ≡ Ok (record { line = line; header = h; frames = record { frames = frames; fault = None } }) → Holds bytes line h frames
        by_header (Err fault) means is = cc
        by_header (Ok found) means is =
            let file : File = record { line = take (k + 1) bytes; header = found; frames = frames_left (frame_len found) 0 (file_limit - length (take (k + 1) bytes)) (drop (k + 1) bytes) } in
            let same : file ≡ record { line = line; header = h; frames = record { frames = frames; fault = None } } = cc in
            let line_same : take (k + 1) bytes ≡ line = ap (λ (f : File). f.line) same in
            let header_same : found ≡ h = ap (λ (f : File). f.header) same in
            let frames_same : frames_left (frame_len found) 0 (file_limit - length (take (k + 1) bytes)) (drop (k + 1) bytes) ≡ record { frames = frames; fault = None } = ap (λ (f : File). f.frames) same in
            let i = line_is header_limit bytes k e in
            let f = frames_found (length (drop (k + 1) bytes) + 1) (frame_len found) 0 (file_limit - length (take (k + 1) bytes)) (drop (k + 1) bytes) frames (omega arith) frames_same in
            let count : length (take (k + 1) bytes) ≡ k + 1 = length-take-le (k + 1) bytes (omega (arith, i.within)) in
            let text : take (k + 1) bytes ≡ take k bytes ++ 10 ∷ [] =
            sym (take-append-drop k (take (k + 1) bytes)) ∙ ap (λ x. x ++ drop k (take (k + 1) bytes)) (take-take k (k + 1) bytes (omega arith))
            ∙ ap (λ x. take k bytes ++ x) (drop-take k 1 bytes ∙ ap (take 1) i.ends) in
            let header : IsHeaderLine (take (k + 1) bytes) found = record {
              text = take k bytes;
              parts = text;
              one_line = i.one_line;
              short = omega (arith, i.short, length-take-le k bytes (omega (arith, i.within)));
              means = means;
            } in
            record {
              behind = drop (k + 1) bytes;
              parts = sym (take-append-drop (k + 1) bytes) ∙ ap (λ x. x ++ drop (k + 1) bytes) line_same;
              header = subst (λ x. IsHeaderLine line x) header_same (subst (λ x. IsHeaderLine x found) line_same header);
              frames_are = subst (λ x. AreFrames (frame_len x) frames (drop (k + 1) bytes)) header_same f.0;
              some = λ z. f.2 (zero-add (length frames) ∙ ap length z);
              within = omega (arith, f.1, count, length-drop (k + 1) bytes, i.within);
            }
