-- What is read of any bytes stands in front of them.
use Rattle.std.proofs.Common.{◌≡◌, ℕ, zero, suc, ◌+◌, ◌-◌, ◌<◌, ◌≤◌, List, [], ◌∷◌, ◌++◌, length, take, drop, refl, sym, ap, ◌∙◌, subst, arith, Option, Some, None, Result, Ok, Err, append_assoc}
use Rattle.std.proofs.lemmas.List.{length-append, length-take-le, length-drop, take-append-drop, take-take, drop-take}
use Rattle.mv_terms.specs.declared.status.FrameFault.{FrameFault}
use Rattle.mv_terms.specs.declared.frame_header.FrameHeader.{FrameHeader}
use Rattle.y4m_frames.specs.Lines.{line_within}
use Rattle.y4m_frames.specs.Header.{header_limit, header_of, file_header, start_by}
use Rattle.y4m_frames.specs.Frames.{File, Frames, AreFrames, IsHeaderLine, file_by, file_limit, file_of, frame_len, frames_by, frames_left, in_front, line_len, next_frame, none_but}
use Rattle.y4m_frames.specs.Reading.{FramesAreInFront, HasInFront}
use Rattle.y4m_frames.proofs.FileLaws.{frames_step, some_frame}
use Rattle.y4m_frames.proofs.LineLemmas.{line_is}
use Rattle.y4m_frames.proofs.OnlyLaws.{found_frame}

-- these frames stand in front of some bytes, within the room
record AreFront (len room : ℕ) (s : List ℕ) (frames : List (List ℕ)) : Type 0 where
  taken : List ℕ
  rest : List ℕ
  parts : s ≡ taken ++ rest
  frames_are : AreFrames len frames taken
  within : length taken ≤ room

no_front : (len room : ℕ) (s : List ℕ) (fault : Option FrameFault) → AreFront len room s (none_but fault).frames
no_front len room s fault = record { taken = []; rest = s; parts = refl; frames_are = refl; within = omega arith }

-- the frames of what is left
frames_front : (turns len n room : ℕ) (s : List ℕ) → length s < turns → AreFront len room s (frames_left len n room s).frames
frames_front zero len n room s few = absurd (omega arith)
frames_front (suc turns) len n room s few =
    subst (λ (fs : Frames). AreFront len room s fs.frames) (sym (frames_step len n room s))
    (by_next (next_frame len n room s) refl (λ taken. frames_front turns len (n + 1) (room - taken) (drop taken s)))
  where
    others_of : ℕ → Frames
    others_of taken = frames_left len (n + 1) (room - taken) (drop taken s)

    by_next : (r : Result (Option ℕ) FrameFault) → next_frame len n room s ≡ r →
        ((taken : ℕ) → length (drop taken s) < turns → AreFront len (room - taken) (drop taken s) (others_of taken).frames) →
        AreFront len room s (frames_by r len s others_of).frames
    by_next (Err fault) e others = no_front len room s (Some fault)
    by_next (Ok None) e others = no_front len room s None
    by_next (Ok (Some line)) e others =
        let found = found_frame len n room s line e in
        let some = some_frame len n room s line e in
        let fewer : length (drop (line + len) s) < turns = omega (arith, few, some.0, some.1, length-drop (line + len) s) in
        let behind = others (line + len) fewer in
        let behind_within = behind.within in
        let first : List ℕ = take (line + len) s in
        let count : length first ≡ line + len = length-take-le (line + len) s found.2 in
        record {
          taken = first ++ behind.taken;
          rest = behind.rest;
          parts = sym (take-append-drop (line + len) s) ∙ ap (λ x. first ++ x) behind.parts ∙ sym (append_assoc first behind.taken behind.rest);
          frames_are = (first, behind.taken, found.0, refl, behind.frames_are);
          within = omega (arith, count, found.1, behind_within, length-append first behind.taken);
        }

pub frames_are_in_front : FramesAreInFront
unfolding file_of file_header
frames_are_in_front bytes file is = by_line (line_within header_limit bytes) refl is
  where
    by_line : (r : Option ℕ) → line_within header_limit bytes ≡ r → file_by (start_by r bytes) (take (line_len r) bytes) (drop (line_len r) bytes) ≡ Ok file → HasInFront bytes file
    by_line None e is = cc
    by_line (Some k) e is = by_header (header_of (take k bytes)) refl is
      where
        by_header : (r : Result FrameHeader FrameFault) → header_of (take k bytes) ≡ r → file_by r (take (k + 1) bytes) (drop (k + 1) bytes) ≡ Ok file → HasInFront bytes file
        by_header (Err fault) means is = cc
        by_header (Ok found) means is =
            let read : File = record { line = take (k + 1) bytes; header = found; frames = frames_left (frame_len found) 0 (file_limit - length (take (k + 1) bytes)) (drop (k + 1) bytes) } in
            let same : read ≡ file = cc in
            let i = line_is header_limit bytes k e in
            let front = frames_front (length (drop (k + 1) bytes) + 1) (frame_len found) 0 (file_limit - length (take (k + 1) bytes)) (drop (k + 1) bytes) (omega arith) in
            let front_within = front.within in
            let count : length (take (k + 1) bytes) ≡ k + 1 = length-take-le (k + 1) bytes (omega (arith, i.within)) in
            let text : take (k + 1) bytes ≡ take k bytes ++ 10 ∷ [] =
            sym (take-append-drop k (take (k + 1) bytes)) ∙ ap (λ x. x ++ drop k (take (k + 1) bytes)) (take-take k (k + 1) bytes (omega arith))
            ∙ ap (λ x. take k bytes ++ x) (drop-take k 1 bytes ∙ ap (take 1) i.ends) in
            let header : IsHeaderLine (take (k + 1) bytes) found = record {
              text = take k bytes;
              parts = text;
              one_line = i.one_line;
              short = omega (arith, i.short, length-take-le k bytes (omega (arith, i.within)));
              means = means;
            } in
            let has : HasInFront bytes read = record {
              taken = front.taken;
              rest = front.rest;
              parts = sym (take-append-drop (k + 1) bytes) ∙ ap (λ x. take (k + 1) bytes ++ x) front.parts;
              header = header;
              frames_are = front.frames_are;
              within = omega (arith, front_within, count, i.short);
            } in
            subst (λ (f : File). HasInFront bytes f) same has
