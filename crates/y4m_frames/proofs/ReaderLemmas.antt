-- The frames that a reader stands for.
use Rattle.std.proofs.Common.{◌≡◌, ℕ, ◌+◌, ◌-◌, List, [], ◌∷◌, ◌++◌, refl, sym, ap, ◌∙◌, subst, arith, Option, append_assoc, append-nil}
use Rattle.std.proofs.lemmas.List.{length-append}
use Rattle.std.specs.Io.KnownBytes.{prepend_known}
use Rattle.y4m_frames.specs.Frames.{IsFrame, AreFrames, frame_len}
use Rattle.y4m_frames.specs.Steps.{TakesFrame}
use Rattle.y4m_frames.specs.Reading.{Reading, Hands}

pub frames_push : (len : ℕ) (frames : List (List ℕ)) (behind taken samples : List ℕ) → AreFrames len frames behind → IsFrame len taken samples → AreFrames len (frames ++ samples ∷ []) (behind ++ taken)
frames_push len [] behind taken samples h is = (taken, [], is, ap (λ b. b ++ taken) h ∙ sym (append-nil taken), refl)
frames_push len (f ∷ frames) behind taken samples h is =
    (h.0, h.1 ++ taken, h.2, ap (λ b. b ++ taken) h.3 ∙ append_assoc h.0 h.1 taken, frames_push len frames h.1 taken samples h.4 is)

pub hands : (old : Reading) (ahead : List ℕ) (taken len : ℕ) (rest_old rest_new : Option (List ℕ)) (samples : List ℕ) → len ≡ frame_len old.header →
    TakesFrame taken len old.room (prepend_known old.ahead rest_old) (prepend_known ahead rest_new) samples →
    Hands old (record old { count = old.count + 1; room = old.room - taken; ahead = ahead }) rest_old rest_new samples
hands old ahead taken len rest_old rest_new samples len_is t =
    let is : IsFrame (frame_len old.header) t.bytes samples = subst (λ n. IsFrame n t.bytes samples) len_is t.is in
    record {
      taken = t.bytes;
      is = is;
      within = omega (arith, t.count, t.within);
      consumed = t.consumed;
      stands = λ past frames s. record {
        behind = s.behind ++ t.bytes;
        parts = ap (λ b. b ++ t.bytes) s.parts ∙ append_assoc old.line s.behind t.bytes;
        header = s.header;
        frames_are = frames_push (frame_len old.header) frames s.behind t.bytes samples s.frames_are is;
        count = omega (arith, s.count, length-append frames (samples ∷ []));
        room = omega (arith, s.room, length-append past t.bytes, t.count, t.within);
      };
    }
