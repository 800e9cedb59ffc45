-- What was taken where the shelf failed.
use Rattle.std.proofs.Common.{◌≡◌, ℕ, ◌+◌, ◌-◌, ◌<◌, ◌≤◌, min, List, [], ◌∷◌, ◌++◌, length, take, drop, slice_range, sym, ap, ◌∙◌, arith, Option, Some, None, Result, Ok, Err, OnErr, append_assoc}
use Rattle.std.proofs.lemmas.List.{length-append, length-take, take-append-drop}
use Rattle.std.proofs.KnownBytes.{Consumes-trans, Consumes-kept}
use Rattle.std.specs.Io.KnownBytes.{Consumes, Keeps, prepend_known}
use Rattle.y4m_frames.specs.Lines.{line_within}
use Rattle.y4m_frames.specs.Frames.{IsFrame, next_frame, line_limit}
use Rattle.y4m_frames.specs.Reading.{TakesFewer}
use Rattle.y4m_frames.specs.Steps.{TakesLine, StopsInLine, StopsShort}
use Rattle.y4m_frames.proofs.FileLaws.{line_at}
use Rattle.y4m_frames.proofs.OnlyLaws.{found_frame}

-- what was read ahead is taken as soon as it is read
taken_ahead : (old : Option (List ℕ)) (a : List ℕ) (rest : Option (List ℕ)) → Consumes old (prepend_known a rest) [] → Consumes old rest a
taken_ahead None a rest h = tt
taken_ahead (Some s) a None h = absurd h
taken_ahead (Some s) a (Some y) h = h

taken_behind : (a : List ℕ) (old new : Option (List ℕ)) (b : List ℕ) → Consumes old new b → Consumes (prepend_known a old) new (a ++ b)
taken_behind a None new b h = tt
taken_behind a (Some x) None b h = absurd h
taken_behind a (Some x) (Some y) b h = ap (λ s. a ++ s) h ∙ sym (append_assoc a b y)

-- a buffer isn't full
pub fewer_read : (to : List ℕ) (from filled : ℕ) (old now new : Option (List ℕ)) → from ≤ filled → filled < length to → Consumes old now (slice_range to from filled) → Keeps now new → TakesFewer (length to - from) old new
fewer_read to from filled old now new low lt read kept = record {
  taken = slice_range to from filled;
  consumed = Consumes-kept old now new (slice_range to from filled) read kept;
  few = omega (arith, length-take (filled - from) (drop from to));
}

pub fewer_filled : {E : Type 0} (a : List ℕ) (len given : ℕ) (old new : Option (List ℕ)) (r : Result ℕ E) → given ≡ length a → given ≤ len → OnErr r (TakesFewer (len - given) old new) → OnErr r (TakesFewer len (prepend_known a old) new)
fewer_filled a len given old new (Ok n) is le h = tt
fewer_filled a len given old new (Err e) is le h = record {
  taken = a ++ h.taken;
  consumed = taken_behind a old new h.taken h.consumed;
  few = let few = h.few in omega (arith, length-append a h.taken, few, is);
}

-- no line was found in what was read ahead
pub stops_in_line : (a : List ℕ) (old rest : Option (List ℕ)) → Consumes old (prepend_known a rest) [] → line_within line_limit a ≡ None → StopsInLine old rest
stops_in_line a old rest same none = record { taken = a; consumed = taken_ahead old a rest same; no_line = none }

-- the line of a frame is found in front of it
pub frame_line : (len : ℕ) (taken samples more : List ℕ) (is : IsFrame len taken samples) → line_within line_limit (taken ++ more) ≡ Some (length is.text)
frame_line len taken samples more is =
    ap (line_within line_limit) (ap (λ b. b ++ more) is.parts ∙ append_assoc is.text (10 ∷ samples) more)
    ∙ line_at line_limit is.text (samples ++ more) is.one_line is.short

-- a frame has its line and all its samples
pub frame_needs : (len n room : ℕ) (s : List ℕ) (line : ℕ) → next_frame len n room s ≡ Ok (Some line) → (k : ℕ) × (line_within line_limit s ≡ Some k) × (k + 1 + len ≤ length s)
frame_needs len n room s line h =
    let found = found_frame len n room s line h in
    let m = line + len in
    let samples : List ℕ = take len (drop line s) in
    let is : IsFrame len (take m s) samples = found.0 in
    let fits : m ≤ length s = found.2 in
    let all : length samples ≡ len = is.all in
    let there : line_within line_limit s ≡ Some (length is.text) = ap (line_within line_limit) (sym (take-append-drop m s)) ∙ frame_line len (take m s) samples (drop m s) is in
    (length is.text, there, omega (arith, fits, length-take m s, ap length is.parts, length-append is.text (10 ∷ samples), all))

-- so it has none whose line has no end
pub no_line_yet : (len n room : ℕ) (old new : Option (List ℕ)) → StopsInLine old new → StopsShort len n room old new
no_line_yet len n room old new s = record { taken = s.taken; consumed = s.consumed; part = part }
  where
    part : (line : ℕ) → next_frame len n room s.taken ≡ Ok (Some line) → ⊥
    part line h =
        let needs = frame_needs len n room s.taken line h in
        let no : None ≡ Some needs.0 = sym s.no_line ∙ needs.1 in
        cc

-- nor one of which samples are missing
pub few_samples : (len n room line : ℕ) (old mid new : Option (List ℕ)) → TakesLine line room old mid → TakesFewer (min len (room - line + 1)) mid new → StopsShort len n room old new
few_samples len n room line old mid new l t = record {
  taken = (l.text ++ 10 ∷ []) ++ t.taken;
  consumed = Consumes-trans old mid new (l.text ++ 10 ∷ []) t.taken l.consumed t.consumed;
  part = part;
}
  where
    part : (line : ℕ) → next_frame len n room ((l.text ++ 10 ∷ []) ++ t.taken) ≡ Ok (Some line) → ⊥
    part other h =
        let needs = frame_needs len n room ((l.text ++ 10 ∷ []) ++ t.taken) other h in
        let there : line_within line_limit ((l.text ++ 10 ∷ []) ++ t.taken) ≡ Some (length l.text) =
        ap (line_within line_limit) (append_assoc l.text (10 ∷ []) t.taken) ∙ line_at line_limit l.text t.taken l.one_line l.short in
        let same : Some needs.0 ≡ Some (length l.text) = sym needs.1 ∙ there in
        let at : needs.0 ≡ length l.text = cc in
        let few : length t.taken < min len (room - line + 1) = t.few in
        omega (arith, needs.2, at, few, length-append (l.text ++ 10 ∷ []) t.taken, length-append l.text (10 ∷ []))
