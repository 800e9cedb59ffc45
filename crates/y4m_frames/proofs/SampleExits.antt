-- How taking the samples of a frame ends.
use Rattle.std.proofs.Common.{◌≡◌, ℕ, ◌+◌, ◌-◌, ◌<◌, ◌≤◌, min, true, false, cond, List, [], ◌++◌, length, take, drop, refl, sym, ap, ◌∙◌, subst, arith, Option, Some, None, Ok, Err, nat_lt, lt-ltb, le-ltb, append-nil, append_assoc, ◌∷◌, ⊎_elim}
use Rattle.std.proofs.lemmas.Bool.{cases_lt}
use Rattle.std.proofs.KnownBytes.{Consumes-trans}
use Rattle.y4m_frames.specs.declared.halt.Halt.{Halt}
use Rattle.y4m_frames.specs.declared.halt.Halt.TheVariants as halts
use Rattle.y4m_frames.specs.Steps.{TakesLine, LineTells, TakesSamples, SamplesTell, TakesFrame, FrameTells}
use Rattle.std.proofs.lemmas.List.{length-append, length-take-le, length-take, take_at, take-take, take_all, drop-take, drop_at}
use Rattle.std.specs.Io.KnownBytes.{Consumes, IsAtEnd}
use Rattle.mv_terms.specs.declared.status.FrameFault.TheVariants.{BadFrame, BadSample, TooLong}
use Rattle.y4m_frames.specs.Frames.{whole, short, high, samples_front, judged, are_samples}

-- so much of what was left was read
pub record Got (s b : List ℕ) (new : Option (List ℕ)) : Type 0 where
  pub behind : List ℕ
  pub new_is : new ≡ Some behind
  pub whole : s ≡ b ++ behind

pub got : (s b : List ℕ) (new : Option (List ℕ)) → Consumes (Some s) new b → Got s b new
got s b None h = absurd h
got s b (Some y) h = record { behind = y; new_is = refl; whole = h }

pub samples_short : (s b : List ℕ) (new : Option (List ℕ)) (n left len line : ℕ) → Consumes (Some s) new b → IsAtEnd new → length b < min len (left + 1) →
    judged (nat_lt left (length s)) n (samples_front line len (take left s)) ≡ Err (BadFrame n)
samples_short s b new n left len line h ends few =
    let p = got s b new h in
    let none : p.behind ≡ [] = subst IsAtEnd p.new_is ends in
    let len_is : length s ≡ length b = ap length p.whole ∙ ap (λ y. length (b ++ y)) none ∙ ap length (append-nil b) in
    let same : take left s ≡ s = take_all left s (omega arith) in
    ap (λ t. judged (nat_lt left (length s)) n (samples_front line len t)) same
    ∙ ap (λ x. judged x n (samples_front line len s)) (le-ltb left (length s) (omega arith))
    ∙ ap (λ x. judged false n (cond x short (cond (are_samples (take len s)) (whole line) high))) (lt-ltb (length s) len (omega arith))

pub samples_late : (s b : List ℕ) (new : Option (List ℕ)) (n left len line : ℕ) → Consumes (Some s) new b → left < length b → length b ≤ len →
    judged (nat_lt left (length s)) n (samples_front line len (take left s)) ≡ Err (TooLong n)
samples_late s b new n left len line h more le =
    let p = got s b new h in
    let len_is : length s ≡ length b + length p.behind = ap length p.whole ∙ length-append b p.behind in
    let count : length (take left s) ≡ left = length-take-le left s (omega arith) in
    ap (λ x. judged x n (samples_front line len (take left s))) (lt-ltb left (length s) (omega arith))
    ∙ ap (λ x. judged true n (cond x short (cond (are_samples (take len (take left s))) (whole line) high))) (lt-ltb (length (take left s)) len (omega arith))

pub samples_high : (s b : List ℕ) (new : Option (List ℕ)) (n left len line : ℕ) → Consumes (Some s) new b → length b ≡ len → len ≤ left → are_samples b ≡ false →
    judged (nat_lt left (length s)) n (samples_front line len (take left s)) ≡ Err (BadSample n)
samples_high s b new n left len line h len_b le bad =
    let p = got s b new h in
    let len_is : length s ≡ length b + length p.behind = ap length p.whole ∙ length-append b p.behind in
    let bytes : take len (take left s) ≡ b = take-take len left s le ∙ ap (take len) p.whole ∙ take_at b p.behind len len_b in
    ap (λ x. judged (nat_lt left (length s)) n (cond x short (cond (are_samples (take len (take left s))) (whole line) high)))
    (le-ltb (length (take left s)) len (omega (arith, length-take left s)))
    ∙ ap (λ x. judged (nat_lt left (length s)) n (cond x (whole line) high)) (ap are_samples bytes ∙ bad)

-- behind the line of a frame
pub shifted : (s t rest : List ℕ) (n room line len : ℕ) → s ≡ t ++ rest → length t ≡ line → line ≤ room →
    judged (nat_lt room (length s)) n (samples_front line len (drop line (take room s))) ≡ judged (nat_lt (room - line) (length rest)) n (samples_front line len (take (room - line) rest))
shifted s t rest n room line len whole_is len_t le =
    let m = room - line in
    let room_is : room ≡ line + m = omega arith in
    let front : drop line (take room s) ≡ take m rest =
    ap (λ k. drop line (take k s)) room_is ∙ drop-take line m s ∙ ap (take m) (ap (drop line) whole_is ∙ drop_at t rest line len_t) in
    let len_is : length s ≡ line + length rest = omega (arith, ap length whole_is, length-append t rest, len_t) in
    let test : nat_lt room (length s) ≡ nat_lt m (length rest) = ⊎_elim
    (λ (l : room < length s). lt-ltb room (length s) l ∙ sym (lt-ltb m (length rest) (omega arith)))
    (λ (g : length s ≤ room). le-ltb room (length s) g ∙ sym (le-ltb m (length rest) (omega arith)))
    (cases_lt room (length s)) in
    ap (λ x. judged x n (samples_front line len (drop line (take room s)))) test
    ∙ ap (λ t. judged (nat_lt m (length rest)) n (samples_front line len t)) front

pub takes_frame : (old mid new : Option (List ℕ)) (line room : ℕ) (samples : List ℕ) (len : ℕ) → TakesLine line room old mid → TakesSamples (room - line) mid new samples → length samples ≡ len →
    TakesFrame (line + length samples) len room old new samples
takes_frame old mid new line room samples len l t len_is =
    let count : length ((l.text ++ 10 ∷ []) ++ samples) ≡ length l.text + 1 + length samples = omega (arith, length-append (l.text ++ 10 ∷ []) samples, length-append l.text (10 ∷ [])) in
    record {
      bytes = (l.text ++ 10 ∷ []) ++ samples;
      is = record {
        text = l.text;
        parts = append_assoc l.text (10 ∷ []) samples;
        one_line = l.one_line;
        short = l.short;
        right = l.right;
        all = len_is;
        range = t.range;
      };
      count = omega (arith, count, l.len);
      within = omega (arith, t.within, l.within);
      consumed = Consumes-trans old mid new (l.text ++ 10 ∷ []) samples l.consumed t.consumed;
    }

pub frame_err : (s : List ℕ) (old mid : Option (List ℕ)) (n room line len : ℕ) (halt : Halt) → old ≡ Some s → TakesLine line room old mid → LineTells n room s (Ok (Some line)) →
    ((rest : List ℕ) → mid ≡ Some rest → SamplesTell len n (room - line) rest (Err halt)) → FrameTells len n room s (Err halt)
frame_err s old mid n room line len (halts.Fault f) told l tells samples =
    let p = got s (l.text ++ 10 ∷ []) mid (subst (λ (o : Option (List ℕ)). Consumes o mid (l.text ++ 10 ∷ [])) told l.consumed) in
    tells len ∙ shifted s (l.text ++ 10 ∷ []) p.behind n room line len p.whole (omega (arith, length-append l.text (10 ∷ []), l.len)) l.within ∙ samples p.behind p.new_is line
frame_err s old mid n room line len halts.Read told l tells samples = tt
frame_err s old mid n room line len halts.NoMemory told l tells samples =
    let p = got s (l.text ++ 10 ∷ []) mid (subst (λ (o : Option (List ℕ)). Consumes o mid (l.text ++ 10 ∷ [])) told l.consumed) in
    samples p.behind p.new_is
