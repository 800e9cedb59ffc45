-- What is found in front of what is left of a frame file.
use Rattle.std.proofs.Common.{◌≡◌, ◌≢◌, ℕ, zero, suc, ◌+◌, ◌<◌, ◌≤◌, Bool, true, false, cond, List, [], ◌++◌, length, take, drop, refl, sym, ap, ◌∙◌, arith, Option, Some, None, Ok, Err, position, nat_lt, nat_eq, lt-ltb, le-ltb, ne_eqb, if◌then◌else◌}
use Rattle.std.proofs.lemmas.List.{length-take, length-take-le, take_all, take-take, take-append-drop}
use Rattle.std.proofs.lemmas.List.Quantifiers.{position-Some}
use Rattle.std.specs.Io.KnownBytes.{Consumes, prepend_known}
use Rattle.mv_terms.specs.declared.status.FrameFault.TheVariants.{NoFrames, BadFrame, TooLong}
use Rattle.y4m_frames.specs.Lines.{is_line_feed, line_within}
use Rattle.y4m_frames.specs.Frames.{nothing, short, other, front, line_front, samples_front, judged, next_frame, is_frame_line, line_limit}
use Rattle.y4m_frames.proofs.LineLemmas.{line_in_front, none_first, place_stays, take_split, line_is}

-- what was read ahead and what the shelf has left are all that was left
pub record Parts (s a : List ℕ) (rest : Option (List ℕ)) : Type 0 where
  pub behind : List ℕ
  pub rest_is : rest ≡ Some behind
  pub whole : s ≡ a ++ behind

pub parts : (s a : List ℕ) (rest : Option (List ℕ)) → Consumes (Some s) (prepend_known a rest) [] → Parts s a rest
parts s a None h = absurd h
parts s a (Some b) h = record { behind = b; rest_is = refl; whole = h }

-- where a line feed stands behind the first bytes, there is none among them
pub none_before : (most room : ℕ) (s : List ℕ) (k : ℕ) → line_within most s ≡ Some k → room ≤ k → line_within most (take room s) ≡ None
unfolding line_within
none_before most room s k h le = by_answer (position is_line_feed (take most (take room s))) refl
  where
    by_answer : (r : Option ℕ) → position is_line_feed (take most (take room s)) ≡ r → position is_line_feed (take most (take room s)) ≡ None
    by_answer None e = e
    by_answer (Some j) e =
        let pieces = take_split most (take room s) (drop room s) in
        let all : take most s ≡ take most (take room s) ++ pieces.0 = ap (take most) (sym (take-append-drop room s)) ∙ pieces.1 in
        let there : position is_line_feed (take most s) ≡ Some j = ap (position is_line_feed) all ∙ place_stays is_line_feed (take most (take room s)) pieces.0 j e in
        let within = (position-Some is_line_feed (take most (take room s)) j 0 e).0 in
        let same : Some j ≡ Some k = sym there ∙ h in
        let eq : j ≡ k = cc in
        absurd (omega (arith, within, le, eq, length-take most (take room s), length-take room s))

-- nothing is left
pub at_end : (len n room : ℕ) → next_frame len n room [] ≡ judged false n nothing
unfolding next_frame
at_end len n zero = refl
at_end len n (suc room) = ap (λ b. judged b n nothing) (le-ltb (suc room) 0 (omega arith))

pub no_frames : (len n room : ℕ) (s : List ℕ) → s ≡ [] → n ≡ 0 → next_frame len n room s ≡ Err NoFrames
no_frames len n room s e z = rw (e, z) (at_end len 0 room)

pub ended : (len n room : ℕ) (s : List ℕ) → s ≡ [] → n ≢ 0 → next_frame len n room s ≡ Ok None
ended len n room s e z = rw e (at_end len n room ∙ ap (λ b. cond b (Err NoFrames) (Ok None)) (ne_eqb n 0 z))

-- the bytes that may belong to the file end before the line does, and more follow
pub line_late : (len n room : ℕ) (s : List ℕ) → room < line_limit → room < length s → line_within line_limit (take room s) ≡ None → next_frame len n room s ≡ Err (TooLong n)
unfolding next_frame
line_late len n room s few more none =
    let count : length (take room s) ≡ room = length-take-le room s (omega arith) in
    let is_short : line_front (line_within line_limit (take room s)) len (take room s) ≡ short =
    ap (λ r. line_front r len (take room s)) none ∙ ap (λ b. cond b short other) (lt-ltb (length (take room s)) line_limit (omega arith)) in
    ap (λ b. judged b n (front len (take room s))) (lt-ltb room (length s) more)
    ∙ ap (λ f. judged true n (cond (nat_eq (length (take room s)) 0) nothing f)) is_short
    ∙ either (nat_eq (length (take room s)) 0)
  where
    either : (b : Bool) → judged true n (cond b nothing short) ≡ Err (TooLong n)
    either true = refl
    either false = refl

-- as many bytes as a line may have, none of which ends it
pub line_too_long : (len n room : ℕ) (s : List ℕ) → line_limit ≤ room → line_limit ≤ length s → line_within line_limit s ≡ None → next_frame len n room s ≡ Err (BadFrame n)
unfolding next_frame
line_too_long len n room s enough many none =
    let count : line_limit ≤ length (take room s) = omega (arith, length-take room s) in
    let is_other : line_front (line_within line_limit (take room s)) len (take room s) ≡ other =
    ap (λ r. line_front r len (take room s)) (none_first line_limit room s none) ∙ ap (λ b. cond b short other) (le-ltb (length (take room s)) line_limit count) in
    ap (λ b. judged (nat_lt room (length s)) n (cond b nothing (line_front (line_within line_limit (take room s)) len (take room s)))) (ne_eqb (length (take room s)) 0 (omega arith))
    ∙ ap (judged (nat_lt room (length s)) n) is_other

-- a line without an end
pub line_ends_early : (len n room : ℕ) (s : List ℕ) → length s ≤ room → length s < line_limit → 0 < length s → line_within line_limit s ≡ None → next_frame len n room s ≡ Err (BadFrame n)
unfolding next_frame
line_ends_early len n room s all few some none =
    let same : take room s ≡ s = take_all room s all in
    let is_short : line_front (line_within line_limit s) len s ≡ short =
    ap (λ r. line_front r len s) none ∙ ap (λ b. cond b short other) (lt-ltb (length s) line_limit few) in
    ap (λ t. judged (nat_lt room (length s)) n (front len t)) same
    ∙ ap (λ b. judged b n (front len s)) (le-ltb room (length s) all)
    ∙ ap (λ b. judged false n (cond b nothing (line_front (line_within line_limit s) len s))) (ne_eqb (length s) 0 (omega arith))
    ∙ ap (judged false n) is_short

-- a line stands in front
pub line_there : (len n room : ℕ) (s : List ℕ) (k : ℕ) → line_within line_limit s ≡ Some k → k < room →
    next_frame len n room s ≡ judged (nat_lt room (length s)) n (if is_frame_line (take k s) then samples_front (k + 1) len (drop (k + 1) (take room s)) else other)
unfolding next_frame
line_there len n room s k there l =
    let i = line_is line_limit s k there in
    let inside = i.within in
    let first : line_within line_limit (take room s) ≡ Some k = line_in_front line_limit room s k there l in
    let text : take k (take room s) ≡ take k s = take-take k room s (omega arith) in
    ap (λ b. judged (nat_lt room (length s)) n (cond b nothing (line_front (line_within line_limit (take room s)) len (take room s)))) (ne_eqb (length (take room s)) 0 (omega (arith, length-take room s)))
    ∙ ap (λ r. judged (nat_lt room (length s)) n (line_front r len (take room s))) first
    ∙ ap (λ t. judged (nat_lt room (length s)) n (cond (is_frame_line t) (samples_front (k + 1) len (drop (k + 1) (take room s))) other)) text
