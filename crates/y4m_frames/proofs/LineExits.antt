-- How taking the line of a frame ends.
use Rattle.std.proofs.Common.{◌≡◌, ◌≢◌, ℕ, ◌+◌, ◌<◌, ◌≤◌, Bool, true, false, cond, List, [], ◌∷◌, ◌++◌, length, take, drop, sym, ap, ◌∙◌, subst, arith, Option, Some, None, Err, nat_lt, ⊎_elim, ◌⊎◌, IfNone, inl, inr, nat_eq, eq-eqb}
use Rattle.std.proofs.lemmas.Bool.{cases_lt}
use Rattle.std.proofs.lemmas.List.{length-append, length-take-le, take-append-le, nil_from_length, take_more}
use Rattle.std.proofs.KnownBytes.{Consumes-trans}
use Rattle.std.specs.Io.KnownBytes.{Consumes, IsAtEnd, prepend_known}
use Rattle.mv_terms.specs.declared.status.FrameFault.TheVariants.{BadFrame, TooLong}
use Rattle.y4m_frames.specs.Lines.{line_within}
use Rattle.y4m_frames.specs.Frames.{other, samples_front, judged, next_frame, is_frame_line, line_limit}
use Rattle.y4m_frames.specs.Steps.{TakesLine}
use Rattle.y4m_frames.proofs.AheadLemmas.{front_over}
use Rattle.y4m_frames.proofs.LineLemmas.{line_stays, none_stays, none_first, line_is}
use Rattle.y4m_frames.proofs.NextLemmas.{parts, Parts, none_before, line_late, line_too_long, line_ends_early, line_there}

-- A line was looked for in what was read ahead, with this answer.
pub record Looked (s a : List ℕ) (rest : Option (List ℕ)) (found : Option ℕ) : Type 0 where
  pub same : Consumes (Some s) (prepend_known a rest) []
  pub is : line_within line_limit a ≡ found
  pub all : IfNone found ((line_limit ≤ length a) ⊎ IsAtEnd rest)

pub looked : (s a : List ℕ) (old rest : Option (List ℕ)) (r found : Option ℕ) → old ≡ Some s → Consumes old (prepend_known a rest) [] → line_within line_limit a ≡ r → IfNone r ((line_limit ≤ length a) ⊎ IsAtEnd rest) → r ≡ found → Looked s a rest found
looked s a old rest r found told same is all eq = record {
  same = subst (λ (o : Option (List ℕ)). Consumes o (prepend_known a rest) []) told same;
  is = is ∙ eq;
  all = subst (λ (o : Option ℕ). IfNone o ((line_limit ≤ length a) ⊎ IsAtEnd rest)) eq all;
}

pub not_empty : (n : ℕ) → nat_eq n 0 ≡ false → n ≢ 0
not_empty n h e = let t : nat_eq n 0 ≡ true = eq-eqb n 0 e in cc

end_or_enough : (s a : List ℕ) (rest : Option (List ℕ)) (p : Parts s a rest) → ((line_limit ≤ length a) ⊎ IsAtEnd rest) → (line_limit ≤ length a) ⊎ (p.behind ≡ [])
end_or_enough s a rest p h = ⊎_elim (λ g. inl g) (λ e. inr (subst IsAtEnd p.rest_is e)) h

pub told_end : (s a : List ℕ) (rest : Option (List ℕ)) (found : Option ℕ) → Looked s a rest found → length a ≡ 0 → s ≡ []
told_end s a rest None l z =
    let p = parts s a rest l.same in
    let none : a ≡ [] = nil_from_length a z in
    ⊎_elim (λ (g : line_limit ≤ length a). absurd (omega arith)) (λ (e : p.behind ≡ []). p.whole ∙ ap (λ t. t ++ p.behind) none ∙ e) (end_or_enough s a rest p l.all)
told_end s a rest (Some k) l z = absurd (let i = line_is line_limit a k l.is in omega (arith, i.within))

pub at_end : (a : List ℕ) (rest : Option (List ℕ)) (found : Option ℕ) → line_within line_limit a ≡ found → IfNone found ((line_limit ≤ length a) ⊎ IsAtEnd rest) → length a ≡ 0 → IsAtEnd rest
at_end a rest None is all z = ⊎_elim (λ (g : line_limit ≤ length a). absurd (omega arith)) (λ (e : IsAtEnd rest). e) all
at_end a rest (Some k) is all z = absurd (let i = line_is line_limit a k is in omega (arith, i.within))

pub none_late : (s a : List ℕ) (rest : Option (List ℕ)) (n room : ℕ) → Looked s a rest None → room < line_limit → room < length a → (len : ℕ) → next_frame len n room s ≡ Err (TooLong n)
none_late s a rest n room l few more len =
    let p = parts s a rest l.same in
    let longer : room < length s = omega (arith, ap length p.whole, length-append a p.behind) in
    let front : take room s ≡ take room a = ap (take room) p.whole ∙ take-append-le room a p.behind (omega arith) in
    line_late len n room s few longer (ap (line_within line_limit) front ∙ none_first line_limit room a l.is)

pub none_bad : (s a : List ℕ) (rest : Option (List ℕ)) (n room : ℕ) → Looked s a rest None → length a ≢ 0 → ((line_limit ≤ room) ⊎ (length a ≤ room)) → (len : ℕ) → next_frame len n room s ≡ Err (BadFrame n)
none_bad s a rest n room l some fits len =
    let p = parts s a rest l.same in
    let enough = end_or_enough s a rest p l.all in
    let none : line_within line_limit s ≡ None = ap (line_within line_limit) p.whole ∙ none_stays line_limit a p.behind l.is enough in
    let len_is : length s ≡ length a + length p.behind = ap length p.whole ∙ length-append a p.behind in
    ⊎_elim
    (λ (few : length a < line_limit). ⊎_elim
    (λ (g : line_limit ≤ length a). absurd (omega arith))
    (λ (e : p.behind ≡ []).
    let all : length s ≡ length a = omega (arith, len_is, ap length e) in
    let room_is : length a ≤ room = ⊎_elim (λ (h : line_limit ≤ room). omega arith) (λ (h : length a ≤ room). h) fits in
    line_ends_early len n room s (omega arith) (omega arith) (omega arith) none)
    enough)
    (λ (many : line_limit ≤ length a).
    line_too_long len n room s (⊎_elim (λ (h : line_limit ≤ room). h) (λ (h : length a ≤ room). omega arith) fits) (omega arith) none)
    (cases_lt (length a) line_limit)

found_whole : (s a : List ℕ) (rest : Option (List ℕ)) (k : ℕ) → Looked s a rest (Some k) → (line_within line_limit s ≡ Some k) × (take k s ≡ take k a)
found_whole s a rest k l =
    let p = parts s a rest l.same in
    let i = line_is line_limit a k l.is in
    let inside = i.within in
    (ap (line_within line_limit) p.whole ∙ line_stays line_limit a p.behind k l.is, ap (take k) p.whole ∙ take-append-le k a p.behind (omega arith))

pub some_late : (s a : List ℕ) (rest : Option (List ℕ)) (n room k : ℕ) → Looked s a rest (Some k) → room ≤ k → (len : ℕ) → next_frame len n room s ≡ Err (TooLong n)
some_late s a rest n room k l le len =
    let w = (found_whole s a rest k l).0 in
    let i = line_is line_limit s k w in
    line_late len n room s (omega (arith, i.short)) (omega (arith, i.within)) (none_before line_limit room s k w le)

some_by : (s a : List ℕ) (rest : Option (List ℕ)) (n room k : ℕ) (b : Bool) → Looked s a rest (Some k) → k < room → is_frame_line (take k a) ≡ b → (len : ℕ) →
    next_frame len n room s ≡ judged (nat_lt room (length s)) n (cond b (samples_front (k + 1) len (drop (k + 1) (take room s))) other)
some_by s a rest n room k b l less is len =
    let w = found_whole s a rest k l in
    line_there len n room s k w.0 less ∙ ap (λ x. judged (nat_lt room (length s)) n (cond x (samples_front (k + 1) len (drop (k + 1) (take room s))) other)) (ap is_frame_line w.1 ∙ is)

pub some_bad : (s a : List ℕ) (rest : Option (List ℕ)) (n room k : ℕ) → Looked s a rest (Some k) → k < room → is_frame_line (take k a) ≡ false → (len : ℕ) → next_frame len n room s ≡ Err (BadFrame n)
some_bad s a rest n room k l less is len = some_by s a rest n room k false l less is len

pub some_there : (s a : List ℕ) (rest : Option (List ℕ)) (n room k : ℕ) → Looked s a rest (Some k) → k < room → is_frame_line (take k a) ≡ true → (len : ℕ) →
    next_frame len n room s ≡ judged (nat_lt room (length s)) n (samples_front (k + 1) len (drop (k + 1) (take room s)))
some_there s a rest n room k l less is len = some_by s a rest n room k true l less is len

pub takes_line : (old : Option (List ℕ)) (a : List ℕ) (rest : Option (List ℕ)) (room k : ℕ) → Consumes old (prepend_known a rest) [] → line_within line_limit a ≡ Some k → k < room → is_frame_line (take k a) ≡ true →
    TakesLine (k + 1) room old (prepend_known (drop (k + 1) a) rest)
takes_line old a rest room k same found less is =
    let i = line_is line_limit a k found in
    let inside = i.within in
    let bytes : take (k + 1) a ≡ take k a ++ 10 ∷ [] = take_more a k 0 inside ∙ ap (λ b. take k a ++ b ∷ []) i.here in
    record {
      text = take k a;
      len = ap (λ n. n + 1) (sym (length-take-le k a (omega arith)));
      within = omega arith;
      consumed = subst (Consumes old (prepend_known (drop (k + 1) a) rest)) bytes
          (Consumes-trans old (prepend_known a rest) (prepend_known (drop (k + 1) a) rest) [] (take (k + 1) a) same (front_over a rest (k + 1)));
      one_line = i.one_line;
      short = omega (arith, i.short, length-take-le k a (omega arith));
      right = is;
    }
