-- How the start of a reader ends.
use Rattle.std.proofs.Common.{◌≡◌, ℕ, ◌+◌, ◌-◌, ◌≤◌, List, [], ◌∷◌, ◌++◌, length, take, drop, refl, sym, ap, ◌∙◌, subst, arith, Option, Some, None, Ok, Err, append-nil, ⊎_elim, ◌⊎◌, inl, inr, IfNone}
use Rattle.std.proofs.lemmas.List.{length-take-le, take-append-le, take_more}
use Rattle.std.proofs.KnownBytes.{Consumes-trans}
use Rattle.std.specs.Io.KnownBytes.{Consumes, IsAtEnd, prepend_known}
use Rattle.mv_terms.specs.declared.status.FrameFault.{FrameFault}
use Rattle.mv_terms.specs.declared.status.FrameFault.TheVariants.{BadHeader}
use Rattle.mv_terms.specs.declared.frame_header.FrameHeader.{FrameHeader}
use Rattle.y4m_frames.specs.Lines.{line_within}
use Rattle.y4m_frames.specs.Header.{header_limit, header_of, file_header, start_by}
use Rattle.y4m_frames.specs.Frames.{IsHeaderLine, file_limit}
use Rattle.y4m_frames.specs.Reading.{Starts}
use Rattle.y4m_frames.proofs.AheadLemmas.{front_over, prepend_nil}
use Rattle.y4m_frames.proofs.LineLemmas.{line_stays, none_stays, line_is}
use Rattle.y4m_frames.proofs.NextLemmas.{parts}

-- nothing was ahead
pub from_rest : (a0 a : List ℕ) (old rest : Option (List ℕ)) → a0 ≡ [] → Consumes (prepend_known a0 old) (prepend_known a rest) [] → Consumes old (prepend_known a rest) []
from_rest a0 a old rest z h =
    subst (λ (o : Option (List ℕ)). Consumes o (prepend_known a rest) []) (ap (λ x. prepend_known x old) z ∙ prepend_nil old) h

pub no_header : (s a : List ℕ) (old rest : Option (List ℕ)) (found : Option ℕ) → old ≡ Some s → Consumes old (prepend_known a rest) [] → line_within header_limit a ≡ found → IfNone found ((header_limit ≤ length a) ⊎ IsAtEnd rest) → found ≡ None →
    file_header s ≡ Err BadHeader
unfolding file_header
no_header s a old rest found told same is all eq =
    let p = parts s a rest (subst (λ (o : Option (List ℕ)). Consumes o (prepend_known a rest) []) told same) in
    let enough = subst (λ (o : Option ℕ). IfNone o ((header_limit ≤ length a) ⊎ IsAtEnd rest)) eq all in
    let settled : (header_limit ≤ length a) ⊎ (p.behind ≡ []) = ⊎_elim (λ g. inl g) (λ e. inr (subst IsAtEnd p.rest_is e)) enough in
    let none : line_within header_limit s ≡ None = ap (line_within header_limit) p.whole ∙ none_stays header_limit a p.behind (is ∙ eq) settled in
    ap (λ r. start_by r s) none

pub bad_header : (s a : List ℕ) (old rest : Option (List ℕ)) (found : Option ℕ) (k : ℕ) (fault : FrameFault) → old ≡ Some s → Consumes old (prepend_known a rest) [] → line_within header_limit a ≡ found → found ≡ Some k → header_of (take k a) ≡ Err fault →
    file_header s ≡ Err fault
unfolding file_header
bad_header s a old rest found k fault told same is eq bad =
    let p = parts s a rest (subst (λ (o : Option (List ℕ)). Consumes o (prepend_known a rest) []) told same) in
    let i = line_is header_limit a k (is ∙ eq) in
    let inside = i.within in
    let there : line_within header_limit s ≡ Some k = ap (line_within header_limit) p.whole ∙ line_stays header_limit a p.behind k (is ∙ eq) in
    let text : take k s ≡ take k a = ap (take k) p.whole ∙ take-append-le k a p.behind (omega arith) in
    ap (λ r. start_by r s) there ∙ ap header_of text ∙ bad

pub header_line : (a : List ℕ) (found : Option ℕ) (k : ℕ) (h : FrameHeader) → line_within header_limit a ≡ found → found ≡ Some k → header_of (take k a) ≡ Ok h → IsHeaderLine (take (k + 1) a) h
header_line a found k h is eq means =
    let i = line_is header_limit a k (is ∙ eq) in
    let inside = i.within in
    record {
      text = take k a;
      parts = take_more a k 0 inside ∙ ap (λ b. take k a ++ b ∷ []) i.here;
      one_line = i.one_line;
      short = omega (arith, i.short, length-take-le k a (omega arith));
      means = means;
    }

pub starts : (a ahead line : List ℕ) (old rest : Option (List ℕ)) (found : Option ℕ) (k : ℕ) (h : FrameHeader) → Consumes old (prepend_known a rest) [] → line_within header_limit a ≡ found → found ≡ Some k → header_of (take k a) ≡ Ok h →
    line ≡ take (k + 1) a → ahead ≡ drop (k + 1) a →
    Starts old rest (record { header = h; line = line; count = 0; room = file_limit - (k + 1); ahead = ahead; failed = None })
starts a ahead line old rest found k h same is eq means line_is' ahead_is =
    let i = line_is header_limit a k (is ∙ eq) in
    let inside = i.within in
    let brief = i.short in
    let len : length line ≡ k + 1 = ap length line_is' ∙ length-take-le (k + 1) a (omega arith) in
    record {
      consumed = subst (λ (x : List ℕ). Consumes old (prepend_known x rest) line) (sym ahead_is)
          (subst (λ (x : List ℕ). Consumes old (prepend_known (drop (k + 1) a) rest) x) (sym line_is')
          (Consumes-trans old (prepend_known a rest) (prepend_known (drop (k + 1) a) rest) [] (take (k + 1) a) same (front_over a rest (k + 1))));
      stands = record {
        behind = [];
        parts = sym (append-nil line);
        header = subst (λ (x : List ℕ). IsHeaderLine x h) (sym line_is') (header_line a found k h is eq means);
        frames_are = refl;
        count = refl;
        room = omega (arith, len, brief);
      };
      runs = refl;
    }
