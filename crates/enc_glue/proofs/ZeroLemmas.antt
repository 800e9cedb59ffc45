-- Zero bytes sent block by block.
use Rattle.std.proofs.Common.{◌≡◌, ℕ, ◌+◌, ◌-◌, ◌≤◌, List, ◌++◌, sym, ◌∙◌, ap, subst, append_assoc, arith, Option}
use Rattle.std.proofs.lemmas.List.{length-append, replicate-append-replicate}
use Rattle.std.specs.Io.KnownBytes.{Appends}
use Rattle.mv_bits.specs.Zeros.{zero_bytes}
use Rattle.mv_ends.specs.Moves.{AppendsFront}
use Rattle.mv_ends.proofs.Known.{Appends-trans}

-- some zero bytes, and then more
zeros_more : (all some more : ℕ) → some + more ≡ all → zero_bytes all ≡ zero_bytes some ++ zero_bytes more
zeros_more all some more is = ap (λ (n : ℕ). zero_bytes n) (sym is) ∙ sym (replicate-append-replicate some more 0)

-- a block more was sent
pub block_sent : (a b c : Option (List ℕ)) (block : List ℕ) (done n next : ℕ) → block ≡ zero_bytes n → done + n ≡ next →
    Appends a b (zero_bytes done) → Appends b c block → Appends a c (zero_bytes next)
block_sent a b c block done n next is sum before more =
    subst (λ (bytes : List ℕ). Appends a c bytes) (ap (λ (bytes : List ℕ). zero_bytes done ++ bytes) is ∙ sym (zeros_more next done n sum)) (Appends-trans a b c (zero_bytes done) block before more)

-- a front of the next block was sent, and not all of it
pub block_failed : (a b c : Option (List ℕ)) (block : List ℕ) (done n all : ℕ) → block ≡ zero_bytes n → done + n ≤ all →
    Appends a b (zero_bytes done) → AppendsFront b c block → AppendsFront a c (zero_bytes all)
block_failed a b c block done n all is within before h =
    let left = all - (done + n) in
    let one : zero_bytes all ≡ zero_bytes done ++ zero_bytes (n + left) = zeros_more all done (n + left) (omega arith) in
    let two : zero_bytes (n + left) ≡ (h.front ++ h.back) ++ zero_bytes left = zeros_more (n + left) n left (omega arith) ∙ ap (λ (bytes : List ℕ). bytes ++ zero_bytes left) (sym is ∙ h.parts) in
    record {
      front = zero_bytes done ++ h.front;
      back = h.back ++ zero_bytes left;
      parts = one ∙ ap (λ (bytes : List ℕ). zero_bytes done ++ bytes) two ∙ simp append_assoc;
      some_left = omega (arith, h.some_left, length-append h.back (zero_bytes left));
      grown = Appends-trans a b c _ _ before h.grown;
    }
