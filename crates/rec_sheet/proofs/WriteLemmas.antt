-- A sheet that is written piece by piece.
use Rattle.std.proofs.Common.{◌≡◌, ℕ, zero, ◌+◌, ◌-◌, ◌∙◌, List, ◌++◌, take, length, replicate, arith, ap, refl, sym, length-append, append_assoc, codes}
use Rattle.std.proofs.lemmas.List.{replicate-append-replicate}
use Rattle.rec_sheet.specs.Sheets.{SheetLists, sheet_of, end_of, two_bytes, four_bytes, kind_of}

-- the first n bytes are these
pub record Begins (bytes xs : List ℕ) (n : ℕ) : Type 0 where
  pub front : take n bytes ≡ xs
  pub size : length xs ≡ n

pub begins : (bytes : List ℕ) → take 0 bytes ≡ take 0 bytes → Begins bytes (take 0 bytes) 0
begins bytes e = record { front = refl; size = refl }

pub with_piece : (before after xs piece : List ℕ) (at end n : ℕ) → at ≡ n → take end after ≡ take at before ++ piece → end ≡ at + length piece → Begins before xs n → Begins after (xs ++ piece) end
with_piece before after xs piece at end n here is next b = record {
  front = is ∙ ap (λ ys. ys ++ piece) (ap (λ k. take k before) here ∙ b.front);
  size = length-append xs piece ∙ (let s = b.size in omega arith);
}

pub with_rest : (before after xs : List ℕ) (at n size free : ℕ) → at ≡ n → after ≡ take at before ++ replicate (size - at) zero → size - n ≡ free + 32 → Begins before xs n → after ≡ xs ++ (replicate free zero ++ replicate 32 zero)
with_rest before after xs at n size free here is left b =
    is ∙ (ap (λ ys. ys ++ replicate (size - at) zero) (ap (λ k. take k before) here ∙ b.front)
    ∙ ap (λ ys. xs ++ ys) (ap (λ k. replicate (size - k) zero) here ∙ (ap (λ k. replicate k zero) left ∙ sym (replicate-append-replicate free 32 zero))))

regroup : (a b c d e f g h i j k l z : List ℕ) → (((((((((((a ++ b) ++ c) ++ d) ++ e) ++ f) ++ g) ++ h) ++ i) ++ j) ++ k) ++ l) ++ z ≡ a ++ (b ++ (c ++ (d ++ (e ++ (f ++ ((g ++ (h ++ i)) ++ (j ++ (k ++ (l ++ z)))))))))
regroup a b c d e f g h i j k l z = simp append_assoc

pub is_written : (s : SheetLists) (size free : ℕ) (kind n1 n2 c p h bytes : List ℕ) → kind ≡ kind_of s → n1 ≡ four_bytes s.n1 → n2 ≡ four_bytes s.n2 → c ≡ two_bytes (length s.context) → p ≡ two_bytes (length s.prefix) → h ≡ two_bytes (length s.head)
    → free ≡ size - 32 - end_of s
    → bytes ≡ (((((((((((codes "MREC" ++ kind) ++ s.forward) ++ s.backward) ++ n1) ++ n2) ++ c) ++ p) ++ h) ++ s.context) ++ s.prefix) ++ s.head) ++ (replicate free zero ++ replicate 32 zero)
    → bytes ≡ sheet_of s size (replicate 32 zero)
is_written s size free kind n1 n2 c p h bytes k a b u v w x is =
    is ∙ rw (k, a, b, u, v, w, x) (regroup (codes "MREC") (kind_of s) s.forward s.backward (four_bytes s.n1) (four_bytes s.n2) (two_bytes (length s.context)) (two_bytes (length s.prefix)) (two_bytes (length s.head)) s.context s.prefix s.head (replicate (size - 32 - end_of s) zero ++ replicate 32 zero))
