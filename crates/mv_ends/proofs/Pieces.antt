-- Pieces that are sent one after another.
use Rattle.std.proofs.Common.{◌≡◌, ℕ, ◌<◌, suc, List, ◌++◌, length, take, drop, get_or, sym, ◌∙◌, ap, append_assoc, arith, Option, Bor}
use Rattle.std.proofs.Math.Seq.{drop-cons}
use Rattle.std.proofs.lemmas.List.{take-append-drop, length-append}
use Rattle.std.proofs.lemmas.Grind.{flat_map-append}
use Rattle.std.specs.Io.KnownBytes.{Appends}
use Rattle.mv_ends.specs.Moves.{AppendsFront, joined}
use Rattle.mv_ends.proofs.Known.{Appends-trans}

-- a front of all pieces was written: the first i of them, and a front of the next
pub front_of_all : (a b c : Option (List ℕ)) (pieces : List (Bor (List ℕ))) (i : ℕ) (d : Bor (List ℕ)) → i < length pieces → Appends a b (joined (take i pieces)) → AppendsFront b c (get_or pieces i d).now → AppendsFront a c (joined pieces)
front_of_all a b c pieces i d within before h =
    let cut : joined pieces ≡ joined (take i pieces) ++ joined (drop i pieces) =
    ap joined (sym (take-append-drop i pieces)) ∙ flat_map-append (λ p. p.now) (take i pieces) (drop i pieces) in
    let next : joined (drop i pieces) ≡ (h.front ++ h.back) ++ joined (drop (suc i) pieces) =
    ap joined (drop-cons pieces i d within) ∙ ap (λ bytes. bytes ++ joined (drop (suc i) pieces)) h.parts in
    record {
      front = joined (take i pieces) ++ h.front;
      back = h.back ++ joined (drop (suc i) pieces);
      some_left = omega (arith, h.some_left, length-append h.back (joined (drop (suc i) pieces)));
      parts = cut ∙ ap (λ bytes. joined (take i pieces) ++ bytes) next ∙ simp append_assoc;
      grown = Appends-trans a b c _ _ before h.grown;
    }
