-- The parts of a unit that is written.
use Rattle.std.proofs.Common.{◌≡◌, ◌≢◌, ℕ, true, eqb, List, [], ◌∷◌, ◌++◌, length, refl, sym, ap, ◌∙◌, subst, arith, None}
use Rattle.std.specs.List.{concat, list_all}
use Rattle.std.proofs.lemmas.Bool.{eqb-true, and_parts}
use Rattle.std.proofs.lemmas.List.{length-append}
use Rattle.mv_bits.specs.Elements.{Cut, cut, code}
use Rattle.mv_bits.specs.StartCodes.{are_prefix, is_slice}
use Rattle.mv_bits.specs.Zeros.{zero_bytes}
use Rattle.mv_bits.proofs.CutLaws.{cut_whole}
use Rattle.mv_bits.proofs.PieceLaws.{cut_again}
use Rattle.mv_heads.specs.Headers.{keeps_size}
use Rattle.mv_heads.proofs.SequencePartLaws.{contexts_read_in_front, has_shape}
use Rattle.mv_units.specs.declared.next.Before.{Before}
use Rattle.mv_units.specs.declared.next.Before.TheVariants as before
use Rattle.mv_units.specs.Shape.{IsFront}
use Rattle.enc_glue.specs.Joined.{GluedIsPrefix, HeadIsHead, ZerosAreInFront}

no_front : (begin : Before) → IsFront begin []
no_front before.Stream = (0, refl)
no_front before.Unit = refl
no_front before.Ended = refl

pub glued_is_prefix : GluedIsPrefix
unfolding keeps_size
glued_is_prefix begin context part prefix reads without short =
    let p = contexts_read_in_front None context part prefix reads refl without in
    record {
      front = subst (λ (front : List ℕ). IsFront begin front) (sym p.front) (no_front begin);
      elements = p.elements;
      sequence = λ _. p.begins;
      short = omega (arith, length-append part prefix);
    }

zeros_alone : (bytes : List ℕ) → list_all (λ b. eqb b 0) bytes ≡ true → bytes ≡ zero_bytes (length bytes)
zeros_alone [] all = refl
zeros_alone (b ∷ bytes) all =
    let p = and_parts (eqb b 0) (list_all (λ b. eqb b 0) bytes) all in
    let zero : b ≡ 0 = eqb-true b 0 p.0 in
    ap (λ (x : ℕ). x ∷ bytes) zero ∙ ap (λ (x : List ℕ). 0 ∷ x) (zeros_alone bytes p.1)

pub zeros_are_in_front : ZerosAreInFront
zeros_are_in_front prefix zeros are short =
    let own = concat (cut prefix).elements in
    let parts : prefix ≡ zero_bytes (length (cut prefix).front) ++ own =
    sym (cut_whole prefix) ∙ ap (λ (front : List ℕ). front ++ own) (zeros_alone (cut prefix).front zeros) in
    let again = cut_again prefix in (
      parts,
      record {
        front = ap (λ (d : Cut). d.front) again;
        elements = ap (λ (d : Cut). are_prefix d.elements) again ∙ are;
        sequence = λ first. absurd cc;
        short = omega (arith, short, ap length (cut_whole prefix), length-append (cut prefix).front own);
      },
    )

pub head_is_head : HeadIsHead
head_is_head context in_force picture head reads short =
    let p = has_shape.head (cut head) context in_force picture reads in
    record { front = p.0; elements = p.1; short = short }
