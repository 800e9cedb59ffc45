-- What certifying tells.
use Rattle.std.proofs.Common.{◌≡◌, ◌≤◌, ℕ, Bool, true, false, Decides, List, ◌++◌, refl, sym, ap, ◌∙◌}
use Rattle.std.specs.Prelude.{◌↔◌, IsTrue, nat_le, bytes_eq}
use Rattle.std.proofs.lemmas.Bool.{le-leb, leb-true}
use Rattle.std.proofs.lemmas.Bool.Decides.{same_from_decides, Decides-and}
use Rattle.std.proofs.lemmas.List.{append-nil}
use Rattle.std.proofs.lemmas.Slice.Eq.{bytes_eq-Decides}
use Rattle.mv_terms.specs.declared.head.Head.{Head}
use Rattle.mv_terms.specs.declared.macroblock.Decision.{Decision}
use Rattle.mv_terms.specs.declared.macroblock.MacroLevels.{MacroLevels}
use Rattle.mv_bits.specs.Packed.{without_last_zeros}
use Rattle.mv_bits.specs.Receivers.{Matches, compared}
use Rattle.mv_bits.specs.Zeros.{zero_bytes, zeros_at_end}
use Rattle.mv_bits.proofs.PackedLaws.{without_last_zeros_whole}
use Rattle.mv_planes.specs.declared.coded.Coded.{Coded}
use Rattle.mv_planes.specs.Planes.{Planes}
use Rattle.mv_planes.specs.References.{References, references_lent}
use Rattle.mv_slices.specs.Canonical.{canonical_slices, canonical_tail}
use Rattle.mv_slices.specs.CanonicalLaws.{IsLegalPicture}
use Rattle.mv_slices.specs.Slices.{Slices}
use Rattle.mv_slices.proofs.CanonicalLaws.{comparison_tells, tell_coding}
use Rattle.mv_slices.proofs.LegalSlices.{same_length}
use Rattle.mv_slices.proofs.LegalLaws.{coded_is_legal}
use Rattle.mv_macro.specs.Legal.{AreLegalDecisions}
use Rattle.mv_predict.specs.Blocks.{HasSizeOf}
use Rattle.mv_recon.specs.Pictures.{picture_from}
use Rattle.mv_terms.specs.Ranges.{IsHead}
use Rattle.cert_requant.specs.Requantised.{requantised}
use Rattle.cert_requant.proofs.RequantLaws.{requantised_can_be_coded}
use Rattle.cert_picture.specs.Records.{FrameParts, returns_slices}
use Rattle.cert_picture.specs.Certifying.{coded_lent}
use Rattle.cert_picture.specs.Steps.{are_canonical, WasDecoded}
use Rattle.cert_picture.proofs.ReconstructLemmas.{legal_can_be_reconstructed}

trimmed : (bytes : List ℕ) → zeros_at_end bytes ≡ 0 → without_last_zeros bytes ≡ bytes
trimmed bytes ends =
    sym (append-nil (without_last_zeros bytes))
    ∙ ap (λ (n : ℕ). without_last_zeros bytes ++ zero_bytes n) (sym ends)
    ∙ without_last_zeros_whole bytes

canonical_decides : (head : Head) (decisions : List Decision) (levels : List MacroLevels) (bytes : List ℕ) (zero_count : ℕ)
    → Decides (are_canonical head decisions levels bytes zero_count) ((canonical_slices head decisions levels ≡ bytes) × (canonical_tail head decisions levels ≤ zero_count))
canonical_decides head decisions levels bytes zero_count =
    let canonical : List ℕ = canonical_slices head decisions levels in
    let tail : ℕ = canonical_tail head decisions levels in
    Decides-and (bytes_eq canonical bytes) (nat_le tail zero_count) (bytes_eq-Decides canonical bytes) (leb-true tail zero_count, le-leb tail zero_count)

-- what a comparison of the canonical slices and their tail answers
pub tells : (head : Head) (decisions : List Decision) (levels : List MacroLevels) (bytes : List ℕ) (zero_count : ℕ) (result : Bool) → zeros_at_end bytes ≡ 0
    → IsTrue result ↔ Matches (compared bytes zero_count) (canonical_slices head decisions levels ++ zero_bytes (canonical_tail head decisions levels))
    → result ≡ are_canonical head decisions levels bytes zero_count
tells head decisions levels bytes zero_count result ends says =
    let law = comparison_tells head decisions levels bytes zero_count (trimmed bytes ends) in
    same_from_decides result (are_canonical head decisions levels bytes zero_count)
    ((λ t. law.0 (says.0 t)), (λ both. says.1 (law.1 both)))
    (canonical_decides head decisions levels bytes zero_count)

-- so much of a frame's parts says whether its slices come back
pub same_answer : (p : FrameParts) (head : Head) (decisions : List Decision) (decoded : Planes) (refs : References) (bytes : List ℕ) (zero_count : ℕ)
    → head ≡ p.picture.head → decisions ≡ p.picture.decisions → decoded ≡ p.decoded → refs ≡ p.references → bytes ≡ p.lists.slices → zero_count ≡ p.lists.zeros
    → are_canonical head decisions (requantised head decisions decoded refs) bytes zero_count ≡ returns_slices p
same_answer p head decisions decoded refs bytes zero_count a b c d e f = rw (a, b, c, d, e, f) refl

-- levels whose canonical slices are those that a picture was read from are its own
pub others_differ : (head : Head) (decisions : List Decision) (levels nearest : List MacroLevels) (bytes : List ℕ) (zero_count : ℕ) (stays : Bool) → IsLegalPicture head decisions nearest → Slices head bytes decisions levels
    → IsTrue stays ↔ (nearest ≡ levels) → stays ≡ false → false ≡ are_canonical head decisions nearest bytes zero_count
others_differ head decisions levels nearest bytes zero_count stays legal read says fails = by (are_canonical head decisions nearest bytes zero_count) refl
  where
    by : (b : Bool) → are_canonical head decisions nearest bytes zero_count ≡ b → false ≡ are_canonical head decisions nearest bytes zero_count
    by false e = sym e
    by true e =
        let same = ((canonical_decides head decisions nearest bytes zero_count).0 e).0 in
        let tells = tell_coding head decisions nearest legal bytes decisions levels read same in
        absurd (let no : false ≡ true = sym fails ∙ says.1 tells.1 in cc)

pub read_is_legal : (head : Head) (bytes : List ℕ) (decisions : List Decision) (levels : List MacroLevels) → IsHead head → Slices head bytes decisions levels → IsLegalPicture head decisions levels
read_is_legal head bytes decisions levels h read =
    let legal = coded_is_legal head bytes decisions levels h.precision read in
    record { f_codes = h.f_code; precision = h.precision; size = h.size; legal_decisions = legal.0; legal_levels = legal.1 }

-- a picture that was read from slices, and decoded
pub was_decoded : (coded : Coded) (bytes : List ℕ) → IsHead coded.head.now → Slices coded.head.now bytes coded.decisions.now coded.levels.now → coded.picture.now ≡ picture_from (references_lent coded.refs) (coded_lent coded)
    → HasSizeOf coded.head.now coded.refs.forward.now → HasSizeOf coded.head.now coded.refs.backward.now → WasDecoded coded
was_decoded coded bytes head read decoded forward backward =
    let legal = read_is_legal coded.head.now bytes coded.decisions.now coded.levels.now head read in
    record {
      head = head;
      macroblocks = record {
        decisions = legal.legal_decisions.size;
        levels = sym (same_length coded.head.now coded.decisions.now coded.levels.now legal) ∙ legal.legal_decisions.size;
      };
      decisions = legal_can_be_reconstructed coded.head.now coded.decisions.now legal.legal_decisions;
      levels = legal.legal_levels;
      decoded = decoded;
      forward = forward;
      backward = backward;
    }

pub nearest_is_legal : (head : Head) (decisions : List Decision) (decoded : Planes) (refs : References) → IsHead head → AreLegalDecisions head decisions → IsLegalPicture head decisions (requantised head decisions decoded refs)
nearest_is_legal head decisions decoded refs h legal = record {
  f_codes = h.f_code;
  precision = h.precision;
  size = h.size;
  legal_decisions = legal;
  legal_levels = requantised_can_be_coded head decisions decoded refs h.precision legal.size;
}
