-- What is found in a frame, by what its slots and its sheet say and whether its seal holds.
use Rattle.std.proofs.Common.{◌≡◌, ℕ, true, List, Option, Some, None, refl, sym, subst}
use Rattle.std.proofs.lemmas.Bool.{false≢true}
use Rattle.std.specs.Prelude.{is_some}
use Rattle.mv_heads.specs.declared.sequence_header.CodedSize.{CodedSize}
use Rattle.rec_bury.specs.Exhumed.{slots_in, sheet_in}
use Rattle.rec_bury.specs.Seals.{SealHolds}
use Rattle.rec_legal.specs.FoundRecord.{FoundRecord}
use Rattle.rec_legal.specs.Conditions.{IsSaid}
use Rattle.rec_legal.specs.Found.{IsFound, found}
use Rattle.rec_legal.specs.Laws.{FoundIsFound}

-- a frame has no record where none would be found by the conditions
none_by : (size : CodedSize) (frame : List ℕ) → FoundIsFound → ((r : FoundRecord) → IsFound size frame r → ⊥) → found size frame ≡ None
none_by size frame law never = go (found size frame) refl
  where
    go : (o : Option FoundRecord) → found size frame ≡ o → o ≡ None
    go None e = refl
    go (Some r) e = absurd (never r ((law size frame r).0 e))

pub none_said : (size : CodedSize) (frame slots sheet : List ℕ) → FoundIsFound
    → slots ≡ slots_in size.mb_wide size.mb_high frame → sheet ≡ sheet_in size.mb_wide size.mb_high frame
    → ((r : FoundRecord) → IsSaid size slots sheet r → ⊥) → found size frame ≡ None
none_said size frame slots sheet law e f never =
    none_by size frame law (λ r is. never r (subst (λ (x : List ℕ). IsSaid size x sheet r) (sym e) (subst (λ (y : List ℕ). IsSaid size (slots_in size.mb_wide size.mb_high frame) y r) (sym f) is.is_said)))

pub none_sealed : (size : CodedSize) (frame : List ℕ) → FoundIsFound → (SealHolds size.mb_wide size.mb_high frame → ⊥) → found size frame ≡ None
none_sealed size frame law never = none_by size frame law (λ r is. never is.seal)

-- where a record is found the seal holds
pub known_seal : (size : CodedSize) (frame : List ℕ) → FoundIsFound → is_some (found size frame) ≡ true → SealHolds size.mb_wide size.mb_high frame
known_seal size frame law some = go (found size frame) refl some
  where
    go : (o : Option FoundRecord) → found size frame ≡ o → is_some o ≡ true → SealHolds size.mb_wide size.mb_high frame
    go None e is = absurd (false≢true is)
    go (Some r) e is = ((law size frame r).0 e).seal
