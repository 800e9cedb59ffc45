-- What is found is the record of a frame.
use Rattle.std.proofs.Common.{◌≡◌, ℕ, zero, suc, ◌+◌, ◌-◌, ◌*◌, ◌/◌, ◌%◌, ◌<◌, ◌∙◌, List, length, drop, map, replicate, get_or, Option, Some, None, refl, sym, ap, subst, arith}
use Rattle.std.specs.Str.{bytes_eq}
use Rattle.std.specs.List.{range_with_len}
use Rattle.std.proofs.lemmas.Slice.Eq.{bytes_eq-Decides}
use Rattle.std.proofs.lemmas.List.{length-replicate}
use Rattle.mv_heads.specs.declared.sequence_header.CodedSize.{CodedSize}
use Rattle.rec_slot.specs.Slot.{WrittenIsASlot, OneDecision}
use Rattle.rec_sheet.specs.Sheets.{SheetLists, IsSheet}
use Rattle.rec_bury.specs.Buried.{frame_of}
use Rattle.rec_bury.specs.Exhumed.{slots_in, sheet_in, byte_in}
use Rattle.rec_bury.specs.FrameBytes.{unrecorded}
use Rattle.rec_bury.specs.Laws.{BuriedComesBack, FitsPicture, ZerosAreUnrecorded}
use Rattle.rec_bury.specs.Seals.{SealHolds, seal_of}
use Rattle.rec_legal.specs.FoundRecord.{FoundRecord}
use Rattle.rec_legal.specs.Conditions.{IsSaid}
use Rattle.rec_legal.specs.Said.{◌>>=◌, when, said}
use Rattle.rec_legal.specs.Found.{IsFound, found}
use Rattle.rec_legal.specs.Laws.{FoundIsFound, OneRecord, SealedIsSaid, UnrecordedHasNone}
use Rattle.rec_legal.proofs.OptionLemmas.{bind_some, when_some, when_true, no_some, same_some}
use Rattle.rec_legal.proofs.SaidLaws.{AreSmall, said_to, said_from}

-- ---- the bytes that are buried

-- a number of so many, each below 256
module _ (at : ℕ → ℕ) (below : (i : ℕ) → at i < 256) where
  mapped_small : (from n k : ℕ) → get_or (map at (range_with_len from n)) k 0 < 256
  mapped_small from zero k = omega arith
  mapped_small from (suc n) zero = below from
  mapped_small from (suc n) (suc k) = mapped_small (from + 1) n k

mapped_size : (at : ℕ → ℕ) (from n : ℕ) → length (map at (range_with_len from n)) ≡ n
mapped_size at from zero = refl
mapped_size at from (suc n) = ap (λ (k : ℕ). suc k) (mapped_size at (from + 1) n)

byte_small : (wide high : ℕ) (frame : List ℕ) (m b : ℕ) → byte_in wide high frame m b < 256
byte_small wide high frame m b = omega arith

slots_small : (wide high : ℕ) (frame : List ℕ) → AreSmall (slots_in wide high frame)
unfolding slots_in
slots_small wide high frame k = mapped_small (λ i. byte_in wide high frame (i / 20) (i % 20)) (λ i. byte_small wide high frame (i / 20) (i % 20)) 0 (20 * (wide * high)) k

sheet_small : (wide high : ℕ) (frame : List ℕ) → AreSmall (sheet_in wide high frame)
unfolding sheet_in
sheet_small wide high frame k = mapped_small (λ i. byte_in wide high frame (i / 12) (20 + i % 12)) (λ i. byte_small wide high frame (i / 12) (20 + i % 12)) 0 (12 * (wide * high)) k

slots_size : (wide high : ℕ) (frame : List ℕ) → length (slots_in wide high frame) ≡ 20 * (wide * high)
unfolding slots_in
slots_size wide high frame = mapped_size (λ i. byte_in wide high frame (i / 20) (i % 20)) 0 (20 * (wide * high))

sheet_size : (wide high : ℕ) (frame : List ℕ) → length (sheet_in wide high frame) ≡ 12 * (wide * high)
unfolding sheet_in
sheet_size wide high frame = mapped_size (λ i. byte_in wide high frame (i / 12) (20 + i % 12)) 0 (12 * (wide * high))

-- ---- the seal

module _ (size : CodedSize) (frame : List ℕ) where
  abbrev w : ℕ
  w = size.mb_wide

  abbrev h : ℕ
  h = size.mb_high

  abbrev slots : List ℕ
  slots = slots_in w h frame

  abbrev sheet : List ℕ
  sheet = sheet_in w h frame

  -- the seal of what is said is what stands at the end of the sheet
  end_of_sheet : drop (length sheet - 32) sheet ≡ drop (12 * (w * h) - 32) sheet
  end_of_sheet = ap (λ (k : ℕ). drop (k - 32) sheet) (sheet_size w h frame)

  to_found : (r : FoundRecord) → said size slots sheet ≡ Some r → r.seal ≡ seal_of w h frame → IsFound size frame r
  to_found r e same =
      let is = said_to size slots sheet (slots_size w h frame) (slots_small w h frame) (sheet_small w h frame) r e in
      record { seal = sym end_of_sheet ∙ (is.seal_is ∙ same); is_said = is }

  found_to : (r : FoundRecord) → found size frame ≡ Some r → IsFound size frame r
  unfolding found
  found_to r e =
      let a = bind_some (said size slots sheet) (λ (x : FoundRecord). when (bytes_eq x.seal (seal_of w h frame)) x) r e in
      let f = when_some (bytes_eq a.0.seal (seal_of w h frame)) a.0 r a.2 in
      subst (IsFound size frame) f.1 (to_found a.0 a.1 ((bytes_eq-Decides a.0.seal (seal_of w h frame)).0 f.0))

  module _ (written : WrittenIsASlot) (one : OneDecision) where
    said_of : (r : FoundRecord) → IsSaid size slots sheet r → said size slots sheet ≡ Some r
    said_of r is = said_from size slots sheet (slots_size w h frame) (slots_small w h frame) (sheet_small w h frame) written one r is

    found_from : (r : FoundRecord) → IsFound size frame r → found size frame ≡ Some r
    unfolding found
    found_from r is =
        let same : r.seal ≡ seal_of w h frame = sym is.is_said.seal_is ∙ (end_of_sheet ∙ is.seal) in
        ap (λ (o : Option FoundRecord). o >>= (λ x. when (bytes_eq x.seal (seal_of w h frame)) x)) (said_of r is.is_said)
        ∙ when_true (bytes_eq r.seal (seal_of w h frame)) r ((bytes_eq-Decides r.seal (seal_of w h frame)).1 same)

  sealed : SealHolds w h frame → found size frame ≡ said size slots sheet
  unfolding found
  sealed holds = go (said size slots sheet) refl
    where
      go : (o : Option FoundRecord) → said size slots sheet ≡ o → (o >>= (λ x. when (bytes_eq x.seal (seal_of w h frame)) x)) ≡ o
      go None e = refl
      go (Some r) e =
          let is = said_to size slots sheet (slots_size w h frame) (slots_small w h frame) (sheet_small w h frame) r e in
          when_true (bytes_eq r.seal (seal_of w h frame)) r ((bytes_eq-Decides r.seal (seal_of w h frame)).1 (sym is.seal_is ∙ (end_of_sheet ∙ holds)))

pub found_is_found : WrittenIsASlot → OneDecision → FoundIsFound
found_is_found written one size frame r = (found_to size frame r, found_from size frame written one r)

pub one_record : WrittenIsASlot → OneDecision → OneRecord
one_record written one size frame r other is are = same_some r other (sym (found_from size frame written one r is) ∙ found_from size frame written one other are)

pub sealed_is_said : SealedIsSaid
sealed_is_said size frame holds = sealed size frame holds

-- ---- a frame without a record

no_sheet : (s : SheetLists) (k : ℕ) → IsSheet s (replicate k 0) → ⊥
no_sheet s zero is = let r = is.room in omega (arith, r)
no_sheet s (suc k) is = let f : 0 ≡ 77 = ap (λ (xs : List ℕ). get_or xs 0 0) is.name in omega (arith, f)

zeros_small : (n : ℕ) → AreSmall (replicate n 0)
zeros_small zero k = omega arith
zeros_small (suc n) zero = omega arith
zeros_small (suc n) (suc k) = zeros_small n k

pub unrecorded_has_none : BuriedComesBack → ZerosAreUnrecorded → UnrecordedHasNone
unrecorded_has_none back plain size f whole wide high =
    no_some (found size (unrecorded f)) (λ r e.
    let n : ℕ = f.mb_wide * f.mb_high in
    let slots : List ℕ = replicate (20 * n) 0 in
    let sheet : List ℕ = replicate (12 * n) 0 in
    let same : frame_of f slots sheet ≡ unrecorded f = plain f (20 * n) (12 * n) whole in
    let fits : FitsPicture slots sheet f = record { slots_size = length-replicate (20 * n) 0; sheet_size = length-replicate (12 * n) 0; slot_bytes = zeros_small (20 * n); sheet_bytes = zeros_small (12 * n) } in
    let b = back f slots sheet whole fits in
    let is = found_to size (unrecorded f) r e in
    let here : IsSheet r.sheet (sheet_in f.mb_wide f.mb_high (unrecorded f)) = subst (λ (x : ℕ). IsSheet r.sheet (sheet_in x f.mb_high (unrecorded f))) wide (subst (λ (y : ℕ). IsSheet r.sheet (sheet_in size.mb_wide y (unrecorded f))) high is.is_said.sheet_is) in
    no_sheet r.sheet (12 * n) (subst (IsSheet r.sheet) (ap (λ (x : List ℕ). sheet_in f.mb_wide f.mb_high x) (sym same) ∙ b.same_sheet) here))
