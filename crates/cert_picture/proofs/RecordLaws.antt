-- What is found in the frame of a picture.
use Rattle.std.proofs.Common.{◌≡◌, ℕ, zero, suc, ◌+◌, ◌-◌, ◌*◌, ◌%◌, ◌≤◌, Bool, true, false, not, leb, List, ◌++◌, length, drop, replicate, get_or, Option, None, Some, refl, sym, ap, ◌∙◌, subst, arith, inl, inr, length-append}
use Rattle.std.specs.Prelude.{◌↔◌, bytes_eq, is_some, unwrap_or, IfSome}
use Rattle.std.proofs.lemmas.Bool.{cases_Bool, and_parts, leb-true}
use Rattle.std.proofs.lemmas.List.{drop_at, length-replicate}
use Rattle.std.proofs.lemmas.Slice.Eq.{bytes_eq-Decides}
use Rattle.sha2.specs.Sha256.{sha256}
use Rattle.sha2.proofs.Facts256.{length-sha256}
use Rattle.mv_bits.specs.Writing.{AreBytes}
use Rattle.mv_terms.specs.CodedPicture.{frame_macroblocks, pic_of}
use Rattle.mv_terms.specs.declared.macroblock.MacroLevels.{MacroLevels}
use Rattle.mv_slices.specs.Canonical.{canonical_slices, canonical_tail, settled}
use Rattle.mv_slices.specs.CanonicalLaws.{OfLegalPictures, TellCoding}
use Rattle.cert_requant.specs.Requantised.{requantised, RequantisedCanBeCoded}
use Rattle.rec_slot.specs.Directions.{uses_forward}
use Rattle.rec_sheet.specs.Sheets.{SheetLists, FitsPlaces, IsSheet, PlacesAreWritten, OneSheet, sheet_of, end_of}
use Rattle.rec_bury.specs.Buried.{frame_of}
use Rattle.rec_bury.specs.Exhumed.{slots_in, sheet_in, source_of}
use Rattle.rec_bury.specs.Laws.{FitsPicture, ComesBack, BuriedComesBack, SealIsOfZeros, ZerosAreUnrecorded}
use Rattle.rec_bury.specs.Seals.{seal_of, SealHolds}
use Rattle.cert_picture.specs.Records.{FrameParts, flag, flags_of, frame_by, frame_samples, frame_seal, frame_with, is_certified, is_recordable, longest_part, most_zeros, no_seal, sheet_lists, sheet_with, slots_of, zeros_behind_end}
use Rattle.cert_picture.specs.RecordLaws.{AreDecoded, IsLink, HasRecord, RecordComesBack, PictureComesBack, OnlyRecordIsFound, FlagTellsCertified, CertifiedComesFromSamples, sheet_found}
use Rattle.cert_picture.proofs.ByteLemmas.{byte_in, bytes_sha256, bytes_zeros}
use Rattle.cert_picture.proofs.HeldLemmas.{all_fit_slots}
use Rattle.cert_picture.proofs.RecordLemmas.{all_of_frame}
use Rattle.cert_picture.proofs.SlotLemmas.{bytes_slots, slots_long}
use Rattle.cert_picture.proofs.SheetLemmas.{HasBytes, bytes_sheet, front_long}
use Rattle.cert_picture.proofs.SealedLemmas.{front_of, no_record, sheet_ends, seal_by}

-- ---- what fits a sheet

record FitsSheet (p : FrameParts) : Type 0 where
  context : length p.context ≤ longest_part
  prefix : length p.lists.prefix ≤ longest_part
  head : length p.lists.head ≤ longest_part
  n1 : p.lists.zeros ≤ most_zeros
  n2 : zeros_behind_end p.lists ≤ most_zeros
  room : 118 + length p.context + length p.lists.prefix + length p.lists.head ≤ 12 * frame_macroblocks p.picture.head

fits_sheet : (p : FrameParts) → is_recordable p ≡ true → FitsSheet p
fits_sheet p is =
    let a6 = and_parts _ (leb (118 + length p.context + length p.lists.prefix + length p.lists.head) (12 * frame_macroblocks p.picture.head)) is in
    let a5 = and_parts _ (leb (zeros_behind_end p.lists) most_zeros) a6.0 in
    let a4 = and_parts _ (leb p.lists.zeros most_zeros) a5.0 in
    let a3 = and_parts _ (leb (length p.lists.head) longest_part) a4.0 in
    let a2 = and_parts _ (leb (length p.lists.prefix) longest_part) a3.0 in
    let a1 = and_parts (not p.extended) (leb (length p.context) longest_part) a2.0 in
    record {
      context = leb-true _ _ a1.1;
      prefix = leb-true _ _ a2.1;
      head = leb-true _ _ a3.1;
      n1 = leb-true _ _ a4.1;
      n2 = leb-true _ _ a5.1;
      room = leb-true _ _ a6.1;
    }

-- ---- flags

flag_small : (set : Bool) (value : ℕ) → flag set value ≤ value
flag_small true value = omega arith
flag_small false value = omega arith

even_flag : (set : Bool) (half : ℕ) → flag set (2 * half) ≡ 2 * flag set half
even_flag true half = refl
even_flag false half = refl

flags_small : (certified uses forward backward end : Bool) → flag certified 1 + flag uses 2 + flag forward 4 + flag backward 8 + flag end 16 ≤ 31
flags_small c u f b e = omega (arith, flag_small c 1, flag_small u 2, flag_small f 4, flag_small b 8, flag_small e 16)

first_flag : (certified uses forward backward end : Bool) → (flag certified 1 + flag uses 2 + flag forward 4 + flag backward 8 + flag end 16) % 2 ≡ flag certified 1
first_flag c u f b e = omega (arith, flag_small c 1, even_flag u 1, even_flag f 2, even_flag b 4, even_flag e 8)

flag_tells : (certified : Bool) → (flag certified 1 ≡ 1) ↔ (certified ≡ true)
flag_tells true = (λ _. refl, λ _. refl)
flag_tells false = (λ h. absurd (omega (arith, h)), λ h. absurd cc)

-- ---- links

link_long : (link : Option (List ℕ)) → IfSome link IsLink → length (unwrap_or link no_seal) ≡ 32
link_long None is = refl
link_long (Some bytes) is = is.size

link_bytes : (link : Option (List ℕ)) → IfSome link IsLink → AreBytes (unwrap_or link no_seal)
link_bytes None is = bytes_zeros 32
link_bytes (Some bytes) is = is.bytes

-- ---- a frame with its record

module _ (back : BuriedComesBack) (digest : SealIsOfZeros) (places : PlacesAreWritten) (p : FrameParts) (made : AreDecoded p) where
  whole_area : frame_macroblocks p.picture.head ≡ p.picture.head.mb_wide * p.picture.head.mb_high
  whole_area = all_of_frame p.picture.head made.head.frame

  same_area : p.decoded.mb_wide * p.decoded.mb_high ≡ frame_macroblocks p.picture.head
  same_area = ap (λ (n : ℕ). n * p.decoded.mb_high) made.size.wide ∙ ap (λ (n : ℕ). p.picture.head.mb_wide * n) made.size.high ∙ sym whole_area

  module _ (recordable : is_recordable p ≡ true) where
    abbrev size : ℕ
    size = 12 * frame_macroblocks p.picture.head

    abbrev seal : List ℕ
    seal = sha256 (frame_with p no_seal)

    room : end_of (sheet_lists p) + 32 ≤ size
    room = let r = (fits_sheet p recordable).room in omega (arith, r)

    fits : FitsPlaces (sheet_lists p)
    fits =
        let r = fits_sheet p recordable in
        let few = flags_small (is_certified p) (uses_forward (pic_of p.picture) p.picture.decisions) (is_some p.forward) (is_some p.backward) (is_some p.lists.end) in
        record {
          flags = omega (arith, few);
          forward = link_long p.forward made.forward;
          backward = link_long p.backward made.backward;
          n1 = omega (arith, r.n1);
          n2 = omega (arith, r.n2);
          context = omega (arith, r.context);
          prefix = omega (arith, r.prefix);
          head = omega (arith, r.head);
        }

    front_size : length (front_of p) + 32 ≡ size
    front_size = front_long (sheet_lists p) size fits room

    sheet_long : length (sheet_with p seal) ≡ size
    sheet_long =
        let whole = ap (λ (s : List ℕ). length s) (sheet_ends p seal) in
        omega (arith, whole, length-append (front_of p) seal, length-sha256 (frame_with p no_seal), front_size)

    fits_picture : FitsPicture (slots_of p.picture.decisions) (sheet_with p seal) p.decoded
    fits_picture =
        let has : HasBytes (sheet_lists p) = record {
          forward = link_bytes p.forward made.forward;
          backward = link_bytes p.backward made.backward;
          context = made.context_bytes;
          prefix = made.prefix_bytes;
          head = made.head_bytes;
        } in
        record {
          slots_size = slots_long p.picture.decisions ∙ ap (λ (n : ℕ). 20 * n) (made.decisions.size ∙ sym whole_area ∙ sym same_area);
          sheet_size = sheet_long ∙ ap (λ (n : ℕ). 12 * n) (sym same_area);
          slot_bytes = byte_in (slots_of p.picture.decisions) (bytes_slots p.picture.decisions (all_fit_slots p.picture.head 0 _ p.picture.decisions made.head.f_code made.decisions.each));
          sheet_bytes = byte_in (sheet_with p seal) (bytes_sheet (sheet_lists p) size seal fits has (bytes_sha256 (frame_with p no_seal)));
        }

    whole_frame : frame_samples p ≡ frame_with p seal
    unfolding frame_seal
    whole_frame = ap (λ (r : Bool). frame_by p (seal_by p r)) recordable

    comes_back : ComesBack p.decoded (slots_of p.picture.decisions) (sheet_with p seal)
    comes_back = back p.decoded (slots_of p.picture.decisions) (sheet_with p seal) made.whole fits_picture

    found_sheet : sheet_found p ≡ sheet_with p seal
    found_sheet = ap (sheet_in p.decoded.mb_wide p.decoded.mb_high) whole_frame ∙ comes_back.same_sheet

    is_sheet : IsSheet (sheet_lists p) (sheet_with p seal)
    is_sheet = (places (sheet_lists p) (sheet_with p seal)).1 (record {
      fits = fits;
      room = omega (arith, sheet_long, room);
      seal = seal;
      seal_size = length-sha256 (frame_with p no_seal);
      bytes_are = ap (λ (n : ℕ). sheet_of (sheet_lists p) n seal) (sym sheet_long);
    })

    seal_found : SealHolds p.decoded.mb_wide p.decoded.mb_high (frame_samples p)
    seal_found =
        let wide = p.decoded.mb_wide in
        let high = p.decoded.mb_high in
        let slots = slots_of p.picture.decisions in
        let all : length (front_of p) + 32 ≡ 12 * (wide * high) = front_size ∙ ap (λ (n : ℕ). 12 * n) (sym same_area) in
        let frame : frame_samples p ≡ frame_of p.decoded slots (front_of p ++ seal) = whole_frame ∙ ap (frame_of p.decoded slots) (sheet_ends p seal) in
        let own : seal_of wide high (frame_samples p) ≡ seal = ap (seal_of wide high) frame
        ∙ digest p.decoded slots (front_of p) seal all (length-sha256 (frame_with p no_seal))
        ∙ ap (λ (s : List ℕ). sha256 (frame_of p.decoded slots s)) (sym (sheet_ends p no_seal)) in
        let place : 12 * (wide * high) - 32 ≡ length (front_of p) = omega (arith, all) in
        ap (drop (12 * (wide * high) - 32)) (found_sheet ∙ sheet_ends p seal)
        ∙ ap (λ (n : ℕ). drop n (front_of p ++ seal)) place ∙ drop_at (front_of p) seal (length (front_of p)) refl ∙ sym own

    pub has_record : HasRecord p
    has_record = record {
      slots = ap (slots_in p.decoded.mb_wide p.decoded.mb_high) whole_frame ∙ comes_back.same_slots;
      sheet = subst (IsSheet (sheet_lists p)) (sym found_sheet) is_sheet;
      seal = seal_found;
    }

    pub recorded_picture : source_of p.decoded.mb_wide p.decoded.mb_high (frame_samples p) ≡ p.decoded
    recorded_picture = ap (source_of p.decoded.mb_wide p.decoded.mb_high) whole_frame ∙ comes_back.same_picture

-- ---- a frame without a record

no_sheet : (s : SheetLists) (n : ℕ) → IsSheet s (replicate n 0) → ⊥
no_sheet s zero is = omega (arith, is.room)
no_sheet s (suc n) is = let never : 0 ≡ 77 = ap (λ (bytes : List ℕ). get_or bytes 0 0) is.name in omega (arith, never)

module _ (back : BuriedComesBack) (plain : ZerosAreUnrecorded) (p : FrameParts) (made : AreDecoded p) (other : is_recordable p ≡ false) where
  abbrev area : ℕ
  area = p.decoded.mb_wide * p.decoded.mb_high

  abbrev empty_frame : List ℕ
  empty_frame = frame_of p.decoded (replicate (20 * area) 0) (replicate (12 * area) 0)

  plain_frame : frame_samples p ≡ empty_frame
  plain_frame = ap (frame_by p) (sym (no_record p other)) ∙ sym (plain p.decoded (20 * area) (12 * area) made.whole)

  empty : ComesBack p.decoded (replicate (20 * area) 0) (replicate (12 * area) 0)
  empty = back p.decoded (replicate (20 * area) 0) (replicate (12 * area) 0) made.whole (record {
    slots_size = length-replicate (20 * area) 0;
    sheet_size = length-replicate (12 * area) 0;
    slot_bytes = byte_in (replicate (20 * area) 0) (bytes_zeros (20 * area));
    sheet_bytes = byte_in (replicate (12 * area) 0) (bytes_zeros (12 * area));
  })

  pub plain_picture : source_of p.decoded.mb_wide p.decoded.mb_high (frame_samples p) ≡ p.decoded
  plain_picture = ap (source_of p.decoded.mb_wide p.decoded.mb_high) plain_frame ∙ empty.same_picture

  pub none_found : (s : SheetLists) → IsSheet s (sheet_found p) → ⊥
  none_found s is = no_sheet s (12 * area) (subst (IsSheet s) (ap (sheet_in p.decoded.mb_wide p.decoded.mb_high) plain_frame ∙ empty.same_sheet) is)

-- ---- the laws

pub record_comes_back : BuriedComesBack → SealIsOfZeros → PlacesAreWritten → RecordComesBack
record_comes_back back digest places p made recordable = has_record back digest places p made recordable

pub picture_comes_back : BuriedComesBack → SealIsOfZeros → ZerosAreUnrecorded → PlacesAreWritten → PictureComesBack
picture_comes_back back digest plain places p made =
    elim (cases_Bool (is_recordable p)) [
      | inl is ↦ recorded_picture back digest places p made is
      | inr other ↦ plain_picture back plain p made other
    ]

pub only_record_is_found : BuriedComesBack → SealIsOfZeros → ZerosAreUnrecorded → PlacesAreWritten → OneSheet → OnlyRecordIsFound
only_record_is_found back digest plain places one p s made is =
    elim (cases_Bool (is_recordable p)) [
      | inl recorded ↦ (recorded, one s (sheet_lists p) (sheet_found p) is (has_record back digest places p made recorded).sheet)
      | inr other ↦ absurd (none_found back plain p made other s is)
    ]

pub flag_tells_certified : OnlyRecordIsFound → FlagTellsCertified
flag_tells_certified only p s made is =
    let flags : s.flags ≡ flags_of p = ap (λ (t : SheetLists). t.flags) (only p s made is).1 in
    let first = first_flag (is_certified p) (uses_forward (pic_of p.picture) p.picture.decisions) (is_some p.forward) (is_some p.backward) (is_some p.lists.end) in
    let value : s.flags % 2 ≡ flag (is_certified p) 1 = ap (λ (n : ℕ). n % 2) flags ∙ first in
    let tells = flag_tells (is_certified p) in
    (λ odd. tells.0 (sym value ∙ odd), λ set. value ∙ tells.1 set)

pub certified_comes_from_samples : RequantisedCanBeCoded → OfLegalPictures TellCoding → CertifiedComesFromSamples
certified_comes_from_samples coded tells p head legal slices is =
    let levels : List MacroLevels = requantised p.picture.head p.picture.decisions p.decoded p.references in
    let both = and_parts (bytes_eq (canonical_slices p.picture.head p.picture.decisions levels) p.lists.slices) (leb (canonical_tail p.picture.head p.picture.decisions levels) p.lists.zeros) is in
    let same : canonical_slices p.picture.head p.picture.decisions levels ≡ p.lists.slices = (bytes_eq-Decides (canonical_slices p.picture.head p.picture.decisions levels) p.lists.slices).0 both.0 in
    let told = tells p.picture.head p.picture.decisions levels (record {
      f_codes = head.f_code;
      precision = head.precision;
      size = head.size;
      legal_decisions = legal;
      legal_levels = coded p.picture.head p.picture.decisions p.decoded p.references head.precision legal.size;
    }) p.lists.slices p.picture.decisions p.picture.levels slices same in
    record {
      levels = told.1;
      decisions = ap (settled p.picture.head p.picture.decisions) (sym told.1) ∙ told.0;
    }
