-- What is found in the frame of a unit behind others.
use Rattle.std.proofs.Common.{◌≡◌, ℕ, ◌+◌, ◌-◌, ◌*◌, ◌/◌, ◌%◌, ◌≤◌, Bool, true, false, not, leb, List, ◌∷◌, length, map, drop, Option, None, Some, Ok, refl, sym, ap, ◌∙◌, subst, arith}
use Rattle.std.specs.Prelude.{IfSome, unwrap_or}
use Rattle.std.specs.List.{range_with_len}
use Rattle.std.proofs.lemmas.Bool.{and_parts, leb-true, false≢true}
use Rattle.std.proofs.lemmas.List.{length-map}
use Rattle.std.proofs.lemmas.List.FromFn.{length-range_with_len}
use Rattle.sha2.specs.Sha256.{sha256}
use Rattle.sha2.proofs.Facts256.{length-sha256}
use Rattle.mv_terms.specs.CodedPicture.{frame_macroblocks}
use Rattle.mv_terms.specs.Ranges.{IsHead}
use Rattle.mv_terms.specs.UnitLists.{UnitLists}
use Rattle.mv_terms.specs.declared.head.PicType.TheVariants as pic
use Rattle.mv_terms.specs.declared.head.Context.{Context}
use Rattle.mv_terms.specs.declared.head.Head.{Head}
use Rattle.mv_bits.specs.Elements.{cut}
use Rattle.mv_bits.specs.Writing.{AreBytes}
use Rattle.mv_heads.specs.declared.sequence_header.CodedSize.{CodedSize}
use Rattle.mv_heads.specs.HeadElements.{context_of, extends, head_of, sequence_bytes}
use Rattle.mv_heads.specs.HeadsInTurn.{context_bytes}
use Rattle.mv_macro.specs.Legal.{AreLegalDecisions}
use Rattle.mv_slices.specs.Slices.{CodedIsLegal, Slices}
use Rattle.mv_planes.specs.Planes.{IsWhole}
use Rattle.mv_planes.proofs.RasterLaws.{whole_picture}
use Rattle.mv_predict.specs.Blocks.{HasSizeOf}
use Rattle.mv_recon.specs.Pictures.{picture_with, prediction_from, sample_at}
use Rattle.mv_units.specs.Profile.{CodedUnit, heads_in}
use Rattle.mv_decode.specs.Accepted.{AreAcceptedUnits, place_behind}
use Rattle.rec_sheet.specs.Sheets.{FitsPlaces}
use Rattle.rec_bury.specs.Buried.{frame_of}
use Rattle.rec_bury.specs.Exhumed.{byte_in, sheet_in, slots_in}
use Rattle.rec_bury.specs.Laws.{SealIsOfZeros}
use Rattle.rec_bury.specs.Seals.{SealHolds, seal_of}
use Rattle.rec_legal.specs.Conditions.{CanBeB, HasHeaders, HasLegalFlags, IsSaid}
use Rattle.rec_legal.specs.Found.{IsFound, found}
use Rattle.rec_legal.specs.Laws.{FoundIsFound, UnrecordedHasNone}
use Rattle.cert_picture.specs.Records.{FrameParts, frame_by, frame_samples, frame_seal, frame_with, is_recordable, longest_part, most_zeros, no_seal, sheet_lists, slots_of, zeros_behind_end}
use Rattle.cert_picture.specs.RecordLaws.{AreDecoded, HasRecord, IsLink, RecordComesBack, sheet_found}
use Rattle.cert_picture.specs.FrameFileOf.{UnitFrame, frame_behind, frames_of, parts_behind}
use Rattle.cert_picture.proofs.RecordLemmas.{all_of_frame}
use Rattle.cert_picture.proofs.SealedLemmas.{front_of, no_record, seal_by, sheet_ends}
use Rattle.cert_picture.proofs.SheetLemmas.{front_long}
use Rattle.cert_found.specs.RecordLaw.{OthersHaveNone, RecordIsFound, has_record, record_behind}
use Rattle.cert_found.proofs.RangeLaws.{context_range, head_range}
use Rattle.cert_found.proofs.HeadLaws.{HasHeads}
use Rattle.cert_found.proofs.HeldLaws.{legal_are_held}
use Rattle.cert_found.proofs.HistoryLaws.{bytes_of, context_is_bytes, context_reads, frame_lists, heads_behind_others, lists_of, no_bytes, own_part, prefix_shape}
use Rattle.cert_found.proofs.LinkLaws.{has_links, legal_flags}

-- ---- what fits a sheet

pub record FitsSheet (p : FrameParts) : Type 0 where
  pub plain : p.extended ≡ false
  pub context : length p.context ≤ longest_part
  pub prefix : length p.lists.prefix ≤ longest_part
  pub head : length p.lists.head ≤ longest_part
  pub n1 : p.lists.zeros ≤ most_zeros
  pub n2 : zeros_behind_end p.lists ≤ most_zeros
  pub room : 118 + length p.context + length p.lists.prefix + length p.lists.head ≤ 12 * frame_macroblocks p.picture.head

not_true : (b : Bool) → not b ≡ true → b ≡ false
not_true false e = refl
not_true true e = absurd (false≢true e)

fits_sheet : (p : FrameParts) → is_recordable p ≡ true → FitsSheet p
fits_sheet p is =
    let a6 = and_parts _ (leb (118 + length p.context + length p.lists.prefix + length p.lists.head) (12 * frame_macroblocks p.picture.head)) is in
    let a5 = and_parts _ (leb (zeros_behind_end p.lists) most_zeros) a6.0 in
    let a4 = and_parts _ (leb p.lists.zeros most_zeros) a5.0 in
    let a3 = and_parts _ (leb (length p.lists.head) longest_part) a4.0 in
    let a2 = and_parts _ (leb (length p.lists.prefix) longest_part) a3.0 in
    let a1 = and_parts (not p.extended) (leb (length p.context) longest_part) a2.0 in
    record {
      plain = not_true p.extended a1.0;
      context = leb-true _ _ a1.1;
      prefix = leb-true _ _ a2.1;
      head = leb-true _ _ a3.1;
      n1 = leb-true _ _ a4.1;
      n2 = leb-true _ _ a5.1;
      room = leb-true _ _ a6.1;
    }

-- ---- the seal at the end of the sheet

link_long : (link : Option (List ℕ)) → IfSome link IsLink → length (unwrap_or link no_seal) ≡ 32
link_long None is = refl
link_long (Some bytes) is = is.size

sheet_long : (wide high : ℕ) (frame : List ℕ) → length (sheet_in wide high frame) ≡ 12 * (wide * high)
unfolding sheet_in
sheet_long wide high frame = length-map (range_with_len 0 (12 * (wide * high))) (λ (i : ℕ). byte_in wide high frame (i / 12) (20 + i % 12)) ∙ length-range_with_len 0 (12 * (wide * high))

own_seal : SealIsOfZeros → (p : FrameParts) → is_recordable p ≡ true → length (front_of p) + 32 ≡ 12 * (p.decoded.mb_wide * p.decoded.mb_high)
    → seal_of p.decoded.mb_wide p.decoded.mb_high (frame_samples p) ≡ unwrap_or (frame_seal p) no_seal
unfolding frame_seal
own_seal digest p recordable all =
    let slots = slots_of p.picture.decisions in
    let seal : List ℕ = sha256 (frame_with p no_seal) in
    let whole : frame_samples p ≡ frame_with p seal = ap (λ (r : Bool). frame_by p (seal_by p r)) recordable in
    ap (seal_of p.decoded.mb_wide p.decoded.mb_high) (whole ∙ ap (frame_of p.decoded slots) (sheet_ends p seal))
    ∙ digest p.decoded slots (front_of p) seal all (length-sha256 (frame_with p no_seal))
    ∙ ap (λ (bytes : List ℕ). sha256 (frame_of p.decoded slots bytes)) (sym (sheet_ends p no_seal))
    ∙ sym (ap (λ (r : Bool). unwrap_or (seal_by p r) no_seal) recordable)

fits_places : (p : FrameParts) → AreDecoded p → FitsSheet p → (sheet_lists p).flags ≤ 31 → FitsPlaces (sheet_lists p)
fits_places p made r few = record {
  flags = omega (arith, few);
  forward = link_long p.forward made.forward;
  backward = link_long p.backward made.backward;
  n1 = let a = r.n1 in omega (arith, a);
  n2 = let a = r.n2 in omega (arith, a);
  context = let a = r.context in omega (arith, a);
  prefix = let a = r.prefix in omega (arith, a);
  head = let a = r.head in omega (arith, a);
}

-- ---- a unit behind others

module _ (legal : CodedIsLegal) (u : CodedUnit) (before : List CodedUnit) (are : AreAcceptedUnits (u ∷ before)) where
  abbrev p : FrameParts
  p = parts_behind (frames_of before) u

  abbrev size : CodedSize
  size = u.accepted.heads.first

  abbrev context : Context
  context = u.accepted.heads.context

  heads : HasHeads (heads_in before) u.lists u.accepted
  heads = heads_behind_others u before are

  same_head : u.picture.head ≡ u.accepted.head
  same_head = are.1.accepts.head

  whole : IsWhole p.decoded
  unfolding picture_with
  whole = whole_picture u.picture.head.mb_wide u.picture.head.mb_high (sample_at (prediction_from p.references u.picture) u.picture)

  has_size : HasSizeOf u.picture.head p.decoded
  unfolding picture_with
  has_size = record { wide = refl; high = refl }

  wide_is : p.decoded.mb_wide ≡ size.mb_wide
  wide_is = has_size.wide ∙ ap (λ (h : Head). h.mb_wide) same_head ∙ heads.wide ∙ ap (λ (s : CodedSize). s.mb_wide) heads.plain.size

  high_is : p.decoded.mb_high ≡ size.mb_high
  high_is = has_size.high ∙ ap (λ (h : Head). h.mb_high) same_head ∙ heads.high ∙ ap (λ (s : CodedSize). s.mb_high) heads.plain.size

  samples_are : (frame_behind (frames_of before) u).samples ≡ frame_samples p
  unfolding frame_behind
  samples_are = refl

  -- a unit without a record
  pub none_is_found : UnrecordedHasNone → has_record before u ≡ false → found size (frame_behind (frames_of before) u).samples ≡ None
  none_is_found none other =
      ap (found size) (samples_are ∙ ap (frame_by p) (sym (no_record p other)))
      ∙ none size p.decoded whole (sym wide_is) (sym high_is)

  -- a unit with a record
  module _ (recorded : has_record before u ≡ true) where
    fits : FitsSheet p
    fits = fits_sheet p recorded

    same_context : p.context ≡ context_bytes (lists_of (u ∷ before))
    same_context = ap (λ (ls : List UnitLists). context_bytes (u.lists ∷ ls)) (frame_lists before)

    reads_context : context_of (cut p.context) ≡ Ok context
    reads_context = ap (λ (bytes : List ℕ). context_of (cut bytes)) same_context ∙ context_reads u before are

    reads_head : head_of context (cut u.lists.head) ≡ Ok u.picture.head
    reads_head = (heads.alone fits.plain).reads ∙ ap (λ (h : Head). Ok h) (sym same_head)

    no_extension : extends (cut u.lists.head).elements ≡ false
    no_extension = (heads.alone fits.plain).not_extended

    is_head : IsHead u.picture.head
    is_head = head_range context (cut u.lists.head) u.picture.head (context_range (cut p.context) context reads_context)
        (ap (λ (h : Head). h.mb_wide) same_head ∙ heads.wide, ap (λ (h : Head). h.mb_high) same_head ∙ heads.high)
        no_extension reads_head

    are_legal : AreLegalDecisions u.picture.head u.picture.decisions
    are_legal = (legal u.picture.head u.lists.slices u.picture.decisions u.picture.levels is_head.precision
        (subst (λ (h : Head). Slices h u.lists.slices u.picture.decisions u.picture.levels) (sym same_head) are.1.accepts.slices)).0

    made : AreDecoded p
    made =
        let links = has_links u before in
        record {
          head = is_head;
          decisions = are_legal;
          whole = whole;
          size = has_size;
          context_bytes = subst AreBytes (sym same_context) (context_is_bytes (u ∷ before) are);
          prefix_bytes = bytes_of u.lists.prefix are.1.bytes.prefix;
          head_bytes = bytes_of u.lists.head are.1.bytes.head;
          forward = links.forward;
          backward = links.backward;
        }

    comes_as_b : u.picture.head.pic ≡ pic.B → CanBeB (sheet_lists p) context
    comes_as_b b =
        let own = ap (λ (h : Head). h.pic) (sym same_head) ∙ b in
        record { no_part = no_bytes u.lists.prefix (heads.no_part own); delay = heads.delay own }

    has_headers : HasHeaders size (sheet_lists p) context u.picture.head
    unfolding context_bytes
    has_headers = record {
      context_reads = reads_context;
      same_size = heads.plain.size;
      prefix = record {
        shape = prefix_shape (place_behind before) u.lists.prefix are.1.shape.prefix;
        same = own_part (sequence_bytes u.lists.prefix) (context_bytes (map (λ (f : UnitFrame). f.unit.lists) (frames_of before)));
      };
      head_reads = reads_head;
      not_extended = no_extension;
      same_type = refl;
      b = comes_as_b;
    }

    module _ (digest : SealIsOfZeros) (back : RecordComesBack) where
      has : HasRecord p
      has = back p made recorded

      flags : HasLegalFlags (sheet_lists p) p.picture.decisions
      flags = legal_flags u before are fits.n1 fits.n2

      same_area : p.decoded.mb_wide * p.decoded.mb_high ≡ frame_macroblocks p.picture.head
      same_area = ap (λ (n : ℕ). n * p.decoded.mb_high) has_size.wide ∙ ap (λ (n : ℕ). p.picture.head.mb_wide * n) has_size.high
          ∙ sym (all_of_frame p.picture.head is_head.frame)

      front_is_long : length (front_of p) + 32 ≡ 12 * (p.decoded.mb_wide * p.decoded.mb_high)
      front_is_long =
          let r = fits.room in
          let few = flags.known in
          front_long (sheet_lists p) (12 * frame_macroblocks p.picture.head) (fits_places p made fits (omega (arith, few))) (omega (arith, r))
          ∙ ap (λ (n : ℕ). 12 * n) (sym same_area)

      seal_is : drop (length (sheet_found p) - 32) (sheet_found p) ≡ unwrap_or (frame_seal p) no_seal
      seal_is =
          ap (λ (n : ℕ). drop (n - 32) (sheet_found p)) (sheet_long p.decoded.mb_wide p.decoded.mb_high (frame_samples p))
          ∙ has.seal
          ∙ own_seal digest p recorded front_is_long

      is_said : IsSaid size (slots_in p.decoded.mb_wide p.decoded.mb_high (frame_samples p)) (sheet_found p) (record_behind before u)
      is_said = record {
        sheet_is = has.sheet;
        seal_is = seal_is;
        headers = has_headers;
        slots_are = record { held = legal_are_held u.picture.head u.picture.decisions is_head.f_code are_legal.each; bytes = sym has.slots };
        flags = flags;
        legal = are_legal;
      }

      found_in : (wide high : ℕ) → wide ≡ size.mb_wide → high ≡ size.mb_high → (frame : List ℕ)
          → SealHolds wide high frame → IsSaid size (slots_in wide high frame) (sheet_in wide high frame) (record_behind before u)
          → IsFound size frame (record_behind before u)
      found_in wide high w h frame seal said = record {
        seal = subst (λ (n : ℕ). SealHolds size.mb_wide n frame) h (subst (λ (n : ℕ). SealHolds n high frame) w seal);
        is_said = subst (λ (n : ℕ). IsSaid size (slots_in size.mb_wide n frame) (sheet_in size.mb_wide n frame) (record_behind before u)) h
            (subst (λ (n : ℕ). IsSaid size (slots_in n high frame) (sheet_in n high frame) (record_behind before u)) w said);
      }

      pub is_found : IsFound size (frame_behind (frames_of before) u).samples (record_behind before u)
      is_found = subst (λ (frame : List ℕ). IsFound size frame (record_behind before u)) (sym samples_are)
          (found_in p.decoded.mb_wide p.decoded.mb_high wide_is high_is (frame_samples p) has.seal is_said)

-- ---- the laws

pub record_is_found : CodedIsLegal → SealIsOfZeros → RecordComesBack → FoundIsFound → RecordIsFound
record_is_found legal digest back law u before are recorded =
    (law u.accepted.heads.first (frame_behind (frames_of before) u).samples (record_behind before u)).1 (is_found legal u before are recorded digest back)

pub others_have_none : CodedIsLegal → UnrecordedHasNone → OthersHaveNone
others_have_none legal none u before are other = none_is_found legal u before are none other
