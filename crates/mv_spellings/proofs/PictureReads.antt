-- The canonical slices of a picture are plain.
use Rattle.std.proofs.Common.{◌≡◌, ℕ, ◌+◌, ◌<◌, ◌≤◌, Bool, true, false, List, [], ◌∷◌, ◌++◌, length, refl, ap, sym, ◌∙◌, subst, arith}
use Rattle.std.proofs.lemmas.List.{append-nil}
use Rattle.mv_terms.specs.declared.head.Head.{Head}
use Rattle.mv_terms.specs.Ranges.{HasLegalFCodes, IsScaleCode}
use Rattle.mv_bits.specs.Elements.{cut, Cut}
use Rattle.mv_bits.specs.Writing.{AreBytes}
use Rattle.mv_bits.specs.Zeros.{zero_bytes}
use Rattle.mv_bits.proofs.PackedLaws.{packed_are_bytes, without_last_zeros_twice, without_last_zeros_bytes}
use Rattle.mv_bits.proofs.WritingLemmas.{AreBytes-append}
use Rattle.mv_macro.specs.Past.{CodedMacroblock, Start}
use Rattle.mv_macro.specs.Settled.{settled_from}
use Rattle.mv_macro.specs.Legal.{IsHeadScale}
use Rattle.mv_macro.specs.Written.{AreLegalInSlice, is_first_skipped, is_last_skipped, StartsWith}
use Rattle.mv_macro.proofs.KeptLemmas.{settled_keep_slices}
use Rattle.mv_macro.proofs.SliceLaws.{settled_are_written, settled_can_be_written}
use Rattle.mv_slices.specs.Slices.{Slices}
use Rattle.mv_slices.specs.Canonical.{slice_bits, slice_bytes, slices_bytes, head_scale, paired, in_slices, all_of, start_at, settled_slices, settled_picture, settled, canonical_slices, canonical_tail}
use Rattle.mv_slices.specs.CanonicalLaws.{OfLegalPictures, IsLegalSlice, AreLegalSlices, in_front_of}
use Rattle.mv_slices.proofs.CanonicalLaws.{are_read_back, are_cut_again}
use Rattle.mv_slices.proofs.LegalSlices.{has_legal_slices, same_length, settled_length}
use Rattle.mv_spellings.specs.Slices.{PlainSlicesFrom}
use Rattle.mv_spellings.specs.Laws.{AreCanonicalSlicesPlain}
use Rattle.mv_spellings.proofs.SliceReads.{all_readable, ends_skipped, starts_skipped, IsReadable, AreReadableSlices, none_in_front, slices_reads, AreReadable}
use Rattle.mv_spellings.proofs.PictureLaws.{levels_stay}

-- ---- settled slices

last_skipped : (m : CodedMacroblock) (later : List CodedMacroblock) → is_last_skipped (m ∷ later) ≡ ends_skipped m.decision.skipped later
last_skipped m [] = refl
last_skipped m (n ∷ later) = last_skipped n later

module _ (head : Head) (codes : HasLegalFCodes head) (small : head.dc_precision ≤ 3) where
  same_start : (covered : ℕ) (slice : List CodedMacroblock) → start_at head covered (settled_from head (start_at head covered slice) [] slice) ≡ start_at head covered slice
  unfolding settled_from
  same_start covered [] = refl
  same_start covered (m ∷ later) = refl

  -- a slice of settled macroblocks, of which there is one
  some_ends : (slice settled : List CodedMacroblock) → length settled ≡ length slice → 0 < length slice → is_first_skipped settled ≡ false → is_last_skipped settled ≡ false → (starts_skipped settled ≡ false) × (ends_skipped true settled ≡ false)
  some_ends slice [] e some first last = absurd (omega (arith, e, some))
  some_ends slice (m ∷ later) e some first last = (first, sym (last_skipped m later) ∙ last)

  scale_legal : (start : Bool) (scale : ℕ) → start ≡ true → IsHeadScale start scale → IsScaleCode scale
  scale_legal true scale e h = h
  scale_legal false scale e h = absurd (let wrong : false ≡ true = e in cc)

  settled_scale : (covered : ℕ) (slice : List CodedMacroblock) → IsLegalSlice head covered slice → IsScaleCode (head_scale (settled_from head (start_at head covered slice) [] slice))
  unfolding settled_from AreLegalInSlice
  settled_scale covered [] h = absurd (let some = h.not_empty in omega (arith, some))
  settled_scale covered (m ∷ later) h = let legal = h.legal.0 in scale_legal m.decision.slice_start m.decision.head_scale legal.start legal.head_scale

  starts_with : (covered : ℕ) (slice : List CodedMacroblock) → StartsWith (start_at head covered slice) slice
  starts_with covered [] = tt
  starts_with covered (m ∷ later) = refl

  readable : (covered : ℕ) (slice : List CodedMacroblock) → IsLegalSlice head covered slice → IsReadable head covered (settled_from head (start_at head covered slice) [] slice)
  readable covered slice h =
      let start : Start = start_at head covered slice in
      let now : List CodedMacroblock = settled_from head start [] slice in
      let len = settled_length head start [] slice in
      let in_row = h.in_row in
      let begins = starts_with covered slice in
      let written = settled_are_written head start slice codes small h.in_row h.in_picture begins h.legal in
      let can = settled_can_be_written head start slice codes small h.in_row h.in_picture begins h.legal in
      let kept = settled_keep_slices head start slice codes small h.in_row h.in_picture begins h.legal in
      let ends = some_ends slice now len h.not_empty kept.first_sent kept.last_sent in
      let same = sym (same_start covered slice) in
      record {
        in_row = omega (arith, in_row, len);
        in_picture = h.in_picture;
        scale = settled_scale covered slice h;
        first = ends.0;
        last = ends.1;
        readable = subst (λ (z : Start). AreReadable head z [] now) same (all_readable head start [] now written can);
      }

  all_slices : (covered : ℕ) (slices : List (List CodedMacroblock)) → AreLegalSlices head covered slices → AreReadableSlices head covered (settled_slices head covered slices)
  unfolding settled_slices
  all_slices covered [] h = tt
  all_slices covered (slice ∷ slices) h =
      let len = settled_length head (start_at head covered slice) [] slice in
      (readable covered slice h.0, subst (λ (n : ℕ). AreReadableSlices head (covered + n) (settled_slices head (covered + length slice) slices)) (sym len) (all_slices (covered + length slice) slices h.1))

-- ---- their bytes

slices_are_bytes : (head : Head) (covered : ℕ) (slices : List (List CodedMacroblock)) → head.mb_high ≤ 72 → AreReadableSlices head covered slices → AreBytes (slices_bytes head covered slices)
unfolding slices_bytes
slices_are_bytes head covered [] high h = tt
slices_are_bytes head covered (slice ∷ slices) high h =
    let row = h.0.in_picture in
    let bits : List Bool = slice_bits head (start_at head covered slice) slice in
    AreBytes-append (slice_bytes head covered slice) (slices_bytes head (covered + length slice) slices)
    (omega arith, (omega arith, (omega arith, (omega (arith, row, high), packed_are_bytes bits)))) (slices_are_bytes head (covered + length slice) slices high h.1)

pub canonical_are_plain : OfLegalPictures AreCanonicalSlicesPlain
canonical_are_plain head decisions levels legal =
    let own : List (List CodedMacroblock) = settled_picture head decisions levels in
    let canonical : List ℕ = canonical_slices head decisions levels in
    let tail : ℕ = canonical_tail head decisions levels in
    let readable_all = all_slices head legal.f_codes legal.precision 0 (in_slices (paired decisions levels)) (has_legal_slices head decisions levels legal) in
    let there : cut (canonical ++ zero_bytes tail) ≡ in_front_of (cut []) head 0 own =
    ap (λ (z : List ℕ). cut (canonical ++ z)) (sym (append-nil (zero_bytes tail))) ∙ are_cut_again head decisions levels legal [] refl refl in
    let read = slices_reads head own [] readable_all in
    record {
      are_bytes = without_last_zeros_bytes (slices_bytes head 0 own) (slices_are_bytes head 0 own legal.size.high readable_all);
      coded = subst (λ (z : List ℕ). Slices head z (settled head decisions levels) levels) (append-nil canonical) (are_read_back head decisions levels legal 0);
      ends = without_last_zeros_twice (slices_bytes head 0 own);
      dropped = tail;
      all = all_of own;
      nothing_in_front = ap (λ (z : Cut). z.front) there ∙ none_in_front head 0 own;
      plain = subst (λ (z : Cut). PlainSlicesFrom head [] z.elements (all_of own)) (sym there) read;
      decisions_are = refl;
      levels_are = sym (levels_stay head decisions levels (same_length head decisions levels legal));
    }
