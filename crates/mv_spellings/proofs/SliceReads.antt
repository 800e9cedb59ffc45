-- Slices are read plainly from their canonical bytes.
use Rattle.std.proofs.Common.{◌≡◌, ◌≢◌, ℕ, zero, suc, ◌+◌, ◌-◌, ◌*◌, ◌/◌, ◌%◌, ◌<◌, ◌≤◌, Bool, true, false, cond, List, [], ◌∷◌, ◌++◌, length, replicate, reverse, refl, ap, sym, ◌∙◌, subst, arith, inl, inr, append_assoc, length-append, Result, Ok}
use Rattle.std.proofs.lemmas.List.{append-nil}
use Rattle.mv_terms.specs.declared.status.Why.{Why}
use Rattle.mv_terms.specs.declared.status.Why.TheVariants.{BadSlice}
use Rattle.mv_terms.specs.declared.head.Head.{Head}
use Rattle.mv_terms.specs.Ranges.{IsScaleCode}
use Rattle.mv_bits.specs.Bits.{digits, bits_of, trim}
use Rattle.mv_bits.specs.Elements.{cut}
use Rattle.mv_bits.specs.Packed.{packed}
use Rattle.mv_bits.specs.Readings.{Field, Demands}
use Rattle.mv_bits.specs.Runs.{Ends}
use Rattle.mv_bits.proofs.PackedLaws.{bits_of-packed, fill, fill_few}
use Rattle.mv_bits.proofs.ReadingLaws.{ok_same, ok_not_err}
use Rattle.mv_bits.proofs.RunLaws.{Ends-cons, Ends-none}
use Rattle.mv_bits.proofs.WritingLemmas.{bits_of-append}
use Rattle.mv_codes.specs.declared.increment.Increment.{Increment as Jump}
use Rattle.mv_codes.specs.declared.increment.Increment.TheVariants.{Step, Escape}
use Rattle.mv_codes.specs.Tables.{Spells}
use Rattle.mv_codes.specs.Increments.{increment_codes}
use Rattle.mv_codes.specs.Spelled.{code_of, has_code, same_increment}
use Rattle.mv_codes.proofs.TableFacts.{increments_sized}
use Rattle.mv_codes.proofs.PlaceFacts.{increment_same}
use Rattle.mv_codes.proofs.SpelledLaws.{all_below, each_below}
use Rattle.mv_macro.specs.Past.{CodedMacroblock, Start, Given, given}
use Rattle.mv_macro.specs.Macroblocks.{Skipped}
use Rattle.mv_macro.specs.Written.{macroblock_bits, IsWrittenAs, AreWritten, CanBeWrittenAs, CanAllBeWritten}
use Rattle.mv_slices.specs.Increment.{StepsEscape, StopsIncrement, EndsIncrement, Increment, SkipCount}
use Rattle.mv_slices.specs.Slices.{at, SkippedMacroblocks}
use Rattle.mv_slices.specs.Canonical.{escapes_bits, increment_bits, macroblocks_bits, slice_bits, slice_bytes, head_scale, start_at, all_of}
use Rattle.mv_slices.specs.CanonicalLaws.{in_front_of}
use Rattle.mv_spellings.specs.Macroblocks.{PlainMacroblock}
use Rattle.mv_spellings.specs.Slices.{PlainSliceHeader, PlainNextMacroblock, StepsPlainMacroblock, next_start_code, StopsPlainSlice, PlainSlice, PlainSlicesFrom}
use Rattle.mv_spellings.proofs.ReadLaws.{Reads, reads_gives, reads_then, reads_second, reads_field, reads_demand, reads_code, reads_last}
use Rattle.mv_spellings.proofs.MacroblockReads.{macroblock_reads}
use Rattle.mv_spellings.proofs.SliceLaws.{onto, in_order}

-- ---- increments

abbrev code : Jump → List Bool
code element = code_of (same_increment element) increment_codes

steps_have : all_below (λ n. has_code (same_increment (Step (n + 1))) increment_codes) 33 ≡ true
unfolding increment_codes
steps_have = refl

escape_has : has_code (same_increment Escape) increment_codes ≡ true
unfolding increment_codes
escape_has = refl

code_reads : (element : Jump) (rest : List Bool) → has_code (same_increment element) increment_codes ≡ true → Spells increment_codes (code element ++ rest) element rest
code_reads element rest has = (reads_code same_increment increment_codes BadSlice increment_same increments_sized [] element has).read rest

step_reads : (m : ℕ) (rest : List Bool) → m < 33 → Spells increment_codes (code (Step (m + 1)) ++ rest) (Step (m + 1)) rest
step_reads m rest h = code_reads (Step (m + 1)) rest (each_below (λ n. has_code (same_increment (Step (n + 1))) increment_codes) 33 m steps_have h)

times : ℕ → List (Unit {0})
times zero = []
times (suc n) = tt ∷ times n

length-times : (n : ℕ) → length (times n) ≡ n
unfolding times
length-times zero = refl
length-times (suc n) = ap suc (length-times n)

-- one escape more in front
escape_first : (n m : ℕ) (rest : List Bool) → (escapes_bits (suc n) ++ code (Step (m + 1))) ++ rest ≡ code Escape ++ ((escapes_bits n ++ code (Step (m + 1))) ++ rest)
escape_first n m rest =
    ap (λ (z : List Bool). z ++ rest) (append_assoc (code Escape) (escapes_bits n) (code (Step (m + 1)))) ∙ append_assoc (code Escape) (escapes_bits n ++ code (Step (m + 1))) rest

ends_reads : (n m : ℕ) (rest : List Bool) → m < 33 → EndsIncrement ((escapes_bits n ++ code (Step (m + 1))) ++ rest) (times n) (Ok (m + 1, rest))
unfolding times
ends_reads zero m rest h = Ends-none StepsEscape StopsIncrement _ (Ok (m + 1, rest)) (step_reads m rest h)
ends_reads (suc n) m rest h =
    let more : List Bool = (escapes_bits n ++ code (Step (m + 1))) ++ rest in
    subst (λ (z : List Bool). EndsIncrement z (tt ∷ times n) (Ok (m + 1, rest))) (sym (escape_first n m rest))
    (Ends-cons StepsEscape StopsIncrement tt (times n) (code Escape ++ more) more (Ok (m + 1, rest)) (code_reads Escape more escape_has) (ends_reads n m rest h))

increment_reads : (jumped : ℕ) (rest : List Bool) → Increment (increment_bits jumped ++ rest) (Ok (jumped + 1, rest))
increment_reads jumped rest =
    let small : jumped % 33 < 33 = omega arith in
    let whole : jumped + 1 ≡ 33 * length (times (jumped / 33)) + (jumped % 33 + 1) = rw (length-times (jumped / 33)) (omega arith) in
    (times (jumped / 33), jumped % 33 + 1, ends_reads (jumped / 33) (jumped % 33) rest small, whole)

-- ---- macroblocks

past_same : (p q : List CodedMacroblock) (r s : List Bool) → ◌≡◌ {A = Result (List CodedMacroblock × List Bool) Why} (Ok (p, r)) (Ok (q, s)) → (p ≡ q) × (r ≡ s)
past_same p q r s e = let f = ok_same _ _ e in (ap (λ (z : List CodedMacroblock × List Bool). z.0) f, ap (λ (z : List CodedMacroblock × List Bool). z.1) f)

not_nil : (m : CodedMacroblock) (past : List CodedMacroblock) → m ∷ past ≢ []
not_nil m past e = cc

-- a macroblock that is read plainly from its canonical bits, or is what an increment that jumps over it says
abbrev pub IsReadAs : Bool → Head → Given → CodedMacroblock → Type 0
IsReadAs true head g m = (bits : List Bool) → Skipped head g bits (Ok (m, bits))
IsReadAs false head g m = Reads (PlainMacroblock head g) m (macroblock_bits head g m)

abbrev pub AreReadable : Head → Start → List CodedMacroblock → List CodedMacroblock → Type 0
AreReadable head start past [] = Unit {0}
AreReadable head start past (m ∷ later) = IsReadAs m.decision.skipped head (given head start past) m × AreReadable head start (m ∷ past) later

one_readable : (t : Bool) (head : Head) (g : Given) (m : CodedMacroblock) → IsWrittenAs t head g m → CanBeWrittenAs t head g m → IsReadAs t head g m
one_readable true head g m w can = w
one_readable false head g m w can = macroblock_reads head g m (trim (macroblock_bits head g m ++ [])) (trim []) can (w.reads.back [])

-- macroblocks that are read back and can be written
pub all_readable : (head : Head) (start : Start) (past later : List CodedMacroblock) → AreWritten head start past later → CanAllBeWritten head start past later → AreReadable head start past later
unfolding AreWritten CanAllBeWritten
all_readable head start past [] w can = tt
all_readable head start past (m ∷ later) w can =
    (one_readable m.decision.skipped head (given head start past) m w.0 can.0, all_readable head start (m ∷ past) later w.1 can.1)

-- the last of these macroblocks is skipped, or that before them
abbrev pub ends_skipped : Bool → List CodedMacroblock → Bool
ends_skipped before [] = before
ends_skipped before (m ∷ later) = ends_skipped m.decision.skipped later

abbrev bits_by : Bool → ℕ → List Bool → (ℕ → List Bool) → List Bool
bits_by skipped n bits later = cond skipped [] (increment_bits n ++ bits) ++ later (cond skipped (n + 1) 0)

module _ (head : Head) (start : Start) where
  -- one skipped macroblock more behind others
  skip_more : (n : ℕ) (past : List CodedMacroblock) (bits : List Bool) (now : List CodedMacroblock) (rest : List Bool) (m : CodedMacroblock) (more : List Bool)
      → SkippedMacroblocks head start n past bits (Ok (now, rest)) → Skipped head (given head start now) rest (Ok (m, more)) → SkippedMacroblocks head start (suc n) past bits (Ok (m ∷ now, more))
  skip_more zero past bits now rest m more s h =
      let e = past_same now past rest bits s in
      inl (
        m,
        more,
        subst (λ (p : List CodedMacroblock). Skipped head (given head start p) bits (Ok (m, more))) e.0 (subst (λ (r : List Bool). Skipped head (given head start now) r (Ok (m, more))) e.1 h),
        ap (λ (p : List CodedMacroblock). let r : Result (List CodedMacroblock × List Bool) Why = Ok (m ∷ p, more) in r) e.0,
      )
  skip_more (suc n) past bits now rest m more (inl (v, r, f, g)) h = inl (v, r, f, skip_more n (v ∷ past) r now rest m more g h)
  skip_more (suc n) past bits now rest m more (inr (why, f, e)) h = absurd (ok_not_err _ _ e)

  -- so many macroblocks are skipped behind these, whatever the bits are
  abbrev SkipsTo : List CodedMacroblock → ℕ → List CodedMacroblock → Type 0
  SkipsTo past n now = (bits : List Bool) → SkippedMacroblocks head start n past bits (Ok (now, bits))

  -- an increment jumps over so many macroblocks behind these
  abbrev Jumps : List CodedMacroblock → ℕ → ℕ → Type 0
  Jumps past jumped n = (rest : List Bool) → SkipCount head (given head start past) (increment_bits jumped ++ rest) (Ok (n, rest))

  jumps_first : Jumps [] start.mb_x 0
  jumps_first rest =
      let e : start.mb_x + 1 ≡ start.mb_x + 0 + 1 = omega arith in
      inl (start.mb_x + 1, rest, increment_reads start.mb_x rest, inl (tt, rest, (e, refl), refl))

  jumps_later : (q : CodedMacroblock) (past : List CodedMacroblock) (n : ℕ) → start.mb_x + length (q ∷ past) + (n + 1) ≤ head.mb_wide → Jumps (q ∷ past) n n
  jumps_later q past n h rest =
      let one : n ≡ n + 1 - 1 = omega arith in
      let same : ◌≡◌ {A = Result (ℕ × List Bool) Why} (Ok (n, rest)) (Ok (n + 1 - 1, rest)) = ap (λ (z : ℕ). let r : Result (ℕ × List Bool) Why = Ok (z, rest) in r) one in
      inl (n + 1, rest, increment_reads n rest, inl (tt, rest, (h, refl), same))

  -- an increment, the macroblocks that it jumps over and one behind them
  next_reads : (past : List CodedMacroblock) (jumped n : ℕ) (now : List CodedMacroblock) (m : CodedMacroblock) (rest : List Bool)
      → Jumps past jumped n → SkipsTo past n now → Reads (PlainMacroblock head (given head start now)) m (macroblock_bits head (given head start now) m)
      → PlainNextMacroblock head start past (increment_bits jumped ++ (macroblock_bits head (given head start now) m ++ rest)) (Ok (m ∷ now, rest))
  next_reads past jumped n now m rest jumps skips own =
      let more : List Bool = macroblock_bits head (given head start now) m ++ rest in
      inl (n, more, jumps more, inl (now, more, skips more, inl (m, rest, own.read rest, refl)))

  module _ (padding : ℕ) (few : padding < 8) where
    -- what stands behind the macroblocks
    abbrev behind : List Bool
    behind = replicate padding false ++ bits_of next_start_code

    abbrev ReadsFrom : List CodedMacroblock → List Bool → List CodedMacroblock → Type 0
    ReadsFrom past bits all = (steps : List (Unit {0})) × Ends (StepsPlainMacroblock head start) StopsPlainSlice (at past (bits ++ behind)) steps all

    -- a macroblock that isn't skipped, where those behind it are read
    one_reads : (past : List CodedMacroblock) (jumped n : ℕ) (now : List CodedMacroblock) (m : CodedMacroblock) (later : List Bool) (all : List CodedMacroblock)
        → Jumps past jumped n → SkipsTo past n now → Reads (PlainMacroblock head (given head start now)) m (macroblock_bits head (given head start now) m)
        → ReadsFrom (m ∷ now) later all → ReadsFrom past ((increment_bits jumped ++ macroblock_bits head (given head start now) m) ++ later) all
    one_reads past jumped n now m later all jumps skips own f =
        let bits : List Bool = macroblock_bits head (given head start now) m in
        let rest : List Bool = later ++ behind in
        let e : ((increment_bits jumped ++ bits) ++ later) ++ behind ≡ increment_bits jumped ++ (bits ++ rest) =
        append_assoc (increment_bits jumped ++ bits) later behind ∙ append_assoc (increment_bits jumped) bits rest in
        let whole : List Bool = increment_bits jumped ++ (bits ++ rest) in (
          tt ∷ f.0,
          subst (λ (z : List Bool). Ends (StepsPlainMacroblock head start) StopsPlainSlice (at past z) (tt ∷ f.0) all) (sym e)
              (Ends-cons (StepsPlainMacroblock head start) StopsPlainSlice tt f.0 (at past whole) (at (m ∷ now) rest) all
              (record { reads = next_reads past jumped n now m rest jumps skips own }) f.1),
        )

    -- one macroblock more behind the first, skipped or not
    one_more : (q : CodedMacroblock) (past : List CodedMacroblock) (n : ℕ) (now : List CodedMacroblock) (m : CodedMacroblock) (later : ℕ → List Bool) (all : List CodedMacroblock) (skipped : Bool)
        → IsReadAs skipped head (given head start now) m → SkipsTo (q ∷ past) n now → start.mb_x + length (q ∷ past) + (n + 1) ≤ head.mb_wide
        → (skipped ≡ true → SkipsTo (q ∷ past) (n + 1) (m ∷ now) → ReadsFrom (q ∷ past) (later (n + 1)) all)
        → (skipped ≡ false → ReadsFrom (m ∷ now) (later 0) all)
        → ReadsFrom (q ∷ past) (bits_by skipped n (macroblock_bits head (given head start now) m) later) all
    one_more q past n now m later all true own skips inside jump go =
        let one : suc n ≡ n + 1 = omega arith in
        jump refl (λ bits. subst (λ (z : ℕ). SkippedMacroblocks head start z (q ∷ past) bits (Ok (m ∷ now, bits))) one (skip_more n (q ∷ past) bits now bits m bits (skips bits) (own bits)))
    one_more q past n now m later all false own skips inside jump go = one_reads (q ∷ past) n n now m (later 0) all (jumps_later q past n inside) skips own (go refl)

    at_end : (q : CodedMacroblock) (past now : List CodedMacroblock) (n : ℕ) → n ≡ 0 → SkipsTo (q ∷ past) n now → ReadsFrom (q ∷ past) [] now
    at_end q past now n empty skips =
        let same = (past_same now (q ∷ past) [] [] (subst (λ (z : ℕ). SkippedMacroblocks head start z (q ∷ past) [] (Ok (now, []))) empty (skips []))).0 in
        ([], Ends-none (StepsPlainMacroblock head start) StopsPlainSlice (at (q ∷ past) behind) now (padding, few, refl, not_nil q past, same))

    later_reads : (later : List CodedMacroblock) (q : CodedMacroblock) (past now : List CodedMacroblock) (n : ℕ) (before : Bool) → SkipsTo (q ∷ past) n now → length now ≡ n + length (q ∷ past) → (before ≡ false → n ≡ 0)
        → start.mb_x + length now + length later ≤ head.mb_wide → ends_skipped before later ≡ false → AreReadable head start now later
        → ReadsFrom (q ∷ past) (macroblocks_bits head start now n later) (onto now later)
    unfolding macroblocks_bits
    later_reads [] q past now n before skips len none inside last own = at_end q past now n (none last) skips
    later_reads (m ∷ later) q past now n before skips len none inside last own =
        one_more q past n now m (λ j. macroblocks_bits head start (m ∷ now) j later) (onto (m ∷ now) later) m.decision.skipped own.0 skips (omega (arith, len, inside))
        (λ jumped more. later_reads later q past (m ∷ now) (n + 1) m.decision.skipped more (omega (arith, len)) (λ sent_one. absurd (let f : true ≡ false = sym jumped ∙ sent_one in cc)) (omega (arith, inside)) last own.1)
        (λ sent_one. later_reads later m now (m ∷ now) 0 m.decision.skipped (λ bits. refl) (omega arith) (λ e. refl) (omega (arith, inside)) last own.1)

    first_reads : (m : CodedMacroblock) (later : ℕ → List Bool) (all : List CodedMacroblock) (skipped : Bool) → skipped ≡ false → IsReadAs skipped head (given head start []) m
        → ReadsFrom (m ∷ []) (later 0) all → ReadsFrom [] (bits_by skipped start.mb_x (macroblock_bits head (given head start []) m) later) all
    first_reads m later all true e own f = absurd (let wrong : true ≡ false = e in cc)
    first_reads m later all false e own f = one_reads [] start.mb_x 0 [] m (later 0) all jumps_first (λ bits. refl) own f

    -- the macroblocks of a slice
    macroblocks_reads : (m : CodedMacroblock) (later : List CodedMacroblock) → m.decision.skipped ≡ false → start.mb_x + length (m ∷ later) ≤ head.mb_wide → ends_skipped true (m ∷ later) ≡ false → AreReadable head start [] (m ∷ later)
        → ReadsFrom [] (macroblocks_bits head start [] start.mb_x (m ∷ later)) (onto [] (m ∷ later))
    unfolding macroblocks_bits
    macroblocks_reads m later first inside last own =
        first_reads m (λ j. macroblocks_bits head start (m ∷ []) j later) (onto [] (m ∷ later)) m.decision.skipped first own.0
        (later_reads later m [] (m ∷ []) 0 m.decision.skipped (λ bits. refl) (omega arith) (λ e. refl) (omega (arith, inside)) last own.1)

-- ---- a slice

abbrev pub starts_skipped : List CodedMacroblock → Bool
starts_skipped [] = true
starts_skipped (m ∷ later) = m.decision.skipped

-- what the bytes of a slice need of it to be read plainly
pub record IsReadable (head : Head) (covered : ℕ) (slice : List CodedMacroblock) : Type 0 where
  pub in_row : covered % head.mb_wide + length slice ≤ head.mb_wide
  pub in_picture : covered / head.mb_wide < head.mb_high
  pub scale : IsScaleCode (head_scale slice)
  pub first : starts_skipped slice ≡ false
  pub last : ends_skipped true slice ≡ false
  pub readable : AreReadable head (start_at head covered slice) [] slice

one_digit : digits 1 0 ≡ false ∷ []
unfolding digits
one_digit = refl

header_reads : (scale : ℕ) → IsScaleCode scale → Reads PlainSliceHeader scale (digits 5 scale ++ (false ∷ []))
header_reads scale legal =
    let few = legal.1 in
    reads_then (Field 5) _ scale scale (digits 5 scale) (false ∷ []) (reads_field 5 scale (omega (arith, few)))
    (reads_last (Field 1) _ 0 scale (false ∷ []) (subst (λ (z : List Bool). Reads (Field 1) 0 z) one_digit (reads_field 1 0 (omega arith)))
    (reads_second (Demands (0 ≡ 0) BadSlice) _ tt scale [] (reads_demand (0 ≡ 0) BadSlice refl) (reads_gives scale scale refl)))

module _ (head : Head) where
  abbrev bits_at : ℕ → List CodedMacroblock → List Bool
  bits_at covered slice = slice_bits head (start_at head covered slice) slice

  -- the bits of a slice in front of the next start code
  whole_bits : (covered : ℕ) (slice : List CodedMacroblock) → bits_of (packed (bits_at covered slice) ++ next_start_code) ≡ bits_at covered slice ++ (replicate (fill (bits_at covered slice)) false ++ bits_of next_start_code)
  whole_bits covered slice =
      let bits : List Bool = bits_at covered slice in
      bits_of-append (packed bits) next_start_code ∙ ap (λ (z : List Bool). z ++ bits_of next_start_code) (bits_of-packed bits)
      ∙ append_assoc bits (replicate (fill bits) false) (bits_of next_start_code)

  pub slice_reads : (covered : ℕ) (slice : List CodedMacroblock) → IsReadable head covered slice → PlainSlice head covered (slice_bytes head covered slice) (onto [] slice)
  slice_reads covered [] s = absurd (let wrong : true ≡ false = s.first in cc)
  slice_reads covered (m ∷ later) s =
      let slice : List CodedMacroblock = m ∷ later in
      let start : Start = start_at head covered slice in
      let bits : List Bool = bits_at covered slice in
      let padding : ℕ = fill bits in
      let body : List Bool = macroblocks_bits head start [] start.mb_x slice in
      let rest : List Bool = replicate padding false ++ bits_of next_start_code in
      let whole : bits_of (packed bits ++ next_start_code) ≡ (digits 5 start.scale ++ (false ∷ [])) ++ (body ++ rest) =
      whole_bits covered slice ∙ append_assoc (digits 5 start.scale) (false ∷ body) rest ∙ sym (append_assoc (digits 5 start.scale) (false ∷ []) (body ++ rest)) in
      let header = subst (λ (z : List Bool). PlainSliceHeader z (Ok (start.scale, body ++ rest))) (sym whole) ((header_reads start.scale s.scale).read (body ++ rest)) in
      let macroblocks = macroblocks_reads head start padding (fill_few bits) m later s.first s.in_row s.last s.readable in
      (start.scale, body ++ rest, refl, header, macroblocks)

  -- ---- slices

  abbrev pub AreReadableSlices : ℕ → List (List CodedMacroblock) → Type 0
  AreReadableSlices covered [] = Unit {0}
  AreReadableSlices covered (slice ∷ slices) = IsReadable head covered slice × AreReadableSlices (covered + length slice) slices

  pub none_in_front : (covered : ℕ) (slices : List (List CodedMacroblock)) → (in_front_of (cut []) head covered slices).front ≡ []
  unfolding cut
  none_in_front covered [] = refl
  none_in_front covered (slice ∷ slices) = refl

  pub slices_reads : (slices : List (List CodedMacroblock)) (covered : List CodedMacroblock) → AreReadableSlices (length covered) slices
      → PlainSlicesFrom head covered (in_front_of (cut []) head (length covered) slices).elements (covered ++ all_of slices)
  unfolding cut
  slices_reads [] covered h = append-nil covered
  slices_reads (slice ∷ slices) covered h =
      let n : ℕ = length covered in
      let alone : slice_bytes head n slice ≡ slice_bytes head n slice ++ (in_front_of (cut []) head (n + length slice) slices).front =
      sym (append-nil (slice_bytes head n slice)) ∙ ap (λ (z : List ℕ). slice_bytes head n slice ++ z) (sym (none_in_front (n + length slice) slices)) in
      let one = subst (λ (z : List ℕ). PlainSlice head n z (onto [] slice)) alone (slice_reads n slice h.0) in
      let more : List CodedMacroblock = covered ++ slice in
      let len : length more ≡ n + length slice = length-append covered slice in
      let later = slices_reads slices more (subst (λ (z : ℕ). AreReadableSlices z slices) (sym len) h.1) in
      let placed = subst (λ (z : ℕ). PlainSlicesFrom head more (in_front_of (cut []) head z slices).elements (more ++ all_of slices)) len later in
      let turned = subst (λ (z : List CodedMacroblock). PlainSlicesFrom head (covered ++ z) (in_front_of (cut []) head (n + length slice) slices).elements (more ++ all_of slices)) (sym (in_order slice)) placed in
      let whole = subst (λ (z : List CodedMacroblock). PlainSlicesFrom head (covered ++ reverse (onto [] slice)) (in_front_of (cut []) head (n + length slice) slices).elements z) (append_assoc covered slice (all_of slices)) turned in
      (onto [] slice, one, whole)
