-- The bytes that are read plainly as a slice are its canonical bytes.
use Rattle.std.proofs.Common.{◌≡◌, ◌≢◌, ℕ, zero, suc, ◌+◌, ◌-◌, ◌/◌, ◌%◌, ◌<◌, ◌≤◌, Bool, true, false, cond, eqb, ltb, leb, List, [], ◌∷◌, ◌++◌, length, take, drop, replicate, reverse, refl, ap, sym, ◌∙◌, subst, arith, append_assoc, length-append, Ok}
use Rattle.std.proofs.lemmas.Bool.Decides.{nat_tests}
use Rattle.std.proofs.lemmas.Grind.{reverse_onto}
use Rattle.std.proofs.lemmas.List.{append-nil, append_cancel_right, length-drop, length-replicate, take-append-drop, reverse-reverse}
use Rattle.mv_terms.specs.declared.head.Head.{Head}
use Rattle.mv_bits.specs.Bits.{digits, bits_of}
use Rattle.mv_bits.specs.Elements.{is_start, code, payload}
use Rattle.mv_bits.specs.Runs.{Runs}
use Rattle.mv_bits.specs.Writing.{AreBytes}
use Rattle.mv_bits.proofs.CutLaws.{three}
use Rattle.mv_bits.proofs.PackedLaws.{packed_only}
use Rattle.mv_bits.proofs.WritingLemmas.{bits_of-append}
use Rattle.mv_codes.specs.declared.increment.Increment.TheVariants as increment
use Rattle.mv_codes.specs.Increments.{increment_codes, is_increment}
use Rattle.mv_codes.specs.Spelled.{code_of, same_increment}
use Rattle.mv_codes.proofs.TableFacts.{increments_once, increments_right, increment_number}
use Rattle.mv_codes.proofs.TableLaws.{Spells-test}
use Rattle.mv_codes.proofs.SpelledLaws.{and_true}
use Rattle.mv_codes.proofs.PlaceFacts.{increment_same}
use Rattle.mv_codes.proofs.WrittenLaws.{increments_written}
use Rattle.mv_vectors.proofs.RangeLaws.{read_first, value_is}
use Rattle.mv_macro.specs.Past.{CodedMacroblock, Start, Given, given, decisions_of, is_empty}
use Rattle.mv_macro.specs.Written.{macroblock_bits}
use Rattle.mv_slices.specs.Increment.{StepsEscape, Increment, SkipCount}
use Rattle.mv_slices.specs.Slices.{At, at, SkippedMacroblocks}
use Rattle.mv_slices.specs.Canonical.{escapes_bits, increment_bits, macroblocks_bits, slice_bits, slice_bytes, start_at}
use Rattle.mv_spellings.specs.Front.{first, IsInFront}
use Rattle.mv_spellings.specs.Slices.{PlainSliceHeader, StepsPlainMacroblock, PlainSlice, next_start_code}
use Rattle.mv_spellings.proofs.FrontLaws.{in_front_then, in_front_same, in_front_field, in_front_flag, in_front_code, in_front_none, in_front_rest, rest_is}
use Rattle.mv_spellings.proofs.MacroblockLaws.{macroblock_read, macroblock_starts}

-- ---- increments

escapes_read : (es : List (Unit {0})) (s t : List Bool) → Runs StepsEscape es s t → IsInFront (escapes_bits (length es)) s t
escapes_read [] s t r = in_front_rest [] s s t (sym r) (in_front_none s)
escapes_read (e ∷ es) s t (u, step, later) =
    in_front_then (code_of (same_increment increment.Escape) increment_codes) (escapes_bits (length es)) s u t
    (in_front_code same_increment increment_number increment_codes increments_written increment_same increments_once [] increment.Escape s u step) (escapes_read es u t later)

step_range : (n : ℕ) → is_increment (increment.Step n) ≡ true → (0 < n) × (n ≤ 33)
step_range n e =
    let both = and_true (ltb 0 n) (leb n 33) e in
    (some n both.0, few n both.1)
  where
    some : (n : ℕ) → ltb 0 n ≡ true → 0 < n
    some n e = grind (arith, nat_tests)

    few : (n : ℕ) → leb n 33 ≡ true → n ≤ 33
    few n e = grind (arith, nat_tests)

increment_read : (n : ℕ) (bits rest : List Bool) → Increment bits (Ok (n, rest)) → (0 < n) × IsInFront (increment_bits (n - 1)) bits rest
increment_read n bits rest (es, last, ends, e) =
    let range = step_range last (Spells-test increment_codes is_increment increments_right ends.last (increment.Step last) rest ends.stopped) in
    let some = range.0 in
    let few = range.1 in
    let k : ℕ = length es in
    let whole : (n - 1) / 33 ≡ k = omega (arith, e, some, few) in
    let left : (n - 1) % 33 + 1 ≡ last = omega (arith, e, some, few) in
    let last_code : ℕ → List Bool = λ z. code_of (same_increment (increment.Step z)) increment_codes in
    let same : escapes_bits k ++ last_code last ≡ increment_bits (n - 1) = λ i. escapes_bits (sym whole i) ++ last_code (sym left i) in (
      omega (arith, e, some),
      in_front_same (escapes_bits k ++ last_code last) (increment_bits (n - 1)) bits rest same
          (in_front_then (escapes_bits k) (last_code last) bits ends.last rest (escapes_read es bits ends.last ends.run)
          (in_front_code same_increment increment_number increment_codes increments_written increment_same increments_once [] (increment.Step last) ends.last rest ends.stopped)),
    )

-- ---- macroblocks

-- macroblocks in front of which these were read, the latest first
abbrev pub onto : List CodedMacroblock → List CodedMacroblock → List CodedMacroblock
onto past [] = past
onto past (m ∷ later) = onto (m ∷ past) later

onto_is : (past later : List CodedMacroblock) → onto past later ≡ reverse later ++ past
onto_is past [] = refl
onto_is past (m ∷ later) =
    onto_is (m ∷ past) later ∙ sym (append_assoc (reverse later) (m ∷ []) past) ∙ ap (λ (z : List CodedMacroblock). z ++ past) (sym (reverse_onto later m []))

pub in_order : (slice : List CodedMacroblock) → reverse (onto [] slice) ≡ slice
in_order slice = ap (λ (z : List CodedMacroblock). reverse z) (onto_is [] slice ∙ append-nil (reverse slice)) ∙ reverse-reverse slice

onto-append : (past xs ys : List CodedMacroblock) → onto past (xs ++ ys) ≡ onto (onto past xs) ys
onto-append past [] ys = refl
onto-append past (m ∷ xs) ys = onto-append (m ∷ past) xs ys

-- macroblocks that go on with a slice
abbrev pub GoOn : List CodedMacroblock → Type 0
GoOn [] = Unit {0}
GoOn (m ∷ later) = (m.decision.slice_start ≡ false) × (m.decision.head_scale ≡ 0) × GoOn later

-- macroblocks of a slice behind these, the first of which starts it
abbrev pub IsSliceFrom : ℕ → List CodedMacroblock → List CodedMacroblock → Type 0
IsSliceFrom scale past [] = Unit {0}
IsSliceFrom scale past (m ∷ later) =
    (m.decision.slice_start ≡ is_empty (decisions_of past))
    × (m.decision.head_scale ≡ cond (is_empty (decisions_of past)) scale 0)
    × IsSliceFrom scale (m ∷ past) later

not_nil : (m : CodedMacroblock) (past : List CodedMacroblock) → m ∷ past ≢ []
not_nil m past e = cc

slice_on : (scale : ℕ) (skips past later : List CodedMacroblock) → (past ≡ [] → length skips ≡ 0) → GoOn skips → IsSliceFrom scale (onto past skips) later → IsSliceFrom scale past (skips ++ later)
slice_on scale [] past later some h s = s
slice_on scale (m ∷ skips) [] later some h s = absurd (let none = some refl in omega (arith, none))
slice_on scale (m ∷ skips) (q ∷ past) later some h s = (h.0, h.1, slice_on scale skips (m ∷ q ∷ past) later (λ e. absurd (not_nil m (q ∷ past) e)) h.2 s)

module _ (head : Head) (start : Start) where
  -- how many macroblocks of the row an increment jumps over that says one more
  abbrev jumped_from : List CodedMacroblock → ℕ
  jumped_from [] = start.mb_x
  jumped_from (q ∷ past) = 0

  count_read : (past : List CodedMacroblock) (count : ℕ) (bits rest : List Bool) → SkipCount head (given head start past) bits (Ok (count, rest)) → (past ≡ [] → count ≡ 0) × IsInFront (increment_bits (jumped_from past + count)) bits rest
  count_read [] count bits rest h =
      let n = read_first (count, rest) h in
      let next = read_first (count, rest) n.3 in
      let own = increment_read n.0 bits n.1 n.2 in
      let none : count ≡ 0 = value_is _ _ _ _ next.3 in
      let is = next.2.0 in
      let r = rest_is _ _ _ _ next.3 ∙ next.2.1 in
      let same : n.0 - 1 ≡ start.mb_x + count = omega (arith, none, is) in
      ((λ e. none), in_front_rest (increment_bits (start.mb_x + count)) bits n.1 rest r (in_front_same (increment_bits (n.0 - 1)) (increment_bits (start.mb_x + count)) bits n.1 (ap increment_bits same) own.1))
  count_read (q ∷ past) count bits rest h =
      let n = read_first (count, rest) h in
      let next = read_first (count, rest) n.3 in
      let own = increment_read n.0 bits n.1 n.2 in
      let e : count ≡ n.0 - 1 = value_is _ _ _ _ next.3 in
      let r = rest_is _ _ _ _ next.3 ∙ next.2.1 in
      let same : n.0 - 1 ≡ 0 + count = omega (arith, e) in
      ((λ none. absurd (not_nil q past none)), in_front_rest (increment_bits (0 + count)) bits n.1 rest r (in_front_same (increment_bits (n.0 - 1)) (increment_bits (0 + count)) bits n.1 (ap increment_bits same) own.1))

  -- macroblocks that are skipped have no bits, and are counted by the next increment
  record AreSkipped (count : ℕ) (past now : List CodedMacroblock) (skips : List CodedMacroblock) : Type 0 where
    counted : length skips ≡ count
    ahead : now ≡ onto past skips
    go_on : GoOn skips
    bits : (jumped : ℕ) (later : List CodedMacroblock) → macroblocks_bits head start past jumped (skips ++ later) ≡ macroblocks_bits head start now (jumped + count) later

  skips_read : (count : ℕ) (past now : List CodedMacroblock) (bits rest : List Bool) → SkippedMacroblocks head start count past bits (Ok (now, rest)) → (rest ≡ bits) × ((skips : List CodedMacroblock) × AreSkipped count past now skips)
  unfolding macroblocks_bits
  skips_read zero past now bits rest h =
      let e : now ≡ past = value_is now past rest bits h in
      let same : (jumped : ℕ) (later : List CodedMacroblock) → macroblocks_bits head start past jumped later ≡ macroblocks_bits head start now (jumped + 0) later =
      λ jumped later. (let none : jumped ≡ jumped + 0 = omega arith in λ i. macroblocks_bits head start (sym e i) (none i) later) in
      (rest_is now past rest bits h, ([], record { counted = refl; ahead = e; go_on = tt; bits = same }))
  skips_read (suc count) past now bits rest h =
      let s = read_first (now, rest) h in
      let allowed = read_first (s.0, s.1) s.2 in
      let right = read_first (s.0, s.1) allowed.3 in
      let m : CodedMacroblock = s.0 in
      let e = value_is _ _ _ _ right.3 in
      let r = rest_is _ _ _ _ right.3 ∙ right.2.1 ∙ allowed.2.1 in
      let skip : m.decision.skipped ≡ true = ap (λ (z : CodedMacroblock). z.decision.skipped) e in
      let more = skips_read count (m ∷ past) now s.1 rest s.3 in
      let later_skips : List CodedMacroblock = more.1.0 in
      let is = more.1.1 in
      let g : Given = given head start past in
      let same : (jumped : ℕ) (later : List CodedMacroblock) → macroblocks_bits head start past jumped (m ∷ (later_skips ++ later)) ≡ macroblocks_bits head start now (jumped + suc count) later =
      λ jumped later. (
      let sum : jumped + 1 + count ≡ jumped + suc count = omega arith in
      ap (λ (t : Bool). cond t [] (increment_bits jumped ++ macroblock_bits head g m) ++ macroblocks_bits head start (m ∷ past) (cond t (jumped + 1) 0) (later_skips ++ later)) skip
      ∙ is.bits (jumped + 1) later ∙ ap (λ (z : ℕ). macroblocks_bits head start now z later) sum
      ) in (
        more.0 ∙ r,
        (
          m ∷ later_skips,
          record {
            counted = ap suc is.counted;
            ahead = is.ahead;
            go_on = (ap (λ (z : CodedMacroblock). z.decision.slice_start) e, ap (λ (z : CodedMacroblock). z.decision.head_scale) e, is.go_on);
            bits = same;
          },
        ),
      )

  -- what is read of a slice from there on
  record IsRead (s t : At) (later : List CodedMacroblock) : Type 0 where
    ahead : t.past ≡ onto s.past later
    slice : IsSliceFrom start.scale s.past later
    own : IsInFront (macroblocks_bits head start s.past (jumped_from s.past) later) s.bits t.bits

  given_scale : (past : List CodedMacroblock) (n : ℕ) → n ≡ cond (given head start past).first (given head start past).scale 0 → n ≡ cond (is_empty (decisions_of past)) start.scale 0
  given_scale [] n e = e
  given_scale (q ∷ past) n e = e

  coded_bits : (past : List CodedMacroblock) (jumped : ℕ) (m : CodedMacroblock) (later : List CodedMacroblock) → m.decision.skipped ≡ false
      → macroblocks_bits head start past jumped (m ∷ later) ≡ (increment_bits jumped ++ macroblock_bits head (given head start past) m) ++ macroblocks_bits head start (m ∷ past) 0 later
  unfolding macroblocks_bits
  coded_bits past jumped m later e =
      ap (λ (t : Bool). cond t [] (increment_bits jumped ++ macroblock_bits head (given head start past) m) ++ macroblocks_bits head start (m ∷ past) (cond t (jumped + 1) 0) later) e

  one_read : (s u t : At) (later : List CodedMacroblock) → StepsPlainMacroblock head start s tt u → IsRead u t later → (more : List CodedMacroblock) × IsRead s t more
  one_read s u t later step is =
      let count = read_first (u.past, u.bits) step.reads in
      let now = read_first (u.past, u.bits) count.3 in
      let m = read_first (u.past, u.bits) now.3 in
      let past_is : u.past ≡ m.0 ∷ now.0 = value_is _ _ _ _ m.3 in
      let bits_are : u.bits ≡ m.1 = rest_is _ _ _ _ m.3 in
      let jump = count_read s.past count.0 s.bits count.1 count.2 in
      let skip = skips_read count.0 s.past now.0 count.1 now.1 now.2 in
      let skips : List CodedMacroblock = skip.1.0 in
      let skipped_are = skip.1.1 in
      let g : Given = given head start now.0 in
      let own = macroblock_read head g m.0 now.1 m.1 m.2 in
      let facts = macroblock_starts head g m.0 now.1 m.1 m.2 in
      let jumped : ℕ = jumped_from s.past + count.0 in
      let increment = in_front_rest (increment_bits jumped) s.bits count.1 now.1 skip.0 jump.1 in
      let both = in_front_then (increment_bits jumped) (macroblock_bits head g m.0) s.bits now.1 m.1 increment own in
      let behind = subst (λ (z : List CodedMacroblock). IsInFront (macroblocks_bits head start z (jumped_from z) later) u.bits t.bits) past_is is.own in
      let placed = subst (λ (z : List Bool). IsInFront (macroblocks_bits head start (m.0 ∷ now.0) 0 later) z t.bits) bits_are behind in
      let whole = in_front_then (increment_bits jumped ++ macroblock_bits head g m.0) (macroblocks_bits head start (m.0 ∷ now.0) 0 later) s.bits m.1 t.bits both placed in
      let same = skipped_are.bits (jumped_from s.past) (m.0 ∷ later) ∙ coded_bits now.0 jumped m.0 later facts.0 in
      let slice_behind = subst (λ (z : List CodedMacroblock). IsSliceFrom start.scale z later) past_is is.slice in
      let slice_here : IsSliceFrom start.scale now.0 (m.0 ∷ later) = (facts.1, given_scale now.0 m.0.decision.head_scale facts.2, slice_behind) in
      let slice_there = subst (λ (z : List CodedMacroblock). IsSliceFrom start.scale z (m.0 ∷ later)) skipped_are.ahead slice_here in (
        skips ++ (m.0 ∷ later),
        record {
          ahead = is.ahead ∙ ap (λ (z : List CodedMacroblock). onto z later) past_is ∙ ap (λ (z : List CodedMacroblock). onto z (m.0 ∷ later)) skipped_are.ahead ∙ sym (onto-append s.past skips (m.0 ∷ later));
          slice = slice_on start.scale skips s.past (m.0 ∷ later) (λ none. skipped_are.counted ∙ jump.0 none) skipped_are.go_on slice_there;
          own = in_front_same ((increment_bits jumped ++ macroblock_bits head g m.0) ++ macroblocks_bits head start (m.0 ∷ now.0) 0 later) (macroblocks_bits head start s.past (jumped_from s.past) (skips ++ (m.0 ∷ later))) s.bits t.bits (sym same) whole;
        },
      )

  none_read : (s : At) → IsRead s s []
  unfolding macroblocks_bits
  none_read s = record { ahead = refl; slice = tt; own = in_front_none s.bits }

  runs_read : (steps : List (Unit {0})) (s t : At) → Runs (StepsPlainMacroblock head start) steps s t → (later : List CodedMacroblock) × IsRead s t later
  runs_read [] s t r = ([], subst (λ (z : At). IsRead s z []) r (none_read s))
  runs_read (step ∷ steps) s t (u, one, more) = let later = runs_read steps u t more in one_read s u t later.0 one later.1

-- ---- the bytes of a slice

first_within : (n : ℕ) (bits behind : List Bool) → n ≤ length bits → first n (bits ++ behind) ≡ take n bits
unfolding first
first_within zero bits behind h = refl
first_within (suc n) [] behind h = absurd (omega (arith, h))
first_within (suc n) (b ∷ bits) behind h = ap (λ (z : List Bool). b ∷ z) (first_within n bits behind (omega (arith, h)))

drop_within : (n : ℕ) (bits behind : List Bool) → n ≤ length bits → drop n (bits ++ behind) ≡ drop n bits ++ behind
drop_within zero bits behind h = refl
drop_within (suc n) [] behind h = absurd (omega (arith, h))
drop_within (suc n) (b ∷ bits) behind h = drop_within n bits behind (omega (arith, h))

-- in front of what stands behind both
exact : (own bits behind : List Bool) (padding : ℕ) → 0 < length behind → IsInFront own (bits ++ behind) (replicate padding false ++ behind) → bits ≡ own ++ replicate padding false
exact own bits behind padding some h =
    let n : ℕ = length own in
    let left = ap (λ (z : List Bool). length z) h.behind in
    let a = length-append (replicate padding false) behind in
    let b = length-replicate padding false in
    let c = length-append bits behind in
    let d = length-drop n (bits ++ behind) in
    let inside : n ≤ length bits = omega (arith, left, a, b, c, d, some) in
    let begins = sym (first_within n bits behind inside) ∙ h.begins in
    let ends = append_cancel_right (drop n bits) (replicate padding false) behind (sym (drop_within n bits behind inside) ∙ sym h.behind) in
    sym (take-append-drop n bits) ∙ (λ i. begins i ++ ends i)

some_bits : 0 < length (bits_of next_start_code)
unfolding bits_of digits
some_bits = omega arith

bytes_drop : (n : ℕ) (bytes : List ℕ) → AreBytes bytes → AreBytes (drop n bytes)
bytes_drop zero bytes h = h
bytes_drop (suc n) [] h = tt
bytes_drop (suc n) (b ∷ bytes) h = bytes_drop n bytes h.1

code_there : (bytes : List ℕ) (row : ℕ) → code (0 ∷ 0 ∷ 1 ∷ bytes) ≡ row + 1 → 0 ∷ 0 ∷ 1 ∷ bytes ≡ 0 ∷ 0 ∷ 1 ∷ (row + 1) ∷ payload (0 ∷ 0 ∷ 1 ∷ bytes)
code_there [] row e = absurd (let none : 0 ≡ row + 1 = e in omega (arith, none))
code_there (c ∷ bytes) row e = ap (λ (z : ℕ). 0 ∷ 0 ∷ 1 ∷ z ∷ bytes) e

element_is : (element : List ℕ) (row : ℕ) → is_start element ≡ true → code element ≡ row + 1 → element ≡ 0 ∷ 0 ∷ 1 ∷ (row + 1) ∷ payload element
element_is element row starts e =
    let three_is = three element starts in
    three_is ∙ code_there (drop 3 element) row (ap code (sym three_is) ∙ e) ∙ ap (λ (z : List ℕ). 0 ∷ 0 ∷ 1 ∷ (row + 1) ∷ payload z) (sym three_is)

header_read : (scale : ℕ) (bits rest : List Bool) → PlainSliceHeader bits (Ok (scale, rest)) → IsInFront (digits 5 scale ++ (false ∷ [])) bits rest
header_read scale bits rest h =
    let number = read_first (scale, rest) h in
    let extra = read_first (scale, rest) number.3 in
    let plain = read_first (scale, rest) extra.3 in
    let e = value_is _ _ _ _ plain.3 in
    let r = rest_is _ _ _ _ plain.3 ∙ plain.2.1 in
    let none = sym extra.2.0 ∙ plain.2.0 in
    in_front_then (digits 5 scale) (false ∷ []) bits number.1 rest (in_front_field 5 scale bits number.1 (e ∙ number.2.0) number.2.1)
    (in_front_flag false number.1 rest (sym (ap (λ (n : ℕ). eqb n 1) none)) (r ∙ extra.2.1))

-- a slice that is read: its first macroblock starts it, no other one does, and the bytes are its canonical ones
pub record IsSlice (head : Head) (covered : ℕ) (element : List ℕ) (past slice : List CodedMacroblock) : Type 0 where
  pub ahead : past ≡ onto [] slice
  pub scale : ℕ
  pub slice_from : IsSliceFrom scale [] slice
  pub some : slice ≢ []
  pub bytes : element ≡ slice_bytes head covered slice

same_start : (head : Head) (covered scale : ℕ) (slice : List CodedMacroblock) → slice ≢ [] → IsSliceFrom scale [] slice → start_at head covered slice ≡ record { scale = scale; mb_x = covered % head.mb_wide; mb_y = covered / head.mb_wide }
same_start head covered scale [] some h = absurd (some refl)
same_start head covered scale (m ∷ later) some h = λ i. record { scale = h.1 i; mb_x = covered % head.mb_wide; mb_y = covered / head.mb_wide }

some_read : (slice past : List CodedMacroblock) → past ≡ onto [] slice → past ≢ [] → slice ≢ []
some_read slice past e some none = some (e ∙ ap (onto []) none)

pub slice_read : (head : Head) (covered : ℕ) (element : List ℕ) (past : List CodedMacroblock) → is_start element ≡ true → AreBytes element → PlainSlice head covered element past → (slice : List CodedMacroblock) × IsSlice head covered element past slice
slice_read head covered element past starts are (scale, behind, code_is, header, (steps, ends)) =
    let start : Start = record { scale = scale; mb_x = covered % head.mb_wide; mb_y = covered / head.mb_wide } in
    let run = runs_read head start steps (at [] behind) ends.last ends.run in
    let slice : List CodedMacroblock = run.0 in
    let is = run.1 in
    let stopped = ends.stopped in
    let padding : ℕ = stopped.0 in
    let bytes : List ℕ = payload element in
    let ahead : past ≡ onto [] slice = stopped.4 ∙ is.ahead in
    let some : slice ≢ [] = some_read slice ends.last.past is.ahead stopped.3 in
    let body : List Bool = macroblocks_bits head start [] start.mb_x slice in
    let all_bits = in_front_then (digits 5 scale ++ (false ∷ [])) body (bits_of (bytes ++ next_start_code)) behind ends.last.bits (header_read scale _ behind header) is.own in
    let own = in_front_same ((digits 5 scale ++ (false ∷ [])) ++ body) (slice_bits head start slice) (bits_of (bytes ++ next_start_code)) ends.last.bits (append_assoc (digits 5 scale) (false ∷ []) body) all_bits in
    let placed = subst (λ (z : Start). IsInFront (slice_bits head z slice) (bits_of (bytes ++ next_start_code)) ends.last.bits) (sym (same_start head covered scale slice some is.slice)) own in
    let bits : List Bool = slice_bits head (start_at head covered slice) slice in
    let split = subst (λ (z : List Bool). IsInFront bits z ends.last.bits) (bits_of-append bytes next_start_code) placed in
    let told = subst (λ (z : List Bool). IsInFront bits (bits_of bytes ++ bits_of next_start_code) z) stopped.2 split in
    let same = packed_only bytes bits padding (bytes_drop 4 element are) stopped.1 (exact bits (bits_of bytes) (bits_of next_start_code) padding some_bits told) in (
      slice,
      record {
        ahead = ahead;
        scale = scale;
        slice_from = is.slice;
        some = some;
        bytes = element_is element (covered / head.mb_wide) starts code_is ∙ ap (λ (z : List ℕ). 0 ∷ 0 ∷ 1 ∷ (covered / head.mb_wide + 1) ∷ z) same;
      },
    )
