-- The canonical slices of a picture are the only bytes that are plain.
use Rattle.std.proofs.Common.{◌≡◌, ◌≢◌, ℕ, zero, suc, ◌+◌, Bool, true, false, cond, List, [], ◌∷◌, ◌++◌, length, drop, reverse, refl, ap, sym, ◌∙◌, subst, arith, append_assoc, length-append}
use Rattle.std.proofs.lemmas.Bool.{cases_Bool}
use Rattle.std.proofs.Common.{inl, inr}
use Rattle.std.proofs.lemmas.List.{append-nil, map-append}
use Rattle.std.specs.List.{concat}
use Rattle.mv_terms.specs.declared.head.Head.{Head}
use Rattle.mv_terms.specs.declared.macroblock.Decision.{Decision}
use Rattle.mv_terms.specs.declared.macroblock.MacroLevels.{MacroLevels}
use Rattle.mv_bits.specs.Elements.{is_start, cut, Cut}
use Rattle.mv_bits.specs.Packed.{without_last_zeros}
use Rattle.mv_bits.specs.Writing.{AreBytes}
use Rattle.mv_bits.specs.Zeros.{zero_bytes}
use Rattle.mv_bits.proofs.CutLaws.{cut_unstarted, cut_started, started_cut, three, cut_whole}
use Rattle.mv_bits.proofs.PackedLaws.{without_last_zeros-append}
use Rattle.mv_bits.proofs.WritingLemmas.{AreBytes-append}
use Rattle.mv_macro.specs.Past.{CodedMacroblock, Start, given, decisions_of, levels_of}
use Rattle.mv_macro.specs.Settled.{is_nothing, settled_macroblock, settled_from}
use Rattle.mv_macro.specs.Written.{AreLegalInSlice}
use Rattle.mv_slices.specs.Canonical.{slice_bytes, slices_bytes, paired, starts_slice, joined_to, in_slices, all_of, start_at, settled_slices, settled_picture}
use Rattle.mv_slices.specs.CanonicalLaws.{OfLegalPictures, AreLegalSlices}
use Rattle.mv_slices.proofs.LegalSlices.{has_legal_slices, all_in_slices, levels_paired, same_length}
use Rattle.mv_spellings.specs.Slices.{PlainSlicesFrom}
use Rattle.mv_spellings.specs.Laws.{NoOthersArePlain}
use Rattle.mv_spellings.proofs.SliceLaws.{in_order, IsSliceFrom, slice_read}

-- ---- elements of a cut

abbrev AreStarts : List (List ℕ) → Type 0
AreStarts [] = Unit {0}
AreStarts (element ∷ elements) = (is_start element ≡ true) × AreStarts elements

start_there : (bytes : List ℕ) → is_start (0 ∷ 0 ∷ 1 ∷ bytes) ≡ true
start_there bytes = refl

same_first : (x y : List ℕ) (xs ys : List (List ℕ)) → x ∷ xs ≡ y ∷ ys → x ≡ y
same_first x y xs ys e = cc

pub elements_start : (bytes : List ℕ) → AreStarts (cut bytes).elements
unfolding cut
elements_start [] = tt
elements_start (b ∷ bytes) =
    let later = elements_start bytes in
    elim (cases_Bool (is_start (b ∷ bytes))) [
      | inl starts ↦
          let here = ap (λ (z : Cut). z.elements) (cut_started b bytes starts) in
          let shape = three (b ∷ bytes) starts in
          let there = ap (λ (z : List ℕ). (cut z).elements) shape ∙ ap (λ (z : Cut). z.elements) (started_cut (drop 3 (b ∷ bytes))) in
          let same = same_first _ _ _ _ (sym here ∙ there) in
          subst AreStarts (sym here) (subst (λ (z : List ℕ). is_start z ≡ true) (sym same) (start_there (cut (drop 3 (b ∷ bytes))).front), later)
      | inr other ↦ subst AreStarts (sym (ap (λ (z : Cut). z.elements) (cut_unstarted b bytes other))) later
    ]

bytes_split : (xs ys : List ℕ) → AreBytes (xs ++ ys) → AreBytes xs × AreBytes ys
bytes_split [] ys h = (tt, h)
bytes_split (x ∷ xs) ys h = let later = bytes_split xs ys h.1 in ((h.0, later.0), later.1)

zeros_are_bytes : (n : ℕ) → AreBytes (zero_bytes n)
zeros_are_bytes zero = tt
zeros_are_bytes (suc n) = (omega arith, zeros_are_bytes n)

-- ---- macroblocks in slices

paired_again : (ms : List CodedMacroblock) → paired (decisions_of ms) (levels_of ms) ≡ ms
unfolding paired
paired_again [] = refl
paired_again (m ∷ later) = ap (λ (z : List CodedMacroblock). m ∷ z) (paired_again later)

-- no macroblock of these starts a slice
abbrev GoOn : List CodedMacroblock → Type 0
GoOn [] = Unit {0}
GoOn (m ∷ later) = (m.decision.slice_start ≡ false) × GoOn later

-- slices of which each starts with its first macroblock, and only there
abbrev AreApart : List (List CodedMacroblock) → Type 0
AreApart [] = Unit {0}
AreApart ([] ∷ slices) = ⊥
AreApart ((m ∷ later) ∷ slices) = (m.decision.slice_start ≡ true) × GoOn later × AreApart slices

abbrev begin : List (List CodedMacroblock) → Bool
begin [] = true
begin (slice ∷ slices) = starts_slice slice

apart_begin : (slices : List (List CodedMacroblock)) → AreApart slices → begin slices ≡ true
apart_begin [] h = refl
apart_begin ([] ∷ slices) h = absurd h
apart_begin ((m ∷ later) ∷ slices) h = h.0

joined_apart : (m : CodedMacroblock) (slices : List (List CodedMacroblock)) → begin slices ≡ true → joined_to m slices ≡ (m ∷ []) ∷ slices
joined_apart m [] e = refl
joined_apart m (slice ∷ slices) e = rw e refl

-- macroblocks of a slice in front of slices
first_apart : (m : CodedMacroblock) (later : List CodedMacroblock) (slices : List (List CodedMacroblock)) → GoOn later → begin slices ≡ true → in_slices (all_of slices) ≡ slices → in_slices (m ∷ (later ++ all_of slices)) ≡ (m ∷ later) ∷ slices
unfolding in_slices
first_apart m [] slices h e same = ap (joined_to m) same ∙ joined_apart m slices e
first_apart m (n ∷ later) slices h e same = ap (joined_to m) (first_apart n later slices h.1 e same) ∙ go n.decision.slice_start h.0 where
  go : (t : Bool) → t ≡ false → cond t ((m ∷ []) ∷ (n ∷ later) ∷ slices) ((m ∷ n ∷ later) ∷ slices) ≡ (m ∷ n ∷ later) ∷ slices
  go true f = absurd (let wrong : true ≡ false = f in cc)
  go false f = refl

slices_again : (slices : List (List CodedMacroblock)) → AreApart slices → in_slices (all_of slices) ≡ slices
unfolding in_slices
slices_again [] h = refl
slices_again ([] ∷ slices) h = absurd h
slices_again ((m ∷ later) ∷ slices) h = first_apart m later slices h.1 (apart_begin slices h.2) (slices_again slices h.2)

slice_goes_on : (scale : ℕ) (q : CodedMacroblock) (past later : List CodedMacroblock) → IsSliceFrom scale (q ∷ past) later → GoOn later
slice_goes_on scale q past [] h = tt
slice_goes_on scale q past (m ∷ later) h = (h.0, slice_goes_on scale m (q ∷ past) later h.2)

slice_apart : (scale : ℕ) (slice : List CodedMacroblock) (slices : List (List CodedMacroblock)) → slice ≢ [] → IsSliceFrom scale [] slice → AreApart slices → AreApart (slice ∷ slices)
slice_apart scale [] slices some h apart = absurd (some refl)
slice_apart scale (m ∷ later) slices some h apart = (h.0, slice_goes_on scale m [] later h.2, apart)

-- ---- slices that are read

record AreSlices (head : Head) (covered all : List CodedMacroblock) (elements : List (List ℕ)) (slices : List (List CodedMacroblock)) : Type 0 where
  macroblocks : all ≡ covered ++ all_of slices
  apart : AreApart slices
  bytes : concat elements ≡ slices_bytes head (length covered) slices

slices_read : (head : Head) (elements : List (List ℕ)) (covered all : List CodedMacroblock) → AreStarts elements → AreBytes (concat elements) → PlainSlicesFrom head covered elements all → (slices : List (List CodedMacroblock)) × AreSlices head covered all elements slices
unfolding slices_bytes
slices_read head [] covered all starts are h = ([], record { macroblocks = h ∙ sym (append-nil covered); apart = tt; bytes = refl })
slices_read head (element ∷ elements) covered all starts are h =
    let past : List CodedMacroblock = h.0 in
    let split = bytes_split element (concat elements) are in
    let one = slice_read head (length covered) element past starts.0 split.0 h.1 in
    let slice : List CodedMacroblock = one.0 in
    let is = one.1 in
    let turned : reverse past ≡ slice = ap (λ (z : List CodedMacroblock). reverse z) is.ahead ∙ in_order slice in
    let more : List CodedMacroblock = covered ++ slice in
    let later = slices_read head elements more all starts.1 split.1 (subst (λ (z : List CodedMacroblock). PlainSlicesFrom head (covered ++ z) elements all) turned h.2) in
    let slices : List (List CodedMacroblock) = later.0 in
    let behind = later.1 in (
      slice ∷ slices,
      record {
        macroblocks = behind.macroblocks ∙ append_assoc covered slice (all_of slices);
        apart = slice_apart is.scale slice slices is.some is.slice_from behind.apart;
        bytes = ap (λ (z : List ℕ). z ++ concat elements) is.bytes
            ∙ ap (λ (z : List ℕ). slice_bytes head (length covered) slice ++ z) (behind.bytes ∙ ap (λ (n : ℕ). slices_bytes head n slices) (length-append covered slice));
      },
    )

-- ---- settled slices

module _ (head : Head) where
  settled_goes_on : (start : Start) (mb_x mb_y : ℕ) (before : Decision) (so_far : List Decision) (past slice : List CodedMacroblock) → AreLegalInSlice head mb_x mb_y (before ∷ so_far) slice → GoOn (settled_from head start past slice)
  unfolding settled_from AreLegalInSlice
  settled_goes_on start mb_x mb_y before so_far past [] h = tt
  settled_goes_on start mb_x mb_y before so_far past (m ∷ later) h =
      (h.0.start, settled_goes_on start (mb_x + 1) mb_y m.decision (before ∷ so_far) (settled_macroblock head (given head start past) (is_nothing later) m ∷ past) later h.2)

  settled_apart : (covered : ℕ) (slices : List (List CodedMacroblock)) → AreLegalSlices head covered slices → AreApart (settled_slices head covered slices)
  unfolding settled_slices settled_from AreLegalInSlice
  settled_apart covered [] h = tt
  settled_apart covered ([] ∷ slices) h = absurd (let none = h.0.not_empty in omega (arith, none))
  settled_apart covered ((m ∷ later) ∷ slices) h =
      let start : Start = start_at head covered (m ∷ later) in
      let legal = h.0.legal in (
        legal.0.start,
        settled_goes_on start (start.mb_x + 1) start.mb_y m.decision [] (settled_macroblock head (given head start []) (is_nothing later) m ∷ []) later legal.2,
        settled_apart (covered + length (m ∷ later)) slices h.1,
      )

  levels_from : (start : Start) (past slice : List CodedMacroblock) → levels_of (settled_from head start past slice) ≡ levels_of slice
  unfolding settled_from
  levels_from start past [] = refl
  levels_from start past (m ∷ later) = ap (λ (z : List MacroLevels). m.levels ∷ z) (levels_from start (settled_macroblock head (given head start past) (is_nothing later) m ∷ past) later)

  levels_append : (xs ys : List CodedMacroblock) → levels_of (xs ++ ys) ≡ levels_of xs ++ levels_of ys
  levels_append xs ys = map-append (λ (m : CodedMacroblock). m.levels) xs ys

  levels_slices : (covered : ℕ) (slices : List (List CodedMacroblock)) → levels_of (all_of (settled_slices head covered slices)) ≡ levels_of (all_of slices)
  unfolding settled_slices
  levels_slices covered [] = refl
  levels_slices covered (slice ∷ slices) =
      let now : List CodedMacroblock = settled_from head (start_at head covered slice) [] slice in
      let later : List CodedMacroblock = all_of (settled_slices head (covered + length slice) slices) in
      levels_append now later ∙ ap (λ (z : List MacroLevels). z ++ levels_of later) (levels_from (start_at head covered slice) [] slice)
      ∙ ap (λ (z : List MacroLevels). levels_of slice ++ z) (levels_slices (covered + length slice) slices) ∙ sym (levels_append slice (all_of slices))

  pub levels_stay : (decisions : List Decision) (levels : List MacroLevels) → length decisions ≡ length levels → levels_of (all_of (settled_picture head decisions levels)) ≡ levels
  levels_stay decisions levels e =
      levels_slices 0 (in_slices (paired decisions levels)) ∙ ap levels_of (all_in_slices (paired decisions levels)) ∙ levels_paired decisions levels e

-- ---- a picture

same_macroblocks : (xs ys : List CodedMacroblock) → decisions_of xs ≡ decisions_of ys → levels_of xs ≡ levels_of ys → xs ≡ ys
same_macroblocks xs ys d l = sym (paired_again xs) ∙ (λ i. paired (d i) (l i)) ∙ paired_again ys

pub no_others_are_plain : OfLegalPictures NoOthersArePlain
no_others_are_plain head decisions levels legal bytes plain =
    let whole : List ℕ = bytes ++ zero_bytes plain.dropped in
    let elements : List (List ℕ) = (cut whole).elements in
    let put : concat elements ≡ whole = ap (λ (z : List ℕ). z ++ concat elements) (sym plain.nothing_in_front) ∙ cut_whole whole in
    let are = subst AreBytes (sym put) (AreBytes-append bytes (zero_bytes plain.dropped) plain.are_bytes (zeros_are_bytes plain.dropped)) in
    let read = slices_read head elements [] plain.all (elements_start whole) are plain.plain in
    let slices : List (List CodedMacroblock) = read.0 in
    let is = read.1 in
    let own : List (List CodedMacroblock) = settled_picture head decisions levels in
    let kept = levels_stay head decisions levels (same_length head decisions levels legal) in
    let same : plain.all ≡ all_of own = same_macroblocks plain.all (all_of own) (sym plain.decisions_are) (sym plain.levels_are ∙ sym kept) in
    let apart = settled_apart head 0 (in_slices (paired decisions levels)) (has_legal_slices head decisions levels legal) in
    let same_slices : slices ≡ own = sym (slices_again slices is.apart) ∙ ap in_slices (sym is.macroblocks ∙ same) ∙ slices_again own apart in
    sym plain.ends ∙ sym (without_last_zeros-append bytes plain.dropped) ∙ ap without_last_zeros (sym put ∙ is.bytes) ∙ ap (λ (z : List (List CodedMacroblock)). without_last_zeros (slices_bytes head 0 z)) same_slices
