-- What is said is the record that meets the conditions.
use Rattle.std.proofs.Common.{◌≡◌, ℕ, ◌+◌, ◌-◌, ◌*◌, ◌<◌, ◌≤◌, ◌∙◌, Bool, true, false, List, [], ◌∷◌, length, drop, get_or, Option, Some, None, option_map, refl, sym, ap, subst, arith}
use Rattle.std.specs.Prelude.{MatchOption}
use Rattle.std.specs.List.{AllByRecursion}
use Rattle.std.proofs.lemmas.List.Elements.{All-from_recursion, recursion_from_All}
use Rattle.mv_terms.specs.declared.head.Context.{Context}
use Rattle.mv_terms.specs.declared.head.Head.{Head}
use Rattle.mv_terms.specs.declared.macroblock.Decision.{Decision}
use Rattle.mv_terms.specs.Ranges.{HasLegalScales}
use Rattle.mv_terms.specs.Decisions.{HasPlainOrFieldMotion}
use Rattle.mv_bits.specs.Elements.{cut}
use Rattle.mv_heads.specs.declared.sequence_header.CodedSize.{CodedSize}
use Rattle.mv_heads.specs.Headers.{coded_size}
use Rattle.mv_macro.specs.Legal.{AreLegalFrom, IsHeadScale, in_its_slice}
use Rattle.rec_slot.specs.Slot.{IsHeld, WrittenIsASlot, OneDecision}
use Rattle.rec_sheet.specs.Sheets.{SheetLists}
use Rattle.rec_legal.specs.FoundRecord.{FoundRecord}
use Rattle.rec_legal.specs.Conditions.{IsSaid}
use Rattle.rec_legal.specs.Said.{◌>>=◌, when, sheet_said, context_said, head_said, decisions_said, record_of, can_be_coded, said}
use Rattle.rec_legal.proofs.OptionLemmas.{both_true, true_both, none_some, bind_some, when_some, when_true}
use Rattle.rec_legal.proofs.SheetLaws.{sheet_sound, sheet_complete}
use Rattle.rec_legal.proofs.SlotLaws.{slots_sound, slots_complete}
use Rattle.rec_legal.proofs.ConditionLaws.{flags_decide, prefix_decides, context_is, context_from, head_is, head_back, head_size}
use Rattle.rec_legal.proofs.LegalLaws.{all_legal_decides}

abbrev pub AreSmall : List ℕ → Type 0
AreSmall bytes = (k : ℕ) → get_or bytes k 0 < 256

-- ---- legal decisions have legal scale codes

head_scale_small : (start : Bool) (code : ℕ) → IsHeadScale start code → code ≤ 31
head_scale_small true code h = h.1
head_scale_small false code h = omega (arith, h)

pub legal_scales : (head : Head) (place : ℕ) (past ds : List Decision) → AreLegalFrom head place past ds → AllByRecursion HasLegalScales ds
unfolding AreLegalFrom
legal_scales head place past [] l = tt
legal_scales head place past (d ∷ later) l =
    let at = l.0.legal in
    (record { scale = at.scale; head_scale = head_scale_small d.slice_start d.head_scale at.head_scale }, legal_scales head (place + 1) (d ∷ in_its_slice d past) later l.1)

legal_motions : (head : Head) (place : ℕ) (past ds : List Decision) → AreLegalFrom head place past ds → AllByRecursion HasPlainOrFieldMotion ds
unfolding AreLegalFrom
legal_motions head place past [] l = tt
legal_motions head place past (d ∷ later) l = (l.0.legal.motion, legal_motions head (place + 1) (d ∷ in_its_slice d past) later l.1)

-- ---- the parts

module _ (size : CodedSize) (slots bytes : List ℕ) (slots_size : length slots ≡ 20 * (size.mb_wide * size.mb_high)) (slots_small : AreSmall slots) (bytes_small : AreSmall bytes) where
  abbrev n : ℕ
  n = size.mb_wide * size.mb_high

  same_count : (c : Context) (h : Head) → coded_size c ≡ size → (h.mb_wide ≡ c.mb_wide) × (h.mb_high ≡ c.mb_high) → h.mb_wide * h.mb_high ≡ n
  same_count c h same s = λ i. (s.0 ∙ ap (λ (x : CodedSize). x.mb_wide) same) i * (s.1 ∙ ap (λ (x : CodedSize). x.mb_high) same) i

  module _ (sheet : SheetLists) (context : Context) (head : Head) (ds : List Decision) where
    abbrev seal : List ℕ
    seal = drop (length bytes - 32) bytes

    abbrev r : FoundRecord
    r = record_of sheet seal context head ds

    parts_to : sheet_said bytes ≡ Some sheet → context_said size sheet ≡ Some context → head_said sheet context ≡ Some head → decisions_said n slots ≡ Some ds → can_be_coded sheet head ds ≡ true → IsSaid size slots bytes r
    parts_to a b c d e =
        let con = context_is size sheet context b in
        let hd = head_is sheet context head c in
        let read = slots_sound n slots ds slots_size slots_small d in
        let legal = both_true _ _ e in
        let flags = both_true _ _ legal.0 in
        let count = same_count context head con.1 (head_size context (cut sheet.head) head hd.reads) in
        record {
          sheet_is = sheet_sound bytes sheet bytes_small a;
          seal_is = refl;
          headers = record {
            context_reads = con.0;
            same_size = con.1;
            prefix = (prefix_decides sheet).0 flags.0;
            head_reads = hd.reads;
            not_extended = hd.not_extended;
            same_type = hd.same_type;
            b = hd.b;
          };
          slots_are = record { held = All-from_recursion IsHeld ds read.held; bytes = read.same };
          flags = (flags_decide sheet ds).0 flags.1;
          legal = record { size = read.count ∙ sym count; each = (all_legal_decides head ds read.held).0 legal.1 };
        }

  pub said_to : (r : FoundRecord) → said size slots bytes ≡ Some r → IsSaid size slots bytes r
  unfolding said
  said_to r e =
      let a = bind_some (sheet_said bytes) _ r e in
      let b = bind_some (context_said size a.0) _ r a.2 in
      let c = bind_some (head_said a.0 b.0) _ r b.2 in
      let d = bind_some (decisions_said n slots) _ r c.2 in
      let f = when_some (can_be_coded a.0 c.0 d.0) _ r d.2 in
      subst (IsSaid size slots bytes) f.1 (parts_to a.0 b.0 c.0 d.0 a.1 b.1 c.1 d.1 f.0)

  module _ (written : WrittenIsASlot) (one : OneDecision) where
    pub said_from : (r : FoundRecord) → IsSaid size slots bytes r → said size slots bytes ≡ Some r
    unfolding said
    said_from r is =
        let hs = is.headers in
        let sheet : sheet_said bytes ≡ Some r.sheet = sheet_complete bytes r.sheet is.sheet_is in
        let context : context_said size r.sheet ≡ Some r.context = context_from size r.sheet r.context hs.context_reads hs.same_size in
        let head : head_said r.sheet r.context ≡ Some r.head = head_back r.sheet r.context r.head (record { reads = hs.head_reads; not_extended = hs.not_extended; same_type = hs.same_type; b = hs.b }) in
        let count = is.legal.size ∙ same_count r.context r.head hs.same_size (head_size r.context (cut r.sheet.head) r.head hs.head_reads) in
        let held = recursion_from_All IsHeld r.decisions is.slots_are.held in
        let ds : decisions_said n slots ≡ Some r.decisions = ap (λ (k : ℕ). decisions_said k slots) (sym count) ∙ slots_complete written one r.decisions slots slots_small held (legal_motions r.head 0 [] r.decisions is.legal.each) (legal_scales r.head 0 [] r.decisions is.legal.each) is.slots_are.bytes in
        let test : can_be_coded r.sheet r.head r.decisions ≡ true = true_both _ _ (true_both _ _ ((prefix_decides r.sheet).1 hs.prefix) ((flags_decide r.sheet r.decisions).1 is.flags)) ((all_legal_decides r.head r.decisions held).1 is.legal.each) in
        ap (λ o. o >>= (λ s. context_said size s >>= (λ c. head_said s c >>= (λ h. decisions_said n slots >>= (λ d. when (can_be_coded s h d) (record_of s (drop (length bytes - 32) bytes) c h d)))))) sheet
        ∙ (ap (λ o. o >>= (λ c. head_said r.sheet c >>= (λ h. decisions_said n slots >>= (λ d. when (can_be_coded r.sheet h d) (record_of r.sheet (drop (length bytes - 32) bytes) c h d))))) context
        ∙ (ap (λ o. o >>= (λ h. decisions_said n slots >>= (λ d. when (can_be_coded r.sheet h d) (record_of r.sheet (drop (length bytes - 32) bytes) r.context h d)))) head
        ∙ (ap (λ o. o >>= (λ d. when (can_be_coded r.sheet r.head d) (record_of r.sheet (drop (length bytes - 32) bytes) r.context r.head d))) ds
        ∙ (when_true (can_be_coded r.sheet r.head r.decisions) _ test
        ∙ ap (λ (s : List ℕ). Some (record_of r.sheet s r.context r.head r.decisions)) is.seal_is))))

    -- what is answered of slots and a sheet
    pub said_means : {X : Type 0} (lent : X → FoundRecord) (o : Option X) → option_map lent o ≡ said size slots bytes → MatchOption o ((r : FoundRecord) → IsSaid size slots bytes r → ⊥) (λ x. IsSaid size slots bytes (lent x))
    said_means {X} lent None e = λ r is. none_some r (e ∙ said_from r is)
    said_means {X} lent (Some x) e = said_to (lent x) (sym e)
