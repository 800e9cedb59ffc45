-- A picture that is coded by a record.
use Rattle.std.proofs.Common.{◌≡◌, ℕ, ◌%◌, Bool, true, false, not, ◌&&◌, List, ◌∷◌, ◌++◌, Option, Some, sym, ap, ◌∙◌, subst, arith, append_assoc}
use Rattle.std.specs.Prelude.{◌-◌, ◌/◌, [], IfSome, if◌then◌else◌}
use Rattle.mv_terms.specs.declared.frame_header.FrameHeader.{FrameHeader}
use Rattle.mv_terms.specs.PicTypes.{is_anchor}
use Rattle.mv_terms.specs.Ranges.{IsFrameHeader, macroblock_columns, macroblock_rows, row_lines}
use Rattle.mv_bits.specs.Receivers.{Kept}
use Rattle.mv_bits.specs.Zeros.{zero_bytes, zeros_at_end}
use Rattle.mv_planes.specs.Planes.{Planes}
use Rattle.rec_legal.specs.FoundRecord.{FoundRecord}
use Rattle.rec_legal.specs.Conditions.{file_size}
use Rattle.rec_legal.specs.Laws.{HasLegalHeaders, LegalCanBeReconstructed}
use Rattle.plan_window.specs.declared.summary.Step.{Step}
use Rattle.plan_window.specs.declared.summary.Mode.TheVariants.{Guided}
use Rattle.enc_guided.specs.declared.coder.PictureCoder.{PictureCoder}
use Rattle.enc_guided.specs.Recoded.{Recoding, CodedStep, Front, Target, bytes_with, glue_of, guided_front, guided_picture, has_own_sequence, own_target, step_from, step_with}
use Rattle.enc_guided.specs.Stands.{HasCoded, IsRoom, MayBeGuided, high_of, wide_of}
use Rattle.enc_guided.specs.Steps.{BringsIntoForce, CodesGuided, MayCodeGuided, is_sent_before, part_if, sent_bytes, slices_by}
use Rattle.enc_guided.proofs.PartLemmas.{HasPart, IsLegalPart, brought, next_target, own_legal, part_sent, target_by, target_is}
use Rattle.enc_guided.proofs.StepLemmas.{IsFrontOf, has_coded, levels_are, may_code}
use Rattle.enc_guided.proofs.ByteLemmas.{slices_kept, tail_with}

-- ---- the size of the file

wide_is : (h : FrameHeader) → IsFrameHeader h → h.wide / 16 ≡ macroblock_columns h.wide
wide_is h is = omega (arith, is.whole_wide)

rows_are : (p : Bool) (high : ℕ) → high % row_lines p ≡ 0 → high / 16 ≡ macroblock_rows p high
rows_are true high whole = omega (arith, whole)
rows_are false high whole = omega (arith, whole)

head_size : (r : Recoding) (g : FoundRecord) → IsFrameHeader r.header → HasLegalHeaders (file_size r.header) g → IsFrontOf r (guided_front g)
head_size r g is legal = record {
  wide = legal.wide ∙ wide_is r.header is;
  high = legal.high ∙ rows_are r.header.progressive r.header.high is.whole_high;
}

append_four : (a b c d e : List ℕ) → (a ++ (b ++ (c ++ d))) ++ e ≡ a ++ (b ++ (c ++ (d ++ e)))
append_four a b c d e =
    append_assoc a (b ++ (c ++ d)) e
    ∙ ap (λ (x : List ℕ). a ++ x) (append_assoc b (c ++ d) e ∙ ap (λ (x : List ℕ). b ++ x) (append_assoc c d e))

-- ---- the picture as it is defined

abbrev pub step_guided : ℕ → Bool → Step
step_guided frame anchor = record { frame = frame; anchor = anchor; mode = Guided }

-- by its own sequence part, or the one in force
abbrev pub picture_now : Recoding → Step → FoundRecord → Planes → List CodedStep → CodedStep
picture_now r step g source done = step_from step (Some g) (target_by r (own_target (Some g)) done) (guided_front g) source done

-- it is the picture of this record
picture_is : (r : Recoding) (frame : ℕ) (anchor : Bool) (g : FoundRecord) (source : Planes) (done : List CodedStep) → anchor ≡ is_anchor g.sheet.pic
    → guided_picture r.header frame g source done ≡ picture_now r (step_guided frame anchor) g source done
picture_is r frame anchor g source done same =
    ap (λ (t : Target). step_from (step_guided frame (is_anchor g.sheet.pic)) (Some g) t (guided_front g) source done) (target_is r (Some g) done)
    ∙ ap (λ (a : Bool). picture_now r (step_guided frame a) g source done) (sym same)

-- a picture that is coded by a record, whose sequence part was brought into force
pub record BeginsGuided (r : Recoding) (done : List CodedStep) (frame : ℕ) (anchor : Bool) (source : Planes) (old mid : PictureCoder) (g : FoundRecord) (changes : Bool) : Type 0 where
  pub stands : HasCoded old r.header r.scale done
  pub may : MayBeGuided r.header done g source
  pub anchor_is : anchor ≡ is_anchor g.sheet.pic
  pub legal : IfSome (own_target (Some g)) IsLegalPart
  pub brings : BringsIntoForce old mid anchor (own_target (Some g)) changes

pub begins_guided : (r : Recoding) (done : List CodedStep) (frame : ℕ) (anchor : Bool) (source : Planes) (old mid : PictureCoder) (g : FoundRecord) (own : Option Target) (changes : Bool) → HasCoded old r.header r.scale done
    → MayBeGuided r.header done g source → anchor ≡ is_anchor g.sheet.pic → own ≡ own_target (Some g) → BringsIntoForce old mid anchor own changes → BeginsGuided r done frame anchor source old mid g changes
begins_guided r done frame anchor source old mid g own changes h may is same brings = record {
  stands = h;
  may = may;
  anchor_is = is;
  legal = own_legal (file_size r.header) g may.can;
  brings = subst (λ (o : Option Target). BringsIntoForce old mid anchor o changes) same brings;
}

module _ (r : Recoding) (done : List CodedStep) (frame : ℕ) (anchor : Bool) (source : Planes) (old mid : PictureCoder) (g : FoundRecord) (changes : Bool) (b : BeginsGuided r done frame anchor source old mid g changes) where
  part_now : HasPart old mid (next_target r anchor (target_by r (own_target (Some g)) done) done)
  part_now = brought old mid r done anchor (own_target (Some g)) changes b.stands b.legal b.brings

  header_same : mid.header ≡ r.header
  header_same = ap (λ (x : PictureCoder). x.header) part_now.others ∙ b.stands.header

  size_now : IsFrontOf r (guided_front g)
  size_now = head_size r g (subst IsFrameHeader b.stands.header b.stands.is_header) b.may.can.ranges

  pub may_code_guided : LegalCanBeReconstructed → MayCodeGuided mid g source
  may_code_guided law = record {
    may_code = may_code old mid _ r done source b.stands part_now b.may.size b.may.few;
    head = b.may.can.ranges.head;
    wide = subst (λ (x : FrameHeader). g.head.mb_wide ≡ wide_of x) (sym header_same) size_now.wide;
    high = subst (λ (x : FrameHeader). g.head.mb_high ≡ high_of x) (sym header_same) size_now.high;
    legal = b.may.can.legal;
    reconstructed = law g.head g.decisions b.may.can.legal;
  }

  room_now : (new : PictureCoder) → CodesGuided mid new (step_guided frame anchor) g source → IsRoom 26 new.front
  room_now new k = subst (λ (x : Kept). IsRoom 26 x) (sym (k.same_front ∙ ap (λ (x : PictureCoder). x.front) part_now.others)) b.stands.front

  -- the picture is the one with the levels that were found
  coded_is : (new : PictureCoder) → CodesGuided mid new (step_guided frame anchor) g source
      → guided_picture r.header frame g source done ≡ step_with (step_guided frame anchor) (Some g) (target_by r (own_target (Some g)) done) (guided_front g) new.levels.items done
  coded_is new k =
      picture_is r frame anchor g source done b.anchor_is
      ∙ levels_are r old mid new (step_guided frame anchor) source done (Some g) (target_by r (own_target (Some g)) done) _ (guided_front g) b.stands part_now size_now k.codes

  pub codes_guided : (new : PictureCoder) → CodesGuided mid new (step_guided frame anchor) g source → HasCoded new r.header r.scale (guided_picture r.header frame g source done ∷ done)
  codes_guided new k =
      subst (λ (c : CodedStep). HasCoded new r.header r.scale (c ∷ done)) (sym (coded_is new k))
      (has_coded r old mid new (step_guided frame anchor) source done (Some g) (target_by r (own_target (Some g)) done) (guided_front g) b.stands part_now size_now k.codes (room_now new k))

  -- what is sent of it is what is written for the picture
  pub sent_guided : (new : PictureCoder) (repeats : Bool) → CodesGuided mid new (step_guided frame anchor) g source → repeats ≡ is_sent_before changes g.sheet.prefix → sent_bytes repeats new g.sheet ≡ (guided_picture r.header frame g source done).bytes
  sent_guided new repeats k when =
      let target : Target = target_by r (own_target (Some g)) done in
      let front : Front = guided_front g in
      let now = k.codes in
      let levels = new.levels.items in
      let zeros : List ℕ = zero_bytes (g.sheet.n1 - zeros_at_end new.slices.bytes) in
      let slices : new.slices.bytes ≡ slices_by g.head g.decisions levels = slices_kept r new front levels (now.same_header ∙ header_same) size_now.wide size_now.high now.legal now.slices_kept in
      let part : part_if repeats new ≡ glue_of anchor (Some g) done target =
      ap (λ (x : Bool). part_if x new) when
      ∙ ap (λ (x : Kept). if changes && not (has_own_sequence (Some g)) then x.bytes else []) now.same_part
      ∙ part_sent old mid r done anchor (own_target (Some g)) (Some g) changes b.stands b.brings part_now in
      append_four (part_if repeats new) g.sheet.prefix g.sheet.head new.slices.bytes zeros
      ∙ ap (λ (x : List ℕ). part_if repeats new ++ (g.sheet.prefix ++ (g.sheet.head ++ x))) (tail_with front levels new.slices.bytes slices)
      ∙ ap (λ (x : List ℕ). x ++ bytes_with front levels) part
      ∙ ap (λ (c : CodedStep). c.bytes) (sym (coded_is new k))
