-- What is asked of the slots and the sheet of a frame, whoever made it, so that a picture can be coded by them
-- (docs/FRAME-FILES.md).
use Rattle.std.specs.Prelude.{◌≡◌, ◌⊎◌, ℕ, ◌-◌, ◌/◌, ◌%◌, ◌<◌, ◌≤◌, ◌==◌, Bool, true, false, List, [], length, drop, replicate, All, IfSome, is_some, Ok}
use Rattle.std.specs.List.{flat_map}
use Rattle.mv_terms.specs.declared.head.PicType.{PicType}
use Rattle.mv_terms.specs.declared.head.PicType.TheVariants as pic
use Rattle.mv_terms.specs.declared.head.Context.{Context}
use Rattle.mv_terms.specs.declared.head.Head.{Head}
use Rattle.mv_terms.specs.declared.macroblock.Decision.{Decision}
use Rattle.mv_terms.specs.declared.frame_header.FrameHeader.{FrameHeader}
use Rattle.mv_bits.specs.Elements.{cut}
use Rattle.mv_heads.specs.declared.sequence_header.CodedSize.{CodedSize}
use Rattle.mv_heads.specs.Headers.{coded_size}
use Rattle.mv_heads.specs.HeadElements.{context_of, head_of, extends, is_prefix, sequence_bytes}
use Rattle.mv_macro.specs.Legal.{AreLegalDecisions}
use Rattle.rec_slot.specs.Slot.{IsHeld, slot_of}
use Rattle.rec_slot.specs.Directions.{uses_forward}
use Rattle.rec_sheet.specs.Sheets.{SheetLists, IsSheet}
use Rattle.rec_legal.specs.FoundRecord.{FoundRecord}

-- the size of the frames of a file, in macroblocks, and whether they are progressive
abbrev pub file_size : FrameHeader → CodedSize
file_size file = record {
  mb_wide = file.wide / 16;
  mb_high = file.high / 16;
  progressive = file.progressive;
}

-- ---- flags

-- the flag of this worth is set
abbrev pub has_flag : SheetLists → ℕ → Bool
has_flag sheet worth = sheet.flags / worth % 2 == 1

-- what each flag says
abbrev pub uses_forward_flag : ℕ
uses_forward_flag = 2

abbrev pub forward_link_flag : ℕ
forward_link_flag = 4

abbrev pub backward_link_flag : ℕ
backward_link_flag = 8

abbrev pub end_code_flag : ℕ
end_code_flag = 16

-- the links that a picture may have: an I picture none, a P picture no backward one; a B picture has a backward one
abbrev pub HasLinksOf : PicType → SheetLists → Type 0
HasLinksOf pic.I sheet =
    (has_flag sheet forward_link_flag ≡ false) × (has_flag sheet backward_link_flag ≡ false)
HasLinksOf pic.P sheet = has_flag sheet backward_link_flag ≡ false
HasLinksOf pic.B sheet = has_flag sheet backward_link_flag ≡ true

-- what stands in place of a link that isn't there
abbrev pub no_link : List ℕ
no_link = replicate 32 0

-- Flags, links and numbers of zero bytes agree with each other and with the decisions. Whether the picture is certified
-- isn't asked.
pub record HasLegalFlags (sheet : SheetLists) (decisions : List Decision) : Type 0 where
  pub known : sheet.flags < 32
  pub uses : has_flag sheet uses_forward_flag ≡ uses_forward sheet.pic decisions
  pub links : HasLinksOf sheet.pic sheet
  pub no_forward : has_flag sheet forward_link_flag ≡ false → sheet.forward ≡ no_link
  pub no_backward : has_flag sheet backward_link_flag ≡ false → sheet.backward ≡ no_link
  pub n1 : sheet.n1 ≤ 16777215
  pub n2 : sheet.n2 ≤ 16777215
  pub no_end : has_flag sheet end_code_flag ≡ false → sheet.n2 ≡ 0

-- ---- headers

-- The prefix is empty or a prefix with a start code at least, and a sequence part in it is the context, byte for byte.
pub record HasLegalPrefix (sheet : SheetLists) : Type 0 where
  pub shape : (sheet.prefix ≡ []) ⊎ (is_prefix (cut sheet.prefix) ≡ true)
  pub same : IfSome (sequence_bytes sheet.prefix) (λ part. part ≡ sheet.context)

-- a B picture comes without a sequence part, and not where low_delay is 1 (H.262, 6.1.1.11 and 6.3.5)
pub record CanBeB (sheet : SheetLists) (context : Context) : Type 0 where
  pub no_part : is_some (sequence_bytes sheet.prefix) ≡ false
  pub delay : context.low_delay ≡ false

-- The context reads as one sequence part of this size, and the head reads under it, without a quant matrix extension,
-- as that of a picture of the sheet's type.
pub record HasHeaders (size : CodedSize) (sheet : SheetLists) (context : Context) (head : Head)
    : Type 0 where
  pub context_reads : context_of (cut sheet.context) ≡ Ok context
  pub same_size : coded_size context ≡ size
  pub prefix : HasLegalPrefix sheet
  pub head_reads : head_of context (cut sheet.head) ≡ Ok head
  pub not_extended : extends (cut sheet.head).elements ≡ false
  pub same_type : head.pic ≡ sheet.pic
  pub b : head.pic ≡ pic.B → CanBeB sheet context

-- ---- the record

-- the slots of these decisions, one behind the other
pub record AreSlotsOf (decisions : List Decision) (slots : List ℕ) : Type 0 where
  pub held : All IsHeld decisions
  pub bytes : flat_map slot_of decisions ≡ slots

-- what these slots and this sheet say, which a picture of this size can be coded by
pub record IsSaid (size : CodedSize) (slots sheet : List ℕ) (r : FoundRecord) : Type 0 where
  pub sheet_is : IsSheet r.sheet sheet
  pub seal_is : drop (length sheet - 32) sheet ≡ r.seal
  pub headers : HasHeaders size r.sheet r.context r.head
  pub slots_are : AreSlotsOf r.decisions slots
  pub flags : HasLegalFlags r.sheet r.decisions
  pub legal : AreLegalDecisions r.head r.decisions
