-- What the slots and the sheet of a frame say, read by places and tested: nobody needs to believe it, since it is proved
-- to be the record for which the conditions of `Conditions` hold.
use Rattle.std.specs.Prelude.{ℕ, zero, suc, ◌+◌, ◌-◌, ◌*◌, ◌/◌, ◌%◌, ◌==◌, ◌&&◌, nat_le, Bool, false, if◌then◌else◌, List, [], ◌∷◌, length, take, drop, replicate, codes, slice_index, Option, None, Some, Result, Ok, Err, ℤ}
use Rattle.std.specs.Int.{cast_signed, w16}
use Rattle.std.specs.Str.{bytes_eq}
use Rattle.mv_terms.specs.declared.status.Why.{Why}
use Rattle.mv_terms.specs.declared.head.PicType.{PicType}
use Rattle.mv_terms.specs.declared.head.PicType.TheVariants as pic
use Rattle.mv_terms.specs.declared.head.Context.{Context}
use Rattle.mv_terms.specs.declared.head.Head.{Head}
use Rattle.mv_terms.specs.declared.macroblock.Vector.{Vector}
use Rattle.mv_terms.specs.declared.macroblock.Decision.{Decision}
use Rattle.mv_terms.specs.Decisions.{no_dmvector, vector}
use Rattle.mv_bits.specs.Elements.{cut}
use Rattle.mv_heads.specs.declared.sequence_header.CodedSize.{CodedSize}
use Rattle.mv_heads.specs.Headers.{coded_size, is_same_size}
use Rattle.mv_heads.specs.HeadElements.{context_of, head_of}
use Rattle.rec_sheet.specs.Sheets.{SheetLists, bytes_at, end_of, kind_of, lengths_of}
use Rattle.rec_legal.specs.FoundRecord.{FoundRecord}
use Rattle.rec_legal.specs.Tests.{is_scale_code, is_head_of, has_legal_prefix, has_legal_flags, are_legal}

infixl 10 ◌>>=◌
abbrev pub ◌>>=◌ : {A B : Type 0} → Option A → (A → Option B) → Option B
(Some x) >>= f = f x
None >>= f = None

-- a value where a test holds
abbrev pub when : {A : Type 0} → Bool → A → Option A
when test value = if test then Some value else None

-- ---- the sheet

abbrev pub two_at : List ℕ → ℕ → ℕ
two_at bytes at = 256 * slice_index bytes at + slice_index bytes (at + 1)

abbrev pub four_at : List ℕ → ℕ → ℕ
four_at bytes at =
    16777216 * slice_index bytes at + 65536 * slice_index bytes (at + 1)
    + 256 * slice_index bytes (at + 2) + slice_index bytes (at + 3)

abbrev pub type_of_code : ℕ → PicType
type_of_code code = if code == 1 then pic.I else if code == 2 then pic.P else pic.B

-- what stands at the places of a sheet
abbrev pub sheet_at : List ℕ → SheetLists
sheet_at bytes = record {
  pic = type_of_code (slice_index bytes 5);
  flags = slice_index bytes 6;
  forward = bytes_at bytes 8 32;
  backward = bytes_at bytes 40 32;
  n1 = four_at bytes 72;
  n2 = four_at bytes 76;
  context = bytes_at bytes 86 (two_at bytes 80);
  prefix = bytes_at bytes (86 + two_at bytes 80) (two_at bytes 82);
  head = bytes_at bytes (86 + two_at bytes 80 + two_at bytes 82) (two_at bytes 84);
}

-- the bytes have room for it, and are as a sheet has them
abbrev pub is_sheet : SheetLists → List ℕ → Bool
is_sheet s bytes =
    nat_le (end_of s + 32) (length bytes)
    && bytes_eq (bytes_at bytes 0 4) (codes "MREC")
    && bytes_eq (bytes_at bytes 4 4) (kind_of s)
    && bytes_eq (bytes_at bytes 80 6) (lengths_of s)
    && bytes_eq (bytes_at bytes (end_of s) (length bytes - 32 - end_of s))
    (replicate (length bytes - 32 - end_of s) 0)

unfoldable pub sheet_said : List ℕ → Option SheetLists
sheet_said bytes = when (is_sheet (sheet_at bytes) bytes) (sheet_at bytes)

-- ---- slots

abbrev pub bit_at : List ℕ → ℕ → ℕ → Bool
bit_at bytes at worth = slice_index bytes at / worth % 2 == 1

abbrev pub component_at : List ℕ → ℕ → ℤ
component_at bytes at = cast_signed w16 (two_at bytes at)

abbrev pub vector_at : List ℕ → ℕ → Vector
vector_at bytes at = vector (component_at bytes at) (component_at bytes (at + 2))

-- what stands at the places of a slot
abbrev pub decision_at : List ℕ → Decision
decision_at bytes = record {
  slice_start = bit_at bytes 0 128;
  skipped = bit_at bytes 0 64;
  quant = bit_at bytes 0 32;
  intra = bit_at bytes 0 16;
  forward = bit_at bytes 0 8;
  backward = bit_at bytes 0 4;
  field_dct = bit_at bytes 0 2;
  field_motion = bit_at bytes 0 1;
  half = false;
  dual = false;
  scale = slice_index bytes 1;
  selects =
      (bit_at bytes 2 128 ∷ bit_at bytes 2 64 ∷ [])
      ∷ (bit_at bytes 2 32 ∷ bit_at bytes 2 16 ∷ []) ∷ [];
  vectors =
      (vector_at bytes 3 ∷ vector_at bytes 7 ∷ [])
      ∷ (vector_at bytes 11 ∷ vector_at bytes 15 ∷ []) ∷ [];
  dual_delta = no_dmvector;
  head_scale = slice_index bytes 19;
}

abbrev pub is_slot : List ℕ → Bool
is_slot bytes =
    slice_index bytes 2 % 16 == 0 && is_scale_code (slice_index bytes 1)
    && nat_le (slice_index bytes 19) 31

unfoldable pub decision_said : List ℕ → Option Decision
decision_said bytes = when (is_slot bytes) (decision_at bytes)

-- those of so many macroblocks
unfoldable pub decisions_said : ℕ → List ℕ → Option (List Decision)
decisions_said zero slots = Some []
decisions_said (suc n) slots = do
  first ← decision_said (take 20 slots)
  later ← decisions_said n (drop 20 slots)
  Some (first ∷ later)

-- ---- headers

abbrev pub of_size : CodedSize → Result Context Why → Option Context
of_size size (Ok context) = when (is_same_size (coded_size context) size) context
of_size size (Err why) = None

abbrev pub of_sheet : SheetLists → Context → Result Head Why → Option Head
of_sheet sheet context (Ok head) = when (is_head_of sheet context head) head
of_sheet sheet context (Err why) = None

unfoldable pub context_said : CodedSize → SheetLists → Option Context
context_said size sheet = of_size size (context_of (cut sheet.context))

unfoldable pub head_said : SheetLists → Context → Option Head
head_said sheet context = of_sheet sheet context (head_of context (cut sheet.head))

-- ---- the record

abbrev pub record_of : SheetLists → List ℕ → Context → Head → List Decision → FoundRecord
record_of sheet seal context head decisions = record {
  sheet = sheet;
  seal = seal;
  context = context;
  head = head;
  decisions = decisions;
}

abbrev pub can_be_coded : SheetLists → Head → List Decision → Bool
can_be_coded sheet head decisions =
    has_legal_prefix sheet && has_legal_flags sheet decisions && are_legal head decisions

unfoldable pub said : CodedSize → List ℕ → List ℕ → Option FoundRecord
said size slots bytes = do
  sheet ← sheet_said bytes
  context ← context_said size sheet
  head ← head_said sheet context
  decisions ← decisions_said (size.mb_wide * size.mb_high) slots
  when (can_be_coded sheet head decisions)
      (record_of sheet (drop (length bytes - 32) bytes) context head decisions)
