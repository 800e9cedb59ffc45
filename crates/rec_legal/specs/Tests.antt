-- Tests of the conditions of `Conditions` and of legal decisions: nobody needs to believe them, since they are proved to
-- tell whether the conditions hold.
use Rattle.std.specs.Prelude.{ℕ, ◌+◌, ◌/◌, ◌%◌, ◌==◌, ◌&&◌, ◌||◌, not, nat_lt, nat_le, Bool, true, false, if◌then◌else◌, List, [], ◌∷◌, length, is_some, Option, None, Some, pos}
use Rattle.std.specs.Ordering.{int_eq}
use Rattle.std.specs.Str.{bytes_eq}
use Rattle.mv_terms.specs.declared.head.PicType.{PicType}
use Rattle.mv_terms.specs.declared.head.PicType.TheVariants as pic
use Rattle.mv_terms.specs.declared.head.Context.{Context}
use Rattle.mv_terms.specs.declared.head.Head.{Head}
use Rattle.mv_terms.specs.declared.macroblock.Vector.{Vector}
use Rattle.mv_terms.specs.declared.macroblock.Decision.{Decision}
use Rattle.mv_terms.specs.PicTypes.{is_b}
use Rattle.mv_terms.specs.Decisions.{dmvector_of, still, vector, vector_of, select_of}
use Rattle.mv_bits.specs.Elements.{cut}
use Rattle.mv_heads.specs.Headers.{is_same_flag}
use Rattle.mv_heads.specs.HeadElements.{extends, is_prefix, sequence_bytes}
use Rattle.mv_vectors.specs.Vectors.{predictor_behind}
use Rattle.mv_vectors.specs.Inside.{is_inside, are_in_range, are_vectors_in_range}
use Rattle.mv_vectors.specs.Skipped.{may_skip}
use Rattle.mv_macro.specs.Past.{Seen}
use Rattle.mv_macro.specs.Legal.{ends_slice}
use Rattle.rec_slot.specs.Directions.{uses_forward}
use Rattle.rec_sheet.specs.Sheets.{SheetLists}
use Rattle.rec_legal.specs.Conditions.{has_flag, uses_forward_flag, forward_link_flag, backward_link_flag, end_code_flag, no_link}
use Rattle.rec_legal.specs.declared.decisions.Past.{Past}

-- ---- flags

abbrev pub has_links_of : PicType → SheetLists → Bool
has_links_of pic.I sheet =
    not (has_flag sheet forward_link_flag) && not (has_flag sheet backward_link_flag)
has_links_of pic.P sheet = not (has_flag sheet backward_link_flag)
has_links_of pic.B sheet = has_flag sheet backward_link_flag

abbrev pub has_no_strays : SheetLists → Bool
has_no_strays sheet =
    (has_flag sheet forward_link_flag || bytes_eq sheet.forward no_link)
    && (has_flag sheet backward_link_flag || bytes_eq sheet.backward no_link)
    && (has_flag sheet end_code_flag || sheet.n2 == 0)

abbrev pub has_few_zeros : SheetLists → Bool
has_few_zeros sheet = nat_le sheet.n1 16777215 && nat_le sheet.n2 16777215

abbrev pub has_legal_flags : SheetLists → List Decision → Bool
has_legal_flags sheet decisions =
    nat_lt sheet.flags 32
    && is_same_flag (has_flag sheet uses_forward_flag) (uses_forward sheet.pic decisions)
    && has_links_of sheet.pic sheet && has_no_strays sheet && has_few_zeros sheet

-- ---- headers

abbrev pub is_same_part : Option (List ℕ) → List ℕ → Bool
is_same_part None context = true
is_same_part (Some part) context = bytes_eq part context

abbrev pub has_legal_prefix : SheetLists → Bool
has_legal_prefix sheet =
    (length sheet.prefix == 0 || is_prefix (cut sheet.prefix))
    && is_same_part (sequence_bytes sheet.prefix) sheet.context

abbrev pub is_same_type : PicType → PicType → Bool
is_same_type pic.I pic.I = true
is_same_type pic.P pic.P = true
is_same_type pic.B pic.B = true
is_same_type one other = false

abbrev pub may_be : PicType → SheetLists → Context → Bool
may_be type sheet context =
    not (is_b type) || (not (is_some (sequence_bytes sheet.prefix)) && not context.low_delay)

-- the head was read, and it is that of the sheet
abbrev pub is_head_of : SheetLists → Context → Head → Bool
is_head_of sheet context head =
    not (extends (cut sheet.head).elements) && is_same_type head.pic sheet.pic
    && may_be head.pic sheet context

-- ---- decisions

abbrev pub is_same_vector : Vector → Vector → Bool
is_same_vector v w = int_eq v.x w.x && int_eq v.y w.y

-- the second select and vector of a direction are zero, and the first select is
abbrev pub has_first_alone : Decision → ℕ → Bool
has_first_alone d s =
    not (select_of d s 0) && not (select_of d s 1) && is_same_vector (vector_of d s 1) still

abbrev pub has_none : Decision → ℕ → Bool
has_none d s = has_first_alone d s && is_same_vector (vector_of d s 0) still

abbrev pub has_legal_vectors : Bool → Head → Decision → ℕ → Bool
has_legal_vectors used head d s =
    if used
    then (d.field_motion || has_first_alone d s) && are_vectors_in_range head d s d.field_motion
    else has_none d s

-- the direction and the vectors of a skipped macroblock that takes them over or not
abbrev pub takes_over : Bool → Bool → Vector → Decision → ℕ → Bool
takes_over used is_used v d s =
    is_same_flag is_used used && has_first_alone d s
    && is_same_vector (vector_of d s 0) (if used then v else still)

-- nothing is said of a skipped macroblock
abbrev pub says_nothing : Decision → Bool
says_nothing d = not d.quant && not d.intra && not d.field_dct && not d.field_motion

-- what the macroblocks of a slice so far say to the next one, with its column and row
abbrev pub seen_by : Past → ℕ → ℕ → Seen
seen_by past mb_x mb_y = record {
  first = past.first;
  mb_x = mb_x;
  mb_y = mb_y;
  before_intra = past.intra;
  before_forward = past.forward;
  before_backward = past.backward;
  forward = vector past.forward_vector.x past.forward_vector.y;
  backward = vector past.backward_vector.x past.backward_vector.y;
}

abbrev pub can_be_skipped : Head → Seen → Bool → Bool
can_be_skipped head seen last = not seen.first && not last && may_skip head seen.before_intra

abbrev pub takes_both_over : Head → Seen → Decision → Bool
takes_both_over head seen d =
    takes_over (is_b head.pic && seen.before_forward) d.forward seen.forward d 0
    && takes_over (is_b head.pic && seen.before_backward) d.backward seen.backward d 1

abbrev pub is_legal_skipped : Head → Seen → Bool → Decision → Bool
is_legal_skipped head seen last d =
    can_be_skipped head seen last && says_nothing d && takes_both_over head seen d
    && are_in_range head d && is_inside head seen.mb_x seen.mb_y d

abbrev pub has_no_motion : Decision → Bool
has_no_motion d = not d.forward && not d.backward && not d.field_motion

abbrev pub is_legal_intra : Head → Decision → Bool
is_legal_intra head d =
    has_no_motion d && has_legal_vectors head.concealment head d 0 && has_none d 1

abbrev pub has_legal_directions : PicType → Decision → Bool
has_legal_directions pic.I d = false
has_legal_directions pic.P d = not d.backward
has_legal_directions pic.B d = d.forward || d.backward

abbrev pub has_legal_motion : Head → Decision → Bool
has_legal_motion head d =
    not d.field_motion || (not head.frame_only && (d.forward || d.backward))

abbrev pub has_both_legal : Head → Decision → Bool
has_both_legal head d =
    has_legal_vectors d.forward head d 0 && has_legal_vectors d.backward head d 1

abbrev pub is_legal_inter : Head → ℕ → ℕ → Decision → Bool
is_legal_inter head mb_x mb_y d =
    has_legal_directions head.pic d && has_legal_motion head d && is_inside head mb_x mb_y d
    && has_both_legal head d

abbrev pub is_legal_kind : Head → Seen → Bool → Decision → Bool
is_legal_kind head seen last d =
    if d.skipped then is_legal_skipped head seen last d
    else if d.intra then is_legal_intra head d
    else is_legal_inter head seen.mb_x seen.mb_y d

abbrev pub is_scale_code : ℕ → Bool
is_scale_code code = nat_lt 0 code && nat_le code 31

abbrev pub is_head_scale : Bool → ℕ → Bool
is_head_scale start head_scale = if start then is_scale_code head_scale else head_scale == 0

abbrev pub has_legal_codes : Head → Decision → Bool
has_legal_codes head d =
    is_head_scale d.slice_start d.head_scale && is_scale_code d.scale
    && (not head.frame_only || not d.field_dct)

-- neither 16x8 nor dual prime, and so without a dmvector
abbrev pub has_plain_or_field_motion : Decision → Bool
has_plain_or_field_motion d =
    not d.half && not d.dual
    && (int_eq (dmvector_of d 0) (pos 0) && int_eq (dmvector_of d 1) (pos 0))

abbrev pub is_legal : Head → Seen → Bool → Decision → Bool
is_legal head seen last d =
    is_same_flag d.slice_start seen.first && has_legal_codes head d
    && has_plain_or_field_motion d && is_legal_kind head seen last d

-- ---- a picture

-- nothing stands in front of a macroblock in its slice
abbrev pub no_past : Past
no_past = record {
  first = true;
  intra = false;
  forward = false;
  backward = false;
  forward_vector = record { x = pos 0; y = pos 0 };
  backward_vector = record { x = pos 0; y = pos 0 };
}

abbrev pub past_in_slice : Decision → Past → Past
past_in_slice d past = if d.slice_start then no_past else past

abbrev pub past_with : Decision → Vector → Vector → Past
past_with d forward backward = record {
  first = false;
  intra = d.intra;
  forward = d.forward;
  backward = d.backward;
  forward_vector = record { x = forward.x; y = forward.y };
  backward_vector = record { x = backward.x; y = backward.y };
}

-- behind one more macroblock
abbrev pub past_behind : Head → Decision → Past → Past
past_behind head d past =
    past_with d
    (predictor_behind head d 0 0 (vector past.forward_vector.x past.forward_vector.y))
    (predictor_behind head d 1 0 (vector past.backward_vector.x past.backward_vector.y))

abbrev pub is_legal_at : Head → ℕ → Past → Bool → Decision → Bool
is_legal_at head place past last d =
    (not (place % head.mb_wide == 0) || d.slice_start)
    && is_legal head
    (seen_by past (place % head.mb_wide) (place / head.mb_wide)) last d

unfoldable pub are_legal_from : Head → ℕ → Past → List Decision → Bool
are_legal_from head place past [] = true
are_legal_from head place past (d ∷ later) =
    is_legal_at head place (past_in_slice d past) (ends_slice later) d
    && are_legal_from head (place + 1) (past_behind head d (past_in_slice d past)) later

abbrev pub are_legal : Head → List Decision → Bool
are_legal head decisions = are_legal_from head 0 no_past decisions
