-- What is written for the frames of a file, step by step of the coding plan, and the pictures that this decodes to.
-- Lists of steps have the last one first.
use Rattle.std.specs.Prelude.{ℕ, ◌+◌, ◌-◌, ◌%◌, ◌/◌, ◌==◌, max, Bool, false, if◌then◌else◌, List, [], ◌∷◌, ◌++◌, length, Option, None, Some, is_some, option_map, unwrap_or, filter, map}
use Rattle.std.specs.Option.{option_map_or}
use Rattle.mv_terms.specs.declared.head.PicType.{PicType}
use Rattle.mv_terms.specs.declared.head.PicType.TheVariants.{I, B}
use Rattle.mv_terms.specs.declared.head.Context.{Context}
use Rattle.mv_terms.specs.declared.head.Head.{Head}
use Rattle.mv_terms.specs.declared.frame_header.FrameHeader.{FrameHeader}
use Rattle.mv_terms.specs.declared.macroblock.Decision.{Decision}
use Rattle.mv_terms.specs.declared.macroblock.MacroLevels.{MacroLevels}
use Rattle.mv_terms.specs.CodedPicture.{CodedPicture}
use Rattle.mv_terms.specs.PicTypes.{is_anchor}
use Rattle.mv_terms.specs.Order.{first}
use Rattle.mv_terms.specs.Ranges.{macroblock_columns, macroblock_rows}
use Rattle.mv_bits.specs.Zeros.{zero_bytes}
use Rattle.mv_heads.specs.HeadElements.{sequence_bytes}
use Rattle.mv_heads.specs.Written.{written_context, written_group, written_head}
use Rattle.mv_units.specs.Written.{end_bytes}
use Rattle.mv_slices.specs.Canonical.{settled, canonical_slices, canonical_tail}
use Rattle.mv_planes.specs.Planes.{Planes}
use Rattle.mv_planes.specs.References.{DecodedPicture, references}
use Rattle.mv_recon.specs.Decoded.{decoded_behind}
use Rattle.cert_requant.specs.Requantised.{requantised}
use Rattle.rec_bury.specs.Exhumed.{source_of}
use Rattle.rec_legal.specs.FoundRecord.{FoundRecord}
use Rattle.enc_fresh.specs.Fresh.{default_context, fresh_head, fresh_decisions, is_progressive}
use Rattle.enc_glue.specs.Glue.{glue}
use Rattle.plan_window.specs.declared.summary.Step.{Step}
use Rattle.plan_window.specs.declared.summary.Mode.{Mode}
use Rattle.plan_window.specs.declared.summary.Mode.TheVariants as mode

-- how the frames of a file are coded: the header of the file, the quantiser scale code of fresh pictures, and what record
-- is found in a frame
pub record Recoding : Type 0 where
  pub header : FrameHeader
  pub scale : ℕ
  pub find : List ℕ → Option FoundRecord

-- a step of the plan with its frame
pub record FrameStep : Type 0 where
  pub step : Step
  pub frame : List ℕ

-- a sequence part: its bytes, and what they say
pub record Target : Type 0 where
  pub bytes : List ℕ
  pub context : Context

-- What stands in front of the slices of a picture, what the picture is coded by, and how many zero bytes stand behind its
-- slices at least.
pub record Front : Type 0 where
  pub prefix : List ℕ
  pub head_bytes : List ℕ
  pub head : Head
  pub decisions : List Decision
  pub zeros : ℕ

-- A step that was coded: its frame and whether it is an anchor, the sequence part that it is read under, what is written
-- for it, how its picture is coded, and what that decodes to.
pub record CodedStep : Type 0 where
  pub frame : ℕ
  pub anchor : Bool
  pub guide : Option FoundRecord
  pub target : Target
  pub bytes : List ℕ
  pub coded : CodedPicture
  pub decoded : DecodedPicture

-- the pictures that were decoded
abbrev pub pictures_of_steps : List CodedStep → List DecodedPicture
pictures_of_steps steps = map (λ s. s.decoded) steps

-- the anchor that was coded last
abbrev pub anchor_before : List CodedStep → Option CodedStep
anchor_before before = first (filter (λ s. s.anchor) before)

-- ---- the sequence part

-- the sequence part in force: that of the anchor that was coded last
abbrev pub in_force : List CodedStep → Option Target
in_force before = option_map (λ s. s.target) (anchor_before before)

-- its bytes, none where none is in force
abbrev pub bytes_in_force : List CodedStep → List ℕ
bytes_in_force before = option_map_or (λ t. t.bytes) (in_force before) []

abbrev pub default_target : FrameHeader → Target
default_target header = record {
  bytes = written_context (default_context header);
  context = default_context header;
}

-- What a frame is to be read under: the sequence part of its own anchor record, or else the one in force, or else the
-- default one.
abbrev pub target_of : FrameHeader → Option FoundRecord → List CodedStep → Target
target_of header None before = unwrap_or (in_force before) (default_target header)
target_of header (Some r) before =
    if is_anchor r.sheet.pic
    then record { bytes = r.sheet.context; context = r.context }
    else unwrap_or (in_force before) (default_target header)

-- the sequence part that a frame with such a record has of its own: that of an anchor record
abbrev pub own_target : Option FoundRecord → Option Target
own_target None = None
own_target (Some r) =
    if is_anchor r.sheet.pic
    then Some (record { bytes = r.sheet.context; context = r.context })
    else None

-- what a picture with a sequence part of its own, or without one, is to be read under
abbrev pub target_under : FrameHeader → Option Target → List CodedStep → Target
target_under header own before = unwrap_or own (target_of header None before)

-- a record's prefix has a sequence part of its own
abbrev pub has_own_sequence : Option FoundRecord → Bool
has_own_sequence guide = option_map_or (λ r. is_some (sequence_bytes r.sheet.prefix)) guide false

-- the sequence part that is repeated in front of a step; a B has the one in force
abbrev pub glue_of : Bool → Option FoundRecord → List CodedStep → Target → List ℕ
glue_of anchor guide before target =
    if anchor then glue (bytes_in_force before) target.bytes (has_own_sequence guide) else []

-- ---- what stands in front of the slices

-- an anchor is coded anew as an I picture, and a B as a B picture of intra macroblocks
abbrev pub fresh_type : Bool → PicType
fresh_type anchor = if anchor then I else B

-- how many frames before this one have no step yet: the group of an anchor
abbrev pub group_size : ℕ → List CodedStep → ℕ
group_size frame before = frame - length before

-- temporal_reference (H.262, 6.3.9): of an I picture the size of its group; of a B picture that of its group's anchor less
-- the distance to it
abbrev pub fresh_temporal : Bool → ℕ → List CodedStep → ℕ
fresh_temporal anchor frame before =
    if anchor then group_size frame before % 1024
    else option_map_or (λ a. (a.coded.head.temporal + 1024 - (a.frame - frame)) % 1024)
    (anchor_before before) 0

-- an anchor begins a group of pictures
abbrev pub fresh_prefix : Bool → ℕ → List CodedStep → List ℕ
fresh_prefix anchor frame before =
    if anchor then written_group (group_size frame before == 0) else []

-- in a file with this header, with this scale code
abbrev pub front_under : FrameHeader → ℕ → List ℕ → Head → Front
front_under header scale prefix head = record {
  prefix = prefix;
  head_bytes = written_head head (is_progressive header);
  head = head;
  decisions = fresh_decisions head scale;
  zeros = 0;
}

abbrev pub new_front : FrameHeader → ℕ → Bool → ℕ → Target → List CodedStep → Front
new_front header scale anchor frame target before =
    front_under header scale (fresh_prefix anchor frame before)
    (fresh_head header target.context (fresh_type anchor)
    (fresh_temporal anchor frame before))

abbrev pub fresh_front : Recoding → Bool → ℕ → Target → List CodedStep → Front
fresh_front r anchor frame target before =
    new_front r.header r.scale anchor frame target before

abbrev pub guided_front : FoundRecord → Front
guided_front r = record {
  prefix = r.sheet.prefix;
  head_bytes = r.sheet.head;
  head = r.head;
  decisions = r.decisions;
  zeros = r.sheet.n1;
}

-- ---- a step

-- the picture that a frame is a source of
abbrev pub source_in : FrameHeader → List ℕ → Planes
source_in header frame =
    source_of (macroblock_columns header.wide)
    (macroblock_rows header.progressive header.high) frame

-- the levels nearest to the source, predicted from the pictures that were decoded before
abbrev pub levels_of : Front → Planes → List CodedStep → List MacroLevels
levels_of front source before =
    requantised front.head front.decisions source
    (references front.head.pic front.head.mb_wide front.head.mb_high (pictures_of_steps before))

-- how a picture is coded with these levels
abbrev pub coded_with : Front → List MacroLevels → CodedPicture
coded_with front levels = record {
  head = front.head;
  decisions = settled front.head front.decisions levels;
  levels = levels;
}

-- its bytes: in front of the slices, the slices, and zero bytes: those of their tail at least
abbrev pub bytes_with : Front → List MacroLevels → List ℕ
bytes_with front levels =
    front.prefix
    ++ (front.head_bytes
    ++ (canonical_slices front.head front.decisions levels
    ++ zero_bytes (max front.zeros (canonical_tail front.head front.decisions levels))))

-- a step with this front and these levels
abbrev pub step_with : Step → Option FoundRecord → Target → Front → List MacroLevels
    → List CodedStep → CodedStep
step_with step guide target front levels before = record {
  frame = step.frame;
  anchor = step.anchor;
  guide = guide;
  target = target;
  bytes = glue_of step.anchor guide before target ++ bytes_with front levels;
  coded = coded_with front levels;
  decoded = decoded_behind (pictures_of_steps before) (coded_with front levels);
}

-- a step by this front, from this source
abbrev pub step_from : Step → Option FoundRecord → Target → Front → Planes → List CodedStep
    → CodedStep
step_from step guide target front source before =
    step_with step guide target front (levels_of front source before) before

-- THE PICTURE of a frame that is coded by a record, wherever that comes from, from a source: an anchor by a record of type I
-- or P;
abbrev pub guided_picture : FrameHeader → ℕ → FoundRecord → Planes → List CodedStep → CodedStep
guided_picture header frame guide source before =
    step_from (record { frame = frame; anchor = is_anchor guide.sheet.pic; mode = mode.Guided })
    (Some guide) (target_of header (Some guide) before) (guided_front guide) source before

-- and of one that is coded anew, with this scale code, under its own sequence part or the one in force.
abbrev pub fresh_picture : FrameHeader → ℕ → ℕ → Bool → Option Target → Planes
    → List CodedStep → CodedStep
fresh_picture header scale frame anchor own source before =
    step_from (record { frame = frame; anchor = anchor; mode = mode.Fresh })
    None (target_under header own before)
    (new_front header scale anchor frame (target_under header own before) before) source before

-- a step by this front, from the picture that its frame is a source of
abbrev pub step_by : Recoding → FrameStep → Option FoundRecord → Target → Front
    → List CodedStep → CodedStep
step_by r s guide target front before =
    step_from s.step guide target front (source_in r.header s.frame) before

-- the record that a frame is coded by
abbrev pub guide_by : Mode → Option FoundRecord → Option FoundRecord
guide_by mode.Guided found = found
guide_by mode.Fresh found = None

-- what a frame is coded by: its record, or anew
abbrev pub front_of : Recoding → FrameStep → Option FoundRecord → Target → List CodedStep
    → Front
front_of r s None target before = fresh_front r s.step.anchor s.step.frame target before
front_of r s (Some guide) target before = guided_front guide

unfoldable pub coded_step : Recoding → FrameStep → List CodedStep → CodedStep
coded_step r s before =
    let found = r.find s.frame in
    let guide = guide_by s.step.mode found in
    let target = target_of r.header found before in
    step_by r s guide target (front_of r s guide target before) before

-- all steps
unfoldable pub coded_steps : Recoding → List FrameStep → List CodedStep
coded_steps r [] = []
coded_steps r (s ∷ before) = coded_step r s (coded_steps r before) ∷ coded_steps r before

-- ---- the stream

-- what steps write, in their order
abbrev pub bytes_of_steps : List CodedStep → List ℕ
bytes_of_steps [] = []
bytes_of_steps (s ∷ before) = bytes_of_steps before ++ s.bytes

-- flag 16 of a sheet: an end code stands behind the picture
abbrev pub has_end : FoundRecord → Bool
has_end r = r.sheet.flags / 16 % 2 == 1

-- the end code of the last step's record and the zero bytes behind it, where the last step has them
abbrev pub ending_of : List CodedStep → List ℕ
ending_of [] = []
ending_of (s ∷ before) =
    option_map_or (λ r. if has_end r then end_bytes (Some r.sheet.n2) else []) s.guide []
