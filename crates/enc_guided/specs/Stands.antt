-- What a coder of pictures and a recoder stand for: the pictures and the steps that they coded, the last one first; and what
-- the next one asks.
use Rattle.std.specs.Prelude.{◌≡◌, ℕ, ◌+◌, ◌*◌, ◌^◌, ◌<◌, ◌≤◌, Bool, true, false, List, [], ◌∷◌, length, map, if◌then◌else◌, Option, None, Some, Ok, option_map, IfSome, IsSomeAnd, ⊤}
use Rattle.std.specs.Option.{option_map_or}
use Rattle.mv_terms.specs.declared.frame_header.FrameHeader.{FrameHeader}
use Rattle.mv_terms.specs.PicTypes.{is_anchor}
use Rattle.mv_terms.specs.Ranges.{IsContext, IsFrameHeader, IsScaleCode, macroblock_columns, macroblock_rows}
use Rattle.mv_bits.specs.Elements.{cut}
use Rattle.mv_bits.specs.Receivers.{Kept, KeepsFirst}
use Rattle.mv_heads.specs.declared.sequence_header.CodedSize.{CodedSize}
use Rattle.mv_heads.specs.Headers.{coded_size}
use Rattle.mv_heads.specs.HeadElements.{context_of}
use Rattle.mv_macro.specs.Legal.{AreLegalDecisions}
use Rattle.mv_planes.specs.Planes.{Planes}
use Rattle.mv_store.specs.Stored.{HasCommitted, IsOfSize, StandsFor as IsStoreOf}
use Rattle.rec_bury.specs.Exhumed.{HasTenBits}
use Rattle.rec_legal.specs.FoundRecord.{FoundRecord}
use Rattle.rec_legal.specs.Conditions.{HasHeaders, HasLegalFlags, file_size}
use Rattle.rec_legal.specs.Laws.{HasLegalHeaders}
use Rattle.rec_reader.specs.declared.reader.Found.{Found}
use Rattle.rec_reader.specs.Lent.{lent_found}
use Rattle.rec_reader.specs.Right.{IsRight}
use Rattle.plan_window.specs.declared.summary.Step.{Step}
use Rattle.plan_window.specs.declared.summary.Mode.TheVariants.{Guided, Fresh}
use Rattle.plan_window.specs.Fits.{Fits, Planned}
use Rattle.enc_guided.specs.declared.front.Anchor.{Anchor}
use Rattle.enc_guided.specs.declared.part.Part.{Part}
use Rattle.enc_guided.specs.declared.coder.PictureCoder.{PictureCoder}
use Rattle.enc_guided.specs.declared.recoder.Recoder.{Recoder}
use Rattle.enc_guided.specs.FileSteps.{summary_in}
use Rattle.enc_guided.specs.Recoded.{Recoding, FrameStep, CodedStep, Target, coded_steps, pictures_of_steps, anchor_before, target_of, has_end}

abbrev pub frame_step : Step → List ℕ → FrameStep
frame_step step frame = record { step = step; frame = frame }

-- the size in macroblocks of the frames of a file
abbrev pub wide_of : FrameHeader → ℕ
wide_of header = macroblock_columns header.wide

abbrev pub high_of : FrameHeader → ℕ
high_of header = macroblock_rows header.progressive header.high

abbrev pub macroblocks_of : FrameHeader → ℕ
macroblocks_of header = wide_of header * high_of header

-- ---- what a recoder knows

-- the frame of an anchor, and its temporal_reference
abbrev pub anchor_of : CodedStep → Anchor
anchor_of s = record { frame = s.frame; temporal = s.coded.head.temporal }

abbrev pub last_of : List CodedStep → Option Anchor
last_of steps = option_map anchor_of (anchor_before steps)

abbrev pub HasLegalTemporal : Option Anchor → Type 0
HasLegalTemporal None = Unit {0}
HasLegalTemporal (Some a) = a.temporal < 1024

-- how many zero bytes stand behind the end code of the record of the last step, where it has one
abbrev pub zeros_of : FoundRecord → Option ℕ
zeros_of r = if has_end r then Some r.sheet.n2 else None

abbrev pub zeros_by : Option FoundRecord → Option ℕ
zeros_by guide = option_map_or zeros_of guide None

abbrev pub last_zeros : List CodedStep → Option ℕ
last_zeros [] = None
last_zeros (s ∷ before) = zeros_by s.guide

-- something was put into a room of this size
abbrev pub IsRoom : ℕ → Kept → Type 0
IsRoom room kept = (put : List ℕ) × KeepsFirst kept room put

-- the store has the pictures of these steps, of which the last one is at hand
abbrev pub HoldsPictures : PictureCoder → List CodedStep → Type 0
HoldsPictures coder [] =
    IsStoreOf (wide_of coder.header) (high_of coder.header) coder.store []
HoldsPictures coder (s ∷ before) =
    HasCommitted (wide_of coder.header) (high_of coder.header) coder.store s.decoded
    (pictures_of_steps before)
    × (coder.pic ≡ s.decoded.pic)

-- The coder of a file with this header and this scale code knows what these pictures leave to the next one: the sequence
-- part, the decoded pictures, the last anchor. It has room for what is coded.
pub record HasCoded (coder : PictureCoder) (file : FrameHeader) (code : ℕ) (steps : List CodedStep)
    : Type 0 where
  pub header : coder.header ≡ file
  pub scale : coder.scale ≡ code
  pub is_header : IsFrameHeader coder.header
  pub is_scale : IsScaleCode coder.scale
  -- the sequence part that a picture without one of its own is read under
  pub part : KeepsFirst coder.part 65536 (target_of file None steps).bytes
  pub few_bytes : length (target_of file None steps).bytes ≤ 65536
  pub context : coder.context ≡ (target_of file None steps).context
  pub is_context : IsContext coder.context
  pub pictures : HoldsPictures coder steps
  pub count : coder.count ≡ length steps
  pub anchor : coder.anchor ≡ last_of steps
  pub temporal : HasLegalTemporal coder.anchor
  pub ending : coder.end ≡ last_zeros steps
  -- its room
  pub decisions : length coder.decisions.items ≡ macroblocks_of coder.header
  pub levels : length coder.levels.items ≡ macroblocks_of coder.header
  pub front : IsRoom 26 coder.front
  pub slices : IsRoom (1200 * macroblocks_of coder.header) coder.slices

-- A recoder stands for the steps that it coded. It has room for a picture that a frame is a source of.
abbrev pub StandsFor : Recoder → Recoding → List FrameStep → Type 0
StandsFor recoder r steps =
    HasCoded recoder.coder r.header r.scale (coded_steps r steps)
    × IsOfSize (wide_of r.header) (high_of r.header) recoder.source

-- ---- what a picture asks

-- A picture of this size can be coded by this record, as by one that is found in a frame, wherever it comes from. (That its
-- headers are in their ranges follows from how they read.)
pub record CanBeCoded (size : CodedSize) (r : FoundRecord) : Type 0 where
  pub few_bytes : length r.sheet.context < 65536
  pub headers : HasHeaders size r.sheet r.context r.head
  pub ranges : HasLegalHeaders size r
  pub flags : HasLegalFlags r.sheet r.decisions
  pub legal : AreLegalDecisions r.head r.decisions

-- the sequence part of an anchor is that of a record
abbrev pub HasContextOf : FoundRecord → CodedStep → Type 0
HasContextOf r anchor = anchor.target.bytes ≡ r.sheet.context

-- A picture that is coded by a record, from a source, behind those before it: behind an anchor with the sequence part of the
-- record, where it is a B.
pub record MayBeGuided (file : FrameHeader) (before : List CodedStep) (guide : FoundRecord)
    (source : Planes) : Type 0 where
  pub can : CanBeCoded (file_size file) guide
  pub b : is_anchor guide.sheet.pic ≡ false
      → IsSomeAnd (anchor_before before) (HasContextOf guide)
  pub size : IsOfSize (wide_of file) (high_of file) source
  pub few : length before < 2 ^ 44

-- the sequence part that is lent
abbrev pub lent_part : Part → Target
lent_part part = record { bytes = part.bytes.now; context = part.context }

-- a sequence part for pictures of this size
pub record IsSequencePart (size : CodedSize) (t : Target) : Type 0 where
  pub few_bytes : length t.bytes < 65536
  pub reads : context_of (cut t.bytes) ≡ Ok t.context
  pub same_size : coded_size t.context ≡ size
  pub range : IsContext t.context

-- A B comes before its anchor is shown, at most so many frames as a plan looks ahead, and not where low_delay is 1.
pub record IsShownBefore (frame : ℕ) (anchor : CodedStep) : Type 0 where
  pub later : frame < anchor.frame
  pub near : anchor.frame ≤ frame + 16
  pub delay : anchor.target.context.low_delay ≡ false

-- A picture that is coded anew, from a source, behind those before it: an anchor with frames before it that may have no
-- picture yet, or a B behind its anchor.
pub record MayBeFresh (file : FrameHeader) (before : List CodedStep) (frame : ℕ) (anchor : Bool)
    (own : Option Target) (source : Planes) : Type 0 where
  pub part : IfSome own (IsSequencePart (file_size file))
  pub waiting : anchor ≡ true → length before ≤ frame
  pub b : anchor ≡ false → IsSomeAnd (anchor_before before) (IsShownBefore frame)
  pub size : IsOfSize (wide_of file) (high_of file) source
  pub few : length before < 2 ^ 44

-- ---- what a step asks

-- a step, with what the plan knows of its frame
abbrev pub planned_by : Recoding → FrameStep → Planned
planned_by r s = record { step = s.step; summary = summary_in r s.frame }

-- A step of a plan with its frame, behind the steps before it: it fits there; what is found in the frame can be coded; and
-- the frame has two bytes for each 10-bit sample of its macroblocks.
pub record IsStep (r : Recoding) (before : List FrameStep) (s : FrameStep) : Type 0 where
  pub fits : Fits (map (planned_by r) before) (planned_by r s)
  pub right : IfSome (r.find s.frame) (IsRight (file_size r.header))
  pub size : length s.frame ≡ 768 * macroblocks_of r.header
  pub samples : HasTenBits s.frame
  pub few : length before < 2 ^ 44

-- each of these steps, the last one first, behind those before it
abbrev pub AreSteps : Recoding → List FrameStep → Type 0
AreSteps r [] = ⊤
AreSteps r (s ∷ before) = IsStep r before s × AreSteps r before

-- This is what was found in the frame of a step, as it is lent.
abbrev pub IsFoundIn : Recoding → FrameStep → Option Found → Type 0
IsFoundIn r s found = r.find s.frame ≡ option_map lent_found found

-- a step that is coded by the record of its frame
pub record IsGuidedStep (r : Recoding) (before : List FrameStep) (s : FrameStep)
    (found : Found) : Type 0 where
  pub mode : s.step.mode ≡ Guided
  pub found_is : IsFoundIn r s (Some found)
  pub step : IsStep r before s

-- a step that is coded anew, whether its frame has a record or not
pub record IsFreshStep (r : Recoding) (before : List FrameStep) (s : FrameStep)
    (found : Option Found) : Type 0 where
  pub mode : s.step.mode ≡ Fresh
  pub found_is : IsFoundIn r s found
  pub step : IsStep r before s
