-- How far the pictures of frames that are coded anew lie from the frames.
use Rattle.std.specs.Prelude.{◌≡◌, ℕ, ◌*◌, ◌<◌, ◌≤◌, true, List, ◌∷◌, ◌++◌, length, Some}
use Rattle.mv_terms.specs.declared.head.Context.{Context}
use Rattle.mv_terms.specs.declared.frame_header.FrameHeader.{FrameHeader}
use Rattle.mv_terms.specs.Ranges.{IsFrameHeader, macroblock_columns, macroblock_rows}
use Rattle.mv_quant.specs.declared.Kind.{Kind}
use Rattle.mv_quant.specs.Macroblocks.{kind_of}
use Rattle.mv_macro.specs.Legal.{AreLegalDecisions}
use Rattle.cert_requant.specs.Requantised.{block_part}
use Rattle.rec_legal.specs.FoundRecord.{FoundRecord}
use Rattle.rec_bury.specs.Exhumed.{HasTenBits}
use Rattle.enc_fresh.specs.Fresh.{default_context}
use Rattle.plan_window.specs.declared.summary.Mode.TheVariants.{Fresh, Guided}
use Rattle.enc_guided.specs.Recoded.{Recoding, FrameStep, CodedStep, coded_step, coded_steps, source_in}
use Rattle.enc_guided.specs.FileSteps.{recoding_by_records, steps_of_frames}
use Rattle.enc_guided.specs.Stands.{macroblocks_of}
use Rattle.enc_stream.specs.Stream.{HaveSamples}
use Rattle.enc_near.specs.Blocks.{IsFine, AreClose}
use Rattle.enc_near.specs.Pictures.{IsNear, decision_in, samples_in}

-- how the blocks of a fresh picture are quantised: intra, with the matrix of the sequence, the linear scale, and DC levels
-- of the least precision
abbrev pub fresh_kind : Context → ℕ → Kind
fresh_kind context scale = record {
  intra = true;
  scale = 2 * scale;
  dc_precision = 0;
  matrix = context.matrices.intra;
}

-- how a step was quantised, if it was coded anew
abbrev pub kind_of_step : Recoding → CodedStep → Kind
kind_of_step r s = fresh_kind s.target.context r.scale

-- A step is near its frame, if it was coded anew, and where its values lie close enough.
abbrev pub IsNearFrame : Recoding → FrameStep → List CodedStep → Type 0
IsNearFrame r s before =
    let coded = coded_step r s before in
    s.step.mode ≡ Fresh → IsFine (kind_of_step r coded)
    → IsNear (kind_of_step r coded) (source_in r.header s.frame) coded.decoded.picture

-- LAWS: what a frame that is coded anew decodes to is near it, whatever was coded before it;
abbrev pub FreshStepIsNear : Type 0
FreshStepIsNear = (r : Recoding) (s : FrameStep) (before : List CodedStep)
    → IsFrameHeader r.header → length s.frame ≡ 768 * macroblocks_of r.header
    → HasTenBits s.frame → IsNearFrame r s before

-- so it is for each such frame of a file;
abbrev pub FreshFramesAreNear : Type 0
FreshFramesAreNear = (scale : ℕ) (header : FrameHeader) (frames : List (List ℕ))
    (later before : List FrameStep) (s : FrameStep)
    → IsFrameHeader header → HaveSamples header frames
    → steps_of_frames (recoding_by_records scale header) frames ≡ later ++ s ∷ before
    → IsNearFrame (recoding_by_records scale header) s
    (coded_steps (recoding_by_records scale header) before)

-- and with the default matrices the values of every scale code lie close enough.
abbrev pub DefaultIsFine : Type 0
DefaultIsFine = (file : FrameHeader) (scale : ℕ) → 0 < scale
    → IsFine (fresh_kind (default_context file) scale)

-- ---- frames that are coded by their records

-- each block of a step's picture is near that of its frame, where its values reach as far as coefficients do
abbrev pub IsNearByRecord : Recoding → FrameStep → List CodedStep → FoundRecord → Type 0
IsNearByRecord r s before g =
    let coded = coded_step r s before in
    (mb_x mb_y b : ℕ) → mb_x < g.head.mb_wide → mb_y < g.head.mb_high → b < 6
    → let d = decision_in g.head g.decisions mb_x mb_y in
    let part = block_part d mb_x mb_y b in
    IsFine (kind_of g.head d) → AreClose (kind_of g.head d)
    (samples_in (source_in r.header s.frame) part) (samples_in coded.decoded.picture part)

-- a record by which a frame of this size can be coded
pub record MayGuide (r : Recoding) (g : FoundRecord) : Type 0 where
  pub wide : g.head.mb_wide ≡ macroblock_columns r.header.wide
  pub high : g.head.mb_high ≡ macroblock_rows r.header.progressive r.header.high
  pub precision : g.head.dc_precision ≤ 3
  pub legal : AreLegalDecisions g.head g.decisions

-- LAW: what a frame that is coded by its record decodes to is near it, whatever its references have become.
abbrev pub GuidedStepIsNear : Type 0
GuidedStepIsNear = (r : Recoding) (s : FrameStep) (before : List FrameStep) (g : FoundRecord)
    → length s.frame ≡ 768 * macroblocks_of r.header → HasTenBits s.frame
    → s.step.mode ≡ Guided → r.find s.frame ≡ Some g → MayGuide r g
    → IsNearByRecord r s (coded_steps r before) g

-- LAW: so it is for each frame of a file that is coded by the record that is found in it.
abbrev pub GuidedFramesAreNear : Type 0
GuidedFramesAreNear = (scale : ℕ) (header : FrameHeader) (frames : List (List ℕ))
    (later before : List FrameStep) (s : FrameStep) (g : FoundRecord)
    → IsFrameHeader header → HaveSamples header frames
    → steps_of_frames (recoding_by_records scale header) frames ≡ later ++ s ∷ before
    → s.step.mode ≡ Guided → (recoding_by_records scale header).find s.frame ≡ Some g
    → IsNearByRecord (recoding_by_records scale header) s
    (coded_steps (recoding_by_records scale header) before) g
