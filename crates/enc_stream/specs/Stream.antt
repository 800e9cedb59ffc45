-- What the stream is that is written for steps: in the profile, and of the pictures of the steps.
use Rattle.std.specs.Prelude.{◌≡◌, ◌≢◌, ℕ, ◌*◌, ◌^◌, ◌≤◌, false, List, [], ◌∷◌, length, map, reverse, slice_get, None, Some, ⊤}
use Rattle.std.specs.List.{range_with_len}
use Rattle.mv_terms.specs.declared.head.PicType.{PicType}
use Rattle.mv_terms.specs.CodedPicture.{CodedPicture}
use Rattle.mv_terms.specs.Order.{display_order}
use Rattle.mv_terms.specs.Ranges.{IsFrameHeader, IsScaleCode}
use Rattle.mv_recon.specs.Decoded.{pictures_of}
use Rattle.mv_units.specs.Profile.{CodedUnit, HasUnitsIn, IsInProfile}
use Rattle.plan_window.specs.Fits.{frames_of, step_type}
use Rattle.plan_window.specs.Links.{is_anchor_record}
use Rattle.enc_guided.specs.Recoded.{Recoding, FrameStep, CodedStep, coded_steps, pictures_of_steps}
use Rattle.enc_guided.specs.FileSteps.{recoded_frames, recoding_by_records, steps_of_frames, stream_of_steps, summary_in}
use Rattle.enc_guided.specs.Stands.{AreSteps, macroblocks_of}
use Rattle.rec_bury.specs.Exhumed.{HasTenBits}
use Rattle.mv_terms.specs.declared.frame_header.FrameHeader.{FrameHeader}

-- the pictures of units, and of steps, as they are coded
abbrev pub coded_by_units : List CodedUnit → List CodedPicture
coded_by_units units = map (λ (u : CodedUnit). u.picture) units

abbrev pub coded_by_steps : List CodedStep → List CodedPicture
coded_by_steps steps = map (λ (s : CodedStep). s.coded) steps

-- The bytes are a stream, no unit of which is refused, whose pictures are coded as those of the steps and decode to them.
pub record IsStreamOf (steps : List CodedStep) (bytes : List ℕ) : Type 0 where
  pub units : List CodedUnit
  pub in_profile : (room : ℕ) → length bytes ≤ room
      → HasUnitsIn room bytes (record { units = units; refusal = None })
  pub coded : coded_by_units units ≡ coded_by_steps steps
  pub decoded : pictures_of (coded_by_units units) ≡ pictures_of_steps steps

-- LAW: such a stream is in the profile.
abbrev pub StreamsAreInProfile : Type 0
StreamsAreInProfile =
    (steps : List CodedStep) (bytes : List ℕ) → IsStreamOf steps bytes → IsInProfile bytes

-- A frame with an anchor record is an anchor, as in each plan.
abbrev pub IsAnchorWhereRecorded : Recoding → FrameStep → Type 0
IsAnchorWhereRecorded r s =
    s.step.anchor ≡ false → is_anchor_record (summary_in r s.frame) ≡ false

abbrev pub AreAnchorsWhereRecorded : Recoding → List FrameStep → Type 0
AreAnchorsWhereRecorded r [] = ⊤
AreAnchorsWhereRecorded r (s ∷ before) =
    IsAnchorWhereRecorded r s × AreAnchorsWhereRecorded r before

-- LAWS: one step or more, guided and fresh, are written as a stream, whatever their records say;
abbrev pub StepsAreStream : Type 0
StepsAreStream =
    (r : Recoding) (s : FrameStep) (before : List FrameStep)
    → IsFrameHeader r.header → IsScaleCode r.scale
    → AreSteps r (s ∷ before) → AreAnchorsWhereRecorded r (s ∷ before)
    → IsStreamOf (coded_steps r (s ∷ before)) (stream_of_steps (coded_steps r (s ∷ before)))

-- no steps are written as nothing;
abbrev pub NoStepsAreNothing : Type 0
NoStepsAreNothing = (r : Recoding) → stream_of_steps (coded_steps r []) ≡ []

-- and the pictures of any steps are what their coded pictures decode to.
abbrev pub StepsHaveTheirPictures : Type 0
StepsHaveTheirPictures =
    (r : Recoding) (steps : List FrameStep)
    → pictures_of_steps (coded_steps r steps) ≡ pictures_of (coded_by_steps (coded_steps r steps))

-- what a picture of a step is coded as
abbrev pub coded_type : CodedStep → PicType
coded_type s = s.coded.head.pic

-- the frames of steps that were coded
abbrev pub frames_of_steps : List CodedStep → List ℕ
frames_of_steps steps = map (λ (s : CodedStep). s.frame) steps

-- LAW: the pictures are shown in the order in which those of the plan are.
abbrev pub StepsAreShown : Type 0
StepsAreShown =
    (r : Recoding) (steps : List FrameStep) → AreSteps r steps
    → frames_of_steps (display_order coded_type (reverse (coded_steps r steps)))
    ≡ frames_of (display_order step_type (reverse (map (λ (s : FrameStep). s.step) steps)))

-- ---- the frames of a file

-- each has two bytes for each 10-bit sample of its macroblocks
abbrev pub HaveSamples : FrameHeader → List (List ℕ) → Type 0
HaveSamples header frames = (i : ℕ) (frame : List ℕ) → slice_get frames i ≡ Some frame
    → (length frame ≡ 768 * macroblocks_of header) × HasTenBits frame

-- LAWS: frames, one or more, whatever they are, are recoded to a stream in the profile, no unit of which is refused, and
-- its coded pictures are those of the steps of their plan;
abbrev pub FramesAreStream : Type 0
FramesAreStream =
    (scale : ℕ) (header : FrameHeader) (frames : List (List ℕ))
    → IsScaleCode scale → IsFrameHeader header → HaveSamples header frames
    → frames ≢ [] → length frames ≤ 2 ^ 44
    → IsStreamOf
    (coded_steps (recoding_by_records scale header)
    (steps_of_frames (recoding_by_records scale header) frames))
    (recoded_frames (recoding_by_records scale header) frames)

-- these are shown in the order of the frames.
abbrev pub FramesAreShown : Type 0
FramesAreShown =
    (scale : ℕ) (header : FrameHeader) (frames : List (List ℕ))
    → IsFrameHeader header → HaveSamples header frames → length frames ≤ 2 ^ 44
    → frames_of_steps (display_order coded_type (reverse
    (coded_steps (recoding_by_records scale header)
    (steps_of_frames (recoding_by_records scale header) frames))))
    ≡ range_with_len 0 (length frames)
