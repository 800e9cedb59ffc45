-- What a step by a record decodes to is near its frame.
use Rattle.std.proofs.Common.{◌≡◌, ◌∙◌, ℕ, zero, suc, ◌+◌, ◌*◌, ◌/◌, ◌%◌, ◌<◌, ◌≤◌, min, Bool, true, false, List, [], ◌∷◌, ◌++◌, length, get_or, map, replicate, slice_index, Option, None, Some, ℤ, pos, negsuc, ◌+ℤ◌, refl, ap, sym, subst, arith, All, ⊎_elim}
use Rattle.std.specs.List.{range_with_len}
use Rattle.std.specs.Prelude.{if◌then◌else◌}
use Rattle.std.proofs.lemmas.Bool.{cases_lt}
use Rattle.std.proofs.lemmas.List.Elements.{All-append, All-get_or, All-from_get_or}
use Rattle.std.proofs.lemmas.List.FromFn.{get_or-map-range_with_len, length-map-range_with_len}
use Rattle.mv_terms.specs.declared.head.Head.{Head}
use Rattle.mv_terms.specs.declared.head.PicType.{PicType}
use Rattle.mv_terms.specs.declared.head.PicType.TheVariants as pic
use Rattle.mv_terms.specs.declared.macroblock.Decision.{Decision}
use Rattle.mv_terms.specs.declared.macroblock.MacroLevels.{MacroLevels}
use Rattle.mv_terms.specs.CodedPicture.{CodedPicture}
use Rattle.mv_terms.specs.Order.{anchors, first, second}
use Rattle.mv_planes.specs.declared.picture.Plane.{Plane}
use Rattle.mv_planes.specs.declared.picture.Plane.TheVariants.{Y, Cb, Cr}
use Rattle.mv_planes.specs.Planes.{Planes, grey_of}
use Rattle.mv_planes.specs.Raster.{raster, picture_of, plane_samples}
use Rattle.mv_planes.specs.References.{DecodedPicture, References, references, last_anchor, older_anchor, or_grey, type_of}
use Rattle.mv_recon.specs.Pictures.{clipped, sample_at, residual_of, prediction_from, picture_with, picture_from}
use Rattle.mv_settled.specs.Settling.{SettlingKeepsPicture}
use Rattle.mv_slices.specs.Canonical.{settled}
use Rattle.rec_legal.specs.FoundRecord.{FoundRecord}
use Rattle.cert_requant.specs.Requantised.{requantised, block_part}
use Rattle.cert_requant.specs.Steps.{HasBytes}
use Rattle.plan_window.specs.declared.summary.Mode.TheVariants.{Guided}
use Rattle.enc_guided.specs.Recoded.{Recoding, FrameStep, CodedStep, Front, Target, coded_step, coded_steps, guided_front, levels_of, pictures_of_steps, source_in, step_by, target_of}
use Rattle.mv_recon.specs.Decoded.{references_behind}
use Rattle.mv_terms.specs.PicTypes.{is_anchor}
use Rattle.mv_quant.specs.Macroblocks.{kind_of}
use Rattle.mv_macro.specs.Legal.{AreLegalDecisions}
use Rattle.enc_near.specs.Blocks.{AreClose}
use Rattle.enc_near.specs.Pictures.{coded_from, decision_in, samples_in}
use Rattle.enc_near.proofs.PictureLemmas.{part_is_near}
use Rattle.mv_terms.specs.declared.frame_header.FrameHeader.{FrameHeader}
use Rattle.mv_terms.specs.Ranges.{IsFrameHeader, macroblock_columns, macroblock_rows, row_lines}
use Rattle.rec_legal.specs.Conditions.{file_size}
use Rattle.rec_legal.specs.Laws.{SaidIsLegal}
use Rattle.rec_reader.specs.Right.{FoundIsRight, IsRight}
use Rattle.enc_guided.specs.FileSteps.{recoding_by_records, steps_of_frames}
use Rattle.enc_stream.specs.Stream.{HaveSamples}
use Rattle.enc_near.specs.Frames.{IsNearByRecord, MayGuide, GuidedFramesAreNear, GuidedStepIsNear}
use Rattle.enc_near.proofs.PlanLemmas.{is_frame_in}
use Rattle.enc_near.proofs.FreshLemmas.{is_source, levels_length}

-- ---- decoded samples are bytes

abbrev IsByte : ℕ → Type 0
IsByte n = n ≤ 255

clipped_fits : (z : ℤ) → clipped z ≤ 255
clipped_fits (pos n) = omega arith
clipped_fits (negsuc n) = omega arith

raster_bytes : (wide high : ℕ) (at : ℕ → ℕ → ℕ) → ((x y : ℕ) → at x y ≤ 255) → All IsByte (raster wide high at)
unfolding raster
raster_bytes wide high at h = All-from_get_or IsByte (map (λ i. at (i % wide) (i / wide)) (range_with_len 0 (wide * high))) 0
    (λ i l. subst IsByte (sym (get_or-map-range_with_len (λ i. at (i % wide) (i / wide)) 0 (wide * high) i i 0 (omega (arith, l, length-map-range_with_len (λ i. at (i % wide) (i / wide)) 0 (wide * high))) (omega arith))) (h (i % wide) (i / wide)))

outside : (xs : List ℕ) (i : ℕ) → length xs ≤ i → get_or xs i 0 ≡ 0
outside [] i h = refl
outside (x ∷ xs) zero h = absurd (omega (arith, h))
outside (x ∷ xs) (suc i) h = outside xs i (omega (arith, h))

each_byte : (xs : List ℕ) → All IsByte xs → (i : ℕ) → slice_index xs i ≤ 255
each_byte xs h i = ⊎_elim
    (λ (l : i < length xs). All-get_or IsByte xs i 0 l h)
    (λ (l : length xs ≤ i). let e = outside xs i l in omega (arith, e))
    (cases_lt i (length xs))

picture_bytes : (wide high : ℕ) (at : Plane → ℕ → ℕ → ℕ) → ((p : Plane) (x y : ℕ) → at p x y ≤ 255) → HasBytes (picture_of wide high at)
picture_bytes wide high at h place =
    each_byte (plane_samples wide high at Y ++ plane_samples wide high at Cb ++ plane_samples wide high at Cr)
    (All-append IsByte (plane_samples wide high at Y ++ plane_samples wide high at Cb) (plane_samples wide high at Cr)
    (All-append IsByte (plane_samples wide high at Y) (plane_samples wide high at Cb) (raster_bytes (16 * wide) (16 * high) (at Y) (h Y)) (raster_bytes (8 * wide) (8 * high) (at Cb) (h Cb)))
    (raster_bytes (8 * wide) (8 * high) (at Cr) (h Cr))) place

decoded_bytes : (refs : References) (coded : CodedPicture) → HasBytes (picture_from refs coded)
unfolding picture_with
decoded_bytes refs coded = picture_bytes coded.head.mb_wide coded.head.mb_high (sample_at (prediction_from refs coded) coded) (λ p x y. clipped_fits (prediction_from refs coded p x y +ℤ residual_of coded p x y))

grey_bytes : (wide high : ℕ) → HasBytes (grey_of wide high)
grey_bytes wide high place = grey_at (384 * (wide * high)) place
  where
    grey_at : (n i : ℕ) → slice_index (replicate n 128) i ≤ 255
    grey_at zero i = omega arith
    grey_at (suc n) zero = omega arith
    grey_at (suc n) (suc i) = grey_at n i

-- ---- the references of a step

abbrev AllBytes : List DecodedPicture → Type 0
AllBytes [] = Unit {0}
AllBytes (d ∷ before) = HasBytes d.picture × AllBytes before

step_coded : Recoding → FrameStep → List CodedStep → CodedPicture
step_coded r s before = (coded_step r s before).coded

step_bytes : (r : Recoding) (s : FrameStep) (before : List CodedStep) → HasBytes (coded_step r s before).decoded.picture
unfolding coded_step step_coded
step_bytes r s before = decoded_bytes (references_behind (pictures_of_steps before) (step_coded r s before)) (step_coded r s before)

steps_bytes : (r : Recoding) (steps : List FrameStep) → AllBytes (pictures_of_steps (coded_steps r steps))
unfolding coded_steps
steps_bytes r [] = tt
steps_bytes r (s ∷ before) = (step_bytes r s (coded_steps r before), steps_bytes r before)

anchors_bytes : (before : List DecodedPicture) → AllBytes before → AllBytes (anchors type_of before)
anchors_bytes [] h = tt
anchors_bytes (d ∷ before) h = by (is_anchor d.pic) (anchors_bytes before h.1)
  where
    by : (b : Bool) → AllBytes (anchors type_of before) → AllBytes (if b then d ∷ anchors type_of before else anchors type_of before)
    by true k = (h.0, k)
    by false k = k

first_bytes : (wide high : ℕ) (l : List DecodedPicture) → AllBytes l → HasBytes (or_grey wide high (first l))
first_bytes wide high [] h = grey_bytes wide high
first_bytes wide high (d ∷ l) h = h.0

second_bytes : (wide high : ℕ) (l : List DecodedPicture) → AllBytes l → HasBytes (or_grey wide high (second l))
second_bytes wide high [] h = grey_bytes wide high
second_bytes wide high (d ∷ l) h = first_bytes wide high l h.1

record AreBytePictures (refs : References) : Type 0 where
  pub forward : HasBytes refs.forward
  pub backward : HasBytes refs.backward

reference_bytes : (t : PicType) (wide high : ℕ) (before : List DecodedPicture) → AllBytes before → AreBytePictures (references t wide high before)
reference_bytes t wide high before h = by t (first_bytes wide high (anchors type_of before) (anchors_bytes before h)) (second_bytes wide high (anchors type_of before) (anchors_bytes before h))
  where
    by : (t : PicType) → HasBytes (last_anchor wide high before) → HasBytes (older_anchor wide high before) → AreBytePictures (references t wide high before)
    by pic.I a b = record { forward = a; backward = b }
    by pic.P a b = record { forward = a; backward = b }
    by pic.B a b = record { forward = b; backward = a }

-- ---- the step

guided_step : (r : Recoding) (s : FrameStep) (before : List CodedStep) (g : FoundRecord) → s.step.mode ≡ Guided → r.find s.frame ≡ Some g
    → coded_step r s before ≡ step_by r s (Some g) (target_of r.header (Some g) before) (guided_front g) before
unfolding coded_step
guided_step r s before g h found = rw (h, found) refl

guided_picture : SettlingKeepsPicture → (r : Recoding) (s : FrameStep) (before : List CodedStep) (g : FoundRecord) → s.step.mode ≡ Guided → r.find s.frame ≡ Some g → AreLegalDecisions g.head g.decisions
    → let refs : References = references g.head.pic g.head.mb_wide g.head.mb_high (pictures_of_steps before) in
    (coded_step r s before).decoded.picture ≡ picture_from refs (coded_from g.head g.decisions (source_in r.header s.frame) refs)
guided_picture keeps r s before g h found legal =
    let refs : References = references g.head.pic g.head.mb_wide g.head.mb_high (pictures_of_steps before) in
    let source : Planes = source_in r.header s.frame in
    ap (λ (c : CodedStep). c.decoded.picture) (guided_step r s before g h found)
    ∙ keeps g.head g.decisions (requantised g.head g.decisions source refs) refs legal (levels_length g.head g.decisions source refs)

pub guided_step_is_near : SettlingKeepsPicture → GuidedStepIsNear
guided_step_is_near keeps r s before g size bits guided found may mb_x mb_y b hx hy hb fine =
    let done : List CodedStep = coded_steps r before in
    let refs : References = references g.head.pic g.head.mb_wide g.head.mb_high (pictures_of_steps done) in
    let source : Planes = source_in r.header s.frame in
    let bytes = reference_bytes g.head.pic g.head.mb_wide g.head.mb_high (pictures_of_steps done) (steps_bytes r before) in
    let d : Decision = decision_in g.head g.decisions mb_x mb_y in
    let near = part_is_near g.head g.decisions source refs mb_x mb_y b (is_source r.header s.frame g.head may.wide may.high size bits) hx hy hb may.precision bytes.forward bytes.backward fine in
    subst (λ (p : Planes). AreClose (kind_of g.head d) (samples_in source (block_part d mb_x mb_y b)) (samples_in p (block_part d mb_x mb_y b)))
    (sym (guided_picture keeps r s done g guided found may.legal)) near

-- ---- a file

wide_is : (h : FrameHeader) → IsFrameHeader h → h.wide / 16 ≡ macroblock_columns h.wide
wide_is h is = omega (arith, is.whole_wide)

rows_are : (p : Bool) (high : ℕ) → high % row_lines p ≡ 0 → high / 16 ≡ macroblock_rows p high
rows_are true high whole = omega (arith, whole)
rows_are false high whole = omega (arith, whole)

may_guide : SaidIsLegal → (scale : ℕ) (header : FrameHeader) (g : FoundRecord) → IsFrameHeader header → IsRight (file_size header) g → MayGuide (recoding_by_records scale header) g
may_guide legal scale header g is right =
    let headers = legal (file_size header) right.0 right.1 g right.2 in
    record {
      wide = headers.wide ∙ wide_is header is;
      high = headers.high ∙ rows_are header.progressive header.high is.whole_high;
      precision = headers.head.precision;
      legal = right.2.legal;
    }

pub guided_frames_are_near : SettlingKeepsPicture → FoundIsRight → SaidIsLegal → GuidedFramesAreNear
guided_frames_are_near keeps found_right legal scale header frames later before s g is samples e guided found =
    let r : Recoding = recoding_by_records scale header in
    let there = is_frame_in r frames later before s e in
    let has = samples there.number s.frame there.is in
    guided_step_is_near keeps r s before g has.0 has.1 guided found (may_guide legal scale header g is (found_right (file_size header) s.frame g found))
