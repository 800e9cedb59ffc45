-- What a fresh step decodes to is near its frame.
use Rattle.std.proofs.Common.{◌≡◌, ◌∙◌, ℕ, zero, suc, ◌+◌, ◌-◌, ◌*◌, ◌/◌, ◌%◌, ◌^◌, ◌<◌, ◌≤◌, ◌==◌, Bool, true, false, List, [], ◌∷◌, ◌++◌, length, Option, None, map, replicate, get_or, slice_index, refl, ap, sym, subst, arith}
use Rattle.std.specs.List.{range_with_len}
use Rattle.std.proofs.lemmas.List.FromFn.{get_or-map-range_with_len, length-map-range_with_len}
use Rattle.std.proofs.lemmas.Nat.{mul-le}
use Rattle.mv_terms.specs.declared.head.Head.{Head}
use Rattle.mv_terms.specs.declared.head.Context.{Context}
use Rattle.mv_terms.specs.declared.head.PicType.{PicType}
use Rattle.mv_terms.specs.declared.frame_header.FrameHeader.{FrameHeader}
use Rattle.mv_terms.specs.declared.macroblock.Decision.{Decision}
use Rattle.mv_terms.specs.declared.macroblock.MacroLevels.{MacroLevels}
use Rattle.mv_terms.specs.Decisions.{no_decision}
use Rattle.mv_terms.specs.Ranges.{IsFrameHeader, IsPictureSize, macroblock_columns, macroblock_rows, row_lines}
use Rattle.mv_quant.specs.declared.Kind.{Kind}
use Rattle.mv_quant.specs.Macroblocks.{kind_of}
use Rattle.mv_quant.specs.Scale.{scale_of}
use Rattle.mv_planes.specs.declared.picture.Plane.{Plane}
use Rattle.mv_planes.specs.Planes.{Planes, sample_of, place_of, IsInside}
use Rattle.mv_planes.specs.Raster.{picture_of}
use Rattle.mv_planes.specs.References.{References, references}
use Rattle.mv_planes.proofs.RasterLaws.{whole_picture, sample_of-picture_of}
use Rattle.mv_planes.proofs.Places.{place_in}
use Rattle.mv_recon.specs.Pictures.{picture_from}
use Rattle.mv_slices.specs.Canonical.{settled}
use Rattle.rec_bury.specs.Exhumed.{HasTenBits, source_of, sample_in, value_at}
use Rattle.rec_legal.specs.FoundRecord.{FoundRecord}
use Rattle.cert_requant.specs.Requantised.{requantised, requantised_at, decision_of}
use Rattle.mv_terms.specs.Matrices.{default_intra}
use Rattle.enc_fresh.specs.Fresh.{default_context, fresh_head, fresh_decision, fresh_decisions}
use Rattle.enc_fresh.specs.Laws.{FreshDecisionsAreSettled}
use Rattle.plan_window.specs.declared.summary.Mode.TheVariants.{Fresh}
use Rattle.enc_guided.specs.Recoded.{Recoding, FrameStep, CodedStep, Front, Target, coded_step, coded_steps, coded_with, fresh_front, levels_of, pictures_of_steps, source_in, step_by, target_of}
use Rattle.enc_guided.specs.FileSteps.{recoding_by_records, steps_of_frames}
use Rattle.enc_guided.specs.Stands.{macroblocks_of}
use Rattle.enc_stream.specs.Stream.{HaveSamples}
use Rattle.enc_near.specs.Blocks.{IsFine}
use Rattle.enc_near.specs.Pictures.{IsSourceFor, IsNear, IsUniform, coded_from}
use Rattle.enc_near.proofs.PictureLemmas.{uniform_is_near}
use Rattle.enc_near.specs.Frames.{fresh_kind, kind_of_step, FreshStepIsNear, FreshFramesAreNear, DefaultIsFine}
use Rattle.enc_near.proofs.PlanLemmas.{is_frame_in}

-- ---- the frame

is_size : (file : FrameHeader) → IsFrameHeader file → IsPictureSize (macroblock_columns file.wide) (macroblock_rows file.progressive file.high)
is_size file legal = by file.progressive
  where
    by : (progressive : Bool) → IsPictureSize (macroblock_columns file.wide) (macroblock_rows progressive file.high)
    by true = record { some_wide = omega (arith, legal.some_wide); wide = omega (arith, legal.wide); some_high = omega (arith, legal.some_high); high = omega (arith, legal.high) }
    by false = record { some_wide = omega (arith, legal.some_wide); wide = omega (arith, legal.wide); some_high = omega (arith, legal.some_high); high = omega (arith, legal.high) }

pub is_source : (header : FrameHeader) (frame : List ℕ) (head : Head) → head.mb_wide ≡ macroblock_columns header.wide → head.mb_high ≡ macroblock_rows header.progressive header.high
    → length frame ≡ 768 * macroblocks_of header → HasTenBits frame → IsSourceFor head (source_in header frame)
is_source header frame head wide high size bits = record {
  wide = sym wide;
  high = sym high;
  bytes = λ p x y inside.
      let w : ℕ = macroblock_columns header.wide in
      let h : ℕ = macroblock_rows header.progressive header.high in
      let at : Plane → ℕ → ℕ → ℕ = λ p x y. sample_in w h frame p x y / 4 in
      let f : Planes = picture_of w h at in
      let whole = whole_picture w h at in
      let place = place_in f p x y whole inside in
      let small = bits.small (place_of f p x y) (omega (arith, place, whole, size)) in
      let is = sample_of-picture_of w h at p x y inside.0 inside.1 in
      omega (arith, small, is);
}

-- ---- the decisions

decision_is : (head : Head) (scale k : ℕ) → k < head.mb_wide * head.mb_high → decision_of (fresh_decisions head scale) k ≡ fresh_decision (k % head.mb_wide == 0) scale
unfolding fresh_decisions
decision_is head scale k h = get_or-map-range_with_len (λ k. fresh_decision (k % head.mb_wide == 0) scale) 0 (head.mb_wide * head.mb_high) k k no_decision h (omega arith)

linear : (scale : ℕ) → scale_of false scale ≡ 2 * scale
unfolding scale_of
linear scale = refl

kind_is : (file : FrameHeader) (context : Context) (pic : PicType) (temporal : ℕ) (starts : Bool) (scale : ℕ) → kind_of (fresh_head file context pic temporal) (fresh_decision starts scale) ≡ fresh_kind context scale
kind_is file context pic temporal starts scale = ap (λ (n : ℕ). let k : Kind = record { intra = true; scale = n; dc_precision = 0; matrix = context.matrices.intra } in k) (linear scale)

is_uniform : (file : FrameHeader) (context : Context) (pic : PicType) (temporal scale : ℕ) → IsUniform (fresh_kind context scale) (fresh_head file context pic temporal) (fresh_decisions (fresh_head file context pic temporal) scale)
is_uniform file context pic temporal scale k h =
    let head : Head = fresh_head file context pic temporal in
    let d = decision_is head scale k h in
    (ap (λ (d : Decision). d.intra) d, ap (λ (d : Decision). d.field_dct) d, ap (kind_of head) d ∙ kind_is file context pic temporal (k % head.mb_wide == 0) scale)

pub levels_length : (head : Head) (decisions : List Decision) (source : Planes) (refs : References) → length (requantised head decisions source refs) ≡ head.mb_wide * head.mb_high
unfolding requantised
levels_length head decisions source refs = length-map-range_with_len (requantised_at head decisions source refs) 0 (head.mb_wide * head.mb_high)

-- ---- the step

fresh_step : (r : Recoding) (s : FrameStep) (before : List CodedStep) → s.step.mode ≡ Fresh
    → coded_step r s before ≡ step_by r s None (target_of r.header (r.find s.frame) before) (fresh_front r s.step.anchor s.step.frame (target_of r.header (r.find s.frame) before) before) before
unfolding coded_step
fresh_step r s before h = rw h refl

-- the picture of a fresh front
front_near : FreshDecisionsAreSettled → (r : Recoding) (s : FrameStep) (before : List CodedStep) (target : Target) (pic : PicType) (temporal : ℕ) (front : Front)
    → IsFrameHeader r.header → length s.frame ≡ 768 * macroblocks_of r.header → HasTenBits s.frame → IsFine (fresh_kind target.context r.scale)
    → front.head ≡ fresh_head r.header target.context pic temporal → front.decisions ≡ fresh_decisions (fresh_head r.header target.context pic temporal) r.scale
    → IsNear (fresh_kind target.context r.scale) (source_in r.header s.frame) (step_by r s None target front before).decoded.picture
front_near law r s before target pic temporal front legal size bits fine head_is decisions_are =
    subst (λ (p : Planes). IsNear (fresh_kind target.context r.scale) source p) (sym same)
    (uniform_is_near (fresh_kind target.context r.scale) head (fresh_decisions head r.scale) source refs (is_source r.header s.frame head refl refl size bits) (omega arith) (is_uniform r.header target.context pic temporal r.scale) fine)
  where
    head : Head
    head = fresh_head r.header target.context pic temporal

    source : Planes
    source = source_in r.header s.frame

    refs : References
    refs = references head.pic head.mb_wide head.mb_high (pictures_of_steps before)

    settles : settled head (fresh_decisions head r.scale) (requantised head (fresh_decisions head r.scale) source refs) ≡ fresh_decisions head r.scale
    settles = law head r.scale (requantised head (fresh_decisions head r.scale) source refs) (is_size r.header legal) (levels_length head (fresh_decisions head r.scale) source refs)

    picture : Head → List Decision → Planes
    picture h d =
        let refs : References = references h.pic h.mb_wide h.mb_high (pictures_of_steps before) in
        let levels : List MacroLevels = requantised h d source refs in
        picture_from refs (record { head = h; decisions = settled h d levels; levels = levels })

    same : (step_by r s None target front before).decoded.picture ≡ picture_from refs (coded_from head (fresh_decisions head r.scale) source refs)
    same =
        ap (λ (h : Head). picture h front.decisions) head_is
        ∙ (ap (picture head) decisions_are
        ∙ ap (λ (d : List Decision). picture_from refs (record { head = head; decisions = d; levels = requantised head (fresh_decisions head r.scale) source refs })) settles)

pub fresh_step_is_near : FreshDecisionsAreSettled → FreshStepIsNear
fresh_step_is_near law r s before legal size bits fresh =
    subst (λ (c : CodedStep). IsFine (kind_of_step r c) → IsNear (kind_of_step r c) (source_in r.header s.frame) c.decoded.picture) (sym (fresh_step r s before fresh))
    (λ fine. front_near law r s before (target_of r.header (r.find s.frame) before) _ _ (fresh_front r s.step.anchor s.step.frame (target_of r.header (r.find s.frame) before) before) legal size bits fine refl refl)

pub fresh_frames_are_near : FreshDecisionsAreSettled → FreshFramesAreNear
fresh_frames_are_near law scale header frames later before s legal samples e =
    let r : Recoding = recoding_by_records scale header in
    let there = is_frame_in r frames later before s e in
    let has = samples there.number s.frame there.is in
    fresh_step_is_near law r s (coded_steps r before) legal has.0 has.1

-- ---- the default matrix

lacking : ℕ → ℕ
lacking k = 16 - slice_index default_intra (k + 1)

none_lack : map lacking (range_with_len 0 63) ≡ map (λ k. 0) (range_with_len 0 63)
unfolding lacking default_intra
none_lack = refl

entry_is : (k : ℕ) → k < 63 → lacking k ≡ 0
entry_is k h =
    sym (get_or-map-range_with_len lacking 0 63 k k 0 h (omega arith))
    ∙ (ap (λ (l : List ℕ). get_or l k 0) none_lack ∙ get_or-map-range_with_len (λ k. 0) 0 63 k k 0 h (omega arith))

some_entry : (k : ℕ) → 0 < k → k < 64 → 16 ≤ slice_index default_intra k
unfolding lacking
some_entry zero some h = absurd (omega (arith, some))
some_entry (suc k) some h =
    let e : 16 - slice_index default_intra (k + 1) ≡ 0 = entry_is k (omega (arith, h)) in
    let s : k + 1 ≡ suc k = omega arith in
    subst (λ (n : ℕ). 16 ≤ slice_index default_intra n) s (omega (arith, e))

pub default_is_fine : DefaultIsFine
default_is_fine file scale some k last first = omega (arith, mul-le 16 1 (slice_index default_intra k) (2 * scale) (some_entry k (first refl) last) (omega arith))
