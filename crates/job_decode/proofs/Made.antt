-- The frame of a unit is made.
use Rattle.std.proofs.Common.{◌≡◌, ℕ, Bool, List, [], ◌∷◌, Option, None, Some, refl, sym, ap, ◌∙◌, subst}
use Rattle.std.proofs.Math.Seq.{take-nil}
use Rattle.std.specs.Prelude.{if◌then◌else◌, option_map, unwrap_or}
use Rattle.mv_terms.specs.declared.head.PicType.{PicType}
use Rattle.mv_terms.specs.declared.head.PicType.TheVariants as pic
use Rattle.mv_terms.specs.declared.head.Head.{Head}
use Rattle.mv_terms.specs.PicTypes.{is_anchor}
use Rattle.mv_terms.specs.Order.{anchors, first, second, forward_reference, backward_reference}
use Rattle.mv_terms.specs.UnitLists.{UnitLists, lent_unit}
use Rattle.mv_terms.specs.CodedPicture.{CodedPicture}
use Rattle.mv_heads.specs.HeadElements.{sequence_bytes}
use Rattle.mv_heads.specs.HeadsInTurn.{context_bytes}
use Rattle.mv_slices.specs.Slices.{Slices}
use Rattle.mv_units.specs.Profile.{Accepts, CodedUnit, heads_in}
use Rattle.mv_planes.specs.Planes.{Planes}
use Rattle.mv_planes.specs.References.{DecodedPicture, References, references_lent}
use Rattle.mv_planes.specs.declared.coded.Coded.{Coded}
use Rattle.mv_recon.specs.Decoded.{decoded_behind, references_behind}
use Rattle.mv_recon.specs.Pictures.{picture_from}
use Rattle.mv_decode.specs.Stands.{IsLent}
use Rattle.mv_decode.proofs.LentLaws.{same_picture}
use Rattle.cert_picture.specs.declared.frame.StreamParts.{StreamParts}
use Rattle.cert_picture.specs.Certifying.{coded_lent}
use Rattle.cert_picture.specs.Records.{FrameParts, frame_samples, frame_seal, no_seal}
use Rattle.cert_picture.specs.Lent.{HasRoomFor, lent_parts}
use Rattle.cert_picture.specs.FrameFileOf.{UnitFrame, pic_of_frame, link_to, parts_behind, frame_behind, frames_of}
use Rattle.cert_picture.proofs.FrameFileLaws.{frames_have_pictures}
use Rattle.job_decode.specs.declared.frames.FrameMaker.{FrameMaker}
use Rattle.job_decode.specs.declared.links.Links.{Links}
use Rattle.job_decode.specs.Steps.{LinksStand, MakesFrames, HasMade, kept_front, lists_in, forward_link, backward_link, with_seal}
use Rattle.job_decode.proofs.SequenceLaws.{kept_record}

-- none was made yet
pub none_made : (count : ℕ) (maker : FrameMaker) → maker.sequence ≡ [] → maker.links ≡ record { last = None; older = None } → HasRoomFor count maker.room → MakesFrames count maker []
unfolding context_bytes
none_made count maker sequence links room = record {
  sequence = sequence ∙ sym (take-nil 65536);
  links = record { last = ap (λ (l : Links). l.last) links; older = ap (λ (l : Links). l.older) links };
  room = room;
}

-- ---- what is lent was read from the slices of its unit, and decoded from its references

pub lent_slices : (coded : Coded) (lists : UnitLists) (u : CodedUnit) (before : List CodedUnit) → IsLent coded u before → Accepts (heads_in before) lists u
    → Slices coded.head.now lists.slices coded.decisions.now coded.levels.now
lent_slices coded lists u before lent accepts = rw (lent.head ∙ accepts.head, lent.decisions, lent.levels) accepts.slices

pub lent_decoded : (coded : Coded) (u : CodedUnit) (before : List CodedUnit) → IsLent coded u before → coded.picture.now ≡ picture_from (references_lent coded.refs) (coded_lent coded)
lent_decoded coded u before lent =
    lent.picture
    ∙ (ap (λ (refs : References). picture_from refs u.picture) (sym lent.refs)
    ∙ ap (λ (p : CodedPicture). picture_from (references_lent coded.refs) p) (sym (same_picture coded u.picture lent.head lent.decisions lent.levels)))

-- ---- the links

forward_is : (t : PicType) (links : Links) (frames : List UnitFrame) → LinksStand links frames → forward_link t links ≡ option_map link_to (forward_reference pic_of_frame t frames)
forward_is pic.I links frames h = refl
forward_is pic.P links frames h = h.last
forward_is pic.B links frames h = h.older

backward_is : (t : PicType) (links : Links) (frames : List UnitFrame) → LinksStand links frames → backward_link t links ≡ option_map link_to (backward_reference pic_of_frame t frames)
backward_is pic.I links frames h = refl
backward_is pic.P links frames h = refl
backward_is pic.B links frames h = h.last

-- they link to the last two of these anchors
record LinkTo (links : Links) (of_frames : List UnitFrame) : Type 0 where
  last : links.last ≡ option_map link_to (first of_frames)
  older : links.older ≡ option_map link_to (second of_frames)

links_more : (t : PicType) (seal : Option (List ℕ)) (links : Links) (frames : List UnitFrame) (f : UnitFrame) → LinksStand links frames → seal ≡ f.seal
    → LinkTo (with_seal t seal links) (if is_anchor t then f ∷ anchors pic_of_frame frames else anchors pic_of_frame frames)
links_more pic.I seal links frames f h is = record { last = ap (λ (s : Option (List ℕ)). Some (unwrap_or s no_seal)) is; older = h.last }
links_more pic.P seal links frames f h is = record { last = ap (λ (s : Option (List ℕ)). Some (unwrap_or s no_seal)) is; older = h.last }
links_more pic.B seal links frames f h is = record { last = h.last; older = h.older }

links_behind : (links : Links) (frames : List UnitFrame) (u : CodedUnit)
    → LinkTo links (if is_anchor u.picture.head.pic then frame_behind frames u ∷ anchors pic_of_frame frames else anchors pic_of_frame frames)
    → LinksStand links (frame_behind frames u ∷ frames)
unfolding frame_behind
links_behind links frames u h = record { last = h.last; older = h.older }

-- ---- the frame that is made of what is lent is the frame of the unit

same_parts : (p q : FrameParts) → p.lists ≡ q.lists → p.picture ≡ q.picture → p.context ≡ q.context → p.extended ≡ q.extended → p.decoded ≡ q.decoded → p.references ≡ q.references
    → p.forward ≡ q.forward → p.backward ≡ q.backward → p ≡ q
same_parts p q a b c d e f g h =
    ap (λ (x : UnitLists). record p { lists = x }) a
    ∙ (ap (λ (x : CodedPicture). record p { lists = q.lists; picture = x }) b
    ∙ (ap (λ (x : List ℕ). record p { lists = q.lists; picture = q.picture; context = x }) c
    ∙ (ap (λ (x : Bool). record p { lists = q.lists; picture = q.picture; context = q.context; extended = x }) d
    ∙ (ap (λ (x : Planes). record q { decoded = x; references = p.references; forward = p.forward; backward = p.backward }) e
    ∙ (ap (λ (x : References). record q { references = x; forward = p.forward; backward = p.backward }) f
    ∙ (ap (λ (x : Option (List ℕ)). record q { forward = x; backward = p.backward }) g
    ∙ ap (λ (x : Option (List ℕ)). record q { backward = x }) h))))))

parts_are : (coded : Coded) (stream : StreamParts) (links : Links) (u : CodedUnit) (before : List CodedUnit)
    → IsLent coded u before → u.lists ≡ lent_unit stream.unit → stream.context.now ≡ kept_front (context_bytes (u.lists ∷ lists_in (frames_of before)))
    → LinksStand links (frames_of before) → stream.forward ≡ forward_link coded.head.now.pic links → stream.backward ≡ backward_link coded.head.now.pic links
    → lent_parts coded stream ≡ record (parts_behind (frames_of before) u) { context = kept_front (parts_behind (frames_of before) u).context }
parts_are coded stream links u before lent lists context stand forward backward =
    let frames = frames_of before in
    let pictures = sym (frames_have_pictures before) in
    let pic_is : coded.head.now.pic ≡ u.picture.head.pic = ap (λ (h : Head). h.pic) lent.head in
    same_parts (lent_parts coded stream) (record (parts_behind frames u) { context = kept_front (parts_behind frames u).context })
    (sym lists)
    (same_picture coded u.picture lent.head lent.decisions lent.levels)
    context
    lent.extended
    (lent.picture ∙ ap (λ (ps : List DecodedPicture). (decoded_behind ps u.picture).picture) pictures)
    (lent.refs ∙ ap (λ (ps : List DecodedPicture). references_behind ps u.picture) pictures)
    (forward ∙ (ap (λ (t : PicType). forward_link t links) pic_is ∙ forward_is u.picture.head.pic links frames stand))
    (backward ∙ (ap (λ (t : PicType). backward_link t links) pic_is ∙ backward_is u.picture.head.pic links frames stand))

frame_is : (frames : List UnitFrame) (u : CodedUnit) (samples : List ℕ) (seal : Option (List ℕ)) → samples ≡ frame_samples (parts_behind frames u) → seal ≡ frame_seal (parts_behind frames u)
    → (samples ≡ (frame_behind frames u).samples) × (seal ≡ (frame_behind frames u).seal)
unfolding frame_behind
frame_is frames u samples seal is sealed = (is, sealed)

sequence_is : (frames : List UnitFrame) (u : CodedUnit) (kept : List ℕ) → kept ≡ kept_front (context_bytes (u.lists ∷ lists_in frames)) → kept ≡ kept_front (context_bytes (lists_in (frame_behind frames u ∷ frames)))
unfolding frame_behind
sequence_is frames u kept is = is

-- the sequence part in force is noted
pub noted : (lists lent : UnitLists) (earlier : List UnitLists) (kept : List ℕ) → lists ≡ lent → kept ≡ kept_front (unwrap_or (sequence_bytes lent.prefix) (context_bytes earlier))
    → kept ≡ kept_front (context_bytes (lists ∷ earlier))
unfolding context_bytes
noted lists lent earlier kept same is = is ∙ ap (λ (x : UnitLists). kept_front (unwrap_or (sequence_bytes x.prefix) (context_bytes earlier))) (sym same)

pub made : (count : ℕ) (old new : FrameMaker) (coded : Coded) (stream : StreamParts) (u : CodedUnit) (before : List CodedUnit) (samples : List ℕ) (seal : Option (List ℕ))
    → MakesFrames count old (frames_of before) → IsLent coded u before → u.lists ≡ lent_unit stream.unit
    → stream.context.now ≡ kept_front (context_bytes (u.lists ∷ lists_in (frames_of before)))
    → stream.forward ≡ forward_link coded.head.now.pic old.links → stream.backward ≡ backward_link coded.head.now.pic old.links
    → samples ≡ frame_samples (lent_parts coded stream) → seal ≡ frame_seal (lent_parts coded stream)
    → new.sequence ≡ stream.context.now → new.links ≡ with_seal coded.head.now.pic seal old.links → HasRoomFor count new.room
    → HasMade count new samples (frames_of before) u
made count old new coded stream u before samples seal stands lent lists context forward backward samples_are seal_is sequence links room =
    let frames = frames_of before in
    let kept = kept_record (parts_behind frames u) in
    let parts = parts_are coded stream old.links u before lent lists context stands.links forward backward in
    let frame = frame_is frames u samples seal (samples_are ∙ (ap (λ (p : FrameParts). frame_samples p) parts ∙ kept.samples)) (seal_is ∙ (ap frame_seal parts ∙ kept.seal)) in
    let pic_is : coded.head.now.pic ≡ u.picture.head.pic = ap (λ (h : Head). h.pic) lent.head in
    record {
      samples_are = frame.0;
      stands = record {
        sequence = sequence_is frames u new.sequence (sequence ∙ context);
        links = links_behind new.links frames u
            (subst (λ (x : Links). LinkTo x (if is_anchor u.picture.head.pic then frame_behind frames u ∷ anchors pic_of_frame frames else anchors pic_of_frame frames))
            (sym (links ∙ ap (λ (t : PicType). with_seal t seal old.links) pic_is))
            (links_more u.picture.head.pic seal old.links frames (frame_behind frames u) stands.links frame.1));
        room = room;
      };
    }
