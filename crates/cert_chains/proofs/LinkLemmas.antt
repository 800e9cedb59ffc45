-- An intact frame is coded by the record of its picture: the links of the record are the seals of the frames in whose place
-- the plan has the frames that are referred to.
use Rattle.std.proofs.Common.{◌≡◌, ℕ, Bool, true, cond, not, List, slice_get, Option, Some, None, is_some, bytes_eq, option_map, option_and_then, refl, sym, ap, ap₂, ◌∙◌}
use Rattle.std.specs.Prelude.{unwrap_or}
use Rattle.std.specs.Option.{option_map_or}
use Rattle.std.proofs.lemmas.Bool.{and_from, or_left, or_right}
use Rattle.std.proofs.lemmas.Slice.Eq.{bytes_eq-Decides}
use Rattle.mv_terms.specs.declared.head.PicType.{PicType}
use Rattle.mv_terms.specs.declared.head.PicType.TheVariants.{I, P, B}
use Rattle.mv_terms.specs.CodedPicture.{pic_of}
use Rattle.plan_window.specs.declared.summary.Summary.{Summary}
use Rattle.plan_window.specs.declared.summary.Mode.TheVariants.{Guided, Fresh}
use Rattle.plan_window.specs.Links.{is_forward_right, is_in_group_of, is_link_of, is_linked, mode_by}
use Rattle.plan_window.specs.Plan.{ahead, anchor_of_group, mode_at, nearest_before}
use Rattle.rec_reader.specs.Summaries.{forward_link, summary_of}
use Rattle.rec_slot.specs.Directions.{uses_forward}
use Rattle.cert_picture.specs.Records.{is_certified, no_seal}
use Rattle.cert_found.specs.RecordLaw.{RecordIsFound}
use Rattle.enc_guided.specs.Recoded.{Recoding, guide_by}
use Rattle.enc_guided.specs.FileSteps.{summaries_in}
use Rattle.cert_chains.specs.Planned.{nearest_anchor, group_anchor, guide_at}
use Rattle.cert_chains.specs.Intact.{StreamPicture, type_in_stream, IsAccepted, forward_in_stream, backward_in_stream, parts_in_stream, Holds, HasForward, HasBackward}
use Rattle.cert_chains.specs.Intact.Intact.{intact}
use Rattle.cert_chains.specs.Intact.HasForward.{unused, forward_kept, forward_missing}
use Rattle.cert_chains.specs.Intact.HasBackward.{not_b, backward_kept}
use Rattle.cert_chains.proofs.FlagLemmas.{AreSet, are_set}
use Rattle.cert_chains.proofs.FoundLemmas.{IsByRecords, record_in_stream, record_there, summary_there}
use Rattle.cert_chains.proofs.StreamLemmas.{seal_in_stream, forward_link_is, backward_link_is, forward_accepted, backward_accepted}
use Rattle.cert_chains.proofs.ContextLemmas.{same_context}

-- ---- what the record says

pub flags_say : (p : StreamPicture) → let q = parts_in_stream p in
    AreSet (is_certified q) (uses_forward (pic_of q.picture) q.picture.decisions) (is_some q.forward) (is_some q.backward) (is_some q.lists.end)
flags_say p = let q = parts_in_stream p in are_set (is_certified q) (uses_forward (pic_of q.picture) q.picture.decisions) (is_some q.forward) (is_some q.backward) (is_some q.lists.end)

link_by : (link : Option (List ℕ)) (set : Bool) → set ≡ is_some link → cond set (Some (unwrap_or link no_seal)) None ≡ link
link_by None set e = ap (λ (b : Bool). cond b (Some no_seal) None) e
link_by (Some seal) set e = ap (λ (b : Bool). cond b (Some seal) None) e

link_said : (p : StreamPicture) → forward_link (record_in_stream p) ≡ option_map seal_in_stream (forward_in_stream p)
link_said p = link_by (parts_in_stream p).forward _ (flags_say p).forward ∙ forward_link_is p

backward_said : (p b : StreamPicture) → backward_in_stream p ≡ Some b → (record_in_stream p).sheet.backward ≡ seal_in_stream b
backward_said p b e = ap (λ (o : Option (List ℕ)). unwrap_or o no_seal) (backward_link_is p ∙ ap (option_map seal_in_stream) e)

-- ---- the conditions of a link

equal_bytes : (xs ys : List ℕ) → xs ≡ ys → bytes_eq xs ys ≡ true
equal_bytes xs ys e = (bytes_eq-Decides xs ys).1 e

-- what the plan knows of the nearest anchor
nearest_is : (r : Recoding) (frames : List (List ℕ)) (i a : ℕ) (s : Summary) → nearest_anchor r frames i ≡ Some a → slice_get (summaries_in r frames) a ≡ Some s
    → nearest_before ahead (summaries_in r frames) i ≡ Some s
nearest_is r frames i a s near there = ap (option_and_then (slice_get (summaries_in r frames))) near ∙ there

links_to : (link : Option (List ℕ)) (nearest : Option Summary) (f : StreamPicture) → link ≡ Some (seal_in_stream f) → nearest ≡ Some (summary_of (Some (record_in_stream f))) → is_link_of link nearest ≡ true
links_to link nearest f e n = ap₂ is_link_of e n ∙ equal_bytes (seal_in_stream f) (seal_in_stream f) refl

module _ (law : RecordIsFound) (r : Recoding) (frames : List (List ℕ)) (by : IsByRecords r) where
  forward_right : (i : ℕ) (p : StreamPicture) → IsAccepted p → HasForward r frames i p
      → is_forward_right (summary_of (Some (record_in_stream p))) (nearest_before ahead (summaries_in r frames) i) ≡ true
  forward_right i p are (unused e) = or_left _ _ (ap not ((flags_say p).uses ∙ e))
  forward_right i p are (forward_kept {a = a} {f = f} near of (intact held is fwd bwd)) =
      or_right _ _ (links_to _ _ f (link_said p ∙ ap (option_map seal_in_stream) of)
      (nearest_is r frames i a _ near (summary_there law r frames a f by (forward_accepted p f are of) held is)))
  forward_right i p are (forward_missing near of) =
      or_right _ _ (ap₂ is_link_of (link_said p ∙ ap (option_map seal_in_stream) of) (ap (option_and_then (slice_get (summaries_in r frames))) near))

  group_right : (i : ℕ) (p : StreamPicture) → IsAccepted p → type_in_stream p ≡ B → HasBackward r frames i p
      → is_in_group_of (summary_of (Some (record_in_stream p))) (anchor_of_group ahead (summaries_in r frames) i) ≡ true
  group_right i p are b (not_b other) = absurd (other b)
  group_right i p are b (backward_kept {a = a} {b = q} plain near of (intact held is fwd bwd)) =
      let there : slice_get (summaries_in r frames) a ≡ Some (summary_of (Some (record_in_stream q))) = summary_there law r frames a q by (backward_accepted p q are of) held is in
      ap (is_in_group_of (summary_of (Some (record_in_stream p))))
      (ap (λ (c : Bool). cond c None (option_and_then (slice_get (summaries_in r frames)) (group_anchor r frames i))) plain
      ∙ ap (option_and_then (slice_get (summaries_in r frames))) near ∙ there)
      ∙ and_from _ _ (equal_bytes (parts_in_stream p).context (parts_in_stream q).context (same_context p q are b of))
      (equal_bytes (seal_in_stream q) (record_in_stream p).sheet.backward (sym (backward_said p q of)))

  linked : (i : ℕ) (p : StreamPicture) → IsAccepted p → HasForward r frames i p → HasBackward r frames i p → (t : PicType) → type_in_stream p ≡ t
      → is_linked (Some t) (summary_of (Some (record_in_stream p))) (nearest_before ahead (summaries_in r frames) i) (anchor_of_group ahead (summaries_in r frames) i) ≡ true
  linked i p are fwd bwd I e = refl
  linked i p are fwd bwd P e = forward_right i p are fwd
  linked i p are fwd bwd B e = and_from _ _ (forward_right i p are fwd) (group_right i p are e bwd)

  pub is_guided : (i : ℕ) (p : StreamPicture) → IsAccepted p → Holds r frames i p → is_certified (parts_in_stream p) ≡ true
      → HasForward r frames i p → HasBackward r frames i p → mode_at ahead (summaries_in r frames) i ≡ Guided
  is_guided i p are held is fwd bwd =
      ap (λ (o : Option Summary). option_map_or (λ (s : Summary). mode_by s (nearest_before ahead (summaries_in r frames) i) (anchor_of_group ahead (summaries_in r frames) i)) o Fresh)
      (summary_there law r frames i p by are held is)
      ∙ ap (λ (b : Bool). cond b Guided Fresh) (linked i p are fwd bwd (type_in_stream p) refl)

  pub guided_by : (i : ℕ) (p : StreamPicture) → IsAccepted p → Holds r frames i p → is_certified (parts_in_stream p) ≡ true
      → HasForward r frames i p → HasBackward r frames i p → guide_at r frames i ≡ Some (record_in_stream p)
  guided_by i p are held is fwd bwd = ap₂ guide_by (is_guided i p are held is fwd bwd) (record_there law r frames i p by are held is)
