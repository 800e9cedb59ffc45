-- All frames of an unedited file are intact.
use Rattle.std.proofs.Common.{◌≡◌, ◌≢◌, ℕ, zero, suc, Bool, true, false, cond, List, [], ◌∷◌, ◌++◌, length, map, slice_get, Option, None, Some, refl, sym, ap, ◌∙◌, subst, true≢false, append_assoc}
use Rattle.std.specs.List.{AllByRecursion, AllZip}
use Rattle.std.specs.Option.{option_map}
use Rattle.std.proofs.lemmas.List.{map-append}
use Rattle.mv_terms.specs.declared.head.PicType.{PicType}
use Rattle.mv_terms.specs.declared.head.PicType.TheVariants as pic
use Rattle.mv_terms.specs.PicTypes.{is_anchor, is_i}
use Rattle.mv_terms.specs.Order.{anchors, backward_reference, first, forward_reference, second}
use Rattle.mv_units.specs.Profile.{CodedUnit}
use Rattle.rec_slot.specs.Directions.{uses_forward}
use Rattle.plan_window.specs.declared.summary.Step.{Step}
use Rattle.plan_window.specs.Plan.{ahead, coding_order, plan, step_at}
use Rattle.plan_window.specs.Fits.{PlanRefersToNearest, PlanStandsInOrder, RefersToNearest, StandsInOrder, step_type}
use Rattle.enc_guided.specs.Recoded.{Recoding}
use Rattle.enc_guided.specs.FileSteps.{summaries_in}
use Rattle.cert_chains.specs.Intact.{HasBackward, HasForward, Holds, Intact, StreamPicture, backward_in_stream, forward_in_stream, pictures_in_stream, type_in_stream}
use Rattle.cert_chains.specs.Intact.Intact.{intact}
use Rattle.cert_chains.specs.Intact.HasForward.{forward_kept, forward_missing, unused}
use Rattle.cert_chains.specs.Intact.HasBackward.{backward_kept, not_b}
use Rattle.cert_chains.specs.Planned.{anchor_in, group_anchor, nearest_anchor}
use Rattle.cert_unedited.proofs.OrderLemmas.{At, none_some, some_same}
use Rattle.cert_unedited.proofs.FrameLemmas.{AreInPlan, IsSound, samples_in}

-- ---- references in two lists that go together

-- both are there and go together, or none is
abbrev AreBoth : {A X : Type 0} → (A → X → Type 0) → Option A → Option X → Type 0
AreBoth R None None = Unit {0}
AreBoth R None (Some x) = ⊥
AreBoth R (Some a) None = ⊥
AreBoth R (Some a) (Some x) = R a x

module _ {A X : Type 0} (R : A → X → Type 0) (s : A → PicType) (t : X → PicType) (same : (a : A) (x : X) → R a x → is_anchor (s a) ≡ is_anchor (t x)) where
  both_anchors : (ss : List A) (xs : List X) → AllZip R ss xs → AllZip R (anchors s ss) (anchors t xs)
  both_anchors [] [] h = tt
  both_anchors [] (x ∷ xs) h = absurd h
  both_anchors (a ∷ ss) [] h = absurd h
  both_anchors (a ∷ ss) (x ∷ xs) h =
      subst (λ b. AllZip R (cond b (a ∷ anchors s ss) (anchors s ss)) (anchors t (x ∷ xs))) (sym (same a x h.0)) (go (is_anchor (t x)) (both_anchors ss xs h.1))
    where
      go : (b : Bool) → AllZip R (anchors s ss) (anchors t xs) → AllZip R (cond b (a ∷ anchors s ss) (anchors s ss)) (cond b (x ∷ anchors t xs) (anchors t xs))
      go true more = (h.0, more)
      go false more = more

  both_first : (ss : List A) (xs : List X) → AllZip R ss xs → AreBoth R (first ss) (first xs)
  both_first [] [] h = tt
  both_first [] (x ∷ xs) h = absurd h
  both_first (a ∷ ss) [] h = absurd h
  both_first (a ∷ ss) (x ∷ xs) h = h.0

  both_second : (ss : List A) (xs : List X) → AllZip R ss xs → AreBoth R (second ss) (second xs)
  both_second [] [] h = tt
  both_second [] (x ∷ xs) h = absurd h
  both_second (a ∷ ss) [] h = absurd h
  both_second (a ∷ ss) (x ∷ xs) h = both_first ss xs h.1

  -- of a step that is an anchor or not, and of a picture that isn't an I picture
  both_forward : (b : Bool) (p : PicType) (ss : List A) (xs : List X) → b ≡ is_anchor p → p ≢ pic.I → AllZip R ss xs
      → AreBoth R (forward_reference s (cond b pic.P pic.B) ss) (forward_reference t p xs)
  both_forward b pic.I ss xs e not_i h = absurd (not_i refl)
  both_forward true pic.P ss xs e not_i h = both_first (anchors s ss) (anchors t xs) (both_anchors ss xs h)
  both_forward false pic.P ss xs e not_i h = absurd (true≢false (sym e))
  both_forward true pic.B ss xs e not_i h = absurd (true≢false e)
  both_forward false pic.B ss xs e not_i h = both_second (anchors s ss) (anchors t xs) (both_anchors ss xs h)

  both_backward : (p : PicType) (ss : List A) (xs : List X) → p ≡ pic.B → AllZip R ss xs
      → AreBoth R (backward_reference s pic.B ss) (backward_reference t p xs)
  both_backward p ss xs e h =
      subst (λ q. AreBoth R (backward_reference s pic.B ss) (backward_reference t q xs)) (sym e) (both_first (anchors s ss) (anchors t xs) (both_anchors ss xs h))

-- ---- the frames of a file

samples_at : (ps : List StreamPicture) (i : ℕ) (p : StreamPicture) → At ps i p → slice_get (map samples_in ps) i ≡ Some (samples_in p)
samples_at [] i p at = absurd (none_some p at)
samples_at (q ∷ ps) zero p at = ap (λ x. Some (samples_in x)) (some_same q p at)
samples_at (q ∷ ps) (suc i) p at = samples_at ps i p at

i_is_no_b : pic.I ≢ pic.B
i_is_no_b e = true≢false (ap is_anchor e)

p_is_no_b : pic.P ≢ pic.B
p_is_no_b e = true≢false (ap is_anchor e)

p_is_no_i : pic.P ≢ pic.I
p_is_no_i e = true≢false (sym (ap is_i e))

b_is_no_i : pic.B ≢ pic.I
b_is_no_i e = true≢false (sym (ap is_anchor e))

module _ (nearest : PlanRefersToNearest) (in_order : PlanStandsInOrder) (r : Recoding) (frames : List (List ℕ)) (shown coded : List StreamPicture) (f : AreInPlan r frames shown coded) where
  abbrev step : ℕ → Step
  step = step_at ahead (summaries_in r frames)

  abbrev order : List ℕ
  order = coding_order (anchor_in r frames) (length (summaries_in r frames))

  -- frame i is intact as this picture, which it shows
  abbrev pub IsIntactAt : ℕ → StreamPicture → Type 0
  IsIntactAt i p = At shown i p × Intact r frames i p

  split : (later : List ℕ) (i : ℕ) (rest : List ℕ) → order ≡ later ++ i ∷ rest → plan ahead (summaries_in r frames) ≡ map step later ++ step i ∷ map step rest
  split later i rest e = ap (map step) e ∙ map-append step later (i ∷ rest)

  refers : (later : List ℕ) (i : ℕ) (rest : List ℕ) → order ≡ later ++ i ∷ rest → RefersToNearest (anchor_in r frames) (map step rest) (step i)
  refers later i rest e = nearest (summaries_in r frames) (map step later) (map step rest) (step i) (split later i rest e)

  pub stands : (later : List ℕ) (i : ℕ) (rest : List ℕ) → order ≡ later ++ i ∷ rest → StandsInOrder (anchor_in r frames) (map step rest) (step i)
  stands later i rest e = in_order (summaries_in r frames) (map step later) (map step rest) (step i) (split later i rest e)

  -- a step of the plan, and the picture that its frame is intact as
  abbrev GoesWith : Step → StreamPicture → Type 0
  GoesWith s p = IsIntactAt s.frame p × (is_anchor (step_type s) ≡ is_anchor (type_in_stream p))

  kind_of_type : (b : Bool) → is_anchor (cond b pic.P pic.B) ≡ b
  kind_of_type true = refl
  kind_of_type false = refl

  go_with : (is : List ℕ) (ps : List StreamPicture) → AllZip IsIntactAt is ps → AllZip GoesWith (map step is) ps
  go_with [] [] h = tt
  go_with [] (p ∷ ps) h = absurd h
  go_with (i ∷ is) [] h = absurd h
  go_with (i ∷ is) (p ∷ ps) h = ((h.0, kind_of_type (anchor_in r frames i) ∙ f.anchors_are i p h.0.0), go_with is ps h.1)

  forward_by : (i : ℕ) (p : StreamPicture) (o : Option Step) (q : Option StreamPicture) → option_map (λ (s : Step). s.frame) o ≡ nearest_anchor r frames i
      → forward_in_stream p ≡ q → AreBoth GoesWith o q → HasForward r frames i p
  forward_by i p None None e k both = forward_missing (sym e) k
  forward_by i p None (Some b) e k both = absurd both
  forward_by i p (Some a) None e k both = absurd both
  forward_by i p (Some a) (Some b) e k both = forward_kept (sym e) k both.0.1

  backward_by : (i : ℕ) (p : StreamPicture) (g : ℕ) (o : Option Step) (q : Option StreamPicture) → anchor_in r frames i ≡ false → group_anchor r frames i ≡ Some g
      → option_map (λ (s : Step). s.frame) o ≡ group_anchor r frames i → backward_in_stream p ≡ q → AreBoth GoesWith o q → HasBackward r frames i p
  backward_by i p g None q plain is e k both = absurd (none_some g (e ∙ is))
  backward_by i p g (Some a) None plain is e k both = absurd both
  backward_by i p g (Some a) (Some b) plain is e k both = backward_kept plain (sym e) k both.0.1

  has_forward : (later : List ℕ) (i : ℕ) (rest : List ℕ) (p : StreamPicture) → order ≡ later ++ i ∷ rest → At shown i p → type_in_stream p ≢ pic.I
      → AllZip IsIntactAt rest (pictures_in_stream p.before) → HasForward r frames i p
  has_forward later i rest p e at not_i h =
      forward_by i p (forward_reference step_type (step_type (step i)) (map step rest)) (forward_in_stream p) (refers later i rest e).forward_is refl
      (both_forward GoesWith step_type type_in_stream (λ s q g. g.1) (anchor_in r frames i) (type_in_stream p) (map step rest) (pictures_in_stream p.before) (f.anchors_are i p at) not_i
      (go_with rest (pictures_in_stream p.before) h))

  has_backward : (later : List ℕ) (i : ℕ) (rest : List ℕ) (p : StreamPicture) → order ≡ later ++ i ∷ rest → At shown i p → type_in_stream p ≡ pic.B
      → AllZip IsIntactAt rest (pictures_in_stream p.before) → HasBackward r frames i p
  has_backward later i rest p e at is_b h =
      let plain : anchor_in r frames i ≡ false = f.anchors_are i p at ∙ ap is_anchor is_b in
      let group = (stands later i rest e).of_b plain in
      backward_by i p group.0 (backward_reference step_type pic.B (map step rest)) (backward_in_stream p) plain group.1
      (ap (λ b. option_map (λ (s : Step). s.frame) (backward_reference step_type (cond b pic.P pic.B) (map step rest))) (sym plain) ∙ (refers later i rest e).backward_is plain)
      refl
      (both_backward GoesWith step_type type_in_stream (λ s q g. g.1) (type_in_stream p) (map step rest) (pictures_in_stream p.before) is_b
      (go_with rest (pictures_in_stream p.before) h))

  shown_at : (i : ℕ) (p : StreamPicture) → At shown i p → slice_get frames i ≡ Some (samples_in p)
  shown_at i p at = ap (λ l. slice_get l i) f.frames_are ∙ samples_at shown i p at

  intact_at : (later : List ℕ) (i : ℕ) (rest : List ℕ) (p : StreamPicture) → order ≡ later ++ i ∷ rest → At shown i p → IsSound r.header p
      → AllZip IsIntactAt rest (pictures_in_stream p.before) → Intact r frames i p
  intact_at later i rest p e at s h = by (type_in_stream p) refl
    where
      holds : Holds r frames i p
      holds = record { size = s.size; frame = shown_at i p at }

      by : (t : PicType) → type_in_stream p ≡ t → Intact r frames i p
      by pic.I k = intact holds s.certified (unused (ap (λ t. uses_forward t p.unit.picture.decisions) k)) (not_b (λ b. i_is_no_b (sym k ∙ b)))
      by pic.P k = intact holds s.certified (has_forward later i rest p e at (λ b. p_is_no_i (sym k ∙ b)) h) (not_b (λ b. p_is_no_b (sym k ∙ b)))
      by pic.B k = intact holds s.certified (has_forward later i rest p e at (λ b. b_is_no_i (sym k ∙ b)) h) (has_backward later i rest p e at k h)

  all_intact_from : (later is : List ℕ) (us : List CodedUnit) → order ≡ later ++ is → AllZip (At shown) is (pictures_in_stream us) → AllByRecursion (IsSound r.header) (pictures_in_stream us)
      → AllZip IsIntactAt is (pictures_in_stream us)
  all_intact_from later [] [] e z s = tt
  all_intact_from later [] (u ∷ us) e z s = absurd z
  all_intact_from later (i ∷ rest) [] e z s = absurd z
  all_intact_from later (i ∷ rest) (u ∷ us) e z s =
      let more = all_intact_from (later ++ i ∷ []) rest us (e ∙ sym (append_assoc later (i ∷ []) rest)) z.1 s.1 in
      ((z.0, intact_at later i rest (record { unit = u; before = us }) e z.0 s.0 more), more)

  pub all_intact : (us : List CodedUnit) → coded ≡ pictures_in_stream us → AllByRecursion (IsSound r.header) (pictures_in_stream us) → AllZip IsIntactAt order (pictures_in_stream us)
  all_intact us e s = all_intact_from [] order us refl (subst (AllZip (At shown) order) e f.order) s
