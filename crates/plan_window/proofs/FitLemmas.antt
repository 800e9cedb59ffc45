-- Each step of a plan fits behind the steps before it, and refers to the nearest anchors.
use Rattle.std.proofs.Common.{◌≡◌, ℕ, zero, suc, ◌+◌, ◌<◌, ◌≤◌, Bool, true, false, cond, ◌&&◌, List, [], ◌∷◌, ◌++◌, length, map, get_or, slice_get, is_some, bytes_eq, Option, Some, None, refl, sym, ap, ap₂, ◌∙◌, subst, true≢false, append-nil, arith}
use Rattle.std.specs.List.{filter}
use Rattle.std.specs.Option.{option_map, option_map_or, option_and_then}
use Rattle.std.proofs.lemmas.List.{length-map}
use Rattle.std.proofs.lemmas.Option.{slice_get-get_or, get_or_from_slice_get}
use Rattle.std.proofs.lemmas.Slice.Eq.{bytes_eq-Decides}
use Rattle.mv_terms.specs.declared.head.PicType.{PicType}
use Rattle.mv_terms.specs.declared.head.PicType.TheVariants as pic
use Rattle.mv_terms.specs.PicTypes.{is_anchor}
use Rattle.mv_terms.specs.Order.{anchors, first, second, forward_reference, backward_reference}
use Rattle.plan_window.specs.declared.summary.Summary.{Summary}
use Rattle.plan_window.specs.declared.summary.Mode.TheVariants.{Guided, Fresh}
use Rattle.plan_window.specs.declared.summary.Step.{Step}
use Rattle.plan_window.specs.Links.{is_anchor_record, is_forward_right, is_linked, mode_by}
use Rattle.plan_window.specs.Plan.{ahead, is_plan_anchor, anchors_before, first_anchor, nearest_before, anchor_of_group, mode_at, step_at, group_before, coding_order, plan}
use Rattle.plan_window.specs.State.{WindowState}
use Rattle.plan_window.specs.Stands.{StandsFor}
use Rattle.plan_window.specs.Fits.{Planned, planned_step, planned, step_type, type_of, forward, backward, summary_of, IsInGroup, since_anchor, Fits, StandsInOrder, RefersToNearest, PlanFits, PlanStandsInOrder, PlanRefersToNearest, LastStepFits}
use Rattle.plan_window.proofs.NextLemmas.{anchor_at}
use Rattle.plan_window.proofs.ListLemmas.{drop_get}
use Rattle.plan_window.proofs.OrderLemmas.{first_at}
use Rattle.plan_window.proofs.PlanLemmas.{begins}
use Rattle.plan_window.proofs.GivenLemmas.{counted, frames_at}
use Rattle.plan_window.proofs.ReferenceLemmas.{map_split, filter-map, order_b, anchors_behind, order_anchor, next_unique, nearest_below}
use Rattle.plan_window.proofs.GroupLemmas.{or_false_left, group_of_b, group_small, group_begun}

-- guided steps

guided : (b : Bool) → cond b Guided Fresh ≡ Guided → b ≡ true
guided true e = refl
guided false e = absurd cc

and_left : (a b : Bool) → (a && b) ≡ true → a ≡ true
and_left true b h = refl
and_left false b h = absurd cc

and_right : (a b : Bool) → (a && b) ≡ true → b ≡ true
and_right true b h = h
and_right false b h = absurd cc

linked_found : (kind : Option PicType) (s : Summary) (nearest group : Option Summary) → is_linked kind s nearest group ≡ true → is_some kind ≡ true
linked_found None s nearest group h = absurd cc
linked_found (Some t) s nearest group h = refl

-- an anchor that is guided has an anchor record
linked_anchor : (kind : Option PicType) (s : Summary) (nearest : Option Summary) → is_linked kind s nearest None ≡ true → option_map_or is_anchor kind false ≡ true
linked_anchor None s nearest h = absurd cc
linked_anchor (Some pic.I) s nearest h = refl
linked_anchor (Some pic.P) s nearest h = refl
linked_anchor (Some pic.B) s nearest h = absurd (let no : false ≡ true = sym (none (is_forward_right s nearest)) ∙ h in cc)
  where
    none : (b : Bool) → (b && false) ≡ false
    none true = refl
    none false = refl

-- a B that is guided has its group's context
linked_b : (kind : Option PicType) (s : Summary) (nearest : Option Summary) (anchor : Summary) → option_map_or is_anchor kind false ≡ false → is_linked kind s nearest (Some anchor) ≡ true → bytes_eq s.context anchor.context ≡ true
linked_b None s nearest anchor p h = absurd cc
linked_b (Some pic.I) s nearest anchor p h = absurd cc
linked_b (Some pic.P) s nearest anchor p h = absurd cc
linked_b (Some pic.B) s nearest anchor p h = and_left _ _ (and_right (is_forward_right s nearest) _ h)

bytes_same : (xs ys : List ℕ) → bytes_eq xs ys ≡ true → xs ≡ ys
bytes_same xs ys e = (bytes_eq-Decides xs ys).0 e

mode_of : (frames : List Summary) (i : ℕ) (s : Summary) → slice_get frames i ≡ Some s → mode_at ahead frames i ≡ mode_by s (nearest_before ahead frames i) (anchor_of_group ahead frames i)
mode_of frames i s e = ap (λ (o : Option Summary). option_map_or (λ (q : Summary). mode_by q (nearest_before ahead frames i) (anchor_of_group ahead frames i)) o Fresh) e

-- the anchors among steps

pub kind_of_type : (b : Bool) → is_anchor (cond b pic.P pic.B) ≡ b
kind_of_type true = refl
kind_of_type false = refl

anchors_of_steps : (frames : List Summary) (xs : List ℕ) → anchors step_type (map (step_at ahead frames) xs) ≡ map (step_at ahead frames) (filter (is_plan_anchor ahead frames) xs)
anchors_of_steps frames xs = filter-map (step_at ahead frames) (λ (s : Step). is_anchor (step_type s)) (is_plan_anchor ahead frames) (λ i. kind_of_type (is_plan_anchor ahead frames i)) xs

anchors_of_planned : (otherwise : Summary) (frames : List Summary) (xs : List ℕ)
    → anchors type_of (planned otherwise frames (map (step_at ahead frames) xs)) ≡ planned otherwise frames (map (step_at ahead frames) (filter (is_plan_anchor ahead frames) xs))
anchors_of_planned otherwise frames xs =
    filter-map (planned_step otherwise frames) (λ (p : Planned). is_anchor (type_of p)) (λ (s : Step). is_anchor (step_type s)) (λ s. refl) (map (step_at ahead frames) xs)
    ∙ ap (planned otherwise frames) (anchors_of_steps frames xs)

first_frame : (frames : List Summary) (xs : List ℕ) → option_map (λ (r : Step). r.frame) (first (map (step_at ahead frames) xs)) ≡ slice_get xs 0
first_frame frames [] = refl
first_frame frames (x ∷ xs) = refl

first_summary : (otherwise : Summary) (frames : List Summary) (xs : List ℕ) → ((j : ℕ) → slice_get xs 0 ≡ Some j → j < length frames)
    → summary_of (first (planned otherwise frames (map (step_at ahead frames) xs))) ≡ option_and_then (slice_get frames) (slice_get xs 0)
first_summary otherwise frames [] within = refl
first_summary otherwise frames (x ∷ xs) within = sym (slice_get-get_or frames x otherwise (within x refl))

-- some summary
empty : Summary
empty = record { kind = None; low_delay = false; uses_forward = false; forward = None; backward = []; seal = []; context = [] }

-- where a step of the plan stands
module _ (frames : List Summary) where
  abbrev anchor : ℕ → Bool
  anchor = is_plan_anchor ahead frames

  abbrev step : ℕ → Step
  step = step_at ahead frames

  -- the next anchor of a B is that of its group
  record OfGroup (i : ℕ) (before : List ℕ) : Type 0 where
    at : ℕ
    later : i < at
    near : at ≤ i + ahead
    before_is : before ≡ group_before anchor i ++ at ∷ coding_order anchor at
    is_next : anchor at ≡ true
    begun : length (group_before anchor i) < ahead
    anchors_are : filter anchor before ≡ at ∷ anchors_before anchor i
    first_is : first_anchor anchor (suc i) ahead ≡ Some at
    summary : Summary
    is : slice_get frames at ≡ Some summary
    record_of_anchor : is_anchor_record summary ≡ true
    no_low_delay : summary.low_delay ≡ false

  of_group : (i : ℕ) (s : Summary) (later before : List ℕ) → coding_order anchor (length frames) ≡ later ++ i ∷ before → slice_get frames i ≡ Some s → anchor i ≡ false → OfGroup i before
  of_group i s later before parts here f =
      let b = order_b anchor (length frames) later i before parts f in
      let g = group_of_b ahead frames i s here f in
      let l : i < g.at = g.later in
      let m : i < b.at = b.later in
      let n : g.at ≤ i + ahead = g.near in
      let same : g.at ≡ b.at = next_unique anchor i g.at b.at (omega arith) (omega arith) g.next b.next in
      record {
        at = g.at;
        later = l;
        near = n;
        before_is = b.before_is ∙ ap (λ (j : ℕ). group_before anchor i ++ j ∷ coding_order anchor j) (sym same);
        is_next = g.next.is_anchor;
        begun = group_begun ahead frames i g.at (omega (arith, m, b.within)) f l g.next;
        anchors_are = anchors_behind anchor (length frames) i before b ∙ ap (λ (j : ℕ). j ∷ anchors_before anchor i) (sym same);
        first_is = first_at anchor ahead (suc i) g.at (omega arith) (omega arith) g.next.is_anchor (λ j a c. g.next.clear j (omega arith) c);
        summary = g.summary;
        is = g.is;
        record_of_anchor = g.is_anchor;
        no_low_delay = g.no_low_delay;
      }

  -- a step of the plan is of a frame that is there
  order_within : (i : ℕ) (later before : List ℕ) → coding_order anchor (length frames) ≡ later ++ i ∷ before → i < length frames
  order_within i later before parts = by (anchor i) refl
    where
      by : (b : Bool) → anchor i ≡ b → i < length frames
      by true t = (order_anchor anchor (length frames) later i before parts t).within
      by false f = let b = order_b anchor (length frames) later i before parts f in omega (arith, b.later, b.within)

  stands_at : (i : ℕ) (later before : List ℕ) → coding_order anchor (length frames) ≡ later ++ i ∷ before → StandsInOrder anchor (map step before) (step i)
  stands_at i later before parts = by (anchor i) refl
    where
      by : (b : Bool) → anchor i ≡ b → StandsInOrder anchor (map step before) (step i)
      by true t = record {
        of_anchor = λ _. frames_at ahead frames before ∙ (order_anchor anchor (length frames) later i before parts t).before_is;
        of_b = λ f. absurd (true≢false (sym t ∙ f));
      }
      by false f =
          let s : Summary = get_or frames i empty in
          let here : slice_get frames i ≡ Some s = slice_get-get_or frames i empty (order_within i later before parts) in
          let g = of_group i s later before parts here f in
          record { of_anchor = λ t. absurd (true≢false (sym t ∙ f)); of_b = λ _. (g.at, g.first_is, frames_at ahead frames before ∙ g.before_is) }

  refers_at : (i : ℕ) (later before : List ℕ) → coding_order anchor (length frames) ≡ later ++ i ∷ before → RefersToNearest anchor (map step before) (step i)
  refers_at i later before parts = by (anchor i) refl
    where
      by : (b : Bool) → anchor i ≡ b → RefersToNearest anchor (map step before) (step i)
      by true t = record {
        forward_is = ap (λ (b : Bool). option_map (λ (r : Step). r.frame) (forward_reference step_type (cond b pic.P pic.B) (map step before))) t
            ∙ ap (λ (l : List Step). option_map (λ (r : Step). r.frame) (first l)) (anchors_of_steps frames before ∙ ap (map step) (order_anchor anchor (length frames) later i before parts t).anchors)
            ∙ first_frame frames (anchors_before anchor i);
        backward_is = λ f. absurd (true≢false (sym t ∙ f));
      }
      by false f =
          let s : Summary = get_or frames i empty in
          let here : slice_get frames i ≡ Some s = slice_get-get_or frames i empty (order_within i later before parts) in
          let g = of_group i s later before parts here f in
          let all : anchors step_type (map step before) ≡ map step (g.at ∷ anchors_before anchor i) = anchors_of_steps frames before ∙ ap (map step) g.anchors_are in
          record {
            forward_is = ap (λ (b : Bool). option_map (λ (r : Step). r.frame) (forward_reference step_type (cond b pic.P pic.B) (map step before))) f
                ∙ ap (λ (l : List Step). option_map (λ (r : Step). r.frame) (second l)) all
                ∙ first_frame frames (anchors_before anchor i);
            backward_is = λ _. ap (λ (b : Bool). option_map (λ (r : Step). r.frame) (backward_reference step_type (cond b pic.P pic.B) (map step before))) f
                ∙ ap (λ (l : List Step). option_map (λ (r : Step). r.frame) (first l)) all
                ∙ sym g.first_is;
          }

  module _ (otherwise : Summary) where
    abbrev place : ℕ → Planned
    place i = planned_step otherwise frames (step i)

    abbrev places : List ℕ → List Planned
    places xs = planned otherwise frames (map step xs)

    nearest_within : (i : ℕ) → i < length frames → (j : ℕ) → slice_get (anchors_before anchor i) 0 ≡ Some j → j < length frames
    nearest_within i lt j e = let l : j < i = nearest_below anchor i j e in omega arith

    -- the steps since the anchor of a group
    since_group : (n g : ℕ) (bs : List ℕ) → anchor g ≡ true → length (since_anchor (places (group_before anchor n ++ g ∷ bs))) ≡ length (group_before anchor n)
    since_group zero g bs t = ap (λ (b : Bool). length (cond b [] (place g ∷ since_anchor (places bs)))) t
    since_group (suc n) g bs t = go (anchor n) refl (since_group n g bs t)
      where
        go : (b : Bool) → anchor n ≡ b → length (since_anchor (places (group_before anchor n ++ g ∷ bs))) ≡ length (group_before anchor n)
            → length (since_anchor (places (cond b [] (n ∷ group_before anchor n) ++ g ∷ bs))) ≡ length (cond b [] (n ∷ group_before anchor n))
        go true e more = ap (λ (b : Bool). length (cond b [] (place g ∷ since_anchor (places bs)))) t
        go false e more =
            ap (λ (b : Bool). length (cond b [] (place n ∷ since_anchor (places (group_before anchor n ++ g ∷ bs))))) e ∙ ap suc more

    -- what the step of an anchor refers to
    forward_of_anchor : (i : ℕ) (before : List ℕ) → i < length frames → anchor i ≡ true → filter anchor before ≡ anchors_before anchor i → summary_of (forward (places before) (place i)) ≡ nearest_before ahead frames i
    forward_of_anchor i before lt t all =
        ap (λ (b : Bool). summary_of (forward_reference type_of (cond b pic.P pic.B) (places before))) t
        ∙ ap (λ (l : List Planned). summary_of (first l)) (anchors_of_planned otherwise frames before ∙ ap places all)
        ∙ first_summary otherwise frames (anchors_before anchor i) (nearest_within i lt)

    backward_of_anchor : (i : ℕ) (before : List ℕ) → anchor i ≡ true → summary_of (backward (places before) (place i)) ≡ None
    backward_of_anchor i before t = ap (λ (b : Bool). summary_of (backward_reference type_of (cond b pic.P pic.B) (places before))) t

    no_group : (i : ℕ) → anchor i ≡ true → anchor_of_group ahead frames i ≡ None
    no_group i t = ap (λ (b : Bool). cond b None (option_and_then (slice_get frames) (first_anchor anchor (suc i) ahead))) t

    linked : (i : ℕ) (s : Summary) → slice_get frames i ≡ Some s → mode_at ahead frames i ≡ Guided → is_linked s.kind s (nearest_before ahead frames i) (anchor_of_group ahead frames i) ≡ true
    linked i s here m = guided _ (sym (mode_of frames i s here) ∙ m)

    found_at : (i : ℕ) (s : Summary) → slice_get frames i ≡ Some s → mode_at ahead frames i ≡ Guided → is_some s.kind ≡ true
    found_at i s here m = linked_found s.kind s (nearest_before ahead frames i) (anchor_of_group ahead frames i) (linked i s here m)

    fits_anchor : (i : ℕ) (later before : List ℕ) → coding_order anchor (length frames) ≡ later ++ i ∷ before → anchor i ≡ true → Fits (places before) (place i)
    fits_anchor i later before parts t =
        let b = order_anchor anchor (length frames) later i before parts t in
        let s : Summary = get_or frames i otherwise in
        let here : slice_get frames i ≡ Some s = slice_get-get_or frames i otherwise b.within in
        let all = counted anchor i in
        let small = group_small ahead frames i t b.within in
        let many : length (places before) ≡ length (coding_order anchor i) = length-map (map step before) (planned_step otherwise frames) ∙ length-map before step ∙ ap (λ (l : List ℕ). length l) b.before_is in
        record {
          mode = mode_of frames i s here ∙ sym (ap₂ (mode_by s) (forward_of_anchor i before b.within t b.anchors) (backward_of_anchor i before t ∙ sym (no_group i t)));
          found = found_at i s here;
          kind = λ m. linked_anchor s.kind s (nearest_before ahead frames i) (subst (λ (o : Option Summary). is_linked s.kind s (nearest_before ahead frames i) o ≡ true) (no_group i t) (linked i s here m)) ∙ sym t;
          waiting = λ _. (omega (arith, all, many), omega (arith, all, many, small));
          group = λ f. absurd (true≢false (sym t ∙ f));
          few = λ f. absurd (true≢false (sym t ∙ f));
        }

    fits_b : (i : ℕ) (later before : List ℕ) → coding_order anchor (length frames) ≡ later ++ i ∷ before → anchor i ≡ false → Fits (places before) (place i)
    fits_b i later before parts f =
        let lt = order_within i later before parts in
        let s : Summary = get_or frames i otherwise in
        let here : slice_get frames i ≡ Some s = slice_get-get_or frames i otherwise lt in
        let g = of_group i s later before parts here f in
        let all : anchors type_of (places before) ≡ places (g.at ∷ anchors_before anchor i) = anchors_of_planned otherwise frames before ∙ ap places g.anchors_are in
        let ahead_is : get_or frames g.at otherwise ≡ g.summary = get_or_from_slice_get frames g.at g.summary otherwise g.is in
        let back : backward (places before) (place i) ≡ Some (place g.at) =
        ap (λ (b : Bool). backward_reference type_of (cond b pic.P pic.B) (places before)) f ∙ ap (λ (l : List Planned). first l) all in
        let front : summary_of (forward (places before) (place i)) ≡ nearest_before ahead frames i =
        ap (λ (b : Bool). summary_of (forward_reference type_of (cond b pic.P pic.B) (places before))) f ∙ ap (λ (l : List Planned). summary_of (second l)) all
        ∙ first_summary otherwise frames (anchors_before anchor i) (nearest_within i lt) in
        let group : anchor_of_group ahead frames i ≡ Some (get_or frames g.at otherwise) =
        ap (λ (b : Bool). cond b None (option_and_then (slice_get frames) (first_anchor anchor (suc i) ahead))) f ∙ ap (option_and_then (slice_get frames)) g.first_is ∙ g.is ∙ ap (λ (r : Summary). Some r) (sym ahead_is) in
        let plain : is_anchor_record s ≡ false = or_false_left _ _ (sym (anchor_at ahead frames i s _ (drop_get i frames s here)) ∙ f) in
        record {
          mode = mode_of frames i s here ∙ sym (ap₂ (mode_by s) front (ap summary_of back ∙ sym group));
          found = found_at i s here;
          kind = λ m. plain ∙ sym f;
          waiting = λ t. absurd (true≢false (sym t ∙ f));
          group = λ _. subst (λ (r : Option Planned). IsInGroup r (place i)) (sym back) (record {
            record_of_anchor = ap is_anchor_record ahead_is ∙ g.record_of_anchor;
            no_low_delay = ap (λ (r : Summary). r.low_delay) ahead_is ∙ g.no_low_delay;
            same_context = λ m. bytes_same _ _ (linked_b s.kind s (nearest_before ahead frames i) (get_or frames g.at otherwise) plain
                (subst (λ (o : Option Summary). is_linked s.kind s (nearest_before ahead frames i) o ≡ true) group (linked i s here m)));
            later = g.later;
            near = g.near;
          });
          few = λ _. (let since : length (since_anchor (places before)) ≡ length (group_before anchor i) =
              ap (λ (l : List ℕ). length (since_anchor (places l))) g.before_is ∙ since_group i g.at (coding_order anchor g.at) g.is_next in omega (arith, since, g.begun));
        }

    fits_at : (i : ℕ) (later before : List ℕ) → coding_order anchor (length frames) ≡ later ++ i ∷ before → Fits (places before) (place i)
    fits_at i later before parts = by (anchor i) refl
      where
        by : (b : Bool) → anchor i ≡ b → Fits (places before) (place i)
        by true t = fits_anchor i later before parts t
        by false f = fits_b i later before parts f

pub plan_fits : PlanFits
plan_fits otherwise frames later given s e =
    let p = map_split (step_at ahead frames) (coding_order (is_plan_anchor ahead frames) (length frames)) later s given e in
    subst (λ (x : Step). Fits (planned otherwise frames given) (planned_step otherwise frames x)) p.here
    (subst (λ (l : List Step). Fits (planned otherwise frames l) (planned_step otherwise frames (step_at ahead frames p.at))) p.rest (fits_at frames otherwise p.at p.later p.before p.parts))

pub plan_stands : PlanStandsInOrder
plan_stands frames later given s e =
    let p = map_split (step_at ahead frames) (coding_order (is_plan_anchor ahead frames) (length frames)) later s given e in
    subst (λ (x : Step). StandsInOrder (is_plan_anchor ahead frames) given x) p.here
    (subst (λ (l : List Step). StandsInOrder (is_plan_anchor ahead frames) l (step_at ahead frames p.at)) p.rest (stands_at frames p.at p.later p.before p.parts))

pub plan_refers : PlanRefersToNearest
plan_refers frames later given s e =
    let p = map_split (step_at ahead frames) (coding_order (is_plan_anchor ahead frames) (length frames)) later s given e in
    subst (λ (x : Step). RefersToNearest (is_plan_anchor ahead frames) given x) p.here
    (subst (λ (l : List Step). RefersToNearest (is_plan_anchor ahead frames) l (step_at ahead frames p.at)) p.rest (refers_at frames p.at p.later p.before p.parts))

-- so does the last step that a window gave
pub last_fits : (window : WindowState) (pushed : List Summary) (given : List Step) → StandsFor ahead window pushed given → LastStepFits window pushed given
last_fits window pushed [] st = tt
last_fits window pushed (s ∷ given) st =
    let (later, e) = begins ahead window pushed (s ∷ given) st [] (λ c. refl) in
    let whole : plan ahead pushed ≡ later ++ s ∷ given = ap (plan ahead) (sym (append-nil pushed)) ∙ e in
    ((λ otherwise. plan_fits otherwise pushed later given s whole), plan_stands pushed later given s whole, plan_refers pushed later given s whole)
