-- Nothing but a comparison of a B's context with that of its group's anchor looks at contexts, and these are at most w frames apart.
use Rattle.std.proofs.Common.{◌≡◌, ℕ, zero, suc, ◌+◌, ◌<◌, ◌≤◌, Bool, true, false, cond, not, ◌&&◌, ◌||◌, List, [], ◌∷◌, map, find, take, drop, length, slice_get, Option, Some, None, refl, sym, ap, ap₂, ◌∙◌, arith, bytes_eq}
use mathlib.Core.Path.{fun_ext}
use Rattle.std.specs.Option.{option_map, option_map_or, option_and_then}
use Rattle.std.proofs.lemmas.List.{take-map, drop-map, length-map}
use Rattle.std.proofs.lemmas.Option.{slice_get-map}
use Rattle.mv_terms.specs.declared.head.PicType.{PicType}
use Rattle.mv_terms.specs.declared.head.PicType.TheVariants as pic
use Rattle.plan_window.specs.declared.summary.Summary.{Summary}
use Rattle.plan_window.specs.declared.summary.Mode.TheVariants.{Guided, Fresh}
use Rattle.plan_window.specs.declared.summary.Step.{Step}
use Rattle.plan_window.specs.Links.{is_anchor_record, is_sealed_by, is_link_of, is_forward_right, is_in_group_of, is_linked, mode_by}
use Rattle.plan_window.specs.Plan.{is_plan_anchor, anchors_before, first_anchor, nearest_before, anchor_of_group, mode_at, step_at, coding_order, plan}
use Rattle.plan_window.specs.Numbers.{without_context, AreNumbered}
use Rattle.plan_window.proofs.StepLemmas.{step_of}

find_bare : (xs : List Summary) → find is_anchor_record (map without_context xs) ≡ option_map without_context (find is_anchor_record xs)
find_bare [] = refl
find_bare (x ∷ xs) = go (is_anchor_record x) (find_bare xs)
  where
    go : (b : Bool) → find is_anchor_record (map without_context xs) ≡ option_map without_context (find is_anchor_record xs)
        → cond b (Some (without_context x)) (find is_anchor_record (map without_context xs)) ≡ option_map without_context (cond b (Some x) (find is_anchor_record xs))
    go true e = refl
    go false e = e

test_bare : (o : Option Summary) → option_map_or is_anchor_record (option_map without_context o) false ≡ option_map_or is_anchor_record o false
test_bare None = refl
test_bare (Some x) = refl

delay_bare : (o : Option Summary) → option_map_or (λ (q : Summary). q.low_delay) (option_map without_context o) true ≡ option_map_or (λ (q : Summary). q.low_delay) o true
delay_bare None = refl
delay_bare (Some x) = refl

anchor_bare : (w : ℕ) (frames : List Summary) (i : ℕ) → is_plan_anchor w (map without_context frames) i ≡ is_plan_anchor w frames i
anchor_bare w frames i =
    ap₂ (λ a b. a || b) (ap (λ o. option_map_or is_anchor_record o false) (slice_get-map without_context frames i) ∙ test_bare (slice_get frames i))
    (ap (λ l. option_map_or (λ (q : Summary). q.low_delay) (find is_anchor_record (take w l)) true) (drop-map without_context (suc i) frames)
    ∙ ap (λ l. option_map_or (λ (q : Summary). q.low_delay) (find is_anchor_record l) true) (take-map without_context w (drop (suc i) frames))
    ∙ ap (λ o. option_map_or (λ (q : Summary). q.low_delay) o true) (find_bare (take w (drop (suc i) frames))) ∙ delay_bare (find is_anchor_record (take w (drop (suc i) frames))))

link_bare : (l : Option (List ℕ)) (n : Option Summary) → is_link_of l (option_map without_context n) ≡ is_link_of l n
link_bare None None = refl
link_bare None (Some x) = refl
link_bare (Some l) None = refl
link_bare (Some l) (Some x) = refl

forward_same : (s t : Summary) (m n : Option Summary) → without_context s ≡ without_context t → option_map without_context m ≡ option_map without_context n → is_forward_right s m ≡ is_forward_right t n
forward_same s t m n e f =
    ap (λ b. not s.uses_forward || b) (sym (link_bare s.forward m)) ∙ ap₂ (λ (q : Summary) o. not q.uses_forward || is_link_of q.forward o) e f ∙ ap (λ b. not t.uses_forward || b) (link_bare t.forward n)

group_same : (s t : Summary) (g h : Option Summary) → without_context s ≡ without_context t → option_map without_context g ≡ option_map without_context h
    → ((a b : Summary) → g ≡ Some a → h ≡ Some b → bytes_eq s.context a.context ≡ bytes_eq t.context b.context) → is_in_group_of s g ≡ is_in_group_of t h
group_same s t None None e f c = refl
group_same s t None (Some b) e f c = cc
group_same s t (Some a) None e f c = cc
group_same s t (Some a) (Some b) e f c =
    let bare : without_context a ≡ without_context b = cc in
    ap₂ (λ x y. x && y) (c a b refl refl) (ap₂ (λ (p : Summary) (q : Summary). is_sealed_by p.backward q) e bare)

linked_same : (k : Option PicType) (s t : Summary) (m n g h : Option Summary) → without_context s ≡ without_context t → option_map without_context m ≡ option_map without_context n
    → option_map without_context g ≡ option_map without_context h → ((a b : Summary) → g ≡ Some a → h ≡ Some b → bytes_eq s.context a.context ≡ bytes_eq t.context b.context)
    → is_linked k s m g ≡ is_linked k t n h
linked_same None s t m n g h e f o c = refl
linked_same (Some pic.I) s t m n g h e f o c = refl
linked_same (Some pic.P) s t m n g h e f o c = forward_same s t m n e f
linked_same (Some pic.B) s t m n g h e f o c = ap₂ (λ x y. x && y) (forward_same s t m n e f) (group_same s t g h e o c)

mode_same : (s t : Summary) (m n g h : Option Summary) → without_context s ≡ without_context t → option_map without_context m ≡ option_map without_context n
    → option_map without_context g ≡ option_map without_context h → ((a b : Summary) → g ≡ Some a → h ≡ Some b → bytes_eq s.context a.context ≡ bytes_eq t.context b.context)
    → mode_by s m g ≡ mode_by t n h
mode_same s t m n g h e f o c =
    ap (λ b. cond b Guided Fresh) (linked_same s.kind s t m n g h e f o c ∙ ap (λ (q : Summary). is_linked q.kind t n h) e)

first_range : (anchor : ℕ → Bool) (i w j : ℕ) → first_anchor anchor i w ≡ Some j → (i ≤ j) × (j < i + w)
first_range anchor i zero j h = absurd (none h)
  where
    none : None ≡ Some j → ⊥
    none e = cc
first_range anchor i (suc w) j h = go (anchor i) h (first_range anchor (suc i) w j)
  where
    go : (b : Bool) → cond b (Some i) (first_anchor anchor (suc i) w) ≡ Some j → (first_anchor anchor (suc i) w ≡ Some j → (suc i ≤ j) × (j < suc i + w)) → (i ≤ j) × (j < i + suc w)
    go true e more = let same : i ≡ j = cc in (omega arith, omega arith)
    go false e more = let (a, b) = more e in (omega arith, omega arith)

get_bare : (w : ℕ) (frames numbered : List Summary) → AreNumbered w frames numbered → (o : Option ℕ)
    → option_map without_context (option_and_then (slice_get frames) o) ≡ option_map without_context (option_and_then (slice_get numbered) o)
get_bare w frames numbered same None = refl
get_bare w frames numbered same (Some k) = sym (slice_get-map without_context frames k) ∙ ap (λ l. slice_get l k) same.rest ∙ slice_get-map without_context numbered k

mode_at_same : (w : ℕ) (frames numbered : List Summary) → AreNumbered w frames numbered → is_plan_anchor w frames ≡ is_plan_anchor w numbered → (i : ℕ) → mode_at w frames i ≡ mode_at w numbered i
mode_at_same w frames numbered same anchors i =
    go (slice_get frames i) (slice_get numbered i) refl refl (get_bare w frames numbered same (Some i))
  where
    both : option_map without_context (nearest_before w frames i) ≡ option_map without_context (nearest_before w numbered i)
    both = get_bare w frames numbered same (slice_get (anchors_before (is_plan_anchor w frames) i) 0)
        ∙ ap (λ (a : ℕ → Bool). option_map without_context (option_and_then (slice_get numbered) (slice_get (anchors_before a i) 0))) anchors

    groups : (b : Bool) → option_map without_context (cond b None (option_and_then (slice_get frames) (first_anchor (is_plan_anchor w frames) (suc i) w)))
        ≡ option_map without_context (cond b None (option_and_then (slice_get numbered) (first_anchor (is_plan_anchor w frames) (suc i) w)))
    groups true = refl
    groups false = get_bare w frames numbered same (first_anchor (is_plan_anchor w frames) (suc i) w)

    along : option_map without_context (cond (is_plan_anchor w frames i) None (option_and_then (slice_get numbered) (first_anchor (is_plan_anchor w frames) (suc i) w)))
        ≡ option_map without_context (anchor_of_group w numbered i)
    along = ap (λ (a : ℕ → Bool). option_map without_context (cond (a i) None (option_and_then (slice_get numbered) (first_anchor a (suc i) w)))) anchors

    place : (b : Bool) (o : Option ℕ) (l : List Summary) (a : Summary) → cond b None (option_and_then (slice_get l) o) ≡ Some a → (j : ℕ) × (o ≡ Some j) × (slice_get l j ≡ Some a)
    place true o l a h = absurd (none h)
      where
        none : None ≡ Some a → ⊥
        none e = cc
    place false None l a h = absurd (none h)
      where
        none : None ≡ Some a → ⊥
        none e = cc
    place false (Some j) l a h = (j, refl, h)

    test : (s t : Summary) → slice_get frames i ≡ Some s → slice_get numbered i ≡ Some t → (a b : Summary) → anchor_of_group w frames i ≡ Some a → anchor_of_group w numbered i ≡ Some b
        → bytes_eq s.context a.context ≡ bytes_eq t.context b.context
    test s t es et a b ea eb =
        let (j, oj, aj) = place (is_plan_anchor w frames i) (first_anchor (is_plan_anchor w frames) (suc i) w) frames a ea in
        let (k, ok, bk) = place (is_plan_anchor w numbered i) (first_anchor (is_plan_anchor w numbered) (suc i) w) numbered b eb in
        let same_place : Some j ≡ Some k = sym oj ∙ ap (λ (c : ℕ → Bool). first_anchor c (suc i) w) anchors ∙ ok in
        let e : k ≡ j = cc in
        let (low, high) = first_range (is_plan_anchor w frames) (suc i) w j oj in
        same.contexts i j s a t b (omega arith) (omega arith) es aj et (ap (slice_get numbered) (sym e) ∙ bk)

    go : (o p : Option Summary) → slice_get frames i ≡ o → slice_get numbered i ≡ p → option_map without_context (slice_get frames i) ≡ option_map without_context (slice_get numbered i)
        → option_map_or (λ (s : Summary). mode_by s (nearest_before w frames i) (anchor_of_group w frames i)) (slice_get frames i) Fresh
        ≡ option_map_or (λ (s : Summary). mode_by s (nearest_before w numbered i) (anchor_of_group w numbered i)) (slice_get numbered i) Fresh
    go None None e f bare = rw (e, f) refl
    go None (Some t) e f bare = let h : None ≡ Some (without_context t) = sym (ap (option_map without_context) e) ∙ bare ∙ ap (option_map without_context) f in cc
    go (Some s) None e f bare = let h : Some (without_context s) ≡ None = sym (ap (option_map without_context) e) ∙ bare ∙ ap (option_map without_context) f in cc
    go (Some s) (Some t) e f bare =
        let h : Some (without_context s) ≡ Some (without_context t) = sym (ap (option_map without_context) e) ∙ bare ∙ ap (option_map without_context) f in
        let h' : without_context s ≡ without_context t = cc in
        ap (λ o. option_map_or (λ (q : Summary). mode_by q (nearest_before w frames i) (anchor_of_group w frames i)) o Fresh) e
        ∙ mode_same s t (nearest_before w frames i) (nearest_before w numbered i) (anchor_of_group w frames i) (anchor_of_group w numbered i) h' both (groups (is_plan_anchor w frames i) ∙ along) (test s t e f)
        ∙ sym (ap (λ o. option_map_or (λ (q : Summary). mode_by q (nearest_before w numbered i) (anchor_of_group w numbered i)) o Fresh) f)

pub same_plan : (w : ℕ) (frames numbered : List Summary) → AreNumbered w frames numbered → plan w frames ≡ plan w numbered
same_plan w frames numbered same =
    let anchors : is_plan_anchor w frames ≡ is_plan_anchor w numbered = fun_ext (λ i. sym (anchor_bare w frames i) ∙ ap (λ l. is_plan_anchor w l i) same.rest ∙ anchor_bare w numbered i) in
    let long : length frames ≡ length numbered = sym (length-map frames without_context) ∙ ap length same.rest ∙ length-map numbered without_context in
    let steps : step_at w frames ≡ step_at w numbered = fun_ext (λ i. ap₂ (step_of i) (ap (λ (a : ℕ → Bool). a i) anchors) (mode_at_same w frames numbered same anchors i)) in
    ap₂ (λ (f : ℕ → Step) l. map f l) steps (ap₂ (λ (a : ℕ → Bool) n. coding_order a n) anchors long)
