-- What is coded by the plan is shown in the order of the frames.
use Rattle.std.proofs.Common.{◌≡◌, ℕ, zero, suc, ◌+◌, Bool, true, false, cond, ◌||◌, List, [], ◌∷◌, ◌++◌, length, map, take, find, reverse, slice_get, Option, Some, None, refl, sym, ap, ap₂, ◌∙◌, append-nil, append_assoc, arith, add-one, map-id}
use Rattle.std.specs.List.{All, filter, range_with_len}
use Rattle.std.proofs.lemmas.List.Elements.{All-head, All-tail}
use Rattle.std.specs.Option.{option_map_or}
use Rattle.std.proofs.lemmas.List.{map-append, drop_all}
use Rattle.std.proofs.lemmas.List.FromFn.{map-range_with_len_more}
use Rattle.std.proofs.lemmas.Grind.{reverse_onto}
use Rattle.mv_terms.specs.declared.head.PicType.{PicType}
use Rattle.mv_terms.specs.PicTypes.{is_anchor}
use Rattle.mv_terms.specs.Order.{anchors, first, listed, held, shown_by, shows, display_order}
use Rattle.mv_terms.proofs.ShownLaws.{shown_and_held, shown_earlier}
use Rattle.plan_window.specs.declared.summary.Summary.{Summary}
use Rattle.plan_window.specs.declared.summary.Step.{Step}
use Rattle.plan_window.specs.Links.{is_anchor_record}
use Rattle.plan_window.specs.Plan.{ahead, is_plan_anchor, step_at, group_before, coding_order, plan}
use Rattle.plan_window.specs.State.{WindowState}
use Rattle.plan_window.specs.Stands.{StandsFor}
use Rattle.plan_window.specs.Fits.{step_type, frames_of, PlanIsShownInOrder, StepsAreShownInOrder, AreShownInOrder}
use Rattle.plan_window.proofs.PlanLemmas.{begins}
use Rattle.plan_window.proofs.GivenLemmas.{frames_at}
use Rattle.plan_window.proofs.ReferenceLemmas.{filter-map}
use Rattle.plan_window.proofs.FitLemmas.{kind_of_type}

listed_map : {X Y : Type 0} (f : X → Y) (xs : List X) → listed (first (map f xs)) ≡ map f (listed (first xs))
listed_map f [] = refl
listed_map f (x ∷ xs) = refl

-- what is shown of a list that was mapped
held_map : {X Y : Type 0} (f : X → Y) (t : Y → PicType) (xs : List X) → listed (held t (map f xs)) ≡ map f (listed (held (λ x. t (f x)) xs))
held_map f t xs = ap (λ l. listed (first l)) (filter-map f (λ y. is_anchor (t y)) (λ x. is_anchor (t (f x))) (λ x. refl) xs) ∙ listed_map f (filter (λ x. is_anchor (t (f x))) xs)

shows_map : {X Y : Type 0} (f : X → Y) (b : Bool) (ys : List Y) (xs : List X) (x : X) → ys ≡ map f xs → cond b ys (f x ∷ []) ≡ map f (cond b xs (x ∷ []))
shows_map f true ys xs x e = e
shows_map f false ys xs x e = refl

shown_map : {X Y : Type 0} (f : X → Y) (t : Y → PicType) (xs : List X) → shown_by t (map f xs) ≡ map f (shown_by (λ x. t (f x)) xs)
unfolding shown_by
shown_map f t [] = refl
shown_map {X} {Y} f t (x ∷ xs) =
    ap₂ (λ (a b : List Y). a ++ b) (shown_map f t xs) (shows_map f (is_anchor (t (f x))) (listed (held t (map f xs))) (listed (held (λ y. t (f y)) xs)) x (held_map f t xs))
    ∙ sym (map-append f (shown_by (λ y. t (f y)) xs) (shows (λ y. t (f y)) (held (λ y. t (f y)) xs) x))

range_more : (n : ℕ) → range_with_len 0 (suc n) ≡ range_with_len 0 n ++ n ∷ []
range_more n =
    ap (range_with_len 0) (sym (add-one n)) ∙ sym (map-id (range_with_len 0 (n + 1))) ∙ map-range_with_len_more (λ (x : ℕ). x) 0 n n (omega arith)
    ∙ ap (λ l. l ++ n ∷ []) (map-id (range_with_len 0 n))

-- Over numbers of frames, where these are the anchors.
module _ (t : ℕ → PicType) (anchor : ℕ → Bool) (same : (i : ℕ) → is_anchor (t i) ≡ anchor i) where
  -- a group is shown as it comes
  shown_group : (n : ℕ) (bs : List ℕ) → shown_by t (group_before anchor n ++ bs) ≡ shown_by t bs ++ reverse (group_before anchor n)
  unfolding shown_by
  shown_group zero bs = sym (append-nil (shown_by t bs))
  shown_group (suc n) bs = go (anchor n) refl (shown_group n bs)
    where
      go : (b : Bool) → anchor n ≡ b → shown_by t (group_before anchor n ++ bs) ≡ shown_by t bs ++ reverse (group_before anchor n)
          → shown_by t (cond b [] (n ∷ group_before anchor n) ++ bs) ≡ shown_by t bs ++ reverse (cond b [] (n ∷ group_before anchor n))
      go true e more = sym (append-nil (shown_by t bs))
      go false e more =
          ap (λ (b : Bool). shown_by t (group_before anchor n ++ bs) ++ cond b (listed (held t (group_before anchor n ++ bs))) (n ∷ [])) (same n ∙ e)
          ∙ ap (λ l. l ++ n ∷ []) more ∙ append_assoc (shown_by t bs) (reverse (group_before anchor n)) (n ∷ [])
          ∙ ap (λ l. shown_by t bs ++ l) (sym (reverse_onto (group_before anchor n) n []))

  held_group : (n : ℕ) (bs : List ℕ) → held t (group_before anchor n ++ bs) ≡ held t bs
  held_group zero bs = refl
  held_group (suc n) bs = go (anchor n) refl (held_group n bs)
    where
      go : (b : Bool) → anchor n ≡ b → held t (group_before anchor n ++ bs) ≡ held t bs → held t (cond b [] (n ∷ group_before anchor n) ++ bs) ≡ held t bs
      go true e more = refl
      go false e more = ap (λ (b : Bool). first (cond b (n ∷ filter (λ i. is_anchor (t i)) (group_before anchor n ++ bs)) (filter (λ i. is_anchor (t i)) (group_before anchor n ++ bs)))) (same n ∙ e) ∙ more

  -- what is shown, the anchor that is held, and the frames that wait are all frames in their order
  shown_order : (n : ℕ) → (shown_by t (coding_order anchor n) ++ listed (held t (coding_order anchor n))) ++ reverse (group_before anchor n) ≡ range_with_len 0 n
  unfolding shown_by
  shown_order zero = refl
  shown_order (suc n) = go (anchor n) refl (shown_order n)
    where
      coded : List ℕ
      coded = coding_order anchor n

      group : List ℕ
      group = group_before anchor n

      go : (b : Bool) → anchor n ≡ b → (shown_by t coded ++ listed (held t coded)) ++ reverse group ≡ range_with_len 0 n
          → (shown_by t (cond b (group ++ n ∷ coded) coded) ++ listed (held t (cond b (group ++ n ∷ coded) coded))) ++ reverse (cond b [] (n ∷ group)) ≡ range_with_len 0 (suc n)
      go true e more =
          let yes : is_anchor (t n) ≡ true = same n ∙ e in
          let shown : shown_by t (n ∷ coded) ≡ shown_by t coded ++ listed (held t coded) = ap (λ (b : Bool). shown_by t coded ++ cond b (listed (held t coded)) (n ∷ [])) yes in
          let last : held t (n ∷ coded) ≡ Some n = ap (λ (b : Bool). first (cond b (n ∷ filter (λ i. is_anchor (t i)) coded) (filter (λ i. is_anchor (t i)) coded))) yes in
          append-nil (shown_by t (group ++ n ∷ coded) ++ listed (held t (group ++ n ∷ coded)))
          ∙ ap₂ (λ (a : List ℕ) (o : Option ℕ). a ++ listed o) (shown_group n (n ∷ coded) ∙ ap (λ l. l ++ reverse group) shown) (held_group n (n ∷ coded) ∙ last)
          ∙ ap (λ l. l ++ n ∷ []) more ∙ sym (range_more n)
      go false e more =
          ap (λ l. (shown_by t coded ++ listed (held t coded)) ++ l) (reverse_onto group n [])
          ∙ sym (append_assoc (shown_by t coded ++ listed (held t coded)) (reverse group) (n ∷ []))
          ∙ ap (λ l. l ++ n ∷ []) more ∙ sym (range_more n)

-- the last frame is an anchor
none_waits : (frames : List Summary) (n : ℕ) → n ≡ length frames → group_before (is_plan_anchor ahead frames) n ≡ []
none_waits frames zero e = refl
none_waits frames (suc n) e = ap (λ (b : Bool). cond b [] (n ∷ group_before (is_plan_anchor ahead frames) n)) (last ∙ or_true (option_map_or is_anchor_record (slice_get frames n) false))
  where
    or_true : (b : Bool) → (b || true) ≡ true
    or_true true = refl
    or_true false = refl

    take_none : (k : ℕ) → find is_anchor_record (take k []) ≡ None
    take_none zero = refl
    take_none (suc k) = refl

    last : is_plan_anchor ahead frames n ≡ (option_map_or is_anchor_record (slice_get frames n) false || true)
    last =
        ap (λ l. option_map_or is_anchor_record (slice_get frames n) false || option_map_or (λ (q : Summary). q.low_delay) (find is_anchor_record (take ahead l)) true) (drop_all (suc n) frames (omega arith))
        ∙ ap (λ o. option_map_or is_anchor_record (slice_get frames n) false || option_map_or (λ (q : Summary). q.low_delay) o true) (take_none ahead)

shown_and_held_of_plan : (frames : List Summary) → frames_of (shown_by step_type (plan ahead frames) ++ listed (held step_type (plan ahead frames))) ≡ range_with_len 0 (length frames)
shown_and_held_of_plan frames =
    let anchor = is_plan_anchor ahead frames in
    let step = step_at ahead frames in
    let t : ℕ → PicType = λ i. step_type (step i) in
    let coded = coding_order anchor (length frames) in
    ap₂ (λ (a b : List Step). frames_of (a ++ b)) (shown_map step step_type coded) (held_map step step_type coded)
    ∙ ap frames_of (sym (map-append step (shown_by t coded) (listed (held t coded))))
    ∙ frames_at ahead frames (shown_by t coded ++ listed (held t coded))
    ∙ sym (append-nil (shown_by t coded ++ listed (held t coded)))
    ∙ ap (λ l. (shown_by t coded ++ listed (held t coded)) ++ reverse l) (sym (none_waits frames (length frames) refl))
    ∙ shown_order t anchor (λ i. kind_of_type (anchor i)) (length frames)

pub plan_is_shown_in_order : PlanIsShownInOrder
plan_is_shown_in_order frames = ap frames_of (shown_and_held step_type (plan ahead frames)) ∙ shown_and_held_of_plan frames

pub steps_are_shown_in_order : StepsAreShownInOrder
steps_are_shown_in_order frames later given e =
    let earlier = shown_earlier step_type later given in
    let rest : List Step = earlier.0 ++ listed (held step_type (plan ahead frames)) in
    let whole : shown_by step_type (plan ahead frames) ≡ shown_by step_type given ++ earlier.0 = ap (shown_by step_type) e ∙ earlier.1 in (
      frames_of rest,
      sym (shown_and_held_of_plan frames) ∙ ap (λ l. frames_of (l ++ listed (held step_type (plan ahead frames)))) whole
          ∙ ap frames_of (append_assoc (shown_by step_type given) earlier.0 (listed (held step_type (plan ahead frames))))
          ∙ map-append (λ (s : Step). s.frame) (shown_by step_type given) rest,
    )

pub given_are_shown_in_order : (window : WindowState) (pushed : List Summary) (given : List Step) → StandsFor ahead window pushed given → AreShownInOrder window pushed given
given_are_shown_in_order window pushed given st =
    let (later, e) = begins ahead window pushed given st [] (λ c. refl) in
    steps_are_shown_in_order pushed later given (ap (plan ahead) (sym (append-nil pushed)) ∙ e)

-- Pictures that are coded by the steps of a plan: each is of the type of an anchor where its step is one.

same_anchors : {X : Type 0} (t u : X → PicType) (xs : List X) → All (λ x. is_anchor (t x) ≡ is_anchor (u x)) xs → anchors t xs ≡ anchors u xs
same_anchors t u [] same = refl
same_anchors {X} t u (x ∷ xs) same =
    ap₂ (λ (b : Bool) (l : List X). cond b (x ∷ l) l) (All-head (λ y. is_anchor (t y) ≡ is_anchor (u y)) x xs same) (same_anchors t u xs (All-tail (λ y. is_anchor (t y) ≡ is_anchor (u y)) x xs same))

same_shown : {X : Type 0} (t u : X → PicType) (xs : List X) → All (λ x. is_anchor (t x) ≡ is_anchor (u x)) xs → shown_by t xs ≡ shown_by u xs
unfolding shown_by
same_shown t u [] same = refl
same_shown {X} t u (x ∷ xs) same =
    let rest = All-tail (λ y. is_anchor (t y) ≡ is_anchor (u y)) x xs same in
    ap₂ (λ (l m : List X). l ++ m) (same_shown t u xs rest)
    (ap₂ (λ (b : Bool) (l : List X). cond b (listed (first l)) (x ∷ [])) (All-head (λ y. is_anchor (t y) ≡ is_anchor (u y)) x xs same) (same_anchors t u xs rest))

-- their anchors are those of the steps
pub anchors_of_pictures : {X : Type 0} (step_of : X → Step) (t : X → PicType) (coded : List X) → All (λ x. is_anchor (t x) ≡ is_anchor (step_type (step_of x))) coded
    → map step_of (anchors t coded) ≡ anchors step_type (map step_of coded)
anchors_of_pictures step_of t coded same =
    ap (map step_of) (same_anchors t (λ x. step_type (step_of x)) coded same)
    ∙ sym (filter-map step_of (λ s. is_anchor (step_type s)) (λ x. is_anchor (step_type (step_of x))) (λ x. refl) coded)

-- and they are shown in the order of the frames
pub pictures_are_shown_in_order : {X : Type 0} (step_of : X → Step) (t : X → PicType) (frames : List Summary) (coded : List X) → map step_of coded ≡ plan ahead frames
    → All (λ x. is_anchor (t x) ≡ is_anchor (step_type (step_of x))) coded → frames_of (map step_of (display_order t (reverse coded))) ≡ range_with_len 0 (length frames)
pictures_are_shown_in_order {X} step_of t frames coded is same =
    ap (λ (l : List X). frames_of (map step_of l))
    (shown_and_held t coded ∙ ap₂ (λ (a b : List X). a ++ listed (first b)) (same_shown t (λ x. step_type (step_of x)) coded same) (same_anchors t (λ x. step_type (step_of x)) coded same))
    ∙ ap frames_of (map-append step_of (shown_by (λ x. step_type (step_of x)) coded) (listed (held (λ x. step_type (step_of x)) coded))
    ∙ sym (ap₂ (λ (a b : List Step). a ++ b) (shown_map step_of step_type coded) (held_map step_of step_type coded))
    ∙ ap (λ l. shown_by step_type l ++ listed (held step_type l)) is)
    ∙ shown_and_held_of_plan frames
