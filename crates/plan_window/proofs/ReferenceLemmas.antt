-- The anchors among the steps before one, in the order of coding.
use Rattle.std.proofs.Common.{◌≡◌, ◌⊎◌, ℕ, zero, suc, ◌<◌, ◌≤◌, Bool, true, false, cond, List, [], ◌∷◌, ◌++◌, map, slice_get, Some, None, refl, sym, ap, ap₂, ◌∙◌, inl, inr, true≢false, arith}
use Rattle.std.proofs.lemmas.Bool.{cases_lt}
use Rattle.std.specs.List.{filter}
use Rattle.std.specs.Option.{option_map}
use Rattle.mv_terms.specs.Order.{first, second}
use Rattle.plan_window.specs.Plan.{anchors_before, group_before, coding_order}
use Rattle.plan_window.specs.Stands.{NoAnchor}
use Rattle.plan_window.proofs.NextLemmas.{NextAt}
use Rattle.plan_window.proofs.OrderLemmas.{clear_anchors}

-- places in lists

no_nil : {X : Type 0} (xs : List X) (y : X) (ys : List X) → [] ≡ xs ++ y ∷ ys → ⊥
no_nil [] y ys e = cc
no_nil (x ∷ xs) y ys e = cc

first_same : {X : Type 0} (x y : X) (xs ys : List X) → x ∷ xs ≡ y ∷ ys → x ≡ y
first_same x y xs ys e = cc

rest_same : {X : Type 0} (x y : X) (xs ys : List X) → x ∷ xs ≡ y ∷ ys → xs ≡ ys
rest_same x y xs ys e = cc

-- a place in a list that was mapped
pub record Split {X Y : Type 0} (f : X → Y) (zs : List X) (y : Y) (ys : List Y) : Type 0 where
  pub later : List X
  pub at : X
  pub before : List X
  pub parts : zs ≡ later ++ at ∷ before
  pub here : f at ≡ y
  pub rest : map f before ≡ ys

pub map_split : {X Y : Type 0} (f : X → Y) (zs : List X) (xs : List Y) (y : Y) (ys : List Y) → map f zs ≡ xs ++ y ∷ ys → Split f zs y ys
map_split f [] xs y ys e = absurd (no_nil xs y ys e)
map_split f (z ∷ zs) [] y ys e = record { later = []; at = z; before = zs; parts = refl; here = first_same (f z) y (map f zs) ys e; rest = rest_same (f z) y (map f zs) ys e }
map_split f (z ∷ zs) (x ∷ xs) y ys e =
    let more = map_split f zs xs y ys (rest_same (f z) x (map f zs) (xs ++ y ∷ ys) e) in
    record { later = z ∷ more.later; at = more.at; before = more.before; parts = ap (λ l. z ∷ l) more.parts; here = more.here; rest = more.rest }

-- in which of two parts a place stands
record InFirst (us bs : List ℕ) (xs : List ℕ) (i : ℕ) (ys : List ℕ) : Type 0 where
  behind : List ℕ
  at_first : us ≡ xs ++ i ∷ behind
  rest : ys ≡ behind ++ bs

in_parts : (us bs xs : List ℕ) (i : ℕ) (ys : List ℕ) → us ++ bs ≡ xs ++ i ∷ ys → InFirst us bs xs i ys ⊎ ((zs : List ℕ) × (bs ≡ zs ++ i ∷ ys))
in_parts [] bs xs i ys e = inr (xs, e)
in_parts (a ∷ us) bs [] i ys e = inl (record { behind = us; at_first = ap (λ x. x ∷ us) (first_same a i (us ++ bs) ys e); rest = sym (rest_same a i (us ++ bs) ys e) })
in_parts (a ∷ us) bs (x ∷ xs) i ys e = go (in_parts us bs xs i ys (rest_same a x (us ++ bs) (xs ++ i ∷ ys) e))
  where
    go : InFirst us bs xs i ys ⊎ ((zs : List ℕ) × (bs ≡ zs ++ i ∷ ys)) → InFirst (a ∷ us) bs (x ∷ xs) i ys ⊎ ((zs : List ℕ) × (bs ≡ zs ++ i ∷ ys))
    go (inl h) = inl (record { behind = h.behind; at_first = ap₂ (λ (y : ℕ) (l : List ℕ). y ∷ l) (first_same a x (us ++ bs) (xs ++ i ∷ ys) e) h.at_first; rest = h.rest })
    go (inr h) = inr h

-- what passes a test, of a list that was mapped
pub filter-map : {X Y : Type 0} (f : X → Y) (q : Y → Bool) (p : X → Bool) → ((x : X) → q (f x) ≡ p x) → (xs : List X) → filter q (map f xs) ≡ map f (filter p xs)
filter-map f q p same [] = refl
filter-map {X} {Y} f q p same (x ∷ xs) = ap (λ b. cond b (f x ∷ filter q (map f xs)) (filter q (map f xs))) (same x) ∙ go (p x) (filter-map f q p same xs)
  where
    go : (b : Bool) → filter q (map f xs) ≡ map f (filter p xs) → cond b (f x ∷ filter q (map f xs)) (filter q (map f xs)) ≡ map f (cond b (x ∷ filter p xs) (filter p xs))
    go true e = ap (λ (l : List Y). f x ∷ l) e
    go false e = e

pub first-map : {X Y : Type 0} (f : X → Y) (xs : List X) → first (map f xs) ≡ option_map f (first xs)
first-map f [] = refl
first-map f (x ∷ xs) = refl

pub second-map : {X Y : Type 0} (f : X → Y) (xs : List X) → second (map f xs) ≡ option_map f (second xs)
second-map f [] = refl
second-map f (x ∷ xs) = first-map f xs

-- groups have no anchors

pub none_in_group : (anchor : ℕ → Bool) (n : ℕ) (bs : List ℕ) → filter anchor (group_before anchor n ++ bs) ≡ filter anchor bs
none_in_group anchor zero bs = refl
none_in_group anchor (suc n) bs = go (anchor n) refl (none_in_group anchor n bs)
  where
    go : (b : Bool) → anchor n ≡ b → filter anchor (group_before anchor n ++ bs) ≡ filter anchor bs → filter anchor (cond b [] (n ∷ group_before anchor n) ++ bs) ≡ filter anchor bs
    go true e more = refl
    go false e more = rw e more

-- the anchors of the order are those before
anchors_of_order : (anchor : ℕ → Bool) (n : ℕ) → filter anchor (coding_order anchor n) ≡ anchors_before anchor n
anchors_of_order anchor zero = refl
anchors_of_order anchor (suc n) = go (anchor n) refl (anchors_of_order anchor n)
  where
    go : (b : Bool) → anchor n ≡ b → filter anchor (coding_order anchor n) ≡ anchors_before anchor n
        → filter anchor (cond b (group_before anchor n ++ n ∷ coding_order anchor n) (coding_order anchor n)) ≡ cond b (n ∷ anchors_before anchor n) (anchors_before anchor n)
    go true e more = none_in_group anchor n (n ∷ coding_order anchor n) ∙ ap (λ b. cond b (n ∷ filter anchor (coding_order anchor n)) (filter anchor (coding_order anchor n))) e ∙ ap (λ l. n ∷ l) more
    go false e more = more

-- A frame of a group: no anchor stands between it and the end of the group, and behind it are the frames of the group
-- before it.
record Grouped (anchor : ℕ → Bool) (n i : ℕ) (behind : List ℕ) : Type 0 where
  lt : i < n
  clear : NoAnchor anchor i n
  behind_is : behind ≡ group_before anchor i

grouped : (anchor : ℕ → Bool) (n : ℕ) (xs : List ℕ) (i : ℕ) (behind : List ℕ) → group_before anchor n ≡ xs ++ i ∷ behind → Grouped anchor n i behind
grouped anchor zero xs i behind e = absurd (no_nil xs i behind e)
grouped anchor (suc n) xs i behind e = go (anchor n) refl e (λ ys h. grouped anchor n ys i behind h)
  where
    longer : (j : ℕ) → anchor n ≡ false → NoAnchor anchor j n → NoAnchor anchor j (suc n)
    longer j plain clear = λ m a b. by m (cases_lt m n) a b
      where
        by : (m : ℕ) → (m < n) ⊎ (n ≤ m) → j ≤ m → m < suc n → anchor m ≡ false
        by m (inl h) a b = clear m a h
        by m (inr h) a b = let f : m ≡ n = omega arith in rw f plain

    go : (b : Bool) → anchor n ≡ b → cond b [] (n ∷ group_before anchor n) ≡ xs ++ i ∷ behind → ((ys : List ℕ) → group_before anchor n ≡ ys ++ i ∷ behind → Grouped anchor n i behind) → Grouped anchor (suc n) i behind
    go true p h more = absurd (no_nil xs i behind h)
    go false p h more = place xs h
      where
        place : (ys : List ℕ) → n ∷ group_before anchor n ≡ ys ++ i ∷ behind → Grouped anchor (suc n) i behind
        place [] f =
            let same : n ≡ i = first_same n i (group_before anchor n) behind f in
            let rest : group_before anchor n ≡ behind = rest_same n i (group_before anchor n) behind f in
            record { lt = omega arith; clear = longer i p (λ m a b. absurd (omega arith)); behind_is = sym rest ∙ ap (group_before anchor) same }
        place (y ∷ ys) f =
            let g = more ys (rest_same n y (group_before anchor n) (ys ++ i ∷ behind) f) in
            let l : i < n = g.lt in
            record { lt = omega arith; clear = longer i p g.clear; behind_is = g.behind_is }

-- A B of the order stands behind the next anchor and the frames of its group before its own.
pub record BehindNext (anchor : ℕ → Bool) (n i : ℕ) (before : List ℕ) : Type 0 where
  pub at : ℕ
  pub later : i < at
  pub within : at < n
  pub next : NextAt anchor i at
  pub before_is : before ≡ group_before anchor i ++ at ∷ coding_order anchor at

pub order_b : (anchor : ℕ → Bool) (n : ℕ) (xs : List ℕ) (i : ℕ) (ys : List ℕ) → coding_order anchor n ≡ xs ++ i ∷ ys → anchor i ≡ false → BehindNext anchor n i ys
order_b anchor zero xs i ys e plain = absurd (no_nil xs i ys e)
order_b anchor (suc n) xs i ys e plain = go (anchor n) refl e (λ zs h. order_b anchor n zs i ys h plain)
  where
    wider : BehindNext anchor n i ys → BehindNext anchor (suc n) i ys
    wider b = let l : b.at < n = b.within in record { at = b.at; later = b.later; within = omega arith; next = b.next; before_is = b.before_is }

    go : (b : Bool) → anchor n ≡ b → cond b (group_before anchor n ++ n ∷ coding_order anchor n) (coding_order anchor n) ≡ xs ++ i ∷ ys → ((zs : List ℕ) → coding_order anchor n ≡ zs ++ i ∷ ys → BehindNext anchor n i ys) → BehindNext anchor (suc n) i ys
    go false p h more = wider (more xs h)
    go true p h more = by (in_parts (group_before anchor n) (n ∷ coding_order anchor n) xs i ys h)
      where
        by : InFirst (group_before anchor n) (n ∷ coding_order anchor n) xs i ys ⊎ ((zs : List ℕ) × (n ∷ coding_order anchor n ≡ zs ++ i ∷ ys)) → BehindNext anchor (suc n) i ys
        by (inl f) =
            let g = grouped anchor n xs i f.behind f.at_first in
            record {
              at = n;
              later = g.lt;
              within = omega arith;
              next = record { clear = g.clear; is_anchor = p };
              before_is = f.rest ∙ ap (λ (l : List ℕ). l ++ n ∷ coding_order anchor n) g.behind_is;
            }
        by (inr ([], f)) = absurd (let same : n ≡ i = first_same n i (coding_order anchor n) ys f in true≢false (sym p ∙ ap anchor same ∙ plain))
        by (inr (z ∷ zs, f)) = wider (more zs (rest_same n z (coding_order anchor n) (zs ++ i ∷ ys) f))

-- so the anchors before it are the next one and those before its own frame
pub anchors_behind : (anchor : ℕ → Bool) (n i : ℕ) (before : List ℕ) (b : BehindNext anchor n i before) → filter anchor before ≡ b.at ∷ anchors_before anchor i
anchors_behind anchor n i before b =
    let at = b.at in
    let lt : i < at = b.later in
    ap (filter anchor) b.before_is ∙ none_in_group anchor i (at ∷ coding_order anchor at)
    ∙ ap (λ (c : Bool). cond c (at ∷ filter anchor (coding_order anchor at)) (filter anchor (coding_order anchor at))) b.next.is_anchor
    ∙ ap (λ (l : List ℕ). at ∷ l) (anchors_of_order anchor at ∙ clear_anchors anchor i at (omega arith) b.next.clear)

-- An anchor of the order stands behind the order before it.
pub record BehindOrder (anchor : ℕ → Bool) (n i : ℕ) (before : List ℕ) : Type 0 where
  pub within : i < n
  pub before_is : before ≡ coding_order anchor i
  pub anchors : filter anchor before ≡ anchors_before anchor i

pub order_anchor : (anchor : ℕ → Bool) (n : ℕ) (xs : List ℕ) (i : ℕ) (ys : List ℕ) → coding_order anchor n ≡ xs ++ i ∷ ys → anchor i ≡ true → BehindOrder anchor n i ys
order_anchor anchor zero xs i ys e t = absurd (no_nil xs i ys e)
order_anchor anchor (suc n) xs i ys e t = go (anchor n) refl e (λ zs h. order_anchor anchor n zs i ys h t)
  where
    wider : BehindOrder anchor n i ys → BehindOrder anchor (suc n) i ys
    wider b = let l : i < n = b.within in record { within = omega arith; before_is = b.before_is; anchors = b.anchors }

    here : ys ≡ coding_order anchor i → i < suc n → BehindOrder anchor (suc n) i ys
    here is lt = record { within = lt; before_is = is; anchors = ap (filter anchor) is ∙ anchors_of_order anchor i }

    go : (b : Bool) → anchor n ≡ b → cond b (group_before anchor n ++ n ∷ coding_order anchor n) (coding_order anchor n) ≡ xs ++ i ∷ ys → ((zs : List ℕ) → coding_order anchor n ≡ zs ++ i ∷ ys → BehindOrder anchor n i ys) → BehindOrder anchor (suc n) i ys
    go false p h more = wider (more xs h)
    go true p h more = by (in_parts (group_before anchor n) (n ∷ coding_order anchor n) xs i ys h)
      where
        by : InFirst (group_before anchor n) (n ∷ coding_order anchor n) xs i ys ⊎ ((zs : List ℕ) × (n ∷ coding_order anchor n ≡ zs ++ i ∷ ys)) → BehindOrder anchor (suc n) i ys
        by (inl f) = absurd (let g = grouped anchor n xs i f.behind f.at_first in let lt : i < n = g.lt in true≢false (sym t ∙ g.clear i (omega arith) lt))
        by (inr ([], f)) = let same : n ≡ i = first_same n i (coding_order anchor n) ys f in here (sym (rest_same n i (coding_order anchor n) ys f) ∙ ap (coding_order anchor) same) (omega arith)
        by (inr (z ∷ zs, f)) = wider (more zs (rest_same n z (coding_order anchor n) (zs ++ i ∷ ys) f))

pub next_unique : (anchor : ℕ → Bool) (i g m : ℕ) → i ≤ g → i ≤ m → NextAt anchor i g → NextAt anchor i m → g ≡ m
next_unique anchor i g m a b p q = go (cases_lt g m) (cases_lt m g)
  where
    go : (g < m) ⊎ (m ≤ g) → (m < g) ⊎ (g ≤ m) → g ≡ m
    go (inl h) _ = absurd (true≢false (sym p.is_anchor ∙ q.clear g a h))
    go (inr h) (inl l) = absurd (true≢false (sym q.is_anchor ∙ p.clear m b l))
    go (inr h) (inr l) = omega arith

-- the nearest anchor before stands before
pub nearest_below : (anchor : ℕ → Bool) (i j : ℕ) → slice_get (anchors_before anchor i) 0 ≡ Some j → j < i
nearest_below anchor zero j e = absurd (no_some e)
  where
    no_some : None ≡ Some j → ⊥
    no_some h = cc
nearest_below anchor (suc i) j e = go (anchor i) e (nearest_below anchor i j)
  where
    go : (b : Bool) → slice_get (cond b (i ∷ anchors_before anchor i) (anchors_before anchor i)) 0 ≡ Some j → (slice_get (anchors_before anchor i) 0 ≡ Some j → j < i) → j < suc i
    go true h more = let same : i ≡ j = cc in omega arith
    go false h more = let l : j < i = more h in omega arith
