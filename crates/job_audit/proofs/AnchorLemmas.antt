-- The anchors among frames in the order of coding.
use Rattle.std.proofs.Common.{◌≡◌, ◌⊎◌, ℕ, zero, suc, ◌+◌, ◌<◌, ◌≤◌, Bool, true, false, cond, ◌||◌, List, [], ◌∷◌, ◌++◌, find, length, take, filter, Option, Some, None, refl, ap, ◌∙◌, inl, inr, arith}
use Rattle.std.proofs.lemmas.Bool.{cases_lt}
use Rattle.std.specs.Option.{option_map_or}
use Rattle.plan_window.specs.declared.summary.Summary.{Summary}
use Rattle.plan_window.specs.Links.{is_anchor_record}
use Rattle.plan_window.specs.Plan.{ahead, is_plan_anchor, anchors_before, first_anchor, group_before, coding_order}
use Rattle.plan_window.specs.Stands.{NoAnchor}
use Rattle.plan_window.proofs.GroupLemmas.{get_within, group_of_b}
use Rattle.plan_window.proofs.ReferenceLemmas.{next_unique, none_in_group, order_anchor}

-- all of these are below n
abbrev pub AllBelow : ℕ → List ℕ → Type 0
AllBelow n [] = Unit {0}
AllBelow n (x ∷ xs) = (x < n) × AllBelow n xs

pub anchors_below : (anchor : ℕ → Bool) (n k : ℕ) → k ≤ n → AllBelow n (anchors_before anchor k)
anchors_below anchor n zero le = tt
anchors_below anchor n (suc k) le = go (anchor k) (anchors_below anchor n k (omega arith))
  where
    go : (b : Bool) → AllBelow n (anchors_before anchor k) → AllBelow n (cond b (k ∷ anchors_before anchor k) (anchors_before anchor k))
    go true more = (omega arith, more)
    go false more = more

-- the anchors before stay over a stretch without one
pub stay : (anchor : ℕ → Bool) (k n : ℕ) → k ≤ n → NoAnchor anchor k n → anchors_before anchor n ≡ anchors_before anchor k
stay anchor k zero le clear = let e : k ≡ zero = omega arith in rw e refl
stay anchor k (suc n) le clear = go (cases_lt k (suc n)) (stay anchor k n)
  where
    go : (k < suc n) ⊎ (suc n ≤ k) → (k ≤ n → NoAnchor anchor k n → anchors_before anchor n ≡ anchors_before anchor k)
        → cond (anchor n) (n ∷ anchors_before anchor n) (anchors_before anchor n) ≡ anchors_before anchor k
    go (inl h) more = let e : anchor n ≡ false = clear n (omega arith) (omega arith) in rw e (more (omega arith) (λ j a b. clear j a (omega arith)))
    go (inr h) more = let e : k ≡ suc n = omega arith in rw e refl

-- and the anchor at its end is the next one
next_at : (anchor : ℕ → Bool) (w i m : ℕ) → i ≤ m → m < i + w → anchor m ≡ true → NoAnchor anchor i m → first_anchor anchor i w ≡ Some m
next_at anchor zero i m le lt at clear = absurd (omega arith)
next_at anchor (suc w) i m le lt at clear = go (cases_lt i m) (next_at anchor w (suc i) m)
  where
    go : (i < m) ⊎ (m ≤ i) → (suc i ≤ m → m < suc i + w → anchor m ≡ true → NoAnchor anchor (suc i) m → first_anchor anchor (suc i) w ≡ Some m)
        → cond (anchor i) (Some i) (first_anchor anchor (suc i) w) ≡ Some m
    go (inl h) more = let e : anchor i ≡ false = clear i (omega arith) h in rw e (more (omega arith) (omega arith) at (λ j a b. clear j (omega arith) b))
    go (inr h) more = let same : i ≡ m = omega arith in let e : anchor i ≡ true = rw same at in rw e (ap Some same)

-- the anchors in the order before an anchor
pub before_anchor : (anchor : ℕ → Bool) (m : ℕ) → anchor m ≡ true → filter anchor (coding_order anchor m) ≡ anchors_before anchor m
before_anchor anchor m e =
    let split : coding_order anchor (suc m) ≡ group_before anchor m ++ m ∷ coding_order anchor m = ap (λ b. cond b (group_before anchor m ++ m ∷ coding_order anchor m) (coding_order anchor m)) e in
    (order_anchor anchor (suc m) (group_before anchor m) m (coding_order anchor m) split e).anchors

-- and in that before a frame of its group
pub before_b : (anchor : ℕ → Bool) (i m : ℕ) → anchor m ≡ true → i ≤ m → NoAnchor anchor i m →
    filter anchor (group_before anchor i ++ m ∷ coding_order anchor m) ≡ m ∷ anchors_before anchor i
before_b anchor i m e le clear =
    none_in_group anchor i (m ∷ coding_order anchor m)
    ∙ ap (λ b. cond b (m ∷ filter anchor (coding_order anchor m)) (filter anchor (coding_order anchor m))) e
    ∙ ap (λ l. m ∷ l) (before_anchor anchor m e ∙ stay anchor i m le clear)

-- the anchor of the group of a B is near
pub group_at : (F : List Summary) (m i : ℕ) → m < length F → i < m → is_plan_anchor ahead F m ≡ true → NoAnchor (is_plan_anchor ahead F) i m →
    first_anchor (is_plan_anchor ahead F) (suc i) ahead ≡ Some m
group_at F m i within lt e clear =
    let (s, at_i) = get_within F i (omega (arith, lt, within)) in
    let g = group_of_b ahead F i s at_i (clear i (omega arith) lt) in
    let later : i < g.at = g.later in
    let same = next_unique (is_plan_anchor ahead F) i g.at m (omega (arith, later)) (omega (arith, lt)) g.next (record { clear = clear; is_anchor = e }) in
    next_at (is_plan_anchor ahead F) ahead (suc i) m (omega (arith, lt)) (omega (arith, g.near, same)) e (λ j b c. clear j (omega (arith, b)) c)

none_behind : (w : ℕ) → find is_anchor_record (take w []) ≡ None
none_behind zero = refl
none_behind (suc w) = refl

-- the last frame is an anchor
pub last_is_anchor : (F : List Summary) (n : ℕ) → suc n ≡ length F → is_plan_anchor ahead F n ≡ true
last_is_anchor [] n h = absurd (omega arith)
last_is_anchor (x ∷ []) zero h = ap (λ (o : Option Summary). is_anchor_record x || option_map_or (λ (q : Summary). q.low_delay) o true) (none_behind ahead) ∙ or_true (is_anchor_record x)
  where
    or_true : (b : Bool) → (b || true) ≡ true
    or_true true = refl
    or_true false = refl
last_is_anchor (x ∷ y ∷ F) zero h = absurd (omega arith)
last_is_anchor (x ∷ F) (suc n) h = last_is_anchor F n (omega arith)
