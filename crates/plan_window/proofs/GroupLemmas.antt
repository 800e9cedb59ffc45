-- The anchor of a B's group, and how many frames a group has.
use Rattle.std.proofs.Common.{◌≡◌, ◌⊎◌, ℕ, zero, suc, ◌+◌, ◌-◌, ◌<◌, ◌≤◌, Bool, true, false, cond, ◌||◌, List, [], ◌∷◌, ◌++◌, find, length, take, drop, slice_get, Option, Some, None, refl, sym, ap, ◌∙◌, subst, inl, inr, true≢false, arith}
use Rattle.std.proofs.lemmas.Bool.{cases_lt}
use Rattle.std.specs.Option.{option_map_or}
use Rattle.plan_window.specs.declared.summary.Summary.{Summary}
use Rattle.plan_window.specs.Links.{is_anchor_record}
use Rattle.plan_window.specs.Plan.{is_plan_anchor, group_before, coding_order}
use Rattle.plan_window.specs.Stands.{NoAnchor}
use Rattle.plan_window.proofs.ListLemmas.{drop_get, get-drop}
use Rattle.plan_window.proofs.NextLemmas.{AllPlain, NextAt, anchor_at, run}
use Rattle.plan_window.proofs.GivenLemmas.{counted}
use Rattle.plan_window.proofs.ReferenceLemmas.{next_unique}

-- the first anchor record of some summaries
record FoundIn (w : ℕ) (tail : List Summary) (r : Summary) : Type 0 where
  plain : List Summary
  more : List Summary
  parts : tail ≡ plain ++ r ∷ more
  all_plain : AllPlain plain
  passes : is_anchor_record r ≡ true
  near : length plain < w

found_in : (w : ℕ) (tail : List Summary) (r : Summary) → find is_anchor_record (take w tail) ≡ Some r → FoundIn w tail r
found_in zero tail r e = absurd cc
found_in (suc w) [] r e = absurd cc
found_in (suc w) (y ∷ tail) r e = go (is_anchor_record y) refl e (found_in w tail r)
  where
    go : (b : Bool) → is_anchor_record y ≡ b → cond b (Some y) (find is_anchor_record (take w tail)) ≡ Some r → (find is_anchor_record (take w tail) ≡ Some r → FoundIn w tail r) → FoundIn (suc w) (y ∷ tail) r
    go true p h more = let same : y ≡ r = cc in record { plain = []; more = tail; parts = ap (λ x. x ∷ tail) same; all_plain = tt; passes = subst (λ x. is_anchor_record x ≡ true) same p; near = omega arith }
    go false p h more = let f = more h in let l : length f.plain < w = f.near in
        record { plain = y ∷ f.plain; more = f.more; parts = ap (λ x. y ∷ x) f.parts; all_plain = (p, f.all_plain); passes = f.passes; near = omega arith }

get_behind : {X : Type 0} (xs : List X) (y : X) (ys : List X) → slice_get (xs ++ y ∷ ys) (length xs) ≡ Some y
get_behind [] y ys = refl
get_behind (x ∷ xs) y ys = get_behind xs y ys

pub or_false_left : (a b : Bool) → (a || b) ≡ false → a ≡ false
or_false_left true b h = h
or_false_left false b h = refl

or_false_right : (a b : Bool) → (a || b) ≡ false → b ≡ false
or_false_right true b h = absurd (true≢false h)
or_false_right false b h = h

-- The anchor of a B's group: the next anchor, near, with an anchor record without low delay.
pub record GroupAnchor (w : ℕ) (frames : List Summary) (i : ℕ) : Type 0 where
  pub at : ℕ
  pub later : i < at
  pub near : at ≤ i + w
  pub next : NextAt (is_plan_anchor w frames) i at
  pub summary : Summary
  pub is : slice_get frames at ≡ Some summary
  pub is_anchor : is_anchor_record summary ≡ true
  pub no_low_delay : summary.low_delay ≡ false

pub group_of_b : (w : ℕ) (frames : List Summary) (i : ℕ) (s : Summary) → slice_get frames i ≡ Some s → is_plan_anchor w frames i ≡ false → GroupAnchor w frames i
group_of_b w frames i s at plain = go (find is_anchor_record (take w (drop (suc i) frames))) refl (or_false_right _ _ seen)
  where
    split : drop i frames ≡ s ∷ drop (suc i) frames
    split = drop_get i frames s at

    seen : (is_anchor_record s || option_map_or (λ (q : Summary). q.low_delay) (find is_anchor_record (take w (drop (suc i) frames))) true) ≡ false
    seen = sym (anchor_at w frames i s (drop (suc i) frames) split) ∙ plain

    go : (o : Option Summary) → find is_anchor_record (take w (drop (suc i) frames)) ≡ o → option_map_or (λ (q : Summary). q.low_delay) o true ≡ false → GroupAnchor w frames i
    go None e h = absurd (true≢false h)
    go (Some r) e h =
        let f = found_in w (drop (suc i) frames) r e in
        let n : length f.plain < w = f.near in
        let parts : drop i frames ≡ (s ∷ f.plain) ++ r ∷ f.more = split ∙ ap (λ l. s ∷ l) f.parts in
        record {
          at = i + length (s ∷ f.plain);
          later = omega arith;
          near = omega arith;
          next = run w frames i (s ∷ f.plain) r f.more parts (or_false_left _ _ seen, f.all_plain) f.passes h (omega arith) (i + length (s ∷ f.plain)) refl;
          summary = r;
          is = sym (get-drop i frames (length (s ∷ f.plain))) ∙ ap (λ l. slice_get l (length (s ∷ f.plain))) parts ∙ get_behind (s ∷ f.plain) r f.more;
          is_anchor = f.passes;
          no_low_delay = h;
        }

-- no anchor stands among the frames that wait
waits_clear : (anchor : ℕ → Bool) (m j : ℕ) → j < m → m ≤ j + length (group_before anchor m) → anchor j ≡ false
waits_clear anchor zero j lt le = absurd (omega arith)
waits_clear anchor (suc m) j lt le = go (anchor m) refl le (cases_lt j m) (waits_clear anchor m j)
  where
    go : (b : Bool) → anchor m ≡ b → suc m ≤ j + length (cond b [] (m ∷ group_before anchor m)) → (j < m) ⊎ (m ≤ j) → (j < m → m ≤ j + length (group_before anchor m) → anchor j ≡ false) → anchor j ≡ false
    go true e h w more = absurd (omega (arith, lt, h))
    go false e h (inl l) more = more l (omega (arith, h))
    go false e h (inr l) more = let same : j ≡ m = omega (arith, l, lt) in rw same e

pub get_within : {X : Type 0} (xs : List X) (i : ℕ) → i < length xs → (x : X) × (slice_get xs i ≡ Some x)
get_within [] i h = absurd (omega arith)
get_within (x ∷ xs) zero h = (x, refl)
get_within (x ∷ xs) (suc i) h = get_within xs i (omega arith)

-- a group is no larger than the plan looks ahead
pub group_small : (w : ℕ) (frames : List Summary) (m : ℕ) → is_plan_anchor w frames m ≡ true → m < length frames → length (group_before (is_plan_anchor w frames) m) ≤ w
group_small w frames m e lt = go (cases_lt w (length (group_before (is_plan_anchor w frames) m)))
  where
    go : (w < length (group_before (is_plan_anchor w frames) m)) ⊎ (length (group_before (is_plan_anchor w frames) m) ≤ w) → length (group_before (is_plan_anchor w frames) m) ≤ w
    go (inr le) = le
    go (inl over) = absurd (far (m - length (group_before (is_plan_anchor w frames) m)) refl)
      where
        all : length (coding_order (is_plan_anchor w frames) m) + length (group_before (is_plan_anchor w frames) m) ≡ m
        all = counted (is_plan_anchor w frames) m

        far : (i : ℕ) → i ≡ m - length (group_before (is_plan_anchor w frames) m) → ⊥
        far i is =
            let (s, at_i) = get_within frames i (omega (arith, is, lt, all, over)) in
            let clear : NoAnchor (is_plan_anchor w frames) i m = λ j a b. waits_clear (is_plan_anchor w frames) m j b (omega (arith, a, is, all)) in
            let g = group_of_b w frames i s at_i (clear i (omega arith) (omega (arith, is, all, over))) in
            let later : i < g.at = g.later in
            let same = next_unique (is_plan_anchor w frames) i g.at m (omega (arith, later)) (omega (arith, is, all)) g.next (record { clear = clear; is_anchor = e }) in
            omega (arith, g.near, same, is, all, over)

-- and of a group fewer frames stand before one of its own
pub group_begun : (w : ℕ) (frames : List Summary) (i g : ℕ) → i < length frames → is_plan_anchor w frames i ≡ false → i < g → NextAt (is_plan_anchor w frames) i g → length (group_before (is_plan_anchor w frames) i) < w
group_begun w frames i g lt plain later next = far (i - length (group_before (is_plan_anchor w frames) i)) refl
  where
    all : length (coding_order (is_plan_anchor w frames) i) + length (group_before (is_plan_anchor w frames) i) ≡ i
    all = counted (is_plan_anchor w frames) i

    far : (k : ℕ) → k ≡ i - length (group_before (is_plan_anchor w frames) i) → length (group_before (is_plan_anchor w frames) i) < w
    far k is =
        let (s, at_k) = get_within frames k (omega (arith, is, lt)) in
        let a = group_of_b w frames k s at_k (clear k (omega (arith, is)) (omega (arith, is, later))) in
        let l : k < a.at = a.later in
        let same = next_unique (is_plan_anchor w frames) k a.at g (omega (arith, l)) (omega (arith, is, later)) a.next (record { clear = λ j p q. clear j p q; is_anchor = next.is_anchor }) in
        omega (arith, a.near, same, is, all, later)
      where
        clear : (j : ℕ) → k ≤ j → j < g → is_plan_anchor w frames j ≡ false
        clear j low high = by (cases_lt j i)
          where
            by : (j < i) ⊎ (i ≤ j) → is_plan_anchor w frames j ≡ false
            by (inl h) = waits_clear (is_plan_anchor w frames) i j h (omega (arith, low, is, all))
            by (inr h) = next.clear j h high
