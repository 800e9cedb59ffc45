-- Anchors, groups and the order of coding, over a stretch of frames without an anchor.
use Rattle.std.proofs.Common.{◌≡◌, ◌⊎◌, ℕ, zero, suc, ◌+◌, ◌<◌, ◌≤◌, Bool, true, false, cond, List, [], ◌∷◌, ◌++◌, length, Some, refl, sym, ap, ◌∙◌, inl, inr, append_assoc, arith}
use Rattle.std.proofs.lemmas.Bool.{cases_lt}
use Rattle.plan_window.specs.Plan.{anchors_before, first_anchor, group_before, coding_order}
use Rattle.plan_window.specs.Stands.{NoAnchor}

-- the anchors before stay
pub clear_anchors : (anchor : ℕ → Bool) (k n : ℕ) → k ≤ n → NoAnchor anchor k n → anchors_before anchor n ≡ anchors_before anchor k
clear_anchors anchor k zero le clear = let e : k ≡ zero = omega arith in rw e refl
clear_anchors anchor k (suc n) le clear = go (cases_lt k (suc n)) (clear_anchors anchor k n)
  where
    go : (k < suc n) ⊎ (suc n ≤ k) → (k ≤ n → NoAnchor anchor k n → anchors_before anchor n ≡ anchors_before anchor k)
        → cond (anchor n) (n ∷ anchors_before anchor n) (anchors_before anchor n) ≡ anchors_before anchor k
    go (inl h) more = let e : anchor n ≡ false = clear n (omega arith) (omega arith) in rw e (more (omega arith) (λ j a b. clear j a (omega arith)))
    go (inr h) more = let e : k ≡ suc n = omega arith in rw e refl

-- the order of coding stays
pub clear_order : (anchor : ℕ → Bool) (k n : ℕ) → k ≤ n → NoAnchor anchor k n → coding_order anchor n ≡ coding_order anchor k
clear_order anchor k zero le clear = let e : k ≡ zero = omega arith in rw e refl
clear_order anchor k (suc n) le clear = go (cases_lt k (suc n)) (clear_order anchor k n)
  where
    go : (k < suc n) ⊎ (suc n ≤ k) → (k ≤ n → NoAnchor anchor k n → coding_order anchor n ≡ coding_order anchor k)
        → cond (anchor n) (group_before anchor n ++ n ∷ coding_order anchor n) (coding_order anchor n) ≡ coding_order anchor k
    go (inl h) more = let e : anchor n ≡ false = clear n (omega arith) (omega arith) in rw e (more (omega arith) (λ j a b. clear j a (omega arith)))
    go (inr h) more = let e : k ≡ suc n = omega arith in rw e refl

-- the next anchor is the one at the end of the stretch
pub first_at : (anchor : ℕ → Bool) (w i m : ℕ) → i ≤ m → m < i + w → anchor m ≡ true → NoAnchor anchor i m → first_anchor anchor i w ≡ Some m
first_at anchor zero i m le lt at clear = absurd (omega arith)
first_at anchor (suc w) i m le lt at clear = go (cases_lt i m) (first_at anchor w (suc i) m)
  where
    go : (i < m) ⊎ (m ≤ i) → (suc i ≤ m → m < suc i + w → anchor m ≡ true → NoAnchor anchor (suc i) m → first_anchor anchor (suc i) w ≡ Some m)
        → cond (anchor i) (Some i) (first_anchor anchor (suc i) w) ≡ Some m
    go (inl h) more = let e : anchor i ≡ false = clear i (omega arith) h in rw e (more (omega arith) (omega arith) at (λ j a b. clear j (omega arith) b))
    go (inr h) more = let same : i ≡ m = omega arith in let e : anchor i ≡ true = rw same at in rw e (ap Some same)

-- the order of more frames ends with that of the first ones
pub order_from : (anchor : ℕ → Bool) (k n : ℕ) → k ≤ n → (later : List ℕ) × (coding_order anchor n ≡ later ++ coding_order anchor k)
order_from anchor k zero le = let e : k ≡ zero = omega arith in ([], rw e refl)
order_from anchor k (suc n) le = go (cases_lt k (suc n)) (order_from anchor k n)
  where
    step : (b : Bool) (later : List ℕ) → coding_order anchor n ≡ later ++ coding_order anchor k
        → (more : List ℕ) × (cond b (group_before anchor n ++ n ∷ coding_order anchor n) (coding_order anchor n) ≡ more ++ coding_order anchor k)
    step true later e = (group_before anchor n ++ n ∷ later, ap (λ l. group_before anchor n ++ n ∷ l) e ∙ sym (append_assoc (group_before anchor n) (n ∷ later) (coding_order anchor k)))
    step false later e = (later, e)

    go : (k < suc n) ⊎ (suc n ≤ k) → (k ≤ n → (later : List ℕ) × (coding_order anchor n ≡ later ++ coding_order anchor k))
        → (later : List ℕ) × (cond (anchor n) (group_before anchor n ++ n ∷ coding_order anchor n) (coding_order anchor n) ≡ later ++ coding_order anchor k)
    go (inl h) more = let (later, e) = more (omega arith) in step (anchor n) later e
    go (inr h) more = let e : k ≡ suc n = omega arith in ([], rw e refl)

-- a group ends with the frames of it that come first
pub group_from : (anchor : ℕ → Bool) (k n : ℕ) → k ≤ n → NoAnchor anchor k n → (later : List ℕ) × (group_before anchor n ≡ later ++ group_before anchor k)
group_from anchor k zero le clear = let e : k ≡ zero = omega arith in ([], rw e refl)
group_from anchor k (suc n) le clear = go (cases_lt k (suc n)) (group_from anchor k n)
  where
    go : (k < suc n) ⊎ (suc n ≤ k) → (k ≤ n → NoAnchor anchor k n → (later : List ℕ) × (group_before anchor n ≡ later ++ group_before anchor k))
        → (later : List ℕ) × (cond (anchor n) [] (n ∷ group_before anchor n) ≡ later ++ group_before anchor k)
    go (inl h) more =
        let e : anchor n ≡ false = clear n (omega arith) (omega arith) in
        let (later, f) = more (omega arith) (λ j a b. clear j a (omega arith)) in
        (n ∷ later, rw e (ap (λ l. n ∷ l) f))
    go (inr h) more = let e : k ≡ suc n = omega arith in ([], rw e refl)

-- where the stretch begins behind an anchor, all its frames are the group
pub group_length : (anchor : ℕ → Bool) (k n : ℕ) → group_before anchor k ≡ [] → k ≤ n → NoAnchor anchor k n → k + length (group_before anchor n) ≡ n
group_length anchor k zero none le clear = let e : k ≡ zero = omega arith in rw e refl
group_length anchor k (suc n) none le clear = go (cases_lt k (suc n)) (group_length anchor k n none)
  where
    go : (k < suc n) ⊎ (suc n ≤ k) → (k ≤ n → NoAnchor anchor k n → k + length (group_before anchor n) ≡ n) → k + length (cond (anchor n) [] (n ∷ group_before anchor n)) ≡ suc n
    go (inl h) more =
        let e : anchor n ≡ false = clear n (omega arith) (omega arith) in
        let l : k + length (group_before anchor n) ≡ n = more (omega arith) (λ j a b. clear j a (omega arith)) in
        rw e (omega arith)
    go (inr h) more =
        let e : k ≡ suc n = omega arith in
        let z : length (group_before anchor k) ≡ 0 = ap length none in
        let same : length (group_before anchor k) ≡ length (cond (anchor n) [] (n ∷ group_before anchor n)) = ap (λ j. length (group_before anchor j)) e in
        omega arith
