-- The next anchor of the plan stands where `next_distance` says.
use Rattle.std.proofs.Common.{◌≡◌, ◌⊎◌, ℕ, zero, suc, ◌+◌, ◌<◌, ◌≤◌, Bool, true, false, cond, ◌||◌, List, [], ◌∷◌, ◌++◌, find, take, drop, length, slice_get, Some, None, refl, sym, ap, ap₂, ◌∙◌, subst, inl, inr, append_assoc, length-append, length-drop, arith}
use Rattle.std.proofs.lemmas.Bool.{cases_lt}
use Rattle.std.specs.Option.{option_map_or}
use Rattle.plan_window.specs.declared.summary.Summary.{Summary}
use Rattle.plan_window.specs.Links.{is_anchor_record}
use Rattle.plan_window.specs.Plan.{is_plan_anchor}
use Rattle.plan_window.specs.Steps.{distance_from, next_distance}
use Rattle.plan_window.specs.Stands.{NoAnchor}
use Rattle.plan_window.proofs.ListLemmas.{suffix, or_false, drop_get}

abbrev pub AllPlain : List Summary → Type 0
AllPlain [] = Unit {0}
AllPlain (y ∷ ys) = (is_anchor_record y ≡ false) × AllPlain ys

-- whether a frame is an anchor, by its summary and those behind it
pub anchor_at : (w : ℕ) (frames : List Summary) (i : ℕ) (s : Summary) (tail : List Summary) → drop i frames ≡ s ∷ tail
    → is_plan_anchor w frames i ≡ (is_anchor_record s || option_map_or (λ (q : Summary). q.low_delay) (find is_anchor_record (take w tail)) true)
anchor_at w frames i s tail h =
    let e = suffix i frames s tail h in
    ap₂ (λ o l. option_map_or is_anchor_record o false || option_map_or (λ (q : Summary). q.low_delay) (find is_anchor_record (take w l)) true) e.0 e.1

find_over : (w : ℕ) (ys : List Summary) (r : Summary) (zs : List Summary) → AllPlain ys → is_anchor_record r ≡ true → length ys < w → find is_anchor_record (take w (ys ++ r ∷ zs)) ≡ Some r
find_over zero ys r zs p t lt = absurd (omega arith)
find_over (suc w) [] r zs p t lt = rw t refl
find_over (suc w) (y ∷ ys) r zs p t lt = let e : is_anchor_record y ≡ false = p.0 in rw e (find_over w ys r zs p.1 t (omega arith))

-- frame m is the next anchor from frame i on
pub record NextAt (anchor : ℕ → Bool) (i m : ℕ) : Type 0 where
  pub clear : NoAnchor anchor i m
  pub is_anchor : anchor m ≡ true

next_here : (anchor : ℕ → Bool) (i m : ℕ) → i ≡ m → anchor i ≡ true → NextAt anchor i m
next_here anchor i m e t = record { clear = λ j a b. absurd (omega arith); is_anchor = subst (λ k. anchor k ≡ true) e t }

next_more : (anchor : ℕ → Bool) (i m : ℕ) → anchor i ≡ false → NextAt anchor (suc i) m → NextAt anchor i m
next_more anchor i m f n = record { clear = λ j a b. by j b (cases_lt i j) a; is_anchor = n.is_anchor }
  where
    by : (j : ℕ) → j < m → (i < j) ⊎ (j ≤ i) → i ≤ j → anchor j ≡ false
    by j b (inl h) a = n.clear j h b
    by j b (inr h) a = let e : j ≡ i = omega arith in rw e f

-- frames without an anchor record are Bs, where the first record behind them has no low delay
pub run : (w : ℕ) (frames : List Summary) (i : ℕ) (ys : List Summary) (r : Summary) (zs : List Summary) → drop i frames ≡ ys ++ r ∷ zs
    → AllPlain ys → is_anchor_record r ≡ true → r.low_delay ≡ false → length ys ≤ w → (m : ℕ) → m ≡ i + length ys → NextAt (is_plan_anchor w frames) i m
run w frames i [] r zs h p t low le m e =
    next_here (is_plan_anchor w frames) i m (omega arith) (anchor_at w frames i r zs h ∙ ap (λ b. b || option_map_or (λ (q : Summary). q.low_delay) (find is_anchor_record (take w zs)) true) t)
run w frames i (y ∷ ys) r zs h p t low le m e =
    let f = find_over w ys r zs p.1 t (omega arith) in
    next_more (is_plan_anchor w frames) i m
    (anchor_at w frames i y (ys ++ r ∷ zs) h ∙ or_false _ _ p.0 (ap (λ o. option_map_or (λ (q : Summary). q.low_delay) o true) f ∙ low))
    (run w frames (suc i) ys r zs (suffix i frames y (ys ++ r ∷ zs) h).1 p.1 t low (omega arith) m (omega arith))

-- the first anchor record of a list: none, or one with low delay, or another one
data Scan (k : ℕ) (xs : List Summary) : Type 0 where
  near : distance_from k xs ≡ 0 → option_map_or (λ (q : Summary). q.low_delay) (find is_anchor_record xs) true ≡ true → Scan k xs
  far : (ys : List Summary) (r : Summary) (zs : List Summary) → xs ≡ ys ++ r ∷ zs → AllPlain ys → is_anchor_record r ≡ true → r.low_delay ≡ false
      → distance_from k xs ≡ k + length ys → Scan k xs

scan : (xs : List Summary) (k : ℕ) → Scan k xs
scan [] k = near refl refl
scan (x ∷ xs) k = go (is_anchor_record x) refl (x.low_delay) refl (scan xs (suc k))
  where
    go : (b : Bool) → is_anchor_record x ≡ b → (l : Bool) → x.low_delay ≡ l → Scan (suc k) xs → Scan k (x ∷ xs)
    go true e true f more = near (rw (e, f) refl) (rw e f)
    go true e false f more = far [] x xs refl tt e f (rw (e, f) (omega arith))
    go false e l f (near d o) = near (rw e d) (rw e o)
    go false e l f (far ys r zs s p t low d) = far (x ∷ ys) r zs (ap (λ l. x ∷ l) s) (e, p) t low (rw e (d ∙ omega arith))

-- the distance leads to the next anchor
pub next_found : (w : ℕ) (frames : List Summary) (i : ℕ) (x : Summary) (xs more : List Summary) (d : ℕ) → drop i frames ≡ (x ∷ xs) ++ more
    → length xs ≤ w → take w (xs ++ more) ≡ xs → distance_from 0 (x ∷ xs) ≡ d → NextAt (is_plan_anchor w frames) i (i + d)
next_found w frames i x xs more d h le seen is = go (is_anchor_record x) refl is (scan xs 1)
  where
    zero_both : (l : Bool) → cond l zero zero ≡ zero
    zero_both true = refl
    zero_both false = refl

    go : (b : Bool) → is_anchor_record x ≡ b → cond b (cond x.low_delay zero zero) (distance_from 1 xs) ≡ d → Scan 1 xs → NextAt (is_plan_anchor w frames) i (i + d)
    go true e f more' =
        let z : d ≡ 0 = sym f ∙ zero_both x.low_delay in
        next_here (is_plan_anchor w frames) i (i + d) (omega arith)
        (anchor_at w frames i x (xs ++ more) h ∙ ap (λ b. b || option_map_or (λ (q : Summary). q.low_delay) (find is_anchor_record (take w (xs ++ more))) true) e)
    go false e f (near z o) =
        let z' : d ≡ 0 = sym f ∙ z in
        next_here (is_plan_anchor w frames) i (i + d) (omega arith)
        (anchor_at w frames i x (xs ++ more) h ∙ ap₂ (λ b l. b || option_map_or (λ (q : Summary). q.low_delay) (find is_anchor_record l) true) e seen ∙ o)
    go false e f (far ys r zs s p t low z) =
        let len : length xs ≡ length (ys ++ r ∷ zs) = ap length s in
        let sum : length (ys ++ r ∷ zs) ≡ length ys + length (r ∷ zs) = length-append ys (r ∷ zs) in
        run w frames i (x ∷ ys) r (zs ++ more) (h ∙ ap (λ l. x ∷ (l ++ more)) s ∙ ap (λ l. x ∷ l) (append_assoc ys (r ∷ zs) more)) (e, p) t low (omega arith) (i + d)
        (let z' : d ≡ 1 + length ys = sym f ∙ z in omega arith)

-- which is held
pub distance_below : (x : Summary) (xs : List Summary) → distance_from 0 (x ∷ xs) < length (x ∷ xs)
distance_below x xs = go (is_anchor_record x) refl (scan xs 1)
  where
    go : (b : Bool) → is_anchor_record x ≡ b → Scan 1 xs → distance_from 0 (x ∷ xs) < length (x ∷ xs)
    go true e more = rw e (both x.low_delay)
      where
        both : (l : Bool) → cond l zero zero < length (x ∷ xs)
        both true = omega arith
        both false = omega arith
    go false e (near z o) = rw e (let g : distance_from 1 xs ≡ 0 = z in omega arith)
    go false e (far ys r zs s p t low z) =
        let len : length xs ≡ length (ys ++ r ∷ zs) = ap length s in
        let sum : length (ys ++ r ∷ zs) ≡ length ys + length (r ∷ zs) = length-append ys (r ∷ zs) in
        rw e (let g : distance_from 1 xs ≡ 1 + length ys = z in omega arith)

-- the distance, frame by frame
pub distance_plain : (d : ℕ) (xs : List Summary) (s : Summary) → slice_get xs d ≡ Some s → is_anchor_record s ≡ false → distance_from d (drop d xs) ≡ distance_from (suc d) (drop (suc d) xs)
distance_plain d xs s h e = ap (distance_from d) (drop_get d xs s h) ∙ ap (λ b. cond b (cond s.low_delay zero d) (distance_from (suc d) (drop (suc d) xs))) e

pub distance_here : (d : ℕ) (xs : List Summary) (s : Summary) → slice_get xs d ≡ Some s → is_anchor_record s ≡ true → distance_from d (drop d xs) ≡ cond s.low_delay zero d
distance_here d xs s h e = ap (distance_from d) (drop_get d xs s h) ∙ ap (λ b. cond b (cond s.low_delay zero d) (distance_from (suc d) (drop (suc d) xs))) e

pub distance_end : (d : ℕ) (xs : List Summary) → length xs ≤ d → distance_from d (drop d xs) ≡ 0
distance_end d xs le = go (drop d xs) (let e : length (drop d xs) ≡ 0 = simp length-drop (omega arith) in e)
  where
    go : (ys : List Summary) → length ys ≡ 0 → distance_from d ys ≡ 0
    go [] e = refl
    go (y ∷ ys) e = absurd (omega arith)

pub distance_next : (d : ℕ) (xs : List Summary) (s : Summary) → slice_get xs d ≡ Some s → is_anchor_record s ≡ false → distance_from (d + 1) (drop (d + 1) xs) ≡ distance_from d (drop d xs)
distance_next d xs s h e = let f : d + 1 ≡ suc d = omega arith in rw f (sym (distance_plain d xs s h e))

pub get_past : (ys : List Summary) (k : ℕ) → k < length ys → slice_get ys k ≡ None → ⊥
get_past [] k lt e = omega arith
get_past (y ∷ ys) zero lt e = cc
get_past (y ∷ ys) (suc k) lt e = get_past ys k (omega arith) e

-- so where none is found, none is held
pub next_held : (xs : List Summary) → slice_get xs (next_distance xs) ≡ None → xs ≡ []
next_held [] h = refl
next_held (x ∷ xs) h = absurd (get_past (x ∷ xs) (next_distance (x ∷ xs)) (distance_below x xs) h)

pub none_empty : (xs : List Summary) → slice_get xs 0 ≡ None → xs ≡ []
none_empty [] h = refl
none_empty (x ∷ xs) h = cc
