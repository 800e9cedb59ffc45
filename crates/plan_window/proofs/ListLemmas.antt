-- Lists from a place on.
use Rattle.std.proofs.Common.{◌≡◌, ◌⊎◌, ℕ, zero, suc, ◌+◌, ◌-◌, ◌<◌, ◌≤◌, Bool, true, false, ◌||◌, List, [], ◌∷◌, ◌++◌, length, take, drop, slice_get, Some, refl, ap, ◌∙◌, inl, inr, arith}

pub or_false : (a b : Bool) → a ≡ false → b ≡ false → (a || b) ≡ false
or_false true b e f = e
or_false false b e f = f

-- the first item of the rest, and the rest behind it
pub suffix : {X : Type 0} (i : ℕ) (xs : List X) (s : X) (tail : List X) → drop i xs ≡ s ∷ tail → (slice_get xs i ≡ Some s) × (drop (suc i) xs ≡ tail)
suffix zero [] s tail h = cc
suffix {X} zero (x ∷ xs) s tail h = let e : x ≡ s = cc in let f : xs ≡ tail = cc in (ap Some e, f)
suffix (suc i) [] s tail h = cc
suffix (suc i) (x ∷ xs) s tail h = suffix i xs s tail h

pub drop_more : {X : Type 0} (i : ℕ) (xs : List X) → drop (suc i) xs ≡ drop 1 (drop i xs)
drop_more zero xs = refl
drop_more (suc i) [] = refl
drop_more (suc i) (x ∷ xs) = drop_more i xs

pub get-drop : {X : Type 0} (s : ℕ) (xs : List X) (e : ℕ) → slice_get (drop s xs) e ≡ slice_get xs (s + e)
get-drop zero xs e = let h : 0 + e ≡ e = omega arith in rw h refl
get-drop (suc s) [] e = refl
get-drop (suc s) (x ∷ xs) e = get-drop s xs e ∙ (let h : suc s + e ≡ suc (s + e) = omega arith in rw h refl)

pub get-first : {X : Type 0} (xs ys : List X) (k : ℕ) → k < length xs → slice_get (xs ++ ys) k ≡ slice_get xs k
get-first [] ys k h = absurd (omega arith)
get-first (x ∷ xs) ys zero h = refl
get-first (x ∷ xs) ys (suc k) h = get-first xs ys k (omega arith)

-- n items from the front are xs, where n are there or no more come
pub take_seen : {X : Type 0} (n : ℕ) (xs more : List X) → length xs ≤ n → (more ≡ []) ⊎ (length xs ≡ n) → take n (xs ++ more) ≡ xs
take_seen zero [] more le h = refl
take_seen zero (x ∷ xs) more le h = absurd (omega arith)
take_seen (suc n) [] more le (inl h) = rw h refl
take_seen (suc n) [] more le (inr h) = absurd (omega arith)
take_seen (suc n) (x ∷ xs) more le (inl h) = ap (λ l. x ∷ l) (take_seen n xs more (omega arith) (inl h))
take_seen (suc n) (x ∷ xs) more le (inr h) = ap (λ l. x ∷ l) (take_seen n xs more (omega arith) (inr (omega arith)))

-- the rest from an item on
pub drop_get : {X : Type 0} (d : ℕ) (xs : List X) (s : X) → slice_get xs d ≡ Some s → drop d xs ≡ s ∷ drop (suc d) xs
drop_get d [] s h = cc
drop_get {X} zero (x ∷ xs) s h = let e : x ≡ s = cc in ap (λ (y : X). y ∷ xs) e
drop_get (suc d) (x ∷ xs) s h = drop_get d xs s h

pub keep_all : {X : Type 0} (n : ℕ) (xs : List X) → length xs ≤ n → drop (length xs - n) xs ≡ xs
keep_all n xs le = let e : length xs - n ≡ 0 = omega arith in rw e refl
