-- The places of a block's scan whose level isn't zero, as they are listed and as they are gone through.
use Rattle.std.proofs.Common.{◌≡◌, ℕ, zero, suc, ◌+◌, ◌<◌, ◌≤◌, ◌⊎◌, add-zero, Bool, false, inl, inr, List, [], ◌∷◌, ◌++◌, append-nil, append_assoc, length, get_or, set, drop, take, refl, ap, sym, ◌∙◌, subst, arith, ℤ, pos, negsuc}
use Rattle.std.proofs.lemmas.Bool.{cases_lt}
use Rattle.std.proofs.lemmas.List.{take-set, take_more_set, length-drop, length-set}
use Rattle.mv_blocks.specs.Blocks.{in_scan, pair, pairs_in}
use Rattle.mv_blocks.specs.Steps.{counted, count_levels, level_places}
use Rattle.mv_blocks.proofs.ListedLemmas.{level, scan_rest}
use Rattle.mv_blocks.proofs.CountLemmas.{counted_zero, counted_some, count_few, count_from, count_end, count_step}

head_is : {x y : ℕ} {xs ys : List ℕ} → x ∷ xs ≡ y ∷ ys → y ≡ x
head_is e = sym (ap (λ (zs : List ℕ). get_or zs 0 0) e)

tail_is : {x y : ℕ} {xs ys : List ℕ} → x ∷ xs ≡ y ∷ ys → xs ≡ ys
tail_is e = ap (λ (zs : List ℕ). drop 1 zs) e

-- The first place listed is that of the first run and level, and the others are those behind it.
pub record IsNext (place run : ℕ) (levels : List ℤ) (first : ℕ) (others : List ℕ) : Type 0 where
  pub zeros : ℕ
  pub at : first ≡ place + zeros
  pub pairs : pairs_in run levels ≡ pair (run + zeros) (get_or levels zeros (pos 0)) ∷ pairs_in 0 (drop (suc zeros) levels)
  pub behind : level_places (first + 1) (drop (suc zeros) levels) ≡ others

module _ (first : ℕ) (others : List ℕ) where
  here : (place run : ℕ) (v : ℤ) (levels : List ℤ) → place ∷ level_places (place + 1) levels ≡ first ∷ others → pairs_in run (v ∷ levels) ≡ pair run v ∷ pairs_in 0 levels → IsNext place run (v ∷ levels) first others
  here place run v levels e same = record {
    zeros = 0;
    at = head_is e ∙ sym (add-zero place);
    pairs = same ∙ ap (λ (n : ℕ). pair n v ∷ pairs_in 0 levels) (sym (add-zero run));
    behind = ap (λ (n : ℕ). level_places (n + 1) levels) (head_is e) ∙ tail_is e;
  }

  pub next_is : (place run : ℕ) (levels : List ℤ) → level_places place levels ≡ first ∷ others → IsNext place run levels first others
  unfolding level_places
  next_is place run [] e = absurd (let k = ap length e in omega (arith, k))
  next_is place run (pos zero ∷ levels) e =
      let s = next_is (place + 1) (run + 1) levels e in
      let at = s.at in
      record {
        zeros = suc s.zeros;
        at = omega (arith, at);
        pairs = s.pairs ∙ ap (λ (n : ℕ). pair n (get_or levels s.zeros (pos 0)) ∷ pairs_in 0 (drop (suc s.zeros) levels)) (more run s.zeros);
        behind = s.behind;
      }
    where
      more : (n k : ℕ) → n + 1 + k ≡ n + suc k
      more n k = omega arith
  next_is place run (pos (suc n) ∷ levels) e = here place run (pos (suc n)) levels e refl
  next_is place run (negsuc n ∷ levels) e = here place run (negsuc n) levels e refl

pub places_zero : (place : ℕ) (v : ℤ) (levels : List ℤ) → v ≡ pos 0 → level_places place (v ∷ levels) ≡ level_places (place + 1) levels
unfolding level_places
places_zero place v levels e = rw e refl

pub places_level : (place : ℕ) (v : ℤ) (levels : List ℤ) → (v ≡ pos 0 → ⊥) → level_places place (v ∷ levels) ≡ place ∷ level_places (place + 1) levels
unfolding level_places
places_level place (pos zero) levels e = absurd (e refl)
places_level place (pos (suc n)) levels e = refl
places_level place (negsuc n) levels e = refl

-- where no level is left, no place is listed
pub places_none : (place : ℕ) (levels : List ℤ) → count_levels levels ≡ 0 → level_places place levels ≡ []
unfolding level_places count_levels
places_none place [] e = refl
places_none place (pos zero ∷ levels) e = places_none (place + 1) levels (none_more (counted_zero (pos 0) refl) e)
  where
    none_more : {one rest : ℕ} → one ≡ 0 → one + rest ≡ 0 → rest ≡ 0
    none_more f e = omega (arith, f, e)
places_none place (pos (suc n) ∷ levels) e = absurd (let f = counted_some (pos (suc n)) (λ z. cc) in omega (arith, e, f))
places_none place (negsuc n ∷ levels) e = absurd (let f = counted_some (negsuc n) (λ z. cc) in omega (arith, e, f))

is_zero : (v : ℤ) → (v ≡ pos 0) ⊎ (v ≡ pos 0 → ⊥)
is_zero (pos zero) = inl refl
is_zero (pos (suc n)) = inr (λ e. cc)
is_zero (negsuc n) = inr (λ e. cc)

-- ---- while they are listed

module _ (alternate : Bool) (start : ℕ) (levels : List ℤ) where
  abbrev scan : List ℤ
  scan = in_scan alternate levels

  -- So many of all places are listed, those in front of place k of the scan.
  pub record AreListed (places : List ℕ) (listed k all : ℕ) : Type 0 where
    pub room : length places ≡ 64
    pub inside : k ≤ 64
    pub few : all ≤ 64
    pub left : listed + count_levels (drop k scan) ≡ all
    pub whole : take listed places ++ level_places k (drop k scan) ≡ level_places start (drop start scan)

  pub none_listed : (places : List ℕ) (all : ℕ) → length places ≡ 64 → length levels ≡ 64 → start ≤ 1 → all ≡ count_levels (drop start levels) → AreListed places 0 start all
  none_listed places all room long first e =
      let counted = count_from levels alternate start long first in
      let most = count_few (drop start levels) in
      let size = length-drop start levels in
      record {
        room = room;
        inside = omega (arith, first);
        few = omega (arith, e, most, size, long);
        left = omega (arith, e, counted);
        whole = refl;
      }

  module _ {places : List ℕ} {listed k all : ℕ} (s : AreListed places listed k all) where
    pub place_left : listed < all → k < 64
    place_left some = elim (cases_lt k 64) [
      | inl h ↦ h
      | inr h ↦ absurd (none_left (subst (λ (n : ℕ). listed + count_levels (drop n scan) ≡ all) (last h) s.left))
    ]
      where
        last : 64 ≤ k → k ≡ 64
        last h = let i = s.inside in omega (arith, h, i)

        none_left : listed + count_levels (drop 64 scan) ≡ all → ⊥
        none_left e = let z = count_end levels alternate in omega (arith, some, e, z)

    pub room_left : listed < all → listed < 64
    room_left some = let f = s.few in omega (arith, some, f)

    pub one_listed : (one : ℕ) → listed < all → one ≡ counted (level levels false alternate k) → AreListed (set places listed k) (listed + one) (k + 1) all
    one_listed one some e = elim (is_zero (level levels false alternate k)) [
      | inl z ↦ (
          let none : one ≡ 0 = e ∙ counted_zero (level levels false alternate k) z in
          record {
            room = length-set places listed k ∙ s.room;
            inside = omega (arith, h);
            few = s.few;
            left = passed (counted (level levels false alternate k)) (count_levels (drop (k + 1) scan)) (count_levels (drop k scan)) (count_step levels alternate k h) e s.left;
            whole =
                ap (λ (n : ℕ). take n (set places listed k) ++ level_places (k + 1) (drop (k + 1) scan)) (ap (λ (n : ℕ). listed + n) none ∙ add-zero listed)
                ∙ ap (λ (xs : List ℕ). xs ++ level_places (k + 1) (drop (k + 1) scan)) (take-set places listed k)
                ∙ ap (λ (xs : List ℕ). take listed places ++ xs) (sym (ap (level_places k) (scan_rest levels false alternate k h) ∙ places_zero k (level levels false alternate k) (drop (k + 1) scan) z))
                ∙ s.whole;
          })
      | inr z ↦ (
          let some_one : one ≡ 1 = e ∙ counted_some (level levels false alternate k) z in
          record {
            room = length-set places listed k ∙ s.room;
            inside = omega (arith, h);
            few = s.few;
            left = passed (counted (level levels false alternate k)) (count_levels (drop (k + 1) scan)) (count_levels (drop k scan)) (count_step levels alternate k h) e s.left;
            whole =
                ap (λ (n : ℕ). take (listed + n) (set places listed k) ++ level_places (k + 1) (drop (k + 1) scan)) some_one
                ∙ ap (λ (xs : List ℕ). xs ++ level_places (k + 1) (drop (k + 1) scan)) (take_more_set places listed k (rw s.room (room_left some)))
                ∙ append_assoc (take listed places) (k ∷ []) (level_places (k + 1) (drop (k + 1) scan))
                ∙ ap (λ (xs : List ℕ). take listed places ++ xs) (sym (ap (level_places k) (scan_rest levels false alternate k h) ∙ places_level k (level levels false alternate k) (drop (k + 1) scan) z))
                ∙ s.whole;
          })
    ]
      where
        h : k < 64
        h = place_left some

        passed : (v rest left : ℕ) → left ≡ v + rest → one ≡ v → listed + left ≡ all → listed + one + rest ≡ all
        passed v rest left e f g = omega (arith, e, f, g)

    pub all_listed : all ≤ listed → take listed places ≡ level_places start (drop start scan)
    all_listed h =
        sym (append-nil (take listed places))
        ∙ ap (λ (xs : List ℕ). take listed places ++ xs) (sym (places_none k (drop k scan) (let l = s.left in omega (arith, l, h))))
        ∙ s.whole
