-- How many levels of a block aren't zero: as many in the order of its scan as in raster order.
use Rattle.std.proofs.Common.{◌≡◌, ℕ, zero, suc, ◌+◌, ◌-◌, ◌^◌, ◌<◌, ◌≤◌, add-zero, Bool, true, false, ◌&&◌, ◌||◌, not, cond, eqb, List, [], ◌∷◌, length, get_or, drop, map, refl, ap, sym, ◌∙◌, arith, ℤ, pos, negsuc}
use Rattle.std.specs.List.{range_with_len}
use Rattle.std.proofs.lemmas.Bool.Decides.{nat_tests}
use Rattle.std.proofs.lemmas.List.{drop_all, drop_more}
use Rattle.std.proofs.lemmas.List.FromFn.{fill_by_all}
use Rattle.mv_bits.specs.Bits.{worth}
use Rattle.mv_terms.specs.Scans.{raster_place, zigzag_scan, alternate_scan}
use Rattle.mv_blocks.specs.Blocks.{in_scan}
use Rattle.mv_blocks.specs.Steps.{counted, count_levels}
use Rattle.mv_blocks.proofs.ListedLemmas.{level, scan_rest, scan_end}
use Rattle.mv_blocks.proofs.RasterLaws.{raster_place_zero}

and_true : (a b : Bool) → (a && b) ≡ true → (a ≡ true) × (b ≡ true)
and_true true b e = (refl, e)
and_true false b e = cc

same_number : (a b : ℕ) → eqb a b ≡ true → a ≡ b
same_number a b e = grind (arith, nat_tests)

worth_some : (n : ℕ) → worth (not (eqb (suc n) 0)) ≡ 1
worth_some n = ap (λ (t : Bool). worth (not t)) (not_zero n)
  where
    not_zero : (n : ℕ) → eqb (suc n) 0 ≡ false
    not_zero n = grind (arith, nat_tests)

pub counted_zero : (v : ℤ) → v ≡ pos 0 → counted v ≡ 0
counted_zero v e = rw e refl

pub counted_some : (v : ℤ) → (v ≡ pos 0 → ⊥) → counted v ≡ 1
counted_some (pos zero) e = absurd (e refl)
counted_some (pos (suc n)) e = worth_some n
counted_some (negsuc n) e = worth_some n

pub counted_one : (v : ℤ) → counted v ≤ 1
counted_one (pos zero) = omega arith
counted_one (pos (suc n)) = let e = worth_some n in omega (arith, e)
counted_one (negsuc n) = let e = worth_some n in omega (arith, e)

pub count_few : (levels : List ℤ) → count_levels levels ≤ length levels
unfolding count_levels
count_few [] = omega arith
count_few (v ∷ levels) =
    let h = count_few levels in
    let k = counted_one v in
    omega (arith, h, k)

-- one level and the others
pub count_next : (levels : List ℤ) (k : ℕ) → k < length levels → count_levels (drop k levels) ≡ counted (get_or levels k (pos 0)) + count_levels (drop (k + 1) levels)
unfolding count_levels
count_next levels k h = ap count_levels (drop_more levels k (pos 0) h)

-- ---- as the count goes on

-- those in front of place i are counted
abbrev pub AreCounted : List ℤ → ℕ → ℕ → Type 0
AreCounted levels count i = count + count_levels (drop i levels) ≡ count_levels levels

pub count_fits : (levels : List ℤ) (count i one : ℕ) → length levels ≡ 64 → i < 64 → AreCounted levels count i → one ≡ counted (get_or levels i (pos 0)) → count + one < 2 ^ 16
count_fits levels count i one whole h so_far e =
    let few = count_few levels in
    let next = count_next levels i (omega (arith, whole, h)) in
    small (counted (get_or levels i (pos 0))) _ _ _ so_far next e (omega (arith, few, whole))
  where
    small : (v rest left all : ℕ) → count + left ≡ all → left ≡ v + rest → one ≡ v → all ≤ 64 → count + one < 2 ^ 16
    small v rest left all e f g h = omega (arith, e, f, g, h)

pub count_more : (levels : List ℤ) (count i one : ℕ) → length levels ≡ 64 → i < 64 → AreCounted levels count i → one ≡ counted (get_or levels i (pos 0)) → AreCounted levels (count + one) (i + 1)
count_more levels count i one whole h so_far e = more (counted (get_or levels i (pos 0))) _ _ _ so_far (count_next levels i (omega (arith, whole, h))) e
  where
    more : (v rest left all : ℕ) → count + left ≡ all → left ≡ v + rest → one ≡ v → count + one + rest ≡ all
    more v rest left all e f g = omega (arith, e, f, g)

pub count_done : (levels : List ℤ) (count i : ℕ) → length levels ≡ 64 → 64 ≤ i → AreCounted levels count i → count ≡ count_levels levels
unfolding count_levels
count_done levels count i whole h so_far = sym (add-zero count) ∙ ap (λ (xs : List ℤ). count + count_levels xs) (sym (drop_all i levels (omega (arith, whole, h)))) ∙ so_far

-- all but the first one
pub count_behind : (levels : List ℤ) (all one start : ℕ) → length levels ≡ 64 → start ≡ 1 → all ≡ count_levels levels → one ≡ counted (get_or levels 0 (pos 0)) → (one ≤ all) × (all - one ≡ count_levels (drop start levels))
count_behind levels all one start whole second e f =
    let next : count_levels levels ≡ counted (get_or levels 0 (pos 0)) + count_levels (drop 1 levels) = count_next levels 0 (omega (arith, whole)) in
    last (counted (get_or levels 0 (pos 0))) _ _ e f next (ap (λ (n : ℕ). count_levels (drop n levels)) (sym second))
  where
    last : (v rest left : ℕ) → {levels : ℕ} → all ≡ levels → one ≡ v → levels ≡ v + rest → rest ≡ left → (one ≤ all) × (all - one ≡ left)
    last v rest left e f g h = (omega (arith, e, f, g), omega (arith, e, f, g, h))

-- ---- the same levels in another order

-- the list without its first n
abbrev without : ℕ → List ℕ → List ℕ
without n [] = []
without n (m ∷ ms) = cond (eqb m n) ms (m ∷ without n ms)

abbrev has : ℕ → List ℕ → Bool
has n [] = false
has n (m ∷ ms) = eqb m n || has n ms

-- the lists have the same numbers, each as often
abbrev are_same : List ℕ → List ℕ → Bool
are_same [] [] = true
are_same [] (m ∷ ms) = false
are_same (n ∷ ns) ms = has n ms && are_same ns (without n ms)

module _ (levels : List ℤ) where
  abbrev at : ℕ → ℤ
  at p = get_or levels p (pos 0)

  count_without : (n : ℕ) (ms : List ℕ) → has n ms ≡ true → count_levels (map at ms) ≡ counted (at n) + count_levels (map at (without n ms))
  unfolding count_levels
  count_without n [] e = absurd (let f : false ≡ true = e in cc)
  count_without n (m ∷ ms) e = first (eqb m n) refl e (count_without n ms)
    where
      swapped : (a b x y : ℕ) → x ≡ b + y → a + x ≡ b + (a + y)
      swapped a b x y e = omega (arith, e)

      first : (t : Bool) → eqb m n ≡ t → (t || has n ms) ≡ true → (has n ms ≡ true → count_levels (map at ms) ≡ counted (at n) + count_levels (map at (without n ms)))
          → counted (at m) + count_levels (map at ms) ≡ counted (at n) + count_levels (map at (cond t ms (m ∷ without n ms)))
      first true t h later = ap (λ (p : ℕ). counted (at p) + count_levels (map at ms)) (same_number m n t)
      first false t h later = swapped (counted (at m)) (counted (at n)) (count_levels (map at ms)) (count_levels (map at (without n ms))) (later h)

  count_same : (ns ms : List ℕ) → are_same ns ms ≡ true → count_levels (map at ns) ≡ count_levels (map at ms)
  unfolding count_levels
  count_same [] [] e = refl
  count_same [] (m ∷ ms) e = absurd (let f : false ≡ true = e in cc)
  count_same (n ∷ ns) ms e =
      let both = and_true _ _ e in
      ap (λ (k : ℕ). counted (at n) + k) (count_same ns (without n ms) both.1) ∙ sym (count_without n ms both.0)

  map_map : (h : ℕ → ℕ) (ks : List ℕ) → map (λ k. at (h k)) ks ≡ map at (map h ks)
  map_map h [] = refl
  map_map h (k ∷ ks) = ap (λ (xs : List ℤ). at (h k) ∷ xs) (map_map h ks)

  scan_same : (alternate : Bool) → are_same (map (raster_place alternate) (range_with_len 0 64)) (range_with_len 0 64) ≡ true
  unfolding raster_place zigzag_scan alternate_scan
  scan_same true = refl
  scan_same false = refl

  count_scan : (alternate : Bool) → length levels ≡ 64 → count_levels (in_scan alternate levels) ≡ count_levels levels
  unfolding in_scan
  count_scan alternate whole =
      ap count_levels (map_map (raster_place alternate) (range_with_len 0 64))
      ∙ count_same (map (raster_place alternate) (range_with_len 0 64)) (range_with_len 0 64) (scan_same alternate)
      ∙ ap count_levels (sym (fill_by_all at levels 64 (pos 0) whole (λ k h. refl)))

  scan_long : (alternate : Bool) → length (in_scan alternate levels) ≡ 64
  unfolding in_scan
  scan_long alternate = refl

  first_same : (alternate : Bool) → get_or (in_scan alternate levels) 0 (pos 0) ≡ at 0
  unfolding in_scan
  first_same alternate = ap at (raster_place_zero alternate)

  -- from the first place of the scan on, or from the one behind it
  pub count_from : (alternate : Bool) (start : ℕ) → length levels ≡ 64 → start ≤ 1 → count_levels (drop start (in_scan alternate levels)) ≡ count_levels (drop start levels)
  count_from alternate zero whole h = count_scan alternate whole
  count_from alternate (suc zero) whole h =
      behind (counted (at 0)) _ _ (count_levels (in_scan alternate levels)) (count_levels levels)
      (count_next (in_scan alternate levels) 0 (omega (arith, scan_long alternate)) ∙ ap (λ (v : ℤ). counted v + count_levels (drop 1 (in_scan alternate levels))) (first_same alternate))
      (count_next levels 0 (omega (arith, whole))) (count_scan alternate whole)
    where
      behind : (a x y all both : ℕ) → all ≡ a + x → both ≡ a + y → all ≡ both → x ≡ y
      behind a x y all both e f g = omega (arith, e, f, g)
  count_from alternate (suc (suc n)) whole h = absurd (omega arith)

  -- none is left behind the last place
  pub count_end : (alternate : Bool) → count_levels (drop 64 (in_scan alternate levels)) ≡ 0
  unfolding count_levels
  count_end alternate = ap count_levels (scan_end levels false alternate)

  pub count_step : (alternate : Bool) (k : ℕ) → k < 64 → count_levels (drop k (in_scan alternate levels)) ≡ counted (level levels false alternate k) + count_levels (drop (k + 1) (in_scan alternate levels))
  unfolding count_levels
  count_step alternate k h = ap count_levels (scan_rest levels false alternate k h)
