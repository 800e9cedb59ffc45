-- The runs and levels of a block lie in it, and have levels that an escape may have.
use Rattle.std.proofs.Common.{◌≡◌, ℕ, zero, suc, ◌+◌, ◌<◌, ◌≤◌, Bool, true, false, ◌||◌, not, eqb, List, [], ◌∷◌, length, get_or, replicate, drop, map, refl, ap, sym, ◌∙◌, subst, arith, inl, inr, ℤ, pos, negsuc}
use Rattle.std.specs.Prelude.{All}
use Rattle.std.specs.List.{range_with_len, AllByRecursion}
use Rattle.std.proofs.lemmas.List.{get_or_past}
use Rattle.std.proofs.lemmas.Bool.{cases_lt}
use Rattle.std.proofs.lemmas.Bool.Decides.{nat_tests}
use Rattle.std.proofs.lemmas.Int.{ints}
use Rattle.std.proofs.lemmas.List.{length-drop}
use Rattle.std.proofs.lemmas.List.FromFn.{length-map-range_with_len}
use Rattle.std.proofs.lemmas.List.Elements.{All-get_or}
use Rattle.mv_terms.specs.Ranges.{IsLevel}
use Rattle.mv_terms.specs.Scans.{raster_place}
use Rattle.mv_blocks.proofs.RasterLaws.{in_raster-same, in_raster-zero}
use Rattle.mv_blocks.specs.Blocks.{pairs_in, pairs_of, in_scan}
use Rattle.mv_blocks.specs.Written.{IsCoded, Fit, has_level}
use Rattle.mv_blocks.proofs.LevelLaws.{laid_back, scanned}

positive_coded : (n : ℕ) → IsLevel (pos (suc n)) → IsCoded (pos (suc n))
positive_coded n legal = let most = legal.1 in (omega arith, omega (arith, ints))

negative_coded : (n : ℕ) → IsLevel (negsuc n) → IsCoded (negsuc n)
negative_coded n legal = let least = legal.0 in omega (arith, ints)

pairs_fit : (place run : ℕ) (levels : List ℤ) → place + run + length levels ≤ 64 → AllByRecursion IsLevel levels → (has_level levels ≡ false → 0 < place) → Fit place (pairs_in run levels)
pairs_fit place run [] inside all some = some refl
pairs_fit place run (pos zero ∷ levels) inside all some = pairs_fit place (run + 1) levels (omega arith) all.1 some
pairs_fit place run (pos (suc n) ∷ levels) inside all some = (omega arith, positive_coded n all.0, pairs_fit (place + run + 1) 0 levels (omega arith) all.1 (λ e. omega arith))
pairs_fit place run (negsuc n ∷ levels) inside all some = (omega arith, negative_coded n all.0, pairs_fit (place + run + 1) 0 levels (omega arith) all.1 (λ e. omega arith))

each_mapped : (f : ℕ → ℤ) (ks : List ℕ) → ((k : ℕ) → IsLevel (f k)) → AllByRecursion IsLevel (map f ks)
each_mapped f [] each = tt
each_mapped f (k ∷ ks) each = (each k, each_mapped f ks each)

each_place : (levels : List ℤ) → All IsLevel levels → (p : ℕ) → IsLevel (get_or levels p (pos 0))
each_place levels all p =
    elim (cases_lt p (length levels)) [
      | inl early ↦ All-get_or IsLevel levels p (pos 0) early all
      | inr past ↦ rw (get_or_past levels p (pos 0) past) (omega (arith, ints), omega (arith, ints))
    ]

all_scanned : (alternate : Bool) (levels : List ℤ) → All IsLevel levels → AllByRecursion IsLevel (in_scan alternate levels)
all_scanned alternate levels all =
    subst (AllByRecursion IsLevel) (sym (scanned alternate levels)) (each_mapped (λ n. get_or levels (raster_place alternate n) (pos 0)) (range_with_len 0 64) (λ n. each_place levels all (raster_place alternate n)))

scanned_long : (alternate : Bool) (levels : List ℤ) → length (in_scan alternate levels) ≡ 64
scanned_long alternate levels = ap (λ (x : List ℤ). length x) (scanned alternate levels) ∙ length-map-range_with_len (λ n. get_or levels (raster_place alternate n) (pos 0)) 0 64

never_none : (n : ℕ) (others : Bool) → (not (eqb (suc n) 0) || others) ≡ false → ⊥
never_none n others e = let some : eqb (suc n) 0 ≡ false = grind (arith, nat_tests) in let f = rw some at e in cc

-- where there is no level, each place has 0
zero_there : (levels : List ℤ) (k : ℕ) → has_level levels ≡ false → get_or levels k (pos 0) ≡ pos 0
zero_there [] zero e = refl
zero_there [] (suc k) e = refl
zero_there (pos zero ∷ levels) zero e = refl
zero_there (pos zero ∷ levels) (suc k) e = zero_there levels k e
zero_there (pos (suc n) ∷ levels) k e = absurd (never_none n (has_level levels) e)
zero_there (negsuc n ∷ levels) k e = absurd (never_none n (has_level levels) e)

-- levels that aren't all zero have one in the order of the scan
some_scanned : (alternate : Bool) (levels : List ℤ) → length levels ≡ 64 → has_level levels ≡ true → has_level (in_scan alternate levels) ≡ false → ⊥
some_scanned alternate levels whole some none =
    let zeros : levels ≡ replicate 64 (pos 0) =
    sym (laid_back alternate levels whole) ∙ in_raster-same alternate (λ k. get_or (in_scan alternate levels) k (pos 0)) (λ k. pos 0) (λ k. zero_there (in_scan alternate levels) k none) ∙ in_raster-zero alternate in
    let e : has_level (replicate 64 (pos 0)) ≡ true = subst (λ (x : List ℤ). has_level x ≡ true) zeros some in
    cc

all_dropped : (levels : List ℤ) → AllByRecursion IsLevel levels → AllByRecursion IsLevel (drop 1 levels)
all_dropped [] all = tt
all_dropped (level ∷ levels) all = all.1

-- those behind the DC level of an intra block
pub intra_fit : (alternate : Bool) (levels : List ℤ) → All IsLevel levels → Fit 1 (pairs_of levels true alternate)
intra_fit alternate levels legal =
    let scanned_levels = in_scan alternate levels in
    let rest = length-drop 1 scanned_levels in
    let long = scanned_long alternate levels in
    pairs_fit 1 0 (drop 1 scanned_levels) (omega arith) (all_dropped scanned_levels (all_scanned alternate levels legal)) (λ e. omega arith)

-- and those of another block, which has a level
pub non_intra_fit : (alternate : Bool) (levels : List ℤ) → length levels ≡ 64 → All IsLevel levels → has_level levels ≡ true → Fit 0 (pairs_of levels false alternate)
non_intra_fit alternate levels whole legal some =
    let scanned_levels = in_scan alternate levels in
    let long = scanned_long alternate levels in
    pairs_fit 0 0 scanned_levels (omega arith) (all_scanned alternate levels legal) (λ e. absurd (some_scanned alternate levels whole some e))
