-- The runs and levels of a block give its levels back.
use Rattle.std.proofs.Common.{◌≡◌, ℕ, zero, suc, ◌+◌, ◌<◌, Bool, true, false, cond, eqb, List, [], ◌∷◌, length, get_or, drop, map, refl, ap, sym, ◌∙◌, subst, arith, ℤ, pos, negsuc}
use Rattle.std.specs.List.{range_with_len}
use Rattle.std.proofs.lemmas.Bool.Decides.{nat_tests}
use Rattle.mv_terms.specs.Scans.{zigzag_scan, alternate_scan, scan, raster_place}
use Rattle.mv_blocks.specs.Raster.{in_raster}
use Rattle.mv_blocks.specs.Blocks.{level_at, intra_level_at, pairs_in, in_scan, pairs_of}
use Rattle.mv_blocks.proofs.RasterLaws.{in_raster-same, raster_place_zero}

elsewhere : (k place : ℕ) (x y : ℤ) → (k ≡ place → ⊥) → cond (eqb k place) x y ≡ y
elsewhere k place x y other = grind (arith, nat_tests)

at_this : (k place : ℕ) (x y : ℤ) → k ≡ place → cond (eqb k place) x y ≡ x
at_this k place x y here = grind (arith, nat_tests)

-- zeros stand in front of a level
zeros_before : (place run : ℕ) (levels : List ℤ) (k : ℕ) → k < place + run → level_at place (pairs_in run levels) k ≡ pos 0
zeros_before place run [] k early = refl
zeros_before place run (pos zero ∷ levels) k early = zeros_before place (run + 1) levels k (omega arith)
zeros_before place run (pos (suc n) ∷ levels) k early = elsewhere k (place + run) (pos (suc n)) (level_at (place + run + 1) (pairs_in 0 levels) k) (λ e. omega arith) ∙ zeros_before (place + run + 1) 0 levels k (omega arith)
zeros_before place run (negsuc n ∷ levels) k early = elsewhere k (place + run) (negsuc n) (level_at (place + run + 1) (pairs_in 0 levels) k) (λ e. omega arith) ∙ zeros_before (place + run + 1) 0 levels k (omega arith)

past_end : (j : ℕ) → get_or (let z : List ℤ = [] in z) j (pos 0) ≡ pos 0
past_end zero = refl
past_end (suc j) = refl

-- behind so many zeros, the levels are those of which the runs and levels were listed
level_listed : (place run : ℕ) (levels : List ℤ) (j k : ℕ) → k ≡ place + run + j → level_at place (pairs_in run levels) k ≡ get_or levels j (pos 0)
level_listed place run [] j k e = sym (past_end j)
level_listed place run (pos zero ∷ levels) zero k e = zeros_before place (run + 1) levels k (omega arith)
level_listed place run (pos zero ∷ levels) (suc j) k e = level_listed place (run + 1) levels j k (omega arith)
level_listed place run (pos (suc n) ∷ levels) zero k e = at_this k (place + run) (pos (suc n)) (level_at (place + run + 1) (pairs_in 0 levels) k) (omega arith)
level_listed place run (pos (suc n) ∷ levels) (suc j) k e = elsewhere k (place + run) (pos (suc n)) (level_at (place + run + 1) (pairs_in 0 levels) k) (λ z. omega arith) ∙ level_listed (place + run + 1) 0 levels j k (omega arith)
level_listed place run (negsuc n ∷ levels) zero k e = at_this k (place + run) (negsuc n) (level_at (place + run + 1) (pairs_in 0 levels) k) (omega arith)
level_listed place run (negsuc n ∷ levels) (suc j) k e = elsewhere k (place + run) (negsuc n) (level_at (place + run + 1) (pairs_in 0 levels) k) (λ z. omega arith) ∙ level_listed (place + run + 1) 0 levels j k (omega arith)

-- a block is known by its 64 levels
map_each : (levels : List ℤ) (a : ℕ) (f : ℕ → ℤ) → ((j : ℕ) → f (a + j) ≡ get_or levels j (pos 0)) → map f (range_with_len a (length levels)) ≡ levels
map_each [] a f same = refl
map_each (level ∷ levels) a f same =
    let here : f a ≡ level = let z : a + 0 ≡ a = omega arith in ap f (sym z) ∙ same 0 in
    let later = map_each levels (a + 1) f (λ j. let z : a + 1 + j ≡ a + suc j = omega arith in ap f z ∙ same (suc j)) in
    rw (here, later) refl

-- each place of the scan stands once in the block
scan_each : (alternate : Bool) (f : ℕ → ℤ) → map (λ k. get_or (map (λ n. f (raster_place alternate n)) (range_with_len 0 64)) k (pos 0)) (scan alternate) ≡ map f (range_with_len 0 64)
unfolding zigzag_scan alternate_scan raster_place
scan_each true f = refl
scan_each false f = refl

pub scanned : (alternate : Bool) (levels : List ℤ) → in_scan alternate levels ≡ map (λ n. get_or levels (raster_place alternate n) (pos 0)) (range_with_len 0 64)
unfolding in_scan
scanned alternate levels = refl

-- the levels in the order of the scan, laid back
pub laid_back : (alternate : Bool) (levels : List ℤ) → length levels ≡ 64 → in_raster alternate (λ k. get_or (in_scan alternate levels) k (pos 0)) ≡ levels
laid_back alternate levels long =
    let f : ℕ → ℤ = λ p. get_or levels p (pos 0) in
    in_raster-same alternate (λ k. get_or (in_scan alternate levels) k (pos 0)) (λ k. get_or (map (λ n. f (raster_place alternate n)) (range_with_len 0 64)) k (pos 0)) (λ k. ap (λ (x : List ℤ). get_or x k (pos 0)) (scanned alternate levels))
    ∙ scan_each alternate f
    ∙ subst (λ (n : ℕ). map f (range_with_len 0 n) ≡ levels) long (map_each levels 0 f (λ j. let z : 0 + j ≡ j = omega arith in ap f z))

behind_first : (levels : List ℤ) (k : ℕ) → get_or (drop 1 levels) k (pos 0) ≡ get_or levels (suc k) (pos 0)
behind_first [] k = past_end k
behind_first (level ∷ levels) k = refl

-- the runs and levels of a block that isn't intra give its levels back
pub pairs_give : (alternate : Bool) (levels : List ℤ) → length levels ≡ 64 → in_raster alternate (level_at 0 (pairs_of levels false alternate)) ≡ levels
pairs_give alternate levels long =
    in_raster-same alternate (level_at 0 (pairs_of levels false alternate)) (λ k. get_or (in_scan alternate levels) k (pos 0)) (λ k. level_listed 0 0 (in_scan alternate levels) k k (omega arith))
    ∙ laid_back alternate levels long

first_scanned : (alternate : Bool) (levels : List ℤ) → get_or (in_scan alternate levels) 0 (pos 0) ≡ get_or levels 0 (pos 0)
first_scanned alternate levels = ap (λ (x : List ℤ). get_or x 0 (pos 0)) (scanned alternate levels) ∙ ap (λ (p : ℕ). get_or levels p (pos 0)) (raster_place_zero alternate)

-- and those of an intra block with its DC level
pub intra_pairs_give : (alternate : Bool) (levels : List ℤ) → length levels ≡ 64 → in_raster alternate (intra_level_at (get_or levels 0 (pos 0)) (pairs_of levels true alternate)) ≡ levels
intra_pairs_give alternate levels long =
    in_raster-same alternate (intra_level_at (get_or levels 0 (pos 0)) (pairs_of levels true alternate)) (λ k. get_or (in_scan alternate levels) k (pos 0)) each
    ∙ laid_back alternate levels long
  where
    each : (k : ℕ) → intra_level_at (get_or levels 0 (pos 0)) (pairs_of levels true alternate) k ≡ get_or (in_scan alternate levels) k (pos 0)
    each zero = sym (first_scanned alternate levels)
    each (suc k) =
        elsewhere (suc k) 0 (get_or levels 0 (pos 0)) (level_at 1 (pairs_of levels true alternate) (suc k)) (λ e. omega arith)
        ∙ level_listed 1 0 (drop 1 (in_scan alternate levels)) k (suc k) (omega arith)
        ∙ behind_first (in_scan alternate levels) k
