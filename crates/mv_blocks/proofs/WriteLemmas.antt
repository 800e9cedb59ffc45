-- Runs and levels that are put, step by step.
use Rattle.std.proofs.Common.{◌≡◌, ℕ, zero, suc, ◌+◌, ◌-◌, ◌<◌, ◌≤◌, Bool, true, false, ◌&&◌, List, [], ◌∷◌, ◌++◌, append_assoc, drop, get_or, length, refl, sym, subst, ap, ◌∙◌, arith, ℤ, pos, negsuc, ◌-ℤ◌}
use Rattle.std.specs.Prelude.{slice_index_or, unsigned_abs}
use Rattle.std.proofs.lemmas.List.{drop_more, get_or-drop, drop-drop}
use Rattle.mv_bits.specs.Writing.{Writes}
use Rattle.mv_bits.proofs.WritingLemmas.{Writes-none, Writes-append}
use Rattle.mv_codes.specs.declared.code.Code.{Code}
use Rattle.mv_codes.specs.declared.coefficient.Coef.{Coef}
use Rattle.mv_codes.specs.declared.coefficient.Coef.TheVariants as coef
use Rattle.mv_codes.specs.Coefficients.{coef_codes}
use Rattle.mv_codes.specs.Spelled.{code_of, same_coef}
use Rattle.mv_blocks.specs.declared.block.Pair.{Pair}
use Rattle.mv_blocks.specs.declared.block.BlockCode.{BlockCode}
use Rattle.mv_blocks.specs.Blocks.{codes_at, in_scan, pair, pairs_in}
use Rattle.mv_blocks.specs.Written.{Fit, IsCoded, block_bits, block_bits_by, dc_bits, pair_bits, pairs_bits}
use Rattle.mv_blocks.specs.Steps.{level_places}
use Rattle.mv_blocks.proofs.PairsBack.{not_first}
use Rattle.mv_blocks.proofs.PlaceLemmas.{IsNext, next_is}
use Rattle.mv_blocks.proofs.ListedLemmas.{level, scan_at}

-- what an escape asks of a level
pub coded_small : (level : ℤ) → IsCoded level → unsigned_abs level < 2048
coded_small (pos n) inside = omega arith
coded_small (negsuc n) inside = omega arith

-- the place at an index of the list, and those behind it
pub place_is : (places : List ℕ) (i k : ℕ) → i < length places → k ≡ get_or places i 0 → drop i places ≡ k ∷ drop (i + 1) places
place_is places i k h e = drop_more places i 0 h ∙ ap (λ (n : ℕ). n ∷ drop (i + 1) places) (sym e)

dropped : (place zeros k : ℕ) → k ≡ place + zeros → (xs : List ℤ) → drop (suc zeros) (drop place xs) ≡ drop (k + 1) xs
dropped place zeros k e xs = drop-drop (suc zeros) place xs ∙ ap (λ (n : ℕ). drop n xs) (let h : place + suc zeros ≡ k + 1 = omega (arith, e) in h)

-- where no place is listed, there are no runs and levels
no_pairs : (place run : ℕ) (levels : List ℤ) → level_places place levels ≡ [] → pairs_in run levels ≡ []
unfolding level_places
no_pairs place run [] e = refl
no_pairs place run (pos zero ∷ levels) e = no_pairs (place + 1) (run + 1) levels e
no_pairs place run (pos (suc n) ∷ levels) e = absurd (let k = ap length e in omega (arith, k))
no_pairs place run (negsuc n ∷ levels) e = absurd (let k = ap length e in omega (arith, k))

-- ---- the levels of a block, from a place of the scan on

module _ {S Kind : Type 0} (stands : S → Kind → List ℕ → Type 0) (code : BlockCode) (start : ℕ) (levels : List ℤ) where
  abbrev scan : List ℤ
  scan = in_scan code.alternate levels

  -- The runs and levels in front of a place are put, and those at these places are left.
  pub record IsPut (a b : S) (old new : List Bool) (place : ℕ) (left : List ℕ) : Type 0 where
    pub bits : List Bool
    pub put : Writes stands a b old new bits
    pub whole : bits ++ pairs_bits code place (pairs_in 0 (drop place scan)) ≡ pairs_bits code start (pairs_in 0 (drop start scan))
    pub fit : Fit place (pairs_in 0 (drop place scan))
    pub places : left ≡ level_places place (drop place scan)

  pub put_none : (a : S) (old : List Bool) (left : List ℕ) → Fit start (pairs_in 0 (drop start scan)) → left ≡ level_places start (drop start scan) → IsPut a a old old start left
  put_none a old left fit e = record { bits = []; put = Writes-none stands a old; whole = refl; fit = fit; places = e }

  module _ {a b : S} {old new : List Bool} {place : ℕ} {left : List ℕ} (s : IsPut a b old new place left) where
    module _ (k : ℕ) (others : List ℕ) (is : left ≡ k ∷ others) where
      n : IsNext place 0 (drop place scan) k others
      n = next_is k others place 0 (drop place scan) (sym s.places ∙ is)

      run_is : k - place ≡ 0 + n.zeros
      run_is = let at = n.at in omega (arith, at)

      level_is : get_or (drop place scan) n.zeros (pos 0) ≡ get_or scan k (pos 0)
      level_is = get_or-drop place scan n.zeros (pos 0) ∙ ap (λ (m : ℕ). get_or scan m (pos 0)) (sym n.at)

      rest_is : drop (suc n.zeros) (drop place scan) ≡ drop (k + 1) scan
      rest_is = dropped place n.zeros k n.at scan

      pairs_are : pairs_in 0 (drop place scan) ≡ pair (k - place) (get_or scan k (pos 0)) ∷ pairs_in 0 (drop (k + 1) scan)
      pairs_are =
          n.pairs ∙ ap (λ (v : ℤ). pair (0 + n.zeros) v ∷ pairs_in 0 (drop (suc n.zeros) (drop place scan))) level_is
          ∙ ap (λ (m : ℕ). pair m (get_or scan k (pos 0)) ∷ pairs_in 0 (drop (suc n.zeros) (drop place scan))) (sym run_is)
          ∙ ap (λ (xs : List ℤ). pair (k - place) (get_or scan k (pos 0)) ∷ pairs_in 0 xs) rest_is

      fit_here : Fit place (pair (k - place) (get_or scan k (pos 0)) ∷ pairs_in 0 (drop (k + 1) scan))
      fit_here = subst (λ (x : List Pair). Fit place x) pairs_are s.fit

      pub behind_place : place ≤ k
      behind_place = let at = n.at in omega (arith, at)

      pub place_inside : k < 64
      place_inside = let f = fit_here.0 in let h = behind_place in omega (arith, f, h)

      -- what is asked of the level at this place
      pub level_coded : IsCoded (level levels false code.alternate k)
      level_coded = subst IsCoded (scan_at levels false code.alternate k place_inside) fit_here.1

      -- a level is put behind its run
      pub put_level : (c : S) (last : List Bool) (p : Pair) → p.run ≡ k - place → p.level ≡ level levels false code.alternate k
          → Writes stands b c new last (pair_bits (codes_at code place) p) → IsPut a c old last (k + 1) others
      put_level c last p r l w =
          let at : get_or scan k (pos 0) ≡ level levels false code.alternate k = scan_at levels false code.alternate k place_inside in
          let same : p ≡ pair (k - place) (get_or scan k (pos 0)) = λ i. record { run = r i; level = (l ∙ sym at) i } in
          let here = pair_bits (codes_at code place) (pair (k - place) (get_or scan k (pos 0))) in
          let later : List Pair = pairs_in 0 (drop (k + 1) scan) in
          let next : place + (k - place) + 1 ≡ k + 1 = let h = behind_place in omega (arith, h) in
          record {
            bits = s.bits ++ here;
            put = Writes-append stands a b c old new last s.bits here s.put (subst (λ (x : Pair). Writes stands b c new last (pair_bits (codes_at code place) x)) same w);
            whole =
                append_assoc s.bits here (pairs_bits code (k + 1) later)
                ∙ ap (λ (m : ℕ). s.bits ++ (here ++ pairs_bits code m later)) (sym next)
                ∙ ap (λ (x : List Pair). s.bits ++ pairs_bits code place x) (sym pairs_are)
                ∙ s.whole;
            fit = subst (λ (m : ℕ). Fit m later) next fit_here.2;
            places = sym (ap (level_places (k + 1)) (sym rest_is) ∙ n.behind);
          }

    rest_none : left ≡ [] → pairs_in 0 (drop place scan) ≡ []
    rest_none e = no_pairs place 0 (drop place scan) (sym s.places ∙ e)

    -- the end stands behind some place
    end_behind : left ≡ [] → 0 < place
    end_behind e = subst (λ (x : List Pair). Fit place x) (rest_none e) s.fit

    pub put_all : left ≡ [] → (c : S) (last : List Bool) → Writes stands b c new last (code_of (same_coef coef.End) (coef_codes (code.intra && code.table_15) false)) → Writes stands a c old last (pairs_bits code start (pairs_in 0 (drop start scan)))
    put_all e c last w =
        let table : coef_codes (code.intra && code.table_15) false ≡ codes_at code place = ap (coef_codes (code.intra && code.table_15)) (sym (not_first code.intra place (end_behind e))) in
        let whole : s.bits ++ code_of (same_coef coef.End) (codes_at code place) ≡ pairs_bits code start (pairs_in 0 (drop start scan)) =
        ap (λ (x : List Pair). s.bits ++ pairs_bits code place x) (sym (rest_none e)) ∙ s.whole in
        subst (λ (bits : List Bool). Writes stands a c old last bits) whole
        (Writes-append stands a b c old new last s.bits _ s.put (subst (λ (codes : List (Code Coef)). Writes stands b c new last (code_of (same_coef coef.End) codes)) table w))

-- an intra block: its DC difference, and the levels behind it
pub intra_put : {S Kind : Type 0} (stands : S → Kind → List ℕ → Type 0) (code : BlockCode) (predictor : ℤ) (levels : List ℤ) (a b c : S) (old mid new : List Bool) (difference : ℤ) → code.intra ≡ true
    → difference ≡ (slice_index_or levels 0 (pos 0) -ℤ predictor)
    → Writes stands a b old mid (dc_bits code.luma difference) → Writes stands b c mid new (pairs_bits code 1 (pairs_in 0 (drop 1 (in_scan code.alternate levels)))) → Writes stands a c old new (block_bits code predictor levels)
intra_put stands code predictor levels a b c old mid new difference intra e v w =
    subst (λ (t : Bool). Writes stands a c old new (block_bits_by t code predictor levels)) (sym intra)
    (Writes-append stands a b c old mid new _ _ (subst (λ (z : ℤ). Writes stands a b old mid (dc_bits code.luma z)) e v) w)
