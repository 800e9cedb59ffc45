-- The runs and levels of a block while they are listed.
use Rattle.std.proofs.Common.{◌≡◌, ℕ, zero, suc, ◌+◌, ◌<◌, ◌≤◌, Bool, List, [], ◌∷◌, ◌++◌, length, get_or, drop, refl, ap, sym, ◌∙◌, arith, ℤ, pos, negsuc, w16, of_z, append_assoc, length-append, append-nil}
use Rattle.std.proofs.lemmas.List.{drop_more, get_or-map}
use Rattle.std.specs.List.{range_with_len}
use Rattle.std.proofs.lemmas.List.FromFn.{get_or-range_with_len}
use Rattle.std.proofs.lemmas.Int.{ints}
use Rattle.std.specs.Int.Signed.{mag}
use Rattle.mv_blocks.specs.declared.block.Pair.{Pair}
use Rattle.mv_terms.specs.Scans.{raster_place}
use Rattle.mv_blocks.specs.Blocks.{pair, pairs_in, pairs_of, in_scan, first_place}

pub pairs_in-zero : (run : ℕ) (v : ℤ) (vs : List ℤ) → v ≡ pos 0 → pairs_in run (v ∷ vs) ≡ pairs_in (run + 1) vs
pairs_in-zero run v vs e = rw e refl

pub pairs_in-level : (run : ℕ) (v : ℤ) (vs : List ℤ) → (v ≡ pos 0 → ⊥) → pairs_in run (v ∷ vs) ≡ pair run v ∷ pairs_in 0 vs
pairs_in-level run (pos zero) vs e = absurd (e refl)
pairs_in-level run (pos (suc n)) vs e = refl
pairs_in-level run (negsuc n) vs e = refl

module _ (levels : List ℤ) (intra alternate : Bool) where
  abbrev pub level : ℕ → ℤ
  level k = get_or levels (raster_place alternate k) (pos 0)

  scan_long : length (in_scan alternate levels) ≡ 64
  unfolding in_scan
  scan_long = refl

  pub scan_at : (k : ℕ) → k < 64 → get_or (in_scan alternate levels) k (pos 0) ≡ level k
  unfolding in_scan
  scan_at k h = get_or-map level (range_with_len 0 64) k 0 (pos 0) h ∙ ap level (get_or-range_with_len 0 64 k 0 h ∙ none_added k)
    where
      none_added : (n : ℕ) → 0 + n ≡ n
      none_added n = omega arith

  pub scan_rest : (k : ℕ) → k < 64 → drop k (in_scan alternate levels) ≡ level k ∷ drop (k + 1) (in_scan alternate levels)
  scan_rest k h = drop_more (in_scan alternate levels) k (pos 0) (rw scan_long h) ∙ ap (λ (z : ℤ). z ∷ drop (k + 1) (in_scan alternate levels)) (scan_at k h)

  -- so many places have been listed
  pub record IsListed (k run : ℕ) (items : List Pair) : Type 0 where
    pub zeros : run ≤ k
    pub few : length items ≤ k
    pub same : items ++ pairs_in run (drop k (in_scan alternate levels)) ≡ pairs_of levels intra alternate

  pub listed_none : (k : ℕ) → k ≡ first_place intra → IsListed k 0 []
  listed_none k e = record { zeros = omega arith; few = omega arith; same = ap (λ (n : ℕ). pairs_in 0 (drop n (in_scan alternate levels))) e }

  module _ {k run : ℕ} {items : List Pair} (s : IsListed k run items) (h : k < 64) where
    pub listed_zero : level k ≡ pos 0 → IsListed (k + 1) (run + 1) items
    listed_zero e =
        let z = s.zeros in let f = s.few in
        let step : pairs_in run (drop k (in_scan alternate levels)) ≡ pairs_in (run + 1) (drop (k + 1) (in_scan alternate levels)) =
        ap (pairs_in run) (scan_rest k h) ∙ pairs_in-zero run (level k) (drop (k + 1) (in_scan alternate levels)) e in
        record { zeros = omega arith; few = omega arith; same = ap (λ (x : List Pair). items ++ x) (sym step) ∙ s.same }

    pub listed_level : (level k ≡ pos 0 → ⊥) → IsListed (k + 1) 0 (items ++ pair run (level k) ∷ [])
    listed_level e =
        let f = s.few in
        let rest : List Pair = pairs_in 0 (drop (k + 1) (in_scan alternate levels)) in
        let step : pairs_in run (drop k (in_scan alternate levels)) ≡ pair run (level k) ∷ rest =
        ap (pairs_in run) (scan_rest k h) ∙ pairs_in-level run (level k) (drop (k + 1) (in_scan alternate levels)) e in
        record {
          zeros = omega arith;
          few = rw (length-append items (pair run (level k) ∷ [])) (omega (arith, f));
          same = append_assoc items (pair run (level k) ∷ []) rest ∙ ap (λ (x : List Pair). items ++ x) (sym step) ∙ s.same;
        }

  pub scan_end : drop 64 (in_scan alternate levels) ≡ []
  unfolding in_scan
  scan_end = refl

  pub listed_all : {k run : ℕ} {items : List Pair} → IsListed k run items → k ≡ 64 → items ≡ pairs_of levels intra alternate
  listed_all {k} {run} {items} s e =
      sym (append-nil items)
      ∙ ap (λ (x : List ℤ). items ++ pairs_in run x) (sym scan_end)
      ∙ ap (λ (n : ℕ). items ++ pairs_in run (drop n (in_scan alternate levels))) (sym e)
      ∙ s.same

pub level_is_zero : (v : ℤ) → mag v < 32768 → of_z w16 v ≡ 0 → v ≡ pos 0
level_is_zero v h e = omega (arith, ints)

pub zero_level : (v : ℤ) → v ≡ pos 0 → of_z w16 v ≡ 0
zero_level v e = rw e refl
