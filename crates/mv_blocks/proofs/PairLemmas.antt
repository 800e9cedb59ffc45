-- The levels of a block while its runs and levels are read.
use Rattle.std.proofs.Common.{◌≡◌, ℕ, ◌+◌, ◌<◌, ◌≤◌, Bool, cond, eqb, List, [], ◌∷◌, ◌++◌, set, replicate, Some, None, Result, Ok, Err, inl, refl, ap, sym, ◌∙◌, arith, ℤ, pos}
use Rattle.std.proofs.lemmas.Bool.Decides.{nat_tests}
use Rattle.mv_terms.specs.declared.status.Why.{Why}
use Rattle.mv_bits.specs.Runs.{Runs}
use Rattle.mv_bits.proofs.RunLaws.{Runs-push}
use Rattle.mv_blocks.specs.declared.block.BlockCode.{BlockCode}
use Rattle.mv_blocks.specs.declared.block.Pair.{Pair}
use Rattle.mv_terms.specs.Scans.{raster_place}
use Rattle.mv_blocks.specs.Raster.{in_raster}
use Rattle.mv_blocks.specs.Blocks.{At, StepsPair, Next, ReadsPairs, DcLevel, IntraBlock, level_at, intra_level_at}
use Rattle.mv_blocks.proofs.RasterLaws.{instead, in_raster-set, in_raster-same, in_raster-zero, raster_place_zero}

-- the place behind these pairs
abbrev pub behind_pairs : ℕ → List Pair → ℕ
behind_pairs place [] = place
behind_pairs place (p ∷ ps) = behind_pairs (place + p.run + 1) ps

behind_push : (place : ℕ) (ps : List Pair) (p : Pair) → behind_pairs place (ps ++ p ∷ []) ≡ behind_pairs place ps + p.run + 1
behind_push place [] p = refl
behind_push place (q ∷ ps) p = behind_push (place + q.run + 1) ps p

behind_least : (place : ℕ) (ps : List Pair) → place ≤ behind_pairs place ps
behind_least place [] = omega arith
behind_least place (q ∷ ps) = omega (arith, behind_least (place + q.run + 1) ps)

swap_tests : (k a b : ℕ) (x y z : ℤ) → a < b → cond (eqb k a) x (cond (eqb k b) y z) ≡ cond (eqb k b) y (cond (eqb k a) x z)
swap_tests k a b x y z h = grind (arith, nat_tests)

level_at-push : (place : ℕ) (ps : List Pair) (p : Pair) (k : ℕ) → level_at place (ps ++ p ∷ []) k ≡ cond (eqb k (behind_pairs place ps + p.run)) p.level (level_at place ps k)
level_at-push place [] p k = refl
level_at-push place (q ∷ ps) p k =
    let next = place + q.run + 1 in
    let l = behind_least next ps in
    rw (level_at-push next ps p k) (swap_tests k (place + q.run) (behind_pairs next ps + p.run) q.level p.level (level_at next ps k) (omega arith))

abbrev at : ℕ → List Bool → At
at place bits = record { place = place; bits = bits }

-- what has been read up to a place of the scan
pub record IsReadSoFar (code : BlockCode) (start : ℕ) (bits : List Bool) (place : ℕ) (levels : List ℤ) (rest : List Bool) : Type 0 where
  pub pairs : List Pair
  pub inside : place ≤ 64
  pub behind : behind_pairs start pairs ≡ place
  pub run : Runs (StepsPair code) pairs (at start bits) (at place rest)
  pub has : levels ≡ in_raster code.alternate (level_at start pairs)

pub so_far_none : (code : BlockCode) (start : ℕ) (bits : List Bool) → start ≤ 64 → IsReadSoFar code start bits start (replicate 64 (pos 0)) bits
so_far_none code start bits h = record {
  pairs = [];
  inside = h;
  behind = refl;
  run = refl;
  has = sym (in_raster-zero code.alternate);
}

module _ {code : BlockCode} {start : ℕ} {bits : List Bool} {place : ℕ} {levels : List ℤ} {rest : List Bool} (s : IsReadSoFar code start bits place levels rest) where
  push_levels : (p : Pair) → set levels (raster_place code.alternate (place + p.run)) p.level ≡ in_raster code.alternate (level_at start (s.pairs ++ p ∷ []))
  push_levels p =
      let k = place + p.run in
      let here : (j : ℕ) → instead (level_at start s.pairs) k p.level j ≡ level_at start (s.pairs ++ p ∷ []) j =
      λ j. ap (λ (n : ℕ). instead (level_at start s.pairs) (n + p.run) p.level j) (sym s.behind) ∙ sym (level_at-push start s.pairs p j) in
      ap (λ (x : List ℤ). set x (raster_place code.alternate k) p.level) s.has
      ∙ in_raster-set code.alternate (level_at start s.pairs) k p.level
      ∙ in_raster-same code.alternate (instead (level_at start s.pairs) k p.level) (level_at start (s.pairs ++ p ∷ [])) here

  pub so_far_push : (p : Pair) (new : List Bool) → Next code place rest (Ok (Some p, new)) → place + p.run < 64 → IsReadSoFar code start bits (place + p.run + 1) (set levels (raster_place code.alternate (place + p.run)) p.level) new
  so_far_push p new h i =
      let e = s.behind in
      record {
        pairs = s.pairs ++ p ∷ [];
        inside = omega arith;
        behind = rw (behind_push start s.pairs p, e) refl;
        run = Runs-push (StepsPair code) s.pairs p (at start bits) (at place rest) (at (place + p.run + 1) new) s.run (record { is_next = h; next = refl });
        has = push_levels p;
      }

  pub so_far_done : (new : List Bool) → Next code place rest (Ok (None, new)) → ReadsPairs code start bits new levels (Ok tt)
  so_far_done new h = (s.pairs, record { last = at place rest; run = s.run; stopped = h }, s.has)

  pub so_far_refused : (why : Why) (new : List Bool) (all : List ℤ) → Next code place rest (Err why) → ReadsPairs code start bits new all (Err why)
  so_far_refused why new all h = (s.pairs, record { last = at place rest; run = s.run; stopped = h })

-- the DC level in the first place
pub levels_with_dc : (alternate : Bool) (dc : ℤ) (pairs : List Pair) (levels : List ℤ) → levels ≡ in_raster alternate (level_at 1 pairs) → set levels 0 dc ≡ in_raster alternate (intra_level_at dc pairs)
levels_with_dc alternate dc pairs levels e =
    ap (λ (x : List ℤ). set x 0 dc) e
    ∙ ap (λ (n : ℕ). set (in_raster alternate (level_at 1 pairs)) n dc) (sym (raster_place_zero alternate))
    ∙ in_raster-set alternate (level_at 1 pairs) 0 dc

pub intra_done : (code : BlockCode) (predictor : ℤ) (bits : List Bool) (dc : ℤ) (rest new : List Bool) (levels : List ℤ) → DcLevel code predictor bits (Ok (dc, rest)) → ReadsPairs code 1 rest new levels (Ok tt) → IntraBlock code predictor bits (Ok (set levels 0 dc, new))
intra_done code predictor bits dc rest new levels h (pairs, run, has) =
    inl (dc, rest, h, inl (pairs, new, run, ap ok (levels_with_dc code.alternate dc pairs levels has)))
  where
    ok : List ℤ → Result (List ℤ × List Bool) Why
    ok x = Ok (x, new)
