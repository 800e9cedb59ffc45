-- The canonical bits of a block have no 23 zeros in a row, and are short.
use Rattle.std.proofs.Common.{◌≡◌, ℕ, ◌+◌, ◌-◌, ◌*◌, ◌^◌, ◌<◌, ◌≤◌, Bool, true, false, not, ◌&&◌, eqb, List, [], ◌∷◌, ◌++◌, refl, ap, sym, subst, arith, ℤ, pos, negsuc, ◌-ℤ◌}
use Rattle.std.specs.Prelude.{unsigned_abs, slice_index_or}
use Rattle.mv_bits.specs.Bits.{digits}
use Rattle.mv_bits.specs.ZeroRuns.{IsBounded}
use Rattle.mv_bits.proofs.ZeroRunLaws.{bounded_wider, bounded_append, bounded_digits, bounded_number}
use Rattle.mv_codes.specs.declared.coefficient.Coef.TheVariants as coef
use Rattle.mv_codes.specs.Coefficients.{coef_codes}
use Rattle.mv_codes.specs.Spelled.{code_of, has_code, same_coef, same_number, twos_12, escape_bits}
use Rattle.mv_codes.specs.Sizes.{dc_size_codes}
use Rattle.mv_codes.proofs.SpelledLaws.{each_below}
use Rattle.mv_codes.proofs.RunFacts.{bounded_code_or, coefs_bounded_11, escape_is, end_bounded}
use Rattle.mv_codes.proofs.BoundedLaws.{dc_size_bounded}
use Rattle.mv_blocks.specs.declared.block.BlockCode.{BlockCode}
use Rattle.mv_blocks.specs.declared.block.Pair.{Pair}
use Rattle.mv_blocks.specs.Blocks.{codes_at, pairs_of}
use Rattle.mv_blocks.specs.Written.{dc_size, dc_bits, differential, pair_bits, pairs_bits, block_bits_by, has_level, IsCoded, Fit, BlockIsBounded}
use Rattle.mv_blocks.proofs.DcBack.{size_bound, each_size_coded}
use Rattle.mv_blocks.proofs.PairsBack.{not_first}
use Rattle.mv_blocks.proofs.FitLaws.{intra_fit, non_intra_fit}

-- a level of an escape isn't zero, and fits 12 bits
twos_some : (level : ℤ) → IsCoded level → (0 < twos_12 level) × (twos_12 level < 2 ^ 12)
twos_some (pos n) inside = (inside.0, omega arith)
twos_some (negsuc n) inside = (omega arith, omega arith)

escape_bounded : (p : Pair) → IsCoded p.level → IsBounded 11 (digits 6 1 ++ (digits 6 p.run ++ digits 12 (twos_12 p.level))) 11 24
escape_bounded p coded =
    let t = twos_some p.level coded in
    bounded_append 11 5 11 6 18 (digits 6 1) _ (bounded_number 11 5 1 (omega arith) (omega arith) (omega arith))
    (bounded_append 5 11 11 6 12 (digits 6 p.run) (digits 12 (twos_12 p.level)) (bounded_digits 5 11 6 p.run (omega arith) (omega arith)) (bounded_number 11 11 (twos_12 p.level) t.0 t.1 (omega arith)))

module _ (code : BlockCode) where
  pair_bounded : (place : ℕ) (p : Pair) → IsCoded p.level → IsBounded 11 (pair_bits (codes_at code place) p) 11 24
  pair_bounded place p coded =
      let table_15 = code.intra && code.table_15 in
      let first = not code.intra && eqb place 0 in
      let escape = ap (λ (z : List Bool). z ++ (digits 6 p.run ++ digits 12 (twos_12 p.level))) (escape_is table_15 first) in
      bounded_code_or 11 11 24 (escape_bits (codes_at code place) p.run p.level) (same_coef (coef.Pair p.run p.level)) (codes_at code place) (coefs_bounded_11 table_15 first)
      (subst (λ (z : List Bool). IsBounded 11 z 11 24) (sym escape) (escape_bounded p coded))

  block_end_bounded : (place : ℕ) → 0 < place → IsBounded 11 (pairs_bits code place []) 1 4
  block_end_bounded place behind =
      let table_15 = code.intra && code.table_15 in
      subst (λ (first : Bool). IsBounded 11 (code_of (same_coef coef.End) (coef_codes table_15 first)) 1 4) (sym (not_first code.intra place behind)) (end_bounded table_15)

  -- runs and levels from a place on, behind at most 11 zeros
  pub pairs_bounded : (place : ℕ) (ps : List Pair) → place ≤ 64 → Fit place ps → IsBounded 11 (pairs_bits code place ps) 1 (24 * (64 - place) + 4)
  pairs_bounded place [] small fit = bounded_wider 11 11 1 1 4 (24 * (64 - place) + 4) (pairs_bits code place []) (omega arith) (omega arith) (omega arith) (block_end_bounded place fit)
  pairs_bounded place (p ∷ ps) small fit =
      let inside = fit.0 in
      let later = pairs_bounded (place + p.run + 1) ps (omega arith) fit.2 in
      bounded_wider 11 11 1 1 (24 + (24 * (64 - (place + p.run + 1)) + 4)) (24 * (64 - place) + 4) _ (omega arith) (omega arith) (omega arith)
      (bounded_append 11 11 1 24 (24 * (64 - (place + p.run + 1)) + 4) (pair_bits (codes_at code place) p) (pairs_bits code (place + p.run + 1) ps) (pair_bounded place p fit.1) later)

-- a DC difference: its size and as many bits
dc_bounded : (luma : Bool) (difference : ℤ) → IsBounded 4 (dc_bits luma difference) 11 21
dc_bounded luma difference =
    let size = dc_size difference in
    let most = size_bound 11 (unsigned_abs difference) in
    let there = each_below (λ n. has_code (same_number n) (dc_size_codes luma)) 12 size (each_size_coded luma) (omega arith) in
    let bits = digits size (differential size difference) in
    bounded_append 4 (11 - size) 11 10 11 _ bits (dc_size_bounded luma size there)
    (bounded_wider (11 - size) (11 - size) 11 11 size 11 bits (omega arith) (omega arith) most (bounded_digits (11 - size) 11 size (differential size difference) (omega arith) (omega arith)))

pub block_bounded : BlockIsBounded
block_bounded code predictor levels w = go code.intra w.some
  where
    go : (t : Bool) → (t ≡ false → has_level levels ≡ true) → IsBounded 4 (block_bits_by t code predictor levels) 1 1540
    go true some =
        let ps = pairs_of levels true code.alternate in
        bounded_wider 4 4 1 1 (21 + (24 * (64 - 1) + 4)) 1540 _ (omega arith) (omega arith) (omega arith)
        (bounded_append 4 11 1 21 (24 * (64 - 1) + 4) _ _ (dc_bounded code.luma (slice_index_or levels 0 (pos 0) -ℤ predictor)) (pairs_bounded code 1 ps (omega arith) (intra_fit code.alternate levels w.legal)))
    go false some =
        let ps = pairs_of levels false code.alternate in
        bounded_wider 11 4 1 1 (24 * (64 - 0) + 4) 1540 _ (omega arith) (omega arith) (omega arith) (pairs_bounded code 0 ps (omega arith) (non_intra_fit code.alternate levels w.whole w.legal (some refl)))
