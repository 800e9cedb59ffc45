-- Levels that are in their range, by a test of each.
use Rattle.std.proofs.Common.{◌≡◌, ℕ, ◌+◌, ◌<◌, Bool, true, false, ◌&&◌, ltb, List, [], ◌∷◌, length, refl, sym, ◌∙◌, arith, ℤ, pos, negsuc}
use Rattle.std.specs.Prelude.{All, slice_index_or, unsigned_abs}
use Rattle.std.specs.List.{AllByRecursion, list_all}
use Rattle.std.proofs.lemmas.Bool.Decides.{nat_tests}
use Rattle.std.proofs.lemmas.Int.{ints}
use Rattle.std.proofs.lemmas.List.Elements.{All-from_recursion}
use Rattle.mv_terms.specs.Ranges.{IsLevel}
use Rattle.mv_blocks.specs.declared.block.BlockCode.{BlockCode}
use Rattle.mv_blocks.specs.Written.{IsWritable, has_level}

abbrev pub is_level : ℤ → Bool
is_level level = ltb (unsigned_abs level) 2048

level_tested : (level : ℤ) → is_level level ≡ true → IsLevel level
level_tested (pos n) e = let h : n < 2048 = grind (arith, nat_tests) in (omega (arith, ints), omega (arith, ints))
level_tested (negsuc n) e = let h : n + 1 < 2048 = grind (arith, nat_tests) in (omega (arith, ints), omega (arith, ints))

both : (a b : Bool) → (a && b) ≡ true → (a ≡ true) × (b ≡ true)
both true b e = (refl, e)
both false b e = absurd cc

each_tested : (levels : List ℤ) → list_all is_level levels ≡ true → AllByRecursion IsLevel levels
each_tested [] e = tt
each_tested (level ∷ levels) e = let b = both _ _ e in (level_tested level b.0, each_tested levels b.1)

levels_tested : (levels : List ℤ) → list_all is_level levels ≡ true → All IsLevel levels
levels_tested levels e = All-from_recursion IsLevel levels (each_tested levels e)

-- an intra block whose DC levels have 8 bits, and another block
pub intra_tested : (code : BlockCode) (predictor : ℤ) (levels : List ℤ) (n m : ℕ) → code.intra ≡ true → code.dc_precision ≡ 0 → n < 256 → m < 256 → slice_index_or levels 0 (pos 0) ≡ pos n → predictor ≡ pos m
    → length levels ≡ 64 → list_all is_level levels ≡ true → IsWritable code predictor levels
intra_tested code predictor levels n m intra precision small few first before whole legal = record {
  whole = whole;
  legal = levels_tested levels legal;
  precision = rw precision (omega arith);
  dc = λ e. (rw (precision, first) (omega (arith, ints), omega (arith, ints)), rw (precision, before) (omega (arith, ints), omega (arith, ints)));
  some = λ e. absurd (let x : true ≡ false = sym intra ∙ e in cc);
}

pub other_tested : (code : BlockCode) (predictor : ℤ) (levels : List ℤ) → code.intra ≡ false → code.dc_precision ≡ 0 → length levels ≡ 64 → list_all is_level levels ≡ true → has_level levels ≡ true → IsWritable code predictor levels
other_tested code predictor levels other precision whole legal some = record {
  whole = whole;
  legal = levels_tested levels legal;
  precision = rw precision (omega arith);
  dc = λ e. absurd (let x : false ≡ true = sym other ∙ e in cc);
  some = λ e. some;
}
