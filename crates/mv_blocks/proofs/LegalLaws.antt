-- Levels that are read lie in -2047 to 2047: an escape may have no others, codes have 40 at most, and a DC level fits 11
-- bits.
use Rattle.std.proofs.Common.{◌≡◌, ℕ, zero, suc, ◌+◌, ◌^◌, ◌<◌, ◌≤◌, Bool, true, false, ◌&&◌, not, cond, eqb, ltb, leb, List, [], ◌∷◌, map, refl, ap, sym, subst, arith, inl, inr, ℤ, pos, negsuc, ◌+ℤ◌, ◌-ℤ◌, Option, Some, None, Result, Ok, Err}
use Rattle.std.specs.Prelude.{All}
use Rattle.std.specs.List.{AllByRecursion}
use Rattle.std.proofs.lemmas.Bool.Decides.{nat_tests}
use Rattle.std.proofs.Math.Pow.{pow_mono}
use Rattle.std.proofs.lemmas.Int.{ints}
use Rattle.std.proofs.lemmas.List.Elements.{All-from_recursion}
use Rattle.mv_terms.specs.declared.status.Why.{Why}
use Rattle.mv_terms.specs.Ranges.{IsLevel, IsDcLevel}
use Rattle.mv_bits.specs.Runs.{Runs}
use Rattle.mv_bits.proofs.BitLaws.{front_lt}
use Rattle.mv_bits.proofs.ReadingLaws.{ok_same}
use Rattle.mv_codes.specs.declared.coefficient.Coef.{Coef}
use Rattle.mv_codes.specs.declared.coefficient.Coef.TheVariants as coef
use Rattle.mv_codes.specs.Coefficients.{is_coef, is_level}
use Rattle.mv_codes.proofs.TableFacts.{coefs_right}
use Rattle.mv_codes.proofs.TableLaws.{Spells-test}
use Rattle.mv_blocks.specs.declared.block.BlockCode.{BlockCode}
use Rattle.mv_blocks.specs.declared.block.Pair.{Pair}
use Rattle.mv_terms.specs.Scans.{scan}
use Rattle.mv_blocks.specs.Raster.{in_raster}
use Rattle.mv_blocks.specs.Blocks.{At, StepsPair, Next, Coefficient, Escaped, Behind, IsForbidden, signed_12, pair, codes_at, DcLevel, dct_diff, BlockBy, level_at, intra_level_at}
use Rattle.mv_codes.proofs.SpelledLaws.{and_true}
use Rattle.mv_blocks.specs.Written.{IsCoded}

one_pair : (p q : Pair) (x y : List Bool) → ◌≡◌ {A = Result (Option Pair × List Bool) Why} (Ok (Some p, x)) (Ok (Some q, y)) → p ≡ q
one_pair p q x y e = let f : Some p ≡ Some q = ap (λ (z : Option Pair × List Bool). z.0) (ok_same _ _ e) in cc

pair_or_end : (p : Pair) (x y : List Bool) → ◌≡◌ {A = Result (Option Pair × List Bool) Why} (Ok (Some p, x)) (Ok (None, y)) → ⊥
pair_or_end p x y e = let f : Some p ≡ None = ap (λ (z : Option Pair × List Bool). z.0) (ok_same _ _ e) in cc

not_err : {A : Type 0} (x : A) (w : Why) → ◌≡◌ {A = Result A Why} (Ok x) (Err w) → ⊥
not_err x w e = cc

number_coded : (n : ℕ) → n < 4096 → (IsForbidden (signed_12 n) → ⊥) → IsCoded (signed_12 n)
number_coded n h allowed = go (ltb n 2048) refl allowed
  where
    positive : (n : ℕ) → n < 2048 → (IsForbidden (pos n) → ⊥) → IsCoded (pos n)
    positive zero h not_allowed = absurd (not_allowed (inl refl))
    positive (suc n) h not_allowed = (omega arith, omega arith)

    negative : (z : ℤ) → z ≡ pos n -ℤ pos 4096 → 2048 ≤ n → (IsForbidden z → ⊥) → IsCoded z
    negative (pos m) e l not_allowed = absurd (omega (arith, ints))
    negative (negsuc m) e l not_allowed = by_number (eqb m 2047) refl
      where
        by_number : (t : Bool) → eqb m 2047 ≡ t → m ≤ 2046
        by_number true f = let same : m ≡ 2047 = grind (arith, nat_tests) in absurd (not_allowed (inr (ap negsuc same)))
        by_number false f = let other : m ≡ 2047 → ⊥ = λ s. grind (arith, nat_tests) in omega (arith, ints)

    go : (t : Bool) → ltb n 2048 ≡ t → (IsForbidden (cond t (pos n) (pos n -ℤ pos 4096)) → ⊥) → IsCoded (cond t (pos n) (pos n -ℤ pos 4096))
    go true e not_allowed = let small : n < 2048 = grind (arith, nat_tests) in positive n small not_allowed
    go false e not_allowed = let large : 2048 ≤ n = grind (arith, nat_tests) in negative (pos n -ℤ pos 4096) refl large not_allowed

escaped_coded : (p : Pair) (bits rest : List Bool) → Escaped bits (Ok (Some p, rest)) → IsCoded p.level
escaped_coded p bits rest (inl (run, r1, f1, inl (number, r2, f2, inl (u, r3, d, e)))) =
    let same = one_pair p (pair run (signed_12 number)) rest r3 e in
    let fits : number < 2 ^ 12 = rw f2.0 (front_lt 12 r1) in
    subst (λ (q : Pair). IsCoded q.level) (sym same) (number_coded number fits d.0)
escaped_coded p bits rest (inl (run, r1, f1, inl (number, r2, f2, inr (why, d, e)))) = absurd (not_err _ why e)
escaped_coded p bits rest (inl (run, r1, f1, inr (why, d, e))) = absurd (not_err _ why e)
escaped_coded p bits rest (inr (why, d, e)) = absurd (not_err _ why e)

level_coded : (level : ℤ) → is_level level ≡ true → IsCoded level
level_coded (pos n) e = let both = and_true (ltb 0 n) (leb n 40) e in let a = some n both.0 in let b = most n both.1 in (a, omega arith)
  where
    some : (n : ℕ) → ltb 0 n ≡ true → 0 < n
    some n e = grind (arith, nat_tests)

    most : (n : ℕ) → leb n 40 ≡ true → n ≤ 40
    most n e = grind (arith, nat_tests)
level_coded (negsuc n) e = let b : n < 40 = grind (arith, nat_tests) in omega arith

behind_coded : (element : Coef) → is_coef element ≡ true → (p : Pair) (bits rest : List Bool) → Behind element bits (Ok (Some p, rest)) → IsCoded p.level
behind_coded coef.End right p bits rest e = absurd (pair_or_end p rest bits e)
behind_coded coef.Escape right p bits rest h = escaped_coded p bits rest h
behind_coded (coef.Pair run level) right p bits rest e = subst (λ (q : Pair). IsCoded q.level) (sym (one_pair p (pair run level) rest bits e)) (level_coded level (and_true _ _ right).1)

module _ (code : BlockCode) where
  coefficient_coded : (place : ℕ) (p : Pair) (bits rest : List Bool) → Coefficient code place bits (Ok (Some p, rest)) → IsCoded p.level
  coefficient_coded place p bits rest (inl (element, r, s, h)) = behind_coded element (Spells-test (codes_at code place) is_coef (coefs_right (code.intra && code.table_15) (not code.intra && eqb place 0)) bits element r s) p r rest h
  coefficient_coded place p bits rest (inr (why, d, e)) = absurd (not_err _ why e)

  next_coded : (place : ℕ) (p : Pair) (bits rest : List Bool) → Next code place bits (Ok (Some p, rest)) → IsCoded p.level
  next_coded place p bits rest (inl (found, r1, c, inl (u, r2, d, e))) =
      let same : found ≡ Some p = sym (ap (λ (z : Option Pair × List Bool). z.0) (ok_same _ _ e)) in
      coefficient_coded place p bits r1 (subst (λ (o : Option Pair). Coefficient code place bits (Ok (o, r1))) same c)
  next_coded place p bits rest (inl (found, r1, c, inr (why, d, e))) = absurd (not_err _ why e)
  next_coded place p bits rest (inr (why, d, e)) = absurd (not_err _ why e)

  pairs_coded : (ps : List Pair) (s t : At) → Runs (StepsPair code) ps s t → AllByRecursion (λ (p : Pair). IsCoded p.level) ps
  pairs_coded [] s t r = tt
  pairs_coded (p ∷ ps) s t (u, step, later) = (next_coded s.place p s.bits u.bits step.is_next, pairs_coded ps u t later)

coded_level : (level : ℤ) → IsCoded level → IsLevel level
coded_level (pos n) h = let m = h.1 in (omega (arith, ints), omega (arith, ints))
coded_level (negsuc n) h = (omega (arith, ints), omega (arith, ints))

zero_level : IsLevel (pos 0)
zero_level = (omega (arith, ints), omega (arith, ints))

level_legal : (place : ℕ) (ps : List Pair) (k : ℕ) → AllByRecursion (λ (p : Pair). IsCoded p.level) ps → IsLevel (level_at place ps k)
level_legal place [] k h = zero_level
level_legal place (p ∷ ps) k h = go (eqb k (place + p.run)) (level_legal (place + p.run + 1) ps k h.1)
  where
    go : (t : Bool) → IsLevel (level_at (place + p.run + 1) ps k) → IsLevel (cond t p.level (level_at (place + p.run + 1) ps k))
    go true later = coded_level p.level h.0
    go false later = later

all_mapped : (ks : List ℕ) (f : ℕ → ℤ) → ((k : ℕ) → IsLevel (f k)) → AllByRecursion IsLevel (map f ks)
all_mapped [] f h = tt
all_mapped (k ∷ ks) f h = (h k, all_mapped ks f h)

raster_legal : (alternate : Bool) (f : ℕ → ℤ) → ((k : ℕ) → IsLevel (f k)) → All IsLevel (in_raster alternate f)
raster_legal alternate f h = All-from_recursion IsLevel (in_raster alternate f) (all_mapped (scan alternate) f h)

dc_legal : (precision : ℕ) (dc : ℤ) → precision ≤ 3 → IsDcLevel precision dc → IsLevel dc
dc_legal precision dc small h =
    let low = h.0 in
    let high = h.1 in
    let top : 2 ^ (8 + precision) ≤ 2 ^ 11 = pow_mono {i = 8 + precision} {j = 11} (omega arith) in
    (omega (arith, ints), omega (arith, ints))

one_list : (a b : List ℤ) (x y : List Bool) → ◌≡◌ {A = Result (List ℤ × List Bool) Why} (Ok (a, x)) (Ok (b, y)) → a ≡ b
one_list a b x y e = ap (λ (z : List ℤ × List Bool). z.0) (ok_same _ _ e)

dc_right : (code : BlockCode) (predictor dc : ℤ) (bits rest : List Bool) → DcLevel code predictor bits (Ok (dc, rest)) → IsDcLevel code.dc_precision dc
dc_right code predictor dc bits rest (inl (size, r1, s, inl (n, r2, f, inl (u, r3, d, e)))) =
    let same : dc ≡ predictor +ℤ dct_diff size n = ap (λ (z : ℤ × List Bool). z.0) (ok_same _ _ e) in subst (IsDcLevel code.dc_precision) (sym same) d.0
dc_right code predictor dc bits rest (inl (size, r1, s, inl (n, r2, f, inr (why, d, e)))) = absurd (not_err _ why e)
dc_right code predictor dc bits rest (inl (size, r1, s, inr (why, d, e))) = absurd (not_err _ why e)
dc_right code predictor dc bits rest (inr (why, d, e)) = absurd (not_err _ why e)

pub read_legal : (intra : Bool) (code : BlockCode) (predictor : ℤ) (bits rest : List Bool) (levels : List ℤ) → code.dc_precision ≤ 3 → BlockBy intra code predictor bits (Ok (levels, rest)) → All IsLevel levels
read_legal true code predictor bits rest levels small (inl (dc, r1, d, inl (ps, r2, run, e))) =
    let coded = pairs_coded code ps _ _ run.run in
    let same = one_list levels (in_raster code.alternate (intra_level_at dc ps)) rest r2 e in
    let each : (k : ℕ) → IsLevel (intra_level_at dc ps k) = λ k. with_dc k (dc_legal code.dc_precision dc small (dc_right code predictor dc bits r1 d)) (level_legal 1 ps k coded) in
    subst (All IsLevel) (sym same) (raster_legal code.alternate (intra_level_at dc ps) each)
  where
    with_dc : (k : ℕ) → IsLevel dc → IsLevel (level_at 1 ps k) → IsLevel (cond (eqb k 0) dc (level_at 1 ps k))
    with_dc k a b = go (eqb k 0)
      where
        go : (t : Bool) → IsLevel (cond t dc (level_at 1 ps k))
        go true = a
        go false = b
read_legal true code predictor bits rest levels small (inl (dc, r1, d, inr (why, f, e))) = absurd (not_err _ why e)
read_legal true code predictor bits rest levels small (inr (why, f, e)) = absurd (not_err _ why e)
read_legal false code predictor bits rest levels small (inl (ps, r1, run, e)) =
    let coded = pairs_coded code ps _ _ run.run in
    let same = one_list levels (in_raster code.alternate (level_at 0 ps)) rest r1 e in
    subst (All IsLevel) (sym same) (raster_legal code.alternate (level_at 0 ps) (λ k. level_legal 0 ps k coded))
read_legal false code predictor bits rest levels small (inr (why, f, e)) = absurd (not_err _ why e)
