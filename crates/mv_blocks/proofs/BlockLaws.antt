-- The bits of a block have one outcome, and no other.
use Rattle.std.proofs.Common.{◌≡◌, ℕ, ◌+◌, Bool, true, false, List, Option, None, Some, Result, Ok, Err, ap, sym, ◌∙◌, ℤ, not, ◌&&◌, eqb, ◌+ℤ◌}
use Rattle.mv_terms.specs.declared.status.Why.{Why}
use Rattle.mv_terms.specs.declared.status.Why.TheVariants.{BadCode, BadBlock}
use Rattle.mv_bits.specs.Readings.{Field, Demands, HasOne}
use Rattle.mv_bits.proofs.RunLaws.{one_ending}
use Rattle.mv_bits.proofs.ReadingLaws.{one_after, one_given, one_field, one_demand, ok_same, err_same, ok_not_err}
use Rattle.mv_codes.specs.declared.coefficient.Coef.{Coef}
use Rattle.mv_codes.specs.declared.coefficient.Coef.TheVariants as coef
use Rattle.mv_codes.specs.Tables.{CodeOf}
use Rattle.mv_codes.specs.Sizes.{dc_size_codes}
use Rattle.mv_codes.proofs.TableLaws.{one_code}
use Rattle.mv_codes.proofs.TableFacts.{coefs_apart, dc_sizes_apart}
use Rattle.mv_blocks.specs.declared.block.BlockCode.{BlockCode}
use Rattle.mv_blocks.specs.declared.block.Pair.{Pair}
use Rattle.mv_blocks.specs.Raster.{in_raster}
use Rattle.mv_terms.specs.Ranges.{IsDcLevel}
use Rattle.mv_blocks.specs.Blocks.{At, StepsPair, StopsBlock, EndsBlock, Next, Coefficient, Escaped, Behind, IsInside, IsForbidden, signed_12, pair, codes_at, DcLevel, dct_diff, Pairs, IntraBlock, NonIntraBlock, BlockBy, Block, level_at, intra_level_at}

one_escaped : HasOne Escaped
one_escaped =
    one_after (Field 6) _ (one_field 6) λ run.
    one_after (Field 12) _ (one_field 12) λ number.
    one_after (Demands (IsForbidden (signed_12 number) → ⊥) BadBlock) _ (one_demand (IsForbidden (signed_12 number) → ⊥) BadBlock) λ allowed.
    one_given (Some (pair run (signed_12 number)))

one_behind : (first : Coef) → HasOne (Behind first)
one_behind coef.End = one_given None
one_behind coef.Escape = one_escaped
one_behind (coef.Pair run level) = one_given (Some (pair run level))

module _ (code : BlockCode) where
  one_coefficient : (place : ℕ) → HasOne (Coefficient code place)
  one_coefficient place = one_after (CodeOf (codes_at code place) BadCode) Behind (one_code (codes_at code place) BadCode (coefs_apart (code.intra && code.table_15) (not code.intra && eqb place 0))) one_behind

  pub one_next : (place : ℕ) → HasOne (Next code place)
  one_next place =
      one_after (Coefficient code place) _ (one_coefficient place) λ found.
      one_after (Demands (IsInside place found) BadBlock) _ (one_demand (IsInside place found) BadBlock) λ inside.
      one_given found

  same_at : (s t : At) → s.place ≡ t.place → s.bits ≡ t.bits → s ≡ t
  same_at s t a b = let f : ℕ → List Bool → At = λ n z. record { place = n; bits = z } in ap (λ (n : ℕ). f n s.bits) a ∙ ap (λ (z : List Bool). f t.place z) b

  same_pair : (p q : Pair) → ◌≡◌ {A = Option Pair} (Some p) (Some q) → p ≡ q
  same_pair p q e = cc

  pair_not_end : (p : Pair) → ◌≡◌ {A = Option Pair} (Some p) None → ⊥
  pair_not_end p e = cc

  step_once : (s : At) (p q : Pair) (u v : At) → StepsPair code s p u → StepsPair code s q v → (p ≡ q) × (u ≡ v)
  step_once s p q u v a b =
      let e = ok_same _ _ (one_next s.place s.bits (Ok (Some p, u.bits)) (Ok (Some q, v.bits)) a.is_next b.is_next) in
      let same : p ≡ q = same_pair p q (ap (λ (x : Option Pair × List Bool). x.0) e) in
      let rest : u.bits ≡ v.bits = ap (λ (x : Option Pair × List Bool). x.1) e in
      (same, same_at u v (a.next ∙ ap (λ (x : Pair). s.place + x.run + 1) same ∙ sym b.next) rest)

  stop_once : (s : At) (o p : Result (List Bool) Why) → StopsBlock code s o → StopsBlock code s p → o ≡ p
  stop_once s (Ok r) (Ok t) a b =
      let e = ok_same _ _ (one_next s.place s.bits (Ok (None, r)) (Ok (None, t)) a b) in
      let ok : List Bool → Result (List Bool) Why = λ z. Ok z in
      ap (λ (x : Option Pair × List Bool). ok x.1) e
  stop_once s (Ok r) (Err w) a b = absurd (ok_not_err _ _ (one_next s.place s.bits (Ok (None, r)) (Err w) a b))
  stop_once s (Err v) (Ok t) a b = absurd (ok_not_err _ _ (one_next s.place s.bits (Ok (None, t)) (Err v) b a))
  stop_once s (Err v) (Err w) a b =
      let fail : Why → Result (List Bool) Why = λ u. Err u in
      ap fail (err_same _ _ (one_next s.place s.bits (Err v) (Err w) a b))

  either : (s : At) (p : Pair) (u : At) (o : Result (List Bool) Why) → StepsPair code s p u → StopsBlock code s o → ⊥
  either s p u (Ok r) a b =
      let e = ok_same _ _ (one_next s.place s.bits (Ok (Some p, u.bits)) (Ok (None, r)) a.is_next b) in
      pair_not_end p (ap (λ (x : Option Pair × List Bool). x.0) e)
  either s p u (Err w) a b = ok_not_err _ _ (one_next s.place s.bits (Ok (Some p, u.bits)) (Err w) a.is_next b)

  one_run : (start : ℕ) (bits : List Bool) (ps qs : List Pair) (o p : Result (List Bool) Why) → EndsBlock code start bits ps o → EndsBlock code start bits qs p → (ps ≡ qs) × (o ≡ p)
  one_run start bits ps qs o p a b = one_ending (StepsPair code) (StopsBlock code) step_once stop_once either (record { place = start; bits = bits }) ps qs o p a b

  pub one_pairs : (start : ℕ) → HasOne (Pairs code start)
  one_pairs start bits (Ok x) (Ok y) a b =
      let e = one_run start bits x.0 y.0 (Ok x.1) (Ok y.1) a b in
      let ok : List Pair → List Bool → Result (List Pair × List Bool) Why = λ v r. Ok (v, r) in
      ap (λ (v : List Pair). ok v x.1) e.0 ∙ ap (λ (r : List Bool). ok y.0 r) (ok_same _ _ e.1)
  one_pairs start bits (Ok x) (Err w) a b = absurd (ok_not_err _ _ (one_run start bits x.0 b.0 (Ok x.1) (Err w) a b.1).1)
  one_pairs start bits (Err v) (Ok y) a b = absurd (ok_not_err _ _ (one_run start bits y.0 a.0 (Ok y.1) (Err v) b a.1).1)
  one_pairs start bits (Err v) (Err w) a b =
      let fail : Why → Result (List Pair × List Bool) Why = λ u. Err u in
      ap fail (err_same _ _ (one_run start bits a.0 b.0 (Err v) (Err w) a.1 b.1).1)

  one_dc_level : (predictor : ℤ) → HasOne (DcLevel code predictor)
  one_dc_level predictor =
      one_after (CodeOf (dc_size_codes code.luma) BadCode) _ (one_code (dc_size_codes code.luma) BadCode (dc_sizes_apart code.luma)) λ size.
      one_after (Field size) _ (one_field size) λ differential.
      one_after (Demands (IsDcLevel code.dc_precision (predictor +ℤ dct_diff size differential)) BadBlock) _ (one_demand (IsDcLevel code.dc_precision (predictor +ℤ dct_diff size differential)) BadBlock) λ inside.
      one_given (predictor +ℤ dct_diff size differential)

  one_intra : (predictor : ℤ) → HasOne (IntraBlock code predictor)
  one_intra predictor =
      one_after (DcLevel code predictor) _ (one_dc_level predictor) λ dc.
      one_after (Pairs code 1) _ (one_pairs 1) λ pairs.
      one_given (in_raster code.alternate (intra_level_at dc pairs))

  one_non_intra : HasOne (NonIntraBlock code)
  one_non_intra = one_after (Pairs code 0) _ (one_pairs 0) λ pairs. one_given (in_raster code.alternate (level_at 0 pairs))

  one_by : (intra : Bool) (predictor : ℤ) → HasOne (BlockBy intra code predictor)
  one_by true predictor = one_intra predictor
  one_by false predictor = one_non_intra

  -- a block has at most one list of levels or one first refusal
  pub one_block : (predictor : ℤ) → HasOne (Block code predictor)
  one_block predictor = one_by code.intra predictor
