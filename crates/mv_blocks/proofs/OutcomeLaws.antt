-- Each list of bits has one outcome as a block: its levels, or its first refusal.
use Rattle.std.proofs.Common.{◌≡◌, ℕ, zero, suc, ◌+◌, ◌<◌, ◌≤◌, Bool, true, false, List, [], ◌∷◌, Option, None, Some, Result, Ok, Err, refl, ap, sym, subst, arith, inl, inr, ◌⊎◌, ℤ, pos, negsuc, ◌+ℤ◌, ◌≤ℤ◌, ◌<ℤ◌, ◌^◌}
use Rattle.std.proofs.lemmas.Int.{ints}
use Rattle.mv_terms.specs.declared.status.Why.{Why}
use Rattle.mv_terms.specs.declared.status.Why.TheVariants.{BadCode, BadBlock}
use Rattle.mv_bits.specs.Readings.{Field, Demands, HasSome}
use Rattle.mv_bits.proofs.Decisions.{Decided, equal_or_not, below_or_not}
use Rattle.mv_bits.proofs.RunLaws.{Ends-cons, Ends-none}
use Rattle.mv_bits.proofs.ReadingLaws.{ok_same, ok_not_err, some_after, some_given, some_field, some_demand}
use Rattle.mv_codes.specs.declared.coefficient.Coef.{Coef}
use Rattle.mv_codes.specs.declared.coefficient.Coef.TheVariants as coef
use Rattle.mv_codes.specs.Tables.{CodeOf}
use Rattle.mv_codes.specs.Sizes.{dc_size_codes}
use Rattle.mv_codes.proofs.TableLaws.{some_code}
use Rattle.mv_blocks.specs.declared.block.BlockCode.{BlockCode}
use Rattle.mv_blocks.specs.declared.block.Pair.{Pair}
use Rattle.mv_blocks.specs.Raster.{in_raster}
use Rattle.mv_terms.specs.Ranges.{IsDcLevel}
use Rattle.mv_blocks.specs.Blocks.{At, StepsPair, StopsBlock, EndsBlock, Next, Coefficient, Escaped, Behind, IsInside, IsForbidden, signed_12, pair, codes_at, DcLevel, dct_diff, Pairs, BlockBy, Block, level_at, intra_level_at}
use Rattle.mv_blocks.proofs.BlockLaws.{one_block}

some_allowed : (n : ℕ) → IsForbidden (pos (suc n)) → ⊥
some_allowed n (inl e) = omega (arith, ints)
some_allowed n (inr e) = omega (arith, ints)

negative_allowed : (n : ℕ) → (n ≡ 2047 → ⊥) → IsForbidden (negsuc n) → ⊥
negative_allowed n other (inl e) = omega (arith, ints)
negative_allowed n other (inr e) = other (omega (arith, ints))

negative_or_not : (n : ℕ) → Decided (n ≡ 2047) → Decided (IsForbidden (negsuc n) → ⊥)
negative_or_not n (inl e) = inr (λ allowed. allowed (inr (ap negsuc e)))
negative_or_not n (inr e) = inl (negative_allowed n e)

allowed_or_not : (level : ℤ) → (IsForbidden level → ⊥) ⊎ ((IsForbidden level → ⊥) → ⊥)
allowed_or_not (pos zero) = inr (λ allowed. allowed (inl refl))
allowed_or_not (pos (suc n)) = inl (some_allowed n)
allowed_or_not (negsuc n) = negative_or_not n (equal_or_not n 2047)

within_or_not : (level : ℤ) (bound : ℕ) → ((pos 0 ≤ℤ level) × (level <ℤ pos bound)) ⊎ ((pos 0 ≤ℤ level) × (level <ℤ pos bound) → ⊥)
within_or_not (pos n) bound = go n bound (below_or_not n bound)
  where
    go : (n bound : ℕ) → (n < bound) ⊎ (n < bound → ⊥) → ((pos 0 ≤ℤ pos n) × (pos n <ℤ pos bound)) ⊎ ((pos 0 ≤ℤ pos n) × (pos n <ℤ pos bound) → ⊥)
    go n bound (inl h) = inl (omega (arith, ints), omega (arith, ints))
    go n bound (inr past) = inr (λ h. past (omega (arith, ints, h.1)))
within_or_not (negsuc n) bound = inr (λ h. omega (arith, ints, h.0))

dc_or_not : (precision : ℕ) (level : ℤ) → IsDcLevel precision level ⊎ (IsDcLevel precision level → ⊥)
dc_or_not precision level = within_or_not level (2 ^ (8 + precision))

inside_or_not : (place : ℕ) (found : Option Pair) → IsInside place found ⊎ (IsInside place found → ⊥)
inside_or_not place None = inl tt
inside_or_not place (Some p) = below_or_not (place + p.run) 64

some_escaped : HasSome Escaped
some_escaped =
    some_after (Field 6) _ (λ run.
    some_after (Field 12) _ (λ number.
    some_after (Demands (IsForbidden (signed_12 number) → ⊥) BadBlock) _ (λ allowed.
    some_given (Some (pair run (signed_12 number))))
    (some_demand (IsForbidden (signed_12 number) → ⊥) BadBlock (allowed_or_not (signed_12 number))))
    (some_field 12))
    (some_field 6)

some_behind : (first : Coef) → HasSome (Behind first)
some_behind coef.End = some_given None
some_behind coef.Escape = some_escaped
some_behind (coef.Pair run level) = some_given (Some (pair run level))

module _ (code : BlockCode) where
  some_coefficient : (place : ℕ) → HasSome (Coefficient code place)
  some_coefficient place = some_after (CodeOf (codes_at code place) BadCode) Behind some_behind (some_code (codes_at code place) BadCode)

  some_next : (place : ℕ) → HasSome (Next code place)
  some_next place =
      some_after (Coefficient code place) _ (λ found.
      some_after (Demands (IsInside place found) BadBlock) _ (λ inside. some_given found)
      (some_demand (IsInside place found) BadBlock (inside_or_not place found)))
      (some_coefficient place)

  next_inside : (place : ℕ) (bits : List Bool) (p : Pair) (rest : List Bool) → Next code place bits (Ok (Some p, rest)) → place + p.run < 64
  next_inside place bits p rest (inl (found, more, first, inl (held, left, demand, gives))) =
      subst (λ (x : Option Pair). IsInside place x) (sym (ap (λ (x : Option Pair × List Bool). x.0) (ok_same _ _ gives))) demand.0
  next_inside place bits p rest (inl (found, more, first, inr (why, demand, gives))) = absurd (ok_not_err _ _ gives)
  next_inside place bits p rest (inr (why, first, gives)) = absurd (ok_not_err _ _ gives)

  abbrev Ended : ℕ → List Bool → Type 0
  Ended place bits = (ps : List Pair) × (o : Result (List Bool) Why) × EndsBlock code place bits ps o

  abbrev at : ℕ → List Bool → At
  at place bits = record { place = place; bits = bits }

  ended_after : (place : ℕ) (bits : List Bool) (o : Result (Option Pair × List Bool) Why) → Next code place bits o → ((p : Pair) (rest : List Bool) → place + p.run < 64 → Ended (place + p.run + 1) rest) → Ended place bits
  ended_after place bits (Ok (None, rest)) h more = ([], Ok rest, Ends-none (StepsPair code) (StopsBlock code) (at place bits) (Ok rest) h)
  ended_after place bits (Ok (Some p, rest)) h more =
      let q = more p rest (next_inside place bits p rest h) in
      (p ∷ q.0, q.1, Ends-cons (StepsPair code) (StopsBlock code) p q.0 (at place bits) (at (place + p.run + 1) rest) q.1 (record { is_next = h; next = refl }) q.2)
  ended_after place bits (Err why) h more = ([], Err why, Ends-none (StepsPair code) (StopsBlock code) (at place bits) (Err why) h)

  ended : (places place : ℕ) (bits : List Bool) → 64 ≤ place + places → Ended place bits
  ended zero place bits h = let q = some_next place bits in ended_after place bits q.0 q.1 (λ p rest inside. absurd (omega arith))
  ended (suc places) place bits h = let q = some_next place bits in ended_after place bits q.0 q.1 (λ p rest inside. ended places (place + p.run + 1) rest (omega arith))

  pairs_outcome : (start : ℕ) (bits : List Bool) → Ended start bits → (o : Result (List Pair × List Bool) Why) × Pairs code start bits o
  pairs_outcome start bits (ps, Ok rest, h) = (Ok (ps, rest), h)
  pairs_outcome start bits (ps, Err why, h) = (Err why, (ps, h))

  some_pairs : (start : ℕ) → HasSome (Pairs code start)
  some_pairs start bits = pairs_outcome start bits (ended 64 start bits (omega arith))

  some_dc_level : (predictor : ℤ) → HasSome (DcLevel code predictor)
  some_dc_level predictor =
      some_after (CodeOf (dc_size_codes code.luma) BadCode) _ (λ size.
      some_after (Field size) _ (λ differential.
      some_after (Demands (IsDcLevel code.dc_precision (predictor +ℤ dct_diff size differential)) BadBlock) _ (λ inside. some_given (predictor +ℤ dct_diff size differential))
      (some_demand (IsDcLevel code.dc_precision (predictor +ℤ dct_diff size differential)) BadBlock (dc_or_not code.dc_precision (predictor +ℤ dct_diff size differential))))
      (some_field size))
      (some_code (dc_size_codes code.luma) BadCode)

  some_by : (intra : Bool) (predictor : ℤ) → HasSome (BlockBy intra code predictor)
  some_by true predictor =
      some_after (DcLevel code predictor) _ (λ dc.
      some_after (Pairs code 1) _ (λ pairs. some_given (in_raster code.alternate (intra_level_at dc pairs))) (some_pairs 1))
      (some_dc_level predictor)
  some_by false predictor = some_after (Pairs code 0) _ (λ pairs. some_given (in_raster code.alternate (level_at 0 pairs))) (some_pairs 0)

  -- exactly one outcome holds: the levels of a block and the bits behind it, or a first refusal
  pub one_outcome : (predictor : ℤ) (bits : List Bool) → (o : Result (List ℤ × List Bool) Why) × Block code predictor bits o × ((p : Result (List ℤ × List Bool) Why) → Block code predictor bits p → p ≡ o)
  one_outcome predictor bits =
      let q = some_by code.intra predictor bits in
      (q.0, q.1, λ p h. one_block code predictor bits p q.0 h q.1)
