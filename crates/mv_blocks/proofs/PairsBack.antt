-- Runs and levels read back from their canonical bits, up to the end of the block (H.262, 7.2.2).
use Rattle.std.proofs.Common.{◌≡◌, ℕ, ◌+◌, ◌-◌, ◌^◌, ◌<◌, Bool, true, false, ◌&&◌, not, eqb, List, [], ◌∷◌, ◌++◌, append_assoc, refl, ap, sym, ◌∙◌, subst, arith, inl, inr, ℤ, pos, negsuc, ◌-ℤ◌, Some, None, Ok}
use Rattle.std.proofs.lemmas.Bool.Decides.{nat_tests}
use Rattle.std.proofs.lemmas.Int.{ints}
use Rattle.mv_terms.specs.declared.status.Why.TheVariants.{BadCode, BadBlock}
use Rattle.mv_bits.specs.Bits.{digits, trim}
use Rattle.mv_bits.specs.Readings.{Field, Demands}
use Rattle.mv_codes.specs.declared.coefficient.Coef.{Coef}
use Rattle.mv_codes.specs.declared.coefficient.Coef.TheVariants as coef
use Rattle.mv_codes.specs.Tables.{CodeOf}
use Rattle.mv_blocks.specs.declared.block.BlockCode.{BlockCode}
use Rattle.mv_blocks.specs.declared.block.Pair.{Pair}
use Rattle.mv_blocks.specs.Blocks.{EndsBlock, Next, Coefficient, Escaped, Behind, IsInside, IsForbidden, signed_12, pair, codes_at, Pairs}
use Rattle.mv_terms.specs.declared.status.Why.{Why}
use Rattle.mv_bits.specs.ReadBack.{ReadsBack}
use Rattle.mv_codes.specs.Spelled.{code_of, has_code, same_coef, twos_12, escape_bits}
use Rattle.mv_bits.proofs.BackLaws.{back_gives, back_then, back_last, back_second, back_field, back_demand}
use Rattle.mv_codes.proofs.SpelledLaws.{code_otherwise}
use Rattle.mv_blocks.specs.Written.{IsCoded, Fit, pair_bits, pairs_bits}
use Rattle.mv_codes.specs.Coefficients.{coef_codes, codes_14, codes_15, first_codes_14, levels_14, levels_15}
use Rattle.mv_codes.proofs.WrittenLaws.{coefs_written}
use Rattle.mv_codes.proofs.SpelledLaws.{code_whatever}
use Rattle.mv_blocks.proofs.DcLemmas.{choose_first, choose_second}

-- each table has an escape, and all but that of first coefficients have an end
pub escape_has : (table_15 first : Bool) → has_code (same_coef coef.Escape) (coef_codes table_15 first) ≡ true
unfolding codes_14 codes_15 first_codes_14 levels_14 levels_15
escape_has true first = refl
escape_has false true = refl
escape_has false false = refl

end_has : (table_15 : Bool) → has_code (same_coef coef.End) (coef_codes table_15 false) ≡ true
unfolding codes_14 codes_15
end_has true = refl
end_has false = refl

-- a number of 12 bits gives its level back
twos_back : (level : ℤ) → IsCoded level → (twos_12 level < 2 ^ 12) × (signed_12 (twos_12 level) ≡ level)
twos_back (pos n) inside = (omega arith, choose_first n 2048 (pos n) (pos n -ℤ pos 4096) (omega arith))
twos_back (negsuc n) inside = (omega arith, choose_second (4095 - n) 2048 (pos (4095 - n)) (pos (4095 - n) -ℤ pos 4096) (omega arith) ∙ omega (arith, ints))

not_forbidden : (level : ℤ) → IsCoded level → IsForbidden level → ⊥
not_forbidden (pos n) inside (inl e) = omega (arith, ints)
not_forbidden (pos n) inside (inr e) = omega (arith, ints)
not_forbidden (negsuc n) inside (inl e) = omega (arith, ints)
not_forbidden (negsuc n) inside (inr e) = omega (arith, ints)

escaped_back : (p : Pair) → p.run < 64 → IsCoded p.level → ReadsBack Why Escaped (Some p) (digits 6 p.run ++ digits 12 (twos_12 p.level))
escaped_back p inside coded =
    let t = twos_back p.level coded in
    let n = twos_12 p.level in
    back_then (Field 6) _ p.run (Some p) _ _ (back_field 6 p.run inside)
    (back_last (Field 12) _ n (Some p) _ (back_field 12 n t.0)
    (back_second (Demands (IsForbidden (signed_12 n) → ⊥) BadBlock) _ tt (Some p) []
    (back_demand (IsForbidden (signed_12 n) → ⊥) BadBlock (λ bad. not_forbidden p.level coded (subst IsForbidden t.1 bad)))
    (back_gives (Some (pair p.run (signed_12 n))) (Some p) (ap (λ (x : ℤ). Some (pair p.run x)) t.1))))

pub not_first : (intra : Bool) (place : ℕ) → 0 < place → (not intra && eqb place 0) ≡ false
not_first true place inside = refl
not_first false place inside = grind (arith, nat_tests)

module _ (code : BlockCode) where
  code_back : (place : ℕ) (c : Coef) → has_code (same_coef c) (codes_at code place) ≡ true → ReadsBack Why (CodeOf (codes_at code place) BadCode) c (code_of (same_coef c) (codes_at code place))
  code_back place c there = record { back = (coefs_written (code.intra && code.table_15) (not code.intra && eqb place 0)).1 c there }

  pair_back : (place : ℕ) (p : Pair) → p.run < 64 → IsCoded p.level → ReadsBack Why (Coefficient code place) (Some p) (pair_bits (codes_at code place) p)
  pair_back place p inside coded = go (has_code (same_coef (coef.Pair p.run p.level)) (codes_at code place)) refl
    where
      go : (t : Bool) → has_code (same_coef (coef.Pair p.run p.level)) (codes_at code place) ≡ t → ReadsBack Why (Coefficient code place) (Some p) (pair_bits (codes_at code place) p)
      go true e =
          subst (λ (bits : List Bool). ReadsBack Why (Coefficient code place) (Some p) bits) (code_whatever (same_coef (coef.Pair p.run p.level)) [] (escape_bits (codes_at code place) p.run p.level) (codes_at code place) e)
          (back_last (CodeOf (codes_at code place) BadCode) Behind (coef.Pair p.run p.level) (Some p) _ (code_back place (coef.Pair p.run p.level) e)
          (back_gives (Some (pair p.run p.level)) (Some p) refl))
      go false e =
          subst (λ (bits : List Bool). ReadsBack Why (Coefficient code place) (Some p) bits) (sym (code_otherwise (same_coef (coef.Pair p.run p.level)) (escape_bits (codes_at code place) p.run p.level) (codes_at code place) e))
          (back_then (CodeOf (codes_at code place) BadCode) Behind coef.Escape (Some p) _ _ (code_back place coef.Escape (escape_has (code.intra && code.table_15) (not code.intra && eqb place 0)))
          (escaped_back p inside coded))

  next_pair_back : (place : ℕ) (p : Pair) → place + p.run < 64 → IsCoded p.level → ReadsBack Why (Next code place) (Some p) (pair_bits (codes_at code place) p)
  next_pair_back place p inside coded =
      back_last (Coefficient code place) _ (Some p) (Some p) _ (pair_back place p (omega arith) coded)
      (back_second (Demands (IsInside place (Some p)) BadBlock) _ tt (Some p) [] (back_demand (IsInside place (Some p)) BadBlock inside)
      (back_gives (Some p) (Some p) refl))

  pub end_there : (place : ℕ) → 0 < place → has_code (same_coef coef.End) (codes_at code place) ≡ true
  end_there place behind = ap (λ (first : Bool). has_code (same_coef coef.End) (coef_codes (code.intra && code.table_15) first)) (not_first code.intra place behind) ∙ end_has (code.intra && code.table_15)

  end_back : (place : ℕ) → 0 < place → ReadsBack Why (Next code place) None (code_of (same_coef coef.End) (codes_at code place))
  end_back place inside =
      back_last (Coefficient code place) _ None None _
      (back_last (CodeOf (codes_at code place) BadCode) Behind coef.End None _ (code_back place coef.End (end_there place inside)) (back_gives None None refl))
      (back_second (Demands (IsInside place None) BadBlock) _ tt None [] (back_demand (IsInside place None) BadBlock tt)
      (back_gives None None refl))

  block_ends : (place : ℕ) (ps : List Pair) → Fit place ps → (rest : List Bool) → EndsBlock code place (trim (pairs_bits code place ps ++ rest)) ps (Ok (trim rest))
  block_ends place [] inside rest = record {
    last = record { place = place; bits = trim (pairs_bits code place [] ++ rest) };
    run = refl;
    stopped = (end_back place inside).back rest;
  }
  block_ends place (p ∷ ps) inside rest =
      let later = block_ends (place + p.run + 1) ps inside.2 rest in
      let tail = pairs_bits code (place + p.run + 1) ps in
      record {
        last = later.last;
        run = (
          record { place = place + p.run + 1; bits = trim (tail ++ rest) },
          record { is_next = subst (λ (z : List Bool). Next code place (trim z) (Ok (Some p, trim (tail ++ rest)))) (sym (append_assoc (pair_bits (codes_at code place) p) tail rest)) ((next_pair_back place p inside.0 inside.1).back (tail ++ rest)); next = refl },
          later.run,
        );
        stopped = later.stopped;
      }

  pub pairs_back : (place : ℕ) (ps : List Pair) → Fit place ps → ReadsBack Why (Pairs code place) ps (pairs_bits code place ps)
  pairs_back place ps inside = record { back = block_ends place ps inside }
