-- The bits that are read plainly as runs and levels are their canonical bits, up to the end of the block.
use Rattle.std.proofs.Common.{◌≡◌, ◌≢◌, ℕ, zero, suc, ◌+◌, ◌<◌, Bool, true, false, ◌&&◌, not, cond, eqb, ltb, List, [], ◌∷◌, ◌++◌, refl, ap, sym, ◌∙◌, subst, arith, inl, ℤ, pos, negsuc, ◌-ℤ◌, Option, Some, None, Ok}
use Rattle.std.proofs.lemmas.Int.{ints}
use Rattle.mv_bits.specs.Bits.{digits}
use Rattle.mv_bits.specs.Runs.{Runs}
use Rattle.mv_bits.proofs.BitLaws.{front_lt}
use Rattle.mv_codes.specs.declared.code.Code.{Code}
use Rattle.mv_codes.specs.declared.coefficient.Coef.{Coef}
use Rattle.mv_codes.specs.declared.coefficient.Coef.TheVariants as coef
use Rattle.mv_codes.specs.Tables.{Spells}
use Rattle.mv_codes.specs.Coefficients.{is_coef, is_level, coef_codes}
use Rattle.mv_codes.specs.Spelled.{code_of, has_code, same_coef, twos_12, escape_bits, code_or}
use Rattle.mv_codes.proofs.TableFacts.{coefs_once, coefs_right, coef_number}
use Rattle.mv_codes.proofs.TableLaws.{Spells-test}
use Rattle.mv_codes.proofs.SpelledLaws.{and_true, code_otherwise}
use Rattle.mv_codes.proofs.WrittenLaws.{coefs_written, coef_same}
use Rattle.mv_blocks.specs.declared.block.BlockCode.{BlockCode}
use Rattle.mv_blocks.specs.declared.block.Pair.{Pair}
use Rattle.mv_blocks.specs.Blocks.{At, Behind, StopsBlock, signed_12, pair, codes_at, IsInside}
use Rattle.mv_blocks.specs.Written.{pair_bits, pairs_bits}
use Rattle.mv_vectors.proofs.RangeLaws.{read_first, value_is}
use Rattle.mv_spellings.specs.Front.{IsInFront}
use Rattle.mv_spellings.specs.Blocks.{StepsPlainPair}
use Rattle.mv_spellings.proofs.FrontLaws.{in_front_then, in_front_same, in_front_field, in_front_code, in_front_rest, rest_is}

-- ---- a run and a level

pub some_is : (p q : Pair) → ◌≡◌ {A = Option Pair} (Some p) (Some q) → p ≡ q
some_is p q e = cc

pub not_none : (p : Pair) → ◌≡◌ {A = Option Pair} (Some p) None → ⊥
not_none p e = cc

pub none_not : (p : Pair) → ◌≡◌ {A = Option Pair} None (Some p) → ⊥
none_not p e = cc

-- a level of 12 bits gives its number back
pub twos_again : (n : ℕ) → n < 4096 → twos_12 (signed_12 n) ≡ n
twos_again n h = go (ltb n 2048) refl where
  negative : (z : ℤ) → z ≡ pos n -ℤ pos 4096 → twos_12 z ≡ n
  negative (pos m) e = absurd (omega (arith, ints))
  negative (negsuc m) e = omega (arith, ints)

  go : (t : Bool) → ltb n 2048 ≡ t → twos_12 (cond t (pos n) (pos n -ℤ pos 4096)) ≡ n
  go true e = refl
  go false e = negative (pos n -ℤ pos 4096) refl

-- the table of a place, by its flags
module _ (table_15 first : Bool) where
  abbrev table : List (Code Coef)
  table = coef_codes table_15 first

  coded_read : (otherwise : List Bool) (element : Coef) (bits rest : List Bool) → Spells table bits element rest → IsInFront (code_or otherwise (same_coef element) table) bits rest
  coded_read otherwise element bits rest s = in_front_code same_coef coef_number table (coefs_written table_15 first) coef_same (coefs_once table_15 first) otherwise element bits rest s

  behind_read : (element : Coef) (p : Pair) (bits mid rest : List Bool) → Spells table bits element mid → Behind element mid (Ok (Some p, rest))
      → ((behind : List Bool) → Spells table bits coef.Escape behind → has_code (same_coef (coef.Pair p.run p.level)) table ≡ false)
      → IsInFront (pair_bits table p) bits rest
  behind_read coef.End p bits mid rest s h plain = absurd (not_none p (value_is _ _ _ _ h))
  behind_read (coef.Pair run level) p bits mid rest s h plain =
      let e = some_is p (pair run level) (value_is _ _ _ _ h) in
      let r = rest_is _ _ _ _ h in
      in_front_rest (pair_bits table p) bits mid rest r
      (subst (λ (z : Pair). IsInFront (pair_bits table z) bits mid) (sym e) (coded_read (escape_bits table run level) (coef.Pair run level) bits mid s))
  behind_read coef.Escape p bits mid rest s h plain =
      let run = read_first (Some p, rest) h in
      let number = read_first (Some p, rest) run.3 in
      let allowed = read_first (Some p, rest) number.3 in
      let n : ℕ = number.0 in
      let e = some_is p (pair run.0 (signed_12 n)) (value_is _ _ _ _ allowed.3) in
      let r = rest_is _ _ _ _ allowed.3 ∙ allowed.2.1 in
      let is = number.2.0 in
      let few = front_lt 12 run.1 in
      let twos : twos_12 (signed_12 n) ≡ n = twos_again n (omega (arith, few, is)) in
      let escape = coded_read [] coef.Escape bits mid s in
      let six = in_front_field 6 run.0 mid run.1 run.2.0 run.2.1 in
      let twelve = in_front_field 12 n run.1 number.1 is number.2.1 in
      let both = in_front_then (digits 6 run.0) (digits 12 n) mid run.1 number.1 six twelve in
      let whole = in_front_then (code_of (same_coef coef.Escape) table) (digits 6 run.0 ++ digits 12 n) bits mid number.1 escape both in
      let written : escape_bits table p.run p.level ≡ code_of (same_coef coef.Escape) table ++ (digits 6 run.0 ++ digits 12 n) =
      ap (λ (z : Pair). escape_bits table z.run z.level) e
      ∙ ap (λ (z : ℕ). code_of (same_coef coef.Escape) table ++ (digits 6 run.0 ++ digits 12 z)) twos in
      let otherwise = code_otherwise (same_coef (coef.Pair p.run p.level)) (escape_bits table p.run p.level) table (plain mid s) in
      in_front_rest (pair_bits table p) bits number.1 rest r
      (in_front_same (code_of (same_coef coef.Escape) table ++ (digits 6 run.0 ++ digits 12 n)) (pair_bits table p) bits number.1 (sym (otherwise ∙ written)) whole)

  -- what ends a block is its end
  end_read : (element : Coef) (bits mid rest : List Bool) → Spells table bits element mid → Behind element mid (Ok (None, rest)) → (element ≡ coef.End) × IsInFront (code_of (same_coef coef.End) table) bits rest
  end_read coef.End bits mid rest s h = (refl, in_front_rest (code_of (same_coef coef.End) table) bits mid rest (rest_is _ _ _ _ h) (coded_read [] coef.End bits mid s))
  end_read (coef.Pair run level) bits mid rest s h = absurd (none_not (pair run level) (value_is _ _ _ _ h))
  end_read coef.Escape bits mid rest s h =
      let run = read_first (None, rest) h in
      let number = read_first (None, rest) run.3 in
      let allowed = read_first (None, rest) number.3 in
      absurd (none_not (pair run.0 (signed_12 number.0)) (value_is _ _ _ _ allowed.3))

  -- a level isn't zero
  level_some : (level : ℤ) → is_level level ≡ true → level ≢ pos 0
  level_some (pos zero) e same = (let no : false ≡ true = e in cc)
  level_some (pos (suc n)) e same = omega (arith, ints)
  level_some (negsuc n) e same = omega (arith, ints)

  pub behind_some : (element : Coef) (p : Pair) (mid rest : List Bool) → is_coef element ≡ true → Behind element mid (Ok (Some p, rest)) → p.level ≢ pos 0
  behind_some coef.End p mid rest right h = absurd (not_none p (value_is _ _ _ _ h))
  behind_some (coef.Pair run level) p mid rest right h =
      let e = some_is p (pair run level) (value_is _ _ _ _ h) in
      subst (λ (z : Pair). z.level ≢ pos 0) (sym e) (level_some level (and_true _ _ right).1)
  behind_some coef.Escape p mid rest right h =
      let run = read_first (Some p, rest) h in
      let number = read_first (Some p, rest) run.3 in
      let allowed = read_first (Some p, rest) number.3 in
      let e = some_is p (pair run.0 (signed_12 number.0)) (value_is _ _ _ _ allowed.3) in
      subst (λ (z : Pair). z.level ≢ pos 0) (sym e) (λ none. allowed.2.0 (inl none))

-- ---- runs and levels

-- levels that aren't zero, each in the block
abbrev pub AreReal : ℕ → List Pair → Type 0
AreReal place [] = Unit {0}
AreReal place (p ∷ ps) = (place + p.run < 64) × (p.level ≢ pos 0) × AreReal (place + p.run + 1) ps

module _ (code : BlockCode) where
  next_read : (s : At) (p : Pair) (t : At) → StepsPlainPair code s p t → IsInFront (pair_bits (codes_at code s.place) p) s.bits t.bits
  next_read s p t step =
      let found = read_first (Some p, t.bits) step.reads.is_next in
      let inside = read_first (Some p, t.bits) found.3 in
      let e : Some p ≡ found.0 = value_is _ _ _ _ inside.3 in
      let r : t.bits ≡ found.1 = rest_is _ _ _ _ inside.3 ∙ inside.2.1 in
      let c = read_first (found.0, found.1) found.2 in
      let behind = subst (λ (z : Option Pair). Behind c.0 c.1 (Ok (z, found.1))) (sym e) c.3 in
      in_front_rest (pair_bits (codes_at code s.place) p) s.bits found.1 t.bits r
      (behind_read (code.intra && code.table_15) (not code.intra && eqb s.place 0) c.0 p s.bits c.1 found.1 c.2 behind step.plain)

  next_real : (s : At) (p : Pair) (t : At) → StepsPlainPair code s p t → (s.place + p.run < 64) × (p.level ≢ pos 0)
  next_real s p t step =
      let found = read_first (Some p, t.bits) step.reads.is_next in
      let inside = read_first (Some p, t.bits) found.3 in
      let e : Some p ≡ found.0 = value_is _ _ _ _ inside.3 in
      let c = read_first (found.0, found.1) found.2 in
      let behind = subst (λ (z : Option Pair). Behind c.0 c.1 (Ok (z, found.1))) (sym e) c.3 in
      let right = Spells-test (codes_at code s.place) is_coef (coefs_right (code.intra && code.table_15) (not code.intra && eqb s.place 0)) s.bits c.0 c.1 c.2 in
      let within = subst (λ (z : Option Pair). IsInside s.place z) (sym e) inside.2.0 in
      (within, behind_some (code.intra && code.table_15) (not code.intra && eqb s.place 0) c.0 p c.1 found.1 right behind)

  stop_read : (s : At) (rest : List Bool) → StopsBlock code s (Ok rest) → IsInFront (pairs_bits code s.place []) s.bits rest
  stop_read s rest h =
      let found = read_first (None, rest) h in
      let inside = read_first (None, rest) found.3 in
      let e : None ≡ found.0 = value_is _ _ _ _ inside.3 in
      let r : rest ≡ found.1 = rest_is _ _ _ _ inside.3 ∙ inside.2.1 in
      let c = read_first (found.0, found.1) found.2 in
      let behind = subst (λ (z : Option Pair). Behind c.0 c.1 (Ok (z, found.1))) (sym e) c.3 in
      in_front_rest (pairs_bits code s.place []) s.bits found.1 rest r
      (end_read (code.intra && code.table_15) (not code.intra && eqb s.place 0) c.0 s.bits c.1 found.1 c.2 behind).1

  pub pairs_read : (ps : List Pair) (s t : At) (rest : List Bool) → Runs (StepsPlainPair code) ps s t → StopsBlock code t (Ok rest) → IsInFront (pairs_bits code s.place ps) s.bits rest
  pairs_read [] s t rest r stop = stop_read s rest (subst (λ (z : At). StopsBlock code z (Ok rest)) (sym r) stop)
  pairs_read (p ∷ ps) s t rest (u, step, later) stop =
      let one = next_read s p u step in
      let more = subst (λ (z : ℕ). IsInFront (pairs_bits code z ps) u.bits rest) step.reads.next (pairs_read ps u t rest later stop) in
      in_front_then (pair_bits (codes_at code s.place) p) (pairs_bits code (s.place + p.run + 1) ps) s.bits u.bits rest one more

  pub pairs_real : (ps : List Pair) (s t : At) → Runs (StepsPlainPair code) ps s t → AreReal s.place ps
  pairs_real [] s t r = tt
  pairs_real (p ∷ ps) s t (u, step, later) =
      let one = next_real s p u step in
      (one.0, one.1, subst (λ (z : ℕ). AreReal z ps) step.reads.next (pairs_real ps u t later))
