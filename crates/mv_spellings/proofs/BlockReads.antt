-- A block that can be read is read plainly from the canonical bits of its levels.
use Rattle.std.proofs.Common.{◌≡◌, ◌≢◌, ℕ, ◌+◌, ◌^◌, ◌<◌, Bool, true, false, ◌&&◌, not, eqb, List, [], ◌∷◌, ◌++◌, get_or, refl, ap, sym, ◌∙◌, subst, arith, ℤ, pos, ◌+ℤ◌, ◌-ℤ◌, Option, Some, None, Result, Ok, append_assoc}
use Rattle.mv_terms.specs.declared.status.Why.{Why}
use Rattle.mv_terms.specs.declared.status.Why.TheVariants.{BadCode, BadBlock}
use Rattle.mv_bits.specs.Bits.{digits}
use Rattle.mv_bits.specs.Readings.{◌>>=◌, Field, Demands}
use Rattle.mv_bits.specs.Runs.{Runs}
use Rattle.mv_bits.proofs.BitLaws.{front_lt}
use Rattle.mv_codes.specs.declared.code.Code.{Code}
use Rattle.mv_codes.specs.declared.coefficient.Coef.{Coef}
use Rattle.mv_codes.specs.declared.coefficient.Coef.TheVariants as coef
use Rattle.mv_codes.specs.Tables.{CodeOf, Spells}
use Rattle.mv_codes.specs.Coefficients.{coef_codes, is_coef}
use Rattle.mv_codes.specs.Sizes.{dc_size_codes}
use Rattle.mv_codes.specs.Spelled.{code_of, has_code, same_coef, same_number, twos_12, escape_bits, code_or}
use Rattle.mv_codes.proofs.TableFacts.{coefs_apart, coefs_sized, dc_sizes_sized, dc_sizes_small, coefs_right}
use Rattle.mv_codes.proofs.TableLaws.{Spells-test, one_spelling}
use Rattle.mv_codes.proofs.SpelledLaws.{code_otherwise}
use Rattle.mv_codes.proofs.PlaceFacts.{number_same}
use Rattle.mv_codes.proofs.WrittenLaws.{coefs_written, coef_same, dc_sizes_written}
use Rattle.mv_blocks.specs.declared.block.BlockCode.{BlockCode}
use Rattle.mv_blocks.specs.declared.block.Pair.{Pair}
use Rattle.mv_terms.specs.Ranges.{IsDcLevel}
use Rattle.mv_blocks.specs.Blocks.{At, Next, Coefficient, Behind, Escaped, StepsPair, StopsBlock, IsInside, IsForbidden, signed_12, pair, codes_at, DcLevel, dct_diff, BlockBy, Block, intra_level_at, pairs_of}
use Rattle.mv_blocks.specs.Written.{pair_bits, pairs_bits, differential, dc_bits, block_bits_by, block_bits}
use Rattle.mv_vectors.proofs.RangeLaws.{read_first, value_is}
use Rattle.mv_spellings.specs.Blocks.{PlainPairs, PlainBlockBy, PlainBlock}
use Rattle.mv_spellings.proofs.FrontLaws.{code_there}
use Rattle.mv_spellings.proofs.PairLaws.{AreReal, twos_again, some_is, not_none, none_not, behind_some}
use Rattle.mv_spellings.proofs.BlockLaws.{IsDifferential, difference_again, small_size, from_predictor, first_laid, pairs_again, intra_pairs_again}
use Rattle.mv_spellings.proofs.ReadLaws.{Reads, reads_gives, reads_then, reads_last, reads_second, reads_field, reads_demand, reads_code}
use Rattle.std.specs.Prelude.{nat_le}

-- ---- the DC level

dc_reads : (code : BlockCode) (predictor dc : ℤ) (bits rest : List Bool) → DcLevel code predictor bits (Ok (dc, rest)) → Reads (DcLevel code predictor) dc (dc_bits code.luma (dc -ℤ predictor))
unfolding IsDifferential
dc_reads code predictor dc bits rest h =
    let size = read_first (dc, rest) h in
    let number = read_first (dc, rest) size.3 in
    let inside = read_first (dc, rest) number.3 in
    let k : ℕ = size.0 in
    let n : ℕ = number.0 in
    let is = number.2.0 in
    let e = value_is _ _ _ _ inside.3 in
    let few = small_size k (Spells-test (dc_size_codes code.luma) (λ m. nat_le m 11) (dc_sizes_small code.luma) bits k size.1 size.2) in
    let fits : n < 2 ^ k = (let f = front_lt k size.1 in omega (arith, f, is)) in
    let again = difference_again k n few fits in
    let same : dc -ℤ predictor ≡ dct_diff k n = ap (λ (z : ℤ). z -ℤ predictor) e ∙ from_predictor predictor (dct_diff k n) in
    let table : ℕ → List Bool = λ z. code_of (same_number z) (dc_size_codes code.luma) in
    let written : table k ++ digits k n ≡ dc_bits code.luma (dct_diff k n) =
    ap (λ (z : ℕ). table k ++ digits k z) (sym again.1) ∙ ap (λ (z : ℕ). table z ++ digits z (differential z (dct_diff k n))) (sym again.0) in
    subst (λ (z : List Bool). Reads (DcLevel code predictor) dc z) (written ∙ ap (dc_bits code.luma) (sym same))
    (reads_then (CodeOf (dc_size_codes code.luma) BadCode) _ k dc (table k) (digits k n)
    (reads_code same_number (dc_size_codes code.luma) BadCode number_same (dc_sizes_sized code.luma) [] k (code_there same_number (dc_size_codes code.luma) (dc_sizes_written code.luma) k bits size.1 size.2))
    (reads_last (Field k) _ n dc (digits k n) (reads_field k n fits)
    (reads_second (Demands (IsDcLevel code.dc_precision (predictor +ℤ dct_diff k n)) BadBlock) _ tt dc [] (reads_demand (IsDcLevel code.dc_precision (predictor +ℤ dct_diff k n)) BadBlock inside.2.0)
    (reads_gives _ _ (sym e)))))

-- ---- a run and a level

pair_or_escape : (run : ℕ) (level : ℤ) → ◌≡◌ {A = Coef} (coef.Pair run level) coef.Escape → ⊥
pair_or_escape run level e = cc

true_or_false : (t : Bool) → t ≡ true → t ≡ false → ⊥
true_or_false true e f = cc
true_or_false false e f = cc

module _ (table_15 first : Bool) where
  abbrev table : List (Code Coef)
  table = coef_codes table_15 first

  coded_reads : (otherwise : List Bool) (element : Coef) → has_code (same_coef element) table ≡ true → Reads (CodeOf table BadCode) element (code_or otherwise (same_coef element) table)
  coded_reads otherwise element has = reads_code same_coef table BadCode coef_same (coefs_sized table_15 first) otherwise element has

  there : (element : Coef) (bits rest : List Bool) → Spells table bits element rest → has_code (same_coef element) table ≡ true
  there element bits rest s = code_there same_coef table (coefs_written table_15 first) element bits rest s

  abbrev Coded : List Bool → Result (Option Pair × List Bool) Why → Type 0
  Coded = do
    element ← CodeOf table BadCode
    Behind element

  -- an escape that was read
  escape_reads : (p : Pair) (bits mid rest : List Bool) → Spells table bits coef.Escape mid → Escaped mid (Ok (Some p, rest)) → has_code (same_coef (coef.Pair p.run p.level)) table ≡ false → Reads Coded (Some p) (pair_bits table p)
  escape_reads p bits mid rest s h none =
      let run = read_first (Some p, rest) h in
      let number = read_first (Some p, rest) run.3 in
      let allowed = read_first (Some p, rest) number.3 in
      let k : ℕ = run.0 in
      let n : ℕ = number.0 in
      let e = some_is p (pair k (signed_12 n)) (value_is _ _ _ _ allowed.3) in
      let run_is = run.2.0 in
      let is = number.2.0 in
      let few = front_lt 12 run.1 in
      let small = front_lt 6 mid in
      let twos : twos_12 (signed_12 n) ≡ n = twos_again n (omega (arith, few, is)) in
      let written : escape_bits table p.run p.level ≡ code_of (same_coef coef.Escape) table ++ (digits 6 k ++ digits 12 n) =
      ap (λ (z : Pair). escape_bits table z.run z.level) e ∙ ap (λ (z : ℕ). code_of (same_coef coef.Escape) table ++ (digits 6 k ++ digits 12 z)) twos in
      let otherwise = code_otherwise (same_coef (coef.Pair p.run p.level)) (escape_bits table p.run p.level) table none in
      subst (λ (z : List Bool). Reads Coded (Some p) z) (sym (otherwise ∙ written))
      (reads_then (CodeOf table BadCode) Behind coef.Escape (Some p) (code_of (same_coef coef.Escape) table) (digits 6 k ++ digits 12 n) (coded_reads [] coef.Escape (there coef.Escape bits mid s))
      (reads_then (Field 6) _ k (Some p) (digits 6 k) (digits 12 n) (reads_field 6 k (omega (arith, run_is, small)))
      (reads_last (Field 12) _ n (Some p) (digits 12 n) (reads_field 12 n (omega (arith, is, few)))
      (reads_second (Demands (IsForbidden (signed_12 n) → ⊥) BadBlock) _ tt (Some p) [] (reads_demand (IsForbidden (signed_12 n) → ⊥) BadBlock allowed.2.0)
      (reads_gives (Some (pair k (signed_12 n))) (Some p) (ap (λ (z : Pair). Some z) (sym e)))))))

  pair_reads : (p : Pair) → has_code (same_coef (coef.Pair p.run p.level)) table ≡ true → Reads Coded (Some p) (pair_bits table p)
  pair_reads p has =
      reads_last (CodeOf table BadCode) Behind (coef.Pair p.run p.level) (Some p) (pair_bits table p) (coded_reads (escape_bits table p.run p.level) (coef.Pair p.run p.level) has)
      (reads_gives (Some (pair p.run p.level)) (Some p) refl)

  -- whatever code it was read from
  behind_reads : (element : Coef) (p : Pair) (bits mid rest : List Bool) → Spells table bits element mid → Behind element mid (Ok (Some p, rest)) → Reads Coded (Some p) (pair_bits table p)
  behind_reads coef.End p bits mid rest s h = absurd (not_none p (value_is _ _ _ _ h))
  behind_reads (coef.Pair run level) p bits mid rest s h =
      let e = some_is p (pair run level) (value_is _ _ _ _ h) in
      pair_reads p (subst (λ (z : Pair). has_code (same_coef (coef.Pair z.run z.level)) table ≡ true) (sym e) (there (coef.Pair run level) bits mid s))
  behind_reads coef.Escape p bits mid rest s h = go (has_code (same_coef (coef.Pair p.run p.level)) table) refl where
    go : (t : Bool) → has_code (same_coef (coef.Pair p.run p.level)) table ≡ t → Reads Coded (Some p) (pair_bits table p)
    go true e = pair_reads p e
    go false e = escape_reads p bits mid rest s h e

  -- an escape isn't what the canonical bits of a run and a level with a code begin with
  no_escape : (p : Pair) (more behind : List Bool) → Spells table (pair_bits table p ++ more) coef.Escape behind → has_code (same_coef (coef.Pair p.run p.level)) table ≡ false
  no_escape p more behind s = go (has_code (same_coef (coef.Pair p.run p.level)) table) refl where
    go : (t : Bool) → has_code (same_coef (coef.Pair p.run p.level)) table ≡ t → has_code (same_coef (coef.Pair p.run p.level)) table ≡ false
    go false e = e
    go true e =
        let own = (coded_reads (escape_bits table p.run p.level) (coef.Pair p.run p.level) e).read more in
        absurd (pair_or_escape p.run p.level (one_spelling table (pair_bits table p ++ more) (coef.Pair p.run p.level) coef.Escape more behind (coefs_apart table_15 first) own s).0)

  end_reads : (element : Coef) (bits mid rest : List Bool) → Spells table bits element mid → Behind element mid (Ok (None, rest)) → Reads Coded None (code_of (same_coef coef.End) table)
  end_reads coef.End bits mid rest s h =
      reads_last (CodeOf table BadCode) Behind coef.End None (code_of (same_coef coef.End) table) (coded_reads [] coef.End (there coef.End bits mid s)) (reads_gives None None refl)
  end_reads (coef.Pair run level) bits mid rest s h = absurd (none_not (pair run level) (value_is _ _ _ _ h))
  end_reads coef.Escape bits mid rest s h =
      let run = read_first (None, rest) h in
      let number = read_first (None, rest) run.3 in
      let allowed = read_first (None, rest) number.3 in
      absurd (none_not (pair run.0 (signed_12 number.0)) (value_is _ _ _ _ allowed.3))

-- ---- runs and levels

module _ (code : BlockCode) where
  abbrev b_15 : Bool
  b_15 = code.intra && code.table_15

  abbrev first_at : ℕ → Bool
  first_at place = not code.intra && eqb place 0

  next_reads : (place : ℕ) (found : Option Pair) (bits : List Bool) → Reads (Coefficient code place) found bits → IsInside place found → Reads (Next code place) found bits
  next_reads place found bits own inside =
      reads_last (Coefficient code place) _ found found bits own
      (reads_second (Demands (IsInside place found) BadBlock) _ tt found [] (reads_demand (IsInside place found) BadBlock inside)
      (reads_gives found found refl))

  step_reads : (s : At) (p : Pair) (t : At) → StepsPair code s p t → Reads (Next code s.place) (Some p) (pair_bits (codes_at code s.place) p)
  step_reads s p t step =
      let found = read_first (Some p, t.bits) step.is_next in
      let inside = read_first (Some p, t.bits) found.3 in
      let e : Some p ≡ found.0 = value_is _ _ _ _ inside.3 in
      let c = read_first (found.0, found.1) found.2 in
      let behind = subst (λ (z : Option Pair). Behind c.0 c.1 (Ok (z, found.1))) (sym e) c.3 in
      let within = subst (λ (z : Option Pair). IsInside s.place z) (sym e) inside.2.0 in
      next_reads s.place (Some p) (pair_bits (codes_at code s.place) p) (behind_reads b_15 (first_at s.place) c.0 p s.bits c.1 found.1 c.2 behind) within

  stop_reads : (s : At) (rest : List Bool) → StopsBlock code s (Ok rest) → Reads (Next code s.place) None (pairs_bits code s.place [])
  stop_reads s rest h =
      let found = read_first (None, rest) h in
      let inside = read_first (None, rest) found.3 in
      let e : None ≡ found.0 = value_is _ _ _ _ inside.3 in
      let c = read_first (found.0, found.1) found.2 in
      let behind = subst (λ (z : Option Pair). Behind c.0 c.1 (Ok (z, found.1))) (sym e) c.3 in
      next_reads s.place None (pairs_bits code s.place []) (end_reads b_15 (first_at s.place) c.0 s.bits c.1 found.1 c.2 behind) tt

  pairs_plain : (ps : List Pair) (s t : At) (left : List Bool) → Runs (StepsPair code) ps s t → StopsBlock code t (Ok left) → (rest : List Bool) → PlainPairs code s.place (pairs_bits code s.place ps ++ rest) (Ok (ps, rest))
  pairs_plain [] s t left r stop rest = record {
    last = record { place = s.place; bits = pairs_bits code s.place [] ++ rest };
    run = refl;
    stopped = (stop_reads s left (subst (λ (z : At). StopsBlock code z (Ok left)) (sym r) stop)).read rest;
  }
  pairs_plain (p ∷ ps) s t left (u, step, more) stop rest =
      let place : ℕ = s.place + p.run + 1 in
      let tail : List Bool = pairs_bits code place ps in
      let own : List Bool = pair_bits (codes_at code s.place) p in
      let later = subst (λ (z : ℕ). PlainPairs code z (pairs_bits code z ps ++ rest) (Ok (ps, rest))) step.next (pairs_plain ps u t left more stop rest) in
      let assoc = append_assoc own tail rest in
      let reads : StepsPair code (record { place = s.place; bits = (own ++ tail) ++ rest }) p (record { place = place; bits = tail ++ rest }) =
      record { is_next = subst (λ (z : List Bool). Next code s.place z (Ok (Some p, tail ++ rest))) (sym assoc) ((step_reads s p u step).read (tail ++ rest)); next = refl } in
      record {
        last = later.last;
        run = (
          record { place = place; bits = tail ++ rest },
          record { reads = reads; plain = λ behind escape. no_escape b_15 (first_at s.place) p (tail ++ rest) behind (subst (λ (z : List Bool). Spells (codes_at code s.place) z coef.Escape behind) assoc escape) },
          later.run,
        );
        stopped = later.stopped;
      }

  step_real : (s : At) (p : Pair) (t : At) → StepsPair code s p t → (s.place + p.run < 64) × (p.level ≢ pos 0)
  step_real s p t step =
      let found = read_first (Some p, t.bits) step.is_next in
      let inside = read_first (Some p, t.bits) found.3 in
      let e : Some p ≡ found.0 = value_is _ _ _ _ inside.3 in
      let c = read_first (found.0, found.1) found.2 in
      let behind = subst (λ (z : Option Pair). Behind c.0 c.1 (Ok (z, found.1))) (sym e) c.3 in
      let right = Spells-test (codes_at code s.place) is_coef (coefs_right b_15 (first_at s.place)) s.bits c.0 c.1 c.2 in
      let within = subst (λ (z : Option Pair). IsInside s.place z) (sym e) inside.2.0 in
      (within, behind_some b_15 (first_at s.place) c.0 p c.1 found.1 right behind)

  runs_real : (ps : List Pair) (s t : At) → Runs (StepsPair code) ps s t → AreReal s.place ps
  runs_real [] s t r = tt
  runs_real (p ∷ ps) s t (u, step, later) =
      let one = step_real s p u step in
      (one.0, one.1, subst (λ (z : ℕ). AreReal z ps) step.next (runs_real ps u t later))

-- ---- a block

block_by_reads : (intra : Bool) (code : BlockCode) (predictor : ℤ) (levels : List ℤ) (bits rest : List Bool) → BlockBy intra code predictor bits (Ok (levels, rest)) → Reads (PlainBlockBy intra code predictor) levels (block_bits_by intra code predictor levels)
block_by_reads true code predictor levels bits rest h =
    let dc = read_first (levels, rest) h in
    let pairs = read_first (levels, rest) dc.3 in
    let ps : List Pair = pairs.0 in
    let e = value_is _ _ _ _ pairs.3 in
    let real = runs_real code ps _ _ pairs.2.run in
    let again = ap (λ (z : List ℤ). pairs_of z true code.alternate) e ∙ intra_pairs_again code.alternate dc.0 ps real in
    let level : get_or levels 0 (pos 0) ≡ dc.0 = ap (λ (z : List ℤ). get_or z 0 (pos 0)) e ∙ first_laid code.alternate (intra_level_at dc.0 ps) in
    let same : dc_bits code.luma (dc.0 -ℤ predictor) ++ pairs_bits code 1 ps ≡ block_bits_by true code predictor levels =
    λ i. dc_bits code.luma (sym level i -ℤ predictor) ++ pairs_bits code 1 (sym again i) in
    subst (λ (z : List Bool). Reads (PlainBlockBy true code predictor) levels z) same
    (reads_then (DcLevel code predictor) _ dc.0 levels (dc_bits code.luma (dc.0 -ℤ predictor)) (pairs_bits code 1 ps) (dc_reads code predictor dc.0 bits dc.1 dc.2)
    (reads_last (PlainPairs code 1) _ ps levels (pairs_bits code 1 ps) (record { read = pairs_plain code ps _ _ pairs.1 pairs.2.run pairs.2.stopped })
    (reads_gives _ _ (sym e))))
block_by_reads false code predictor levels bits rest h =
    let pairs = read_first (levels, rest) h in
    let ps : List Pair = pairs.0 in
    let e = value_is _ _ _ _ pairs.3 in
    let real = runs_real code ps _ _ pairs.2.run in
    let again = ap (λ (z : List ℤ). pairs_of z false code.alternate) e ∙ pairs_again code.alternate ps real in
    subst (λ (z : List Bool). Reads (PlainBlockBy false code predictor) levels z) (ap (pairs_bits code 0) (sym again))
    (reads_last (PlainPairs code 0) _ ps levels (pairs_bits code 0 ps) (record { read = pairs_plain code ps _ _ pairs.1 pairs.2.run pairs.2.stopped })
    (reads_gives _ _ (sym e)))

pub block_reads : (code : BlockCode) (predictor : ℤ) (levels : List ℤ) (bits rest : List Bool) → Block code predictor bits (Ok (levels, rest)) → Reads (PlainBlock code predictor) levels (block_bits code predictor levels)
block_reads code predictor levels bits rest h = block_by_reads code.intra code predictor levels bits rest h
