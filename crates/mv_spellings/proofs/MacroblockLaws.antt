-- The bits that are read plainly as a macroblock are its canonical bits.
use Rattle.std.proofs.Common.{◌≡◌, ℕ, zero, suc, ◌+◌, ◌<◌, Bool, true, false, ◌&&◌, ◌||◌, not, cond, eqb, List, [], ◌∷◌, ◌++◌, get_or, map, refl, ap, sym, ◌∙◌, subst, arith, ℤ, pos, negsuc, Ok, Some, None}
use Rattle.std.specs.Prelude.{unsigned_abs, nat_lt, Option}
use Rattle.std.specs.List.{range_with_len, list_all}
use Rattle.std.proofs.lemmas.Bool.Decides.{nat_tests}
use Rattle.mv_terms.specs.declared.status.Why.{Why}
use Rattle.mv_terms.specs.declared.head.Head.{Head}
use Rattle.mv_terms.specs.declared.head.PicType.{PicType}
use Rattle.mv_terms.specs.declared.head.PicType.TheVariants as pic
use Rattle.mv_terms.specs.declared.macroblock.Vector.{Vector}
use Rattle.mv_terms.specs.declared.macroblock.Decision.{Decision}
use Rattle.mv_terms.specs.declared.macroblock.MacroLevels.{MacroLevels}
use Rattle.mv_terms.specs.Decisions.{six, no_levels}
use Rattle.mv_terms.specs.Scans.{raster_place}
use Rattle.mv_bits.specs.Bits.{front, digits}
use Rattle.mv_bits.specs.Readings.{Flag, When}
use Rattle.mv_bits.specs.ReadBack.{sent}
use Rattle.mv_bits.proofs.BitLaws.{front_lt}
use Rattle.mv_codes.specs.declared.code.Code.{Code}
use Rattle.mv_codes.specs.declared.coefficient.Coef.{Coef}
use Rattle.mv_codes.specs.declared.coefficient.Coef.TheVariants as coef
use Rattle.mv_codes.specs.declared.macroblock_type.TypeBits.{TypeBits}
use Rattle.mv_codes.specs.Tables.{Spells}
use Rattle.mv_codes.specs.Coefficients.{first_codes_14, levels_14}
use Rattle.mv_codes.specs.Types.{type_codes, type_i_codes, type_p_codes, type_b_codes}
use Rattle.mv_codes.specs.Patterns.{pattern_codes}
use Rattle.mv_codes.specs.Spelled.{code_of, same_type, same_number}
use Rattle.mv_codes.proofs.TableFacts.{types_once, type_number, patterns_once, patterns_small}
use Rattle.mv_codes.proofs.TableLaws.{Spells-test}
use Rattle.mv_codes.proofs.SpelledLaws.{all_below, each_below}
use Rattle.mv_codes.proofs.PlaceFacts.{type_same, number_same}
use Rattle.mv_codes.proofs.WrittenLaws.{types_written, patterns_written}
use Rattle.mv_blocks.specs.declared.block.BlockCode.{BlockCode}
use Rattle.mv_blocks.specs.declared.block.Pair.{Pair}
use Rattle.mv_blocks.specs.Raster.{in_raster}
use Rattle.mv_blocks.specs.Blocks.{At, StopsBlock, Behind, signed_12, pair, level_at, pairs_in, pairs_of}
use Rattle.mv_blocks.specs.Written.{block_bits, has_level}
use Rattle.mv_blocks.proofs.LevelLaws.{scanned}
use Rattle.mv_vectors.specs.Vectors.{Directed, directed, undirected}
use Rattle.mv_vectors.specs.Written.{direction_bits}
use Rattle.mv_vectors.proofs.RangeLaws.{read_first, value_is}
use Rattle.mv_macro.specs.Past.{CodedMacroblock, Given, coded, dc_level}
use Rattle.mv_macro.specs.Macroblocks.{block_code, predictor_of, is_coded, MotionType, ScaleCode, Marker, Pattern, decided, sends_motion_type, sends_dct_type, has_concealment}
use Rattle.mv_macro.specs.Settled.{pattern_of}
use Rattle.mv_macro.specs.Written.{type_of, motion_type_bits, pattern_block_bits, blocks_bits, bits_of_type, macroblock_bits}
use Rattle.mv_spellings.specs.Front.{IsInFront}
use Rattle.mv_spellings.specs.Vectors.{PlainDirection}
use Rattle.mv_spellings.specs.Blocks.{PlainPairs, PlainBlock}
use Rattle.mv_spellings.specs.Macroblocks.{PlainIntraBlocks, PlainPatternBlocks, PlainBlocks, PlainMacroblock}
use Rattle.mv_spellings.proofs.FrontLaws.{in_front_then, in_front_same, in_front_field, in_front_flag, in_front_code, in_front_none, in_front_rest, in_front_when, rest_is}
use Rattle.mv_spellings.proofs.VectorLaws.{direction_read}
use Rattle.mv_spellings.proofs.PairLaws.{pairs_real}
use Rattle.mv_spellings.proofs.BlockLaws.{block_read, pairs_again}

-- ---- a block that isn't intra has a level

abbrev isn't_end : Coef → Bool
isn't_end coef.End = false
isn't_end coef.Escape = true
isn't_end (coef.Pair run level) = true

no_first_end : list_all (λ (c : Code Coef). isn't_end c.meaning) first_codes_14 ≡ true
unfolding first_codes_14 levels_14
no_first_end = refl

none_not : (p : Pair) → ◌≡◌ {A = Option Pair} None (Some p) → ⊥
none_not p e = cc

ends_behind : (element : Coef) (mid rest : List Bool) → Behind element mid (Ok (None, rest)) → element ≡ coef.End
ends_behind coef.End mid rest h = refl
ends_behind (coef.Pair run level) mid rest h = absurd (none_not (pair run level) (value_is _ _ _ _ h))
ends_behind coef.Escape mid rest h =
    let run = read_first (None, rest) h in
    let number = read_first (None, rest) run.3 in
    let allowed = read_first (None, rest) number.3 in
    absurd (none_not (pair run.0 (signed_12 number.0)) (value_is _ _ _ _ allowed.3))

module _ (head : Head) (luma : Bool) where
  abbrev inter : BlockCode
  inter = block_code head false luma

  not_ended : (bits rest : List Bool) → StopsBlock inter (record { place = 0; bits = bits }) (Ok rest) → ⊥
  not_ended bits rest h =
      let found = read_first (None, rest) h in
      let inside = read_first (None, rest) found.3 in
      let e : None ≡ found.0 = value_is _ _ _ _ inside.3 in
      let c = read_first (found.0, found.1) found.2 in
      let behind = subst (λ (z : Option Pair). Behind c.0 c.1 (Ok (z, found.1))) (sym e) c.3 in
      let is = ends_behind c.0 c.1 found.1 behind in
      let test : isn't_end c.0 ≡ true = Spells-test first_codes_14 isn't_end no_first_end bits c.0 c.1 c.2 in
      let no_end : false ≡ true = subst (λ (z : Coef). isn't_end z ≡ true) is test in
      cc

zero_level : (level : ℤ) → not (eqb (unsigned_abs level) 0) ≡ false → level ≡ pos 0
zero_level (pos n) e = let none : n ≡ 0 = grind (arith, nat_tests) in ap pos none
zero_level (negsuc n) e = absurd (grind (arith, nat_tests))

neither : (a b : Bool) → (a || b) ≡ false → (a ≡ false) × (b ≡ false)
neither true b e = cc
neither false b e = (refl, e)

none_there : (levels : List ℤ) → has_level levels ≡ false → (k : ℕ) → get_or levels k (pos 0) ≡ pos 0
none_there [] e zero = refl
none_there [] e (suc k) = refl
none_there (level ∷ levels) e zero = zero_level level (neither _ _ e).0
none_there (level ∷ levels) e (suc k) = none_there levels (neither _ _ e).1 k

none_listed : (run : ℕ) (f : ℕ → ℤ) (ks : List ℕ) → ((k : ℕ) → f k ≡ pos 0) → pairs_in run (map f ks) ≡ []
none_listed run f [] h = refl
none_listed run f (k ∷ ks) h = ap (λ (z : ℤ). pairs_in run (z ∷ map f ks)) (h k) ∙ none_listed (run + 1) f ks h

no_pairs : (alternate : Bool) (levels : List ℤ) → has_level levels ≡ false → pairs_of levels false alternate ≡ []
no_pairs alternate levels e =
    ap (λ (z : List ℤ). pairs_in 0 z) (scanned alternate levels)
    ∙ none_listed 0 (λ k. get_or levels (raster_place alternate k) (pos 0)) (range_with_len 0 64) (λ k. none_there levels e (raster_place alternate k))

some_pairs : (p : Pair) (ps : List Pair) → ◌≡◌ {A = List Pair} [] (p ∷ ps) → ⊥
some_pairs p ps e = cc

-- so runs and levels of a block that isn't intra, of which there is one, aren't all zero
levels_there : (head : Head) (luma : Bool) (levels : List ℤ) (qs : List Pair) (bits rest : List Bool) → PlainPairs (block_code head false luma) 0 bits (Ok (qs, rest)) → levels ≡ in_raster head.alternate (level_at 0 qs) → has_level levels ≡ false → ⊥
levels_there head luma levels [] bits rest h e none = not_ended head luma bits rest (subst (λ (z : At). StopsBlock (block_code head false luma) z (Ok rest)) (sym h.run) h.stopped)
levels_there head luma levels (p ∷ ps) bits rest h e none =
    let real = pairs_real (block_code head false luma) (p ∷ ps) _ _ h.run in
    some_pairs p ps (sym (no_pairs head.alternate levels none) ∙ ap (λ (z : List ℤ). pairs_of z false head.alternate) e ∙ pairs_again head.alternate (p ∷ ps) real)

pub level_there : (head : Head) (luma : Bool) (levels : List ℤ) (bits rest : List Bool) → PlainBlock (block_code head false luma) (pos 0) bits (Ok (levels, rest)) → has_level levels ≡ true
level_there head luma levels bits rest h =
    let pairs = read_first (levels, rest) h in
    by (has_level levels) (levels_there head luma levels pairs.0 bits pairs.1 pairs.2 (value_is _ _ _ _ pairs.3))
  where
    by : (t : Bool) → (t ≡ false → ⊥) → t ≡ true
    by true no_false = refl
    by false no_false = absurd (no_false refl)

-- ---- the blocks of a macroblock

module _ (head : Head) where
  pattern_block_read : (luma : Bool) (levels : List ℤ) (is : Bool) (bits rest : List Bool) → When is no_levels (PlainBlock (block_code head false luma) (pos 0)) bits (Ok (levels, rest))
      → (has_level levels ≡ is) × IsInFront (pattern_block_bits head luma levels) bits rest
  pattern_block_read luma levels true bits rest h =
      let some = level_there head luma levels bits rest h in
      let own : List Bool = block_bits (block_code head false luma) (pos 0) levels in
      (some, in_front_same own (pattern_block_bits head luma levels) bits rest (ap (λ (t : Bool). sent t own) (sym some)) (block_read (block_code head false luma) (pos 0) levels bits rest h))
  pattern_block_read luma levels false bits rest h =
      let e = value_is levels no_levels rest bits h in
      let r = rest_is levels no_levels rest bits h in
      let none : has_level levels ≡ false = ap has_level e in
      let own : List Bool = block_bits (block_code head false luma) (pos 0) levels in
      (none, in_front_same [] (pattern_block_bits head luma levels) bits rest (ap (λ (t : Bool). sent t own) (sym none)) (in_front_rest [] bits bits rest r (in_front_none bits)))

  abbrev sum_of : ℕ → ℕ
  sum_of pattern =
      cond (is_coded pattern 32) 32 0 + (cond (is_coded pattern 16) 16 0 + (cond (is_coded pattern 8) 8 0
      + (cond (is_coded pattern 4) 4 0 + (cond (is_coded pattern 2) 2 0 + cond (is_coded pattern 1) 1 0))))

  each_sum : all_below (λ n. eqb (sum_of n) n) 64 ≡ true
  each_sum = refl

  pub sum_is : (pattern : ℕ) → pattern < 64 → sum_of pattern ≡ pattern
  sum_is pattern small = let e = each_below (λ n. eqb (sum_of n) n) 64 pattern each_sum small in equal (sum_of pattern) pattern e where
    equal : (a b : ℕ) → eqb a b ≡ true → a ≡ b
    equal a b e = grind (arith, nat_tests)

  pattern_blocks_read : (dc : List ℤ) (pattern : ℕ) (levels : MacroLevels) (bits rest : List Bool) → pattern < 64 → PlainPatternBlocks head pattern bits (Ok (levels, rest))
      → (pattern_of levels ≡ pattern) × IsInFront (blocks_bits head dc false levels) bits rest
  pattern_blocks_read dc pattern levels bits rest small h =
      let y0 = read_first (levels, rest) h in
      let y1 = read_first (levels, rest) y0.3 in
      let y2 = read_first (levels, rest) y1.3 in
      let y3 = read_first (levels, rest) y2.3 in
      let cb = read_first (levels, rest) y3.3 in
      let cr = read_first (levels, rest) cb.3 in
      let e : levels ≡ six y0.0 y1.0 y2.0 y3.0 cb.0 cr.0 = value_is _ _ _ _ cr.3 in
      let r = rest_is _ _ _ _ cr.3 in
      let a0 = pattern_block_read true y0.0 (is_coded pattern 32) bits y0.1 y0.2 in
      let a1 = pattern_block_read true y1.0 (is_coded pattern 16) y0.1 y1.1 y1.2 in
      let a2 = pattern_block_read true y2.0 (is_coded pattern 8) y1.1 y2.1 y2.2 in
      let a3 = pattern_block_read true y3.0 (is_coded pattern 4) y2.1 y3.1 y3.2 in
      let a4 = pattern_block_read false cb.0 (is_coded pattern 2) y3.1 cb.1 cb.2 in
      let a5 = pattern_block_read false cr.0 (is_coded pattern 1) cb.1 cr.1 cr.2 in
      let own : Bool → List ℤ → List Bool = λ luma z. pattern_block_bits head luma z in
      let b4 = in_front_then (own false cb.0) (own false cr.0) y3.1 cb.1 cr.1 a4.1 a5.1 in
      let b3 = in_front_then (own true y3.0) (own false cb.0 ++ own false cr.0) y2.1 y3.1 cr.1 a3.1 b4 in
      let b2 = in_front_then (own true y2.0) (own true y3.0 ++ (own false cb.0 ++ own false cr.0)) y1.1 y2.1 cr.1 a2.1 b3 in
      let b1 = in_front_then (own true y1.0) (own true y2.0 ++ (own true y3.0 ++ (own false cb.0 ++ own false cr.0))) y0.1 y1.1 cr.1 a1.1 b2 in
      let b0 = in_front_then (own true y0.0) (own true y1.0 ++ (own true y2.0 ++ (own true y3.0 ++ (own false cb.0 ++ own false cr.0)))) bits y0.1 cr.1 a0.1 b1 in
      let sums : pattern_of (six y0.0 y1.0 y2.0 y3.0 cb.0 cr.0) ≡ sum_of pattern =
      λ i. cond (a0.0 i) 32 0 + (cond (a1.0 i) 16 0 + (cond (a2.0 i) 8 0 + (cond (a3.0 i) 4 0 + (cond (a4.0 i) 2 0 + cond (a5.0 i) 1 0)))) in (
        ap pattern_of e ∙ sums ∙ sum_is pattern small,
        in_front_rest (blocks_bits head dc false levels) bits cr.1 rest r (subst (λ (z : MacroLevels). IsInFront (blocks_bits head dc false z) bits cr.1) (sym e) b0),
      )

  intra_blocks_read : (dc : List ℤ) (levels : MacroLevels) (bits rest : List Bool) → PlainIntraBlocks head dc bits (Ok (levels, rest)) → IsInFront (blocks_bits head dc true levels) bits rest
  intra_blocks_read dc levels bits rest h =
      let y0 = read_first (levels, rest) h in
      let y1 = read_first (levels, rest) y0.3 in
      let y2 = read_first (levels, rest) y1.3 in
      let y3 = read_first (levels, rest) y2.3 in
      let cb = read_first (levels, rest) y3.3 in
      let cr = read_first (levels, rest) cb.3 in
      let e : levels ≡ six y0.0 y1.0 y2.0 y3.0 cb.0 cr.0 = value_is _ _ _ _ cr.3 in
      let r = rest_is _ _ _ _ cr.3 in
      let luma : BlockCode = block_code head true true in
      let chroma : BlockCode = block_code head true false in
      let a0 = block_read luma (predictor_of dc 0) y0.0 bits y0.1 y0.2 in
      let a1 = block_read luma (dc_level y0.0) y1.0 y0.1 y1.1 y1.2 in
      let a2 = block_read luma (dc_level y1.0) y2.0 y1.1 y2.1 y2.2 in
      let a3 = block_read luma (dc_level y2.0) y3.0 y2.1 y3.1 y3.2 in
      let a4 = block_read chroma (predictor_of dc 1) cb.0 y3.1 cb.1 cb.2 in
      let a5 = block_read chroma (predictor_of dc 2) cr.0 cb.1 cr.1 cr.2 in
      let o0 : List Bool = block_bits luma (predictor_of dc 0) y0.0 in
      let o1 : List Bool = block_bits luma (dc_level y0.0) y1.0 in
      let o2 : List Bool = block_bits luma (dc_level y1.0) y2.0 in
      let o3 : List Bool = block_bits luma (dc_level y2.0) y3.0 in
      let o4 : List Bool = block_bits chroma (predictor_of dc 1) cb.0 in
      let o5 : List Bool = block_bits chroma (predictor_of dc 2) cr.0 in
      let b4 = in_front_then o4 o5 y3.1 cb.1 cr.1 a4 a5 in
      let b3 = in_front_then o3 (o4 ++ o5) y2.1 y3.1 cr.1 a3 b4 in
      let b2 = in_front_then o2 (o3 ++ (o4 ++ o5)) y1.1 y2.1 cr.1 a2 b3 in
      let b1 = in_front_then o1 (o2 ++ (o3 ++ (o4 ++ o5))) y0.1 y1.1 cr.1 a1 b2 in
      let b0 = in_front_then o0 (o1 ++ (o2 ++ (o3 ++ (o4 ++ o5)))) bits y0.1 cr.1 a0 b1 in
      in_front_rest (blocks_bits head dc true levels) bits cr.1 rest r (subst (λ (z : MacroLevels). IsInFront (blocks_bits head dc true z) bits cr.1) (sym e) b0)

-- ---- the elements in front of the blocks

pub two_bits : (n : ℕ) → n < 4 → (n ≡ 0 → ⊥) → (n ≡ 3 → ⊥) → cond (eqb n 1) 1 2 ≡ n
two_bits n few some other = go (eqb n 1) refl where
  go : (t : Bool) → eqb n 1 ≡ t → cond t 1 2 ≡ n
  go true e = grind (arith, nat_tests)
  go false e =
      let not_one : n ≡ 1 → ⊥ = λ z. grind (arith, nat_tests) in
      grind arith

motion_type_read : (v : Bool) (bits rest : List Bool) → MotionType bits (Ok (v, rest)) → IsInFront (motion_type_bits v) bits rest
motion_type_read v bits rest h =
    let number = read_first (v, rest) h in
    let allowed = read_first (v, rest) number.3 in
    let single = read_first (v, rest) allowed.3 in
    let n : ℕ = number.0 in
    let e : v ≡ eqb n 1 = value_is _ _ _ _ single.3 in
    let r = rest_is _ _ _ _ single.3 ∙ single.2.1 ∙ allowed.2.1 in
    let is = number.2.0 in
    let few = front_lt 2 bits in
    let two = two_bits n (omega (arith, is, few)) allowed.2.0 single.2.0 in
    in_front_rest (motion_type_bits v) bits number.1 rest r
    (in_front_same (digits 2 n) (motion_type_bits v) bits number.1 (ap (digits 2) (sym (ap (λ (t : Bool). cond t 1 2) e ∙ two))) (in_front_field 2 n bits number.1 is number.2.1))

scale_read : (scale : ℕ) (bits rest : List Bool) → ScaleCode bits (Ok (scale, rest)) → IsInFront (digits 5 scale) bits rest
scale_read scale bits rest h =
    let number = read_first (scale, rest) h in
    let allowed = read_first (scale, rest) number.3 in
    let e = value_is _ _ _ _ allowed.3 in
    let r = rest_is _ _ _ _ allowed.3 ∙ allowed.2.1 in
    in_front_field 5 scale bits rest (e ∙ number.2.0) (r ∙ number.2.1)

marker_read : (v : Unit {0}) (bits rest : List Bool) → Marker bits (Ok (v, rest)) → IsInFront (true ∷ []) bits rest
marker_read v bits rest h =
    let number = read_first (v, rest) h in
    let one : front 1 bits ≡ 1 = sym number.2.0 ∙ number.3.0 in
    in_front_flag true bits rest (sym (ap (λ (n : ℕ). eqb n 1) one)) (number.3.1 ∙ number.2.1)

pub pattern_read : (pattern : ℕ) (bits rest : List Bool) → Pattern bits (Ok (pattern, rest)) → (pattern < 64) × (pattern ≡ 0 → ⊥) × IsInFront (code_of (same_number pattern) pattern_codes) bits rest
pattern_read pattern bits rest h =
    let number = read_first (pattern, rest) h in
    let some = read_first (pattern, rest) number.3 in
    let e = value_is _ _ _ _ some.3 in
    let r = rest_is _ _ _ _ some.3 ∙ some.2.1 in
    let s = subst (λ (z : ℕ). Spells pattern_codes bits z number.1) (sym e) number.2 in
    let test : nat_lt pattern 64 ≡ true = Spells-test pattern_codes (λ n. nat_lt n 64) patterns_small bits pattern number.1 s in (
      small pattern test,
      (λ none. some.2.0 (sym e ∙ none)),
      in_front_rest (code_of (same_number pattern) pattern_codes) bits number.1 rest r (in_front_code same_number (λ n. n) pattern_codes patterns_written number_same patterns_once [] pattern bits number.1 s),
    )
  where
    small : (n : ℕ) → nat_lt n 64 ≡ true → n < 64
    small n t = grind (arith, nat_tests)

sides_read : (head : Head) (predictors : List (List Vector)) (d : Decision) (s : ℕ) (field : Bool) (is : Bool) (bits rest : List Bool) → When is undirected (PlainDirection head predictors s field) bits (Ok (directed d s, rest))
    → IsInFront (sent is (direction_bits head predictors d s field)) bits rest
sides_read head predictors d s field true bits rest h = direction_read head predictors d s field bits rest h
sides_read head predictors d s field false bits rest h = in_front_rest [] bits bits rest (rest_is _ _ _ _ h) (in_front_none bits)

-- ---- the type

abbrev pub isn't_both : TypeBits → Bool
isn't_both type = not (type.intra && type.pattern)

pub types_not_both : (type : PicType) → list_all (λ (c : Code TypeBits). isn't_both c.meaning) (type_codes type) ≡ true
unfolding type_i_codes type_p_codes type_b_codes
types_not_both pic.I = refl
types_not_both pic.P = refl
types_not_both pic.B = refl

pub not_both : (a b : Bool) → not (a && b) ≡ true → a ≡ true → b ≡ false
not_both true true e h = absurd (let no_both : false ≡ true = e in cc)
not_both true false e h = refl
not_both false b e h = absurd (let no_both : false ≡ true = h in cc)

-- the pattern, where it is sent or not
pub sent_pattern : (is : Bool) (pattern : ℕ) (bits rest : List Bool) → When is 0 Pattern bits (Ok (pattern, rest)) → (pattern < 64) × (not (eqb pattern 0) ≡ is) × IsInFront (sent is (code_of (same_number pattern) pattern_codes)) bits rest
sent_pattern true pattern bits rest h =
    let p = pattern_read pattern bits rest h in
    let some = p.1 in
    (p.0, nonzero pattern some, p.2)
  where
    nonzero : (n : ℕ) → (n ≡ 0 → ⊥) → not (eqb n 0) ≡ true
    nonzero zero some = absurd (some refl)
    nonzero (suc n) some = grind (arith, nat_tests)
sent_pattern false pattern bits rest h =
    let e = value_is pattern 0 rest bits h in
    (omega (arith, e), ap (λ (n : ℕ). not (eqb n 0)) e, in_front_rest [] bits bits rest (rest_is pattern 0 rest bits h) (in_front_none bits))

module _ (head : Head) (dc : List ℤ) where
  -- the blocks say the pattern that is sent
  pub blocks_read : (intra is : Bool) (pattern : ℕ) (levels : MacroLevels) (bits rest : List Bool) → (intra ≡ true → is ≡ false) → pattern < 64 → not (eqb pattern 0) ≡ is → PlainBlocks head dc intra pattern bits (Ok (levels, rest))
      → ((not intra && not (eqb (pattern_of levels) 0)) ≡ is) × (sent is (code_of (same_number pattern) pattern_codes) ≡ sent is (code_of (same_number (pattern_of levels)) pattern_codes)) × IsInFront (blocks_bits head dc intra levels) bits rest
  blocks_read true is pattern levels bits rest apart small some h =
      let none = apart refl in (
        sym none,
        ap (λ (t : Bool). sent t (code_of (same_number pattern) pattern_codes)) none ∙ ap (λ (t : Bool). sent t (code_of (same_number (pattern_of levels)) pattern_codes)) (sym none),
        intra_blocks_read head dc levels bits rest h,
      )
  blocks_read false is pattern levels bits rest apart small some h =
      let p = pattern_blocks_read head dc pattern levels bits rest small h in (
        ap (λ (n : ℕ). not (eqb n 0)) p.0 ∙ some,
        ap (λ (n : ℕ). sent is (code_of (same_number n) pattern_codes)) (sym p.0),
        p.1,
      )

-- ---- a macroblock

-- nine parts, one behind the other
nine : (o0 o1 o2 o3 o4 o5 o6 o7 o8 r0 r1 r2 r3 r4 r5 r6 r7 r8 r9 : List Bool)
    → IsInFront o0 r0 r1 → IsInFront o1 r1 r2 → IsInFront o2 r2 r3 → IsInFront o3 r3 r4 → IsInFront o4 r4 r5 → IsInFront o5 r5 r6 → IsInFront o6 r6 r7 → IsInFront o7 r7 r8 → IsInFront o8 r8 r9
    → IsInFront (o0 ++ (o1 ++ (o2 ++ (o3 ++ (o4 ++ (o5 ++ (o6 ++ (o7 ++ o8)))))))) r0 r9
nine o0 o1 o2 o3 o4 o5 o6 o7 o8 r0 r1 r2 r3 r4 r5 r6 r7 r8 r9 x0 x1 x2 x3 x4 x5 x6 x7 x8 =
    in_front_then o0 _ r0 r1 r9 x0 (in_front_then o1 _ r1 r2 r9 x1 (in_front_then o2 _ r2 r3 r9 x2 (in_front_then o3 _ r3 r4 r9 x3
    (in_front_then o4 _ r4 r5 r9 x4 (in_front_then o5 _ r5 r6 r9 x5 (in_front_then o6 _ r6 r7 r9 x6 (in_front_then o7 o8 r7 r8 r9 x7 x8)))))))

module _ (head : Head) (given : Given) (type : TypeBits) (field_motion field_dct : Bool) (scale : ℕ) (forward backward : Directed) (pattern : ℕ) (levels : MacroLevels) where
  abbrev said : Decision
  said = decided given type field_motion field_dct scale forward backward

  pub typed : (not type.intra && not (eqb (pattern_of levels) 0)) ≡ type.pattern → type ≡ type_of (coded said levels)
  typed e = λ i. record { quant = type.quant; forward = type.forward; backward = type.backward; pattern = sym e i; intra = type.intra }

  -- the elements of a macroblock
  parts_read : (r0 r1 r2 r3 r4 r5 r6 r7 r8 r9 : List Bool)
      → Spells (type_codes head.pic) r0 type r1
      → When {W = Why} (sends_motion_type head type) false MotionType r1 (Ok (field_motion, r2))
      → When {W = Why} (sends_dct_type head type) false Flag r2 (Ok (field_dct, r3))
      → When {W = Why} type.quant given.scale ScaleCode r3 (Ok (scale, r4))
      → When {W = Why} (type.forward || has_concealment head type) undirected (PlainDirection head given.predictors 0 field_motion) r4 (Ok (forward, r5))
      → When {W = Why} type.backward undirected (PlainDirection head given.predictors 1 field_motion) r5 (Ok (backward, r6))
      → When {W = Why} (has_concealment head type) tt Marker r6 (Ok (tt, r7))
      → When {W = Why} type.pattern 0 Pattern r7 (Ok (pattern, r8))
      → PlainBlocks head given.dc type.intra pattern r8 (Ok (levels, r9))
      → IsInFront (macroblock_bits head given (coded said levels)) r0 r9
  parts_read r0 r1 r2 r3 r4 r5 r6 r7 r8 r9 a b c d f g k p l =
      let apart = not_both type.intra type.pattern (Spells-test (type_codes head.pic) isn't_both (types_not_both head.pic) r0 type r1 a) in
      let s = sent_pattern type.pattern pattern r7 r8 p in
      let blocks = blocks_read head given.dc type.intra type.pattern pattern levels r8 r9 apart s.0 s.1 l in
      subst (λ (t : TypeBits). IsInFront (bits_of_type head given t said levels) r0 r9) (typed blocks.0)
      (nine (code_of (same_type type) (type_codes head.pic)) (sent (sends_motion_type head type) (motion_type_bits field_motion)) (sent (sends_dct_type head type) (field_dct ∷ [])) (sent type.quant (digits 5 scale))
      (sent (type.forward || has_concealment head type) (direction_bits head given.predictors said 0 field_motion)) (sent type.backward (direction_bits head given.predictors said 1 field_motion)) (sent (has_concealment head type) (true ∷ []))
      (sent type.pattern (code_of (same_number (pattern_of levels)) pattern_codes)) (blocks_bits head given.dc type.intra levels) r0 r1 r2 r3 r4 r5 r6 r7 r8 r9
      (in_front_code same_type type_number (type_codes head.pic) (types_written head.pic) type_same (types_once head.pic) [] type r0 r1 a)
      (in_front_when {W = Why} (sends_motion_type head type) false MotionType motion_type_bits motion_type_read field_motion r1 r2 b)
      (in_front_when {W = Why} (sends_dct_type head type) false Flag (λ v. v ∷ []) (λ v bs more q. in_front_flag v bs more q.0 q.1) field_dct r2 r3 c)
      (in_front_when {W = Why} type.quant given.scale ScaleCode (digits 5) scale_read scale r3 r4 d)
      (sides_read head given.predictors said 0 field_motion (type.forward || has_concealment head type) r4 r5 f)
      (sides_read head given.predictors said 1 field_motion type.backward r5 r6 g)
      (in_front_when {W = Why} (has_concealment head type) tt Marker (λ v. true ∷ []) marker_read tt r6 r7 k)
      (in_front_same (sent type.pattern (code_of (same_number pattern) pattern_codes)) (sent type.pattern (code_of (same_number (pattern_of levels)) pattern_codes)) r7 r8 blocks.1 s.2)
      blocks.2)

pub macroblock_read : (head : Head) (given : Given) (m : CodedMacroblock) (bits rest : List Bool) → PlainMacroblock head given bits (Ok (m, rest)) → IsInFront (macroblock_bits head given m) bits rest
macroblock_read head given m bits rest h =
    let a = read_first (m, rest) h in
    let b = read_first (m, rest) a.3 in
    let c = read_first (m, rest) b.3 in
    let d = read_first (m, rest) c.3 in
    let f = read_first (m, rest) d.3 in
    let g = read_first (m, rest) f.3 in
    let k = read_first (m, rest) g.3 in
    let inside = read_first (m, rest) k.3 in
    let p = read_first (m, rest) inside.3 in
    let l = read_first (m, rest) p.3 in
    let pattern = subst (λ (z : List Bool). When {W = Why} a.0.pattern 0 Pattern z (Ok (p.0, p.1))) inside.2.1 p.2 in
    let whole = parts_read head given a.0 b.0 c.0 d.0 f.0 g.0 p.0 l.0 bits a.1 b.1 c.1 d.1 f.1 g.1 k.1 p.1 l.1 a.2 b.2 c.2 d.2 f.2 g.2 k.2 pattern l.2 in
    in_front_rest (macroblock_bits head given m) bits l.1 rest (rest_is _ _ _ _ l.3)
    (subst (λ (z : CodedMacroblock). IsInFront (macroblock_bits head given z) bits l.1) (sym (value_is _ _ _ _ l.3)) whole)

-- what a macroblock that is read says of its slice
pub macroblock_starts : (head : Head) (given : Given) (m : CodedMacroblock) (bits rest : List Bool) → PlainMacroblock head given bits (Ok (m, rest))
    → (m.decision.skipped ≡ false) × (m.decision.slice_start ≡ given.first) × (m.decision.head_scale ≡ cond given.first given.scale 0)
macroblock_starts head given m bits rest h =
    let a = read_first (m, rest) h in
    let b = read_first (m, rest) a.3 in
    let c = read_first (m, rest) b.3 in
    let d = read_first (m, rest) c.3 in
    let f = read_first (m, rest) d.3 in
    let g = read_first (m, rest) f.3 in
    let k = read_first (m, rest) g.3 in
    let inside = read_first (m, rest) k.3 in
    let p = read_first (m, rest) inside.3 in
    let l = read_first (m, rest) p.3 in
    let e = value_is _ _ _ _ l.3 in (
      ap (λ (z : CodedMacroblock). z.decision.skipped) e,
      ap (λ (z : CodedMacroblock). z.decision.slice_start) e,
      ap (λ (z : CodedMacroblock). z.decision.head_scale) e,
    )
