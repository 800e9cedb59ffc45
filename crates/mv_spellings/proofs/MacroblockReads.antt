-- A macroblock that can be read and written is read plainly from its canonical bits.
use Rattle.std.proofs.Common.{◌≡◌, ℕ, ◌<◌, Bool, true, false, ◌||◌, cond, eqb, List, [], ◌∷◌, get_or, refl, ap, sym, ◌∙◌, subst, arith, ℤ, pos, Result, Ok}
use Rattle.std.specs.Prelude.{IsTrue}
use Rattle.mv_terms.specs.declared.status.Why.{Why}
use Rattle.mv_terms.specs.declared.status.Why.TheVariants.{BadCode, BadMacro, BadVector, Unsupported}
use Rattle.mv_terms.specs.Unsupported.{dual_prime}
use Rattle.mv_terms.specs.declared.head.Head.{Head}
use Rattle.mv_terms.specs.declared.macroblock.Vector.{Vector}
use Rattle.mv_terms.specs.declared.macroblock.Decision.{Decision}
use Rattle.mv_terms.specs.declared.macroblock.MacroLevels.{MacroLevels}
use Rattle.mv_terms.specs.Decisions.{six, no_levels, vector_of, select_of, still}
use Rattle.mv_bits.specs.Bits.{digits}
use Rattle.mv_bits.specs.Readings.{Field, Flag, Demands, When}
use Rattle.mv_bits.specs.ReadBack.{sent}
use Rattle.mv_bits.proofs.BitLaws.{front_lt}
use Rattle.mv_codes.specs.declared.macroblock_type.TypeBits.{TypeBits}
use Rattle.mv_codes.specs.Tables.{CodeOf, Spells}
use Rattle.mv_codes.specs.Types.{type_codes}
use Rattle.mv_codes.specs.Patterns.{pattern_codes}
use Rattle.mv_codes.specs.Spelled.{code_of, has_code, same_type, same_number}
use Rattle.mv_codes.proofs.TableFacts.{types_sized, patterns_sized}
use Rattle.mv_codes.proofs.TableLaws.{Spells-test}
use Rattle.mv_codes.proofs.PlaceFacts.{type_same, number_same}
use Rattle.mv_codes.proofs.WrittenLaws.{types_written, patterns_written}
use Rattle.mv_blocks.specs.declared.block.BlockCode.{BlockCode}
use Rattle.mv_blocks.specs.Blocks.{Block}
use Rattle.mv_blocks.specs.Written.{block_bits, has_level}
use Rattle.mv_vectors.specs.Inside.{is_inside, are_vectors_in_range}
use Rattle.mv_vectors.specs.Vectors.{Directed, Direction, DirectionFrom, directed, undirected, predictor_at, field_directed, frame_directed}
use Rattle.mv_vectors.specs.Written.{direction_bits, used, AreNear}
use Rattle.mv_vectors.proofs.RangeLaws.{read_first, value_is}
use Rattle.mv_macro.specs.Past.{CodedMacroblock, Given, coded, dc_level}
use Rattle.mv_macro.specs.Macroblocks.{IntraBlocks, PatternBlocks, Blocks, Macroblock, block_code, predictor_of, is_coded, MotionType, ScaleCode, Marker, Pattern, decided, sends_motion_type, sends_dct_type, has_concealment}
use Rattle.mv_macro.specs.Settled.{pattern_of}
use Rattle.mv_macro.specs.Written.{motion_type_bits, pattern_block_bits, blocks_bits, bits_of_type, macroblock_bits, CanBeWritten}
use Rattle.mv_spellings.specs.Vectors.{PlainDirection}
use Rattle.mv_spellings.specs.Blocks.{PlainBlock}
use Rattle.mv_spellings.specs.Macroblocks.{PlainIntraBlock, PlainIntraBlocks, PlainPatternBlock, PlainPatternBlocks, PlainBlocks, PlainMacroblock}
use Rattle.mv_spellings.proofs.FrontLaws.{code_there}
use Rattle.mv_spellings.proofs.ReadLaws.{Reads, reads_gives, reads_then, reads_last, reads_second, reads_field, reads_flag, reads_demand, reads_when, reads_code}
use Rattle.mv_spellings.proofs.VectorReads.{direction_reads}
use Rattle.mv_spellings.proofs.BlockReads.{block_reads}
use Rattle.mv_spellings.proofs.MacroblockLaws.{level_there, blocks_read, two_bits, isn't_both, types_not_both, not_both, sent_pattern, typed}

-- what is read where it is sent
when_reads : {A : Type 0} (is : Bool) (default : A) (reading plain : List Bool → Result (A × List Bool) Why → Type 0) (own : A → List Bool)
    → ((v : A) (bits rest : List Bool) → reading bits (Ok (v, rest)) → Reads plain v (own v))
    → (v : A) (bits rest : List Bool) → When is default reading bits (Ok (v, rest)) → Reads (When is default plain) v (sent is (own v))
when_reads true default reading plain own each v bits rest h = reads_when true default plain v (own v) (λ e. each v bits rest h) (λ e. absurd (let wrong : true ≡ false = e in cc))
when_reads false default reading plain own each v bits rest h = reads_when false default plain v (own v) (λ e. absurd (let wrong : false ≡ true = e in cc)) (λ e. value_is v default rest bits h)

-- ---- the blocks of a macroblock

module _ (head : Head) where
  pattern_block_reads : (luma : Bool) (levels : List ℤ) (is : Bool) (bits rest : List Bool) → When is no_levels (Block (block_code head false luma) (pos 0)) bits (Ok (levels, rest))
      → Reads (When is no_levels (PlainBlock (block_code head false luma) (pos 0))) levels (pattern_block_bits head luma levels)
  pattern_block_reads luma levels true bits rest h =
      let own = block_reads (block_code head false luma) (pos 0) levels bits rest h in
      let some = level_there head luma levels _ [] (own.read []) in
      subst (λ (t : Bool). Reads (When true no_levels (PlainBlock (block_code head false luma) (pos 0))) levels (sent t (block_bits (block_code head false luma) (pos 0) levels))) (sym some)
      (reads_when true no_levels (PlainBlock (block_code head false luma) (pos 0)) levels (block_bits (block_code head false luma) (pos 0) levels) (λ e. own) (λ e. absurd (let wrong : true ≡ false = e in cc)))
  pattern_block_reads luma levels false bits rest h =
      let e = value_is levels no_levels rest bits h in
      let none : has_level levels ≡ false = ap has_level e in
      subst (λ (t : Bool). Reads (When false no_levels (PlainBlock (block_code head false luma) (pos 0))) levels (sent t (block_bits (block_code head false luma) (pos 0) levels))) (sym none)
      (reads_when false no_levels (PlainBlock (block_code head false luma) (pos 0)) levels (block_bits (block_code head false luma) (pos 0) levels) (λ t. absurd (let wrong : false ≡ true = t in cc)) (λ t. e))

  pattern_blocks_reads : (dc : List ℤ) (pattern : ℕ) (levels : MacroLevels) (bits rest : List Bool) → PatternBlocks head pattern bits (Ok (levels, rest)) → Reads (PlainPatternBlocks head pattern) levels (blocks_bits head dc false levels)
  pattern_blocks_reads dc pattern levels bits rest h =
      let y0 = read_first (levels, rest) h in
      let y1 = read_first (levels, rest) y0.3 in
      let y2 = read_first (levels, rest) y1.3 in
      let y3 = read_first (levels, rest) y2.3 in
      let cb = read_first (levels, rest) y3.3 in
      let cr = read_first (levels, rest) cb.3 in
      let e : levels ≡ six y0.0 y1.0 y2.0 y3.0 cb.0 cr.0 = value_is _ _ _ _ cr.3 in
      let now : MacroLevels = six y0.0 y1.0 y2.0 y3.0 cb.0 cr.0 in
      subst (λ (z : MacroLevels). Reads (PlainPatternBlocks head pattern) z (blocks_bits head dc false z)) (sym e)
      (reads_then (PlainPatternBlock head true pattern 32) _ y0.0 now _ _ (pattern_block_reads true y0.0 (is_coded pattern 32) bits y0.1 y0.2)
      (reads_then (PlainPatternBlock head true pattern 16) _ y1.0 now _ _ (pattern_block_reads true y1.0 (is_coded pattern 16) y0.1 y1.1 y1.2)
      (reads_then (PlainPatternBlock head true pattern 8) _ y2.0 now _ _ (pattern_block_reads true y2.0 (is_coded pattern 8) y1.1 y2.1 y2.2)
      (reads_then (PlainPatternBlock head true pattern 4) _ y3.0 now _ _ (pattern_block_reads true y3.0 (is_coded pattern 4) y2.1 y3.1 y3.2)
      (reads_then (PlainPatternBlock head false pattern 2) _ cb.0 now _ _ (pattern_block_reads false cb.0 (is_coded pattern 2) y3.1 cb.1 cb.2)
      (reads_last (PlainPatternBlock head false pattern 1) _ cr.0 now _ (pattern_block_reads false cr.0 (is_coded pattern 1) cb.1 cr.1 cr.2)
      (reads_gives now now refl)))))))

  intra_blocks_reads : (dc : List ℤ) (levels : MacroLevels) (bits rest : List Bool) → IntraBlocks head dc bits (Ok (levels, rest)) → Reads (PlainIntraBlocks head dc) levels (blocks_bits head dc true levels)
  intra_blocks_reads dc levels bits rest h =
      let y0 = read_first (levels, rest) h in
      let y1 = read_first (levels, rest) y0.3 in
      let y2 = read_first (levels, rest) y1.3 in
      let y3 = read_first (levels, rest) y2.3 in
      let cb = read_first (levels, rest) y3.3 in
      let cr = read_first (levels, rest) cb.3 in
      let e : levels ≡ six y0.0 y1.0 y2.0 y3.0 cb.0 cr.0 = value_is _ _ _ _ cr.3 in
      let now : MacroLevels = six y0.0 y1.0 y2.0 y3.0 cb.0 cr.0 in
      let luma : BlockCode = block_code head true true in
      let chroma : BlockCode = block_code head true false in
      subst (λ (z : MacroLevels). Reads (PlainIntraBlocks head dc) z (blocks_bits head dc true z)) (sym e)
      (reads_then (PlainIntraBlock head true (predictor_of dc 0)) _ y0.0 now _ _ (block_reads luma (predictor_of dc 0) y0.0 bits y0.1 y0.2)
      (reads_then (PlainIntraBlock head true (dc_level y0.0)) _ y1.0 now _ _ (block_reads luma (dc_level y0.0) y1.0 y0.1 y1.1 y1.2)
      (reads_then (PlainIntraBlock head true (dc_level y1.0)) _ y2.0 now _ _ (block_reads luma (dc_level y1.0) y2.0 y1.1 y2.1 y2.2)
      (reads_then (PlainIntraBlock head true (dc_level y2.0)) _ y3.0 now _ _ (block_reads luma (dc_level y2.0) y3.0 y2.1 y3.1 y3.2)
      (reads_then (PlainIntraBlock head false (predictor_of dc 1)) _ cb.0 now _ _ (block_reads chroma (predictor_of dc 1) cb.0 y3.1 cb.1 cb.2)
      (reads_last (PlainIntraBlock head false (predictor_of dc 2)) _ cr.0 now _ (block_reads chroma (predictor_of dc 2) cr.0 cb.1 cr.1 cr.2)
      (reads_gives now now refl)))))))

  blocks_reads : (dc : List ℤ) (intra : Bool) (pattern : ℕ) (levels : MacroLevels) (bits rest : List Bool) → Blocks head dc intra pattern bits (Ok (levels, rest)) → Reads (PlainBlocks head dc intra pattern) levels (blocks_bits head dc intra levels)
  blocks_reads dc true pattern levels bits rest h = intra_blocks_reads dc levels bits rest h
  blocks_reads dc false pattern levels bits rest h = pattern_blocks_reads dc pattern levels bits rest h

-- ---- the elements in front of the blocks

motion_type_reads : (v : Bool) (bits rest : List Bool) → MotionType bits (Ok (v, rest)) → Reads MotionType v (motion_type_bits v)
motion_type_reads v bits rest h =
    let number = read_first (v, rest) h in
    let allowed = read_first (v, rest) number.3 in
    let single = read_first (v, rest) allowed.3 in
    let n : ℕ = number.0 in
    let e : v ≡ eqb n 1 = value_is _ _ _ _ single.3 in
    let is = number.2.0 in
    let few = front_lt 2 bits in
    let small : n < 4 = omega (arith, is, few) in
    let two = two_bits n small allowed.2.0 single.2.0 in
    subst (λ (z : List Bool). Reads MotionType v z) (ap (digits 2) (sym (ap (λ (t : Bool). cond t 1 2) e ∙ two)))
    (reads_last (Field 2) _ n v (digits 2 n) (reads_field 2 n small)
    (reads_second (Demands (n ≡ 0 → ⊥) BadMacro) _ tt v [] (reads_demand (n ≡ 0 → ⊥) BadMacro allowed.2.0)
    (reads_second (Demands (n ≡ 3 → ⊥) (Unsupported dual_prime)) _ tt v [] (reads_demand (n ≡ 3 → ⊥) (Unsupported dual_prime) single.2.0)
    (reads_gives _ _ (sym e)))))

scale_reads : (scale : ℕ) (bits rest : List Bool) → ScaleCode bits (Ok (scale, rest)) → Reads ScaleCode scale (digits 5 scale)
scale_reads scale bits rest h =
    let number = read_first (scale, rest) h in
    let allowed = read_first (scale, rest) number.3 in
    let e : scale ≡ number.0 = value_is _ _ _ _ allowed.3 in
    let is = number.2.0 in
    let few = front_lt 5 bits in
    reads_last (Field 5) _ scale scale (digits 5 scale) (reads_field 5 scale (omega (arith, e, is, few)))
    (reads_second (Demands (scale ≡ 0 → ⊥) BadMacro) _ tt scale [] (reads_demand (scale ≡ 0 → ⊥) BadMacro (λ none. allowed.2.0 (sym e ∙ none)))
    (reads_gives scale scale refl))

one_digit : digits 1 1 ≡ true ∷ []
unfolding digits
one_digit = refl

marker_reads : (v : Unit {0}) (bits rest : List Bool) → Marker bits (Ok (v, rest)) → Reads Marker v (true ∷ [])
marker_reads v bits rest h =
    reads_last (Field 1) _ 1 tt (true ∷ []) (subst (λ (z : List Bool). Reads (Field 1) 1 z) one_digit (reads_field 1 1 (omega arith)))
    (reads_demand (1 ≡ 1) BadMacro refl)

pattern_reads : (pattern : ℕ) (bits rest : List Bool) → Pattern bits (Ok (pattern, rest)) → Reads Pattern pattern (code_of (same_number pattern) pattern_codes)
pattern_reads pattern bits rest h =
    let number = read_first (pattern, rest) h in
    let some = read_first (pattern, rest) number.3 in
    let e : pattern ≡ number.0 = value_is _ _ _ _ some.3 in
    let s = subst (λ (z : ℕ). Spells pattern_codes bits z number.1) (sym e) number.2 in
    reads_last (CodeOf pattern_codes BadCode) _ pattern pattern (code_of (same_number pattern) pattern_codes)
    (reads_code same_number pattern_codes BadCode number_same patterns_sized [] pattern (code_there same_number pattern_codes patterns_written pattern bits number.1 s))
    (reads_second (Demands (pattern ≡ 0 → ⊥) BadMacro) _ tt pattern [] (reads_demand (pattern ≡ 0 → ⊥) BadMacro (λ none. some.2.0 (sym e ∙ none)))
    (reads_gives pattern pattern refl))

-- the selects and vectors of a direction are those that it uses
direction_used : (head : Head) (p q : Vector) (d : Decision) (s : ℕ) (field : Bool) (bits rest : List Bool) → DirectionFrom head s p q field bits (Ok (directed d s, rest)) → used d s field ≡ directed d s
direction_used head p q d s false bits rest h =
    let v = read_first (directed d s, rest) h in
    let e = value_is _ _ _ _ v.3 in
    let same : vector_of d s 0 ≡ v.0 = ap (λ (x : Directed). get_or x.vectors 0 still) e in
    ap (λ (z : Vector). frame_directed z) same ∙ sym e
direction_used head p q d s true bits rest h =
    let a = read_first (directed d s, rest) h in
    let b = read_first (directed d s, rest) a.3 in
    let e = value_is _ _ _ _ b.3 in
    let v0 : vector_of d s 0 ≡ a.0.1 = ap (λ (x : Directed). get_or x.vectors 0 still) e in
    let v1 : vector_of d s 1 ≡ b.0.1 = ap (λ (x : Directed). get_or x.vectors 1 still) e in
    let s0 : select_of d s 0 ≡ a.0.0 = ap (λ (x : Directed). get_or x.selects 0 false) e in
    let s1 : select_of d s 1 ≡ b.0.0 = ap (λ (x : Directed). get_or x.selects 1 false) e in
    let both : used d s true ≡ field_directed a.0 b.0 = λ i. record { selects = s0 i ∷ s1 i ∷ []; vectors = v0 i ∷ v1 i ∷ [] } in
    both ∙ sym e

sides_reads : (head : Head) (predictors : List (List Vector)) (d : Decision) (s : ℕ) (field : Bool) (is : Bool) (bits rest : List Bool) → (is ≡ true → are_vectors_in_range head d s field ≡ true) → AreNear head predictors s
    → When is undirected (Direction head predictors s field) bits (Ok (directed d s, rest)) → Reads (When is undirected (PlainDirection head predictors s field)) (directed d s) (sent is (direction_bits head predictors d s field))
sides_reads head predictors d s field true bits rest range near h =
    let same = direction_used head (predictor_at predictors s 0) (predictor_at predictors s 1) d s field bits rest h in
    let own = direction_reads head predictors d s field (range refl) near in
    reads_when true undirected (PlainDirection head predictors s field) (directed d s) (direction_bits head predictors d s field) (λ e. subst (λ (z : Directed). Reads (PlainDirection head predictors s field) z (direction_bits head predictors d s field)) same own) (λ e. absurd (let wrong : true ≡ false = e in cc))
sides_reads head predictors d s field false bits rest range near h =
    reads_when false undirected (PlainDirection head predictors s field) (directed d s) (direction_bits head predictors d s field) (λ e. absurd (let wrong : false ≡ true = e in cc)) (λ e. value_is _ _ _ _ h)

-- ---- a macroblock

module _ (head : Head) (given : Given) (type : TypeBits) (field_motion field_dct : Bool) (scale : ℕ) (forward backward : Directed) (pattern : ℕ) (levels : MacroLevels) where
  abbrev said : Decision
  said = decided given type field_motion field_dct scale forward backward

  abbrev now : CodedMacroblock
  now = coded said levels

  whole_reads : has_code (same_type type) (type_codes head.pic) ≡ true
      → Reads (When (sends_motion_type head type) false MotionType) field_motion (sent (sends_motion_type head type) (motion_type_bits field_motion))
      → Reads (When (sends_dct_type head type) false Flag) field_dct (sent (sends_dct_type head type) (field_dct ∷ []))
      → Reads (When type.quant given.scale ScaleCode) scale (sent type.quant (digits 5 scale))
      → Reads (When (type.forward || has_concealment head type) undirected (PlainDirection head given.predictors 0 field_motion)) forward (sent (type.forward || has_concealment head type) (direction_bits head given.predictors said 0 field_motion))
      → Reads (When type.backward undirected (PlainDirection head given.predictors 1 field_motion)) backward (sent type.backward (direction_bits head given.predictors said 1 field_motion))
      → Reads (When (has_concealment head type) tt Marker) tt (sent (has_concealment head type) (true ∷ []))
      → IsTrue (is_inside head given.mb_x given.mb_y said)
      → Reads (When type.pattern 0 Pattern) pattern (sent type.pattern (code_of (same_number (pattern_of levels)) pattern_codes))
      → Reads (PlainBlocks head given.dc type.intra pattern) levels (blocks_bits head given.dc type.intra levels)
      → Reads (PlainMacroblock head given) now (bits_of_type head given type said levels)
  whole_reads has motion dct quant to_forward to_backward marker inside to_pattern to_blocks =
      reads_then (CodeOf (type_codes head.pic) BadCode) _ type now _ _ (reads_code same_type (type_codes head.pic) BadCode type_same (types_sized head.pic) [] type has)
      (reads_then (When (sends_motion_type head type) false MotionType) _ field_motion now _ _ motion
      (reads_then (When (sends_dct_type head type) false Flag) _ field_dct now _ _ dct
      (reads_then (When type.quant given.scale ScaleCode) _ scale now _ _ quant
      (reads_then (When (type.forward || has_concealment head type) undirected (PlainDirection head given.predictors 0 field_motion)) _ forward now _ _ to_forward
      (reads_then (When type.backward undirected (PlainDirection head given.predictors 1 field_motion)) _ backward now _ _ to_backward
      (reads_then (When (has_concealment head type) tt Marker) _ tt now _ _ marker
      (reads_second (Demands (IsTrue (is_inside head given.mb_x given.mb_y said)) BadVector) _ tt now _ (reads_demand (IsTrue (is_inside head given.mb_x given.mb_y said)) BadVector inside)
      (reads_then (When type.pattern 0 Pattern) _ pattern now _ _ to_pattern
      (reads_last (PlainBlocks head given.dc type.intra pattern) _ levels now _ to_blocks
      (reads_gives now now refl))))))))))

  parts_reads : (r0 r1 r2 r3 r4 r5 r6 r7 r8 r9 : List Bool)
      → CanBeWritten head given now
      → Spells (type_codes head.pic) r0 type r1
      → When {W = Why} (sends_motion_type head type) false MotionType r1 (Ok (field_motion, r2))
      → When {W = Why} (sends_dct_type head type) false Flag r2 (Ok (field_dct, r3))
      → When {W = Why} type.quant given.scale ScaleCode r3 (Ok (scale, r4))
      → When {W = Why} (type.forward || has_concealment head type) undirected (Direction head given.predictors 0 field_motion) r4 (Ok (forward, r5))
      → When {W = Why} type.backward undirected (Direction head given.predictors 1 field_motion) r5 (Ok (backward, r6))
      → When {W = Why} (has_concealment head type) tt Marker r6 (Ok (tt, r7))
      → IsTrue (is_inside head given.mb_x given.mb_y said)
      → When {W = Why} type.pattern 0 Pattern r7 (Ok (pattern, r8))
      → Blocks head given.dc type.intra pattern r8 (Ok (levels, r9))
      → Reads (PlainMacroblock head given) now (macroblock_bits head given now)
  parts_reads r0 r1 r2 r3 r4 r5 r6 r7 r8 r9 can a b c d f g k inside p l =
      let apart = not_both type.intra type.pattern (Spells-test (type_codes head.pic) isn't_both (types_not_both head.pic) r0 type r1 a) in
      let s = sent_pattern type.pattern pattern r7 r8 p in
      let own = blocks_reads head given.dc type.intra pattern levels r8 r9 l in
      let blocks = blocks_read head given.dc type.intra type.pattern pattern levels _ [] apart s.0 s.1 (own.read []) in
      let pattern_own = when_reads type.pattern 0 Pattern Pattern (λ n. code_of (same_number n) pattern_codes) pattern_reads pattern r7 r8 p in
      subst (λ (t : TypeBits). Reads (PlainMacroblock head given) now (bits_of_type head given t said levels)) (typed head given type field_motion field_dct scale forward backward pattern levels blocks.0)
      (whole_reads
      (code_there same_type (type_codes head.pic) (types_written head.pic) type r0 r1 a)
      (when_reads (sends_motion_type head type) false MotionType MotionType motion_type_bits motion_type_reads field_motion r1 r2 b)
      (when_reads (sends_dct_type head type) false Flag Flag (λ v. v ∷ []) (λ v bits rest h. reads_flag v) field_dct r2 r3 c)
      (when_reads type.quant given.scale ScaleCode ScaleCode (digits 5) scale_reads scale r3 r4 d)
      (sides_reads head given.predictors said 0 field_motion (type.forward || has_concealment head type) r4 r5 can.forward can.near_forward f)
      (sides_reads head given.predictors said 1 field_motion type.backward r5 r6 can.backward can.near_backward g)
      (when_reads (has_concealment head type) tt Marker Marker (λ v. true ∷ []) marker_reads tt r6 r7 k)
      inside
      (subst (λ (z : List Bool). Reads (When type.pattern 0 Pattern) pattern z) blocks.1 pattern_own)
      own)

pub macroblock_reads : (head : Head) (given : Given) (m : CodedMacroblock) (bits rest : List Bool) → CanBeWritten head given m → Macroblock head given bits (Ok (m, rest)) → Reads (PlainMacroblock head given) m (macroblock_bits head given m)
macroblock_reads head given m bits rest can h =
    let a = read_first (m, rest) h in
    let b = read_first (m, rest) a.3 in
    let c = read_first (m, rest) b.3 in
    let d = read_first (m, rest) c.3 in
    let f = read_first (m, rest) d.3 in
    let g = read_first (m, rest) f.3 in
    let k = read_first (m, rest) g.3 in
    let inside = read_first (m, rest) k.3 in
    let p = read_first (m, rest) inside.3 in
    let l = read_first (m, rest) p.3 in
    let e = value_is _ _ _ _ l.3 in
    let pattern = subst (λ (z : List Bool). When {W = Why} a.0.pattern 0 Pattern z (Ok (p.0, p.1))) inside.2.1 p.2 in
    let can_now = subst (λ (z : CodedMacroblock). CanBeWritten head given z) e can in
    let whole = parts_reads head given a.0 b.0 c.0 d.0 f.0 g.0 p.0 l.0 bits a.1 b.1 c.1 d.1 f.1 g.1 k.1 p.1 l.1 can_now a.2 b.2 c.2 d.2 f.2 g.2 k.2 inside.2.0 pattern l.2 in
    subst (λ (z : CodedMacroblock). Reads (PlainMacroblock head given) z (macroblock_bits head given z)) (sym e) whole
