-- What is read plainly is read.
use Rattle.std.proofs.Common.{◌≡◌, ℕ, Bool, true, false, List, [], ◌∷◌, ap, ◌∙◌, inl, ℤ, pos, ◌+ℤ◌, Result, Ok}
use Rattle.std.specs.Prelude.{IsTrue, ◌||◌}
use Rattle.std.specs.Int.{int_div_euclid}
use Rattle.mv_terms.specs.declared.status.Why.{Why}
use Rattle.mv_terms.specs.declared.status.Why.TheVariants.{BadCode, BadVector}
use Rattle.mv_terms.specs.declared.head.Head.{Head}
use Rattle.mv_terms.specs.declared.macroblock.Vector.{Vector}
use Rattle.mv_terms.specs.Decisions.{vector, six, no_levels}
use Rattle.mv_bits.specs.Readings.{◌>>=◌, Gives, Flag, Demands, When}
use Rattle.mv_bits.specs.Runs.{Runs}
use Rattle.mv_blocks.specs.declared.block.BlockCode.{BlockCode}
use Rattle.mv_blocks.specs.declared.block.Pair.{Pair}
use Rattle.mv_blocks.specs.Blocks.{At, StepsPair, Pairs, DcLevel, BlockBy, Block, level_at, intra_level_at}
use Rattle.mv_blocks.specs.Raster.{in_raster}
use Rattle.mv_vectors.specs.Vectors.{Component, FrameVector, FieldVector, DirectionFrom, Direction, undirected, predictor_at, f_code, f_of, delta, wrapped, frame_directed, field_directed}
use Rattle.mv_vectors.proofs.RangeLaws.{read_first}
use Rattle.mv_codes.specs.Tables.{CodeOf}
use Rattle.mv_codes.specs.Types.{type_codes}
use Rattle.mv_vectors.specs.Inside.{is_inside}
use Rattle.mv_macro.specs.Past.{Given, coded, dc_level}
use Rattle.mv_macro.specs.Macroblocks.{PatternBlock, Blocks, Macroblock, is_coded, block_code, predictor_of, MotionType, ScaleCode, Marker, Pattern, decided, sends_motion_type, sends_dct_type, has_concealment}
use Rattle.mv_spellings.specs.Vectors.{PlainComponent, PlainFrameVector, PlainFieldVector, PlainDirectionFrom, PlainDirection}
use Rattle.mv_spellings.specs.Blocks.{StepsPlainPair, PlainPairs, PlainBlockBy, PlainBlock}
use Rattle.mv_spellings.specs.Macroblocks.{PlainPatternBlock, PlainBlocks, PlainMacroblock}

-- what the one reading gives, the other one gives too
pub record IsWithin {A : Type 0} (plain full : List Bool → Result (A × List Bool) Why → Type 0) : Type 0 where
  pub gives : (bits : List Bool) (value : A) (rest : List Bool) → plain bits (Ok (value, rest)) → full bits (Ok (value, rest))

itself : {A : Type 0} (reading : List Bool → Result (A × List Bool) Why → Type 0) → IsWithin reading reading
itself reading = record { gives = λ bits value rest h. h }

module _ {A B : Type 0} (plain full : List Bool → Result (A × List Bool) Why → Type 0) (plain_then full_then : A → List Bool → Result (B × List Bool) Why → Type 0) where
  within_then : IsWithin plain full → ((v : A) → IsWithin (plain_then v) (full_then v)) → IsWithin (plain >>= plain_then) (full >>= full_then)
  within_then a b = record { gives = λ bits w rest h. (let v = read_first (w, rest) h in inl (v.0, v.1, a.gives bits v.0 v.1 v.2, (b v.0).gives v.1 w rest v.3)) }

within_when : {A : Type 0} (is : Bool) (default : A) (plain full : List Bool → Result (A × List Bool) Why → Type 0) → IsWithin plain full → IsWithin (When is default plain) (When is default full)
within_when true default plain full h = record { gives = λ bits v rest p. h.gives bits v rest p }
within_when false default plain full h = record { gives = λ bits v rest p. p }

-- ---- vectors

pub component_within : (code : ℕ) (prediction : ℤ) → IsWithin (PlainComponent code prediction) (Component code prediction)
component_within code prediction = record { gives = go } where
  go : (bits : List Bool) (v : ℤ) (rest : List Bool) → PlainComponent code prediction bits (Ok (v, rest)) → Component code prediction bits (Ok (v, rest))
  go bits v rest h =
      let motion = read_first (v, rest) h in
      let residual = read_first (v, rest) motion.3 in
      let plain = read_first (v, rest) residual.3 in
      let at : List Bool → Result (ℤ × List Bool) Why = λ z. Ok (wrapped (f_of code) (prediction +ℤ delta (f_of code) motion.0 residual.0), z) in
      let same : ◌≡◌ {A = Result (ℤ × List Bool) Why} (Ok (v, rest)) (at residual.1) = plain.3 ∙ ap at plain.2.1 in
      inl (motion.0, motion.1, motion.2, inl (residual.0, residual.1, residual.2, same))

module _ (head : Head) (s : ℕ) where
  frame_within : (predictor : Vector) → IsWithin (PlainFrameVector head s predictor) (FrameVector head s predictor)
  frame_within predictor =
      within_then _ _ _ _ (component_within (f_code head s 0) predictor.x) (λ x. within_then _ _ _ _ (component_within (f_code head s 1) predictor.y) (λ y. itself (Gives (vector x y))))

  field_within : (predictor : Vector) → IsWithin (PlainFieldVector head s predictor) (FieldVector head s predictor)
  field_within predictor =
      within_then _ _ _ _ (itself Flag) (λ select. within_then _ _ _ _ (component_within (f_code head s 0) predictor.x)
      (λ x. within_then _ _ _ _ (component_within (f_code head s 1) (int_div_euclid predictor.y (pos 2))) (λ y. itself (Gives (select, vector x y)))))

  direction_within : (p q : Vector) (field : Bool) → IsWithin (PlainDirectionFrom head s p q field) (DirectionFrom head s p q field)
  direction_within p q false = within_then _ _ _ _ (frame_within p) (λ v. itself (Gives (frame_directed v)))
  direction_within p q true = within_then _ _ _ _ (field_within p) (λ a. within_then _ _ _ _ (field_within q) (λ b. itself (Gives (field_directed a b))))

-- ---- blocks

runs_within : (code : BlockCode) (ps : List Pair) (s t : At) → Runs (StepsPlainPair code) ps s t → Runs (StepsPair code) ps s t
runs_within code [] s t r = r
runs_within code (p ∷ ps) s t (u, step, later) = (u, step.reads, runs_within code ps u t later)

pairs_within : (code : BlockCode) (start : ℕ) → IsWithin (PlainPairs code start) (Pairs code start)
pairs_within code start = record { gives = λ bits ps rest h. record { last = h.last; run = runs_within code ps _ h.last h.run; stopped = h.stopped } }

block_by_within : (intra : Bool) (code : BlockCode) (predictor : ℤ) → IsWithin (PlainBlockBy intra code predictor) (BlockBy intra code predictor)
block_by_within true code predictor =
    within_then _ _ _ _ (itself (DcLevel code predictor)) (λ dc. within_then _ _ _ _ (pairs_within code 1) (λ ps. itself (Gives (in_raster code.alternate (intra_level_at dc ps)))))
block_by_within false code predictor = within_then _ _ _ _ (pairs_within code 0) (λ ps. itself (Gives (in_raster code.alternate (level_at 0 ps))))

pub block_within : (code : BlockCode) (predictor : ℤ) → IsWithin (PlainBlock code predictor) (Block code predictor)
block_within code predictor = block_by_within code.intra code predictor

-- ---- a macroblock

module _ (head : Head) where
  pattern_block_within : (luma : Bool) (pattern worth : ℕ) → IsWithin (PlainPatternBlock head luma pattern worth) (PatternBlock head luma pattern worth)
  pattern_block_within luma pattern worth = within_when (is_coded pattern worth) no_levels _ _ (block_within (block_code head false luma) (pos 0))

  blocks_within : (dc : List ℤ) (intra : Bool) (pattern : ℕ) → IsWithin (PlainBlocks head dc intra pattern) (Blocks head dc intra pattern)
  blocks_within dc true pattern =
      within_then _ _ _ _ (block_within (luma true) (predictor_of dc 0)) (λ y0. within_then _ _ _ _ (block_within (luma true) (dc_level y0)) (λ y1. within_then _ _ _ _ (block_within (luma true) (dc_level y1))
      (λ y2. within_then _ _ _ _ (block_within (luma true) (dc_level y2)) (λ y3. within_then _ _ _ _ (block_within (luma false) (predictor_of dc 1)) (λ cb. within_then _ _ _ _ (block_within (luma false) (predictor_of dc 2))
      (λ cr. itself (Gives (six y0 y1 y2 y3 cb cr))))))))
    where
      luma : Bool → BlockCode
      luma is = block_code head true is
  blocks_within dc false pattern =
      within_then _ _ _ _ (pattern_block_within true pattern 32) (λ y0. within_then _ _ _ _ (pattern_block_within true pattern 16) (λ y1. within_then _ _ _ _ (pattern_block_within true pattern 8)
      (λ y2. within_then _ _ _ _ (pattern_block_within true pattern 4) (λ y3. within_then _ _ _ _ (pattern_block_within false pattern 2) (λ cb. within_then _ _ _ _ (pattern_block_within false pattern 1) (λ cr. itself (Gives (six y0 y1 y2 y3 cb cr))))))))

  sides_within : (predictors : List (List Vector)) (s : ℕ) (is field : Bool) → IsWithin (When is undirected (PlainDirection head predictors s field)) (When is undirected (Direction head predictors s field))
  sides_within predictors s is field = within_when is undirected _ _ (direction_within head s (predictor_at predictors s 0) (predictor_at predictors s 1) field)

  pub macroblock_within : (given : Given) → IsWithin (PlainMacroblock head given) (Macroblock head given)
  macroblock_within given =
      within_then _ _ _ _ (itself (CodeOf (type_codes head.pic) BadCode)) (λ type.
      within_then _ _ _ _ (itself (When (sends_motion_type head type) false MotionType)) (λ field_motion.
      within_then _ _ _ _ (itself (When (sends_dct_type head type) false Flag)) (λ field_dct.
      within_then _ _ _ _ (itself (When type.quant given.scale ScaleCode)) (λ scale.
      within_then _ _ _ _ (sides_within given.predictors 0 (type.forward || has_concealment head type) field_motion) (λ forward.
      within_then _ _ _ _ (sides_within given.predictors 1 type.backward field_motion) (λ backward.
      within_then _ _ _ _ (itself (When (has_concealment head type) tt Marker)) (λ marker.
      within_then _ _ _ _ (itself (Demands (IsTrue (is_inside head given.mb_x given.mb_y (decided given type field_motion field_dct scale forward backward))) BadVector)) (λ inside.
      within_then _ _ _ _ (itself (When type.pattern 0 Pattern)) (λ pattern.
      within_then _ _ _ _ (blocks_within given.dc type.intra pattern) (λ blocks.
      itself (Gives (coded (decided given type field_motion field_dct scale forward backward) blocks))))))))))))
