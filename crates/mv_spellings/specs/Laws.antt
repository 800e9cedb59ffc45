-- What is promised of plain readings, and of the bytes that are read plainly.
use Rattle.std.specs.Prelude.{◌≡◌, ℕ, Bool, List, ℤ, Ok}
use Rattle.mv_terms.specs.declared.head.Head.{Head}
use Rattle.mv_terms.specs.declared.macroblock.Vector.{Vector}
use Rattle.mv_terms.specs.declared.macroblock.Decision.{Decision}
use Rattle.mv_terms.specs.declared.macroblock.MacroLevels.{MacroLevels}
use Rattle.mv_blocks.specs.declared.block.BlockCode.{BlockCode}
use Rattle.mv_blocks.specs.Blocks.{Block}
use Rattle.mv_blocks.specs.Written.{block_bits}
use Rattle.mv_vectors.specs.Vectors.{Component, directed}
use Rattle.mv_vectors.specs.Written.{component_bits, direction_bits}
use Rattle.mv_macro.specs.Past.{CodedMacroblock, Given}
use Rattle.mv_macro.specs.Macroblocks.{Macroblock}
use Rattle.mv_macro.specs.Written.{macroblock_bits}
use Rattle.mv_slices.specs.Canonical.{settled, canonical_slices}
use Rattle.mv_spellings.specs.Front.{IsInFront}
use Rattle.mv_spellings.specs.Vectors.{PlainComponent, PlainDirection}
use Rattle.mv_spellings.specs.Blocks.{PlainBlock}
use Rattle.mv_spellings.specs.Macroblocks.{PlainMacroblock}
use Rattle.mv_spellings.specs.Slices.{IsPlain}

-- LAWS: what is read plainly as a component, a block or a macroblock is read as it;
abbrev pub PlainComponentsAreRead : Type 0
PlainComponentsAreRead =
    (code : ℕ) (prediction v : ℤ) (bits rest : List Bool)
    → PlainComponent code prediction bits (Ok (v, rest))
    → Component code prediction bits (Ok (v, rest))

abbrev pub PlainBlocksAreRead : Type 0
PlainBlocksAreRead =
    (code : BlockCode) (predictor : ℤ) (levels : List ℤ) (bits rest : List Bool)
    → PlainBlock code predictor bits (Ok (levels, rest))
    → Block code predictor bits (Ok (levels, rest))

abbrev pub PlainMacroblocksAreRead : Type 0
PlainMacroblocksAreRead =
    (head : Head) (given : Given) (m : CodedMacroblock) (bits rest : List Bool)
    → PlainMacroblock head given bits (Ok (m, rest)) → Macroblock head given bits (Ok (m, rest))

-- the bits that are read plainly as a component are its canonical bits, whatever its prediction;
abbrev pub ComponentsAreCanonical : Type 0
ComponentsAreCanonical =
    (code : ℕ) (prediction v : ℤ) (bits rest : List Bool)
    → PlainComponent code prediction bits (Ok (v, rest))
    → IsInFront (component_bits code prediction v) bits rest

-- those of the selects and vectors of a direction are the canonical ones of each decision that has them;
abbrev pub DirectionsAreCanonical : Type 0
DirectionsAreCanonical =
    (head : Head) (predictors : List (List Vector)) (d : Decision) (s : ℕ) (field : Bool)
    (bits rest : List Bool)
    → PlainDirection head predictors s field bits (Ok (directed d s, rest))
    → IsInFront (direction_bits head predictors d s field) bits rest

-- those that are read plainly as a block are the canonical bits of its levels;
abbrev pub BlocksAreCanonical : Type 0
BlocksAreCanonical =
    (code : BlockCode) (predictor : ℤ) (levels : List ℤ) (bits rest : List Bool)
    → PlainBlock code predictor bits (Ok (levels, rest))
    → IsInFront (block_bits code predictor levels) bits rest

-- and those that are read plainly as a macroblock behind its increment are its canonical bits.
abbrev pub MacroblocksAreCanonical : Type 0
MacroblocksAreCanonical =
    (head : Head) (given : Given) (m : CodedMacroblock) (bits rest : List Bool)
    → PlainMacroblock head given bits (Ok (m, rest))
    → IsInFront (macroblock_bits head given m) bits rest

-- LAWS: the canonical slices of a picture meet the demands, and are coded by its settled decisions and its levels;
abbrev pub AreCanonicalSlicesPlain : Head → List Decision → List MacroLevels → Type 0
AreCanonicalSlicesPlain head decisions levels =
    IsPlain head (canonical_slices head decisions levels) (settled head decisions levels) levels

-- no other list of bytes does.
abbrev pub NoOthersArePlain : Head → List Decision → List MacroLevels → Type 0
NoOthersArePlain head decisions levels =
    (bytes : List ℕ) → IsPlain head bytes (settled head decisions levels) levels
    → bytes ≡ canonical_slices head decisions levels
