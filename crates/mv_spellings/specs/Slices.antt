-- The plain reading of the slices of a picture (H.262, 6.1.2, 6.2.4 and 6.2.5): that of `mv_slices` with plain
-- macroblocks, where a slice has no extra information, and fewer than eight zero bits behind its last macroblock.
use Rattle.std.specs.Prelude.{◌≡◌, ◌≢◌, ℕ, ◌+◌, ◌/◌, ◌%◌, ◌<◌, Bool, false, List, [], ◌∷◌, ◌++◌, length, replicate, reverse, Result, Ok}
use Rattle.mv_terms.specs.declared.status.Why.{Why}
use Rattle.mv_terms.specs.declared.status.Why.TheVariants.{BadSlice}
use Rattle.mv_terms.specs.declared.head.Head.{Head}
use Rattle.mv_terms.specs.declared.macroblock.Decision.{Decision}
use Rattle.mv_terms.specs.declared.macroblock.MacroLevels.{MacroLevels}
use Rattle.mv_bits.specs.Bits.{bits_of}
use Rattle.mv_bits.specs.Elements.{cut, code, payload}
use Rattle.mv_bits.specs.Packed.{without_last_zeros}
use Rattle.mv_bits.specs.Readings.{◌>>=◌, Gives, Field, Demands}
use Rattle.mv_bits.specs.Runs.{Ends}
use Rattle.mv_bits.specs.Writing.{AreBytes}
use Rattle.mv_bits.specs.Zeros.{zero_bytes}
use Rattle.mv_macro.specs.Past.{CodedMacroblock, Start, given, decisions_of, levels_of}
use Rattle.mv_slices.specs.Increment.{SkipCount}
use Rattle.mv_slices.specs.Slices.{At, at, SkippedMacroblocks, Slices}
use Rattle.mv_spellings.specs.Macroblocks.{PlainMacroblock}

-- DEMAND: behind quantiser_scale_code stands no extra information
abbrev pub PlainSliceHeader : List Bool → Result (ℕ × List Bool) Why → Type 0
PlainSliceHeader = do
  scale ← Field 5
  extra_bit ← Field 1
  plain ← Demands (extra_bit ≡ 0) BadSlice
  Gives scale

-- an increment, the macroblocks that it skips, and the one that is coded
abbrev pub PlainNextMacroblock : Head → Start → List CodedMacroblock
    → List Bool → Result (List CodedMacroblock × List Bool) Why → Type 0
PlainNextMacroblock head start past = do
  n ← SkipCount head (given head start past)
  now ← SkippedMacroblocks head start n past
  m ← PlainMacroblock head (given head start now)
  Gives (m ∷ now)

pub record StepsPlainMacroblock (head : Head) (start : Start) (s : At) (step : Unit {0}) (t : At)
    : Type 0 where
  pub reads : PlainNextMacroblock head start s.past s.bits (Ok (t.past, t.bits))

-- what stands behind the bytes of a slice
abbrev pub next_start_code : List ℕ
next_start_code = 0 ∷ 0 ∷ 1 ∷ []

-- DEMAND: in front of the next start code, fewer than eight zero bits stand behind the last macroblock
abbrev pub StopsPlainSlice : At → List CodedMacroblock → Type 0
StopsPlainSlice s past =
    (padding : ℕ)
    × (padding < 8)
    × (s.bits ≡ replicate padding false ++ bits_of next_start_code)
    × (s.past ≢ [])
    × (past ≡ s.past)

-- all macroblocks of a slice, the latest first
abbrev pub PlainMacroblocks : Head → Start → List Bool → List CodedMacroblock → Type 0
PlainMacroblocks head start bits past =
    (steps : List (Unit {0}))
    × Ends (StepsPlainMacroblock head start) StopsPlainSlice (at [] bits) steps past

-- the slice of an element, where so many macroblocks of the picture are covered
abbrev pub PlainSlice : Head → ℕ → List ℕ → List CodedMacroblock → Type 0
PlainSlice head covered element past =
    (scale : ℕ)
    × (behind : List Bool)
    × (code element ≡ covered / head.mb_wide + 1)
    × PlainSliceHeader (bits_of (payload element ++ next_start_code)) (Ok (scale, behind))
    × PlainMacroblocks head (record {
      scale = scale;
      mb_x = covered % head.mb_wide;
      mb_y = covered / head.mb_wide;
    }) behind past

-- the slices of a picture behind these macroblocks: all macroblocks of the picture, in order
abbrev pub PlainSlicesFrom : Head → List CodedMacroblock → List (List ℕ)
    → List CodedMacroblock → Type 0
PlainSlicesFrom head covered [] all = all ≡ covered
PlainSlicesFrom head covered (element ∷ elements) all =
    (past : List CodedMacroblock)
    × PlainSlice head (length covered) element past
    × PlainSlicesFrom head (covered ++ reverse past) elements all

-- Bytes of slices that are coded by these decisions and levels and meet the demands. The zero bytes that end the last
-- slice are dropped; with as many as were dropped, each slice has all its bits.
pub record IsPlain (head : Head) (bytes : List ℕ) (decisions : List Decision)
    (levels : List MacroLevels) : Type 0 where
  pub are_bytes : AreBytes bytes
  pub coded : Slices head bytes decisions levels
  pub ends : without_last_zeros bytes ≡ bytes
  pub dropped : ℕ
  pub all : List CodedMacroblock
  pub nothing_in_front : (cut (bytes ++ zero_bytes dropped)).front ≡ []
  pub plain : PlainSlicesFrom head [] (cut (bytes ++ zero_bytes dropped)).elements all
  pub decisions_are : decisions ≡ decisions_of all
  pub levels_are : levels ≡ levels_of all
