-- Whether a picture uses its forward reference.
use Rattle.std.specs.Prelude.{Bool, false, not, List}
use Rattle.std.specs.List.{list_any}
use Rattle.mv_terms.specs.declared.head.PicType.{PicType}
use Rattle.mv_terms.specs.declared.head.PicType.TheVariants as pic
use Rattle.mv_terms.specs.declared.macroblock.Decision.{Decision}

-- A P picture does where a macroblock isn't intra, since one without a vector is predicted too (H.262, 7.6.3.5 and
-- 7.6.6.2); a B picture does where a macroblock has the direction.
abbrev pub uses_forward : PicType → List Decision → Bool
uses_forward pic.I decisions = false
uses_forward pic.P decisions = list_any (λ d. not d.intra) decisions
uses_forward pic.B decisions = list_any (λ d. d.forward) decisions
