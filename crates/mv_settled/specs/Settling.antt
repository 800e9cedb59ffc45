-- What is promised of settled decisions.
use Rattle.std.specs.Prelude.{◌≡◌, List, length}
use Rattle.mv_terms.specs.declared.head.Head.{Head}
use Rattle.mv_terms.specs.declared.macroblock.Decision.{Decision}
use Rattle.mv_terms.specs.declared.macroblock.MacroLevels.{MacroLevels}
use Rattle.mv_terms.specs.CodedPicture.{macroblocks}
use Rattle.mv_macro.specs.Legal.{AreLegalDecisions}
use Rattle.mv_slices.specs.Canonical.{settled}
use Rattle.mv_planes.specs.References.{References}
use Rattle.mv_recon.specs.Pictures.{picture_from}

-- LAW: legal decisions and the settled ones decode to the same picture, whatever its references and its levels are.
abbrev pub SettlingKeepsPicture : Type 0
SettlingKeepsPicture = (head : Head) (decisions : List Decision) (levels : List MacroLevels)
    (refs : References)
    → AreLegalDecisions head decisions → length levels ≡ macroblocks head
    → picture_from refs (record {
      head = head;
      decisions = settled head decisions levels;
      levels = levels;
    })
    ≡ picture_from refs (record { head = head; decisions = decisions; levels = levels })
