use Rattle.std.proofs.Common.{List, ap, sym, subst, ◌∙◌}
use Rattle.mv_terms.specs.declared.macroblock.MacroLevels.{MacroLevels}
use Rattle.mv_planes.specs.References.{references_lent}
use Rattle.mv_slices.specs.CanonicalLaws.{IsLegalPicture}
use Rattle.cert_picture.specs.Steps.{are_canonical}
use Rattle.cert_picture.proofs.CertifyingLemmas.{same_answer, nearest_is_legal}
use Rattle.cert_picture.proofs.ReconstructLemmas.{legal_can_be_reconstructed}
use Rattle.cert_picture.proofs.certifying.certify.Goals as goal

pub requantise-requires-clause-macroblocks : goal.requantise-requires-clause-macroblocks
requantise-requires-clause-macroblocks c = record {
  decisions = c.requires.decisions.size;
  levels = c.requires.spare;
}

pub requantise-requires-clause-decisions : goal.requantise-requires-clause-decisions
requantise-requires-clause-decisions c =
    legal_can_be_reconstructed c.args.coded.now.head.now c.args.coded.now.decisions.now c.requires.decisions

pub are_canonical-requires-clause-legal : goal.are_canonical-requires-clause-legal
are_canonical-requires-clause-legal c =
    let coded = c.args.coded.now in
    subst (λ (l : List MacroLevels). IsLegalPicture coded.head.now coded.decisions.now l) (sym c.requantise.ensures)
    (nearest_is_legal coded.head.now coded.decisions.now coded.picture.now (references_lent coded.refs) c.requires.head c.requires.decisions)

pub returns : goal.returns
returns c p made =
    let coded = c.args.coded.now in
    c.are_canonical.ensures
    ∙ ap (λ (l : List MacroLevels). are_canonical coded.head.now coded.decisions.now l c.args.slices.now c.args.zeros) c.requantise.ensures
    ∙ same_answer p coded.head.now coded.decisions.now coded.picture.now (references_lent coded.refs) c.args.slices.now c.args.zeros made.head made.decisions made.decoded made.references made.slices made.zeros
