use Rattle.std.proofs.Common.{List, ap, sym, ◌∙◌}
use Rattle.mv_terms.specs.declared.macroblock.MacroLevels.{MacroLevels}
use Rattle.mv_planes.specs.References.{references_lent}
use Rattle.cert_requant.specs.Requantised.{requantised}
use Rattle.cert_picture.specs.Steps.{are_canonical}
use Rattle.cert_picture.proofs.CertifyingLemmas.{same_answer, nearest_is_legal, others_differ, read_is_legal, was_decoded}
use Rattle.cert_picture.proofs.certifying.certify_decoded.Goals as goal

pub levels_stay-requires : goal.levels_stay-requires
levels_stay-requires c = was_decoded c.args.coded.now c.args.slices.now c.requires.head c.requires.coded c.requires.decoded c.requires.forward c.requires.backward

pub returns-then-not-levels_stay : goal.returns-then-not-levels_stay
returns-then-not-levels_stay c p made =
    let coded = c.args.coded.now in
    let refs = references_lent coded.refs in
    let nearest : List MacroLevels = requantised coded.head.now coded.decisions.now coded.picture.now refs in
    let legal = read_is_legal coded.head.now c.args.slices.now coded.decisions.now coded.levels.now c.requires.head c.requires.coded in
    others_differ coded.head.now coded.decisions.now coded.levels.now nearest c.args.slices.now c.args.zeros c.levels_stay.result
    (nearest_is_legal coded.head.now coded.decisions.now coded.picture.now refs c.requires.head legal.legal_decisions) c.requires.coded c.levels_stay.ensures c.if-not-levels_stay.true
    ∙ same_answer p coded.head.now coded.decisions.now coded.picture.now refs c.args.slices.now c.args.zeros made.head made.decisions made.decoded made.references made.slices made.zeros

pub are_canonical-requires-clause-legal : goal.are_canonical-requires-clause-legal
are_canonical-requires-clause-legal c = read_is_legal c.args.coded.now.head.now c.args.slices.now c.args.coded.now.decisions.now c.args.coded.now.levels.now c.requires.head c.requires.coded

pub returns : goal.returns
returns c p made =
    let coded = c.args.coded.now in
    let refs = references_lent coded.refs in
    c.are_canonical.ensures
    ∙ ap (λ (l : List MacroLevels). are_canonical coded.head.now coded.decisions.now l c.args.slices.now c.args.zeros) (sym (c.levels_stay.ensures.0 c.if-not-levels_stay.false))
    ∙ same_answer p coded.head.now coded.decisions.now coded.picture.now refs c.args.slices.now c.args.zeros made.head made.decisions made.decoded made.references made.slices made.zeros
