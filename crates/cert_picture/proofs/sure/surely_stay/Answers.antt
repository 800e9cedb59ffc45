use Rattle.std.proofs.Common.{◌≡◌, ◌∙◌, ℕ, ap, subst}
use Rattle.mv_quant.specs.Steps.{dc_size}
use Rattle.cert_picture.specs.Steps.{first_coefficient}
use Rattle.cert_picture.proofs.SureLemmas.{inter_stays, intra_stays}
use Rattle.cert_picture.proofs.sure.surely_stay.Goals as goal

pub returns-then-not-kind : goal.returns-then-not-kind
returns-then-not-kind c stays =
    inter_stays c.args.samples.now c.args.levels.now c.args.kind.now c.args.size c.requires.alone c.requires.present
    (c.are_uncut.ensures c.if-not-are_uncut.false) (c.are_up_to.ensures c.if-not-are_up_to.false) c.if-not-kind.true

pub returns : goal.returns
returns c stays =
    intra_stays c.args.samples.now c.args.levels.now c.args.kind.now c.args.size c.requires.alone c.requires.present
    (c.are_uncut.ensures c.if-not-are_uncut.false) (c.are_up_to.ensures c.if-not-are_up_to.false)
    c.first_size.result c.if-not-kind.false c.requires.precision c.first_size.ensures
    (λ top. (let sum = c.sum_of.ensures.value in let value = c.first_coefficient-coefficient.ensures.value in subst (λ (n : ℕ). dc_size c.args.kind.now.dc_precision n ≡ c.first_size.result) (value ∙ ap first_coefficient sum) (c.is_first.ensures stays top)))
