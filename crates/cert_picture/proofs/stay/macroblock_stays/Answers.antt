use Rattle.std.proofs.Common.{refl, sym, subst}
use Rattle.mv_terms.specs.Ranges.{HasLegalScales}
use Rattle.mv_planes.specs.References.{references_lent}
use Rattle.mv_vectors.specs.Predictable.{CanBePredicted}
use Rattle.cert_picture.specs.Certifying.{coded_lent}
use Rattle.cert_picture.proofs.StayLemmas.{has_width, has_height, decision_is, levels_are, reconstructed, surely, from_predicted, exactly}
use Rattle.cert_picture.proofs.stay.macroblock_stays.Goals as goal

pub kind_of-kind-requires : goal.kind_of-kind-requires
kind_of-kind-requires c =
    let r = c.requires in
    let d = decision_is c.args.coded.now r.decoded r.bytes c.args.mb_x c.args.mb_y r.across r.down c.from.result c.from-2.result c.from-3.result c.from.ensures c.from-2.ensures c.from-3.ensures _ in
    subst HasLegalScales (sym d) (reconstructed c.args.coded.now r.decoded r.bytes c.args.mb_x c.args.mb_y r.across r.down).scales

pub all_surely_stay-requires-clause-across : goal.all_surely_stay-requires-clause-across
all_surely_stay-requires-clause-across c = rw (c.from-x.ensures, has_width (references_lent c.args.coded.now.refs) (coded_lent c.args.coded.now) c.args.coded.now.picture.now c.requires.decoded.decoded) c.requires.across

pub all_surely_stay-requires-clause-down : goal.all_surely_stay-requires-clause-down
all_surely_stay-requires-clause-down c = rw (c.from-y.ensures, has_height (references_lent c.args.coded.now.refs) (coded_lent c.args.coded.now) c.args.coded.now.picture.now c.requires.decoded.decoded) c.requires.down

pub returns-then-all_surely_stay : goal.returns-then-all_surely_stay
returns-then-all_surely_stay c =
    let r = c.requires in
    let d = decision_is c.args.coded.now r.decoded r.bytes c.args.mb_x c.args.mb_y r.across r.down c.from.result c.from-2.result c.from-3.result c.from.ensures c.from-2.ensures c.from-3.ensures _ in
    let l = levels_are c.args.coded.now r.decoded r.bytes c.args.mb_x c.args.mb_y r.across r.down c.from.result c.from-2.result c.from-3.result c.from.ensures c.from-2.ensures c.from-3.ensures _ in (
      λ _. surely c.args.coded.now r.decoded r.bytes c.args.mb_x c.args.mb_y r.across r.down _ _ c.kind_of-kind.result c.from-x.result c.from-y.result d l c.kind_of-kind.ensures.kind c.from-x.ensures c.from-y.ensures (c.if-all_surely_stay.ensures refl),
      λ _. refl,
    )

pub predict-requires-clause-decision : goal.predict-requires-clause-decision
predict-requires-clause-decision c =
    let r = c.requires in
    let d = decision_is c.args.coded.now r.decoded r.bytes c.args.mb_x c.args.mb_y r.across r.down c.from.result c.from-2.result c.from-3.result c.from.ensures c.from-2.ensures c.from-3.ensures _ in
    subst (CanBePredicted c.args.coded.now.head.now c.args.mb_x c.args.mb_y) (sym d) (reconstructed c.args.coded.now r.decoded r.bytes c.args.mb_x c.args.mb_y r.across r.down).predicted

pub all_are_found-requires-clause-across : goal.all_are_found-requires-clause-across
all_are_found-requires-clause-across c = rw (c.from-x.ensures, has_width (references_lent c.args.coded.now.refs) (coded_lent c.args.coded.now) c.args.coded.now.picture.now c.requires.decoded.decoded) c.requires.across

pub all_are_found-requires-clause-down : goal.all_are_found-requires-clause-down
all_are_found-requires-clause-down c = rw (c.from-y.ensures, has_height (references_lent c.args.coded.now.refs) (coded_lent c.args.coded.now) c.args.coded.now.picture.now c.requires.decoded.decoded) c.requires.down

pub all_are_found-requires-clause-decoded : goal.all_are_found-requires-clause-decoded
all_are_found-requires-clause-decoded c =
    let r = c.requires in
    let d = decision_is c.args.coded.now r.decoded r.bytes c.args.mb_x c.args.mb_y r.across r.down c.from.result c.from-2.result c.from-3.result c.from.ensures c.from-2.ensures c.from-3.ensures _ in
    let l = levels_are c.args.coded.now r.decoded r.bytes c.args.mb_x c.args.mb_y r.across r.down c.from.result c.from-2.result c.from-3.result c.from.ensures c.from-2.ensures c.from-3.ensures _ in
    from_predicted c.args.coded.now r.decoded r.bytes c.args.mb_x c.args.mb_y r.across r.down _ _ c.kind_of-kind.result c.from-x.result c.from-y.result d l c.kind_of-kind.ensures.kind c.from-x.ensures c.from-y.ensures c.predict.new.out.blocks c.predict.ensures

pub returns : goal.returns
returns c =
    let r = c.requires in
    let d = decision_is c.args.coded.now r.decoded r.bytes c.args.mb_x c.args.mb_y r.across r.down c.from.result c.from-2.result c.from-3.result c.from.ensures c.from-2.ensures c.from-3.ensures _ in
    let l = levels_are c.args.coded.now r.decoded r.bytes c.args.mb_x c.args.mb_y r.across r.down c.from.result c.from-2.result c.from-3.result c.from.ensures c.from-2.ensures c.from-3.ensures _ in
    exactly c.args.coded.now r.decoded r.bytes c.args.mb_x c.args.mb_y r.across r.down _ _ c.kind_of-kind.result c.from-x.result c.from-y.result d l c.kind_of-kind.ensures.kind c.from-x.ensures c.from-y.ensures c.predict.new.out.blocks c.predict.ensures c.all_are_found.result c.all_are_found.ensures
