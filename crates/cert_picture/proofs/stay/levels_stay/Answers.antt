use Rattle.std.proofs.Common.{◌≡◌, ◌*◌, ◌∙◌, ap, arith}
use Rattle.std.proofs.Math.Nat.{mul_comm}
use Rattle.cert_picture.proofs.StayLemmas.{one_differs, all_stay}
use Rattle.cert_picture.proofs.stay.levels_stay.Goals as goal

pub returns-then-not-macroblock_stays : goal.returns-then-not-macroblock_stays
returns-then-not-macroblock_stays c =
    one_differs c.args.coded.now c.requires c.macroblocks.mb_x c.rows.mb_y c.macroblock_stays.result c.macroblocks-test.true c.rows-test.true c.if-not-macroblock_stays.true c.macroblock_stays.ensures

pub returns : goal.returns
returns c =
    let end : c.rows.mb_y ≡ c.args.coded.now.head.now.mb_high = omega (arith, c.rows-test.false) in
    all_stay c.args.coded.now c.requires (c.rows.mb_y * c.args.coded.now.head.now.mb_wide)
    (ap (λ n. n * c.args.coded.now.head.now.mb_wide) end ∙ mul_comm c.args.coded.now.head.now.mb_high c.args.coded.now.head.now.mb_wide) c.rows.invariant
