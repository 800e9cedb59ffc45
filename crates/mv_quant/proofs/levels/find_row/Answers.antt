use Rattle.std.proofs.Common.{◌≡◌, ◌+◌, ◌*◌, arith, to_z, of_z, w16}
use Rattle.std.proofs.lemmas.Int.{to_z-of_z}
use Rattle.mv_quant.proofs.RowLemmas.{found_row, found_more}
use Rattle.mv_quant.proofs.levels.find_row.Goals as goal

pub returns-then-has_no_excess : goal.returns-then-has_no_excess
returns-then-has_no_excess c =
    found_row c.args.kind.now c.args.coefs.now c.args.levels.now c.args.row c.requires.row c.requires.before
    (λ j h. c.requires.small (8 * c.args.row + j) (omega (arith, c.requires.row)) (c.has_no_excess.ensures c.if-has_no_excess.true j h))

pub loop-j-preserved : goal.loop-j-preserved
loop-j-preserved c =
    let same : to_z w16 (of_z w16 c.level_at.result) ≡ c.level_at.result = grind (arith, to_z-of_z) in
    rw same (found_more c.args.kind.now c.args.coefs.now c.loop-j.levels (8 * c.args.row + c.loop-j.j) (8 * c.args.row + (c.loop-j.j + 1)) c.level_at.result c.loop-j.invariant (omega (arith, c.requires.row, c.loop-j-test.true)) c.level_at.ensures (omega arith))
