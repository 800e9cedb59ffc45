use Rattle.std.proofs.Common.{List, ℕ, arith, subst}
use Rattle.sha2.specs.Hashers.{Holds256}
use Rattle.rec_bury.proofs.PieceLemmas.{line_joined, piece_joined}
use Rattle.rec_bury.proofs.seals.hash_line.Goals as goal

pub returns-then-first-wide : goal.returns-then-first-wide
returns-then-first-wide c = λ before.
    subst (λ (m : List ℕ). Holds256 c.update.new.self m)
    (line_joined c.args.wide c.args.high c.args.frame.now c.args.y (λ k. let fits = c.type_inv.frame k in omega arith) c.requires.size c.requires.line c.if-first-wide.true)
    (c.update.ensures _ before)

pub macroblocks-preserved : goal.macroblocks-preserved
macroblocks-preserved c = λ before.
    subst (λ (m : List ℕ). Holds256 c.update-in-macroblocks.new.self m)
    (piece_joined c.args.wide c.args.high c.args.frame.now c.args.y c.macroblocks.x c.eight_at-piece.result c.has_seal-clear.result (λ k. let fits = c.type_inv.frame k in omega arith) c.requires.line c.macroblocks-test.true c.has_seal-clear.ensures c.eight_at-piece.ensures)
    (c.update-in-macroblocks.ensures _ (c.macroblocks.invariant before))
