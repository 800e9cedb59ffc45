use Rattle.std.proofs.Common.{inl, inr, refl, rules, w16}
use Rattle.std.proofs.lemmas.Int.{to_z-of_z}
use Rattle.std.proofs.lemmas.Result.{err_from_is_err_and}
use Rattle.mv_blocks.proofs.PairLemmas.{intra_done}
use Rattle.mv_blocks.proofs.block.read_intra.Goals as goal

pub returns-in_err-level-clause-reads : goal.returns-in_err-level-clause-reads
returns-in_err-level-clause-reads c =
    let p = err_from_is_err_and c.from_residual.result c.from_residual.ensures.1 in
    rw (p.1, p.2) (inr (c.in_err-level.field-0.0, rw (to_z-of_z w16 c.args.dc.now (search rules)) at c.in_err-level.ensures, refl))

pub returns-in_err-read_pairs-clause-reads : goal.returns-in_err-read_pairs-clause-reads
returns-in_err-read_pairs-clause-reads c =
    let p = err_from_is_err_and c.from_residual-in_err-read_pairs.result c.from_residual-in_err-read_pairs.ensures.1 in
    let dc = rw (to_z-of_z w16 c.args.dc.now (search rules)) at c.in_ok-level.ensures in
    rw (p.1, p.2) (inl (c.in_ok-level.level, c.read_dc_level.new.w, dc, inr (c.in_err-read_pairs.field-0.0, c.in_err-read_pairs.ensures, refl)))

pub returns-clause-reads : goal.returns-clause-reads
returns-clause-reads c =
    let dc = rw (to_z-of_z w16 c.args.dc.now (search rules)) at c.in_ok-level.ensures in
    rw (to_z-of_z w16 c.in_ok-level.level (search rules))
    (intra_done c.args.code c.args.dc.now c.args.w.now c.in_ok-level.level c.read_dc_level.new.w c.read_pairs.new.w c.read_pairs.new.levels dc c.in_ok-read_pairs.ensures)
