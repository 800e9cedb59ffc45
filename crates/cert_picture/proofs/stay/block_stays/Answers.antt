use Rattle.std.proofs.Common.{sym}
use Rattle.cert_picture.specs.Steps.{block_samples, sample_at}
use Rattle.cert_picture.proofs.NearestLemmas.{absent_found, stays_like}
use Rattle.cert_picture.proofs.stay.block_stays.Goals as goal

pub returns-then-is_absent : goal.returns-then-is_absent
returns-then-is_absent c stays =
    absent_found c.args.kind.now c.args.levels.now (block_samples c.args.picture.now c.args.field_dct c.args.mb_x c.args.mb_y c.args.b) (sym c.if-is_absent.ensures)

pub surely_stay-requires-clause-alone : goal.surely_stay-requires-clause-alone
surely_stay-requires-clause-alone c = c.requires.alone c.in-Some.size c.in-Some.is

pub returns-in-Some : goal.returns-in-Some
returns-in-Some c stays =
    stays_like c.args.kind.now c.args.levels.now (sample_at c.samples_of.result) (block_samples c.args.picture.now c.args.field_dct c.args.mb_x c.args.mb_y c.args.b)
    c.samples_of.ensures (c.surely_stay.ensures stays)
