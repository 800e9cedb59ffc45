use Rattle.std.specs.Prelude.{option_copied}
use Rattle.mv_ends.specs.Moves.{AppendsFront}
use Rattle.mv_terms.specs.UnitLists.{lent_unit}
use Rattle.job_decode.proofs.Works.{takes, takes_whole}
use Rattle.job_decode.proofs.work.step.Goals as goal

pub returns-in-Err-write_due-clause-steps : goal.returns-in-Err-write_due-clause-steps
returns-in-Err-write_due-clause-steps g c before may is =
    takes c.args.work.now c.decode_unit.new.work before (lent_unit c.args.unit.now) c.in-Ok.shown c.args.first (option_copied c.context.result)
    (λ s. AppendsFront (g.O.Sink.told c.args.out.now).written (g.O.Sink.told c.write_due.new.out).written s) may.stands is (c.in-Ok.ensures before may) c.context.ensures.value c.in-Err-write_due.ensures.front

pub returns-clause-steps : goal.returns-clause-steps
returns-clause-steps g c before may is =
    takes_whole c.args.work.now c.decode_unit.new.work c.keep.new.work before (lent_unit c.args.unit.now) c.in-Ok.shown c.args.first (option_copied c.context.result)
    (g.O.Sink.told c.args.out.now).written (g.O.Sink.told c.write_due.new.out).written may.stands is (c.in-Ok.ensures before may) c.context.ensures.value c.in-Ok-write_due.ensures.sent c.keep.ensures
