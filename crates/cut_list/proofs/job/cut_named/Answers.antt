use Rattle.cut_list.proofs.JobLemmas.{unlisted_ends}
use Rattle.cut_list.proofs.job.cut_named.Goals as goal

pub returns-in-Err-clause-ends : goal.returns-in-Err-clause-ends
returns-in-Err-clause-ends g c = λ inputs told.
    unlisted_ends (g.S.Shelf.told c.args.shelf.now).named inputs c.args.list.now (g.O.Sink.told c.args.out.now).written c.in-Err.status told c.in-Err.ensures.refused
