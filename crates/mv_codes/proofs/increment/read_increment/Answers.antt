use Rattle.mv_codes.specs.Increments.{increment_codes}
use Rattle.mv_codes.proofs.TableLaws.{reads_whatever}
use Rattle.mv_codes.proofs.TableFacts.{increments_apart}
use Rattle.mv_codes.proofs.LookUpFacts.{increments_found}
use Rattle.mv_codes.proofs.increment.read_increment.Goals as goal

pub returns-clause-reads : goal.returns-clause-reads
unfolding increment_codes
returns-clause-reads c = c.read.ensures

pub returns-clause-whatever : goal.returns-clause-whatever
unfolding increment_codes
returns-clause-whatever c = reads_whatever increment_codes increments_apart c.args.w.now c.read.new.w c.read.result c.read.ensures

pub read-requires-clause-look_up : goal.read-requires-clause-look_up
unfolding increment_codes
read-requires-clause-look_up c = increments_found
