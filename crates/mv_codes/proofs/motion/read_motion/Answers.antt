use Rattle.mv_codes.specs.Motions.{motion_codes}
use Rattle.mv_codes.proofs.TableLaws.{reads_whatever, reads_within}
use Rattle.mv_codes.proofs.TableFacts.{motions_apart, motions_small}
use Rattle.mv_codes.proofs.LookUpFacts.{motions_found}
use Rattle.mv_codes.proofs.motion.read_motion.Goals as goal

pub returns-clause-reads : goal.returns-clause-reads
unfolding motion_codes
returns-clause-reads c = c.read.ensures

pub returns-clause-whatever : goal.returns-clause-whatever
unfolding motion_codes
returns-clause-whatever c = reads_whatever motion_codes motions_apart c.args.w.now c.read.new.w c.read.result c.read.ensures

pub returns-clause-bound : goal.returns-clause-bound
unfolding motion_codes
returns-clause-bound c = reads_within motion_codes motions_small c.args.w.now c.read.new.w c.read.result c.read.ensures

pub read-requires-clause-look_up : goal.read-requires-clause-look_up
unfolding motion_codes
read-requires-clause-look_up c = motions_found
