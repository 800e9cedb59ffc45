use Rattle.mv_codes.specs.Patterns.{pattern_codes}
use Rattle.mv_codes.proofs.TableLaws.{reads_whatever, reads_below}
use Rattle.mv_codes.proofs.TableFacts.{patterns_apart, patterns_small}
use Rattle.mv_codes.proofs.LookUpFacts.{patterns_found}
use Rattle.mv_codes.proofs.pattern.read_pattern.Goals as goal

pub returns-clause-reads : goal.returns-clause-reads
unfolding pattern_codes
returns-clause-reads c = c.read.ensures

pub returns-clause-whatever : goal.returns-clause-whatever
unfolding pattern_codes
returns-clause-whatever c = reads_whatever pattern_codes patterns_apart c.args.w.now c.read.new.w c.read.result c.read.ensures

pub returns-clause-bound : goal.returns-clause-bound
unfolding pattern_codes
returns-clause-bound c = reads_below pattern_codes 64 patterns_small c.args.w.now c.read.new.w c.read.result c.read.ensures

pub read-requires-clause-look_up : goal.read-requires-clause-look_up
unfolding pattern_codes
read-requires-clause-look_up c = patterns_found
