use Rattle.cut_list.proofs.ListLemmas.{lines_at, lines_none}
use Rattle.cut_list.proofs.list.first_line.Goals as goal

pub returns-in-Some-clause-parts : goal.returns-in-Some-clause-parts
returns-in-Some-clause-parts c = lines_at c.in-Some.end c.args.text.now c.in-Some.ensures

pub returns-in-None-clause-parts : goal.returns-in-None-clause-parts
returns-in-None-clause-parts c = lines_none c.args.text.now c.in-None.ensures
