use Rattle.y4m_frames.proofs.WordLemmas.{before_colon, after_colon, before_none, after_none}
use Rattle.y4m_frames.proofs.header.at_colon.Goals as goal

pub returns-in-Some-clause-before : goal.returns-in-Some-clause-before
returns-in-Some-clause-before c = before_colon c.in-Some.at c.args.text.now c.in-Some.ensures

pub returns-in-Some-clause-after : goal.returns-in-Some-clause-after
returns-in-Some-clause-after c = after_colon c.in-Some.at c.args.text.now c.in-Some.ensures

pub returns-in-None-clause-before : goal.returns-in-None-clause-before
returns-in-None-clause-before c = before_none c.args.text.now c.in-None.ensures

pub returns-in-None-clause-after : goal.returns-in-None-clause-after
returns-in-None-clause-after c = after_none c.args.text.now c.in-None.ensures
