use Rattle.y4m_frames.proofs.WordLemmas.{words_at, words_none}
use Rattle.y4m_frames.proofs.words.first_word.Goals as goal

pub returns-in-Some-clause-parts : goal.returns-in-Some-clause-parts
returns-in-Some-clause-parts c = words_at c.in-Some.end c.args.line.now c.in-Some.ensures

pub returns-in-None-clause-parts : goal.returns-in-None-clause-parts
returns-in-None-clause-parts c = words_none c.args.line.now c.in-None.ensures
