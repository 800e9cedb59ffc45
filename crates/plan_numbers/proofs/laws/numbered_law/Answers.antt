use Rattle.plan_numbers.proofs.NumberLemmas.{numbers_agree, numbers_plan}
use Rattle.plan_numbers.proofs.laws.numbered_law.Goals as goal

pub returns-clause-agree : goal.returns-clause-agree
returns-clause-agree c = numbers_agree

pub returns-clause-plan : goal.returns-clause-plan
returns-clause-plan c = numbers_plan
