use Rattle.plan_window.specs.Plan.{ahead}
use Rattle.plan_window.proofs.NumberLemmas.{same_plan}
use Rattle.plan_window.proofs.AddedLemmas.{one_more}
use Rattle.plan_window.proofs.BeginLemmas.{numbers_begin}
use Rattle.plan_window.proofs.laws.numbers_law.Goals as goal

pub returns : goal.returns
returns c = record { serve = same_plan ahead; added = one_more ahead; begins = numbers_begin }
