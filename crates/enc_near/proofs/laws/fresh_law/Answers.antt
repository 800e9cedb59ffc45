use Rattle.enc_near.proofs.FreshLemmas.{fresh_step_is_near, fresh_frames_are_near, default_is_fine}
use Rattle.enc_near.proofs.laws.fresh_law.Goals as goal

pub returns-clause-step : goal.returns-clause-step
returns-clause-step c = fresh_step_is_near c.decisions_law.ensures.settled

pub returns-clause-frames : goal.returns-clause-frames
returns-clause-frames c = fresh_frames_are_near c.decisions_law.ensures.settled

pub returns-clause-default : goal.returns-clause-default
returns-clause-default c = default_is_fine
