use Rattle.enc_near.proofs.GuidedLemmas.{guided_frames_are_near, guided_step_is_near}
use Rattle.enc_near.proofs.laws.guided_law.Goals as goal

pub returns-clause-step : goal.returns-clause-step
returns-clause-step c = guided_step_is_near c.settling_law.ensures

pub returns-clause-frames : goal.returns-clause-frames
returns-clause-frames c = guided_frames_are_near c.settling_law.ensures c.right_law.ensures c.coded_law.ensures.headers
