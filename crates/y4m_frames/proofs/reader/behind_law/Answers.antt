use Rattle.y4m_frames.proofs.BehindLaws.{header_faults_are_faults, begins_its_frames, frames_end_within, reads_near}
use Rattle.y4m_frames.proofs.reader.behind_law.Goals as goal

pub returns-clause-header : goal.returns-clause-header
returns-clause-header c = header_faults_are_faults

pub returns-clause-begins : goal.returns-clause-begins
returns-clause-begins c = begins_its_frames

pub returns-clause-within : goal.returns-clause-within
returns-clause-within c = frames_end_within

pub returns-clause-near : goal.returns-clause-near
returns-clause-near c = reads_near
