use Rattle.y4m_frames.proofs.FileLaws.{frame_files_are_read}
use Rattle.y4m_frames.proofs.OnlyLaws.{only_frame_files_are_read}
use Rattle.y4m_frames.proofs.FrontLaws.{frames_are_in_front}
use Rattle.y4m_frames.proofs.reader.holds_law.Goals as goal

pub returns-clause-read : goal.returns-clause-read
returns-clause-read c = frame_files_are_read

pub returns-clause-only : goal.returns-clause-only
returns-clause-only c = only_frame_files_are_read

pub returns-clause-front : goal.returns-clause-front
returns-clause-front c = frames_are_in_front
