use Rattle.y4m_frames.proofs.FileLaws.{stands_for_its_frames}
use Rattle.y4m_frames.proofs.reader.stands_law.Goals as goal

pub returns : goal.returns
returns c = stands_for_its_frames
