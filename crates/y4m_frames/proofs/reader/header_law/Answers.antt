use Rattle.y4m_frames.proofs.HeaderLaws.{written_line}
use Rattle.y4m_frames.proofs.LegalHeader.{legal_header}
use Rattle.y4m_frames.proofs.reader.header_law.Goals as goal

pub returns-clause-written : goal.returns-clause-written
returns-clause-written c = written_line

pub returns-clause-legal : goal.returns-clause-legal
returns-clause-legal c = legal_header
