use Rattle.mv_spellings.proofs.VectorLaws.{component_read, direction_read}
use Rattle.mv_spellings.proofs.laws.vector_law.Goals as goal

pub returns : goal.returns
returns c = record { components = component_read; directions = direction_read }
