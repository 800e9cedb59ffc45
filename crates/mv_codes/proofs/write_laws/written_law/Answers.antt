use Rattle.mv_codes.proofs.WrittenLaws.{increments_written, types_written, patterns_written, motions_written, dc_sizes_written, coefs_written}
use Rattle.mv_codes.proofs.write_laws.written_law.Goals as goal

pub returns : goal.returns
returns c = record { increments = increments_written; types = types_written; patterns = patterns_written; motions = motions_written; dc_sizes = dc_sizes_written; coefs = coefs_written }
