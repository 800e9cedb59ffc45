use Rattle.mv_ends.specs.Moves.{input_of}
use Rattle.mv_slices.proofs.SliceLaws.{coded_or_refused}
use Rattle.job_decode.proofs.Exits.{not_opened}
use Rattle.job_decode.proofs.decode_named.Goals as goal

pub returns-in-Err-clause-ends : goal.returns-in-Err-clause-ends
returns-in-Err-clause-ends g c inputs told = not_opened coded_or_refused (input_of inputs c.args.name.now) (g.O.Sink.told c.args.out.now).written
