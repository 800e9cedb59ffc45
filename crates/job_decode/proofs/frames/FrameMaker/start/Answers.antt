use Rattle.std.proofs.Common.{◌*◌, None, refl}
use Rattle.job_decode.proofs.Made.{none_made}
use Rattle.job_decode.proofs.frames.FrameMaker.start.Goals as goal

pub returns : goal.returns
returns c =
    none_made (c.args.mb_wide * c.args.mb_high) (record { sequence = c.in_ok-start.field-0; links = record { last = None; older = None }; room = c.in_ok-start-2.field-0 })
    c.in_ok-start.ensures refl c.in_ok-start-2.ensures
