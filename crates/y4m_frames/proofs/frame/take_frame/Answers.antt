use Rattle.std.proofs.Common.{length, min, ◌+◌, ◌-◌, rules}
use Rattle.std.proofs.lemmas.Result.{err_from_is_err_and}
use Rattle.std.specs.Io.KnownBytes.{prepend_known}
use Rattle.y4m_frames.specs.Reading.{TakesFewer}
use Rattle.y4m_frames.specs.Steps.{TakesLine, StopsInLine}
use Rattle.y4m_frames.proofs.PartLemmas.{no_line_yet, few_samples}
use Rattle.y4m_frames.proofs.SampleExits.{takes_frame, frame_err}
use Rattle.y4m_frames.proofs.frame.take_frame.Goals as goal

pub returns-clause-frame : goal.returns-clause-frame
returns-clause-frame g c =
    takes_frame (prepend_known c.args.ahead.now (g.S.Shelf.told c.args.shelf.now).rest) (prepend_known c.take_line.new.ahead (g.S.Shelf.told c.take_line.new.shelf).rest) (prepend_known c.take_samples.new.ahead (g.S.Shelf.told c.take_samples.new.shelf).rest)
    c.in-Some.line c.args.room c.take_samples.new.samples (length c.args.samples.now) (rw c.in-Some.is at c.in_ok-line.ensures.line) c.in_ok-take_samples.ensures.samples c.take_samples.auto.samples

pub returns-in_err-take_samples-clause-told : goal.returns-in_err-take_samples-clause-told
returns-in_err-take_samples-clause-told g c = λ s told.
    let p = err_from_is_err_and c.from_residual-in_err-take_samples.result c.from_residual-in_err-take_samples.ensures.1 in
    rw (p.1, p.2) (frame_err s (prepend_known c.args.ahead.now (g.S.Shelf.told c.args.shelf.now).rest) (prepend_known c.take_line.new.ahead (g.S.Shelf.told c.take_line.new.shelf).rest) c.args.count c.args.room
    c.in-Some.line (length c.args.samples.now) c.in_err-take_samples.field-0.0 told (rw c.in-Some.is at c.in_ok-line.ensures.line) (rw c.in-Some.is at (c.in_ok-line.ensures.told s told)) c.in_err-take_samples.ensures.told)

pub returns-in_err-line-clause-part : goal.returns-in_err-line-clause-part
returns-in_err-line-clause-part g c = λ is_read.
    let old = prepend_known c.args.ahead.now (g.S.Shelf.told c.args.shelf.now).rest in
    let rest = (g.S.Shelf.told c.take_line.new.shelf).rest in
    let part : StopsInLine old rest = search rules in
    no_line_yet (length c.args.samples.now) c.args.count c.args.room old rest part

pub returns-in_err-take_samples-clause-part : goal.returns-in_err-take_samples-clause-part
returns-in_err-take_samples-clause-part g c = λ is_read.
    let old = prepend_known c.args.ahead.now (g.S.Shelf.told c.args.shelf.now).rest in
    let mid = prepend_known c.take_line.new.ahead (g.S.Shelf.told c.take_line.new.shelf).rest in
    let rest = (g.S.Shelf.told c.take_samples.new.shelf).rest in
    let line : TakesLine c.in-Some.line c.args.room old mid = rw c.in-Some.is at c.in_ok-line.ensures.line in
    let part : TakesFewer (min (length c.args.samples.now) (c.args.room - c.in-Some.line + 1)) mid rest = search rules in
    few_samples (length c.args.samples.now) c.args.count c.args.room c.in-Some.line old mid rest line part
