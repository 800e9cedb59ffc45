use Rattle.std.proofs.Common.{sym, ap, ◌∙◌, subst}
use Rattle.mv_ends.specs.Moves.{input_of}
use Rattle.mv_terms.specs.declared.status.FrameFault.{FrameFault}
use Rattle.mv_terms.specs.declared.status.Status.TheVariants as status
use Rattle.y4m_frames.specs.declared.halt.Halt.{Halt}
use Rattle.y4m_frames.specs.Reading.{HasNoHeader}
use Rattle.mv_terms.specs.Ranges.{IsFrameHeader}
use Rattle.mv_terms.specs.declared.frame_header.FrameHeader.{FrameHeader}
use Rattle.y4m_frames.proofs.LegalHeader.{legal_header}
use Rattle.job_coding.proofs.Exits.{opened_is, exit_unstarted}
use Rattle.job_coding.proofs.job.code_named.Goals as goal

pub returns-in-Err-Fault-clause-ends : goal.returns-in-Err-Fault-clause-ends
returns-in-Err-Fault-clause-ends g c = λ inputs told.
    let file = input_of inputs c.args.name.now in
    let old = (g.O.Sink.told c.args.out.now).written in
    let rest_is = opened_is (g.S.Shelf.told c.args.shelf.now).named (g.S.Shelf.told c.select.new.self).rest inputs c.args.name.now told c.in-Ok.ensures.opened in
    let refused = subst (λ (halt : Halt). HasNoHeader file halt) c.in-Err-Fault.field-0-is (c.in-Err-Fault.ensures.tells file rest_is) in
    let ends = exit_unstarted (g.C.Coder.coding_of c.args.scale) file c.in-Err-Fault.fault old refused in
    (ap (λ (f : FrameFault). status.Frames f) c.in-Err-Fault.fault-is ∙ ends.0, ends.1)

pub returns-clause-settled : goal.returns-clause-settled
returns-clause-settled g c = λ failed inputs told.
    let file = input_of inputs c.args.name.now in
    let coding = g.C.Coder.coding_of c.args.scale in
    let rest_is = opened_is (g.S.Shelf.told c.args.shelf.now).named (g.S.Shelf.told c.select.new.self).rest inputs c.args.name.now told c.in-Ok.ensures.opened in
    let coding_is = ap coding (sym c.header.ensures) ∙ sym c.in-Ok-start-4.ensures.coding in
    (c.code_frames.ensures.ends coding file coding_is (c.in-Ok-start.ensures.behind file rest_is)).settled failed

pub returns-clause-reads_ahead : goal.returns-clause-reads_ahead
returns-clause-reads_ahead g c = λ failed inputs told.
    let file = input_of inputs c.args.name.now in
    let coding = g.C.Coder.coding_of c.args.scale in
    let rest_is = opened_is (g.S.Shelf.told c.args.shelf.now).named (g.S.Shelf.told c.select.new.self).rest inputs c.args.name.now told c.in-Ok.ensures.opened in
    let coding_is = ap coding (sym c.header.ensures) ∙ sym c.in-Ok-start-4.ensures.coding in
    (c.code_frames.ensures.ends coding file coding_is (c.in-Ok-start.ensures.behind file rest_is)).near failed

pub start-requires-4-clause-header : goal.start-requires-4-clause-header
start-requires-4-clause-header g c =
    let r = c.in-Ok-start.reader in
    subst (λ (h : FrameHeader). IsFrameHeader h) (sym c.header.ensures) (legal_header r.line r.header c.in-Ok-start.ensures.starts.stands.header)
