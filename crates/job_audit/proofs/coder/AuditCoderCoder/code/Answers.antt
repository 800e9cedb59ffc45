use Rattle.std.proofs.Common.{◌≡◌, ℕ, List, option_map, rules, refl, subst, sym}
use Rattle.mv_ends.specs.Sends.{Sends}
use Rattle.rec_legal.specs.Conditions.{file_size}
use Rattle.rec_legal.specs.Found.{found}
use Rattle.enc_guided.specs.FileSteps.{recoding_by_records}
use Rattle.enc_guided.specs.Recoded.{FrameStep}
use Rattle.job_coding.specs.Stands.{StandsFor}
use Rattle.job_audit.specs.Audit.{said_by}
use Rattle.job_coding.proofs.CoderLemmas.{has_record, holds_on_ok}
use Rattle.job_audit.proofs.coder.AuditCoderCoder.code.Goals as goal

pub returns-clause-stands : goal.returns-clause-stands
returns-clause-stands g c = holds_on_ok c.write_due.result (λ frames numbered before stands next.
    let coder = c.args.self.now in
    let s : FrameStep = record { step = c.args.step; frame = c.args.frame.now } in
    let said : c.map-found.result ≡ option_map said_by (found (file_size coder.header) c.args.frame.now) = search (c.found.ensures.found coder.header frames numbered stands.0, c.map-found.ensures.cases, rules) in (
      subst (λ x. StandsFor x coder.header frames numbered) (sym c.found.follows.holds-at-none) stands.0,
      c.take-due.ensures.stands (recoding_by_records 1 coder.header) before s stands.1 refl said,
    ))

pub returns-clause-sends : goal.returns-clause-sends
returns-clause-sends g c = λ frames numbered before stands next.
    let coder = c.args.self.now in
    let s : FrameStep = record { step = c.args.step; frame = c.args.frame.now } in
    let said : c.map-found.result ≡ option_map said_by (found (file_size coder.header) c.args.frame.now) = search (c.found.ensures.found coder.header frames numbered stands.0, c.map-found.ensures.cases, rules) in
    subst (λ (text : List ℕ). Sends (g.O.Sink.told c.args.out.now) (g.O.Sink.told c.write_due.new.out) text c.write_due.result)
    (c.take-due.ensures.due (recoding_by_records 1 coder.header) before s stands.1 refl said) c.write_due.ensures

pub found-requires : goal.found-requires
found-requires g c =
    let stands = c.requires.3 in
    let next = c.requires.4 in
    (c.args.self.now.header, c.requires.0, c.requires.1, stands.0, next.frame, λ guided. has_record (found (file_size c.args.self.now.header) c.args.frame.now) (next.fits.found guided))
