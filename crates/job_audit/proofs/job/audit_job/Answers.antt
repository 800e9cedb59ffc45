use Rattle.mv_ends.specs.Moves.{input_of}
use Rattle.job_coding.proofs.Promises.{appends_right, runs_end}
use Rattle.job_audit.specs.StepLines.{audit_coding}
use Rattle.job_audit.specs.AuditedFile.{IsAudited}
use Rattle.job_audit.proofs.job.audit_job.Goals as goal

pub returns-clause-runs : goal.returns-clause-runs
returns-clause-runs g c =
    let r = c.coding_job.ensures.runs in
    let name = c.args.name.now in
    let old = g.S.Shelf.told c.args.shelf.now in
    let new = g.S.Shelf.told c.coding_job.new.shelf in
    let before = g.O.Sink.told c.args.out.now in
    let after = g.O.Sink.told c.coding_job.new.out in
    let end = runs_end audit_coding name old new before after c.coding_job.result r in
    record {
      ends = r.ends;
      complete = r.complete;
      counted = r.counted;
      promised = λ inputs told read.
          let bytes = input_of inputs name in
          appends_right IsAudited audit_coding bytes c.coding_job.result before.written after.written (c.audited_file_law.ensures bytes) read (end inputs told);
      done = r.done;
      kind = r.kind;
      open_fault = r.open_fault;
      read_fault = r.read_fault;
      unwritten = r.unwritten;
      no_memory = r.no_memory;
      write_fault = r.write_fault;
    }
