use Rattle.std.proofs.Common.{◌≡◌, refl}
use Rattle.mv_ends.proofs.CommandLaws.{completes, faults_of_name}
use Rattle.job_decode.specs.Command.{decode_command}
use Rattle.job_decode.proofs.decode_job.Goals as goal

pub returns-clause-runs : goal.returns-clause-runs
returns-clause-runs g c =
    let e = c.decode_named.ensures in
    let name = c.args.name.now in
    let old = g.S.Shelf.told c.args.shelf.now in
    let new = g.S.Shelf.told c.decode_named.new.shelf in
    let before = g.O.Sink.told c.args.out.now in
    let after = g.O.Sink.told c.decode_named.new.out in
    record {
      ends = e.ends;
      complete = λ inputs told. completes (decode_command name) inputs old new before after c.decode_named.result (e.ends inputs told)
          (faults_of_name (λ other. other ≡ name) old new before after c.decode_named.result name refl e.open_fault e.read_fault e.write_fault);
      counted = λ inputs told. faults_of_name (λ other. other ≡ name) old new before after c.decode_named.result name refl e.open_fault e.read_fault e.write_fault;
      promised = λ inputs told. tt;
      done = e.done;
      kind = e.kind;
      open_fault = λ is. (e.open_fault is, e.unopened is);
      read_fault = λ is. (e.read_fault is, e.read_part is);
      unwritten = e.reads_near;
      no_memory = e.no_memory;
      write_fault = e.write_fault;
    }
