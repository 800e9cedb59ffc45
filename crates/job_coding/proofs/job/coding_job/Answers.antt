use Rattle.std.proofs.Common.{◌≡◌, refl}
use Rattle.mv_ends.specs.Moves.{input_of}
use Rattle.mv_ends.proofs.CommandLaws.{completes, faults_of_name}
use Rattle.job_coding.specs.Command.{coding_command}
use Rattle.job_coding.specs.Outcome.{outcome_of}
use Rattle.job_coding.proofs.job.coding_job.Goals as goal

pub returns-clause-runs : goal.returns-clause-runs
returns-clause-runs g c =
    let e = c.code_named.ensures in
    let name = c.args.name.now in
    let old = g.S.Shelf.told c.args.shelf.now in
    let new = g.S.Shelf.told c.code_named.new.shelf in
    let before = g.O.Sink.told c.args.out.now in
    let after = g.O.Sink.told c.code_named.new.out in
    let coding = g.C.Coder.coding_of c.args.scale in
    record {
      ends = λ inputs told. (outcome_of coding (input_of inputs name), refl, e.ends inputs told);
      complete = λ inputs told. completes (coding_command coding name) inputs old new before after c.code_named.result (outcome_of coding (input_of inputs name), refl, e.ends inputs told)
          (faults_of_name (λ other. other ≡ name) old new before after c.code_named.result name refl e.open_fault e.read_fault e.write_fault);
      counted = λ inputs told. faults_of_name (λ other. other ≡ name) old new before after c.code_named.result name refl e.open_fault e.read_fault e.write_fault;
      promised = λ inputs told. tt;
      done = e.done;
      kind = e.kind;
      open_fault = λ is. (e.open_fault is, e.unopened is);
      read_fault = λ is. (e.read_fault is, e.settled is);
      unwritten = e.reads_ahead;
      no_memory = e.no_memory;
      write_fault = e.write_fault;
    }
