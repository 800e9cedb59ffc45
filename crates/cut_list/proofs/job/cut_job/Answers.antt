use Rattle.std.proofs.Common.{refl}
use Rattle.mv_ends.proofs.CommandLaws.{completes}
use Rattle.cut_list.specs.Command.{cut_command}
use Rattle.cut_list.specs.Cut.{cut_outcome}
use Rattle.cut_list.proofs.FaultLemmas.{faults_listed}
use Rattle.cut_list.proofs.job.cut_job.Goals as goal

pub returns-clause-runs : goal.returns-clause-runs
returns-clause-runs g c =
    let e = c.cut_named.ensures in
    let list = c.args.list.now in
    let old = g.S.Shelf.told c.args.shelf.now in
    let new = g.S.Shelf.told c.cut_named.new.shelf in
    let before = g.O.Sink.told c.args.out.now in
    let after = g.O.Sink.told c.cut_named.new.out in
    record {
      ends = λ inputs told. (cut_outcome inputs list, refl, e.ends inputs told);
      complete = λ inputs told. completes (cut_command list) inputs old new before after c.cut_named.result (cut_outcome inputs list, refl, e.ends inputs told)
          (faults_listed list inputs old new before after c.cut_named.result told e.open_fault e.read_fault e.write_fault);
      counted = λ inputs told. faults_listed list inputs old new before after c.cut_named.result told e.open_fault e.read_fault e.write_fault;
      promised = λ inputs told. tt;
      done = λ is. tt;
      kind = e.kind;
      open_fault = e.open_fault;
      read_fault = e.read_fault;
      unwritten = λ is. tt;
      no_memory = λ is. tt;
      write_fault = e.write_fault;
    }
