use Rattle.std.proofs.Common.{refl}
use Rattle.mv_ends.specs.Clean.{inputs_in}
use Rattle.mv_terms.specs.Texts.{line_of}
use Rattle.recoder_cli.specs.Outcomes.{command_of}
use Rattle.recoder_cli.proofs.CleanEnds.{clean_end, clean_line}
use Rattle.recoder_cli.proofs.clean.run_clean.Goals as goal

pub returns-clause-ends : goal.returns-clause-ends
returns-clause-ends c form is =
    let inputs = inputs_in c.args.shelf.now in
    let runs = c.run.ensures.runs form is in
    let end = runs.ends inputs refl in (
      end.0,
      end.1,
      clean_end ((command_of form).names_input inputs) c.args.shelf.now c.run.new.shelf c.args.out.now c.run.new.out end.0 c.run.result
          (runs.counted inputs refl) runs.write_fault (c.requires form is end.0 end.1) end.2,
    )

pub returns-clause-said : goal.returns-clause-said
returns-clause-said c fits = clean_line c.args.say.now c.run.new.say (line_of c.run.result) fits c.run.ensures.said
