use Rattle.mv_ends.specs.Commands.{Runs}
use Rattle.recoder_cli.specs.Words.{form_of, texts}
use Rattle.recoder_cli.specs.Outcomes.{command_of}
use Rattle.recoder_cli.proofs.Forms.{same_form, no_form}
use Rattle.recoder_cli.proofs.run.Goals as goal
use Rattle.recoder_cli.proofs.run.Goals.{in-None, in-Some}

pub returns-clause-runs : goal.returns-clause-runs
returns-clause-runs g c form is = elim c.match-parse.branch [
  | in-None w ↦ no_form (form_of (texts c.args.words.now)) form is w.in-None.ensures.form
  | in-Some w ↦ rw (w.status-is, w.out-is, w.shelf-is)
      (let p = w.perform-status in
      same_form (λ form. Runs (command_of form) (g.S.Shelf.told c.args.shelf.now) (g.S.Shelf.told p.new.shelf) (g.O.Sink.told c.args.out.now) (g.O.Sink.told p.new.out) p.result)
      (form_of (texts c.args.words.now)) form _ is w.in-Some.ensures.form p.ensures.runs)
]
