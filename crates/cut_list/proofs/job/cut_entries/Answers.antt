use Rattle.std.proofs.Common.{◌≡◌, ◌∙◌, ◌+◌, ◌++◌, ℕ, List, Some, Ok, Err, refl, sym, ap, subst, arith}
use Rattle.std.proofs.lemmas.Option.{slice_get_read}
use Rattle.std.specs.List.{slice_get}
use Rattle.mv_ends.specs.Causes.{Rose}
use Rattle.mv_ends.specs.Ends.{Ends}
use Rattle.mv_ends.specs.Endings.{ending_of}
use Rattle.mv_ends.specs.Moves.{input_of}
use Rattle.mv_ends.proofs.Known.{Appends-trans, keeps_sink_trans, keeps_shelf_trans}
use Rattle.mv_terms.specs.declared.status.Status.{Status}
use Rattle.y4m_frames.specs.Frames.{file_of}
use Rattle.cut_list.specs.Cut.{line_given, first_header, outcome_by}
use Rattle.cut_list.specs.Steps.{LineEnds}
use Rattle.cut_list.proofs.CutLemmas.{cut_goes_on, halted_ends, unopened, unread, only_open, only_read, cut_whole, rose_since}
use Rattle.cut_list.proofs.job.cut_entries.Goals as goal

pub returns-in-Err-clause-ends : goal.returns-in-Err-clause-ends
returns-in-Err-clause-ends g c = λ inputs told.
    let i = c.lines.invariant in
    let e = c.index-entries-line.result in
    let old = (g.O.Sink.told c.args.out.now).written in
    let mid = (g.O.Sink.told c.lines.out).written in
    let new = (g.O.Sink.told c.cut_line.new.out).written in
    let here : slice_get c.args.entries.now c.lines.line ≡ Some e = slice_get_read c.args.entries.now _ c.lines.line e refl c.lines-test.true c.index-entries-line.is in
    let line = subst (λ (name : List ℕ). LineEnds (line_given c.lines.first e.from e.to (file_of (input_of inputs name))) (first_header c.lines.first (file_of (input_of inputs name))) mid new (Err c.in-Err.halted)) c.text.ensures (c.in-Err.ensures.ends inputs (i.keeps.inputs ∙ told)) in
    subst (λ (s : Status). Ends (outcome_by (input_of inputs) (Ok c.args.entries.now)) (ending_of s) old new) (sym c.halted_status.ensures)
    (halted_ends (input_of inputs) c.args.entries.now c.lines.line c.lines.first old mid (i.so_far inputs told) e here c.in-Err.halted new line)

pub returns-in-Err-clause-open_fault : goal.returns-in-Err-clause-open_fault
returns-in-Err-clause-open_fault g c = λ is.
    let i = c.lines.invariant in
    let e = c.index-entries-line.result in
    let old = (g.O.Sink.told c.args.out.now).written in
    let mid = (g.O.Sink.told c.lines.out).written in
    let new = (g.O.Sink.told c.cut_line.new.out).written in
    let here : slice_get c.args.entries.now c.lines.line ≡ Some e = slice_get_read c.args.entries.now _ c.lines.line e refl c.lines-test.true c.index-entries-line.is in
    let unopened_is = only_open (c.lines.line + 1) c.in-Err.halted (sym c.halted_status.ensures ∙ is) in
    let rose = subst (λ (name : List ℕ). Rose ((g.S.Shelf.told c.lines.shelf).open_faults name) ((g.S.Shelf.told c.cut_line.new.shelf).open_faults name)) c.text.ensures (c.in-Err.ensures.open (ap (λ h. Err h) unopened_is)) in (
      c.lines.line,
      record { entry = e; entry_is = here; rose = rose_since _ _ _ (i.keeps.opens e.name) rose },
      λ inputs told. unopened (input_of inputs) c.args.entries.now c.lines.line c.lines.first old mid (i.so_far inputs told) e here c.in-Err.halted new unopened_is
          (subst (λ (name : List ℕ). LineEnds (line_given c.lines.first e.from e.to (file_of (input_of inputs name))) (first_header c.lines.first (file_of (input_of inputs name))) mid new (Err c.in-Err.halted)) c.text.ensures (c.in-Err.ensures.ends inputs (i.keeps.inputs ∙ told))),
    )

pub returns-in-Err-clause-read_fault : goal.returns-in-Err-clause-read_fault
returns-in-Err-clause-read_fault g c = λ is.
    let i = c.lines.invariant in
    let e = c.index-entries-line.result in
    let old = (g.O.Sink.told c.args.out.now).written in
    let mid = (g.O.Sink.told c.lines.out).written in
    let new = (g.O.Sink.told c.cut_line.new.out).written in
    let here : slice_get c.args.entries.now c.lines.line ≡ Some e = slice_get_read c.args.entries.now _ c.lines.line e refl c.lines-test.true c.index-entries-line.is in
    let unread_is = only_read (c.lines.line + 1) c.in-Err.halted (sym c.halted_status.ensures ∙ is) in
    let rose = subst (λ (name : List ℕ). Rose ((g.S.Shelf.told c.lines.shelf).read_faults name) ((g.S.Shelf.told c.cut_line.new.shelf).read_faults name)) c.text.ensures (c.in-Err.ensures.read (ap (λ h. Err h) unread_is)) in (
      c.lines.line,
      record { entry = e; entry_is = here; rose = rose_since _ _ _ (i.keeps.reads e.name) rose },
      λ inputs told. unread (input_of inputs) c.args.entries.now c.lines.line c.lines.first old mid (i.so_far inputs told) e here c.in-Err.halted new unread_is
          (subst (λ (name : List ℕ). LineEnds (line_given c.lines.first e.from e.to (file_of (input_of inputs name))) (first_header c.lines.first (file_of (input_of inputs name))) mid new (Err c.in-Err.halted)) c.text.ensures (c.in-Err.ensures.ends inputs (i.keeps.inputs ∙ told))),
    )

pub lines-preserved : goal.lines-preserved
lines-preserved g c =
    let i = c.lines.invariant in
    let e = c.index-entries-line.result in
    let r = c.in-Ok.ensures in
    let old = (g.O.Sink.told c.args.out.now).written in
    let mid = (g.O.Sink.told c.lines.out).written in
    let new = (g.O.Sink.told c.cut_line.new.out).written in
    let here : slice_get c.args.entries.now c.lines.line ≡ Some e = slice_get_read c.args.entries.now _ c.lines.line e refl c.lines-test.true c.index-entries-line.is in
    record {
      within = omega (arith, c.lines-test.true);
      so_far = λ inputs told. cut_goes_on (input_of inputs) c.args.entries.now c.lines.line c.lines.first old mid (i.so_far inputs told) e here c.in-Ok.header new
          (subst (λ (name : List ℕ). LineEnds (line_given c.lines.first e.from e.to (file_of (input_of inputs name))) (first_header c.lines.first (file_of (input_of inputs name))) mid new (Ok c.in-Ok.header)) c.text.ensures (r.ends inputs (i.keeps.inputs ∙ told)));
      grown = (i.grown.0 ++ r.grown.0, Appends-trans old mid new i.grown.0 r.grown.0 i.grown.1 r.grown.1);
      keeps_sink = keeps_sink_trans (g.O.Sink.told c.args.out.now) (g.O.Sink.told c.lines.out) (g.O.Sink.told c.cut_line.new.out) i.grown.0 r.grown.0 i.keeps_sink r.keeps_sink i.grown.1 r.grown.1;
      keeps = keeps_shelf_trans (g.S.Shelf.told c.args.shelf.now) (g.S.Shelf.told c.lines.shelf) (g.S.Shelf.told c.cut_line.new.shelf) i.keeps r.keeps;
    }

pub returns-clause-ends : goal.returns-clause-ends
returns-clause-ends g c = λ inputs told.
    let i = c.lines.invariant in
    cut_whole (input_of inputs) c.args.entries.now c.lines.line c.lines.first (g.O.Sink.told c.args.out.now).written (g.O.Sink.told c.lines.out).written (i.so_far inputs told) (omega (arith, c.lines-test.false))
