use Rattle.std.proofs.Common.{◌≡◌, ◌∙◌, List, ℕ, Ok, Err, sym, ap, subst}
use Rattle.std.proofs.lemmas.Result.{err_from_is_err_and}
use Rattle.mv_ends.specs.Moves.{input_of}
use Rattle.y4m_frames.specs.Frames.{file_of}
use Rattle.cut_list.specs.Cut.{listed, first_header}
use Rattle.cut_list.specs.Steps.{Copies, opening_of, differs, kind_of}
use Rattle.cut_list.proofs.LineLemmas.{opened_is, ends_unstarted, begun, ends_differs, ends_copied, ends_stopped}
use Rattle.cut_list.proofs.line.cut_line.Goals as goal

pub returns-in_err-reader-clause-ends : goal.returns-in_err-reader-clause-ends
returns-in_err-reader-clause-ends g c = λ inputs told.
    let input = input_of inputs c.args.name.now in
    let old = (g.O.Sink.told c.args.out.now).written in
    let rest_is = opened_is (g.S.Shelf.told c.args.shelf.now).named (g.S.Shelf.told c.select.new.self).rest inputs c.args.name.now told c.in-Ok.ensures.opened in
    let p = err_from_is_err_and c.from_residual.result c.from_residual.ensures.1 in
    rw (p.1, p.2) (ends_unstarted (first_header c.args.first (file_of input)) c.args.first c.args.from c.args.to input c.in_err-reader.field-0.0 old (c.in_err-reader.ensures.tells input rest_is))

pub returns-then-differs-clause-ends : goal.returns-then-differs-clause-ends
returns-then-differs-clause-ends g c = λ inputs told.
    let input = input_of inputs c.args.name.now in
    let r = c.in_ok-reader.reader in
    let rest = (g.S.Shelf.told c.start.new.shelf).rest in
    let rest_is = opened_is (g.S.Shelf.told c.args.shelf.now).named (g.S.Shelf.told c.select.new.self).rest inputs c.args.name.now told c.in-Ok.ensures.opened in
    let b = begun input (g.S.Shelf.told c.select.new.self).rest rest r rest_is c.in_ok-reader.ensures.starts in
    ends_differs (first_header c.args.first (file_of input)) c.args.first c.args.from c.args.to input r rest (g.O.Sink.told c.args.out.now).written b (sym (c.differs.ensures ∙ ap (differs c.args.first) c.header.ensures) ∙ c.if-differs.true)

pub returns-clause-ends : goal.returns-clause-ends
returns-clause-ends g c = λ inputs told.
    let input = input_of inputs c.args.name.now in
    let r = c.in_ok-reader.reader in
    let rest = (g.S.Shelf.told c.start.new.shelf).rest in
    let old = (g.O.Sink.told c.args.out.now).written in
    let new = (g.O.Sink.told c.copy_frames.new.out).written in
    let rest_is = opened_is (g.S.Shelf.told c.args.shelf.now).named (g.S.Shelf.told c.select.new.self).rest inputs c.args.name.now told c.in-Ok.ensures.opened in
    let b = begun input (g.S.Shelf.told c.select.new.self).rest rest r rest_is c.in_ok-reader.ensures.starts in
    let opening_is : c.opening_of-opening.result.now ≡ opening_of c.args.first r.line = c.opening_of-opening.ensures ∙ ap (opening_of c.args.first) (c.deref.ensures.value ∙ c.in_ok-line.ensures.items ∙ c.line.ensures) in
    ends_copied c.args.first c.args.from c.args.to input r rest old new b c.kind_of.result (c.kind_of.ensures ∙ ap (kind_of c.args.first) c.header.ensures) (sym (c.differs.ensures ∙ ap (differs c.args.first) c.header.ensures) ∙ c.if-differs.false)
    (subst (λ (o : List ℕ). Copies o (listed c.args.from c.args.to b.file.frames) old new (Ok tt)) opening_is
    (c.in_ok-copy_frames.ensures.copies r.line b.file c.in_ok-reader.ensures.starts.stands b.left b.left_is b.is))

pub returns-in_err-copy_frames-clause-ends : goal.returns-in_err-copy_frames-clause-ends
returns-in_err-copy_frames-clause-ends g c = λ inputs told.
    let input = input_of inputs c.args.name.now in
    let r = c.in_ok-reader.reader in
    let rest = (g.S.Shelf.told c.start.new.shelf).rest in
    let old = (g.O.Sink.told c.args.out.now).written in
    let new = (g.O.Sink.told c.copy_frames.new.out).written in
    let rest_is = opened_is (g.S.Shelf.told c.args.shelf.now).named (g.S.Shelf.told c.select.new.self).rest inputs c.args.name.now told c.in-Ok.ensures.opened in
    let b = begun input (g.S.Shelf.told c.select.new.self).rest rest r rest_is c.in_ok-reader.ensures.starts in
    let opening_is : c.opening_of-opening.result.now ≡ opening_of c.args.first r.line = c.opening_of-opening.ensures ∙ ap (opening_of c.args.first) (c.deref.ensures.value ∙ c.in_ok-line.ensures.items ∙ c.line.ensures) in
    let p = err_from_is_err_and c.from_residual-in_err-copy_frames.result c.from_residual-in_err-copy_frames.ensures.1 in
    rw (p.1, p.2) (ends_stopped (first_header c.args.first (file_of input)) c.args.first c.args.from c.args.to input r rest old new b c.in_err-copy_frames.field-0.0 (sym (c.differs.ensures ∙ ap (differs c.args.first) c.header.ensures) ∙ c.if-differs.false)
    (subst (λ (o : List ℕ). Copies o (listed c.args.from c.args.to b.file.frames) old new (Err c.in_err-copy_frames.field-0.0)) opening_is
    (c.in_err-copy_frames.ensures.copies r.line b.file c.in_ok-reader.ensures.starts.stands b.left b.left_is b.is)))
