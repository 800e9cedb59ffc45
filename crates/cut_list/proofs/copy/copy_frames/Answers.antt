use Rattle.std.proofs.Common.{◌∙◌, ◌++◌, [], Ok, refl, subst, arith}
use Rattle.std.proofs.lemmas.Result.{err_from_is_err_and}
use Rattle.std.proofs.KnownBytes.{Appends-nil}
use Rattle.mv_ends.proofs.Known.{Appends-trans, keeps_sink_refl, keeps_sink_trans, failed_later, keeps_shelf_refl, keeps_shelf_trans}
use Rattle.y4m_frames.specs.Reading.{NextTells}
use Rattle.cut_list.specs.Steps.{listed_piece}
use Rattle.cut_list.proofs.CopyExits.{ends_short, ends_halt, ends_whole, ends_write, goes_on, written_next, begins}
use Rattle.cut_list.proofs.copy.copy_frames.Goals as goal

pub frames-init : goal.frames-init
frames-init g c = record {
  runs = c.requires.runs;
  header = refl;
  len = refl;
  most = omega arith;
  told = λ begun left stands told. begins c.args.from c.args.opening.now c.args.reader.now (g.S.Shelf.told c.args.shelf.now).rest (g.O.Sink.told c.args.out.now).written begun left stands told;
  grown = ([], Appends-nil (g.O.Sink.told c.args.out.now).written);
  keeps_sink = keeps_sink_refl (g.O.Sink.told c.args.out.now);
  chosen = refl;
  keeps = keeps_shelf_refl (g.S.Shelf.told c.args.shelf.now);
}

pub returns-then-not-some-clause-copies : goal.returns-then-not-some-clause-copies
returns-then-not-some-clause-copies g c = λ begun file stands left told is.
    let i = c.frames.invariant in
    let e = c.in_ok-some.ensures in
    ends_short c.args.from c.args.to c.args.opening.now c.frames.reader (g.S.Shelf.told c.frames.shelf).rest c.frames.count (g.O.Sink.told c.args.out.now).written (g.O.Sink.told c.frames.out).written begun left file (i.told begun left stands told) is c.frames-test.true
    (λ s t. subst (λ b. NextTells c.frames.reader s (Ok b)) c.if-not-some.true (e.tells i.runs s t))

pub returns-in_err-some-clause-copies : goal.returns-in_err-some-clause-copies
returns-in_err-some-clause-copies g c = λ begun file stands left told is.
    let p = err_from_is_err_and c.from_residual.result c.from_residual.ensures.1 in
    let i = c.frames.invariant in
    let e = c.in_err-some.ensures in
    rw (p.1, p.2) (ends_halt c.args.from c.args.to c.args.opening.now c.frames.reader (g.S.Shelf.told c.frames.shelf).rest c.frames.count (g.O.Sink.told c.args.out.now).written (g.O.Sink.told c.frames.out).written begun left file (i.told begun left stands told) is c.in_err-some.field-0.0 c.frames-test.true (e.tells i.runs))

pub returns-clause-copies : goal.returns-clause-copies
returns-clause-copies g c = λ begun file stands left told is.
    let i = c.frames.invariant in
    ends_whole c.args.from c.args.to c.args.opening.now c.frames.reader (g.S.Shelf.told c.frames.shelf).rest c.frames.count (g.O.Sink.told c.args.out.now).written (g.O.Sink.told c.frames.out).written begun left file (i.told begun left stands told) is (omega (arith, i.most, c.frames-test.false))

pub returns-in_err-write_listed-clause-copies : goal.returns-in_err-write_listed-clause-copies
returns-in_err-write_listed-clause-copies g c = λ begun file stands left told is.
    let i = c.frames.invariant in
    let p = err_from_is_err_and c.from_residual-in_err-write_listed.result c.from_residual-in_err-write_listed.ensures.1 in
    rw (p.1, p.2) (ends_write c.args.from c.args.to c.args.opening.now c.frames.reader c.next.new.self (g.S.Shelf.told c.frames.shelf).rest (g.S.Shelf.told c.next.new.shelf).rest c.frames.count c.next.new.frame
    (g.O.Sink.told c.args.out.now).written (g.O.Sink.told c.frames.out).written (g.O.Sink.told c.write_listed.new.out).written begun left file (i.told begun left stands told) (c.in_ok-some.ensures.hands c.if-not-some.false) is c.frames-test.true c.in_err-write_listed.ensures.front)

pub frames-preserved : goal.frames-preserved
frames-preserved g c =
    let i = c.frames.invariant in
    let e = c.in_ok-some.ensures in
    let w = c.in_ok-write_listed.ensures in
    let old = (g.O.Sink.told c.args.out.now).written in
    let mid = (g.O.Sink.told c.frames.out).written in
    let new = (g.O.Sink.told c.write_listed.new.out).written in
    record {
      runs = e.runs;
      header = e.header.0 ∙ i.header;
      len = c.next.auto.frame ∙ i.len;
      most = omega (arith, c.frames-test.true);
      told = λ begun left stands told.
          let d = i.told begun left stands told in
          goes_on c.args.from c.args.opening.now c.frames.reader c.next.new.self (g.S.Shelf.told c.frames.shelf).rest (g.S.Shelf.told c.next.new.shelf).rest c.frames.count c.next.new.frame old mid new begun left d (e.hands c.if-not-some.false)
          (written_next c.args.from c.args.opening.now d.done c.frames.count c.next.new.frame old mid new d.count_is d.written w.sent);
      grown = (i.grown.0 ++ listed_piece c.args.from c.frames.count c.args.opening.now c.next.new.frame, Appends-trans old mid new i.grown.0 _ i.grown.1 w.sent);
      keeps_sink = keeps_sink_trans (g.O.Sink.told c.args.out.now) (g.O.Sink.told c.frames.out) (g.O.Sink.told c.write_listed.new.out) i.grown.0 _ i.keeps_sink w.keeps i.grown.1 w.sent;
      chosen = e.chosen ∙ i.chosen;
      keeps = keeps_shelf_trans (g.S.Shelf.told c.args.shelf.now) (g.S.Shelf.told c.frames.shelf) (g.S.Shelf.told c.next.new.shelf) i.keeps e.keeps;
    }

pub returns-in_err-write_listed-clause-write : goal.returns-in_err-write_listed-clause-write
returns-in_err-write_listed-clause-write g c = λ _.
    let i = c.frames.invariant in
    let w = c.in_err-write_listed.ensures in
    failed_later (g.O.Sink.told c.args.out.now) (g.O.Sink.told c.frames.out) (g.O.Sink.told c.write_listed.new.out) i.grown.0 i.keeps_sink w.failed i.grown.1

pub returns-in_err-write_listed-clause-keeps_sink : goal.returns-in_err-write_listed-clause-keeps_sink
returns-in_err-write_listed-clause-keeps_sink g c =
    let i = c.frames.invariant in
    let w = c.in_err-write_listed.ensures in
    keeps_sink_trans (g.O.Sink.told c.args.out.now) (g.O.Sink.told c.frames.out) (g.O.Sink.told c.write_listed.new.out) i.grown.0 w.front.front i.keeps_sink w.keeps i.grown.1 w.front.grown

pub returns-in_err-write_listed-clause-grown : goal.returns-in_err-write_listed-clause-grown
returns-in_err-write_listed-clause-grown g c =
    let i = c.frames.invariant in
    let w = c.in_err-write_listed.ensures in
    (i.grown.0 ++ w.front.front, Appends-trans (g.O.Sink.told c.args.out.now).written (g.O.Sink.told c.frames.out).written (g.O.Sink.told c.write_listed.new.out).written i.grown.0 w.front.front i.grown.1 w.front.grown)
