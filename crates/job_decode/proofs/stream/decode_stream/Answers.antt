use Rattle.std.proofs.Common.{◌≡◌, ℕ, List, length, ap, sym, refl, arith, subst, None, Err}
use Rattle.mv_ends.proofs.Known.{keeps_sink_refl, keeps_sink_trans, failed_later}
use Rattle.mv_terms.specs.declared.status.Why.{Why}
use Rattle.mv_terms.specs.declared.status.Status.TheVariants as status
use Rattle.mv_terms.specs.UnitLists.{lent_unit}
use Rattle.mv_slices.proofs.SliceLaws.{coded_or_refused}
use Rattle.mv_units.specs.declared.cutter.Cut.TheVariants as cuts
use Rattle.mv_units.specs.Units.{Fed, Settles}
use Rattle.cert_picture.specs.FrameFileOf.{due}
use Rattle.job_decode.specs.declared.work.Stop.{Stop}
use Rattle.job_decode.specs.Steps.{StepsTo, WorkStands, Finishes, unfed}
use Rattle.job_decode.proofs.Feeds.{none_unfed, next_fits, next_counted, next_less}
use Rattle.job_decode.proofs.Turns.{Turn, turn_starts, turn_advances, turn_accepts}
use Rattle.job_decode.proofs.Exits.{nothing_yet, unread, unit_refused, no_memory_yet, unit_unwritten, cut_settled, cut_ended, keeps_sink_still, exit_keeps_sink, still_written}
use Rattle.job_decode.proofs.stream.decode_stream.Goals as goal

pub returns-in_default-clause-ends : goal.returns-in_default-clause-ends
returns-in_default-clause-ends g c = nothing_yet coded_or_refused _ _ _ _

pub returns-in_default-start-clause-ends : goal.returns-in_default-start-clause-ends
returns-in_default-start-clause-ends g c = nothing_yet coded_or_refused _ _ _ _

pub units-init : goal.units-init
units-init g c =
    let p = c.in-Ok.piece in
    let at_is : p.at ≡ 0 = c.in-Ok.ensures.0 in
    let end_is : p.end ≡ 0 = c.in-Ok.ensures.1 in
    let full = c.in-Ok.ensures.2 in
    let fed = c.in-Ok-start.cutter in
    let nothing = c.in-Ok-start.ensures.nothing in
    record {
      turn = subst (λ (s : List ℕ). Turn (g.S.Shelf.told c.args.shelf.now).named c.args.name.now (g.S.Shelf.told c.args.shelf.now).rest fed s None 0 (g.O.Sink.told c.args.out.now).written (g.O.Sink.told c.args.out.now).written)
          (sym (none_unfed p.bytes.items p.at p.end (omega (arith, at_is, end_is))))
          (turn_starts (g.S.Shelf.told c.args.shelf.now).named c.args.name.now (g.S.Shelf.told c.args.shelf.now).rest fed (g.O.Sink.told c.args.out.now).written nothing c.in-Ok-start.ensures.stands c.requires.opened);
      fits = record {
        within = omega (arith, at_is, end_is);
        inside = omega (arith, end_is);
        full = full;
        room = omega (arith, at_is, end_is, ap (λ (f : Fed). length f.bytes) nothing);
      };
      counted = omega (arith, ap (λ (f : Fed). f.room) nothing);
      chosen = c.requires.chosen;
      kept = record { inputs = refl; opens = λ name. omega arith; reads = λ name. omega arith };
      keeps_sink = keeps_sink_refl (g.O.Sink.told c.args.out.now);
    }

pub returns-in-Err-clause-ends : goal.returns-in-Err-clause-ends
returns-in-Err-clause-ends g c =
    let turn = turn_advances (g.S.Shelf.told c.args.shelf.now).named c.args.name.now (g.S.Shelf.told c.units.shelf).rest (g.S.Shelf.told c.advance.new.shelf).rest c.units.cutter c.advance.new.cutter (unfed c.units.piece) (unfed c.advance.new.piece) c.units.work c.units.count
    (g.O.Sink.told c.args.out.now).written (g.O.Sink.told c.units.out).written c.units.invariant.turn (λ let_go so. c.in-Err.ensures.fed (g.S.Shelf.told c.args.shelf.now).named c.args.name.now let_go so) in
    unread coded_or_refused (g.S.Shelf.told c.args.shelf.now).named c.args.name.now (g.S.Shelf.told c.advance.new.shelf).rest c.advance.new.cutter (unfed c.advance.new.piece) c.units.work c.units.count
    (g.O.Sink.told c.args.out.now).written (g.O.Sink.told c.units.out).written turn
    (subst (λ (f : Fed). Settles f cuts.More) (sym c.in-Err.ensures.none.1) c.in-More.ensures.settles) c.in-Err.ensures.none.0

pub take_unit-requires-clause-slices : goal.take_unit-requires-clause-slices
take_unit-requires-clause-slices g c =
    c.unit-unit.ensures.slices c.units.invariant.turn.is_fed.past c.units.invariant.turn.let_go c.units.invariant.turn.is_fed.stands

pub returns-in-Err-Refused-clause-ends : goal.returns-in-Err-Refused-clause-ends
returns-in-Err-Refused-clause-ends g c =
    let turn = c.units.invariant.turn in
    let said = subst (λ (stop : Stop). StepsTo (λ units. WorkStands c.take_unit.new.work units) turn.before (lent_unit c.unit-unit.result) (g.O.Sink.told c.units.out).written (g.O.Sink.told c.take_unit.new.out).written (Err stop))
    c.in-Err-Refused.field-0-is (c.in-Err-Refused.ensures.steps turn.before turn.stands) in
    unit_refused (g.S.Shelf.told c.args.shelf.now).named c.args.name.now (g.S.Shelf.told c.units.shelf).rest c.units.cutter (unfed c.units.piece) c.units.work c.take_unit.new.work c.units.count (lent_unit c.unit-unit.result) c.finish.result
    (g.O.Sink.told c.args.out.now).written (g.O.Sink.told c.units.out).written (g.O.Sink.told c.take_unit.new.out).written (g.O.Sink.told c.finish.new.out).written c.in-Err-Refused.why turn
    (sym c.in-Ready.ensures.value) c.unit-unit.ensures.parts said.0 said.1 said.2
    (subst (λ (why : Why). Finishes c.take_unit.new.work (status.Unit c.units.count why) c.finish.result (g.O.Sink.told c.take_unit.new.out).written (g.O.Sink.told c.finish.new.out).written) c.in-Err-Refused.why-is c.finish.ensures.ends)

pub returns-in-Err-Refused-clause-keeps_sink : goal.returns-in-Err-Refused-clause-keeps_sink
returns-in-Err-Refused-clause-keeps_sink g c =
    let turn = c.units.invariant.turn in
    let said = subst (λ (stop : Stop). StepsTo (λ units. WorkStands c.take_unit.new.work units) turn.before (lent_unit c.unit-unit.result) (g.O.Sink.told c.units.out).written (g.O.Sink.told c.take_unit.new.out).written (Err stop))
    c.in-Err-Refused.field-0-is (c.in-Err-Refused.ensures.steps turn.before turn.stands) in
    exit_keeps_sink (g.O.Sink.told c.args.out.now) (g.O.Sink.told c.take_unit.new.out) (g.O.Sink.told c.finish.new.out) (due turn.before) c.take_unit.new.work turn.before _ c.finish.result
    (keeps_sink_still (g.O.Sink.told c.args.out.now) (g.O.Sink.told c.units.out) (g.O.Sink.told c.take_unit.new.out) (due turn.before) c.units.invariant.keeps_sink c.in-Err-Refused.ensures.keeps_sink turn.written said.2)
    c.finish.ensures.keeps_sink (still_written _ _ _ _ turn.written said.2) said.1 c.finish.ensures.ends

pub returns-in-Err-NoMemory-clause-ends : goal.returns-in-Err-NoMemory-clause-ends
returns-in-Err-NoMemory-clause-ends g c =
    let turn = c.units.invariant.turn in
    let said = subst (λ (stop : Stop). StepsTo (λ units. WorkStands c.take_unit.new.work units) turn.before (lent_unit c.unit-unit.result) (g.O.Sink.told c.units.out).written (g.O.Sink.told c.take_unit.new.out).written (Err stop))
    c.in-Err-NoMemory.field-0-is (c.in-Err-NoMemory.ensures.steps turn.before turn.stands) in
    no_memory_yet coded_or_refused (g.S.Shelf.told c.args.shelf.now).named c.args.name.now (g.S.Shelf.told c.units.shelf).rest c.units.cutter (unfed c.units.piece) c.units.work c.units.count
    (g.O.Sink.told c.args.out.now).written (g.O.Sink.told c.units.out).written (g.O.Sink.told c.take_unit.new.out).written turn said.0 said.1

pub returns-in-Err-WriteFault-clause-ends : goal.returns-in-Err-WriteFault-clause-ends
returns-in-Err-WriteFault-clause-ends g c =
    let turn = c.units.invariant.turn in
    let said = subst (λ (stop : Stop). StepsTo (λ units. WorkStands c.take_unit.new.work units) turn.before (lent_unit c.unit-unit.result) (g.O.Sink.told c.units.out).written (g.O.Sink.told c.take_unit.new.out).written (Err stop))
    c.in-Err-WriteFault.field-0-is (c.in-Err-WriteFault.ensures.steps turn.before turn.stands) in
    unit_unwritten coded_or_refused (g.S.Shelf.told c.args.shelf.now).named c.args.name.now (g.S.Shelf.told c.units.shelf).rest c.units.cutter (unfed c.units.piece) c.units.work c.units.count (lent_unit c.unit-unit.result)
    (g.O.Sink.told c.args.out.now).written (g.O.Sink.told c.units.out).written (g.O.Sink.told c.take_unit.new.out).written turn (sym c.in-Ready.ensures.value) c.unit-unit.ensures.parts said

pub units-smaller : goal.units-smaller
units-smaller g c = next_less c.units.cutter c.next.new.self c.units.piece (sym c.in-Ready.ensures.value) c.next.ensures.left

pub units-preserved : goal.units-preserved
units-preserved g c =
    let turn = c.units.invariant.turn in
    let w = c.in-Ok-take_unit.ensures.steps turn.before turn.stands in
    record {
      turn = turn_accepts (g.S.Shelf.told c.args.shelf.now).named c.args.name.now (g.S.Shelf.told c.units.shelf).rest c.units.cutter c.next.new.self (unfed c.units.piece) c.units.work c.take_unit.new.work c.units.count (lent_unit c.unit-unit.result)
          (g.O.Sink.told c.args.out.now).written (g.O.Sink.told c.units.out).written (g.O.Sink.told c.take_unit.new.out).written turn (sym c.in-Ready.ensures.value) c.next.ensures.left c.unit-unit.ensures.parts w;
      fits = next_fits c.units.cutter c.next.new.self c.units.piece (sym c.in-Ready.ensures.value) c.next.ensures.left c.units.invariant.fits;
      counted = next_counted c.units.cutter c.next.new.self c.units.count (sym c.in-Ready.ensures.value) c.next.ensures.left c.units.invariant.counted;
      chosen = c.units.invariant.chosen;
      kept = c.units.invariant.kept;
      keeps_sink = keeps_sink_trans _ _ _ _ _ c.units.invariant.keeps_sink c.in-Ok-take_unit.ensures.keeps_sink turn.written w.takes.moves;
    }

pub returns-in-Refused-clause-ends : goal.returns-in-Refused-clause-ends
returns-in-Refused-clause-ends g c =
    cut_settled (g.S.Shelf.told c.args.shelf.now).named c.args.name.now (g.S.Shelf.told c.units.shelf).rest c.units.cutter (unfed c.units.piece) c.units.work c.units.count c.finish-in-Refused.result
    (g.O.Sink.told c.args.out.now).written (g.O.Sink.told c.units.out).written (g.O.Sink.told c.finish-in-Refused.new.out).written c.in-Refused.why c.units.invariant.turn c.in-Refused.ensures.settles c.finish-in-Refused.ensures.ends

pub returns-in-Refused-clause-write_fault : goal.returns-in-Refused-clause-write_fault
returns-in-Refused-clause-write_fault g c = λ fault.
    let turn = c.units.invariant.turn in
    failed_later (g.O.Sink.told c.args.out.now) (g.O.Sink.told c.units.out) (g.O.Sink.told c.finish-in-Refused.new.out) (due turn.before)
    c.units.invariant.keeps_sink (c.finish-in-Refused.ensures.failed fault) turn.written

pub returns-in-Refused-clause-keeps_sink : goal.returns-in-Refused-clause-keeps_sink
returns-in-Refused-clause-keeps_sink g c =
    let turn = c.units.invariant.turn in
    exit_keeps_sink (g.O.Sink.told c.args.out.now) (g.O.Sink.told c.units.out) (g.O.Sink.told c.finish-in-Refused.new.out) (due turn.before) c.units.work turn.before _ c.finish-in-Refused.result
    c.units.invariant.keeps_sink c.finish-in-Refused.ensures.keeps_sink turn.written turn.stands c.finish-in-Refused.ensures.ends

pub returns-in-Ended-clause-ends : goal.returns-in-Ended-clause-ends
returns-in-Ended-clause-ends g c =
    cut_ended (g.S.Shelf.told c.args.shelf.now).named c.args.name.now (g.S.Shelf.told c.units.shelf).rest c.units.cutter (unfed c.units.piece) c.units.work c.units.count c.finish-in-Ended.result
    (g.O.Sink.told c.args.out.now).written (g.O.Sink.told c.units.out).written (g.O.Sink.told c.finish-in-Ended.new.out).written c.units.invariant.turn (sym c.in-Ended.ensures.value) c.in-Ended.ensures.settles c.finish-in-Ended.ensures.ends

pub returns-in-Ended-clause-write_fault : goal.returns-in-Ended-clause-write_fault
returns-in-Ended-clause-write_fault g c = λ fault.
    let turn = c.units.invariant.turn in
    failed_later (g.O.Sink.told c.args.out.now) (g.O.Sink.told c.units.out) (g.O.Sink.told c.finish-in-Ended.new.out) (due turn.before)
    c.units.invariant.keeps_sink (c.finish-in-Ended.ensures.failed fault) turn.written

pub returns-in-Ended-clause-keeps_sink : goal.returns-in-Ended-clause-keeps_sink
returns-in-Ended-clause-keeps_sink g c =
    let turn = c.units.invariant.turn in
    exit_keeps_sink (g.O.Sink.told c.args.out.now) (g.O.Sink.told c.units.out) (g.O.Sink.told c.finish-in-Ended.new.out) (due turn.before) c.units.work turn.before _ c.finish-in-Ended.result
    c.units.invariant.keeps_sink c.finish-in-Ended.ensures.keeps_sink turn.written turn.stands c.finish-in-Ended.ensures.ends
