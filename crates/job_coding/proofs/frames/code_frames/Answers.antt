use Rattle.std.proofs.Common.{◌≡◌, ◌≤◌, ◌^◌, Option, Some, None, Ok, Err, Bool, true, false, refl, sym, ap, ◌∙◌, subst, arith}
use Rattle.mv_ends.specs.Sends.{Sends}
use Rattle.mv_ends.proofs.Known.{keeps_sink_refl, keeps_sink_trans, failed_later, keeps_shelf_refl, keeps_shelf_trans}
use Rattle.mv_terms.specs.declared.status.FrameFault.{FrameFault}
use Rattle.mv_terms.specs.declared.status.Status.TheVariants as status
use Rattle.y4m_frames.specs.declared.halt.Halt.{Halt}
use Rattle.y4m_frames.specs.declared.halt.Halt.TheVariants as halts
use Rattle.plan_window.specs.Plan.{ahead}
use Rattle.plan_window.specs.Numbers.{AreNumbered}
use Rattle.plan_window.specs.State.{steps_left}
use Rattle.job_coding.specs.Codings.{Coding, IsNextStep, IsFrameOf, bytes_of_coding, frame_steps, summaries}
use Rattle.job_coding.specs.Outcome.{status_of}
use Rattle.job_coding.proofs.Turns.{NoStep, still, all_pushed, turn_at, turn_starts, step_ready, turn_steps, look_ready, turn_reads, turn_closes, left_more, left_same, says_fault, says_end}
use Rattle.job_coding.proofs.Exits.{on_ok, on_err, exit_step, exit_ended, exit_unended, exit_read}
use Rattle.job_coding.proofs.frames.code_frames.Goals as goal

not_ended : (f : FrameFault) → Some (Some f) ≡ Some None → ⊥
not_ended f e = cc

pub turns-init : goal.turns-init
turns-init g c = record {
  turn = turn_starts (g.C.Coder.coding c.args.coder.now) c.args.reader.now (g.S.Shelf.told c.args.shelf.now).rest c.args.window.now c.args.slots.now (g.O.Sink.told c.args.out.now).written
      (record { whole = c.plan_law.ensures.whole; counted = c.plan_law.ensures.counted; serve = c.numbers_law.ensures.serve }) c.requires.window c.requires.not_closed c.requires.coder c.requires.header;
  at_end = λ e. absurd cc;
  runs = λ e. c.requires.runs;
  coding = refl;
  slots = c.requires.count;
  sizes = c.requires.sizes;
  room = omega (arith, c.requires.room);
  chosen = refl;
  kept = keeps_shelf_refl (g.S.Shelf.told c.args.shelf.now);
  keeps_sink = keeps_sink_refl (g.O.Sink.told c.args.out.now);
}

-- a step

pub code-requires : goal.code-requires
code-requires g c =
    let t = c.turns.invariant.turn in
    let most : c.turns.count ≤ 2 ^ 44 = omega (arith, c.turns.invariant.room) in
    let ready = step_ready t c.plan_next.new.self c.in-Some.step c.frame.result.now (c.in-Some.ensures.stands t.numbered t.given t.stands) c.in-Some.ensures.frame c.in-Some.ensures.left c.frame.ensures most in (
      t.frames,
      t.numbered,
      frame_steps t.frames t.given,
      t.codes,
      subst (λ (k : Coding). IsNextStep k (frame_steps t.frames t.given) (record { step = c.in-Some.step; frame = c.frame.result.now })) (sym c.turns.invariant.coding) ready,
    )

pub turns-preserved-in-Ok : goal.turns-preserved-in-Ok
turns-preserved-in-Ok g c =
    let t = c.turns.invariant.turn in
    let steps = frame_steps t.frames t.given in
    let most : c.turns.count ≤ 2 ^ 44 = omega (arith, c.turns.invariant.room) in
    let ready = subst (λ (k : Coding). IsNextStep k steps (record { step = c.in-Some.step; frame = c.frame.result.now })) (sym c.turns.invariant.coding)
    (step_ready t c.plan_next.new.self c.in-Some.step c.frame.result.now (c.in-Some.ensures.stands t.numbered t.given t.stands) c.in-Some.ensures.frame c.in-Some.ensures.left c.frame.ensures most) in
    let k = g.C.Coder.coding c.args.coder.now in
    let sends = subst (λ (x : Coding). Sends (g.O.Sink.told c.turns.out) (g.O.Sink.told c.code.new.out) (x.bytes steps (record { step = c.in-Some.step; frame = c.frame.result.now })) c.code.result) c.turns.invariant.coding (c.code.ensures.sends t.frames t.numbered steps t.codes ready) in
    let sent = on_ok c.code.result c.in-Ok.field-0 sends.sent c.in-Ok.is in
    record {
      turn = turn_steps c.plan_next.new.self (g.O.Sink.told c.code.new.out).written c.in-Some.step c.frame.result.now t (c.in-Some.ensures.stands t.numbered t.given t.stands) c.in-Some.ensures.frame c.in-Some.ensures.left c.in-Some.ensures.closed c.frame.ensures (c.in-Ok.ensures.stands t.frames t.numbered steps t.codes ready) sent;
      at_end = c.turns.invariant.at_end;
      runs = c.turns.invariant.runs;
      coding = c.code.ensures.coding ∙ c.turns.invariant.coding;
      slots = c.turns.invariant.slots;
      sizes = c.turns.invariant.sizes;
      room = c.turns.invariant.room;
      chosen = c.turns.invariant.chosen;
      kept = c.turns.invariant.kept;
      keeps_sink = keeps_sink_trans _ _ _ (bytes_of_coding k steps) (k.bytes steps (record { step = c.in-Some.step; frame = c.frame.result.now })) c.turns.invariant.keeps_sink sends.keeps t.written sent;
    }

pub returns-in-Err-clause-ends : goal.returns-in-Err-clause-ends
returns-in-Err-clause-ends g c = λ coding file coding_is begins.
    let t = c.turns.invariant.turn in
    let steps = frame_steps t.frames t.given in
    let most : c.turns.count ≤ 2 ^ 44 = omega (arith, c.turns.invariant.room) in
    let ready = subst (λ (k : Coding). IsNextStep k steps (record { step = c.in-Some.step; frame = c.frame.result.now })) (sym c.turns.invariant.coding)
    (step_ready t c.plan_next.new.self c.in-Some.step c.frame.result.now (c.in-Some.ensures.stands t.numbered t.given t.stands) c.in-Some.ensures.frame c.in-Some.ensures.left c.frame.ensures most) in
    let sends = subst (λ (x : Coding). Sends (g.O.Sink.told c.turns.out) (g.O.Sink.told c.code.new.out) (x.bytes steps (record { step = c.in-Some.step; frame = c.frame.result.now })) c.code.result) c.turns.invariant.coding (c.code.ensures.sends t.frames t.numbered steps t.codes ready) in
    exit_step c.plan_next.new.self (g.O.Sink.told c.code.new.out).written c.in-Some.step c.frame.result.now t (c.in-Some.ensures.stands t.numbered t.given t.stands) c.in-Some.ensures.frame c.in-Some.ensures.closed c.frame.ensures
    (on_err c.code.result c.in-Err.field-0 sends.front c.in-Err.is) coding file (ap coding c.requires.header ∙ coding_is) begins

pub returns-in-Err-clause-write_fault : goal.returns-in-Err-clause-write_fault
returns-in-Err-clause-write_fault g c = λ same.
    let t = c.turns.invariant.turn in
    let steps = frame_steps t.frames t.given in
    let most : c.turns.count ≤ 2 ^ 44 = omega (arith, c.turns.invariant.room) in
    let ready = subst (λ (k : Coding). IsNextStep k steps (record { step = c.in-Some.step; frame = c.frame.result.now })) (sym c.turns.invariant.coding)
    (step_ready t c.plan_next.new.self c.in-Some.step c.frame.result.now (c.in-Some.ensures.stands t.numbered t.given t.stands) c.in-Some.ensures.frame c.in-Some.ensures.left c.frame.ensures most) in
    let sends = c.code.ensures.sends t.frames t.numbered steps t.codes ready in
    failed_later (g.O.Sink.told c.args.out.now) (g.O.Sink.told c.turns.out) (g.O.Sink.told c.code.new.out) (bytes_of_coding (g.C.Coder.coding c.args.coder.now) steps)
    c.turns.invariant.keeps_sink (on_err c.code.result c.in-Err.field-0 sends.failed c.in-Err.is) t.written

pub returns-in-Err-clause-keeps_sink : goal.returns-in-Err-clause-keeps_sink
returns-in-Err-clause-keeps_sink g c =
    let t = c.turns.invariant.turn in
    let steps = frame_steps t.frames t.given in
    let most : c.turns.count ≤ 2 ^ 44 = omega (arith, c.turns.invariant.room) in
    let ready = subst (λ (k : Coding). IsNextStep k steps (record { step = c.in-Some.step; frame = c.frame.result.now })) (sym c.turns.invariant.coding)
    (step_ready t c.plan_next.new.self c.in-Some.step c.frame.result.now (c.in-Some.ensures.stands t.numbered t.given t.stands) c.in-Some.ensures.frame c.in-Some.ensures.left c.frame.ensures most) in
    let sends = c.code.ensures.sends t.frames t.numbered steps t.codes ready in
    let front = on_err c.code.result c.in-Err.field-0 sends.front c.in-Err.is in
    keeps_sink_trans _ _ _ (bytes_of_coding (g.C.Coder.coding c.args.coder.now) steps) front.front c.turns.invariant.keeps_sink sends.keeps t.written front.grown

-- the end of the output

pub returns-in-Ok-finish-clause-ends : goal.returns-in-Ok-finish-clause-ends
returns-in-Ok-finish-clause-ends g c = λ coding file coding_is begins.
    let kept : c.plan_next.new.self ≡ c.turns.window = c.in-None.ensures.same refl in
    let none = subst NoStep (sym kept) (c.in-None.ensures.none.0 refl) in
    let t = turn_at c.plan_next.new.self (Some c.in-Some-ending.fault) c.turns.invariant.turn kept c.in-Some-ending.is in
    let steps = frame_steps t.frames t.given in
    let sends = subst (λ (x : Coding). Sends (g.O.Sink.told c.turns.out) (g.O.Sink.told c.finish.new.out) (x.ending steps) c.finish.result) c.turns.invariant.coding (c.finish.ensures t.frames t.numbered steps t.codes) in
    exit_ended (g.O.Sink.told c.finish.new.out).written c.status_of.result t none (on_ok c.finish.result c.in-Ok-finish.field-0 sends.sent c.in-Ok-finish.is) c.status_of.ensures coding file (ap coding c.requires.header ∙ coding_is) begins

done_is_none : (fault : Option FrameFault) → status_of fault ≡ status.Done → fault ≡ None
done_is_none None e = refl
done_is_none (Some fault) e = absurd cc

pub returns-in-Ok-finish-clause-done : goal.returns-in-Ok-finish-clause-done
returns-in-Ok-finish-clause-done g c = λ e. c.turns.invariant.at_end (c.in-Some-ending.is ∙ ap (λ (f : Option FrameFault). Some f) (done_is_none c.in-Some-ending.fault (sym c.status_of.ensures ∙ e)))

pub returns-in-Ok-finish-clause-keeps_sink : goal.returns-in-Ok-finish-clause-keeps_sink
returns-in-Ok-finish-clause-keeps_sink g c =
    let t = c.turns.invariant.turn in
    let steps = frame_steps t.frames t.given in
    let sends = c.finish.ensures t.frames t.numbered steps t.codes in
    keeps_sink_trans _ _ _ (bytes_of_coding (g.C.Coder.coding c.args.coder.now) steps) ((g.C.Coder.coding c.turns.coder).ending steps) c.turns.invariant.keeps_sink sends.keeps t.written (on_ok c.finish.result c.in-Ok-finish.field-0 sends.sent c.in-Ok-finish.is)

pub returns-in-Err-finish-clause-ends : goal.returns-in-Err-finish-clause-ends
returns-in-Err-finish-clause-ends g c = λ coding file coding_is begins.
    let kept : c.plan_next.new.self ≡ c.turns.window = c.in-None.ensures.same refl in
    let none = subst NoStep (sym kept) (c.in-None.ensures.none.0 refl) in
    let t = turn_at c.plan_next.new.self (Some c.in-Some-ending.fault) c.turns.invariant.turn kept c.in-Some-ending.is in
    let steps = frame_steps t.frames t.given in
    let sends = subst (λ (x : Coding). Sends (g.O.Sink.told c.turns.out) (g.O.Sink.told c.finish.new.out) (x.ending steps) c.finish.result) c.turns.invariant.coding (c.finish.ensures t.frames t.numbered steps t.codes) in
    exit_unended (g.O.Sink.told c.finish.new.out).written t none (on_err c.finish.result c.in-Err-finish.field-0 sends.front c.in-Err-finish.is) coding file (ap coding c.requires.header ∙ coding_is) begins

-- a frame

pub look-summary-requires-clause-frame : goal.look-summary-requires-clause-frame
look-summary-requires-clause-frame g c =
    let t = turn_at c.turns.window None c.turns.invariant.turn refl c.in-None-ending.is in
    let is : c.read.result ≡ Ok true = c.in-Ok-true.is ∙ ap (λ (b : Bool). Ok b) c.in-Ok-true.field-0-test in
    subst (λ (k : Coding). IsFrameOf k.header c.frame-in-Ok-true.result.now) (sym c.turns.invariant.coding)
    (look_ready t c.read.ensures.fills c.frame-in-Ok-true.result.now c.turns.invariant.slots c.frame-in-Ok-true.ensures is)

pub look-summary-requires-clause-stands : goal.look-summary-requires-clause-stands
look-summary-requires-clause-stands g c =
    let t = c.turns.invariant.turn in
    let less = c.in-Ok-true.ensures.falls c.in-Ok-true.field-0-test in
    (t.frames, t.numbered, frame_steps t.frames t.given, t.codes, omega (arith, t.counted, less, c.turns.invariant.room))

pub push-requires-clause-count : goal.push-requires-clause-count
push-requires-clause-count g c =
    let t = c.turns.invariant.turn in
    omega (arith, c.plan_next.ensures.count, all_pushed t, t.counted, c.turns.invariant.room)

pub turns-smaller-in-Ok-true : goal.turns-smaller-in-Ok-true
turns-smaller-in-Ok-true g c =
    let kept : c.plan_next.new.self ≡ c.turns.window = c.in-None.ensures.same refl in
    let t = turn_at c.plan_next.new.self None c.turns.invariant.turn kept c.in-None-ending.is in
    let is : c.read.result ≡ Ok true = c.in-Ok-true.is ∙ ap (λ (b : Bool). Ok b) c.in-Ok-true.field-0-test in
    let more = left_more c.push.new.self c.look-summary.result t (c.push.ensures.stands t.numbered t.given t.stands) in
    let less = c.in-Ok-true.ensures.falls c.in-Ok-true.field-0-test in
    omega (arith, more, less, ap steps_left kept)

pub turns-preserved-in-Ok-true : goal.turns-preserved-in-Ok-true
turns-preserved-in-Ok-true g c =
    let kept : c.plan_next.new.self ≡ c.turns.window = c.in-None.ensures.same refl in
    let none = subst NoStep (sym kept) (c.in-None.ensures.none.0 refl) in
    let t = turn_at c.plan_next.new.self None c.turns.invariant.turn kept c.in-None-ending.is in
    let is : c.read.result ≡ Ok true = c.in-Ok-true.is ∙ ap (λ (b : Bool). Ok b) c.in-Ok-true.field-0-test in
    let less = c.in-Ok-true.ensures.falls c.in-Ok-true.field-0-test in
    let coding_is = c.look-summary.ensures.coding ∙ c.turns.invariant.coding in
    let read = turn_reads c.push.new.self c.frame-in-Ok-true.result.now c.look-summary.result t none c.turns.invariant.slots c.read.ensures.fills c.read.ensures.header.0 is c.frame-in-Ok-true.ensures (c.look-summary.ensures.stands t.frames t.numbered (frame_steps t.frames t.given) t.codes (omega (arith, t.counted, less, c.turns.invariant.room)))
    (λ frames numbered steps stands. subst (λ (k : Coding). AreNumbered ahead (summaries k frames) numbered) coding_is (c.look-summary.ensures.numbers frames numbered steps stands))
    (c.push.ensures.stands t.numbered t.given t.stands) c.push.ensures.len c.push.ensures.«open» in
    record {
      turn = turn_at c.push.new.self c.turns.ending read refl (sym c.in-None-ending.is);
      at_end = λ e. absurd (let no : None ≡ Some None = sym c.in-None-ending.is ∙ e in cc);
      runs = λ e. c.in-Ok-true.ensures.runs;
      coding = coding_is;
      slots = c.read.ensures.count;
      sizes = c.read.ensures.sizes;
      room = omega (arith, c.turns.invariant.room, less);
      chosen = c.read.ensures.chosen ∙ c.turns.invariant.chosen;
      kept = keeps_shelf_trans (g.S.Shelf.told c.args.shelf.now) (g.S.Shelf.told c.turns.shelf) (g.S.Shelf.told c.read.new.shelf) c.turns.invariant.kept c.read.ensures.keeps;
      keeps_sink = c.turns.invariant.keeps_sink;
    }

-- the end of the file

pub turns-smaller-in-Ok-false : goal.turns-smaller-in-Ok-false
turns-smaller-in-Ok-false g c =
    let kept : c.plan_next.new.self ≡ c.turns.window = c.in-None.ensures.same refl in
    let t = turn_at c.plan_next.new.self None c.turns.invariant.turn kept c.in-None-ending.is in
    let same = left_same c.close.new.self t (c.close.ensures.stands t.numbered t.given t.stands) in
    omega (arith, same, c.read.ensures.room, ap steps_left kept, ap still c.in-None-ending.is)

pub turns-preserved-in-Ok-false : goal.turns-preserved-in-Ok-false
turns-preserved-in-Ok-false g c =
    let kept : c.plan_next.new.self ≡ c.turns.window = c.in-None.ensures.same refl in
    let none = subst NoStep (sym kept) (c.in-None.ensures.none.0 refl) in
    let t = turn_at c.plan_next.new.self None c.turns.invariant.turn kept c.in-None-ending.is in
    let is : c.read.result ≡ Ok false = c.in-Ok-false.is ∙ ap (λ (b : Bool). Ok b) c.in-Ok-false.field-0-test in
    record {
      turn = turn_closes c.close.new.self None t none c.read.ensures.fills c.read.ensures.header
          (λ file samples said. (says_end c.turns.reader c.read.new.reader (g.S.Shelf.told c.read.new.shelf).rest file t.frames samples c.read.result is said).0)
          (c.close.ensures.stands t.numbered t.given t.stands) c.close.ensures.held c.close.ensures.closed;
      at_end = λ e. c.in-Ok-false.ensures.at_end c.in-Ok-false.field-0-test;
      runs = λ e. absurd cc;
      coding = c.turns.invariant.coding;
      slots = c.read.ensures.count;
      sizes = c.read.ensures.sizes;
      room = omega (arith, c.turns.invariant.room, c.read.ensures.room);
      chosen = c.read.ensures.chosen ∙ c.turns.invariant.chosen;
      kept = keeps_shelf_trans (g.S.Shelf.told c.args.shelf.now) (g.S.Shelf.told c.turns.shelf) (g.S.Shelf.told c.read.new.shelf) c.turns.invariant.kept c.read.ensures.keeps;
      keeps_sink = c.turns.invariant.keeps_sink;
    }

-- a fault of the file

pub turns-smaller : goal.turns-smaller
turns-smaller g c =
    let kept : c.plan_next.new.self ≡ c.turns.window = c.in-None.ensures.same refl in
    let t = turn_at c.plan_next.new.self None c.turns.invariant.turn kept c.in-None-ending.is in
    let same = left_same c.close-in-Err-Fault.new.self t (c.close-in-Err-Fault.ensures.stands t.numbered t.given t.stands) in
    omega (arith, same, c.read.ensures.room, ap steps_left kept, ap still c.in-None-ending.is)

pub turns-preserved : goal.turns-preserved
turns-preserved g c =
    let kept : c.plan_next.new.self ≡ c.turns.window = c.in-None.ensures.same refl in
    let none = subst NoStep (sym kept) (c.in-None.ensures.none.0 refl) in
    let t = turn_at c.plan_next.new.self None c.turns.invariant.turn kept c.in-None-ending.is in
    let is : c.read.result ≡ Err (halts.Fault c.in-Err-Fault.fault) = c.in-Err-Fault.is ∙ ap (λ (h : Halt). Err h) c.in-Err-Fault.field-0-is in
    let closed = turn_closes c.close-in-Err-Fault.new.self (Some c.in-Err-Fault.fault) t none c.read.ensures.fills c.read.ensures.header
    (λ file samples said. says_fault c.turns.reader c.read.new.reader (g.S.Shelf.told c.read.new.shelf).rest file t.frames samples c.read.result c.in-Err-Fault.fault is said)
    (c.close-in-Err-Fault.ensures.stands t.numbered t.given t.stands) c.close-in-Err-Fault.ensures.held c.close-in-Err-Fault.ensures.closed in
    record {
      turn = turn_at c.close-in-Err-Fault.new.self _ closed refl (ap (λ (f : FrameFault). Some (Some f)) (sym c.in-Err-Fault.fault-is));
      at_end = λ e. absurd (not_ended _ e);
      runs = λ e. absurd cc;
      coding = c.turns.invariant.coding;
      slots = c.read.ensures.count;
      sizes = c.read.ensures.sizes;
      room = omega (arith, c.turns.invariant.room, c.read.ensures.room);
      chosen = c.read.ensures.chosen ∙ c.turns.invariant.chosen;
      kept = keeps_shelf_trans (g.S.Shelf.told c.args.shelf.now) (g.S.Shelf.told c.turns.shelf) (g.S.Shelf.told c.read.new.shelf) c.turns.invariant.kept c.read.ensures.keeps;
      keeps_sink = c.turns.invariant.keeps_sink;
    }

pub returns-in-Err-Read-clause-ends : goal.returns-in-Err-Read-clause-ends
returns-in-Err-Read-clause-ends g c = λ coding file coding_is begins.
    let kept : c.plan_next.new.self ≡ c.turns.window = c.in-None.ensures.same refl in
    let t = turn_at c.plan_next.new.self None c.turns.invariant.turn kept c.in-None-ending.is in
    let is : c.read.result ≡ Err halts.Read = c.in-Err-Read.is ∙ ap (λ (h : Halt). Err h) c.in-Err-Read.field-0-is in
    exit_read t c.read.ensures.fills is coding file (ap coding c.requires.header ∙ coding_is) begins
