use Rattle.std.proofs.Common.{arith, sym, take, drop}
use Rattle.std.proofs.lemmas.List.{take-append-drop, length-drop}
use Rattle.std.proofs.lemmas.Result.{err_from_is_err_and}
use Rattle.mv_ends.proofs.Known.{Appends_next, Keeps_after, Keeps-Appends, keeps_sink_trans, failed_later}
use Rattle.mv_ends.proofs.send.Goals as goal

pub loop-sent-preserved : goal.loop-sent-preserved
loop-sent-preserved g c = record {
  within = omega (arith, c.in_ok-sent.ensures.bound);
  bytes = Appends_next _ _ _ _ _ _ c.loop-sent.invariant.bytes c.in_ok-sent.ensures.bytes;
  keeps = keeps_sink_trans _ _ _ _ _ c.loop-sent.invariant.keeps c.in_ok-sent.ensures.keeps c.loop-sent.invariant.bytes c.in_ok-sent.ensures.bytes;
}

pub returns-in_err-sent : goal.returns-in_err-sent
returns-in_err-sent g c =
    let p = err_from_is_err_and c.from_residual.result c.from_residual.ensures.1 in
    rw p.1 (record {
      sent = tt;
      front = record {
        front = take c.loop-sent.sent c.args.bytes.now;
        back = drop c.loop-sent.sent c.args.bytes.now;
        parts = sym (take-append-drop _ _);
        some_left = omega (arith, length-drop c.loop-sent.sent c.args.bytes.now);
        grown = Keeps_after _ _ _ _ c.loop-sent.invariant.bytes c.in_err-sent.ensures.bytes;
      };
      keeps = keeps_sink_trans _ _ _ _ _ c.loop-sent.invariant.keeps c.in_err-sent.ensures.keeps c.loop-sent.invariant.bytes (Keeps-Appends _ _ c.in_err-sent.ensures.bytes);
      failed = failed_later _ _ _ _ c.loop-sent.invariant.keeps c.in_err-sent.ensures.failed c.loop-sent.invariant.bytes;
    })
