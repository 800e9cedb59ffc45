use Rattle.std.proofs.Common.{◌≤◌, ◌-◌, arith}
use Rattle.std.proofs.lemmas.List.{take-replicate}
use Rattle.std.proofs.lemmas.Result.{err_from_is_err_and}
use Rattle.mv_ends.proofs.Known.{keeps_sink_trans, failed_later}
use Rattle.enc_glue.proofs.ZeroLemmas.{block_sent, block_failed}
use Rattle.enc_glue.proofs.send_zeros.Goals as goal

pub turns-preserved : goal.turns-preserved
turns-preserved g c =
    let n = c.min-count.result in
    let fits : n ≤ 4096 = omega (arith, c.min-count.ensures) in
    let within : n ≤ c.turns.left = omega (arith, c.min-count.ensures) in
    record {
      within = omega arith;
      bytes = block_sent _ _ _ _ (c.args.n - c.turns.left) n _ (take-replicate n 4096 0 fits) (omega (arith, c.turns.invariant.within)) c.turns.invariant.bytes c.in_ok-send.ensures.sent;
      keeps = keeps_sink_trans _ _ _ _ _ c.turns.invariant.keeps c.in_ok-send.ensures.keeps c.turns.invariant.bytes c.in_ok-send.ensures.sent;
    }

pub returns-in_err-send : goal.returns-in_err-send
returns-in_err-send g c =
    let p = err_from_is_err_and c.from_residual.result c.from_residual.ensures.1 in
    let n = c.min-count.result in
    let fits : n ≤ 4096 = omega (arith, c.min-count.ensures) in
    let within : n ≤ c.turns.left = omega (arith, c.min-count.ensures) in
    rw p.1 (record {
      sent = tt;
      front = block_failed _ _ _ _ (c.args.n - c.turns.left) n _ (take-replicate n 4096 0 fits) (omega (arith, c.turns.invariant.within)) c.turns.invariant.bytes c.in_err-send.ensures.front;
      keeps = keeps_sink_trans _ _ _ _ _ c.turns.invariant.keeps c.in_err-send.ensures.keeps c.turns.invariant.bytes c.in_err-send.ensures.front.grown;
      failed = failed_later _ _ _ _ c.turns.invariant.keeps c.in_err-send.ensures.failed c.turns.invariant.bytes;
    })
