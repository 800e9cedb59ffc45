use Rattle.std.proofs.Common.{◌≡◌, ℕ, List, Some, sym, ap, ◌∙◌, subst}
use Rattle.std.proofs.lemmas.Result.{err_from_is_err_and}
use Rattle.mv_bits.specs.Zeros.{zero_bytes}
use Rattle.mv_units.specs.Written.{end_bytes}
use Rattle.mv_ends.specs.Sends.{Sends}
use Rattle.mv_ends.proofs.SendLaws.{sends_behind, sends_first}
use Rattle.enc_guided.specs.Recoded.{ending_of}
use Rattle.enc_guided.proofs.SendLemmas.{ending_is}
use Rattle.enc_guided.proofs.coder.PictureCoder.finish.Goals as goal

pub returns-in_err-send-in-Some : goal.returns-in_err-send-in-Some
returns-in_err-send-in-Some g c header scale steps stands =
    let p = err_from_is_err_and c.from_residual.result c.from_residual.ensures.1 in
    let e : ending_of steps ≡ end_bytes (Some c.in-Some.zeros) = ending_is steps ∙ ap end_bytes (sym stands.ending ∙ c.in-Some.is) in
    rw (p.1, e) (sends_first (g.O.Sink.told c.args.out.now) (g.O.Sink.told c.send.new.out) _ (zero_bytes c.in-Some.zeros) _ _ c.in_err-send-in-Some.ensures)

pub returns-in_ok-send-in-Some : goal.returns-in_ok-send-in-Some
returns-in_ok-send-in-Some g c header scale steps stands =
    let e : ending_of steps ≡ end_bytes (Some c.in-Some.zeros) = ending_is steps ∙ ap end_bytes (sym stands.ending ∙ c.in-Some.is) in
    subst (λ (bytes : List ℕ). Sends (g.O.Sink.told c.args.out.now) (g.O.Sink.told c.send_zeros.new.out) bytes c.send_zeros.result) (sym e)
    (sends_behind (g.O.Sink.told c.args.out.now) (g.O.Sink.told c.send.new.out) (g.O.Sink.told c.send_zeros.new.out) _ (zero_bytes c.in-Some.zeros) c.send_zeros.result c.in_ok-send-in-Some.ensures.sent c.in_ok-send-in-Some.ensures.keeps c.send_zeros.ensures)
