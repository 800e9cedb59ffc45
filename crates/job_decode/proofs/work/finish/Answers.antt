use Rattle.std.proofs.Common.{ℕ, List, inl, inr, refl, subst}
use Rattle.std.specs.Io.KnownBytes.{Appends}
use Rattle.mv_ends.specs.Moves.{AppendsFront}
use Rattle.job_decode.proofs.Works.{held_is}
use Rattle.job_decode.proofs.work.finish.Goals as goal

pub returns-in-Ok-clause-ends : goal.returns-in-Ok-clause-ends
returns-in-Ok-clause-ends g c =
    inl (refl, λ before stands. subst (λ (s : List ℕ). Appends (g.O.Sink.told c.args.out.now).written (g.O.Sink.told c.write_held.new.out).written s) (held_is c.args.work.now before stands) c.in-Ok.ensures.sent)

pub returns-in-Err-clause-ends : goal.returns-in-Err-clause-ends
returns-in-Err-clause-ends g c =
    inr (refl, λ before stands. subst (λ (s : List ℕ). AppendsFront (g.O.Sink.told c.args.out.now).written (g.O.Sink.told c.write_held.new.out).written s) (held_is c.args.work.now before stands) c.in-Err.ensures.front)
