use Rattle.std.proofs.Common.{◌∙◌, ◌+◌, ◌*◌, ap, sym, arith, nat_le, ◌&&◌, drop, max}
use Rattle.y4m_frames.specs.Frames.{are_samples}
use Rattle.y4m_frames.proofs.SampleLemmas.{samples_step, samples_all}
use Rattle.y4m_frames.proofs.frame.are_samples.Goals as goal

pub loop-i-preserved : goal.loop-i-preserved
loop-i-preserved c =
    c.loop-i.invariant ∙ samples_step c.args.bytes.now c.loop-i.i c.loop-i.greatest (omega arith)
    ∙ ap (λ m. nat_le m 1023 && are_samples (drop (2 * (c.loop-i.i + 1)) c.args.bytes.now)) (sym (c.max-greatest.ensures ∙ ap (λ v. max v c.loop-i.greatest) c.sample.ensures))

pub returns : goal.returns
returns c = sym (c.loop-i.invariant ∙ samples_all c.args.bytes.now c.loop-i.i c.loop-i.greatest (omega arith))
