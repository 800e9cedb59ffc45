use Rattle.std.proofs.Common.{◌+◌, ◌-◌, ℕ, Some, length, take, drop, ap, ◌∙◌, arith, rules}
use Rattle.mv_heads.specs.HeadElements.{sequence_bytes}
use Rattle.job_decode.proofs.SequenceLaws.{copied, none_found}
use Rattle.job_decode.proofs.sequence.SequenceFront.note.Goals as goal

pub returns-in-Some : goal.returns-in-Some
returns-in-Some c bytes kept =
    let copy = c.copy_front-self-inside in
    let part = take ((c.in-Some.at + c.in-Some.len) - c.in-Some.at) (drop c.in-Some.at c.args.prefix.now) in
    copied c.self.inside.bytes.len (length c.deref_mut.result.now) copy.result part c.self.inside.bytes.items copy.new.to bytes (sequence_bytes c.args.prefix.now)
    (omega arith) (omega arith) (search rules) copy.ensures.front
    (ap (λ (k : ℕ). Some (take k (drop c.in-Some.at c.args.prefix.now))) (omega arith) ∙ c.in-Some.ensures.bytes)

pub returns-in_default : goal.returns-in_default
returns-in_default c bytes kept = none_found c.args.self.now bytes (sequence_bytes c.args.prefix.now) c.in_default.ensures.bytes kept
