use Rattle.std.proofs.Common.{◌-◌, arith, ◌≤◌, ◌∙◌, ap, drop}
use Rattle.y4m_frames.proofs.AheadLemmas.{range_skip}
use Rattle.y4m_frames.proofs.ahead.Ahead.give.Goals as goal

pub returns-clause-left : goal.returns-clause-left
returns-clause-left c =
    let s = c.self.inside in
    let within : c.min-count.result ≤ s.end - s.at = omega arith in
    range_skip s.store.items s.at s.end c.min-count.result within ∙ ap (drop c.min-count.result) c.self.view_is
