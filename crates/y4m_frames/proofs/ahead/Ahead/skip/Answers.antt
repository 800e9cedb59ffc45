use Rattle.std.proofs.Common.{◌-◌, arith, ◌≤◌, ◌∙◌, ap, length, drop}
use Rattle.std.proofs.lemmas.List.{length-take}
use Rattle.y4m_frames.proofs.AheadLemmas.{range_skip}
use Rattle.y4m_frames.proofs.ahead.Ahead.skip.Goals as goal

pub returns : goal.returns
returns c =
    let s = c.self.inside in
    let within : c.args.count ≤ s.end - s.at = omega (arith, c.requires, ap length c.self.view_is, length-take (s.end - s.at) (drop s.at s.store.items)) in
    range_skip s.store.items s.at s.end c.args.count within ∙ ap (drop c.args.count) c.self.view_is
