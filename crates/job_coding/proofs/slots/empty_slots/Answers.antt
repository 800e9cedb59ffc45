use Rattle.std.proofs.Common.{◌≡◌, length}
use Rattle.std.proofs.lemmas.List.Elements.{All-map}
use Rattle.job_coding.proofs.slots.empty_slots.Goals as goal

pub returns-clause-sizes : goal.returns-clause-sizes
returns-clause-sizes c = All-map (λ frame. length frame ≡ c.args.size) (λ v. v.items) c.loop.frames.items c.loop.invariant.sizes
