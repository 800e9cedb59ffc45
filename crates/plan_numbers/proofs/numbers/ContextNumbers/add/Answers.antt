use Rattle.std.proofs.Common.{◌%◌, ◌∙◌, ℕ, List, set, ap}
use Rattle.std.proofs.lemmas.List.{map-set}
use Rattle.mv_bits.specs.Receivers.{Kept}
use Rattle.plan_numbers.specs.Stands.{kept_contexts}
use Rattle.plan_numbers.proofs.numbers.ContextNumbers.add.Goals as goal

pub returns-clause-contexts : goal.returns-clause-contexts
returns-clause-contexts c =
    let n = c.args.self.now in
    let bytes_of : Kept → List ℕ = λ r. r.bytes in
    map-set bytes_of n.contexts.items (n.count % 16) c.keep.new.room ∙ ap (λ (bytes : List ℕ). set (kept_contexts n) (n.count % 16) bytes) c.keep.ensures.kept
