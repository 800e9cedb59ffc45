use Rattle.std.proofs.Common.{◌≡◌, ℕ, ◌∙◌, List, [], get_or, sym, ap, arith}
use Rattle.std.proofs.lemmas.List.{get_or-map}
use Rattle.std.proofs.lemmas.Slice.Eq.{bytes_eq-Decides}
use Rattle.mv_bits.specs.Receivers.{Kept}
use Rattle.plan_numbers.specs.Stands.{kept_contexts}
use Rattle.plan_numbers.proofs.numbers.ContextNumbers.is_at.Goals as goal

pub returns-then-k-self : goal.returns-then-k-self
returns-then-k-self c =
    let n = c.args.self.now in
    let room = c.index.result.now in
    let many = c.requires.rooms.contexts in
    let inside = c.requires.inside in
    let bytes_of : Kept → List ℕ = λ r. r.bytes in
    let same : get_or (kept_contexts n) c.args.k [] ≡ c.bytes.result.now =
    get_or-map bytes_of n.contexts.items c.args.k room [] (omega (arith, many, inside)) ∙ (ap bytes_of (sym c.index.ensures) ∙ sym c.bytes.ensures) in
    let test = bytes_eq-Decides c.bytes.result.now c.args.context.now in (
      λ holds. record { inside = inside; filled = c.if-k-self.true; same = same ∙ test.0 (sym c.eq.ensures ∙ holds) },
      λ at. c.eq.ensures ∙ test.1 (sym same ∙ at.same),
    )
