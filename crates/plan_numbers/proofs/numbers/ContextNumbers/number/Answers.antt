use Rattle.std.proofs.Common.{◌∙◌, ℕ, List, [], ◌∷◌, ◌++◌, sym, subst, arith}
use Rattle.plan_numbers.specs.Stands.{StandsFor}
use Rattle.plan_numbers.proofs.CountLemmas.{Fits}
use Rattle.plan_numbers.proofs.KeptLemmas.{fits_new, fits_old, stands_more}
use Rattle.plan_numbers.proofs.numbers.ContextNumbers.number.Goals as goal
use Rattle.plan_numbers.proofs.numbers.ContextNumbers.number.Goals.{in-Some, in-None}

pub returns : goal.returns
returns c = λ contexts numbers stands.
    let n = c.args.self.now in
    let m = c.add.new.self in
    let context = c.args.context.now in
    let fits : Fits contexts stands.counts context c.match-find.number =
    elim c.match-find.branch [
      | in-Some w ↦ subst (Fits contexts stands.counts context) (w.in-Some.ensures.2 ∙ sym w.number-is) (fits_old n contexts stands.counts stands.kept stands.counted w.in-Some.ensures.0 context w.in-Some.ensures.1)
      | in-None w ↦ subst (Fits contexts stands.counts context) (sym w.number-is) (fits_new n contexts stands.counts stands.kept stands.counted context w.in-None.ensures)
    ] in
    let (_, _, also, small) = c.requires.few in
    let count = also.kept.count in
    let more = stands_more n m contexts numbers context c.match-find.number stands fits (omega (arith, count, small)) c.add.ensures.rooms c.add.ensures.count c.add.ensures.contexts c.add.ensures.numbers in
    subst (λ (bytes : List ℕ). StandsFor m (contexts ++ context ∷ []) (numbers ++ bytes ∷ [])) (sym c.number_bytes.ensures) more
