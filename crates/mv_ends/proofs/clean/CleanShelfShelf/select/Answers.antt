use Rattle.std.proofs.Common.{◌≡◌, sym, subst}
use Rattle.mv_ends.specs.Places.{place_of, IsFirst}
use Rattle.mv_ends.proofs.PlaceLemmas.{input_of-place, first_at_place}
use Rattle.mv_ends.proofs.clean.CleanShelfShelf.select.Goals as goal

pub invariant_of-self : goal.invariant_of-self
invariant_of-self c = record {
  first = λ x is.
      let here : place_of c.args.self.now.inputs.items c.args.name.now ≡ x = cc in
      subst (IsFirst c.args.self.now.inputs.items) here (first_at_place c.args.self.now.inputs.items c.args.name.now);
}

pub returns-clause-opened : goal.returns-clause-opened
returns-clause-opened c =
    let here : c.index_of.result ≡ place_of c.args.self.now.inputs.items c.args.name.now = cc in
    rw here (sym (input_of-place c.args.name.now c.args.self.now.inputs.items))
