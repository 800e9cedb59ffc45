use Rattle.std.proofs.Common.{◌≡◌, ◌<◌, ◌≤◌, length, sym, ◌∙◌, ap, subst, arith, refl, inl, inr, ⊎_elim, true}
use Rattle.std.proofs.lemmas.Bool.{eqb-true}
use Rattle.mv_ends.specs.Places.{place_of, IsFirst}
use Rattle.mv_ends.proofs.PlaceLemmas.{input_of-place, first_at_place, known_within, unknown_at_end, unknown_past, same_place, other_stays}
use Rattle.mv_ends.proofs.failing.MemShelfShelf.select.Goals as goal
use Rattle.mv_ends.proofs.failing.MemShelfShelf.select.Goals.{then-fails-via-then-fails, then-fails-via-else-fails+then-place-len}

pub invariant_of-self-2-clause-first : goal.invariant_of-self-2-clause-first
invariant_of-self-2-clause-first c x is =
    let here : place_of c.args.self.now.inputs.items c.args.name.now ≡ x = cc in
    subst (IsFirst c.args.self.now.inputs.items) here (first_at_place c.args.self.now.inputs.items c.args.name.now)

pub returns-clause-opened : goal.returns-clause-opened
returns-clause-opened c =
    let here : c.index_of-place.result ≡ place_of c.args.self.now.inputs.items c.args.name.now = cc in
    rw here (sym (input_of-place c.args.name.now c.args.self.now.inputs.items))

pub returns-then-fails-clause-fails : goal.returns-then-fails-clause-fails
returns-then-fails-clause-fails c =
    let here : c.index_of-place.result ≡ place_of c.args.self.now.inputs.items c.args.name.now = cc in (
      λ _. elim c.then-fails.branch [
        | then-fails-via-then-fails w ↦ inl (c.fails_now-fails.ensures.planned.0 w.if-fails.true)
        | then-fails-via-else-fails+then-place-len w ↦
            inr (unknown_past c.args.name.now c.args.self.now.inputs.items (omega (arith, here, w.if-place-len.true, w.len.ensures, c.args.self.now.inputs.ok.0)))
      ],
      λ _. refl,
    )

pub returns-then-fails-clause-others : goal.returns-then-fails-clause-others
returns-then-fails-clause-others c other known different =
    let here : c.index_of-place.result ≡ place_of c.args.self.now.inputs.items c.args.name.now = cc in
    other_stays c.args.self.now.inputs.items _ c.args.name.now other _ _ here (known_within other c.args.self.now.inputs.items known) different

pub returns-clause-fails : goal.returns-clause-fails
returns-clause-fails c =
    let here : c.index_of-place.result ≡ place_of c.args.self.now.inputs.items c.args.name.now = cc in
    let within : c.index_of-place.result ≤ length c.args.self.now.inputs.items = omega (arith, ap length c.deref.ensures.value, c.index_of-place.ensures.within) in (
      λ never. absurd (cc),
      λ either. absurd (⊎_elim
          (λ planned. let fails : c.fails_now-fails.result ≡ true = c.fails_now-fails.ensures.planned.1 planned in cc)
          (λ unknown. let end : length c.args.self.now.inputs.items ≤ place_of c.args.self.now.inputs.items c.args.name.now = unknown_at_end c.args.name.now c.args.self.now.inputs.items unknown in
          omega (arith, end, here, within, c.if-place-len.false, c.len.ensures, c.args.self.now.inputs.ok.0))
          either),
    )

pub returns-clause-only : goal.returns-clause-only
returns-clause-only c other chosen =
    let here : c.index_of-place.result ≡ place_of c.args.self.now.inputs.items c.args.name.now = cc in
    let at : c.index_of-place.result ≡ place_of c.args.self.now.inputs.items other = eqb-true _ _ chosen in
    let within : place_of c.args.self.now.inputs.items c.args.name.now < length c.args.self.now.inputs.items = omega (arith, here, ap length c.deref.ensures.value, c.index_of-place.ensures.within, c.if-place-len.false, c.len.ensures, c.args.self.now.inputs.ok.0) in
    (refl, same_place c.args.self.now.inputs.items c.args.name.now other within (sym here ∙ at))
