use Rattle.std.proofs.Common.{inl, inr, refl, rules, w16}
use Rattle.std.proofs.lemmas.Int.{to_z-of_z}
use Rattle.mv_terms.specs.declared.status.Why.TheVariants.{BadBlock}
use Rattle.mv_blocks.proofs.block.read_escaped.Goals as goal

pub returns-then-is_forbidden : goal.returns-then-is_forbidden
returns-then-is_forbidden c =
    inl (
      c.take-run.result,
      c.take-run.new.self,
      (c.take-run.ensures.value, c.take-run.ensures.rest),
      inl (
        c.take.result,
        c.take.new.self,
        (c.take.ensures.value, c.take.ensures.rest),
        inr (BadBlock, (λ allowed. allowed (search rules), refl), refl),
      ),
    )

pub returns-else-is_forbidden : goal.returns-else-is_forbidden
returns-else-is_forbidden c =
    rw (to_z-of_z w16 c.signed_12-level.result (search rules), c.signed_12-level.ensures)
    (inl (
      c.take-run.result,
      c.take-run.new.self,
      (c.take-run.ensures.value, c.take-run.ensures.rest),
      inl (
        c.take.result,
        c.take.new.self,
        (c.take.ensures.value, c.take.ensures.rest),
        inl (tt, c.take.new.self, (search rules, refl), refl),
      ),
    ))
