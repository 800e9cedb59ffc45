use Rattle.std.proofs.Common.{inl, inr, refl, rules, w16}
use Rattle.std.proofs.lemmas.Int.{to_z-of_z}
use Rattle.mv_terms.specs.declared.status.Why.TheVariants.{BadBlock}
use Rattle.mv_blocks.proofs.block.read_dc_level.Goals as goal

pub returns-in-None-dc_level : goal.returns-in-None-dc_level
returns-in-None-dc_level c =
    inl (
      c.in-Some.size,
      c.read_dc_size.new.w,
      c.in-Some.ensures.reads,
      inl (
        c.take-differential.result,
        c.take-differential.new.self,
        (search rules, search rules),
        inr (BadBlock, (search rules, refl), refl),
      ),
    )

pub returns-in-Some-dc_level : goal.returns-in-Some-dc_level
returns-in-Some-dc_level c =
    let e = c.in-Some-dc_level.ensures in
    rw (to_z-of_z w16 c.in-Some-dc_level.level (search rules))
    (inl (
      c.in-Some.size,
      c.read_dc_size.new.w,
      c.in-Some.ensures.reads,
      inl (
        c.take-differential.result,
        c.take-differential.new.self,
        (search rules, search rules),
        inl (tt, c.take-differential.new.self, (search rules, refl), search rules),
      ),
    ))
