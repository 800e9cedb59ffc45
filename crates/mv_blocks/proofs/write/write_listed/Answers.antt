use Rattle.std.proofs.Common.{arith, rules, refl, subst, sym, ◌∙◌, ◌+◌, Bool, false, w16, ℤ, drop}
use Rattle.std.proofs.lemmas.Int.{to_z-of_z}
use Rattle.std.proofs.lemmas.List.{drop_all}
use Rattle.mv_bits.specs.Writing.{Writes}
use Rattle.mv_codes.specs.Coefficients.{coef_codes}
use Rattle.mv_codes.specs.Spelled.{code_of, same_coef}
use Rattle.mv_codes.specs.declared.coefficient.Coef.TheVariants.{End}
use Rattle.mv_blocks.specs.Written.{IsCoded}
use Rattle.mv_blocks.proofs.WriteLemmas.{put_none, place_is, behind_place, place_inside, level_coded, put_level, put_all}
use Rattle.mv_blocks.proofs.write.write_listed.Goals as goal

pub places-init : goal.places-init
places-init g c = put_none g.P.Put.stands c.args.code c.args.start c.args.levels.now c.args.to.now c.args.out.now c.args.places.now c.requires.fit c.requires.listed

pub level_at-level-requires : goal.level_at-level-requires
level_at-level-requires g c =
    place_inside g.P.Put.stands c.args.code c.args.start c.args.levels.now c.places.invariant c.from-k.result (drop (c.places.place-index + 1) c.args.places.now)
    (place_is c.args.places.now c.places.place-index c.from-k.result c.places-test.true c.from-k.ensures)

pub overflow_sub-run : goal.overflow_sub-run
overflow_sub-run g c =
    behind_place g.P.Put.stands c.args.code c.args.start c.args.levels.now c.places.invariant c.from-k.result (drop (c.places.place-index + 1) c.args.places.now)
    (place_is c.args.places.now c.places.place-index c.from-k.result c.places-test.true c.from-k.ensures)

pub write_pair-requires-clause-run : goal.write_pair-requires-clause-run
write_pair-requires-clause-run g c =
    let h = place_inside g.P.Put.stands c.args.code c.args.start c.args.levels.now c.places.invariant c.from-k.result (drop (c.places.place-index + 1) c.args.places.now)
    (place_is c.args.places.now c.places.place-index c.from-k.result c.places-test.true c.from-k.ensures) in
    omega (arith, h)

pub write_pair-requires-clause-level : goal.write_pair-requires-clause-level
write_pair-requires-clause-level g c =
    subst (λ (z : ℤ). IsCoded z) (sym (to_z-of_z w16 c.level_at-level.result (search rules) ∙ c.level_at-level.ensures))
    (level_coded g.P.Put.stands c.args.code c.args.start c.args.levels.now c.places.invariant c.from-k.result (drop (c.places.place-index + 1) c.args.places.now)
    (place_is c.args.places.now c.places.place-index c.from-k.result c.places-test.true c.from-k.ensures))

pub places-preserved : goal.places-preserved
places-preserved g c =
    put_level g.P.Put.stands c.args.code c.args.start c.args.levels.now c.places.invariant c.from-k.result (drop (c.places.place-index + 1) c.args.places.now)
    (place_is c.args.places.now c.places.place-index c.from-k.result c.places-test.true c.from-k.ensures)
    c.write_pair.new.to c.write_pair.new.out _ refl (to_z-of_z w16 c.level_at-level.result (search rules) ∙ c.level_at-level.ensures) c.write_pair.ensures

pub returns : goal.returns
returns g c =
    put_all g.P.Put.stands c.args.code c.args.start c.args.levels.now c.places.invariant (drop_all c.places.place-index c.args.places.now c.places-test.false) c.write_end.new.to c.write_end.new.out
    (subst (λ (t : Bool). Writes g.P.Put.stands c.places.to c.write_end.new.to c.places.out c.write_end.new.out (code_of (same_coef End) (coef_codes t false))) c.has_table_15.ensures c.write_end.ensures)
