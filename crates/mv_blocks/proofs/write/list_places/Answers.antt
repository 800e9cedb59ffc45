use Rattle.std.proofs.Common.{arith, ◌∙◌, ap, ℕ, pos, get_or}
use Rattle.mv_blocks.specs.Steps.{counted}
use Rattle.mv_blocks.proofs.PlaceLemmas.{none_listed, place_left, one_listed, all_listed}
use Rattle.mv_blocks.proofs.write.list_places.Goals as goal

pub places-init : goal.places-init
places-init c = none_listed c.args.alternate c.args.start c.args.levels.now c.args.places.now c.from-all.result c.told-places c.told-levels c.requires (c.from-all.ensures ∙ c.levels_from.ensures)

pub raster_place-requires : goal.raster_place-requires
raster_place-requires c = place_left c.args.alternate c.args.start c.args.levels.now c.places.invariant c.places-test.true

pub places-smaller : goal.places-smaller
places-smaller c = let h = place_left c.args.alternate c.args.start c.args.levels.now c.places.invariant c.places-test.true in omega (arith, h)

pub places-preserved : goal.places-preserved
places-preserved c =
    one_listed c.args.alternate c.args.start c.args.levels.now c.places.invariant c.from-listed.result c.places-test.true
    (c.from-listed.ensures ∙ c.counted.ensures ∙ ap (λ (p : ℕ). counted (get_or c.args.levels.now p (pos 0))) c.raster_place.ensures.place)

pub returns-clause-listed : goal.returns-clause-listed
returns-clause-listed c = all_listed c.args.alternate c.args.start c.args.levels.now c.places.invariant c.places-test.false
