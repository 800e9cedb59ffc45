use Rattle.std.proofs.Common.{◌≡◌, ◌+◌, ◌*◌, sym}
use Rattle.mv_planes.proofs.Places.{place_in_part}
use Rattle.mv_planes.proofs.picture.Picture.part_places.Goals as goal

pub returns-clause-inside : goal.returns-clause-inside
returns-clause-inside c =
    let last : c.place.result + 7 * (c.args.part.step * c.width-width.result) + 7 ≡ c.place-last.result = rw (c.width-width.ensures.value, c.place.ensures.value, c.place-last.ensures.value) (sym (place_in_part c.args.self.now c.args.part.plane c.args.part.x c.args.part.y c.args.part.step 7 7)) in
    rw last c.place-last.ensures.inside
