use Rattle.std.proofs.Common.{w8}
use Rattle.std.proofs.lemmas.Int.{to_z-of_z}
use Rattle.mv_codes.specs.declared.write.TheConstants.{MOTION_VALUES, MOTION_SIZES}
use Rattle.mv_codes.proofs.PlaceFacts.{motion_range, motion_there, put_is}
use Rattle.mv_codes.proofs.write.write_motion.Goals as goal

pub motion_place-at-requires : goal.motion_place-at-requires
motion_place-at-requires g c = rw (to_z-of_z w8 c.args.v c.ranges.v) (motion_range c.args.v c.requires)

pub put_code-requires : goal.put_code-requires
put_code-requires g c = (motion_there c.args.v c.motion_place-at.result c.requires (rw (to_z-of_z w8 c.args.v c.ranges.v) at c.motion_place-at.ensures)).1

pub returns : goal.returns
returns g c =
    put_is g.P.Put.stands c.args.to.now c.put_code.new.to c.args.out.now c.put_code.new.out MOTION_VALUES MOTION_SIZES _ _ (motion_there c.args.v c.motion_place-at.result c.requires (rw (to_z-of_z w8 c.args.v c.ranges.v) at c.motion_place-at.ensures)) c.put_code.ensures
