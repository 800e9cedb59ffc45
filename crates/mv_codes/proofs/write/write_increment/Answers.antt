use Rattle.mv_codes.specs.declared.write.TheConstants.{INCREMENT_VALUES, INCREMENT_SIZES}
use Rattle.mv_codes.proofs.PlaceFacts.{increment_here, put_is}
use Rattle.mv_codes.proofs.write.write_increment.Goals as goal

pub put_code-requires : goal.put_code-requires
put_code-requires g c = (increment_here c.args.v c.increment_place-at.result c.requires c.increment_place-at.ensures).1

pub returns : goal.returns
returns g c =
    put_is g.P.Put.stands c.args.to.now c.put_code.new.to c.args.out.now c.put_code.new.out INCREMENT_VALUES INCREMENT_SIZES _ _ (increment_here c.args.v c.increment_place-at.result c.requires c.increment_place-at.ensures) c.put_code.ensures
