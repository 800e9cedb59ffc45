use Rattle.mv_codes.proofs.LevelFacts.{escape_put}
use Rattle.mv_codes.proofs.put_coefficient.write_escape.Goals as goal

pub returns : goal.returns
returns g c =
    escape_put g.P.Put.stands c.args.to.now c.put.new.to c.args.out.now c.put.new.self c.args.run c.twos_12.result c.args.level.now c.requires.run c.twos_12.ensures.value c.twos_12.ensures.fits c.put.ensures.written
