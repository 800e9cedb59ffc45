use Rattle.mv_codes.specs.declared.write.TheConstants.{PATTERN_VALUES, PATTERN_SIZES}
use Rattle.mv_codes.proofs.PlaceFacts.{pattern_there, put_is}
use Rattle.mv_codes.proofs.write.write_pattern.Goals as goal

pub put_code-requires : goal.put_code-requires
put_code-requires g c = (pattern_there c.args.v c.requires).1

pub returns : goal.returns
returns g c = put_is g.P.Put.stands c.args.to.now c.put_code.new.to c.args.out.now c.put_code.new.out PATTERN_VALUES PATTERN_SIZES _ _ (pattern_there c.args.v c.requires) c.put_code.ensures
