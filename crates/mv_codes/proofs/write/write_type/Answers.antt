use Rattle.mv_codes.specs.declared.write.TheConstants.{TYPE_I_VALUES, TYPE_I_SIZES, TYPE_P_VALUES, TYPE_P_SIZES, TYPE_B_VALUES, TYPE_B_SIZES}
use Rattle.mv_codes.proofs.PlaceFacts.{type_i_here, type_p_here, type_b_here, put_is}
use Rattle.mv_codes.proofs.write.write_type.Goals as goal

pub put_code-requires : goal.put_code-requires
put_code-requires g c = (type_i_here c.args.v c.args.pic c.flags_place-at.result c.requires c.flags_place-at.ensures c.in-I.is).1

pub returns-in-I : goal.returns-in-I
returns-in-I g c =
    put_is g.P.Put.stands c.args.to.now c.put_code.new.to c.args.out.now c.put_code.new.out TYPE_I_VALUES TYPE_I_SIZES _ _ (type_i_here c.args.v c.args.pic c.flags_place-at.result c.requires c.flags_place-at.ensures c.in-I.is) c.put_code.ensures

pub put_code-requires-in-P : goal.put_code-requires-in-P
put_code-requires-in-P g c = (type_p_here c.args.v c.args.pic c.flags_place-at.result c.requires c.flags_place-at.ensures c.in-P.is).1

pub returns-in-P : goal.returns-in-P
returns-in-P g c =
    put_is g.P.Put.stands c.args.to.now c.put_code-in-P.new.to c.args.out.now c.put_code-in-P.new.out TYPE_P_VALUES TYPE_P_SIZES _ _ (type_p_here c.args.v c.args.pic c.flags_place-at.result c.requires c.flags_place-at.ensures c.in-P.is) c.put_code-in-P.ensures

pub put_code-requires-in-B : goal.put_code-requires-in-B
put_code-requires-in-B g c = (type_b_here c.args.v c.args.pic c.flags_place-at.result c.requires c.flags_place-at.ensures c.in-B.is).1

pub returns-in-B : goal.returns-in-B
returns-in-B g c =
    put_is g.P.Put.stands c.args.to.now c.put_code-in-B.new.to c.args.out.now c.put_code-in-B.new.out TYPE_B_VALUES TYPE_B_SIZES _ _ (type_b_here c.args.v c.args.pic c.flags_place-at.result c.requires c.flags_place-at.ensures c.in-B.is) c.put_code-in-B.ensures
