use Rattle.mv_blocks.proofs.DcWritten.{size_coded, difference_put}
use Rattle.mv_blocks.proofs.write.write_difference.Goals as goal

pub write_dc_size-requires : goal.write_dc_size-requires
write_dc_size-requires g c = size_coded c.args.luma c.dc_size-size.result c.dc_size-size.ensures.few

pub returns : goal.returns
returns g c =
    difference_put g.P.Put.stands c.args.to.now c.write_dc_size.new.to c.put.new.to c.args.out.now c.write_dc_size.new.out c.put.new.self c.args.luma c.args.difference.now c.dc_size-size.result c.from.result c.differential.result c.magnitude.result
    c.dc_size-size.ensures.value c.magnitude.ensures c.from.ensures c.differential.ensures.value c.write_dc_size.ensures c.put.ensures.written
