use Rattle.mv_codes.specs.declared.write.TheConstants.{LUMA_SIZE_VALUES, LUMA_SIZE_SIZES, CHROMA_SIZE_VALUES, CHROMA_SIZE_SIZES}
use Rattle.mv_codes.proofs.PlaceFacts.{luma_there, chroma_there, put_is}
use Rattle.mv_codes.proofs.write.write_dc_size.Goals as goal

pub put_code-requires : goal.put_code-requires
put_code-requires g c = (luma_there c.args.luma c.args.v c.if-luma.true c.requires).1

pub put_code-requires-else-luma : goal.put_code-requires-else-luma
put_code-requires-else-luma g c = (chroma_there c.args.luma c.args.v c.if-luma.false c.requires).1

pub returns-then-luma : goal.returns-then-luma
returns-then-luma g c =
    put_is g.P.Put.stands c.args.to.now c.put_code.new.to c.args.out.now c.put_code.new.out LUMA_SIZE_VALUES LUMA_SIZE_SIZES _ _ (luma_there c.args.luma c.args.v c.if-luma.true c.requires) c.put_code.ensures

pub returns-else-luma : goal.returns-else-luma
returns-else-luma g c =
    put_is g.P.Put.stands c.args.to.now c.put_code-else-luma.new.to c.args.out.now c.put_code-else-luma.new.out CHROMA_SIZE_VALUES CHROMA_SIZE_SIZES _ _ (chroma_there c.args.luma c.args.v c.if-luma.false c.requires) c.put_code-else-luma.ensures
