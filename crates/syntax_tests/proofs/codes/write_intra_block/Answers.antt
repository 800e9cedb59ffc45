use Rattle.std.proofs.Common.{refl}
use Rattle.syntax_tests.proofs.codes.write_intra_block.Goals as goal

pub write_increment-requires : goal.write_increment-requires
unfolding Rattle.mv_codes.specs.Increments.increment_codes
write_increment-requires c = refl

pub write_type-requires : goal.write_type-requires
unfolding Rattle.mv_codes.specs.Types.type_i_codes
write_type-requires c = refl

pub write_dc_size-requires : goal.write_dc_size-requires
unfolding Rattle.mv_codes.specs.Sizes.luma_size_codes
write_dc_size-requires c = refl
