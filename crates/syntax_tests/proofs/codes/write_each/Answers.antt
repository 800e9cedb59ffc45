use Rattle.std.proofs.Common.{refl}
use Rattle.syntax_tests.proofs.codes.write_each.Goals as goal

pub write_increment-requires : goal.write_increment-requires
unfolding Rattle.mv_codes.specs.Increments.increment_codes
write_increment-requires c = refl

pub write_type-requires : goal.write_type-requires
unfolding Rattle.mv_codes.specs.Types.type_b_codes
write_type-requires c = refl

pub write_pattern-requires : goal.write_pattern-requires
unfolding Rattle.mv_codes.specs.Patterns.pattern_codes
write_pattern-requires c = refl

pub write_motion-requires : goal.write_motion-requires
unfolding Rattle.mv_codes.specs.Motions.motion_codes
write_motion-requires c = refl

pub write_motion-requires-2 : goal.write_motion-requires-2
unfolding Rattle.mv_codes.specs.Motions.motion_codes
write_motion-requires-2 c = refl

pub write_dc_size-requires : goal.write_dc_size-requires
unfolding Rattle.mv_codes.specs.Sizes.chroma_size_codes
write_dc_size-requires c = refl
