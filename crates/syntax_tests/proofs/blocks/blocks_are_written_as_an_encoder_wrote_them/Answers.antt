use Rattle.std.proofs.Common.{refl, arith}
use Rattle.syntax_tests.proofs.WritableBlocks.{intra_tested, other_tested}
use Rattle.syntax_tests.proofs.blocks.blocks_are_written_as_an_encoder_wrote_them.Goals as goal

pub put-requires : goal.put-requires
put-requires g c = intra_tested _ _ _ 44 128 refl refl (omega arith) (omega arith) refl refl refl refl

pub put-requires-2 : goal.put-requires-2
put-requires-2 g c = other_tested _ _ _ refl refl refl refl refl
