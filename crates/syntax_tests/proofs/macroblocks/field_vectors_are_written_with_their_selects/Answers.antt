use Rattle.std.proofs.Common.{rules, refl, arith}
use Rattle.syntax_tests.proofs.WritableMacroblocks.{start_writable}
use Rattle.syntax_tests.proofs.macroblocks.field_vectors_are_written_with_their_selects.Goals as goal

pub write_macro-requires : goal.write_macro-requires
unfolding Rattle.mv_codes.specs.Types.type_p_codes
write_macro-requires g c =
    start_writable _ _ (record { scale = 9; mb_x = 0; mb_y = 0 }) _ _ c.new-state.ensures (search rules) (omega arith) (omega arith) refl refl refl refl (omega arith, omega arith) refl refl
