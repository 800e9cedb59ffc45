-- What holds of the look-up tables of each list, by computation.
use Rattle.std.proofs.Common.{◌≡◌, true, [], refl}
use Rattle.mv_codes.specs.Coefficients.{levels_14, levels_15}
use Rattle.mv_codes.specs.Increments.{increment_codes}
use Rattle.mv_codes.specs.Types.{type_i_codes, type_p_codes, type_b_codes}
use Rattle.mv_codes.specs.Patterns.{pattern_codes}
use Rattle.mv_codes.specs.Motions.{motion_codes}
use Rattle.mv_codes.specs.Sizes.{luma_size_codes, chroma_size_codes}
use Rattle.mv_codes.specs.declared.look_up.TheConstants.{LONG_14, LONG_15, LONG_CHROMA_SIZES, LONG_INCREMENTS, LONG_LUMA_SIZES, LONG_MOTIONS, LONG_PATTERNS, SHORT_14, SHORT_15, SHORT_CHROMA_SIZES, SHORT_INCREMENTS, SHORT_LUMA_SIZES, SHORT_MOTIONS, SHORT_PATTERNS, SHORT_TYPES_B, SHORT_TYPES_I, SHORT_TYPES_P}
use Rattle.mv_codes.specs.LookUp.{are_rows, find_all}

pub levels_14_found : find_all levels_14 SHORT_14 16 0 LONG_14 ≡ true
unfolding levels_14 are_rows find_all
levels_14_found = refl

pub levels_15_found : find_all levels_15 SHORT_15 16 0 LONG_15 ≡ true
unfolding levels_15 are_rows find_all
levels_15_found = refl

pub increments_found : find_all increment_codes SHORT_INCREMENTS 11 8 LONG_INCREMENTS ≡ true
unfolding increment_codes are_rows find_all
increments_found = refl

pub types_i_found : find_all type_i_codes SHORT_TYPES_I 8 0 [] ≡ true
unfolding type_i_codes are_rows find_all
types_i_found = refl

pub types_p_found : find_all type_p_codes SHORT_TYPES_P 8 0 [] ≡ true
unfolding type_p_codes are_rows find_all
types_p_found = refl

pub types_b_found : find_all type_b_codes SHORT_TYPES_B 8 0 [] ≡ true
unfolding type_b_codes are_rows find_all
types_b_found = refl

pub patterns_found : find_all pattern_codes SHORT_PATTERNS 9 1 LONG_PATTERNS ≡ true
unfolding pattern_codes are_rows find_all
patterns_found = refl

pub motions_found : find_all motion_codes SHORT_MOTIONS 11 24 LONG_MOTIONS ≡ true
unfolding motion_codes are_rows find_all
motions_found = refl

pub luma_sizes_found : find_all luma_size_codes SHORT_LUMA_SIZES 9 510 LONG_LUMA_SIZES ≡ true
unfolding luma_size_codes are_rows find_all
luma_sizes_found = refl

pub chroma_sizes_found : find_all chroma_size_codes SHORT_CHROMA_SIZES 10 1020 LONG_CHROMA_SIZES ≡ true
unfolding chroma_size_codes are_rows find_all
chroma_sizes_found = refl
