use Rattle.std.proofs.Common.{[], refl, lit≤}
use Rattle.mv_codes.specs.Coefficients.{levels_14, levels_15}
use Rattle.mv_codes.specs.Increments.{increment_codes}
use Rattle.mv_codes.specs.Types.{type_i_codes, type_p_codes, type_b_codes}
use Rattle.mv_codes.specs.Patterns.{pattern_codes}
use Rattle.mv_codes.specs.Motions.{motion_codes}
use Rattle.mv_codes.specs.Sizes.{luma_size_codes, chroma_size_codes}
use Rattle.mv_codes.specs.declared.look_up.TheConstants.{LONG_14, LONG_15, LONG_CHROMA_SIZES, LONG_INCREMENTS, LONG_LUMA_SIZES, LONG_MOTIONS, LONG_PATTERNS, SHORT_14, SHORT_15, SHORT_CHROMA_SIZES, SHORT_INCREMENTS, SHORT_LUMA_SIZES, SHORT_MOTIONS, SHORT_PATTERNS, SHORT_TYPES_B, SHORT_TYPES_I, SHORT_TYPES_P}
use Rattle.mv_codes.proofs.LookUpLaws.{looks_up}
use Rattle.mv_codes.proofs.LookUpFacts as facts
use Rattle.mv_codes.proofs.laws.look_up_law.Goals as goal

pub returns-clause-levels_14 : goal.returns-clause-levels_14
unfolding levels_14
returns-clause-levels_14 c = looks_up levels_14 SHORT_14 16 0 LONG_14 (lit≤ tt) refl facts.levels_14_found

pub returns-clause-levels_15 : goal.returns-clause-levels_15
unfolding levels_15
returns-clause-levels_15 c = looks_up levels_15 SHORT_15 16 0 LONG_15 (lit≤ tt) refl facts.levels_15_found

pub returns-clause-increments : goal.returns-clause-increments
unfolding increment_codes
returns-clause-increments c = looks_up increment_codes SHORT_INCREMENTS 11 8 LONG_INCREMENTS (lit≤ tt) refl facts.increments_found

pub returns-clause-types_i : goal.returns-clause-types_i
unfolding type_i_codes
returns-clause-types_i c = looks_up type_i_codes SHORT_TYPES_I 8 0 [] (lit≤ tt) refl facts.types_i_found

pub returns-clause-types_p : goal.returns-clause-types_p
unfolding type_p_codes
returns-clause-types_p c = looks_up type_p_codes SHORT_TYPES_P 8 0 [] (lit≤ tt) refl facts.types_p_found

pub returns-clause-types_b : goal.returns-clause-types_b
unfolding type_b_codes
returns-clause-types_b c = looks_up type_b_codes SHORT_TYPES_B 8 0 [] (lit≤ tt) refl facts.types_b_found

pub returns-clause-patterns : goal.returns-clause-patterns
unfolding pattern_codes
returns-clause-patterns c = looks_up pattern_codes SHORT_PATTERNS 9 1 LONG_PATTERNS (lit≤ tt) refl facts.patterns_found

pub returns-clause-motions : goal.returns-clause-motions
unfolding motion_codes
returns-clause-motions c = looks_up motion_codes SHORT_MOTIONS 11 24 LONG_MOTIONS (lit≤ tt) refl facts.motions_found

pub returns-clause-luma_sizes : goal.returns-clause-luma_sizes
unfolding luma_size_codes
returns-clause-luma_sizes c = looks_up luma_size_codes SHORT_LUMA_SIZES 9 510 LONG_LUMA_SIZES (lit≤ tt) refl facts.luma_sizes_found

pub returns-clause-chroma_sizes : goal.returns-clause-chroma_sizes
unfolding chroma_size_codes
returns-clause-chroma_sizes c = looks_up chroma_size_codes SHORT_CHROMA_SIZES 10 1020 LONG_CHROMA_SIZES (lit≤ tt) refl facts.chroma_sizes_found
