-- Answers for `mv_terms::macroblock::none_law` (src/macroblock.rt).
use Rattle.std.proofs.Common.{refl}
use Rattle.mv_terms.specs.Matrices.{default_intra, default_non_intra}
use Rattle.mv_terms.proofs.macroblock.none_law.Goals as goal

pub returns-clause-head : goal.returns-clause-head
unfolding default_intra default_non_intra
returns-clause-head c = refl
