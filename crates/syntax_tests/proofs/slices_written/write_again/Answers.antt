use Rattle.std.proofs.Common.{rules}
use Rattle.mv_terms.specs.Ranges.{IsHead}
use Rattle.mv_slices.proofs.LegalLaws.{coded_is_legal}
use Rattle.syntax_tests.proofs.slices_written.write_again.Goals as goal

pub write_slices-requires : goal.write_slices-requires
write_slices-requires g c =
    let head : IsHead c.args.head.now = c.is_legal.ensures.0 (search rules) in
    let legal = coded_is_legal _ c.args.slices.now _ _ head.precision c.in-Ok.ensures.reads in
    record { f_codes = head.f_code; precision = head.precision; size = head.size; legal_decisions = legal.0; legal_levels = legal.1 }
