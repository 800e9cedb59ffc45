use Rattle.std.proofs.Common.{rules}
use Rattle.mv_slices.proofs.LegalLaws.{coded_is_legal}
use Rattle.picture_tests.proofs.certified.is_certified.Goals as goal

pub reconstruct-requires-clause-precision : goal.reconstruct-requires-clause-precision
reconstruct-requires-clause-precision g c = (c.is_legal.ensures.0 (search rules)).precision

pub certify-certified-requires-clause-head : goal.certify-certified-requires-clause-head
certify-certified-requires-clause-head g c = c.is_legal.ensures.0 (search rules)

pub certify-certified-requires-clause-decisions : goal.certify-certified-requires-clause-decisions
certify-certified-requires-clause-decisions g c = (coded_is_legal _ c.args.slices.now c.read_slices.new.decisions c.read_slices.new.levels (c.is_legal.ensures.0 (search rules)).precision c.in-Ok.ensures.reads).0

pub certify_decoded-decoded-requires-clause-head : goal.certify_decoded-decoded-requires-clause-head
certify_decoded-decoded-requires-clause-head g c = c.is_legal.ensures.0 (search rules)
