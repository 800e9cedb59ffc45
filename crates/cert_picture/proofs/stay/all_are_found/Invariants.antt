use Rattle.std.proofs.Common.{◌<◌, ℕ, []}
use Rattle.std.specs.Prelude.{slice_index_or}
use Rattle.mv_terms.specs.Block.{entry}
use Rattle.mv_terms.specs.Decisions.{block}
use Rattle.cert_picture.specs.Steps.{IsFound, block_samples}
use Rattle.cert_picture.proofs.stay.all_are_found.Given as goal

abbrev pub invariant-each : goal.invariant-each
invariant-each l = (b : ℕ) → b < l.b → IsFound l.kind (block l.levels b) (entry (slice_index_or l.predicted.blocks b [])) (block_samples l.picture l.field_dct l.mb_x l.mb_y b)
