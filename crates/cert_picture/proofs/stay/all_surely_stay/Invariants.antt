use Rattle.std.proofs.Common.{◌<◌, ℕ}
use Rattle.mv_terms.specs.Decisions.{block}
use Rattle.cert_picture.specs.Steps.{StaysFound, block_samples}
use Rattle.cert_picture.proofs.stay.all_surely_stay.Given as goal

abbrev pub invariant-each : goal.invariant-each
invariant-each l = (b : ℕ) → b < l.b → StaysFound l.kind (block l.levels b) (block_samples l.picture l.field_dct l.mb_x l.mb_y b)
