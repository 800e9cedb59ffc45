use Rattle.std.proofs.Common.{[], ◌++◌}
use Rattle.mv_bits.specs.Receivers.{Compared, compared}
use Rattle.mv_bits.specs.Zeros.{zero_bytes}
use Rattle.mv_slices.specs.Canonical.{canonical_slices, canonical_tail}
use Rattle.cert_picture.proofs.CertifyingLemmas.{tells}
use Rattle.cert_picture.proofs.certifying.are_canonical.Goals as goal

pub returns : goal.returns
returns c =
    let kind : Compared = compared c.args.slices.now c.args.zeros in
    let put = c.write_slices.ensures kind [] c.new-compare.ensures in
    tells c.args.head.now c.args.decisions.now c.args.levels.now c.args.slices.now c.args.zeros c.equal.result c.requires.slices
    (c.equal.ensures kind (canonical_slices c.args.head.now c.args.decisions.now c.args.levels.now ++ zero_bytes (canonical_tail c.args.head.now c.args.decisions.now c.args.levels.now)) put)
