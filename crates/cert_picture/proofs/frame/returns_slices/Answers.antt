use Rattle.std.proofs.Common.{refl}
use Rattle.cert_picture.specs.Lent.{lent_parts}
use Rattle.cert_picture.proofs.frame.returns_slices.Goals as goal

pub returns : goal.returns
returns c = c.certify_decoded.ensures (lent_parts c.args.coded.now c.args.stream.now)
    (record { head = refl; decisions = refl; decoded = refl; references = refl; slices = refl; zeros = refl })
