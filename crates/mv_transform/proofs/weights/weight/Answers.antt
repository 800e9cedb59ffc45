use Rattle.std.proofs.Common.{arith}
use Rattle.std.proofs.lemmas.Int.{to_z-of_z}
use Rattle.mv_transform.proofs.LineLemmas.{basis_size}
use Rattle.mv_transform.proofs.weights.weight.Goals as goal

pub returns-clause-size : goal.returns-clause-size
returns-clause-size c =
    let table = c.frequency_weights.ensures c.args.x c.requires.column in
    let size = basis_size c.args.u c.args.x c.requires.row c.requires.column in
    grind (arith, to_z-of_z, table, size)
