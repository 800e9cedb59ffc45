use Rattle.std.proofs.Common.{◌≡◌, ◌+◌, ◌-◌, ◌*◌, ◌%◌, ◌^◌, w64, arith}
use Rattle.std.specs.Int.{to_be_bytes}
use Rattle.print_tables.proofs.codes.code_bytes.Goals as goal
use Rattle.print_tables.proofs.CodeBits.{code_bits, code_fits}

pub returns : goal.returns
returns c =
    let written : c.to_be_bytes.result ≡ to_be_bytes w64 ((2 * c.args.value + 1) * 2 ^ (63 - c.args.size) % 2 ^ 64) = c.to_be_bytes.ensures in
    let whole : (2 * c.args.value + 1) * 2 ^ (63 - c.args.size) % 2 ^ 64 ≡ (2 * c.args.value + 1) * 2 ^ (63 - c.args.size) = omega (arith, code_fits c.args.value c.args.size c.requires.room c.requires.fits) in
    rw (written, whole) (code_bits c.args.value c.args.size c.requires.room)
