use Rattle.std.proofs.Common.{refl}
use Rattle.enc_guided.proofs.coder.PictureCoder.take_part.Goals as goal

pub returns-clause-keeps : goal.returns-clause-keeps
returns-clause-keeps c = record {
  kept = c.keep_bytes.ensures 65536 c.requires;
  others = refl;
}
