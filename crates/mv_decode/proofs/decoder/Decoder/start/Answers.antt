use Rattle.std.proofs.Common.{rules}
use Rattle.mv_recon.specs.Decoded.{pictures_of}
use Rattle.mv_decode.proofs.decoder.Decoder.start.Goals as goal

pub returns : goal.returns
unfolding pictures_of
returns c = record {
  heads = c.new.ensures.value;
  first = rw c.new.ensures.value tt;
  store = c.in_ok-store.ensures;
  decisions = search rules;
  levels = search rules;
}
