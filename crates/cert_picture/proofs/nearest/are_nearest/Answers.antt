use Rattle.std.proofs.Common.{refl, rules}
use Rattle.cert_picture.proofs.NearestLemmas.{close_found, nearest_found}
use Rattle.cert_picture.proofs.nearest.are_nearest.Goals as goal

pub returns-then-are_close : goal.returns-then-are_close
returns-then-are_close c = (
  λ _. close_found c.args.kind.now c.args.samples.now c.args.prediction.now c.differences.result c.forward-coefs.result c.args.levels.now
      c.differences.ensures.value c.forward-coefs.ensures (c.if-are_close.ensures refl),
  λ _. refl,
)

pub returns : goal.returns
returns c =
    nearest_found c.args.kind.now c.args.samples.now c.args.prediction.now c.differences.result c.forward-coefs.result c.nearest.result c.args.levels.now c.eq.result
    c.differences.ensures.value c.forward-coefs.ensures c.nearest.ensures (search rules) (search rules) c.eq.ensures
