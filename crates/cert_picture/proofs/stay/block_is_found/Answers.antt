use Rattle.std.proofs.Common.{refl, sym}
use Rattle.mv_terms.specs.Block.{entry}
use Rattle.cert_picture.specs.Steps.{block_samples, sample_at}
use Rattle.cert_picture.proofs.NearestLemmas.{absent_found, found_like, holds_samples}
use Rattle.cert_picture.proofs.stay.block_is_found.Goals as goal

pub returns-then-is_absent : goal.returns-then-is_absent
returns-then-is_absent c = (
  λ _. absent_found c.args.kind.now c.args.levels.now (block_samples c.args.picture.now c.args.field_dct c.args.mb_x c.args.mb_y c.args.b) (sym c.if-is_absent.ensures) (entry c.args.prediction.now) c.requires.decoded,
  λ _. refl,
)

pub are_nearest-requires-clause-prediction : goal.are_nearest-requires-clause-prediction
are_nearest-requires-clause-prediction c = holds_samples c.args.prediction.now c.requires.decoded.predicted

pub are_nearest-requires-clause-legal : goal.are_nearest-requires-clause-legal
are_nearest-requires-clause-legal c = c.requires.decoded.legal

pub are_nearest-requires-clause-dc : goal.are_nearest-requires-clause-dc
are_nearest-requires-clause-dc c = c.requires.decoded.dc

pub returns : goal.returns
returns c =
    let kind = c.args.kind.now in
    let prediction = entry c.args.prediction.now in
    let samples = sample_at c.samples_of-samples.result in
    let block = block_samples c.args.picture.now c.args.field_dct c.args.mb_x c.args.mb_y c.args.b in (
      λ h. found_like kind c.args.levels.now prediction prediction samples block (λ y x a b. refl) c.samples_of-samples.ensures (c.are_nearest.ensures.0 h),
      λ f. c.are_nearest.ensures.1 (found_like kind c.args.levels.now prediction prediction block samples (λ y x a b. refl) (λ y x a b. sym (c.samples_of-samples.ensures y x a b)) f),
    )
