-- Each stream has one outcome.
use Rattle.std.proofs.Common.{ap, ◌∙◌, refl}
use Rattle.mv_slices.specs.Slices.{IsCodedOrRefused}
use Rattle.mv_units.specs.Units.{stream_limit}
use Rattle.mv_units.specs.Profile.{Judged}
use Rattle.mv_units.proofs.JudgementLaws.{each_is_judged_once}
use Rattle.job_decode.specs.Stream.{EachHasOneOutcome, outcome_of}

pub each_has_one : IsCodedOrRefused → EachHasOneOutcome
each_has_one law bytes =
    let one = each_is_judged_once law stream_limit bytes in
    record {
      outcome = outcome_of bytes one.judged;
      is = (one.judged, one.is, refl);
      only = λ other h. h.2 ∙ ap (λ (j : Judged). outcome_of bytes j) (one.only h.0 h.1);
    }
