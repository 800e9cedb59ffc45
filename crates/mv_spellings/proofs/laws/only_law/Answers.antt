use Rattle.mv_spellings.proofs.PictureLaws.{no_others_are_plain}
use Rattle.mv_spellings.proofs.PictureReads.{canonical_are_plain}
use Rattle.mv_spellings.proofs.laws.only_law.Goals as goal

pub returns : goal.returns
returns c = record { plain = canonical_are_plain; only = no_others_are_plain }
