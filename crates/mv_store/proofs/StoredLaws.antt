-- A store stands for the same pictures whatever is left in the picture that it lent.
use Rattle.mv_store.specs.Stored.{StandsWhateverIsLeft}

pub stands_whatever_is_left : StandsWhateverIsLeft
stands_whatever_is_left mb_wide mb_high store f before s size = record {
  newer = s.newer;
  older = s.older;
  started = s.started;
  newer_size = s.newer_size;
  older_size = s.older_size;
  current_size = size;
}
