use Rattle.std.proofs.Common.{◌≡◌, ◌≢◌, ◌++◌, filter}
use Rattle.y4m_frames.specs.Lines.{words, words_left, to_read}
use Rattle.y4m_frames.specs.Header.{begins_with}
use Rattle.y4m_frames.specs.Steps.{found_tokens}
use Rattle.y4m_frames.specs.declared.header.Found.TheVariants.{Often}
use Rattle.y4m_frames.proofs.header.find_token.Given as goal

abbrev pub invariant-words : goal.invariant-words
invariant-words l = record {
  tokens : filter (begins_with l.letter) (words l.line) ≡ found_tokens l.letter l.found ++ filter (begins_with l.letter) (words_left l.rest);
  few : l.found ≢ Often;
}

abbrev pub decreases-words : goal.decreases-words
decreases-words l = to_read l.rest
