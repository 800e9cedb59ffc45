use Rattle.std.proofs.Common.{◌≡◌, ◌∙◌, ap, take, min, length, position, arith}
use Rattle.std.proofs.lemmas.List.{take_min}
use Rattle.y4m_frames.specs.Lines.{line_within, is_line_feed}
use Rattle.y4m_frames.proofs.LineLemmas.{found_is}
use Rattle.y4m_frames.proofs.ahead.line_end.Goals as goal

pub returns-clause-value : goal.returns-clause-value
unfolding line_within
returns-clause-value c =
    let count : c.min-count.result ≡ min c.args.most (length c.args.bytes.now) = omega arith in
    found_is _ c.memchr.result c.memchr.ensures ∙ ap (λ k. position is_line_feed (take k c.args.bytes.now)) count
    ∙ ap (position is_line_feed) (take_min c.args.most c.args.bytes.now)
