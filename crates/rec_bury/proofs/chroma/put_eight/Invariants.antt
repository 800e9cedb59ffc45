use Rattle.std.proofs.Common.{◌≡◌, ℕ, ◌+◌, ◌*◌, ◌<◌, get_or}
use Rattle.rec_bury.proofs.chroma.put_eight.Given as goal
use Rattle.rec_bury.specs.Steps.{AreWritten, pair_of_word}

abbrev pub invariant-columns : goal.invariant-columns
invariant-columns l =
    (v : ℕ → ℕ) → ((x : ℕ) → x < 8 → v (l.at + x) ≡ 4 * get_or l.samples (l.at + x) 0 + pair_of_word l.word x)
    → AreWritten v l.initial.to l.at → AreWritten v l.to (l.at + l.x)
