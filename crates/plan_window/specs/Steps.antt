-- Nobody needs to believe it, it only carries proofs: how far the next anchor is among the summaries that a window holds.
use Rattle.std.specs.Prelude.{ℕ, suc, if◌then◌else◌, List, [], ◌∷◌}
use Rattle.plan_window.specs.declared.summary.Summary.{Summary}
use Rattle.plan_window.specs.Links.{is_anchor_record}

-- the distance of the first anchor record, where the first summary has distance k; 0 where there is none or it has low
-- delay, since the first frame is an anchor then
abbrev pub distance_from : ℕ → List Summary → ℕ
distance_from k [] = 0
distance_from k (s ∷ rest) =
    if is_anchor_record s then (if s.low_delay then 0 else k) else distance_from (suc k) rest

abbrev pub next_distance : List Summary → ℕ
next_distance = distance_from 0
