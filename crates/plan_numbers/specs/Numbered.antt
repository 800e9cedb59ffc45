-- Numbers in place of contexts.
use Rattle.std.specs.Prelude.{◌≡◌, ℕ, ◌+◌, ◌<◌, ◌≤◌, List, [], ◌++◌, length, map, replicate, slice_index_or}
use Rattle.std.specs.Int.{to_le_bytes, w64}
use Rattle.std.specs.Str.{bytes_eq}
use Rattle.plan_window.specs.declared.summary.Summary.{Summary}
use Rattle.plan_window.specs.Plan.{ahead}
use Rattle.plan_window.specs.Numbers.{without_context, AreNumbered}

-- a number, in 32 bytes with the low one first
abbrev pub number_bytes : ℕ → List ℕ
number_bytes n = to_le_bytes w64 n ++ replicate 24 0

-- Each context has a number, and of two frames at most 16 apart the numbers are equal exactly where the contexts are.
pub record Agree (contexts numbers : List (List ℕ)) : Type 0 where
  pub many : length numbers ≡ length contexts
  pub near : (i j : ℕ) → i < j → j ≤ i + ahead → j < length contexts
      → bytes_eq (slice_index_or contexts i []) (slice_index_or contexts j [])
      ≡ bytes_eq (slice_index_or numbers i []) (slice_index_or numbers j [])

-- LAW: summaries with these numbers serve in place of those with the contexts.
abbrev pub NumbersPlan : Type 0
NumbersPlan =
    (frames numbered : List Summary) (contexts numbers : List (List ℕ)) → Agree contexts numbers
    → map without_context frames ≡ map without_context numbered
    → map (λ (s : Summary). s.context) frames ≡ contexts
    → map (λ (s : Summary). s.context) numbered ≡ numbers
    → AreNumbered ahead frames numbered
