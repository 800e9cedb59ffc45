use Rattle.std.proofs.Common.{ℕ, ◌<◌, ◌≡◌, get_or, replicate, arith}
use Rattle.std.proofs.lemmas.List.{get_or-replicate}

-- no entry is 0 of a matrix whose entries are all alike
pub all_alike : (w : ℕ) → 0 < w → (k d : ℕ) → k < 64 → 0 < get_or (replicate 64 w) k d
all_alike w above k d h = let e : get_or (replicate 64 w) k d ≡ w = get_or-replicate 64 k w d h in omega (arith, above, e)
