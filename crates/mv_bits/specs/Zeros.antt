-- Zero bytes: H.262 lets any number of them stand in front of a start code (5.2.3).
use Rattle.std.specs.Prelude.{ℕ, ◌==◌, List, reverse, replicate}
use Rattle.std.specs.List.{prefix_len}

-- zero bytes alone
abbrev pub zero_bytes : ℕ → List ℕ
zero_bytes n = replicate n 0

-- the number of zero bytes in front
abbrev pub zeros_in_front : List ℕ → ℕ
zeros_in_front bytes = prefix_len (λ b. b == 0) bytes

-- the number of zero bytes at the end
unfoldable pub zeros_at_end : List ℕ → ℕ
zeros_at_end bytes = prefix_len (λ b. b == 0) (reverse bytes)
