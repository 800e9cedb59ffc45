-- Bits as bytes, the high bit of each byte first, and bytes without the zero bytes that end them.
use Rattle.std.specs.Prelude.{ℕ, zero, suc, ◌+◌, ◌/◌, Bool, List, [], ◌∷◌, length, drop}
use Rattle.mv_bits.specs.Bits.{front}

-- so many bytes of the bits, with zero bits behind them
unfoldable pub bytes_from : ℕ → List Bool → List ℕ
bytes_from zero bits = []
bytes_from (suc n) bits = front 8 bits ∷ bytes_from n (drop 8 bits)

-- the bits, and zero bits up to the end of the last byte
abbrev pub packed : List Bool → List ℕ
packed bits = bytes_from ((length bits + 7) / 8) bits

-- a byte in front of bytes that no zero byte ends; a zero byte in front of nothing is dropped
abbrev pub in_front : ℕ → List ℕ → List ℕ
in_front zero [] = []
in_front b bytes = b ∷ bytes

-- the bytes without the zero bytes that end them
unfoldable pub without_last_zeros : List ℕ → List ℕ
without_last_zeros [] = []
without_last_zeros (b ∷ bytes) = in_front b (without_last_zeros bytes)
