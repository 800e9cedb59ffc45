-- A chroma plane row by row, and a row eight samples at a time.
use Rattle.std.proofs.Common.{◌≡◌, ℕ, ◌+◌, ◌*◌, ◌/◌, ◌%◌, ◌<◌, ◌≤◌, ◌∙◌, List, get_or, arith, ap, refl}
use Rattle.std.proofs.Math.Nat.{mul-le-mul_right, mul_comm}
use Rattle.rec_bury.proofs.PairLemmas.{word_pair}
use Rattle.rec_bury.specs.Buried.{slot_byte, slot_pair, number_in_block}
use Rattle.rec_bury.specs.Steps.{AreRowValues, ArePlaneValues, pair_of_word}

-- the word of macroblock m + x has the pairs of eight samples
pub row_word : (v : ℕ → ℕ) (samples slots sheet : List ℕ) (at m wide b x word : ℕ) → x < wide → slot_byte slots sheet (m + x) (2 * b) < 256 → slot_byte slots sheet (m + x) (2 * b + 1) < 256
    → word ≡ 256 * slot_byte slots sheet (m + x) (2 * b) + slot_byte slots sheet (m + x) (2 * b + 1) → AreRowValues v samples slots sheet at m wide b
    → (j : ℕ) → j < 8 → v (at + 8 * x + j) ≡ 4 * get_or samples (at + 8 * x + j) 0 + pair_of_word word j
row_word v samples slots sheet at m wide b x word below high low is row j small =
    let place : at + 8 * x + j ≡ at + (8 * x + j) = omega arith in
    let macroblock : m + (8 * x + j) / 8 ≡ m + x = omega arith in
    let column : (8 * x + j) % 8 ≡ j = omega arith in
    let pairs : pair_of_word word j ≡ slot_pair slots sheet (m + x) (8 * b + j) = ap (λ w. pair_of_word w j) is ∙ word_pair (slot_byte slots sheet (m + x)) b j high low small in
    rw (place, pairs, ← macroblock) (ap v refl ∙ (row.value (8 * x + j) (omega arith) ∙ ap (λ c. 4 * get_or samples (at + (8 * x + j)) 0 + slot_pair slots sheet (m + (8 * x + j) / 8) (8 * b + c)) column))

pub plane_row : (v : ℕ → ℕ) (samples slots sheet : List ℕ) (start wide w high first y : ℕ) → w ≡ wide → y < 8 * high → ArePlaneValues v samples slots sheet start wide high first → AreRowValues v samples slots sheet (start + 8 * (y * w)) (y / 8 * w) w (first + y % 8)
plane_row v samples slots sheet start wide w high first y same below plane = rw same record {
  value = λ x h.
      let place : start + 8 * (y * wide) + x ≡ start + (y * (8 * wide) + x) = omega arith in
      let number : 8 * (first + y % 8) + x % 8 ≡ 8 * first + number_in_block x y = omega arith in
      rw (place, number) (plane.value x y h below);
}

-- a row lies in the plane, and its macroblocks in the picture
pub row_inside : (wide high y : ℕ) → y < 8 * high → 8 * (y * wide) + 8 * wide ≤ 64 * (wide * high)
row_inside wide high y h =
    let most : (y + 1) * wide ≤ 8 * high * wide = mul-le-mul_right wide (omega arith) in
    omega (arith, most, mul_comm wide high)

pub macroblocks_inside : (wide high y : ℕ) → y < 8 * high → y / 8 * wide + wide ≤ wide * high
macroblocks_inside wide high y h =
    let most : (y / 8 + 1) * wide ≤ high * wide = mul-le-mul_right wide (omega arith) in
    omega (arith, most, mul_comm wide high)

pub row_next : (start w wide y : ℕ) → w ≡ wide → start + 8 * ((y + 1) * wide) ≡ start + 8 * (y * w) + 8 * w
row_next start w wide y same = rw same (omega arith)

pub row_here : (start w wide y : ℕ) → w ≡ wide → start + 8 * (y * w) ≡ start + 8 * (y * wide)
row_here start w wide y same = rw same refl

pub rows_whole : (start wide high y : ℕ) → y ≡ 8 * high → start + 64 * (wide * high) ≡ start + 8 * (y * wide)
rows_whole start wide high y all = rw all (omega arith)
