-- Numbers of some decimal digits.
use Rattle.std.proofs.Common.{◌≡◌, ℕ, ◌+◌, ◌-◌, ◌*◌, ◌^◌, ◌<◌, ◌≤◌, true, ◌&&◌, nat_le, List, length, take, get_or, ap, ◌∙◌, arith}
use Rattle.std.specs.List.{list_all}
use Rattle.std.specs.Str.Parse.{digits_value}
use Rattle.std.proofs.Math.Nat.{pow-le-pow_right}
use Rattle.std.proofs.lemmas.Nat.{pow-add}
use Rattle.std.proofs.lemmas.Bool.{le-leb}
use Rattle.std.proofs.lemmas.List.Folds.{list_all_more}
use Rattle.std.proofs.lemmas.Str.{digit_value_digit}
use Rattle.std.proofs.lemmas.Int.Digits.{digits_value_more}
use Rattle.y4m_frames.specs.Lines.{is_digit}

-- a number of up to 8 digits, and one more digit
pub small_number : (value i : ℕ) → value < 10 ^ i → i ≤ 8 → value < 100000000
small_number value i h le = omega (arith, h, pow-le-pow_right {n = 10} (omega arith) {i = i} {j = 8} le)

pub small_more : (value i digit : ℕ) → value < 10 ^ i → digit ≤ 9 → value * 10 + digit < 10 ^ (i + 1)
small_more value i digit h le = omega (arith, h, pow-add 10 i 1)

pub value_more : (digits : List ℕ) (i value digit : ℕ) → i < length digits → value ≡ digits_value 10 (take i digits) → 48 ≤ get_or digits i 0 → get_or digits i 0 ≤ 57 → digit ≡ get_or digits i 0 - 48 →
    value * 10 + digit ≡ digits_value 10 (take (i + 1) digits)
value_more digits i value digit within h low high is =
    let d = digit_value_digit (get_or digits i 0) (low, high) in
    omega (arith, digits_value_more 10 digits i within, h, d)

pub digits_more : (digits : List ℕ) (i : ℕ) → i < length digits → list_all is_digit (take i digits) ≡ true → 48 ≤ get_or digits i 0 → get_or digits i 0 ≤ 57 → list_all is_digit (take (i + 1) digits) ≡ true
digits_more digits i within h low high =
    list_all_more is_digit digits i 0 within ∙ ap (λ b. b && is_digit (get_or digits i 0)) h
    ∙ ap (λ b. b && nat_le (get_or digits i 0) 57) (le-leb 48 (get_or digits i 0) low) ∙ le-leb (get_or digits i 0) 57 high
