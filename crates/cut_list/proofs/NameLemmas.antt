-- Names are UTF-8.
use Rattle.std.proofs.Common.{◌≡◌, ℕ, Bool, true, false, List, refl}
use Rattle.std.specs.Str.{is_utf8, IsUtf8}
use Rattle.std.proofs.lemmas.Str.{is_utf8-from_IsUtf8, IsUtf8-from_is_utf8}

pub utf8 : (bs : List ℕ) → IsUtf8 bs → is_utf8 bs ≡ true
utf8 bs h = is_utf8-from_IsUtf8 bs h

pub no_utf8 : (bs : List ℕ) → (IsUtf8 bs → ⊥) → is_utf8 bs ≡ false
no_utf8 bs h = by_answer (is_utf8 bs) (λ e. h (IsUtf8-from_is_utf8 bs e))
  where
    by_answer : (b : Bool) → (b ≡ true → ⊥) → b ≡ false
    by_answer true n = absurd (n refl)
    by_answer false n = refl
