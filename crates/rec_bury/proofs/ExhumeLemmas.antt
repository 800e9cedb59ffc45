-- What is taken out of a frame, byte by byte.
use Rattle.std.proofs.Common.{◌≡◌, ℕ, ◌+◌, ◌*◌, ◌/◌, ◌%◌, ◌<◌, ◌≤◌, ◌∙◌, List, length, get_or, set, arith, ap, cond, subst}
use Rattle.std.specs.Prelude.{nat_lt}
use Rattle.std.proofs.Math.Nat.{mul_comm, mul-le-mul_right}
use Rattle.std.proofs.lemmas.Nat.{div-mul-add, mod-mul-add}
use Rattle.std.proofs.lemmas.Bool.{lt-ltb, le-ltb}
use Rattle.std.proofs.lemmas.List.Edits.{fill_by_more}
use Rattle.std.proofs.lemmas.List.FromFn.{fill_by_all}
use Rattle.mv_planes.specs.declared.picture.Plane.{Plane}
use Rattle.mv_planes.specs.declared.picture.Plane.TheVariants.{Cb, Cr}
use Rattle.mv_planes.specs.Planes.{mb_size, before}
use Rattle.rec_bury.specs.Exhumed.{pair_in, byte_in, slots_in, sheet_in}
use Rattle.rec_bury.specs.Steps.{AreTaken, slots_at, sheet_at}

-- the plane of chroma sample n
abbrev pub plane_of : ℕ → Plane
plane_of n = cond (nat_lt n 64) Cb Cr

pub cb_sample : (n : ℕ) → n < 64 → plane_of n ≡ Cb
cb_sample n h = ap (λ t. cond t Cb Cr) (lt-ltb n 64 h)

pub cr_sample : (n : ℕ) → 64 ≤ n → plane_of n ≡ Cr
cr_sample n h = ap (λ t. cond t Cb Cr) (le-ltb n 64 h)

abbrev first_of : ℕ → ℕ → Plane → ℕ → ℕ → ℕ → ℕ
first_of wide high p x y b = before p * (wide * high) + ((8 * y + b % 16 / 2) * (8 * wide) + (8 * x + 4 * (b % 2)))

low_pair : (a c : ℕ) → (a + 256 * c) % 4 ≡ a % 4
low_pair a c = omega arith

pair_place : (wide high : ℕ) (frame : List ℕ) (x y b i n : ℕ) (p : Plane) → x < wide → b < 32 → i < 4 → n ≡ 4 * b + i → plane_of n ≡ p → mb_size p ≡ 8
    → pair_in wide high frame (y * wide + x) n ≡ get_or frame (2 * first_of wide high p x y b + 2 * i) 0 % 4
pair_place wide high frame x y b i n p inside small within number plane size =
    let r : (y * wide + x) % wide ≡ x = mod-mul-add y wide x inside in
    let q : (y * wide + x) / wide ≡ y = div-mul-add y wide x inside in
    let col : 8 * ((y * wide + x) % wide) + n % 8 ≡ 8 * x + 4 * (b % 2) + i = omega (arith, r) in
    let line : 8 * ((y * wide + x) / wide) + n % 64 / 8 ≡ 8 * y + b % 16 / 2 = omega (arith, q) in
    let place : 2 * (before p * (wide * high) + ((8 * y + b % 16 / 2) * (mb_size p * wide) + (8 * x + 4 * (b % 2) + i))) ≡ 2 * first_of wide high p x y b + 2 * i = rw size (omega arith) in
    rw (plane, col, line) (low_pair _ _ ∙ ap (λ j. get_or frame j 0 % 4) place)

pub byte_place : (wide high : ℕ) (frame : List ℕ) (x y b start result : ℕ) (p : Plane) → x < wide → b < 32 → ((n : ℕ) → n / 4 ≡ b → plane_of n ≡ p) → mb_size p ≡ 8 → start ≡ before p * (wide * high)
    → (let at = start + ((8 * y + b % 16 / 2) * (8 * wide) + (8 * x + 4 * (b % 2))) in
    result ≡ 64 * (get_or frame (2 * at) 0 % 4) + 16 * (get_or frame (2 * at + 2) 0 % 4) + 4 * (get_or frame (2 * at + 4) 0 % 4) + get_or frame (2 * at + 6) 0 % 4)
    → result ≡ byte_in wide high frame (y * wide + x) b
byte_place wide high frame x y b start result p inside small plane size begins is =
    let at : ℕ = first_of wide high p x y b in
    let none : 2 * at + 2 * 0 ≡ 2 * at = omega arith in
    let a : pair_in wide high frame (y * wide + x) (4 * b) ≡ get_or frame (2 * at) 0 % 4 = pair_place wide high frame x y b 0 (4 * b) p inside small (omega arith) (omega arith) (plane (4 * b) (omega arith)) size ∙ ap (λ j. get_or frame j 0 % 4) none in
    let c : pair_in wide high frame (y * wide + x) (4 * b + 1) ≡ get_or frame (2 * at + 2) 0 % 4 = pair_place wide high frame x y b 1 (4 * b + 1) p inside small (omega arith) (omega arith) (plane (4 * b + 1) (omega arith)) size in
    let d : pair_in wide high frame (y * wide + x) (4 * b + 2) ≡ get_or frame (2 * at + 4) 0 % 4 = pair_place wide high frame x y b 2 (4 * b + 2) p inside small (omega arith) (omega arith) (plane (4 * b + 2) (omega arith)) size in
    let e : pair_in wide high frame (y * wide + x) (4 * b + 3) ≡ get_or frame (2 * at + 6) 0 % 4 = pair_place wide high frame x y b 3 (4 * b + 3) p inside small (omega arith) (omega arith) (plane (4 * b + 3) (omega arith)) size in
    rw (a, c, d, e) (rw begins at is)

pub taken_none : (f : ℕ → ℕ) (bytes : List ℕ) (n : ℕ) → n ≡ 0 → AreTaken f bytes n
taken_none f bytes n none = record { value = λ i h. absurd (omega arith) }

pub taken_along : (f : ℕ → ℕ) (bytes : List ℕ) (k n : ℕ) → n ≡ k → AreTaken f bytes k → AreTaken f bytes n
taken_along f bytes k n e out = rw e out

pub taken_more : (f : ℕ → ℕ) (bytes : List ℕ) (i n w : ℕ) → n ≡ i + 1 → i < length bytes → w ≡ f i → AreTaken f bytes i → AreTaken f (set bytes i w) n
taken_more f bytes i n w next inside is out = rw (next, is) record { value = fill_by_more f bytes i 0 inside out.value }

pub slot_at : (wide high : ℕ) (frame : List ℕ) (m b w : ℕ) → b < 20 → w ≡ byte_in wide high frame m b → w ≡ slots_at wide high frame (20 * m + b)
slot_at wide high frame m b w small is =
    let q : (20 * m + b) / 20 ≡ m = omega arith in
    let r : (20 * m + b) % 20 ≡ b = omega arith in
    rw (q, r) is

pub share_at : (wide high : ℕ) (frame : List ℕ) (m b w : ℕ) → b < 12 → w ≡ byte_in wide high frame m (20 + b) → w ≡ sheet_at wide high frame (12 * m + b)
share_at wide high frame m b w small is =
    let q : (12 * m + b) / 12 ≡ m = omega arith in
    let r : (12 * m + b) % 12 ≡ b = omega arith in
    rw (q, r) is

pub number_below : (wide high x y : ℕ) → x < wide → y < high → y * wide + x < wide * high
number_below wide high x y h k = omega (arith, mul-le-mul_right {m = y + 1} {n = high} wide (omega arith), mul_comm wide high)

pub slots_out : (wide high w h y : ℕ) (frame slots : List ℕ) → w ≡ wide → h ≡ high → y ≡ h → length slots ≡ 20 * (wide * high) → AreTaken (slots_at w h frame) slots (20 * (y * w)) → slots ≡ slots_in wide high frame
unfolding slots_in
slots_out wide high w h y frame slots a b e size out =
    let all : 20 * (wide * high) ≡ 20 * (y * w) = rw (e, a, b) (ap (λ n. 20 * n) (mul_comm wide high)) in
    let whole : AreTaken (slots_at w h frame) slots (20 * (wide * high)) = taken_along _ slots _ _ all out in
    let same : AreTaken (slots_at wide high frame) slots (20 * (wide * high)) = subst (λ (u : ℕ). AreTaken (slots_at u high frame) slots (20 * (wide * high))) a (subst (λ (u : ℕ). AreTaken (slots_at w u frame) slots (20 * (wide * high))) b whole) in
    fill_by_all (slots_at wide high frame) slots (20 * (wide * high)) 0 size same.value

pub sheet_out : (wide high w h y : ℕ) (frame sheet : List ℕ) → w ≡ wide → h ≡ high → y ≡ h → length sheet ≡ 12 * (wide * high) → AreTaken (sheet_at w h frame) sheet (12 * (y * w)) → sheet ≡ sheet_in wide high frame
unfolding sheet_in
sheet_out wide high w h y frame sheet a b e size out =
    let all : 12 * (wide * high) ≡ 12 * (y * w) = rw (e, a, b) (ap (λ n. 12 * n) (mul_comm wide high)) in
    let whole : AreTaken (sheet_at w h frame) sheet (12 * (wide * high)) = taken_along _ sheet _ _ all out in
    let same : AreTaken (sheet_at wide high frame) sheet (12 * (wide * high)) = subst (λ (u : ℕ). AreTaken (sheet_at u high frame) sheet (12 * (wide * high))) a (subst (λ (u : ℕ). AreTaken (sheet_at w u frame) sheet (12 * (wide * high))) b whole) in
    fill_by_all (sheet_at wide high frame) sheet (12 * (wide * high)) 0 size same.value
