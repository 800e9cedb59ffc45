-- Zero bits in a row.
use Rattle.std.proofs.Common.{◌≡◌, ◌≢◌, ℕ, zero, suc, ◌+◌, ◌-◌, ◌*◌, ◌/◌, ◌%◌, ◌^◌, ◌<◌, ◌≤◌, Bool, true, false, eqb, leb, ltb, ◌&&◌, List, [], ◌∷◌, ◌++◌, length, get_or, drop, replicate, refl, ap, sym, ◌∙◌, subst, arith, add-zero, length-drop, length-append}
use Rattle.std.proofs.lemmas.Bool.{false_from_ne_true}
use Rattle.std.proofs.lemmas.Bool.Decides.{nat_tests}
use Rattle.std.proofs.lemmas.Nat.{shr_high, pow_pos}
use Rattle.std.proofs.Math.Nat.{pow-suc}
use Rattle.mv_bits.specs.Bits.{digits, bits_of, front}
use Rattle.mv_bits.specs.Elements.{is_start, next_start, cut, Cut}
use Rattle.mv_bits.specs.ReadBack.{sent}
use Rattle.mv_bits.specs.ZeroRuns.{RunsAreShort, runs_are_short, IsBounded}
use Rattle.mv_bits.proofs.BitLaws.{length-digits}
use Rattle.mv_bits.proofs.CutLaws.{three, cut_unstarted, started_cut, front_len}
use Rattle.mv_bits.proofs.JoinLaws.{cut_append, glued}

pub both_true : (a b : Bool) → (a && b) ≡ true → (a ≡ true) × (b ≡ true)
both_true true b e = (refl, e)
both_true false b e = cc

pub runs_wider : (a c b d : ℕ) (bits : List Bool) → c ≤ a → b ≤ d → RunsAreShort a bits b → RunsAreShort c bits d
unfolding RunsAreShort
runs_wider a c b d [] h k x = omega arith
runs_wider a c b d (true ∷ bits) h k x = (omega (arith, x.0), runs_wider 0 0 b d bits (omega arith) k x.1)
runs_wider a c b d (false ∷ bits) h k x = runs_wider (a + 1) (c + 1) b d bits (omega arith) k x

pub runs_none : (a b : ℕ) → a ≤ b → RunsAreShort a [] b
unfolding RunsAreShort
runs_none a b h = h

pub runs_append : (a b c : ℕ) (xs ys : List Bool) → RunsAreShort a xs b → RunsAreShort b ys c → RunsAreShort a (xs ++ ys) c
unfolding RunsAreShort
runs_append a b c [] ys x y = runs_wider b a c c ys x (omega arith) y
runs_append a b c (true ∷ xs) ys x y = (x.0, runs_append 0 b c xs ys x.1 y)
runs_append a b c (false ∷ xs) ys x y = runs_append (a + 1) b c xs ys x y

-- what stands behind some of the bits
pub runs_behind : (a b : ℕ) (xs ys : List Bool) → RunsAreShort a (xs ++ ys) b → RunsAreShort 0 ys b
unfolding RunsAreShort
runs_behind a b [] ys x = runs_wider a 0 b b ys (omega arith) (omega arith) x
runs_behind a b (true ∷ xs) ys x = runs_behind 0 b xs ys x.1
runs_behind a b (false ∷ xs) ys x = runs_behind (a + 1) b xs ys x

-- few bits, whatever they are
pub runs_few : (a m : ℕ) (bits : List Bool) → a + length bits ≤ m → m ≤ 23 → RunsAreShort a bits m
unfolding RunsAreShort
runs_few a m [] h k = omega arith
runs_few a m (true ∷ bits) h k = (omega arith, runs_few 0 m bits (omega arith) k)
runs_few a m (false ∷ bits) h k = runs_few (a + 1) m bits (omega arith) k

pub runs_digits : (a n m v : ℕ) → a + n ≤ m → m ≤ 23 → RunsAreShort a (digits n v) m
runs_digits a n m v h k = runs_few a m (digits n v) (rw (length-digits n v) h) k

-- zeros, as padding has them
pub runs_padding : (a k m : ℕ) → a + k ≤ m → RunsAreShort a (replicate k false) m
unfolding RunsAreShort
runs_padding a zero m h = omega arith
runs_padding a (suc k) m h = runs_padding (a + 1) k m (omega arith)

-- a number that isn't zero has a 1
runs_bit : (a m : ℕ) (b : Bool) (bits : List Bool) → a < 23 → RunsAreShort 0 bits m → (b ≡ false → RunsAreShort (a + 1) bits m) → RunsAreShort a (b ∷ bits) m
unfolding RunsAreShort
runs_bit a m true bits h x y = (h, x)
runs_bit a m false bits h x y = y refl

not_one : (q : ℕ) → q ≡ 1 → eqb (q % 2) 1 ≡ false → ⊥
not_one q is e = grind (arith, nat_tests)

below_high : (n v : ℕ) → v < 2 ^ suc n → eqb (v / 2 ^ n % 2) 1 ≡ false → v < 2 ^ n
below_high n v h e = go (leb (2 ^ n) v) refl where
  go : (t : Bool) → leb (2 ^ n) v ≡ t → v < 2 ^ n
  go false t = grind (arith, nat_tests)
  go true t =
      let over : 2 ^ n ≤ v = grind (arith, nat_tests) in
      let split : v ≡ 1 * 2 ^ n + (v - 2 ^ n) = omega arith in
      let low : v - 2 ^ n < 2 ^ n = omega (arith, pow-suc 2 n) in
      absurd (not_one (v / 2 ^ n) (ap (λ x. x / 2 ^ n) split ∙ shr_high 1 n (v - 2 ^ n) low) e)

pub runs_number : (n a v : ℕ) → 0 < v → v < 2 ^ suc n → a + suc n ≤ 23 → RunsAreShort a (digits (suc n) v) n
unfolding digits
runs_number zero a v p h k =
    runs_bit a 0 (eqb (v / 2 ^ 0 % 2) 1) [] (omega arith) (runs_none 0 0 (omega arith)) (λ e. absurd (omega (arith, below_high 0 v h e)))
runs_number (suc n) a v p h k =
    runs_bit a (suc n) (eqb (v / 2 ^ suc n % 2) 1) (digits (suc n) v) (omega arith) (runs_digits 0 (suc n) (suc n) v (omega arith) (omega arith))
    (λ e. runs_wider (a + 1) (a + 1) n (suc n) (digits (suc n) v) (omega arith) (omega arith) (runs_number n (a + 1) v p (below_high (suc n) v h e) (omega arith)))

-- what the test says
pub runs_tested : (a b : ℕ) (bits : List Bool) → runs_are_short a bits b ≡ true → RunsAreShort a bits b
unfolding RunsAreShort runs_are_short
runs_tested a b [] e = grind (arith, nat_tests)
runs_tested a b (true ∷ bits) e = let f = both_true _ _ e in (below a f.0, runs_tested 0 b bits f.1)
  where
    below : (a : ℕ) → ltb a 23 ≡ true → a < 23
    below a e = grind (arith, nat_tests)
runs_tested a b (false ∷ bits) e = runs_tested (a + 1) b bits e

-- ---- no 23 zeros stand whole in front of the end

runs_drop : (i a b : ℕ) (bits : List Bool) → RunsAreShort a bits b → RunsAreShort 0 (drop i bits) b
unfolding RunsAreShort
runs_drop zero a b bits x = runs_wider a 0 b b bits (omega arith) (omega arith) x
runs_drop (suc i) a b [] x = omega arith
runs_drop (suc i) a b (true ∷ bits) x = runs_drop i 0 b bits x.1
runs_drop (suc i) a b (false ∷ bits) x = runs_drop i (a + 1) b bits x

runs_past : (n a b : ℕ) (bits : List Bool) → front n bits ≡ 0 → n ≤ length bits → RunsAreShort a bits b → RunsAreShort (a + n) (drop n bits) b
unfolding RunsAreShort front
runs_past zero a b bits z h x = rw (add-zero a) x
runs_past (suc n) a b [] z h x = absurd (omega arith)
runs_past (suc n) a b (true ∷ bits) z h x = absurd (omega (arith, pow_pos n))
runs_past (suc n) a b (false ∷ bits) z h x =
    runs_wider (a + 1 + n) (a + suc n) b b (drop n bits) (omega arith) (omega arith) (runs_past n (a + 1) b bits (omega arith) (omega arith) x)

too_many : (a b : ℕ) (bits : List Bool) → 23 ≤ a → b < 23 → RunsAreShort a bits b → ⊥
unfolding RunsAreShort
too_many a b [] h k x = omega arith
too_many a b (true ∷ bits) h k x = omega (arith, x.0)
too_many a b (false ∷ bits) h k x = too_many (a + 1) b bits (omega arith) k x

pub no_long_run : (b : ℕ) (bits : List Bool) → b < 23 → RunsAreShort 0 bits b → (i : ℕ) → i + 23 ≤ length bits → front 23 (drop i bits) ≢ 0
no_long_run b bits k x i h z =
    let long : 23 ≤ length (drop i bits) = rw (length-drop i bits) (omega arith) in
    too_many (0 + 23) b (drop 23 (drop i bits)) (omega arith) k (runs_past 23 0 b (drop i bits) z long (runs_drop i 0 b bits x))

-- ---- bytes: no start code begins inside

start_is_long : (a b : ℕ) (rest : List ℕ) → RunsAreShort a (bits_of (0 ∷ 0 ∷ 1 ∷ rest)) b → ⊥
unfolding RunsAreShort digits bits_of
start_is_long a b rest x = omega (arith, x.0)

pub runs_unstarted : (a b : ℕ) (bytes : List ℕ) → RunsAreShort a (bits_of bytes) b → is_start bytes ≡ false
runs_unstarted a b bytes x = false_from_ne_true _ (λ e. start_is_long a b (drop 3 bytes) (subst (λ (z : List ℕ). RunsAreShort a (bits_of z) b) (three bytes e) x))

pub runs_behind_byte : (a b p : ℕ) (bytes : List ℕ) → RunsAreShort a (bits_of (p ∷ bytes)) b → RunsAreShort 0 (bits_of bytes) b
unfolding bits_of
runs_behind_byte a b p bytes x = runs_behind a b (digits 8 p) (bits_of bytes) x

abbrev cut_as : List ℕ → List (List ℕ) → Cut
cut_as front elements = record { front = front; elements = elements }

pub runs_uncut : (a b : ℕ) (bytes : List ℕ) → RunsAreShort a (bits_of bytes) b → cut bytes ≡ record { front = bytes; elements = [] }
unfolding cut
runs_uncut a b [] x = refl
runs_uncut a b (p ∷ bytes) x =
    cut_unstarted p bytes (runs_unstarted a b (p ∷ bytes) x) ∙ ap (λ (z : Cut). cut_as (p ∷ z.front) z.elements) (runs_uncut 0 b bytes (runs_behind_byte a b p bytes x))

pub runs_next_start : (a b : ℕ) (bytes : List ℕ) → RunsAreShort a (bits_of bytes) b → next_start bytes ≡ length bytes
runs_next_start a b bytes x = sym (front_len bytes) ∙ ap (λ (z : Cut). length z.front) (runs_uncut a b bytes x)

glued_none : (bytes : List ℕ) (later : Cut) (c : Cut) → c ≡ cut_as bytes [] → glued c.front c.elements later ≡ cut_as (bytes ++ later.front) later.elements
unfolding glued
glued_none bytes later c e = rw e refl

-- In front of nothing, of zero bytes and of a start code (what begins with two zero bytes, or ends before).
pub runs_cut : (a b : ℕ) (bytes rest : List ℕ) → RunsAreShort a (bits_of bytes) b → get_or rest 0 0 ≡ 0 → get_or rest 1 0 ≡ 0
    → cut (bytes ++ rest) ≡ record { front = bytes ++ (cut rest).front; elements = (cut rest).elements }
runs_cut a b bytes rest x h0 h1 = cut_append bytes rest h0 h1 ∙ glued_none bytes (cut rest) (cut bytes) (runs_uncut a b bytes x)

not_zero_start : (p : ℕ) (bytes : List ℕ) → p ≢ 0 → is_start (p ∷ bytes) ≡ false
not_zero_start p bytes h = let e : eqb p 0 ≡ false = grind (arith, nat_tests) in rw e refl

-- an element: a start code, a code byte that isn't zero, and such bytes
pub runs_cut_element : (code a b : ℕ) (bytes rest : List ℕ) → code ≢ 0 → RunsAreShort a (bits_of bytes) b → get_or rest 0 0 ≡ 0 → get_or rest 1 0 ≡ 0
    → cut (0 ∷ 0 ∷ 1 ∷ code ∷ (bytes ++ rest)) ≡ record { front = []; elements = (0 ∷ 0 ∷ 1 ∷ code ∷ (bytes ++ (cut rest).front)) ∷ (cut rest).elements }
runs_cut_element code a b bytes rest some x h0 h1 =
    let behind = cut_unstarted code (bytes ++ rest) (not_zero_start code (bytes ++ rest) some) ∙ ap (λ (z : Cut). cut_as (code ∷ z.front) z.elements) (runs_cut a b bytes rest x h0 h1) in
    started_cut (code ∷ (bytes ++ rest)) ∙ ap (λ (z : Cut). cut_as [] ((0 ∷ 0 ∷ 1 ∷ z.front) ∷ z.elements)) behind

-- ---- with their number

pub bounded_wider : (a c b d m n : ℕ) (bits : List Bool) → c ≤ a → b ≤ d → m ≤ n → IsBounded a bits b m → IsBounded c bits d n
bounded_wider a c b d m n bits h k l q = let s = q.short in record { runs = runs_wider a c b d bits h k q.runs; short = omega arith }

pub bounded_append : (a b c m n : ℕ) (xs ys : List Bool) → IsBounded a xs b m → IsBounded b ys c n → IsBounded a (xs ++ ys) c (m + n)
bounded_append a b c m n xs ys q r =
    let s = q.short in
    let t = r.short in
    record { runs = runs_append a b c xs ys q.runs r.runs; short = rw (length-append xs ys) (omega arith) }

pub bounded_none : (a b n : ℕ) → a ≤ b → IsBounded a [] b n
bounded_none a b n h = record { runs = runs_none a b h; short = omega arith }

pub bounded_sent : (a b n : ℕ) (is : Bool) (bits : List Bool) → a ≤ b → (is ≡ true → IsBounded a bits b n) → IsBounded a (sent is bits) b n
bounded_sent a b n true bits h q = q refl
bounded_sent a b n false bits h q = bounded_none a b n h

pub bounded_few : (a b n : ℕ) (bits : List Bool) → length bits ≤ n → a + n ≤ b → b ≤ 23 → IsBounded a bits b n
bounded_few a b n bits l h k = record { runs = runs_few a b bits (omega (arith, l, h)) k; short = l }

pub bounded_digits : (a b n v : ℕ) → a + n ≤ b → b ≤ 23 → IsBounded a (digits n v) b n
bounded_digits a b n v h k = let l = length-digits n v in record { runs = runs_digits a n b v h k; short = omega arith }

pub bounded_flag : (a : ℕ) (b : Bool) → a ≤ 22 → IsBounded a (b ∷ []) (a + 1) 1
bounded_flag a b h = bounded_few a (a + 1) 1 (b ∷ []) (omega arith) (omega arith) (omega arith)

pub bounded_marker : (a : ℕ) → a ≤ 22 → IsBounded a (true ∷ []) 0 1
unfolding RunsAreShort
bounded_marker a h = record { runs = (omega arith, omega arith); short = omega arith }

pub bounded_number : (a n v : ℕ) → 0 < v → v < 2 ^ suc n → a + suc n ≤ 23 → IsBounded a (digits (suc n) v) n (suc n)
bounded_number a n v h k l = let e = length-digits (suc n) v in record { runs = runs_number n a v h k l; short = omega arith }
