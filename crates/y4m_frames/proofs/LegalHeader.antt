-- The header that a header line means is legal.
use Rattle.std.proofs.Common.{◌≡◌, ◌≢◌, ℕ, ◌%◌, ◌^◌, ◌<◌, ◌≤◌, Bool, true, false, ◌&&◌, ◌||◌, ◌==◌, nat_le, if◌then◌else◌, List, [], ◌∷◌, length, codes, bytes_eq, Option, Some, None, Result, Ok, Err, refl, sym, ap, ◌∙◌, subst, arith}
use Rattle.std.specs.List.{list_all, before_first, after_first}
use Rattle.std.specs.Str.Parse.{AllDigits, digits_value}
use Rattle.std.proofs.Math.Nat.{pow-le-pow_right}
use Rattle.std.proofs.lemmas.Bool.{eqb-true, eq-eqb, leb-true}
use Rattle.std.proofs.lemmas.Int.Digits.{digits_value-lt}
use Rattle.std.proofs.lemmas.Str.{digit_value_digit}
use Rattle.mv_terms.specs.Ranges.{IsFrameHeader, row_lines}
use Rattle.mv_terms.specs.declared.frame_header.FrameHeader.{FrameHeader}
use Rattle.mv_terms.specs.declared.status.FrameFault.{FrameFault}
use Rattle.mv_terms.specs.declared.status.FrameFault.TheVariants.{BadHeader, BadSize}
use Rattle.y4m_frames.specs.Lines.{words, number, is_digit}
use Rattle.y4m_frames.specs.Header.{◌>>=◌, Token, absent, once, often, optional, needed, token, rate, known_rate, is_colon, fields, kind, says, said, is_right_size, is_first_word, header, header_by, header_of}
use Rattle.y4m_frames.specs.Reading.{HeadersAreLegal}

and_parts : (a b : Bool) → a && b ≡ true → (a ≡ true) × (b ≡ true)
and_parts true b h = (refl, h)
and_parts false b h = absurd cc

-- tests that hold

is_le : (a b : ℕ) → nat_le a b ≡ true → a ≤ b
is_le a b h = leb-true a b h

if_ok : {A E : Type 0} (b : Bool) (r : Result A E) (e : E) (y : A) → (if b then r else Err e) ≡ Ok y → (b ≡ true) × (r ≡ Ok y)
if_ok true r e y h = (refl, h)
if_ok false r e y h = absurd cc

if_some : {A : Type 0} (b : Bool) (x y : A) → (if b then Some x else None) ≡ Some y → (b ≡ true) × (x ≡ y)
if_some true x y h = (refl, some_is h)
  where
    some_is : Some x ≡ Some y → x ≡ y
    some_is e = cc
if_some false x y h = absurd cc

-- steps of a reading

skip : {A B : Type 0} (o : Option A) (x : Option B) (s : B) → (o >>= λ _. x) ≡ Some s → x ≡ Some s
skip None x s e = absurd cc
skip (Some a) x s e = e

skip_two : {A C B : Type 0} (o : Option A) (f : A → Option C) (x : Option B) (s : B) → (o >>= λ a. f a >>= λ _. x) ≡ Some s → x ≡ Some s
skip_two None f x s e = absurd cc
skip_two (Some a) f x s e = skip (f a) x s e

some_of : {C B : Type 0} (o : Option C) (y : C → Option B) (s : B) → (o >>= y) ≡ Some s → (c : C) × (o ≡ Some c) × (y c ≡ Some s)
some_of None y s e = absurd cc
some_of (Some c) y s e = (c, refl, e)

some_behind : {A C B : Type 0} (o : Option A) (f : A → Option C) (y : C → Option B) (s : B) → (o >>= λ a. f a >>= y) ≡ Some s → (c : C) × (y c ≡ Some s)
some_behind None f y s e = absurd cc
some_behind (Some a) f y s e = let h = some_of (f a) y s e in (h.0, h.2)

-- numbers

all_digits : (cs : List ℕ) → list_all is_digit cs ≡ true → AllDigits 10 cs
all_digits [] h = tt
all_digits (c ∷ cs) h =
    let p = and_parts (is_digit c) (list_all is_digit cs) h in
    let q = and_parts (nat_le 48 c) (nat_le c 57) p.0 in
    let low = is_le 48 c q.0 in
    let high = is_le c 57 q.1 in
    (omega (arith, digit_value_digit c (low, high), low, high), all_digits cs p.1)

number_below : (digits : List ℕ) (n : ℕ) → number digits ≡ Some n → n < 10 ^ 9
unfolding number
number_below digits n e =
    let h = if_some (nat_le 1 (length digits) && nat_le (length digits) 9 && list_all is_digit digits) (digits_value 10 digits) n e in
    let p = and_parts (nat_le 1 (length digits) && nat_le (length digits) 9) (list_all is_digit digits) h.0 in
    let q = and_parts (nat_le 1 (length digits)) (nat_le (length digits) 9) p.0 in
    let short = is_le (length digits) 9 q.1 in
    let lt = digits_value-lt 10 digits (all_digits digits p.1) in
    omega (arith, lt, h.1, pow-le-pow_right {n = 10} (omega arith) {i = length digits} {j = 9} short)

-- a rate is named whole or not at all
record IsRate (r : ℕ × ℕ) : Type 0 where
  num : r.0 < 10 ^ 9
  den : r.1 < 10 ^ 9
  num_with_den : r.0 ≡ 0 → r.1 ≡ 0
  den_with_num : r.1 ≡ 0 → r.0 ≡ 0

or_parts : (a b : Bool) → a || b ≡ false → (a ≡ false) × (b ≡ false)
or_parts true b h = absurd cc
or_parts false b h = (refl, h)

some_number : (n : ℕ) → n == 0 ≡ false → n ≢ 0
some_number n h z = absurd (let no : true ≡ false = sym (eq-eqb n 0 z) ∙ h in cc)

rate_by : (b : Bool) (n m : ℕ) → n < 10 ^ 9 → m < 10 ^ 9 → (b ≡ false → (n ≢ 0) × (m ≢ 0)) → IsRate (if b then (0, 0) else (n, m))
rate_by true n m small_n small_m some = record { num = omega arith; den = omega arith; num_with_den = λ e. refl; den_with_num = λ e. refl }
rate_by false n m small_n small_m some = record { num = small_n; den = small_m; num_with_den = λ e. absurd ((some refl).0 e); den_with_num = λ e. absurd ((some refl).1 e) }

known_is : (n m : ℕ) → n < 10 ^ 9 → m < 10 ^ 9 → IsRate (known_rate n m)
known_is n m small_n small_m = rate_by (n == 0 || m == 0) n m small_n small_m (λ h. let p = or_parts (n == 0) (m == 0) h in (some_number n p.0, some_number m p.1))

rate_is : (text : List ℕ) (r : ℕ × ℕ) → rate text ≡ Some r → IsRate r
unfolding rate
rate_is text r e =
    let n = some_of (number (before_first is_colon text)) (λ n. number (after_first is_colon text) >>= λ m. Some (known_rate n m)) r e in
    let m = some_of (number (after_first is_colon text)) (λ m. Some (known_rate n.0 m)) r n.2 in
    subst IsRate (some_pair (known_rate n.0 m.0) r m.2) (known_is n.0 m.0 (number_below (before_first is_colon text) n.0 n.1) (number_below (after_first is_colon text) m.0 m.1))
  where
    some_pair : (x y : ℕ × ℕ) → Some x ≡ Some y → x ≡ y
    some_pair x y h = cc

token_rate : (t : Token) (r : ℕ × ℕ) → optional (0, 0) rate t ≡ Some r → IsRate r
token_rate absent r e = subst IsRate (some_pair (0, 0) r e) (record { num = omega arith; den = omega arith; num_with_den = λ h. refl; den_with_num = λ h. refl })
  where
    some_pair : (x y : ℕ × ℕ) → Some x ≡ Some y → x ≡ y
    some_pair x y h = cc
token_rate (once text) r e = rate_is text r e
token_rate often r e = absurd cc

-- which field comes first only where there are fields
abbrev IsScan : Bool × Bool → Type 0
IsScan s = s.0 ≡ true → s.1 ≡ false

scan_by : (x s : Bool × Bool) → IsScan x → Some x ≡ Some s → IsScan s
scan_by x s is e = subst (λ (y : Bool × Bool). IsScan y) (let same : x ≡ s = cc in same) is

scan_is : (a b c : Bool) (s : Bool × Bool) → (if a then Some (true, false) else (if b then Some (false, false) else (if c then Some (false, true) else None))) ≡ Some s → IsScan s
scan_is true b c s e = scan_by (true, false) s (λ h. refl) e
scan_is false true c s e = scan_by (false, false) s (λ h. refl) e
scan_is false false true s e = scan_by (false, true) s (λ h. absurd (false_is_not_true h)) e
  where
    false_is_not_true : false ≡ true → ⊥
    false_is_not_true h = cc
scan_is false false false s e = absurd cc

fields_are : (text : List ℕ) (s : Bool × Bool) → fields text ≡ Some s → IsScan s
unfolding fields
fields_are text s e = scan_is (bytes_eq text (codes "p") || bytes_eq text (codes "?")) (bytes_eq text (codes "t") || bytes_eq text (codes "m")) (bytes_eq text (codes "b")) s e

token_fields : (t : Token) (s : Bool × Bool) → optional (true, false) fields t ≡ Some s → IsScan s
token_fields absent s e = scan_by (true, false) s (λ h. refl) e
token_fields (once text) s e = fields_are text s e
token_fields often s e = absurd cc

-- what a line says
record IsSaid (h : FrameHeader) : Type 0 where
  rate : IsRate (h.rate_num, h.rate_den)
  scan : h.progressive ≡ true → h.bottom_first ≡ false

said_by : (wide high : ℕ) (r : ℕ × ℕ) (c : Bool × Bool) (s : _) → IsRate r → IsScan c → Some (says wide high r c) ≡ Some s → IsSaid (header s)
said_by wide high r c s rate scan e = subst (λ x. IsSaid (header x)) (let same : says wide high r c ≡ s = cc in same) (record { rate = rate; scan = scan })

is_said : (line : List ℕ) (s : _) → said line ≡ Some s → IsSaid (header s)
unfolding said
is_said line s e =
    let rest : ℕ → ℕ → Option _ = λ wide high. optional (0, 0) rate (token 70 line) >>= λ r. optional (true, false) fields (token 73 line) >>= λ c. Some (says wide high r c) in
    let of_kind : ℕ → ℕ → Option _ = λ wide high. needed (token 67 line) >>= λ text. kind text >>= λ _. rest wide high in
    let of_high : ℕ → Option _ = λ wide. needed (token 72 line) >>= λ text. number text >>= λ high. of_kind wide high in
    let w = some_behind (needed (token 87 line)) number of_high s e in
    let h = some_behind (needed (token 72 line)) number (of_kind w.0) s w.1 in
    let k = skip_two (needed (token 67 line)) kind (rest w.0 h.0) s h.1 in
    let r = some_of (optional (0, 0) rate (token 70 line)) (λ r. optional (true, false) fields (token 73 line) >>= λ c. Some (says w.0 h.0 r c)) s k in
    let c = some_of (optional (true, false) fields (token 73 line)) (λ c. Some (says w.0 h.0 r.0 c)) s r.2 in
    said_by w.0 h.0 r.0 c.0 s (token_rate (token 70 line) r.0 r.1) (token_fields (token 73 line) c.0 c.1) c.2

-- a right size
record IsSized (h : FrameHeader) : Type 0 where
  some_wide : 1 ≤ h.wide
  wide : h.wide ≤ 1920
  some_high : 1 ≤ h.high
  high : h.high ≤ 1152
  whole_wide : h.wide % 16 ≡ 0
  whole_high : h.high % (if h.progressive then 16 else 32) ≡ 0

is_sized : (s : _) → is_right_size s ≡ true → IsSized (header s)
is_sized s e =
    let a = and_parts (nat_le 1 s.wide && nat_le s.wide 1920 && nat_le 1 s.high && nat_le s.high 1152 && s.wide % 16 == 0) (s.high % (if s.progressive then 16 else 32) == 0) e in
    let b = and_parts (nat_le 1 s.wide && nat_le s.wide 1920 && nat_le 1 s.high && nat_le s.high 1152) (s.wide % 16 == 0) a.0 in
    let c = and_parts (nat_le 1 s.wide && nat_le s.wide 1920 && nat_le 1 s.high) (nat_le s.high 1152) b.0 in
    let d = and_parts (nat_le 1 s.wide && nat_le s.wide 1920) (nat_le 1 s.high) c.0 in
    let f = and_parts (nat_le 1 s.wide) (nat_le s.wide 1920) d.0 in
    record {
      some_wide = is_le 1 s.wide f.0;
      wide = is_le s.wide 1920 f.1;
      some_high = is_le 1 s.high d.1;
      high = is_le s.high 1152 c.1;
      whole_wide = eqb-true (s.wide % 16) 0 b.1;
      whole_high = eqb-true (s.high % (if s.progressive then 16 else 32)) 0 a.1;
    }

lines_are : (p : Bool) → (if p then 16 else 32) ≡ row_lines p
lines_are true = refl
lines_are false = refl

header_is : (h : FrameHeader) → IsSaid h → IsSized h → IsFrameHeader h
header_is h is sized = record {
  some_wide = sized.some_wide;
  wide = sized.wide;
  whole_wide = sized.whole_wide;
  some_high = sized.some_high;
  high = sized.high;
  whole_high = ap (λ n. h.high % n) (sym (lines_are h.progressive)) ∙ sized.whole_high;
  scan = is.scan;
  rate_num = is.rate.num;
  rate_den = is.rate.den;
  num_with_den = is.rate.num_with_den;
  den_with_num = is.rate.den_with_num;
}

ok_same : (r : Result FrameHeader FrameFault) (x y : FrameHeader) → r ≡ Ok x → r ≡ Ok y → x ≡ y
ok_same r x y e f = cc

header_by_is : (o : Option _) (h : FrameHeader) → ((s : _) → o ≡ Some s → IsSaid (header s)) → header_by o ≡ Ok h → IsFrameHeader h
header_by_is None h said_is e = absurd cc
header_by_is (Some s) h said_is e =
    let b = if_ok (is_right_size s) (Ok (header s)) BadSize h e in
    subst (λ (x : FrameHeader). IsFrameHeader x) (ok_same (Ok (header s)) (header s) h refl b.1) (header_is (header s) (said_is s refl) (is_sized s b.0))

-- The header of a header line is legal.
pub legal_header : HeadersAreLegal
unfolding header_of
legal_header line h is =
    let b = if_ok (is_first_word (words is.text)) (header_by (said is.text)) BadHeader h is.means in
    header_by_is (said is.text) h (is_said is.text) b.1
