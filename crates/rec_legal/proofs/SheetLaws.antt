-- What is read at the places of a sheet is what it says.
use Rattle.std.proofs.Common.{◌≡◌, ℕ, zero, suc, ◌+◌, ◌-◌, ◌/◌, ◌%◌, ◌^◌, ◌<◌, ◌≤◌, ◌∙◌, true, leb, List, [], ◌∷◌, drop, take, length, get_or, arith, ap, refl, sym, subst, length-drop, replicate, codes, Option, Some, None, option_map}
use Rattle.std.specs.Prelude.{MatchOption}
use Rattle.std.proofs.lemmas.Bool.Decides.{nat_tests}
use Rattle.std.proofs.lemmas.Slice.Eq.{bytes_eq-Decides}
use Rattle.std.proofs.lemmas.List.{get_or-take, get_or-drop, length-take-le, length-take}
use Rattle.std.proofs.lemmas.List.FromFn.{fill_by_all}
use Rattle.mv_terms.specs.declared.head.PicType.{PicType}
use Rattle.mv_terms.specs.declared.head.PicType.TheVariants as pic
use Rattle.mv_terms.specs.PicTypes.{picture_coding_type}
use Rattle.rec_sheet.specs.Sheets.{SheetLists, IsSheet, end_of, bytes_at, four_bytes, kind_of, lengths_of}
use Rattle.rec_legal.specs.Said.{two_at, four_at, type_of_code, sheet_at, is_sheet, sheet_said}
use Rattle.rec_legal.proofs.OptionLemmas.{both_true, true_both, when_some, when_true, no_some}

-- ---- places

byte_of : (bytes : List ℕ) (at n i : ℕ) → i < n → get_or bytes (at + i) 0 ≡ get_or (bytes_at bytes at n) i 0
byte_of bytes at n i inside = sym (get_or-take n (drop at bytes) i 0 inside ∙ get_or-drop at bytes i 0)

size_at : (bytes : List ℕ) (at n : ℕ) → at + n ≤ length bytes → length (bytes_at bytes at n) ≡ n
size_at bytes at n inside = length-take-le n (drop at bytes) (omega (arith, length-drop at bytes))

size_at_most : (bytes : List ℕ) (at n : ℕ) → length (bytes_at bytes at n) ≤ n
size_at_most bytes at n = let l = length-take n (drop at bytes) in omega (arith, l)

again : (n : ℕ) (xs : List ℕ) → take (length (take n xs)) xs ≡ take n xs
again zero xs = refl
again (suc n) [] = refl
again (suc n) (x ∷ xs) = ap (λ (ys : List ℕ). x ∷ ys) (again n xs)

four_from : (bytes : List ℕ) (at : ℕ) → at + 4 ≤ length bytes → bytes_at bytes at 4 ≡ get_or bytes (at + 0) 0 ∷ get_or bytes (at + 1) 0 ∷ get_or bytes (at + 2) 0 ∷ get_or bytes (at + 3) 0 ∷ []
four_from bytes at inside = fill_by_all (λ i. get_or bytes (at + i) 0) (bytes_at bytes at 4) 4 0 (size_at bytes at 4 inside) (λ k below. sym (byte_of bytes at 4 k below))

four_same : (a b c d a' b' c' d' : ℕ) → a ≡ a' → b ≡ b' → c ≡ c' → d ≡ d' → Path (List ℕ) (a ∷ b ∷ c ∷ d ∷ []) (a' ∷ b' ∷ c' ∷ d' ∷ [])
four_same a b c d a' b' c' d' p q r s = cc

abbrev AreSmall : List ℕ → Type 0
AreSmall bytes = (k : ℕ) → get_or bytes k 0 < 256

-- four bytes are those of their number
four_is : (bytes : List ℕ) (at : ℕ) → AreSmall bytes → at + 4 ≤ length bytes → bytes_at bytes at 4 ≡ four_bytes (four_at bytes at)
four_is bytes at small inside =
    let a = small at in
    let b = small (at + 1) in
    let c = small (at + 2) in
    let d = small (at + 3) in
    let z : get_or bytes (at + 0) 0 ≡ get_or bytes at 0 = ap (λ (k : ℕ). get_or bytes k 0) (omega arith) in
    four_from bytes at inside ∙ four_same _ _ _ _ (four_at bytes at / 16777216) (four_at bytes at / 65536 % 256) (four_at bytes at / 256 % 256) (four_at bytes at % 256)
    (omega (arith, z, a, b, c, d)) (omega (arith, a, b, c, d)) (omega (arith, a, b, c, d)) (omega (arith, a, b, c, d))

four_small : (bytes : List ℕ) (at : ℕ) → AreSmall bytes → four_at bytes at < 2 ^ 32
four_small bytes at small =
    let a = small at in
    let b = small (at + 1) in
    let c = small (at + 2) in
    let d = small (at + 3) in
    omega (arith, a, b, c, d)

number_is : (bytes : List ℕ) (at n : ℕ) → bytes_at bytes at 4 ≡ four_bytes n → n ≡ four_at bytes at
number_is bytes at n e =
    let a : get_or bytes (at + 0) 0 ≡ n / 16777216 = byte_of bytes at 4 0 (omega arith) ∙ ap (λ (xs : List ℕ). get_or xs 0 0) e in
    let b : get_or bytes (at + 1) 0 ≡ n / 65536 % 256 = byte_of bytes at 4 1 (omega arith) ∙ ap (λ (xs : List ℕ). get_or xs 1 0) e in
    let c : get_or bytes (at + 2) 0 ≡ n / 256 % 256 = byte_of bytes at 4 2 (omega arith) ∙ ap (λ (xs : List ℕ). get_or xs 2 0) e in
    let d : get_or bytes (at + 3) 0 ≡ n % 256 = byte_of bytes at 4 3 (omega arith) ∙ ap (λ (xs : List ℕ). get_or xs 3 0) e in
    let z : at + 0 ≡ at = omega arith in
    let a' : get_or bytes at 0 ≡ n / 16777216 = ap (λ (k : ℕ). get_or bytes k 0) (sym z) ∙ a in
    omega (arith, a', b, c, d)

-- ---- what is tested is a sheet

record IsTested (s : SheetLists) (bytes : List ℕ) : Type 0 where
  room : end_of s + 32 ≤ length bytes
  name : bytes_at bytes 0 4 ≡ codes "MREC"
  kind : bytes_at bytes 4 4 ≡ kind_of s
  lengths : bytes_at bytes 80 6 ≡ lengths_of s
  unused : bytes_at bytes (end_of s) (length bytes - 32 - end_of s) ≡ replicate (length bytes - 32 - end_of s) 0

le_of : (a b : ℕ) → leb a b ≡ true → a ≤ b
le_of a b e = grind (arith, nat_tests)

of_le : (a b : ℕ) → a ≤ b → leb a b ≡ true
of_le a b e = grind (arith, nat_tests)

tested : (s : SheetLists) (bytes : List ℕ) → is_sheet s bytes ≡ true → IsTested s bytes
tested s bytes e =
    let n : ℕ = length bytes - 32 - end_of s in
    let a = both_true _ _ e in
    let b = both_true _ _ a.0 in
    let c = both_true _ _ b.0 in
    let d = both_true _ _ c.0 in
    record {
      room = le_of (end_of s + 32) (length bytes) d.0;
      name = (bytes_eq-Decides (bytes_at bytes 0 4) (codes "MREC")).0 d.1;
      kind = (bytes_eq-Decides (bytes_at bytes 4 4) (kind_of s)).0 c.1;
      lengths = (bytes_eq-Decides (bytes_at bytes 80 6) (lengths_of s)).0 b.1;
      unused = (bytes_eq-Decides (bytes_at bytes (end_of s) n) (replicate n 0)).0 a.1;
    }

passes : (s : SheetLists) (bytes : List ℕ) → IsTested s bytes → is_sheet s bytes ≡ true
passes s bytes is =
    let n : ℕ = length bytes - 32 - end_of s in
    true_both _ _ (true_both _ _ (true_both _ _ (true_both _ _
    (of_le (end_of s + 32) (length bytes) is.room)
    ((bytes_eq-Decides (bytes_at bytes 0 4) (codes "MREC")).1 is.name))
    ((bytes_eq-Decides (bytes_at bytes 4 4) (kind_of s)).1 is.kind))
    ((bytes_eq-Decides (bytes_at bytes 80 6) (lengths_of s)).1 is.lengths))
    ((bytes_eq-Decides (bytes_at bytes (end_of s) n) (replicate n 0)).1 is.unused)

sheet_from : (bytes : List ℕ) → AreSmall bytes → IsTested (sheet_at bytes) bytes → IsSheet (sheet_at bytes) bytes
sheet_from bytes small is =
    let r = is.room in
    let room : 118 ≤ length bytes = omega (arith, r) in
    let c : ℕ = two_at bytes 80 in
    let p : ℕ = two_at bytes 82 in
    let h : ℕ = two_at bytes 84 in
    let s0 = small 80 in
    let s1 = small 81 in
    let s2 = small 82 in
    let s3 = small 83 in
    let s4 = small 84 in
    let s5 = small 85 in
    let cl : length (bytes_at bytes 86 c) ≤ c = size_at_most bytes 86 c in
    let pl : length (bytes_at bytes (86 + c) p) ≤ p = size_at_most bytes (86 + c) p in
    let hl : length (bytes_at bytes (86 + c + p) h) ≤ h = size_at_most bytes (86 + c + p) h in
    let sizes : (i : ℕ) → i < 6 → get_or bytes (80 + i) 0 ≡ get_or (lengths_of (sheet_at bytes)) i 0 = λ (i : ℕ) below. byte_of bytes 80 6 i below ∙ ap (λ (xs : List ℕ). get_or xs i 0) is.lengths in
    let a0 = sizes 0 (omega arith) in
    let a1 = sizes 1 (omega arith) in
    let a2 = sizes 2 (omega arith) in
    let a3 = sizes 3 (omega arith) in
    let context_size : length (bytes_at bytes 86 c) ≡ c = omega (arith, a0, a1) in
    let prefix_size : length (bytes_at bytes (86 + c) p) ≡ p = omega (arith, a2, a3) in
    record {
      fits = record {
        flags = small 6;
        forward = size_at bytes 8 32 (omega (arith, room));
        backward = size_at bytes 40 32 (omega (arith, room));
        n1 = four_small bytes 72 small;
        n2 = four_small bytes 76 small;
        context = omega (arith, cl, s0, s1);
        prefix = omega (arith, pl, s2, s3);
        head = omega (arith, hl, s4, s5);
      };
      room = is.room;
      name = is.name;
      kind = is.kind;
      forward = refl;
      backward = refl;
      n1 = four_is bytes 72 small (omega (arith, room));
      n2 = four_is bytes 76 small (omega (arith, room));
      lengths = is.lengths;
      context = again c (drop 86 bytes);
      prefix = ap (λ (k : ℕ). bytes_at bytes (86 + k) (length (bytes_at bytes (86 + c) p))) context_size ∙ again p (drop (86 + c) bytes);
      head = ap (λ (k : ℕ). bytes_at bytes (86 + k + length (bytes_at bytes (86 + c) p)) (length (bytes_at bytes (86 + c + p) h))) context_size
          ∙ (ap (λ (k : ℕ). bytes_at bytes (86 + c + k) (length (bytes_at bytes (86 + c + p) h))) prefix_size ∙ again h (drop (86 + c + p) bytes));
      unused = is.unused;
    }

-- ---- a sheet is what is read

abbrev made : PicType → ℕ → List ℕ → List ℕ → ℕ → ℕ → List ℕ → List ℕ → List ℕ → SheetLists
made t f a b m n c p h = record { pic = t; flags = f; forward = a; backward = b; n1 = m; n2 = n; context = c; prefix = p; head = h }

same_sheet : (t t' : PicType) (f f' : ℕ) (a a' b b' : List ℕ) (m m' n n' : ℕ) (c c' p p' h h' : List ℕ) → t ≡ t' → f ≡ f' → a ≡ a' → b ≡ b' → m ≡ m' → n ≡ n' → c ≡ c' → p ≡ p' → h ≡ h' → made t f a b m n c p h ≡ made t' f' a' b' m' n' c' p' h'
same_sheet t t' f f' a a' b b' m m' n n' c c' p p' h h' p1 p2 p3 p4 p5 p6 p7 p8 p9 = cc

type_back : (t : PicType) → type_of_code (picture_coding_type t) ≡ t
type_back pic.I = refl
type_back pic.P = refl
type_back pic.B = refl

is_read : (s : SheetLists) (bytes : List ℕ) → IsSheet s bytes → s ≡ sheet_at bytes
is_read s bytes is =
    let kinds : (i : ℕ) → i < 4 → get_or bytes (4 + i) 0 ≡ get_or (kind_of s) i 0 = λ (i : ℕ) below. byte_of bytes 4 4 i below ∙ ap (λ (xs : List ℕ). get_or xs i 0) is.kind in
    let sizes : (i : ℕ) → i < 6 → get_or bytes (80 + i) 0 ≡ get_or (lengths_of s) i 0 = λ (i : ℕ) below. byte_of bytes 80 6 i below ∙ ap (λ (xs : List ℕ). get_or xs i 0) is.lengths in
    let code : get_or bytes 5 0 ≡ picture_coding_type s.pic = kinds 1 (omega arith) in
    let flags : get_or bytes 6 0 ≡ s.flags = kinds 2 (omega arith) in
    let a0 = sizes 0 (omega arith) in
    let a1 = sizes 1 (omega arith) in
    let a2 = sizes 2 (omega arith) in
    let a3 = sizes 3 (omega arith) in
    let a4 = sizes 4 (omega arith) in
    let a5 = sizes 5 (omega arith) in
    let c : length s.context ≡ two_at bytes 80 = omega (arith, a0, a1) in
    let p : length s.prefix ≡ two_at bytes 82 = omega (arith, a2, a3) in
    let h : length s.head ≡ two_at bytes 84 = omega (arith, a4, a5) in
    same_sheet s.pic _ s.flags _ s.forward _ s.backward _ s.n1 _ s.n2 _ s.context _ s.prefix _ s.head _
    (sym (type_back s.pic) ∙ ap type_of_code (sym code)) (sym flags) (sym is.forward) (sym is.backward)
    (number_is bytes 72 s.n1 is.n1) (number_is bytes 76 s.n2 is.n2)
    (sym is.context ∙ ap (λ (k : ℕ). bytes_at bytes 86 k) c)
    (sym is.prefix ∙ (ap (λ (k : ℕ). bytes_at bytes (86 + k) (length s.prefix)) c ∙ ap (λ (k : ℕ). bytes_at bytes (86 + two_at bytes 80) k) p))
    (sym is.head ∙ (ap (λ (k : ℕ). bytes_at bytes (86 + k + length s.prefix) (length s.head)) c ∙ (ap (λ (k : ℕ). bytes_at bytes (86 + two_at bytes 80 + k) (length s.head)) p ∙ ap (λ (k : ℕ). bytes_at bytes (86 + two_at bytes 80 + two_at bytes 82) k) h)))

test_of : (s : SheetLists) (bytes : List ℕ) → IsSheet s bytes → IsTested s bytes
test_of s bytes is = record { room = is.room; name = is.name; kind = is.kind; lengths = is.lengths; unused = is.unused }

-- ---- the laws

pub sheet_sound : (bytes : List ℕ) (s : SheetLists) → AreSmall bytes → sheet_said bytes ≡ Some s → IsSheet s bytes
unfolding sheet_said
sheet_sound bytes s small e =
    let w = when_some (is_sheet (sheet_at bytes) bytes) (sheet_at bytes) s e in
    subst (λ (t : SheetLists). IsSheet t bytes) w.1 (sheet_from bytes small (tested (sheet_at bytes) bytes w.0))

pub sheet_complete : (bytes : List ℕ) (s : SheetLists) → IsSheet s bytes → sheet_said bytes ≡ Some s
unfolding sheet_said
sheet_complete bytes s is =
    let same = is_read s bytes is in
    let test : is_sheet (sheet_at bytes) bytes ≡ true = subst (λ (t : SheetLists). is_sheet t bytes ≡ true) same (passes s bytes (test_of s bytes is)) in
    when_true (is_sheet (sheet_at bytes) bytes) (sheet_at bytes) test ∙ ap (λ (t : SheetLists). Some t) (sym same)

-- what is answered of a sheet
pub sheet_read : {X : Type 0} (lent : X → SheetLists) (bytes : List ℕ) (r : Option X) → AreSmall bytes → MatchOption r ((s : SheetLists) → IsSheet s bytes → ⊥) (λ x. IsSheet (lent x) bytes) → option_map lent r ≡ sheet_said bytes
sheet_read {X} lent bytes None small none = sym (no_some (sheet_said bytes) (λ s e. none s (sheet_sound bytes s small e)))
sheet_read {X} lent bytes (Some x) small is = sym (sheet_complete bytes (lent x) is)
