-- What the bytes at the places of a sheet are.
use Rattle.std.proofs.Common.{◌≡◌, ℕ, zero, ◌+◌, ◌-◌, ◌*◌, ◌/◌, ◌%◌, ◌<◌, ◌≤◌, ◌∙◌, List, [], ◌∷◌, drop, length, get_or, arith, ap, sym, length-drop, replicate, ◌^◌}
use Rattle.std.proofs.lemmas.Grind.{same_number_lists}
use Rattle.std.proofs.lemmas.List.{get_or-take, get_or-drop, length-take-le}
use Rattle.std.proofs.lemmas.List.FromFn.{fill_by_all}
use Rattle.mv_terms.specs.PicTypes.{picture_coding_type}
use Rattle.rec_sheet.specs.Sheets.{SheetLists, IsSheet, IsNamed, end_of, bytes_at, four_bytes, lengths_of}

-- byte i of the bytes from a place on
pub byte_of : (bytes : List ℕ) (at n i : ℕ) → i < n → get_or bytes (at + i) 0 ≡ get_or (bytes_at bytes at n) i 0
byte_of bytes at n i inside = sym (get_or-take n (drop at bytes) i 0 inside ∙ get_or-drop at bytes i 0)

pub size_at : (bytes : List ℕ) (at n : ℕ) → at + n ≤ length bytes → length (bytes_at bytes at n) ≡ n
size_at bytes at n inside = length-take-le n (drop at bytes) (omega (arith, length-drop at bytes))

pub link_is : (bytes link : List ℕ) (at i : ℕ) → at + 32 ≤ length bytes → i ≡ 32 → length link ≡ 32 → ((k : ℕ) → k < i → get_or link k 0 ≡ get_or bytes (at + k) 0) → link ≡ bytes_at bytes at 32
link_is bytes link at i inside all size same =
    same_number_lists link (bytes_at bytes at 32) (size ∙ sym (size_at bytes at 32 inside)) (λ k below. same k (omega arith) ∙ byte_of bytes at 32 k (omega arith))

-- the bytes in front that all sheets have
pub named : (s : SheetLists) (bytes : List ℕ) → IsSheet s bytes → IsNamed bytes
named s bytes is = record {
  m = byte_of bytes 0 4 0 (omega arith) ∙ ap (λ xs. get_or xs 0 0) is.name;
  r = byte_of bytes 0 4 1 (omega arith) ∙ ap (λ xs. get_or xs 1 0) is.name;
  e = byte_of bytes 0 4 2 (omega arith) ∙ ap (λ xs. get_or xs 2 0) is.name;
  c = byte_of bytes 0 4 3 (omega arith) ∙ ap (λ xs. get_or xs 3 0) is.name;
  version = byte_of bytes 4 4 0 (omega arith) ∙ ap (λ xs. get_or xs 0 0) is.kind;
  behind = byte_of bytes 4 4 3 (omega arith) ∙ ap (λ xs. get_or xs 3 0) is.kind;
}

pub typed : (s : SheetLists) (bytes : List ℕ) → IsSheet s bytes → picture_coding_type s.pic ≡ get_or bytes 5 0
typed s bytes is = sym (byte_of bytes 4 4 1 (omega arith) ∙ ap (λ xs. get_or xs 1 0) is.kind)

-- the three lengths as they stand
pub record HasLengths (bytes : List ℕ) (c p h : ℕ) : Type 0 where
  pub context : 256 * get_or bytes 80 0 + get_or bytes 81 0 ≡ c
  pub prefix : 256 * get_or bytes 82 0 + get_or bytes 83 0 ≡ p
  pub head : 256 * get_or bytes 84 0 + get_or bytes 85 0 ≡ h

pub sized : (s : SheetLists) (bytes : List ℕ) → IsSheet s bytes → HasLengths bytes (length s.context) (length s.prefix) (length s.head)
sized s bytes is =
    let at : (i : ℕ) → i < 6 → get_or bytes (80 + i) 0 ≡ get_or (lengths_of s) i 0 = λ (i : ℕ) below. byte_of bytes 80 6 i below ∙ ap (λ xs. get_or xs i 0) is.lengths in
    record {
      context = omega (arith, at 0 (omega arith), at 1 (omega arith));
      prefix = omega (arith, at 2 (omega arith), at 3 (omega arith));
      head = omega (arith, at 4 (omega arith), at 5 (omega arith));
    }

-- a sheet ends inside the bytes, and has zeros behind its parts
pub ends_inside : (s : SheetLists) (bytes : List ℕ) (c p h : ℕ) → HasLengths bytes c p h → IsSheet s bytes → 86 + c + p + h + 32 ≤ length bytes
ends_inside s bytes c p h l is = let k = sized s bytes is in let r = is.room in omega (arith, l.context, l.prefix, l.head, k.context, k.prefix, k.head)

same_end : (s : SheetLists) (bytes : List ℕ) (c p h : ℕ) → HasLengths bytes c p h → IsSheet s bytes → end_of s ≡ 86 + c + p + h
same_end s bytes c p h l is = let k = sized s bytes is in omega (arith, l.context, l.prefix, l.head, k.context, k.prefix, k.head)

pub is_clear : (s : SheetLists) (bytes part : List ℕ) (c p h : ℕ) → HasLengths bytes c p h → part ≡ bytes_at bytes (86 + c + p + h) (length bytes - 32 - (86 + c + p + h)) → length part ≡ length bytes - 32 - (86 + c + p + h) → IsSheet s bytes → part ≡ replicate (length part) zero
is_clear s bytes part c p h l e size is =
    let end : end_of s ≡ 86 + c + p + h = same_end s bytes c p h l is in
    e ∙ (ap (λ n. bytes_at bytes n (length bytes - 32 - n)) (sym end) ∙ (is.unused ∙ (ap (λ n. replicate (length bytes - 32 - n) zero) end ∙ ap (λ n. replicate n zero) (sym size))))

-- bytes one by one
four_from : (bytes : List ℕ) (at : ℕ) → at + 4 ≤ length bytes → bytes_at bytes at 4 ≡ get_or bytes (at + 0) 0 ∷ get_or bytes (at + 1) 0 ∷ get_or bytes (at + 2) 0 ∷ get_or bytes (at + 3) 0 ∷ []
four_from bytes at inside = fill_by_all (λ i. get_or bytes (at + i) 0) (bytes_at bytes at 4) 4 0 (size_at bytes at 4 inside) (λ k below. sym (byte_of bytes at 4 k below))

six_from : (bytes : List ℕ) → 86 ≤ length bytes → bytes_at bytes 80 6 ≡ get_or bytes 80 0 ∷ get_or bytes 81 0 ∷ get_or bytes 82 0 ∷ get_or bytes 83 0 ∷ get_or bytes 84 0 ∷ get_or bytes 85 0 ∷ []
six_from bytes inside = fill_by_all (λ i. get_or bytes (80 + i) 0) (bytes_at bytes 80 6) 6 0 (size_at bytes 80 6 (omega arith)) (λ k below. sym (byte_of bytes 80 6 k below))

four_same : (a b c d a' b' c' d' : ℕ) → a ≡ a' → b ≡ b' → c ≡ c' → d ≡ d' → Path (List ℕ) (a ∷ b ∷ c ∷ d ∷ []) (a' ∷ b' ∷ c' ∷ d' ∷ [])
four_same a b c d a' b' c' d' p q r s = cc

six_same : (a b c d e f a' b' c' d' e' f' : ℕ) → a ≡ a' → b ≡ b' → c ≡ c' → d ≡ d' → e ≡ e' → f ≡ f' → Path (List ℕ) (a ∷ b ∷ c ∷ d ∷ e ∷ f ∷ []) (a' ∷ b' ∷ c' ∷ d' ∷ e' ∷ f' ∷ [])
six_same a b c d e f a' b' c' d' e' f' p q r s t u = cc

-- what is read is a sheet
pub is_sheet : (s : SheetLists) (bytes free : List ℕ) (c p h : ℕ) → ((k : ℕ) → get_or bytes k 0 < 256) → IsNamed bytes → picture_coding_type s.pic ≡ get_or bytes 5 0 → s.flags ≡ get_or bytes 6 0
    → s.forward ≡ bytes_at bytes 8 32 → s.backward ≡ bytes_at bytes 40 32 → s.n1 < 2 ^ 32 → s.n2 < 2 ^ 32 → bytes_at bytes 72 4 ≡ four_bytes s.n1 → bytes_at bytes 76 4 ≡ four_bytes s.n2
    → HasLengths bytes c p h → 86 + c + p + h + 32 ≤ length bytes
    → s.context ≡ bytes_at bytes 86 c → length s.context ≡ c → s.prefix ≡ bytes_at bytes (86 + c) p → length s.prefix ≡ p → s.head ≡ bytes_at bytes (86 + c + p) h → length s.head ≡ h
    → free ≡ bytes_at bytes (86 + c + p + h) (length bytes - 32 - (86 + c + p + h)) → length free ≡ length bytes - 32 - (86 + c + p + h) → free ≡ replicate (length free) zero
    → IsSheet s bytes
is_sheet s bytes free c p h small n kind flags forward backward f1 f2 n1 n2 l room context context_size prefix prefix_size head head_size part part_size clear =
    let end : end_of s ≡ 86 + c + p + h = omega arith in
    record {
      fits = record {
        flags = (let f = small 6 in omega arith);
        forward = ap length forward ∙ size_at bytes 8 32 (omega arith);
        backward = ap length backward ∙ size_at bytes 40 32 (omega arith);
        n1 = f1;
        n2 = f2;
        context = omega (arith, small 80, small 81, l.context);
        prefix = omega (arith, small 82, small 83, l.prefix);
        head = omega (arith, small 84, small 85, l.head);
      };
      room = omega arith;
      name = four_from bytes 0 (omega arith) ∙ four_same _ _ _ _ 77 82 69 67 n.m n.r n.e n.c;
      kind = four_from bytes 4 (omega arith) ∙ four_same _ _ _ _ 1 (picture_coding_type s.pic) s.flags 0 n.version (sym kind) (sym flags) n.behind;
      forward = sym forward;
      backward = sym backward;
      n1 = n1;
      n2 = n2;
      lengths = six_from bytes (omega arith) ∙ six_same _ _ _ _ _ _ (length s.context / 256) (length s.context % 256) (length s.prefix / 256) (length s.prefix % 256) (length s.head / 256) (length s.head % 256)
          (omega (arith, small 80, small 81, l.context)) (omega (arith, small 80, small 81, l.context)) (omega (arith, small 82, small 83, l.prefix)) (omega (arith, small 82, small 83, l.prefix)) (omega (arith, small 84, small 85, l.head)) (omega (arith, small 84, small 85, l.head));
      context = ap (bytes_at bytes 86) context_size ∙ sym context;
      prefix = ap (λ k. bytes_at bytes (86 + k) (length s.prefix)) context_size ∙ (ap (bytes_at bytes (86 + c)) prefix_size ∙ sym prefix);
      head = ap (λ k. bytes_at bytes (86 + k + length s.prefix) (length s.head)) context_size ∙ (ap (λ k. bytes_at bytes (86 + c + k) (length s.head)) prefix_size ∙ (ap (bytes_at bytes (86 + c + p)) head_size ∙ sym head));
      unused = ap (λ k. bytes_at bytes k (length bytes - 32 - k)) end ∙ (sym part ∙ (clear ∙ (ap (λ k. replicate k zero) part_size ∙ ap (λ k. replicate (length bytes - 32 - k) zero) (sym end))));
    }
