-- Bytes are one sheet at most.
use Rattle.std.proofs.Common.{◌≡◌, ℕ, ◌+◌, ◌/◌, ◌%◌, ◌∙◌, List, length, get_or, arith, ap, refl, sym}
use Rattle.mv_terms.specs.declared.head.PicType.{PicType}
use Rattle.mv_terms.specs.declared.head.PicType.TheVariants as pic
use Rattle.mv_terms.specs.PicTypes.{picture_coding_type}
use Rattle.rec_sheet.specs.Sheets.{SheetLists, IsSheet, OneSheet, bytes_at, four_bytes}
use Rattle.rec_sheet.proofs.ReadLemmas.{byte_of, typed, sized}

same_type : (p q : PicType) → picture_coding_type p ≡ picture_coding_type q → p ≡ q
same_type pic.I pic.I e = refl
same_type pic.P pic.P e = refl
same_type pic.B pic.B e = refl
same_type pic.I pic.P e = absurd (omega arith)
same_type pic.I pic.B e = absurd (omega arith)
same_type pic.P pic.I e = absurd (omega arith)
same_type pic.P pic.B e = absurd (omega arith)
same_type pic.B pic.I e = absurd (omega arith)
same_type pic.B pic.P e = absurd (omega arith)

same_number : (m n : ℕ) → four_bytes m ≡ four_bytes n → m ≡ n
same_number m n e =
    let at : (i : ℕ) → get_or (four_bytes m) i 0 ≡ get_or (four_bytes n) i 0 = λ (i : ℕ). ap (λ xs. get_or xs i 0) e in
    let a : m / 16777216 ≡ n / 16777216 = at 0 in
    let b : m / 65536 % 256 ≡ n / 65536 % 256 = at 1 in
    let c : m / 256 % 256 ≡ n / 256 % 256 = at 2 in
    let d : m % 256 ≡ n % 256 = at 3 in
    omega arith

abbrev made : PicType → ℕ → List ℕ → List ℕ → ℕ → ℕ → List ℕ → List ℕ → List ℕ → SheetLists
made t f a b m n c p h = record { pic = t; flags = f; forward = a; backward = b; n1 = m; n2 = n; context = c; prefix = p; head = h }

same_lists : (t t' : PicType) (f f' : ℕ) (a a' b b' : List ℕ) (m m' n n' : ℕ) (c c' p p' h h' : List ℕ) → t ≡ t' → f ≡ f' → a ≡ a' → b ≡ b' → m ≡ m' → n ≡ n' → c ≡ c' → p ≡ p' → h ≡ h' → made t f a b m n c p h ≡ made t' f' a' b' m' n' c' p' h'
same_lists t t' f f' a a' b b' m m' n n' c c' p p' h h' p1 p2 p3 p4 p5 p6 p7 p8 p9 = cc

flags_at : (s : SheetLists) (bytes : List ℕ) → IsSheet s bytes → s.flags ≡ get_or bytes 6 0
flags_at s bytes is = sym (byte_of bytes 4 4 2 (omega arith) ∙ ap (λ xs. get_or xs 2 0) is.kind)

pub one_sheet : OneSheet
one_sheet s t bytes is it =
    let k = sized s bytes is in
    let l = sized t bytes it in
    let c : length s.context ≡ length t.context = omega (arith, k.context, l.context) in
    let p : length s.prefix ≡ length t.prefix = omega (arith, k.prefix, l.prefix) in
    let h : length s.head ≡ length t.head = omega (arith, k.head, l.head) in
    same_lists _ _ _ _ _ _ _ _ _ _ _ _ _ _ _ _ _ _
    (same_type s.pic t.pic (typed s bytes is ∙ sym (typed t bytes it)))
    (flags_at s bytes is ∙ sym (flags_at t bytes it))
    (sym is.forward ∙ it.forward) (sym is.backward ∙ it.backward)
    (same_number s.n1 t.n1 (sym is.n1 ∙ it.n1)) (same_number s.n2 t.n2 (sym is.n2 ∙ it.n2))
    (sym is.context ∙ (ap (bytes_at bytes 86) c ∙ it.context))
    (sym is.prefix ∙ (ap (λ n. bytes_at bytes (86 + n) (length s.prefix)) c ∙ (ap (bytes_at bytes (86 + length t.context)) p ∙ it.prefix)))
    (sym is.head ∙ (ap (λ n. bytes_at bytes (86 + n + length s.prefix) (length s.head)) c ∙ (ap (λ n. bytes_at bytes (86 + length t.context + n) (length s.head)) p ∙ (ap (bytes_at bytes (86 + length t.context + length t.prefix)) h ∙ it.head))))
