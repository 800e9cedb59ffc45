-- The tests of flags and headers tell whether the conditions hold.
use Rattle.std.proofs.Common.{◌≡◌, ℕ, ◌∙◌, Bool, true, false, cond, not, ◌&&◌, eqb, List, [], ◌∷◌, length, Option, Some, None, Result, Ok, Err, refl, sym, ap, arith}
use Rattle.std.specs.Bool.{Decides}
use Rattle.std.specs.Prelude.{IfSome, is_some}
use Rattle.std.specs.Str.{bytes_eq}
use Rattle.std.proofs.lemmas.Bool.{false≢true}
use Rattle.std.proofs.lemmas.Bool.Decides.{Decides-and, Decides-or, Decides-like, Decides-eqb}
use Rattle.std.proofs.lemmas.Slice.Eq.{bytes_eq-Decides}
use Rattle.mv_terms.specs.declared.status.Why.{Why}
use Rattle.mv_terms.specs.declared.head.PicType.{PicType}
use Rattle.mv_terms.specs.declared.head.PicType.TheVariants as pic
use Rattle.mv_terms.specs.declared.head.Context.{Context}
use Rattle.mv_terms.specs.declared.head.Head.{Head}
use Rattle.mv_terms.specs.declared.macroblock.Decision.{Decision}
use Rattle.mv_terms.specs.PicTypes.{is_b}
use Rattle.mv_bits.specs.Elements.{Cut, cut}
use Rattle.mv_bits.specs.Reader.{whole}
use Rattle.mv_heads.specs.declared.sequence_header.CodedSize.{CodedSize}
use Rattle.mv_heads.specs.declared.picture.InForce.{InForce}
use Rattle.mv_heads.specs.declared.picture.PictureHead.{PictureHead}
use Rattle.mv_heads.specs.declared.picture_header.PictureHeader.{PictureHeader}
use Rattle.mv_heads.specs.Headers.{coded_size, is_same_size, picture_header, picture_coding_extension}
use Rattle.mv_heads.specs.HeadElements.{bits, context_of, head_of, head_from, extends, is_prefix, sequence_bytes, picture_of, picture, extended_picture, further_of_picture, sequence_matrices}
use Rattle.mv_heads.proofs.FirstSizeLaws.{bind_ok, ok_is}
use Rattle.rec_slot.specs.Directions.{uses_forward}
use Rattle.rec_sheet.specs.Sheets.{SheetLists}
use Rattle.rec_legal.specs.Conditions.{has_flag, uses_forward_flag, forward_link_flag, backward_link_flag, end_code_flag, HasLinksOf, no_link, HasLegalFlags, HasLegalPrefix, CanBeB}
use Rattle.rec_legal.specs.Tests.{has_links_of, has_legal_flags, is_same_part, has_legal_prefix, is_same_type, may_be, is_head_of}
use Rattle.rec_legal.specs.Said.{of_size, of_sheet, context_said, head_said}
use Rattle.rec_legal.proofs.OptionLemmas.{none_some, when_some, when_true}
use Rattle.rec_legal.proofs.DecideLemmas.{itself, flag_decides, not_decides, unless_decides, where_decides, le_decides, lt_decides}

-- ---- flags

links_decide : (p : PicType) (s : SheetLists) → Decides (has_links_of p s) (HasLinksOf p s)
links_decide pic.I s = Decides-and _ _ (not_decides (has_flag s forward_link_flag)) (not_decides (has_flag s backward_link_flag))
links_decide pic.P s = not_decides (has_flag s backward_link_flag)
links_decide pic.B s = (λ e. e, λ e. e)

pub flags_decide : (s : SheetLists) (ds : List Decision) → Decides (has_legal_flags s ds) (HasLegalFlags s ds)
flags_decide s ds =
    let known = lt_decides s.flags 32 in
    let uses = flag_decides (has_flag s uses_forward_flag) (uses_forward s.pic ds) in
    let links = links_decide s.pic s in
    let forward = unless_decides (has_flag s forward_link_flag) (bytes_eq s.forward no_link) (bytes_eq-Decides s.forward no_link) in
    let backward = unless_decides (has_flag s backward_link_flag) (bytes_eq s.backward no_link) (bytes_eq-Decides s.backward no_link) in
    let end = unless_decides (has_flag s end_code_flag) (eqb s.n2 0) (Decides-eqb s.n2 0) in
    let n1 = le_decides s.n1 16777215 in
    let n2 = le_decides s.n2 16777215 in
    let all = Decides-and _ _ (Decides-and _ _ (Decides-and _ _ (Decides-and _ _ known uses) links) (Decides-and _ _ (Decides-and _ _ forward backward) end)) (Decides-and _ _ n1 n2) in
    Decides-like (has_legal_flags s ds)
    (λ e. record { known = e.0.0.0.0; uses = e.0.0.0.1; links = e.0.0.1; no_forward = e.0.1.0.0; no_backward = e.0.1.0.1; n1 = e.1.0; n2 = e.1.1; no_end = e.0.1.1 })
    (λ l. ((((l.known, l.uses), l.links), ((l.no_forward, l.no_backward), l.no_end)), (l.n1, l.n2)))
    all

-- ---- the prefix

part_decides : (part : Option (List ℕ)) (context : List ℕ) → Decides (is_same_part part context) (IfSome part (λ p. p ≡ context))
part_decides None context = (λ e. tt, λ e. refl)
part_decides (Some p) context = bytes_eq-Decides p context

nothing_is : (xs : List ℕ) → length xs ≡ 0 → xs ≡ []
nothing_is [] e = refl
nothing_is (x ∷ xs) e = absurd (omega (arith, e))

empty_decides : (xs : List ℕ) → Decides (eqb (length xs) 0) (xs ≡ [])
empty_decides xs = Decides-like (eqb (length xs) 0) (nothing_is xs) (λ e. ap (λ (ys : List ℕ). length ys) e) (Decides-eqb (length xs) 0)

pub prefix_decides : (s : SheetLists) → Decides (has_legal_prefix s) (HasLegalPrefix s)
prefix_decides s =
    Decides-like (has_legal_prefix s) (λ e. record { shape = e.0; same = e.1 }) (λ l. (l.shape, l.same))
    (Decides-and _ _ (Decides-or _ _ (empty_decides s.prefix) (itself (is_prefix (cut s.prefix)))) (part_decides (sequence_bytes s.prefix) s.context))

-- ---- the context

size_decides : (a b : CodedSize) → Decides (is_same_size a b) (a ≡ b)
size_decides a b =
    Decides-like (is_same_size a b) (λ e i. record { mb_wide = e.0.0 i; mb_high = e.0.1 i; progressive = e.1 i })
    (λ e. ((ap (λ (x : CodedSize). x.mb_wide) e, ap (λ (x : CodedSize). x.mb_high) e), ap (λ (x : CodedSize). x.progressive) e))
    (Decides-and _ _ (Decides-and _ _ (Decides-eqb a.mb_wide b.mb_wide) (Decides-eqb a.mb_high b.mb_high)) (flag_decides a.progressive b.progressive))

of_size_is : (size : CodedSize) (r : Result Context Why) (c : Context) → of_size size r ≡ Some c → (r ≡ Ok c) × (coded_size c ≡ size)
of_size_is size (Ok x) c e =
    let w = when_some (is_same_size (coded_size x) size) x c e in
    (ap (λ (y : Context). Ok y) w.1, sym (ap coded_size w.1) ∙ (size_decides (coded_size x) size).0 w.0)
of_size_is size (Err why) c e = absurd (none_some c e)

pub context_is : (size : CodedSize) (s : SheetLists) (c : Context) → context_said size s ≡ Some c → (context_of (cut s.context) ≡ Ok c) × (coded_size c ≡ size)
unfolding context_said
context_is size s c e = of_size_is size (context_of (cut s.context)) c e

pub context_from : (size : CodedSize) (s : SheetLists) (c : Context) → context_of (cut s.context) ≡ Ok c → coded_size c ≡ size → context_said size s ≡ Some c
unfolding context_said
context_from size s c e same = ap (of_size size) e ∙ when_true (is_same_size (coded_size c) size) c ((size_decides (coded_size c) size).1 same)

-- ---- the head

type_decides : (p q : PicType) → Decides (is_same_type p q) (p ≡ q)
type_decides pic.I pic.I = (λ e. refl, λ e. refl)
type_decides pic.P pic.P = (λ e. refl, λ e. refl)
type_decides pic.B pic.B = (λ e. refl, λ e. refl)
type_decides pic.I pic.P = (λ e. absurd (false≢true e), λ e. absurd cc)
type_decides pic.I pic.B = (λ e. absurd (false≢true e), λ e. absurd cc)
type_decides pic.P pic.I = (λ e. absurd (false≢true e), λ e. absurd cc)
type_decides pic.P pic.B = (λ e. absurd (false≢true e), λ e. absurd cc)
type_decides pic.B pic.I = (λ e. absurd (false≢true e), λ e. absurd cc)
type_decides pic.B pic.P = (λ e. absurd (false≢true e), λ e. absurd cc)

b_decides : (p : PicType) → Decides (is_b p) (p ≡ pic.B)
b_decides pic.B = (λ e. refl, λ e. refl)
b_decides pic.I = (λ e. absurd (false≢true e), λ e. absurd cc)
b_decides pic.P = (λ e. absurd (false≢true e), λ e. absurd cc)

may_decides : (p : PicType) (s : SheetLists) (c : Context) → Decides (may_be p s c) (p ≡ pic.B → CanBeB s c)
may_decides p s c =
    where_decides (is_b p) (not (is_some (sequence_bytes s.prefix)) && not c.low_delay) (b_decides p)
    (Decides-like _ (λ e. record { no_part = e.0; delay = e.1 }) (λ l. (l.no_part, l.delay)) (Decides-and _ _ (not_decides (is_some (sequence_bytes s.prefix))) (not_decides c.low_delay)))

-- what is asked of a head
pub record IsHeadOf (s : SheetLists) (c : Context) (h : Head) : Type 0 where
  pub reads : head_of c (cut s.head) ≡ Ok h
  pub not_extended : extends (cut s.head).elements ≡ false
  pub same_type : h.pic ≡ s.pic
  pub b : h.pic ≡ pic.B → CanBeB s c

head_decides : (s : SheetLists) (c : Context) (h : Head) → Decides (is_head_of s c h) (((extends (cut s.head).elements ≡ false) × (h.pic ≡ s.pic)) × (h.pic ≡ pic.B → CanBeB s c))
head_decides s c h = Decides-and _ _ (Decides-and _ _ (not_decides (extends (cut s.head).elements)) (type_decides h.pic s.pic)) (may_decides h.pic s c)

of_sheet_is : (s : SheetLists) (c : Context) (r : Result Head Why) (h : Head) → of_sheet s c r ≡ Some h → (r ≡ Ok h) × (is_head_of s c h ≡ true)
of_sheet_is s c (Ok x) h e =
    let w = when_some (is_head_of s c x) x h e in
    (ap (λ (y : Head). Ok y) w.1, sym (ap (is_head_of s c) w.1) ∙ w.0)
of_sheet_is s c (Err why) h e = absurd (none_some h e)

pub head_is : (s : SheetLists) (c : Context) (h : Head) → head_said s c ≡ Some h → IsHeadOf s c h
unfolding head_said
head_is s c h e =
    let w = of_sheet_is s c (head_of c (cut s.head)) h e in
    let t = (head_decides s c h).0 w.1 in
    record { reads = w.0; not_extended = t.0.0; same_type = t.0.1; b = t.1 }

pub head_back : (s : SheetLists) (c : Context) (h : Head) → IsHeadOf s c h → head_said s c ≡ Some h
unfolding head_said
head_back s c h is = ap (of_sheet s c) is.reads ∙ when_true (is_head_of s c h) h ((head_decides s c h).1 ((is.not_extended, is.same_type), is.b))

-- ---- its size

-- the size of a head is that of its context
HasSizeOf : Context → Head → Type 0
HasSizeOf c h = (h.mb_wide ≡ c.mb_wide) × (h.mb_high ≡ c.mb_high)

pub where_ok : {A : Type 0} (b : Bool) (m : Result A Why) (why : Why) (y : A) → cond b m (Err why) ≡ Ok y → m ≡ Ok y
where_ok true m why y e = e
where_ok false m why y e = absurd cc

extended_size : (c : Context) (in_force : InForce) (header : PictureHeader) (elements : List (List ℕ)) (p : PictureHead) → extended_picture c in_force header elements ≡ Ok p → HasSizeOf c p.head
unfolding extended_picture HasSizeOf
extended_size c in_force header [] p e = absurd cc
extended_size c in_force header (element ∷ others) p e =
    let a = where_ok _ _ _ p e in
    let b = bind_ok (whole (picture_coding_extension header.pic) (bits element)) _ p a in
    let d = bind_ok (further_of_picture in_force others) _ p b.2 in
    let same = ok_is {W = Why} (record { head = head_from c d.0 header b.0; in_force = d.0 }) p d.2 in
    (sym (ap (λ (x : PictureHead). x.head.mb_wide) same), sym (ap (λ (x : PictureHead). x.head.mb_high) same))

picture_size : (c : Context) (in_force : InForce) (elements : List (List ℕ)) (p : PictureHead) → picture c in_force elements ≡ Ok p → HasSizeOf c p.head
unfolding picture
picture_size c in_force [] p e = absurd cc
picture_size c in_force (element ∷ others) p e =
    let b = bind_ok (whole picture_header (bits element)) _ p e in
    extended_size c in_force b.0 others p b.2

pub head_size : (c : Context) (d : Cut) (h : Head) → head_of c d ≡ Ok h → (h.mb_wide ≡ c.mb_wide) × (h.mb_high ≡ c.mb_high)
unfolding head_of picture_of HasSizeOf
head_size c d h e =
    let b = bind_ok (picture_of c (sequence_matrices c) d) (λ p. Ok p.head) h e in
    let same = ok_is {W = Why} b.0.head h b.2 in
    let size = picture_size c (sequence_matrices c) d.elements b.0 (where_ok _ _ _ b.0 b.1) in
    (sym (ap (λ (x : Head). x.mb_wide) same) ∙ size.0, sym (ap (λ (x : Head). x.mb_high) same) ∙ size.1)
