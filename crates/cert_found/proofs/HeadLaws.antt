-- What the headers of an accepted unit say, step by step, and what they leave in force.
use Rattle.std.proofs.Common.{◌≡◌, ℕ, Bool, true, false, ◌&&◌, ◌||◌, cond, eqb, List, [], ◌∷◌, length, Option, None, Some, Result, Ok, Err, refl, sym, ap, ◌∙◌, subst, inl, inr}
use Rattle.std.specs.Prelude.{is_some}
use Rattle.std.proofs.lemmas.Bool.{cases_Bool, and_parts, eqb-true, false≢true}
use Rattle.mv_terms.specs.declared.status.Why.{Why}
use Rattle.mv_terms.specs.declared.status.Why.TheVariants.{BadHead, BadOrder, Unsupported}
use Rattle.mv_terms.specs.Unsupported as unsupported
use Rattle.mv_terms.specs.declared.head.PicType.{PicType}
use Rattle.mv_terms.specs.declared.head.PicType.TheVariants as pic
use Rattle.mv_terms.specs.declared.head.Context.{Context}
use Rattle.mv_terms.specs.declared.head.Head.{Head}
use Rattle.mv_terms.specs.UnitLists.{UnitLists}
use Rattle.mv_bits.specs.Elements.{Cut, cut, code}
use Rattle.mv_bits.specs.StartCodes.{is_carried, are_head}
use Rattle.mv_bits.specs.StartCodes as codes
use Rattle.std.specs.List.{list_all}
use Rattle.mv_bits.specs.Reader.{test, whole}
use Rattle.mv_heads.specs.declared.sequence_header.SequenceHeader.{SequenceHeader}
use Rattle.mv_heads.specs.declared.sequence_header.CodedSize.{CodedSize}
use Rattle.mv_heads.specs.declared.picture_header.PictureHeader.{PictureHeader}
use Rattle.mv_heads.specs.declared.picture.InForce.{InForce}
use Rattle.mv_heads.specs.declared.picture.PictureHead.{PictureHead}
use Rattle.mv_heads.specs.declared.head_state.Heads.{Heads}
use Rattle.mv_heads.specs.declared.head_state.Accepted.{Accepted}
use Rattle.mv_heads.specs.Headers.{coded_size, is_same_flag, keeps_size, sequence_header, sequence_extension, picture_header, picture_coding_extension, quant_matrix_extension}
use Rattle.mv_heads.specs.HeadElements.{◌>>=◌, begins_sequence, bits, extended_picture, extended_sequence, extends, extension_id, further_of_picture, further_of_sequence, further_picture_extension, head_from, head_of, is_extension_of, picture, picture_coding_extension_id, picture_of, picture_spatial_scalable_extension_id, picture_temporal_scalable_extension_id, quant_matrix_extension_id, sequence, sequence_matrices}
use Rattle.mv_heads.specs.HeadsInTurn.{after, behind_picture, behind_prefix, first_size, may_come, sequence_in}
use Rattle.mv_heads.proofs.FirstSizeLaws.{bind_ok, ok_is}
use Rattle.cert_found.proofs.RangeLaws.{check_ok, where_ok}

-- ---- the steps

test_true : (b : Bool) (why : Why) (x : Unit {0}) → test b why ≡ Ok x → b ≡ true
unfolding test
test_true true why x is = refl
test_true false why x is = absurd cc

pub record Passed (part : Bool) (h : Heads) (p : PictureHead) (a : Accepted) : Type 0 where
  pub comes : may_come p.head.pic part h.context.low_delay h.b_pictures ≡ true
  pub head : a.head ≡ p.head
  pub first : a.heads.first ≡ h.first
  pub context : a.heads.context ≡ h.context
  pub in_force : a.heads.in_force ≡ p.in_force

passed : (part : Bool) (h : Heads) (p : PictureHead) (a : Accepted) → behind_picture part h p ≡ Ok a → Passed part h p a
unfolding behind_picture
passed part h p a is =
    let tested = bind_ok (test (may_come p.head.pic part h.context.low_delay h.b_pictures) BadOrder) _ a is in
    let same = sym (ok_is {W = Why} _ a tested.2) in
    record {
      comes = test_true (may_come p.head.pic part h.context.low_delay h.b_pictures) BadOrder tested.0 tested.1;
      head = ap (λ (x : Accepted). x.head) same;
      first = ap (λ (x : Accepted). x.heads.first) same;
      context = ap (λ (x : Accepted). x.heads.context) same;
      in_force = ap (λ (x : Accepted). x.heads.in_force) same;
    }

-- what an accepted unit was read as
pub record IsReadAs (before : Option Heads) (unit : UnitLists) (a : Accepted) : Type 0 where
  pub context : Option Context
  pub heads : Heads
  pub picture : PictureHead
  pub says : sequence_in (first_size before) (cut unit.prefix).elements ≡ Ok context
  pub behind : behind_prefix before context ≡ Ok heads
  pub reads : picture_of heads.context heads.in_force (cut unit.head) ≡ Ok picture
  pub passed : Passed (is_some context) heads picture a

pub read_as : (before : Option Heads) (unit : UnitLists) (a : Accepted) → after before unit ≡ Ok a → IsReadAs before unit a
unfolding after
read_as before unit a is =
    let context = bind_ok (sequence_in (first_size before) (cut unit.prefix).elements) _ a is in
    let heads = bind_ok (behind_prefix before context.0) _ a context.2 in
    let picture = bind_ok (picture_of heads.0.context heads.0.in_force (cut unit.head)) _ a heads.2 in
    record {
      context = context.0;
      heads = heads.0;
      picture = picture.0;
      says = context.1;
      behind = heads.1;
      reads = picture.1;
      passed = passed (is_some context.0) heads.0 picture.0 a picture.2;
    }

-- ---- the size of a sequence part

extension_keeps : (first : Option CodedSize) (h : SequenceHeader) (bits : List Bool) (c : Context) → whole (sequence_extension first h) bits ≡ Ok c → keeps_size first (coded_size c) ≡ true
unfolding sequence_extension
extension_keeps first h bits c is =
    let m = check_ok _ _ _ _ c is in
    let e = check_ok _ _ _ _ c m.1 in
    let f = check_ok _ _ _ _ c e.1 in
    let s = check_ok _ _ _ _ c f.1 in
    let l = check_ok _ _ _ _ c s.1 in
    let k = check_ok _ _ _ _ c l.1 in
    ap (λ (x : Context). keeps_size first (coded_size x)) (sym (ok_is {W = Why} _ c k.1)) ∙ k.0

extended_keeps : (first : Option CodedSize) (header : SequenceHeader) (elements : List (List ℕ)) (c : Context) → extended_sequence first header elements ≡ Ok c → keeps_size first (coded_size c) ≡ true
unfolding extended_sequence
extended_keeps first header [] c e = absurd cc
extended_keeps first header (element ∷ others) c e =
    let a = where_ok _ _ _ c e in
    let b = bind_ok (whole (sequence_extension first header) (bits element)) _ c a in
    let d = bind_ok (further_of_sequence others) _ c b.2 in
    ap (λ (x : Context). keeps_size first (coded_size x)) (sym (ok_is {W = Why} b.0 c d.2)) ∙ extension_keeps first header (bits element) b.0 b.1

sequence_keeps : (first : Option CodedSize) (elements : List (List ℕ)) (c : Context) → sequence first elements ≡ Ok c → keeps_size first (coded_size c) ≡ true
unfolding sequence
sequence_keeps first [] c e = absurd cc
sequence_keeps first (element ∷ others) c e =
    let b = bind_ok (whole sequence_header (bits element)) _ c e in
    extended_keeps first b.0 others c b.2

-- what the sequence part of a prefix says, where there is one
KeepsSize : Option CodedSize → Option Context → Type 0
KeepsSize first None = Unit {0}
KeepsSize first (Some c) = keeps_size first (coded_size c) ≡ true

part_is : (elements : List (List ℕ)) (first : Option CodedSize) (context : Option Context) → sequence_in first elements ≡ Ok context → KeepsSize first context × (is_some context ≡ false → begins_sequence elements ≡ false)
unfolding sequence_in KeepsSize
part_is elements first None is =
    elim (cases_Bool (begins_sequence elements)) [
      | inl begins ↦
          let h : (sequence first elements >>= (λ c. Ok (Some c))) ≡ Ok None = rw begins at is in
          let b = bind_ok (sequence first elements) (λ c. Ok (Some c)) None h in
          absurd (let never : Some b.0 ≡ None = ok_is {W = Why} (Some b.0) None b.2 in cc)
      | inr none ↦ (tt, λ e. none)
    ]
part_is elements first (Some c) is =
    elim (cases_Bool (begins_sequence elements)) [
      | inl begins ↦
          let h : (sequence first elements >>= (λ c. Ok (Some c))) ≡ Ok (Some c) = rw begins at is in
          let b = bind_ok (sequence first elements) (λ c. Ok (Some c)) (Some c) h in
          let same : Some b.0 ≡ Some c = ok_is {W = Why} (Some b.0) (Some c) b.2 in
          let kept : b.0 ≡ c = cc in
          (ap (λ (x : Context). keeps_size first (coded_size x)) (sym kept) ∙ sequence_keeps first elements b.0 b.1, λ e. absurd (false≢true (sym e)))
      | inr none ↦ absurd (let never : Ok None ≡ Ok (Some c) = rw none at is in cc)
    ]

same_size : (a b : CodedSize) → keeps_size (Some a) b ≡ true → b ≡ a
unfolding keeps_size
same_size a b e =
    let both = and_parts (eqb a.mb_wide b.mb_wide && eqb a.mb_high b.mb_high) (is_same_flag a.progressive b.progressive) e in
    let sides = and_parts (eqb a.mb_wide b.mb_wide) (eqb a.mb_high b.mb_high) both.0 in
    let wide = sym (eqb-true a.mb_wide b.mb_wide sides.0) in
    let high = sym (eqb-true a.mb_high b.mb_high sides.1) in
    let scan = same_flag a.progressive b.progressive both.1 in
    λ i. record { mb_wide = wide i; mb_high = high i; progressive = scan i }
  where
    same_flag : (p q : Bool) → is_same_flag p q ≡ true → q ≡ p
    same_flag true true e = refl
    same_flag false false e = refl
    same_flag true false e = absurd (false≢true e)
    same_flag false true e = absurd (false≢true e)

-- ---- what is in force

-- The context has the size of the first unit, and the matrices in force are its own unless a quant matrix extension came.
pub record IsPlain (h : Heads) : Type 0 where
  pub size : coded_size h.context ≡ h.first
  pub plain : h.in_force.extended ≡ false → h.in_force ≡ sequence_matrices h.context

plain_prefix : (before : Option Heads) (context : Option Context) (heads : Heads) → KeepsSize (first_size before) context → behind_prefix before context ≡ Ok heads → ((x : Heads) → before ≡ Some x → IsPlain x) → IsPlain heads
unfolding behind_prefix KeepsSize
plain_prefix None None heads keeps is plain = absurd cc
plain_prefix None (Some c) heads keeps is plain = subst IsPlain (ok_is {W = Why} _ heads is) (record { size = refl; plain = λ e. refl })
plain_prefix (Some x) None heads keeps is plain = subst IsPlain (ok_is {W = Why} x heads is) (plain x refl)
plain_prefix (Some x) (Some c) heads keeps is plain = subst IsPlain (ok_is {W = Why} _ heads is) (record { size = same_size x.first (coded_size c) keeps; plain = λ e. refl })

-- ---- what a head leaves in force

last_ok : {A : Type 0} (p : Bool) (why : Why) (n : Result A Why) (y : A) → cond p (Err why) n ≡ Ok y → n ≡ Ok y
last_ok true why n y e = absurd cc
last_ok false why n y e = e

none_of : (a b : Bool) → a ≡ false → b ≡ false → (a || b) ≡ false
none_of false b e f = f
none_of true b e f = absurd (false≢true (sym e))

one_further : (before : InForce) (element : List ℕ) (now : InForce) → further_picture_extension before element ≡ Ok now → now.extended ≡ false → (now ≡ before) × (is_extension_of quant_matrix_extension_id element ≡ false)
unfolding further_picture_extension
one_further before element now is none =
    let spatial : Bool = is_extension_of picture_spatial_scalable_extension_id element in
    let temporal : Bool = is_extension_of picture_temporal_scalable_extension_id element in
    elim (cases_Bool (is_extension_of quant_matrix_extension_id element)) [
      | inl quant ↦
          let b = bind_ok (whole (quant_matrix_extension before.matrices) (bits element)) (λ m. Ok (record { matrices = m; extended = true })) now (rw quant at is) in
          let set : true ≡ now.extended = ap (λ (x : InForce). x.extended) (ok_is {W = Why} _ now b.2) in
          absurd (false≢true (sym (set ∙ none)))
      | inr other ↦
          let a = last_ok (is_extension_of picture_coding_extension_id element) BadHead _ now (rw other at is) in
          (sym (ok_is {W = Why} before now (last_ok (spatial || temporal) (Unsupported unsupported.scalable_extension) _ now a)), other)
    ]

further : (before : InForce) (elements : List (List ℕ)) (now : InForce) → further_of_picture before elements ≡ Ok now → now.extended ≡ false → (now ≡ before) × (extends elements ≡ false)
unfolding further_of_picture
further before [] now is none = (sym (ok_is {W = Why} before now is), refl)
further before (element ∷ others) now is none =
    let b = bind_ok (further_picture_extension before element) (λ (x : InForce). further_of_picture x others) now is in
    let later = further b.0 others now b.2 none in
    let here = one_further before element b.0 b.1 (sym (ap (λ (x : InForce). x.extended) later.0) ∙ none) in
    (later.0 ∙ here.0, none_of (is_extension_of quant_matrix_extension_id element) (extends others) here.1 later.1)

and_false : (a : Bool) → (a && false) ≡ false
and_false true = refl
and_false false = refl

other_kind : (element : List ℕ) → is_extension_of picture_coding_extension_id element ≡ true → is_extension_of quant_matrix_extension_id element ≡ false
other_kind element is =
    let both = and_parts (eqb (code element) codes.extension) (eqb (extension_id element) picture_coding_extension_id) is in
    let id = eqb-true (extension_id element) picture_coding_extension_id both.1 in
    ap (λ (n : ℕ). eqb (code element) codes.extension && eqb n quant_matrix_extension_id) id ∙ and_false (eqb (code element) codes.extension)

-- what a head says, and what it leaves in force
pub record LeavesInForce (c : Context) (before : InForce) (elements : List (List ℕ)) (p : PictureHead) : Type 0 where
  pub wide : p.head.mb_wide ≡ c.mb_wide
  pub high : p.head.mb_high ≡ c.mb_high
  pub kept : p.in_force.extended ≡ false → (p.in_force ≡ before) × (extends elements ≡ false)

extended_leaves : (c : Context) (before : InForce) (header : PictureHeader) (elements : List (List ℕ)) (p : PictureHead) → extended_picture c before header elements ≡ Ok p → LeavesInForce c before elements p
unfolding extended_picture
extended_leaves c before header [] p is = absurd cc
extended_leaves c before header (element ∷ others) p is =
    elim (cases_Bool (is_extension_of picture_coding_extension_id element)) [
      | inr other ↦ absurd (let never : Err BadHead ≡ Ok p = rw other at is in cc)
      | inl kind ↦
          let b = bind_ok (whole (picture_coding_extension header.pic) (bits element)) _ p (where_ok _ _ _ p is) in
          let d = bind_ok (further_of_picture before others) _ p b.2 in
          let same = ok_is {W = Why} (record { head = head_from c d.0 header b.0; in_force = d.0 }) p d.2 in
          let in_force : d.0 ≡ p.in_force = ap (λ (x : PictureHead). x.in_force) same in
          record {
            wide = sym (ap (λ (x : PictureHead). x.head.mb_wide) same);
            high = sym (ap (λ (x : PictureHead). x.head.mb_high) same);
            kept = λ e. let f = further before others d.0 d.1 (ap (λ (x : InForce). x.extended) in_force ∙ e) in
                (sym in_force ∙ f.0, none_of (is_extension_of quant_matrix_extension_id element) (extends others) (other_kind element kind) f.1);
          }
    ]

picture_leaves : (c : Context) (before : InForce) (elements : List (List ℕ)) (p : PictureHead) → are_head elements ≡ true → picture c before elements ≡ Ok p → LeavesInForce c before elements p
unfolding picture
picture_leaves c before [] p are is = absurd cc
picture_leaves c before (element ∷ others) p are is =
    let both = and_parts (eqb (code element) codes.picture) (list_all is_carried others) are in
    let own = eqb-true (code element) codes.picture both.0 in
    let none : is_extension_of quant_matrix_extension_id element ≡ false = ap (λ (n : ℕ). eqb n codes.extension && eqb (extension_id element) quant_matrix_extension_id) own in
    let b = bind_ok (whole picture_header (bits element)) _ p is in
    let l = extended_leaves c before b.0 others p b.2 in
    record {
      wide = l.wide;
      high = l.high;
      kept = λ e. let k = l.kept e in (k.0, none_of (is_extension_of quant_matrix_extension_id element) (extends others) none k.1);
    }

pub leaves_in_force : (c : Context) (before : InForce) (d : Cut) (p : PictureHead) → picture_of c before d ≡ Ok p → LeavesInForce c before d.elements p
unfolding picture_of
leaves_in_force c before d p is =
    elim (cases_Bool (eqb (length d.front) 0 && are_head d.elements)) [
      | inl are ↦
          let both = and_parts (eqb (length d.front) 0) (are_head d.elements) are in
          picture_leaves c before d.elements p both.1 (where_ok _ _ _ p is)
      | inr other ↦ absurd (let never : Err BadOrder ≡ Ok p = rw other at is in cc)
    ]

-- ---- a unit behind others

-- the head of a unit reads directly behind its sequence part, and has no quant matrix extension
pub record IsReadAlone (head : List ℕ) (a : Accepted) : Type 0 where
  pub reads : head_of a.heads.context (cut head) ≡ Ok a.head
  pub not_extended : extends (cut head).elements ≡ false

-- The context of a unit has the size of the first one, and its picture that of the context. Under no quant matrix
-- extension its head reads alone. A B picture comes without a sequence part, and never first.
pub record HasHeads (before : Option Heads) (unit : UnitLists) (a : Accepted) : Type 0 where
  pub plain : IsPlain a.heads
  pub wide : a.head.mb_wide ≡ a.heads.context.mb_wide
  pub high : a.head.mb_high ≡ a.heads.context.mb_high
  pub alone : a.heads.in_force.extended ≡ false → IsReadAlone unit.head a
  pub no_part : a.head.pic ≡ pic.B → begins_sequence (cut unit.prefix).elements ≡ false
  pub delay : a.head.pic ≡ pic.B → a.heads.context.low_delay ≡ false
  pub not_first : a.head.pic ≡ pic.B → is_some before ≡ true

b_comes : (t : PicType) (part delay : Bool) (n : ℕ) → t ≡ pic.B → may_come t part delay n ≡ true → (part ≡ false) × (delay ≡ false)
unfolding may_come
b_comes pic.B false false n e h = (refl, refl)
b_comes pic.B true delay n e h = absurd cc
b_comes pic.B false true n e h = absurd cc
b_comes pic.I part delay n e h = absurd cc
b_comes pic.P part delay n e h = absurd cc

behind_none : (before : Option Heads) (context : Option Context) (heads : Heads) → behind_prefix before context ≡ Ok heads → is_some context ≡ false → is_some before ≡ true
unfolding behind_prefix
behind_none (Some x) context heads is e = refl
behind_none None None heads is e = absurd cc
behind_none None (Some c) heads is e = absurd (false≢true (sym e))

head_alone : (c : Context) (f : InForce) (d : Cut) (p : PictureHead) → picture_of c f d ≡ Ok p → f ≡ sequence_matrices c → head_of c d ≡ Ok p.head
unfolding head_of
head_alone c f d p is own =
    ap (λ (r : Result PictureHead Why). r >>= (λ p. Ok p.head)) (ap (λ (x : InForce). picture_of c x d) (sym own) ∙ is)

pub has_heads : (before : Option Heads) (unit : UnitLists) (a : Accepted) → after before unit ≡ Ok a → ((x : Heads) → before ≡ Some x → IsPlain x) → HasHeads before unit a
has_heads before unit a is plain =
    let r = read_as before unit a is in
    let part = part_is (cut unit.prefix).elements (first_size before) r.context r.says in
    let behind = plain_prefix before r.context r.heads part.0 r.behind plain in
    let leaves = leaves_in_force r.heads.context r.heads.in_force (cut unit.head) r.picture r.reads in
    let p = r.passed in
    let none : a.heads.in_force.extended ≡ false → r.picture.in_force.extended ≡ false = λ e. sym (ap (λ (x : InForce). x.extended) p.in_force) ∙ e in
    let own : a.heads.in_force.extended ≡ false → r.heads.in_force ≡ sequence_matrices r.heads.context = λ e.
    let k = leaves.kept (none e) in behind.plain (sym (ap (λ (x : InForce). x.extended) k.0) ∙ none e) in
    let comes : a.head.pic ≡ pic.B → (is_some r.context ≡ false) × (r.heads.context.low_delay ≡ false) = λ e.
    b_comes r.picture.head.pic (is_some r.context) r.heads.context.low_delay r.heads.b_pictures (sym (ap (λ (h : Head). h.pic) p.head) ∙ e) p.comes in
    record {
      plain = record {
        size = ap coded_size p.context ∙ behind.size ∙ sym p.first;
        plain = λ e. p.in_force ∙ (leaves.kept (none e)).0 ∙ own e ∙ ap sequence_matrices (sym p.context);
      };
      wide = ap (λ (h : Head). h.mb_wide) p.head ∙ leaves.wide ∙ ap (λ (c : Context). c.mb_wide) (sym p.context);
      high = ap (λ (h : Head). h.mb_high) p.head ∙ leaves.high ∙ ap (λ (c : Context). c.mb_high) (sym p.context);
      alone = λ e. record {
        reads = ap (λ (c : Context). head_of c (cut unit.head)) p.context
            ∙ head_alone r.heads.context r.heads.in_force (cut unit.head) r.picture r.reads (own e)
            ∙ ap (λ (h : Head). Ok h) (sym p.head);
        not_extended = (leaves.kept (none e)).1;
      };
      no_part = λ e. part.1 (comes e).0;
      delay = λ e. ap (λ (c : Context). c.low_delay) p.context ∙ (comes e).1;
      not_first = λ e. behind_none before r.context r.heads r.behind (comes e).0;
    }
