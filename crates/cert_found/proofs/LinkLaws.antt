-- The links of a unit behind others, and its flags.
use Rattle.std.proofs.Common.{◌≡◌, ℕ, ◌+◌, ◌*◌, ◌/◌, ◌%◌, ◌<◌, ◌≤◌, Bool, true, false, eqb, List, [], ◌∷◌, Option, None, Some, option_map, refl, sym, ap, ◌∙◌, arith, inl, inr}
use Rattle.std.specs.Prelude.{is_some, IfSome, filter, if◌then◌else◌, unwrap_or}
use Rattle.std.specs.List.{AllByRecursion}
use Rattle.std.proofs.lemmas.Bool.{cases_Bool, false≢true}
use Rattle.sha2.specs.Sha256.{sha256}
use Rattle.sha2.proofs.Facts256.{length-sha256}
use Rattle.mv_terms.specs.Order.{anchors, first, second, forward_reference, backward_reference}
use Rattle.mv_terms.specs.PicTypes.{is_anchor}
use Rattle.mv_terms.specs.declared.head.PicType.{PicType}
use Rattle.mv_terms.specs.declared.head.PicType.TheVariants as pic
use Rattle.mv_terms.specs.declared.head.Head.{Head}
use Rattle.mv_terms.specs.CodedPicture.{pic_of}
use Rattle.mv_units.specs.Profile.{CodedUnit, heads_in}
use Rattle.mv_decode.specs.Accepted.{AreAcceptedUnits}
use Rattle.rec_slot.specs.Directions.{uses_forward}
use Rattle.rec_sheet.specs.Sheets.{SheetLists}
use Rattle.rec_legal.specs.Conditions.{HasLegalFlags, HasLinksOf}
use Rattle.cert_picture.specs.Records.{FrameParts, flag, frame_seal, frame_with, is_certified, is_recordable, most_zeros, no_seal, sheet_lists, zeros_behind_end}
use Rattle.cert_picture.specs.RecordLaws.{IsLink}
use Rattle.cert_picture.specs.FrameFileOf.{UnitFrame, frame_behind, frames_of, link_to, parts_behind, pic_of_frame}
use Rattle.cert_picture.proofs.ByteLemmas.{bytes_sha256, bytes_zeros}
use Rattle.cert_found.proofs.HistoryLaws.{heads_behind_others}

-- ---- seals

digest_link : (bytes : List ℕ) → IsLink (sha256 bytes)
digest_link bytes = record { size = length-sha256 bytes; bytes = bytes_sha256 bytes }

link_if : (t : Bool) (s : List ℕ) → IsLink s → IfSome (if t then Some s else None) IsLink
link_if true s is = is
link_if false s is = tt

seal_link : (p : FrameParts) → IfSome (frame_seal p) IsLink
unfolding frame_seal
seal_link p = link_if (is_recordable p) (sha256 (frame_with p no_seal)) (digest_link (frame_with p no_seal))

-- frames whose seals are links, where they have one
abbrev IsSealed : UnitFrame → Type 0
IsSealed f = IfSome f.seal IsLink

all_sealed : (us : List CodedUnit) → AllByRecursion IsSealed (frames_of us)
unfolding frames_of frame_behind
all_sealed [] = tt
all_sealed (u ∷ before) = (seal_link (parts_behind (frames_of before) u), all_sealed before)

filter_sealed : (test : UnitFrame → Bool) (fs : List UnitFrame) → AllByRecursion IsSealed fs → AllByRecursion IsSealed (filter test fs)
filter_sealed test [] h = tt
filter_sealed test (f ∷ fs) h =
    elim (cases_Bool (test f)) [
      | inl is ↦ let both : AllByRecursion IsSealed (f ∷ filter test fs) = (h.0, filter_sealed test fs h.1) in rw is both
      | inr other ↦ let later = filter_sealed test fs h.1 in rw other later
    ]

first_sealed : (fs : List UnitFrame) → AllByRecursion IsSealed fs → IfSome (first fs) IsSealed
first_sealed [] h = tt
first_sealed (f ∷ fs) h = h.0

second_sealed : (fs : List UnitFrame) → AllByRecursion IsSealed fs → IfSome (second fs) IsSealed
second_sealed [] h = tt
second_sealed (f ∷ fs) h = first_sealed fs h.1

link_of : (f : Option UnitFrame) → IfSome f IsSealed → IfSome (option_map link_to f) IsLink
link_of None h = tt
link_of (Some f) h = by f.seal h
  where
    by : (seal : Option (List ℕ)) → IfSome seal IsLink → IsLink (unwrap_or seal no_seal)
    by None h = record { size = refl; bytes = bytes_zeros 32 }
    by (Some s) h = h

forward_sealed : (t : PicType) (fs : List UnitFrame) → AllByRecursion IsSealed fs → IfSome (forward_reference pic_of_frame t fs) IsSealed
forward_sealed pic.I fs h = tt
forward_sealed pic.P fs h = first_sealed (anchors pic_of_frame fs) (filter_sealed (λ f. is_anchor (pic_of_frame f)) fs h)
forward_sealed pic.B fs h = second_sealed (anchors pic_of_frame fs) (filter_sealed (λ f. is_anchor (pic_of_frame f)) fs h)

backward_sealed : (t : PicType) (fs : List UnitFrame) → AllByRecursion IsSealed fs → IfSome (backward_reference pic_of_frame t fs) IsSealed
backward_sealed pic.I fs h = tt
backward_sealed pic.P fs h = tt
backward_sealed pic.B fs h = first_sealed (anchors pic_of_frame fs) (filter_sealed (λ f. is_anchor (pic_of_frame f)) fs h)

pub record HasLinks (p : FrameParts) : Type 0 where
  pub forward : IfSome p.forward IsLink
  pub backward : IfSome p.backward IsLink

pub has_links : (u : CodedUnit) (before : List CodedUnit) → HasLinks (parts_behind (frames_of before) u)
has_links u before =
    let sealed = all_sealed before in
    record {
      forward = link_of (forward_reference pic_of_frame (pic_of u.picture) (frames_of before)) (forward_sealed (pic_of u.picture) (frames_of before) sealed);
      backward = link_of (backward_reference pic_of_frame (pic_of u.picture) (frames_of before)) (backward_sealed (pic_of u.picture) (frames_of before) sealed);
    }

-- ---- a B picture has an anchor before it

no_anchor : (t : PicType) → is_anchor t ≡ false → t ≡ pic.B
no_anchor pic.I e = absurd cc
no_anchor pic.P e = absurd cc
no_anchor pic.B e = refl

some_before : (u : CodedUnit) (before : List CodedUnit) → AreAcceptedUnits (u ∷ before) → u.picture.head.pic ≡ pic.B → is_some (heads_in before) ≡ true
some_before u before are b = (heads_behind_others u before are).not_first (ap (λ (h : Head). h.pic) (sym are.1.accepts.head) ∙ b)

some_anchor : (us : List CodedUnit) → AreAcceptedUnits us → is_some (heads_in us) ≡ true → is_some (first (anchors pic_of_frame (frames_of us))) ≡ true
unfolding frames_of frame_behind
some_anchor [] are some = absurd (false≢true some)
some_anchor (u ∷ before) are some =
    elim (cases_Bool (is_anchor u.picture.head.pic)) [
      | inl is ↦ rw is refl
      | inr other ↦ let later = some_anchor before are.0 (some_before u before are (no_anchor u.picture.head.pic other)) in rw other later
    ]

-- ---- flags

times : (set : Bool) (worth : ℕ) → flag set worth ≡ worth * flag set 1
times true worth = omega arith
times false worth = omega arith

set_or_not : (set : Bool) → eqb (flag set 1) 1 ≡ set
set_or_not true = refl
set_or_not false = refl

at_most_one : (set : Bool) → flag set 1 ≤ 1
at_most_one true = omega arith
at_most_one false = omega arith

abbrev sum : Bool → Bool → Bool → Bool → Bool → ℕ
sum c u f b e = flag c 1 + flag u 2 + flag f 4 + flag b 8 + flag e 16

-- the flags of their sum
record AreFlags (c u f b e : Bool) : Type 0 where
  known : sum c u f b e < 32
  uses : eqb (sum c u f b e / 2 % 2) 1 ≡ u
  forward : eqb (sum c u f b e / 4 % 2) 1 ≡ f
  backward : eqb (sum c u f b e / 8 % 2) 1 ≡ b
  end : eqb (sum c u f b e / 16 % 2) 1 ≡ e

are_flags : (c u f b e : Bool) → AreFlags c u f b e
are_flags c u f b e =
    let tu = times u 2 in
    let tf = times f 4 in
    let tb = times b 8 in
    let te = times e 16 in
    let mc = at_most_one c in
    let mu = at_most_one u in
    let mf = at_most_one f in
    let mb = at_most_one b in
    let me = at_most_one e in
    let two : sum c u f b e / 2 % 2 ≡ flag u 1 = omega (arith, tu, tf, tb, te, mc, mu, mf, mb, me) in
    let four : sum c u f b e / 4 % 2 ≡ flag f 1 = omega (arith, tu, tf, tb, te, mc, mu, mf, mb, me) in
    let eight : sum c u f b e / 8 % 2 ≡ flag b 1 = omega (arith, tu, tf, tb, te, mc, mu, mf, mb, me) in
    let sixteen : sum c u f b e / 16 % 2 ≡ flag e 1 = omega (arith, tu, tf, tb, te, mc, mu, mf, mb, me) in
    record {
      known = omega (arith, tu, tf, tb, te, mc, mu, mf, mb, me);
      uses = ap (λ (n : ℕ). eqb n 1) two ∙ set_or_not u;
      forward = ap (λ (n : ℕ). eqb n 1) four ∙ set_or_not f;
      backward = ap (λ (n : ℕ). eqb n 1) eight ∙ set_or_not b;
      end = ap (λ (n : ℕ). eqb n 1) sixteen ∙ set_or_not e;
    }

mapped : (f : Option UnitFrame) → is_some f ≡ true → is_some (option_map link_to f) ≡ true
mapped None e = e
mapped (Some f) e = refl

-- the links that a picture of each type has
abbrev HasLinksBy : PicType → Bool → Bool → Type 0
HasLinksBy pic.I forward backward = (forward ≡ false) × (backward ≡ false)
HasLinksBy pic.P forward backward = backward ≡ false
HasLinksBy pic.B forward backward = backward ≡ true

links_by : (t : PicType) (fs : List UnitFrame) → (t ≡ pic.B → is_some (first (anchors pic_of_frame fs)) ≡ true)
    → HasLinksBy t (is_some (option_map link_to (forward_reference pic_of_frame t fs))) (is_some (option_map link_to (backward_reference pic_of_frame t fs)))
links_by pic.I fs h = (refl, refl)
links_by pic.P fs h = refl
links_by pic.B fs h = mapped (first (anchors pic_of_frame fs)) (h refl)

flagged : (t : PicType) (s : SheetLists) (forward backward : Bool) → eqb (s.flags / 4 % 2) 1 ≡ forward → eqb (s.flags / 8 % 2) 1 ≡ backward → HasLinksBy t forward backward → HasLinksOf t s
flagged pic.I s forward backward f b h = (f ∙ h.0, b ∙ h.1)
flagged pic.P s forward backward f b h = b ∙ h
flagged pic.B s forward backward f b h = b ∙ h

absent : (link : Option (List ℕ)) → is_some link ≡ false → unwrap_or link no_seal ≡ no_seal
absent None e = refl
absent (Some x) e = absurd (false≢true (sym e))

no_number : (n : Option ℕ) → is_some n ≡ false → unwrap_or n 0 ≡ 0
no_number None e = refl
no_number (Some x) e = absurd (false≢true (sym e))

pub legal_flags : (u : CodedUnit) (before : List CodedUnit) → AreAcceptedUnits (u ∷ before) → let p = parts_behind (frames_of before) u in
    p.lists.zeros ≤ most_zeros → zeros_behind_end p.lists ≤ most_zeros → HasLegalFlags (sheet_lists p) p.picture.decisions
legal_flags u before are n1 n2 =
    let p = parts_behind (frames_of before) u in
    let f = are_flags (is_certified p) (uses_forward (pic_of p.picture) p.picture.decisions) (is_some p.forward) (is_some p.backward) (is_some p.lists.end) in
    let links = links_by (pic_of u.picture) (frames_of before) (λ b. some_anchor before are.0 (some_before u before are b)) in
    record {
      known = f.known;
      uses = f.uses;
      links = flagged (pic_of u.picture) (sheet_lists p) (is_some p.forward) (is_some p.backward) f.forward f.backward links;
      no_forward = λ e. absent p.forward (sym f.forward ∙ e);
      no_backward = λ e. absent p.backward (sym f.backward ∙ e);
      n1 = n1;
      n2 = n2;
      no_end = λ e. no_number p.lists.end (sym f.end ∙ e);
    }
