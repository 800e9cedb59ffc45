-- What a step of a plan is coded by, and the sequence part that it is read under.
use Rattle.std.proofs.Common.{◌≡◌, ℕ, Bool, true, false, List, [], ◌∷◌, map, Option, None, Some, Result, Ok, is_some, refl, sym, ap, ◌∙◌, subst}
use Rattle.std.specs.Prelude.{if◌then◌else◌, unwrap_or, IfSome}
use Rattle.std.proofs.lemmas.Bool.{false≢true}
use Rattle.mv_terms.specs.declared.status.Why.{Why}
use Rattle.mv_terms.specs.declared.head.Context.{Context}
use Rattle.mv_terms.specs.declared.head.PicType.{PicType}
use Rattle.mv_terms.specs.declared.head.PicType.TheVariants.{I, P, B}
use Rattle.mv_terms.specs.PicTypes.{is_anchor}
use Rattle.mv_terms.specs.Order.{anchors, first}
use Rattle.mv_terms.specs.Ranges.{IsFrameHeader, IsScaleCode}
use Rattle.mv_bits.specs.Elements.{cut}
use Rattle.mv_heads.specs.declared.sequence_header.CodedSize.{CodedSize}
use Rattle.mv_heads.specs.HeadElements.{context_of, sequence_bytes}
use Rattle.rec_legal.specs.FoundRecord.{FoundRecord}
use Rattle.rec_legal.specs.Conditions.{file_size}
use Rattle.rec_reader.specs.Right.{IsRight}
use Rattle.rec_reader.specs.Summaries.{summary_of}
use Rattle.plan_window.specs.declared.summary.Mode.{Mode}
use Rattle.plan_window.specs.declared.summary.Mode.TheVariants.{Guided, Fresh}
use Rattle.plan_window.specs.Fits.{FollowsAnchor, IsInGroup, Planned, backward, type_of}
use Rattle.plan_window.specs.Links.{is_anchor_record}
use Rattle.enc_guided.specs.Recoded.{Recoding, CodedStep, Front, FrameStep, Target, coded_step, coded_steps, default_target, fresh_front, fresh_prefix, fresh_type, front_of, guide_by, guided_front, in_force, step_by, target_of}
use Rattle.enc_guided.specs.Stands.{IsStep, planned_by}
use Rattle.enc_stream.specs.Stream.{IsAnchorWhereRecorded}
use Rattle.enc_stream.proofs.FrontLemmas.{IsPart, Laws, ReadsUnder, default_part, fresh_reads, guided_reads, no_bytes, record_part}
use Rattle.enc_stream.proofs.UnitLemmas.{in_force_more}

-- ---- the group of a B

-- the sequence part in force is that of the anchor of this step's group
pub record HasGroup (done : List CodedStep) (p : Planned) : Type 0 where
  pub target : Target
  pub target_is : in_force done ≡ Some target
  pub delay : target.context.low_delay ≡ false
  pub same : p.step.mode ≡ Guided → p.summary.context ≡ target.bytes

first_more : (p : Planned) (rest : List Planned) (a : Bool) → p.step.anchor ≡ a → first (anchors type_of (p ∷ rest)) ≡ (if a then Some p else first (anchors type_of rest))
first_more p rest true e = rw e refl
first_more p rest false e = rw e refl

pub backward_is : (p : Planned) (rest : List Planned) → p.step.anchor ≡ false → backward rest p ≡ first (anchors type_of rest)
backward_is p rest e = rw e refl

-- the sequence part of an anchor's record
abbrev part_of : FoundRecord → Target
part_of g = record { bytes = g.sheet.context; context = g.context }

own_target : (r : Recoding) (g : FoundRecord) (done : List CodedStep) → is_anchor g.sheet.pic ≡ true → target_of r.header (Some g) done ≡ part_of g
own_target r g done e = rw e refl

other_target : (r : Recoding) (o : Option FoundRecord) (done : List CodedStep) → is_anchor_record (summary_of o) ≡ false → target_of r.header o done ≡ unwrap_or (in_force done) (default_target r.header)
other_target r None done e = refl
other_target r (Some g) done e = rw e refl

step_target : (r : Recoding) (b : FrameStep) (done : List CodedStep) → (coded_step r b done).target ≡ target_of r.header (r.find b.frame) done
unfolding coded_step
step_target r b done = refl

step_anchor : (r : Recoding) (b : FrameStep) (done : List CodedStep) → (coded_step r b done).anchor ≡ b.step.anchor
unfolding coded_step
step_anchor r b done = refl

-- of the anchor that was coded last
group_of_record : (r : Recoding) (b : FrameStep) (done : List CodedStep) (p : Planned) → in_force (coded_step r b done ∷ done) ≡ Some (coded_step r b done).target → (o : Option FoundRecord) → r.find b.frame ≡ o
    → FollowsAnchor (record { step = b.step; summary = summary_of o }) p → HasGroup (coded_step r b done ∷ done) p
group_of_record r b done p now None e follows = absurd (false≢true follows.record_of_anchor)
group_of_record r b done p now (Some g) e follows = record {
  target = part_of g;
  target_is = now ∙ ap (λ (t : Target). Some t) (step_target r b done ∙ ap (λ (o : Option FoundRecord). target_of r.header o done) e ∙ own_target r g done follows.record_of_anchor);
  delay = follows.no_low_delay;
  same = follows.same_context;
}

group_more : (r : Recoding) (b : FrameStep) (done : List CodedStep) (p : Planned) (rest : Option Planned) (a : Bool) → in_force (coded_step r b done ∷ done) ≡ (if a then Some (coded_step r b done).target else in_force done)
    → IsInGroup (if a then Some (planned_by r b) else rest) p → (IsInGroup rest p → HasGroup done p) → HasGroup (coded_step r b done ∷ done) p
group_more r b done p rest true now group go = group_of_record r b done p now (r.find b.frame) refl group
group_more r b done p rest false now group go =
    let h = go group in record { target = h.target; target_is = now ∙ h.target_is; delay = h.delay; same = h.same }

group_of : (r : Recoding) (before : List FrameStep) (p : Planned) → IsInGroup (first (anchors type_of (map (planned_by r) before))) p → HasGroup (coded_steps r before) p
unfolding coded_steps
group_of r [] p group = absurd group
group_of r (b ∷ before) p group =
    let done : List CodedStep = coded_steps r before in
    let others : List Planned = map (planned_by r) before in
    group_more r b done p (first (anchors type_of others)) b.step.anchor (in_force_more (coded_step r b done) done b.step.anchor (step_anchor r b done))
    (subst (λ (o : Option Planned). IsInGroup o p) (first_more (planned_by r b) others b.step.anchor refl) group)
    (λ g. group_of r before p g)

-- ---- by what a step is coded

-- a B goes on under the sequence part in force
pub record GoesOn (done : List CodedStep) (target : Target) (front : Front) : Type 0 where
  pub target_is : in_force done ≡ Some target
  pub delay : target.context.low_delay ≡ false
  pub none : sequence_bytes front.prefix ≡ None

pub record CodedBy (r : Recoding) (s : FrameStep) (done : List CodedStep) : Type 0 where
  pub guide : Option FoundRecord
  pub target : Target
  pub front : Front
  pub is : coded_step r s done ≡ step_by r s guide target front done
  pub part : IsPart (file_size r.header) target
  pub reads : ReadsUnder target guide front
  pub type : is_anchor front.head.pic ≡ s.step.anchor
  pub b : s.step.anchor ≡ false → GoesOn done target front

abbrev step_of : Recoding → FrameStep → List CodedStep → Mode → Option FoundRecord → CodedStep
step_of r s done m o = step_by r s (guide_by m o) (target_of r.header o done) (front_of r s (guide_by m o) (target_of r.header o done) done) done

coded_is : (r : Recoding) (s : FrameStep) (done : List CodedStep) (m : Mode) → s.step.mode ≡ m → (o : Option FoundRecord) → r.find s.frame ≡ o → coded_step r s done ≡ step_of r s done m o
unfolding coded_step
coded_is r s done m mode o found =
    ap (λ (x : Option FoundRecord). step_of r s done s.step.mode x) found ∙ ap (λ (x : Mode). step_of r s done x o) mode

force_part : (size : CodedSize) (default : Target) (o : Option Target) → ((t : Target) → o ≡ Some t → IsPart size t) → IsPart size default → IsPart size (unwrap_or o default)
force_part size default None force part = part
force_part size default (Some t) force part = force t refl

target_part : (laws : Laws) (r : Recoding) (done : List CodedStep) (o : Option FoundRecord) → IfSome o (IsRight (file_size r.header)) → IsPart (file_size r.header) (unwrap_or (in_force done) (default_target r.header))
    → IsPart (file_size r.header) (target_of r.header o done)
target_part laws r done None right other = other
target_part laws r done (Some g) right other = by (is_anchor g.sheet.pic)
  where
    by : (b : Bool) → IsPart (file_size r.header) (if b then part_of g else unwrap_or (in_force done) (default_target r.header))
    by true = record_part laws (file_size r.header) g right
    by false = other

fresh_kind : (a : Bool) → is_anchor (fresh_type a) ≡ a
fresh_kind true = refl
fresh_kind false = refl

is_b : (t : PicType) → is_anchor t ≡ false → t ≡ B
is_b I e = absurd (false≢true (sym e))
is_b P e = absurd (false≢true (sym e))
is_b B e = refl

is_none : (o : Option (List ℕ)) → is_some o ≡ false → o ≡ None
is_none None e = refl
is_none (Some x) e = absurd (false≢true (sym e))

nothing_none : sequence_bytes [] ≡ None
unfolding cut
nothing_none = no_bytes [] refl

pub same_context : (bytes other : List ℕ) (c d : Context) → bytes ≡ other → context_of (cut bytes) ≡ Ok c → context_of (cut other) ≡ Ok d → c ≡ d
same_context bytes other c d same first_reads other_reads = ok_same (sym first_reads ∙ ap (λ (x : List ℕ). context_of (cut x)) same ∙ other_reads)
  where
    ok_same : (let r : Result Context Why = Ok c in r) ≡ Ok d → c ≡ d
    ok_same e = cc

module _ (laws : Laws) (r : Recoding) (is_header : IsFrameHeader r.header) (is_scale : IsScaleCode r.scale) (s : FrameStep) (before : List FrameStep) (f : IsStep r before s) (no_anchor : IsAnchorWhereRecorded r s)
    (force : (t : Target) → in_force (coded_steps r before) ≡ Some t → IsPart (file_size r.header) t) where
  abbrev size : CodedSize
  size = file_size r.header

  abbrev done : List CodedStep
  done = coded_steps r before

  abbrev target_by : Option FoundRecord → Target
  target_by o = target_of r.header o done

  part_by : (o : Option FoundRecord) → r.find s.frame ≡ o → IsPart size (target_by o)
  part_by o e = target_part laws r done o (subst (λ (x : Option FoundRecord). IfSome x (IsRight size)) e f.right)
      (force_part size (default_target r.header) (in_force done) force (default_part laws r.header is_header))

  group : s.step.anchor ≡ false → HasGroup done (planned_by r s)
  group a = group_of r before (planned_by r s) (subst (λ (o : Option Planned). IsInGroup o (planned_by r s)) (backward_is (planned_by r s) (map (planned_by r) before) a) (f.fits.group a))

  -- a B is read under what is in force
  b_target : (a : s.step.anchor ≡ false) (o : Option FoundRecord) → r.find s.frame ≡ o → target_by o ≡ (group a).target
  b_target a o e =
      let none : is_anchor_record (summary_of o) ≡ false = subst (λ (x : Option FoundRecord). is_anchor_record (summary_of x) ≡ false) e (no_anchor a) in
      other_target r o done none ∙ ap (λ (x : Option Target). unwrap_or x (default_target r.header)) (group a).target_is

  goes_on : (a : s.step.anchor ≡ false) (o : Option FoundRecord) → r.find s.frame ≡ o → (front : Front) → sequence_bytes front.prefix ≡ None → GoesOn done (target_by o) front
  goes_on a o e front none =
      let same = sym (b_target a o e) in
      record {
        target_is = (group a).target_is ∙ ap (λ (t : Target). Some t) same;
        delay = subst (λ (t : Target). t.context.low_delay ≡ false) same (group a).delay;
        none = none;
      }

  by_nothing : (o : Option FoundRecord) → r.find s.frame ≡ o → coded_step r s done ≡ step_by r s None (target_by o) (fresh_front r s.step.anchor s.step.frame (target_by o) done) done → CodedBy r s done
  by_nothing o e is =
      let front : Front = fresh_front r s.step.anchor s.step.frame (target_by o) done in
      record {
        guide = None;
        target = target_by o;
        front = front;
        is = is;
        part = part_by o e;
        reads = fresh_reads laws r is_header is_scale s.step.anchor s.step.frame (target_by o) done (part_by o e);
        type = fresh_kind s.step.anchor;
        b = λ a. goes_on a o e front (ap (λ (x : Bool). sequence_bytes (fresh_prefix x s.step.frame done)) a ∙ nothing_none);
      }

  by_record : (g : FoundRecord) → r.find s.frame ≡ Some g → s.step.mode ≡ Guided → coded_step r s done ≡ step_by r s (Some g) (target_by (Some g)) (guided_front g) done → CodedBy r s done
  by_record g e mode is =
      let right : IsRight size g = subst (λ (x : Option FoundRecord). IfSome x (IsRight size)) e f.right in
      let headers = right.2.headers in
      let part = part_by (Some g) e in
      let kind : is_anchor g.sheet.pic ≡ s.step.anchor = subst (λ (x : Option FoundRecord). is_anchor_record (summary_of x) ≡ s.step.anchor) e (f.fits.kind mode) in
      let type : is_anchor g.head.pic ≡ s.step.anchor = ap is_anchor headers.same_type ∙ kind in
      let context : g.sheet.context ≡ (target_by (Some g)).bytes = same_bytes g e mode kind s.step.anchor refl in
      record {
        guide = Some g;
        target = target_by (Some g);
        front = guided_front g;
        is = is;
        part = part;
        reads = guided_reads laws size (target_by (Some g)) g right context (same_context g.sheet.context (target_by (Some g)).bytes g.context (target_by (Some g)).context context headers.context_reads part.reads);
        type = type;
        b = λ a. goes_on a (Some g) e (guided_front g) (is_none (sequence_bytes g.sheet.prefix) (headers.b (is_b g.head.pic (type ∙ a))).no_part);
      }
    where
      same_bytes : (g : FoundRecord) → r.find s.frame ≡ Some g → s.step.mode ≡ Guided → is_anchor g.sheet.pic ≡ s.step.anchor → (a : Bool) → s.step.anchor ≡ a → g.sheet.context ≡ (target_by (Some g)).bytes
      same_bytes g e mode kind true a = ap (λ (t : Target). t.bytes) (sym (own_target r g done (kind ∙ a)))
      same_bytes g e mode kind false a =
          subst (λ (x : Option FoundRecord). (summary_of x).context ≡ (group a).target.bytes) e ((group a).same mode) ∙ ap (λ (t : Target). t.bytes) (sym (b_target a (Some g) e))

  pub coded_by : CodedBy r s done
  coded_by = by s.step.mode refl (r.find s.frame) refl
    where
      by : (m : Mode) → s.step.mode ≡ m → (o : Option FoundRecord) → r.find s.frame ≡ o → CodedBy r s done
      by Fresh mode o e = by_nothing o e (coded_is r s done Fresh mode o e)
      by Guided mode None e = by_nothing None e (coded_is r s done Guided mode None e)
      by Guided mode (Some g) e = by_record g e mode (coded_is r s done Guided mode (Some g) e)

-- a picture of a step is an anchor exactly where the step is one
pub coded_kind : (r : Recoding) (s : FrameStep) (before : List FrameStep) → IsStep r before s → (done : List CodedStep) → is_anchor (coded_step r s done).coded.head.pic ≡ s.step.anchor
coded_kind r s before f done = by s.step.mode refl (r.find s.frame) refl
  where
    by : (m : Mode) → s.step.mode ≡ m → (o : Option FoundRecord) → r.find s.frame ≡ o → is_anchor (coded_step r s done).coded.head.pic ≡ s.step.anchor
    by Fresh mode o e = ap (λ (c : CodedStep). is_anchor c.coded.head.pic) (coded_is r s done Fresh mode o e) ∙ fresh_kind s.step.anchor
    by Guided mode None e = ap (λ (c : CodedStep). is_anchor c.coded.head.pic) (coded_is r s done Guided mode None e) ∙ fresh_kind s.step.anchor
    by Guided mode (Some g) e =
        let right : IsRight (file_size r.header) g = subst (λ (x : Option FoundRecord). IfSome x (IsRight (file_size r.header))) e f.right in
        ap (λ (c : CodedStep). is_anchor c.coded.head.pic) (coded_is r s done Guided mode (Some g) e)
        ∙ ap is_anchor right.2.headers.same_type
        ∙ subst (λ (x : Option FoundRecord). is_anchor_record (summary_of x) ≡ s.step.anchor) e (f.fits.kind mode)
