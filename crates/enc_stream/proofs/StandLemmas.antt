-- One step more: what stands in front of its head, and the unit that it writes.
use Rattle.std.proofs.Common.{◌≡◌, ℕ, ◌<◌, Bool, true, false, List, [], ◌∷◌, ◌++◌, length, Option, None, Some, refl, sym, ap, ◌∙◌, subst}
use Rattle.std.specs.Prelude.{if◌then◌else◌, bytes_eq, is_some}
use Rattle.std.specs.Option.{option_map_or}
use Rattle.std.proofs.lemmas.Bool.{lt-ltb}
use Rattle.std.proofs.lemmas.Slice.Eq.{bytes_eq-Decides}
use Rattle.mv_terms.specs.declared.head.Context.{Context}
use Rattle.mv_terms.specs.PicTypes.{is_anchor}
use Rattle.mv_bits.specs.Elements.{cut}
use Rattle.mv_heads.specs.declared.sequence_header.CodedSize.{CodedSize}
use Rattle.mv_heads.specs.HeadElements.{sequence_bytes}
use Rattle.mv_heads.specs.HeadsInTurn.{may_come}
use Rattle.mv_units.specs.declared.next.Before.TheVariants as place
use Rattle.rec_legal.specs.Conditions.{file_size}
use Rattle.enc_glue.specs.Glue.{glue}
use Rattle.enc_guided.specs.Recoded.{CodedStep, FrameStep, Recoding, Target, bytes_in_force, coded_step, glue_of, in_force, source_in}
use Rattle.enc_stream.proofs.FrontLemmas.{Laws}
use Rattle.enc_stream.proofs.PrefixLemmas.{Opens, anchor_comes, b_comes, glued_first, glued_later, heads_under, kept_later, own_first, own_later}
use Rattle.enc_stream.proofs.UnitLemmas.{Standing, first_stands, next_stands, since}
use Rattle.enc_stream.proofs.StepLemmas.{CodedBy, same_context}

-- what is put in front of an anchor: nothing where it has a sequence part of its own, or where these bytes are in force
glue_by : (now target : List ℕ) (own : Bool) → own ≡ true → glue now target own ≡ []
glue_by now target true e = refl
glue_by now target false e = absurd cc

glue_else : (now target : List ℕ) (own same : Bool) → own ≡ false → bytes_eq now target ≡ same → glue now target own ≡ (if same then [] else target)
glue_else now target own same e f = rw (e, f) refl

module _ (laws : Laws) (r : Recoding) (s : FrameStep) where
  abbrev size : CodedSize
  size = file_size r.header

  -- the sequence part that the step leaves in force
  abbrev Leaves : List CodedStep → Target → Type 0
  Leaves done t = (if s.step.anchor then Some t else in_force done) ≡ Some t

  leaves_anchor : (done : List CodedStep) (t : Target) → s.step.anchor ≡ true → Leaves done t
  leaves_anchor done t a = ap (λ (x : Bool). if x then Some t else in_force done) a

  leaves_b : (done : List CodedStep) (t : Target) → s.step.anchor ≡ false → in_force done ≡ Some t → Leaves done t
  leaves_b done t a e = ap (λ (x : Bool). if x then Some t else in_force done) a ∙ e

  glue_anchor : (done : List CodedStep) (c : CodedBy r s done) → s.step.anchor ≡ true
      → glue_of s.step.anchor c.guide done c.target ≡ glue (bytes_in_force done) c.target.bytes (is_some (sequence_bytes c.front.prefix))
  glue_anchor done c a =
      ap (λ (x : Bool). glue_of x c.guide done c.target) a
      ∙ ap (λ (x : Bool). glue (bytes_in_force done) c.target.bytes x) c.reads.own

  -- the first one
  pub stand_first : (c : CodedBy r s []) → s.step.anchor ≡ true → Standing size (coded_step r s [] ∷ [])
  stand_first c a =
      subst (λ (x : CodedStep). Standing size (x ∷ [])) (sym c.is)
      (first_stands laws size s.step c.guide c.target c.front (source_in r.header s.frame) c.part c.reads c.type (leaves_anchor [] c.target a) (by (sequence_bytes c.front.prefix) refl))
    where
      pic : is_anchor c.front.head.pic ≡ true
      pic = c.type ∙ a

      glued : (same : Bool) → bytes_eq [] c.target.bytes ≡ same → (if same then [] else c.target.bytes) ≡ c.target.bytes
      glued true e = (bytes_eq-Decides [] c.target.bytes).0 e
      glued false e = refl

      by : (own : Option (List ℕ)) → sequence_bytes c.front.prefix ≡ own → Opens None place.Stream c.front.head.pic (heads_under size c.target.context 0) 0 (glue_of s.step.anchor c.guide [] c.target ++ c.front.prefix)
      by (Some own) e =
          subst (λ (g : List ℕ). Opens None place.Stream c.front.head.pic (heads_under size c.target.context 0) 0 (g ++ c.front.prefix))
          (sym (glue_anchor [] c a ∙ glue_by [] c.target.bytes (is_some (sequence_bytes c.front.prefix)) (ap (λ (o : Option (List ℕ)). is_some o) e)))
          (own_first laws size c.target c.guide c.front c.part c.reads c.front.head.pic pic own e)
      by None e =
          subst (λ (g : List ℕ). Opens None place.Stream c.front.head.pic (heads_under size c.target.context 0) 0 (g ++ c.front.prefix))
          (sym (glue_anchor [] c a ∙ glue_else [] c.target.bytes (is_some (sequence_bytes c.front.prefix)) (bytes_eq [] c.target.bytes) (ap (λ (o : Option (List ℕ)). is_some o) e) refl ∙ glued (bytes_eq [] c.target.bytes) refl))
          (glued_first laws size c.target c.guide c.front c.part c.reads c.front.head.pic pic e)

  -- what stands in front of a step behind others: it opens with some number of zero bytes
  record OpensBehind (done : List CodedStep) (stands : Standing size done) (c : CodedBy r s done) : Type 0 where
    pub zeros : ℕ
    pub opens : Opens (Some (heads_under size stands.target.context (since done))) place.Unit c.front.head.pic (heads_under size c.target.context (since done)) zeros (glue_of s.step.anchor c.guide done c.target ++ c.front.prefix)

  with_glue : (done : List CodedStep) (stands : Standing size done) (c : CodedBy r s done) (put : List ℕ) (zeros : ℕ) → glue_of s.step.anchor c.guide done c.target ≡ put
      → Opens (Some (heads_under size stands.target.context (since done))) place.Unit c.front.head.pic (heads_under size c.target.context (since done)) zeros (put ++ c.front.prefix) → OpensBehind done stands c
  with_glue done stands c put zeros is opens = record {
    zeros = zeros;
    opens = subst (λ (g : List ℕ). Opens (Some (heads_under size stands.target.context (since done))) place.Unit c.front.head.pic (heads_under size c.target.context (since done)) zeros (g ++ c.front.prefix)) (sym is) opens;
  }

  -- nothing is put in front, and the sequence part in force stays
  kept : (done : List CodedStep) (stands : Standing size done) (c : CodedBy r s done) → stands.target.context ≡ c.target.context → glue_of s.step.anchor c.guide done c.target ≡ [] → sequence_bytes c.front.prefix ≡ None
      → may_come c.front.head.pic false c.target.context.low_delay (since done) ≡ true → OpensBehind done stands c
  kept done stands c same nothing none comes =
      let n : ℕ = length (cut c.front.prefix).front in
      with_glue done stands c [] n nothing
      (subst (λ (x : Context). Opens (Some (heads_under size x (since done))) place.Unit c.front.head.pic (heads_under size c.target.context (since done)) n c.front.prefix) (sym same)
      (kept_later laws size c.target c.guide c.front c.part c.reads (since done) c.front.head.pic none comes))

  bytes_now : (done : List CodedStep) (stands : Standing size done) → bytes_in_force done ≡ stands.target.bytes
  bytes_now done stands = ap (λ (o : Option Target). option_map_or (λ (t : Target). t.bytes) o []) stands.target_is

  -- another anchor
  anchor_opens : (done : List CodedStep) (stands : Standing size done) (c : CodedBy r s done) → s.step.anchor ≡ true → OpensBehind done stands c
  anchor_opens done stands c a = by (sequence_bytes c.front.prefix) refl
    where
      pic : is_anchor c.front.head.pic ≡ true
      pic = c.type ∙ a

      now : List ℕ
      now = bytes_in_force done

      without : sequence_bytes c.front.prefix ≡ None → (same : Bool) → bytes_eq now c.target.bytes ≡ same → glue_of s.step.anchor c.guide done c.target ≡ (if same then [] else c.target.bytes) → OpensBehind done stands c
      without none true e is =
          let bytes : stands.target.bytes ≡ c.target.bytes = sym (bytes_now done stands) ∙ (bytes_eq-Decides now c.target.bytes).0 e in
          kept done stands c (same_context stands.target.bytes c.target.bytes stands.target.context c.target.context bytes stands.part.reads c.part.reads) is none
          (anchor_comes c.front.head.pic false c.target.context.low_delay (since done) pic)
      without none false e is =
          with_glue done stands c c.target.bytes 0 is (glued_later laws size c.target c.guide c.front c.part c.reads stands.target.context (since done) c.front.head.pic pic none)

      by : (own : Option (List ℕ)) → sequence_bytes c.front.prefix ≡ own → OpensBehind done stands c
      by (Some own) e =
          with_glue done stands c [] (length (cut c.front.prefix).front)
          (glue_anchor done c a ∙ glue_by now c.target.bytes (is_some (sequence_bytes c.front.prefix)) (ap (λ (o : Option (List ℕ)). is_some o) e))
          (own_later laws size c.target c.guide c.front c.part c.reads stands.target.context (since done) c.front.head.pic pic own e)
      by None e =
          without e (bytes_eq now c.target.bytes) refl
          (glue_anchor done c a ∙ glue_else now c.target.bytes (is_some (sequence_bytes c.front.prefix)) (bytes_eq now c.target.bytes) (ap (λ (o : Option (List ℕ)). is_some o) e) refl)

  some_same : (x y : Target) → Some x ≡ Some y → x ≡ y
  some_same x y e = cc

  -- a B
  b_opens : (done : List CodedStep) (stands : Standing size done) (c : CodedBy r s done) → s.step.anchor ≡ false → since done < 16 → OpensBehind done stands c
  b_opens done stands c a few =
      let goes = c.b a in
      let same : stands.target ≡ c.target = some_same stands.target c.target (sym stands.target_is ∙ goes.target_is) in
      kept done stands c (ap (λ (t : Target). t.context) same) (ap (λ (x : Bool). glue_of x c.guide done c.target) a) goes.none
      (b_comes c.front.head.pic c.target.context.low_delay (since done) goes.delay (lt-ltb (since done) 16 few))

  stand_behind : (done : List CodedStep) (stands : Standing size done) (c : CodedBy r s done) → Leaves done c.target → OpensBehind done stands c → Standing size (coded_step r s done ∷ done)
  stand_behind done stands c leaves o =
      subst (λ (x : CodedStep). Standing size (x ∷ done)) (sym c.is)
      (next_stands laws size s.step c.guide c.target c.front (source_in r.header s.frame) c.part c.reads c.type done stands o.zeros leaves o.opens)

  pub stand_next : (done : List CodedStep) (stands : Standing size done) (c : CodedBy r s done) → (s.step.anchor ≡ false → since done < 16) → (a : Bool) → s.step.anchor ≡ a → Standing size (coded_step r s done ∷ done)
  stand_next done stands c few true a = stand_behind done stands c (leaves_anchor done c.target a) (anchor_opens done stands c a)
  stand_next done stands c few false a = stand_behind done stands c (leaves_b done c.target a (c.b a).target_is) (b_opens done stands c a (few a))
