-- A settled decision predicts as the decision that was settled.
use Rattle.std.proofs.Common.{◌≡◌, ℕ, ◌/◌, ◌%◌, Bool, true, false, ◌||◌, ◌&&◌, not, cond, [], refl, ap, ◌∙◌}
use Rattle.std.specs.Prelude.{pos, None, Some, slice_index_or}
use Rattle.mv_terms.specs.declared.head.PicType.{PicType}
use Rattle.mv_terms.specs.declared.head.PicType.TheVariants as pic
use Rattle.mv_terms.specs.declared.head.Head.{Head}
use Rattle.mv_terms.specs.declared.macroblock.Decision.{Decision}
use Rattle.mv_terms.specs.PicTypes.{is_p, is_b}
use Rattle.mv_terms.specs.Decisions.{still, vector_of}
use Rattle.mv_planes.specs.declared.picture.Plane.{Plane}
use Rattle.mv_planes.specs.References.{References}
use Rattle.mv_vectors.specs.Vectors.{Directed}
use Rattle.mv_vectors.specs.Predictable.{HasLegalDirections}
use Rattle.mv_predict.specs.Prediction.{source_by, source_of, predicted_from, goes_forward, goes_backward, combined, predicted_at}
use Rattle.mv_macro.specs.Past.{CodedMacroblock, Given, Seen}
use Rattle.mv_macro.specs.Legal.{HasLegalVectors, IsLegal}
use Rattle.mv_macro.specs.Settled.{has_blocks, is_still, settled_decision}

-- ---- a legal decision without a direction

-- a macroblock of a P picture without a direction has frame motion, and the vector zero
pub record IsStill (d : Decision) : Type 0 where
  pub frame_motion : d.field_motion ≡ false
  pub vector : vector_of d 0 0 ≡ still

both_first : (a b : Bool) → (a && b) ≡ true → a ≡ true
both_first true b e = refl
both_first false b e = absurd cc

no_backward : (t : PicType) (d : Decision) → is_p t ≡ true → HasLegalDirections t d → d.backward ≡ false
no_backward pic.P d p h = h
no_backward pic.I d p h = absurd h
no_backward pic.B d p h = absurd cc

not_b : (t : PicType) → is_p t ≡ true → is_b t ≡ false
not_b pic.P p = refl
not_b pic.I p = absurd cc
not_b pic.B p = absurd cc

-- what is_still says
says_still : (p i f : Bool) → (p && (not i && not f)) ≡ true → (p ≡ true) × (i ≡ false) × (f ≡ false)
says_still true false false e = (refl, refl, refl)
says_still true true f e = absurd cc
says_still true false true e = absurd cc
says_still false i f e = absurd cc

none_used : (t : Bool) (head : Head) (d : Decision) → t ≡ false → HasLegalVectors t head d 0 → vector_of d 0 0 ≡ still
none_used false head d e h = ap (λ (v : Directed). slice_index_or v.vectors 0 still) h
none_used true head d e h = absurd cc

neither : (f b : Bool) → f ≡ false → b ≡ false → (f || b) ≡ false
neither false b e h = h
neither true b e h = absurd cc

pub legal_still : (head : Head) (seen : Seen) (last : Bool) (d : Decision) → IsLegal head seen last d → is_still head d ≡ true → IsStill d
legal_still head seen last d legal still_one = go d.skipped refl where
  says : (is_p head.pic ≡ true) × (d.intra ≡ false) × (d.forward ≡ false)
  says = says_still (is_p head.pic) d.intra d.forward still_one

  go : (t : Bool) → d.skipped ≡ t → IsStill d
  go true e =
      let same = (legal.skipped e).same in
      let none = not_b head.pic says.0 in
      record {
        frame_motion = ap (λ (z : Decision). z.field_motion) same;
        vector = ap (λ (z : Decision). vector_of z 0 0) same ∙ (rw none refl);
      }
  go false e =
      let inter = legal.inter e says.1 in
      let back = no_backward head.pic d says.0 (inter.predicted.directions says.1) in
      record {
        frame_motion = (inter.predicted.motion says.1).no_direction (neither d.forward d.backward says.2 back);
        vector = none_used d.forward head d says.2 inter.forward;
      }

-- ---- sources

-- they come from vectors and selects
same_source : (used motion : Bool) (d e : Decision) (s y : ℕ) → e.selects ≡ d.selects → e.vectors ≡ d.vectors → source_by used motion e s y ≡ source_by used motion d s y
same_source false motion d e s y selects vectors = refl
same_source true false d e s y selects vectors = λ i. record { field = None; vector = slice_index_or (slice_index_or (vectors i) s []) 0 still; line = y }
same_source true true d e s y selects vectors = λ i. record {
  field = Some (slice_index_or (slice_index_or (selects i) s []) (y % 2) false);
  vector = slice_index_or (slice_index_or (vectors i) s []) (y % 2) still;
  line = y / 2;
}

-- the vector zero leads to where no vector leads
still_source : (d : Decision) (y : ℕ) → vector_of d 0 0 ≡ still → source_by true false d 0 y ≡ source_by false false d 0 y
still_source d y none = λ i. record { field = None; vector = none i; line = y }

-- and a direction that is used now changes nothing, where there is no motion
forward_source : (forward now motion : Bool) (d e : Decision) (y : ℕ) → e.selects ≡ d.selects → e.vectors ≡ d.vectors
    → (now ≡ true → (motion ≡ false) × (vector_of d 0 0 ≡ still)) → source_by (forward || now) motion e 0 y ≡ source_by forward motion d 0 y
forward_source true now motion d e y selects vectors none = same_source true motion d e 0 y selects vectors
forward_source false false motion d e y selects vectors none = refl
forward_source false true motion d e y selects vectors none =
    let no = none refl in
    ap (λ (t : Bool). source_by true t e 0 y) no.0
    ∙ same_source true false d e 0 y selects vectors
    ∙ still_source d y no.1

-- ---- the prediction

-- it goes forward in a P picture, whatever the decision says
same_way : (p i f rest : Bool) → ((f || ((p && (not i && not f)) && rest)) || p) ≡ (f || p)
same_way p i true rest = refl
same_way false i false rest = refl
same_way true true false rest = refl
same_way true false false true = refl
same_way true false false false = refl

pub same_prediction : (head : Head) (given : Given) (last : Bool) (m : CodedMacroblock) → (is_still head m.decision ≡ true → IsStill m.decision)
    → (refs : References) (p : Plane) (x y : ℕ) → predicted_at head (settled_decision head given last m) refs p x y ≡ predicted_at head m.decision refs p x y
unfolding predicted_at source_of
same_prediction head given last m still_one refs p x y = λ i. cond d.intra (pos 0)
    (pos (combined (way i) (goes_backward head d) (predicted_from refs.forward (from_forward i) p x) (predicted_from refs.backward (from_backward i) p x)))
  where
    d : Decision
    d = m.decision

    e : Decision
    e = settled_decision head given last m

    rest : Bool
    rest = not (has_blocks m) && (given.first || last)

    way : goes_forward head e ≡ goes_forward head d
    way = same_way (is_p head.pic) d.intra d.forward rest

    from_forward : source_by (d.forward || (is_still head d && rest)) d.field_motion e 0 y ≡ source_by d.forward d.field_motion d 0 y
    from_forward = forward_source d.forward (is_still head d && rest) d.field_motion d e y refl refl
        (λ now. let h = still_one (both_first (is_still head d) rest now) in (h.frame_motion, h.vector))

    from_backward : source_by d.backward d.field_motion e 1 y ≡ source_by d.backward d.field_motion d 1 y
    from_backward = same_source d.backward d.field_motion d e 1 y refl refl
