-- The tests of decisions tell which ones are legal.
use Rattle.std.proofs.Common.{◌≡◌, ℕ, ◌+◌, ◌/◌, ◌%◌, ◌∙◌, Bool, true, false, cond, not, ◌&&◌, ◌||◌, eqb, List, [], ◌∷◌, length, get_or, refl, sym, ap, subst, ℤ, pos}
use Rattle.std.specs.Bool.{Decides}
use Rattle.std.specs.Ordering.{int_eq}
use Rattle.std.specs.List.{AllByRecursion}
use Rattle.std.proofs.lemmas.Bool.{false≢true}
use Rattle.std.proofs.lemmas.Bool.Decides.{Decides-and, Decides-like, Decides-eqb, Decides-int_eq}
use Rattle.mv_terms.specs.declared.head.PicType.{PicType}
use Rattle.mv_terms.specs.declared.head.PicType.TheVariants as pic
use Rattle.mv_terms.specs.declared.head.Head.{Head}
use Rattle.mv_terms.specs.declared.macroblock.Vector.{Vector}
use Rattle.mv_terms.specs.declared.macroblock.Decision.{Decision}
use Rattle.mv_terms.specs.PicTypes.{is_b}
use Rattle.mv_terms.specs.Decisions.{HasPlainOrFieldMotion, dmvector_of, no_dmvector, still, vector_of, select_of}
use Rattle.mv_vectors.specs.Vectors.{Directed, directed, undirected, frame_directed, predictor}
use Rattle.mv_vectors.specs.Inside.{is_inside, are_vectors_in_range}
use Rattle.mv_vectors.specs.Predictable.{HasLegalDirections}
use Rattle.mv_macro.specs.Past.{Seen, seen, is_empty, of_last}
use Rattle.mv_macro.specs.Macroblocks.{skipped_behind}
use Rattle.mv_macro.specs.Legal.{counted, HasLegalVectors, IsLegalSkipped, IsLegalIntra, IsLegalInter, IsLegal, ends_slice, in_its_slice, IsLegalAt, AreLegalFrom}
use Rattle.rec_slot.specs.Slot.{IsHeld}
use Rattle.rec_legal.specs.declared.decisions.Past.{Past}
use Rattle.rec_legal.specs.Tests.{has_first_alone, has_none, has_legal_vectors, says_nothing, takes_both_over, is_legal_skipped, is_legal_intra, has_legal_directions, has_plain_or_field_motion, is_legal_inter, is_head_scale, is_legal, no_past, past_in_slice, past_behind, is_legal_at, are_legal_from}
use Rattle.rec_legal.proofs.OptionLemmas.{both_true, true_both}
use Rattle.rec_legal.proofs.DecideLemmas.{itself, flag_decides, not_decides, where_decides, scale_decides, head_scale_decides, vector_decides}

-- ---- vectors

abbrev pair : Bool → Bool → Vector → Vector → Directed
pair a b v w = record { selects = a ∷ b ∷ []; vectors = v ∷ w ∷ [] }

abbrev IsAlone : Bool → Bool → Vector → Type 0
IsAlone a b w = ((a ≡ false) × (b ≡ false)) × (w ≡ still)

alone_is : (a b : Bool) (v w : Vector) → IsAlone a b w → pair a b v w ≡ frame_directed v
alone_is a b v w e = λ i. record { selects = e.0.0 i ∷ e.0.1 i ∷ []; vectors = v ∷ e.1 i ∷ [] }

is_alone : (a b : Bool) (v w u : Vector) → pair a b v w ≡ frame_directed u → IsAlone a b w
is_alone a b v w u e = ((ap (λ (x : Directed). get_or x.selects 0 false) e, ap (λ (x : Directed). get_or x.selects 1 false) e), ap (λ (x : Directed). get_or x.vectors 1 still) e)

alone_decides : (d : Decision) (s : ℕ) → Decides (has_first_alone d s) (IsAlone (select_of d s 0) (select_of d s 1) (vector_of d s 1))
alone_decides d s = Decides-and _ _ (Decides-and _ _ (not_decides (select_of d s 0)) (not_decides (select_of d s 1))) (vector_decides (vector_of d s 1) still)

module _ (d : Decision) (s : ℕ) (is : directed d s ≡ pair (select_of d s 0) (select_of d s 1) (vector_of d s 0) (vector_of d s 1)) where
  counted_decides : (field : Bool) → Decides (field || has_first_alone d s) (directed d s ≡ counted field d s)
  counted_decides true = (λ e. is, λ e. refl)
  counted_decides false = Decides-like (has_first_alone d s) (λ a. is ∙ alone_is _ _ (vector_of d s 0) _ a) (λ e. is_alone _ _ (vector_of d s 0) _ (vector_of d s 0) (sym is ∙ e)) (alone_decides d s)

  none_decides : Decides (has_none d s) (directed d s ≡ undirected)
  none_decides =
      Decides-like (has_none d s)
      (λ a. is ∙ (alone_is _ _ (vector_of d s 0) _ a.0 ∙ ap frame_directed a.1))
      (λ e. (is_alone _ _ (vector_of d s 0) _ still (sym is ∙ e), ap (λ (x : Directed). get_or x.vectors 0 still) (sym is ∙ e)))
      (Decides-and _ _ (alone_decides d s) (vector_decides (vector_of d s 0) still))

  vectors_decides : (used : Bool) (head : Head) → Decides (has_legal_vectors used head d s) (HasLegalVectors used head d s)
  vectors_decides true head = Decides-and _ _ (counted_decides d.field_motion) (itself (are_vectors_in_range head d s d.field_motion))
  vectors_decides false head = none_decides

forward_is : (d : Decision) → IsHeld d → directed d 0 ≡ pair (select_of d 0 0) (select_of d 0 1) (vector_of d 0 0) (vector_of d 0 1)
forward_is d h = λ i. record { selects = get_or (h.selects i) 0 []; vectors = get_or (h.vectors i) 0 [] }

backward_is : (d : Decision) → IsHeld d → directed d 1 ≡ pair (select_of d 1 0) (select_of d 1 1) (vector_of d 1 0) (vector_of d 1 1)
backward_is d h = λ i. record { selects = get_or (h.selects i) 1 []; vectors = get_or (h.vectors i) 1 [] }

-- ---- kinds

abbrev four : {X : Type 0} → X → X → X → X → List (List X)
four a b c d = (a ∷ b ∷ []) ∷ (c ∷ d ∷ []) ∷ []

-- a decision of plain or field motion
abbrev decided : Bool → Bool → Bool → Bool → Bool → Bool → Bool → Bool → ℕ → List (List Bool) → List (List Vector) → ℕ → Decision
decided a b c d e f g h s t v z = record { slice_start = a; skipped = b; quant = c; intra = d; forward = e; backward = f; field_dct = g; field_motion = h; half = false; dual = false; scale = s; selects = t; vectors = v; dual_delta = no_dmvector; head_scale = z }

is_decided : (d : Decision) → HasPlainOrFieldMotion d
    → d ≡ decided d.slice_start d.skipped d.quant d.intra d.forward d.backward d.field_dct d.field_motion d.scale d.selects d.vectors d.head_scale
is_decided d motion = λ i. record d { half = motion.half i; dual = motion.dual i; dual_delta = motion.dual_delta i }

no_dmvector_decides : (x y : ℤ) → Decides (int_eq x (pos 0) && int_eq y (pos 0)) (x ∷ y ∷ [] ≡ no_dmvector)
no_dmvector_decides x y =
    Decides-like _ (λ e. λ i. e.0 i ∷ e.1 i ∷ []) (λ e. (ap (λ (z : List ℤ). get_or z 0 (pos 0)) e, ap (λ (z : List ℤ). get_or z 1 (pos 0)) e))
    (Decides-and _ _ (Decides-int_eq x (pos 0)) (Decides-int_eq y (pos 0)))

motion_decides : (d : Decision) → IsHeld d → Decides (has_plain_or_field_motion d) (HasPlainOrFieldMotion d)
motion_decides d h =
    Decides-like _
    (λ e. record { half = e.0.0; dual = e.0.1; dual_delta = h.dual_delta ∙ e.1 })
    (λ m. ((m.half, m.dual), sym h.dual_delta ∙ m.dual_delta))
    (Decides-and _ _ (Decides-and _ _ (not_decides d.half) (not_decides d.dual)) (no_dmvector_decides (dmvector_of d 0) (dmvector_of d 1)))

module _ (head : Head) (s : Seen) (d : Decision) (h : IsHeld d) where
  abbrev takes_forward : Bool
  takes_forward = is_b head.pic && s.before_forward

  abbrev takes_backward : Bool
  takes_backward = is_b head.pic && s.before_backward

  -- what a skipped macroblock is, from what it says
  is_skipped : HasPlainOrFieldMotion d → d.skipped ≡ true → d.slice_start ≡ false → d.head_scale ≡ 0 → says_nothing d ≡ true → takes_both_over head s d ≡ true → d ≡ skipped_behind head s d.scale
  is_skipped m k start head_scale nothing both =
      let n = both_true _ _ nothing in
      let n' = both_true _ _ n.0 in
      let l = both_true _ _ n'.0 in
      let t = both_true _ _ both in
      let f = both_true _ _ t.0 in
      let f' = both_true _ _ f.0 in
      let b = both_true _ _ t.1 in
      let b' = both_true _ _ b.0 in
      let fa = (alone_decides d 0).0 f'.1 in
      let ba = (alone_decides d 1).0 b'.1 in
      let fv = (vector_decides (vector_of d 0 0) (cond takes_forward s.forward still)).0 f.1 in
      let bv = (vector_decides (vector_of d 1 0) (cond takes_backward s.backward still)).0 b.1 in
      let forward = (flag_decides d.forward takes_forward).0 f'.0 in
      let backward = (flag_decides d.backward takes_backward).0 b'.0 in
      let quant = (not_decides d.quant).0 l.0 in
      let intra = (not_decides d.intra).0 l.1 in
      let dct = (not_decides d.field_dct).0 n'.1 in
      let motion = (not_decides d.field_motion).0 n.1 in
      let selects : d.selects ≡ four false false false false = h.selects ∙ (λ i. four (fa.0.0 i) (fa.0.1 i) (ba.0.0 i) (ba.0.1 i)) in
      let vectors : d.vectors ≡ four (cond takes_forward s.forward still) still (cond takes_backward s.backward still) still = h.vectors ∙ (λ i. four (fv i) (fa.1 i) (bv i) (ba.1 i)) in
      is_decided d m ∙ (λ i. decided (start i) (k i) (quant i) (intra i) (forward i) (backward i) (dct i) (motion i) d.scale (selects i) (vectors i) (head_scale i))

  -- and what it says, from what it is
  says_skipped : d ≡ skipped_behind head s d.scale → (says_nothing d ≡ true) × (takes_both_over head s d ≡ true)
  says_skipped e =
      let quant = (not_decides d.quant).1 (ap (λ (x : Decision). x.quant) e) in
      let intra = (not_decides d.intra).1 (ap (λ (x : Decision). x.intra) e) in
      let dct = (not_decides d.field_dct).1 (ap (λ (x : Decision). x.field_dct) e) in
      let motion = (not_decides d.field_motion).1 (ap (λ (x : Decision). x.field_motion) e) in
      let select : (a r : ℕ) → select_of d a r ≡ select_of (skipped_behind head s d.scale) a r = λ (a r : ℕ). ap (λ (x : Decision). select_of x a r) e in
      let moved : (a r : ℕ) → vector_of d a r ≡ vector_of (skipped_behind head s d.scale) a r = λ (a r : ℕ). ap (λ (x : Decision). vector_of x a r) e in
      let fa = (alone_decides d 0).1 ((select 0 0, select 0 1), moved 0 1) in
      let ba = (alone_decides d 1).1 ((select 1 0, select 1 1), moved 1 1) in
      let fv = (vector_decides (vector_of d 0 0) (cond takes_forward s.forward still)).1 (moved 0 0) in
      let bv = (vector_decides (vector_of d 1 0) (cond takes_backward s.backward still)).1 (moved 1 0) in
      let forward = (flag_decides d.forward takes_forward).1 (ap (λ (x : Decision). x.forward) e) in
      let backward = (flag_decides d.backward takes_backward).1 (ap (λ (x : Decision). x.backward) e) in (
        true_both _ _ (true_both _ _ (true_both _ _ quant intra) dct) motion,
        true_both _ _ (true_both _ _ (true_both _ _ forward fa) fv) (true_both _ _ (true_both _ _ backward ba) bv),
      )

  skipped_to : (last : Bool) → HasPlainOrFieldMotion d → d.skipped ≡ true → d.slice_start ≡ s.first → (d.slice_start ≡ false → d.head_scale ≡ 0) → is_legal_skipped head s last d ≡ true → IsLegalSkipped head s last d
  skipped_to last m k start codes e =
      let inside = both_true _ _ e in
      let range = both_true _ _ inside.0 in
      let takes = both_true _ _ range.0 in
      let nothing = both_true _ _ takes.0 in
      let allowed = both_true _ _ nothing.0 in
      let edges = both_true _ _ allowed.0 in
      let first = (not_decides s.first).0 edges.0 in
      let starts : d.slice_start ≡ false = start ∙ first in
      record {
        not_first = first;
        not_last = (not_decides last).0 edges.1;
        allowed = allowed.1;
        same = is_skipped m k starts (codes starts) nothing.1 takes.1;
        in_range = range.1;
        inside = inside.1;
      }

  skipped_from : (last : Bool) → IsLegalSkipped head s last d → is_legal_skipped head s last d ≡ true
  skipped_from last l =
      let says = says_skipped l.same in
      true_both _ _ (true_both _ _ (true_both _ _ (true_both _ _
      (true_both _ _ (true_both _ _ ((not_decides s.first).1 l.not_first) ((not_decides last).1 l.not_last)) l.allowed)
      says.0) says.1) l.in_range) l.inside

  intra_to : is_legal_intra head d ≡ true → IsLegalIntra head d
  intra_to e =
      let none = both_true _ _ e in
      let first = both_true _ _ none.0 in
      let motion = both_true _ _ first.0 in
      let directions = both_true _ _ motion.0 in
      record {
        not_forward = (not_decides d.forward).0 directions.0;
        not_backward = (not_decides d.backward).0 directions.1;
        frame_motion = (not_decides d.field_motion).0 motion.1;
        concealment = (vectors_decides d 0 (forward_is d h) head.concealment head).0 first.1;
        no_backward = (vectors_decides d 1 (backward_is d h) false head).0 none.1;
      }

  intra_from : IsLegalIntra head d → is_legal_intra head d ≡ true
  intra_from l =
      true_both _ _ (true_both _ _
      (true_both _ _ (true_both _ _ ((not_decides d.forward).1 l.not_forward) ((not_decides d.backward).1 l.not_backward)) ((not_decides d.field_motion).1 l.frame_motion))
      ((vectors_decides d 0 (forward_is d h) head.concealment head).1 l.concealment))
      ((vectors_decides d 1 (backward_is d h) false head).1 l.no_backward)

directions_decide : (p : PicType) (d : Decision) → Decides (has_legal_directions p d) (HasLegalDirections p d)
directions_decide pic.I d = (λ e. absurd (false≢true e), λ e. absurd e)
directions_decide pic.P d = not_decides d.backward
directions_decide pic.B d = (λ e. e, λ e. e)

motion_to : (field only some : Bool) → (not field || (not only && some)) ≡ true → (only ≡ true → field ≡ false) × (some ≡ false → field ≡ false)
motion_to false only some e = (λ f. refl, λ f. refl)
motion_to true true some e = absurd (false≢true e)
motion_to true false true e = (λ f. absurd (false≢true f), λ f. f)
motion_to true false false e = absurd (false≢true e)

motion_from : (field only some : Bool) → (only ≡ true → field ≡ false) → (some ≡ false → field ≡ false) → (not field || (not only && some)) ≡ true
motion_from false only some f g = refl
motion_from true true some f g = sym (f refl)
motion_from true false true f g = refl
motion_from true false false f g = sym (g refl)

module _ (head : Head) (x y : ℕ) (d : Decision) (h : IsHeld d) where
  inter_to : d.skipped ≡ false → (s : Seen) → s.mb_x ≡ x → s.mb_y ≡ y → is_legal_inter head x y d ≡ true → IsLegalInter head s d
  inter_to k s sx sy e =
      let vectors = both_true _ _ e in
      let inside = both_true _ _ vectors.0 in
      let motion = both_true _ _ inside.0 in
      let m = motion_to d.field_motion head.frame_only (d.forward || d.backward) motion.1 in
      let v = both_true _ _ vectors.1 in
      record {
        predicted = record {
          directions = λ i. (directions_decide head.pic d).0 motion.0;
          motion = λ i. record { frame_only = m.0; skipped = λ l. absurd (false≢true (sym k ∙ l)); no_direction = m.1 };
          inside = λ i. ap (λ (n : ℕ). is_inside head n s.mb_y d) sx ∙ (ap (λ (n : ℕ). is_inside head x n d) sy ∙ inside.1);
        };
        forward = (vectors_decides d 0 (forward_is d h) d.forward head).0 v.0;
        backward = (vectors_decides d 1 (backward_is d h) d.backward head).0 v.1;
      }

  inter_from : d.intra ≡ false → (s : Seen) → s.mb_x ≡ x → s.mb_y ≡ y → IsLegalInter head s d → is_legal_inter head x y d ≡ true
  inter_from i s sx sy l =
      let m = l.predicted.motion i in
      let inside : is_inside head x y d ≡ true = ap (λ (n : ℕ). is_inside head x n d) (sym sy) ∙ (ap (λ (n : ℕ). is_inside head n s.mb_y d) (sym sx) ∙ l.predicted.inside i) in
      true_both _ _ (true_both _ _ (true_both _ _ ((directions_decide head.pic d).1 (l.predicted.directions i)) (motion_from d.field_motion head.frame_only (d.forward || d.backward) m.frame_only m.no_direction)) inside)
      (true_both _ _ ((vectors_decides d 0 (forward_is d h) d.forward head).1 l.forward) ((vectors_decides d 1 (backward_is d h) d.backward head).1 l.backward))

-- ---- a macroblock

kind_to : (k i a b c : Bool) → cond k a (cond i b c) ≡ true → (k ≡ true → a ≡ true) × (k ≡ false → i ≡ true → b ≡ true) × (k ≡ false → i ≡ false → c ≡ true)
kind_to true i a b c e = (λ p. e, λ p. absurd (false≢true (sym p)), λ p. absurd (false≢true (sym p)))
kind_to false true a b c e = (λ p. absurd (false≢true p), λ p q. e, λ p q. absurd (false≢true (sym q)))
kind_to false false a b c e = (λ p. absurd (false≢true p), λ p q. absurd (false≢true q), λ p q. e)

kind_from : (k i a b c : Bool) → (k ≡ true → a ≡ true) → (k ≡ false → i ≡ true → b ≡ true) → (k ≡ false → i ≡ false → c ≡ true) → cond k a (cond i b c) ≡ true
kind_from true i a b c f g h = f refl
kind_from false true a b c f g h = g refl refl
kind_from false false a b c f g h = h refl refl

no_head_scale : (start : Bool) (code : ℕ) → is_head_scale start code ≡ true → start ≡ false → code ≡ 0
no_head_scale true code e f = absurd (false≢true (sym f))
no_head_scale false code e f = (Decides-eqb code 0).0 e

module _ (head : Head) (s : Seen) (last : Bool) (d : Decision) (h : IsHeld d) where
  abbrev skipped_test : Bool
  skipped_test = is_legal_skipped head s last d

  abbrev intra_test : Bool
  intra_test = is_legal_intra head d

  abbrev inter_test : Bool
  inter_test = is_legal_inter head s.mb_x s.mb_y d

  abbrev dct_decides : Decides (not head.frame_only || not d.field_dct) (head.frame_only ≡ true → d.field_dct ≡ false)
  dct_decides = where_decides head.frame_only (not d.field_dct) (itself head.frame_only) (not_decides d.field_dct)

  legal_to : is_legal head s last d ≡ true → IsLegal head s last d
  legal_to e =
      let kinds = both_true _ _ e in
      let moves = both_true _ _ kinds.0 in
      let motion = (motion_decides d h).0 moves.1 in
      let codes = both_true _ _ moves.0 in
      let dct = both_true _ _ codes.1 in
      let scales = both_true _ _ dct.0 in
      let start = (flag_decides d.slice_start s.first).0 codes.0 in
      let k = kind_to d.skipped d.intra skipped_test intra_test inter_test kinds.1 in
      record {
        start = start;
        head_scale = (head_scale_decides d.slice_start d.head_scale).0 scales.0;
        scale = (scale_decides d.scale).0 scales.1;
        motion = motion;
        skipped = λ p. skipped_to head s d h last motion p start (no_head_scale d.slice_start d.head_scale scales.0) (k.0 p);
        intra = λ p q. intra_to head s d h (k.1 p q);
        inter = λ p q. inter_to head s.mb_x s.mb_y d h p s refl refl (k.2 p q);
        frame_dct = dct_decides.0 dct.1;
        two_selects = ap (λ (xs : List (List Bool)). length xs) h.selects;
        two_vectors = ap (λ (xs : List (List Vector)). length xs) h.vectors;
      }

  legal_from : IsLegal head s last d → is_legal head s last d ≡ true
  legal_from l =
      true_both _ _ (true_both _ _ (true_both _ _ ((flag_decides d.slice_start s.first).1 l.start)
      (true_both _ _ (true_both _ _ ((head_scale_decides d.slice_start d.head_scale).1 l.head_scale) ((scale_decides d.scale).1 l.scale)) (dct_decides.1 l.frame_dct)))
      ((motion_decides d h).1 l.motion))
      (kind_from d.skipped d.intra skipped_test intra_test inter_test (λ p. skipped_from head s d h last (l.skipped p)) (λ p q. intra_from head s d h (l.intra p q)) (λ p q. inter_from head s.mb_x s.mb_y d h q s refl refl (l.inter p q)))

  pub legal_decides : Decides (is_legal head s last d) (IsLegal head s last d)
  legal_decides = (legal_to, legal_from)

-- ---- a picture

-- what decisions of a slice, the latest first, say to the next one
abbrev pub past_of : Head → List Decision → Past
past_of head past = record {
  first = is_empty past;
  intra = of_last (λ decision. decision.intra) past;
  forward = of_last (λ decision. decision.forward) past;
  backward = of_last (λ decision. decision.backward) past;
  forward_vector = record { x = (predictor head past 0 0).x; y = (predictor head past 0 0).y };
  backward_vector = record { x = (predictor head past 1 0).x; y = (predictor head past 1 0).y };
}

nothing_past : (head : Head) → no_past ≡ past_of head []
unfolding predictor
nothing_past head = refl

in_slice_by : (head : Head) (past : List Decision) (start : Bool) → cond start no_past (past_of head past) ≡ past_of head (cond start [] past)
in_slice_by head past true = nothing_past head
in_slice_by head past false = refl

more_past : (head : Head) (d : Decision) (past : List Decision) → past_behind head d (past_of head past) ≡ past_of head (d ∷ past)
unfolding predictor
more_past head d past = refl

module _ (head : Head) (place : ℕ) (d : Decision) (h : IsHeld d) (later : List Decision) where
  at_decides : (past : List Decision) → Decides (is_legal_at head place (past_of head (in_its_slice d past)) (ends_slice later) d) (IsLegalAt head place past d later)
  at_decides past =
      let row = where_decides (eqb (place % head.mb_wide) 0) d.slice_start (Decides-eqb (place % head.mb_wide) 0) (itself d.slice_start) in
      let legal = legal_decides head (seen head (place % head.mb_wide) (place / head.mb_wide) (in_its_slice d past)) (ends_slice later) d h in
      Decides-like (is_legal_at head place (past_of head (in_its_slice d past)) (ends_slice later) d) (λ e. record { row = e.0; legal = e.1 }) (λ l. (l.row, l.legal)) (Decides-and _ _ row legal)

pub legal_from_decides : (head : Head) (place : ℕ) (past ds : List Decision) → AllByRecursion IsHeld ds → Decides (are_legal_from head place (past_of head past) ds) (AreLegalFrom head place past ds)
unfolding are_legal_from AreLegalFrom
legal_from_decides head place past [] h = (λ e. tt, λ e. refl)
legal_from_decides head place past (d ∷ later) h =
    let same : past_in_slice d (past_of head past) ≡ past_of head (in_its_slice d past) = in_slice_by head past d.slice_start in
    let one = subst (λ (p : Past). Decides (is_legal_at head place p (ends_slice later) d) (IsLegalAt head place past d later)) (sym same) (at_decides head place d h.0 later past) in
    let others = subst (λ (p : Past). Decides (are_legal_from head (place + 1) p later) (AreLegalFrom head (place + 1) (d ∷ in_its_slice d past) later)) (sym (ap (past_behind head d) same ∙ more_past head d (in_its_slice d past)))
    (legal_from_decides head (place + 1) (d ∷ in_its_slice d past) later h.1) in
    Decides-and _ _ one others

-- all decisions of a picture
pub all_legal_decides : (head : Head) (ds : List Decision) → AllByRecursion IsHeld ds → Decides (are_legal_from head 0 no_past ds) (AreLegalFrom head 0 [] ds)
all_legal_decides head ds h = subst (λ (p : Past). Decides (are_legal_from head 0 p ds) (AreLegalFrom head 0 [] ds)) (sym (nothing_past head)) (legal_from_decides head 0 [] ds h)
