-- The units that steps wrote, each accepted behind those before it, and one step more.
use Rattle.std.proofs.Common.{◌≡◌, ℕ, suc, max, Bool, true, false, List, [], ◌∷◌, ◌++◌, map, Option, None, Some, refl, sym, ap, ◌∙◌, subst, arith, append_assoc, append-nil}
use Rattle.std.specs.Prelude.{if◌then◌else◌, ⊤}
use Rattle.std.proofs.lemmas.Bool.{false≢true}
use Rattle.mv_terms.specs.declared.head.Context.{Context}
use Rattle.mv_terms.specs.declared.head.Head.{Head}
use Rattle.mv_terms.specs.declared.head.PicType.{PicType}
use Rattle.mv_terms.specs.declared.head.PicType.TheVariants.{I, P, B}
use Rattle.mv_terms.specs.declared.macroblock.Decision.{Decision}
use Rattle.mv_terms.specs.declared.macroblock.MacroLevels.{MacroLevels}
use Rattle.mv_terms.specs.CodedPicture.{CodedPicture}
use Rattle.mv_terms.specs.PicTypes.{is_anchor}
use Rattle.mv_terms.specs.UnitLists.{UnitLists}
use Rattle.mv_bits.specs.Zeros.{zero_bytes}
use Rattle.mv_heads.specs.declared.sequence_header.CodedSize.{CodedSize}
use Rattle.mv_heads.specs.declared.picture.PictureHead.{PictureHead}
use Rattle.mv_heads.specs.declared.head_state.Heads.{Heads}
use Rattle.mv_heads.specs.HeadElements.{sequence_matrices}
use Rattle.mv_heads.specs.HeadsInTurn.{after, b_pictures_with}
use Rattle.mv_heads.proofs.TurnLaws.{accepted_by}
use Rattle.mv_slices.specs.Canonical.{canonical_slices, canonical_tail, settled}
use Rattle.mv_slices.specs.CanonicalLaws.{IsLegalPicture}
use Rattle.mv_slices.specs.Slices.{Slices}
use Rattle.mv_slices.proofs.CanonicalLaws.{are_read_back, are_unit_slices}
use Rattle.mv_units.specs.declared.next.Before.{Before}
use Rattle.mv_units.specs.declared.next.Before.TheVariants as place
use Rattle.mv_units.specs.Shape.{IsUnit, IsUnitPrefix}
use Rattle.mv_units.specs.Profile.{Accepts, CodedUnit, heads_in}
use Rattle.mv_units.specs.Written.{unit_bytes}
use Rattle.mv_planes.specs.Planes.{Planes}
use Rattle.rec_legal.specs.FoundRecord.{FoundRecord}
use Rattle.plan_window.specs.declared.summary.Step.{Step}
use Rattle.enc_glue.specs.Joined.{AreOpen, before_next, with_zeros, written}
use Rattle.enc_guided.specs.Recoded.{CodedStep, Front, Target, bytes_of_steps, bytes_with, coded_with, glue_of, in_force, levels_of, step_with}
use Rattle.enc_stream.specs.Stream.{coded_by_steps, coded_by_units}
use Rattle.enc_stream.proofs.FrontLemmas.{IsPart, Laws, ReadsUnder}
use Rattle.enc_stream.proofs.PrefixLemmas.{Opens, heads_under}

abbrev pub lists_of : List CodedUnit → List UnitLists
lists_of units = map (λ (u : CodedUnit). u.lists) units

-- each of these units, the latest first, is accepted behind those before it
abbrev pub AreAccepted : List CodedUnit → Type 0
AreAccepted [] = ⊤
AreAccepted (u ∷ before) = AreAccepted before × Accepts (heads_in before) u.lists u

-- ---- a step as a unit

-- with this prefix
abbrev lists_by : List ℕ → Front → List MacroLevels → UnitLists
lists_by prefix front levels = record {
  prefix = prefix;
  head = front.head_bytes;
  slices = canonical_slices front.head front.decisions levels;
  zeros = max front.zeros (canonical_tail front.head front.decisions levels);
  end = None;
}

-- and under this context
abbrev unit_by : CodedSize → Context → ℕ → List ℕ → Front → List MacroLevels → CodedUnit
unit_by size c n prefix front levels = record {
  lists = lists_by prefix front levels;
  accepted = record { head = front.head; heads = heads_under size c (b_pictures_with front.head.pic n) };
  picture = coded_with front levels;
}

slices_say : (head : Head) (decisions : List Decision) (levels : List MacroLevels) → IsLegalPicture head decisions levels
    → Slices head (canonical_slices head decisions levels) (settled head decisions levels) levels
slices_say head decisions levels legal =
    subst (λ (bytes : List ℕ). Slices head bytes (settled head decisions levels) levels) (append-nil (canonical_slices head decisions levels)) (are_read_back head decisions levels legal 0)

unit_shape : (laws : Laws) (t : Target) (guide : Option FoundRecord) (begin : Before) (prefix : List ℕ) (front : Front) (levels : List MacroLevels) → ReadsUnder t guide front → IsUnitPrefix begin prefix → IsLegalPicture front.head front.decisions levels
    → IsUnit begin (lists_by prefix front levels)
unit_shape laws t guide begin prefix front levels reads shape legal = record {
  prefix = shape;
  head = laws.unit_head t.context (sequence_matrices t.context) (record { head = front.head; in_force = sequence_matrices t.context }) front.head_bytes reads.head reads.short_head;
  slices = are_unit_slices front.head front.decisions levels legal;
}

unit_accepted : (size : CodedSize) (t : Target) (guide : Option FoundRecord) (n : ℕ) (before : Option Heads) (begin : Before) (in_front : ℕ) (bytes : List ℕ) (front : Front) (levels : List MacroLevels) → ReadsUnder t guide front → IsLegalPicture front.head front.decisions levels
    → (o : Opens before begin front.head.pic (heads_under size t.context n) in_front bytes) → Accepts before (lists_by o.prefix front levels) (unit_by size t.context n o.prefix front levels)
unit_accepted size t guide n before begin in_front bytes front levels reads legal o =
    let picture : PictureHead = record { head = front.head; in_force = sequence_matrices t.context } in
    record {
      lists_are = refl;
      headers = accepted_by before (lists_by o.prefix front levels) o.context (heads_under size t.context n) picture o.says o.behind reads.head o.comes;
      head = refl;
      slices = slices_say front.head front.decisions levels legal;
    }

-- its bytes
bytes_are : (glue : List ℕ) (zeros : ℕ) (prefix : List ℕ) (front : Front) (levels : List MacroLevels) → glue ++ front.prefix ≡ zero_bytes zeros ++ prefix
    → zero_bytes zeros ++ unit_bytes (lists_by prefix front levels) ≡ glue ++ bytes_with front levels
bytes_are glue zeros prefix front levels is =
    let slices : List ℕ = canonical_slices front.head front.decisions levels in
    let tail : List ℕ = zero_bytes (max front.zeros (canonical_tail front.head front.decisions levels)) in
    ap (λ (x : List ℕ). zero_bytes zeros ++ (prefix ++ (front.head_bytes ++ (slices ++ x)))) (append-nil tail)
    ∙ sym (append_assoc (zero_bytes zeros) prefix (front.head_bytes ++ (slices ++ tail)))
    ∙ ap (λ (x : List ℕ). x ++ (front.head_bytes ++ (slices ++ tail))) (sym is)
    ∙ append_assoc glue front.prefix (front.head_bytes ++ (slices ++ tail))

-- ---- zero bytes behind a unit

abbrev zeros_behind : ℕ → CodedUnit → CodedUnit
zeros_behind n u = record { lists = with_zeros n u.lists; accepted = u.accepted; picture = u.picture }

still_accepted : (n : ℕ) (before : Option Heads) (u : CodedUnit) → Accepts before u.lists u → Accepts before (with_zeros n u.lists) (zeros_behind n u)
unfolding after
still_accepted n before u a = record { lists_are = refl; headers = a.headers; head = a.head; slices = a.slices }

-- ---- steps

-- the Bs since the last anchor
abbrev pub since : List CodedStep → ℕ
since [] = 0
since (s ∷ before) = if s.anchor then 0 else suc (since before)

pub since_more : (c : CodedStep) (done : List CodedStep) (a : Bool) → c.anchor ≡ a → since (c ∷ done) ≡ (if a then 0 else suc (since done))
since_more c done true e = rw e refl
since_more c done false e = rw e refl

pub in_force_more : (c : CodedStep) (done : List CodedStep) (a : Bool) → c.anchor ≡ a → in_force (c ∷ done) ≡ (if a then Some c.target else in_force done)
in_force_more c done true e = rw e refl
in_force_more c done false e = rw e refl

-- What these steps wrote are units, the latest first, which are accepted, and code the pictures of the steps.
pub record Standing (size : CodedSize) (done : List CodedStep) : Type 0 where
  pub last : CodedUnit
  pub before : List CodedUnit
  pub are_open : AreOpen (lists_of (last ∷ before))
  pub accepted : AreAccepted (last ∷ before)
  pub written_is : written (lists_of (last ∷ before)) ≡ bytes_of_steps done
  pub coded : coded_by_units (last ∷ before) ≡ coded_by_steps done
  pub target : Target
  pub target_is : in_force done ≡ Some target
  pub part : IsPart size target
  pub heads : last.accepted.heads ≡ heads_under size target.context (since done)

counted : (pic : PicType) (a : Bool) (n : ℕ) → is_anchor pic ≡ a → b_pictures_with pic n ≡ (if a then 0 else suc n)
unfolding b_pictures_with
counted I true n is = refl
counted I false n is = absurd (false≢true (sym is))
counted P true n is = refl
counted P false n is = absurd (false≢true (sym is))
counted B true n is = absurd (false≢true is)
counted B false n is = omega arith

-- the sequence part that a step leaves in force
abbrev Leaves : Bool → List CodedStep → Target → Type 0
Leaves a done t = (if a then Some t else in_force done) ≡ Some t

module _ (laws : Laws) (size : CodedSize) (step : Step) (guide : Option FoundRecord) (t : Target) (front : Front) (source : Planes) (part : IsPart size t) (reads : ReadsUnder t guide front) (type : is_anchor front.head.pic ≡ step.anchor) where
  abbrev levels : List CodedStep → List MacroLevels
  levels done = levels_of front source done

  abbrev now : List CodedStep → CodedStep
  now done = step_with step guide t front (levels done) done

  abbrev glue : List CodedStep → List ℕ
  glue done = glue_of step.anchor guide done t

  heads_now : (done : List CodedStep) → heads_under size t.context (b_pictures_with front.head.pic (since done)) ≡ heads_under size t.context (since (now done ∷ done))
  heads_now done = ap (λ (n : ℕ). heads_under size t.context n) (counted front.head.pic step.anchor (since done) type ∙ sym (since_more (now done) done step.anchor refl))

  -- the first step
  pub first_stands : Leaves step.anchor [] t → Opens None place.Stream front.head.pic (heads_under size t.context 0) 0 (glue [] ++ front.prefix) → Standing size (now [] ∷ [])
  unfolding AreOpen written
  first_stands leaves o =
      let legal = reads.legal source [] in
      record {
        last = unit_by size t.context 0 o.prefix front (levels []);
        before = [];
        are_open = (unit_shape laws t guide place.Stream o.prefix front (levels []) reads o.shape legal, refl, tt);
        accepted = (tt, unit_accepted size t guide 0 None place.Stream 0 (glue [] ++ front.prefix) front (levels []) reads legal o);
        written_is = bytes_are (glue []) 0 o.prefix front (levels []) o.is;
        coded = refl;
        target = t;
        target_is = in_force_more (now []) [] step.anchor refl ∙ leaves;
        part = part;
        heads = heads_now [];
      }

  -- a step behind others
  pub next_stands : (done : List CodedStep) (s : Standing size done) (zeros : ℕ) → Leaves step.anchor done t
      → Opens (Some (heads_under size s.target.context (since done))) place.Unit front.head.pic (heads_under size t.context (since done)) zeros (glue done ++ front.prefix) → Standing size (now done ∷ done)
  unfolding AreOpen written
  next_stands done s zeros leaves opens =
      let o : Opens (Some s.last.accepted.heads) place.Unit front.head.pic (heads_under size t.context (since done)) zeros (glue done ++ front.prefix) =
      subst (λ (h : Heads). Opens (Some h) place.Unit front.head.pic (heads_under size t.context (since done)) zeros (glue done ++ front.prefix)) (sym s.heads) opens in
      let legal = reads.legal source done in
      let u : CodedUnit = unit_by size t.context (since done) o.prefix front (levels done) in
      let v : CodedUnit = zeros_behind zeros s.last in
      let more = laws.unit_zeros (before_next (lists_of s.before)) zeros s.last.lists s.are_open.0 s.are_open.1 in
      let others : List ℕ = written (lists_of s.before) in
      let unit : List ℕ = unit_bytes u.lists in
      let bytes : (others ++ unit_bytes v.lists) ++ unit ≡ bytes_of_steps done ++ (now done).bytes =
      ap (λ (x : List ℕ). (others ++ x) ++ unit) more.1
      ∙ ap (λ (x : List ℕ). x ++ unit) (sym (append_assoc others (unit_bytes s.last.lists) (zero_bytes zeros)) ∙ ap (λ (x : List ℕ). x ++ zero_bytes zeros) s.written_is)
      ∙ append_assoc (bytes_of_steps done) (zero_bytes zeros) unit
      ∙ ap (λ (x : List ℕ). bytes_of_steps done ++ x) (bytes_are (glue done) zeros o.prefix front (levels done) o.is) in
      record {
        last = u;
        before = v ∷ s.before;
        are_open = (unit_shape laws t guide place.Unit o.prefix front (levels done) reads o.shape legal, refl, (more.0, s.are_open.1, s.are_open.2));
        accepted = (
          (s.accepted.0, still_accepted zeros (heads_in s.before) s.last s.accepted.1),
          unit_accepted size t guide (since done) (Some s.last.accepted.heads) place.Unit zeros (glue done ++ front.prefix) front (levels done) reads legal o,
        );
        written_is = bytes;
        coded = ap (λ (l : List CodedPicture). coded_with front (levels done) ∷ l) s.coded;
        target = t;
        target_is = in_force_more (now done) done step.anchor refl ∙ leaves;
        part = part;
        heads = heads_now done;
      }
