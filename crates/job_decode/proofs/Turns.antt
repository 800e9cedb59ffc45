-- How far a stream has come: the units that were let go, and what is written of them.
use Rattle.std.proofs.Common.{◌≡◌, ℕ, ◌+◌, true, List, [], ◌∷◌, ◌++◌, length, Option, None, Some, inl, inr, refl, sym, ap, ◌∙◌, subst, append_assoc, append-nil, arith}
use Rattle.std.proofs.lemmas.List.{length-append}
use Rattle.std.specs.Io.KnownBytes.{Appends, IsAtEnd}
use Rattle.mv_ends.specs.Moves.{Inputs, Opens}
use Rattle.mv_ends.proofs.Known.{Appends-trans}
use Rattle.mv_terms.specs.declared.status.Why.{Why}
use Rattle.mv_terms.specs.UnitLists.{UnitLists}
use Rattle.mv_slices.specs.Slices.{IsCodedOrRefused}
use Rattle.mv_units.specs.declared.cutter.Cut.TheVariants as cuts
use Rattle.mv_units.specs.Units.{Units, Fed, units_left, units_of, nothing_fed, cut_of, ready_unit, behind_ready, StandsFor, AreAll, goes_on}
use Rattle.mv_units.specs.Profile.{CodedUnit, Judged, JudgedTo, HasUnits, Accepts, Refuses, heads_in}
use Rattle.mv_units.proofs.JudgementLaws.{judged_to_one}
use Rattle.cert_picture.specs.FrameFileOf.{frame_behind, frames_of, gives, due, due_to}
use Rattle.cert_picture.proofs.FrameFileLaws.{due_next}
use Rattle.job_decode.specs.declared.work.Work.{Work}
use Rattle.job_decode.specs.Steps.{IsFed, IsTaken, WorkStands, TakesWhole}
use Rattle.job_decode.proofs.Growth.{judged_more}
use Rattle.mv_units.proofs.CuttingLaws.{stands_for_next}
use Rattle.job_decode.proofs.Feeds.{all_bytes, fed_starts}

-- These units were accepted: however the units behind them are judged, so are all.
abbrev pub AreJudged : List UnitLists → List CodedUnit → Type 0
AreJudged let_go before = (left : List UnitLists) (refusal : Option Why) (judged : Judged) → JudgedTo before left refusal judged → JudgedTo [] (let_go ++ left) refusal judged

pub record Turn (named : Option Inputs) (name : List ℕ) (rest : Option (List ℕ)) (fed : Fed) (unfed : List ℕ) (work : Option Work) (count : ℕ) (old now : Option (List ℕ)) : Type 0 where
  pub let_go : List UnitLists
  pub before : List CodedUnit
  pub is_fed : IsFed named name rest fed unfed let_go
  pub are_judged : AreJudged let_go before
  pub same_count : length before ≡ length let_go
  pub count_is : count ≡ length before
  pub stands : WorkStands work before
  pub written : Appends old now (due before)

nothing_due : (old : Option (List ℕ)) → Appends old old (due [])
unfolding frames_of due_to
nothing_due None = tt
nothing_due (Some p) = sym (append-nil p)

pub turn_starts : (named : Option Inputs) (name : List ℕ) (rest : Option (List ℕ)) (fed : Fed) (old : Option (List ℕ)) → fed ≡ nothing_fed → StandsFor fed [] [] → Opens named name rest → Turn named name rest fed [] None 0 old old
turn_starts named name rest fed old nothing stands opens = record {
  let_go = [];
  before = [];
  is_fed = fed_starts named name rest fed nothing stands opens;
  are_judged = λ left refusal judged h. h;
  same_count = refl;
  count_is = refl;
  stands = refl;
  written = nothing_due old;
}

pub turn_advances : (named : Option Inputs) (name : List ℕ) (rest now : Option (List ℕ)) (fed next : Fed) (unfed later : List ℕ) (work : Option Work) (count : ℕ) (old out : Option (List ℕ)) → Turn named name rest fed unfed work count old out
    → ((let_go : List UnitLists) → IsFed named name rest fed unfed let_go → IsFed named name now next later let_go) → Turn named name now next later work count old out
turn_advances named name rest now fed next unfed later work count old out t goes = record {
  let_go = t.let_go;
  before = t.before;
  is_fed = goes t.let_go t.is_fed;
  are_judged = t.are_judged;
  same_count = t.same_count;
  count_is = t.count_is;
  stands = t.stands;
  written = t.written;
}

-- ---- a unit is accepted

pub judged_next : (let_go : List UnitLists) (before : List CodedUnit) (lists : UnitLists) (u : CodedUnit) → AreJudged let_go before → Accepts (heads_in before) lists u → AreJudged (let_go ++ lists ∷ []) (u ∷ before)
judged_next let_go before lists u so accepts left refusal judged h =
    subst (λ (us : List UnitLists). JudgedTo [] us refusal judged) (sym (append_assoc let_go (lists ∷ []) left)) (so (lists ∷ left) refusal judged (inl (u, accepts, h)))

-- the units behind it
pub fed_next : (named : Option Inputs) (name : List ℕ) (rest : Option (List ℕ)) (fed : Fed) (unfed : List ℕ) (let_go : List UnitLists) → cut_of fed ≡ cuts.Ready → IsFed named name rest fed unfed let_go
    → IsFed named name rest (behind_ready fed) unfed (let_go ++ ready_unit fed ∷ [])
fed_next named name rest fed unfed let_go ready so = record {
  past = so.past;
  stands = stands_for_next fed so.past let_go ready so.stands;
  at_end = so.at_end;
  told = λ inputs told.
      let t = so.told inputs told in
      record {
        taken = t.taken;
        ended = t.ended;
        near = λ n more. t.near n (omega (arith, more, length-append let_go (ready_unit fed ∷ [])));
      };
}

pub turn_accepts : (named : Option Inputs) (name : List ℕ) (rest : Option (List ℕ)) (fed next : Fed) (unfed : List ℕ) (work later : Option Work) (count : ℕ) (lists : UnitLists) (old mid new : Option (List ℕ)) → (t : Turn named name rest fed unfed work count old mid)
    → cut_of fed ≡ cuts.Ready → next ≡ behind_ready fed → lists ≡ ready_unit fed → TakesWhole (λ units. WorkStands later units) t.before lists mid new → Turn named name rest next unfed later (count + 1) old new
turn_accepts named name rest fed next unfed work later count lists old mid new t ready next_is is takes =
    let u = takes.takes.unit in
    record {
      let_go = t.let_go ++ lists ∷ [];
      before = u ∷ t.before;
      is_fed = subst (λ (x : Fed). IsFed named name rest x unfed (t.let_go ++ lists ∷ [])) (sym next_is)
          (subst (λ (x : UnitLists). IsFed named name rest (behind_ready fed) unfed (t.let_go ++ x ∷ [])) (sym is) (fed_next named name rest fed unfed t.let_go ready t.is_fed));
      are_judged = judged_next t.let_go t.before lists u t.are_judged takes.takes.accepts;
      same_count = let c : length t.before ≡ length t.let_go = t.same_count in omega (arith, c, length-append t.let_go (lists ∷ []));
      count_is = let c : count ≡ length t.before = t.count_is in omega (arith, c);
      stands = takes.stands;
      written = subst (λ (s : List ℕ). Appends old new s) (sym (due_next t.before u))
          (Appends-trans old mid new (due t.before) (gives (frames_of t.before) (frame_behind (frames_of t.before) u)) t.written takes.takes.moves);
    }

-- ---- the stream whole

-- what follows of an input
pub record Follows (input past : List ℕ) (fed : Fed) (unfed : List ℕ) (rest : Option (List ℕ)) : Type 0 where
  pub left : List ℕ
  pub rest_is : rest ≡ Some left
  pub input_is : input ≡ past ++ (unfed ++ left)
  pub none : fed.closed ≡ true → unfed ++ left ≡ []

pub follows : (input past unfed : List ℕ) (fed : Fed) (rest : Option (List ℕ)) (count : ℕ) → IsTaken input rest fed unfed past count → Follows input past fed unfed rest
follows input past unfed fed rest count t =
    let all = all_bytes input (past ++ unfed) rest t.taken in
    record {
      left = all.0;
      rest_is = all.1;
      input_is = all.2 ∙ append_assoc past unfed all.0;
      none = λ e.
          let ends = t.ended e in
          let nothing : all.0 ≡ [] = subst (λ (o : Option (List ℕ)). IsAtEnd o) all.1 ends.1 in
          ap (λ (s : List ℕ). s ++ all.0) ends.0 ∙ nothing;
    }

-- the units of the input are those let go, and others
pub units_are : (input past unfed : List ℕ) (fed : Fed) (rest : Option (List ℕ)) (let_go : List UnitLists) → StandsFor fed past let_go → (f : Follows input past fed unfed rest)
    → units_of input ≡ record (units_left (goes_on fed true (unfed ++ f.left))) { units = let_go ++ (units_left (goes_on fed true (unfed ++ f.left))).units }
units_are input past unfed fed rest let_go stands f =
    ap (λ (s : List ℕ). units_of s) f.input_is ∙ stands true (unfed ++ f.left) (λ e. (refl, f.none e))

-- The stream is judged so, and begins with these units.
pub record Begins (input : List ℕ) (before : List CodedUnit) : Type 0 where
  pub judged : Judged
  pub has : HasUnits input judged
  pub more : List CodedUnit
  pub units_are : judged.units ≡ more ++ before

pub begins_by : IsCodedOrRefused → (input : List ℕ) (let_go left : List UnitLists) (before : List CodedUnit) (refusal : Option Why) → AreJudged let_go before → units_of input ≡ record { units = let_go ++ left; refusal = refusal } → Begins input before
begins_by law input let_go left before refusal so is =
    let one = judged_to_one law before left refusal in
    let more = judged_more left before refusal one.judged one.is in
    record {
      judged = one.judged;
      has = subst (λ (us : Units). JudgedTo [] us.units us.refusal one.judged) (sym is) (so left refusal one.judged one.is);
      more = more.more;
      units_are = more.units_are;
    }

pub begins : IsCodedOrRefused → (input : List ℕ) (rest : Option (List ℕ)) (fed : Fed) (unfed past : List ℕ) (let_go : List UnitLists) (before : List CodedUnit) → AreJudged let_go before → StandsFor fed past let_go → IsTaken input rest fed unfed past (length let_go) → Begins input before
begins law input rest fed unfed past let_go before so stands t =
    let f = follows input past unfed fed rest (length let_go) t in
    let later = units_left (goes_on fed true (unfed ++ f.left)) in
    begins_by law input let_go later.units before later.refusal so (units_are input past unfed fed rest let_go stands f)

-- the cutter says how the stream ends
pub settled : (input : List ℕ) (rest : Option (List ℕ)) (fed : Fed) (unfed past : List ℕ) (let_go : List UnitLists) (before : List CodedUnit) (refusal : Option Why) → AreJudged let_go before → AreAll fed past let_go refusal → IsTaken input rest fed unfed past (length let_go)
    → HasUnits input (record { units = before; refusal = refusal })
settled input rest fed unfed past let_go before refusal so all t =
    let f = follows input past unfed fed rest (length let_go) t in
    let is : units_of input ≡ record { units = let_go; refusal = refusal } = ap (λ (s : List ℕ). units_of s) f.input_is ∙ all true (unfed ++ f.left) (λ e. (refl, f.none e)) in
    let whole : units_of input ≡ record { units = let_go ++ []; refusal = refusal } = is ∙ ap (λ (us : List UnitLists). record { units = us; refusal = refusal }) (sym (append-nil let_go)) in
    subst (λ (us : Units). JudgedTo [] us.units us.refusal (record { units = before; refusal = refusal })) (sym whole) (so [] refusal (record { units = before; refusal = refusal }) refl)

-- a unit is refused
pub wrong : (input : List ℕ) (rest : Option (List ℕ)) (fed : Fed) (unfed past : List ℕ) (let_go : List UnitLists) (before : List CodedUnit) (lists : UnitLists) (why : Why) → AreJudged let_go before → StandsFor fed past (let_go ++ lists ∷ [])
    → IsTaken input rest fed unfed past (length (let_go ++ lists ∷ [])) → Refuses (heads_in before) lists why → HasUnits input (record { units = before; refusal = Some why })
wrong input rest fed unfed past let_go before lists why so stands t refuses =
    let f = follows input past unfed fed rest (length (let_go ++ lists ∷ [])) t in
    let later = units_left (goes_on fed true (unfed ++ f.left)) in
    let is : units_of input ≡ record { units = let_go ++ (lists ∷ later.units); refusal = later.refusal } =
    units_are input past unfed fed rest (let_go ++ lists ∷ []) stands f
    ∙ ap (λ (us : List UnitLists). record { units = us; refusal = later.refusal }) (append_assoc let_go (lists ∷ []) later.units) in
    subst (λ (us : Units). JudgedTo [] us.units us.refusal (record { units = before; refusal = Some why })) (sym is)
    (so (lists ∷ later.units) later.refusal (record { units = before; refusal = Some why }) (inr (why, refuses, refl)))
