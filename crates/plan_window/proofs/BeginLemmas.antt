-- The steps over numbers are those over contexts, whatever frames follow: for each context there is a number.
use Rattle.std.proofs.Common.{◌≡◌, ◌≢◌, ◌⊎◌, ℕ, zero, suc, ◌+◌, ◌-◌, ◌<◌, ◌≤◌, Bool, true, false, List, [], ◌∷◌, ◌++◌, length, slice_get, replicate, bytes_eq, Some, refl, sym, ap, ◌∙◌, subst, inl, inr, true≢false, append_assoc, append-nil, arith}
use Rattle.std.proofs.lemmas.Bool.{cases_lt}
use Rattle.std.proofs.lemmas.List.{length-map, length-replicate}
use Rattle.std.proofs.lemmas.Slice.Eq.{bytes_eq-Decides}
use Rattle.plan_window.specs.declared.summary.Summary.{Summary}
use Rattle.plan_window.specs.declared.summary.Step.{Step}
use Rattle.plan_window.specs.Plan.{ahead, plan}
use Rattle.plan_window.specs.Numbers.{without_context, AreNumbered, AgreesWithLast, NumbersBegin}
use Rattle.plan_window.proofs.AddedLemmas.{some_is, one_more}
use Rattle.plan_window.proofs.StepLemmas.{get_below}
use Rattle.plan_window.proofs.GroupLemmas.{get_within}
use Rattle.plan_window.proofs.NumberLemmas.{same_plan}
use Rattle.plan_window.proofs.PlanLemmas.{begins}

as_many : (w : ℕ) (frames numbered : List Summary) → AreNumbered w frames numbered → length frames ≡ length numbered
as_many w frames numbered same = sym (length-map frames without_context) ∙ ap (λ (l : List Summary). length l) same.rest ∙ length-map numbered without_context

same_test : (xs ys us vs : List ℕ) → (xs ≡ ys → us ≡ vs) → (us ≡ vs → xs ≡ ys) → bytes_eq xs ys ≡ bytes_eq us vs
same_test xs ys us vs to from = go (bytes_eq xs ys) refl (bytes_eq us vs) refl
  where
    go : (b : Bool) → bytes_eq xs ys ≡ b → (d : Bool) → bytes_eq us vs ≡ d → b ≡ d
    go true e true f = refl
    go true e false f = absurd (true≢false (sym ((bytes_eq-Decides us vs).1 (to ((bytes_eq-Decides xs ys).0 e))) ∙ f))
    go false e true f = absurd (true≢false (sym ((bytes_eq-Decides xs ys).1 (from ((bytes_eq-Decides us vs).0 f))) ∙ e))
    go false e false f = refl

test_iff : (xs ys us vs : List ℕ) → bytes_eq xs ys ≡ bytes_eq us vs → xs ≡ ys → us ≡ vs
test_iff xs ys us vs e h = (bytes_eq-Decides us vs).0 (sym e ∙ (bytes_eq-Decides xs ys).1 h)

-- at least as long as each context
abbrev longest : List Summary → ℕ
longest [] = 0
longest (x ∷ xs) = length x.context + longest xs

longer : (xs : List Summary) (i : ℕ) (x : Summary) → slice_get xs i ≡ Some x → length x.context ≤ longest xs
longer [] i x e = absurd cc
longer (y ∷ xs) zero x e = let same : y ≡ x = cc in omega (arith, ap (λ (z : Summary). length z.context) same)
longer (y ∷ xs) (suc i) x e = let h = longer xs i x e in omega (arith, h)

-- a frame from some place on that has this context, if there is one
data Search (frames : List Summary) (from : ℕ) (c : List ℕ) : Type 0 where
  found : (r : ℕ) (x : Summary) → from ≤ r → slice_get frames r ≡ Some x → x.context ≡ c → Search frames from c
  nowhere : ((i : ℕ) (x : Summary) → from ≤ i → slice_get frames i ≡ Some x → x.context ≢ c) → Search frames from c

search_from : (frames : List Summary) (from : ℕ) (c : List ℕ) → Search frames from c
search_from [] from c = nowhere (λ i x le e. absurd cc)
search_from (y ∷ frames) zero c = go (bytes_eq y.context c) refl (search_from frames 0 c)
  where
    go : (b : Bool) → bytes_eq y.context c ≡ b → Search frames 0 c → Search (y ∷ frames) 0 c
    go true e more = found 0 y (omega arith) refl ((bytes_eq-Decides y.context c).0 e)
    go false e (found r x le at is) = found (suc r) x (omega arith) at is
    go false e (nowhere none) = nowhere all
      where
        all : (i : ℕ) (x : Summary) → 0 ≤ i → slice_get (y ∷ frames) i ≡ Some x → x.context ≢ c
        all zero x le at h = true≢false (sym ((bytes_eq-Decides y.context c).1 (ap (λ (z : Summary). z.context) (some_is y x at) ∙ h)) ∙ e)
        all (suc i) x le at h = none i x (omega arith) at h
search_from (y ∷ frames) (suc from) c = go (search_from frames from c)
  where
    go : Search frames from c → Search (y ∷ frames) (suc from) c
    go (found r x le at is) = found (suc r) x (omega (arith, le)) at is
    go (nowhere none) = nowhere all
      where
        all : (i : ℕ) (x : Summary) → suc from ≤ i → slice_get (y ∷ frames) i ≡ Some x → x.context ≢ c
        all zero x le at h = omega (arith, le)
        all (suc i) x le at h = none i x (omega (arith, le)) at h

abbrev with_context : Summary → List ℕ → Summary
with_context s c = record s { context = c }

extend_one : (w : ℕ) (frames numbered : List Summary) (s : Summary) → AreNumbered w frames numbered → (t : Summary) × AreNumbered w (frames ++ s ∷ []) (numbered ++ t ∷ [])
extend_one w frames numbered s same = go (search_from frames (length frames - w) s.context)
  where
    many : length frames ≡ length numbered
    many = as_many w frames numbered same

    go : Search frames (length frames - w) s.context → (t : Summary) × AreNumbered w (frames ++ s ∷ []) (numbered ++ t ∷ [])
    go (nowhere none) = (with_context s (replicate (suc (longest numbered)) 0), one_more w frames numbered s (with_context s (replicate (suc (longest numbered)) 0)) same agrees refl)
      where
        agrees : AgreesWithLast w frames numbered s (with_context s (replicate (suc (longest numbered)) 0))
        agrees i a c lt le at is = same_test a.context s.context c.context (replicate (suc (longest numbered)) 0)
            (λ e. absurd (none i a (omega (arith, le)) at e))
            (λ e. absurd (let h = longer numbered i c is in omega (arith, h, ap (λ (l : List ℕ). length l) e, length-replicate {A = ℕ} (suc (longest numbered)) 0)))
    go (found r x le at is) = known (get_within numbered r (omega (arith, get_below frames r x at, many)))
      where
        known : (y : Summary) × (slice_get numbered r ≡ Some y) → (t : Summary) × AreNumbered w (frames ++ s ∷ []) (numbered ++ t ∷ [])
        known (y, there) = (with_context s y.context, one_more w frames numbered s (with_context s y.context) same agrees refl)
          where
            within : r < length frames
            within = get_below frames r x at

            agrees : AgreesWithLast w frames numbered s (with_context s y.context)
            agrees i a c lt near at_i is_i = by (cases_lt i r) (cases_lt r i)
              where
                by : (i < r) ⊎ (r ≤ i) → (r < i) ⊎ (i ≤ r) → bytes_eq a.context s.context ≡ bytes_eq c.context y.context
                by (inl l) _ = ap (bytes_eq a.context) (sym is) ∙ same.contexts i r a x c y l (omega (arith, near, within)) at_i at is_i there
                by (inr g) (inl l) =
                    let h = same.contexts r i x a y c l (omega (arith, le, lt)) at at_i there is_i in
                    same_test a.context s.context c.context y.context
                    (λ e. sym (test_iff x.context a.context y.context c.context h (is ∙ sym e)))
                    (λ e. sym (test_iff y.context c.context x.context a.context (sym h) (sym e)) ∙ is)
                by (inr g) (inr l) =
                    let e : i ≡ r = omega (arith, g, l) in
                    let a_is : a ≡ x = some_is a x (sym at_i ∙ ap (slice_get frames) e ∙ at) in
                    let c_is : c ≡ y = some_is c y (sym is_i ∙ ap (slice_get numbered) e ∙ there) in
                    same_test a.context s.context c.context y.context (λ _. ap (λ (z : Summary). z.context) c_is) (λ _. ap (λ (z : Summary). z.context) a_is ∙ is)

extend : (w : ℕ) (frames numbered more : List Summary) → AreNumbered w frames numbered → (others : List Summary) × (length others ≡ length more) × AreNumbered w (frames ++ more) (numbered ++ others)
extend w frames numbered [] same = ([], refl, subst (λ (l : List Summary). AreNumbered w l (numbered ++ [])) (sym (append-nil frames)) (subst (λ (l : List Summary). AreNumbered w frames l) (sym (append-nil numbered)) same))
extend w frames numbered (s ∷ more) same = go (extend_one w frames numbered s same) (λ t h. extend w (frames ++ s ∷ []) (numbered ++ t ∷ []) more h)
  where
    go : (t : Summary) × AreNumbered w (frames ++ s ∷ []) (numbered ++ t ∷ [])
        → ((t : Summary) → AreNumbered w (frames ++ s ∷ []) (numbered ++ t ∷ []) → (others : List Summary) × (length others ≡ length more) × AreNumbered w ((frames ++ s ∷ []) ++ more) ((numbered ++ t ∷ []) ++ others))
        → (others : List Summary) × (length others ≡ length (s ∷ more)) × AreNumbered w (frames ++ s ∷ more) (numbered ++ others)
    go (t, h) rest = let (others, long, all) = rest t h in (
      t ∷ others,
      ap suc long,
      subst (λ (l : List Summary). AreNumbered w l (numbered ++ t ∷ others)) (append_assoc frames (s ∷ []) more)
          (subst (λ (l : List Summary). AreNumbered w ((frames ++ s ∷ []) ++ more) l) (append_assoc numbered (t ∷ []) others) all),
    )

none_of : {X Y : Type 0} (xs : List X) (ys : List Y) → length xs ≡ length ys → ys ≡ [] → xs ≡ []
none_of [] ys e h = refl
none_of (x ∷ xs) ys e h = absurd (omega (arith, ap length h, e))

pub numbers_begin : NumbersBegin
numbers_begin window frames numbered given st same more may = go (extend ahead frames numbered more same)
  where
    go : (others : List Summary) × (length others ≡ length more) × AreNumbered ahead (frames ++ more) (numbered ++ others) → (later : List Step) × (plan ahead (frames ++ more) ≡ later ++ given)
    go (others, long, all) = let (later, e) = begins ahead window numbered given st others (λ c. none_of others more long (may c)) in
        (later, same_plan ahead (frames ++ more) (numbered ++ others) all ∙ e)
