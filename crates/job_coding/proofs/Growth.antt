-- What more steps add, and what more frames leave.
use Rattle.std.proofs.Common.{◌≡◌, ◌⊎◌, inl, inr, ℕ, zero, suc, ◌+◌, ◌-◌, ◌<◌, ◌≤◌, List, [], ◌∷◌, ◌++◌, length, map, drop, get_or, refl, sym, ap, ap₂, ◌∙◌, subst, append_assoc, append-nil, length-append, arith}
use Rattle.std.proofs.lemmas.List.{map-append}
use Rattle.std.proofs.lemmas.Bool.{cases_lt}
use Rattle.plan_window.specs.declared.summary.Summary.{Summary}
use Rattle.plan_window.specs.declared.summary.Step.{Step}
use Rattle.plan_window.specs.Plan.{ahead, plan}
use Rattle.plan_window.specs.State.{WindowState}
use Rattle.plan_window.specs.Stands.{StandsFor, MayFollow}
use Rattle.plan_window.specs.Numbers.{AreNumbered}
use Rattle.plan_window.specs.Fits.{Planned, Fits, planned, planned_step}
use Rattle.plan_window.proofs.BeginLemmas.{numbers_begin}
use Rattle.plan_window.proofs.FitLemmas.{plan_fits}
use Rattle.enc_guided.specs.Recoded.{FrameStep}
use Rattle.enc_guided.specs.FileSteps.{step_of_frame}
use Rattle.job_coding.specs.Codings.{Coding, summaries, frame_steps, steps_of, bytes_of_coding, output_of, planned_of}

-- what later steps write comes behind
pub bytes_more : (k : Coding) (later before : List FrameStep) → (b : List ℕ) × (bytes_of_coding k (later ++ before) ≡ bytes_of_coding k before ++ b)
bytes_more k [] before = ([], sym (append-nil (bytes_of_coding k before)))
bytes_more k (s ∷ later) before = go (bytes_more k later before)
  where
    go : (b : List ℕ) × (bytes_of_coding k (later ++ before) ≡ bytes_of_coding k before ++ b)
        → (b : List ℕ) × (bytes_of_coding k (later ++ before) ++ k.bytes (later ++ before) s ≡ bytes_of_coding k before ++ b)
    go (b, e) = let more = k.bytes (later ++ before) s in
        (b ++ more, ap (λ (x : List ℕ). x ++ more) e ∙ append_assoc (bytes_of_coding k before) b more)

-- the first of some steps write no more than all of them
pub front_is_less : (k : Coding) (n : ℕ) (steps : List FrameStep) → length (bytes_of_coding k (drop n steps)) ≤ length (bytes_of_coding k steps)
front_is_less k zero steps = omega arith
front_is_less k (suc n) [] = omega arith
front_is_less k (suc n) (s ∷ before) =
    let h = front_is_less k n before in omega (arith, h, length-append (bytes_of_coding k before) (k.bytes before s))

drop_past : {X : Type 0} (n : ℕ) (later before : List X) → length later ≤ n → drop n (later ++ before) ≡ drop (n - length later) before
drop_past n [] before le = let e : n ≡ n - 0 = omega arith in ap (λ (m : ℕ). drop m before) e
drop_past zero (x ∷ later) before le = absurd (omega arith)
drop_past (suc n) (x ∷ later) before le =
    let e : suc n - suc (length later) ≡ n - length later = omega arith in
    drop_past n later before (omega arith) ∙ ap (λ (m : ℕ). drop m before) (sym e)

-- the first n steps are among those before, where these are n at least
first_within : (k : Coding) (later before : List FrameStep) (n : ℕ) → n ≤ length before → length (bytes_of_coding k (drop (length (later ++ before) - n) (later ++ before))) ≤ length (bytes_of_coding k before)
first_within k later before n le =
    let all = length-append later before in
    let e = drop_past (length (later ++ before) - n) later before (omega (arith, all)) in
    rw e (front_is_less k ((length (later ++ before) - n) - length later) before)

-- where fewer bytes were written than s + 1 steps have, no more than s steps were written
pub few_steps : (k : Coding) (later before : List FrameStep) (s n : ℕ) → length (bytes_of_coding k before) ≤ n → n < length (bytes_of_coding k (drop (length (later ++ before) - (s + 1)) (later ++ before))) → length before ≤ s
few_steps k later before s n long few = go (cases_lt s (length before))
  where
    go : (s < length before) ⊎ (length before ≤ s) → length before ≤ s
    go (inr le) = le
    go (inl lt) = absurd (let h = first_within k later before (s + 1) (omega (arith, lt)) in omega (arith, h, long, few))

-- each step is of one of so many frames
abbrev pub Below : List Step → ℕ → Type 0
Below [] n = Unit {0}
Below (s ∷ given) n = (s.frame < n) × Below given n

pub below_more : (given : List Step) (n m : ℕ) → n ≤ m → Below given n → Below given m
below_more [] n m le h = tt
below_more (s ∷ given) n m le h = (omega (arith, le, h.0), below_more given n m le h.1)

get_first : (xs ys : List (List ℕ)) (i : ℕ) → i < length xs → get_or (xs ++ ys) i [] ≡ get_or xs i []
get_first [] ys i h = absurd (omega arith)
get_first (x ∷ xs) ys zero h = refl
get_first (x ∷ xs) ys (suc i) h = get_first xs ys i (omega arith)

-- more frames leave the steps as they are
pub steps_same : (frames more : List (List ℕ)) (given : List Step) → Below given (length frames) → frame_steps (frames ++ more) given ≡ frame_steps frames given
steps_same frames more [] h = refl
steps_same frames more (s ∷ given) h =
    ap₂ (λ (c : FrameStep) (l : List FrameStep). c ∷ l) (ap (λ (f : List ℕ). record { step = s; frame = f }) (get_first frames more s.frame h.0)) (steps_same frames more given h.1)

-- The steps given so far begin the steps of all frames, whatever frames follow.
pub steps_begin : (k : Coding) (window : WindowState) (frames : List (List ℕ)) (numbered : List Summary) (given : List Step) → StandsFor ahead window numbered given → AreNumbered ahead (summaries k frames) numbered → Below given (length frames)
    → (more : List (List ℕ)) → (MayFollow window.closed (summaries k more)) → (later : List FrameStep) × (steps_of k (frames ++ more) ≡ later ++ frame_steps frames given)
steps_begin k window frames numbered given stands same below more may = go (numbers_begin window (summaries k frames) numbered given stands same (summaries k more) may)
  where
    go : (l : List Step) × (plan ahead (summaries k frames ++ summaries k more) ≡ l ++ given) → (later : List FrameStep) × (steps_of k (frames ++ more) ≡ later ++ frame_steps frames given)
    go (l, e) = (
      frame_steps (frames ++ more) l,
      ap (λ (ss : List Summary). frame_steps (frames ++ more) (plan ahead ss)) (map-append k.summary frames more) ∙ ap (frame_steps (frames ++ more)) e
          ∙ map-append (step_of_frame (frames ++ more)) l given ∙ ap (λ (cs : List FrameStep). frame_steps (frames ++ more) l ++ cs) (steps_same frames more given below),
    )

-- So do their bytes.
pub bytes_begin : (k : Coding) (window : WindowState) (frames : List (List ℕ)) (numbered : List Summary) (given : List Step) → StandsFor ahead window numbered given → AreNumbered ahead (summaries k frames) numbered → Below given (length frames)
    → (more : List (List ℕ)) → (MayFollow window.closed (summaries k more)) → (b : List ℕ) × (output_of k (frames ++ more) ≡ bytes_of_coding k (frame_steps frames given) ++ b)
bytes_begin k window frames numbered given stands same below more may = go (steps_begin k window frames numbered given stands same below more may)
  where
    go : (later : List FrameStep) × (steps_of k (frames ++ more) ≡ later ++ frame_steps frames given) → (b : List ℕ) × (output_of k (frames ++ more) ≡ bytes_of_coding k (frame_steps frames given) ++ b)
    go (later, e) = with_bytes (bytes_more k later (frame_steps frames given))
      where
        with_bytes : (b : List ℕ) × (bytes_of_coding k (later ++ frame_steps frames given) ≡ bytes_of_coding k (frame_steps frames given) ++ b) → (b : List ℕ) × (output_of k (frames ++ more) ≡ bytes_of_coding k (frame_steps frames given) ++ b)
        with_bytes (b, f) =
            let end = k.ending (later ++ frame_steps frames given) in
            (b ++ end, ap (λ (cs : List FrameStep). bytes_of_coding k cs ++ k.ending cs) e ∙ ap (λ (s : List ℕ). s ++ end) f ∙ append_assoc (bytes_of_coding k (frame_steps frames given)) b end)

-- steps with the summaries of their frames

get_summary : (k : Coding) (frames : List (List ℕ)) (i : ℕ) → get_or (summaries k frames) i (k.summary []) ≡ k.summary (get_or frames i [])
get_summary k [] i = refl
get_summary k (f ∷ frames) zero = refl
get_summary k (f ∷ frames) (suc i) = get_summary k frames i

planned_is : (k : Coding) (frames : List (List ℕ)) (s : Step) → planned_step (k.summary []) (summaries k frames) s ≡ planned_of k (step_of_frame frames s)
planned_is k frames s = ap (λ (x : Summary). record { step = s; summary = x }) (get_summary k frames s.frame)

all_planned : (k : Coding) (frames : List (List ℕ)) (given : List Step) → planned (k.summary []) (summaries k frames) given ≡ map (planned_of k) (frame_steps frames given)
all_planned k frames [] = refl
all_planned k frames (s ∷ given) = ap₂ (λ (p : Planned) (ps : List Planned). p ∷ ps) (planned_is k frames s) (all_planned k frames given)

-- Each step that a window gives fits behind those before it.
pub step_fits : (k : Coding) (window : WindowState) (frames : List (List ℕ)) (numbered : List Summary) (s : Step) (given : List Step) → StandsFor ahead window numbered (s ∷ given) → AreNumbered ahead (summaries k frames) numbered
    → Fits (map (planned_of k) (frame_steps frames given)) (planned_of k (step_of_frame frames s))
step_fits k window frames numbered s given stands same = go (numbers_begin window (summaries k frames) numbered (s ∷ given) stands same [] (λ closed. refl))
  where
    go : (l : List Step) × (plan ahead (summaries k frames ++ []) ≡ l ++ s ∷ given) → Fits (map (planned_of k) (frame_steps frames given)) (planned_of k (step_of_frame frames s))
    go (l, e) =
        let fits = plan_fits (k.summary []) (summaries k frames) l given s (ap (plan ahead) (sym (append-nil (summaries k frames))) ∙ e) in
        subst (λ (p : Planned). Fits (map (planned_of k) (frame_steps frames given)) p) (planned_is k frames s)
        (subst (λ (ps : List Planned). Fits ps (planned_step (k.summary []) (summaries k frames) s)) (all_planned k frames given) fits)
