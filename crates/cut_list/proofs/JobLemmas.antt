-- The entries of a list that was read as far as it may reach.
use Rattle.std.proofs.Common.{◌≡◌, ℕ, ◌<◌, ◌≤◌, ◌-◌, List, [], ◌++◌, length, take, refl, sym, ap, ◌∙◌, subst, arith, Option, Some, Result, Ok, Err, append-nil, ⊎_elim}
use Rattle.std.proofs.lemmas.Bool.{cases_lt}
use Rattle.std.proofs.lemmas.List.{take_at}
use Rattle.std.proofs.KnownBytes.{Appends-nil, Keeps-refl}
use Rattle.std.specs.Io.KnownBytes.{Appends, Consumes, IsAtEnd}
use Rattle.mv_ends.specs.Ends.{Ends}
use Rattle.mv_ends.specs.Endings.{ending_of}
use Rattle.mv_ends.proofs.Parts.{none_of}
use Rattle.mv_terms.specs.declared.status.Status.{Status}
use Rattle.mv_terms.specs.declared.status.Status.TheVariants as status
use Rattle.cut_list.specs.declared.entry.Entry.{Entry}
use Rattle.cut_list.specs.Cut.{cut_from, cut_of, cut_outcome, outcome_by}
use Rattle.cut_list.specs.Steps.{IsUnlisted}
use Rattle.mv_ends.specs.Moves.{Inputs, Opens, input_of}
use Rattle.cut_list.specs.List.{entries_of}
use Rattle.cut_list.proofs.LimitLemmas.{first_bytes_do}
use Rattle.cut_list.proofs.LineLemmas.{opened_is}
use Rattle.cut_list.proofs.CopyExits.{behind_of}

pub list_read : (named : Option Inputs) (inputs : Inputs) (list : List ℕ) (old new : Option (List ℕ)) (bytes : List ℕ) → named ≡ Some inputs → Opens named list old → Consumes old new bytes → length bytes ≤ 1048577 → (length bytes < 1048577 → IsAtEnd new) →
    entries_of bytes ≡ entries_of (input_of inputs list)
list_read named inputs list old new bytes told opened consumed most ends =
    let input = input_of inputs list in
    let b = behind_of old new bytes input (opened_is named old inputs list told opened) consumed in
    ⊎_elim
    (λ (l : length bytes < 1048577).
    let none : b.0 ≡ [] = subst IsAtEnd b.1 (ends l) in
    ap entries_of (sym (b.2 ∙ ap (λ x. bytes ++ x) none ∙ append-nil bytes)))
    (λ (g : 1048577 ≤ length bytes).
    ap entries_of (sym (ap (take 1048577) b.2 ∙ take_at bytes b.0 1048577 (omega arith))) ∙ first_bytes_do input)
    (cases_lt (length bytes) 1048577)

-- before the first line nothing is written
nothing_first : (input : List ℕ → List ℕ) (entries : List Entry) → (cut_of input (take (0 - 1) entries)).text ≡ []
unfolding cut_from
nothing_first input entries = refl

-- nothing is written where there are no entries
pub unlisted_ends : (named : Option Inputs) (inputs : Inputs) (list : List ℕ) (old : Option (List ℕ)) (answered : Status) → named ≡ Some inputs → IsUnlisted named list answered → Ends (cut_outcome inputs list) (ending_of answered) old old
unlisted_ends named inputs list old (status.Line n fault) told h =
    let bad = h.1 inputs told in
    subst (λ (r : Result (List Entry) ℕ). Ends (outcome_by (input_of inputs) r) (ending_of (status.Line n fault)) old old) (sym bad) (ap (status.Line n) h.0, Appends-nil old)
unlisted_ends named inputs list old status.OpenFault told h = (0, nothing (entries_of (input_of inputs list)))
  where
    nothing : (r : Result (List Entry) ℕ) → Appends old old ((outcome_by (input_of inputs) r).at_open 0)
    nothing (Ok entries) = subst (Appends old old) (sym (nothing_first (input_of inputs) entries)) (Appends-nil old)
    nothing (Err n) = Appends-nil old
unlisted_ends named inputs list old status.ReadFault told h = (0, none_of old old _ (Keeps-refl old))
unlisted_ends named inputs list old status.NoMemory told h = none_of old old _ (Keeps-refl old)
unlisted_ends named inputs list old status.Done told h = absurd h
unlisted_ends named inputs list old status.Words told h = absurd h
unlisted_ends named inputs list old (status.Unit k why) told h = absurd h
unlisted_ends named inputs list old (status.Frames fault) told h = absurd h
unlisted_ends named inputs list old status.WriteFault told h = absurd h
