-- A name's place in a list of inputs.
use Rattle.std.proofs.Common.{◌≡◌, ℕ, ◌+◌, ◌<◌, ◌≤◌, suc, Bool, true, false, cond, List, [], ◌∷◌, length, map, drop, take, ◌++◌, ◌-◌, get_or, refl, sym, ◌∙◌, ap, add-one, arith, Option, Some, slice_get, string_bytes, String, Vec, unwrap_or, IsTrue, slice_index, set, subst, min, ◌^◌, None, IsSome, ⊎_elim}
use Rattle.std.specs.Option.{option_map, IsNone}
use Rattle.std.proofs.lemmas.Option.{slice_get_cases, slice_get_past}
use Rattle.std.proofs.Math.Seq.{drop-cons}
use Rattle.std.proofs.lemmas.List.{take_at, take-append-drop, length-take-le, length-drop, drop-drop, get_or-set_same, get_or-set_other, get_or_default}
use Rattle.std.specs.Cmp.Lexicographic.{slice_cmp, nat_list_cmp_total, texts_ties}
use Rattle.std.specs.Ordering.{nat_cmp}
use Rattle.std.specs.FinMap.{find, get, get-from_entries}
use Rattle.std.specs.Str.{bytes_eq}
use Rattle.std.proofs.lemmas.Slice.Eq.{bytes_eq-Decides}
use Rattle.std.proofs.lemmas.Bool.{eqb-true, eq-eqb}
use Rattle.mv_ends.specs.Causes.{Rose}
use Rattle.mv_ends.specs.Moves.{input_of}
use Rattle.mv_ends.specs.Places.{entry_of, inputs_of, place_of, name_of, bytes_of, IsFirst, is_place}

module _ {Z : Type 0} where
  found : (name : List ℕ) (list : List (String Z × Vec ℕ Z)) → find (slice_cmp nat_cmp) name (map entry_of list) ≡ option_map (λ input. input.1.items) (slice_get list (place_of list name))
  found name [] = refl
  found name (input ∷ list) =
      rw (← texts_ties name (string_bytes input.0))
      (elim (bytes_eq name (string_bytes input.0)) as (λ b. cond b (Some input.1.items) (find (slice_cmp nat_cmp) name (map entry_of list)) ≡ option_map (λ input. input.1.items) (slice_get (input ∷ list) (cond b 0 (suc (place_of list name))))) [ true ↦ refl | false ↦ found name list ])

  -- what the inputs tell of a name is what stands at its place
  pub get-place : (name : List ℕ) (list : List (String Z × Vec ℕ Z)) → get (inputs_of list) name ≡ option_map (λ input. input.1.items) (slice_get list (place_of list name))
  get-place name list = get-from_entries nat_list_cmp_total (map entry_of list) name ∙ found name list

  bytes_are : (input : Option (String Z × Vec ℕ Z)) → unwrap_or (option_map (λ input. input.1.items) input) [] ≡ bytes_of input
  bytes_are None = refl
  bytes_are (Some input) = refl

  -- the input of a name is that at its place
  pub input_of-place : (name : List ℕ) (list : List (String Z × Vec ℕ Z)) → input_of (inputs_of list) name ≡ bytes_of (slice_get list (place_of list name))
  input_of-place name list = ap (λ o. unwrap_or o []) (get-place name list) ∙ bytes_are (slice_get list (place_of list name))

  -- a name is that of an input exactly where its place is within the list
  pub known_within : (name : List ℕ) (list : List (String Z × Vec ℕ Z)) → IsSome (get (inputs_of list) name) → place_of list name < length list
  known_within name list known =
      ⊎_elim
      (λ inside. inside.1)
      (λ past. absurd (let none : get (inputs_of list) name ≡ None = get-place name list ∙ ap (option_map (λ input. input.1.items)) past.1 in let no : false ≡ true = rw none at known in cc))
      (slice_get_cases list (place_of list name)).1

  pub unknown_at_end : (name : List ℕ) (list : List (String Z × Vec ℕ Z)) → IsNone (get (inputs_of list) name) → length list ≤ place_of list name
  unknown_at_end name list unknown =
      ⊎_elim
      (λ inside. absurd (let some : get (inputs_of list) name ≡ Some inside.0.1.items = get-place name list ∙ ap (option_map (λ input. input.1.items)) inside.2 in let no : true ≡ false = rw some at unknown in cc))
      (λ past. past.0)
      (slice_get_cases list (place_of list name)).1

  pub unknown_past : (name : List ℕ) (list : List (String Z × Vec ℕ Z)) → length list ≤ place_of list name → IsNone (get (inputs_of list) name)
  unknown_past name list past = rw (get-place name list, slice_get_past list (place_of list name) past) refl

  named : (name : List ℕ) (list : List (String Z × Vec ℕ Z)) → place_of list name < length list → name_of (slice_get list (place_of list name)) ≡ name
  named name [] = λ h. absurd (omega arith)
  named name (input ∷ list) =
      elim (bytes_eq name (string_bytes input.0)) as (λ b. bytes_eq name (string_bytes input.0) ≡ b → cond b 0 (suc (place_of list name)) < suc (length list) → name_of (slice_get (input ∷ list) (cond b 0 (suc (place_of list name)))) ≡ name) [
        | true ↦ λ e h. sym ((bytes_eq-Decides name (string_bytes input.0)).0 e)
        | false ↦ λ e h. named name list (omega arith)
      ] refl

  -- names of one place are one name, if an input is there
  pub same_place : (list : List (String Z × Vec ℕ Z)) (name other : List ℕ) → place_of list name < length list → place_of list name ≡ place_of list other → other ≡ name
  same_place list name other within same =
      let there : name_of (slice_get list (place_of list other)) ≡ other = named other list (omega (arith, same)) in
      sym (sym (named name list within) ∙ ap (λ place. name_of (slice_get list place)) same ∙ there)

  pub first_at_place : (list : List (String Z × Vec ℕ Z)) (name : List ℕ) → IsFirst list (place_of list name)
  first_at_place list name h = ap (place_of list) (named name list h)

  cut : (list : List (String Z × Vec ℕ Z)) (i : ℕ) (input : String Z × Vec ℕ Z) → i < length list → input ≡ get_or list i input → drop i list ≡ input ∷ drop (suc i) list
  cut list i input h is = drop-cons list i input h ∙ ap (λ x. x ∷ drop (suc i) list) (sym is)

  -- where the loop over the inputs stands: the inputs before i don't have the name
  here : (list : List (String Z × Vec ℕ Z)) (name : List ℕ) (i : ℕ) (input : String Z × Vec ℕ Z) (b : Bool) → i < length list → input ≡ get_or list i input → bytes_eq name (string_bytes input.0) ≡ b → place_of (drop i list) name ≡ cond b 0 (suc (place_of (drop (suc i) list) name))
  here list name i input b h is e = ap (λ xs. place_of xs name) (cut list i input h is) ∙ ap (λ b. cond b 0 (suc (place_of (drop (suc i) list) name))) e

  pub place_goes_on : (list : List (String Z × Vec ℕ Z)) (name : List ℕ) (i : ℕ) (input : String Z × Vec ℕ Z) → i < length list → input ≡ get_or list i input → bytes_eq name (string_bytes input.0) ≡ false → place_of list name ≡ i + place_of (drop i list) name → place_of list name ≡ i + 1 + place_of (drop (i + 1) list) name
  place_goes_on list name i input h is other so_far = rw (add-one i) (omega (arith, so_far, here list name i input false h is other))

  pub place_is_here : (list : List (String Z × Vec ℕ Z)) (name : List ℕ) (i : ℕ) (input : String Z × Vec ℕ Z) → i < length list → input ≡ get_or list i input → bytes_eq name (string_bytes input.0) ≡ true → place_of list name ≡ i + place_of (drop i list) name → i ≡ place_of list name
  place_is_here list name i input h is same so_far = omega (arith, so_far, here list name i input true h is same)

  -- the selected input has a name
  pub has_name : (selected : Option ℕ) (list : List (String Z × Vec ℕ Z)) (place : ℕ) → selected ≡ Some place → IsFirst list place → place < length list → IsTrue (is_place selected (place_of list (name_of (slice_get list place))))
  has_name selected list place e first h = rw (e, first h) (eq-eqb place place refl)

-- the count at the selected place rose
pub rose_at : (selected : Option ℕ) (counts : List ℕ) (place p v old : ℕ) → selected ≡ Some place → IsTrue (is_place selected p) → place < length counts → v ≡ min (old + 1) (2 ^ 64 - 1) → old ≡ get_or counts place old → Rose (slice_index counts p) (slice_index (set counts place v) p)
rose_at selected counts place p v old e here h new was =
    let at : place ≡ p = eqb-true place p (rw e at here) in
    let zero : old ≡ get_or counts place 0 = was ∙ get_or_default counts place old 0 h in
    let after : get_or (set counts place v) place 0 ≡ v = get_or-set_same counts place v 0 h in
    subst (λ q. Rose (slice_index counts q) (slice_index (set counts place v) q)) at (omega (arith, zero, after, new))

-- the count of another input stays
pub other_stays : {Z : Type 0} (list : List (String Z × Vec ℕ Z)) (counts : List ℕ) (name other : List ℕ) (place v : ℕ) → place ≡ place_of list name → place_of list other < length list → (other ≡ name → ⊥) → slice_index (set counts place v) (place_of list other) ≡ slice_index counts (place_of list other)
other_stays list counts name other place v at within different =
    get_or-set_other counts place (place_of list other) v 0 (λ same. different (sym (same_place list other name within (same ∙ at))))

-- a piece of some bytes and what is left behind it
pub moved_front : (bytes buf front : List ℕ) (at count : ℕ) → count ≤ length bytes - at → front ≡ take count (drop at bytes) → drop at bytes ≡ take count (front ++ drop count buf) ++ drop (at + count) bytes
moved_front bytes buf front at count h e =
    let len : length front ≡ count = ap length e ∙ length-take-le count (drop at bytes) (omega (arith, length-drop at bytes)) in
    rw (take_at front (drop count buf) count len, e, ← drop-drop) (sym (take-append-drop count (drop at bytes)))
