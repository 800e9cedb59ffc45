-- The headers of a unit behind others, as the record of its picture has them.
use Rattle.std.proofs.Common.{◌≡◌, ◌⊎◌, ℕ, ◌<◌, Bool, true, false, ◌&&◌, eqb, List, [], ◌∷◌, ◌++◌, map, zero, suc, Option, None, Some, Result, Ok, Err, refl, sym, ap, ◌∙◌, subst, inl, inr}
use Rattle.std.specs.Prelude.{is_some, IfSome, IsOk, unwrap_or}
use Rattle.std.specs.List.{concat, list_all, take_while}
use Rattle.std.proofs.lemmas.Bool.{cases_Bool, false≢true}
use Rattle.std.proofs.lemmas.List.Elements.{recursion_from_All}
use Rattle.std.proofs.lemmas.List.Sums.{take_while-cons}
use Rattle.mv_terms.specs.declared.status.Why.{Why}
use Rattle.mv_terms.specs.UnitLists.{UnitLists}
use Rattle.mv_bits.specs.Elements.{cut}
use Rattle.mv_bits.specs.StartCodes.{are_prefix, is_carried}
use Rattle.mv_bits.specs.Writing.{AreBytes}
use Rattle.mv_bits.specs.Zeros.{zero_bytes}
use Rattle.mv_bits.proofs.CutLaws.{cut_whole}
use Rattle.mv_heads.specs.declared.head_state.Heads.{Heads}
use Rattle.mv_heads.specs.HeadElements.{are_some_prefix, begins_sequence, context_of, is_prefix, sequence_bytes, sequence_elements}
use Rattle.mv_heads.specs.HeadsInTurn.{AreAccepted, after, context_bytes, heads_behind, heads_kept}
use Rattle.mv_heads.proofs.TurnLaws.{context_bytes_read}
use Rattle.mv_units.specs.Profile.{CodedUnit, heads_in}
use Rattle.mv_units.specs.Shape.{IsFront, IsUnitPrefix}
use Rattle.mv_units.specs.declared.next.Before.{Before}
use Rattle.mv_units.specs.declared.next.Before.TheVariants as place
use Rattle.mv_decode.specs.Accepted as units
use Rattle.mv_decode.specs.Accepted.{AreAcceptedUnits, IsAcceptedBehind, place_behind}
use Rattle.cert_picture.specs.FrameFileOf.{UnitFrame, frame_behind, frames_of}
use Rattle.cert_picture.proofs.ByteLemmas.{bytes_append}
use Rattle.cert_found.proofs.HeadLaws.{HasHeads, IsPlain, has_heads}

-- ---- heads

plain_all : (us : List CodedUnit) → AreAcceptedUnits us → (x : Heads) → heads_in us ≡ Some x → IsPlain x
plain_all [] are x is = absurd cc
plain_all (u ∷ before) are x is =
    let h = has_heads (heads_in before) u.lists u.accepted are.1.accepts.headers (plain_all before are.0) in
    let same : u.accepted.heads ≡ x = cc in
    subst IsPlain same h.plain

pub heads_behind_others : (u : CodedUnit) (before : List CodedUnit) → AreAcceptedUnits (u ∷ before) → HasHeads (heads_in before) u.lists u.accepted
heads_behind_others u before are = has_heads (heads_in before) u.lists u.accepted are.1.accepts.headers (plain_all before are.0)

-- ---- the context

abbrev pub lists_of : List CodedUnit → List UnitLists
lists_of us = map (λ u. u.lists) us

is_ok : {A : Type 0} (r : Result A Why) (x : A) → r ≡ Ok x → IsOk r
is_ok (Ok y) x e = refl
is_ok (Err why) x e = absurd cc

in_turn : (us : List CodedUnit) → AreAcceptedUnits us → AreAccepted (lists_of us) × (heads_behind (lists_of us) ≡ heads_in us)
unfolding heads_behind
in_turn [] are = (tt, refl)
in_turn (u ∷ before) are =
    let so_far = in_turn before are.0 in
    let now : after (heads_behind (lists_of before)) u.lists ≡ Ok u.accepted = ap (λ (o : Option Heads). after o u.lists) so_far.1 ∙ are.1.accepts.headers in
    ((so_far.0, is_ok (after (heads_behind (lists_of before)) u.lists) u.accepted now), ap (heads_kept (heads_behind (lists_of before))) now)

pub context_reads : (u : CodedUnit) (before : List CodedUnit) → AreAcceptedUnits (u ∷ before) → context_of (cut (context_bytes (lists_of (u ∷ before)))) ≡ Ok u.accepted.heads.context
context_reads u before are =
    let t = in_turn (u ∷ before) are in
    context_bytes_read (lists_of (u ∷ before)) u.accepted.heads t.0 t.1

pub frame_lists : (us : List CodedUnit) → map (λ (f : UnitFrame). f.unit.lists) (frames_of us) ≡ lists_of us
unfolding frames_of frame_behind
frame_lists [] = refl
frame_lists (u ∷ before) = ap (λ (ls : List UnitLists). u.lists ∷ ls) (frame_lists before)

-- ---- bytes

pub bytes_of : (xs : List ℕ) → units.AreBytes xs → AreBytes xs
bytes_of xs h = recursion_from_All (λ (b : ℕ). b < 256) xs h

bytes_both : (xs ys : List ℕ) → AreBytes (xs ++ ys) → AreBytes xs × AreBytes ys
bytes_both [] ys h = (tt, h)
bytes_both (x ∷ xs) ys h = let r = bytes_both xs ys h.1 in ((h.0, r.0), r.1)

carried_front : (es : List (List ℕ)) → (rest : List (List ℕ)) × (es ≡ take_while is_carried es ++ rest)
carried_front [] = ([], refl)
carried_front (e ∷ es) =
    elim (cases_Bool (is_carried e)) [
      | inl is ↦
          let step : take_while is_carried (e ∷ es) ≡ e ∷ take_while is_carried es = rw (take_while-cons is_carried e es, is) refl in
          let later = carried_front es in
          (later.0, ap (λ (x : List (List ℕ)). e ∷ x) later.1 ∙ ap (λ (x : List (List ℕ)). x ++ later.0) (sym step))
      | inr other ↦
          let step : take_while is_carried (e ∷ es) ≡ [] = rw (take_while-cons is_carried e es, other) refl in
          (e ∷ es, ap (λ (x : List (List ℕ)). x ++ e ∷ es) (sym step))
    ]

part_front : (es : List (List ℕ)) → begins_sequence es ≡ true → (rest : List (List ℕ)) × (es ≡ sequence_elements es ++ rest)
part_front [] begins = absurd cc
part_front (e ∷ es) begins = let f = carried_front es in rw begins (f.0, ap (λ (x : List (List ℕ)). e ∷ x) f.1)

concat_front : (xs ys : List (List ℕ)) → AreBytes (concat (xs ++ ys)) → AreBytes (concat xs)
concat_front [] ys h = tt
concat_front (x ∷ xs) ys h =
    let r = bytes_both x (concat (xs ++ ys)) h in
    bytes_append x (concat xs) r.0 (concat_front xs ys r.1)

part_bytes : (prefix : List ℕ) → begins_sequence (cut prefix).elements ≡ true → AreBytes prefix → AreBytes (concat (sequence_elements (cut prefix).elements))
part_bytes prefix begins h =
    let whole = bytes_both (cut prefix).front (concat (cut prefix).elements) (subst AreBytes (sym (cut_whole prefix)) h) in
    let split = part_front (cut prefix).elements begins in
    concat_front (sequence_elements (cut prefix).elements) split.0 (subst (λ (z : List (List ℕ)). AreBytes (concat z)) split.1 whole.1)

own_or_before : (prefix before : List ℕ) → AreBytes prefix → AreBytes before → AreBytes (unwrap_or (sequence_bytes prefix) before)
unfolding sequence_bytes
own_or_before prefix before h k =
    elim (cases_Bool (begins_sequence (cut prefix).elements)) [
      | inl begins ↦ let p = part_bytes prefix begins h in rw begins p
      | inr none ↦ rw none k
    ]

pub context_is_bytes : (us : List CodedUnit) → AreAcceptedUnits us → AreBytes (context_bytes (lists_of us))
unfolding context_bytes
context_is_bytes [] are = tt
context_is_bytes (u ∷ before) are = own_or_before u.lists.prefix (context_bytes (lists_of before)) (bytes_of u.lists.prefix are.1.bytes.prefix) (context_is_bytes before are.0)

-- ---- the prefix

zeros_all : (n : ℕ) → list_all (λ (b : ℕ). eqb b 0) (zero_bytes n) ≡ true
zeros_all zero = refl
zeros_all (suc n) = zeros_all n

both_of : (a b : Bool) → a ≡ true → b ≡ true → (a && b) ≡ true
both_of true b e f = f
both_of false b e f = absurd (false≢true e)

front_zeros : (begin : Before) (front : List ℕ) → IsFront begin front → list_all (λ (b : ℕ). eqb b 0) front ≡ true
front_zeros place.Stream front f = ap (λ (bytes : List ℕ). list_all (λ (b : ℕ). eqb b 0) bytes) f.1 ∙ zeros_all f.0
front_zeros place.Unit front f = ap (λ (bytes : List ℕ). list_all (λ (b : ℕ). eqb b 0) bytes) f
front_zeros place.Ended front f = ap (λ (bytes : List ℕ). list_all (λ (b : ℕ). eqb b 0) bytes) f

no_front : (front : List ℕ) → front ≡ [] → front ++ [] ≡ []
no_front front f = ap (λ (bytes : List ℕ). bytes ++ []) f

some_prefix : (begin : Before) (front : List ℕ) (es : List (List ℕ)) → IsFront begin front → are_prefix es ≡ true → (begin ≡ place.Stream → begins_sequence es ≡ true) → (front ++ concat es ≡ []) ⊎ ((list_all (λ (b : ℕ). eqb b 0) front && are_some_prefix es) ≡ true)
some_prefix begin front (e ∷ es) f are begins = inr (both_of (list_all (λ (b : ℕ). eqb b 0) front) (are_some_prefix (e ∷ es)) (front_zeros begin front f) are)
some_prefix place.Stream front [] f are begins = absurd (false≢true (begins refl))
some_prefix place.Unit front [] f are begins = inl (no_front front f)
some_prefix place.Ended front [] f are begins = inl (no_front front f)

pub prefix_shape : (begin : Before) (prefix : List ℕ) → IsUnitPrefix begin prefix → (prefix ≡ []) ⊎ (is_prefix (cut prefix) ≡ true)
prefix_shape begin prefix p = by (some_prefix begin (cut prefix).front (cut prefix).elements p.front p.elements p.sequence)
  where
    by : ((cut prefix).front ++ concat (cut prefix).elements ≡ []) ⊎ (is_prefix (cut prefix) ≡ true) → (prefix ≡ []) ⊎ (is_prefix (cut prefix) ≡ true)
    by (inl e) = inl (sym (cut_whole prefix) ∙ e)
    by (inr e) = inr e

-- a sequence part in a prefix is the context
pub own_part : (part : Option (List ℕ)) (before : List ℕ) → IfSome part (λ bytes. bytes ≡ unwrap_or part before)
own_part None before = tt
own_part (Some bytes) before = refl

pub no_bytes : (prefix : List ℕ) → begins_sequence (cut prefix).elements ≡ false → is_some (sequence_bytes prefix) ≡ false
unfolding sequence_bytes
no_bytes prefix none = rw none refl
