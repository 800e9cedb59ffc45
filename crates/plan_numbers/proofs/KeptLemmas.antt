-- What the kept frames say of the next one, and that it is kept.
use Rattle.std.proofs.Common.{◌≡◌, ◌≢◌, ◌↔◌, ◌⊎◌, ℕ, ◌+◌, ◌-◌, ◌*◌, ◌/◌, ◌%◌, ◌^◌, ◌<◌, ◌≤◌, ◌∙◌, List, [], ◌∷◌, ◌++◌, length, get_or, set, sym, ap, inl, inr, arith, get_or-set_other, get_or-set_same}
use Rattle.std.proofs.lemmas.Bool.{cases_lt}
use Rattle.std.proofs.lemmas.List.{map-append, length-map}
use Rattle.mv_bits.specs.Receivers.{Kept}
use Rattle.plan_numbers.specs.declared.numbers.ContextNumbers.{ContextNumbers}
use Rattle.plan_numbers.specs.Numbered.{number_bytes}
use Rattle.plan_numbers.specs.Stands.{HasRooms, IsAt, AreKept, AreCounted, StandsFor, kept_contexts}
use Rattle.plan_numbers.proofs.ListLemmas.{at_front, at_end, one_longer, before_or_last}
use Rattle.plan_numbers.proofs.CountLemmas.{Fits, one_more}

module _ (n : ContextNumbers) (contexts : List (List ℕ)) (counts : List ℕ) (kept : AreKept n contexts counts) (are : AreCounted contexts counts) where
  -- no kept frame has this context
  pub fits_new : (context : List ℕ) → ((k : ℕ) → IsAt n context k → ⊥) → Fits contexts counts context n.count
  fits_new context never = record {
    small = let e = kept.count in omega (arith, e);
    same = λ i l w. (
      λ e. let c = kept.count in absurd (never (i % 16) (record { inside = omega arith; filled = omega (arith, c, l); same = kept.context i l w ∙ e })),
      λ e. let s = are.small i l in let c = kept.count in absurd (omega (arith, s, c, e, l)),
    );
  }

  -- place k has it
  module _ (k : ℕ) (context : List ℕ) (at : IsAt n context k) where
    abbrev frame : ℕ
    frame = k + 16 * ((length contexts - 1 - k) / 16)

    inside : frame < length contexts
    inside = let f = at.filled in let c = kept.count in omega (arith, f, c)

    last : length contexts ≤ frame + 16
    last = let f = at.filled in let c = kept.count in omega (arith, f, c)

    place : frame % 16 ≡ k
    place = let i = at.inside in omega (arith, i)

    is_context : get_or contexts frame [] ≡ context
    is_context = sym (kept.context frame inside last) ∙ (ap (λ (p : ℕ). get_or (kept_contexts n) p []) place ∙ at.same)

    is_count : get_or counts frame 0 ≡ get_or n.numbers k 0
    is_count = sym (kept.number frame inside last) ∙ ap (λ (p : ℕ). get_or n.numbers p 0) place

    pub fits_old : Fits contexts counts context (get_or n.numbers k 0)
    fits_old = record {
      small = let s = are.small frame inside in let e = is_count in let i = inside in omega (arith, s, e, i);
      same = λ i l w. by i l w (cases_lt i frame) (cases_lt frame i);
    }
      where
        by : (i : ℕ) → i < length contexts → length contexts ≤ i + 16 → (i < frame) ⊎ (frame ≤ i) → (frame < i) ⊎ (i ≤ frame)
            → (get_or contexts i [] ≡ context) ↔ (get_or counts i 0 ≡ get_or n.numbers k 0)
        by i l w (inl lt) _ =
            let j = inside in let h = are.near i frame lt (omega (arith, j, w)) inside in
            (λ e. h.0 (e ∙ sym is_context) ∙ is_count, λ e. h.1 (e ∙ sym is_count) ∙ is_context)
        by i l w (inr ge) (inl gt) =
            let j = last in let h = are.near frame i gt (omega (arith, j, l)) l in
            (λ e. sym (h.0 (is_context ∙ sym e)) ∙ is_count, λ e. sym (h.1 (is_count ∙ sym e)) ∙ is_context)
        by i l w (inr ge) (inr le) =
            let e : i ≡ frame = omega (arith, ge, le) in
            (λ _. ap (λ (p : ℕ). get_or counts p 0) e ∙ is_count, λ _. ap (λ (p : ℕ). get_or contexts p []) e ∙ is_context)

  -- the next frame is kept in place of the one 16 before it
  pub kept_more : (m : ContextNumbers) (context : List ℕ) (count : ℕ) → HasRooms n → HasRooms m → m.count ≡ n.count + 1
      → kept_contexts m ≡ set (kept_contexts n) (n.count % 16) context → m.numbers ≡ set n.numbers (n.count % 16) count
      → AreKept m (contexts ++ context ∷ []) (counts ++ count ∷ [])
  kept_more m context count old new counted contexts_are numbers_are = record {
    rooms = new;
    count = let c = kept.count in let e = one_longer contexts context in omega (arith, c, e, counted);
    context = λ i l w. context_at i w (before_or_last contexts context i l);
    number = λ i l w. number_at i w (before_or_last contexts context i l);
  }
    where
      context_at : (i : ℕ) → length (contexts ++ context ∷ []) ≤ i + 16 → (i < length contexts) ⊎ (i ≡ length contexts)
          → get_or (kept_contexts m) (i % 16) [] ≡ get_or (contexts ++ context ∷ []) i []
      context_at i w (inl l) =
          let c = kept.count in let e = one_longer contexts context in
          let ne : i % 16 ≢ n.count % 16 = λ h. omega (arith, c, e, l, w, h) in
          ap (λ (xs : List (List ℕ)). get_or xs (i % 16) []) contexts_are ∙ (get_or-set_other (kept_contexts n) (n.count % 16) (i % 16) context [] ne
          ∙ (kept.context i l (omega (arith, e, w)) ∙ sym (at_front contexts context [] i l)))
      context_at i w (inr g) =
          let c = kept.count in
          let p : i % 16 ≡ n.count % 16 = ap (λ (q : ℕ). q % 16) (g ∙ sym c) in
          let s : length (kept_contexts n) ≡ 16 = length-map n.contexts.items (λ (room : Kept). room.bytes) ∙ old.contexts in
          ap (λ (xs : List (List ℕ)). get_or xs (i % 16) []) contexts_are ∙ (ap (λ (q : ℕ). get_or (set (kept_contexts n) (n.count % 16) context) q []) p
          ∙ (get_or-set_same (kept_contexts n) (n.count % 16) context [] (omega (arith, s)) ∙ sym (at_end contexts context [] i g)))

      number_at : (i : ℕ) → length (contexts ++ context ∷ []) ≤ i + 16 → (i < length contexts) ⊎ (i ≡ length contexts)
          → get_or m.numbers (i % 16) 0 ≡ get_or (counts ++ count ∷ []) i 0
      number_at i w (inl l) =
          let c = kept.count in let e = one_longer contexts context in let q = are.many in
          let ne : i % 16 ≢ n.count % 16 = λ h. omega (arith, c, e, l, w, h) in
          ap (λ (xs : List ℕ). get_or xs (i % 16) 0) numbers_are ∙ (get_or-set_other n.numbers (n.count % 16) (i % 16) count 0 ne
          ∙ (kept.number i l (omega (arith, e, w)) ∙ sym (at_front counts count 0 i (omega (arith, l, q)))))
      number_at i w (inr g) =
          let c = kept.count in let q = are.many in
          let p : i % 16 ≡ n.count % 16 = ap (λ (r : ℕ). r % 16) (g ∙ sym c) in
          let s = old.numbers in
          ap (λ (xs : List ℕ). get_or xs (i % 16) 0) numbers_are ∙ (ap (λ (r : ℕ). get_or (set n.numbers (n.count % 16) count) r 0) p
          ∙ (get_or-set_same n.numbers (n.count % 16) count 0 (omega (arith, s)) ∙ sym (at_end counts count 0 i (omega (arith, g, q)))))

-- what it stands for with one more frame
pub stands_more : (n m : ContextNumbers) (contexts numbers : List (List ℕ)) (context : List ℕ) (count : ℕ) (stands : StandsFor n contexts numbers)
    → Fits contexts stands.counts context count → n.count < 2 ^ 44 → HasRooms m → m.count ≡ n.count + 1
    → kept_contexts m ≡ set (kept_contexts n) (n.count % 16) context → m.numbers ≡ set n.numbers (n.count % 16) count
    → StandsFor m (contexts ++ context ∷ []) (numbers ++ number_bytes count ∷ [])
stands_more n m contexts numbers context count stands fits few rooms counted contexts_are numbers_are = record {
  few = let e = one_longer contexts context in let c = stands.kept.count in omega (arith, e, c, few);
  counts = stands.counts ++ count ∷ [];
  numbers_are = ap (λ (xs : List (List ℕ)). xs ++ number_bytes count ∷ []) stands.numbers_are ∙ sym (map-append number_bytes stands.counts (count ∷ []));
  kept = kept_more n contexts stands.counts stands.kept stands.counted m context count stands.kept.rooms rooms counted contexts_are numbers_are;
  counted = one_more contexts stands.counts context count stands.counted fits;
}
