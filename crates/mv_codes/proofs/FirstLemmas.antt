-- The first coefficient of a non-intra block: the table without its first row, where a code of one bit stands for it.
use Rattle.std.proofs.Common.{◌≡◌, ℕ, ◌-◌, ◌/◌, ◌^◌, ◌≤◌, Bool, true, false, Option, None, Some, List, [], ◌∷◌, drop, refl, sym, ◌∙◌, subst, inl, inr, lit≤, lit<, eqb}
use Rattle.std.specs.List.{flat_map}
use Rattle.std.proofs.lemmas.List.Elements.{recursion_from_All, All-from_recursion}
use Rattle.mv_bits.specs.Bits.{front}
use Rattle.mv_codes.specs.declared.code.Code.{Code}
use Rattle.mv_codes.specs.declared.coefficient.Coef.{Coef}
use Rattle.mv_codes.specs.declared.coefficient.Coef.TheVariants.{Escape}
use Rattle.mv_codes.specs.Tables.{Begins, Reads, Spells, code, with_sign_bit}
use Rattle.mv_codes.specs.Coefficients.{pair_by, with_escape, levels_14, first_codes_14}
use Rattle.mv_codes.proofs.TableLaws.{Among, Among-from_contains, Contains-from_among, front_shorter, Reads-append, Reads-front, Spells-signed}

module _ {M : Type 0} where
  left_out : (e c d x : Code M) (cs : List (Code M)) (bits : List Bool) → (Begins c bits → ⊥) → (Begins d bits → ⊥) → Begins x bits → Among (e ∷ c ∷ d ∷ cs) x → Among (e ∷ cs) x
  left_out e c d x cs bits nc nd b (inl p) = inl p
  left_out e c d x cs bits nc nd b (inr (inl p)) = absurd (nc (subst (λ (y : Code M). Begins y bits) (sym p) b))
  left_out e c d x cs bits nc nd b (inr (inr (inl p))) = absurd (nd (subst (λ (y : Code M). Begins y bits) (sym p) b))
  left_out e c d x cs bits nc nd b (inr (inr (inr m))) = inr m

  -- codes that don't begin the bits may be left out of the table
  pub Reads-without : (e c d : Code M) (cs : List (Code M)) (old new : List Bool) (answer : Option M) → (Begins c old → ⊥) → (Begins d old → ⊥) → Reads (e ∷ c ∷ d ∷ cs) old new answer → Reads (e ∷ cs) old new answer
  Reads-without e c d cs old new None nc nd r =
      let none : Code M → Type 0 = λ x. Begins x old → ⊥ in
      let all = recursion_from_All none (e ∷ c ∷ d ∷ cs) r.0 in
      (All-from_recursion none (e ∷ cs) (all.0, all.1.1.1), r.1)
  Reads-without e c d cs old new (Some v) nc nd r = record {
    code = r.code;
    among = Contains-from_among (e ∷ cs) r.code (left_out e c d r.code cs old nc nd r.begins (Among-from_contains (e ∷ c ∷ d ∷ cs) r.code r.among));
    begins = r.begins;
    means = r.means;
    behind = r.behind;
  }

  -- a code whose first bit is 1
  pub begins_one : (c : Code M) (bits : List Bool) → 1 ≤ c.size → c.value / 2 ^ (c.size - 1) ≡ 1 → Begins c bits → front 1 bits ≡ 1
  begins_one c bits some one b = sym (front_shorter 1 c.size bits some) ∙ rw b one

pub first_read : (old new : List Bool) (answer : Option Coef) → (front 1 old ≡ 1 → ⊥) → Reads (with_escape levels_14) old new answer → Reads first_codes_14 old new answer
unfolding levels_14 first_codes_14
first_read old new answer not_one r =
    let by : ℕ → ℕ → Bool → Code Coef = λ value size negative. code value size (pair_by negative (0, 1)) in
    let none : (c : Code Coef) → 1 ≤ c.size → c.value / 2 ^ (c.size - 1) ≡ 1 → Begins c old → ⊥ = λ c some one b. not_one (begins_one c old some one b) in
    let others : List (Code Coef) = flat_map (with_sign_bit pair_by) (drop 1 levels_14) in
    let later : Reads (with_escape (drop 1 levels_14)) old new answer =
    Reads-without (code 1 6 Escape) (by 6 3 false) (by 7 3 true) others old new answer (none (by 6 3 false) (lit≤ tt) refl) (none (by 7 3 true) (lit≤ tt) refl) r in
    Reads-append (with_sign_bit pair_by (code 1 1 (0, 1))) (with_escape (drop 1 levels_14)) old new answer
    (none (by 2 2 false) (lit≤ tt) refl, (none (by 3 2 true) (lit≤ tt) refl, tt)) later

-- the one bit that is level 1 behind no zeros, and its sign
pub first_sign : (old new : List Bool) (negative : Bool) → front 1 old ≡ 1 → eqb (front 1 (drop 1 old)) 1 ≡ negative → new ≡ drop 1 (drop 1 old) → Spells first_codes_14 old (pair_by negative (0, 1)) new
unfolding first_codes_14
first_sign old new negative one sign rest =
    let own : List (Code (ℕ × ℕ)) = code 1 1 (0, 1) ∷ [] in
    let read : Spells (flat_map (with_sign_bit pair_by) own) old (pair_by negative (0, 1)) new = Spells-signed pair_by own (code 1 1 (0, 1)) old negative new (0, lit< tt, refl) one sign rest in
    Reads-front (flat_map (with_sign_bit pair_by) own) (with_escape (drop 1 levels_14)) old new (Some (pair_by negative (0, 1))) (λ e. cc) read
