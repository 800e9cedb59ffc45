-- Macroblocks that look alike: predicted alike, and with the same residual.
use Rattle.std.proofs.Common.{◌≡◌, ℕ, zero, suc, ◌+◌, Bool, true, false, List, [], ◌∷◌, ◌++◌, length, refl}
use Rattle.std.specs.Prelude.{slice_index_or}
use Rattle.mv_terms.specs.declared.head.Head.{Head}
use Rattle.mv_terms.specs.declared.macroblock.Decision.{Decision}
use Rattle.mv_terms.specs.declared.macroblock.MacroLevels.{MacroLevels}
use Rattle.mv_terms.specs.Decisions.{no_blocks, no_decision}
use Rattle.mv_planes.specs.declared.picture.Plane.{Plane}
use Rattle.mv_planes.specs.References.{References}
use Rattle.mv_predict.specs.Prediction.{predicted_at}
use Rattle.mv_macro.specs.Past.{CodedMacroblock, Given, Start, Seen, given, decisions_of, levels_of}
use Rattle.mv_macro.specs.Legal.{IsLegal, AreLegalFrom, in_its_slice}
use Rattle.mv_macro.specs.Settled.{is_nothing, is_still, settled_decision, settled_macroblock, settled_from}
use Rattle.mv_slices.specs.Canonical.{paired, all_of, start_at, settled_slices}
use Rattle.mv_settled.proofs.PredictionLemmas.{IsStill, legal_still, same_prediction}
use Rattle.mv_settled.proofs.ResidualLemmas.{residual_by, same_residual}

-- ---- a macroblock

-- two decisions decode to the same samples, with these levels
pub record LookAlike (head : Head) (levels : MacroLevels) (d e : Decision) : Type 0 where
  pub prediction : (refs : References) (p : Plane) (x y : ℕ) → predicted_at head e refs p x y ≡ predicted_at head d refs p x y
  pub residual : (p : Plane) (x y : ℕ) → residual_by head e levels p x y ≡ residual_by head d levels p x y

looks_like_itself : (head : Head) (levels : MacroLevels) (d : Decision) → LookAlike head levels d d
looks_like_itself head levels d = record { prediction = λ refs p x y. refl; residual = λ p x y. refl }

-- what settling rests on: what a legal decision says of a macroblock without a direction, and of its dct type
pub record MayBeSettled (head : Head) (d : Decision) : Type 0 where
  pub still : is_still head d ≡ true → IsStill d
  pub frame_dct : head.frame_only ≡ true → d.field_dct ≡ false

legal_may_be_settled : (head : Head) (seen : Seen) (last : Bool) (d : Decision) → IsLegal head seen last d → MayBeSettled head d
legal_may_be_settled head seen last d legal = record { still = legal_still head seen last d legal; frame_dct = legal.frame_dct }

settled_look_alike : (head : Head) (g : Given) (last : Bool) (m : CodedMacroblock) → MayBeSettled head m.decision → LookAlike head m.levels m.decision (settled_decision head g last m)
settled_look_alike head g last m may = record { prediction = same_prediction head g last m may.still; residual = same_residual head g last m may.frame_dct }

-- ---- macroblocks in turn

abbrev pub AllMayBeSettled : Head → List CodedMacroblock → Type 0
AllMayBeSettled head [] = Unit {0}
AllMayBeSettled head (m ∷ later) = MayBeSettled head m.decision × AllMayBeSettled head later

pub all_may_be_settled : (head : Head) (place : ℕ) (past decisions : List Decision) (levels : List MacroLevels) → AreLegalFrom head place past decisions → AllMayBeSettled head (paired decisions levels)
unfolding AreLegalFrom paired
all_may_be_settled head place past [] levels legal = tt
all_may_be_settled head place past (d ∷ decisions) [] legal = tt
all_may_be_settled head place past (d ∷ decisions) (first ∷ levels) legal =
    (legal_may_be_settled head _ _ d legal.0.legal, all_may_be_settled head (place + 1) (d ∷ in_its_slice d past) decisions levels legal.1)

abbrev pub AllLookAlike : Head → List CodedMacroblock → List CodedMacroblock → Type 0
AllLookAlike head [] [] = Unit {0}
AllLookAlike head [] (n ∷ others) = ⊥
AllLookAlike head (m ∷ later) [] = ⊥
AllLookAlike head (m ∷ later) (n ∷ others) = LookAlike head m.levels m.decision n.decision × AllLookAlike head later others

-- a slice, in front of others
alike_slice : (head : Head) (start : Start) (past slice rest others : List CodedMacroblock) → AllMayBeSettled head (slice ++ rest) → (AllMayBeSettled head rest → AllLookAlike head rest others)
    → AllLookAlike head (slice ++ rest) (settled_from head start past slice ++ others)
unfolding settled_from
alike_slice head start past [] rest others may behind = behind may
alike_slice head start past (m ∷ later) rest others may behind =
    let g = given head start past in
    let last = is_nothing later in
    (settled_look_alike head g last m may.0, alike_slice head start (settled_macroblock head g last m ∷ past) later rest others may.1 behind)

pub alike_slices : (head : Head) (covered : ℕ) (slices : List (List CodedMacroblock)) → AllMayBeSettled head (all_of slices) → AllLookAlike head (all_of slices) (all_of (settled_slices head covered slices))
unfolding settled_slices
alike_slices head covered [] may = tt
alike_slices head covered (slice ∷ slices) may =
    alike_slice head (start_at head covered slice) [] slice (all_of slices) (all_of (settled_slices head (covered + length slice) slices)) may
    (alike_slices head (covered + length slice) slices)

-- at each place
pub alike_at : (head : Head) (ms ns : List CodedMacroblock) (k : ℕ) → AllLookAlike head ms ns
    → LookAlike head (slice_index_or (levels_of ms) k no_blocks) (slice_index_or (decisions_of ms) k no_decision) (slice_index_or (decisions_of ns) k no_decision)
alike_at head [] [] k alike = looks_like_itself head no_blocks no_decision
alike_at head [] (n ∷ others) k alike = absurd alike
alike_at head (m ∷ later) [] k alike = absurd alike
alike_at head (m ∷ later) (n ∷ others) zero alike = alike.0
alike_at head (m ∷ later) (n ∷ others) (suc k) alike = alike_at head later others k alike.1
