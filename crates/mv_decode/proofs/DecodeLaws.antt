-- A unit is decoded behind others.
use Rattle.std.proofs.Common.{◌≡◌, ℕ, List, ◌∷◌, length, Option, Result, Ok, Err, refl, sym, ap, ◌∙◌, subst}
use Rattle.mv_terms.specs.declared.status.Why.{Why}
use Rattle.mv_terms.specs.declared.head.Head.{Head}
use Rattle.mv_terms.specs.declared.macroblock.Decision.{Decision}
use Rattle.mv_terms.specs.declared.macroblock.MacroLevels.{MacroLevels}
use Rattle.mv_terms.specs.Ranges.{IsHead}
use Rattle.mv_terms.specs.CodedPicture.{HasMacroblocks}
use Rattle.mv_terms.specs.UnitLists.{UnitLists}
use Rattle.mv_heads.specs.declared.head_state.Heads.{Heads}
use Rattle.mv_heads.specs.declared.head_state.Accepted.{Accepted}
use Rattle.mv_heads.specs.HeadsInTurn.{after, head_answer}
use Rattle.mv_slices.specs.Slices.{Slices, RefusesSlices}
use Rattle.mv_slices.proofs.LegalLaws.{coded_is_legal}
use Rattle.mv_vectors.specs.Predictable.{AllCanBeReconstructed}
use Rattle.mv_units.specs.Profile.{CodedUnit, heads_in, RefusedBy}
use Rattle.mv_planes.specs.References.{DecodedPicture}
use Rattle.mv_recon.specs.Decoded.{pictures_of, decoded_behind}
use Rattle.mv_store.specs.declared.store.Shown.{Shown}
use Rattle.mv_store.specs.Stored.{HasCommitted, StandsFor as IsStoreOf}
use Rattle.mv_decode.specs.declared.decoder.Decoder.{Decoder}
use Rattle.mv_decode.specs.Units.{pictures_in, IsFirstSize}
use Rattle.mv_decode.specs.Stands.{CanBeCoded, StandsFor, DecodesUnit, Decodes, KeepsUnits}
use Rattle.mv_decode.specs.Steps.{IsBehindFirst, IsPlaced, coded_as}
use Rattle.mv_decode.proofs.HeaderLaws.{HasHeaders}

pictures_more : (u : CodedUnit) (before : List CodedUnit) → pictures_in (u ∷ before) ≡ decoded_behind (pictures_in before) u.picture ∷ pictures_in before
unfolding pictures_of
pictures_more u before = refl

-- the committed picture, in a store of this size
pub committed_as : (mb_wide mb_high wide high : ℕ) (store : Rattle.mv_store.specs.declared.store.RefStore.RefStore) (last : DecodedPicture) (before : List DecodedPicture)
    → wide ≡ mb_wide → high ≡ mb_high → HasCommitted wide high store last before → HasCommitted mb_wide mb_high store last before
committed_as mb_wide mb_high wide high store last before same_wide same_high h =
    subst (λ (w : ℕ). HasCommitted w mb_high store last before) same_wide (subst (λ (k : ℕ). HasCommitted wide k store last before) same_high h)

-- it stands for the same units where its headers and its store stay
pub still_stands : (mb_wide mb_high : ℕ) (old new : Decoder) (before : List CodedUnit) → StandsFor mb_wide mb_high old before → KeepsUnits old new
    → length new.decisions.items ≡ length old.decisions.items → length new.levels.items ≡ length old.levels.items
    → StandsFor mb_wide mb_high new before
still_stands mb_wide mb_high old new before s kept decisions levels = record {
  heads = kept.heads ∙ s.heads;
  first = subst (λ (o : Option Heads). IsFirstSize mb_wide mb_high o) (sym kept.heads) s.first;
  store = subst (λ x. IsStoreOf mb_wide mb_high x (pictures_in before)) (sym kept.store) s.store;
  decisions = decisions ∙ s.decisions;
  levels = levels ∙ s.levels;
}

-- what was read with a legal head can be coded again
can_be_coded : (head : Head) (bytes : List ℕ) (decisions : List Decision) (levels : List MacroLevels)
    → IsHead head → HasMacroblocks (coded_as head decisions levels) → Slices head bytes decisions levels → AllCanBeReconstructed head decisions
    → CanBeCoded (coded_as head decisions levels)
can_be_coded head bytes decisions levels legal macroblocks read predictable =
    let both = coded_is_legal head bytes decisions levels legal.precision read in
    record {
      head = legal;
      macroblocks = macroblocks;
      legal = record { f_codes = legal.f_code; precision = legal.precision; size = legal.size; legal_decisions = both.0; legal_levels = both.1 };
      predictable = predictable;
    }

-- a unit whose headers and slices are accepted, and whose picture is in the store
pub accepts_unit : (mb_wide mb_high : ℕ) (old new : Decoder) (before : List CodedUnit) (lists : UnitLists) (shown : Shown)
    → StandsFor mb_wide mb_high old before → (h : HasHeaders mb_wide mb_high before lists new.heads new.head)
    → IsHead new.head → HasMacroblocks (coded_as new.head new.decisions.items new.levels.items) → AllCanBeReconstructed new.head new.decisions.items
    → Slices new.head lists.slices new.decisions.items new.levels.items
    → length new.decisions.items ≡ length old.decisions.items → length new.levels.items ≡ length old.levels.items
    → IsPlaced new.store (coded_as new.head new.decisions.items new.levels.items) (pictures_in before) shown
    → DecodesUnit mb_wide mb_high new before lists shown
accepts_unit mb_wide mb_high old new before lists shown s h legal macroblocks predictable slices decisions levels placed =
    let picture = coded_as new.head new.decisions.items new.levels.items in
    let u : CodedUnit = record { lists = lists; accepted = h.accepted; picture = picture } in
    let committed = committed_as mb_wide mb_high new.head.mb_wide new.head.mb_high new.store (decoded_behind (pictures_in before) picture) (pictures_in before) h.wide h.high placed.committed in
    record {
      unit = u;
      accepts = record {
        lists_are = refl;
        headers = h.headers;
        head = h.head_is;
        slices = subst (λ (x : Head). Slices x lists.slices new.decisions.items new.levels.items) h.head_is slices;
      };
      accepted = record {
        stands = record {
          heads = h.heads;
          first = subst (λ (o : Option Heads). IsFirstSize mb_wide mb_high o) (sym h.heads) h.first;
          store = subst (λ (ps : List DecodedPicture). IsStoreOf mb_wide mb_high new.store ps) (sym (pictures_more u before)) committed.stands;
          decisions = decisions ∙ s.decisions;
          levels = levels ∙ s.levels;
        };
        committed = committed;
        head = refl;
        decisions = refl;
        levels = refl;
        wide = h.wide;
        high = h.high;
        legal = can_be_coded new.head lists.slices new.decisions.items new.levels.items legal macroblocks slices predictable;
      };
      shown_is = placed.shown_is;
    }

-- a unit whose slices are refused
pub refuses_slices : (mb_wide mb_high : ℕ) (before : List CodedUnit) (lists : UnitLists) (heads : Option Heads) (head : Head) (why : Why)
    → HasHeaders mb_wide mb_high before lists heads head → RefusesSlices head lists.slices why
    → RefusedBy (after (heads_in before) lists) lists.slices why
refuses_slices mb_wide mb_high before lists heads head why h refused =
    subst (λ (r : Result Accepted Why). RefusedBy r lists.slices why) (sym h.headers)
    (subst (λ (x : Head). RefusesSlices x lists.slices why) h.head_is refused)

refused_by : (r : Result Accepted Why) (slices : List ℕ) (why : Why) → Err why ≡ head_answer r → RefusedBy r slices why
refused_by (Ok accepted) slices why is = absurd cc
refused_by (Err because) slices why is = cc

-- a unit whose headers are refused
pub refuses_headers : (before : List CodedUnit) (lists : UnitLists) (old : Option Heads) (why : Why)
    → old ≡ heads_in before → Err why ≡ head_answer (after old lists) → RefusedBy (after (heads_in before) lists) lists.slices why
refuses_headers before lists old why same answer =
    refused_by (after (heads_in before) lists) lists.slices why (answer ∙ ap (λ (o : Option Heads). head_answer (after o lists)) same)

-- behind the first unit, some unit stays accepted
pub stays_behind_first : (mb_wide mb_high : ℕ) (u : CodedUnit) (before : List CodedUnit) (lists : UnitLists) (new : Decoder) (r : Result Shown Why)
    → Decodes mb_wide mb_high new (u ∷ before) lists r → IsBehindFirst new
stays_behind_first mb_wide mb_high u before lists new (Ok shown) decoded = (mb_wide, mb_high, decoded.unit, u ∷ before, decoded.accepted.stands)
stays_behind_first mb_wide mb_high u before lists new (Err why) decoded = (mb_wide, mb_high, u, before, decoded.1)
