-- What a decoder stands for: the units that it accepted, in coded order, the latest first.
use Rattle.std.specs.Prelude.{◌≡◌, ℕ, ◌*◌, List, ◌∷◌, length, Result, Ok, Err}
use Rattle.mv_terms.specs.declared.status.Why.{Why}
use Rattle.mv_terms.specs.Ranges.{IsHead}
use Rattle.mv_terms.specs.CodedPicture.{CodedPicture, HasMacroblocks, pic_of}
use Rattle.mv_terms.specs.UnitLists.{UnitLists}
use Rattle.mv_vectors.specs.Predictable.{AllCanBeReconstructed}
use Rattle.mv_slices.specs.CanonicalLaws.{IsLegalPicture}
use Rattle.mv_planes.specs.References.{type_of, references_lent}
use Rattle.mv_planes.specs.declared.coded.Coded.{Coded}
use Rattle.mv_predict.specs.Blocks.{HasSizeOf}
use Rattle.mv_recon.specs.Decoded.{references_behind, decoded_behind}
use Rattle.mv_store.specs.declared.store.Shown.{Shown}
use Rattle.mv_store.specs.Answers.{answer_to}
use Rattle.mv_store.specs.Stored.{HasCommitted, StandsFor as IsStoreOf}
use Rattle.mv_units.specs.Profile.{CodedUnit, heads_in, Accepts, Refuses}
use Rattle.mv_decode.specs.declared.decoder.Decoder.{Decoder}
use Rattle.mv_decode.specs.Units.{pictures_in, IsFirstSize}

-- The decoder knows the headers of these units, and its store their pictures. It has a place for each macroblock of a
-- picture of this size, which is that of the first unit.
pub record StandsFor (mb_wide mb_high : ℕ) (decoder : Decoder)
    (before : List CodedUnit) : Type 0 where
  pub heads : decoder.heads ≡ heads_in before
  pub first : IsFirstSize mb_wide mb_high decoder.heads
  pub store : IsStoreOf mb_wide mb_high decoder.store (pictures_in before)
  pub decisions : length decoder.decisions.items ≡ mb_wide * mb_high
  pub levels : length decoder.levels.items ≡ mb_wide * mb_high

-- A picture that can be coded again: its head has legal fields, and its decisions and levels are legal, one of each for
-- each macroblock.
pub record CanBeCoded (picture : CodedPicture) : Type 0 where
  pub head : IsHead picture.head
  pub macroblocks : HasMacroblocks picture
  pub legal : IsLegalPicture picture.head picture.decisions picture.levels
  pub predictable : AllCanBeReconstructed picture.head picture.decisions

-- This unit was accepted last, behind the others, and none was refused since.
pub record HasAccepted (mb_wide mb_high : ℕ) (decoder : Decoder) (u : CodedUnit)
    (before : List CodedUnit) : Type 0 where
  pub stands : StandsFor mb_wide mb_high decoder (u ∷ before)
  pub committed : HasCommitted mb_wide mb_high decoder.store
      (decoded_behind (pictures_in before) u.picture)
      (pictures_in before)
  pub head : decoder.head ≡ u.picture.head
  pub decisions : decoder.decisions.items ≡ u.picture.decisions
  pub levels : decoder.levels.items ≡ u.picture.levels
  pub wide : u.picture.head.mb_wide ≡ mb_wide
  pub high : u.picture.head.mb_high ≡ mb_high
  pub legal : CanBeCoded u.picture

-- A unit behind others is accepted, and the answer says what is shown now.
pub record DecodesUnit (mb_wide mb_high : ℕ) (new : Decoder) (before : List CodedUnit)
    (lists : UnitLists) (shown : Shown) : Type 0 where
  pub unit : CodedUnit
  pub accepts : Accepts (heads_in before) lists unit
  pub accepted : HasAccepted mb_wide mb_high new unit before
  pub shown_is : shown ≡ answer_to type_of (pic_of unit.picture) (pictures_in before)

-- What a unit behind others comes to: it is accepted; or it is refused, and then the decoder stands for the same units
-- as before.
abbrev pub Decodes : ℕ → ℕ → Decoder → List CodedUnit → UnitLists → Result Shown Why → Type 0
Decodes mb_wide mb_high new before lists (Ok shown) =
    DecodesUnit mb_wide mb_high new before lists shown
Decodes mb_wide mb_high new before lists (Err why) =
    Refuses (heads_in before) lists why × StandsFor mb_wide mb_high new before

-- the headers that a decoder knows and the pictures at hand, with what was shown of them, are the same
pub record KeepsUnits (old new : Decoder) : Type 0 where
  pub heads : new.heads ≡ old.heads
  pub store : new.store ≡ old.store

-- What is lent is a unit behind others: its head, decisions and levels, the picture that they decode to, and the
-- references of this.
pub record IsLent (coded : Coded) (u : CodedUnit) (before : List CodedUnit) : Type 0 where
  pub head : coded.head.now ≡ u.picture.head
  pub decisions : coded.decisions.now ≡ u.picture.decisions
  pub levels : coded.levels.now ≡ u.picture.levels
  pub picture : coded.picture.now ≡ (decoded_behind (pictures_in before) u.picture).picture
  pub refs : references_lent coded.refs ≡ references_behind (pictures_in before) u.picture
  pub extended : coded.extended ≡ u.accepted.heads.in_force.extended

-- What is lent can be coded again, and the picture that it decodes to and the references have its size.
pub record LendsLegal (coded : Coded) : Type 0 where
  pub legal : CanBeCoded (record {
    head = coded.head.now;
    decisions = coded.decisions.now;
    levels = coded.levels.now;
  })
  pub picture : HasSizeOf coded.head.now coded.picture.now
  pub forward : HasSizeOf coded.head.now coded.refs.forward.now
  pub backward : HasSizeOf coded.head.now coded.refs.backward.now
