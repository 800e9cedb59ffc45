-- What the steps of decoding a unit answer. Nobody needs to believe it: it only carries proofs.
use Rattle.std.specs.Prelude.{◌≡◌, ℕ, List, ◌∷◌}
use Rattle.mv_terms.specs.declared.head.Head.{Head}
use Rattle.mv_terms.specs.declared.macroblock.Decision.{Decision}
use Rattle.mv_terms.specs.declared.macroblock.MacroLevels.{MacroLevels}
use Rattle.mv_terms.specs.CodedPicture.{CodedPicture, pic_of}
use Rattle.mv_planes.specs.References.{DecodedPicture, type_of}
use Rattle.mv_recon.specs.Decoded.{decoded_behind}
use Rattle.mv_store.specs.declared.store.RefStore.{RefStore}
use Rattle.mv_store.specs.declared.store.Shown.{Shown}
use Rattle.mv_store.specs.Answers.{answer_to}
use Rattle.mv_store.specs.Stored.{HasCommitted, StandsFor}
use Rattle.mv_units.specs.Profile.{CodedUnit}
use Rattle.mv_decode.specs.declared.decoder.Decoder.{Decoder}
use Rattle.mv_decode.specs.Stands.{StandsFor as IsDecoderOf}

abbrev pub coded_as : Head → List Decision → List MacroLevels → CodedPicture
coded_as head decisions levels = record { head = head; decisions = decisions; levels = levels }

-- the store stands for these pictures, all of the size of the head
abbrev pub IsStoreFor : Head → RefStore → List DecodedPicture → Type 0
IsStoreFor head store before = StandsFor head.mb_wide head.mb_high store before

-- a picture was decoded into the store behind others
pub record IsPlaced (store : RefStore) (coded : CodedPicture) (before : List DecodedPicture)
    (shown : Shown) : Type 0 where
  pub committed : HasCommitted coded.head.mb_wide coded.head.mb_high store
      (decoded_behind before coded) before
  pub shown_is : shown ≡ answer_to type_of (pic_of coded) before

-- some unit was accepted
abbrev pub IsBehindFirst : Decoder → Type 0
IsBehindFirst decoder = (mb_wide mb_high : ℕ) × (u : CodedUnit) × (before : List CodedUnit)
    × IsDecoderOf mb_wide mb_high decoder (u ∷ before)
