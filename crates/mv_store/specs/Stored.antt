-- The pictures that a store stands for: those that were committed to it, in coded order, the latest first.
use Rattle.std.specs.Prelude.{◌≡◌, ℕ, List, ◌∷◌, if◌then◌else◌, is_some}
use Rattle.mv_terms.specs.declared.head.PicType.{PicType}
use Rattle.mv_terms.specs.PicTypes.{is_anchor}
use Rattle.mv_terms.specs.Order.{held}
use Rattle.mv_planes.specs.Planes.{Planes}
use Rattle.mv_planes.specs.declared.coded.RefPair.{RefPair}
use Rattle.mv_planes.specs.References.{DecodedPicture, type_of, last_anchor, older_anchor, references, references_lent}
use Rattle.mv_store.specs.declared.store.RefStore.{RefStore}

-- a picture has this size in macroblocks
pub record IsOfSize (mb_wide mb_high : ℕ) (f : Planes) : Type 0 where
  pub wide : f.mb_wide ≡ mb_wide
  pub high : f.mb_high ≡ mb_high

-- The store holds the last two anchors among these pictures, and knows whether there is any. All its pictures have this
-- size.
pub record StandsFor (mb_wide mb_high : ℕ) (store : RefStore)
    (before : List DecodedPicture) : Type 0 where
  pub newer : store.newer ≡ last_anchor mb_wide mb_high before
  pub older : store.older ≡ older_anchor mb_wide mb_high before
  pub started : store.started ≡ is_some (held type_of before)
  pub newer_size : IsOfSize mb_wide mb_high store.newer
  pub older_size : IsOfSize mb_wide mb_high store.older
  pub current_size : IsOfSize mb_wide mb_high store.current

-- The last picture was committed behind those before it, and nothing was lent since. Where it is an anchor, the third
-- picture is the one that went out of use, else it is the last picture itself.
pub record HasCommitted (mb_wide mb_high : ℕ) (store : RefStore) (last : DecodedPicture)
    (before : List DecodedPicture) : Type 0 where
  pub stands : StandsFor mb_wide mb_high store (last ∷ before)
  pub current : store.current
      ≡ (if is_anchor last.pic then older_anchor mb_wide mb_high before else last.picture)

-- these are lent as the references of a picture of type t behind the pictures before it
abbrev pub HasReferences : RefPair → PicType → ℕ → ℕ → List DecodedPicture → Type 0
HasReferences refs t mb_wide mb_high before =
    references_lent refs ≡ references t mb_wide mb_high before

-- A store stands for the same pictures whatever is left in the picture that it lent.
abbrev pub StandsWhateverIsLeft : Type 0
StandsWhateverIsLeft =
    (mb_wide mb_high : ℕ) (store : RefStore) (f : Planes) (before : List DecodedPicture)
    → StandsFor mb_wide mb_high store before → IsOfSize mb_wide mb_high f
    → StandsFor mb_wide mb_high (record store { current = f }) before
