-- The sizes of pictures and of their references, and the store behind a picture.
use Rattle.std.proofs.Common.{◌≡◌, ℕ, ◌*◌, List, refl, sym, ap, ◌∙◌, subst}
use Rattle.mv_terms.specs.declared.head.PicType.{PicType}
use Rattle.mv_terms.specs.declared.head.PicType.TheVariants as pic
use Rattle.mv_terms.specs.declared.head.Head.{Head}
use Rattle.mv_terms.specs.CodedPicture.{CodedPicture}
use Rattle.mv_planes.specs.declared.coded.RefPair.{RefPair}
use Rattle.mv_planes.specs.References.{DecodedPicture, References, references, last_anchor, older_anchor}
use Rattle.mv_predict.specs.Blocks.{HasSizeOf}
use Rattle.mv_recon.specs.Pictures.{picture_with}
use Rattle.mv_recon.specs.Decoded.{decoded_behind}
use Rattle.mv_store.specs.declared.store.RefStore.{RefStore}
use Rattle.mv_store.specs.Stored.{HasReferences, IsOfSize, StandsFor}
use Rattle.mv_decode.specs.Steps.{IsStoreFor}

-- the references of a picture of type t have the size of the anchors
pub record AreOfSize (mb_wide mb_high : ℕ) (refs : References) : Type 0 where
  pub forward : IsOfSize mb_wide mb_high refs.forward
  pub backward : IsOfSize mb_wide mb_high refs.backward

pub sized : (t : PicType) (mb_wide mb_high : ℕ) (before : List DecodedPicture)
    → IsOfSize mb_wide mb_high (last_anchor mb_wide mb_high before) → IsOfSize mb_wide mb_high (older_anchor mb_wide mb_high before)
    → AreOfSize mb_wide mb_high (references t mb_wide mb_high before)
sized pic.I mb_wide mb_high before last older = record { forward = last; backward = older }
sized pic.P mb_wide mb_high before last older = record { forward = last; backward = older }
sized pic.B mb_wide mb_high before last older = record { forward = older; backward = last }

lent_sized : (t : PicType) (mb_wide mb_high : ℕ) (store : RefStore) (before : List DecodedPicture) (refs : RefPair)
    → StandsFor mb_wide mb_high store before → HasReferences refs t mb_wide mb_high before
    → AreOfSize mb_wide mb_high (record { forward = refs.forward.now; backward = refs.backward.now })
lent_sized t mb_wide mb_high store before refs s lent =
    subst (AreOfSize mb_wide mb_high) (sym lent)
    (sized t mb_wide mb_high before (subst (IsOfSize mb_wide mb_high) s.newer s.newer_size) (subst (IsOfSize mb_wide mb_high) s.older s.older_size))

pub forward_sized : (head : Head) (store : RefStore) (before : List DecodedPicture) (refs : RefPair)
    → IsStoreFor head store before → HasReferences refs head.pic head.mb_wide head.mb_high before → HasSizeOf head refs.forward.now
forward_sized head store before refs s lent =
    let size = lent_sized head.pic head.mb_wide head.mb_high store before refs s lent in
    record { wide = size.forward.wide; high = size.forward.high }

pub backward_sized : (head : Head) (store : RefStore) (before : List DecodedPicture) (refs : RefPair)
    → IsStoreFor head store before → HasReferences refs head.pic head.mb_wide head.mb_high before → HasSizeOf head refs.backward.now
backward_sized head store before refs s lent =
    let size = lent_sized head.pic head.mb_wide head.mb_high store before refs s lent in
    record { wide = size.backward.wide; high = size.backward.high }

pub decoded_size : (before : List DecodedPicture) (coded : CodedPicture) → IsOfSize coded.head.mb_wide coded.head.mb_high (decoded_behind before coded).picture
unfolding picture_with
decoded_size before coded = record { wide = refl; high = refl }

pub store_for : (mb_wide mb_high : ℕ) (head : Head) (store : RefStore) (before : List DecodedPicture)
    → head.mb_wide ≡ mb_wide → head.mb_high ≡ mb_high → StandsFor mb_wide mb_high store before → IsStoreFor head store before
store_for mb_wide mb_high head store before wide high s =
    subst (λ (w : ℕ). StandsFor w head.mb_high store before) (sym wide) (subst (λ (h : ℕ). StandsFor mb_wide h store before) (sym high) s)

pub as_many : (n mb_wide mb_high wide high : ℕ) → n ≡ mb_wide * mb_high → wide ≡ mb_wide → high ≡ mb_high → n ≡ wide * high
as_many n mb_wide mb_high wide high is same_wide same_high =
    is ∙ ap (λ (x : ℕ). x * mb_high) (sym same_wide) ∙ ap (λ (x : ℕ). wide * x) (sym same_high)
