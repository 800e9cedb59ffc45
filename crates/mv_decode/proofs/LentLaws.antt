-- What is lent can be coded again.
use Rattle.std.proofs.Common.{◌≡◌, ℕ, List, sym, ap, ◌∙◌, subst}
use Rattle.mv_terms.specs.declared.head.PicType.{PicType}
use Rattle.mv_terms.specs.declared.head.PicType.TheVariants as pic
use Rattle.mv_terms.specs.declared.head.Head.{Head}
use Rattle.mv_terms.specs.declared.macroblock.Decision.{Decision}
use Rattle.mv_terms.specs.declared.macroblock.MacroLevels.{MacroLevels}
use Rattle.mv_terms.specs.CodedPicture.{CodedPicture}
use Rattle.mv_planes.specs.Planes.{Planes}
use Rattle.mv_planes.specs.declared.coded.Coded.{Coded}
use Rattle.mv_planes.specs.References.{DecodedPicture, References, references}
use Rattle.mv_predict.specs.Blocks.{HasSizeOf}
use Rattle.mv_recon.specs.Decoded.{decoded_behind, references_behind}
use Rattle.mv_store.specs.declared.store.RefStore.{RefStore}
use Rattle.mv_store.specs.Stored.{HasCommitted, IsOfSize}
use Rattle.mv_units.specs.Profile.{CodedUnit}
use Rattle.mv_decode.specs.declared.decoder.Decoder.{Decoder}
use Rattle.mv_decode.specs.Units.{pictures_in}
use Rattle.mv_decode.specs.Stands.{CanBeCoded, HasAccepted, IsLent, LendsLegal}
use Rattle.mv_decode.proofs.PictureLemmas.{AreOfSize, decoded_size, sized}
use Rattle.mv_decode.proofs.DecodeLaws.{committed_as}

-- the references that a picture had, behind which it was committed
refs_sized : (t : PicType) (mb_wide mb_high : ℕ) (store : RefStore) (picture : Planes) (before : List DecodedPicture)
    → HasCommitted mb_wide mb_high store (record { pic = t; picture = picture }) before → AreOfSize mb_wide mb_high (references t mb_wide mb_high before)
refs_sized pic.I mb_wide mb_high store picture before c =
    sized pic.I mb_wide mb_high before (subst (IsOfSize mb_wide mb_high) c.stands.older c.stands.older_size) (subst (IsOfSize mb_wide mb_high) c.current c.stands.current_size)
refs_sized pic.P mb_wide mb_high store picture before c =
    sized pic.P mb_wide mb_high before (subst (IsOfSize mb_wide mb_high) c.stands.older c.stands.older_size) (subst (IsOfSize mb_wide mb_high) c.current c.stands.current_size)
refs_sized pic.B mb_wide mb_high store picture before c =
    sized pic.B mb_wide mb_high before (subst (IsOfSize mb_wide mb_high) c.stands.newer c.stands.newer_size) (subst (IsOfSize mb_wide mb_high) c.stands.older c.stands.older_size)

of_head : (head lent : Head) (f g : Planes) → lent ≡ head → g ≡ f → IsOfSize head.mb_wide head.mb_high f → HasSizeOf lent g
of_head head lent f g same is size =
    subst (λ (h : Head). HasSizeOf h g) (sym same) (subst (λ (x : Planes). HasSizeOf head x) (sym is) (record { wide = size.wide; high = size.high }))

-- what is lent, as a coded picture
abbrev pub picture_lent : Coded → CodedPicture
picture_lent coded = record {
  head = coded.head.now;
  decisions = coded.decisions.now;
  levels = coded.levels.now;
}

pub same_picture : (coded : Coded) (picture : CodedPicture) → coded.head.now ≡ picture.head → coded.decisions.now ≡ picture.decisions → coded.levels.now ≡ picture.levels → picture_lent coded ≡ picture
same_picture coded picture a b c =
    ap (λ (h : Head). record { head = h; decisions = coded.decisions.now; levels = coded.levels.now }) a
    ∙ (ap (λ (d : List Decision). record { head = picture.head; decisions = d; levels = coded.levels.now }) b
    ∙ ap (λ (l : List MacroLevels). record { head = picture.head; decisions = picture.decisions; levels = l }) c)

pub lends_legal : (mb_wide mb_high : ℕ) (decoder : Decoder) (coded : Coded) (u : CodedUnit) (before : List CodedUnit)
    → HasAccepted mb_wide mb_high decoder u before → IsLent coded u before → LendsLegal coded
lends_legal mb_wide mb_high decoder coded u before h lent =
    let head = u.picture.head in
    let committed = committed_as head.mb_wide head.mb_high mb_wide mb_high decoder.store (decoded_behind (pictures_in before) u.picture) (pictures_in before) (sym h.wide) (sym h.high) h.committed in
    let refs = refs_sized head.pic head.mb_wide head.mb_high decoder.store (decoded_behind (pictures_in before) u.picture).picture (pictures_in before) committed in
    record {
      legal = subst CanBeCoded (sym (same_picture coded u.picture lent.head lent.decisions lent.levels)) h.legal;
      picture = of_head head coded.head.now (decoded_behind (pictures_in before) u.picture).picture coded.picture.now lent.head lent.picture (decoded_size (pictures_in before) u.picture);
      forward = of_head head coded.head.now (references_behind (pictures_in before) u.picture).forward coded.refs.forward.now lent.head (ap (λ (r : References). r.forward) lent.refs) refs.forward;
      backward = of_head head coded.head.now (references_behind (pictures_in before) u.picture).backward coded.refs.backward.now lent.head (ap (λ (r : References). r.backward) lent.refs) refs.backward;
    }
