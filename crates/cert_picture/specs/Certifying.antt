-- What a certificate is about.
use Rattle.std.specs.Prelude.{◌≡◌, ℕ, List}
use Rattle.mv_terms.specs.CodedPicture.{CodedPicture}
use Rattle.mv_planes.specs.declared.coded.Coded.{Coded}
use Rattle.mv_planes.specs.References.{references_lent}
use Rattle.cert_picture.specs.Records.{FrameParts}

-- A frame is made from this coded picture, with what it decodes to and from which references, from slices of these bytes,
-- and from so many zero bytes behind them.
pub record IsMadeFrom (p : FrameParts) (coded : Coded) (bytes : List ℕ) (zero_count : ℕ)
    : Type 0 where
  pub head : coded.head.now ≡ p.picture.head
  pub decisions : coded.decisions.now ≡ p.picture.decisions
  pub decoded : coded.picture.now ≡ p.decoded
  pub references : references_lent coded.refs ≡ p.references
  pub slices : bytes ≡ p.lists.slices
  pub zeros : zero_count ≡ p.lists.zeros

-- the coded picture that is lent
abbrev pub coded_lent : Coded → CodedPicture
coded_lent coded = record {
  head = coded.head.now;
  decisions = coded.decisions.now;
  levels = coded.levels.now;
}
