-- A recoder before the first step.
use Rattle.std.proofs.Common.{◌≡◌, ℕ, ◌*◌, List, [], length, Option, None, sym, ap, ◌∙◌, subst, arith}
use Rattle.mv_terms.specs.declared.frame_header.FrameHeader.{FrameHeader}
use Rattle.mv_terms.specs.declared.head.Context.{Context}
use Rattle.mv_terms.specs.Ranges.{IsContext, IsFrameHeader, IsScaleCode}
use Rattle.mv_bits.specs.Receivers.{KeepsFirst}
use Rattle.mv_planes.specs.Planes.{Planes, grey_of}
use Rattle.mv_store.specs.Stored.{StandsFor as IsStoreOf}
use Rattle.mv_heads.specs.Written.{written_context}
use Rattle.mv_heads.proofs.WrittenElements.{have_lengths}
use Rattle.rec_legal.specs.FoundRecord.{FoundRecord}
use Rattle.enc_fresh.specs.Fresh.{default_context}
use Rattle.enc_guided.specs.declared.coder.PictureCoder.{PictureCoder}
use Rattle.enc_guided.specs.declared.recoder.Recoder.{Recoder}
use Rattle.enc_guided.specs.Recoded.{coded_steps}
use Rattle.enc_guided.specs.Stands.{HasCoded, HasLegalTemporal, IsRoom, StandsFor, high_of, macroblocks_of, wide_of}

-- what was made for a file with this header
pub record IsMadeFor (header : FrameHeader) (scale : ℕ) (context : Context) (new : PictureCoder) : Type 0 where
  pub header_is : new.header ≡ header
  pub scale_is : new.scale ≡ scale
  pub context_is : new.context ≡ context
  pub legal_context : IsContext context
  pub part : KeepsFirst new.part 65536 (written_context context)
  pub store : IsStoreOf context.mb_wide context.mb_high new.store []
  pub decisions : length new.decisions.items ≡ context.mb_wide * context.mb_high
  pub levels : length new.levels.items ≡ context.mb_wide * context.mb_high
  pub front : IsRoom 26 new.front
  pub slices : IsRoom (1200 * (context.mb_wide * context.mb_high)) new.slices
  pub count : new.count ≡ 0
  pub anchor : new.anchor ≡ None
  pub ending : new.end ≡ None

pub started : (header : FrameHeader) (scale : ℕ) (context : Context) (new : PictureCoder) → IsFrameHeader header → IsScaleCode scale → context ≡ default_context header → IsMadeFor header scale context new
    → HasCoded new header scale []
started header scale context new is_header is_scale default made =
    let m = subst (λ (x : Context). IsMadeFor header scale x new) default made in
    let size : IsStoreOf (wide_of new.header) (high_of new.header) new.store [] = subst (λ (h : FrameHeader). IsStoreOf (wide_of h) (high_of h) new.store []) (sym m.header_is) m.store in
    record {
      header = m.header_is;
      scale = m.scale_is;
      is_header = subst IsFrameHeader (sym m.header_is) is_header;
      is_scale = subst IsScaleCode (sym m.scale_is) is_scale;
      part = m.part;
      few_bytes = omega (arith, have_lengths.context (default_context header));
      context = m.context_is;
      is_context = subst IsContext (sym m.context_is) m.legal_context;
      pictures = size;
      count = m.count;
      anchor = m.anchor;
      temporal = subst HasLegalTemporal (sym m.anchor) tt;
      ending = m.ending;
      decisions = m.decisions ∙ ap macroblocks_of (sym m.header_is);
      levels = m.levels ∙ ap macroblocks_of (sym m.header_is);
      front = m.front;
      slices = subst (λ (h : FrameHeader). IsRoom (1200 * macroblocks_of h) new.slices) (sym m.header_is) m.slices;
    }

-- ---- a recoder with its room

pub none_coded : (recoder : Recoder) (header : FrameHeader) (scale : ℕ) (size : Context) (find : List ℕ → Option FoundRecord) → HasCoded recoder.coder header scale [] → size ≡ default_context header → recoder.source ≡ grey_of size.mb_wide size.mb_high
    → StandsFor recoder (record { header = header; scale = scale; find = find }) []
unfolding coded_steps
none_coded recoder header scale size find h default grey =
    let same : recoder.source ≡ grey_of (wide_of header) (high_of header) = grey ∙ ap (λ (x : Context). grey_of x.mb_wide x.mb_high) default in
    (h, record { wide = ap (λ (f : Planes). f.mb_wide) same; high = ap (λ (f : Planes). f.mb_high) same })
