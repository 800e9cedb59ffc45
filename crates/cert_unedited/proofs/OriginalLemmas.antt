-- A step that is coded by the record of a certified picture, as it, writes its original bytes.
use Rattle.std.proofs.Common.{◌≡◌, ℕ, ◌≤◌, Bool, true, false, cond, nat_le, List, [], ◌∷◌, ◌++◌, Option, None, Some, is_some, option_map, bytes_eq, filter, refl, sym, ap, ap₂, ◌∙◌, subst, leb-true}
use Rattle.std.specs.Option.{option_map_or}
use Rattle.std.proofs.Math.Nat.{max-eq_left}
use Rattle.std.proofs.lemmas.Bool.{and_parts}
use Rattle.std.proofs.lemmas.Slice.Eq.{bytes_eq-Decides}
use Rattle.mv_terms.specs.declared.head.Head.{Head}
use Rattle.mv_terms.specs.declared.frame_header.FrameHeader.{FrameHeader}
use Rattle.mv_terms.specs.declared.macroblock.MacroLevels.{MacroLevels}
use Rattle.mv_terms.specs.PicTypes.{is_anchor}
use Rattle.mv_terms.specs.Order.{first}
use Rattle.mv_bits.specs.Zeros.{zero_bytes}
use Rattle.mv_heads.specs.HeadElements.{sequence_bytes}
use Rattle.mv_slices.specs.Slices.{Slices}
use Rattle.mv_slices.specs.Canonical.{canonical_slices, canonical_tail}
use Rattle.rec_bury.specs.Exhumed.{sheet_in, slots_in}
use Rattle.rec_legal.specs.Conditions.{file_size}
use Rattle.rec_legal.specs.FoundRecord.{FoundRecord}
use Rattle.rec_legal.specs.Laws.{FoundIsFound, SaidIsLegal}
use Rattle.plan_window.specs.declared.summary.Mode.{Mode}
use Rattle.plan_window.specs.declared.summary.Mode.TheVariants as mode
use Rattle.cert_picture.specs.Records.{are_slices_of, is_recordable, returns_slices}
use Rattle.cert_picture.specs.RecordLaws.{CertifiedComesFromSamples}
use Rattle.enc_glue.specs.Glue.{glue}
use Rattle.enc_guided.specs.Recoded.{CodedStep, FrameStep, Recoding, bytes_in_force, bytes_with, coded_step, front_of, glue_of, guide_by, guided_front, levels_of, source_in, target_of}
use Rattle.cert_chains.specs.Intact.{StreamPicture, parts_in_stream}
use Rattle.cert_chains.specs.ComesBack.{original}
use Rattle.cert_unedited.proofs.OrderLemmas.{none_some}
use Rattle.cert_unedited.proofs.FrameLemmas.{IsSound, record_in_stream, samples_in}

-- ---- a step by a record

guide_is_found : (m : Mode) (o : Option FoundRecord) (g : FoundRecord) → guide_by m o ≡ Some g → o ≡ Some g
guide_is_found mode.Guided o g e = e
guide_is_found mode.Fresh o g e = absurd (none_some g e)

pub record IsByRecord (r : Recoding) (s : FrameStep) (before : List CodedStep) (g : FoundRecord) : Type 0 where
  pub anchor : (coded_step r s before).anchor ≡ s.step.anchor
  pub target : (coded_step r s before).target ≡ target_of r.header (Some g) before
  pub bytes : (coded_step r s before).bytes
      ≡ glue_of s.step.anchor (Some g) before (target_of r.header (Some g) before) ++ bytes_with (guided_front g) (coded_step r s before).coded.levels

pub by_record : (r : Recoding) (s : FrameStep) (before : List CodedStep) (g : FoundRecord) → (coded_step r s before).guide ≡ Some g → IsByRecord r s before g
unfolding coded_step
by_record r s before g e =
    let found = r.find s.frame in
    let guide = guide_by s.step.mode found in
    let target_is : target_of r.header found before ≡ target_of r.header (Some g) before = ap (λ o. target_of r.header o before) (guide_is_found s.step.mode found g e) in
    let front = front_of r s guide (target_of r.header found before) before in
    let levels = levels_of front (source_in r.header s.frame) before in
    record {
      anchor = refl;
      target = target_is;
      bytes = ap₂ (λ o t. glue_of s.step.anchor o before t ++ bytes_with (front_of r s o t before) levels) e target_is;
    }

-- ---- no sequence part in front

no_glue : (own : Option (List ℕ)) (in_force target : List ℕ) → (own ≡ None → in_force ≡ target) → glue in_force target (is_some own) ≡ []
no_glue (Some part) in_force target same = refl
no_glue None in_force target same = ap (λ b. cond b [] target) ((bytes_eq-Decides in_force target).1 (same refl))

pub target_bytes : (header : FrameHeader) (g : FoundRecord) (before : List CodedStep) → is_anchor g.sheet.pic ≡ true → (target_of header (Some g) before).bytes ≡ g.sheet.context
target_bytes header g before is = rw is refl

pub no_glue_of : (header : FrameHeader) (anchor : Bool) (g : FoundRecord) (before : List CodedStep) → anchor ≡ is_anchor g.sheet.pic
    → (is_anchor g.sheet.pic ≡ true → sequence_bytes g.sheet.prefix ≡ None → bytes_in_force before ≡ g.sheet.context)
    → glue_of anchor (Some g) before (target_of header (Some g) before) ≡ []
no_glue_of header false g before e same = refl
no_glue_of header true g before e same =
    no_glue (sequence_bytes g.sheet.prefix) (bytes_in_force before) (target_of header (Some g) before).bytes
    (λ none. same (sym e) none ∙ sym (target_bytes header g before (sym e)))

pub in_force_behind : (c : CodedStep) (before : List CodedStep) → bytes_in_force (c ∷ before) ≡ cond c.anchor c.target.bytes (bytes_in_force before)
in_force_behind c before = go c.anchor
  where
    go : (b : Bool) → option_map_or (λ t. t.bytes) (option_map (λ s. s.target) (first (cond b (c ∷ filter (λ s. s.anchor) before) (filter (λ s. s.anchor) before)))) []
        ≡ cond b c.target.bytes (bytes_in_force before)
    go true = refl
    go false = refl

-- ---- the bytes of a picture

-- its levels, coded with its decisions, are its slices
are_own_slices : FoundIsFound → SaidIsLegal → CertifiedComesFromSamples → (header : FrameHeader) (p : StreamPicture) → IsSound header p
    → are_slices_of (parts_in_stream p) p.unit.picture.levels ≡ true
are_own_slices found_law legal_law certified_law header p s =
    let parts = parts_in_stream p in
    let size = file_size header in
    let is = ((found_law size (samples_in p) (record_in_stream p)).0 s.found_is).is_said in
    let legal = legal_law size (slots_in size.mb_wide size.mb_high (samples_in p)) (sheet_in size.mb_wide size.mb_high (samples_in p)) (record_in_stream p) is in
    let returns = (and_parts (is_recordable parts) (returns_slices parts) s.certified).1 in
    let accepts = s.accepted.1.accepts in
    let slices = subst (λ (h : Head). Slices h p.unit.lists.slices p.unit.picture.decisions p.unit.picture.levels) (sym accepts.head) accepts.slices in
    let from = certified_law parts legal.head is.legal slices returns in
    ap (are_slices_of parts) (sym from.levels) ∙ returns

pub original_bytes : FoundIsFound → SaidIsLegal → CertifiedComesFromSamples → (header : FrameHeader) (p : StreamPicture) (levels : List MacroLevels) → IsSound header p
    → levels ≡ p.unit.picture.levels → bytes_with (guided_front (record_in_stream p)) levels ≡ original p.unit.lists
original_bytes found_law legal_law certified_law header p levels s e =
    let u = p.unit in
    let slices = canonical_slices u.picture.head u.picture.decisions u.picture.levels in
    let tail = canonical_tail u.picture.head u.picture.decisions u.picture.levels in
    let own = and_parts (bytes_eq slices u.lists.slices) (nat_le tail u.lists.zeros) (are_own_slices found_law legal_law certified_law header p s) in
    let same : slices ≡ u.lists.slices = (bytes_eq-Decides slices u.lists.slices).0 own.0 in
    let less : tail ≤ u.lists.zeros = leb-true tail u.lists.zeros own.1 in
    ap (bytes_with (guided_front (record_in_stream p))) e
    ∙ ap₂ (λ x n. u.lists.prefix ++ (u.lists.head ++ (x ++ zero_bytes n))) same (max-eq_left less)
