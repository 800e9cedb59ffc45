use Rattle.std.proofs.Common.{◌≡◌, ℕ, ◌*◌, List, length, refl, sym, ap, ◌∙◌, subst}
use Rattle.std.specs.Vec.{with_items}
use Rattle.std.proofs.lemmas.List.{with_items_is}
use Rattle.mv_terms.specs.declared.head.Head.{Head}
use Rattle.mv_terms.specs.declared.macroblock.Decision.{Decision}
use Rattle.mv_terms.specs.declared.macroblock.MacroLevels.{MacroLevels}
use Rattle.mv_bits.specs.Receivers.{KeepsFirst}
use Rattle.mv_planes.specs.Planes.{Planes}
use Rattle.mv_slices.specs.CanonicalLaws.{IsLegalPicture}
use Rattle.mv_slices.proofs.LegalSlices.{same_length}
use Rattle.enc_guided.specs.Stands.{macroblocks_of}
use Rattle.enc_guided.specs.Steps.{CodesPicture, last_by, slices_by}
use Rattle.enc_guided.proofs.FreshLemmas.{fresh_coded, head_is}
use Rattle.enc_guided.proofs.coder.PictureCoder.code_fresh.Goals as goal

pub returns : goal.returns
returns c =
    let old = c.args.self.now in
    let step = c.args.step.now in
    let context = c.args.context.now in
    let head : Head = c.fresh_head-head.result in
    let decisions : List Decision = c.write_decisions.new.to in
    let levels : List MacroLevels = c.code_picture.new.levels in
    let source : Planes = c.args.source.now in
    let value = c.fresh_head-head.ensures.value in
    let many : head.mb_wide * head.mb_high ≡ macroblocks_of old.header = ap (λ (h : Head). h.mb_wide * h.mb_high) value in
    let settled = c.write_decisions.ensures.legal in
    let same_decisions : (with_items old.decisions decisions).items ≡ decisions = with_items_is old.decisions decisions (settled.size ∙ many ∙ sym c.requires.may_code.decisions ∙ sym old.decisions.ok.0) in
    let legal : IsLegalPicture head decisions levels = subst (λ (d : List Decision). IsLegalPicture head d levels) (c.deref.ensures.value ∙ same_decisions) c.code_picture.ensures.legal in
    let levels_long : length levels ≡ macroblocks_of old.header = sym (same_length head decisions levels legal) ∙ settled.size ∙ many in
    let same_levels : (with_items old.levels levels).items ≡ levels = with_items_is old.levels levels (levels_long ∙ sym c.requires.may_code.levels ∙ sym old.levels.ok.0) in
    let room : ℕ = 1200 * macroblocks_of old.header in
    let by_decisions = subst (λ (d : List Decision). KeepsFirst c.keep_slices.new.to room (slices_by head d c.deref-3.result.now)) (c.deref-2.ensures.value ∙ same_decisions) (c.keep_slices.ensures room c.requires.may_code.slices) in
    let slices = subst (λ (l : List MacroLevels). KeepsFirst c.keep_slices.new.to room (slices_by head decisions l)) c.deref-3.ensures.value by_decisions in
    fresh_coded old _ context step head decisions source (head_is old context step head c.fresh_type-pic.result c.fresh_temporal-temporal.result value c.fresh_type-pic.ensures c.fresh_temporal-temporal.ensures.value)
    c.write_decisions.ensures.value (record {
      same_header = refl;
      same_scale = refl;
      same_part = refl;
      same_context = refl;
      picture = λ before stands. subst (λ (l : List MacroLevels). CodesPicture head decisions source before l c.code_picture.new.store) (sym same_levels)
          (subst (λ (d : List Decision). CodesPicture head d source before levels c.code_picture.new.store) (c.deref.ensures.value ∙ same_decisions) (c.code_picture.ensures.coded before stands));
      legal = subst (IsLegalPicture head decisions) (sym same_levels) legal;
      pic = sym (ap (λ (h : Head). h.pic) value);
      count = refl;
      anchor = c.next_anchor-self.ensures ∙ ap (λ (t : ℕ). last_by step.anchor step.frame t old.anchor) (sym (ap (λ (h : Head). h.temporal) value));
      temporal = c.fresh_head-head.ensures.legal.temporal;
      ending = refl;
      decisions_size = ap length same_decisions ∙ settled.size ∙ many;
      levels_size = ap length same_levels ∙ levels_long;
      slices_kept = slices;
    }) (c.write_front.ensures 26 c.requires.may_code.front)
