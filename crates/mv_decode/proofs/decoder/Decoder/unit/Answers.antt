use Rattle.std.proofs.Common.{length, ap, ◌∙◌, subst, List}
use Rattle.mv_terms.specs.UnitLists.{lent_unit}
use Rattle.mv_terms.specs.declared.macroblock.Decision.{Decision}
use Rattle.mv_terms.specs.declared.macroblock.MacroLevels.{MacroLevels}
use Rattle.mv_decode.specs.Units.{pictures_in}
use Rattle.mv_decode.specs.Steps.{IsPlaced, coded_as}
use Rattle.mv_decode.proofs.HeaderLaws.{has_headers}
use Rattle.mv_decode.proofs.PictureLemmas.{as_many, store_for}
use Rattle.mv_decode.proofs.DecodeLaws.{accepts_unit}
use Rattle.mv_decode.proofs.decoder.Decoder.unit.Goals as goal

pub read_picture-requires-clause-decisions : goal.read_picture-requires-clause-decisions
read_picture-requires-clause-decisions c =
    let r = c.requires.stands in
    let e = c.in_ok-head.ensures in
    let h = has_headers r.0 r.1 r.2 (lent_unit c.args.parts.now) c.args.self.now.heads c.unit.new.self c.in_ok-head.head r.3.heads r.3.first r.4 e.head e.heads e.size in
    as_many _ r.0 r.1 c.in_ok-head.head.mb_wide c.in_ok-head.head.mb_high r.3.decisions h.wide h.high

pub read_picture-requires-clause-levels : goal.read_picture-requires-clause-levels
read_picture-requires-clause-levels c =
    let r = c.requires.stands in
    let e = c.in_ok-head.ensures in
    let h = has_headers r.0 r.1 r.2 (lent_unit c.args.parts.now) c.args.self.now.heads c.unit.new.self c.in_ok-head.head r.3.heads r.3.first r.4 e.head e.heads e.size in
    as_many _ r.0 r.1 c.in_ok-head.head.mb_wide c.in_ok-head.head.mb_high r.3.levels h.wide h.high

pub place-requires-clause-stands : goal.place-requires-clause-stands
place-requires-clause-stands c =
    let r = c.requires.stands in
    let e = c.in_ok-head.ensures in
    let h = has_headers r.0 r.1 r.2 (lent_unit c.args.parts.now) c.args.self.now.heads c.unit.new.self c.in_ok-head.head r.3.heads r.3.first r.4 e.head e.heads e.size in
    (pictures_in r.2, store_for r.0 r.1 c.in_ok-head.head c.args.self.now.store (pictures_in r.2) h.wide h.high r.3.store)

pub place-requires-clause-macroblocks : goal.place-requires-clause-macroblocks
place-requires-clause-macroblocks c =
    let r = c.requires.stands in
    let e = c.in_ok-head.ensures in
    let h = has_headers r.0 r.1 r.2 (lent_unit c.args.parts.now) c.args.self.now.heads c.unit.new.self c.in_ok-head.head r.3.heads r.3.first r.4 e.head e.heads e.size in
    record {
      decisions = as_many _ r.0 r.1 c.in_ok-head.head.mb_wide c.in_ok-head.head.mb_high (ap length c.deref.ensures.value ∙ c.in-Ok.ensures.same_decisions ∙ r.3.decisions) h.wide h.high;
      levels = as_many _ r.0 r.1 c.in_ok-head.head.mb_wide c.in_ok-head.head.mb_high (ap length c.deref-2.ensures.value ∙ c.in-Ok.ensures.same_levels ∙ r.3.levels) h.wide h.high;
    }

pub returns-clause-decodes : goal.returns-clause-decodes
returns-clause-decodes c mb_wide mb_high before s fits =
    let e = c.in_ok-head.ensures in
    let head = c.in_ok-head.head in
    let h = has_headers mb_wide mb_high before (lent_unit c.args.parts.now) c.args.self.now.heads c.unit.new.self head s.heads s.first fits e.head e.heads e.size in
    let here = store_for mb_wide mb_high head c.args.self.now.store (pictures_in before) h.wide h.high s.store in
    let one = subst (λ (d : List Decision). IsPlaced c.place.new.store (coded_as head d c.deref-2.result.now) (pictures_in before) c.place.result) c.deref.ensures.value (c.place.ensures (pictures_in before) here) in
    let placed = subst (λ (l : List MacroLevels). IsPlaced c.place.new.store (coded_as head c.read_picture.new.decisions.items l) (pictures_in before) c.place.result) c.deref-2.ensures.value one in
    accepts_unit mb_wide mb_high c.args.self.now
    (record { heads = c.unit.new.self; store = c.place.new.store; head = head; decisions = c.read_picture.new.decisions; levels = c.read_picture.new.levels })
    before (lent_unit c.args.parts.now) c.place.result s h e.legal
    (record {
      decisions = as_many _ mb_wide mb_high head.mb_wide head.mb_high (c.in-Ok.ensures.same_decisions ∙ s.decisions) h.wide h.high;
      levels = as_many _ mb_wide mb_high head.mb_wide head.mb_high (c.in-Ok.ensures.same_levels ∙ s.levels) h.wide h.high;
    })
    c.in-Ok.ensures.predictable
    c.in-Ok.ensures.reads c.in-Ok.ensures.same_decisions c.in-Ok.ensures.same_levels placed
