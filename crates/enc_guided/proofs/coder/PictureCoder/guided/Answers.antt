use Rattle.std.proofs.Common.{ℕ, List, None, subst}
use Rattle.mv_ends.specs.Sends.{Sends}
use Rattle.rec_reader.specs.Lent.{lent_found}
use Rattle.enc_guided.specs.Recoded.{Recoding}
use Rattle.enc_guided.proofs.GuidedLemmas.{begins_guided, codes_guided, may_code_guided, sent_guided}
use Rattle.enc_guided.proofs.coder.PictureCoder.guided.Goals as goal

pub code_guided-requires : goal.code_guided-requires
code_guided-requires g c =
    let n = c.requires in
    let r : Recoding = record { header = n.0; scale = n.1; find = λ frame. None } in
    may_code_guided r n.2 c.args.frame c.is_anchor.result c.args.source.now c.args.self.now c.bring_into_force-changes.new.self (lent_found c.args.guide.now) c.bring_into_force-changes.result
    (begins_guided r n.2 c.args.frame c.is_anchor.result c.args.source.now c.args.self.now c.bring_into_force-changes.new.self (lent_found c.args.guide.now) _ c.bring_into_force-changes.result
    n.3 n.4 c.is_anchor.ensures c.own_part.ensures c.bring_into_force-changes.ensures)
    c.coded_law.ensures.reconstructed

pub returns-clause-codes : goal.returns-clause-codes
returns-clause-codes g c header scale before coded may =
    let r : Recoding = record { header = header; scale = scale; find = λ frame. None } in
    codes_guided r before c.args.frame c.is_anchor.result c.args.source.now c.args.self.now c.bring_into_force-changes.new.self (lent_found c.args.guide.now) c.bring_into_force-changes.result
    (begins_guided r before c.args.frame c.is_anchor.result c.args.source.now c.args.self.now c.bring_into_force-changes.new.self (lent_found c.args.guide.now) _ c.bring_into_force-changes.result
    coded may c.is_anchor.ensures c.own_part.ensures c.bring_into_force-changes.ensures)
    c.code_guided.new.self c.code_guided.ensures

pub returns-clause-sends : goal.returns-clause-sends
returns-clause-sends g c header scale before coded may =
    let r : Recoding = record { header = header; scale = scale; find = λ frame. None } in
    subst (λ (bytes : List ℕ). Sends (g.O.Sink.told c.args.out.now) (g.O.Sink.told c.send_guided.new.out) bytes c.send_guided.result)
    (sent_guided r before c.args.frame c.is_anchor.result c.args.source.now c.args.self.now c.bring_into_force-changes.new.self (lent_found c.args.guide.now) c.bring_into_force-changes.result
    (begins_guided r before c.args.frame c.is_anchor.result c.args.source.now c.args.self.now c.bring_into_force-changes.new.self (lent_found c.args.guide.now) _ c.bring_into_force-changes.result
    coded may c.is_anchor.ensures c.own_part.ensures c.bring_into_force-changes.ensures)
    c.code_guided.new.self c.is_sent_before-repeats.result c.code_guided.ensures c.is_sent_before-repeats.ensures)
    c.send_guided.ensures
