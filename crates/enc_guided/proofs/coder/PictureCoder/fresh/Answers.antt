use Rattle.std.proofs.Common.{ℕ, List, None, option_map, subst}
use Rattle.mv_ends.specs.Sends.{Sends}
use Rattle.enc_guided.specs.Recoded.{Recoding}
use Rattle.enc_guided.specs.Stands.{lent_part}
use Rattle.enc_guided.proofs.FreshLemmas.{begins_fresh, codes_fresh, may_code_fresh, sent_fresh}
use Rattle.enc_guided.proofs.coder.PictureCoder.fresh.Goals as goal

pub code_fresh-requires : goal.code_fresh-requires
code_fresh-requires g c =
    let n = c.requires in
    let r : Recoding = record { header = n.0; scale = n.1; find = λ frame. None } in
    may_code_fresh r n.2 c.args.frame c.args.anchor c.args.source.now c.args.self.now c.bring_into_force-repeats.new.self (option_map lent_part c.args.own) c.bring_into_force-repeats.result c.context_under-context.result
    (begins_fresh r n.2 c.args.frame c.args.anchor c.args.source.now c.args.self.now c.bring_into_force-repeats.new.self (option_map lent_part c.args.own) c.bring_into_force-repeats.result c.context_under-context.result
    n.3 n.4 c.bring_into_force-repeats.ensures c.context_under-context.ensures)

pub returns-clause-codes : goal.returns-clause-codes
returns-clause-codes g c header scale before coded may =
    let r : Recoding = record { header = header; scale = scale; find = λ frame. None } in
    codes_fresh r before c.args.frame c.args.anchor c.args.source.now c.args.self.now c.bring_into_force-repeats.new.self (option_map lent_part c.args.own) c.bring_into_force-repeats.result c.context_under-context.result
    (begins_fresh r before c.args.frame c.args.anchor c.args.source.now c.args.self.now c.bring_into_force-repeats.new.self (option_map lent_part c.args.own) c.bring_into_force-repeats.result c.context_under-context.result
    coded may c.bring_into_force-repeats.ensures c.context_under-context.ensures)
    c.code_fresh.new.self c.code_fresh.ensures

pub returns-clause-sends : goal.returns-clause-sends
returns-clause-sends g c header scale before coded may =
    let r : Recoding = record { header = header; scale = scale; find = λ frame. None } in
    subst (λ (bytes : List ℕ). Sends (g.O.Sink.told c.args.out.now) (g.O.Sink.told c.send_fresh.new.out) bytes c.send_fresh.result)
    (sent_fresh r before c.args.frame c.args.anchor c.args.source.now c.args.self.now c.bring_into_force-repeats.new.self (option_map lent_part c.args.own) c.bring_into_force-repeats.result c.context_under-context.result
    (begins_fresh r before c.args.frame c.args.anchor c.args.source.now c.args.self.now c.bring_into_force-repeats.new.self (option_map lent_part c.args.own) c.bring_into_force-repeats.result c.context_under-context.result
    coded may c.bring_into_force-repeats.ensures c.context_under-context.ensures)
    c.code_fresh.new.self c.code_fresh.ensures)
    c.send_fresh.ensures
