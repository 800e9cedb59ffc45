use Rattle.std.proofs.Common.{◌*◌, ◌∙◌, ap, arith, ℕ}
use Rattle.rec_legal.specs.Conditions.{file_size}
use Rattle.rec_legal.specs.Lent.{lent_record}
use Rattle.rec_legal.proofs.SaidLaws.{said_means}
use Rattle.rec_legal.proofs.record.legal.Goals as goal

pub returns-clause-meaning : goal.returns-clause-meaning
returns-clause-meaning c =
    said_means (file_size c.args.file.now) c.args.slots.now c.args.sheet.now (c.requires.slots ∙ ap (λ (k : ℕ). 20 * k) c.requires.size) (λ k. let f = c.type_inv.slots k in omega arith) (λ k. let f = c.type_inv.sheet k in omega arith) c.slot_law.ensures.written c.slot_law.ensures.one
    (λ r. lent_record r c.read_record.new.decisions) c.read_record.result c.read_record.ensures.said
