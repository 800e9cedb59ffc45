use Rattle.std.proofs.Common.{arith, rules, sym, refl, ◌∙◌}
use Rattle.std.proofs.lemmas.Bool.{false≢true}
use Rattle.rec_sheet.proofs.ReadLemmas.{ends_inside, is_clear, is_sheet, HasLengths}
use Rattle.rec_sheet.proofs.read.read_sheet.Goals as goal
use Rattle.rec_sheet.proofs.read.read_sheet.Goals.{then-end-bytes-via-then-end-bytes, then-end-bytes-via-else-end-bytes+then-not-are_zeros}

pub returns-then-end-bytes : goal.returns-then-end-bytes
returns-then-end-bytes c = λ s is.
    let l : HasLengths c.args.bytes.now c.two_at-context.result c.two_at-prefix.result c.two_at-head.result = record { context = sym c.two_at-context.ensures.value; prefix = sym c.two_at-prefix.ensures.value; head = sym c.two_at-head.ensures.value } in
    elim c.then-end-bytes.branch [
      | then-end-bytes-via-then-end-bytes w ↦ (let long = w.if-end-bytes.true in absurd (omega (arith, ends_inside s c.args.bytes.now _ _ _ l is)))
      | then-end-bytes-via-else-end-bytes+then-not-are_zeros w ↦ (let clear = is_clear s c.args.bytes.now w.part.result.now _ _ _ l w.part.ensures.value w.part.ensures.size is in let q = w.are_zeros.ensures in absurd (false≢true (sym w.if-not-are_zeros.true ∙ q.1 clear)))
    ]

pub returns : goal.returns
returns c =
    is_sheet _ c.args.bytes.now c.part.result.now c.two_at-context.result c.two_at-prefix.result c.two_at-head.result (λ k. let f = c.type_inv.bytes k in omega arith) (search rules) c.in-Some.ensures refl
    c.link_at.ensures c.link_at-2.ensures (omega arith) (omega arith) c.four_at.ensures c.four_at-2.ensures
    (record { context = sym c.two_at-context.ensures.value; prefix = sym c.two_at-prefix.ensures.value; head = sym c.two_at-head.ensures.value }) (omega arith)
    c.part-2.ensures.value c.part-2.ensures.size c.part-3.ensures.value c.part-3.ensures.size c.part-4.ensures.value c.part-4.ensures.size
    c.part.ensures.value c.part.ensures.size (search rules)
