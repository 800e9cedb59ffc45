use Rattle.std.proofs.Common.{◌≡◌, ◌∙◌, ◌+◌, ◌-◌, ◌++◌, ◌∷◌, [], false, ap, sym, arith, length, cond}
use Rattle.std.proofs.lemmas.Grind.{common_steps}
use Rattle.std.proofs.lemmas.List.{length-append}
use Rattle.cut_list.specs.List.{entries_from, is_past, lines_of, list_limit}
use Rattle.cut_list.specs.Steps.{len_of, behind, lines_left}
use Rattle.cut_list.proofs.ListLemmas.{list_ends, line_past, line_bad, line_read, none_left, list_begins, empty_list, not_past, ok_where}
use Rattle.cut_list.proofs.list.read_list.Goals as goal

pub returns-then-is_empty-clause-entries : goal.returns-then-is_empty-clause-entries
returns-then-is_empty-clause-entries c = empty_list c.args.bytes.now (grind (arith, common_steps))

pub lines-init : goal.lines-init
lines-init c =
    let some : length c.args.bytes.now ≡ 0 → ⊥ = grind (arith, common_steps) in
    let none = c.new-entries.ensures.items in
    record {
      whole = list_begins c.args.bytes.now some ∙ ap (λ done. behind done (entries_from 1 list_limit (lines_of c.args.bytes.now))) (sym none);
      count = ap (λ xs. length xs + 1) none;
      few = omega arith;
      room = omega arith;
    }

pub returns-then-ends_list-clause-entries : goal.returns-then-ends_list-clause-entries
returns-then-ends_list-clause-entries c =
    list_ends c.args.bytes.now c.lines.entries.items c.lines.number c.lines.room c.lines.rest c.in-Some.text c.first_line.result.0.now c.first_line.result.1
    c.lines.invariant.whole c.in-Some.is c.first_line.ensures.parts (sym c.ends_list.ensures ∙ c.if-ends_list.true)

pub returns-then-is_past-clause-entries : goal.returns-then-is_past-clause-entries
returns-then-is_past-clause-entries c =
    line_past c.args.bytes.now c.lines.entries.items c.lines.number c.lines.room c.lines.rest c.in-Some.text c.first_line.result.0.now c.first_line.result.1
    c.lines.invariant.whole c.in-Some.is c.first_line.ensures.parts (sym c.ends_list.ensures ∙ c.if-ends_list.false)
    (ap (λ t. is_past c.lines.number c.lines.room t) (sym c.line_len-taken.ensures) ∙ sym c.is_past.ensures ∙ c.if-is_past.true)

pub returns-in-Ok-None-clause-entries : goal.returns-in-Ok-None-clause-entries
returns-in-Ok-None-clause-entries c =
    line_bad c.args.bytes.now c.lines.entries.items c.lines.number c.lines.room c.lines.rest c.in-Some.text c.first_line.result.0.now c.first_line.result.1
    c.lines.invariant.whole c.in-Some.is c.first_line.ensures.parts (sym c.ends_list.ensures ∙ c.if-ends_list.false)
    (ap (λ t. is_past c.lines.number c.lines.room t) (sym c.line_len-taken.ensures) ∙ sym c.is_past.ensures ∙ c.if-is_past.false)
    (sym c.in-Ok-None.ensures ∙ c.in-Ok-None.field-0-is)

pub lines-preserved : goal.lines-preserved
lines-preserved c =
    let line = c.first_line.result.0.now in
    let more = c.first_line.result.1 in
    let done = c.lines.entries.items in
    let e = c.in-Ok-Some.entry in
    let n = c.lines.number in
    let room = c.lines.room in
    let i = c.lines.invariant in
    let taken : c.line_len-taken.result ≡ len_of line more = c.line_len-taken.ensures in
    let past : is_past n room c.line_len-taken.result ≡ false = sym c.is_past.ensures ∙ c.if-is_past.false in
    let within = not_past n room c.line_len-taken.result past in
    let items : c.push.new.self.items ≡ done ++ e ∷ [] =
    c.push.ensures.items ∙ ap (λ b. cond b (done ++ e ∷ []) done) (ok_where c.push.result (sym c.is_err.ensures.value ∙ c.if-is_err.false)) in
    record {
      whole = line_read c.args.bytes.now done n room c.lines.rest c.in-Some.text line more i.whole c.in-Some.is c.first_line.ensures.parts e (sym c.ends_list.ensures ∙ c.if-ends_list.false)
          (ap (λ t. is_past n room t) (sym taken) ∙ past) (sym c.in-Ok-Some.ensures ∙ c.in-Ok-Some.field-0-is)
          ∙ ap (λ t. behind (done ++ e ∷ []) (entries_from (n + 1) (room - t) (lines_left more))) (sym taken)
          ∙ ap (λ d. behind d (entries_from (n + 1) (room - c.line_len-taken.result) (lines_left more))) (sym items);
      count = ap (λ xs. length xs + 1) items ∙ ap (λ k. k + 1) (length-append done (e ∷ []) ∙ i.count);
      few = omega (arith, within.0);
      room = omega (arith, i.room);
    }

pub returns-clause-entries : goal.returns-clause-entries
returns-clause-entries c =
    none_left c.args.bytes.now c.lines.entries.items c.lines.number c.lines.room c.lines.rest c.lines.invariant.whole c.in_default.is
