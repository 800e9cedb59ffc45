use Rattle.std.proofs.Common.{◌≡◌, ◌∙◌, length, ap, arith}
use Rattle.cert_picture.specs.Lent.{lent_parts}
use Rattle.cert_picture.proofs.RecordLemmas.{refilled, sheet_is}
use Rattle.cert_picture.proofs.record.write_record.Goals as goal

pub returns-clause-sheet : goal.returns-clause-sheet
returns-clause-sheet c =
    let sheet = c.args.sheet.now in
    let len : sheet.len ≡ length sheet.items = omega (arith, sheet.ok.0) in
    refilled sheet.len sheet.items c.write_sheet.new.to (omega (arith, len, c.write_sheet.auto.to, c.deref_mut-2.ensures.len))
    ∙ sheet_is (lent_parts c.args.coded.now c.args.stream.now) _ _ c.write_sheet.new.to c.sheet_for.ensures (ap length c.deref_mut-2.ensures.value ∙ c.requires.sheet) c.write_sheet.ensures
