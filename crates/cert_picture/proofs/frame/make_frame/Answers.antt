use Rattle.std.proofs.Common.{◌≡◌, ◌∙◌, ◌*◌, length, ap, sym, arith}
use Rattle.mv_planes.specs.References.{references_lent}
use Rattle.cert_picture.specs.Certifying.{coded_lent}
use Rattle.cert_picture.specs.Lent.{lent_parts}
use Rattle.cert_picture.proofs.CertifyingLemmas.{read_is_legal}
use Rattle.cert_picture.proofs.RecordLemmas.{all_of_frame, as_many_macroblocks, refilled}
use Rattle.cert_picture.proofs.SealedLemmas.{front_of, no_record, sealed, sealed_samples, sheet_ends, unsealed_samples}
use Rattle.cert_picture.specs.Records.{no_seal}
use Rattle.cert_picture.proofs.frame.make_frame.Goals as goal

pub returns-then-not-is_recordable-clause-frame : goal.returns-then-not-is_recordable-clause-frame
returns-then-not-is_recordable-clause-frame c =
    let p = lent_parts c.args.coded.now c.args.stream.now in
    let to = c.args.to.now in
    let len : to.len ≡ length to.items = omega (arith, to.ok.0) in
    refilled to.len to.items c.write_unrecorded.new.to (omega (arith, len, c.write_unrecorded.auto.to, c.deref_mut.ensures.len))
    ∙ unsealed_samples p c.write_unrecorded.new.to (no_record p (sym c.is_recordable.ensures ∙ c.if-not-is_recordable.true)) c.write_unrecorded.ensures

pub returns-then-not-is_recordable-clause-seal : goal.returns-then-not-is_recordable-clause-seal
returns-then-not-is_recordable-clause-seal c = no_record (lent_parts c.args.coded.now c.args.stream.now) (sym c.is_recordable.ensures ∙ c.if-not-is_recordable.true)

pub write_record-requires-clause-decisions : goal.write_record-requires-clause-decisions
write_record-requires-clause-decisions c =
    let coded = c.args.coded.now in
    (read_is_legal coded.head.now c.args.stream.now.unit.slices.now coded.decisions.now coded.levels.now c.requires.head c.requires.coded).legal_decisions.size
    ∙ sym (all_of_frame coded.head.now c.requires.head.frame)

pub bury_sealed-requires-clause-slots : goal.bury_sealed-requires-clause-slots
bury_sealed-requires-clause-slots c =
    let coded = c.args.coded.now in
    ap length c.deref.ensures.value ∙ c.write_record.ensures.slots_size
    ∙ ap (λ n. 20 * n) (sym (as_many_macroblocks (references_lent coded.refs) (coded_lent coded) coded.picture.now c.requires.head.frame c.requires.decoded))

pub bury_sealed-requires-clause-sheet : goal.bury_sealed-requires-clause-sheet
bury_sealed-requires-clause-sheet c =
    let coded = c.args.coded.now in
    c.write_record.ensures.sheet_size
    ∙ ap (λ n. 12 * n) (sym (as_many_macroblocks (references_lent coded.refs) (coded_lent coded) coded.picture.now c.requires.head.frame c.requires.decoded))

pub returns-clause-frame : goal.returns-clause-frame
returns-clause-frame c =
    let p = lent_parts c.args.coded.now c.args.stream.now in
    let sheet = c.write_record.ensures.sheet ∙ sheet_ends p no_seal in
    let slots = c.deref.ensures.value ∙ c.write_record.ensures.slots in
    sealed_samples p c.deref.result.now c.bury_sealed.result c.bury_sealed.new.to.items
    (sealed p c.deref.result.now c.bury_sealed.result (sym c.is_recordable.ensures ∙ c.if-not-is_recordable.false) slots (c.bury_sealed.ensures.seal (front_of p) sheet)) slots
    (c.bury_sealed.ensures.frame (front_of p) sheet)

pub returns-clause-seal : goal.returns-clause-seal
returns-clause-seal c =
    let p = lent_parts c.args.coded.now c.args.stream.now in
    let sheet = c.write_record.ensures.sheet ∙ sheet_ends p no_seal in
    let slots = c.deref.ensures.value ∙ c.write_record.ensures.slots in
    sealed p c.deref.result.now c.bury_sealed.result (sym c.is_recordable.ensures ∙ c.if-not-is_recordable.false) slots (c.bury_sealed.ensures.seal (front_of p) sheet)
