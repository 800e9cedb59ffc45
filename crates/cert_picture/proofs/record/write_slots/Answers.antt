use Rattle.cert_picture.proofs.RecordLemmas.{slots_more}
use Rattle.cert_picture.proofs.record.write_slots.Goals as goal

pub macroblocks-preserved : goal.macroblocks-preserved
macroblocks-preserved c = slots_more c.args.decisions.now _ c.macroblocks.to c.put.new.to c.slot_bytes.result c.macroblocks.k c.macroblocks-test.true c.slot_bytes.ensures c.put.ensures c.macroblocks.invariant
