use Rattle.std.proofs.Common.{sym, ◌∙◌}
use Rattle.mv_terms.specs.CodedPicture.{frame_macroblocks}
use Rattle.mv_terms.specs.UnitLists.{lent_unit}
use Rattle.mv_heads.specs.HeadsInTurn.{context_bytes}
use Rattle.cert_picture.specs.FrameFileOf.{frames_of}
use Rattle.cert_picture.specs.declared.frame.StreamParts.{StreamParts}
use Rattle.job_decode.specs.Steps.{lists_in}
use Rattle.job_decode.proofs.Made.{lent_decoded, lent_slices, made, noted}
use Rattle.job_decode.proofs.frames.FrameMaker.make.Goals as goal

pub make_frame-seal-requires-clause-coded : goal.make_frame-seal-requires-clause-coded
make_frame-seal-requires-clause-coded c =
    let h = c.requires.stands in
    lent_slices c.args.coded.now (lent_unit c.args.unit.now) h.0 h.1 h.3 h.4

pub make_frame-seal-requires-clause-decoded : goal.make_frame-seal-requires-clause-decoded
make_frame-seal-requires-clause-decoded c =
    let h = c.requires.stands in
    lent_decoded c.args.coded.now h.0 h.1 h.3

pub returns-clause-made : goal.returns-clause-made
returns-clause-made c u before stands lent lists =
    let stream : StreamParts = record { unit = c.args.unit.now; context = c.bytes.result; forward = c.forward.result; backward = c.backward.result } in
    let earlier = lists_in (frames_of before) in
    let kept = noted u.lists (lent_unit c.args.unit.now) earlier c.note.new.self lists (c.note.ensures (context_bytes earlier) stands.sequence) in
    made (frame_macroblocks c.args.coded.now.head.now) c.args.self.now
    (record { sequence = c.note.new.self; links = c.push.new.self; room = c.make_frame-seal.new.room })
    c.args.coded.now stream u before c.make_frame-seal.new.to.items c.make_frame-seal.result stands lent lists
    (c.bytes.ensures ∙ kept) c.forward.ensures c.backward.ensures c.make_frame-seal.ensures.frame c.make_frame-seal.ensures.seal
    (sym c.bytes.ensures) c.push.ensures c.make_frame-seal.ensures.room
