use Rattle.std.proofs.Common.{◌≡◌, ◌*◌, true, is_some, length, sym, subst}
use Rattle.rec_legal.specs.Conditions.{file_size}
use Rattle.rec_legal.specs.Found.{found}
use Rattle.mv_terms.specs.declared.frame_header.FrameHeader.{FrameHeader}
use Rattle.rec_reader.specs.Room.{file_macroblocks}
use Rattle.job_coding.proofs.FrameLemmas.{file_frame_size}
use Rattle.job_coding.proofs.records.Records.found.Goals as goal

pub read_again-requires-clause-size : goal.read_again-requires-clause-size
read_again-requires-clause-size c =
    let stands = c.requires.3 in
    subst (λ (h : FrameHeader). length c.args.frame.now ≡ 768 * file_macroblocks h) (sym stands.header_is) (file_frame_size c.requires.0 c.args.frame.now stands.is_header c.requires.4)

pub read_again-requires-clause-known : goal.read_again-requires-clause-known
read_again-requires-clause-known c =
    let stands = c.requires.3 in
    subst (λ (h : FrameHeader). is_some (found (file_size h) c.args.frame.now) ≡ true) (sym stands.header_is) (c.requires.5 c.in-Guided.is)

pub read-requires : goal.read-requires
read-requires c =
    let stands = c.requires.3 in
    subst (λ (h : FrameHeader). length c.args.frame.now ≡ 768 * file_macroblocks h) (sym stands.header_is) (file_frame_size c.requires.0 c.args.frame.now stands.is_header c.requires.4)
