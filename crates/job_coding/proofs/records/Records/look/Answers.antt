use Rattle.std.proofs.Common.{◌≡◌, ◌*◌, length, Some, None, sym, subst}
use Rattle.mv_terms.specs.declared.frame_header.FrameHeader.{FrameHeader}
use Rattle.rec_reader.specs.Lent.{lent_found}
use Rattle.rec_reader.specs.Room.{file_macroblocks}
use Rattle.job_coding.specs.Stands.{contexts_of, known_of}
use Rattle.job_coding.proofs.FrameLemmas.{file_frame_size}
use Rattle.job_coding.proofs.RecordLemmas.{are_numbered, one_more}
use Rattle.job_coding.proofs.records.Records.look.Goals as goal

pub read-requires : goal.read-requires
read-requires c =
    let stands = c.requires.3 in
    subst (λ (h : FrameHeader). length c.args.frame.now ≡ 768 * file_macroblocks h) (sym stands.header_is) (file_frame_size c.requires.0 c.args.frame.now stands.is_header c.requires.4)

pub returns-in-Some-clause-stands : goal.returns-in-Some-clause-stands
returns-in-Some-clause-stands c = λ header frames numbered stands few.
    one_more c.args.self.now _ header frames numbered c.args.frame.now (Some (lent_found c.in-Some.found)) _ stands c.read.follows.holds-at-none c.in-Some.ensures.found c.summary.ensures
    (c.number.ensures (contexts_of (known_of header frames)) (contexts_of numbered) stands.contexts)

pub returns-in-Some-clause-numbers : goal.returns-in-Some-clause-numbers
returns-in-Some-clause-numbers c = are_numbered c.numbered_law.ensures.agree c.numbered_law.ensures.plan _

pub returns-in-None-clause-stands : goal.returns-in-None-clause-stands
returns-in-None-clause-stands c = λ header frames numbered stands few.
    one_more c.args.self.now _ header frames numbered c.args.frame.now None _ stands c.read.follows.holds-at-none c.in-None.ensures.found c.no_summary.ensures
    (c.number-in-None.ensures (contexts_of (known_of header frames)) (contexts_of numbered) stands.contexts)

pub returns-in-None-clause-numbers : goal.returns-in-None-clause-numbers
returns-in-None-clause-numbers c = are_numbered c.numbered_law.ensures.agree c.numbered_law.ensures.plan _
