use Rattle.std.proofs.Common.{true, false}
use Rattle.mv_codes.specs.Sizes.{luma_size_codes, chroma_size_codes}
use Rattle.mv_codes.proofs.TableLaws.{reads_whatever}
use Rattle.mv_codes.proofs.TableFacts.{dc_sizes_apart}
use Rattle.mv_codes.proofs.LookUpFacts.{luma_sizes_found, chroma_sizes_found}
use Rattle.mv_codes.proofs.dc_size.read_dc_size.Goals as goal

pub returns-then-luma-clause-reads : goal.returns-then-luma-clause-reads
unfolding luma_size_codes chroma_size_codes
returns-then-luma-clause-reads c = rw c.if-luma.true c.read.ensures

pub returns-else-luma-clause-reads : goal.returns-else-luma-clause-reads
unfolding luma_size_codes chroma_size_codes
returns-else-luma-clause-reads c = rw c.if-luma.false c.read-else-luma.ensures

pub returns-then-luma-clause-whatever : goal.returns-then-luma-clause-whatever
unfolding luma_size_codes chroma_size_codes
returns-then-luma-clause-whatever c = rw c.if-luma.true (reads_whatever luma_size_codes (dc_sizes_apart true) c.args.w.now c.read.new.w c.read.result c.read.ensures)

pub returns-else-luma-clause-whatever : goal.returns-else-luma-clause-whatever
unfolding luma_size_codes chroma_size_codes
returns-else-luma-clause-whatever c = rw c.if-luma.false (reads_whatever chroma_size_codes (dc_sizes_apart false) c.args.w.now c.read-else-luma.new.w c.read-else-luma.result c.read-else-luma.ensures)

pub read-requires-clause-look_up : goal.read-requires-clause-look_up
unfolding luma_size_codes
read-requires-clause-look_up c = luma_sizes_found

pub read-requires-else-luma-clause-look_up : goal.read-requires-else-luma-clause-look_up
unfolding chroma_size_codes
read-requires-else-luma-clause-look_up c = chroma_sizes_found
