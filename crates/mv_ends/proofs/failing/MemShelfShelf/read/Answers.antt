use Rattle.std.proofs.Common.{◌<◌, length, arith, slice_get}
use Rattle.mv_ends.specs.Places.{name_of}
use Rattle.mv_ends.proofs.PlaceLemmas.{has_name, rose_at}
use Rattle.mv_ends.proofs.failing.MemShelfShelf.read.Goals as goal

pub returns-then-fails-clause-failed : goal.returns-then-fails-clause-failed
returns-then-fails-clause-failed c =
    let there : c.in-Some.place < length c.args.self.now.inputs.items = omega (arith, c.args.self.now.inputs.ok.0, c.args.self.now.there _ c.in-Some.is) in
    record {
      some = (name_of (slice_get c.args.self.now.inputs.items c.in-Some.place), has_name _ _ _ c.in-Some.is (c.args.self.now.first _ c.in-Some.is) there);
      each = λ name here. rose_at _ _ _ _ _ _ c.in-Some.is here (omega (arith, there, c.args.self.now.inputs.ok.0, c.args.self.now.reads.ok.0, c.args.self.now.reads_each)) c.saturating_add.ensures c.index.ensures;
    }

pub returns-then-fails-clause-unselected : goal.returns-then-fails-clause-unselected
returns-then-fails-clause-unselected c none =
    let there : c.in-Some.place < length c.args.self.now.inputs.items = omega (arith, c.args.self.now.inputs.ok.0, c.args.self.now.there _ c.in-Some.is) in
    absurd (none (name_of (slice_get c.args.self.now.inputs.items c.in-Some.place)) (has_name _ _ _ c.in-Some.is (c.args.self.now.first _ c.in-Some.is) there))
