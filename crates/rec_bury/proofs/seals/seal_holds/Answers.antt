use Rattle.std.proofs.Common.{◌∙◌, sym, arith, below_more, refl}
use Rattle.std.proofs.lemmas.Bool.{false≢true}
use Rattle.rec_bury.proofs.HoldLemmas.{holds_at, holds}
use Rattle.rec_bury.proofs.seals.seal_holds.Goals as goal

pub returns-then-sheet_byte-digest : goal.returns-then-sheet_byte-digest
returns-then-sheet_byte-digest c = (
  λ e. absurd (false≢true e),
  λ s. absurd (c.if-sheet_byte-digest.true
      (holds_at c.args.wide c.args.high c.from-wide.result c.from-high.result c.args.frame.now c.seal-digest.result c.bytes.i c.sheet_byte.result c.from-wide.ensures c.from-high.ensures c.bytes-test.true c.requires.sheet c.seal-digest.ensures c.sheet_byte.ensures s)),
)

pub bytes-preserved : goal.bytes-preserved
bytes-preserved c = record {
  long = c.bytes.invariant.long;
  same = below_more _ _ c.bytes.invariant.same (sym c.sheet_byte.ensures ∙ c.if-sheet_byte-digest.false);
}

pub returns : goal.returns
returns c = (λ _. holds c.args.wide c.args.high c.from-wide.result c.from-high.result c.bytes.i c.args.frame.now c.seal-digest.result c.from-wide.ensures c.from-high.ensures (omega arith) c.requires.sheet c.bytes.invariant.long c.seal-digest.ensures c.bytes.invariant.same, λ _. refl)
