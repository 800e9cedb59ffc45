use Rattle.mv_codes.proofs.LookUpLaws.{row_begins, row_none, width_fits}
use Rattle.mv_codes.proofs.code.find.Goals as goal

pub returns-then-row-codes-clause-begins : goal.returns-then-row-codes-clause-begins
returns-then-row-codes-clause-begins g c =
    row_begins c.args.codes.now c.args.short.now c.args.long.width c.args.long.first c.args.long.rows.now c.args.w.now c.peek.result c.entry-row.result c.index-codes-row.result c.requires.few c.told-short c.requires.look_up c.peek.ensures.value c.entry-row.ensures c.if-row-codes.true c.index-codes-row.is

pub returns-else-row-codes-clause-none : goal.returns-else-row-codes-clause-none
returns-else-row-codes-clause-none g c =
    row_none c.args.codes.now c.args.short.now c.args.long.width c.args.long.first c.args.long.rows.now c.args.w.now c.peek.result c.entry-row.result c.requires.few c.told-short c.requires.look_up c.peek.ensures.value c.entry-row.ensures c.if-row-codes.false

pub entry-row-requires-clause-width : goal.entry-row-requires-clause-width
entry-row-requires-clause-width g c = width_fits c.args.codes.now c.args.short.now c.args.long.width c.args.long.first c.args.long.rows.now c.requires.look_up
