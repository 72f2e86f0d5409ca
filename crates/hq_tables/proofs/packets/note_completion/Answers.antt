use Rattle.std.proofs.Common.{◌∙◌}
use Rattle.hq_tables.proofs.Notes.{open_of, unmarked, decremented}
use Rattle.hq_tables.proofs.packets.note_completion.Goals as goal

pub note_decrement-requires-clause-open : goal.note_decrement-requires-clause-open
note_decrement-requires-clause-open c = open_of c.args.signals.now c.args.handle c.requires.declared c.if-handle-ne0.true

pub returns-then-handle-ne0 : goal.returns-then-handle-ne0
returns-then-handle-ne0 c = c.note_decrement.ensures.counted ∙ decremented c.args.handle c.args.signals.now

pub returns-else-handle-ne0 : goal.returns-else-handle-ne0
returns-else-handle-ne0 c = unmarked c.args.handle c.args.signals.now c.requires.some c.if-handle-ne0.false
