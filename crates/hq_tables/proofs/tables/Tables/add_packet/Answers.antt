use Rattle.hq_tables.specs.TablesView.{tables_of}
use Rattle.hq_tables.proofs.Notes.{room}
use Rattle.hq_tables.proofs.tables.Tables.add_packet.Goals as goal

pub note-requires-clause-room : goal.note-requires-clause-room
note-requires-clause-room c = room (tables_of c.args.self.now) c.requires
