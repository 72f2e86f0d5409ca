use Rattle.hq_timeline.proofs.Again.{printed_is_text}
use Rattle.hq_timeline.proofs.printing.print.Goals as goal

pub returns-in-Ok-finish-clause-read_back : goal.returns-in-Ok-finish-clause-read_back
returns-in-Ok-finish-clause-read_back g c = printed_is_text c.args.journal.now c.in-Ok-finish.ensures.fits
