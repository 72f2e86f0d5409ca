use Rattle.hq_certtext.proofs.Split.{printed_is_text}
use Rattle.hq_certtext.proofs.printing.print.Goals as goal

pub returns-in-Ok-write_text-clause-read_back : goal.returns-in-Ok-write_text-clause-read_back
returns-in-Ok-write_text-clause-read_back g c = λ fits. printed_is_text c.args.certificate.now fits
