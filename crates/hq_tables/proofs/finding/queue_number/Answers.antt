use Rattle.std.proofs.Common.{◌∙◌}
use Rattle.std.specs.Str.{bytes_eq}
use Rattle.hq_tables.proofs.Found.{position-map}
use Rattle.hq_tables.proofs.finding.queue_number.Goals as goal

pub returns : goal.returns
returns c = c.queue_place.ensures ∙ position-map (λ q. q.name) (bytes_eq c.args.name) c.args.queues.now
