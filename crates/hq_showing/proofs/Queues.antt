-- Each packet's queue is there.
use Rattle.std.proofs.Common.{◌≡◌, ℕ, ◌<◌, List, length, refl, ap, arith, slice_index_or}
use Rattle.std.proofs.lemmas.List.{length-map}
use Rattle.std.proofs.lemmas.Option.{get_or_from_slice_get}
use Rattle.hq_model.specs.Job as model
use Rattle.hq_model.specs.Theorems.{Valid}
use Rattle.hq_job.specs.Plan.{plan, planned}
use Rattle.hq_job.specs.Value.{JobValue}
use Rattle.hq_tables.specs.declared.rows.Placed.{Placed}
use Rattle.hq_tables.specs.declared.rows.Queue.{Queue}
use Rattle.hq_tables.proofs.Lists.{at}
use Rattle.hq_job.proofs.QueuePlaces.{packet_at}

queue_below : (job : JobValue) → Valid (plan job) → (k : ℕ) (d : Placed) → k < length job.packets → (slice_index_or job.packets k d).queue < length job.queues
queue_below job valid k d l =
    let f = at job.packets k l in
    let is : slice_index_or job.packets k d ≡ f.x = get_or_from_slice_get job.packets k f.x d f.there in
    let below : (model.packet (plan job) k).queue < length (plan job).queues = valid.queues k (omega (arith, length-map job.packets planned, l)) in
    omega (arith, below, ap (λ (p : Placed). p.queue) is, ap (λ (p : model.Packet). p.queue) (packet_at (plan job) job.packets k f.x refl f.there), length-map job.queues (λ (q : Queue). q.agent))

pub queues_there : (job : JobValue) → Valid (plan job) → (packets : List Placed) (queues : List Queue) → packets ≡ job.packets → queues ≡ job.queues → (k : ℕ) (d : Placed) → k < length packets → (slice_index_or packets k d).queue < length queues
queues_there job valid packets queues e f k d l =
    omega (arith, ap (λ (p : Placed). p.queue) (ap (λ ps. slice_index_or ps k d) e), ap length f, queue_below job valid k d (omega (arith, l, ap length e)))
