-- What is true of a `Job`'s fields beside what its value shows.
use Rattle.std.specs.Prelude.{◌≡◌, map, length}
use Rattle.hq_model.specs.Journal.{numbers}
use Rattle.hq_job.specs.declared.job.Job.TheInside.{Inside}
use Rattle.hq_job.specs.Numbering.{by_number}
use Rattle.hq_job.specs.View.{value_of, IsRead}

-- What is known of every job that was read is so of this one; its packets stand by number, those of each queue behind
-- those of the queues ahead of it; and the number that is noted of each queue's first packet is right.
pub record FieldsFit (j : Inside) : Type 0 where
  pub is_read : IsRead (value_of j)
  -- put by number once more, the packets are in the same queues
  pub queues_are : map (λ p. p.queue) j.packets.items ≡ map (λ p. p.queue)
      (by_number (length j.tables.queues.items) j.packets.items)
  -- as many packets come before a queue's first as lower queues have
  pub firsts_are : j.firsts.items ≡ map (λ q. length (by_number q j.packets.items))
      (numbers (length j.tables.queues.items))
