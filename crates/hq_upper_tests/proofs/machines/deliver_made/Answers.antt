use Rattle.std.proofs.Common.{rules, ◌≡◌, ◌<◌, ◌∙◌, ap, sym, subst, arith, length, get_or, List, [], ◌∷◌}
use Rattle.hq_footprint.specs.declared.footprint.Range.{Range}
use Rattle.std.specs.List.{sum_by}
use Rattle.hq_footprint.specs.Tasks.{Suits}
use Rattle.hq_job.specs.Plan.{plan}
use Rattle.hq_model.specs.Job.{Packet, packet}
use Rattle.hq_events.proofs.Jobs.{suits}
use Rattle.hq_upper_tests.proofs.machines.deliver_made.Goals as goal

no_entries : (reads : List Range) → length reads ≡ 2 → (get_or reads 0 (record { at = 0; len = 0 })).len ≡ 0 → (get_or reads 1 (record { at = 0; len = 0 })).len ≡ 0 → sum_by (λ r. r.len) reads ≡ 0
no_entries [] n a b = absurd cc
no_entries (x ∷ []) n a b = absurd cc
no_entries (x ∷ y ∷ []) n a b = omega (arith, a, b)
no_entries (x ∷ y ∷ z ∷ zs) n a b = absurd (omega (arith, n))

pub evaluate-requires : goal.evaluate-requires
evaluate-requires c =
    let v = c.args.job.now in
    let number = c.args.packet in
    let placed = c.packet-placed.result.now in
    let low : number < length v.packets = omega (arith, c.if-number-packets.false, ap length c.packets.ensures) in
    let none : length (packet (plan v) number).reads ≡ 0 = ap (λ (x : Packet). length x.reads) (sym c.packet-placed.ensures) ∙ c.entries_counted.ensures placed.bytes ∙ no_entries placed.bytes.reads (search rules) c.if-first-ne0.false c.if-second-ne0.false in
    let four : length (packet (plan v) number).writes ≡ 4 = ap (λ (x : Packet). length x.writes) (sym c.packet-placed.ensures) ∙ c.bytes_counted.ensures placed.bytes.write ∙ c.if-placed-ne4.false in
    subst (λ n. Suits placed.work.task n 4) none (subst (Suits placed.work.task (length (packet (plan v) number).reads)) four (subst (λ t. Suits t (length (packet (plan v) number).reads) (length (packet (plan v) number).writes)) (sym (ap (λ (x : Packet). x.task) c.packet-placed.ensures)) (suits v number placed c.valid.ensures.packets low)))
