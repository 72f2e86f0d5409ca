use Rattle.std.proofs.Common.{◌≡◌, ◌↔◌, ℕ, IsTrue, arith, length, subst, sym, ◌∙◌}
use Rattle.hq_job.specs.Plan.{plan}
use Rattle.hq_model.specs.Order.{FreesFor}
use Rattle.hq_bits.specs.Bits.{has}
use Rattle.hq_schedule.specs.Placing.{Freeing}
use Rattle.hq_waits.proofs.Packets.{packets_count}
use Rattle.hq_rows.proofs.Lists.{one_is}
use Rattle.hq_schedule.proofs.Submitting.{frees_for_row}
use Rattle.hq_schedule.proofs.slots.slot_row.Goals as goal

pub returns-clause-row : goal.returns-clause-row
returns-clause-row c =
    let job = plan c.args.job.now in
    let set = one_is (λ k set. Freeing job k set.items × (length set.items ≡ c.args.words)) c.args.freeing.now c.turn.result c.index-freeing-turn.result (c.requires.freeing.rows c.requires.rings) (omega (arith, c.turn.ensures.below, c.requires.freeing.count c.requires.rings)) c.index-freeing-turn.is in
    let free : (e : ℕ) → IsTrue (has c.index-freeing-turn.result.items e) ↔ FreesFor job e c.args.number =
    frees_for_row job c.args.number c.index-freeing-turn.result.items (omega (arith, c.requires.number, packets_count c.args.job.now)) (omega (arith, c.turn.ensures.turn, c.turn.ensures.below)) (subst (λ k. Freeing job k c.index-freeing-turn.result.items) c.turn.ensures.turn set.0) in
    subst (λ row. (e : ℕ) → IsTrue (has row e) ↔ FreesFor job e c.args.number) (sym (c.in_ok-row.ensures.items_if_clones_equal (λ y e h. h) ∙ c.deref.ensures.value)) free
