use Rattle.std.proofs.Common.{◌≡◌, ◌↔◌, ◌∙◌, ℕ, IsTrue, length, ap, sym, subst}
use Rattle.hq_job.specs.Plan.{plan}
use Rattle.hq_bits.specs.Bits.{has}
use Rattle.hq_waits.proofs.Packets.{packets_count}
use Rattle.hq_rows.proofs.Lists.{lent}
use Rattle.hq_explain.specs.Changes.{Orders}
use Rattle.hq_explain.specs.declared.change.Change.TheVariants as change
use Rattle.hq_explain.proofs.Noting.{noted_all}
use Rattle.hq_explain.proofs.advice.bits_of.Goals as goal

pub returns-clause-exact : goal.returns-clause-exact
returns-clause-exact c =
    let job = plan c.args.job.now in
    let bits = c.in_ok-bits.bits in
    let new = c.note_bits.new.set in
    let same : length new ≡ length bits.items = c.note_bits.auto.set ∙ ap length c.deref_mut.ensures.value in
    subst (λ set. (p : ℕ) → IsTrue (has set p) ↔ Orders job c.args.a c.args.b p change.Bit) (sym (lent bits.len new bits.items bits.ok.0 same))
    (noted_all job c.args.a c.args.b (length c.packets.result.now) c.deref_mut.result.now new (ap length c.packets.ensures ∙ sym (packets_count c.args.job.now))
    (λ p. ap (λ set. has set p) c.deref_mut.ensures.value ∙ c.in_ok-bits.ensures.none p) c.in_ok-note_bits.ensures.noted)
