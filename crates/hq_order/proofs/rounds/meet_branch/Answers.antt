use Rattle.std.proofs.Common.{◌≡◌, ◌↔◌, length, sym, subst, IsTrue}
use Rattle.hq_job.specs.Plan.{plan}
use Rattle.hq_bits.specs.Bits.{has}
use Rattle.hq_rows.specs.Matrix.{Marks}
use Rattle.hq_waits.specs.Waits.{Completing}
use Rattle.hq_order.specs.Rounds.{Reaches}
use Rattle.hq_rows.proofs.Lists.{one_is}
use Rattle.hq_bits.proofs.Words.{met}
use Rattle.hq_order.proofs.Turns.{reaches_set}
use Rattle.hq_order.proofs.rounds.meet_branch.Goals as goal

pub returns : goal.returns
returns c = λ p.
    let job = plan c.args.job.now in
    let Q = Reaches job (Marks c.args.known.now.rows.now) p c.args.signal in
    let set = one_is (λ s set. Completing job s set.items × (length set.items ≡ length c.args.shared.now)) c.args.completing.now c.args.signal c.index-completing-signal.result c.requires.completing c.requires.low c.index-completing-signal.is in
    let exact = reaches_set job c.args.known.now.rows.now c.deref.result.now p c.args.signal (IsTrue (has c.in_ok-branch.branch.items p)) (subst (Completing job c.args.signal) (sym c.deref.ensures.value) set.0) (c.in_ok-branch.ensures.exact p) in
    met (has c.args.shared.now p) (has c.deref-2.result.now p) (has c.meet.new.row p) Q (c.meet.ensures p)
    (subst (λ row. IsTrue (has row p) ↔ Q) (sym c.deref-2.ensures.value) exact)
