use Rattle.std.proofs.Common.{◌↔◌, ◌/◌, ◌<◌, length, sym, ◌∙◌, ap, subst, IsTrue, arith, Some, None}
use Rattle.std.proofs.lemmas.Option.{get_or_from_slice_get}
use Rattle.hq_job.specs.Plan.{plan}
use Rattle.hq_tables.specs.Kinds.{kind_of}
use Rattle.hq_bits.specs.Bits.{has}
use Rattle.hq_rows.specs.Matrix.{Marks, Square}
use Rattle.hq_order.specs.Rounds.{ByOr}
use Rattle.hq_rows.proofs.Rows.{given_back}
use Rattle.hq_bits.proofs.Words.{joined}
use Rattle.hq_order.proofs.Single.{count, few}
use Rattle.hq_waits.proofs.Slots.{signal_there}
use Rattle.hq_order.proofs.Turns.{either_exact}
use Rattle.hq_order.proofs.rounds.unite_shared.Goals as goal

pub meet_branches-requires-clause-low : goal.meet_branches-requires-clause-low
meet_branches-requires-clause-low c = λ slot s there.
    let slots = c.packet-placed.result.now.slots in
    omega (arith, c.requires.signals, signal_there c.args.job.now c.args.r slot s slots c.valid.ensures.packets (few c.args.job.now c.args.r c.requires.r_is) (ap (λ q. q.deps) c.packet-placed.ensures) (get_or_from_slice_get slots slot (Some s) None there))

pub returns-in-Or-clause-exact : goal.returns-in-Or-clause-exact
returns-in-Or-clause-exact c = λ p.
    let job = plan c.args.job.now in
    let words = length c.args.new.now in
    let rows = c.args.known.now.rows.now in
    let square = subst (λ n. Square n words rows) (sym (count c.args.job.now)) c.requires.square in
    let back = given_back c.in_ok-shared.shared.len c.in_ok-shared.shared.items c.meet_branches.new.shared (sym c.in_ok-shared.shared.ok.0) (c.meet_branches.auto.shared ∙ ap length c.deref_mut.ensures.value) in
    let full = subst (λ row. IsTrue (has row p) ↔ p / 64 < words) (sym c.deref_mut.ensures.value) (c.in_ok-shared.ensures.all p) in
    let exact = either_exact job rows words p c.args.r c.packet-placed.result.now (IsTrue (has c.deref_mut.result.now p)) (IsTrue (has c.meet_branches.new.shared p)) (record { is_packet = c.requires.r_is; same = c.packet-placed.ensures }) c.valid.ensures.valid (ap kind_of c.in-Or.is) square full (c.in_ok-meet_branches.ensures p) in
    joined (has c.args.new.now p) (has c.deref.result.now p) (has c.unite_more.new.row p) (ByOr job (Marks rows) p c.args.r) (c.unite_more.ensures.exact p)
    (subst (λ row. IsTrue (has row p) ↔ ByOr job (Marks rows) p c.args.r) (sym (c.deref.ensures.value ∙ back)) exact)
