use Rattle.std.proofs.Common.{inl, inr, subst, arith}
use Rattle.std.proofs.lemmas.Bool.{cases_lt}
use Rattle.hq_job.specs.Plan.{plan}
use Rattle.hq_rows.specs.Matrix.{Marks}
use Rattle.hq_order.specs.Rounds.{Reaches}
use Rattle.hq_order.proofs.Single.{few}
use Rattle.hq_waits.proofs.Slots.{slot_low, signal_there}
use Rattle.hq_order.proofs.Swept.{get_is, get_there, got}
use Rattle.hq_order.proofs.sweeping.unite_branches.Goals.{in-Some+in_ok-unite_branch, in_default}
use Rattle.hq_order.proofs.sweeping.unite_branches.Goals as goal

pub unite_branch-requires-clause-low : goal.unite_branch-requires-clause-low
unite_branch-requires-clause-low c =
    omega (arith, c.requires.signals, signal_there c.args.job.now c.args.r c.loop-slot.slot-index c.in-Some.signal c.slots-slot-items.result.now c.valid.ensures.packets (few c.args.job.now c.args.r c.requires.r_is) c.slots-slot-items.ensures c.in-Some.is)

pub loop-slot-preserved : goal.loop-slot-preserved
loop-slot-preserved c = elim c.match-slot.branch [
  | in-Some+in_ok-unite_branch w ↦ rw w.row-is (record {
    kept = λ p h. w.in_ok-unite_branch.ensures.kept p (c.loop-slot.invariant.kept p h);
    taken = λ p slot s low is reach. elim (cases_lt slot c.loop-slot.slot-index) [
      | inl below ↦ w.in_ok-unite_branch.ensures.kept p (c.loop-slot.invariant.taken p slot s below is reach)
      | inr past ↦ w.in_ok-unite_branch.ensures.taken p (subst (Reaches (plan c.args.job.now) (Marks c.args.rows.now) p) (get_is c.slots-slot-items.result.now slot c.loop-slot.slot-index s w.in-Some.signal (omega (arith, low, past)) is w.in-Some.is) reach)
    ];
  })
  | in_default w ↦ rw w.row-is (record {
    kept = λ p h. c.loop-slot.invariant.kept p h;
    taken = λ p slot s low is reach. elim (cases_lt slot c.loop-slot.slot-index) [
      | inl below ↦ c.loop-slot.invariant.taken p slot s below is reach
      | inr past ↦ absurd (w.in_default.not-Some s (get_there c.slots-slot-items.result.now slot c.loop-slot.slot-index s (omega (arith, low, past)) is))
    ];
  })
]

pub returns-clause-taken : goal.returns-clause-taken
returns-clause-taken c = λ p slot s d reach.
    c.loop-slot.invariant.taken p slot s (omega (arith, c.loop-slot-test.false, slot_low c.args.job.now c.args.r slot s c.slots-slot-items.result.now c.slots-slot-items.ensures d))
    (got c.args.job.now c.args.r slot s c.slots-slot-items.result.now c.slots-slot-items.ensures d) reach
