use Rattle.std.proofs.Common.{◌≡◌, ◌+◌, ◌↔◌, ◌==◌, sym, subst, map, arith, None, false, IsTrue}
use Rattle.std.specs.List.{AllZip}
use Rattle.hq_model.specs.Certificate.{signals}
use Rattle.std.proofs.lemmas.List.{length-map, get_or-map}
use Rattle.hq_cert.specs.View.{cited}
use Rattle.hq_job.specs.Plan.{plan}
use Rattle.hq_certcheck.specs.Listed.{HoldsFor}
use Rattle.hq_certcheck.proofs.Zipped.{Zipped, zip_pass, zip_step, zip_bad, zip_short, zip_end, no_signal}
use Rattle.hq_certcheck.proofs.lines.hold_for_each.Goals as goal
use Rattle.hq_certcheck.specs.Concluded.{bare}
use Rattle.hq_certcheck.proofs.lines.hold_for_each.Goals.{in-Some+else-next-branches+else-not-holds_for, in_default}

pub returns-then-next-branches : goal.returns-then-next-branches
returns-then-next-branches c = (
  λ t. let never : ⊥ = cc in absurd never,
  λ h. absurd (zip_short (HoldsFor (plan c.args.job.now) (map bare c.args.lines.now) c.args.limit c.args.p) c.args.slots.now (map cited c.args.branches.now)
      c.loop-slot.slot-index c.loop-slot.next c.in-Some.signal c.loop-slot.invariant c.loop-slot-test.true c.in-Some.is (omega (arith, c.if-next-branches.true, length-map c.args.branches.now cited)) h),
)

pub returns-then-not-holds_for : goal.returns-then-not-holds_for
returns-then-not-holds_for c =
    let R = HoldsFor (plan c.args.job.now) (map bare c.args.lines.now) c.args.limit c.args.p in
    let read = get_or-map cited c.args.branches.now c.loop-slot.next (record { code = 0 }) None c.if-next-branches.false in (
      λ t. let never : ⊥ = cc in absurd never,
      λ h. absurd (zip_bad R c.args.slots.now (map cited c.args.branches.now)
          c.loop-slot.slot-index c.loop-slot.next c.in-Some.signal None c.loop-slot.invariant c.loop-slot-test.true c.in-Some.is (omega (arith, c.if-next-branches.false, length-map c.args.branches.now cited))
          (λ r. let t : IsTrue c.holds_for.result = c.holds_for.ensures.1 (subst (R c.in-Some.signal) read r) in let no : c.holds_for.result ≡ false = c.if-not-holds_for.true in let never : ⊥ = cc in never)
          h),
    )

pub loop-slot-preserved : goal.loop-slot-preserved
loop-slot-preserved c =
    let R = HoldsFor (plan c.args.job.now) (map bare c.args.lines.now) c.args.limit c.args.p in
    elim c.match-slot.branch [
      | in-Some+else-next-branches+else-not-holds_for w ↦
          let read = get_or-map cited c.args.branches.now c.loop-slot.next (record { code = 0 }) None w.if-next-branches.false in
          subst (Zipped R c.args.slots.now (map cited c.args.branches.now) (c.loop-slot.slot-index + 1)) (sym w.next-is)
          (zip_step R c.args.slots.now (map cited c.args.branches.now) c.loop-slot.slot-index c.loop-slot.next w.in-Some.signal None c.loop-slot.invariant c.loop-slot-test.true w.in-Some.is
          (omega (arith, w.if-next-branches.false, length-map c.args.branches.now cited)) (subst (R w.in-Some.signal) (sym read) (w.holds_for.ensures.0 w.if-not-holds_for.false)))
      | in_default w ↦
          subst (Zipped R c.args.slots.now (map cited c.args.branches.now) (c.loop-slot.slot-index + 1)) (sym w.next-is)
          (zip_pass R c.args.slots.now (map cited c.args.branches.now) c.loop-slot.slot-index c.loop-slot.next c.loop-slot.invariant c.loop-slot-test.true (no_signal _ w.in_default.not-Some))
    ]

pub returns : goal.returns
returns c =
    let end = zip_end (HoldsFor (plan c.args.job.now) (map bare c.args.lines.now) c.args.limit c.args.p) c.args.slots.now (map cited c.args.branches.now) c.loop-slot.slot-index c.loop-slot.next c.loop-slot.invariant c.loop-slot-test.false in
    subst (λ n. IsTrue (c.loop-slot.next == n) ↔ AllZip (HoldsFor (plan c.args.job.now) (map bare c.args.lines.now) c.args.limit c.args.p) (signals c.args.slots.now) (map cited c.args.branches.now)) (length-map c.args.branches.now cited) end
