use Rattle.std.proofs.Common.{◌≡◌, IsTrue, ◌+◌, ◌<◌, ◌/◌, ◌∷◌, ◌++◌, [], ◌||◌, ◌==◌, ℕ, sym, subst, length, ◌∙◌, ap, arith, replicate, filter, not, take, drop}
use Rattle.std.proofs.lemmas.List.{length-replicate}
use Rattle.hq_job.specs.Plan.{plan}
use Rattle.hq_model.specs.Machine.{listed}
use Rattle.hq_model.specs.Schedule.{MayCome, left_of}
use Rattle.hq_schedule.specs.Least.{LeastFirst}
use Rattle.hq_schedule.specs.Least.LeastFirst.{begins, goes_on}
use Rattle.hq_model.proofs.Schedule.{one_less, to_place}
use Rattle.hq_bits.specs.Bits.{has}
use Rattle.hq_schedule.specs.Placing.{HasAhead, HasCome, MayFollow}
use Rattle.hq_rows.proofs.Lists.{lent, empty_length, some_length}
use Rattle.hq_waits.proofs.Packets.{packets_count}
use Rattle.hq_schedule.proofs.Settling.{ahead_none, ahead_push, may_come, may_follow, come_none, come_push, left_same, stuck_left, ordered, scheduled}
use Rattle.hq_schedule.proofs.scheduling.schedule.Goals as goal

pub loop-number-init : goal.loop-number-init
loop-number-init c =
    let empty : c.in_ok-list.list.items ≡ [] = c.in_ok-list.ensures.items in
    let zeros : c.in_ok-come.come.items ≡ replicate (length c.packets-count.result.now / 64 + 1) 0 = c.in_ok-come.ensures.items_if_clones_equal (λ y e. e) in
    record {
      least = subst (LeastFirst (plan c.args.job.now)) (sym empty) begins;
      come = subst (HasCome c.in_ok-come.come.items) (sym empty) (come_none c.in_ok-come.come.items (length c.packets-count.result.now / 64 + 1) zeros);
      ahead = ahead_none (plan c.args.job.now) c.in_ok-come.come.items (length c.packets-count.result.now / 64 + 1) zeros;
      len = ap length zeros ∙ length-replicate (length c.packets-count.result.now / 64 + 1) 0;
      first = λ r l. absurd (omega (arith, l));
    }

pub loop-number-smaller : goal.loop-number-smaller
loop-number-smaller c =
    let follows : MayFollow (plan c.args.job.now) c.loop-number.come.items c.in-Some.number = subst (λ r. MayFollow (plan c.args.job.now) r c.in-Some.number) c.deref-in-loop-number-3.ensures.value c.in-Some.ensures.0 in
    let may : MayCome (plan c.args.job.now) c.loop-number.list.items c.in-Some.number = may_come (plan c.args.job.now) c.loop-number.come.items c.loop-number.list.items c.in-Some.number c.loop-number.invariant.come follows in
    let grown : c.push.new.self.items ≡ c.loop-number.list.items ++ c.in-Some.number ∷ [] = c.in_ok-push.ensures.items in
    let less : to_place (plan c.args.job.now) c.push.new.self.items + 1 ≡ to_place (plan c.args.job.now) c.loop-number.list.items = subst (λ xs. to_place (plan c.args.job.now) xs + 1 ≡ to_place (plan c.args.job.now) c.loop-number.list.items) (sym grown) (one_less (plan c.args.job.now) c.loop-number.list.items c.in-Some.number may) in
    let fact : to_place (plan c.args.job.now) c.push.new.self.items < to_place (plan c.args.job.now) c.loop-number.list.items = omega (arith, less) in
    fact

pub loop-number-preserved : goal.loop-number-preserved
loop-number-preserved c =
    let follows : MayFollow (plan c.args.job.now) c.loop-number.come.items c.in-Some.number = subst (λ r. MayFollow (plan c.args.job.now) r c.in-Some.number) c.deref-in-loop-number-3.ensures.value c.in-Some.ensures.0 in
    let may : MayCome (plan c.args.job.now) c.loop-number.list.items c.in-Some.number = may_come (plan c.args.job.now) c.loop-number.come.items c.loop-number.list.items c.in-Some.number c.loop-number.invariant.come follows in
    let grown : c.push.new.self.items ≡ c.loop-number.list.items ++ c.in-Some.number ∷ [] = c.in_ok-push.ensures.items in
    let same_len : length c.insert.new.row ≡ length c.loop-number.come.items = c.insert.auto.row ∙ ap length c.deref_mut.ensures.value in
    let whole : take c.loop-number.come.len (c.insert.new.row ++ drop (length c.insert.new.row) c.loop-number.come.items) ≡ c.insert.new.row = lent c.loop-number.come.len c.insert.new.row c.loop-number.come.items c.loop-number.come.ok.0 same_len in
    let grows : (e : ℕ) → has c.insert.new.row e ≡ (has c.loop-number.come.items e || e == c.in-Some.number) = λ e. c.insert.ensures e ∙ ap (λ r. has r e || e == c.in-Some.number) c.deref_mut.ensures.value in
    let least : (r : ℕ) → r < c.in-Some.number → MayCome (plan c.args.job.now) c.loop-number.list.items r → ⊥ = λ r l m.
    c.in-Some.ensures.1 r l (subst (λ row. MayFollow (plan c.args.job.now) row r) (sym c.deref-in-loop-number-3.ensures.value) (may_follow (plan c.args.job.now) c.loop-number.come.items c.loop-number.list.items r c.loop-number.invariant.come m)) in
    record {
      least = subst (LeastFirst (plan c.args.job.now)) (sym grown) (goes_on c.loop-number.invariant.least may least);
      come = subst (λ r. HasCome r c.push.new.self.items) (sym whole) (subst (HasCome c.insert.new.row) (sym grown) (come_push c.loop-number.come.items c.insert.new.row c.loop-number.list.items c.in-Some.number c.loop-number.invariant.come grows));
      ahead = subst (HasAhead (plan c.args.job.now)) (sym whole) (ahead_push (plan c.args.job.now) c.loop-number.come.items c.insert.new.row c.in-Some.number c.loop-number.invariant.ahead follows grows);
      len = ap length whole ∙ same_len ∙ c.loop-number.invariant.len;
      first = λ r l. subst (λ row. IsTrue (has row r)) (c.deref-in-Some.ensures.value) (c.first_left-first.ensures r l);
    }

pub returns-then-is_empty-clause-ok : goal.returns-then-is_empty-clause-ok
returns-then-is_empty-clause-ok c =
    let none : (p : ℕ) → MayCome (plan c.args.job.now) c.loop-number.list.items p → ⊥ = λ p may.
    c.in_default.ensures p (subst (λ r. MayFollow (plan c.args.job.now) r p) (sym c.deref-in-loop-number-3.ensures.value) (may_follow (plan c.args.job.now) c.loop-number.come.items c.loop-number.list.items p c.loop-number.invariant.come may)) in
    let count : length c.packets-count.result.now ≡ length (plan c.args.job.now).packets = omega (arith, ap length c.packets-count.ensures, packets_count c.args.job.now) in
    let is : c.in_ok-left.left.items ≡ left_of (plan c.args.job.now) c.loop-number.list.items =
    subst (λ r. c.in_ok-left.left.items ≡ filter (λ p. not (has r p)) (listed (length (plan c.args.job.now).packets) (λ p. p))) c.deref-2.ensures.value (subst (λ n. c.in_ok-left.left.items ≡ filter (λ p. not (has c.deref-2.result.now p)) (listed n (λ p. p))) count c.in_ok-left.ensures)
    ∙ left_same (plan c.args.job.now) c.loop-number.come.items c.loop-number.list.items c.loop-number.invariant.come in
    ordered (plan c.args.job.now) c.loop-number.list.items c.in_ok-left.left.items (scheduled (plan c.args.job.now) c.loop-number.list.items c.loop-number.invariant.least) none is (empty_length c.in_ok-left.left.len (length c.in_ok-left.left.items) c.in_ok-left.left.ok.0 c.if-is_empty.ensures)

pub returns-clause-stuck : goal.returns-clause-stuck
returns-clause-stuck c =
    let none : (p : ℕ) → MayCome (plan c.args.job.now) c.loop-number.list.items p → ⊥ = λ p may.
    c.in_default.ensures p (subst (λ r. MayFollow (plan c.args.job.now) r p) (sym c.deref-in-loop-number-3.ensures.value) (may_follow (plan c.args.job.now) c.loop-number.come.items c.loop-number.list.items p c.loop-number.invariant.come may)) in
    let count : length c.packets-count.result.now ≡ length (plan c.args.job.now).packets = omega (arith, ap length c.packets-count.ensures, packets_count c.args.job.now) in
    let is : c.in_ok-left.left.items ≡ left_of (plan c.args.job.now) c.loop-number.list.items =
    subst (λ r. c.in_ok-left.left.items ≡ filter (λ p. not (has r p)) (listed (length (plan c.args.job.now).packets) (λ p. p))) c.deref-2.ensures.value (subst (λ n. c.in_ok-left.left.items ≡ filter (λ p. not (has c.deref-2.result.now p)) (listed n (λ p. p))) count c.in_ok-left.ensures)
    ∙ left_same (plan c.args.job.now) c.loop-number.come.items c.loop-number.list.items c.loop-number.invariant.come in
    stuck_left (plan c.args.job.now) c.loop-number.list.items c.in_ok-left.left.items (scheduled (plan c.args.job.now) c.loop-number.list.items c.loop-number.invariant.least) none is (some_length c.in_ok-left.left.len (length c.in_ok-left.left.items) c.in_ok-left.left.ok.0 c.if-is_empty.ensures)
