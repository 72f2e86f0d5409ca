use Rattle.std.proofs.Common.{◌≡◌, ◌<◌, arith, length}
use Rattle.hq_job.specs.Plan.{plan}
use Rattle.hq_model.specs.Order.{place}
use Rattle.hq_rows.proofs.Lists.{one_is}
use Rattle.hq_graph.proofs.Reasons.{no_turn, turn_is}
use Rattle.hq_graph.proofs.waiting.is_turn.Goals as goal

pub returns-then-turn-stuck : goal.returns-then-turn-stuck
returns-then-turn-stuck c =
    let job = plan c.args.job.now in
    let stuck = c.args.stuck.now in
    let turns = c.requires.tells.turns c.requires.some in
    let low : c.args.p < length stuck.turns.items = omega (arith, turns.count, c.requires.p_is) in
    let turn = one_is (λ p turn. turn ≡ place job.submissions p) stuck.turns.items c.args.p c.index-turn.result.now turns.are low c.index-turn.ensures in (
      λ t. let never : ⊥ = cc in absurd never,
      λ h. absurd (no_turn job stuck.row.items stuck.turns.items stuck.barred c.args.p c.args.r c.index-turn.result.now c.valid.ensures.valid c.requires.tells.each turns c.requires.p_is turn c.if-turn-stuck.true h),
    )

pub returns : goal.returns
returns c =
    let job = plan c.args.job.now in
    let stuck = c.args.stuck.now in
    let turns = c.requires.tells.turns c.requires.some in
    let low : c.args.p < length stuck.turns.items = omega (arith, turns.count, c.requires.p_is) in
    let high : c.args.r < length stuck.turns.items = omega (arith, turns.count, c.requires.r_is) in
    turn_is job stuck.row.items stuck.turns.items stuck.barred c.args.p c.args.r c.index-turn.result.now c.index.result.now c.is_next.result c.valid.ensures.valid c.requires.tells.each turns c.requires.p_is
    (one_is (λ p turn. turn ≡ place job.submissions p) stuck.turns.items c.args.p c.index-turn.result.now turns.are low c.index-turn.ensures)
    (one_is (λ p turn. turn ≡ place job.submissions p) stuck.turns.items c.args.r c.index.result.now turns.are high c.index.ensures)
    c.if-turn-stuck.false c.is_next.ensures
