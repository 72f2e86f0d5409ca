use Rattle.std.proofs.Common.{◌≡◌, ◌<◌, arith, All, List, length, ap, sym, subst, ◌∙◌}
use Rattle.std.proofs.lemmas.List.{length-replicate}
use Rattle.std.specs.FinMap as finite
use Rattle.hq_model.specs.View.{Held}
use Rattle.hq_copies.specs.Known.{AreKnown}
use Rattle.hq_copies.proofs.Known.{none_known}
use Rattle.hq_copies.proofs.copies.Copies.new.Goals as goal

pub invariant_of-result : goal.invariant_of-result
invariant_of-result c =
    let holding = c.in_ok-holding.holding.bits.items in
    let marked = c.in_ok-marked.marked.bits.items in
    let P : List Held → Type 0 = λ ls. AreKnown ls holding marked in
    let n = c.len-count.result in
    let count : length c.in_ok-lanes.lanes.items ≡ n = ap length c.in_ok-lanes.ensures ∙ length-replicate n finite.empty in
    record {
      bytes = c.requires.bytes;
      lanes_agree = omega (arith, count, c.len-count.ensures, c.args.lane_agents.ok.0);
      agents_there = subst (λ n. All (λ a. a < n) c.args.lane_agents.items) (sym (ap length c.in_ok-agents.ensures ∙ length-replicate c.args.agents finite.empty)) c.requires.agents;
      known = subst P (sym c.in_ok-lanes.ensures) (none_known n holding marked c.in_ok-holding.ensures.room c.in_ok-marked.ensures.room);
    }
