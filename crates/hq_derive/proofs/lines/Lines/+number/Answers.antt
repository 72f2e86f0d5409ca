use Rattle.std.proofs.Common.{◌≡◌, ℕ, ◌<◌, ◌+◌, [], ◌∷◌, ◌++◌, Option, Some, length, sym, ◌∙◌, ap, subst, arith, rules, map, take}
use Rattle.std.specs.Prelude.{MatchOption}
use Rattle.std.proofs.lemmas.Option.{MatchOption-at_some}
use Rattle.hq_cert.specs.View.{cited}
use Rattle.hq_model.specs.Certificate.{Follows, signals}
use Rattle.hq_model.specs.Certificate.Rule.{Or as OrRule}
use Rattle.hq_model.specs.Job.{Job, packet}
use Rattle.hq_derive.specs.Rests.{Below, ByBranch}
use Rattle.hq_derive.specs.Gathered.{lines_of, AllBranched}
use Rattle.hq_derive.proofs.Founded.{within_first, within_second, below_before}
use Rattle.hq_derive.proofs.Branching.{branch_before, branched_push, signals_some, signals_none, either_follows, through_follows, add_answers}
use Rattle.hq_derive.proofs.Adding.{goes_same, goes_more}
use Rattle.hq_derive.proofs.lines.Lines.+number.Goals as goal
use Rattle.hq_derive.proofs.lines.Lines.+number.Goals.{branches-in-Some+in_ok-branch+in_ok-push, branches-in_default}

lower : (job : Job) (round p s : ℕ) (o : Option ℕ) (d : ℕ) → MatchOption o ((d : ℕ) → ByBranch job round p s d → ⊥) (λ d. ByBranch job round p s d) → o ≡ Some d → (d ≡ p → ⊥) → Below job round p d
lower job round p s o d h e ban = branch_before job round p s d (MatchOption-at_some ((d : ℕ) → ByBranch job round p s d → ⊥) (λ d. ByBranch job round p s d) d e h) ban

pub branch-cited-requires : goal.branch-cited-requires
branch-cited-requires t c = (
  search rules,
  (c.requires.kept, lower c.args.before.now c.args.round c.args.p c.args.signal c.branch_of.result c.unwrap-d.result c.branch_of.ensures c.unwrap-d.ensures c.if-d-p.false),
)

pub branches-loop-slot-preserved : goal.branches-loop-slot-preserved
branches-loop-slot-preserved t c =
    let job = c.args.before.now in
    let a = c.args.self.now in
    let p = c.args.p in
    let i = c.loop-slot.slot-index in
    let slots = c.args.slots.now in
    elim c.match-slot.branch [
      | branches-in-Some+in_ok-branch+in_ok-push w ↦
          let push = branched_push job a c.loop-slot.self w.branch-self.new.self p w.in-Some.signal (signals (take i slots)) c.loop-slot.citations.items w.in_ok-branch.field-0 c.loop-slot.invariant w.in_ok-branch.ensures in
          subst (λ l. AllBranched job a l p (signals (take (i + 1) slots)) c.match-slot.citations.items) (sym w.self-is)
          (subst (λ cs. AllBranched job a w.branch-self.new.self p (signals (take (i + 1) slots)) cs) (sym (ap (λ v. v.items) w.citations-is ∙ w.in_ok-push.ensures.items))
          (subst (λ ss. AllBranched job a w.branch-self.new.self p ss (c.loop-slot.citations.items ++ w.in_ok-branch.field-0 ∷ [])) (sym (signals_some slots i w.in-Some.signal c.loop-slot-test.true w.in-Some.is)) push))
      | branches-in_default w ↦
          subst (λ l. AllBranched job a l p (signals (take (i + 1) slots)) c.match-slot.citations.items) (sym w.self-is)
          (subst (λ cs. AllBranched job a c.loop-slot.self p (signals (take (i + 1) slots)) cs.items) (sym w.citations-is)
          (subst (λ ss. AllBranched job a c.loop-slot.self p ss c.loop-slot.citations.items) (sym (signals_none slots i c.loop-slot-test.true w.in_default.is)) c.loop-slot.invariant))
    ]

pub either-returns : goal.either-returns
either-returns t c =
    let job = c.args.before.now in
    let new = c.branches.new.self in
    let slots = c.packet-waiting.result.now.slots in
    let same : slots ≡ (packet job c.args.r).deps = ap (λ x. x.deps) c.packet-waiting.ensures ∙ ap (λ v. (packet v c.args.r).deps) c.job.ensures in
    record {
      goes = c.in_ok-citations.ensures.goes;
      follows = subst (λ x. Follows job (lines_of new) (length (lines_of new)) c.args.p c.args.r (OrRule (map cited x.citations.items))) (sym c.in_ok-new.ensures.ok)
          (either_follows job c.args.self.now new c.args.p c.args.r slots c.in_ok-citations.citations.items (Below job c.args.round) c.requires.either same c.in_ok-citations.ensures);
    }

pub cited-returns-in-Some : goal.cited-returns-in-Some
cited-returns-in-Some t c = record {
  goes = goes_same c.args.before.now c.args.self.now c.requires.kept;
  says = c.in-Some.ensures.0;
  small = c.in-Some.ensures.1;
}

pub numbered-add-requires-clause-p_is : goal.numbered-add-requires-clause-p_is
numbered-add-requires-clause-p_is t c =
    let low : c.args.p < length c.args.before.now.packets = within_first c.args.before.now c.args.round c.args.p c.args.r c.requires.first.within in
    let few = c.requires.kept.few in
    omega arith

pub numbered-add-requires-clause-r_is : goal.numbered-add-requires-clause-r_is
numbered-add-requires-clause-r_is t c =
    let low : c.args.r < length c.args.before.now.packets = within_second c.args.before.now c.args.round c.args.p c.args.r c.requires.first.within in
    let few = c.requires.kept.few in
    omega arith

pub numbered-returns : goal.numbered-returns
numbered-returns t c =
    let w = c.requires.first.within in
    add_answers c.args.before.now c.args.self.now c.rule.new.self c.add.new.self c.args.p c.args.r c.in_ok-rule.rule c.add.result c.in_ok-rule.ensures.goes
    (within_first c.args.before.now c.args.round c.args.p c.args.r w) (within_second c.args.before.now c.args.round c.args.p c.args.r w) c.in_ok-rule.ensures.follows
    c.add.ensures.lines c.add.ensures.number c.add.ensures.small c.add.ensures.ranks

pub cited-first_round-requires : goal.cited-first_round-requires
cited-first_round-requires t c = below_before c.args.before.now c.args.round c.args.p c.args.r c.requires.below

pub through-returns : goal.through-returns
through-returns t c = record {
  goes = goes_more c.args.before.now c.args.self.now c.cited.new.self c.cited-2.new.self c.in_ok-first.ensures.goes c.in_ok-second.ensures.goes;
  follows = through_follows c.args.before.now c.args.self.now c.cited.new.self c.cited-2.new.self c.args.p c.args.m c.args.r c.in_ok-first.first c.in_ok-second.second c.in_ok-first.ensures c.in_ok-second.ensures;
}
