use Rattle.std.proofs.Common.{◌+◌, ◌↔◌, ◌⊎◌, ◌∷◌, [], sym, ◌∙◌, arith, length, inl, inr, ap, subst, IsTrue, length-append}
use Rattle.std.proofs.lemmas.Bool.{cases_lt}
use Rattle.hq_job.specs.Plan.{plan}
use Rattle.hq_bits.specs.Bits.{has, Grown}
use Rattle.hq_rows.specs.Matrix.{row, Marks}
use Rattle.hq_rows.specs.Uniting.{CanUnite, Through}
use Rattle.hq_order.specs.Rounds.{Next}
use Rattle.hq_order.proofs.Single.{count}
use Rattle.hq_rows.proofs.Rows.{marked_below, grown_beyond}
use Rattle.hq_order.proofs.Turns.{stepped_next}
use Rattle.hq_rows.proofs.Pushed.{pushed, square_grown}
use Rattle.hq_order.proofs.Closure.{next_within}
use Rattle.hq_order.proofs.rounds.next_rows.Goals as goal

pub loop-r-init : goal.loop-r-init
loop-r-init c = record {
  len = ap length c.in_ok-new.ensures.items;
  grown = λ r l. absurd (omega arith);
  exact = λ p r l. absurd (omega arith);
  rests = λ p r l. absurd (omega arith);
}

pub next_row-requires-clause-unions : goal.next_row-requires-clause-unions
next_row-requires-clause-unions c =
    let high = c.requires.square.height in
    let low = c.loop-r-test.true in
    subst (λ words. CanUnite c.args.known.now.rows.now words c.args.known.now.unions.now) (sym (c.requires.square.width c.loop-r.r (omega arith))) c.requires.unions

pub loop-r-preserved : goal.loop-r-preserved
loop-r-preserved c =
    let job = plan c.args.job.now in
    let rows = c.args.known.now.rows.now in
    let e = c.in_ok-push.ensures.items in
    let l = c.loop-r in
    record {
      len = ap length e ∙ length-append l.new.items (c.in_ok-next_row.field-0 ∷ []) ∙ ap (λ n. n + 1) l.invariant.len;
      grown = pushed (λ r words. Grown (row rows r) words) l.new.items c.in_ok-next_row.field-0 c.push.new.self.items l.r l.invariant.len e l.invariant.grown c.in_ok-next_row.ensures.grown;
      exact = λ p. pushed (λ r words. IsTrue (has words p) ↔ Next job (Marks rows) p r) l.new.items c.in_ok-next_row.field-0 c.push.new.self.items l.r l.invariant.len e (l.invariant.exact p) (c.in_ok-next_row.ensures.exact p);
      rests = λ p. pushed (λ r words. IsTrue (has words p) → IsTrue (has c.next_row.new.renewed r) ⊎ Through rows p r) l.new.items c.in_ok-next_row.field-0 c.push.new.self.items l.r l.invariant.len e
          (λ r low m. elim (l.invariant.rests p r low m) [ inl note ↦ inl (c.in_ok-next_row.ensures.kept r note) | inr t ↦ inr t ]) (c.in_ok-next_row.ensures.rests p);
    }

pub returns-clause-exact : goal.returns-clause-exact
returns-clause-exact c = λ p r.
    let n = c.loop-r-test.false in (
      λ m. (c.loop-r.invariant.exact p r (let l = marked_below c.loop-r.new.items p r m in let e = c.loop-r.invariant.len in omega arith)).0 m,
      λ d. (c.loop-r.invariant.exact p r (let l = next_within (plan c.args.job.now) c.args.known.now.rows.now p r (c.requires.square.height ∙ sym (count c.args.job.now)) d in omega arith)).1 d,
    )

pub returns-clause-stepped : goal.returns-clause-stepped
returns-clause-stepped c =
    let e = c.loop-r.invariant.len in
    stepped_next (plan c.args.job.now) c.args.known.now.rows.now c.loop-r.new.items c.loop-r.renewed (returns-clause-exact c) (λ p m l. c.loop-r.invariant.rests p m (omega arith))

pub returns-clause-grown : goal.returns-clause-grown
returns-clause-grown c = λ r.
    let n = c.loop-r-test.false in
    let e = c.loop-r.invariant.len in
    elim (cases_lt r c.loop-r.r) [
      | inl low ↦ c.loop-r.invariant.grown r low
      | inr high ↦ grown_beyond c.args.known.now.rows.now c.loop-r.new.items r (omega arith) (omega arith)
    ]

pub returns-clause-square : goal.returns-clause-square
returns-clause-square c =
    let n = c.loop-r-test.false in
    let e = c.loop-r.invariant.len in
    let end = c.loop-r.auto.r-end in
    square_grown (length c.args.job.now.packets) c.args.known.now.rows.now c.loop-r.new.items c.requires.square (omega arith) (λ r l. c.loop-r.invariant.grown r (omega arith))
