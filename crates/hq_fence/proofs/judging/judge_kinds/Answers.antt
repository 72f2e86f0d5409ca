use Rattle.std.proofs.Common.{◌≡◌, true, false, sym, ◌∙◌, None, Ok, Err}
use Rattle.hq_model.specs.Order.{Before}
use Rattle.hq_finding.specs.declared.why.Why.TheVariants as why
use Rattle.hq_fence.proofs.Telling.{unordered, nothing_shown, exact, some_acquired}
use Rattle.hq_fence.proofs.judging.judge_kinds.Goals as goal

pub returns-in-Some-clause-not_shown : goal.returns-in-Some-clause-not_shown
returns-in-Some-clause-not_shown c =
    unordered c.args.before.now c.args.p c.args.r c.args.kinds c.in-Some.kind
    c.requires.kinds
    (λ b. let x : false ≡ true = sym c.if-not-holds.true ∙ c.holds.ensures.1 b in cc) c.in-Some.ensures

pub returns-in-Some-clause-exact : goal.returns-in-Some-clause-exact
returns-in-Some-clause-exact c =
    exact c.args.before.now c.args.p c.args.r (Err (record { kind = c.in-Some.kind; why = why.Unordered })) tt
    (unordered c.args.before.now c.args.p c.args.r c.args.kinds c.in-Some.kind
    c.requires.kinds
    (λ b. let x : false ≡ true = sym c.if-not-holds.true ∙ c.holds.ensures.1 b in cc) c.in-Some.ensures)

pub returns-in-None-clause-shown : goal.returns-in-None-clause-shown
returns-in-None-clause-shown c =
    nothing_shown c.args.before.now c.args.p c.args.r c.args.kinds
    c.requires.kinds c.in-None.ensures

pub returns-in-None-clause-exact : goal.returns-in-None-clause-exact
returns-in-None-clause-exact c =
    exact c.args.before.now c.args.p c.args.r (Ok (record { wr = None; ww = None; rw = false }))
    (nothing_shown c.args.before.now c.args.p c.args.r c.args.kinds
    c.requires.kinds c.in-None.ensures) tt

pub judge_ww-requires-clause-ahead : goal.judge_ww-requires-clause-ahead
judge_ww-requires-clause-ahead c = λ k. some_acquired c.args.before.now c.args.p c.args.r c.in_ok-wr.wr c.in_ok-wr.ensures.shown (c.in_ok-wr.ensures.some.1 k)

pub returns-clause-exact : goal.returns-clause-exact
returns-clause-exact c =
    let has = c.requires.kinds in
    let before : Before c.args.before.now c.args.p c.args.r = c.holds.ensures.0 c.if-not-holds.false in
    exact c.args.before.now c.args.p c.args.r (Ok (record { wr = c.in_ok-wr.wr; ww = c.in_ok-ww.ww; rw = c.args.kinds.rw }))
    (record {
      has_wr = c.in_ok-wr.ensures.some;
      wr = c.in_ok-wr.ensures.shown;
      has_ww = c.in_ok-ww.ensures.some;
      ww = c.in_ok-ww.ensures.shown;
      has_rw = has.rw;
      rw = λ t. before;
    }) tt
