use Rattle.std.proofs.Common.{◌≡◌, rules, true, false, sym, ◌∙◌, refl, None, Ok}
use Rattle.hq_model.specs.Order.{Before}
use Rattle.hq_fence.proofs.Telling.{exact}
use Rattle.hq_fence.proofs.judging.judge_at_once.Goals as goal

pub returns-clause-exact : goal.returns-clause-exact
returns-clause-exact c = λ t.
    let job = c.args.before.now in
    let p = c.args.p in
    let r = c.args.r in
    let has = c.requires.kinds in
    let before : Before job p r = c.holds.ensures.0 c.if-not-holds.false in
    (exact job p r (Ok (record { wr = None; ww = c.own_release.result; rw = c.args.kinds.rw }))
    (record {
      has_wr = (λ some. let never : ⊥ = cc in absurd never, λ k. let never : true ≡ false = sym (has.wr.1 k) ∙ c.if-kinds.false in let no : ⊥ = cc in absurd no);
      wr = search rules;
      has_ww = (λ some. has.ww.0 (c.own_release.ensures.some.0 some), λ k. c.own_release.ensures.some.1 (has.ww.1 k));
      ww = c.own_release.ensures.shown;
      has_rw = has.rw;
      rw = λ there. before;
    }) tt).0 refl
