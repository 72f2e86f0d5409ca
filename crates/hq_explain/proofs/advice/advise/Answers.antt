use Rattle.std.proofs.Common.{◌≡◌, ◌∙◌, ◌+◌, ◌∷◌, [], ◌++◌, ℕ, List, length, slice_get, Some, ap, sym, subst, arith}
use Rattle.std.proofs.lemmas.List.{length_push}
use Rattle.hq_job.specs.Plan.{plan}
use Rattle.hq_waits.proofs.Packets.{packets_count}
use Rattle.hq_explain.specs.declared.advice.Advice.{Advice}
use Rattle.hq_explain.specs.Advised.{IsAdvice}
use Rattle.hq_explain.proofs.Lists.{each_push}
use Rattle.hq_explain.proofs.advice.advise.Goals as goal

pub advice_of-next-requires-clause-bits : goal.advice_of-next-requires-clause-bits
advice_of-next-requires-clause-bits c = c.requires.bits c.loop-p.p

pub loop-p-preserved : goal.loop-p-preserved
loop-p-preserved c =
    let job = plan c.args.job.now in
    let old = c.loop-p.list.items in
    let i = c.loop-p.invariant in
    let x = c.advice_of-next.result.0 in
    let pushed : c.push.new.list.items ≡ old ++ x ∷ [] = c.in-Ok.ensures.pushed in (
      c.advice_of-next.ensures.trial,
      ap length pushed ∙ length_push old x ∙ ap (λ n. n + 1) i.1,
      subst (λ (list : List Advice). (k : ℕ) (advice : Advice) → slice_get list k ≡ Some advice → IsAdvice job c.args.a c.args.b k advice) (sym pushed)
          (each_push (λ k advice. IsAdvice job c.args.a c.args.b k advice) old x i.2 (subst (λ k. IsAdvice job c.args.a c.args.b k x) (sym i.1) c.advice_of-next.ensures.advice)),
    )

pub returns-clause-advice : goal.returns-clause-advice
returns-clause-advice c = record {
  len = omega (arith, c.loop-p.invariant.1, c.loop-p-test.false, c.loop-p.auto.p-end, packets_count c.args.job.now, ap length c.packets-p-end.ensures);
  each = c.loop-p.invariant.2;
}
