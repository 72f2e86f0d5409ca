use Rattle.std.proofs.Common.{refl, sym, ◌∙◌, arith}
use Rattle.std.proofs.lemmas.Bool.{true≢false}
use Rattle.hq_job.specs.Plan.{plan}
use Rattle.hq_model.specs.Machine.{first_phase}
use Rattle.hq_witness.proofs.recording.Recording.is_over.Goals as goal

pub returns-then-not-all_complete : goal.returns-then-not-all_complete
returns-then-not-all_complete c =
    let all = c.all_complete.ensures (first_phase (plan c.args.job.now)) in (
      λ t. absurd (true≢false (sym t)),
      λ over. absurd (true≢false (sym (all.1 (λ p _ low. over.complete p (omega (arith, low, c.packets-count.ensures, c.requires.is.lengths.phases)))) ∙ c.if-not-all_complete.true)),
    )

pub returns-in-Some : goal.returns-in-Some
returns-in-Some c =
    let left = c.in-Some.ensures in (
      λ t. absurd (true≢false (sym t)),
      λ over. absurd (over.rest left.0 left.3.0 left.2 left.3.1),
    )

pub returns-in-None : goal.returns-in-None
returns-in-None c =
    let job = plan c.args.job.now in (
      λ _. record {
        complete = λ p there. (c.all_complete.ensures (first_phase job)).0 c.if-not-all_complete.false p (omega arith) (omega (arith, c.packets-count.ensures, c.requires.is.lengths.phases));
        rest = c.in-None.ensures;
      },
      λ _. refl,
    )
