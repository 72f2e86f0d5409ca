use Rattle.std.proofs.Common.{◌≡◌, ◌-◌, ◌<◌, inl, inr, true, false, refl, sym, ◌∙◌, arith}
use Rattle.hq_job.specs.Plan.{plan}
use Rattle.hq_model.specs.Job.{IsBarrier, packet}
use Rattle.hq_bits.specs.Bits.{has}
use Rattle.hq_bits.proofs.Walked.{mark_bit}
use Rattle.hq_order.specs.Rounds.Precedes.{by_bit}
use Rattle.hq_job.proofs.Rings.{earlier_range}
use Rattle.hq_order.proofs.Single.{next_of_queue, none_precedes, precedes_earlier, precedes_further, precedes_next}
use Rattle.hq_order.proofs.direct.go_on.Goals as goal

pub returns-then-r-start : goal.returns-then-r-start
returns-then-r-start c = λ p.
    let job = plan c.args.job.now in
    let queue = (packet job c.args.r).queue in
    let start = c.queue_of-start.result.start in
    (λ h. absurd (let x : false ≡ true = sym (c.clear.ensures.none p) ∙ h in cc), λ x. absurd (none_precedes job queue start c.queue_of-start.result.end p c.args.r c.queue_of-start.ensures.are refl c.requires.r_is c.if-r-start.true x))

pub returns-then-has_bit : goal.returns-then-has_bit
returns-then-has_bit c = λ p.
    let job = plan c.args.job.now in
    let r = c.args.r in
    let queue = (packet job c.args.r).queue in
    let start = c.queue_of-start.result.start in
    let stop = c.queue_of-start.result.end in
    let above : start < r = let n = c.if-r-start.false in omega arith in
    let next = next_of_queue job queue start stop r c.queue_of-start.ensures.are refl c.requires.r_is above in
    let range = earlier_range job queue start stop p r c.queue_of-start.ensures.are refl c.requires.r_is in
    let e = c.insert_all.ensures p in (
      λ h. elim (e.0 h) [
        | inl old ↦ precedes_further job p (r - 1) r next.0 ((c.requires.ahead p).0 old).1
        | inr within ↦ by_bit {j = r} (record { earlier = range.1 within; bit = sym c.has_bit.ensures ∙ c.if-has_bit.true; upto = inl refl })
      ],
      λ x. e.1 (inr (range.0 (precedes_earlier job p r x))),
    )

pub returns-then-is_barrier : goal.returns-then-is_barrier
returns-then-is_barrier c = λ p.
    let job = plan c.args.job.now in
    let r = c.args.r in
    let above : c.queue_of-start.result.start < r = let n = c.if-r-start.false in omega arith in
    let next = next_of_queue job (packet job c.args.r).queue c.queue_of-start.result.start c.queue_of-start.result.end r c.queue_of-start.ensures.are refl c.requires.r_is above in
    let goes = precedes_next job p (r - 1) r next (λ t. let x : false ≡ true = sym c.if-has_bit.false ∙ c.has_bit.ensures ∙ t in cc) in
    let barrier : IsBarrier job (r - 1) = c.is_barrier.ensures.0 c.if-is_barrier.true in
    let more = mark_bit (has c.args.ahead.now p) (has c.insert.new.row p) p (r - 1) (c.insert.ensures p) in (
      λ h. goes.1 (elim (more.0 h) [ inl o ↦ inl ((c.requires.ahead p).0 o).1 | inr e ↦ inr (e, barrier) ]),
      λ x. more.1 (elim (goes.0 x) [ inl y ↦ inl ((c.requires.ahead p).1 (omega arith, y)) | inr z ↦ inr z.0 ]),
    )

pub returns-else-is_barrier : goal.returns-else-is_barrier
returns-else-is_barrier c = λ p.
    let job = plan c.args.job.now in
    let r = c.args.r in
    let above : c.queue_of-start.result.start < r = let n = c.if-r-start.false in omega arith in
    let next = next_of_queue job (packet job c.args.r).queue c.queue_of-start.result.start c.queue_of-start.result.end r c.queue_of-start.ensures.are refl c.requires.r_is above in
    let goes = precedes_next job p (r - 1) r next (λ t. let x : false ≡ true = sym c.if-has_bit.false ∙ c.has_bit.ensures ∙ t in cc) in (
      λ h. goes.1 (inl ((c.requires.ahead p).0 h).1),
      λ x. elim (goes.0 x) [
        | inl y ↦ (c.requires.ahead p).1 (omega arith, y)
        | inr z ↦ absurd (let t : c.is_barrier.result ≡ true = c.is_barrier.ensures.1 z.1 in let x : false ≡ true = sym c.if-is_barrier.false ∙ t in cc)
      ],
    )
