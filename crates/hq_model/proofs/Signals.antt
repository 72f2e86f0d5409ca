-- A signal's value, by the packets that are complete.
use Rattle.std.proofs.Common.{◌≡◌, ℕ, zero, suc, ◌+◌, length, refl, ◌∙◌, ap, arith, Bool, true, false, cond, ◌&&◌, count_by}
use Rattle.std.proofs.lemmas.List.Sums.{sum_by_push}
use Rattle.hq_model.specs.Job.{packet, completes_on}
use Rattle.hq_model.specs.Machine.{listed, is_complete, start}
use Rattle.hq_model.specs.Theorems.{SignalLaw}
use Rattle.hq_model.proofs.Sums.{sum_to, sum_same}
use Rattle.hq_model.proofs.Kept.{count_at, kept_start, kept_steps}

counted_up : (n : ℕ) (t : ℕ → Bool) → count_by t (listed n (λ p. p)) ≡ sum_to n (λ p. cond (t p) 1 0)
counted_up zero t = refl
counted_up (suc n) t = sum_by_push (λ p. cond (t p) 1 0) (listed n (λ p. p)) n ∙ ap (λ k. k + cond (t n) 1 0) (counted_up n t)

both : (b c : Bool) → ◌≡◌ {A = ℕ} (cond (b && c) 1 0) (cond b (cond c 1 0) 0)
both true c = refl
both false c = refl

pub signal_law : SignalLaw
signal_law job events state valid run s = omega (
  arith,
  (kept_steps job (start job) events state valid.balanced (kept_start job) run).signals s,
  counted_up (length job.packets) (λ p. completes_on s (packet job p) && is_complete (state.phase p))
      ∙ sum_same (length job.packets) (λ p. cond (completes_on s (packet job p) && is_complete (state.phase p)) 1 0) (count_at job state.phase s) (λ p l. both (completes_on s (packet job p)) (is_complete (state.phase p))),
)
