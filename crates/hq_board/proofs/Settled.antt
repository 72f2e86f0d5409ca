-- A signal that is settled by a queue's own list is 0.
use Rattle.std.proofs.Common.{◌≡◌, ℕ, ◌<◌, inl, inr, Bool, true, false, cond, List, length, refl, sym, ◌∙◌, ap, subst, arith}
use Rattle.hq_model.specs.Job.{Job, packet, Dependency, Decrements, completes_on}
use Rattle.hq_model.specs.Machine.{is_complete}
use Rattle.hq_model.specs.Machine.Phase.{Complete}
use Rattle.hq_model.proofs.Sums.{sum_same}
use Rattle.hq_model.proofs.Kept.{count_at, one_at, decrementers_are, signal_of}
use Rattle.hq_board.specs.declared.entry.Entry.{Entry}
use Rattle.hq_board.specs.declared.entry.View.{View}
use Rattle.hq_board.specs.History.{after, Legal, Right, part}
use Rattle.hq_board.specs.Rule.{Fits, IsSettled}
use Rattle.hq_board.proofs.Histories.{kept_after, own_phase, own_observed}
use Rattle.hq_board.proofs.Sentences.{observed_zero}

-- where all that complete on a signal are complete, they count as often as there are such packets
one_each : (job : Job) (m : List Entry) (s : ℕ) → ((d : ℕ) → Decrements job d s → (after job m).phase d ≡ Complete) → (p : ℕ) → p < length job.packets → count_at job (after job m).phase s p ≡ one_at job s p
one_each job m s all p l = by_test (completes_on s (packet job p)) refl
  where
    by_test : (b : Bool) → completes_on s (packet job p) ≡ b → ◌≡◌ {A = ℕ} (cond (completes_on s (packet job p)) (cond (is_complete ((after job m).phase p)) 1 0) 0) (cond (completes_on s (packet job p)) 1 0)
    by_test true e = ap (λ f. cond (completes_on s (packet job p)) (cond (is_complete f) 1 0) 0) (all p (record { is_packet = l; signal = signal_of s (packet job p).done e }))
    by_test false e = ap (λ b. cond b (cond (is_complete ((after job m).phase p)) 1 0) 0) e ∙ sym (ap (λ b. cond {A = ℕ} b 1 0) e)

pub settled_zero : (job : Job) (m : List Entry) (v : View) (p slot s : ℕ) → Fits job → Legal job m → Right job m → part job v.queue m ≡ v.log → Dependency job p slot s → IsSettled job v s → (after job m).signal s ≡ 0
settled_zero job m v p slot s fits l r e d (inl none) = omega (arith, (kept_after job m fits.valid l r).signals s, none)
settled_zero job m v p slot s fits l r e d (inr (inl (t, place, w, q, o))) =
    observed_zero job m l r t place s (sym (own_observed job v.queue m t place q) ∙ subst (λ log. (after job log).observed t place ≡ true) (sym e) o) w
settled_zero job m v p slot s fits l r e d (inr (inr all)) =
    omega (
      arith,
      (kept_after job m fits.valid l r).signals s,
      sum_same (length job.packets) (count_at job (after job m).phase s) (one_at job s) (one_each job m s (λ c w. sym (own_phase job v.queue m c (all c w).0) ∙ subst (λ log. (after job log).phase c ≡ Complete) (sym e) (all c w).1)),
      decrementers_are job s,
      fits.valid.exact p slot s d,
    )
