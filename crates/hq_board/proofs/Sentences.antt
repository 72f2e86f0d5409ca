-- What the rule means.
use Rattle.std.proofs.Common.{◌≡◌, ℕ, zero, suc, ◌+◌, ◌-◌, ◌&&◌, count_by, inl, inr, Bool, true, false, cond, List, [], ◌∷◌, length, refl, sym, ◌∙◌, ap, subst, arith}
use Rattle.std.proofs.lemmas.Bool.{cases_eq, true≢false}
use Rattle.hq_model.specs.Job.{Job, packet, Dependency, completes_on}
use Rattle.std.proofs.lemmas.List.Sums.{sum_by_push}
use Rattle.hq_model.specs.Machine.{listed}
use Rattle.hq_model.proofs.Sums.{sum_to, sum_same, put2_other}
use Rattle.hq_model.proofs.Kept.{is_complete, count_at, complete_before, IsBegun}
use Rattle.hq_board.specs.declared.entry.Entry.{Entry}
use Rattle.hq_board.specs.declared.entry.Entry.TheVariants.{DidLaunch, DidObserve, DidEnter, DidComplete, Looked}
use Rattle.hq_board.specs.History.{after, Legal, Right, part}
use Rattle.hq_board.specs.Law.{phase_by, completed_on, RuleLaw}
use Rattle.hq_board.proofs.Histories.{own_phase, own_observed, legal_part, kept_after}

still_zero : (b : Bool) (n : ℕ) → n ≡ 0 → cond b (n - 1) n ≡ 0
still_zero true n e = omega arith
still_zero false n e = e

-- a signal that was observed is 0 from then on
pub observed_zero : (job : Job) (m : List Entry) → Legal job m → Right job m → (p slot s : ℕ) → (after job m).observed p slot ≡ true → Dependency job p slot s → (after job m).signal s ≡ 0
observed_zero job [] l r p slot s o d = absurd (true≢false (sym o))
observed_zero job (DidLaunch t ∷ m) l r p slot s o d = observed_zero job m l.1 r.1 p slot s o d
observed_zero job (DidEnter t ∷ m) l r p slot s o d = observed_zero job m l.1 r.1 p slot s o d
observed_zero job (Looked t place n ∷ m) l r p slot s o d = observed_zero job m l.1 r.1 p slot s o d
observed_zero job (DidComplete t ∷ m) l r p slot s o d = still_zero (completes_on s (packet job t)) ((after job m).signal s) (observed_zero job m l.1 r.1 p slot s o d)
observed_zero job (DidObserve t place ∷ m) l r p slot s o d = elim (cases_eq p t) [
  | inl e ↦ elim (cases_eq slot place) [
    | inl h ↦ r.0 s (subst (λ x. Dependency job t x s) h (subst (λ x. Dependency job x slot s) e d))
    | inr n ↦ observed_zero job m l.1 r.1 p slot s (sym (put2_other (after job m).observed t place true p slot (λ _ h. n h)) ∙ o) d
  ]
  | inr n ↦ observed_zero job m l.1 r.1 p slot s (sym (put2_other (after job m).observed t place true p slot (λ h _. n h)) ∙ o) d
]

same_phase : (job : Job) (m : List Entry) (p : ℕ) → phase_by job (λ q. part job q m) p ≡ (after job m).phase p
same_phase job m p = own_phase job (packet job p).queue m p refl

counted_up : (n : ℕ) (t : ℕ → Bool) → count_by t (listed n (λ p. p)) ≡ sum_to n (λ p. cond (t p) 1 0)
counted_up zero t = refl
counted_up (suc n) t = sum_by_push (λ p. cond (t p) 1 0) (listed n (λ p. p)) n ∙ ap (λ k. k + cond (t n) 1 0) (counted_up n t)

both : (b c : Bool) → ◌≡◌ {A = ℕ} (cond (b && c) 1 0) (cond b (cond c 1 0) 0)
both true c = refl
both false c = refl

-- what the lists have completed on a signal is what the history has
counts : (job : Job) (m : List Entry) (s : ℕ) → completed_on job (λ q. part job q m) s ≡ sum_to (length job.packets) (count_at job (after job m).phase s)
counts job m s =
    counted_up (length job.packets) (λ p. completes_on s (packet job p) && is_complete (phase_by job (λ q. part job q m) p))
    ∙ sum_same (length job.packets) (λ p. cond (completes_on s (packet job p) && is_complete (phase_by job (λ q. part job q m) p)) 1 0) (count_at job (after job m).phase s)
    (λ p l. both (completes_on s (packet job p)) (is_complete (phase_by job (λ q. part job q m) p)) ∙ ap (λ f. cond (completes_on s (packet job p)) (cond (is_complete f) 1 0) 0) (same_phase job m p))

pub rule_law : RuleLaw
rule_law job words views fits k =
    let all = kept_after job k.m fits.valid k.legal k.right in (
      λ q. part job q k.m,
      record {
        legal = λ q. legal_part job q k.m k.legal;
        signals = λ s l. omega (arith, k.words_right.signals s l, all.signals s, counts job k.m s);
        observed = λ p slot s o d l. k.words_right.signals s l ∙ observed_zero job k.m k.legal k.right p slot s (sym (own_observed job (packet job p).queue k.m p slot refl) ∙ o) d;
        entered = λ p r b h. same_phase job k.m p ∙ complete_before (after job k.m) all b (subst IsBegun (same_phase job k.m r) h);
        queues = λ q l. k.words_right.queues q l;
        history = (k.m, k.legal, k.right, λ q. refl);
      },
      λ j v at. k.parts j v at,
    )
