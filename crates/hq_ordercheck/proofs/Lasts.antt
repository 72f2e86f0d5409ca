-- The last places at which packets complete on signals.
use Rattle.std.proofs.Common.{◌≡◌, ℕ, ◌+◌, ◌<◌, ◌↔◌, inl, inr, List, length, refl, sym, ◌∙◌, ap, subst, arith, Option, None, Some, IfSome, IsTrue, slice_index, slice_index_or}
use Rattle.std.specs.Prelude.{nat_lt}
use Rattle.std.proofs.lemmas.Bool.{cases_eq, ltb-true, lt-ltb}
use Rattle.hq_model.specs.Job.{Job, packet, IsPacket, Decrements}
use Rattle.hq_ordercheck.specs.Placed.{AreLasts, IsNoted, IsOverBefore}
use Rattle.hq_ordercheck.proofs.Options.{none_some, some_same}

-- ---- one place noted

-- ---- all of them

-- the last places of the packets below n
pub record AreLastsTo (job : Job) (places : List ℕ) (count n : ℕ) (lasts : List (Option ℕ)) : Type 0 where
  pub len : length lasts ≡ count
  pub last : (s b : ℕ) → IfSome (slice_index_or lasts s None) (λ l. l < b) ↔ ((d : ℕ) → d < n → Decrements job d s → slice_index places d < b)

module _ (job : Job) (places : List ℕ) (count n place : ℕ) (old new : List (Option ℕ)) (h : AreLastsTo job places count n old) (here : place ≡ slice_index places n) where
  -- n completes on the signal
  met : (s b : ℕ) → Decrements job n s → IfSome (slice_index_or new s None) (λ l. l < b) ↔ (IfSome (slice_index_or old s None) (λ l. l < b) × (place < b)) → IfSome (slice_index_or new s None) (λ l. l < b) ↔ ((d : ℕ) → d < n + 1 → Decrements job d s → slice_index places d < b)
  met s b f e = (
    λ t d below g. elim (cases_eq d n) [
      | inl same ↦ subst (λ k. slice_index places k < b) (sym same) (omega (arith, (e.0 t).1, here))
      | inr apart ↦ (h.last s b).0 (e.0 t).0 d (omega (arith, below, apart)) g
    ],
    λ all. e.1 ((h.last s b).1 (λ d below g. all d (omega (arith, below)) g), omega (arith, all n (omega arith) f, here)),
  )

  -- it doesn't
  passed : (s b : ℕ) → (Decrements job n s → ⊥) → slice_index_or new s None ≡ slice_index_or old s None → IfSome (slice_index_or new s None) (λ l. l < b) ↔ ((d : ℕ) → d < n + 1 → Decrements job d s → slice_index places d < b)
  passed s b none kept = (
    λ t d below g. elim (cases_eq d n) [
      | inl same ↦ absurd (none (subst (λ k. Decrements job k s) same g))
      | inr apart ↦ (h.last s b).0 (subst (λ o. IfSome o (λ l. l < b)) kept t) d (omega (arith, below, apart)) g
    ],
    λ all. subst (λ o. IfSome o (λ l. l < b)) (sym kept) ((h.last s b).1 (λ d below g. all d (omega (arith, below)) g)),
  )

  module _ (done : Option ℕ) (noted : IsNoted old new done place) (is : IsPacket job n) (done_is : (packet job n).done ≡ done) where
    apart_from : (s : ℕ) → (done ≡ Some s → ⊥) → Decrements job n s → ⊥
    apart_from s ban f = ban (sym done_is ∙ f.signal)

    by : (s b : ℕ) → (o : Option ℕ) → done ≡ o → IfSome (slice_index_or new s None) (λ l. l < b) ↔ ((d : ℕ) → d < n + 1 → Decrements job d s → slice_index places d < b)
    by s b None e =
        let ban : done ≡ Some s → ⊥ = λ x. none_some s (sym e ∙ x) in
        passed s b (apart_from s ban) (noted.elsewhere s ban)
    by s b (Some t) e = elim (cases_eq t s) [
      | inl same ↦
          let x : done ≡ Some s = e ∙ ap Some same in
          met s b (record { is_packet = is; signal = done_is ∙ x }) (noted.here s b x)
      | inr apart ↦
          let ban : done ≡ Some s → ⊥ = λ x. apart (some_same t s (sym e ∙ x)) in
          passed s b (apart_from s ban) (noted.elsewhere s ban)
    ]

    pub lasts_more : AreLastsTo job places count (n + 1) new
    lasts_more = record { len = noted.len ∙ h.len; last = λ s b. by s b done refl }

-- a last place is ahead of r exactly where all that complete on the signal are
pub last_over : (job : Job) (places : List ℕ) (count s r last : ℕ) (lasts : List (Option ℕ)) → AreLasts job places count lasts → slice_index_or lasts s None ≡ Some last → IsTrue (nat_lt last (slice_index places r)) ↔ IsOverBefore job places s r
last_over job places count s r last lasts h e =
    let b : ℕ = slice_index places r in (
      λ t. (h.last s b).0 (subst (λ o. IfSome o (λ l. l < b)) (sym e) (ltb-true last b t)),
      λ all. lt-ltb last b (subst (λ o. IfSome o (λ l. l < b)) e ((h.last s b).1 all)),
    )

-- where none is noted, all that complete on the signal are, since there is none
pub none_over : (job : Job) (places : List ℕ) (count s r : ℕ) (lasts : List (Option ℕ)) → AreLasts job places count lasts → slice_index_or lasts s None ≡ None → IsOverBefore job places s r
none_over job places count s r lasts h e = (h.last s (slice_index places r)).0 (subst (λ o. IfSome o (λ l. l < slice_index places r)) (sym e) tt)
