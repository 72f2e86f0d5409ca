-- Barrier bits of runs of packets.
use Rattle.std.proofs.Common.{◌≡◌, ◌↔◌, ℕ, ◌+◌, ◌<◌, ◌≤◌, ◌⊎◌, ◌||◌, ◌&&◌, ◌==◌, inl, inr, IsTrue, Bool, true, false, not, List, length, Result, Ok, Err, OnOk, sym, ap, subst, refl, ◌∙◌, arith}
use Rattle.std.proofs.lemmas.Bool.{cases_eq, cases_lt}
use Rattle.hq_packet.specs.declared.packet.Head.{Head}
use Rattle.hq_packet.specs.declared.packet.Scope.{Scope}
use Rattle.hq_packet.specs.declared.packet.Scope.TheVariants as scope
use Rattle.hq_model.specs.Job.{Job, IsPacket}
use Rattle.hq_packet.specs.Scopes.{reaches}
use Rattle.hq_model.specs.Settings.{SameButHeads, HeadRaises, Raises, head_at, with_head}
use Rattle.hq_model.proofs.SettingsKept.{packets_same, same_length}
use Rattle.hq_model.proofs.SettingsSteps.{heads_are_set, same_by_heads}
use Rattle.hq_job.specs.Plan.{plan}
use Rattle.hq_job.specs.Value.{JobValue}
use Rattle.hq_bits.specs.Bits.{has}
use Rattle.hq_waits.proofs.Packets.{packets_count}
use Rattle.hq_bits.proofs.Words.{or_cases, and_both, eq_test}
use Rattle.hq_audit.specs.Refused.{ShownOneWay}
use Rattle.hq_explain.specs.declared.change.Change.TheVariants as change
use Rattle.hq_explain.specs.Changes.{Orders, changed, job_changed}
use Rattle.hq_explain.specs.Trials.{BitOrders, HasBits, Noted}
use Rattle.hq_explain.proofs.Trying.{head_elsewhere, head_here, one_way_up}

abbrev with_bit : Head → Head
with_bit h = record h { barrier = true }

-- ---- bits set one behind another

pub bits_more : (job k : Job) (lo p : ℕ) → lo ≤ p → IsPacket k p → HasBits job k lo p → HasBits job (with_head k p (changed change.Bit (head_at k p))) lo (p + 1)
bits_more job k lo p low is h = record {
  same = h.same ∙ (heads_are_set k p (with_bit (head_at k p)) is).same;
  inside = λ r a b. elim (cases_eq r p) [
    | inl e ↦ subst (λ q. head_at new q ≡ with_bit (head_at job q)) (sym e) (head_here k p (with_bit (head_at k p)) is ∙ ap with_bit (h.outside p (inr (omega arith))))
    | inr n ↦ head_elsewhere k p (with_bit (head_at k p)) is r n ∙ h.inside r a (omega arith)
  ];
  outside = λ r o. elim o [
    | inl below ↦ head_elsewhere k p (with_bit (head_at k p)) is r (λ e. omega arith) ∙ h.outside r (inl below)
    | inr above ↦ head_elsewhere k p (with_bit (head_at k p)) is r (λ e. omega arith) ∙ h.outside r (inr (omega arith))
  ];
}
  where
    new : Job
    new = with_head k p (with_bit (head_at k p))

pub set_more : (job k new : Job) (lo p : ℕ) (old head : Head) → lo ≤ p → IsPacket k p → HasBits job k lo p → old ≡ head_at k p → head ≡ changed change.Bit old → new ≡ with_head k p head → HasBits job new lo (p + 1)
set_more job k new lo p old head low is h o e n =
    subst (λ j. HasBits job j lo (p + 1)) (sym (n ∙ ap (with_head k p) (e ∙ ap with_bit o))) (bits_more job k lo p low is h)

pub same_count : (v w : JobValue) → SameButHeads (plan v) (plan w) → length w.packets ≡ length v.packets
same_count v w same = sym (packets_count w) ∙ sym (same_length (plan v).packets (plan w).packets (packets_same (plan v) (plan w) same)) ∙ packets_count v

-- ---- what runs of bits tell of single ones

reaches_itself : (s : Scope) → IsTrue (reaches s s)
reaches_itself scope.None = refl
reaches_itself scope.Agent = refl
reaches_itself scope.System = refl

wider_bit : (g : Head) → HeadRaises g (with_bit g)
wider_bit g = record { bit = λ _. refl; acquire = reaches_itself g.acquire; release = reaches_itself g.release }

same_head : (g h : Head) → h ≡ g → HeadRaises g h
same_head g h e = subst (HeadRaises g) (sym e) (record { bit = λ b. b; acquire = reaches_itself g.acquire; release = reaches_itself g.release })

-- the head of a packet whose bit is set in a run, or that is outside the run
in_run : (job k : Job) (lo hi r : ℕ) → HasBits job k lo hi → (head_at k r ≡ with_bit (head_at job r)) ⊎ (head_at k r ≡ head_at job r)
in_run job k lo hi r h = elim (cases_lt r lo) [
  | inl l ↦ inr (h.outside r (inl l))
  | inr a ↦ elim (cases_lt r hi) [
    | inl b ↦ inl (h.inside r (omega arith) b)
    | inr b ↦ inr (h.outside r (inr (omega arith)))
  ]
]

one_below : (job k : Job) (lo hi p : ℕ) → HasBits job k lo hi → IsPacket job p → lo ≤ p → p < hi → Raises (job_changed job p change.Bit) k
one_below job k lo hi p h is a b = record {
  same = sym (heads_are_set job p (with_bit (head_at job p)) is).same ∙ h.same;
  heads = λ r. elim (cases_eq r p) [
    | inl e ↦ subst (λ q. HeadRaises (head_at one q) (head_at k q)) (sym e) (same_head (head_at one p) (head_at k p) (h.inside p a b ∙ sym (head_here job p (with_bit (head_at job p)) is)))
    | inr n ↦
        let old = head_elsewhere job p (with_bit (head_at job p)) is r n in
        subst (λ g. HeadRaises g (head_at k r)) (sym old) (elim (in_run job k lo hi r h) [
          | inl e ↦ subst (HeadRaises (head_at job r)) (sym e) (wider_bit (head_at job r))
          | inr e ↦ same_head (head_at job r) (head_at k r) e
        ])
  ];
}
  where
    one : Job
    one = job_changed job p change.Bit

-- a run of one
one_alone : (job k : Job) (p : ℕ) → HasBits job k p (p + 1) → IsPacket job p → job_changed job p change.Bit ≡ k
one_alone job k p h is = same_by_heads one k (sym (heads_are_set job p (with_bit (head_at job p)) is).same ∙ h.same)
    (λ r _. elim (cases_eq r p) [
      | inl e ↦ subst (λ q. head_at one q ≡ head_at k q) (sym e) (head_here job p (with_bit (head_at job p)) is ∙ sym (h.inside p (omega arith) (omega arith)))
      | inr n ↦ head_elsewhere job p (with_bit (head_at job p)) is r n ∙ sym (h.outside r (elim (cases_lt r p) [ inl l ↦ inl l | inr m ↦ inr (omega arith) ]))
    ])
  where
    one : Job
    one = job_changed job p change.Bit

-- where all of a run together don't order them, none alone does
pub none_in : (job k : Job) (a b lo hi : ℕ) → HasBits job k lo hi → (¬ ShownOneWay k a b) → (p : ℕ) → ¬ BitOrders job a b lo hi p
none_in job k a b lo hi h not p o = not (one_way_up (job_changed job p change.Bit) k (one_below job k lo hi p h o.orders.is_packet o.above o.below) a b o.orders.orders)

-- ---- what is noted

pub noted_none : (job : Job) (a b lo hi : ℕ) (set : List ℕ) → ((p : ℕ) → ¬ BitOrders job a b lo hi p) → Noted job a b lo hi set set
noted_none job a b lo hi set never p = (λ t. inl t, λ s. elim s [ inl t ↦ t | inr o ↦ absurd (never p o) ])

pub noted_one : (job k : Job) (a b lo hi : ℕ) (old new : List ℕ) → hi ≡ lo + 1 → IsPacket job lo → HasBits job k lo hi → ShownOneWay k a b
    → ((x : ℕ) → has new x ≡ (has old x || (not (head_at job lo).barrier && x == lo))) → Noted job a b lo hi old new
noted_one job k a b lo hi old new e is h shown grows x =
    let or = or_cases (has old x) (not (head_at job lo).barrier && x == lo) in
    let and = and_both (not (head_at job lo).barrier) (x == lo) in
    let eq = eq_test x lo in (
      λ n. elim (or.0 (sym (grows x) ∙ n)) [
        | inl t ↦ inl t
        | inr t ↦
            let c = and.0 t in
            let here : x ≡ lo = eq.0 c.1 in
            inr (record {
              above = omega arith;
              below = omega arith;
              orders = subst (λ q. Orders job a b q change.Bit) (sym here)
                  (record { is_packet = is; raises = unset (head_at job lo).barrier c.0; orders = subst (λ j. ShownOneWay j a b) (sym (one_alone job k lo (subst (HasBits job k lo) e h) is)) shown });
            })
      ],
      λ s. grows x ∙ or.1 (elim s [
        | inl t ↦ inl t
        | inr o ↦
            let low = o.above in
            let high = o.below in
            let here : x ≡ lo = omega arith in
            inr (and.1 (clear (head_at job lo).barrier (subst (λ q. (head_at job q).barrier ≡ false) here o.orders.raises), eq.1 here))
      ]),
    )
  where
    unset : (o : Bool) → IsTrue (not o) → o ≡ false
    unset true t = sym t
    unset false t = refl

    clear : (o : Bool) → o ≡ false → IsTrue (not o)
    clear true f = sym f
    clear false f = refl

pub noted_both : (job : Job) (a b lo middle hi : ℕ) (old mid new : List ℕ) → lo ≤ middle → middle ≤ hi → Noted job a b lo middle old mid → Noted job a b middle hi mid new → Noted job a b lo hi old new
noted_both job a b lo middle hi old mid new first second g h p = (
  λ n. elim ((h p).0 n) [
    | inl m ↦ elim ((g p).0 m) [ inl t ↦ inl t | inr o ↦ let l = o.below in inr (record { above = o.above; below = omega arith; orders = o.orders }) ]
    | inr o ↦ let l = o.above in inr (record { above = omega arith; below = o.below; orders = o.orders })
  ],
  λ s. elim s [
    | inl t ↦ (h p).1 (inl ((g p).1 (inl t)))
    | inr o ↦ elim (cases_lt p middle) [
      | inl l ↦ (h p).1 (inl ((g p).1 (inr (record { above = o.above; below = l; orders = o.orders }))))
      | inr m ↦ (h p).1 (inr (record { above = omega arith; below = o.below; orders = o.orders }))
    ]
  ],
)

pub noted_all : (job : Job) (a b count : ℕ) (old new : List ℕ) → count ≡ length job.packets → ((p : ℕ) → has old p ≡ false) → Noted job a b 0 count old new → (p : ℕ) → IsTrue (has new p) ↔ Orders job a b p change.Bit
noted_all job a b count old new e none h p = (
  λ n. elim ((h p).0 n) [
    | inl t ↦ let never : true ≡ false = sym t ∙ none p in let no : ⊥ = cc in absurd no
    | inr o ↦ o.orders
  ],
  λ o. (h p).1 (inr (let is : p < length job.packets = o.is_packet in record { above = omega arith; below = omega arith; orders = o })),
)

pub noted_both_on : {A E : Type 0} (r : Result A E) (job : Job) (a b lo middle hi : ℕ) (old mid new : List ℕ) → lo ≤ middle → middle ≤ hi → Noted job a b lo middle old mid → OnOk r (Noted job a b middle hi mid new) → OnOk r (Noted job a b lo hi old new)
noted_both_on (Ok x) job a b lo middle hi old mid new first second g h = noted_both job a b lo middle hi old mid new first second g h
noted_both_on (Err e) job a b lo middle hi old mid new first second g h = tt
