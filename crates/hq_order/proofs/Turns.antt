-- One round.
use Rattle.std.proofs.Common.{◌≡◌, ◌↔◌, ℕ, ◌*◌, ◌/◌, ◌<◌, ◌≤◌, ◌⊎◌, inl, inr, List, length, refl, sym, ◌∙◌, subst, arith, IsTrue, Some, slice_get}
use Rattle.std.specs.Global.{Vec}
use Rattle.hq_tables.specs.declared.rows.Placed.{Placed}
use Rattle.hq_tables.specs.Kinds.{kind_of}
use Rattle.hq_model.specs.Job.{Job, Decrements}
use Rattle.hq_model.specs.Job.Kind.{BarrierOr}
use Rattle.hq_model.specs.Theorems.{Valid}
use Rattle.hq_bits.specs.Bits.{has}
use Rattle.hq_rows.specs.Matrix.{row, Marks, Square}
use Rattle.hq_rows.specs.Lists.{AllAre}
use Rattle.hq_waits.specs.Waits.{Completing}
use Rattle.hq_order.specs.Rounds.{Reaches, ByOr, Next, Awaits}
use Rattle.hq_order.specs.Rounds.Next.{by_known, by_either, through}
use Rattle.hq_order.proofs.Single.{Shows, slot_of, dependency, kind_is, awaits_or}
use Rattle.hq_rows.proofs.Lists.{all_rows}
use Rattle.hq_rows.proofs.Rows.{marked_below}
use Rattle.hq_rows.specs.Uniting.{Through, Stepped}
use Rattle.hq_bits.proofs.Words.{within}

pub reach_within : (job : Job) (rows : List (Vec ℕ)) (words p s : ℕ) → Square (length job.packets) words rows → Reaches job (Marks rows) p s → p / 64 < words
reach_within job rows words p s sq x = elim x.upto [
  | inl same ↦ let l : x.d < length job.packets = x.decrements.is_packet in omega (arith, same, sq.room)
  | inr m ↦ let l : x.d < length job.packets = x.decrements.is_packet in omega (arith, within (row rows x.d) p m, sq.width x.d l)
]

pub either_exact : (job : Job) (rows : List (Vec ℕ)) (words p r : ℕ) (placed : Placed) (Full Shared : Type 0) → Shows job r placed → Valid job → kind_of placed.packet ≡ BarrierOr → Square (length job.packets) words rows → Full ↔ p / 64 < words → Shared ↔ (Full × ((slot s : ℕ) → slice_get placed.slots slot ≡ Some (Some s) → Reaches job (Marks rows) p s)) → Shared ↔ ByOr job (Marks rows) p r
either_exact job rows words p r placed Full Shared w v k sq f h =
    let kind = kind_is job r placed w ∙ k in (
      λ t. record { any = record { kind = kind; some = v.not_null r w.is_packet kind }; each = λ slot s d. (h.0 t).1 slot s (slot_of job r slot s placed w d) },
      λ e. h.1 (
        f.1 (let some = e.any.some in reach_within job rows words p some.1 sq (e.each some.0 some.1 some.2)),
        λ slot s there. e.each slot s (dependency job r slot s placed w there),
      ),
    )

pub next_exact : (job : Job) (rows : List (Vec ℕ)) (known : List ℕ) (p r : ℕ) (A B : Type 0) → known ≡ row rows r → A ↔ (Marks rows p r ⊎ ((m : ℕ) × Marks rows p m × IsTrue (has known m))) → B ↔ (A ⊎ ByOr job (Marks rows) p r) → B ↔ Next job (Marks rows) p r
next_exact job rows known p r A B same h g = (
  λ b. elim (g.0 b) [
    | inl a ↦ elim (h.0 a) [
      | inl m ↦ by_known m
      | inr x ↦ through {m = x.0} x.1 (subst (λ k. IsTrue (has k x.0)) same x.2)
    ]
    | inr e ↦ by_either e
  ],
  λ n. back n,
)
  where
    back : Next job (Marks rows) p r → B
    back (by_known m) = g.1 (inl (h.1 (inl m)))
    back (by_either e) = g.1 (inr e)
    back (through {m} x y) = g.1 (inl (h.1 (inr (m, x, subst (λ k. IsTrue (has k m)) (sym same) y))))

-- a set of those that complete on a signal, with all before them
pub reaches_set : (job : Job) (rows : List (Vec ℕ)) (set : List ℕ) (p s : ℕ) (A : Type 0) → Completing job s set → A ↔ (IsTrue (has set p) ⊎ ((m : ℕ) × Marks rows p m × IsTrue (has set m))) → A ↔ Reaches job (Marks rows) p s
reaches_set job rows set p s A c h = (
  λ a. elim (h.0 a) [
    | inl there ↦ record { d = p; decrements = (c.are p).0 there; upto = inl refl }
    | inr k ↦ record { d = k.0; decrements = (c.are k.0).0 k.2; upto = inr k.1 }
  ],
  λ x. h.1 (elim x.upto [
    | inl same ↦ inl ((c.are p).1 (subst (λ q. Decrements job q s) (sym same) x.decrements))
    | inr m ↦ inr (x.d, m, (c.are x.d).1 x.decrements)
  ]),
)

-- a barrier-OR waits for all that complete on each of its dependencies
pub awaits_shared :
    (job : Job) (completing : List (Vec ℕ)) (words p r : ℕ) (placed : Placed) (Full Shared : Type 0)
    → Shows job r placed → Valid job → kind_of placed.packet ≡ BarrierOr → length job.packets ≤ words * 64
    → AllAre (λ s set. Completing job s set.items × (length set.items ≡ words)) completing
    → ((slot s : ℕ) → slice_get placed.slots slot ≡ Some (Some s) → s < length completing)
    → Full ↔ p / 64 < words → Shared ↔ (Full × ((slot s : ℕ) → slice_get placed.slots slot ≡ Some (Some s) → Marks completing p s))
    → Shared ↔ Awaits job p r
awaits_shared job completing words p r placed Full Shared w v k room all low f h =
    let kind = kind_is job r placed w ∙ k in
    let (slot, s, d) = v.not_null r w.is_packet kind in
    let e = awaits_or job p r (record { kind = kind; some = (slot, s, d) }) in
    let set : (slot s : ℕ) → slice_get placed.slots slot ≡ Some (Some s) → Completing job s (row completing s) = λ slot s there. (all_rows (λ s items. Completing job s items × (length items ≡ words)) completing s all (low slot s there)).0 in (
      λ t. e.0 (λ slot s g. let there = slot_of job r slot s placed w g in ((set slot s there).are p).0 ((h.0 t).1 slot s there)),
      λ a. h.1 (
        f.1 (let is : p < length job.packets = (e.1 a slot s d).is_packet in omega arith),
        λ slot s there. ((set slot s there).are p).1 (e.1 a slot s (dependency job r slot s placed w there)),
      ),
    )

-- a round notes those whose rows have more than two of the rows before give
pub stepped_next : (job : Job) (rows new : List (Vec ℕ)) (renewed : List ℕ) → ((p r : ℕ) → Marks new p r ↔ Next job (Marks rows) p r) → ((p m : ℕ) → m < length new → Marks new p m → IsTrue (has renewed m) ⊎ Through rows p m) → Stepped rows new renewed
stepped_next job rows new renewed exact rests = record {
  known = λ p r k. (exact p r).1 (by_known k);
  joined = λ p m r k l. (exact p r).1 (through {m = m} k l);
  rests = λ p m k. rests p m (marked_below new p m k) k;
}
