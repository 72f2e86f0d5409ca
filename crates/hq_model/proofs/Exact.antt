-- What holds a packet back is exactly what every run completes before it; and where the order relation says just that.
use Rattle.std.proofs.Common.{◌≡◌, ℕ, zero, suc, ◌<◌, ◌≢◌, inl, inr, List, ◌∷◌, sym, subst, arith, false}
use Rattle.std.proofs.lemmas.Bool.{cases_eq}
use Rattle.hq_model.specs.Job.{Job, IsPacket, Decrements}
use Rattle.hq_model.specs.Order.{Before, Branch, In, Ahead, place}
use Rattle.hq_model.specs.Order.Before.{by_bit, by_queue, by_and, by_or, through}
use Rattle.hq_model.specs.Order.Branch.{itself, after}
use Rattle.hq_model.specs.Theorems.{Valid}
use Rattle.hq_model.specs.HoldsBack.{AlwaysBefore, NeedsOneOf, HoldsBack, FullOrderList, HoldsBackExact, FullOrderExact}
use Rattle.hq_model.specs.HoldsBack.NeedsOneOf.{for_bit, for_queue, for_and, for_or}
use Rattle.hq_model.proofs.Places.{in_rest}
use Rattle.hq_model.proofs.Orders.{ahead_of}
use Rattle.hq_model.proofs.Kept.{order_law}
use Rattle.hq_model.proofs.HeldBack.{held_back}
use Rattle.hq_model.proofs.WithoutIt.{held_or_free}

always_held : (job : Job) (p r : ℕ) → Valid job → job.rings ≡ false → IsPacket job r → p ≢ r → AlwaysBefore job p r → HoldsBack job p r
always_held job p r valid plain there apart always = elim (held_or_free job p valid plain r there apart) [
  | inl h ↦ h
  | inr (events, state, run, c, open_still) ↦ absurd (open_still (always events state run (inr c)))
]

pub holds_back_exact : HoldsBackExact
holds_back_exact job valid plain p r first second apart = (held_back job p r valid, always_held job p r valid plain second apart)

-- ---- where there is a full order list

module _ (job : Job) (list : List ℕ) (full : FullOrderList job list) (p : ℕ) (set : List ℕ) where
  -- x comes after p if all those of the set do that stand ahead of it
  follows_next : (x : ℕ) → NeedsOneOf job (p ∷ set) x → ((e : ℕ) → Ahead list e x → In set e → Before job p e) → Before job p x
  follows_next x needs later = go needs
    where
      past : (e : ℕ) → In (p ∷ set) e → Ahead list e x → Before job e x → Before job p x
      past e i ahead b = elim (cases_eq p e) [
        | inl is ↦ subst (λ q. Before job q x) (sym is) b
        | inr d ↦ through (later e ahead (in_rest p set e d i)) b
      ]

      branch : (s d : ℕ) → In (p ∷ set) d → Ahead list d x → Decrements job d s → Branch job p s
      branch s d i ahead f = elim (cases_eq p d) [
        | inl is ↦ itself (subst (λ q. Decrements job q s) (sym is) f)
        | inr apart ↦ after f (later d ahead (in_rest p set d apart i))
      ]

      go : NeedsOneOf job (p ∷ set) x → Before job p x
      go (for_bit e j by i) = past e i (ahead_of list full.order (by_bit by)) (by_bit by)
      go (for_queue e by i) = past e i (ahead_of list full.order (by_queue by)) (by_queue by)
      go (for_and d slot s by i) = past d i (ahead_of list full.order (by_and by)) (by_and by)
      go (for_or any each) = by_or any (λ place t v.
          let (d, f, i) = each place t v in
          branch t d i (full.branches x place t d any.kind v f) f)

  follows : ((x : ℕ) → In set x → NeedsOneOf job (p ∷ set) x) → (k x : ℕ) → place list x < k → In set x → Before job p x
  follows needs zero x l i = absurd (omega (arith, l))
  follows needs (suc k) x l i = follows_next x (needs x i) (λ e ahead j. follows needs k e (omega (arith, l, ahead)) j)

pub full_order_exact : FullOrderExact
full_order_exact job list valid plain full p r first second apart = (
  λ b events state run begun. order_law job events state valid run p r b begun,
  λ always.
      let held = always_held job p r valid plain second apart always in
      follows job list full p held.set held.needs (suc (place list r)) r (omega arith) held.member,
)
