-- More small jobs: which are ordered, and why others aren't.
use Rattle.std.proofs.Common.{Contains, ◌≡◌, ℕ, zero, suc, ◌<◌, ◌≤◌, ◌≢◌, ◌⊎◌, inl, inr, IsTrue, [], ◌∷◌, refl, sym, ◌∙◌, subst, arith, true, false, Some, None}
use Rattle.std.proofs.lemmas.Bool.{true≢false}
use Rattle.std.proofs.lemmas.List.Elements.{All-nil, All-cons}
use Rattle.hq_model.specs.Job.{Job, Kind, packet, IsPacket}
use Rattle.hq_packet.specs.Scopes.{reaches}
use Rattle.hq_model.specs.Job.Kind.{Work, BarrierAnd, BarrierOr}
use Rattle.hq_model.specs.Order.{Before, Ahead, OrderList}
use Rattle.hq_model.specs.Order.Before.{by_bit, by_queue, by_and, by_or, through}
use Rattle.hq_model.specs.Fence.{Ordered, Shown, ShownFor, Release, Acquire, Reason}
use Rattle.hq_model.specs.Fence.Conflict.{WriteRead, WriteWrite, ReadWrite}
use Rattle.hq_model.specs.Fence.Why.{Unordered, NotReleased, NotAcquired}
use Rattle.hq_model.specs.Examples.{without_bits, copy_fill, fence_between, two_agents, two_writers}
use Rattle.hq_model.proofs.Places.{place_of_packets, in_contained}
use Rattle.hq_model.proofs.Orders.{ahead_of}
use Rattle.hq_model.proofs.Tested.{order_by_test, each_once_by_test}
use Rattle.hq_model.proofs.ExamplesFirst.{four_below, none_in}
use Rattle.hq_packet.specs.declared.packet.Scope.TheVariants as scope

pub some_same : {X : Type 0} (x y : X) → Some x ≡ Some y → x ≡ y
some_same x y e = cc

pub none_some : {X : Type 0} (x : X) → None ≡ Some x → ⊥
none_some x e = cc

pub and≢work : (kind : Kind) → kind ≡ BarrierAnd → kind ≢ Work
and≢work kind e f = grind arith

pub or≢work : (kind : Kind) → kind ≡ BarrierOr → kind ≢ Work
or≢work kind e f = grind arith

work≢and : (kind : Kind) → kind ≡ Work → kind ≢ BarrierAnd
work≢and kind e f = grind arith

work≢or : (kind : Kind) → kind ≡ Work → kind ≢ BarrierOr
work≢or kind e f = grind arith

-- the first four bytes aren't among the next four
pub apart : (b : ℕ) → Contains (0 ∷ 1 ∷ 2 ∷ 3 ∷ []) b → Contains (4 ∷ 5 ∷ 6 ∷ 7 ∷ []) b → ⊥
apart b i j = omega (
  arith,
  place_of_packets (λ x. x < 4) (0 ∷ 1 ∷ 2 ∷ 3 ∷ []) b (four_below 4 0 1 2 3 (omega arith) (omega arith) (omega arith) (omega arith)) (in_contained (0 ∷ 1 ∷ 2 ∷ 3 ∷ []) b i),
  place_of_packets (λ x. 4 ≤ x) (4 ∷ 5 ∷ 6 ∷ 7 ∷ []) b (All-cons (λ x. 4 ≤ x) 4 (5 ∷ 6 ∷ 7 ∷ []) (omega arith) (All-cons (λ x. 4 ≤ x) 5 (6 ∷ 7 ∷ []) (omega arith) (All-cons (λ x. 4 ≤ x) 6 (7 ∷ []) (omega arith) (All-cons (λ x. 4 ≤ x) 7 [] (omega arith) (All-nil (λ x. 4 ≤ x)))))) (in_contained (4 ∷ 5 ∷ 6 ∷ 7 ∷ []) b j),
)

-- ---- without bits, and without barrier packets, nothing comes before

none_before : {job : Job} {p r : ℕ} → ((q : ℕ) → (packet job q).bit ≡ false) → ((q : ℕ) → (packet job q).kind ≡ Work) → Before job p r → ⊥
none_before bits kinds (by_bit {j = j} by) = true≢false (sym by.bit ∙ bits j)
none_before bits kinds (by_queue {p = p} by) = by.barrier (kinds p)
none_before {job = job} bits kinds (by_and {r = r} by) = work≢and (packet job r).kind (kinds r) by.kind
none_before {job = job} bits kinds (by_or {r = r} any h) = work≢or (packet job r).kind (kinds r) any.kind
none_before bits kinds (through f g) = none_before bits kinds f

pub no_bit : Reason without_bits 0 1 Unordered
no_bit h = none_before bits kinds h
  where
    bits : (q : ℕ) → (packet without_bits q).bit ≡ false
    bits zero = refl
    bits (suc zero) = refl
    bits (suc (suc q)) = refl

    kinds : (q : ℕ) → (packet without_bits q).kind ≡ Work
    kinds zero = refl
    kinds (suc zero) = refl
    kinds (suc (suc q)) = refl

-- ---- a copy, then a fill

copy_before_fill : Before copy_fill 0 1
copy_before_fill = by_bit (record { earlier = record { ahead = omega arith; is_packet = omega arith; same_queue = refl }; bit = refl; upto = inl refl })

pub copy_fill_ordered : Ordered copy_fill
copy_fill_ordered = record {
  list = 0 ∷ 1 ∷ [];
  order = order_by_test copy_fill (0 ∷ 1 ∷ []) refl (each_once_by_test copy_fill (0 ∷ 1 ∷ []) refl refl refl) refl refl refl;
  shown = λ p r kind l there c. inl (shown p r l there);
}
  where
    shown : (p r : ℕ) → p < r → IsPacket copy_fill r → Shown copy_fill p r
    shown zero (suc zero) l there WriteRead (b, i, j) = absurd (none_in b j)
    shown zero (suc zero) l there WriteWrite (b, i, j) = absurd (apart b j i)
    shown zero (suc zero) l there ReadWrite c = copy_before_fill
    shown p zero l there kind c = absurd (omega arith)
    shown (suc p) (suc zero) l there kind c = absurd (omega arith)
    shown p (suc (suc r)) l there kind c = absurd (omega arith)

-- ---- two agents

first_wait : Before two_agents 0 1
first_wait = by_and {slot = 0} {s = 0} (record { kind = refl; dependency = record { is_packet = omega arith; signal = refl }; decrements = record { is_packet = omega arith; signal = refl } })

wait_copy : Before two_agents 1 2
wait_copy = by_queue (record { earlier = record { ahead = omega arith; is_packet = omega arith; same_queue = refl }; barrier = and≢work BarrierAnd refl })

pub agents_apart : Reason two_agents 0 2 NotReleased
agents_apart = (through first_wait wait_copy, λ (x, x2, h, b). not_released x x2 h)
  where
    no_system : (x : ℕ) → reaches (packet two_agents x).release scope.System ≡ true → ⊥
    no_system zero e = true≢false (sym e)
    no_system (suc zero) e = true≢false (sym e)
    no_system (suc (suc zero)) e = true≢false (sym e)
    no_system (suc (suc (suc x))) e = true≢false (sym e)

    not_released : (x x2 : ℕ) → Release two_agents 0 2 x x2 → ⊥
    not_released x x2 (Release.alone e h) = no_system x h.fence.scope_reaches
    not_released x x2 (Release.chained n h b f) = no_system x2 f.system

first_wait_two : Before two_writers 0 1
first_wait_two = by_and {slot = 0} {s = 0} (record { kind = refl; dependency = record { is_packet = omega arith; signal = refl }; decrements = record { is_packet = omega arith; signal = refl } })

wait_fill : Before two_writers 1 2
wait_fill = by_queue (record { earlier = record { ahead = omega arith; is_packet = omega arith; same_queue = refl }; barrier = and≢work BarrierAnd refl })

pub no_release : Reason two_writers 0 2 NotReleased
no_release = (through first_wait_two wait_fill, λ (x, x2, h, b). not_released x x2 h)
  where
    -- the first queue has one packet, and that releases nothing
    none_there : (x : ℕ) → (packet two_writers x).queue ≡ 0 → x < 3 → IsTrue (reaches (packet two_writers x).release scope.Agent) → ⊥
    none_there zero q l e = true≢false (sym e)
    none_there (suc zero) q l e = omega (arith, q)
    none_there (suc (suc zero)) q l e = omega (arith, q)
    none_there (suc (suc (suc x))) q l e = omega arith

    none_alone : (x : ℕ) → (packet two_writers x).queue ≡ 0 → x < 3 → IsTrue (reaches (packet two_writers x).release scope.System) → ⊥
    none_alone zero q l e = true≢false (sym e)
    none_alone (suc zero) q l e = omega (arith, q)
    none_alone (suc (suc zero)) q l e = omega (arith, q)
    none_alone (suc (suc (suc x))) q l e = omega arith

    not_released : (x x2 : ℕ) → Release two_writers 0 2 x x2 → ⊥
    not_released x x2 (Release.alone e h) = none_alone x h.fence.queue h.fence.is_packet h.fence.scope_reaches
    not_released x x2 (Release.chained n h b f) = none_there x h.fence.queue h.fence.is_packet h.fence.scope_reaches

-- ---- one barrier packet with both fences

fence_order : OrderList fence_between (0 ∷ 1 ∷ 2 ∷ [])
fence_order = order_by_test fence_between (0 ∷ 1 ∷ 2 ∷ []) refl (each_once_by_test fence_between (0 ∷ 1 ∷ 2 ∷ []) refl refl refl) refl refl refl

pub one_fence_not_shown : ShownFor fence_between WriteRead 0 2 → ⊥
one_fence_not_shown (x, x2, y2, y, release, b, acquire) = not_both x2 y2 (releases x x2 release) (acquires y2 y acquire) (ahead_of (0 ∷ 1 ∷ 2 ∷ []) fence_order b)
  where
    -- the fill doesn't release, and the copy doesn't acquire
    not_first : (x : ℕ) → IsPacket fence_between x → IsTrue (reaches (packet fence_between x).release scope.Agent) → (x ≡ 1) ⊎ (x ≡ 2)
    not_first zero l e = absurd (true≢false (sym e))
    not_first (suc zero) l e = inl refl
    not_first (suc (suc zero)) l e = inr refl
    not_first (suc (suc (suc x))) l e = absurd (omega arith)

    not_last : (y : ℕ) → IsPacket fence_between y → IsTrue (reaches (packet fence_between y).acquire scope.Agent) → (y ≡ 0) ⊎ (y ≡ 1)
    not_last zero l e = inl refl
    not_last (suc zero) l e = inr refl
    not_last (suc (suc zero)) l e = absurd (true≢false (sym e))
    not_last (suc (suc (suc y))) l e = absurd (omega arith)

    agent≢system : scope.Agent ≡ scope.System → ⊥
    agent≢system e = cc

    releases : (x x2 : ℕ) → Release fence_between 0 2 x x2 → (x2 ≡ 1) ⊎ (x2 ≡ 2)
    releases x x2 (Release.alone e h) = subst (λ q. (q ≡ 1) ⊎ (q ≡ 2)) e (not_first x h.fence.is_packet h.fence.scope_reaches)
    releases x x2 (Release.chained n h b f) = absurd (agent≢system n)

    acquires : (y2 y : ℕ) → Acquire fence_between 0 2 y2 y → (y2 ≡ 0) ⊎ (y2 ≡ 1)
    acquires y2 y (Acquire.alone e h) = subst (λ q. (q ≡ 0) ⊎ (q ≡ 1)) (sym e) (not_last y h.fence.is_packet h.fence.scope_reaches)
    acquires y2 y (Acquire.chained n f b h) = absurd (agent≢system n)

    not_both : (x2 y2 : ℕ) → (x2 ≡ 1) ⊎ (x2 ≡ 2) → (y2 ≡ 0) ⊎ (y2 ≡ 1) → Ahead (0 ∷ 1 ∷ 2 ∷ []) x2 y2 → ⊥
    not_both x2 y2 (inl e) (inl f) a = omega (arith, subst (λ q. Ahead (0 ∷ 1 ∷ 2 ∷ []) 1 q) f (subst (λ q. Ahead (0 ∷ 1 ∷ 2 ∷ []) q y2) e a))
    not_both x2 y2 (inl e) (inr f) a = omega (arith, subst (λ q. Ahead (0 ∷ 1 ∷ 2 ∷ []) 1 q) f (subst (λ q. Ahead (0 ∷ 1 ∷ 2 ∷ []) q y2) e a))
    not_both x2 y2 (inr e) (inl f) a = omega (arith, subst (λ q. Ahead (0 ∷ 1 ∷ 2 ∷ []) 2 q) f (subst (λ q. Ahead (0 ∷ 1 ∷ 2 ∷ []) q y2) e a))
    not_both x2 y2 (inr e) (inr f) a = omega (arith, subst (λ q. Ahead (0 ∷ 1 ∷ 2 ∷ []) 2 q) f (subst (λ q. Ahead (0 ∷ 1 ∷ 2 ∷ []) q y2) e a))

pub one_fence : Reason fence_between 0 2 NotAcquired
one_fence = (
  through into out,
  (1, 1, Release.alone refl (record { fence = record { is_packet = omega arith; queue = refl; scope_reaches = refl }; after = inr into }), out),
  one_fence_not_shown,
)
  where
    into : Before fence_between 0 1
    into = by_bit (record { earlier = record { ahead = omega arith; is_packet = omega arith; same_queue = refl }; bit = refl; upto = inl refl })

    out : Before fence_between 1 2
    out = by_queue (record { earlier = record { ahead = omega arith; is_packet = omega arith; same_queue = refl }; barrier = and≢work BarrierAnd refl })
