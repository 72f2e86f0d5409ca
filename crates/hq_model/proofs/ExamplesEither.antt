-- A barrier-OR, and certificates with plain fences.
use Rattle.std.proofs.Common.{Contains, ◌≡◌, ℕ, zero, suc, ◌<◌, inl, [], ◌∷◌, refl, sym, ◌∙◌, subst, arith, Option, Some, None, slice_get}
use Rattle.std.proofs.lemmas.List.Elements.{All-nil, All-cons}
use Rattle.hq_model.specs.Job.{Job, packet, IsPacket}
use Rattle.hq_model.specs.Job.Kind.{BarrierOr}
use Rattle.hq_model.specs.Order.{Before, Branch, OrderList}
use Rattle.hq_model.specs.Order.Before.{by_queue, by_and, by_or, through}
use Rattle.hq_model.specs.Order.Branch.{after}
use Rattle.hq_model.specs.Fence.{Ordered, Shown, Conflict, Conflicts, Release, Acquire}
use Rattle.hq_model.specs.Fence.Conflict.{WriteRead, WriteWrite, ReadWrite}
use Rattle.hq_model.specs.Certificate.{Certificate, Line, Follows, LineHolds, LinesHold, HasPairs, PairHolds, CertHolds}
use Rattle.hq_model.specs.Certificate.Rule.{Bit, Queue, And, Or, Through}
use Rattle.hq_model.specs.Certificate.Fences.{ForWriteRead}
use Rattle.hq_model.specs.Examples.{fill_copy, fill_copy_certificate, either, either_certificate, free_branch}
use Rattle.hq_model.proofs.Orders.{ahead_of}
use Rattle.hq_model.proofs.Tested.{order_by_test, each_once_by_test}
use Rattle.hq_model.proofs.ExamplesFirst.{none_in}
use Rattle.hq_model.proofs.ExamplesMore.{some_same, none_some, or≢work, apart}

-- ---- what a barrier-OR orders

some_some : (x y : ℕ) → ◌≡◌ {A = Option (Option ℕ)} (Some (Some x)) (Some (Some y)) → x ≡ y
some_some x y e = cc

null_some : (s : ℕ) → ◌≡◌ {A = Option (Option ℕ)} (Some None) (Some (Some s)) → ⊥
null_some s e = cc

fill_first : Before either 0 1
fill_first = by_and {slot = 0} {s = 0} (record { kind = refl; dependency = record { is_packet = omega arith; signal = refl }; decrements = record { is_packet = omega arith; signal = refl } })

fill_second : Before either 0 2
fill_second = by_and {slot = 0} {s = 0} (record { kind = refl; dependency = record { is_packet = omega arith; signal = refl }; decrements = record { is_packet = omega arith; signal = refl } })

fill_either : Before either 0 3
fill_either = by_or (record { kind = refl; some = (0, 1, record { is_packet = omega arith; signal = refl }) }) (λ slot s w. branch slot s w.signal)
  where
    branch : (slot s : ℕ) → slice_get (Some 1 ∷ Some 2 ∷ None ∷ None ∷ None ∷ []) slot ≡ Some (Some s) → Branch either 0 s
    branch zero s e = subst (Branch either 0) (some_some 1 s e) (after {d = 1} (record { is_packet = omega arith; signal = refl }) fill_first)
    branch (suc zero) s e = subst (Branch either 0) (some_some 2 s e) (after {d = 2} (record { is_packet = omega arith; signal = refl }) fill_second)
    branch (suc (suc zero)) s e = absurd (null_some s e)
    branch (suc (suc (suc zero))) s e = absurd (null_some s e)
    branch (suc (suc (suc (suc zero)))) s e = absurd (null_some s e)
    branch (suc (suc (suc (suc (suc slot))))) s e = absurd (none_some (Some s) e)

either_copy : Before either 3 4
either_copy = by_queue (record { earlier = record { ahead = omega arith; is_packet = omega arith; same_queue = refl }; barrier = or≢work BarrierOr refl })

pub fill_before_copy : Before either 0 4
fill_before_copy = through fill_either either_copy

-- an order list with the copy ahead of the first barrier packet, and one with it ahead of the second
pub not_the_first : Before either 1 4 → ⊥
not_the_first h = omega (arith, ahead_of (0 ∷ 2 ∷ 3 ∷ 4 ∷ 1 ∷ []) (order_by_test either (0 ∷ 2 ∷ 3 ∷ 4 ∷ 1 ∷ []) refl (each_once_by_test either (0 ∷ 2 ∷ 3 ∷ 4 ∷ 1 ∷ []) refl refl refl) refl refl refl) h)

pub not_the_second : Before either 2 4 → ⊥
not_the_second h = omega (arith, ahead_of (0 ∷ 1 ∷ 3 ∷ 4 ∷ 2 ∷ []) (order_by_test either (0 ∷ 1 ∷ 3 ∷ 4 ∷ 2 ∷ []) refl (each_once_by_test either (0 ∷ 1 ∷ 3 ∷ 4 ∷ 2 ∷ []) refl refl refl) refl refl refl) h)

pub not_past_a_free_branch : Before free_branch 0 4 → ⊥
not_past_a_free_branch h =
    omega (arith, ahead_of (3 ∷ 4 ∷ 0 ∷ 1 ∷ 2 ∷ []) (order_by_test free_branch (3 ∷ 4 ∷ 0 ∷ 1 ∷ 2 ∷ []) refl (each_once_by_test free_branch (3 ∷ 4 ∷ 0 ∷ 1 ∷ 2 ∷ []) refl refl refl) refl refl refl) h)

-- ---- a packet that touches no byte conflicts with none

idle_first : (job : Job) (p r : ℕ) (kind : Conflict) → (packet job p).reads ≡ [] → (packet job p).writes ≡ [] → Conflicts job kind p r → ⊥
idle_first job p r WriteRead reads writes (b, i, j) = none_in b (subst (λ list. Contains list b) writes i)
idle_first job p r WriteWrite reads writes (b, i, j) = none_in b (subst (λ list. Contains list b) writes i)
idle_first job p r ReadWrite reads writes (b, i, j) = none_in b (subst (λ list. Contains list b) reads i)

idle_second : (job : Job) (p r : ℕ) (kind : Conflict) → (packet job r).reads ≡ [] → (packet job r).writes ≡ [] → Conflicts job kind p r → ⊥
idle_second job p r WriteRead reads writes (b, i, j) = none_in b (subst (λ list. Contains list b) reads j)
idle_second job p r WriteWrite reads writes (b, i, j) = none_in b (subst (λ list. Contains list b) writes j)
idle_second job p r ReadWrite reads writes (b, i, j) = none_in b (subst (λ list. Contains list b) writes j)

-- the fill and the copy are the only packets that do
touching : (P : ℕ → ℕ → Type 0) → P 0 4 → (p r : ℕ) (kind : Conflict) → p < r → IsPacket either r → Conflicts either kind p r → P p r
touching P h zero zero kind l there c = absurd (omega arith)
touching P h zero (suc zero) kind l there c = absurd (idle_second either 0 1 kind refl refl c)
touching P h zero (suc (suc zero)) kind l there c = absurd (idle_second either 0 2 kind refl refl c)
touching P h zero (suc (suc (suc zero))) kind l there c = absurd (idle_second either 0 3 kind refl refl c)
touching P h zero (suc (suc (suc (suc zero)))) kind l there c = h
touching P h zero (suc (suc (suc (suc (suc r))))) kind l there c = absurd (omega arith)
touching P h (suc zero) r kind l there c = absurd (idle_first either 1 r kind refl refl c)
touching P h (suc (suc zero)) r kind l there c = absurd (idle_first either 2 r kind refl refl c)
touching P h (suc (suc (suc zero))) r kind l there c = absurd (idle_first either 3 r kind refl refl c)
touching P h (suc (suc (suc (suc p)))) r kind l there c = absurd (omega arith)

pub either_order : OrderList either (0 ∷ 1 ∷ 2 ∷ 3 ∷ 4 ∷ [])
either_order = order_by_test either (0 ∷ 1 ∷ 2 ∷ 3 ∷ 4 ∷ []) refl (each_once_by_test either (0 ∷ 1 ∷ 2 ∷ 3 ∷ 4 ∷ []) refl refl refl) refl refl refl

pub either_ordered : Ordered either
either_ordered = record {
  list = 0 ∷ 1 ∷ 2 ∷ 3 ∷ 4 ∷ [];
  order = either_order;
  shown = λ p r kind l there c. inl (touching (Shown either) shown p r kind l there c);
}
  where
    shown : Shown either 0 4
    shown WriteRead c = (
      0,
      0,
      4,
      4,
      Release.alone refl (record { fence = record { is_packet = omega arith; queue = refl; scope_reaches = refl }; after = inl refl }),
      fill_before_copy,
      Acquire.alone refl (record { fence = record { is_packet = omega arith; queue = refl; scope_reaches = refl }; before = inl refl }),
    )
    shown WriteWrite (b, i, j) = absurd (apart b i j)
    shown ReadWrite (b, i, j) = absurd (none_in b i)

-- ---- certificates

by_line : (job : Job) (c : Certificate) (k : ℕ) (line : Line) → slice_get c.lines k ≡ Some line → Follows job c.lines k line.p line.r line.rule → LineHolds job c.lines k
by_line job c k line e f other is = subst (λ x. Follows job c.lines k x.p x.r x.rule) (some_same line other (sym e ∙ is)) f

either_lines : LinesHold either either_certificate.lines
either_lines zero = by_line either either_certificate 0 (record { p = 0; r = 1; rule = And 0 }) refl (0, record { kind = refl; dependency = record { is_packet = omega arith; signal = refl }; decrements = record { is_packet = omega arith; signal = refl } })
either_lines (suc zero) = by_line either either_certificate 1 (record { p = 0; r = 2; rule = And 0 }) refl (0, record { kind = refl; dependency = record { is_packet = omega arith; signal = refl }; decrements = record { is_packet = omega arith; signal = refl } })
either_lines (suc (suc zero)) = by_line either either_certificate 2 (record { p = 3; r = 4; rule = Queue }) refl (record { earlier = record { ahead = omega arith; is_packet = omega arith; same_queue = refl }; barrier = or≢work BarrierOr refl })
either_lines (suc (suc (suc zero))) = by_line either either_certificate 3 (record { p = 0; r = 3; rule = Or (Some 0 ∷ Some 1 ∷ []) }) refl (
  omega arith,
  refl,
  (
    (1, record { is_packet = omega arith; signal = refl }, record { lower = omega arith; line = record { p = 0; r = 1; rule = And 0 }; there = refl; first = refl; second = refl }),
    ((2, record { is_packet = omega arith; signal = refl }, record { lower = omega arith; line = record { p = 0; r = 2; rule = And 0 }; there = refl; first = refl; second = refl }), tt),
  ),
)
either_lines (suc (suc (suc (suc zero)))) = by_line either either_certificate 4 (record { p = 0; r = 4; rule = Through 3 2 }) refl (
  3,
  record { lower = omega arith; line = record { p = 0; r = 3; rule = Or (Some 0 ∷ Some 1 ∷ []) }; there = refl; first = refl; second = refl },
  record { lower = omega arith; line = record { p = 3; r = 4; rule = Queue }; there = refl; first = refl; second = refl },
)
either_lines (suc (suc (suc (suc (suc k))))) = λ line e. absurd (none_some line e)

pub either_certified : CertHolds either either_certificate
either_certified = record {
  order = either_order;
  lines = either_lines;
  conflicts = λ p r kind l there c. inl (touching (HasPairs either either_certificate.pairs) has p r kind l there c);
  pairs = All-cons (PairHolds either either_certificate.lines) (record { p = 0; r = 4; fences = ForWriteRead 0 4 None 4 None }) [] (
    omega arith,
    omega arith,
    (
      record { is_packet = omega arith; queue = refl; scope_reaches = refl },
      record { is_packet = omega arith; queue = refl; scope_reaches = refl },
      refl,
      record { lower = omega arith; line = record { p = 0; r = 4; rule = Through 3 2 }; there = refl; first = refl; second = refl },
      refl,
    ),
  ) (All-nil (PairHolds either either_certificate.lines));
}
  where
    has : HasPairs either either_certificate.pairs 0 4
    has WriteRead c = record { k = 0; pair = record { p = 0; r = 4; fences = ForWriteRead 0 4 None 4 None }; there = refl; is_for = record { first = refl; second = refl; kind_is = refl } }
    has WriteWrite (b, i, j) = absurd (apart b i j)
    has ReadWrite (b, i, j) = absurd (none_in b i)

pub fill_copy_certified : CertHolds fill_copy fill_copy_certificate
fill_copy_certified = record {
  order = order_by_test fill_copy (0 ∷ 1 ∷ []) refl (each_once_by_test fill_copy (0 ∷ 1 ∷ []) refl refl refl) refl refl refl;
  lines = lines;
  conflicts = λ p r kind l there c. inl (conflicts p r l there);
  pairs = All-cons (PairHolds fill_copy fill_copy_certificate.lines) (record { p = 0; r = 1; fences = ForWriteRead 0 1 None 0 None }) [] (
    omega arith,
    omega arith,
    (
      record { is_packet = omega arith; queue = refl; scope_reaches = refl },
      record { is_packet = omega arith; queue = refl; scope_reaches = refl },
      refl,
      record { lower = omega arith; line = record { p = 0; r = 1; rule = Bit 1 }; there = refl; first = refl; second = refl },
      refl,
    ),
  ) (All-nil (PairHolds fill_copy fill_copy_certificate.lines));
}
  where
    lines : LinesHold fill_copy fill_copy_certificate.lines
    lines zero = by_line fill_copy fill_copy_certificate 0 (record { p = 0; r = 1; rule = Bit 1 }) refl (record { earlier = record { ahead = omega arith; is_packet = omega arith; same_queue = refl }; bit = refl; upto = inl refl })
    lines (suc k) = λ line e. absurd (none_some line e)

    has : HasPairs fill_copy fill_copy_certificate.pairs 0 1
    has WriteRead c = record { k = 0; pair = record { p = 0; r = 1; fences = ForWriteRead 0 1 None 0 None }; there = refl; is_for = record { first = refl; second = refl; kind_is = refl } }
    has WriteWrite (b, i, j) = absurd (apart b i j)
    has ReadWrite (b, i, j) = absurd (none_in b i)

    conflicts : (p r : ℕ) → p < r → IsPacket fill_copy r → HasPairs fill_copy fill_copy_certificate.pairs p r
    conflicts zero (suc zero) l there = has
    conflicts p zero l there = absurd (omega arith)
    conflicts (suc p) (suc zero) l there = absurd (omega arith)
    conflicts p (suc (suc r)) l there = absurd (omega arith)
