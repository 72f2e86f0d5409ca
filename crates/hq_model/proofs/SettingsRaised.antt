-- What raising heads brings.
use Rattle.std.proofs.Common.{◌≡◌, ℕ, ◌⊎◌, inl, inr, IsTrue, refl, sym, ◌∙◌, subst, List, slice_index_or}
use Rattle.hq_packet.specs.declared.packet.Scope.{Scope}
use Rattle.hq_packet.specs.declared.packet.Scope.TheVariants as scope
use Rattle.hq_model.specs.Job.{Job, Packet, packet, no_packet}
use Rattle.hq_packet.specs.Scopes.{reaches}
use Rattle.hq_model.specs.Order.{Before, Branch}
use Rattle.hq_model.specs.Order.Before.{by_bit, by_queue, by_and, by_or, through}
use Rattle.hq_model.specs.Order.Branch.{itself, after}
use Rattle.hq_model.specs.Fence.{Conflict, FenceReaches, SameOrBefore, Releases, Acquires, Forwards, Release, Acquire, ShownFor, Shown, Ordered, need}
use Rattle.hq_model.specs.Fence.Conflict.{WriteRead, WriteWrite, ReadWrite}
use Rattle.hq_model.specs.Settings.{head_of, HeadRaises, Raises, RaisingOrders, RaisingShows, RaisedIsOrdered, RefusedStaysRefused}
use Rattle.hq_model.proofs.SettingsKept.{SamePackets, with_packets, packets_same, other_is, queue_kept, is_packet_kept, agent_kept, dependency_kept, decrements_kept, bit_kept, queue_rule_kept, and_kept, any_kept, conflicts_kept, need_kept, order_list_kept}

pub reaches_on : (a b c : Scope) → IsTrue (reaches a b) → IsTrue (reaches b c) → IsTrue (reaches a c)
reaches_on a b scope.None f g = refl
reaches_on scope.System b scope.Agent f g = refl
reaches_on scope.System b scope.System f g = refl
reaches_on scope.Agent b scope.Agent f g = refl
reaches_on scope.Agent scope.None scope.System f g = g
reaches_on scope.Agent scope.Agent scope.System f g = g
reaches_on scope.Agent scope.System scope.System f g = f
reaches_on scope.None scope.None c f g = g
reaches_on scope.None scope.Agent scope.Agent f g = f
reaches_on scope.None scope.Agent scope.System f g = f
reaches_on scope.None scope.System scope.Agent f g = f
reaches_on scope.None scope.System scope.System f g = f

-- ---- over a job and the same with other heads

-- each head of the first is at or below that of the second
abbrev pub RaisesPackets : List Packet → List Packet → Type 0
RaisesPackets xs ys = (p : ℕ) → HeadRaises (head_of (slice_index_or xs p no_packet)) (head_of (slice_index_or ys p no_packet))

mutual
  pub before_raised : {p r : ℕ} → (job : Job) (ps : List Packet) → SamePackets job.packets ps → RaisesPackets job.packets ps → Before job p r → Before (with_packets job ps) p r
  before_raised job ps same up (by_bit {p = p} {r = r} {j = j} by) = by_bit (bit_kept job ps same p r j (up j).bit by)
  before_raised job ps same up (by_queue {p = p} {r = r} by) = by_queue (queue_rule_kept job ps same p r by)
  before_raised job ps same up (by_and {p = p} {r = r} {slot = slot} {s = s} by) = by_and (and_kept job ps same p r slot s by)
  before_raised job ps same up (by_or {p = p} {r = r} any h) =
      by_or (any_kept job ps same r any)
      (λ slot s w. branch_raised job ps same up (h slot s (dependency_kept (with_packets job ps) job.packets (sym same) r slot s w)))
  before_raised job ps same up (through {p = p} {m = m} {r = r} f g) = through (before_raised job ps same up f) (before_raised job ps same up g)

  pub branch_raised : {p s : ℕ} → (job : Job) (ps : List Packet) → SamePackets job.packets ps → RaisesPackets job.packets ps → Branch job p s → Branch (with_packets job ps) p s
  branch_raised job ps same up (itself {p = p} {s = s} d) = itself (decrements_kept job ps same p s d)
  branch_raised job ps same up (after {p = p} {d = d} {s = s} f g) = after (decrements_kept job ps same d s f) (before_raised job ps same up g)

module _ (job : Job) (ps : List Packet) (same : SamePackets job.packets ps) (up : RaisesPackets job.packets ps) where
  or_before : (p r : ℕ) → SameOrBefore job p r → SameOrBefore (with_packets job ps) p r
  or_before p r (inl e) = inl e
  or_before p r (inr b) = inr (before_raised job ps same up b)

  in_queue : (p r : ℕ) → (packet job p).queue ≡ (packet job r).queue → (packet (with_packets job ps) p).queue ≡ (packet (with_packets job ps) r).queue
  in_queue p r e = sym (queue_kept job ps same p) ∙ e ∙ queue_kept job ps same r

  fence_raised : (p x : ℕ) (low high needed : Scope) → IsTrue (reaches high low) → FenceReaches job p x low needed → FenceReaches (with_packets job ps) p x high needed
  fence_raised p x low high needed up h = record {
    is_packet = is_packet_kept job ps same x h.is_packet;
    queue = in_queue x p h.queue;
    scope_reaches = reaches_on high low needed up h.scope_reaches;
  }

  releases : (p x : ℕ) (needed : Scope) → Releases job p x needed → Releases (with_packets job ps) p x needed
  releases p x needed h = record {
    fence = fence_raised p x (packet job x).release (packet (with_packets job ps) x).release needed (up x).release h.fence;
    after = or_before p x h.after;
  }

  acquires : (r y : ℕ) (needed : Scope) → Acquires job r y needed → Acquires (with_packets job ps) r y needed
  acquires r y needed h = record {
    fence = fence_raised r y (packet job y).acquire (packet (with_packets job ps) y).acquire needed (up y).acquire h.fence;
    before = or_before y r h.before;
  }

  forwards : (p m : ℕ) (low high : Scope) → IsTrue (reaches high low) → Forwards job p m low → Forwards (with_packets job ps) p m high
  forwards p m low high reach h = record {
    is_packet = is_packet_kept job ps same m h.is_packet;
    agent = sym (agent_kept job ps same m) ∙ h.agent ∙ agent_kept job ps same p;
    system = reaches_on high low scope.System reach h.system;
  }

  pub release_raised : (p r x x2 : ℕ) → Release job p r x x2 → Release (with_packets job ps) p r x x2
  release_raised p r x x2 (Release.alone e h) = Release.alone e (subst (Releases (with_packets job ps) p x) (need_kept job ps same p r) (releases p x (need job p r) h))
  release_raised p r x x2 (Release.chained n h b f) =
      Release.chained (sym (need_kept job ps same p r) ∙ n) (releases p x scope.Agent h) (before_raised job ps same up b)
      (forwards p x2 (packet job x2).release (packet (with_packets job ps) x2).release (up x2).release f)

  pub acquire_raised : (p r y2 y : ℕ) → Acquire job p r y2 y → Acquire (with_packets job ps) p r y2 y
  acquire_raised p r y2 y (Acquire.alone e h) = Acquire.alone e (subst (Acquires (with_packets job ps) r y) (need_kept job ps same p r) (acquires r y (need job p r) h))
  acquire_raised p r y2 y (Acquire.chained n f b h) =
      Acquire.chained (sym (need_kept job ps same p r) ∙ n) (forwards r y2 (packet job y2).acquire (packet (with_packets job ps) y2).acquire (up y2).acquire f)
      (before_raised job ps same up b) (acquires r y scope.Agent h)

  pub shown_for_raised : (kind : Conflict) (p r : ℕ) → ShownFor job kind p r → ShownFor (with_packets job ps) kind p r
  shown_for_raised ReadWrite p r b = before_raised job ps same up b
  shown_for_raised WriteWrite p r (x, x2, h, b) = (x, x2, release_raised p r x x2 h, before_raised job ps same up b)
  shown_for_raised WriteRead p r (x, x2, y2, y, h, b, a) = (x, x2, y2, y, release_raised p r x x2 h, before_raised job ps same up b, acquire_raised p r y2 y a)

  shown_raised : (p r : ℕ) → Shown job p r → Shown (with_packets job ps) p r
  shown_raised p r h kind c = shown_for_raised kind p r (h kind (conflicts_kept (with_packets job ps) job.packets (sym same) kind p r c))

  pub ordered_raised : Ordered job → Ordered (with_packets job ps)
  ordered_raised o = record {
    list = o.list;
    order = order_list_kept job ps same o.list o.order;
    shown = λ p r kind l is c. either p r (o.shown p r kind l (is_packet_kept (with_packets job ps) job.packets (sym same) r is) (conflicts_kept (with_packets job ps) job.packets (sym same) kind p r c));
  }
    where
      either : (p r : ℕ) → Shown job p r ⊎ Shown job r p → Shown (with_packets job ps) p r ⊎ Shown (with_packets job ps) r p
      either p r (inl h) = inl (shown_raised p r h)
      either p r (inr h) = inr (shown_raised r p h)

-- ---- over two jobs

pub to_higher : (P : Job → Type 0) (j k : Job) → Raises j k → ((ps : List Packet) → SamePackets j.packets ps → RaisesPackets j.packets ps → P j → P (with_packets j ps)) → P j → P k
to_higher P j k h step x = subst P (other_is j k h.same) (step k.packets (packets_same j k h.same) h.heads x)

pub raising_orders : RaisingOrders
raising_orders j k p r h b = to_higher (λ x. Before x p r) j k h (λ ps same up. before_raised j ps same up) b

pub raising_shows : RaisingShows
raising_shows j k p r h = record {
  release = λ x x2 f. to_higher (λ m. Release m p r x x2) j k h (λ ps same up. release_raised j ps same up p r x x2) f;
  acquire = λ y2 y f. to_higher (λ m. Acquire m p r y2 y) j k h (λ ps same up. acquire_raised j ps same up p r y2 y) f;
  shown = λ kind f. to_higher (λ m. ShownFor m kind p r) j k h (λ ps same up. shown_for_raised j ps same up kind p r) f;
}

pub raised_is_ordered : RaisedIsOrdered
raised_is_ordered j k h o = to_higher Ordered j k h (λ ps same up. ordered_raised j ps same up) o

pub refused_stays_refused : RefusedStaysRefused
refused_stays_refused j k h none o = none (raised_is_ordered j k h o)
