-- What is the same of two jobs that differ in nothing but heads.
use Rattle.std.proofs.Common.{◌≡◌, ◌≢◌, ℕ, ◌<◌, ◌≤◌, inl, inr, IsTrue, Bool, cond, eqb, ◌==◌, ltb, List, [], ◌∷◌, length, map, take, fold, refl, sym, ◌∙◌, ap, subst, arith, slice_get, slice_index, slice_index_or, All, AllPairs, count_by}
use Rattle.std.proofs.Math.ListN.{get_or-map}
use Rattle.std.proofs.lemmas.List.{length-map, take-map}
use Rattle.std.proofs.lemmas.List.Elements.{All-weaker}
use Rattle.std.proofs.lemmas.List.Sums.{sum_by-cons}
use Rattle.hq_packet.specs.declared.packet.Scope.TheVariants as scope
use Rattle.hq_footprint.specs.Tasks.{result_of}
use Rattle.hq_model.specs.Job.{Job, Packet, packet, IsPacket, no_packet, Earlier, Dependency, Decrements, IsBarrier, Frees, agent_of, place_in_queue, size_of, decrementers, completes_on}
use Rattle.hq_model.specs.Order.{ByBit, ByQueue, ByAnd, AwaitsAny, OrderList, StuckSet, Blocked, FreesFor, EachOnce, place}
use Rattle.hq_model.specs.Order.Blocked.{by_earlier, by_slot, by_dependency, by_each}
use Rattle.hq_model.specs.Machine.{IsByte}
use Rattle.hq_footprint.specs.Bytes.{Share}
use Rattle.hq_model.specs.Fence.{Conflict, Conflicts, need}
use Rattle.hq_model.specs.Fence.Conflict.{WriteRead, WriteWrite, ReadWrite}
use Rattle.hq_model.specs.OneByOne.{after, one_by_one, given}
use Rattle.hq_model.specs.Theorems.{Valid}
use Rattle.hq_model.specs.Settings.{packet_with_head, no_head, SameButHeads, HeadsLeaveLists, HeadsLeaveConflicts, HeadsLeaveValid, HeadsLeaveResults}

-- ---- lists of packets that are the same without heads

abbrev pub bare : Packet → Packet
bare e = packet_with_head e no_head

abbrev pub SamePackets : List Packet → List Packet → Type 0
SamePackets xs ys = map bare xs ≡ map bare ys

pub same_at : (xs ys : List Packet) → SamePackets xs ys → (p : ℕ) → bare (slice_index_or xs p no_packet) ≡ bare (slice_index_or ys p no_packet)
same_at xs ys same p = sym (get_or-map bare xs p no_packet) ∙ ap (λ zs. slice_index_or zs p no_packet) same ∙ get_or-map bare ys p no_packet

pub same_length : (xs ys : List Packet) → SamePackets xs ys → length xs ≡ length ys
same_length xs ys same = sym (length-map xs bare) ∙ ap length same ∙ length-map ys bare

same_taken : (xs ys : List Packet) → SamePackets xs ys → (n : ℕ) → SamePackets (take n xs) (take n ys)
same_taken xs ys same n = sym (take-map bare n xs) ∙ ap (take n) same ∙ take-map bare n ys

count_map : {X Y : Type 0} (test : Y → Bool) (f : X → Y) (xs : List X) → count_by test (map f xs) ≡ count_by (λ x. test (f x)) xs
count_map test f [] = refl
count_map test f (x ∷ xs) = omega (arith, count_map test f xs, sum_by-cons (λ y. cond {A = ℕ} (test y) 1 0) (f x) (map f xs), sum_by-cons (λ y. cond {A = ℕ} (test (f y)) 1 0) x xs)

-- as many pass a test that sees no head
same_count : (test : Packet → Bool) (xs ys : List Packet) → SamePackets xs ys → count_by (λ e. test (bare e)) xs ≡ count_by (λ e. test (bare e)) ys
same_count test xs ys same = sym (count_map test bare xs) ∙ ap (count_by test) same ∙ count_map test bare ys

-- ---- a job and the same with other heads

abbrev pub with_packets : Job → List Packet → Job
with_packets job ps = record job { packets = ps }

module _ (job : Job) (ps : List Packet) (same : SamePackets job.packets ps) where
  pub queue_kept : (p : ℕ) → (packet job p).queue ≡ (packet (with_packets job ps) p).queue
  queue_kept p = ap (λ (e : Packet). e.queue) (same_at job.packets ps same p)

  pub kind_kept : (p : ℕ) → (packet job p).kind ≡ (packet (with_packets job ps) p).kind
  kind_kept p = ap (λ (e : Packet). e.kind) (same_at job.packets ps same p)

  pub reads_kept : (p : ℕ) → (packet job p).reads ≡ (packet (with_packets job ps) p).reads
  reads_kept p = ap (λ (e : Packet). e.reads) (same_at job.packets ps same p)

  pub writes_kept : (p : ℕ) → (packet job p).writes ≡ (packet (with_packets job ps) p).writes
  writes_kept p = ap (λ (e : Packet). e.writes) (same_at job.packets ps same p)

  deps_kept : (p : ℕ) → (packet job p).deps ≡ (packet (with_packets job ps) p).deps
  deps_kept p = ap (λ (e : Packet). e.deps) (same_at job.packets ps same p)

  done_kept : (p : ℕ) → (packet job p).done ≡ (packet (with_packets job ps) p).done
  done_kept p = ap (λ (e : Packet). e.done) (same_at job.packets ps same p)

  pub is_packet_kept : (p : ℕ) → IsPacket job p → IsPacket (with_packets job ps) p
  is_packet_kept p l = omega (arith, l, same_length job.packets ps same)

  pub agent_kept : (p : ℕ) → agent_of job p ≡ agent_of (with_packets job ps) p
  agent_kept p = ap (slice_index job.queues) (queue_kept p)

  pub earlier_kept : (p r : ℕ) → Earlier job p r → Earlier (with_packets job ps) p r
  earlier_kept p r e = record { ahead = e.ahead; is_packet = is_packet_kept r e.is_packet; same_queue = sym (queue_kept p) ∙ e.same_queue ∙ queue_kept r }

  pub dependency_kept : (r slot s : ℕ) → Dependency job r slot s → Dependency (with_packets job ps) r slot s
  dependency_kept r slot s w = record { is_packet = is_packet_kept r w.is_packet; signal = ap (λ d. slice_get d slot) (sym (deps_kept r)) ∙ w.signal }

  pub decrements_kept : (p s : ℕ) → Decrements job p s → Decrements (with_packets job ps) p s
  decrements_kept p s d = record { is_packet = is_packet_kept p d.is_packet; signal = sym (done_kept p) ∙ d.signal }

  pub barrier_kept : (p : ℕ) → IsBarrier job p → IsBarrier (with_packets job ps) p
  barrier_kept p b e = b (kind_kept p ∙ e)

  -- what the rules ask

  pub bit_kept : (p r j : ℕ) → (IsTrue (packet job j).bit → IsTrue (packet (with_packets job ps) j).bit) → ByBit job p r j → ByBit (with_packets job ps) p r j
  bit_kept p r j bit by = record {
    earlier = earlier_kept p j by.earlier;
    bit = bit by.bit;
    upto = elim by.upto [ inl is ↦ inl is | inr f ↦ inr (earlier_kept j r f) ];
  }

  pub queue_rule_kept : (p r : ℕ) → ByQueue job p r → ByQueue (with_packets job ps) p r
  queue_rule_kept p r by = record { earlier = earlier_kept p r by.earlier; barrier = barrier_kept p by.barrier }

  pub and_kept : (p r slot s : ℕ) → ByAnd job p r slot s → ByAnd (with_packets job ps) p r slot s
  and_kept p r slot s by = record {
    kind = sym (kind_kept r) ∙ by.kind;
    dependency = dependency_kept r slot s by.dependency;
    decrements = decrements_kept p s by.decrements;
  }

  pub any_kept : (r : ℕ) → AwaitsAny job r → AwaitsAny (with_packets job ps) r
  any_kept r any = let (slot, s, w) = any.some in record { kind = sym (kind_kept r) ∙ any.kind; some = (slot, s, dependency_kept r slot s w) }

  place_in_queue_kept : (p : ℕ) → place_in_queue job p ≡ place_in_queue (with_packets job ps) p
  place_in_queue_kept p =
      ap (λ q. count_by (λ (e : Packet). e.queue == q) (take p job.packets)) (queue_kept p)
      ∙ same_count (λ (e : Packet). e.queue == (packet (with_packets job ps) p).queue) (take p job.packets) (take p ps) (same_taken job.packets ps same p)

  size_kept : (p : ℕ) → size_of job p ≡ size_of (with_packets job ps) p
  size_kept p = ap (slice_index job.sizes) (queue_kept p)

  frees_kept : (p r : ℕ) → Frees job p r → Frees (with_packets job ps) p r
  frees_kept p r f = record { rings = f.rings; earlier = earlier_kept p r f.earlier; apart = omega (arith, f.apart, place_in_queue_kept p, place_in_queue_kept r, size_kept r) }

  frees_for_kept : (p r : ℕ) → FreesFor job p r → FreesFor (with_packets job ps) p r
  frees_for_kept p r f = record { is_packet = is_packet_kept r f.is_packet; m = f.m; upto = f.upto; frees = frees_kept p f.m f.frees }

  packets_kept : (list : List ℕ) → All (λ p. IsPacket job p) list → All (λ p. IsPacket (with_packets job ps) p) list
  packets_kept list all = All-weaker (λ p. IsPacket job p) (λ p. IsPacket (with_packets job ps) p) is_packet_kept list all

  pub conflicts_kept : (kind : Conflict) (p r : ℕ) → Conflicts job kind p r → Conflicts (with_packets job ps) kind p r
  conflicts_kept WriteRead p r h = subst (λ bs. Share bs (packet (with_packets job ps) r).reads) (writes_kept p) (subst (Share (packet job p).writes) (reads_kept r) h)
  conflicts_kept WriteWrite p r h = subst (λ bs. Share bs (packet (with_packets job ps) r).writes) (writes_kept p) (subst (Share (packet job p).writes) (writes_kept r) h)
  conflicts_kept ReadWrite p r h = subst (λ bs. Share bs (packet (with_packets job ps) r).writes) (reads_kept p) (subst (Share (packet job p).reads) (writes_kept r) h)

  pub need_kept : (p r : ℕ) → need job p r ≡ need (with_packets job ps) p r
  need_kept p r =
      ap (λ a. cond (eqb a (agent_of job r)) scope.Agent scope.System) (agent_kept p)
      ∙ ap (λ a. cond (eqb (agent_of (with_packets job ps) p) a) scope.Agent scope.System) (agent_kept r)

  decrementers_kept : (s : ℕ) → decrementers job s ≡ decrementers (with_packets job ps) s
  decrementers_kept s = same_count (completes_on s) job.packets ps same

  after_kept : after job ≡ after (with_packets job ps)
  after_kept = λ i memory p b. same_after memory p b i
    where
      result : (ℕ → ℕ) → Packet → ℕ → ℕ
      result memory e b = cond (ltb (place e.writes b) (length e.writes)) (slice_index (result_of e.task (length e.writes) (map memory e.reads)) (place e.writes b)) (memory b)

      same_after : (memory : ℕ → ℕ) (p b : ℕ) → after job memory p b ≡ after (with_packets job ps) memory p b
      same_after memory p b = ap (λ e. result memory e b) (same_at job.packets ps same p)

  pub results_kept : (list : List ℕ) → one_by_one job list ≡ one_by_one (with_packets job ps) list
  results_kept list = ap (λ step. fold step (slice_index job.memory) list) after_kept

  pub given_kept : (list : List ℕ) (p : ℕ) → given job list p ≡ given (with_packets job ps) list p
  given_kept list p =
      ap (λ f. map f (packet job p).reads) (results_kept (take (place list p) list))
      ∙ ap (map (one_by_one (with_packets job ps) (take (place list p) list))) (reads_kept p)

-- ---- the way back is by the same

pub each_once_kept : (job : Job) (ps : List Packet) → SamePackets job.packets ps → (list : List ℕ) → EachOnce job list → EachOnce (with_packets job ps) list
each_once_kept job ps same list h = record { packets = packets_kept job ps same list h.packets; once = h.once; all = λ p is. h.all p (is_packet_kept (with_packets job ps) job.packets (sym same) p is) }

pub order_list_kept : (job : Job) (ps : List Packet) → SamePackets job.packets ps → (list : List ℕ) → OrderList job list → OrderList (with_packets job ps) list
order_list_kept job ps same list o = record {
  each_once = each_once_kept job ps same list o.each_once;
  queues = λ p r e. o.queues p r (earlier_kept new job.packets back p r e);
  slots = λ p r f. o.slots p r (frees_for_kept new job.packets back p r f);
  ands = λ r slot s d k w f. o.ands r slot s d (kind_kept job ps same r ∙ k) (dependency_kept new job.packets back r slot s w) (decrements_kept new job.packets back d s f);
  ors = λ r is k.
      let (slot, s, w, all) = o.ors r (is_packet_kept new job.packets back r is) (kind_kept job ps same r ∙ k) in
      (slot, s, dependency_kept job ps same r slot s w, λ d f. all d (decrements_kept new job.packets back d s f));
}
  where
    new : Job
    new = with_packets job ps

    back : SamePackets ps job.packets
    back = sym same

pub stuck_kept : (job : Job) (ps : List Packet) → SamePackets job.packets ps → (set : List ℕ) → StuckSet job set → StuckSet (with_packets job ps) set
stuck_kept job ps same set stuck = record { some = stuck.some; packets = packets_kept job ps same set stuck.packets; blocked = λ r i. blocked r (stuck.blocked r i) }
  where
    blocked : (r : ℕ) → Blocked job set r → Blocked (with_packets job ps) set r
    blocked r (by_earlier p e i) = by_earlier p (earlier_kept job ps same p r e) i
    blocked r (by_slot p f i) = by_slot p (frees_for_kept job ps same p r f) i
    blocked r (by_dependency slot s d k w f i) = by_dependency slot s d (sym (kind_kept job ps same r) ∙ k) (dependency_kept job ps same r slot s w) (decrements_kept job ps same d s f) i
    blocked r (by_each k h) =
        by_each (sym (kind_kept job ps same r) ∙ k) (λ slot s w.
        let (d, f, i) = h slot s (dependency_kept (with_packets job ps) job.packets (sym same) r slot s w) in
        (d, decrements_kept job ps same d s f, i))

pub valid_kept : (job : Job) (ps : List Packet) → SamePackets job.packets ps → Valid job → Valid (with_packets job ps)
valid_kept job ps same v = record {
  queues = λ p is. subst (λ q. q < length job.queues) (queue_kept job ps same p) (v.queues p (is_packet_kept new job.packets back p is));
  agents = v.agents;
  writes = λ p. subst (All (IsByte job)) (writes_kept job ps same p) (v.writes p);
  writes_once = λ p. subst (AllPairs (λ b c. b ≢ c)) (writes_kept job ps same p) (v.writes_once p);
  not_null = λ p is k.
      let (slot, s, w) = v.not_null p (is_packet_kept new job.packets back p is) (kind_kept job ps same p ∙ k) in
      (slot, s, dependency_kept job ps same p slot s w);
  submissions = each_once_kept job ps same job.submissions v.submissions;
  in_order = λ p r e. v.in_order p r (earlier_kept new job.packets back p r e);
  sizes = v.sizes;
  slots = v.slots;
  balanced = record {
    enough = λ s. subst (λ n. n ≤ slice_index job.starts s) (decrementers_kept job ps same s) (v.balanced.enough s);
    exact = λ p slot s w. sym (decrementers_kept job ps same s) ∙ v.balanced.exact p slot s (dependency_kept new job.packets back p slot s w);
  };
}
  where
    new : Job
    new = with_packets job ps

    back : SamePackets ps job.packets
    back = sym same

-- ---- any two jobs that differ in nothing but heads

pub packets_same : (j k : Job) → SameButHeads j k → SamePackets j.packets k.packets
packets_same j k same = ap (λ (x : Job). x.packets) same

-- k is j with the packets of k
pub other_is : (j k : Job) → SameButHeads j k → with_packets j k.packets ≡ k
other_is j k same = ap (λ (x : Job). with_packets x k.packets) same

pub to_other : (P : Job → Type 0) (j k : Job) → SameButHeads j k → ((ps : List Packet) → SamePackets j.packets ps → P j → P (with_packets j ps)) → P j → P k
to_other P j k same step h = subst P (other_is j k same) (step k.packets (packets_same j k same) h)

pub heads_leave_lists : HeadsLeaveLists
heads_leave_lists j k list same = ((lists j k same, lists k j (sym same)), (sets j k same, sets k j (sym same)))
  where
    lists : (j k : Job) → SameButHeads j k → OrderList j list → OrderList k list
    lists j k same h = to_other (λ x. OrderList x list) j k same (λ ps e. order_list_kept j ps e list) h

    sets : (j k : Job) → SameButHeads j k → StuckSet j list → StuckSet k list
    sets j k same h = to_other (λ x. StuckSet x list) j k same (λ ps e. stuck_kept j ps e list) h

pub heads_leave_conflicts : HeadsLeaveConflicts
heads_leave_conflicts j k kind p r same = (there j k same, there k j (sym same))
  where
    there : (j k : Job) → SameButHeads j k → Conflicts j kind p r → Conflicts k kind p r
    there j k same h = to_other (λ x. Conflicts x kind p r) j k same (λ ps e. conflicts_kept j ps e kind p r) h

pub heads_leave_valid : HeadsLeaveValid
heads_leave_valid j k same = (to_other Valid j k same (valid_kept j), to_other Valid k j (sym same) (valid_kept k))

pub heads_leave_results : HeadsLeaveResults
heads_leave_results j k list same = (
  λ b. to_other (λ x. one_by_one j list b ≡ one_by_one x list b) j k same (λ ps e h. ap (λ f. f b) (results_kept j ps e list)) refl,
  λ p. to_other (λ x. given j list p ≡ given x list p) j k same (λ ps e h. given_kept j ps e list p) refl,
)
