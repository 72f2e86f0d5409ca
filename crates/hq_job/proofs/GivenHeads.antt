-- What other heads of packets change, and what they leave.
use Rattle.std.proofs.Common.{◌≡◌, Vec, ℕ, zero, suc, ◌<◌, ◌≤◌, List, [], ◌∷◌, ◌++◌, length, map, take, drop, refl, sym, ◌∙◌, ap, subst, arith, All, slice_set, slice_index_or}
use Rattle.std.specs.Vec.{with_items}
use Rattle.std.proofs.lemmas.List.{length-map, with_items_is}
use Rattle.std.proofs.lemmas.List.Elements.{All-cons, All-head, All-tail}
use Rattle.hq_packet.specs.declared.packet.Head.{Head}
use Rattle.hq_packet.specs.declared.packet.Packet.{Packet}
use Rattle.hq_packet.specs.declared.packet.Packet.TheVariants as packet
use Rattle.hq_packet.specs.Parts.{head_of, with_head}
use Rattle.hq_model.specs.Job as model
use Rattle.hq_model.specs.Settings as settings
use Rattle.hq_model.specs.Journal.{numbers}
use Rattle.hq_model.proofs.SettingsKept.{heads_leave_valid}
use Rattle.hq_job.specs.declared.job.Job.TheInside.{Inside}
use Rattle.hq_tables.specs.declared.rows.Placed.{Placed}
use Rattle.hq_job.specs.Heads.{placed_with_head, packets_with_head, job_with_head, job_with_each, SameButHeads}
use Rattle.hq_job.specs.JobFields.{FieldsFit}
use Rattle.hq_job.specs.Numbering.{by_number}
use Rattle.hq_job.specs.Plan.{plan, planned}
use Rattle.hq_tables.specs.Kinds.{kind_of}
use Rattle.hq_job.specs.Value.{JobValue}
use Rattle.hq_job.specs.View.{value_of, IsRead, PacketIsRead}
use Rattle.hq_job.proofs.Regrouped.{same_keys, same_firsts}

-- ---- one packet

kind_kept : (e : Packet) (head : Head) → kind_of (with_head e head) ≡ kind_of e
kind_kept (packet.Kernel k) head = refl
kind_kept (packet.Agent a) head = refl
kind_kept (packet.And b) head = refl
kind_kept (packet.Or b) head = refl

head_is : (e : Packet) (head : Head) → head_of (with_head e head) ≡ head
head_is (packet.Kernel k) head = refl
head_is (packet.Agent a) head = refl
head_is (packet.And b) head = refl
head_is (packet.Or b) head = refl

-- of two heads that a packet is given the second is left
second_is_left : (e : Packet) (first second : Head) → with_head (with_head e first) second ≡ with_head e second
second_is_left (packet.Kernel k) first second = refl
second_is_left (packet.Agent a) first second = refl
second_is_left (packet.And b) first second = refl
second_is_left (packet.Or b) first second = refl

planned_with : (x : Placed) (head : Head) → planned (placed_with_head x head) ≡ settings.packet_with_head (planned x) head
planned_with x head = λ i. record (planned x) {
  kind = kind_kept x.packet head i;
  bit = (head_is x.packet head i).barrier;
  acquire = (head_is x.packet head i).acquire;
  release = (head_is x.packet head i).release;
}

-- ---- lists of packets

abbrev pub each_with : Head → List Placed → List Placed
each_with head xs = map (λ x. placed_with_head x head) xs

abbrev pub bare : Placed → Placed
bare x = placed_with_head x settings.no_head

-- the packets differ in nothing but heads
abbrev pub SamePackets : List Placed → List Placed → Type 0
SamePackets xs ys = each_with settings.no_head xs ≡ each_with settings.no_head ys

one_same : (x : Placed) (head : Head) → bare (placed_with_head x head) ≡ bare x
one_same x head = ap (λ e. record x { packet = e }) (second_is_left x.packet head settings.no_head)

pub same_with : (xs : List Placed) (p : ℕ) (head : Head) → SamePackets xs (packets_with_head xs p head)
same_with [] p head = refl
same_with (x ∷ xs) zero head = ap (λ y. y ∷ each_with settings.no_head xs) (sym (one_same x head))
same_with (x ∷ xs) (suc p) head = ap (λ ys. bare x ∷ ys) (same_with xs p head)

pub same_each : (xs : List Placed) (head : Head) → SamePackets xs (each_with head xs)
same_each [] head = refl
same_each (x ∷ xs) head = (λ i. sym (one_same x head) i ∷ same_each xs head i)

same_count : (xs ys : List Placed) → SamePackets xs ys → length xs ≡ length ys
same_count xs ys same = sym (length-map xs bare) ∙ ap length same ∙ length-map ys bare

-- what is said of packets without heads
said_bare : {X : Type 0} (f : Placed → X) → ((x : Placed) → f (bare x) ≡ f x) → (xs : List Placed) → map f (each_with settings.no_head xs) ≡ map f xs
said_bare f kept [] = refl
said_bare f kept (x ∷ xs) = λ i. kept x i ∷ said_bare f kept xs i

same_said : {X : Type 0} (f : Placed → X) → ((x : Placed) → f (bare x) ≡ f x) → (xs ys : List Placed) → SamePackets xs ys → map f xs ≡ map f ys
same_said f kept xs ys same = sym (said_bare f kept xs) ∙ ap (map f) same ∙ said_bare f kept ys

heads_gone : (x y : Placed) (xs ys : List Placed) → SamePackets (x ∷ xs) (y ∷ ys) → (bare x ≡ bare y) × SamePackets xs ys
heads_gone x y xs ys same = (first (bare x) (bare y) (each_with settings.no_head xs) (each_with settings.no_head ys) same, rest (bare x) (bare y) (each_with settings.no_head xs) (each_with settings.no_head ys) same)
  where
    first : (a b : Placed) (xs ys : List Placed) → a ∷ xs ≡ b ∷ ys → a ≡ b
    first a b xs ys e = cc

    rest : (a b : Placed) (xs ys : List Placed) → a ∷ xs ≡ b ∷ ys → xs ≡ ys
    rest a b xs ys e = cc

all_kept : (P : Placed → Type 0) → ((x y : Placed) → bare x ≡ bare y → P x → P y) → (xs ys : List Placed) → SamePackets xs ys → All P xs → All P ys
all_kept P step [] [] same all = all
all_kept P step [] (y ∷ ys) same all = absurd (cc)
all_kept P step (x ∷ xs) [] same all = absurd (cc)
all_kept P step (x ∷ xs) (y ∷ ys) same all =
    let gone = heads_gone x y xs ys same in
    All-cons P y ys (step x y gone.0 (All-head P x xs all)) (all_kept P step xs ys gone.1 (All-tail P x xs all))

pub length_with : (xs : List Placed) (p : ℕ) (head : Head) → length (packets_with_head xs p head) ≡ length xs
length_with xs p head = sym (same_count xs (packets_with_head xs p head) (same_with xs p head))

pub length_each : (head : Head) (xs : List Placed) → length (each_with head xs) ≡ length xs
length_each head xs = length-map xs (λ x. placed_with_head x head)

-- what is written to packets that were lent out
pub written_back : {Z : Type 0} (v : Vec Placed Z) (lent new : List Placed) (f : List Placed → List Placed) → ((xs : List Placed) → length (f xs) ≡ length xs) → lent ≡ v.items → new ≡ f lent → (with_items v new).items ≡ f v.items
written_back v lent new f keeps lent_is new_is = with_items_is v new (omega (arith, ap length new_is, keeps lent, ap length lent_is, v.ok.0)) ∙ new_is ∙ ap f lent_is

-- what a write of one packet gives
pub written : (xs : List Placed) (p : ℕ) (x d : Placed) (head : Head) → p < length xs → x ≡ slice_index_or xs p d → slice_set xs p (placed_with_head x head) ≡ packets_with_head xs p head
written [] p x d head l is = absurd (omega arith)
written (y ∷ ys) zero x d head l is = ap (λ z. placed_with_head z head ∷ ys) is
written (y ∷ ys) (suc p) x d head l is = ap (λ zs. y ∷ zs) (written ys p x d head (omega arith) is)

-- where the packets up to one have a head, and the next is given it
abbrev pub some_with : Head → ℕ → List Placed → List Placed
some_with head i xs = each_with head (take i xs) ++ drop i xs

pub one_more_with : (xs : List Placed) (i : ℕ) (x d : Placed) (head : Head) → i < length xs → x ≡ slice_index_or (some_with head i xs) i d → slice_set (some_with head i xs) i (placed_with_head x head) ≡ some_with head (suc i) xs
one_more_with [] i x d head l is = absurd (omega arith)
one_more_with (y ∷ ys) zero x d head l is = ap (λ z. placed_with_head z head ∷ ys) is
one_more_with (y ∷ ys) (suc i) x d head l is = ap (λ zs. placed_with_head y head ∷ zs) (one_more_with ys i x d head (omega arith) is)

pub all_have : (xs : List Placed) (i : ℕ) (head : Head) → length xs ≤ i → some_with head i xs ≡ each_with head xs
all_have [] zero head l = refl
all_have [] (suc i) head l = refl
all_have (x ∷ xs) zero head l = absurd (omega arith)
all_have (x ∷ xs) (suc i) head l = ap (λ ys. placed_with_head x head ∷ ys) (all_have xs i head (omega arith))

-- ---- plans

planned_list : (xs : List Placed) (p : ℕ) (head : Head) → map planned (packets_with_head xs p head) ≡ slice_set (map planned xs) p (settings.packet_with_head (slice_index_or (map planned xs) p model.no_packet) head)
planned_list [] p head = refl
planned_list (x ∷ xs) zero head = ap (λ e. e ∷ map planned xs) (planned_with x head)
planned_list (x ∷ xs) (suc p) head = ap (λ es. planned x ∷ es) (planned_list xs p head)

planned_each : (xs : List Placed) (head : Head) → map planned (each_with head xs) ≡ map (λ e. settings.packet_with_head e head) (map planned xs)
planned_each [] head = refl
planned_each (x ∷ xs) head = λ i. planned_with x head i ∷ planned_each xs head i

pub plan_with : (job : JobValue) (p : ℕ) (head : Head) → plan (job_with_head job p head) ≡ settings.with_head (plan job) p head
plan_with job p head = ap (λ es. record (plan job) { packets = es }) (planned_list job.packets p head)

pub plan_each : (job : JobValue) (head : Head) → plan (job_with_each job head) ≡ settings.with_each (plan job) head
plan_each job head = ap (λ es. record (plan job) { packets = es }) (planned_each job.packets head)

-- jobs that differ in nothing but heads have plans that do
pub plans_same : (j k : JobValue) → SameButHeads j k → settings.SameButHeads (plan j) (plan k)
plans_same j k same = sym (plan_each j settings.no_head) ∙ ap plan same ∙ plan_each k settings.no_head

-- ---- jobs that were read

abbrev pub with_packets : JobValue → List Placed → JobValue
with_packets job xs = record job { packets = xs }

packet_kept : (job : JobValue) (ys : List Placed) (x y : Placed) → bare x ≡ bare y → PacketIsRead job x → PacketIsRead (with_packets job ys) y
packet_kept job ys x y same h = from_bare (subst (PacketIsRead job) same (to_bare h))
  where
    to_bare : PacketIsRead job x → PacketIsRead job (bare x)
    to_bare h = record { reads = h.reads; suits = h.suits; ranges = record { reads = h.ranges.reads; write = h.ranges.write; each = h.ranges.each }; slots = h.slots; done = h.done }

    from_bare : PacketIsRead job (bare y) → PacketIsRead (with_packets job ys) y
    from_bare h = record { reads = h.reads; suits = h.suits; ranges = record { reads = h.ranges.reads; write = h.ranges.write; each = h.ranges.each }; slots = h.slots; done = h.done }

read_kept : (job : JobValue) (ys : List Placed) → SamePackets job.packets ys → IsRead job → IsRead (with_packets job ys)
read_kept job ys same read = record {
  valid = (heads_leave_valid (plan job) (plan (with_packets job ys)) (plans_same job (with_packets job ys) (ap (with_packets job) same))).0 read.valid;
  limits = let h = read.limits in record { agents = h.agents; queues = h.queues; packets = omega (arith, h.packets, same_count job.packets ys same); buffers = h.buffers; bytes = h.bytes; signals = h.signals; kernels = h.kernels; arguments = h.arguments };
  packets = all_kept (PacketIsRead (with_packets job ys)) (λ x y e h. packet_kept (with_packets job ys) ys x y e h) job.packets ys same (all_job job.packets read.packets);
}
  where
    all_job : (xs : List Placed) → All (PacketIsRead job) xs → All (PacketIsRead (with_packets job ys)) xs
    all_job xs all = λ k d l. let h = all k d l in record { reads = h.reads; suits = h.suits; ranges = h.ranges; slots = h.slots; done = h.done }

-- ---- the fields of a job

pub fit_kept : (j k : Inside) → k.tables ≡ j.tables → k.firsts ≡ j.firsts → k.submissions ≡ j.submissions → SamePackets j.packets.items k.packets.items → FieldsFit j → FieldsFit k
fit_kept j k tables firsts submissions same fit = record {
  is_read = subst IsRead (sym value) (read_kept (value_of j) k.packets.items same fit.is_read);
  queues_are = sym alike ∙ fit.queues_are ∙ same_keys queue_of (length j.tables.queues.items) j.packets.items k.packets.items alike
      ∙ ap (λ ts. map queue_of (by_number (length ts.queues.items) k.packets.items)) (sym tables);
  firsts_are = ap (λ v. v.items) firsts ∙ fit.firsts_are ∙ same_firsts queue_of (length j.tables.queues.items) j.packets.items k.packets.items alike
      ∙ ap (λ ts. map (λ q. length (by_number q k.packets.items)) (numbers (length ts.queues.items))) (sym tables);
}
  where
    queue_of : Placed → ℕ
    queue_of x = x.queue

    alike : map queue_of j.packets.items ≡ map queue_of k.packets.items
    alike = same_said queue_of (λ x. refl) j.packets.items k.packets.items same

    value : value_of k ≡ with_packets (value_of j) k.packets.items
    value = λ i. value_of (record k { tables = tables i; submissions = submissions i })
