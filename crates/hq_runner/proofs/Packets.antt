-- What a processor adds to its list, packet by packet, and the bodies that have run.
use Rattle.std.proofs.Common.{◌≡◌, ℕ, zero, suc, ◌+◌, ◌<◌, ◌≤◌, List, [], ◌∷◌, ◌++◌, length, map, take, sym, ◌∙◌, ap, subst, arith, All}
use Rattle.std.specs.Prelude.{slice_index_or, slice_set}
use Rattle.std.proofs.Math.Seq.{map-set_same}
use Rattle.std.proofs.lemmas.List.{take_more_set, take_all}
use Rattle.std.proofs.lemmas.List.Elements.{All-append}
use Rattle.hq_hall.proofs.Programs.{rising, parts_more, parts_program}
use Rattle.hq_job.specs.Access.{AreOfQueue}
use Rattle.hq_events.specs.declared.event.Event.{Event}
use Rattle.hq_events.specs.Events.{coarse_of}
use Rattle.hq_tables.specs.declared.rows.Placed.{Placed}
use Rattle.hq_job.specs.Plan.{planned}
use Rattle.hq_tables.specs.Kinds.{kind_of}
use Rattle.std.proofs.lemmas.List.{map-append}
use Rattle.std.specs.Prelude.{slice_get, Some}
use Rattle.hq_model.specs.Job.{Job, packet, IsPacket}
use Rattle.hq_model.specs.Job.Kind.{Work, BarrierOr}
use Rattle.hq_model.specs.Journal.{Part, Parts}
use Rattle.hq_model.specs.Journal.Coarse.{One, Fetch, Deliver, Complete}
use Rattle.hq_model.specs.Machine.Event.{Launch, Observe, Enter}
use Rattle.std.specs.declared.dyn_box.DynBox.{DynBox}
use Rattle.std.specs.declared.alloc.Global.{Global}
use Rattle.std.specs.Prelude.{true}
use Rattle.hq_kernels.specs.Bodies.{BodyValue}
use Rattle.hq_kernels.specs.declared.kit.Body.{Body}
use Rattle.hq_kernels.specs.Kits.{value_of}
use Rattle.hq_runner.specs.Kits.{AllRan}
use Rattle.hq_runner.specs.Lists.{ByOne, Did, IsProgram, or_events, work_events}

-- An entry is replaced by one of the same kind.
pub map_same : {X Y : Type 0} (f : X → Y) (xs : List X) (i : ℕ) (old new : X) → old ≡ slice_index_or xs i old → f new ≡ f old → map f (slice_set xs i new) ≡ map f xs
map_same f xs i old new is same = map-set_same f xs i new old (same ∙ ap f is)

one : {X : Type 0} (P : X → Type 0) (x : X) → P x → All P (x ∷ [])
one P x p zero d l = p
one P x p (suc k) d l = absurd (omega arith)

-- One entry more of which P holds.
all_more : {X : Type 0} (P : X → Type 0) (xs : List X) (i : ℕ) (new : X) → i < length xs → P new → All P (take i xs) → All P (take (i + 1) (slice_set xs i new))
all_more P xs i new l p all = subst (All P) (sym (take_more_set xs i new l)) (All-append P (take i xs) (new ∷ []) all (one P new p))

-- One body more that has run, where so many have.
pub ran_more : {X : Type 0} {Y : X → Type 0} {V : Type 0} {W : V → Type 0} (kernel : DynBox X Global Y → BodyValue) (service : DynBox V Global W → BodyValue)
    (bodies : List (Body X V Y W)) (i : ℕ) (new : Body X V Y W) → i < length bodies → (value_of kernel service new).ran ≡ true
    → AllRan kernel service (take i bodies) → AllRan kernel service (take (i + 1) (slice_set bodies i new))
ran_more kernel service bodies i new l ran all = record { each = all_more (λ body. (value_of kernel service body).ran ≡ true) bodies i new l ran all.each }

-- As many have run as there are.
pub ran_all : {X : Type 0} {Y : X → Type 0} {V : Type 0} {W : V → Type 0} (kernel : DynBox X Global Y → BodyValue) (service : DynBox V Global W → BodyValue)
    (bodies : List (Body X V Y W)) (i : ℕ) → length bodies ≤ i → AllRan kernel service (take i bodies) → AllRan kernel service bodies
ran_all kernel service bodies i l all = subst (AllRan kernel service) (take_all i bodies l) all

-- One packet more.
pub did_more : (job : Job) (start p : ℕ) (old new : List Event) → start ≤ p → Parts job (rising start p) (map coarse_of old) → Did job p old new
    → Parts job (rising start (p + 1)) (map coarse_of new)
did_more job start p old new l parts did = subst (Parts job (rising start (p + 1))) (sym did.added) (parts_more job start p (map coarse_of old) did.part l parts did.is)

-- All packets of the queue.
pub did_all : (job : Job) (q start stop p : ℕ) (list : List Event) → AreOfQueue job q start stop → start ≤ p → stop ≤ p → (start < p → p ≤ stop)
    → Parts job (rising start p) (map coarse_of list) → IsProgram job q list
did_all job q start stop p list are low high within parts = record {
  is = parts_program job q start p (map coarse_of list) low
      (λ k there same. ((are.within k there same).0, (let l = (are.within k there same).1 in omega arith)))
      (λ k from to. are.of_queue k from (let w : p ≤ stop = within (omega arith) in omega arith)) parts;
}

added : (old new part : List Event) → new ≡ old ++ part → map coarse_of new ≡ map coarse_of old ++ map coarse_of part
added old new part e = ap (map coarse_of) e ∙ map-append coarse_of old part

-- What is done for a kernel or agent packet is its part.
pub did_work : (job : Job) (p : ℕ) (placed : Placed) (old new : List Event) → planned placed ≡ packet job p → kind_of placed.packet ≡ Work
    → new ≡ old ++ work_events placed.queue p → Did job p old new
did_work job p placed old new is kind e = record {
  part = map coarse_of (work_events placed.queue p);
  added = added old new (work_events placed.queue p) e;
  is = subst (λ k. Part job p k (map coarse_of (work_events placed.queue p))) (sym kind ∙ ap (λ x. x.kind) is)
      (ap (λ q. One (Launch q) ∷ One (Enter p) ∷ Fetch p ∷ Deliver p ∷ Complete p ∷ []) (ap (λ x. x.queue) is));
}

-- And what is done for a barrier-OR packet.
pub did_or : (job : Job) (p : ℕ) (placed : Placed) (old new : List Event) → IsPacket job p → planned placed ≡ packet job p → kind_of placed.packet ≡ BarrierOr
    → ByOne placed p old new → Did job p old new
did_or job p placed old new there is kind by = record {
  part = map coarse_of (or_events placed.queue p by.slot);
  added = added old new (or_events placed.queue p by.slot) by.added;
  is = subst (λ k. Part job p k (map coarse_of (or_events placed.queue p by.slot))) (sym kind ∙ ap (λ x. x.kind) is) (
    by.slot,
    by.signal,
    record { is_packet = there; signal = subst (λ deps. slice_get deps by.slot ≡ Some (Some by.signal)) (ap (λ x. x.deps) is) by.is_slot },
    ap (λ q. One (Launch q) ∷ One (Observe p by.slot) ∷ One (Enter p) ∷ Complete p ∷ []) (ap (λ x. x.queue) is),
  );
}
