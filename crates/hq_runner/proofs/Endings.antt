-- From what was compared to what a run leaves.
use Rattle.std.proofs.Common.{◌≡◌, ℕ, zero, suc, ◌<◌, List, [], ◌∷◌, length, map, refl, sym, ◌∙◌, ap, ap₂, subst, arith, All, IsTrue, None, Result, Ok, Err, IfOk, OnOk, inl, inr}
use Rattle.std.specs.Prelude.{slice_index, slice_index_or}
use Rattle.std.proofs.lemmas.Bool.{cases_lt}
use Rattle.std.proofs.lemmas.List.{length-map}
use Rattle.std.specs.declared.dyn_box.DynBox.{DynBox}
use Rattle.std.specs.declared.alloc.Global.{Global}
use Rattle.hq_hall.specs.Histories.{RunSoFar}
use Rattle.hq_hall.specs.View.{AddsAlone, HallValue, job_of}
use Rattle.hq_job.specs.Plan.{plan}
use Rattle.hq_job.specs.Value.{JobValue}
use Rattle.hq_kernels.specs.Bodies.{BodyValue}
use Rattle.hq_kernels.specs.declared.kit.Kit.{Kit}
use Rattle.hq_events.specs.declared.event.Event.{Event}
use Rattle.hq_events.specs.declared.event.Event.TheVariants as event
use Rattle.hq_events.specs.Events.{coarse_of}
use Rattle.hq_machine.specs.View.{state_of}
use Rattle.hq_model.specs.Fence.{Ordered}
use Rattle.hq_model.specs.Job.{Job, IsPacket}
use Rattle.hq_model.specs.Journal.{Happens, HostProgram, Program}
use Rattle.hq_model.specs.Journal.Coarse.{Rest}
use Rattle.hq_model.specs.Machine.Phase.{Complete}
use Rattle.hq_model.specs.Theorems.{Valid}
use Rattle.hq_model.proofs.Rested.{rest_ends}
use Rattle.hq_runner.specs.declared.host.Hosted.{Hosted}
use Rattle.hq_runner.specs.declared.outcome.RunFault.{RunFault}
use Rattle.hq_runner.specs.declared.outcome.RunFault.TheVariants as fault
use Rattle.hq_runner.specs.declared.queue.Ended.{Ended}
use Rattle.hq_runner.specs.Ended.{AllDone, Done}
use Rattle.hq_runner.specs.Hosted.{HostDone}
use Rattle.hq_runner.specs.Journals.{ArePrograms, IsOneByOne, IsWhole, host_events, is_asked}
use Rattle.hq_runner.specs.Kits.{AllRan, tasks_of}
use Rattle.hq_runner.specs.Spread.{Gives}
use Rattle.hq_runner.specs.Outcomes.{AreReceipts, IsFirstWrong, KitsRan, ListsDone, NoFault, OnReceipts, kits_in}

-- a list has an entry in each of its places
at_some : {X : Type 0} (xs : List X) (i : ℕ) → i < length xs → (x : X) × (x ≡ slice_index_or xs i x)
at_some [] i l = absurd (omega arith)
at_some (x ∷ xs) zero l = (x, refl)
at_some (x ∷ xs) (suc i) l = at_some xs i (omega arith)

-- Each queue's events are its program, where they are its processor's list and that processor met no fault.
pub programs : {X : Type 0} {Y : X → Type 0} {V : Type 0} {W : V → Type 0} (job : Job) (events : List Event) (all : List (Ended X V Y W)) (host : Hosted)
    → ListsDone job all → HostDone job host → NoFault all → host.fault ≡ None → AreReceipts job events all → host_events events ≡ host.events.items
    → All (λ e. IsTrue (is_asked e)) events → ArePrograms job events
programs job events all host lists by_host none none_of_host receipts host_is asked = record {
  queues = λ q l.
      let there : q < length all = omega (arith, lists.count) in
      let (ended, at) = at_some all q there in
      let free : ended.fault ≡ None = ap (λ e. e.fault) at ∙ none.each q ended there in
      subst (λ es. Program job q (map coarse_of es)) (sym (receipts.each q ended there at)) (lists.each q ended there at free).is;
  host = subst (λ es. HostProgram job (map coarse_of es)) (sym host_is) (by_host.list none_of_host).is;
  asked = asked;
}

-- the run so far, of a job that is the same
same_run : (one job : JobValue) (events : List Event) (hall : HallValue) → one ≡ job → RunSoFar (plan one) events hall.state → RunSoFar (plan job) events hall.state
same_run one job events hall same run = subst (λ j. RunSoFar (plan j) events hall.state) same run

rested : (job : JobValue) (old new : HallValue) → old.job.job ≡ job → AddsAlone old event.Rest new → Happens (plan job) (state_of (plan job) old.state) Rest (state_of (plan job) new.state)
rested job old new same adds = subst (λ j. Happens (plan j) (state_of (plan j) old.state) Rest (state_of (plan j) new.state)) same adds.adds.moves.happens

completed : (job : JobValue) (old : HallValue) → old.job.job ≡ job → ((p : ℕ) → IsPacket (plan old.job.job) p → (state_of (plan old.job.job) old.state).phase p ≡ Complete)
    → (p : ℕ) → IsPacket (plan job) p → (state_of (plan job) old.state).phase p ≡ Complete
completed job old same all = subst (λ j. (p : ℕ) → IsPacket (plan j) p → (state_of (plan j) old.state).phase p ≡ Complete) same all

-- A run that completed all and rested.
pub whole : (job : JobValue) (old new : HallValue) (memory : List ℕ) → old.job.job ≡ job → AddsAlone old event.Rest new
    → RunSoFar (job_of old) old.events old.state → RunSoFar (job_of new) new.events new.state
    → ((p : ℕ) → IsPacket (plan old.job.job) p → (state_of (plan old.job.job) old.state).phase p ≡ Complete) → ArePrograms (plan job) old.events
    → memory ≡ new.state.copies.memory → IsWhole (plan job) new.events memory
whole job old new memory same adds first last complete programs is =
    let before = same_run old.job.job job old.events old same first in
    let after = same_run new.job.job job new.events new (ap (λ a. a.job) adds.adds.moves.job ∙ same) last in
    record {
      before = old.events;
      ends = adds.adds.moves.events;
      completes = record { state = state_of (plan job) old.state; run = before.run; complete = completed job old same complete };
      programs = programs;
      leaves = record { state = state_of (plan job) new.state; run = after.run; count = ap length is ∙ after.is.lengths.memory; bytes = λ b. ap (λ m. slice_index m b) (sym is) };
    }

-- Its memory.
pub as_one_by_one : (job : JobValue) (old new : HallValue) (memory : List ℕ) → Valid (plan job) → Ordered (plan job) → old.job.job ≡ job → AddsAlone old event.Rest new
    → RunSoFar (job_of old) old.events old.state
    → ((p : ℕ) → IsPacket (plan old.job.job) p → (state_of (plan old.job.job) old.state).phase p ≡ Complete)
    → memory ≡ new.state.copies.memory → IsOneByOne (plan job) memory
as_one_by_one job old new memory valid ordered same adds first complete is = λ list extends b byte.
    let before = same_run old.job.job job old.events old same first in
    ap (λ m. slice_index m b) is
    ∙ (rest_ends (plan job) list (map coarse_of old.events) (state_of (plan job) old.state) (state_of (plan job) new.state) valid ordered extends before.run
    (completed job old same complete) (rested job old new same adds)).memory b byte

-- ---- lists that differ

-- Where all lists are the journal's, none is the first that isn't.
pub none_wrong : {X : Type 0} {Y : X → Type 0} {V : Type 0} {W : V → Type 0} (job : Job) (events host : List Event) (all : List (Ended X V Y W)) (q : ℕ)
    → AreReceipts job events all → host_events events ≡ host → IsFirstWrong job events host all q → ⊥
none_wrong job events host all q receipts same wrong = elim (cases_lt q (length all)) [
  | inl low ↦ (let (ended, at) = at_some all q low in wrong.of_queue ended low at (receipts.each q ended low at))
  | inr high ↦ wrong.of_host (omega (arith, high, wrong.place)) same
]

-- A fault that tells of no list.
pub tells_none : (f : RunFault) (P : ℕ → Type 0) → OnReceipts f (λ _. ⊥) → OnReceipts f P
tells_none fault.Memory P none = tt
tells_none (fault.Kernel packet home lost found) P none = tt
tells_none fault.Split P none = tt
tells_none (fault.Receipts q) P none = absurd none
tells_none fault.Unfinished P none = tt

-- ---- kits

-- The processors' lists are done, where there are as many as queues.
pub lists_done : {X : Type 0} {Y : X → Type 0} {V : Type 0} {W : V → Type 0} (kernel : DynBox X Global Y → BodyValue) (service : DynBox V Global W → BodyValue)
    (job : Job) (kits : List (Kit X V Y W)) (all : List (Ended X V Y W)) → AllDone kernel service job kits all → length kits ≡ length job.queues → ListsDone job all
lists_done kernel service job kits all done count = record {
  count = done.count ∙ count;
  each = λ q ended l at none.
      let low : q < length kits = omega (arith, done.count) in
      let (kit, kit_at) = at_some kits q low in
      (done.each q kit ended low kit_at at).list none;
}

-- Two lists made of others that agree place by place.
made_same : {A B C : Type 0} (f : A → C) (g : B → C) (xs : List A) (ys : List B) → length xs ≡ length ys
    → ((i : ℕ) (x : A) (y : B) → i < length ys → x ≡ slice_index_or xs i x → y ≡ slice_index_or ys i y → f x ≡ g y) → map f xs ≡ map g ys
made_same f g [] [] e h = refl
made_same f g [] (y ∷ ys) e h = absurd (omega arith)
made_same f g (x ∷ xs) [] e h = absurd (omega arith)
made_same f g (x ∷ xs) (y ∷ ys) e h =
    ap₂ (λ c cs. c ∷ cs) (h 0 x y (omega arith) refl refl) (made_same f g xs ys (omega arith) (λ i a b l. h (suc i) a b (omega arith)))

-- What holds of what each entry is made to.
made_all : {A B : Type 0} (P : B → Type 0) (f : A → B) (xs : List A) → ((i : ℕ) (x : A) → i < length xs → x ≡ slice_index_or xs i x → P (f x)) → All P (map f xs)
made_all P f [] h k d l = absurd (omega arith)
made_all P f (x ∷ xs) h zero d l = h 0 x (omega arith) refl
made_all P f (x ∷ xs) h (suc k) d l = made_all P f xs (λ i a b. h (suc i) a (omega arith)) k d (omega arith)

-- A list made of one that is made of another.
map_map : {A B C : Type 0} (f : B → C) (g : A → B) (xs : List A) → map f (map g xs) ≡ map (λ x. f (g x)) xs
map_map f g [] = refl
map_map f g (x ∷ xs) = ap (λ cs. f (g x) ∷ cs) (map_map f g xs)

-- The bodies of the kits that the processors give back have run.
pub kits_ran : {X : Type 0} {Y : X → Type 0} {V : Type 0} {W : V → Type 0} (kernel : DynBox X Global Y → BodyValue) (service : DynBox V Global W → BodyValue)
    (job : Job) (kits : List (Kit X V Y W)) (all : List (Ended X V Y W)) (new : List (Kit X V Y W)) → AllDone kernel service job kits all → NoFault all → new ≡ kits_in all
    → KitsRan kernel service kits new
kits_ran {X} {Y} {V} {W} kernel service job kits all new done none is = subst (KitsRan kernel service kits) (sym is) (record {
  tasks = map_map (λ (kit : Kit X V Y W). tasks_of kernel service kit.bodies.items) (λ (ended : Ended X V Y W). ended.kit) all
      ∙ made_same (λ (ended : Ended X V Y W). tasks_of kernel service ended.kit.bodies.items) (λ (kit : Kit X V Y W). tasks_of kernel service kit.bodies.items) all kits done.count
      (λ i ended kit l at kit_at. (done.each i kit ended l kit_at at).tasks);
  ran = made_all (λ (kit : Kit X V Y W). AllRan kernel service kit.bodies.items) (λ (ended : Ended X V Y W). ended.kit) all (λ i ended l at.
      let low : i < length kits = omega (arith, done.count) in
      let (kit, kit_at) = at_some kits i low in
      (done.each i kit ended low kit_at at).ran (ap (λ e. e.fault) at ∙ none.each i ended l));
})

-- What holds holds where there is an answer.
pub where_ok : {T E P : Type 0} (result : Result T E) → P → OnOk result P
where_ok (Ok x) p = p
where_ok (Err e) p = tt

-- The kits of an outcome have run, where no processor met a fault.
pub outcome_ran : {X : Type 0} {Y : X → Type 0} {V : Type 0} {W : V → Type 0} (kernel : DynBox X Global Y → BodyValue) (service : DynBox V Global W → BodyValue)
    (job : Job) (kits : List (Kit X V Y W)) (all : List (Ended X V Y W)) {O E : Type 0} (kits_of : O → List (Kit X V Y W)) (result : Result O E)
    → AllDone kernel service job kits all → IfOk result (λ o. kits_of o ≡ kits_in all) → OnOk result (NoFault all) → IfOk result (λ o. KitsRan kernel service kits (kits_of o))
outcome_ran kernel service job kits all kits_of (Ok o) done is none = kits_ran kernel service job kits all (kits_of o) done none is
outcome_ran kernel service job kits all kits_of (Err e) done is none = tt

-- ---- places

at_made : {A B : Type 0} (f : A → B) (xs : List A) (i : ℕ) (x : A) (d : B) → i < length xs → x ≡ slice_index_or xs i x → slice_index_or (map f xs) i d ≡ f x
at_made f [] i x d l at = absurd (omega arith)
at_made f (y ∷ ys) zero x d l at = ap f (sym at)
at_made f (y ∷ ys) (suc i) x d l at = at_made f ys i x d (omega arith) at

-- Processors that ended so in their places ended so with the kits of these.
pub placed : {X : Type 0} {Y : X → Type 0} {V : Type 0} {W : V → Type 0} {P : Type 0} (kit_of : P → Kit X V Y W) (kernel : DynBox X Global Y → BodyValue) (service : DynBox V Global W → BodyValue)
    (job : Job) (places : List P) (all : List (Ended X V Y W)) → Gives (λ q place ended. Done kernel service job q (kit_of place) ended) places all → AllDone kernel service job (map kit_of places) all
placed kit_of kernel service job places all gives = record {
  count = gives.count ∙ sym (length-map places kit_of);
  each = λ q kit ended low kit_at at.
      let there : q < length places = omega (arith, length-map places kit_of) in
      let (place, place_at) = at_some places q there in
      subst (λ k. Done kernel service job q k ended) (sym (kit_at ∙ at_made kit_of places q place kit there place_at)) (gives.each q place ended there place_at at);
}

-- the same of an answer
pub answer_placed : {X : Type 0} {Y : X → Type 0} {V : Type 0} {W : V → Type 0} {P R E : Type 0} (kit_of : P → Kit X V Y W) (kernel : DynBox X Global Y → BodyValue) (service : DynBox V Global W → BodyValue)
    (job : Job) (places : List P) (all : R → List (Ended X V Y W)) (result : Result R E) → IfOk result (λ r. Gives (λ q place ended. Done kernel service job q (kit_of place) ended) places (all r))
    → IfOk result (λ r. AllDone kernel service job (map kit_of places) (all r))
answer_placed kit_of kernel service job places all (Ok r) gives = placed kit_of kernel service job places (all r) gives
answer_placed kit_of kernel service job places all (Err e) gives = tt

-- What they did with kits they did with the same kits, for the same job.
pub of_same : {X : Type 0} {Y : X → Type 0} {V : Type 0} {W : V → Type 0} {R E : Type 0} (kernel : DynBox X Global Y → BodyValue) (service : DynBox V Global W → BodyValue)
    (one job : JobValue) (made kits : List (Kit X V Y W)) (all : R → List (Ended X V Y W)) (result : Result R E) → one ≡ job → made ≡ kits
    → IfOk result (λ r. AllDone kernel service (plan one) made (all r)) → IfOk result (λ r. AllDone kernel service (plan job) kits (all r))
of_same kernel service one job made kits all (Ok r) same is done = subst (λ j. AllDone kernel service (plan j) kits (all r)) same (subst (λ ks. AllDone kernel service (plan one) ks (all r)) is done)
of_same kernel service one job made kits all (Err e) same is done = tt
