-- What the hall keeps, call by call.
use Rattle.std.proofs.Common.{◌≡◌, ℕ, ◌<◌, ◌∷◌, ◌++◌, [], ◌+◌, ◌↔◌, IsTrue, Bool, false, List, length, map, set, replicate, slice_index, Some, sym, ap, ◌∙◌, subst, arith, Result, Ok, Err, OnOk, OnErr, IfErr}
use Rattle.hq_certcheck.specs.View.{AcceptedJob}
use Rattle.hq_footprint.specs.declared.footprint.Footprint.{Footprint}
use Rattle.hq_job.specs.Plan.{plan}
use Rattle.hq_ledger.specs.declared.grants.Grant.{Grant}
use Rattle.hq_footprint.specs.declared.footprint.Range.{Range}
use Rattle.hq_ledger.specs.declared.fault.GrantFault.{GrantFault}
use Rattle.hq_ledger.specs.declared.fault.GrantFault.TheVariants as grant_fault
use Rattle.hq_ledger.specs.Grants.{IsOut, without}
use Rattle.hq_ledger.specs.Pieces.{Part}
use Rattle.hq_events.specs.declared.event.Event.{Event}
use Rattle.hq_events.specs.declared.event.Event.TheVariants as event
use Rattle.hq_events.specs.Events.{coarse_of}
use Rattle.hq_machine.specs.View.{state_of}
use Rattle.hq_model.specs.Job.{packet}
use Rattle.hq_model.specs.Job.Kind.{Work}
use Rattle.hq_model.specs.Journal.{JournalRun}
use Rattle.hq_model.specs.Machine.{State, start}
use Rattle.hq_model.specs.Machine.Phase.{Active}
use Rattle.hq_hall.specs.declared.fault.HallFault.{HallFault}
use Rattle.hq_hall.specs.declared.fault.HallFault.TheVariants as fault
use Rattle.hq_hall.specs.declared.stage.Stage.{Stage}
use Rattle.hq_hall.specs.declared.stage.Stage.TheVariants as stage
use Rattle.hq_hall.specs.Handing.{foot_of}
use Rattle.hq_hall.specs.Histories.{HistoryValue, Moves, Refused, RunSoFar, plan_of}
use Rattle.hq_hall.specs.Stages.{delivers, fetches, stage_of}
use Rattle.hq_hall.specs.View.{IsPieceOf, IsReadPiece, Stands, Stood}
use Rattle.hq_hall.proofs.Out.{last_out, taken_back}
use Rattle.hq_hall.proofs.Standing.{stands_open, stands_quiet, stands_complete, stands_fetched, stands_delivered}
use Rattle.hq_hall.proofs.Stays.{ends_or_stores}

-- what stands after an event, of the run that it leaves
moved : (old new : HistoryValue) (e : Event) (out : List Grant) (stages : List Stage) (n : ℕ) → Moves old e new
    → Stands old.job.job.packets (old.events ++ e ∷ []) (state_of (plan_of old) new.state) out stages (plan_of old) → n ≡ length old.job.job.packets → Stood new out stages n
moved old new e out stages n m stands count = (
  subst (λ (j : AcceptedJob). Stands j.job.packets new.events (state_of (plan j.job) new.state) out stages (plan j.job)) (sym m.job)
      (subst (λ (es : List Event). Stands old.job.job.packets es (state_of (plan_of old) new.state) out stages (plan_of old)) (sym m.events) stands),
  count ∙ ap (λ (j : AcceptedJob). length j.job.packets) (sym m.job),
)

-- an event that neither fetches, delivers nor completes, or no event
pub quiet_stood : (result : Result (Unit {0}) HallFault) (old new : HistoryValue) (e : Event) (out : List Grant) (stages : List Stage) (n : ℕ)
    → OnOk result (Moves old e new) → OnErr result (new ≡ old)
    → ((p : ℕ) → fetches p e ≡ false) → ((p : ℕ) → delivers p e ≡ false) → ((p : ℕ) → ends_or_stores p (coarse_of e) ≡ false)
    → Stood old out stages n → Stood new out stages n
quiet_stood (Ok u) old new e out stages n m same f d quiet k =
    moved old new e out stages n m
    (stands_quiet old.job.job.packets (plan_of old) old.events (state_of (plan_of old) old.state) (state_of (plan_of old) new.state) out stages k.0 e f d quiet m.happens) k.1
quiet_stood (Err u) old new e out stages n m same f d quiet k = subst (λ (h : HistoryValue). Stood h out stages n) (sym same) k

-- the completion of a packet that isn't out, or none
pub complete_stood : (result : Result (Unit {0}) HallFault) (old new : HistoryValue) (p : ℕ) (out : List Grant) (stages : List Stage) (n : ℕ)
    → OnOk result (Moves old (event.Complete p) new) → OnErr result (new ≡ old) → (stage_of old.events p ≡ stage.Out → ⊥)
    → Stood old out stages n → Stood new out stages n
complete_stood (Ok u) old new p out stages n m same inside k =
    moved old new (event.Complete p) out stages n m
    (stands_complete old.job.job.packets (plan_of old) old.events (state_of (plan_of old) old.state) (state_of (plan_of old) new.state) out stages k.0 p inside m.happens) k.1
complete_stood (Err u) old new p out stages n m same inside k = subst (λ (h : HistoryValue). Stood h out stages n) (sym same) k

-- a packet's fetch
pub fetched_stood : (old new : HistoryValue) (p : ℕ) (out : List Grant) (stages : List Stage) (n : ℕ) → p < length old.job.job.packets → (packet (plan_of old) p).kind ≡ Work
    → (state_of (plan_of old) old.state).phase p ≡ Active → stage_of old.events p ≡ stage.Unfetched → (foot : Footprint) → foot ≡ foot_of old.job.job.packets p
    → Moves old (event.Fetch p) new → Stood old out stages n → Stood new (out ++ record { packet = p; foot = foot } ∷ []) (set stages p stage.Out) n
fetched_stood old new p out stages n low work active fresh foot own m k =
    moved old new (event.Fetch p) (out ++ record { packet = p; foot = foot } ∷ []) (set stages p stage.Out) n m
    (stands_fetched old.job.job.packets (plan_of old) old.events (state_of (plan_of old) old.state) (state_of (plan_of old) new.state) out stages k.0 p low work active fresh m.happens foot own) k.1

-- and its delivery
pub delivered_stood : (old new : HistoryValue) (p : ℕ) (out : List Grant) (stages : List Stage) (n : ℕ) → p < length old.job.job.packets
    → Moves old (event.Deliver p) new → Stood old out stages n → Stood new (without p out) (set stages p stage.Delivered) n
delivered_stood old new p out stages n low m k =
    moved old new (event.Deliver p) (without p out) (set stages p stage.Delivered) n m
    (stands_delivered old.job.job.packets (plan_of old) old.events (state_of (plan_of old) old.state) (state_of (plan_of old) new.state) out stages k.0 p low m.happens) k.1

-- where nothing has happened
pub open_stood : (h : HistoryValue) (n : ℕ) → RunSoFar (plan_of h) h.events h.state → h.events ≡ [] → n ≡ length h.job.job.packets
    → Stood h [] (replicate (length h.job.job.packets) stage.Unfetched) n
open_stood h n run none count =
    let begins : state_of (plan_of h) h.state ≡ start (plan_of h) = subst (λ (es : List Event). JournalRun (plan_of h) (map coarse_of es) (state_of (plan_of h) h.state)) none run.run in (
      subst (λ (es : List Event). Stands h.job.job.packets es (state_of (plan_of h) h.state) [] (replicate (length h.job.job.packets) stage.Unfetched) (plan_of h)) (sym none)
          (subst (λ s. Stands h.job.job.packets [] s [] (replicate (length h.job.job.packets) stage.Unfetched) (plan_of h)) (sym begins) (stands_open h.job.job.packets (plan_of h))),
      count,
    )

-- ---- pieces

-- a piece of the packet that holds what it has read
pub read_piece_is : (state : State) (p k : ℕ) (range : Range) (first : ℕ) (part : Part) (bytes : List ℕ) (result : Bool) → IsPieceOf p k range part → bytes ≡ part.bytes
    → (IsTrue result ↔ ((i : ℕ) → i < length bytes → state.read p (first + i) ≡ Some (slice_index bytes i)))
    → IsTrue result ↔ IsReadPiece state p k range first part
read_piece_is state p k range first part bytes result is same tells =
    let count : length bytes ≡ range.len = ap length same ∙ is.len in (
      (λ t. record { is = is; bytes = λ i l. tells.0 t i (omega (arith, count, l)) ∙ ap (λ (bs : List ℕ). Some (slice_index bs i)) same }),
      (λ r. tells.1 (λ i l. r.bytes i (omega (arith, count, l)) ∙ ap (λ (bs : List ℕ). Some (slice_index bs i)) (sym same))),
    )

-- ---- grants

-- what a packet that is out leaves when its ranges come home
pub taken_home : (result : Result (Unit {0}) GrantFault) (old new : List Grant) (p : ℕ) → OnOk result (new ≡ without p old) → IfErr result (λ e. (e ≡ grant_fault.NotOut) × (IsOut old p → ⊥)) → IsOut old p
    → new ≡ without p old
taken_home (Ok u) old new p home refused out = home
taken_home (Err e) old new p home refused out = absurd (refused.1 out)

-- a grant that is taken back at once
pub let_back : (result : Result (Unit {0}) GrantFault) (old new : List Grant) (grant : Grant) → OnOk result (new ≡ without grant.packet (old ++ grant ∷ [])) → IfErr result (λ e. (e ≡ grant_fault.NotOut) × (IsOut (old ++ grant ∷ []) grant.packet → ⊥))
    → (IsOut old grant.packet → ⊥) → new ≡ old
let_back result old new grant home refused inside =
    taken_home result (old ++ grant ∷ []) new grant.packet home refused (last_out old grant) ∙ taken_back old grant inside

-- what is refused where less holds is refused where more does
refused_one : (A B : Type 0) (f : HallFault) → (B → A) → Refused A f → Refused B f
refused_one A B fault.NotEnabled more refused = λ b. refused (more b)
refused_one A B fault.WrongPieces more refused = refused
refused_one A B fault.Memory more refused = refused

pub refused_weaker : (result : Result (Unit {0}) HallFault) (A B : Type 0) → (B → A) → IfErr result (λ f. Refused A f) → IfErr result (λ f. Refused B f)
refused_weaker (Ok u) A B more refused = refused
refused_weaker (Err f) A B more refused = refused_one A B f more refused
