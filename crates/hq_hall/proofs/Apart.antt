-- Two packets of an ordered job that are active at once don't conflict.
use Rattle.std.proofs.Common.{◌≡◌, ℕ, ◌<◌, ◌≢◌, inl, inr, List, arith}
use Rattle.std.proofs.lemmas.Bool.{cases_lt}
use Rattle.hq_model.specs.Job.{Job, IsPacket}
use Rattle.hq_model.specs.Order.{Before}
use Rattle.hq_model.specs.Fence.{Conflict, Conflicts, Ordered}
use Rattle.hq_model.specs.Fence.Conflict.{WriteRead, WriteWrite, ReadWrite}
use Rattle.hq_model.specs.Machine.{State}
use Rattle.hq_model.specs.Machine.Phase.{Active}
use Rattle.hq_model.specs.Journal.{Coarse, JournalRun}
use Rattle.hq_model.specs.Theorems.{Valid}
use Rattle.hq_model.proofs.Fences.{shown_is_before}
use Rattle.hq_model.proofs.Journals.{journals_run}
use Rattle.hq_model.proofs.Kept.{order_law, active≢complete}

-- The kind of a conflict seen from the other packet.
abbrev pub turned : Conflict → Conflict
turned WriteRead = ReadWrite
turned WriteWrite = WriteWrite
turned ReadWrite = WriteRead

-- The same conflict from there.
pub conflict_turned : (job : Job) (kind : Conflict) (p r : ℕ) → Conflicts job kind p r → Conflicts job (turned kind) r p
conflict_turned job WriteRead p r (b, x, y) = (b, y, x)
conflict_turned job WriteWrite p r (b, x, y) = (b, y, x)
conflict_turned job ReadWrite p r (b, x, y) = (b, y, x)

-- A packet that comes before an active one isn't active.
pub before_apart : (job : Job) (journal : List Coarse) (state : State) (p r : ℕ) → Valid job
    → JournalRun job journal state → Before job p r
    → state.phase p ≡ Active → state.phase r ≡ Active → ⊥
before_apart job journal state p r valid run before first second =
    let (events, steps) = journals_run job journal state run in
    active≢complete (state.phase p) first (order_law job events state valid steps p r before (inl second))

-- The one with the smaller number first.
rising_apart : (job : Job) (journal : List Coarse) (state : State) (p r : ℕ) (kind : Conflict) → Valid job
    → Ordered job → JournalRun job journal state
    → p < r → IsPacket job r → state.phase p ≡ Active → state.phase r ≡ Active → Conflicts job kind p r → ⊥
rising_apart job journal state p r kind valid ordered run less there first second conflict =
    elim (ordered.shown p r kind less there conflict) [
      | inl shown ↦
          let before : Before job p r = shown_is_before job kind p r (shown kind conflict) in
          before_apart job journal state p r valid run before first second
      | inr shown ↦
          let back : Conflicts job (turned kind) r p = conflict_turned job kind p r conflict in
          let before : Before job r p = shown_is_before job (turned kind) r p (shown (turned kind) back) in
          before_apart job journal state r p valid run before second first
    ]

-- Two packets of an ordered job that are active at once don't conflict.
pub active_apart : (job : Job) (journal : List Coarse) (state : State) (p r : ℕ) (kind : Conflict) → Valid job
    → Ordered job → JournalRun job journal state
    → IsPacket job p → IsPacket job r → p ≢ r → state.phase p ≡ Active → state.phase r ≡ Active
    → Conflicts job kind p r → ⊥
active_apart job journal state p r kind valid ordered run p_in r_in differ first second conflict = elim (cases_lt p r) [
  | inl less ↦ rising_apart job journal state p r kind valid ordered run less r_in first second conflict
  | inr least ↦
      let less : r < p = omega arith in
      let back : Conflicts job (turned kind) r p = conflict_turned job kind p r conflict in
      rising_apart job journal state r p (turned kind) valid ordered run less p_in second first back
]
