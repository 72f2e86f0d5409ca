-- The board as its callers see it, and what each call does to its seat's list.
use Rattle.std.specs.Prelude.{◌≡◌, ℕ, ◌-◌, ◌<◌, List, ◌∷◌, length, slice_index, slice_get, Some}
use Rattle.std.specs.Prelude.{[]}
use Rattle.atomic_table.specs.Seated.{TableId}
use Rattle.hq_job.specs.Plan.{plan}
use Rattle.hq_job.specs.Value.{JobValue}
use Rattle.hq_model.specs.Job.{Job, packet}
use Rattle.hq_model.specs.Machine.{MayLaunch}
use Rattle.hq_board.specs.declared.entry.Entry.{Entry}
use Rattle.hq_board.specs.declared.entry.Entry.TheVariants.{DidLaunch, DidObserve, DidEnter, DidComplete, Looked}
use Rattle.hq_board.specs.declared.entry.View.{View}
use Rattle.hq_board.specs.declared.fault.BoardFault.{BoardFault}
use Rattle.hq_board.specs.declared.fault.BoardFault.TheVariants.{NotNext, NotZero, NotEntered}
use Rattle.hq_board.specs.declared.known.Known.{Known}
use Rattle.hq_board.specs.History.{after, May, Legal, Right, part}
use Rattle.hq_board.specs.Known.{Tied, log_of}
use Rattle.hq_board.specs.Rule.{IsSettled}
use Rattle.hq_board.specs.Told.{IsTold}

-- the job, and which board it is
pub record BoardValue : Type 0 where
  pub job : JobValue
  pub table : TableId

-- the job as numbers
abbrev pub job_of : BoardValue → Job
job_of board = plan board.job

-- the seat is one of this board, and what it knows is what its list says
pub record IsSeatOf (board : BoardValue) (seat : Known) : Type 0 where
  pub table : seat.token.table_id ≡ board.table
  pub tied : Tied (job_of board) seat

-- one seat of each queue, in queue order
pub record AreInOrder (queues : ℕ) (seats : List Known) : Type 0 where
  pub count : length seats ≡ queues
  pub places : (q : ℕ) (seat : Known) → slice_get seats q ≡ Some seat → seat.queue ≡ q

-- Nothing stands in the seat's list.
abbrev pub HasNoList : Known → Type 0
HasNoList seat = log_of seat ≡ []

-- the seat is the same one, with one entry more in its list
pub record Adds (old new : Known) (x : Entry) : Type 0 where
  pub table : new.token.table_id ≡ old.token.table_id
  pub queue : new.queue ≡ old.queue
  pub log : log_of new ≡ x ∷ log_of old

-- the seat is the same one, with its list as it was
pub record Stays (old new : Known) : Type 0 where
  pub table : new.token.table_id ≡ old.token.table_id
  pub queue : new.queue ≡ old.queue
  pub log : log_of new ≡ log_of old

-- As far as the seat's own list decides, the event may come next.
abbrev pub MayOf : Job → Known → Entry → ℕ → Type 0
MayOf job seat x p = ((packet job p).queue ≡ seat.queue) × May job (after job (log_of seat)) x

-- ---- launches

-- Packet p was launched, as the seat's own list allowed, and the list has that as its newest entry.
abbrev pub Launches : Job → Known → Known → ℕ → Type 0
Launches job old new p = Adds old new (DidLaunch p) × MayLaunch job (after job (log_of old)) old.queue p

-- A launch is refused only where the seat's own list allows none, and changes nothing then.
abbrev pub LaunchRefused : Job → Known → Known → BoardFault → Type 0
LaunchRefused job old new NotNext = Stays old new × ((p : ℕ) → MayLaunch job (after job (log_of old)) old.queue p → ⊥)
LaunchRefused job old new _ = ⊥

-- ---- observations

-- Packet p has observed the slot, as the seat's own list allowed, and the list has that as its newest entry.
abbrev pub Observes : Job → Known → Known → ℕ → ℕ → Type 0
Observes job old new p slot = Adds old new (DidObserve p slot) × MayOf job old (DidObserve p slot) p

-- The signal of the slot isn't settled by the seat's own list.
abbrev pub Unsettled : Job → Known → ℕ → ℕ → Type 0
Unsettled job seat p slot = (s : ℕ) → slice_get (packet job p).deps slot ≡ Some (Some s)
    → ¬ IsSettled job seat.token.me.0 s

-- A signal above 0 is looked at, and it is never one that the seat's own list settles. Other refusals change nothing.
abbrev pub ObserveRefused : Job → Known → Known → ℕ → ℕ → BoardFault → Type 0
ObserveRefused job old new p slot NotNext = Stays old new × (MayOf job old (DidObserve p slot) p → ⊥)
ObserveRefused job old new p slot (NotZero n) = Adds old new (Looked p slot n) × (0 < n)
    × MayOf job old (DidObserve p slot) p × Unsettled job old p slot
ObserveRefused job old new p slot _ = ⊥

-- ---- entries and completions

-- Packet p has entered, as the seat's own list allowed, and the list has that as its newest entry.
abbrev pub Enters : Job → Known → Known → ℕ → Type 0
Enters job old new p = Adds old new (DidEnter p) × MayOf job old (DidEnter p) p

-- An entry is refused only where the seat's own list doesn't allow it, and changes nothing then.
abbrev pub EnterRefused : Job → Known → Known → ℕ → BoardFault → Type 0
EnterRefused job old new p NotNext = Stays old new × (MayOf job old (DidEnter p) p → ⊥)
EnterRefused job old new p _ = ⊥

-- Packet p was completed, as the seat's own list allowed, and the list has that as its newest entry.
abbrev pub Completes : Job → Known → Known → ℕ → Type 0
Completes job old new p = Adds old new (DidComplete p) × MayOf job old (DidComplete p) p

-- A completion is refused only where the seat's own list doesn't allow it, and changes nothing then.
abbrev pub CompleteRefused : Job → Known → Known → ℕ → BoardFault → Type 0
CompleteRefused job old new p NotEntered = Stays old new × (MayOf job old (DidComplete p) p → ⊥)
CompleteRefused job old new p _ = ⊥

-- ---- the end

-- The values are the signals' at the end of a history that its queues and signals allow: it is told by a run of the
-- machine, and has the seat's list as its queue's part.
pub record Closes (job : Job) (values : List ℕ) (m : List Entry) : Type 0 where
  pub legal : Legal job m
  pub right : Right job m
  pub told : IsTold job m
  pub count : length values ≡ length job.starts
  pub values_are : (s : ℕ) → s < length job.starts → slice_index values s ≡ (after job m).signal s

-- What closing leaves: of a history that has, where there is a queue, the last seat's list.
abbrev pub Closed : Job → List Known → List ℕ → Type 0
Closed job seats values =
    (m : List Entry) × Closes job values m
    × ((seat : Known) → slice_get seats (length seats - 1) ≡ Some seat → part job seat.queue m ≡ log_of seat)

-- the same by the last seat's view, and where there is no seat
abbrev pub ClosesWith : Job → View → List ℕ → Type 0
ClosesWith job v values = (m : List Entry) × Closes job values m × (part job v.queue m ≡ v.log)

-- The values are the signals' at the end of such a history, whichever it is.
abbrev pub ClosesAlone : Job → List ℕ → Type 0
ClosesAlone job values = (m : List Entry) × Closes job values m
