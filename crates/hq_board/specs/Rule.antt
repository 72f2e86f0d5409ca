-- The rule of the board: what holds of its words and of all seats' lists between any two steps.
use Rattle.std.specs.Prelude.{◌≡◌, ◌≢◌, ℕ, ◌+◌, ◌*◌, ◌<◌, ◌≤◌, ◌^◌, ◌⊎◌, true, false, List, [], ◌∷◌, length}
use Rattle.std.specs.Prelude.{slice_index, ◌==◌, if◌then◌else◌}
use mathlib.Core.Option.{some}
use lib.ListN.{get_elem?}
use Rattle.hq_model.specs.Job.{Job, packet, IsPacket, Dependency, Decrements}
use Rattle.hq_model.specs.Machine as machine
use Rattle.hq_model.specs.Machine.Phase.{Complete}
use Rattle.hq_model.specs.Theorems.{Balanced}
use Rattle.hq_board.specs.declared.entry.Entry.{Entry}
use Rattle.hq_board.specs.declared.entry.Entry.TheVariants.{DidObserve, Looked}
use Rattle.hq_board.specs.declared.entry.View.{View}
use Rattle.hq_board.specs.History.{after, own_step, Legal, Right, part, queue_of, next, May, Sees}

-- of a list's events, those that count in the queue's word
abbrev pub own_steps : Job → List Entry → ℕ
own_steps job [] = 0
own_steps job (x ∷ log) = own_steps job log + own_step job x

-- What the rule asks of a job: its signals are balanced, its tables fit, and a queue's word has room for its steps.
pub record Fits (job : Job) : Type 0 where
  pub valid : Balanced job
  pub few : 3 * length job.packets < 2 ^ 64
  pub in_range : (p : ℕ) → IsPacket job p → (packet job p).queue < length job.queues
  pub waits : (p slot s : ℕ) → Dependency job p slot s → s < length job.starts
  pub marks : (p s : ℕ) → Decrements job p s → s < length job.starts

-- The words are right after the history: first each signal's value, then for each queue how many of its steps counted.
pub record Words (job : Job) (words : List ℕ) (m : List Entry) : Type 0 where
  pub count : length words ≡ length job.starts + length job.queues
  pub signals : (s : ℕ) → s < length job.starts → slice_index words s ≡ (after job m).signal s
  pub queues : (q : ℕ) → q < length job.queues
      → slice_index words (length job.starts + q) ≡ own_steps job (part job q m)

-- The one that hands out seats has a queue above all of theirs, and from it on no queue has done anything.
pub record Deals (job : Job) (views : List View) (m : List Entry) (k : ℕ) (v : View) : Type 0 where
  pub below : (j : ℕ) (w : View) → get_elem? views j ≡ some w → j ≢ k → w.queue < v.queue
  pub empty : (q : ℕ) → v.queue ≤ q → part job q m ≡ []

-- One history, which its queues and signals allow, has the lists of all seats as its queues' parts, and the words
-- are right after it.
pub record HasHistory (job : Job) (words : List ℕ) (views : List View) : Type 0 where
  pub m : List Entry
  pub legal : Legal job m
  pub right : Right job m
  pub words_right : Words job words m
  pub parts : (k : ℕ) (v : View) → get_elem? views k ≡ some v → part job v.queue m ≡ v.log
  pub apart : (j k : ℕ) (v w : View) → get_elem? views j ≡ some v → get_elem? views k ≡ some w → v.queue ≡ w.queue
      → j ≡ k
  pub dealers : (k : ℕ) (v : View) → get_elem? views k ≡ some v → v.deals ≡ true → Deals job views m k v

-- the view with one entry more
abbrev pub added : View → Entry → View
added v x = record { queue = v.queue; deals = v.deals; log = x ∷ v.log }

-- the view of the one that hands out seats, when the next is that of queue q
abbrev pub dealer : ℕ → View
dealer q = record { queue = q; deals = true; log = [] }

-- the view of queue q's seat when it is handed out: nothing is in its list
abbrev pub newcomer : ℕ → View
newcomer q = record { queue = q; deals = false; log = [] }

-- What a step on a queue's word asks of its entry: the seat's own list allows it, and it counts once in the queue's
-- word and in no signal's.
pub record OwnStep (job : Job) (v : View) (x : Entry) : Type 0 where
  pub plain : v.deals ≡ false
  pub queue : queue_of job x ≡ v.queue
  pub near : v.queue < length job.queues
  pub one : own_step job x ≡ 1
  pub signals : (a : machine.State) (s : ℕ) → (next job a x).signal s ≡ a.signal s
  pub sees : (a : machine.State) → Sees job a x
  pub may : May job (after job v.log) x

-- what a load that found n leaves in the list
abbrev pub seen : ℕ → ℕ → ℕ → Entry
seen p slot n = if n == 0 then DidObserve p slot else Looked p slot n

-- As far as the queue's own list tells, the signal is 0: it starts at 0, or the list has observed it in some slot,
-- or all packets that complete on it are the queue's and complete in the list.
abbrev pub IsSettled : Job → View → ℕ → Type 0
IsSettled job v s =
    (slice_index job.starts s ≡ 0)
    ⊎ (((r : ℕ) × (slot : ℕ) × Dependency job r slot s × ((packet job r).queue ≡ v.queue)
    × ((after job v.log).observed r slot ≡ true))
    ⊎ ((d : ℕ) → Decrements job d s → ((packet job d).queue ≡ v.queue) × ((after job v.log).phase d ≡ Complete)))
