-- What the rule says of the words and of each queue's list, sentence by sentence.
use Rattle.std.specs.Prelude.{◌≡◌, ℕ, ◌+◌, ◌<◌, ◌&&◌, true, List, length, slice_index, count_by, ◌⊎◌}
use mathlib.Core.Option.{some}
use lib.ListN.{get_elem?}
use Rattle.hq_model.specs.Job.{Job, packet, Dependency, completes_on}
use Rattle.hq_model.specs.Machine.{Phase, is_complete, listed}
use Rattle.hq_model.specs.Machine.Phase.{Active, Complete}
use Rattle.hq_model.specs.Order.{Before}
use Rattle.hq_board.specs.declared.entry.Entry.{Entry}
use Rattle.hq_board.specs.declared.entry.View.{View}
use Rattle.hq_board.specs.History.{after, Legal, Right, part}
use Rattle.hq_board.specs.Rule.{Fits, HasHistory, own_steps}

-- p's phase by the list of its own queue
abbrev pub phase_by : Job → (ℕ → List Entry) → ℕ → Phase
phase_by job lists p = (after job (lists (packet job p).queue)).phase p

-- how many packets are complete on the signal, each by its own queue's list
abbrev pub completed_on : Job → (ℕ → List Entry) → ℕ → ℕ
completed_on job lists s = count_by (λ p. completes_on s (packet job p) && is_complete (phase_by job lists p))
    (listed (length job.packets) (λ p. p))

-- The words and the queues' lists agree.
pub record BoardRule (job : Job) (words : List ℕ) (lists : ℕ → List Entry) : Type 0 where
  -- each list is one that its own queue allows: launch order, barrier bits, phases, observed slots; so each event
  -- stands in it once
  pub legal : (q : ℕ) → Legal job (lists q)
  -- a signal's word is its start less the completions on it in all lists
  pub signals : (s : ℕ) → s < length job.starts
      → slice_index words s + completed_on job lists s ≡ slice_index job.starts s
  -- where a list has observed a signal its word is 0
  pub observed : (p slot s : ℕ) → (after job (lists (packet job p).queue)).observed p slot ≡ true
      → Dependency job p slot s → s < length job.starts → slice_index words s ≡ 0
  -- where a list has a packet entered, each packet that comes before it is complete in its own queue's list
  pub entered : (p r : ℕ) → Before job p r → (phase_by job lists r ≡ Active) ⊎ (phase_by job lists r ≡ Complete)
      → phase_by job lists p ≡ Complete
  -- a queue's word is the number of its launches, entries and completions on no signal
  pub queues : (q : ℕ) → q < length job.queues → slice_index words (length job.starts + q) ≡ own_steps job (lists q)
  -- there is one history whose parts are the lists, in which each observe and each look saw the value that the
  -- signal has there
  pub history : (m : List Entry) × Legal job m × Right job m × ((q : ℕ) → part job q m ≡ lists q)

-- In every state that the rule allows, the words and the lists of all seats agree.
abbrev pub RuleLaw : Type 0
RuleLaw =
    (job : Job) (words : List ℕ) (views : List View) → Fits job → HasHistory job words views
    → (lists : ℕ → List Entry) × BoardRule job words lists
    × ((k : ℕ) (v : View) → get_elem? views k ≡ some v → lists v.queue ≡ v.log)
