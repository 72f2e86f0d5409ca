-- Which lines are noted as needed, and whether these are there.
use Rattle.std.specs.Prelude.{◌≡◌, IsTrue, ℕ, ◌+◌, ◌*◌, ◌^◌, ◌<◌, ◌≤◌, List, length}
use Rattle.std.specs.Int.{bit_at}
use Rattle.hq_bits.specs.Bits.{has}
use Rattle.hq_bits.specs.declared.TheConstants.{WORDS}
use Rattle.hq_model.specs.declared.limits.TheConstants.{PACKETS}
use Rattle.hq_model.specs.Job.{Job}
use Rattle.hq_model.specs.Certificate as model
use Rattle.hq_model.specs.Certificate.{Says}
use Rattle.hq_derive.specs.declared.needs.Needs.{Needs}

-- A line that p is before r is noted as needed.
abbrev pub IsNeeded : Needs → ℕ → ℕ → Type 0
IsNeeded needs p r = (r < PACKETS) × IsTrue (has needs.bits.items (p * PACKETS + r))

-- Each two packets of the job can be noted.
pub record HasRoom (job : Job) (needs : Needs) : Type 0 where
  pub few : length job.packets ≤ PACKETS
  pub len : length needs.bits.items ≡ length job.packets * WORDS

-- What was needed still is, and there is room yet.
pub record Widens (job : Job) (old new : Needs) : Type 0 where
  pub room : HasRoom job new
  pub needed : (p r : ℕ) → IsNeeded old p r → IsNeeded new p r

-- Line k says that p is before r, and 32 bits can say its number.
abbrev pub IsNumber : List model.Line → ℕ → ℕ → ℕ → Type 0
IsNumber lines p r k = Says lines (length lines) k p r × (k + 1 < 2 ^ 32)

-- there is such a line
abbrev pub HasLine : List model.Line → ℕ → ℕ → Type 0
HasLine lines p r = (k : ℕ) × IsNumber lines p r k

-- there is one for each bit of a word, from p to the packet of that bit, of which the first is this one
abbrev pub WordThere : List model.Line → ℕ → ℕ → ℕ → Type 0
WordThere lines p word first = (bit : ℕ) → bit < 64 → bit_at word bit ≡ 1 → HasLine lines p (first + bit)

-- each line is there that is noted as needed
abbrev pub AllThere : Needs → List model.Line → Type 0
AllThere needs lines = (p r : ℕ) → IsNeeded needs p r → HasLine lines p r
