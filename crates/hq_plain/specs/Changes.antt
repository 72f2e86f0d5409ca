-- Which parts of heads a job was given anew, in plain words.
use Rattle.std.specs.Prelude.{◌≡◌, ℕ, ◌+◌, ◌&&◌, not, Bool, true, false, if◌then◌else◌, List, [], ◌++◌, Some}
use Rattle.std.specs.Prelude.{slice_get, count_by, zip, codes}
use Rattle.std.specs.Fmt.{decimal}
use Rattle.hq_packet.specs.declared.packet.Head.{Head}
use Rattle.hq_packet.specs.declared.packet.Scope.{Scope}
use Rattle.hq_packet.specs.declared.packet.Scope.TheVariants as scope
use Rattle.hq_packet.specs.Parts.{head_of}
use Rattle.hq_tables.specs.declared.rows.Placed.{Placed}
use Rattle.hq_tables.specs.declared.rows.Queue.{Queue}
use Rattle.hq_job.specs.Value.{JobValue}
use Rattle.hq_job.specs.Plan.{plan}
use Rattle.hq_model.specs.Job.{packet, place_in_queue}
use Rattle.hq_report.specs.Shown.{scope_word}
use Rattle.hq_plain.specs.declared.changes.Place.{Place}
use Rattle.hq_plain.specs.declared.changes.Lowered.{Lowered}

-- ---- where a packet stands

-- That is where the job's packet p stands: its number, its queue's name, and its place in that.
pub record IsPlaceOf (job : JobValue) (p : ℕ) (at : Place) : Type 0 where
  pub number : at.packet ≡ p
  pub queue : (q : Queue) × (slice_get job.queues (packet (plan job) p).queue ≡ Some q) × (at.queue ≡ q.name)
  pub place : at.place ≡ place_in_queue (plan job) p

-- where that is
abbrev pub place_words : Place → List ℕ
place_words place = codes "packet " ++ decimal place.packet ++ codes " (queue " ++ place.queue ++ codes ", place "
    ++ decimal place.place ++ codes ")"

-- ---- what is other of a packet's head: a line for each part

-- the line that says this of a packet
abbrev pub line_of : Place → List ℕ → List ℕ
line_of place words = codes "hsaq: " ++ place_words place ++ codes ": " ++ words ++ codes "\n"

-- of its barrier bit
abbrev pub bit_line : Place → Bool → Bool → List ℕ
bit_line place true false = line_of place (codes "barrier bit dropped")
bit_line place false true = line_of place (codes "barrier bit set")
bit_line place true true = []
bit_line place false false = []

-- whether a scope is another
abbrev pub is_other : Scope → Scope → Bool
is_other scope.None scope.None = false
is_other scope.Agent scope.Agent = false
is_other scope.System scope.System = false
is_other old new = true

-- of the scope of one of its fences
abbrev pub fence_line : Place → List ℕ → Scope → Scope → List ℕ
fence_line place fence old new = if is_other old new then line_of place
    (fence ++ codes " " ++ scope_word new ++ codes " (was " ++ scope_word old ++ codes ")") else []

-- of its whole head
abbrev pub head_lines : Place → Head → Head → List ℕ
head_lines place old new = bit_line place old.barrier new.barrier
    ++ fence_line place (codes "acquire") old.acquire new.acquire
    ++ fence_line place (codes "release") old.release new.release

-- ---- how much a job goes without

-- whether the fence is there no more
abbrev pub is_dropped : Scope → Scope → Bool
is_dropped scope.Agent scope.None = true
is_dropped scope.System scope.None = true
is_dropped old new = false

-- whether it reaches the agent in place of the system
abbrev pub is_lowered : Scope → Scope → Bool
is_lowered scope.System scope.Agent = true
is_lowered old new = false

-- of how many packets a test is true of the head that they had and the one that they have
abbrev pub heads_where : (Head → Head → Bool) → List Head → List Placed → ℕ
heads_where test olds packets = count_by (λ h. test h.0 (head_of h.1.packet)) (zip olds packets)

-- how many parts are there no more, and how many fences reach less far
abbrev pub lowered_of : List Head → List Placed → Lowered
lowered_of olds packets =
    record {
      bits = heads_where (λ old new. old.barrier && not new.barrier) olds packets;
      acquires = heads_where (λ old new. is_dropped old.acquire new.acquire) olds packets;
      releases = heads_where (λ old new. is_dropped old.release new.release) olds packets;
      fences = heads_where (λ old new. is_lowered old.acquire new.acquire) olds packets
          + heads_where (λ old new. is_lowered old.release new.release) olds packets;
    }

-- how much that is
abbrev pub lowered_words : Lowered → List ℕ
lowered_words l = codes "dropped: " ++ decimal l.bits ++ codes " bits, " ++ decimal l.acquires ++ codes " acquires, "
    ++ decimal l.releases ++ codes " releases; " ++ decimal l.fences ++ codes " fences lowered to agent scope"
