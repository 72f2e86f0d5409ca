-- Jobs whose packets have other heads: other barrier bits and fence scopes, and nothing else.
use Rattle.std.specs.Prelude.{◌≡◌, ℕ, zero, suc, List, [], ◌∷◌, map, length}
use Rattle.hq_packet.specs.declared.packet.Head.{Head}
use Rattle.hq_packet.specs.Parts.{head_of, with_head}
use Rattle.hq_model.specs.Settings.{no_head}
use Rattle.hq_tables.specs.declared.rows.Placed.{Placed}
use Rattle.hq_job.specs.Value.{JobValue}

-- the packet with this head, and all else as it was
abbrev pub placed_with_head : Placed → Head → Placed
placed_with_head p head = record p { packet = with_head p.packet head }

-- the packets, of which packet p has this head, and all else is as it was
abbrev pub packets_with_head : List Placed → ℕ → Head → List Placed
packets_with_head [] p head = []
packets_with_head (x ∷ xs) zero head = placed_with_head x head ∷ xs
packets_with_head (x ∷ xs) (suc p) head = x ∷ packets_with_head xs p head

-- the job in which packet p has this head, and all else is as it was
abbrev pub job_with_head : JobValue → ℕ → Head → JobValue
job_with_head job p head = record job { packets = packets_with_head job.packets p head }

-- the job in which each packet has this head, and all else is as it was
abbrev pub job_with_each : JobValue → Head → JobValue
job_with_each job head = record job { packets = map (λ p. placed_with_head p head) job.packets }

-- The jobs differ in nothing but heads: without bits and fences they are one value.
abbrev pub SameButHeads : JobValue → JobValue → Type 0
SameButHeads j k = job_with_each j no_head ≡ job_with_each k no_head

-- ---- heads for all packets

-- the packets with these heads, one for each
abbrev pub with_heads : List Placed → List Head → List Placed
with_heads [] heads = []
with_heads (p ∷ ps) [] = p ∷ ps
with_heads (p ∷ ps) (head ∷ heads) = placed_with_head p head ∷ with_heads ps heads

-- the job whose packets have these heads, by number, and all else as it was
abbrev pub job_with_heads : JobValue → List Head → JobValue
job_with_heads job heads = record job { packets = with_heads job.packets heads }

-- the heads of the packets, by number
abbrev pub heads_of : JobValue → List Head
heads_of job = map (λ p. head_of p.packet) job.packets

-- the laws

-- A job with its own heads is itself.
abbrev pub OwnHeads : Type 0
OwnHeads = (job : JobValue) → job_with_heads job (heads_of job) ≡ job

-- A job with other heads, one for each packet, has them.
abbrev pub OtherHeads : Type 0
OtherHeads = (job : JobValue) (heads : List Head) → length heads ≡ length job.packets
    → heads_of (job_with_heads job heads) ≡ heads

-- Of two heads that a packet is given, one behind the other, nothing is left of the first.
abbrev pub LastHeads : Type 0
LastHeads = (job : JobValue) (first second : List Head) → length first ≡ length job.packets
    → length second ≡ length job.packets → job_with_heads (job_with_heads job first) second ≡ job_with_heads job second
