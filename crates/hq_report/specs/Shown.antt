-- Packets as `show` prints them.
use Rattle.std.specs.Prelude.{ℕ, Bool, not, List, [], ◌∷◌, ◌++◌, map, filter, codes, ◌==◌, if◌then◌else◌}
use Rattle.std.specs.Fmt.{decimal}
use Rattle.hq_packet.specs.declared.packet.Scope.{Scope}
use Rattle.hq_packet.specs.declared.packet.Scope.TheVariants as scope
use Rattle.hq_packet.specs.declared.packet.Packet.{Packet}
use Rattle.hq_packet.specs.declared.packet.Packet.TheVariants as packet
use Rattle.hq_packet.specs.Parts.{head_of, completion_of}
use Rattle.hq_footprint.specs.declared.footprint.Range.{Range}
use Rattle.hq_tables.specs.declared.rows.Placed.{Placed}

-- the word for a fence's scope
abbrev pub scope_word : Scope → List ℕ
scope_word scope.None = codes "none"
scope_word scope.Agent = codes "agent"
scope_word scope.System = codes "system"

-- the word for a packet's kind
abbrev pub kind_word : Packet → List ℕ
kind_word (packet.Kernel k) = codes "kernel"
kind_word (packet.Agent a) = codes "agent"
kind_word (packet.And b) = codes "and"
kind_word (packet.Or b) = codes "or"

-- texts, each of them behind a comma
abbrev pub behind : List (List ℕ) → List ℕ
behind [] = []
behind (x ∷ xs) = codes "," ++ x ++ behind xs

-- texts with commas between them, or `-` where there is none
abbrev pub joined : List (List ℕ) → List ℕ
joined [] = codes "-"
joined (x ∷ xs) = x ++ behind xs

-- a range as `AT+LEN`
abbrev pub range_text : Range → List ℕ
range_text range = decimal range.at ++ codes "+" ++ decimal range.len

-- the ranges that have a byte
abbrev pub ranges_text : List Range → List ℕ
ranges_text ranges = joined (map range_text (filter (λ r. not (r.len == 0)) ranges))

-- the handles that aren't null
abbrev pub handles_text : List ℕ → List ℕ
handles_text handles = joined (map decimal (filter (λ h. not (h == 0)) handles))

-- one of them: nothing where it is null, and behind a comma where another stands before it
abbrev pub handle_item : Bool → ℕ → List ℕ
handle_item comma handle = if handle == 0 then [] else ((if comma then codes "," else []) ++ decimal handle)

-- what a packet reads and writes
abbrev pub work_text : Placed → List ℕ
work_text p = codes "reads " ++ ranges_text p.work.foot.reads ++ codes " writes " ++ ranges_text
    (p.work.foot.write ∷ [])

-- what a packet does: this work, where it is a kernel or agent packet; else which signals it depends on
abbrev pub doing_of : Packet → List ℕ → List ℕ
doing_of (packet.Kernel k) work = work
doing_of (packet.Agent a) work = work
doing_of (packet.And b) work = codes "deps " ++ handles_text b.deps
doing_of (packet.Or b) work = codes "deps " ++ handles_text b.deps

-- what a packet of a job does: what it reads and writes, or which signals it depends on
abbrev pub doing_text : Placed → List ℕ
doing_text p = doing_of p.packet (work_text p)

-- what a packet's header says, and its completion signal's handle, or 0 for none
abbrev pub head_text : Packet → List ℕ
head_text p =
    let head = head_of p in
    (if head.barrier then codes "bit" else codes "-") ++ codes " " ++ scope_word head.acquire ++ codes " "
    ++ scope_word head.release
    ++ codes " " ++ decimal (completion_of p)

-- a packet apart from its place: its kind, its head, and what it does
abbrev pub placed_text : Placed → List ℕ
placed_text p = kind_word p.packet ++ codes " " ++ head_text p.packet ++ codes " " ++ doing_text p

-- a packet, with its number and its queue's name
abbrev pub packet_text : ℕ → List ℕ → Placed → List ℕ
packet_text number queue p = codes "packet " ++ decimal number ++ codes " " ++ queue ++ codes " " ++ placed_text p
