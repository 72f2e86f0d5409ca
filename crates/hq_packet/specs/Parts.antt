-- What every packet has, whichever its format.
use Rattle.std.specs.Prelude.{ℕ}
use Rattle.hq_packet.specs.declared.packet.Head.{Head}
use Rattle.hq_packet.specs.declared.packet.Kernel.{Kernel}
use Rattle.hq_packet.specs.declared.packet.Packet.{Packet}
use Rattle.hq_packet.specs.declared.packet.Packet.TheVariants as packet

-- the packet's barrier bit, and the scopes of its acquire and its release fence
abbrev pub head_of : Packet → Head
head_of (packet.Kernel k) = k.head
head_of (packet.Agent a) = a.head
head_of (packet.And b) = b.head
head_of (packet.Or b) = b.head

-- the packet with this head, and all else as it was
abbrev pub kernel_with_head : Kernel → Head → Kernel
kernel_with_head k head = record k { head = head }

-- the packet, whichever its format, with this head, and all else as it was
abbrev pub with_head : Packet → Head → Packet
with_head (packet.Kernel k) head = packet.Kernel (kernel_with_head k head)
with_head (packet.Agent a) head = packet.Agent (record a { head = head })
with_head (packet.And b) head = packet.And (record b { head = head })
with_head (packet.Or b) head = packet.Or (record b { head = head })

-- the handle of the completion signal, 0 for none
abbrev pub completion_of : Packet → ℕ
completion_of (packet.Kernel k) = k.completion
completion_of (packet.Agent a) = a.completion
completion_of (packet.And b) = b.completion
completion_of (packet.Or b) = b.completion
