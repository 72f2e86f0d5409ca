-- Heads that are given to a job are its own.
use Rattle.std.proofs.Common.{◌≡◌, List, [], ◌∷◌, length, map, refl, sym, ap, ◌∙◌, arith}
use Rattle.hq_packet.specs.declared.packet.Head.{Head}
use Rattle.hq_packet.specs.declared.packet.Packet as packet
use Rattle.hq_packet.specs.declared.packet.Packet.TheVariants as format
use Rattle.hq_packet.specs.Parts.{head_of, with_head}
use Rattle.hq_lines.proofs.PacketLines.{own_head}
use Rattle.hq_tables.specs.declared.rows.Placed.{Placed}
use Rattle.hq_job.specs.Heads.{placed_with_head, with_heads, OwnHeads, OtherHeads, LastHeads}

own_placed : (p : Placed) → placed_with_head p (head_of p.packet) ≡ p
own_placed p = ap (λ (q : packet.Packet). record p { packet = q }) (sym (own_head p.packet (head_of p.packet) refl))

own_rows : (ps : List Placed) → with_heads ps (map (λ p. head_of p.packet) ps) ≡ ps
own_rows [] = refl
own_rows (p ∷ ps) = ap (λ q. q ∷ with_heads ps (map (λ e. head_of e.packet) ps)) (own_placed p) ∙ ap (λ qs. p ∷ qs) (own_rows ps)

pub own_heads : OwnHeads
own_heads job = ap (λ (ps : List Placed). record job { packets = ps }) (own_rows job.packets)

head_given : (p : packet.Packet) (head : Head) → head_of (with_head p head) ≡ head
head_given (format.Kernel k) head = refl
head_given (format.Agent a) head = refl
head_given (format.And b) head = refl
head_given (format.Or b) head = refl

given : (ps : List Placed) (heads : List Head) → length heads ≡ length ps → map (λ p. head_of p.packet) (with_heads ps heads) ≡ heads
given [] [] e = refl
given [] (head ∷ heads) e = absurd (omega arith)
given (p ∷ ps) [] e = absurd (omega arith)
given (p ∷ ps) (head ∷ heads) e = ap (λ h. h ∷ map (λ q. head_of q.packet) (with_heads ps heads)) (head_given p.packet head) ∙ ap (λ hs. head ∷ hs) (given ps heads (omega arith))

head_again : (p : packet.Packet) (g h : Head) → with_head (with_head p g) h ≡ with_head p h
head_again (format.Kernel k) g h = refl
head_again (format.Agent a) g h = refl
head_again (format.And b) g h = refl
head_again (format.Or b) g h = refl

again : (ps : List Placed) (first second : List Head) → length first ≡ length ps → length second ≡ length ps → with_heads (with_heads ps first) second ≡ with_heads ps second
again [] first second e f = refl
again (p ∷ ps) [] second e f = absurd (omega arith)
again (p ∷ ps) (g ∷ first) [] e f = absurd (omega arith)
again (p ∷ ps) (g ∷ first) (h ∷ second) e f =
    ap (λ (q : packet.Packet). record p { packet = q } ∷ with_heads (with_heads ps first) second) (head_again p.packet g h) ∙ ap (λ qs. placed_with_head p h ∷ qs) (again ps first second (omega arith) (omega arith))

pub other_heads : OtherHeads
other_heads job heads e = given job.packets heads e

pub last_heads : LastHeads
last_heads job first second e f = ap (λ (ps : List Placed). record job { packets = ps }) (again job.packets first second e f)
