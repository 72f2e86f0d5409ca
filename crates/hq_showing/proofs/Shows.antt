-- Lines of packets, written one behind another.
use Rattle.std.proofs.Common.{◌≡◌, ℕ, zero, suc, ◌+◌, ◌<◌, List, [], ◌∷◌, ◌++◌, length, take, Option, sym, ap, ◌∙◌, subst, arith, slice_index_or, append-nil, add-one}
use Rattle.std.proofs.lemmas.List.{append_assoc}
use Rattle.std.specs.Io.KnownBytes.{Appends}
use Rattle.hq_tables.specs.declared.rows.Placed.{Placed}
use Rattle.hq_tables.specs.declared.rows.Queue.{Queue}
use Rattle.hq_status.proofs.Appending.{appends_more}
use Rattle.hq_showing.specs.Show.{packets_text, packet_line}

text_next : (queues : List Queue) (n : ℕ) (ps : List Placed) (i : ℕ) (p : Placed) → i < length ps → p ≡ slice_index_or ps i p → packets_text queues n (take (suc i) ps) ≡ packets_text queues n (take i ps) ++ packet_line queues (n + i) p
text_next queues n [] i p l e = absurd (omega arith)
text_next queues n (q ∷ ps) zero p l e =
    let line : packet_line queues n q ≡ packet_line queues (n + 0) p = ap (λ x. packet_line queues n x) (sym e) ∙ ap (λ m. packet_line queues m p) (omega arith) in
    append-nil (packet_line queues n q) ∙ line
text_next queues n (q ∷ ps) (suc i) p l e =
    let more = text_next queues (n + 1) ps i p (omega arith) e in
    let place : n + 1 + i ≡ n + suc i = omega arith in
    ap (λ t. packet_line queues n q ++ t) more
    ∙ sym (append_assoc (packet_line queues n q) (packets_text queues (n + 1) (take i ps)) (packet_line queues (n + 1 + i) p))
    ∙ ap (λ m. (packet_line queues n q ++ packets_text queues (n + 1) (take i ps)) ++ packet_line queues m p) place

pub packets_next : (old mid new : Option (List ℕ)) (queues : List Queue) (ps : List Placed) (i : ℕ) (p : Placed) → Appends old mid (packets_text queues 0 (take i ps)) → i < length ps → p ≡ slice_index_or ps i p → Appends mid new (packet_line queues i p) → Appends old new (packets_text queues 0 (take (i + 1) ps))
packets_next old mid new queues ps i p so_far l e line =
    let zero-add : 0 + i ≡ i = omega arith in
    subst (Appends old new) (sym (ap (λ k. packets_text queues 0 (take k ps)) (add-one i) ∙ text_next queues 0 ps i p l e ∙ ap (λ m. packets_text queues 0 (take i ps) ++ packet_line queues m p) zero-add))
    (appends_more old mid new (packets_text queues 0 (take i ps)) (packet_line queues i p) so_far line)
