-- How many heads pass a test at most.
use Rattle.std.proofs.Common.{◌≤◌, Bool, List, length, zip, arith}
use Rattle.std.proofs.lemmas.List.Sums.{count_by-le-length}
use Rattle.std.proofs.lemmas.Slice.Zip.{length-zip}
use Rattle.hq_packet.specs.declared.packet.Head.{Head}
use Rattle.hq_packet.specs.Parts.{head_of}
use Rattle.hq_tables.specs.declared.rows.Placed.{Placed}
use Rattle.hq_plain.specs.Changes.{heads_where}

pub few_where : (test : Head → Head → Bool) (olds : List Head) (packets : List Placed) → heads_where test olds packets ≤ length packets
few_where test olds packets = omega (arith, count_by-le-length (λ h. test h.0 (head_of h.1.packet)) (zip olds packets), length-zip olds packets)
