-- Tasks that are done with the pieces of a room.
use Rattle.std.proofs.Common.{◌≡◌, ◌+◌, List, [], ◌∷◌, ◌++◌, length, refl, ap, sym, ◌∙◌, arith}
use Rattle.std.proofs.lemmas.List.{append-nil}
use Rattle.hq_footprint.specs.declared.task.Task.{Task}
use Rattle.hq_footprint.specs.declared.task.Task.TheVariants as task
use Rattle.hq_footprint.specs.Tasks.{result_of}
use Rattle.hq_ledger.specs.Pieces.{Part, with_bytes}
use Rattle.hq_footprint.specs.Counts.{reads_of}
use Rattle.hq_kernels.specs.Bodies.{pieces_of, written, Writes, Performs}

-- what was written behind the pieces that are read
wrote : (task : Task) (reads : List Part) (write new : Part) → length reads ≡ reads_of task → new ≡ written task reads write
    → Writes task (reads ++ write ∷ []) (reads ++ new ∷ []) reads write
wrote task reads write new count is = record { count = count; before = refl; after = ap (λ w. reads ++ w ∷ []) is }

-- a task that has one piece or more does what it writes
performs : (task : Task) (reads : List Part) (write new : Part) → length reads + 1 ≡ pieces_of task → new ≡ written task reads write
    → Performs task (reads ++ write ∷ []) (reads ++ new ∷ [])
performs (task.Fill byte) reads write new count is = (reads, write, wrote (task.Fill byte) reads write new (omega (arith, count)) is)
performs task.Copy reads write new count is = (reads, write, wrote task.Copy reads write new (omega (arith, count)) is)
performs task.Rev reads write new count is = (reads, write, wrote task.Rev reads write new (omega (arith, count)) is)
performs task.Xor reads write new count is = (reads, write, wrote task.Xor reads write new (omega (arith, count)) is)
performs task.Add reads write new count is = (reads, write, wrote task.Add reads write new (omega (arith, count)) is)
performs task.Sum reads write new count is = (reads, write, wrote task.Sum reads write new (omega (arith, count)) is)
performs (task.Store64 word) reads write new count is = (reads, write, wrote (task.Store64 word) reads write new (omega (arith, count)) is)
performs (task.Count byte) reads write new count is = (reads, write, wrote (task.Count byte) reads write new (omega (arith, count)) is)
performs task.Nop reads write new count is = absurd (omega (arith, count))

pub performs_one : (task : Task) (write new : Part) → 1 ≡ pieces_of task → new ≡ with_bytes write (result_of task (length write.bytes) [])
    → Performs task (write ∷ []) (new ∷ [])
performs_one task write new count is = performs task [] write new count is

pub performs_two : (task : Task) (first write new : Part) → 2 ≡ pieces_of task → new ≡ with_bytes write (result_of task (length write.bytes) (first.bytes ++ []))
    → Performs task (first ∷ write ∷ []) (first ∷ new ∷ [])
performs_two task first write new count is = performs task (first ∷ []) write new count is

pub performs_three : (task : Task) (first second write new : Part) → 3 ≡ pieces_of task
    → new ≡ with_bytes write (result_of task (length write.bytes) (first.bytes ++ second.bytes)) → Performs task (first ∷ second ∷ write ∷ []) (first ∷ second ∷ new ∷ [])
performs_three task first second write new count is =
    performs task (first ∷ second ∷ []) write new count (is ∙ ap (λ bytes. with_bytes write (result_of task (length write.bytes) (first.bytes ++ bytes))) (sym (append-nil second.bytes)))
