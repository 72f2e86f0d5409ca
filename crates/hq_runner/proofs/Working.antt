-- Pieces that go through a body.
use Rattle.std.proofs.Common.{◌≡◌, ℕ, ◌<◌, List, [], ◌∷◌, ◌++◌, length, take, sym, ◌∙◌, ap, subst, arith}
use Rattle.std.specs.Prelude.{slice_index_or}
use Rattle.std.proofs.Math.Seq.{get_or-append_seam, take-append_seam}
use Rattle.std.specs.List.{flat_map}
use Rattle.hq_footprint.specs.declared.footprint.Work.{Work}
use Rattle.hq_footprint.specs.declared.task.Task.{Task}
use Rattle.hq_footprint.specs.declared.task.Task.TheVariants as task
use Rattle.hq_footprint.specs.Counts.{reads_of, writes_of}
use Rattle.hq_footprint.specs.Tasks.{result_of}
use Rattle.hq_ledger.specs.Pieces.{Part}
use Rattle.hq_kernels.specs.Bodies.{Performs, Writes, written}
use Rattle.hq_hall.specs.View.{bytes_among, no_piece, piece_at}
use Rattle.hq_runner.specs.Pieces.{AreFor, IsWorked}

-- the entry behind a list, and what stands before it
at_end : (reads : List Part) (last : Part) (n : ℕ) → length reads ≡ n → slice_index_or (reads ++ last ∷ []) n no_piece ≡ last
at_end reads last n e = subst (λ k. slice_index_or (reads ++ last ∷ []) k no_piece ≡ last) e (get_or-append_seam reads last [] no_piece)

before_end : (reads : List Part) (last : Part) (n : ℕ) → length reads ≡ n → take n (reads ++ last ∷ []) ≡ reads
before_end reads last n e = subst (λ k. take k (reads ++ last ∷ []) ≡ reads) e (take-append_seam reads (last ∷ []))

-- What a task that writes leaves, of pieces of which the written one has so many bytes.
writes_worked : (task : Task) (len : ℕ) (old new reads : List Part) (write : Part) → Writes task old new reads write
    → length (piece_at old (reads_of task)).bytes ≡ len
    → (piece_at new (reads_of task)).bytes ≡ result_of task len (bytes_among task new)
writes_worked task len old new reads write w room =
    let last : piece_at old (reads_of task) ≡ write = ap (λ ps. piece_at ps (reads_of task)) w.before ∙ at_end reads write (reads_of task) w.count in
    let count : length write.bytes ≡ len = ap (λ p. length p.bytes) (sym last) ∙ room in
    let done : piece_at new (reads_of task) ≡ written task reads write = ap (λ ps. piece_at ps (reads_of task)) w.after ∙ at_end reads (written task reads write) (reads_of task) w.count in
    let front : take (reads_of task) new ≡ reads = ap (take (reads_of task)) w.after ∙ before_end reads (written task reads write) (reads_of task) w.count in
    ap (λ p. p.bytes) done
    ∙ ap (λ n. result_of task n (flat_map (λ r. r.bytes) reads)) count
    ∙ ap (λ rs. result_of task len (flat_map (λ r. r.bytes) rs)) (sym front)

performs_worked : (task : Task) (len : ℕ) (old new : List Part) → Performs task old new → 0 < writes_of task
    → length (piece_at old (reads_of task)).bytes ≡ len
    → (piece_at new (reads_of task)).bytes ≡ result_of task len (bytes_among task new)
performs_worked task.Nop len old new p l room = absurd (omega arith)
performs_worked (task.Fill byte) len old new (reads, write, w) l room = writes_worked (task.Fill byte) len old new reads write w room
performs_worked task.Copy len old new (reads, write, w) l room = writes_worked task.Copy len old new reads write w room
performs_worked task.Rev len old new (reads, write, w) l room = writes_worked task.Rev len old new reads write w room
performs_worked task.Xor len old new (reads, write, w) l room = writes_worked task.Xor len old new reads write w room
performs_worked task.Add len old new (reads, write, w) l room = writes_worked task.Add len old new reads write w room
performs_worked task.Sum len old new (reads, write, w) l room = writes_worked task.Sum len old new reads write w room
performs_worked (task.Store64 word) len old new (reads, write, w) l room = writes_worked (task.Store64 word) len old new reads write w room
performs_worked (task.Count byte) len old new (reads, write, w) l room = writes_worked (task.Count byte) len old new reads write w room

-- The pieces that come back from a body of the work's task.
pub worked : (work : Work) (own : Task) (old new : List Part) → AreFor work old → own ≡ work.task → Performs own old new → IsWorked work new
worked work own old new for same p = record {
  bytes = λ l _. performs_worked work.task work.foot.write.len old new (subst (λ t. Performs t old new) same p) l (for.room l);
}
