-- Pieces that are brought back hold what was read.
use Rattle.std.proofs.Common.{◌≡◌, ℕ, zero, suc, ◌+◌, ◌-◌, ◌<◌, inl, inr, List, [], ◌∷◌, ◌++◌, length, take, slice_index, refl, sym, ap, ◌∙◌, arith, Some, Option, unwrap_or, length-append}
use Rattle.std.specs.List.{flat_map}
use Rattle.std.proofs.lemmas.Bool.{cases_lt}
use Rattle.std.proofs.lemmas.List.{append-nil, get_or_append_left, get_or-append_right}
use Rattle.std.proofs.Math.Seq.{take-length}
use Rattle.hq_footprint.specs.declared.footprint.Work.{Work}
use Rattle.hq_footprint.specs.declared.task.Task.{Task}
use Rattle.hq_footprint.specs.declared.task.Task.TheVariants as task
use Rattle.hq_footprint.specs.Counts.{reads_of}
use Rattle.hq_footprint.specs.Tasks.{SuitsTwo}
use Rattle.hq_ledger.specs.Pieces.{Part}
use Rattle.hq_model.specs.Job.{Job, packet}
use Rattle.hq_model.specs.Machine.{State, bytes_read, listed}
use Rattle.hq_model.proofs.Given.{listed_is}
use Rattle.hq_hall.specs.Handing.{first_read, second_read}
use Rattle.hq_hall.specs.View.{ArePieces, bytes_among, piece_at}
use Rattle.hq_hall.proofs.Handed.{reads_few}

-- where a task reads no range, or one alone, the others are empty
no_first : (t : Task) (a b n : ℕ) → SuitsTwo t a b n → reads_of t ≡ 0 → a + b ≡ 0
no_first (task.Fill byte) a b n s e = omega (arith, s.0, s.1)
no_first task.Copy a b n s e = absurd (omega (arith, e))
no_first task.Rev a b n s e = absurd (omega (arith, e))
no_first task.Xor a b n s e = absurd (omega (arith, e))
no_first task.Add a b n s e = absurd (omega (arith, e))
no_first task.Sum a b n s e = absurd (omega (arith, e))
no_first (task.Store64 word) a b n s e = omega (arith, s.0.0, s.1)
no_first (task.Count byte) a b n s e = absurd (omega (arith, e))
no_first task.Nop a b n s e = omega (arith, s.0.0, s.1)

no_second : (t : Task) (a b n : ℕ) → SuitsTwo t a b n → reads_of t ≡ 1 → b ≡ 0
no_second (task.Fill byte) a b n s e = absurd (omega (arith, e))
no_second task.Copy a b n s e = s.1
no_second task.Rev a b n s e = s.1
no_second task.Xor a b n s e = absurd (omega (arith, e))
no_second task.Add a b n s e = absurd (omega (arith, e))
no_second task.Sum a b n s e = s.1
no_second (task.Store64 word) a b n s e = absurd (omega (arith, e))
no_second (task.Count byte) a b n s e = s.1
no_second task.Nop a b n s e = absurd (omega (arith, e))

taken_one : (pieces : List Part) → 0 < length pieces → take 1 pieces ≡ piece_at pieces 0 ∷ []
taken_one [] l = absurd (omega arith)
taken_one (x ∷ xs) l = refl

taken_two : (pieces : List Part) → 1 < length pieces → take 2 pieces ≡ piece_at pieces 0 ∷ piece_at pieces 1 ∷ []
taken_two [] l = absurd (omega arith)
taken_two (x ∷ []) l = absurd (omega arith)
taken_two (x ∷ y ∷ xs) l = refl

-- a list that has what was read, entry by entry
entries : (state : State) (p n : ℕ) (xs : List ℕ) → length xs ≡ n → ((i : ℕ) → i < n → state.read p i ≡ Some (slice_index xs i)) → listed n (λ i. unwrap_or (state.read p i) 0) ≡ xs
entries state p n xs count has =
    listed_is n (λ i. unwrap_or (state.read p i) 0) xs (omega (arith, count)) (λ i l. ap (λ (o : Option ℕ). unwrap_or o 0) (has i l))
    ∙ ap (λ m. take m xs) (sym count) ∙ take-length xs

module _ (job : Job) (state : State) (p : ℕ) (work : Work) (pieces : List Part) (are : ArePieces state p work pieces)
    (total : length (packet job p).reads ≡ (first_read work).len + (second_read work).len)
    (suits : SuitsTwo work.task (first_read work).len (second_read work).len work.foot.write.len) where
  among : (k : ℕ) → reads_of work.task ≡ k → bytes_among work.task pieces ≡ flat_map (λ part. part.bytes) (take k pieces)
  among k e = ap (λ n. flat_map (λ (part : Part). part.bytes) (take n pieces)) e

  none_among : reads_of work.task ≡ 0 → bytes_among work.task pieces ≡ bytes_read job state p
  none_among e =
      let empty = no_first work.task (first_read work).len (second_read work).len work.foot.write.len suits e in
      among 0 e ∙ sym (entries state p (length (packet job p).reads) [] (omega (arith, empty, total)) (λ i l. absurd (omega (arith, l, empty, total))))

  from_none : (i : ℕ) → state.read p i ≡ state.read p (0 + i)
  from_none i = ap (λ k. state.read p k) (omega arith)

  one_among : reads_of work.task ≡ 1 → bytes_among work.task pieces ≡ bytes_read job state p
  one_among e =
      let empty = no_second work.task (first_read work).len (second_read work).len work.foot.write.len suits e in
      let one = are.first (omega (arith, e)) in
      let count = one.is.len in
      among 1 e ∙ ap (λ ps. flat_map (λ (part : Part). part.bytes) ps) (taken_one pieces (omega (arith, are.count, e))) ∙ append-nil (piece_at pieces 0).bytes
      ∙ sym (entries state p (length (packet job p).reads) (piece_at pieces 0).bytes (omega (arith, count, empty, total)) (λ i l. from_none i ∙ one.bytes i (omega (arith, l, empty, total))))

  two_among : reads_of work.task ≡ 2 → bytes_among work.task pieces ≡ bytes_read job state p
  two_among e =
      let one = are.first (omega (arith, e)) in
      let two = are.second (omega (arith, e)) in
      let count = one.is.len in
      let more = two.is.len in
      let a = (piece_at pieces 0).bytes in
      let b = (piece_at pieces 1).bytes in
      let at : (i : ℕ) → i < length (packet job p).reads → state.read p i ≡ Some (slice_index (a ++ b) i) = λ i l. elim (cases_lt i (first_read work).len) [
        | inl low ↦ from_none i ∙ one.bytes i low ∙ ap (λ x. Some x) (sym (get_or_append_left a b 0 i (omega (arith, count, low))))
        | inr high ↦
            ap (λ k. state.read p k) (omega (arith, high)) ∙ two.bytes (i - (first_read work).len) (omega (arith, l, high, total))
            ∙ ap (λ x. Some x) (sym (get_or-append_right a b (first_read work).len i 0 count high))
      ] in
      among 2 e ∙ ap (λ ps. flat_map (λ (part : Part). part.bytes) ps) (taken_two pieces (omega (arith, are.count, e))) ∙ ap (λ xs. a ++ xs) (append-nil b)
      ∙ sym (entries state p (length (packet job p).reads) (a ++ b) (omega (arith, length-append a b, count, more, total)) at)

  -- the bytes of the pieces that are read are what the packet has read
  pub read_among : bytes_among work.task pieces ≡ bytes_read job state p
  read_among = by (reads_of work.task) refl
    where
      by : (k : ℕ) → reads_of work.task ≡ k → bytes_among work.task pieces ≡ bytes_read job state p
      by zero e = none_among e
      by (suc zero) e = one_among e
      by (suc (suc zero)) e = two_among e
      by (suc (suc (suc k))) e = absurd (omega (arith, e, reads_few work.task))
