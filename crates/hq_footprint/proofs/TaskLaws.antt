-- The laws of tasks.
use Rattle.std.proofs.Common.{◌≡◌, ℕ, zero, suc, ◌+◌, ◌%◌, ◌/◌, ◌<◌, ◌-◌, Bool, true, false, cond, List, [], ◌∷◌, ◌++◌, length, take, drop, reverse, bit_xor, refl, sym, ap, ◌∙◌, subst, arith}
use Rattle.std.specs.Prelude.{All, Some, None, ◌==◌, slice_index}
use Rattle.std.proofs.lemmas.List.{length-take, length-drop, length-replicate, length-reverse, length-append, get_or-reverse}
use Rattle.std.proofs.lemmas.List.Elements.{All-nil, All-cons, All-head, All-tail, All-take, All-drop, All-replicate}
use Rattle.std.proofs.lemmas.Nat.{xor_of_8}
use Rattle.std.proofs.lemmas.List.FromFn.{length-range_with_len}
use Rattle.hq_footprint.specs.declared.footprint.Range.{Range}
use Rattle.hq_footprint.specs.declared.footprint.Work.{Work}
use Rattle.hq_footprint.specs.declared.task.Task.{Task}
use Rattle.hq_footprint.specs.declared.task.Task.TheVariants as task
use Rattle.hq_footprint.specs.declared.task.Code.TheVariants as code
use Rattle.hq_footprint.specs.Bytes.{bytes_of}
use Rattle.hq_footprint.specs.Tasks.{joined_by, little_endian, Suits, SuitsTwo}
use Rattle.hq_footprint.specs.Table.{is_service, store_work, count_work, no_work, work, range, nowhere}
use Rattle.hq_footprint.specs.Laws.{ResultsCounted, ResultsAreBytes, LengthsSuit, KernelsSuit, ServicesSuit}

length-joined_by : (f : ℕ → ℕ → ℕ) (xs ys : List ℕ) (n : ℕ) → length xs ≡ n → length ys ≡ n → length (joined_by f xs ys) ≡ n
length-joined_by f [] ys n ex ey = ex
length-joined_by f (x ∷ xs) [] n ex ey = ey
length-joined_by f (x ∷ xs) (y ∷ ys) zero ex ey = absurd (omega arith)
length-joined_by f (x ∷ xs) (y ∷ ys) (suc n) ex ey = ap suc (length-joined_by f xs ys n (omega arith) (omega arith))

halves : (f : ℕ → ℕ → ℕ) (n : ℕ) (bytes : List ℕ) → length bytes ≡ n + n → length (joined_by f (take n bytes) (drop n bytes)) ≡ n
halves f n bytes e = length-joined_by f (take n bytes) (drop n bytes) n (omega (arith, length-take n bytes)) (omega (arith, length-drop n bytes))

pub results_counted : ResultsCounted
results_counted (task.Fill byte) n bytes s = length-replicate n byte
results_counted task.Copy n bytes s = s
results_counted task.Rev n bytes s = length-reverse bytes ∙ s
results_counted task.Xor n bytes s = halves bit_xor n bytes s
results_counted task.Add n bytes s = halves (λ x y. (x + y) % 256) n bytes s
results_counted task.Sum n bytes s = sym s
results_counted (task.Store64 word) n bytes s = sym s.1
results_counted (task.Count byte) n bytes s = sym s
results_counted task.Nop n bytes s = sym s.1

abbrev IsByte : ℕ → Type 0
IsByte b = b < 256

joined_bytes : (f : ℕ → ℕ → ℕ) → ((x y : ℕ) → x < 256 → y < 256 → f x y < 256) → (xs ys : List ℕ) → All IsByte xs → All IsByte ys → All IsByte (joined_by f xs ys)
joined_bytes f small [] ys ax ay = All-nil IsByte
joined_bytes f small (x ∷ xs) [] ax ay = All-nil IsByte
joined_bytes f small (x ∷ xs) (y ∷ ys) ax ay =
    All-cons IsByte (f x y) (joined_by f xs ys) (small x y (All-head IsByte x xs ax) (All-head IsByte y ys ay))
    (joined_bytes f small xs ys (All-tail IsByte x xs ax) (All-tail IsByte y ys ay))

digits_bytes : (k n : ℕ) → All IsByte (little_endian k n)
digits_bytes zero n = All-nil IsByte
digits_bytes (suc k) n = All-cons IsByte (n % 256) (little_endian k (n / 256)) (omega arith) (digits_bytes k (n / 256))

reversed_bytes : (xs : List ℕ) → All IsByte xs → All IsByte (reverse xs)
reversed_bytes xs all k d lt =
    let e : length (reverse xs) ≡ length xs = length-reverse xs in
    let below : k < length xs = omega arith in
    subst IsByte (sym (get_or-reverse xs k d below)) (all (length xs - 1 - k) d (omega arith))

pub results_are_bytes : ResultsAreBytes
results_are_bytes (task.Fill byte) n bytes fill all = All-replicate IsByte n byte (fill byte refl)
results_are_bytes task.Copy n bytes fill all = all
results_are_bytes task.Rev n bytes fill all = reversed_bytes bytes all
results_are_bytes task.Xor n bytes fill all = joined_bytes bit_xor xor_of_8 (take n bytes) (drop n bytes) (All-take IsByte n bytes all) (All-drop IsByte n bytes all)
results_are_bytes task.Add n bytes fill all = joined_bytes (λ x y. (x + y) % 256) (λ x y lx ly. omega arith) (take n bytes) (drop n bytes) (All-take IsByte n bytes all) (All-drop IsByte n bytes all)
results_are_bytes task.Sum n bytes fill all = digits_bytes 8 _
results_are_bytes (task.Store64 word) n bytes fill all = digits_bytes 8 word
results_are_bytes (task.Count byte) n bytes fill all = digits_bytes 8 _
results_are_bytes task.Nop n bytes fill all = All-nil IsByte

-- ---- the table

two_entries : (p q : Range) → length (bytes_of p ++ (bytes_of q ++ [])) ≡ p.len + q.len
two_entries p q = simp (length-append, length-range_with_len) (omega arith)

same_two : (p q first second : Range) → p ∷ q ∷ [] ≡ first ∷ second ∷ [] → (p ≡ first) × (q ≡ second)
same_two p q first second e = (cc, cc)

each_suits : (t : Task) (p q first second : Range) (n : ℕ) → p ≡ first → q ≡ second → SuitsTwo t p.len q.len n → SuitsTwo t first.len second.len n
each_suits t p q first second n e f s = subst (λ (x : Range). SuitsTwo t x.len second.len n) e (subst (λ (y : Range). SuitsTwo t p.len y.len n) f s)

suit : (p q o : Range) (t : Task) → Suits t (p.len + q.len) o.len → SuitsTwo t p.len q.len o.len → LengthsSuit (work p q o t)
suit p q o t s two = record {
  together = subst (λ (m : ℕ). Suits t m (length (bytes_of o))) (sym (two_entries p q)) (subst (λ (n : ℕ). Suits t (p.len + q.len) n) (sym (length-range_with_len o.at o.len)) s);
  each = λ first second e. let same = same_two p q first second e in each_suits t p q first second o.len same.0 same.1 two;
}

pub kernels_suit : KernelsSuit
kernels_suit code.Fill n a b c = suit nowhere nowhere (range a n) (task.Fill (b % 256)) (omega arith) (omega arith, omega arith)
kernels_suit code.Copy n a b c = suit (range a n) nowhere (range b n) task.Copy (omega arith) (omega arith, omega arith)
kernels_suit code.Rev n a b c = suit (range a n) nowhere (range b n) task.Rev (omega arith) (omega arith, omega arith)
kernels_suit code.Xor n a b c = suit (range a n) (range b n) (range c n) task.Xor (omega arith) (omega arith, omega arith)
kernels_suit code.Add n a b c = suit (range a n) (range b n) (range c n) task.Add (omega arith) (omega arith, omega arith)
kernels_suit code.Sum n a b c = suit (range a n) nowhere (range b 8) task.Sum (omega arith) (omega arith, omega arith)

nothing_suits : LengthsSuit no_work
nothing_suits = suit nowhere nowhere nowhere task.Nop (omega arith, omega arith) ((omega arith, omega arith), omega arith)

store_suits : (word ret : ℕ) → LengthsSuit (store_work word ret)
store_suits word ret = suit nowhere nowhere (range ret 8) (task.Store64 word) (omega arith, omega arith) ((omega arith, omega arith), omega arith)

count_suits : (at len byte ret : ℕ) → LengthsSuit (count_work at len byte ret)
count_suits at len byte ret = either (len == 0) (store_work 0 ret) (work (range at len) nowhere (range ret 8) (task.Count (byte % 256))) (store_suits 0 ret)
    (suit (range at len) nowhere (range ret 8) (task.Count (byte % 256)) (omega arith) (omega arith, omega arith))
  where
    either : (b : Bool) (v w : Work) → LengthsSuit v → LengthsSuit w → LengthsSuit (cond b v w)
    either true v w x y = x
    either false v w x y = y

known_suits : (s z f g : Bool) (a b c w : Work) → LengthsSuit a → LengthsSuit b → LengthsSuit c
    → cond s (Some (cond z c (cond f a (cond g b c)))) None ≡ Some w → LengthsSuit w
known_suits false z f g a b c w pa pb pc e = absurd cc
known_suits true true f g a b c w pa pb pc e = let same : c ≡ w = cc in subst LengthsSuit same pc
known_suits true false true g a b c w pa pb pc e = let same : a ≡ w = cc in subst LengthsSuit same pa
known_suits true false false true a b c w pa pb pc e = let same : b ≡ w = cc in subst LengthsSuit same pb
known_suits true false false false a b c w pa pb pc e = let same : c ≡ w = cc in subst LengthsSuit same pc

pub services_suit : ServicesSuit
services_suit kind args ret w e =
    known_suits (is_service kind) (ret == 0) (kind == 0x8000) (kind == 0x8001) _ _ no_work w
    (store_suits (slice_index args 0) ret) (count_suits (slice_index args 0) (slice_index args 1) (slice_index args 2) ret) nothing_suits e
