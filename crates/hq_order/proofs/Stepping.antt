-- Rows and tables that are worked out apart from one another.
use Rattle.std.proofs.Common.{◌≡◌, ℕ, zero, suc, ◌+◌, ◌*◌, ◌<◌, ◌≤◌, ◌↔◌, inl, inr, List, [], ◌∷◌, ◌++◌, length, sym, ◌∙◌, ap, subst, arith, take, drop, append-nil, length-append}
use Rattle.std.specs.Global.{Vec}
use Rattle.std.proofs.lemmas.Bool.{cases_lt}
use Rattle.std.proofs.lemmas.List.{take_all, drop_all}
use Rattle.hq_bits.specs.Bits.{Grown}
use Rattle.hq_bits.specs.declared.TheConstants.{WIDTH, WORDS}
use Rattle.hq_model.specs.Job.{Job}
use Rattle.hq_model.specs.Order.{AwaitsAny}
use Rattle.hq_rows.specs.declared.gathering.Known.{Known}
use Rattle.hq_rows.specs.Matrix.{row, matrix, Marks, IsSquare, Turned, AreTurned}
use Rattle.hq_rows.specs.Uniting.{Stepped, Through}
use Rattle.hq_rows.proofs.Rows.{marked_below, grown_beyond}
use Rattle.hq_rows.proofs.Pushed.{square_grown}
use Rattle.hq_order.specs.Rounds.{Next}
use Rattle.hq_order.specs.Rounds.Next.{by_known, by_either, through as joining}
use Rattle.hq_order.specs.Wide.{Each, IsCopy, IsStep, AreCopies, AreBare, EachTurned}
use Rattle.hq_order.proofs.Closure.{next_within}
use Rattle.hq_order.proofs.Turns.{stepped_next}

-- ---- what is so with each of some rows

pub each_at : (P : ℕ → List ℕ → Type 0) (r : ℕ) (xs : List (Vec ℕ)) → Each P r xs → (i : ℕ) → i < length xs → P (r + i) (row xs i)
each_at P r [] e i low = absurd (omega (arith, low))
each_at P r (x ∷ xs) e zero low = let same : r ≡ r + 0 = omega arith in subst (λ n. P n x.items) same e.0
each_at P r (x ∷ xs) e (suc i) low = let same : r + 1 + i ≡ r + suc i = omega arith in subst (λ n. P n (row xs i)) same (each_at P (r + 1) xs e.1 i (omega (arith, low)))

pub each_push : (P : ℕ → List ℕ → Type 0) (r : ℕ) (xs : List (Vec ℕ)) (x : Vec ℕ) → Each P r xs → P (r + length xs) x.items → Each P r (xs ++ x ∷ [])
each_push P r [] x e h = let same : r + 0 ≡ r = omega arith in (subst (λ n. P n x.items) same h, tt)
each_push P r (y ∷ xs) x e h = let same : r + suc (length xs) ≡ r + 1 + length xs = omega arith in (e.0, each_push P (r + 1) xs x e.1 (subst (λ n. P n x.items) same h))

pub each_join : (P : ℕ → List ℕ → Type 0) (r : ℕ) (xs ys : List (Vec ℕ)) → Each P r xs → Each P (r + length xs) ys → Each P r (xs ++ ys)
each_join P r [] ys e h = let same : r + 0 ≡ r = omega arith in subst (λ n. Each P n ys) same h
each_join P r (x ∷ xs) ys e h = let same : r + suc (length xs) ≡ r + 1 + length xs = omega arith in (e.0, each_join P (r + 1) xs ys e.1 (subst (λ n. Each P n ys) same h))

pub each_split : (P : ℕ → List ℕ → Type 0) (r : ℕ) (xs ys : List (Vec ℕ)) → Each P r (xs ++ ys) → Each P r xs × Each P (r + length xs) ys
each_split P r [] ys e = let same : r ≡ r + 0 = omega arith in (tt, subst (λ n. Each P n ys) same e)
each_split P r (x ∷ xs) ys e =
    let same : r + 1 + length xs ≡ r + suc (length xs) = omega arith in
    let s = each_split P (r + 1) xs ys e.1 in
    ((e.0, s.0), subst (λ n. Each P n ys) same s.1)

pub each_first : (P : ℕ → List ℕ → Type 0) (xs : List (Vec ℕ)) → Each P 0 xs → (i : ℕ) → i < length xs → P i (row xs i)
each_first P xs e i low = let same : 0 + i ≡ i = omega arith in subst (λ n. P n (row xs i)) same (each_at P 0 xs e i low)

-- ---- so it is where they are parted

pub front_of : (known : Known) (r : ℕ) (all xs ys : List (Vec ℕ)) → all ≡ xs ++ ys → AreCopies known r all → AreCopies known r xs
front_of known r all xs ys e h = record {
  few = omega (arith, h.few, ap length e, length-append xs ys);
  each = (each_split (IsCopy known.rows.now) r xs ys (subst (Each (IsCopy known.rows.now) r) e h.each)).0;
}

pub back_of : (known : Known) (r n : ℕ) (all xs ys : List (Vec ℕ)) → all ≡ xs ++ ys → length xs ≡ n → AreCopies known r all → AreCopies known (r + n) ys
back_of known r n all xs ys e len h = record {
  few = omega (arith, h.few, ap length e, length-append xs ys, len);
  each = subst (λ k. Each (IsCopy known.rows.now) (r + k) ys) len (each_split (IsCopy known.rows.now) r xs ys (subst (Each (IsCopy known.rows.now) r) e h.each)).1;
}

pub joined_of : (P : ℕ → List ℕ → Type 0) (r n : ℕ) (xs ys : List (Vec ℕ)) → length xs ≡ n → Each P r xs → Each P (r + n) ys → Each P r (xs ++ ys)
joined_of P r n xs ys len h k = each_join P r xs ys h (subst (λ m. Each P (r + m) ys) (sym len) k)

-- ---- a round, where no packet is a barrier-OR

step_exact : (job : Job) (rows new : List (Vec ℕ)) (p r : ℕ) → length rows ≡ length job.packets → length new ≡ length rows → Each (IsStep rows) 0 new → ((r : ℕ) → AwaitsAny job r → ⊥) → Marks new p r ↔ Next job (Marks rows) p r
step_exact job rows new p r count len each none = (
  λ m.
      let low : r < length new = marked_below new p r m in
      known (((each_first (IsStep rows) new each r low).exact p).0 m),
  λ n.
      let low : r < length new = omega (arith, len, next_within job rows p r count n) in
      ((each_first (IsStep rows) new each r low).exact p).1 (given n),
)
  where
    known : Through rows p r → Next job (Marks rows) p r
    known (inl k) = by_known k
    known (inr x) = joining {m = x.0} x.1 x.2

    given : Next job (Marks rows) p r → Through rows p r
    given (by_known k) = inl k
    given (by_either e) = absurd (none r e.any)
    given (joining {m} k l) = inr (m, k, l)

-- what is known of the rows of the next round
pub record Steps (job : Job) (n : ℕ) (rows new : List (Vec ℕ)) : Type 0 where
  pub square : IsSquare n new
  pub grown : (r : ℕ) → Grown (row rows r) (row new r)
  pub exact : (p r : ℕ) → Marks new p r ↔ Next job (Marks rows) p r
  pub stepped : (renewed : List ℕ) → Stepped rows new renewed

pub steps_are : (job : Job) (n : ℕ) (rows new : List (Vec ℕ)) → n ≡ length job.packets → IsSquare n rows → length new ≡ length rows → Each (IsStep rows) 0 new → ((r : ℕ) → AwaitsAny job r → ⊥) → Steps job n rows new
steps_are job n rows new count square len each none =
    let all : length rows ≡ length job.packets = square.height ∙ count in
    let exact : (p r : ℕ) → Marks new p r ↔ Next job (Marks rows) p r = λ p r. step_exact job rows new p r all len each none in
    let at : (r : ℕ) → r < length new → IsStep rows r (row new r) = λ r low. each_first (IsStep rows) new each r low in
    record {
      square = square_grown n rows new square len (λ r low. (at r (omega (arith, low, len))).grown);
      grown = λ r. elim (cases_lt r (length new)) [
        | inl low ↦ (at r low).grown
        | inr high ↦ grown_beyond rows new r (omega (arith, high, len)) (omega (arith, high))
      ];
      exact = exact;
      stepped = λ renewed. stepped_next job rows new renewed exact (λ p m low k. inr (((at m low).exact p).0 k));
    }

-- ---- tables

pub bare_push : (tables : List (Vec ℕ)) (table : Vec ℕ) → AreBare tables → length table.items ≡ WIDTH * WORDS → AreBare (tables ++ table ∷ [])
bare_push [] table e h = (h, tt)
bare_push (x ∷ tables) table e h = (e.0, bare_push tables table e.1 h)

turned_at : (rounds : List (Vec (Vec ℕ))) (tables : List (Vec ℕ)) → length tables ≤ length rounds → EachTurned rounds tables → (k : ℕ) → k < length tables → Turned (matrix rounds k) (row tables k)
turned_at rounds [] few e k low = absurd (omega (arith, low))
turned_at [] (table ∷ tables) few e k low = absurd (omega (arith, few))
turned_at (rows ∷ rounds) (table ∷ tables) few e zero low = e.0
turned_at (rows ∷ rounds) (table ∷ tables) few e (suc k) low = turned_at rounds tables (omega (arith, few)) e.1 k (omega (arith, low))

pub turned_are : (rounds : List (Vec (Vec ℕ))) (tables : List (Vec ℕ)) → length tables + 1 ≡ length rounds → EachTurned rounds tables → AreTurned rounds tables
turned_are rounds tables len e = record { len = len; each = turned_at rounds tables (omega (arith, len)) e }

-- ---- a vector that was lent as a slice

pub restored : {A : Type 0} (row items : List A) (len : ℕ) → length row ≡ length items → len ≡ length items → take len (row ++ drop (length row) items) ≡ row
restored row items len e f = ap (λ t. take len (row ++ t)) (drop_all (length row) items (omega (arith, e))) ∙ ap (take len) (append-nil row) ∙ take_all len row (omega (arith, e, f))
