-- Counts of the numbers below one that pass a test, and what a list of bytes in the order of those numbers gives.
use Rattle.std.proofs.Common.{◌≡◌, ℕ, zero, suc, ◌+◌, ◌-◌, ◌<◌, ◌≤◌, ◌≢◌, Bool, true, false, not, inl, inr, List, [], ◌∷◌, length, refl, sym, ◌∙◌, ap, cond, ltb, get_or, set, arith, subst, Some, None, get_or-set_same, get_or-set_other}
use Rattle.std.proofs.lemmas.Bool.{cases_lt, cases_order, cases_Bool, cond-true, cond-false, lt-ltb, le-ltb}
use Rattle.std.proofs.lemmas.List.Edits.{get_or-insert_at, get_or-insert_below, get_or-insert_above, get_or-remove_below, get_or-remove_above}
use Rattle.std.specs.List.{insert, remove}
use Rattle.hq_copies.specs.Edges.{has, IsRising, spans, byte_at}
use Rattle.hq_copies.specs.Copies.{count_below}
use Rattle.hq_copies.proofs.Edges.{has_from, none_before, lower}

bit : Bool → ℕ
bit b = cond b 1 0

pub step_true : (test : ℕ → Bool) (n : ℕ) → test n ≡ true → count_below test (suc n) ≡ count_below test n + 1
step_true test n h = ap (λ k. count_below test n + k) (cond-true {A = ℕ} (test n) 1 0 h)

pub step_false : (test : ℕ → Bool) (n : ℕ) → test n ≡ false → count_below test (suc n) ≡ count_below test n
step_false test n h = let e : count_below test (suc n) ≡ count_below test n + 0 = ap (λ k. count_below test n + k) (cond-false {A = ℕ} (test n) 1 0 h) in omega (arith, e)

-- ---- the spans of edges

span_step : (inside : Bool) (a n : ℕ) → a ≤ n → cond inside (suc n - a) 0 ≡ cond inside (n - a) 0 + cond {A = ℕ} inside 1 0
span_step true a n l = omega arith
span_step false a n l = omega arith

span_none : (inside : Bool) (a : ℕ) → cond inside (a - a) 0 ≡ 0
span_none true a = omega arith
span_none false a = refl

pub spans_before : (inside : Bool) (from e : ℕ) (edges : List ℕ) (n : ℕ) → n < e → spans inside from (e ∷ edges) n ≡ cond inside (n - from) 0
spans_before inside from e edges n l = cond-true (ltb n e) (cond inside (n - from) 0) (cond inside (e - from) 0 + spans (not inside) e edges n) (lt-ltb n e l)

pub spans_from : (inside : Bool) (from e : ℕ) (edges : List ℕ) (n : ℕ) → e ≤ n → spans inside from (e ∷ edges) n ≡ cond inside (e - from) 0 + spans (not inside) e edges n
spans_from inside from e edges n l = cond-false (ltb n e) (cond inside (n - from) 0) (cond inside (e - from) 0 + spans (not inside) e edges n) (le-ltb n e l)

-- no number lies between from and from
spans_none : (inside : Bool) (from : ℕ) (edges : List ℕ) → IsRising (suc from) edges → spans inside from edges from ≡ 0
spans_none inside from [] r = span_none inside from
spans_none inside from (e ∷ edges) r = spans_before inside from e edges from (omega (arith, r.0)) ∙ span_none inside from

abbrev pub flipped : Bool → Bool → Bool
flipped true b = not b
flipped false b = b

pub flipped_not : (a b : Bool) → flipped (not a) b ≡ flipped a (not b)
flipped_not true true = refl
flipped_not true false = refl
flipped_not false true = refl
flipped_not false false = refl

pub flipped_false : (a : Bool) → flipped a false ≡ a
flipped_false true = refl
flipped_false false = refl

spans_step : (inside : Bool) (from : ℕ) (edges : List ℕ) (n : ℕ) → IsRising from edges → from ≤ n → spans inside from edges (suc n) ≡ spans inside from edges n + bit (flipped inside (has edges n))
unfolding bit
spans_step inside from [] n r l = span_step inside from n l ∙ ap (λ b. cond inside (n - from) 0 + cond {A = ℕ} b 1 0) (sym (flipped_false inside))
spans_step inside from (e ∷ edges) n r l = elim (cases_order (suc n) e) [
  | inl same ↦
      let at : spans inside from (e ∷ edges) (suc n) ≡ cond inside (e - from) 0 + spans (not inside) e edges (suc n) = spans_from inside from e edges (suc n) (omega arith) in
      let none : spans (not inside) e edges (suc n) ≡ 0 = ap (λ k. spans (not inside) e edges k) same ∙ spans_none (not inside) e edges r.1 in
      let below : spans inside from (e ∷ edges) n ≡ cond inside (n - from) 0 = spans_before inside from e edges n (omega arith) in
      let more : cond inside (suc n - from) 0 ≡ cond inside (n - from) 0 + cond {A = ℕ} inside 1 0 = span_step inside from n l in
      let turn : cond inside (e - from) 0 ≡ cond inside (suc n - from) 0 = ap (λ k. cond inside (k - from) 0) (sym same) in
      let mark : cond {A = ℕ} (flipped inside (has (e ∷ edges) n)) 1 0 ≡ cond {A = ℕ} inside 1 0 = ap (λ b. cond {A = ℕ} b 1 0) (ap (flipped inside) (none_before (suc n) (e ∷ edges) n (omega arith, r.1) (omega arith)) ∙ flipped_false inside) in
      omega (arith, at, none, below, more, turn, mark)
  | inr d ↦ elim d [
    | inl low ↦
        let below : spans inside from (e ∷ edges) n ≡ cond inside (n - from) 0 = spans_before inside from e edges n (omega arith) in
        let at : spans inside from (e ∷ edges) (suc n) ≡ cond inside (suc n - from) 0 = spans_before inside from e edges (suc n) low in
        let more : cond inside (suc n - from) 0 ≡ cond inside (n - from) 0 + cond {A = ℕ} inside 1 0 = span_step inside from n l in
        let mark : cond {A = ℕ} (flipped inside (has (e ∷ edges) n)) 1 0 ≡ cond {A = ℕ} inside 1 0 = ap (λ b. cond {A = ℕ} b 1 0) (ap (flipped inside) (none_before (suc n) (e ∷ edges) n (omega arith, r.1) (omega arith)) ∙ flipped_false inside) in
        omega (arith, at, below, more, mark)
    | inr high ↦
        let at : spans inside from (e ∷ edges) (suc n) ≡ cond inside (e - from) 0 + spans (not inside) e edges (suc n) = spans_from inside from e edges (suc n) (omega arith) in
        let below : spans inside from (e ∷ edges) n ≡ cond inside (e - from) 0 + spans (not inside) e edges n = spans_from inside from e edges n (omega arith) in
        let more : spans (not inside) e edges (suc n) ≡ spans (not inside) e edges n + cond {A = ℕ} (flipped (not inside) (has edges n)) 1 0 = spans_step (not inside) e edges n (lower e (suc e) edges r.1 (omega arith)) (omega arith) in
        let mark : cond {A = ℕ} (flipped (not inside) (has edges n)) 1 0 ≡ cond {A = ℕ} (flipped inside (has (e ∷ edges) n)) 1 0 = ap (λ b. cond {A = ℕ} b 1 0) (flipped_not inside (has edges n) ∙ ap (flipped inside) (sym (has_from e edges n (omega arith)))) in
        omega (arith, at, below, more, mark)
  ]
]

spans_zero : (edges : List ℕ) → IsRising 0 edges → spans false 0 edges 0 ≡ 0
spans_zero [] r = refl
spans_zero (e ∷ edges) r = elim (cases_lt 0 e) [
  | inl low ↦ spans_before false 0 e edges 0 low
  | inr at ↦
      let first : spans false 0 (e ∷ edges) 0 ≡ 0 + spans true e edges 0 = spans_from false 0 e edges 0 at in
      let none : spans true e edges e ≡ 0 = spans_none true e edges r.1 in
      let same : e ≡ 0 = omega arith in
      let there : spans true e edges 0 ≡ spans true e edges e = ap (spans true e edges) (sym same) in
      omega (arith, first, none, there)
]

-- the spans are the count
pub spans_count : (edges : List ℕ) (n : ℕ) → IsRising 0 edges → spans false 0 edges n ≡ count_below (has edges) n
unfolding bit
spans_count edges zero r = spans_zero edges r
spans_count edges (suc n) r = spans_step false 0 edges n r (omega arith) ∙ ap (λ k. k + cond {A = ℕ} (has edges n) 1 0) (spans_count edges n r)

-- ---- counts

pub count_step : (test : ℕ → Bool) (n : ℕ) → (count_below test n ≤ count_below test (suc n)) × (count_below test (suc n) ≤ count_below test n + 1)
count_step test n = elim (cases_Bool (test n)) [
  | inl h ↦ let e = step_true test n h in (omega (arith, e), omega (arith, e))
  | inr h ↦ let e = step_false test n h in (omega (arith, e), omega (arith, e))
]

pub count_mono : (test : ℕ → Bool) (m n : ℕ) → m ≤ n → count_below test m ≤ count_below test n
count_mono test m zero l = let e : m ≡ 0 = omega arith in let same : count_below test m ≡ count_below test 0 = ap (count_below test) e in omega (arith, same)
count_mono test m (suc n) l = elim (cases_lt n m) [
  | inl h ↦ let e : m ≡ suc n = omega arith in let same : count_below test m ≡ count_below test (suc n) = ap (count_below test) e in omega (arith, same)
  | inr h ↦ omega (arith, count_mono test m n h, (count_step test n).0)
]

count_most : (test : ℕ → Bool) (m k : ℕ) → count_below test (m + k) ≤ count_below test m + k
count_most test m zero = let e : m + 0 ≡ m = omega arith in let same : count_below test (m + 0) ≡ count_below test m = ap (count_below test) e in omega (arith, same)
count_most test m (suc k) =
    let e : m + suc k ≡ suc (m + k) = omega arith in
    let same : count_below test (m + suc k) ≡ count_below test (suc (m + k)) = ap (count_below test) e in
    omega (arith, same, (count_step test (m + k)).1, count_most test m k)

count_at_most : (test : ℕ → Bool) (m n : ℕ) → m ≤ n → count_below test n ≤ count_below test m + (n - m)
count_at_most test m n l = let e : m + (n - m) ≡ n = omega arith in subst (λ k. count_below test k ≤ count_below test m + (n - m)) e (count_most test m (n - m))

-- where as many numbers pass as there are, each does
pub all_held : (test : ℕ → Bool) (start k : ℕ) → count_below test (start + k) ≡ count_below test start + k → (n : ℕ) → start ≤ n → n < start + k → test n ≡ true
all_held test start k e n l h = elim (cases_Bool (test n)) [
  | inl passes ↦ passes
  | inr fails ↦ absurd (omega (arith, e, step_false test n fails, count_at_most test start n l, count_at_most test (suc n) (start + k) h))
]

-- a number that passes has a place of its own
pub count_less : (test : ℕ → Bool) (m n : ℕ) → test m ≡ true → m < n → count_below test m < count_below test n
count_less test m n h l = omega (arith, step_true test m h, count_mono test (suc m) n (omega arith))

pub count_same : (f g : ℕ → Bool) (n : ℕ) → ((m : ℕ) → m < n → g m ≡ f m) → count_below g n ≡ count_below f n
count_same f g zero same = refl
count_same f g (suc n) same =
    ap (λ k. k + cond {A = ℕ} (g n) 1 0) (count_same f g n (λ m l. same m (omega arith))) ∙ ap (λ b. count_below f n + cond {A = ℕ} b 1 0) (same n (omega arith))

-- g passes what f passes, and b
pub record OneMore (f g : ℕ → Bool) (b : ℕ) : Type 0 where
  pub before : f b ≡ false
  pub after : g b ≡ true
  pub others : (n : ℕ) → n ≢ b → g n ≡ f n

pub more_below : (f g : ℕ → Bool) (b n : ℕ) → OneMore f g b → n ≤ b → count_below g n ≡ count_below f n
more_below f g b n o l = count_same f g n (λ m h. o.others m (λ e. absurd (omega arith)))

pub more_above : (f g : ℕ → Bool) (b n : ℕ) → OneMore f g b → b < n → count_below g n ≡ count_below f n + 1
more_above f g b zero o l = absurd (omega arith)
more_above f g b (suc n) o l = elim (cases_order n b) [
  | inl same ↦
      let e : count_below g (suc b) ≡ count_below f b + 1 = step_true g b o.after ∙ ap (λ k. k + 1) (more_below f g b b o (omega arith)) in
      let d : count_below f (suc b) ≡ count_below f b = step_false f b o.before in
      let at : count_below g (suc n) ≡ count_below g (suc b) = ap (λ k. count_below g (suc k)) same in
      let bt : count_below f (suc n) ≡ count_below f (suc b) = ap (λ k. count_below f (suc k)) same in
      omega (arith, e, d, at, bt)
  | inr d ↦ elim d [
    | inl low ↦ absurd (omega arith)
    | inr high ↦
        let e : count_below g (suc n) ≡ count_below g n + cond {A = ℕ} (f n) 1 0 = ap (λ b. count_below g n + cond {A = ℕ} b 1 0) (o.others n (λ e. absurd (omega arith))) in
        omega (arith, e, more_above f g b n o high)
  ]
]

-- ---- bytes

pub at_true : (test : ℕ → Bool) (bytes : List ℕ) (n : ℕ) → test n ≡ true → byte_at test bytes n ≡ Some (get_or bytes (count_below test n) 0)
at_true test bytes n h = cond-true (test n) (Some (get_or bytes (count_below test n) 0)) None h

pub at_false : (test : ℕ → Bool) (bytes : List ℕ) (n : ℕ) → test n ≡ false → byte_at test bytes n ≡ None
at_false test bytes n h = cond-false (test n) (Some (get_or bytes (count_below test n) 0)) None h

-- the test decides at a number that isn't b alike, and the byte's place gives the same byte
pub at_other : (f g : ℕ → Bool) (old new : List ℕ) (n : ℕ) → g n ≡ f n → (f n ≡ true → get_or new (count_below g n) 0 ≡ get_or old (count_below f n) 0) → byte_at g new n ≡ byte_at f old n
at_other f g old new n same there = elim (cases_Bool (f n)) [
  | inl h ↦ at_true g new n (same ∙ h) ∙ ap Some (there h) ∙ sym (at_true f old n h)
  | inr h ↦ at_false g new n (same ∙ h) ∙ sym (at_false f old n h)
]

pub inserted_same : (f g : ℕ → Bool) (bytes : List ℕ) (b v : ℕ) → OneMore f g b → count_below f b ≤ length bytes → byte_at g (insert bytes (count_below f b) v) b ≡ Some v
inserted_same f g bytes b v o l =
    at_true g (insert bytes (count_below f b) v) b o.after ∙ ap Some (ap (λ k. get_or (insert bytes (count_below f b) v) k 0) (more_below f g b b o (omega arith)) ∙ get_or-insert_at bytes (count_below f b) v 0 l)

pub inserted_other : (f g : ℕ → Bool) (bytes : List ℕ) (b v n : ℕ) → OneMore f g b → count_below f b ≤ length bytes → n ≢ b → byte_at g (insert bytes (count_below f b) v) n ≡ byte_at f bytes n
inserted_other f g bytes b v n o l d = at_other f g bytes (insert bytes (count_below f b) v) n (o.others n d) (λ h. elim (cases_order n b) [
  | inl same ↦ absurd (d same)
  | inr c ↦ elim c [
    | inl low ↦ ap (λ k. get_or (insert bytes (count_below f b) v) k 0) (more_below f g b n o (omega arith)) ∙ get_or-insert_below bytes (count_below f b) v 0 (count_below f n) (count_less f n b h low) l
    | inr high ↦ ap (λ k. get_or (insert bytes (count_below f b) v) k 0) (more_above f g b n o high) ∙ get_or-insert_above bytes (count_below f b) v 0 (count_below f n) (count_mono f b n (omega arith)) l
  ]
])

-- f passes b, and g doesn't: the byte leaves
pub removed_same : (f g : ℕ → Bool) (bytes : List ℕ) (b : ℕ) → OneMore g f b → byte_at g (remove bytes (count_below f b)) b ≡ None
removed_same f g bytes b o = at_false g (remove bytes (count_below f b)) b o.before

pub removed_other : (f g : ℕ → Bool) (bytes : List ℕ) (b n : ℕ) → OneMore g f b → count_below f b < length bytes → n ≢ b → byte_at g (remove bytes (count_below f b)) n ≡ byte_at f bytes n
removed_other f g bytes b n o l d = at_other f g bytes (remove bytes (count_below f b)) n (sym (o.others n d)) (λ h. elim (cases_order n b) [
  | inl same ↦ absurd (d same)
  | inr c ↦ elim c [
    | inl low ↦ ap (λ k. get_or (remove bytes (count_below f b)) k 0) (sym (more_below g f b n o (omega arith))) ∙ get_or-remove_below bytes (count_below f b) 0 (count_below f n) (count_less f n b h low) l
    | inr high ↦
        let e : count_below f n ≡ count_below g n + 1 = more_above g f b n o high in
        let past : count_below f b < count_below f n = count_less f b n o.after high in
        get_or-remove_above bytes (count_below f b) 0 (count_below g n) (omega arith) l ∙ ap (λ k. get_or bytes k 0) (sym e)
  ]
])

pub written_same : (f : ℕ → Bool) (bytes : List ℕ) (b v : ℕ) → f b ≡ true → count_below f b < length bytes → byte_at f (set bytes (count_below f b) v) b ≡ Some v
written_same f bytes b v h l = at_true f (set bytes (count_below f b) v) b h ∙ ap Some (get_or-set_same bytes (count_below f b) v 0 l)

pub written_other : (f : ℕ → Bool) (bytes : List ℕ) (b v n : ℕ) → f b ≡ true → n ≢ b → byte_at f (set bytes (count_below f b) v) n ≡ byte_at f bytes n
written_other f bytes b v n h d = at_other f f bytes (set bytes (count_below f b) v) n refl (λ g. get_or-set_other bytes (count_below f b) (count_below f n) v 0 (apart g))
  where
    apart : f n ≡ true → count_below f n ≢ count_below f b
    apart g = elim (cases_order n b) [
      | inl same ↦ absurd (d same)
      | inr c ↦ elim c [
        | inl low ↦ λ e. absurd (omega (arith, count_less f n b g low, e))
        | inr high ↦ λ e. absurd (omega (arith, count_less f b n h high, e))
      ]
    ]
