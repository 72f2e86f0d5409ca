-- Texts that are written in several calls.
use Rattle.std.proofs.Common.{◌≡◌, ◌+◌, ◌<◌, ◌≤◌, ℕ, zero, suc, inl, inr, List, [], ◌++◌, Option, None, Some, ap, refl, sym, subst, arith, ◌∙◌, append_assoc, append-nil, add-one, Result, Ok, Err, OnOk}
use Rattle.std.proofs.lemmas.Bool.{cases_lt}
use Rattle.std.specs.Io.KnownBytes.{Appends}
use Rattle.hq_graph.specs.Graph.{Each, Then, Wrote}

pub appends_more : (a b c : Option (List ℕ)) (xs ys : List ℕ) → Appends a b xs → Appends b c ys → Appends a c (xs ++ ys)
appends_more None b c xs ys p q = tt
appends_more (Some zs) None c xs ys p q = absurd p
appends_more (Some zs) (Some ws) None xs ys p q = absurd q
appends_more (Some zs) (Some ws) (Some vs) xs ys p q = q ∙ ap (λ us. us ++ ys) p ∙ append_assoc zs xs ys

pub appends_nothing : (a : Option (List ℕ)) → Appends a a []
appends_nothing None = tt
appends_nothing (Some xs) = sym (append-nil xs)

-- a text that is so, where it was written
pub so : (a b : Option (List ℕ)) (P : List ℕ → Type 0) (t : List ℕ) → P t → Appends a b t → Wrote a b P
so a b P t p h = record { text = t; says = p; appends = h }

pub so_on : {A E : Type 0} (r : Result A E) (a b : Option (List ℕ)) (P : List ℕ → Type 0) (t : List ℕ) → P t → OnOk r (Appends a b t) → OnOk r (Wrote a b P)
so_on (Ok x) a b P t p h = so a b P t p h
so_on (Err e) a b P t p h = tt

-- nothing is a text that may be so
pub unwritten : (a : Option (List ℕ)) (P : List ℕ → Type 0) → P [] → Wrote a a P
unwritten a P p = so a a P [] p (appends_nothing a)

-- what is so of a text, and what follows from that
pub hence_on : {A E : Type 0} (r : Result A E) (a b : Option (List ℕ)) (P Q : List ℕ → Type 0) → ((t : List ℕ) → P t → Q t) → OnOk r (Wrote a b P) → OnOk r (Wrote a b Q)
hence_on (Ok x) a b P Q f h = record { text = h.text; says = f h.text h.says; appends = h.appends }
hence_on (Err e) a b P Q f h = tt

-- what is written by one call and then by another
pub both : (a b c : Option (List ℕ)) (P Q : List ℕ → Type 0) → Wrote a b P → Wrote b c Q → Wrote a c (Then P Q)
both a b c P Q x y = record {
  text = x.text ++ y.text;
  says = record { ahead = x.text; behind = y.text; first = x.says; second = y.says; joined = refl };
  appends = appends_more a b c x.text y.text x.appends y.appends;
}

pub both_on : {A E : Type 0} (r : Result A E) (a b c : Option (List ℕ)) (P Q : List ℕ → Type 0) → Wrote a b P → OnOk r (Wrote b c Q) → OnOk r (Wrote a c (Then P Q))
both_on (Ok v) a b c P Q x y = both a b c P Q x y
both_on (Err e) a b c P Q x y = tt

-- the texts of the numbers below n
pub each_none : (a : Option (List ℕ)) (P : ℕ → List ℕ → Type 0) → Wrote a a (Each P 0)
each_none a P = unwritten a (Each P 0) refl

pub each_more : (a b c : Option (List ℕ)) (P : ℕ → List ℕ → Type 0) (n : ℕ) → Wrote a b (Each P n) → Wrote b c (P n) → Wrote a c (Each P (n + 1))
each_more a b c P n x y = subst (λ k. Wrote a c (Each P k)) (sym (add-one n)) (both a b c (Each P n) (P n) x y)

pub each_empty : (P : ℕ → List ℕ → Type 0) (n : ℕ) → ((i : ℕ) → P i []) → Each P n []
each_empty P zero h = refl
each_empty P (suc n) h = record { ahead = []; behind = []; first = each_empty P n h; second = h n; joined = refl }

-- numbers that have no text are passed over
pub each_over : (P : ℕ → List ℕ → Type 0) (n m : ℕ) (t : List ℕ) → n ≤ m → ((i : ℕ) → n ≤ i → i < m → P i []) → Each P n t → Each P m t
each_over P n zero t l none h = let z : n ≡ 0 = omega arith in subst (λ k. Each P k t) z h
each_over P n (suc m) t l none h = elim (cases_lt m n) [
  | inl all ↦ let same : n ≡ suc m = omega arith in subst (λ k. Each P k t) same h
  | inr low ↦ record { ahead = t; behind = []; first = each_over P n m t low (λ i from upto. none i from (omega arith)) h; second = none m low (omega arith); joined = sym (append-nil t) }
]

pub each_skipped : (a b : Option (List ℕ)) (P : ℕ → List ℕ → Type 0) (n m : ℕ) → n ≤ m → ((i : ℕ) → n ≤ i → i < m → P i []) → Wrote a b (Each P n) → Wrote a b (Each P m)
each_skipped a b P n m l none x = record { text = x.text; says = each_over P n m x.text l none x.says; appends = x.appends }

-- nothing is written up to the first that has a text
pub each_first : (a : Option (List ℕ)) (P : ℕ → List ℕ → Type 0) (m : ℕ) → ((i : ℕ) → i < m → P i []) → Wrote a a (Each P m)
each_first a P m none = each_skipped a a P 0 m (omega arith) (λ i from upto. none i upto) (each_none a P)

-- one that is written, and those that are passed over behind it
pub each_next : (a b c : Option (List ℕ)) (P : ℕ → List ℕ → Type 0) (n m : ℕ) → Wrote a b (Each P n) → Wrote b c (P n) → n + 1 ≤ m → ((i : ℕ) → n + 1 ≤ i → i < m → P i []) → Wrote a c (Each P m)
each_next a b c P n m x y l none = each_skipped a c P (n + 1) m l none (each_more a b c P n x y)

-- texts behind one another
pub four_parts : (a b c d : List ℕ) → a ++ (b ++ (c ++ d)) ≡ a ++ b ++ c ++ d
four_parts a b c d = sym (append_assoc (a ++ b) c d ∙ append_assoc a b (c ++ d))

pub five_parts : (a b c d e : List ℕ) → a ++ (b ++ (c ++ (d ++ e))) ≡ a ++ b ++ c ++ d ++ e
five_parts a b c d e = sym (append_assoc (a ++ b ++ c) d e ∙ append_assoc (a ++ b) c (d ++ e) ∙ append_assoc a b (c ++ (d ++ e)))
