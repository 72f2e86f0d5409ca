-- A list that is grouped stays as it is where it is grouped once more; and keys alone tell how many a group has.
use Rattle.std.proofs.Common.{◌≡◌, ◌≢◌, ℕ, zero, suc, ◌<◌, ◌≤◌, inl, inr, List, [], ◌∷◌, ◌++◌, length, map, refl, sym, ◌∙◌, ap, subst, arith, Bool, true, false, cond, ◌==◌, append-nil}
use Rattle.std.proofs.lemmas.Bool.{cases_eq, cond-true, cond-false, eqb-true, ne_eqb}
use Rattle.std.proofs.lemmas.List.{length-map, map-append}
use Rattle.std.proofs.lemmas.List.Elements.{filter-append}
use Rattle.hq_model.specs.Journal.{numbers}
use Rattle.hq_job.specs.Numbering.{with_key, grouped}
use Rattle.hq_job.proofs.Grouped.{grouped_more}

-- ---- grouped once more

-- all of a group have its key
with_again : {X : Type 0} (key : X → ℕ) (xs : List X) (q : ℕ) → with_key key (with_key key xs q) q ≡ with_key key xs q
with_again key [] q = refl
with_again key (x ∷ xs) q = go (key x == q) refl (with_again key xs q)
  where
    go : (b : Bool) → (key x == q) ≡ b → with_key key (with_key key xs q) q ≡ with_key key xs q → with_key key (cond b (x ∷ with_key key xs q) (with_key key xs q)) q ≡ cond b (x ∷ with_key key xs q) (with_key key xs q)
    go true e h = cond-true (key x == q) (x ∷ with_key key (with_key key xs q) q) (with_key key (with_key key xs q) q) e ∙ ap (λ ys. x ∷ ys) h
    go false e h = h

-- and none has another
with_other : {X : Type 0} (key : X → ℕ) (xs : List X) (q m : ℕ) → q ≢ m → with_key key (with_key key xs m) q ≡ []
with_other key [] q m d = refl
with_other key (x ∷ xs) q m d = go (key x == m) refl (with_other key xs q m d)
  where
    go : (b : Bool) → (key x == m) ≡ b → with_key key (with_key key xs m) q ≡ [] → with_key key (cond b (x ∷ with_key key xs m) (with_key key xs m)) q ≡ []
    go true e h = cond-false (key x == q) (x ∷ with_key key (with_key key xs m) q) (with_key key (with_key key xs m) q) (ne_eqb (key x) q (λ same. d (sym same ∙ eqb-true (key x) m e))) ∙ h
    go false e h = h

-- those that are grouped have lower keys
with_high : {X : Type 0} (key : X → ℕ) (n : ℕ) (xs : List X) (q : ℕ) → n ≤ q → with_key key (grouped key n xs) q ≡ []
with_high key zero xs q l = refl
with_high key (suc n) xs q l =
    ap (λ ys. with_key key ys q) (grouped_more key n xs) ∙ filter-append (λ x. key x == q) (grouped key n xs) (with_key key xs n)
    ∙ ap (λ ys. ys ++ with_key key (with_key key xs n) q) (with_high key n xs q (omega arith)) ∙ with_other key xs q n (λ e. omega (arith, e))

-- a group is among the grouped as it is
with_grouped : {X : Type 0} (key : X → ℕ) (n : ℕ) (xs : List X) (q : ℕ) → q < n → with_key key (grouped key n xs) q ≡ with_key key xs q
with_grouped key zero xs q l = absurd (omega arith)
with_grouped key (suc n) xs q l =
    ap (λ ys. with_key key ys q) (grouped_more key n xs) ∙ filter-append (λ x. key x == q) (grouped key n xs) (with_key key xs n)
    ∙ elim (cases_eq q n) [
      | inl e ↦
          ap (λ ys. ys ++ with_key key (with_key key xs n) q) (with_high key n xs q (omega (arith, e)))
          ∙ subst (λ m. with_key key (with_key key xs m) q ≡ with_key key xs q) e (with_again key xs q)
      | inr d ↦
          ap (λ ys. with_key key (grouped key n xs) q ++ ys) (with_other key xs q n d) ∙ append-nil (with_key key (grouped key n xs) q)
          ∙ with_grouped key n xs q (omega arith)
    ]

pub grouped_again : {X : Type 0} (key : X → ℕ) (n q : ℕ) (xs : List X) → q ≤ n → grouped key q (grouped key n xs) ≡ grouped key q xs
grouped_again key n zero xs l = refl
grouped_again key n (suc q) xs l =
    grouped_more key q (grouped key n xs) ∙ ap (λ ys. ys ++ with_key key (grouped key n xs) q) (grouped_again key n q xs (omega arith))
    ∙ ap (λ ys. grouped key q xs ++ ys) (with_grouped key n xs q (omega arith)) ∙ sym (grouped_more key q xs)

pub firsts_again : {X : Type 0} (key : X → ℕ) (n m : ℕ) (xs : List X) → m ≤ n → map (λ q. length (grouped key q (grouped key n xs))) (numbers m) ≡ map (λ q. length (grouped key q xs)) (numbers m)
firsts_again key n zero xs l = refl
firsts_again key n (suc m) xs l =
    map-append (λ q. length (grouped key q (grouped key n xs))) (numbers m) (m ∷ [])
    ∙ ap (λ ks. ks ++ length (grouped key m (grouped key n xs)) ∷ []) (firsts_again key n m xs (omega arith))
    ∙ ap (λ ys. map (λ q. length (grouped key q xs)) (numbers m) ++ length ys ∷ []) (grouped_again key n m xs (omega arith))
    ∙ sym (map-append (λ q. length (grouped key q xs)) (numbers m) (m ∷ []))

-- ---- by their keys

with_keys : {X : Type 0} (key : X → ℕ) (xs : List X) (q : ℕ) → map key (with_key key xs q) ≡ with_key (λ k. k) (map key xs) q
with_keys key [] q = refl
with_keys key (x ∷ xs) q = go (key x == q) (with_keys key xs q)
  where
    go : (b : Bool) → map key (with_key key xs q) ≡ with_key (λ k. k) (map key xs) q → map key (cond b (x ∷ with_key key xs q) (with_key key xs q)) ≡ cond b (key x ∷ with_key (λ k. k) (map key xs) q) (with_key (λ k. k) (map key xs) q)
    go true h = ap (λ ks. key x ∷ ks) h
    go false h = h

keys_grouped : {X : Type 0} (key : X → ℕ) (n : ℕ) (xs : List X) → map key (grouped key n xs) ≡ grouped (λ k. k) n (map key xs)
keys_grouped key zero xs = refl
keys_grouped key (suc n) xs =
    ap (map key) (grouped_more key n xs) ∙ map-append key (grouped key n xs) (with_key key xs n)
    ∙ ap (λ ks. ks ++ map key (with_key key xs n)) (keys_grouped key n xs) ∙ ap (λ ks. grouped (λ k. k) n (map key xs) ++ ks) (with_keys key xs n)
    ∙ sym (grouped_more (λ k. k) n (map key xs))

pub same_keys : {X : Type 0} (key : X → ℕ) (n : ℕ) (xs ys : List X) → map key xs ≡ map key ys → map key (grouped key n xs) ≡ map key (grouped key n ys)
same_keys key n xs ys e = keys_grouped key n xs ∙ ap (grouped (λ k. k) n) e ∙ sym (keys_grouped key n ys)

same_count : {X : Type 0} (key : X → ℕ) (n : ℕ) (xs ys : List X) → map key xs ≡ map key ys → length (grouped key n xs) ≡ length (grouped key n ys)
same_count key n xs ys e = sym (length-map (grouped key n xs) key) ∙ ap length (same_keys key n xs ys e) ∙ length-map (grouped key n ys) key

pub same_firsts : {X : Type 0} (key : X → ℕ) (n : ℕ) (xs ys : List X) → map key xs ≡ map key ys → map (λ q. length (grouped key q xs)) (numbers n) ≡ map (λ q. length (grouped key q ys)) (numbers n)
same_firsts key n xs ys e = λ i. map (λ q. same_count key q xs ys e i) (numbers n)
