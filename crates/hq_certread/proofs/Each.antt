-- A loop that reads each of a list.
use Rattle.std.proofs.Common.{◌≡◌, ℕ, zero, suc, ◌+◌, ◌<◌, ◌≤◌, List, [], ◌∷◌, ◌++◌, length, get_or, drop, refl, sym, ap, ◌∙◌, append_assoc, arith, add-one, append-nil}
use Rattle.std.specs.Prelude.{map, Result, Ok, Err}
use Rattle.std.proofs.lemmas.List.{map-append}
use Rattle.hq_certread.specs.declared.fault.CertReason.{CertReason}
use Rattle.hq_certread.specs.declared.fault.CertReason.TheVariants as reason
use Rattle.hq_certread.specs.Gives.{Fails}
use Rattle.hq_text.specs.InTurn.{◌>>=◌}
use Rattle.hq_certread.specs.LineTests.{each}

-- what was read, and then what the rest gives
abbrev pub with_front : {A : Type 0} → List A → Result (List A) CertReason → Result (List A) CertReason
with_front front r = r >>= λ xs. Ok (front ++ xs)

front_one : {A : Type 0} (front : List A) (y : A) (r : Result (List A) CertReason) → with_front (front ++ y ∷ []) r ≡ with_front front (r >>= λ ys. Ok (y ∷ ys))
front_one front y (Ok xs) = ap (λ ys. Ok ys) (append_assoc front (y ∷ []) xs)
front_one front y (Err f) = refl

cut : {W : Type 0} (xs : List W) (i : ℕ) (d : W) → i < length xs → drop i xs ≡ get_or xs i d ∷ drop (suc i) xs
cut [] i d lt = absurd (omega arith)
cut (x ∷ xs) zero d lt = refl
cut (x ∷ xs) (suc i) d lt = cut xs i d (omega arith)

gone : {W : Type 0} (xs : List W) (i : ℕ) → length xs ≤ i → drop i xs ≡ []
gone [] zero le = refl
gone [] (suc i) le = refl
gone (x ∷ xs) zero le = absurd (omega arith)
gone (x ∷ xs) (suc i) le = gone xs i (omega arith)

each_next : {A B W : Type 0} (f : A → Result B CertReason) (v : W → A) (xs : List W) (i : ℕ) (d : W) (front : List B) (y : B) → i < length xs → f (v (get_or xs i d)) ≡ Ok y
    → with_front (front ++ y ∷ []) (each f (map v (drop (i + 1) xs))) ≡ with_front front (each f (map v (drop i xs)))
unfolding each
each_next f v xs i d front y lt e =
    rw (add-one, cut xs i d lt) (front_one front y (each f (map v (drop (suc i) xs))) ∙ ap (λ r. with_front front (r >>= λ z. each f (map v (drop (suc i) xs)) >>= λ zs. Ok (z ∷ zs))) (sym e))

pub each_fault : {A B W : Type 0} (f : A → Result B CertReason) (v : W → A) (xs : List W) (i : ℕ) (d : W) (front : List B) (e : CertReason) → i < length xs → f (v (get_or xs i d)) ≡ Err e
    → with_front front (each f (map v (drop i xs))) ≡ Err e
unfolding each
each_fault f v xs i d front e lt is = rw (cut xs i d lt) (ap (λ r. with_front front (r >>= λ z. each f (map v (drop (suc i) xs)) >>= λ zs. Ok (z ∷ zs))) is)

pub each_end : {A B W : Type 0} (f : A → Result B CertReason) (v : W → A) (xs : List W) (i : ℕ) (front : List B) → length xs ≤ i → with_front front (each f (map v (drop i xs))) ≡ Ok front
unfolding each
each_end f v xs i front le = rw (gone xs i le) (ap (λ ys. Ok ys) (append-nil front))

-- the same of a list that is read as it stands
plain_next : {A B : Type 0} (f : A → Result B CertReason) (xs : List A) (i : ℕ) (d : A) (front : List B) (y : B) → i < length xs → f (get_or xs i d) ≡ Ok y
    → with_front (front ++ y ∷ []) (each f (drop (i + 1) xs)) ≡ with_front front (each f (drop i xs))
unfolding each
plain_next f xs i d front y lt e =
    rw (add-one, cut xs i d lt) (front_one front y (each f (drop (suc i) xs)) ∙ ap (λ r. with_front front (r >>= λ z. each f (drop (suc i) xs) >>= λ zs. Ok (z ∷ zs))) (sym e))

plain_fault : {A B : Type 0} (f : A → Result B CertReason) (xs : List A) (i : ℕ) (d : A) (front : List B) (e : CertReason) → i < length xs → f (get_or xs i d) ≡ Err e
    → with_front front (each f (drop i xs)) ≡ Err e
unfolding each
plain_fault f xs i d front e lt is = rw (cut xs i d lt) (ap (λ r. with_front front (r >>= λ z. each f (drop (suc i) xs) >>= λ zs. Ok (z ∷ zs))) is)

pub plain_fails : {A B : Type 0} (f : A → Result B CertReason) (xs : List A) (i : ℕ) (d : A) (front : List B) (e : CertReason) (all : Result (List B) CertReason) → i < length xs → Fails e (f (get_or xs i d))
    → with_front front (each f (drop i xs)) ≡ all → Fails e all
plain_fails f xs i d front reason.Word all lt is inv = sym inv ∙ plain_fault f xs i d front reason.Word lt is
plain_fails f xs i d front reason.Number all lt is inv = sym inv ∙ plain_fault f xs i d front reason.Number lt is
plain_fails f xs i d front reason.Citation all lt is inv = sym inv ∙ plain_fault f xs i d front reason.Citation lt is
plain_fails f xs i d front reason.NoEnd all lt is inv = sym inv ∙ plain_fault f xs i d front reason.NoEnd lt is
plain_fails f xs i d front reason.Memory all lt is inv = tt

pub plain_end : {A B : Type 0} (f : A → Result B CertReason) (xs : List A) (i : ℕ) (front : List B) → length xs ≤ i → with_front front (each f (drop i xs)) ≡ Ok front
unfolding each
plain_end f xs i front le = rw (gone xs i le) (ap (λ ys. Ok ys) (append-nil front))

pub fails_if : {Y : Type 0} (e : CertReason) (read : Result Y CertReason) → read ≡ Err e → Fails e read
fails_if reason.Word read is = is
fails_if reason.Number read is = is
fails_if reason.Citation read is = is
fails_if reason.NoEnd read is = is
fails_if reason.Memory read is = tt

pub each_more : {A B W : Type 0} (f : A → Result B CertReason) (v : W → A) (xs : List W) (i : ℕ) (d : W) (front new : List B) (y : B) (all : Result (List B) CertReason) → i < length xs → f (v (get_or xs i d)) ≡ Ok y → new ≡ front ++ y ∷ []
    → with_front front (each f (map v (drop i xs))) ≡ all → with_front new (each f (map v (drop (i + 1) xs))) ≡ all
each_more f v xs i d front new y all lt is made inv =
    ap (λ ys. with_front ys (each f (map v (drop (i + 1) xs)))) made ∙ each_next f v xs i d front y lt is ∙ inv

pub plain_more : {A B X : Type 0} (f : A → Result B CertReason) (v : X → B) (xs : List A) (i : ℕ) (d : A) (front new : List X) (y : X) (all : Result (List B) CertReason) → i < length xs → f (get_or xs i d) ≡ Ok (v y) → new ≡ front ++ y ∷ []
    → with_front (map v front) (each f (drop i xs)) ≡ all → with_front (map v new) (each f (drop (i + 1) xs)) ≡ all
plain_more f v xs i d front new y all lt is made inv =
    ap (λ ys. with_front ys (each f (drop (i + 1) xs))) (ap (map v) made ∙ map-append v front (y ∷ [])) ∙ plain_next f xs i d (map v front) (v y) lt is ∙ inv
