-- Numbers and citations, both ways.
use Rattle.std.proofs.Common.{◌≡◌, ℕ, ◌^◌, Bool, true, false, cond, List, [], ◌∷◌, Option, Some, None, refl, sym, ap, subst, ◌∙◌, arith, eqb}
use Rattle.std.specs.Prelude.{codes, map, Ok, Err, nat_lt}
use Rattle.std.specs.List.{AllByRecursion}
use Rattle.std.specs.Fmt.{decimal}
use Rattle.std.specs.Str.{bytes_eq}
use Rattle.std.proofs.lemmas.Bool.{ltb-true, lt-ltb, eqb-true, eq-eqb}
use Rattle.hq_text.specs.Ahead.{IsSmall}
use Rattle.hq_text.specs.Numbers.{IsNumber, number_of}
use Rattle.hq_text.proofs.InTurn.{steps, ok_is, word_is, guarded}
use Rattle.hq_text.proofs.NumberLaws.{number_only, number_tells}
use Rattle.hq_certread.specs.declared.fault.CertReason.TheVariants as reason
use Rattle.hq_certtext.specs.Grammar.{IsBelow, IsCited, citation_word}
use Rattle.hq_certtext.proofs.Split.{SmallCited, small_of}
use Rattle.hq_text.specs.InTurn.{◌>>=◌}
use Rattle.hq_certread.specs.LineTests.{small, number_said, next_said, citation_said, below, cited_below, each}

-- the word is the number
pub record Number (word : List ℕ) (n : ℕ) : Type 0 where
  pub spelled : word ≡ decimal n
  pub small : IsSmall n

pub number_ok : (word : List ℕ) (n : ℕ) → number_said word ≡ Ok n → Number word n
unfolding number_said
number_ok word n e = by (number_of word) refl e where
  by : (o : Option ℕ) → o ≡ number_of word → small o ≡ Ok n → Number word n
  by None is e = absurd cc
  by (Some k) is e =
      let g = guarded (nat_lt k (2 ^ 32)) k n reason.Number e in
      let found : IsNumber word k = number_tells word (Some k) is in
      subst (λ (m : ℕ). Number word m) g.1 (record { spelled = found.0; small = ltb-true k (2 ^ 32) g.0 })

pub number_is : (n : ℕ) → IsSmall n → number_said (decimal n) ≡ Ok n
unfolding number_said
number_is n h = rw (number_only (decimal n) n (refl, omega arith), lt-ltb n (2 ^ 32) h) refl

pub record Next (k : ℕ) (word : List ℕ) (n : ℕ) : Type 0 where
  pub spelled : word ≡ decimal k
  pub small : IsSmall k
  pub same : n ≡ k

pub next_ok : (k : ℕ) (word : List ℕ) (n : ℕ) → next_said k word ≡ Ok n → Next k word n
unfolding next_said
next_ok k word n e =
    let s = steps (number_said word) (λ m. cond (eqb m k) (Ok m) (Err reason.Number)) n e in
    let g = guarded (eqb s.value k) s.value n reason.Number s.next in
    let same : s.value ≡ k = eqb-true s.value k g.0 in
    let found = number_ok word s.value s.first in
    record { spelled = found.spelled ∙ ap decimal same; small = subst (λ (m : ℕ). IsSmall m) same found.small; same = sym g.1 ∙ same }

pub next_is : (k : ℕ) → IsSmall k → next_said k (decimal k) ≡ Ok k
unfolding next_said
next_is k h = rw (number_is k h, eq-eqb k k refl) refl

pub record Citation (word : List ℕ) (c : Option ℕ) : Type 0 where
  pub spelled : word ≡ citation_word c
  pub small : SmallCited c

pub citation_ok : (word : List ℕ) (c : Option ℕ) → citation_said word ≡ Ok c → Citation word c
unfolding citation_said
citation_ok word c e = by (bytes_eq word (codes "=")) refl e where
  by : (b : Bool) → bytes_eq word (codes "=") ≡ b → cond b (Ok None) (number_said word >>= λ n. Ok (Some n)) ≡ Ok c → Citation word c
  by true is e = subst (λ (d : Option ℕ). Citation word d) (ok_is None c e) (record { spelled = word_is word (codes "=") is; small = tt })
  by false is e =
      let s = steps (number_said word) (λ n. Ok (Some n)) c e in
      let found = number_ok word s.value s.first in
      subst (λ (d : Option ℕ). Citation word d) (ok_is (Some s.value) c s.next) (record { spelled = found.spelled; small = found.small })

not_a_number : (n : ℕ) → number_said (codes "=") ≡ Ok n → ⊥
unfolding number_said number_of
not_a_number n e = absurd cc

number_not_same : (n : ℕ) (b : Bool) → IsSmall n → bytes_eq (decimal n) (codes "=") ≡ b → b ≡ false
number_not_same n true h e = absurd (not_a_number n (ap number_said (sym (word_is (decimal n) (codes "=") e)) ∙ number_is n h))
number_not_same n false h e = refl

pub citation_is : (c : Option ℕ) → SmallCited c → citation_said (citation_word c) ≡ Ok c
unfolding citation_said
citation_is None h = refl
citation_is (Some n) h = rw (number_not_same n (bytes_eq (decimal n) (codes "=")) h refl, number_is n h) refl

pub below_ok : (limit n m : ℕ) → IsSmall n → below limit n ≡ Ok m → IsBelow limit n × (n ≡ m)
unfolding below
below_ok limit n m h e = let g = guarded (nat_lt n limit) n m reason.Citation e in (record { small = h; below = ltb-true n limit g.0 }, g.1)

pub below_is : (limit n : ℕ) → IsBelow limit n → below limit n ≡ Ok n
unfolding below
below_is limit n h = rw (lt-ltb n limit h.below) refl

pub cited_ok : (limit : ℕ) (c d : Option ℕ) → SmallCited c → cited_below limit c ≡ Ok d → IsCited limit c × (c ≡ d)
cited_ok limit None d h e = (tt, ok_is None d e)
cited_ok limit (Some n) d h e =
    let s = steps (below limit n) (λ m. Ok (Some m)) d e in
    let b = below_ok limit n s.value h s.first in
    (b.0, ap (λ m. Some m) b.1 ∙ ok_is (Some s.value) d s.next)

pub cited_is : (limit : ℕ) (c : Option ℕ) → IsCited limit c → cited_below limit c ≡ Ok c
cited_is limit None h = refl
cited_is limit (Some n) h = rw (below_is limit n h) refl

-- ---- lists of them

pub numbers_ok : (words : List (List ℕ)) (ns : List ℕ) → each number_said words ≡ Ok ns → (words ≡ map decimal ns) × AllByRecursion IsSmall ns
unfolding each
numbers_ok [] ns e = subst (λ (ms : List ℕ). ([] ≡ map decimal ms) × AllByRecursion IsSmall ms) (ok_is [] ns e) (refl, tt)
numbers_ok (word ∷ words) ns e =
    let s = steps (number_said word) _ ns e in
    let t = steps (each number_said words) (λ ys. Ok (s.value ∷ ys)) ns s.next in
    let n = number_ok word s.value s.first in
    let more = numbers_ok words t.value t.first in
    subst (λ (ms : List ℕ). (word ∷ words ≡ map decimal ms) × AllByRecursion IsSmall ms) (ok_is (s.value ∷ t.value) ns t.next)
    (ap (λ w. w ∷ words) n.spelled ∙ ap (λ ws. decimal s.value ∷ ws) more.0, (n.small, more.1))

pub numbers_are : (ns : List ℕ) → AllByRecursion IsSmall ns → each number_said (map decimal ns) ≡ Ok ns
unfolding each
numbers_are [] h = refl
numbers_are (n ∷ ns) h = rw (number_is n h.0, numbers_are ns h.1) refl

pub citations_ok : (words : List (List ℕ)) (cs : List (Option ℕ)) → each citation_said words ≡ Ok cs → (words ≡ map citation_word cs) × AllByRecursion SmallCited cs
unfolding each
citations_ok [] cs e = subst (λ (ds : List (Option ℕ)). ([] ≡ map citation_word ds) × AllByRecursion SmallCited ds) (ok_is [] cs e) (refl, tt)
citations_ok (word ∷ words) cs e =
    let s = steps (citation_said word) _ cs e in
    let t = steps (each citation_said words) (λ ys. Ok (s.value ∷ ys)) cs s.next in
    let n = citation_ok word s.value s.first in
    let more = citations_ok words t.value t.first in
    subst (λ (ds : List (Option ℕ)). (word ∷ words ≡ map citation_word ds) × AllByRecursion SmallCited ds) (ok_is (s.value ∷ t.value) cs t.next)
    (ap (λ w. w ∷ words) n.spelled ∙ ap (λ ws. citation_word s.value ∷ ws) more.0, (n.small, more.1))

pub citations_are : (limit : ℕ) (cs : List (Option ℕ)) → AllByRecursion (IsCited limit) cs → each citation_said (map citation_word cs) ≡ Ok cs
unfolding each
citations_are limit [] h = refl
citations_are limit (c ∷ cs) h = rw (citation_is c (small_of limit c h.0), citations_are limit cs h.1) refl

pub all_ok : (limit : ℕ) (cs ds : List (Option ℕ)) → AllByRecursion SmallCited cs → each (cited_below limit) cs ≡ Ok ds → AllByRecursion (IsCited limit) cs × (cs ≡ ds)
unfolding each
all_ok limit [] ds h e = (tt, ok_is [] ds e)
all_ok limit (c ∷ cs) ds h e =
    let s = steps (cited_below limit c) _ ds e in
    let t = steps (each (cited_below limit) cs) (λ ys. Ok (s.value ∷ ys)) ds s.next in
    let n = cited_ok limit c s.value h.0 s.first in
    let more = all_ok limit cs t.value h.1 t.first in
    ((n.0, more.0), ap (λ d. d ∷ cs) n.1 ∙ ap (λ es. s.value ∷ es) more.1 ∙ ok_is (s.value ∷ t.value) ds t.next)

pub all_are : (limit : ℕ) (cs : List (Option ℕ)) → AllByRecursion (IsCited limit) cs → each (cited_below limit) cs ≡ Ok cs
unfolding each
all_are limit [] h = refl
all_are limit (c ∷ cs) h = rw (cited_is limit c h.0, all_are limit cs h.1) refl
