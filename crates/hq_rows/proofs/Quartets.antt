-- Rows that are joined four at a time.
use Rattle.std.proofs.Common.{◌≡◌, ◌↔◌, ◌⊎◌, inl, inr, ℕ, ◌+◌, ◌*◌, ◌/◌, ◌%◌, ◌^◌, ◌<◌, ◌≤◌, ◌||◌, List, Bool, length, sym, ◌∙◌, ap, subst, arith, slice_index, bit_or, IsTrue, true, false, refl}
use Rattle.std.specs.Simd.Lanes.{zip2}
use Rattle.std.specs.Global.{Vec}
use Rattle.std.proofs.lemmas.Bool.{cases_eq, cases_lt}
use Rattle.std.proofs.lemmas.Simd.{get_or-zip2, length-zip2}
use Rattle.std.proofs.lemmas.Grind.{same_number_lists}
use Rattle.hq_bits.specs.Bits.{has}
use Rattle.hq_rows.specs.Matrix.{row}
use Rattle.hq_bits.specs.Bits.{Grown}
use Rattle.hq_rows.specs.Uniting.{OfChoice, OfFour, AreUnions, union}
use Rattle.hq_bits.proofs.Sets.{Joined, has_united}
use Rattle.hq_bits.proofs.Words.{grown_united, grown_more}

-- both rows, word by word
abbrev pub both : List ℕ → List ℕ → List ℕ
both a b = zip2 bit_or a b

-- five of them
abbrev pub five : List ℕ → List ℕ → List ℕ → List ℕ → List ℕ → List ℕ
five row a b c d = both (both (both (both row a) b) c) d

both_len : (a b : List ℕ) → length a ≡ length b → length (both a b) ≡ length a
both_len a b e = length-zip2 bit_or a b e

both_at : (a b : List ℕ) (i : ℕ) → length a ≡ length b → i < length a → slice_index (both a b) i ≡ bit_or (slice_index a i) (slice_index b i)
both_at a b i e l = get_or-zip2 bit_or a b i 0 0 0 l (subst (λ n. i < n) e l)

both_joined : (a b : List ℕ) → length a ≡ length b → Joined bit_or a b (both a b)
both_joined a b e = record { len = both_len a b e; same_len = e; words = λ i l. both_at a b i e l }

-- rows of as many words
pub record Even (row a b c d : List ℕ) : Type 0 where
  pub first : length row ≡ length a
  pub second : length row ≡ length b
  pub third : length row ≡ length c
  pub fourth : length row ≡ length d

-- how far the words are joined
pub record FiveUpto (old a b c d : List ℕ) (i : ℕ) (new : List ℕ) : Type 0 where
  pub len : length new ≡ length old
  pub words : (k : ℕ) → k < i → slice_index new k ≡ bit_or (bit_or (bit_or (bit_or (slice_index old k) (slice_index a k)) (slice_index b k)) (slice_index c k)) (slice_index d k)
  pub rest : (k : ℕ) → i ≤ k → slice_index new k ≡ slice_index old k

three_len : (row a b c d : List ℕ) → Even row a b c d → (length (both row a) ≡ length row) × (length (both (both row a) b) ≡ length row) × (length (both (both (both row a) b) c) ≡ length row)
three_len row a b c d e =
    let x = both_len row a e.first in
    let y = both_len (both row a) b (x ∙ e.second) in
    let z = both_len (both (both row a) b) c (y ∙ x ∙ e.third) in
    (x, y ∙ x, z ∙ y ∙ x)

five_at : (row a b c d : List ℕ) (k : ℕ) → Even row a b c d → k < length row → slice_index (five row a b c d) k ≡ bit_or (bit_or (bit_or (bit_or (slice_index row k) (slice_index a k)) (slice_index b k)) (slice_index c k)) (slice_index d k)
five_at row a b c d k e l =
    let n = three_len row a b c d e in
    both_at (both (both (both row a) b) c) d k (n.2 ∙ e.fourth) (omega (arith, n.2, l))
    ∙ ap (λ w. bit_or w (slice_index d k)) (both_at (both (both row a) b) c k (n.1 ∙ e.third) (omega (arith, n.1, l))
    ∙ ap (λ w. bit_or w (slice_index c k)) (both_at (both row a) b k (n.0 ∙ e.second) (omega (arith, n.0, l))
    ∙ ap (λ w. bit_or w (slice_index b k)) (both_at row a k e.first l)))

pub five_done : (old a b c d new : List ℕ) (i : ℕ) → Even old a b c d → length old ≤ i → FiveUpto old a b c d i new → new ≡ five old a b c d
five_done old a b c d new i e high u =
    let n = three_len old a b c d e in
    let len : length (five old a b c d) ≡ length old = both_len (both (both (both old a) b) c) d (n.2 ∙ e.fourth) ∙ n.2 in
    same_number_lists new (five old a b c d) (u.len ∙ sym len) (λ k l. u.words k (omega (arith, l, high, u.len)) ∙ sym (five_at old a b c d k e (omega (arith, l, u.len))))

pub five_grown : (row a b c d : List ℕ) → Even row a b c d → Grown row (five row a b c d)
five_grown row a b c d e =
    let n = three_len row a b c d e in
    let x = both row a in
    let y = both x b in
    let z = both y c in
    grown_more row z (both z d)
    (grown_more row y z (grown_more row x y (grown_united row a x (both_joined row a e.first)) (grown_united x b y (both_joined x b (n.0 ∙ e.second)))) (grown_united y c z (both_joined y c (n.1 ∙ e.third))))
    (grown_united z d (both z d) (both_joined z d (n.2 ∙ e.fourth)))

pub five_has : (row a b c d : List ℕ) (p : ℕ) → Even row a b c d → has (five row a b c d) p ≡ ((((has row p || has a p) || has b p) || has c p) || has d p)
five_has row a b c d p e =
    let n = three_len row a b c d e in
    let x = both row a in
    let y = both x b in
    let z = both y c in
    has_united z d (both z d) p (both_joined z d (n.2 ∙ e.fourth))
    ∙ ap (λ h. h || has d p) (has_united y c z p (both_joined y c (n.1 ∙ e.third))
    ∙ ap (λ h. h || has c p) (has_united x b y p (both_joined x b (n.0 ∙ e.second))
    ∙ ap (λ h. h || has b p) (has_united row a x p (both_joined row a e.first))))

-- ---- four choices

-- four more of what is gone through
gather_four : (Old A B : Type 0) (P : ℕ → Type 0) (i : ℕ) → A ↔ (Old ⊎ ((m : ℕ) × (m < i) × P m)) → B ↔ (A ⊎ (P i ⊎ (P (i + 1) ⊎ (P (i + 2) ⊎ P (i + 3))))) → B ↔ (Old ⊎ ((m : ℕ) × (m < i + 4) × P m))
gather_four Old A B P i h g = (
  λ b. elim (g.0 b) [
    | inl a ↦ elim (h.0 a) [ inl o ↦ inl o | inr x ↦ inr (x.0, let l = x.1 in omega arith, x.2) ]
    | inr y ↦ inr (elim y [
      | inl q ↦ (i, omega arith, q)
      | inr z ↦ elim z [
        | inl q ↦ (i + 1, omega arith, q)
        | inr w ↦ elim w [ inl q ↦ (i + 2, omega arith, q) | inr q ↦ (i + 3, omega arith, q) ]
      ]
    ])
  ],
  λ t. elim t [
    | inl o ↦ g.1 (inl (h.1 (inl o)))
    | inr x ↦ elim (cases_lt x.0 i) [
      | inl low ↦ g.1 (inl (h.1 (inr (x.0, low, x.2))))
      | inr high ↦ elim (cases_eq x.0 i) [
        | inl e ↦ g.1 (inr (inl (subst P e x.2)))
        | inr n ↦ elim (cases_eq x.0 (i + 1)) [
          | inl e ↦ g.1 (inr (inr (inl (subst P e x.2))))
          | inr k ↦ elim (cases_eq x.0 (i + 2)) [
            | inl e ↦ g.1 (inr (inr (inr (inl (subst P e x.2)))))
            | inr j ↦ let e : x.0 ≡ i + 3 = let l = x.1 in omega arith in g.1 (inr (inr (inr (inr (subst P e x.2)))))
          ]
        ]
      ]
    ]
  ],
)

-- the group of a place, and what is taken from it
abbrev pub OfGroup : List (Vec ℕ) → ℕ → ℕ → ℕ → ℕ → Type 0
OfGroup rows place word p group = OfChoice rows (place * 16 + group) (word / 2 ^ (4 * group) % 16) p

-- the choices of four groups of a word
pub groups_more : (Old A B : Type 0) (rows : List (Vec ℕ)) (place word p quarter first second third fourth : ℕ)
    → first ≡ word / 2 ^ (4 * (4 * quarter)) % 16 → second ≡ word / 2 ^ (4 * (4 * quarter + 1)) % 16 → third ≡ word / 2 ^ (4 * (4 * quarter + 2)) % 16 → fourth ≡ word / 2 ^ (4 * (4 * quarter + 3)) % 16
    → A ↔ (Old ⊎ ((group : ℕ) × (group < 4 * quarter) × OfGroup rows place word p group)) → B ↔ (A ⊎ OfFour rows (place * 16 + 4 * quarter) first second third fourth p)
    → B ↔ (Old ⊎ ((group : ℕ) × (group < 4 * (quarter + 1)) × OfGroup rows place word p group))
groups_more Old A B rows place word p quarter first second third fourth e f g h old new =
    let i : ℕ = 4 * quarter in
    let end : i + 4 ≡ 4 * (quarter + 1) = omega arith in
    let one : place * 16 + i + 1 ≡ place * 16 + (i + 1) = omega arith in
    let two : place * 16 + i + 2 ≡ place * 16 + (i + 2) = omega arith in
    let three : place * 16 + i + 3 ≡ place * 16 + (i + 3) = omega arith in
    let P = OfGroup rows place word p in
    let a : OfChoice rows (place * 16 + i) first p ≡ P i = ap (λ c. OfChoice rows (place * 16 + i) c p) e in
    let b : OfChoice rows (place * 16 + i + 1) second p ≡ P (i + 1) = ap (λ k. OfChoice rows k second p) one ∙ ap (λ c. OfChoice rows (place * 16 + (i + 1)) c p) f in
    let c : OfChoice rows (place * 16 + i + 2) third p ≡ P (i + 2) = ap (λ k. OfChoice rows k third p) two ∙ ap (λ c. OfChoice rows (place * 16 + (i + 2)) c p) g in
    let d : OfChoice rows (place * 16 + i + 3) fourth p ≡ P (i + 3) = ap (λ k. OfChoice rows k fourth p) three ∙ ap (λ c. OfChoice rows (place * 16 + (i + 3)) c p) h in
    let all : B ↔ (A ⊎ (P i ⊎ (P (i + 1) ⊎ (P (i + 2) ⊎ P (i + 3))))) =
    subst (λ D. B ↔ (A ⊎ (P i ⊎ (P (i + 1) ⊎ (P (i + 2) ⊎ D))))) d
    (subst (λ C. B ↔ (A ⊎ (P i ⊎ (P (i + 1) ⊎ (C ⊎ OfChoice rows (place * 16 + i + 3) fourth p))))) c
    (subst (λ X. B ↔ (A ⊎ (P i ⊎ (X ⊎ (OfChoice rows (place * 16 + i + 2) third p ⊎ OfChoice rows (place * 16 + i + 3) fourth p))))) b
    (subst (λ X. B ↔ (A ⊎ (X ⊎ (OfChoice rows (place * 16 + i + 1) second p ⊎ (OfChoice rows (place * 16 + i + 2) third p ⊎ OfChoice rows (place * 16 + i + 3) fourth p))))) a new))) in
    subst (λ n. B ↔ (Old ⊎ ((group : ℕ) × (group < n) × P group))) end (gather_four Old A B P i old all)

or_split : (a b : Bool) → IsTrue (a || b) ↔ (IsTrue a ⊎ IsTrue b)
or_split true b = (λ t. inl t, λ t. refl)
or_split false b = (λ t. inr t, λ t. elim t [ inl x ↦ absurd (let y : false ≡ true = x in cc) | inr x ↦ x ])

-- a test that is one of five
pub joined_five : (old a b c d new : Bool) (P Q R S : Type 0) → new ≡ ((((old || a) || b) || c) || d) → IsTrue a ↔ P → IsTrue b ↔ Q → IsTrue c ↔ R → IsTrue d ↔ S
    → IsTrue new ↔ (IsTrue old ⊎ (P ⊎ (Q ⊎ (R ⊎ S))))
joined_five old a b c d new P Q R S e p q r s =
    let w = or_split (((old || a) || b) || c) d in
    let x = or_split ((old || a) || b) c in
    let y = or_split (old || a) b in
    let z = or_split old a in (
      λ n. elim (w.0 (sym e ∙ n)) [
        | inl t ↦ elim (x.0 t) [
          | inl u ↦ elim (y.0 u) [
            | inl v ↦ elim (z.0 v) [ inl o ↦ inl o | inr h ↦ inr (inl (p.0 h)) ]
            | inr h ↦ inr (inr (inl (q.0 h)))
          ]
          | inr h ↦ inr (inr (inr (inl (r.0 h))))
        ]
        | inr h ↦ inr (inr (inr (inr (s.0 h))))
      ],
      λ t. e ∙ w.1 (elim t [
        | inl o ↦ inl (x.1 (inl (y.1 (inl (z.1 (inl o))))))
        | inr f ↦ elim f [
          | inl h ↦ inl (x.1 (inl (y.1 (inl (z.1 (inr (p.1 h)))))))
          | inr g ↦ elim g [
            | inl h ↦ inl (x.1 (inl (y.1 (inr (q.1 h)))))
            | inr k ↦ elim k [ inl h ↦ inl (x.1 (inr (r.1 h))) | inr h ↦ inr (s.1 h) ]
          ]
        ]
      ]),
    )

-- the unions have what a choice takes
pub of_union : (rows : List (Vec ℕ)) (words group choice p : ℕ) (unions : List (List ℕ)) (taken : List ℕ) → AreUnions rows words unions → group < words * 16 → choice < 16 → taken ≡ union unions (group * 16 + choice)
    → IsTrue (has taken p) ↔ OfChoice rows group choice p
of_union rows words group choice p unions taken u g l is = (
  λ h. u.only group choice p g l (subst (λ x. IsTrue (has x p)) is h),
  λ o. subst (λ x. IsTrue (has x p)) (sym is) (u.has_all group choice p g l o),
)
