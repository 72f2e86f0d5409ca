-- What stands before some packets, taken in four at a time.
use Rattle.std.proofs.Common.{◌≡◌, ◌↔◌, ℕ, ◌-◌, ◌/◌, ◌%◌, ◌+◌, ◌*◌, ◌^◌, ◌<◌, ◌≤◌, ◌⊎◌, ◌&&◌, ◌==◌, inl, inr, List, [], ◌∷◌, ◌++◌, suc, map, length, length-append, slice_index_or, refl, sym, ◌∙◌, ap, subst, arith, IsTrue, Bool, true, false, not}
use Rattle.std.specs.Global.{Vec}
use Rattle.std.specs.Int.{bit_at}
use Rattle.std.proofs.lemmas.Bool.{cases_lt, eq-eqb, eqb-true}
use Rattle.std.proofs.lemmas.Nat.{div-add-mod', pow_pos}
use Rattle.std.proofs.Math.Nat.{mod-lt}
use Rattle.std.proofs.lemmas.Nat.Bits.{bit_at-zero, bit_at_above, bit_at_cat_low, bit_at_cat_high}
use Rattle.hq_bits.specs.Bits.{has}
use Rattle.hq_rows.specs.Matrix.{row, Marks, matrix, last, earlier}
use Rattle.hq_bits.specs.declared.TheConstants.{WORDS}
use Rattle.hq_rows.specs.Uniting.{OfChoice, AreUnions, Through, Stepped, Unites, is_fresh, union}
use Rattle.hq_rows.proofs.Pushed.{below_pushed}
use Rattle.hq_bits.proofs.Words.{and_both, past, within}
use Rattle.hq_rows.proofs.Rows.{marked_below}

-- ---- choices

pub bit_low : (choice bit : ℕ) → choice < 16 → bit_at choice bit ≡ 1 → bit < 4
bit_low choice bit l one = elim (cases_lt bit 4) [
  | inl low ↦ low
  | inr high ↦ let z : bit_at choice bit ≡ 0 = bit_at_above choice 4 bit (omega arith) high in absurd (omega arith)
]

-- ---- the groups of a word

-- the packets of a word
abbrev pub OfBits : List (Vec ℕ) → ℕ → ℕ → ℕ → Type 0
OfBits rows place word p = (bit : ℕ) × (bit < 64) × (bit_at word bit ≡ 1) × Marks rows p (place * 64 + bit)

cut : (word k : ℕ) → word / 2 ^ k * 2 ^ k + word % 2 ^ k ≡ word
cut word k = div-add-mod' word (2 ^ k)

cut_low : (word k : ℕ) → word % 2 ^ k < 2 ^ k
cut_low word k = mod-lt word (pow_pos k)

by_four : (x : ℕ) → x / 16 * 2 ^ 4 + x % 16 ≡ x
by_four x = omega arith

pub group_bit : (word group bit : ℕ) → bit < 4 → bit_at (word / 2 ^ (4 * group) % 16) bit ≡ bit_at word (4 * group + bit)
group_bit word group bit l =
    let k : ℕ = 4 * group in
    let x : ℕ = word / 2 ^ k in
    let less : k + bit - k ≡ bit = omega arith in
    sym (bit_at_cat_low (x / 16) 4 (x % 16) bit l) ∙ ap (λ w. bit_at w bit) (by_four x) ∙ sym (ap (bit_at x) less)
    ∙ sym (bit_at_cat_high x k (word % 2 ^ k) (k + bit) (cut_low word k) (omega arith)) ∙ ap (λ w. bit_at w (k + bit)) (cut word k)

pub word_done : (Old A : Type 0) (rows : List (Vec ℕ)) (place word p i : ℕ) → 16 ≤ i → i ≤ 16
    → A ↔ (Old ⊎ ((group : ℕ) × (group < i) × OfChoice rows (place * 16 + group) (word / 2 ^ (4 * group) % 16) p)) → A ↔ (Old ⊎ OfBits rows place word p)
word_done Old A rows place word p i high most h = (
  λ a. elim (h.0 a) [
    | inl o ↦ inl o
    | inr x ↦
        let group : ℕ = x.0 in
        let o = x.2 in
        let bit : ℕ = o.0 in
        let low : bit < 4 = o.1 in
        let below : group < i = x.1 in
        let same : (place * 16 + group) * 4 + bit ≡ place * 64 + (4 * group + bit) = omega arith in
        inr (4 * group + bit, omega arith, sym (group_bit word group bit low) ∙ o.2, subst (Marks rows p) same o.3)
  ],
  λ t. elim t [
    | inl o ↦ h.1 (inl o)
    | inr x ↦
        let bit : ℕ = x.0 in
        let low : bit < 64 = x.1 in
        let whole : bit ≡ 4 * (bit / 4) + bit % 4 = omega arith in
        let same : place * 64 + bit ≡ (place * 16 + bit / 4) * 4 + bit % 4 = omega arith in
        h.1 (inr (bit / 4, omega arith, (bit % 4, omega arith, group_bit word (bit / 4) (bit % 4) (omega arith) ∙ ap (bit_at word) (sym whole) ∙ x.2, subst (Marks rows p) same x.3)))
  ],
)

-- ---- what is fresh

-- the packets of a word of the row that are fresh
abbrev pub OfFresh : List (Vec ℕ) → (ℕ → Bool) → ℕ → ℕ → Type 0
OfFresh rows fresh p place = (bit : ℕ) × (bit < 64) × IsTrue (fresh (place * 64 + bit)) × Marks rows p (place * 64 + bit)

pub fresh_bits : (rows : List (Vec ℕ)) (fresh : ℕ → Bool) (place word p : ℕ) (A B : Type 0) → ((bit : ℕ) → bit < 64 → (bit_at word bit == 1) ≡ fresh (place * 64 + bit)) → B ↔ (A ⊎ OfBits rows place word p) → B ↔ (A ⊎ OfFresh rows fresh p place)
fresh_bits rows fresh place word p A B same h = (
  λ b. elim (h.0 b) [ inl a ↦ inl a | inr o ↦ inr (o.0, o.1, sym (same o.0 o.1) ∙ eq-eqb (bit_at word o.0) 1 o.2, o.3) ],
  λ t. elim t [ inl a ↦ h.1 (inl a) | inr o ↦ h.1 (inr (o.0, o.1, eqb-true (bit_at word o.0) 1 (same o.0 o.1 ∙ o.2), o.3)) ],
)

-- the bits of a word, each gone through
pub bits_of_all : (Old A : Type 0) (rows : List (Vec ℕ)) (place word p : ℕ) → A ↔ (Old ⊎ ((bit : ℕ) × (bit < 64) × (IsTrue (bit_at word bit == 1) × Marks rows p (place * 64 + bit)))) → A ↔ (Old ⊎ OfBits rows place word p)
bits_of_all Old A rows place word p h = (
  λ a. elim (h.0 a) [ inl o ↦ inl o | inr x ↦ inr (x.0, x.1, eqb-true (bit_at word x.0) 1 x.2.0, x.2.1) ],
  λ t. elim t [ inl o ↦ h.1 (inl o) | inr x ↦ h.1 (inr (x.0, x.1, (eq-eqb (bit_at word x.0) 1 x.2, x.3))) ],
)

pub fresh_none : (rows : List (Vec ℕ)) (fresh : ℕ → Bool) (place word p : ℕ) → word ≡ 0 → ((bit : ℕ) → bit < 64 → (bit_at word bit == 1) ≡ fresh (place * 64 + bit)) → OfFresh rows fresh p place → ⊥
fresh_none rows fresh place word p z same o =
    let one : bit_at word o.0 ≡ 1 = eqb-true (bit_at word o.0) 1 (same o.0 o.1 ∙ o.2) in
    let none : bit_at word o.0 ≡ 0 = ap (λ w. bit_at w o.0) z ∙ bit_at-zero o.0 in
    omega arith

pub fresh_done : (Old A : Type 0) (rows : List (Vec ℕ)) (set earlier renewed : List ℕ) (p i : ℕ) → length set ≤ i
    → A ↔ (Old ⊎ ((place : ℕ) × (place < i) × OfFresh rows (is_fresh set earlier renewed) p place)) → A ↔ (Old ⊎ ((m : ℕ) × Marks rows p m × IsTrue (is_fresh set earlier renewed m)))
fresh_done Old A rows set earlier renewed p i all h = (
  λ a. elim (h.0 a) [ inl o ↦ inl o | inr x ↦ let o = x.2 in inr (x.0 * 64 + o.0, o.3, o.2) ],
  λ t. elim t [
    | inl o ↦ h.1 (inl o)
    | inr x ↦
        let m : ℕ = x.0 in
        let there : m / 64 < length set = within set m ((and_both (has set m) (not (has earlier m && not (has renewed m)))).0 x.2).0 in
        let whole : m ≡ m / 64 * 64 + m % 64 = omega arith in
        h.1 (inr (m / 64, omega arith, (m % 64, omega arith, subst (λ k. IsTrue (is_fresh set earlier renewed k)) whole x.2, subst (Marks rows p) whole x.1)))
  ],
)

-- all are fresh where nothing was there
pub all_fresh : (set : List ℕ) (m : ℕ) → IsTrue (is_fresh set [] [] m) ↔ IsTrue (has set m)
all_fresh set m =
    let none : has [] m ≡ false = past [] m (omega arith) in
    let all : not (has [] m && not (has [] m)) ≡ true = ap (λ b. not (b && not b)) none in
    let both = and_both (has set m) (not (has [] m && not (has [] m))) in
    (λ h. (both.0 h).0, λ h. both.1 (h, all))

-- ---- from round to round

-- what two rows give comes by a fresh packet, or is there
pub through_fresh : (earlier rows : List (Vec ℕ)) (renewed : List ℕ) (p r : ℕ) → Stepped earlier rows renewed
    → (Marks rows p r ⊎ ((m : ℕ) × Marks rows p m × IsTrue (is_fresh (row rows r) (row earlier r) renewed m))) ↔ Through rows p r
through_fresh earlier rows renewed p r s = (
  λ t. elim t [
    | inl k ↦ inl k
    | inr x ↦ inr (x.0, x.1, ((and_both (has (row rows r) x.0) (not (has (row earlier r) x.0 && not (has renewed x.0)))).0 x.2).0)
  ],
  λ t. elim t [ inl k ↦ inl k | inr x ↦ back x.0 x.1 x.2 ],
)
  where
    fresh : (a b c : Bool) → IsTrue a → IsTrue (a && not (b && not c)) ⊎ (IsTrue b × (c ≡ false))
    fresh true true true h = inl refl
    fresh true true false h = inr (refl, refl)
    fresh true false c h = inl refl
    fresh false b c h = absurd (cc)

    is_new : (x : ℕ) → Marks rows x r → IsTrue (is_fresh (row rows r) (row earlier r) renewed x) ⊎ (Marks earlier x r × (has renewed x ≡ false))
    is_new x k = fresh (has (row rows r) x) (has (row earlier r) x) (has renewed x) k

    back : (m : ℕ) → Marks rows p m → Marks rows m r → Marks rows p r ⊎ ((m : ℕ) × Marks rows p m × IsTrue (is_fresh (row rows r) (row earlier r) renewed m))
    back m k l = elim (is_new m l) [
      | inl f ↦ inr (m, k, f)
      | inr old ↦ elim (s.rests p m k) [
        | inl note ↦ let never : true ≡ false = sym note ∙ old.1 in absurd (cc)
        | inr t ↦ elim t [
          | inl direct ↦ inl (s.joined p m r direct old.0)
          | inr x ↦ elim (is_new x.0 (s.joined x.0 m r x.2 old.0)) [
            | inl f ↦ inr (x.0, s.known p x.0 x.1, f)
            | inr known ↦ inl (s.joined p x.0 r x.1 known.0)
          ]
        ]
      ]
    ]

pub stepped_first : (x : Vec (Vec ℕ)) (renewed : List ℕ) → length x.items ≤ 1024 → ((m : ℕ) → IsTrue (has renewed m) ↔ m / 64 < 16) → Stepped (earlier (x ∷ [])) (last (x ∷ [])) renewed
stepped_first x renewed few all =
    let one : length (x ∷ []) - 1 ≡ 0 = omega arith in
    subst (λ k. Stepped (slice_index_or ([] ∷ map (λ v. v.items) (x ∷ [])) k []) (matrix (x ∷ []) k) renewed) (sym one) (record {
      known = λ p r k. let l = marked_below [] p r k in absurd (omega arith);
      joined = λ p m r k h. let l = marked_below [] p m k in absurd (omega arith);
      rests = λ p m k. let l = marked_below x.items p m k in inl ((all m).1 (omega arith));
    })

pub one_or : (b : Bool) (X Y : Type 0) → (IsTrue b → X) → (b ≡ false → Y) → X ⊎ Y
one_or true X Y f g = inl (f refl)
one_or false X Y f g = inr (g refl)

-- ---- what the functions return

pub unions_done : (rows : List (Vec ℕ)) (unions : List (List ℕ)) (n : ℕ) → n ≡ WORDS * 256 → length unions ≡ n → ((k : ℕ) → k < n → length (union unions k) ≡ WORDS) → ((k p : ℕ) → k < n → Unites unions p k ↔ OfChoice rows (k / 16) (k % 16) p) → AreUnions rows WORDS unions
unions_done rows unions n all len width exact = record {
  full = refl;
  len = len ∙ all;
  width = λ k l. width k (omega arith);
  has_all = λ group choice p g l o.
      let of_group : group ≡ (group * 16 + choice) / 16 = omega arith in
      let of_choice : choice ≡ (group * 16 + choice) % 16 = omega arith in
      (exact (group * 16 + choice) p (omega arith)).1 (subst (λ x. OfChoice rows x ((group * 16 + choice) % 16) p) of_group (subst (λ y. OfChoice rows group y p) of_choice o));
  only = λ group choice p g l m.
      let of_group : (group * 16 + choice) / 16 ≡ group = omega arith in
      let of_choice : (group * 16 + choice) % 16 ≡ choice = omega arith in
      subst (λ y. OfChoice rows group y p) of_choice (subst (λ x. OfChoice rows x ((group * 16 + choice) % 16) p) of_group ((exact (group * 16 + choice) p (omega arith)).0 m));
}

pub reached_exact : (rows : List (Vec ℕ)) (set old new : List ℕ) (p : ℕ) → old ≡ set → IsTrue (has new p) ↔ (IsTrue (has old p) ⊎ ((m : ℕ) × Marks rows p m × IsTrue (is_fresh set [] [] m))) → IsTrue (has new p) ↔ (IsTrue (has set p) ⊎ ((m : ℕ) × Marks rows p m × IsTrue (has set m)))
reached_exact rows set old new p e h = (
  λ n. elim (h.0 n) [ inl o ↦ inl (subst (λ r. IsTrue (has r p)) e o) | inr x ↦ inr (x.0, x.1, (all_fresh set x.0).0 x.2) ],
  λ t. h.1 (elim t [ inl o ↦ inl (subst (λ r. IsTrue (has r p)) (sym e) o) | inr x ↦ inr (x.0, x.1, (all_fresh set x.0).1 x.2) ]),
)

pub through_exact : (earlier rows : List (Vec ℕ)) (renewed set before old new : List ℕ) (p r : ℕ) → set ≡ row rows r → before ≡ row earlier r → old ≡ set → Stepped earlier rows renewed
    → IsTrue (has new p) ↔ (IsTrue (has old p) ⊎ ((m : ℕ) × Marks rows p m × IsTrue (is_fresh set before renewed m))) → IsTrue (has new p) ↔ Through rows p r
through_exact earlier rows renewed set before old new p r e f g s h =
    let x = through_fresh earlier rows renewed p r s in
    let same : (IsTrue (has old p) ⊎ ((m : ℕ) × Marks rows p m × IsTrue (is_fresh set before renewed m))) ≡ (Marks rows p r ⊎ ((m : ℕ) × Marks rows p m × IsTrue (is_fresh (row rows r) (row earlier r) renewed m))) =
    ap (λ o. IsTrue (has o p) ⊎ ((m : ℕ) × Marks rows p m × IsTrue (is_fresh set before renewed m))) (g ∙ e)
    ∙ ap (λ o. Marks rows p r ⊎ ((m : ℕ) × Marks rows p m × IsTrue (is_fresh o before renewed m))) e
    ∙ ap (λ o. Marks rows p r ⊎ ((m : ℕ) × Marks rows p m × IsTrue (is_fresh (row rows r) o renewed m))) f in
    let known = subst (λ T. IsTrue (has new p) ↔ T) same h in
    (λ n. x.0 (known.0 n), λ t. known.1 (x.1 t))

-- ---- the round before the last

pub earlier_is : (rounds : List (Vec (Vec ℕ))) → 2 ≤ length rounds → earlier rounds ≡ matrix rounds (length rounds - 2)
earlier_is rounds two =
    let step : length rounds - 1 ≡ suc (length rounds - 2) = omega arith in
    ap (λ k. slice_index_or ([] ∷ map (λ v. v.items) rounds) k []) step

pub earlier_pushed : (rounds : List (Vec (Vec ℕ))) (x : Vec (Vec ℕ)) → 0 < length rounds → earlier (rounds ++ x ∷ []) ≡ last rounds
earlier_pushed rounds x some =
    let more : length (rounds ++ x ∷ []) ≡ length rounds + 1 = length-append rounds (x ∷ []) in
    let step : length (rounds ++ x ∷ []) - 1 ≡ suc (length rounds - 1) = omega arith in
    ap (λ k. slice_index_or ([] ∷ map (λ v. v.items) (rounds ++ x ∷ [])) k []) step ∙ below_pushed (λ v. v.items) rounds x (length rounds - 1) (omega arith)
