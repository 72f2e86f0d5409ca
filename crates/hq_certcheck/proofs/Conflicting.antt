-- Which kinds of conflict packets can have, by whether they read and write at all, and which of them may lack flags.
use Rattle.std.proofs.Common.{◌≡◌, ℕ, suc, ◌+◌, ◌<◌, Bool, true, false, IsTrue, List, [], ◌∷◌, ◌++◌, refl, sym, ◌∙◌, ap, subst, arith, inl, inr, ◌==◌, ◌||◌, ◌&&◌, not, ◌/◌, ◌%◌, length, slice_index, slice_set, bit_and, bit_or}
use Rattle.std.specs.Prelude.{All, Contains}
use Rattle.std.specs.Int.{bit_at}
use Rattle.std.proofs.lemmas.Bool.{cases_eq, eqb-true, eq-eqb}
use Rattle.std.proofs.lemmas.Nat.Bits.{bit_at_and}
use Rattle.std.proofs.lemmas.List.{length-set}
use Rattle.std.specs.List.{flat_map, range_with_len}
use Rattle.hq_footprint.specs.declared.footprint.Range.{Range}
use Rattle.hq_bits.specs.Bits.{has}
use Rattle.hq_bits.proofs.Sets.{has_word}
use Rattle.hq_bits.proofs.Walked.{mark_bit}
use Rattle.hq_footprint.specs.Bytes.{bytes_of, Share}
use Rattle.hq_tables.specs.declared.rows.Placed.{Placed}
use Rattle.hq_job.specs.Plan.{planned}
use Rattle.hq_model.specs.Job.{Job, IsPacket, packet}
use Rattle.hq_model.specs.Fence.{Conflicts}
use Rattle.hq_model.specs.Fence.Conflict.{WriteRead, WriteWrite, ReadWrite}
use Rattle.hq_parts.specs.Parts.{AreOthers}
use Rattle.hq_parts.specs.declared.parts.Others.{Others}
use Rattle.hq_certcheck.specs.Covering.{AreFlagged, AreRoles, has_flag}

in_none : (xs : List ℕ) (b : ℕ) → xs ≡ [] → Contains xs b → ⊥
in_none xs b e i = let none : Contains [] b = subst (λ ys. Contains ys b) e i in omega (arith, none.1)

no_bytes : (r : Range) → r.len ≡ 0 → bytes_of r ≡ []
no_bytes r e = ap (range_with_len r.at) e

no_entries : (rs : List Range) → All (λ r. r.len ≡ 0) rs → flat_map bytes_of rs ≡ []
no_entries [] h = refl
no_entries (r ∷ rs) h = ap (λ bs. bs ++ flat_map bytes_of rs) (no_bytes r (h 0 r (omega arith))) ∙ no_entries rs (λ k d l. h (suc k) d (omega arith))

-- ---- packets that read nothing, and that write nothing

module _ (job : Job) (p : ℕ) (x : Placed) (is : planned x ≡ packet job p) where
  pub none_read : All (λ r. r.len ≡ 0) x.bytes.reads → (packet job p).reads ≡ []
  none_read h = subst (λ q. q.reads ≡ []) is (no_entries x.bytes.reads h)

  pub none_written : x.bytes.write.len ≡ 0 → (packet job p).writes ≡ []
  none_written e = subst (λ q. q.writes ≡ []) is (no_bytes x.bytes.write e)

-- a row that has one packet more, which is known of those that it hasn't
module _ (P : ℕ → Type 0) (p : ℕ) where
  pub one_more_in : (old new : List ℕ) → ((x : ℕ) → has new x ≡ (has old x || x == p)) → ((s : ℕ) → s < p → has old s ≡ false → P s) → (s : ℕ) → s < p + 1 → has new s ≡ false → P s
  one_more_in old new set h s below out = elim (cases_eq s p) [
    | inl same ↦ (let there : IsTrue (has new s) = (mark_bit (has old s) (has new s) s p (set s)).1 (inr same) in let never : ⊥ = cc in absurd never)
    | inr apart ↦ h s (omega (arith, below, apart)) (by (has old s) (λ t. let there : IsTrue (has new s) = (mark_bit (has old s) (has new s) s p (set s)).1 (inl t) in let never : ⊥ = cc in never))
  ]
    where
      by : (b : Bool) → (IsTrue b → ⊥) → b ≡ false
      by true ban = absurd (ban refl)
      by false ban = refl

  pub one_more_out : (row : List ℕ) → P p → ((s : ℕ) → s < p → has row s ≡ false → P s) → (s : ℕ) → s < p + 1 → has row s ≡ false → P s
  one_more_out row here h s below out = elim (cases_eq s p) [
    | inl same ↦ subst P (sym same) here
    | inr apart ↦ h s (omega (arith, below, apart)) out
  ]

-- ---- one or both of two

or_left : (a b c : Bool) → c ≡ (a || b) → IsTrue a → IsTrue c
or_left true b c e t = e
or_left false b c e t = let never : ⊥ = cc in absurd never

or_right : (a b c : Bool) → c ≡ (a || b) → IsTrue b → IsTrue c
or_right true b c e t = e
or_right false b c e t = e ∙ t

and_of : (a b : Bool) → IsTrue a → IsTrue b → IsTrue (a && b)
and_of true b s t = t
and_of false b s t = let never : ⊥ = cc in absurd never

-- ---- words of packets that may lack a flag

set_at : (a i : ℕ) → IsTrue (bit_at a i == 1) → bit_at a i ≡ 1
set_at a i t = eqb-true (bit_at a i) 1 t

-- a bit of two words that a third hasn't
left_bit : (a b f w bit : ℕ) → ((i : ℕ) → (bit_at w i == 1) ≡ ((bit_at (bit_and a b) i == 1) && not (bit_at f i == 1))) → IsTrue (bit_at a bit == 1) → IsTrue (bit_at b bit == 1) → (bit_at f bit == 1) ≡ false → IsTrue (bit_at w bit == 1)
left_bit a b f w bit is first second out =
    let both : bit_at (bit_and a b) bit ≡ 1 = omega (arith, bit_at_and a b bit, set_at a bit first, set_at b bit second) in
    is bit ∙ ap (λ c. c && not (bit_at f bit == 1)) (eq-eqb (bit_at (bit_and a b) bit) 1 both) ∙ ap not out

module _ (old others able flagged : List ℕ) where
  -- so many words of them were taken in
  pub record Suspected (upto : ℕ) (found : List ℕ) : Type 0 where
    pub len : length found ≡ length old
    pub kept : (s : ℕ) → IsTrue (has old s) → IsTrue (has found s)
    pub taken : (s : ℕ) → s / 64 < upto → IsTrue (has others s) → IsTrue (has able s) → has flagged s ≡ false → IsTrue (has found s)

  pub one_word_more : (place w : ℕ) (found : List ℕ) → place < length found
      → ((i : ℕ) → (bit_at w i == 1) ≡ ((bit_at (bit_and (slice_index others place) (slice_index able place)) i == 1) && not (bit_at (slice_index flagged place) i == 1)))
      → Suspected place found → Suspected (place + 1) (slice_set found place (bit_or (slice_index found place) w))
  one_word_more place w found low is k =
      let more = λ (s : ℕ). has_word found place w s low in record {
        len = length-set found place _ ∙ k.len;
        kept = λ s t. or_left _ _ _ (more s) (k.kept s t);
        taken = λ s below o a out. elim (cases_eq (s / 64) place) [
          | inl same ↦ (
              let word = left_bit (slice_index others place) (slice_index able place) (slice_index flagged place) w (s % 64) is
              (subst (λ n. IsTrue (bit_at (slice_index others n) (s % 64) == 1)) same o) (subst (λ n. IsTrue (bit_at (slice_index able n) (s % 64) == 1)) same a) (subst (λ n. (bit_at (slice_index flagged n) (s % 64) == 1) ≡ false) same out) in
              or_right _ _ _ (more s) (and_of _ _ (eq-eqb (s / 64) place same) word))
          | inr apart ↦ or_left _ _ _ (more s) (k.taken s (omega (arith, below, apart)) o a out)
        ];
      }

-- ---- packets that lack no flag

-- a conflict that there can be, of packets that aren't found, has its flag
flag_there : (C : Type 0) (first other able flag found : Bool) → (first ≡ false → C → ⊥) → (other ≡ false → C → ⊥) → (able ≡ false → C → ⊥) → (IsTrue first → IsTrue other → IsTrue able → flag ≡ false → IsTrue found) → found ≡ false → C → IsTrue flag
flag_there C first other able true found a b d take out conflict = refl
flag_there C false other able false found a b d take out conflict = absurd (a refl conflict)
flag_there C true false able false found a b d take out conflict = absurd (b refl conflict)
flag_there C true true false false found a b d take out conflict = absurd (d refl conflict)
flag_there C true true true false found a b d take out conflict = let there : IsTrue found = take refl refl refl refl in let never : ⊥ = cc in absurd never

no_first : (xs ys : List ℕ) → xs ≡ [] → Share xs ys → ⊥
no_first xs ys e s = in_none xs s.0 e s.1

no_second : (xs ys : List ℕ) → ys ≡ [] → Share xs ys → ⊥
no_second xs ys e s = in_none ys s.0 e s.2

module _ (job : Job) (flags readers writers : List ℕ) (roles : AreRoles job readers writers) (p s : ℕ) (p_is : IsPacket job p) (s_is : IsPacket job s) (others : Others) (known : AreOthers job p others) (found : Bool) (out : found ≡ false) where
  pub flagged_unless_found : (IsTrue (has writers p) → IsTrue (has others.bits s) → IsTrue (has readers s) → has_flag WriteRead flags p s ≡ false → IsTrue found)
      → (IsTrue (has writers p) → IsTrue (has others.bits s) → IsTrue (has writers s) → has_flag WriteWrite flags p s ≡ false → IsTrue found)
      → (IsTrue (has readers p) → IsTrue (has others.bits s) → IsTrue (has writers s) → has_flag ReadWrite flags p s ≡ false → IsTrue found)
      → AreFlagged job flags p s
  flagged_unless_found wr ww rw WriteRead conflict = flag_there (Conflicts job WriteRead p s) (has writers p) (has others.bits s) (has readers s) (has_flag WriteRead flags p s) found
      (λ e. no_first (packet job p).writes (packet job s).reads (roles.writes p p_is e)) (λ e. known s s_is e WriteRead) (λ e. no_second (packet job p).writes (packet job s).reads (roles.reads s s_is e)) wr out conflict
  flagged_unless_found wr ww rw WriteWrite conflict = flag_there (Conflicts job WriteWrite p s) (has writers p) (has others.bits s) (has writers s) (has_flag WriteWrite flags p s) found
      (λ e. no_first (packet job p).writes (packet job s).writes (roles.writes p p_is e)) (λ e. known s s_is e WriteWrite) (λ e. no_second (packet job p).writes (packet job s).writes (roles.writes s s_is e)) ww out conflict
  flagged_unless_found wr ww rw ReadWrite conflict = flag_there (Conflicts job ReadWrite p s) (has readers p) (has others.bits s) (has writers s) (has_flag ReadWrite flags p s) found
      (λ e. no_first (packet job p).reads (packet job s).writes (roles.reads p p_is e)) (λ e. known s s_is e ReadWrite) (λ e. no_second (packet job p).reads (packet job s).writes (roles.writes s s_is e)) rw out conflict
