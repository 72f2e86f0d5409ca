-- Flags, a bit for each kind of conflict of two packets.
use Rattle.std.proofs.Common.{◌≡◌, ℕ, zero, suc, ◌+◌, ◌*◌, ◌/◌, ◌%◌, ◌<◌, ◌≤◌, ◌↔◌, ◌⊎◌, inl, inr, IsTrue, List, [], ◌∷◌, ◌++◌, length, sym, ◌∙◌, ap, subst, arith, Option, None, Some, MatchOption, slice_get, refl, ◌==◌, ◌||◌, false, replicate}
use Rattle.std.proofs.lemmas.Bool.{cases_lt, cases_eq}
use Rattle.hq_bits.specs.Bits.{has}
use Rattle.std.specs.Int.{bit_at}
use Rattle.std.proofs.lemmas.List.{get_or-replicate, length-replicate}
use Rattle.hq_bits.proofs.Walked.{mark_bit}
use Rattle.std.proofs.lemmas.Nat.Bits.{bit_at-zero}
use Rattle.hq_bits.proofs.Words.{past}
use Rattle.hq_footprint.specs.declared.conflicts.Kinds.{Kinds}
use Rattle.hq_job.specs.Conflicts.{HasConflicts}
use Rattle.hq_model.specs.Job.{Job, IsPacket}
use Rattle.hq_model.specs.Fence.{Conflict, Conflicts}
use Rattle.hq_model.specs.Fence.Conflict.{WriteRead, WriteWrite, ReadWrite}
use Rattle.hq_model.specs.Certificate.{Pair, kind_of, IsFor, HasPair, HasPairs}
use Rattle.hq_certcheck.specs.Covering.{Covered, NoneMissing, FirstMissing, has_kind, has_flag, row_of, AreListed, IsMarked, AreFlagged, IsFlagged, AllFlagged, RowFlagged, FirstUnflagged}
use Rattle.std.proofs.lemmas.Option.{slice_get_within}
use Rattle.hq_ordercheck.proofs.Options.{some_same}
use Rattle.hq_certcheck.proofs.Behind.{got_left, got_right}
use Rattle.hq_certcheck.proofs.Seeing.{each_in}

pub by_kinds : (P : Conflict → Type 0) → P WriteRead → P WriteWrite → P ReadWrite → (kind : Conflict) → P kind
by_kinds P wr ww rw WriteRead = wr
by_kinds P wr ww rw WriteWrite = ww
by_kinds P wr ww rw ReadWrite = rw

-- ---- places of flags

row_low : (kind : Conflict) → row_of kind < 3
row_low WriteRead = omega arith
row_low WriteWrite = omega arith
row_low ReadWrite = omega arith

same_row : (a b : Conflict) → row_of a ≡ row_of b → a ≡ b
same_row WriteRead WriteRead e = refl
same_row WriteRead WriteWrite e = absurd (omega (arith, e))
same_row WriteRead ReadWrite e = absurd (omega (arith, e))
same_row WriteWrite WriteRead e = absurd (omega (arith, e))
same_row WriteWrite WriteWrite e = refl
same_row WriteWrite ReadWrite e = absurd (omega (arith, e))
same_row ReadWrite WriteRead e = absurd (omega (arith, e))
same_row ReadWrite WriteWrite e = absurd (omega (arith, e))
same_row ReadWrite ReadWrite e = refl

-- two flags at one place are the same flag
place_apart : (p r q s : ℕ) (a b : Conflict) → r < 1024 → s < 1024 → (p * 3 + row_of a) * 1024 + r ≡ (q * 3 + row_of b) * 1024 + s → (p ≡ q) × (r ≡ s) × (a ≡ b)
place_apart p r q s a b l m e =
    let low = row_low a in
    let lower = row_low b in
    let rows : p * 3 + row_of a ≡ q * 3 + row_of b = omega (arith, l, m, e) in
    (omega (arith, rows, low, lower), omega (arith, rows, e), same_row a b (omega (arith, rows, low, lower)))

-- ---- no flags

pub no_flag : (words n : ℕ) → has (replicate words 0) n ≡ false
no_flag words n = elim (cases_lt (n / 64) words) [
  | inl low ↦ ap (λ w. bit_at w (n % 64) == 1) (get_or-replicate words (n / 64) 0 0 low) ∙ ap (λ b. b == 1) (bit_at-zero (n % 64))
  | inr high ↦ past (replicate words 0) n (omega (arith, high, length-replicate {A = ℕ} words 0))
]

-- the same flags in other rows
pub listed_as : (pairs : List Pair) (count : ℕ) (old new : List ℕ) → ((n : ℕ) → has new n ≡ has old n) → AreListed pairs count old → AreListed pairs count new
listed_as pairs count old new alike h p r l m kind =
    subst (λ b. IsTrue b ↔ HasPair pairs p r kind) (sym (alike ((p * 3 + row_of kind) * 1024 + r))) (h p r l m kind)

-- ---- flags set

pub marked : (pair : Pair) (count : ℕ) (old new : List ℕ) → count ≤ 1024 → pair.r < count → ((x : ℕ) → has new x ≡ (has old x || x == (pair.p * 3 + row_of (kind_of pair.fences)) * 1024 + pair.r)) → IsMarked pair count old new
marked pair count old new few r_is set p r l m kind =
    let at = (pair.p * 3 + row_of (kind_of pair.fences)) * 1024 + pair.r in
    let x = (p * 3 + row_of kind) * 1024 + r in
    let bit = mark_bit (has old x) (has new x) x at (set x) in (
      λ t. elim (bit.0 t) [
        | inl before ↦ inl before
        | inr here ↦ (let same = place_apart p r pair.p pair.r kind (kind_of pair.fences) (omega (arith, m, few)) (omega (arith, r_is, few)) here in inr (record { first = sym same.0; second = sym same.1; kind_is = sym same.2 }))
      ],
      λ t. bit.1 (elim t [
        | inl before ↦ inl before
        | inr f ↦ (let row : row_of (kind_of pair.fences) ≡ row_of kind = ap row_of f.kind_is in inr (omega (arith, row, f.first, f.second)))
      ]),
    )

only_one : (pair x : Pair) (j : ℕ) → slice_get (pair ∷ []) j ≡ Some x → pair ≡ x
only_one pair x zero e = some_same pair x e
only_one pair x (suc j) e = let there : None ≡ Some x = e in absurd cc

-- one more pair line, behind those whose flags are there
pub listed_next : (pairs : List Pair) (count : ℕ) (old new : List ℕ) (pair : Pair) → AreListed pairs count old → IsMarked pair count old new → AreListed (pairs ++ pair ∷ []) count new
listed_next pairs count old new pair a m p r l n kind = (
  λ t. elim ((m p r l n kind).0 t) [
    | inl before ↦
        let x = (a p r l n kind).0 before in
        record { k = x.k; pair = x.pair; there = got_left pairs (pair ∷ []) x.k (slice_get_within pairs x.k x.pair x.there) ∙ x.there; is_for = x.is_for }
    | inr f ↦ record { k = length pairs + 0; pair = pair; there = got_right pairs (pair ∷ []) 0; is_for = f }
  ],
  λ x. (m p r l n kind).1 (each_in (λ y. IsFor y p r kind → IsTrue (has_flag kind old p r) ⊎ IsFor pair p r kind) pairs (pair ∷ []) x.k x.pair x.there
      (λ low there f. inl ((a p r l n kind).1 (record { k = x.k; pair = x.pair; there = there; is_for = f })))
      (λ j at there f. inr (subst (λ y. IsFor y p r kind) (sym (only_one pair x.pair j there)) f)) x.is_for),
)

-- ---- flags read

pub conflicts_by : (job : Job) (p r : ℕ) (kinds : Kinds) → HasConflicts job p r kinds → (kind : Conflict) → IsTrue (has_kind kind kinds) ↔ Conflicts job kind p r
conflicts_by job p r kinds h WriteRead = h.wr
conflicts_by job p r kinds h WriteWrite = h.ww
conflicts_by job p r kinds h ReadWrite = h.rw

-- where the flags found are those of the conflicts
pub flagged_by : (job : Job) (p r : ℕ) (found listed : Kinds) → HasConflicts job p r found → ((kind : Conflict) → IsTrue (has_kind kind found) → IsTrue (has_kind kind listed)) ↔ ((kind : Conflict) → Conflicts job kind p r → IsTrue (has_kind kind listed))
flagged_by job p r found listed h = (
  λ f kind conflict. f kind ((conflicts_by job p r found h kind).1 conflict),
  λ f kind flag. f kind ((conflicts_by job p r found h kind).0 flag),
)

-- where p and r lack a flag, and their conflicts have theirs, r and p have all
pub flagged_back : (job : Job) (flags : List ℕ) (p r : ℕ) → ((kind : Conflict) × Conflicts job kind p r) → (AreFlagged job flags p r → ⊥) → IsFlagged job flags p r → AreFlagged job flags r p
flagged_back job flags p r (kind, conflict) ban h = elim (h kind conflict) [ inl f ↦ absurd (ban f) | inr f ↦ f ]

pub flagged_rows : (job : Job) (flags : List ℕ) (p : ℕ) → ((q : ℕ) → q < p → RowFlagged job flags q) → RowFlagged job flags p → (q : ℕ) → q < p + 1 → RowFlagged job flags q
flagged_rows job flags p h here q below = elim (cases_eq q p) [
  | inl same ↦ subst (λ k. RowFlagged job flags k) (sym same) here
  | inr apart ↦ h q (omega arith)
]

-- packets that are passed over, since they lack no flag
pub passed_over : (job : Job) (flags : List ℕ) (p r next : ℕ) → AllFlagged job flags p r → ((s : ℕ) → r ≤ s → s < next → AreFlagged job flags p s) → AllFlagged job flags p next
passed_over job flags p r next h none s above below = elim (cases_lt s r) [
  | inl ahead ↦ h s above ahead
  | inr behind ↦ λ kind conflict. inl (none s behind below)
]

pub flagged_one_more : (job : Job) (flags : List ℕ) (p r : ℕ) → AllFlagged job flags p r → IsFlagged job flags p r → AllFlagged job flags p (r + 1)
flagged_one_more job flags p r h here s above below = elim (cases_eq s r) [
  | inl same ↦ subst (IsFlagged job flags p) (sym same) here
  | inr apart ↦ h s above (omega arith)
]

-- ---- flags as pair lines

module _ (job : Job) (pairs : List Pair) (flags : List ℕ) (listed : AreListed pairs (length job.packets) flags) where
  pairs_of : (p r : ℕ) → IsPacket job p → IsPacket job r → AreFlagged job flags p r ↔ HasPairs job pairs p r
  pairs_of p r p_is r_is = (
    λ f kind conflict. (listed p r p_is r_is kind).0 (f kind conflict),
    λ f kind conflict. (listed p r p_is r_is kind).1 (f kind conflict),
  )

  pub covered_of : (p r : ℕ) → IsPacket job p → IsPacket job r → IsFlagged job flags p r ↔ Covered job pairs p r
  covered_of p r p_is r_is = (
    λ f kind conflict. elim (f kind conflict) [ inl x ↦ inl ((pairs_of p r p_is r_is).0 x) | inr x ↦ inr ((pairs_of r p r_is p_is).0 x) ],
    λ f kind conflict. elim (f kind conflict) [ inl x ↦ inl ((pairs_of p r p_is r_is).1 x) | inr x ↦ inr ((pairs_of r p r_is p_is).1 x) ],
  )

  pub none_missing : ((p : ℕ) → p < length job.packets → RowFlagged job flags p) → NoneMissing job pairs
  none_missing h p r ahead is = let p_is : IsPacket job p = omega (arith, ahead, is) in (covered_of p r p_is is).0 (h p p_is r ahead is)

  pub first_missing : (p r : ℕ) → FirstUnflagged job flags p r → FirstMissing job pairs p r
  first_missing p r f =
      let p_is : IsPacket job p = omega (arith, f.after.ahead, f.after.is_packet) in record {
        ahead = f.after.ahead;
        is_packet = f.after.is_packet;
        missing = λ h. f.after.missing ((covered_of p r p_is f.after.is_packet).1 h);
        first = λ q s ahead is sooner.
            let q_is : IsPacket job q = omega (arith, ahead, is) in
            (covered_of q s q_is is).0 (elim sooner [
              | inl low ↦ f.first q low s ahead is
              | inr h ↦ subst (λ k. IsFlagged job flags k s) (sym h.0) (f.after.first s (omega (arith, ahead, h.0)) h.1)
            ]);
      }

pub match_change : {X : Type 0} (o : Option X) (N M : Type 0) (P Q : X → Type 0) → (N → M) → ((x : X) → P x → Q x) → MatchOption o N P → MatchOption o M Q
match_change None N M P Q f g h = f h
match_change (Some x) N M P Q f g h = g x h
