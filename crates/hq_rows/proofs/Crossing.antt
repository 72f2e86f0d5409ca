-- Rows of bits turned round.
use Rattle.std.specs.Prelude.{MatchOption}
use Rattle.std.proofs.Common.{Option, Some, None, ◌≡◌, ◌↔◌, ℕ, ◌+◌, ◌*◌, ◌/◌, ◌<◌, ◌≤◌, List, [], ◌∷◌, ◌++◌, length, sym, ◌∙◌, ap, subst, arith, IsTrue, take, drop}
use Rattle.std.specs.Global.{Vec}
use Rattle.hq_bits.specs.Bits.{has, IsFirstCommon}
use Rattle.hq_rows.specs.Matrix.{row, matrix, Marks, Turned, IsMarkedBetween}
use Rattle.hq_rows.proofs.Pushed.{pushed}
use Rattle.hq_bits.proofs.Walked.{column_has}
use Rattle.hq_bits.proofs.Words.{within}
use Rattle.hq_rows.proofs.Rows.{marked_below}

-- ---- a packet's part of the table

-- the part of p has what p is before
pub column_marks : (rows : List (Vec ℕ)) (table column : List ℕ) (p m : ℕ) → Turned rows table → column ≡ take 16 (drop (p * 16) table) → p < 1024 → m < 1024 → IsTrue (has column m) ↔ Marks rows p m
column_marks rows table column p m t e lp lm =
    let same : has column m ≡ has table (p * 1024 + m) = ap (λ c. has c m) e ∙ column_has table p m (omega arith) in
    let x = t.exact p m lp lm in
    (λ h. x.0 (sym same ∙ h), λ k. same ∙ x.1 k)

-- what the part of p has is a packet's number
pub column_low : (column : List ℕ) (m : ℕ) → length column ≤ 16 → IsTrue (has column m) → m < 1024
column_low column m l h = let w : m / 64 < length column = within column m h in omega arith

pub between_found : (rows : List (Vec ℕ)) (table column other : List ℕ) (p r : ℕ) (o : Option ℕ) → Turned rows table → column ≡ take 16 (drop (p * 16) table) → length column ≤ 16 → other ≡ row rows r → p < 1024 → length rows ≤ 1024
    → MatchOption o ((n : ℕ) → IsTrue (has column n) → IsTrue (has other n) → ⊥) (IsFirstCommon column other)
    → MatchOption o ((m : ℕ) → Marks rows p m → Marks rows m r → ⊥) (IsMarkedBetween rows p r)
between_found rows table column other p r None t e len f lp few h = λ m a b.
    let low : m < 1024 = let l = marked_below rows p m a in omega arith in
    h m ((column_marks rows table column p m t e lp low).1 a) (subst (λ x. IsTrue (has x m)) (sym f) b)
between_found rows table column other p r (Some m) t e len f lp few h = record {
  first = (column_marks rows table column p m t e lp (column_low column m len h.in_left)).0 h.in_left;
  second = subst (λ x. IsTrue (has x m)) f h.in_right;
  least = λ i l a b.
      let low : i < 1024 = let k = marked_below rows p i a in omega arith in
      h.first i l ((column_marks rows table column p i t e lp low).1 a) (subst (λ x. IsTrue (has x i)) (sym f) b);
}

-- ---- round by round

pub tables_next : (rounds : List (Vec (Vec ℕ))) (tables new : List (Vec ℕ)) (x : Vec ℕ) (rows : List (Vec ℕ)) (n : ℕ) → length tables ≡ n → new ≡ tables ++ x ∷ [] → matrix rounds n ≡ rows → ((k : ℕ) → k < n → Turned (matrix rounds k) (row tables k)) → Turned rows x.items → (k : ℕ) → k < n + 1 → Turned (matrix rounds k) (row new k)
tables_next rounds tables new x rows n len e m h t = pushed (λ k words. Turned (matrix rounds k) words) tables x new n len e h (subst (λ rs. Turned rs x.items) (sym m) t)
