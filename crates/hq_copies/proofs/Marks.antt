-- Runs stay runs where a number is put in, written or taken out.
use Rattle.std.proofs.Common.{◌≡◌, ℕ, zero, suc, ◌+◌, ◌<◌, ◌≤◌, ◌≢◌, true, ◌∷◌, MatchOption, is_some, slice_get, false, inl, inr, List, [], length, refl, sym, ◌∙◌, ap, not, set, arith, length-set, subst, get_or, Option, Some, None}
use Rattle.std.proofs.lemmas.Bool.{cases_lt, not_from_true, not_from_false}
use Rattle.std.specs.List.{insert, remove}
use Rattle.std.proofs.lemmas.List.Edits.{length-insert, length-remove}
use Rattle.hq_copies.specs.Edges.{has, toggled, IsRuns, byte_at}
use Rattle.hq_copies.specs.Copies.{count_below}
use Rattle.hq_copies.specs.Marks.{IsFirst}
use Rattle.hq_copies.proofs.Edges.{turned_other, turned_same, turned_rising, turned_odd, known, has_from, has_before, none_before}
use Rattle.hq_copies.proofs.Counts.{OneMore, count_mono, more_below, more_above, step_true, inserted_same, inserted_other, removed_same, removed_other, written_same, written_other, at_true, at_false}

pub put_in : (edges : List ℕ) (b : ℕ) → has edges b ≡ false → OneMore (has edges) (has (toggled (b + 1) (toggled b edges))) b
put_in edges b h = record { before = h; after = turned_same edges b ∙ not_from_false (has edges b) h; others = λ n d. turned_other edges b n d }

pub taken_out : (edges : List ℕ) (b : ℕ) → has edges b ≡ true → OneMore (has (toggled (b + 1) (toggled b edges))) (has edges) b
taken_out edges b h = record { before = turned_same edges b ∙ not_from_true (has edges b) h; after = h; others = λ n d. sym (turned_other edges b n d) }

-- a number in the set has its byte
pub place_held : (edges bytes : List ℕ) (b : ℕ) → IsRuns edges bytes → has edges b ≡ true → count_below (has edges) b < length bytes
place_held edges bytes b runs h = omega (arith, step_true (has edges) b h, runs.enough (suc b))

pub runs_inserted : (edges bytes : List ℕ) (b : ℕ) (new : List ℕ) → IsRuns edges bytes → has edges b ≡ false → length new ≡ length bytes + 1 → IsRuns (toggled (b + 1) (toggled b edges)) new
runs_inserted edges bytes b new runs h l = record {
  rising = turned_rising edges b runs.rising;
  ends = turned_odd edges b runs.ends;
  enough = λ n. elim (cases_lt b n) [
    | inl above ↦ omega (arith, more_above (has edges) (has (toggled (b + 1) (toggled b edges))) b n (put_in edges b h) above, runs.enough n)
    | inr below ↦ omega (arith, more_below (has edges) (has (toggled (b + 1) (toggled b edges))) b n (put_in edges b h) below, runs.enough n)
  ];
}

pub runs_removed : (edges bytes : List ℕ) (b : ℕ) (new : List ℕ) → IsRuns edges bytes → has edges b ≡ true → length new + 1 ≡ length bytes → IsRuns (toggled (b + 1) (toggled b edges)) new
runs_removed edges bytes b new runs h l = record {
  rising = turned_rising edges b runs.rising;
  ends = turned_odd edges b runs.ends;
  enough = λ n. elim (cases_lt b n) [
    | inl above ↦ omega (arith, more_above (has (toggled (b + 1) (toggled b edges))) (has edges) b n (taken_out edges b h) above, runs.enough n)
    | inr below ↦ omega (arith, more_below (has (toggled (b + 1) (toggled b edges))) (has edges) b n (taken_out edges b h) below, place_held edges bytes b runs h, count_mono (has edges) n b below)
  ];
}

pub runs_written : (edges bytes new : List ℕ) → IsRuns edges bytes → length new ≡ length bytes → IsRuns edges new
runs_written edges bytes new runs l = record { rising = runs.rising; ends = runs.ends; enough = λ n. omega (arith, runs.enough n) }

pub runs_none : IsRuns [] []
runs_none = record { rising = tt; ends = refl; enough = λ n. none n }
  where
    none : (n : ℕ) → count_below (has []) n ≤ 0
    none zero = omega arith
    none (suc n) = omega (arith, none n)

-- new runs, that differ from the old ones in one number's byte
pub record Changed (edges bytes : List ℕ) (b : ℕ) (byte : Option ℕ) (new_edges new_bytes : List ℕ) : Type 0 where
  pub runs : IsRuns new_edges new_bytes
  pub same : byte_at (has new_edges) new_bytes b ≡ byte
  pub others : (n : ℕ) → n ≢ b → byte_at (has new_edges) new_bytes n ≡ byte_at (has edges) bytes n

pub changed_inserted : (edges bytes : List ℕ) (b v i : ℕ) (new_edges new_bytes : List ℕ) → IsRuns edges bytes → has edges b ≡ false → i ≡ count_below (has edges) b → new_edges ≡ toggled (b + 1) (toggled b edges) → new_bytes ≡ insert bytes i v → Changed edges bytes b (Some v) new_edges new_bytes
changed_inserted edges bytes b v i new_edges new_bytes runs h at e d = subst (λ es. Changed edges bytes b (Some v) es new_bytes) (sym e) (subst (λ bs. Changed edges bytes b (Some v) (toggled (b + 1) (toggled b edges)) bs) (sym (d ∙ ap (λ k. insert bytes k v) at)) this)
  where
    this : Changed edges bytes b (Some v) (toggled (b + 1) (toggled b edges)) (insert bytes (count_below (has edges) b) v)
    this = record {
      runs = runs_inserted edges bytes b (insert bytes (count_below (has edges) b) v) runs h (length-insert bytes (count_below (has edges) b) v (runs.enough b));
      same = inserted_same (has edges) (has (toggled (b + 1) (toggled b edges))) bytes b v (put_in edges b h) (runs.enough b);
      others = λ n d. inserted_other (has edges) (has (toggled (b + 1) (toggled b edges))) bytes b v n (put_in edges b h) (runs.enough b) d;
    }

pub changed_removed : (edges bytes : List ℕ) (b i : ℕ) (new_edges new_bytes : List ℕ) → IsRuns edges bytes → has edges b ≡ true → i ≡ count_below (has edges) b → new_edges ≡ toggled (b + 1) (toggled b edges) → new_bytes ≡ remove bytes i → Changed edges bytes b None new_edges new_bytes
changed_removed edges bytes b i new_edges new_bytes runs h at e d = subst (λ es. Changed edges bytes b None es new_bytes) (sym e) (subst (λ bs. Changed edges bytes b None (toggled (b + 1) (toggled b edges)) bs) (sym (d ∙ ap (λ k. remove bytes k) at)) this)
  where
    this : Changed edges bytes b None (toggled (b + 1) (toggled b edges)) (remove bytes (count_below (has edges) b))
    this = record {
      runs = runs_removed edges bytes b (remove bytes (count_below (has edges) b)) runs h (length-remove bytes (count_below (has edges) b) (place_held edges bytes b runs h));
      same = removed_same (has edges) (has (toggled (b + 1) (toggled b edges))) bytes b (taken_out edges b h);
      others = λ n d. removed_other (has edges) (has (toggled (b + 1) (toggled b edges))) bytes b n (taken_out edges b h) (place_held edges bytes b runs h) d;
    }

pub changed_written : (edges bytes : List ℕ) (b v i : ℕ) → IsRuns edges bytes → has edges b ≡ true → i ≡ count_below (has edges) b → Changed edges bytes b (Some v) edges (set bytes i v)
changed_written edges bytes b v i runs h at = subst (λ k. Changed edges bytes b (Some v) edges (set bytes k v)) (sym at) this
  where
    this : Changed edges bytes b (Some v) edges (set bytes (count_below (has edges) b) v)
    this = record {
      runs = runs_written edges bytes (set bytes (count_below (has edges) b) v) runs (length-set bytes (count_below (has edges) b) v);
      same = written_same (has edges) bytes b v h (place_held edges bytes b runs h);
      others = λ n d. written_other (has edges) bytes b v n h d;
    }

-- a byte that is read at its place
pub byte_held : (edges bytes : List ℕ) (b i x : ℕ) → IsRuns edges bytes → has edges b ≡ true → i ≡ count_below (has edges) b → x ≡ get_or bytes i x → Some x ≡ byte_at (has edges) bytes b
byte_held edges bytes b i x runs h at e =
    let l : i < length bytes = omega (arith, place_held edges bytes b runs h) in
    ap Some (sym (known bytes i x l e) ∙ ap (λ k. get_or bytes k 0) at) ∙ sym (at_true (has edges) bytes b h)

-- the first edge is the first number
pub first_edge : (edges bytes : List ℕ) → IsRuns edges bytes → MatchOption (slice_get edges 0) ((n : ℕ) → byte_at (has edges) bytes n ≡ None) (λ n. IsFirst (byte_at (has edges) bytes) n)
first_edge [] bytes runs = λ n. refl
first_edge (e ∷ edges) bytes runs = record {
  some = ap is_some (at_true (has (e ∷ edges)) bytes e (has_from e edges e (omega arith) ∙ ap not (none_before (suc e) edges e runs.rising.1 (omega arith))));
  none = λ m l. at_false (has (e ∷ edges)) bytes m (has_before e edges m l ∙ none_before (suc e) edges m runs.rising.1 (omega arith));
}
