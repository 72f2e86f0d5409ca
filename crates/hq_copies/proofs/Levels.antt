-- The finite map that lower bytes and upper ones are, and what changes of either make of it.
use Rattle.std.proofs.Common.{◌≡◌, ℕ, ◌≤◌, ◌≢◌, Bool, true, false, inl, inr, List, refl, sym, ◌∙◌, ap, ap₂, cond, max, arith, Option, Some, None, is_some, Result, Ok, Err, OnErr}
use Rattle.std.proofs.lemmas.Bool.{cases_eq, cond-false}
use Rattle.std.specs.FinMap as finite
use Rattle.std.specs.Cmp.{nat_cmp_total}
use Rattle.hq_model.specs.Machine.{Copy, is_dirty, value_or}
use Rattle.hq_model.specs.View.{Held}
use Rattle.hq_copies.specs.declared.level.Level.TheInside.{Inside}
use Rattle.hq_copies.specs.Copies.{a_copy, dirty_only, cleaned, taken, written}
use Rattle.hq_copies.specs.Edges.{has, byte_at, ceiling, IsRuns, layered, copy_at, level}
use Rattle.hq_copies.specs.Levels.{IsLevel, level_of, IsLevelOf}
use Rattle.hq_copies.specs.Marks.{byte_of}
use Rattle.hq_copies.specs.Overlays.{or_lower, dirty_over, byte_over}
use Rattle.hq_copies.proofs.Edges.{has_beyond}
use Rattle.hq_copies.proofs.Counts.{at_false}
use Rattle.hq_copies.proofs.Gathered.{get_gathered, same_held, get_inserted_same, get_inserted_other, get_removed_same, get_removed_other}

beyond : (edges bytes : List ℕ) (n : ℕ) → IsRuns edges bytes → ceiling edges ≤ n → byte_at (has edges) bytes n ≡ None
beyond edges bytes n runs l = at_false (has edges) bytes n (has_beyond edges n l ∙ runs.ends)

-- what the map gives
get_level : (lower lb upper ub : List ℕ) (dirty : Bool) (n : ℕ) → IsLevel lower lb upper ub → finite.get (level lower lb upper ub dirty) n ≡ copy_at lower lb upper ub dirty n
get_level lower lb upper ub dirty n is = get_gathered (copy_at lower lb upper ub dirty) (max (ceiling lower) (ceiling upper)) n (λ k l. ap₂ (layered dirty) (beyond upper ub k is.upper_runs (omega arith)) (beyond lower lb k is.lower_runs (omega arith)))

-- the map that a level is gives its layers' copies, and a map that does is that one
pub got : (l : Inside) (m : Held) → IsLevelOf l → level_of l ≡ m → (n : ℕ) → finite.get m n ≡ layered l.dirty (byte_of l.upper n) (byte_of l.lower n)
got l m is e n = ap (λ t. finite.get t n) (sym e) ∙ get_level l.lower.edges.items l.lower.bytes.items l.upper.edges.items l.upper.bytes.items l.dirty n is

pub given : (l : Inside) (m : Held) → IsLevelOf l → ((n : ℕ) → layered l.dirty (byte_of l.upper n) (byte_of l.lower n) ≡ finite.get m n) → level_of l ≡ m
given l m is at = same_held (level_of l) m (λ n. get_level l.lower.edges.items l.lower.bytes.items l.upper.edges.items l.upper.bytes.items l.dirty n is ∙ at n)

-- ---- changes of one number

pub inserted : (m : Held) (b : ℕ) (copy : Copy) (f : ℕ → Option Copy) → f b ≡ Some copy → ((n : ℕ) → n ≢ b → f n ≡ finite.get m n) → (n : ℕ) → f n ≡ finite.get (finite.insert m b copy) n
inserted m b copy f same others n = elim (cases_eq n b) [
  | inl e ↦ ap f e ∙ same ∙ sym (ap (finite.get (finite.insert m b copy)) e ∙ get_inserted_same m b copy)
  | inr d ↦ others n d ∙ sym (get_inserted_other m b copy n d)
]

pub removed : (m : Held) (b : ℕ) (f : ℕ → Option Copy) → f b ≡ None → ((n : ℕ) → n ≢ b → f n ≡ finite.get m n) → (n : ℕ) → f n ≡ finite.get (finite.remove m b) n
removed m b f same others n = elim (cases_eq n b) [
  | inl e ↦ ap f e ∙ same ∙ sym (ap (finite.get (finite.remove m b)) e ∙ get_removed_same m b)
  | inr d ↦ others n d ∙ sym (get_removed_other m b n d)
]

-- ---- layers

pub over_layers : (run upper lower : Option ℕ) → layered true (or_lower run upper) lower ≡ dirty_over run (layered true upper lower)
over_layers None upper lower = refl
over_layers (Some value) upper lower = refl

pub clean_layers : (dirty : Bool) (upper lower : Option ℕ) → layered false upper lower ≡ cleaned (layered dirty upper lower)
clean_layers dirty None None = refl
clean_layers dirty None (Some value) = refl
clean_layers dirty (Some value) lower = refl

pub only_dirty : (upper lower : Option ℕ) → layered true upper None ≡ cond (is_dirty (layered true upper lower)) (layered true upper lower) None
only_dirty None None = refl
only_dirty None (Some value) = refl
only_dirty (Some value) lower = refl

pub none_dirty : (upper lower : Option ℕ) → is_dirty (layered false upper lower) ≡ false
none_dirty None None = refl
none_dirty None (Some value) = refl
none_dirty (Some value) lower = refl

pub dirty_upper : (upper lower : Option ℕ) → is_dirty (layered true upper lower) ≡ is_some upper
dirty_upper None None = refl
dirty_upper None (Some value) = refl
dirty_upper (Some value) lower = refl

pub get_only : (m : Held) (n : ℕ) → finite.get (dirty_only m) n ≡ cond (is_dirty (finite.get m n)) (finite.get m n) None
get_only m n = finite.get-retain_keys m (λ k. is_dirty (finite.get m k)) n (λ x t. ap (λ r. is_dirty r) (finite.get_tied nat_cmp_total m n x t))

no_dirty : (copy : Option Copy) → is_dirty copy ≡ false → cond (is_dirty copy) copy None ≡ None
no_dirty copy e = cond-false (is_dirty copy) copy None e

pub nothing_kept : (upper lower : Option ℕ) → None ≡ cond (is_dirty (layered false upper lower)) (layered false upper lower) None
nothing_kept upper lower = sym (no_dirty (layered false upper lower) (none_dirty upper lower))

-- what dirty bytes do below
pub feeds : (upper lower : Option ℕ) (below : Option Copy) → dirty_over upper below ≡ taken (layered true upper lower) below
feeds None None below = refl
feeds None (Some value) below = refl
feeds (Some value) lower below = refl

pub feeds_none : (upper lower : Option ℕ) (below : Option Copy) → below ≡ taken (layered false upper lower) below
feeds_none None None below = refl
feeds_none None (Some value) below = refl
feeds_none (Some value) lower below = refl

pub writes : (upper lower : Option ℕ) (byte : ℕ) → byte_over upper byte ≡ written (layered true upper lower) byte
writes None None byte = refl
writes None (Some value) byte = refl
writes (Some value) lower byte = refl

pub writes_none : (upper lower : Option ℕ) (byte : ℕ) → byte ≡ written (layered false upper lower) byte
writes_none None None byte = refl
writes_none None (Some value) byte = refl
writes_none (Some value) lower byte = refl

-- what is seen through both layers
pub seen_layers : (dirty : Bool) (upper lower : Option ℕ) (below : ℕ) → byte_over upper (byte_over lower below) ≡ value_or (layered dirty upper lower) below
seen_layers dirty None None below = refl
seen_layers dirty None (Some value) below = refl
seen_layers dirty (Some value) lower below = refl

-- one run over those behind it, where they change copies or bytes below
pub run_feeds : (run behind : Option ℕ) (below : Option Copy) → ((byte : ℕ) → run ≡ Some byte → behind ≡ None) → dirty_over behind (dirty_over run below) ≡ dirty_over (or_lower run behind) below
run_feeds None behind below apart = refl
run_feeds (Some byte) behind below apart = ap (λ t. dirty_over t (Some (a_copy byte true))) (apart byte refl)

pub run_writes : (run behind : Option ℕ) (below : ℕ) → ((byte : ℕ) → run ≡ Some byte → behind ≡ None) → byte_over behind (byte_over run below) ≡ byte_over (or_lower run behind) below
run_writes None behind below apart = refl
run_writes (Some byte) behind below apart = ap (λ t. byte_over t byte) (apart byte refl)

pub on_err : {A E : Type 0} (r : Result A E) (P : Type 0) → P → OnErr r P
on_err (Ok x) P p = tt
on_err (Err e) P p = p
