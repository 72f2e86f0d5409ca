-- Notes of which one is written anew.
use Rattle.std.proofs.Common.{◌≡◌, ℕ, ◌<◌, List, length, map, take, Some, None, sym, subst, ap, ◌∙◌, inl, inr}
use Rattle.std.specs.Prelude.{Option, IfSome, slice_index_or, slice_set}
use Rattle.std.specs.Option.{option_map}
use Rattle.std.specs.declared.alloc.Global.{Global}
use Rattle.std.proofs.lemmas.Bool.{cases_eq}
use Rattle.std.proofs.lemmas.List.{get_or-map, length-map, length-set, map-set, take-set, get_or-set_same, get_or-set_other}
use Rattle.std.proofs.lemmas.Option.{slice_get_within, slice_get-get_or, get_or_from_slice_get}
use Rattle.std.proofs.Math.Seq.{map-set_same}
use Rattle.once_cell.specs.Once.{cell_name}
use Rattle.once_cell.specs.declared.race.note.Note.{Note}
use Rattle.hq_ledger.specs.declared.tray.Held.{Held}
use Rattle.hq_ledger.specs.Trays.{Left, Learned}
use Rattle.hq_ledger.specs.Cells.{left_of, known_of, AreNotes}

-- the notes are those of the cells still, where the new one is of the same cell
pub notes_set : (packets : ℕ) (cells : List (Global × ℕ)) (notes : List (Note Held)) (i : ℕ) (note d : Note Held)
    → AreNotes packets cells notes → note.cell ≡ (slice_index_or notes i d).cell → AreNotes packets cells (slice_set notes i note)
notes_set packets cells notes i note d are same = record {
  count = length-set notes i note ∙ are.count;
  names = map-set_same (λ n. n.cell) notes i note d same ∙ are.names;
}

-- what was known stays known, where what was known of one stays
learned_set : (known : List (Option Left)) (i : ℕ) (x : Option Left)
    → i < length known → IfSome (slice_index_or known i None) (λ left. x ≡ Some left) → Learned known (slice_set known i x)
learned_set known i x low stays = record {
  cells = length-set known i x;
  kept = λ number left is.
      let below : number < length known = slice_get_within known number (Some left) is in
      let still : number < length (slice_set known i x) = rw (length-set known i x) below in
      let was : slice_index_or known number None ≡ Some left = get_or_from_slice_get known number (Some left) None is in
      slice_get-get_or (slice_set known i x) number None still ∙ ap Some (elim (cases_eq number i) [
        | inl e ↦ ap (λ k. slice_index_or (slice_set known i x) k None) e ∙ get_or-set_same known i x None low ∙ now (slice_index_or known i None) left (ap (λ k. slice_index_or known k None) (sym e) ∙ was) stays
        | inr n ↦ get_or-set_other known i number x None n ∙ was
      ]);
}
  where
    now : (old : Option Left) (left : Left) → old ≡ Some left → IfSome old (λ l. x ≡ Some l) → x ≡ Some left
    now old left is stays = subst (λ o. IfSome o (λ l. x ≡ Some l)) is stays

-- a note is of the cell of its number
pub note_of_cell : (cells : List (Global × ℕ)) (notes : List (Note Held)) (i : ℕ) (d : Note Held) (e : Global × ℕ)
    → map (λ n. n.cell) notes ≡ map cell_name cells → i < length notes → (slice_index_or notes i d).cell ≡ cell_name (slice_index_or cells i e)
note_of_cell cells notes i d e names low =
    let as_many : length cells ≡ length notes = sym (length-map cells cell_name) ∙ ap length (sym names) ∙ length-map notes (λ n. n.cell) in
    sym (get_or-map (λ n. n.cell) notes i d d.cell low)
    ∙ ap (λ ns. slice_index_or ns i d.cell) names
    ∙ get_or-map cell_name cells i e d.cell (rw as_many low)

-- what the notes know, the new one too
known_set : (notes : List (Note Held)) (i : ℕ) (note : Note Held) → known_of (slice_set notes i note) ≡ slice_set (known_of notes) i (option_map left_of note.known)
known_set notes i note = map-set (λ n. option_map left_of n.known) notes i note

-- what was known stays known, where what the note of that number knew stays
pub learned_note : (notes : List (Note Held)) (i : ℕ) (note d : Note Held)
    → i < length notes → IfSome (slice_index_or notes i d).known (λ held. note.known ≡ Some held) → Learned (known_of notes) (known_of (slice_set notes i note))
learned_note notes i note d low stays =
    rw (known_set notes i note) (learned_set (known_of notes) i (option_map left_of note.known)
    (rw (length-map notes (λ n. option_map left_of n.known)) low)
    (rw (get_or-map (λ n. option_map left_of n.known) notes i d None low) (as_left (slice_index_or notes i d).known stays)))
  where
    as_left : (old : Option Held) → IfSome old (λ held. note.known ≡ Some held) → IfSome (option_map left_of old) (λ left. option_map left_of note.known ≡ Some left)
    as_left None stays = tt
    as_left (Some held) stays = ap (option_map left_of) stays

-- what was known below it is as it was
pub below_note : (notes : List (Note Held)) (i : ℕ) (note : Note Held) → take i (known_of (slice_set notes i note)) ≡ take i (known_of notes)
below_note notes i note = ap (take i) (known_set notes i note) ∙ take-set (known_of notes) i (option_map left_of note.known)

-- what is known at its number
pub at_note : (notes : List (Note Held)) (i : ℕ) (note : Note Held) → i < length notes → slice_index_or (known_of (slice_set notes i note)) i None ≡ option_map left_of note.known
at_note notes i note low =
    ap (λ k. slice_index_or k i None) (known_set notes i note)
    ∙ get_or-set_same (known_of notes) i (option_map left_of note.known) None (rw (length-map notes (λ n. option_map left_of n.known)) low)

-- what stays known twice, stays known
pub learned_both : (a b c : List (Option Left)) → Learned a b → Learned b c → Learned a c
learned_both a b c ab bc = record {
  cells = bc.cells ∙ ab.cells;
  kept = λ number left is. bc.kept number left (ab.kept number left is);
}
