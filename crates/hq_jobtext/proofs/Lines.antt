-- Lines taken in, one behind another.
use Rattle.std.proofs.Common.{◌≡◌, ℕ, ◌⊎◌, inl, inr, Bool, true, false, List, [], ◌∷◌, ◌++◌, refl, sym, ap, subst, if◌then◌else◌, Some}
use Rattle.std.specs.List.{list_any}
use Rattle.hq_lines.specs.Bytes.{is_outside}
use Rattle.hq_lines.specs.declared.fault.LineFault.{LineFault}
use Rattle.hq_lines.specs.declared.fault.LineFault.TheVariants as fault
use Rattle.hq_lines.specs.Meaning.{Meaning}
use Rattle.hq_lines.specs.Says.{SaysLine}
use Rattle.hq_lines.specs.Order.{line_fault}
use Rattle.hq_tables.specs.declared.fault.Reason.{Reason}
use Rattle.hq_tables.specs.declared.fault.Reason.TheVariants as reason
use Rattle.hq_tables.specs.LineFaults.{reason_of}
use Rattle.hq_tables.specs.Tables.{Tables, tests, IsFirst}
use Rattle.hq_jobtext.specs.JobText.{misplaced, Admits, AdmitsAll, Refused, by_itself, by_tables}
use Rattle.hq_tables.specs.Fits.{TablesFit}
use Rattle.hq_tables.proofs.Kept.{fits_added}

-- ---- one line

-- a line that is refused by itself
pub refused_itself : (ts : Tables) (line : List ℕ) (f : LineFault) → (f ≡ fault.Memory) ⊎ (line_fault line ≡ Some f) → (reason_of f ≡ reason.Memory) ⊎ Refused ts line (reason_of f)
refused_itself ts line f (inl e) = inl (ap reason_of e)
refused_itself ts line f (inr e) = inr (by_itself f e)

pub refused_here : (ts : Tables) (line : List ℕ) (m : Meaning) (e : Reason) → SaysLine line m → (e ≡ reason.Memory) ⊎ IsFirst (tests ts m) e → (e ≡ reason.Memory) ⊎ Refused ts line e
refused_here ts line m e says (inl h) = inl h
refused_here ts line m e says (inr h) = inr (by_tables m e says h)

pub admits_fit : (ts : Tables) (line : List ℕ) (new : Tables) → TablesFit ts → Admits ts line new → TablesFit new
admits_fit ts line new fit h = subst TablesFit (sym h.adds) (fits_added ts h.meaning line h.says_it fit h.none)

-- ---- the lines behind one another

pub admits_more : (front : List (List ℕ)) (ts mid new : Tables) (line : List ℕ) → AdmitsAll ts front mid → Admits mid line new → AdmitsAll ts (front ++ line ∷ []) new
admits_more [] ts mid new line all h = (new, subst (λ (t : Tables). Admits t line new) all h, refl)
admits_more (first ∷ front) ts mid new line all h = (all.0, all.1, admits_more front all.0 mid new line all.2 h)

pub outside_or : (line : List ℕ) → reason_of (if list_any is_outside line then fault.Byte else fault.Word) ≡ misplaced line
outside_or line = by (list_any is_outside line) where
  by : (b : Bool) → reason_of (if b then fault.Byte else fault.Word) ≡ (if b then reason.Byte else reason.Word)
  by true = refl
  by false = refl
