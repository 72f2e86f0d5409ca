-- The first line that the tests refuse is the first faulty line.
use Rattle.std.proofs.Common.{◌≡◌, ℕ, ◌+◌, ◌⊎◌, inl, inr, Bool, true, false, List, [], ◌++◌, length, Some, None, refl, sym, ap, subst, ◌∙◌, append-nil, arith}
use Rattle.std.specs.Prelude.{map, Result, Ok, Err, IfOk, IfErr, if◌then◌else◌}
use Rattle.hq_text.specs.LineByLine.{AdmitsAll, FirstRefused}
use Rattle.hq_text.specs.LineByLine as text
use Rattle.hq_text.specs.Lines.{words_of}
use Rattle.hq_text.proofs.LineByLine.{admits_of, no_first_fault, one_fault, refused_behind}
use Rattle.hq_events.specs.declared.event.Event.{Event}
use Rattle.hq_timeline.specs.declared.fault.TimeFault.{TimeFault}
use Rattle.hq_timeline.specs.declared.fault.TimeReason.{TimeReason}
use Rattle.hq_timeline.specs.declared.fault.TimeReason.TheVariants as reason
use Rattle.hq_timeline.specs.Grammar.{TimeText}
use Rattle.hq_timeline.specs.declared.draft.Stage.{Stage}
use Rattle.hq_timeline.specs.declared.draft.Stage.TheVariants as stage
use Rattle.hq_timeline.specs.TextFaults.{Begins, Refused, FirstFault, faulty, endless, at_line, FaultlessWhereJournal, OneFirstFault}
use Rattle.hq_timeline.specs.TextStates.{State, start, is_end, is_ended, unended, added}
use Rattle.hq_timeline.specs.Gives.{GivesJournal, HasFault, ReadOf, no_memory}
use Rattle.hq_timeline.proofs.States.{Kept, so_far, begun_state, adds_begun, ended_of}
use Rattle.hq_timeline.proofs.Forms.{told, refuses}
use Rattle.hq_timeline.proofs.Wholes.{kept_lines, read_found, admitted, one_journal}

-- the first fault by the tests
abbrev FirstTested : List (List ℕ) → TimeFault → Type 0
FirstTested lines f = text.FirstFault added unended start lines f.line f.reason

-- ---- what was admitted begins a text

begins : (words : List (List (List ℕ))) (s : State) → Kept words s → Begins s.stage words
begins words s k = by s.stage k.spelled where
  by : (place : Stage) → words ≡ so_far place s → Begins place words
  by stage.Head is = is
  by stage.Events is = (s.events, is, k.fits)
  by stage.Ended is = (s.events, is, k.fits)

begins_text : (lines : List (List ℕ)) (s : State) → AdmitsAll added start lines s → Begins s.stage (map words_of lines)
begins_text lines s h = begins (map words_of lines) s (kept_lines lines s h)

-- why a text has no end
open_end : (s : State) (why : TimeReason) → unended s ≡ Some why → (is_ended s ≡ false) × (why ≡ reason.NoEnd)
open_end s why e = by (is_ended s) refl e where
  by : (b : Bool) → is_ended s ≡ b → (if b then None else Some reason.NoEnd) ≡ Some why → (is_ended s ≡ false) × (why ≡ reason.NoEnd)
  by true is e = absurd cc
  by false is e = (is, cc)

not_ended : (s : State) → is_ended s ≡ false → s.stage ≡ stage.Ended → ⊥
not_ended s h e = by (sym (ap is_end e) ∙ h) where
  by : true ≡ false → ⊥
  by p = absurd cc

first_fault : (lines : List (List ℕ)) (f : TimeFault) → FirstTested lines f → FirstFault lines f
first_fault lines f (text.faulty r) =
    let at : length r.front + 1 ≡ f.line = let so = r.counted in omega arith in
    subst (λ (g : TimeFault). FirstFault lines g) (ap (λ n. at_line n f.reason) at) (faulty r.front r.line r.rest r.mid.stage f.reason r.whole (begins_text r.front r.mid r.admitted) (told r.mid (words_of r.line) f.reason r.refused))
first_fault lines f (text.endless mid h ends number) =
    let o = open_end mid f.reason ends in
    subst (λ (g : TimeFault). FirstFault lines g) (ap (λ n. at_line n reason.NoEnd) (sym number) ∙ ap (λ w. at_line f.line w) (sym o.1)) (endless mid.stage (begins_text lines mid h) (not_ended mid o.0))

-- ---- and back

admits : (place : Stage) (lines : List (List ℕ)) → Begins place (map words_of lines) → (s : State) × AdmitsAll added start lines s × (s.stage ≡ place)
admits place lines h =
    let b = begun_state place (map words_of lines) h in
    (b.0, admits_of added lines start b.0 (adds_begun place (map words_of lines) h), b.1)

first_tested : (lines : List (List ℕ)) (f : TimeFault) → FirstFault lines f → FirstTested lines f
first_tested lines f (faulty front line rest place why whole h refuse) =
    let a = admits place front h in
    text.faulty (record { front = front; line = line; rest = rest; mid = a.0; whole = whole; admitted = a.1; refused = refuses a.0 (words_of line) why (subst (λ (p : Stage). Refused p (words_of line) why) (sym a.2) refuse); counted = omega arith })
first_tested lines f (endless place h none) =
    let a = admits place lines h in
    text.endless a.0 a.1 (ap (λ b. if b then None else Some reason.NoEnd) (by a.0.stage (λ e. none (sym a.2 ∙ e)))) refl
  where
    by : (p : Stage) → (p ≡ stage.Ended → ⊥) → is_end p ≡ false
    by stage.Head other = refl
    by stage.Events other = refl
    by stage.Ended other = absurd (other refl)

-- ---- the laws

pub faultless : FaultlessWhereJournal
faultless lines events f h fault = no_first_fault added unended start (ended_of events) lines f.line f.reason (admitted lines events h) refl (first_tested lines f fault)

pub one_first_fault : OneFirstFault
one_first_fault lines f g h k =
    let same = one_fault added unended start lines f.line g.line f.reason g.reason (first_tested lines f h) (first_tested lines g k) in
    ap (λ n. at_line n f.reason) same.0 ∙ ap (λ w. at_line g.line w) same.1

-- ---- what the code learns

pub ended_found : (lines : List (List ℕ)) (s : State) (c : List Event) → AdmitsAll added start lines s → is_ended s ≡ true → c ≡ s.events → TimeText lines c
ended_found lines s c h e is = subst (λ (d : List Event). TimeText lines d) (sym is) (read_found lines s h e)

pub unended_fault : (lines : List (List ℕ)) (n : ℕ) (s : State) (f : TimeFault) → n ≡ length lines → AdmitsAll added start lines s → is_ended s ≡ false → f ≡ at_line (n + 1) reason.NoEnd → HasFault lines f
unended_fault lines n s f number h e is =
    inr (subst (λ (g : TimeFault). FirstFault lines g) (sym is) (first_fault lines (at_line (n + 1) reason.NoEnd) (text.endless s h (ap (λ b. if b then None else Some reason.NoEnd) e) (ap (λ k. k + 1) number))))

-- a line's fault is the text's, whatever follows it, behind lines that were taken in
pub fault_behind : (taken lines more : List (List ℕ)) (n : ℕ) (s : State) (f : TimeFault) → n ≡ length taken → AdmitsAll added start taken s → (f ≡ no_memory) ⊎ FirstRefused added s lines n f.line f.reason → HasFault (taken ++ (lines ++ more)) f
fault_behind taken lines more n s f number h (inl e) = inl e
fault_behind taken lines more n s f number h (inr r) = inr (first_fault (taken ++ (lines ++ more)) f (text.faulty (refused_behind added taken lines more start s n f.line f.reason number h r)))

-- a line's fault is that of the text of these lines
pub fault_from_start : (lines : List (List ℕ)) (s : State) (f : TimeFault) → s ≡ start → (f ≡ no_memory) ⊎ FirstRefused added s lines 0 f.line f.reason → HasFault lines f
fault_from_start lines s f e h = subst (λ (ls : List (List ℕ)). HasFault ls f) (append-nil lines) (fault_behind [] lines [] 0 s f refl e h)

-- a journal's text has no fault but that memory ran out
pub no_fault : (lines : List (List ℕ)) (c : List Event) (f : TimeFault) → TimeText lines c → HasFault lines f → f ≡ no_memory
no_fault lines c f h (inl e) = e
no_fault lines c f h (inr k) = absurd (faultless lines c f h k)

pub read_found_of : (r : Result (List Event) TimeFault) (lines : List (List ℕ)) → ReadOf r lines → IfOk r (λ c. TimeText lines c)
read_found_of (Ok c) lines h = h
read_found_of (Err f) lines h = tt

pub read_fault_of : (r : Result (List Event) TimeFault) (lines : List (List ℕ)) → ReadOf r lines → IfErr r (λ f. HasFault lines f)
read_fault_of (Ok c) lines h = tt
read_fault_of (Err f) lines h = h

pub text_only : (r : Result (List Event) TimeFault) (lines : List (List ℕ)) (c : List Event) → ReadOf r lines → TimeText lines c → GivesJournal r c
text_only (Ok x) lines c found h = one_journal lines x c found h
text_only (Err f) lines c wrong h = no_fault lines c f h wrong
