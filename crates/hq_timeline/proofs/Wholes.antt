-- What is admitted to its end is a journal's text, and no other's.
use Rattle.std.proofs.Common.{◌≡◌, ℕ, true, List, [], ap, subst, sym}
use Rattle.std.specs.Prelude.{map}
use Rattle.hq_text.specs.LineByLine.{AdmitsAll}
use Rattle.hq_text.specs.Lines.{words_of}
use Rattle.hq_text.proofs.LineByLine.{AddsAll, admits_of, keeps_lines, one_state}
use Rattle.hq_events.specs.declared.event.Event.{Event}
use Rattle.hq_timeline.specs.Grammar.{TimeText}
use Rattle.hq_timeline.specs.TextFaults.{OneJournal}
use Rattle.hq_timeline.specs.TextStates.{State, start, is_ended, added}
use Rattle.hq_timeline.proofs.States.{Kept, kept, kept_start, kept_all, ended_of, adds_journal}

pub kept_lines : (lines : List (List ℕ)) (s : State) → AdmitsAll added start lines s → Kept (map words_of lines) s
kept_lines lines s h = keeps_lines added Kept kept [] lines start s kept_start h

pub read_found : (lines : List (List ℕ)) (s : State) → AdmitsAll added start lines s → is_ended s ≡ true → TimeText lines (s.events)
read_found lines s h e =
    let k = kept_lines lines s h in
    record { spelled = kept_all (map words_of lines) s k e; fits = k.fits }

-- and the other way
pub admitted : (lines : List (List ℕ)) (c : List Event) (h : TimeText lines c) → AdmitsAll added start lines (ended_of c)
admitted lines c h = admits_of added lines start (ended_of c) (subst (λ (ws : List (List (List ℕ))). AddsAll added start ws (ended_of c)) (sym h.spelled) (adds_journal c h.fits))

pub one_journal : OneJournal
one_journal lines a b h k = ap (λ (s : State). s.events) (one_state added lines start (ended_of a) (ended_of b) (admitted lines a h) (admitted lines b k))
