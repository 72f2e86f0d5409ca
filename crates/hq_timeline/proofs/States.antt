-- What the lines so far spell, and that what is spelled is admitted.
use Rattle.std.proofs.Common.{◌≡◌, ℕ, Bool, true, false, cond, List, [], ◌∷◌, ◌++◌, refl, sym, ap, subst, ◌∙◌, append_assoc, append-nil}
use Rattle.std.specs.Prelude.{map, Ok, Err}
use Rattle.std.specs.List.{AllByRecursion}
use Rattle.std.proofs.lemmas.List.{map-append}
use Rattle.hq_events.specs.declared.event.Event.{Event}
use Rattle.hq_timeline.specs.declared.fault.TimeReason.TheVariants as reason
use Rattle.hq_timeline.specs.declared.draft.Stage.{Stage}
use Rattle.hq_timeline.specs.declared.draft.Stage.TheVariants as stage
use Rattle.hq_timeline.specs.Grammar.{event_words, EventFits, head_words, end_words, journal_words}
use Rattle.hq_timeline.specs.LineTests.{is_head, is_last, event_said}
use Rattle.hq_timeline.specs.TextFaults.{Begins}
use Rattle.hq_timeline.specs.TextStates.{State, start, with_head, with_event, with_end, is_end, is_ended, add_head, add_event, add_content, add_at, added}
use Rattle.hq_text.proofs.LineByLine.{AddsAll}
use Rattle.hq_text.proofs.InTurn.{steps, ok_is}
use Rattle.hq_timeline.proofs.Parts.{head_ok, head_is, last_ok, last_is, event_ok, said, not_last}

abbrev Words : Type 0
Words = List (List ℕ)

-- the lines that a state was left by
abbrev pub so_far : Stage → State → List Words
so_far stage.Head s = []
so_far stage.Events s = head_words ∷ map event_words s.events
so_far stage.Ended s = journal_words s.events

-- no event before the head
abbrev Shape : Stage → State → Type 0
Shape stage.Head s = s.events ≡ []
Shape stage.Events s = Unit {0}
Shape stage.Ended s = Unit {0}

-- the lines so far spell the state
pub record Kept (words : List Words) (s : State) : Type 0 where
  pub spelled : words ≡ so_far s.stage s
  pub shape : Shape s.stage s
  pub fits : AllByRecursion EventFits s.events

events_more : (P : Event → Type 0) (es : List Event) (e : Event) → AllByRecursion P es → P e → AllByRecursion P (es ++ e ∷ [])
events_more P [] e h f = (f, tt)
events_more P (x ∷ es) e h f = (h.0, events_more P es e h.1 f)

kept_if : (words : List Words) (s t : State) → s ≡ t → Kept words s → Kept words t
kept_if words s t e h = subst (λ (u : State). Kept words u) e h

kept_head : (words : List Words) (w : Words) (s t : State) → words ≡ [] → s.events ≡ [] → AllByRecursion EventFits s.events → add_head s w ≡ Ok t → Kept (words ++ w ∷ []) t
unfolding add_head
kept_head words w s t none shape fits e = by (is_head w) refl e where
  by : (b : Bool) → is_head w ≡ b → cond b (Ok (with_head s)) (Err reason.Word) ≡ Ok t → Kept (words ++ w ∷ []) t
  by true is e =
      kept_if (words ++ w ∷ []) (with_head s) t (ok_is _ t e)
      (record {
        spelled = ap (λ ws. ws ++ w ∷ []) none ∙ ap (λ v. v ∷ []) (head_ok w is) ∙ ap (λ es. head_words ∷ map event_words es) (sym shape);
        shape = tt;
        fits = fits;
      })
  by false is e = absurd cc

kept_event : (words : List Words) (w : Words) (s t : State) → words ≡ so_far stage.Events s → AllByRecursion EventFits s.events → add_event s w ≡ Ok t → Kept (words ++ w ∷ []) t
unfolding add_event
kept_event words w s t is fits e =
    let h = steps (event_said w) (λ event. Ok (with_event s event)) t e in
    let says = event_ok w h.value h.first in
    kept_if (words ++ w ∷ []) (with_event s h.value) t (ok_is _ t h.next)
    (record {
      spelled = ap (λ ws. ws ++ w ∷ []) is ∙ ap (λ v. head_words ∷ (map event_words s.events ++ v ∷ [])) says.spelled
          ∙ ap (λ ws. head_words ∷ ws) (sym (map-append event_words s.events (h.value ∷ [])));
      shape = tt;
      fits = events_more EventFits s.events h.value fits says.fits;
    })

kept_content : (words : List Words) (w : Words) (s t : State) → words ≡ so_far stage.Events s → AllByRecursion EventFits s.events → add_content s w ≡ Ok t → Kept (words ++ w ∷ []) t
unfolding add_content
kept_content words w s t spelled fits e = by (is_last w) refl e where
  by : (b : Bool) → is_last w ≡ b → cond b (Ok (with_end s)) (add_event s w) ≡ Ok t → Kept (words ++ w ∷ []) t
  by true is e =
      kept_if (words ++ w ∷ []) (with_end s) t (ok_is _ t e)
      (record {
        spelled = ap (λ ws. ws ++ w ∷ []) spelled ∙ ap (λ v. head_words ∷ (map event_words s.events ++ v ∷ [])) (last_ok w is);
        shape = tt;
        fits = fits;
      })
  by false is e = kept_event words w s t spelled fits e

kept_at : (st : Stage) (words : List Words) (w : Words) (s t : State) → words ≡ so_far st s → Shape st s → AllByRecursion EventFits s.events → add_at st s w ≡ Ok t → Kept (words ++ w ∷ []) t
kept_at stage.Head words w s t is shape fits e = kept_head words w s t is shape fits e
kept_at stage.Events words w s t is shape fits e = kept_content words w s t is fits e
kept_at stage.Ended words w s t is shape fits e = absurd cc

pub kept : (words : List Words) (w : Words) (s t : State) → Kept words s → added s w ≡ Ok t → Kept (words ++ w ∷ []) t
unfolding added
kept words w s t k e = kept_at s.stage words w s t k.spelled k.shape k.fits e

pub kept_start : Kept [] start
kept_start = record { spelled = refl; shape = refl; fits = tt }

-- what is spelled at the end
pub kept_all : (words : List Words) (s : State) → Kept words s → is_ended s ≡ true → words ≡ journal_words s.events
kept_all words s k e = by s.stage k.spelled e where
  by : (st : Stage) → words ≡ so_far st s → is_end st ≡ true → words ≡ journal_words s.events
  by stage.Head is e = absurd cc
  by stage.Events is e = absurd cc
  by stage.Ended is e = is

-- ---- what is spelled is admitted

abbrev state_at : Stage → List Event → State
state_at st events = record { stage = st; events = events }

adds_event : (events : List Event) (event : Event) → EventFits event → added (state_at stage.Events events) (event_words event) ≡ Ok (state_at stage.Events (events ++ event ∷ []))
unfolding added add_content add_event
adds_event events event h = rw (not_last event, said (event_words event) event (record { spelled = refl; fits = h })) refl

adds_end : (events : List Event) → added (state_at stage.Events events) end_words ≡ Ok (state_at stage.Ended events)
unfolding added add_content
adds_end events = rw last_is refl

adds_events : (front events : List Event) → AllByRecursion EventFits events → AddsAll added (state_at stage.Events front) (map event_words events ++ end_words ∷ []) (state_at stage.Ended (front ++ events))
adds_events front [] h = (state_at stage.Ended front, adds_end front, ap (λ es. state_at stage.Ended es) (append-nil front))
adds_events front (e ∷ events) h = (
  state_at stage.Events (front ++ e ∷ []),
  adds_event front e h.0,
  subst (λ (all : List Event). AddsAll added (state_at stage.Events (front ++ e ∷ [])) (map event_words events ++ end_words ∷ []) (state_at stage.Ended all)) (append_assoc front (e ∷ []) events)
      (adds_events (front ++ e ∷ []) events h.1),
)

adds_head : added start head_words ≡ Ok (state_at stage.Events [])
unfolding added add_head
adds_head = rw head_is refl

-- the state at the end of a journal's text
abbrev pub ended_of : List Event → State
ended_of events = state_at stage.Ended events

pub adds_journal : (events : List Event) → AllByRecursion EventFits events → AddsAll added start (journal_words events) (ended_of events)
adds_journal events h = (state_at stage.Events [], adds_head, adds_events [] events h)

-- ---- what begins a text is admitted

abbrev journal_of : (place : Stage) (words : List Words) → Begins place words → List Event
journal_of stage.Head words h = []
journal_of stage.Events words h = h.0
journal_of stage.Ended words h = h.0

-- the state that it leaves
pub begun_state : (place : Stage) (words : List Words) → Begins place words → (s : State) × (s.stage ≡ place)
begun_state place words h = (state_at place (journal_of place words h), refl)

adds_only : (front events : List Event) → AllByRecursion EventFits events → AddsAll added (state_at stage.Events front) (map event_words events) (state_at stage.Events (front ++ events))
adds_only front [] h = ap (λ es. state_at stage.Events es) (append-nil front)
adds_only front (e ∷ events) h = (
  state_at stage.Events (front ++ e ∷ []),
  adds_event front e h.0,
  subst (λ (all : List Event). AddsAll added (state_at stage.Events (front ++ e ∷ [])) (map event_words events) (state_at stage.Events all)) (append_assoc front (e ∷ []) events)
      (adds_only (front ++ e ∷ []) events h.1),
)

pub adds_begun : (place : Stage) (words : List Words) (h : Begins place words) → AddsAll added start words (begun_state place words h).0
unfolding begun_state
adds_begun stage.Head words h = subst (λ (ws : List Words). AddsAll added start ws start) (sym h) refl
adds_begun stage.Events words h = subst (λ (ws : List Words). AddsAll added start ws (state_at stage.Events h.0)) (sym h.1) (state_at stage.Events [], adds_head, adds_only [] h.0 h.2)
adds_begun stage.Ended words h = subst (λ (ws : List Words). AddsAll added start ws (state_at stage.Ended h.0)) (sym h.1) (adds_journal h.0 h.2)
