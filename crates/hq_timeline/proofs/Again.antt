-- What is printed of a journal is cut into the same words again.
use Rattle.std.proofs.Common.{List, [], ◌∷◌, ◌++◌, refl}
use Rattle.std.specs.Prelude.{map}
use Rattle.std.specs.List.{AllByRecursion}
use Rattle.hq_text.proofs.Printed.{PlainLine, plain_line, plain_number, lines_again}
use Rattle.hq_events.specs.declared.event.Event.{Event}
use Rattle.hq_events.specs.declared.event.Event.TheVariants as event
use Rattle.hq_timeline.specs.Grammar.{EventFits, event_words, end_words, journal_words}
use Rattle.hq_timeline.specs.Printed.{ReadBack}

pub plain_event : (e : Event) → EventFits e → PlainLine (event_words e)
plain_event event.Submit h = plain_line _ [] refl tt
plain_event (event.Launch a) h = plain_line _ _ refl (plain_number a h, tt)
plain_event (event.Observe a b) h = plain_line _ _ refl (plain_number a h.0, (plain_number b h.1, tt))
plain_event (event.Enter a) h = plain_line _ _ refl (plain_number a h, tt)
plain_event (event.Fetch a) h = plain_line _ _ refl (plain_number a h, tt)
plain_event (event.Deliver a) h = plain_line _ _ refl (plain_number a h, tt)
plain_event (event.Complete a) h = plain_line _ _ refl (plain_number a h, tt)
plain_event event.Rest h = plain_line _ [] refl tt
plain_event (event.Read a b) h = plain_line _ _ refl (plain_number a h.0, (plain_number b h.1, tt))
plain_event (event.Store a b) h = plain_line _ _ refl (plain_number a h.0, (plain_number b h.1, tt))
plain_event (event.Finish a) h = plain_line _ _ refl (plain_number a h, tt)
plain_event (event.PushLane a b) h = plain_line _ _ refl (plain_number a h.0, (plain_number b h.1, tt))
plain_event (event.PushAgent a b) h = plain_line _ _ refl (plain_number a h.0, (plain_number b h.1, tt))
plain_event (event.FillLane a b) h = plain_line _ _ refl (plain_number a h.0, (plain_number b h.1, tt))
plain_event (event.FillAgent a b) h = plain_line _ _ refl (plain_number a h.0, (plain_number b h.1, tt))
plain_event (event.DropLane a b) h = plain_line _ _ refl (plain_number a h.0, (plain_number b h.1, tt))
plain_event (event.DropAgent a b) h = plain_line _ _ refl (plain_number a h.0, (plain_number b h.1, tt))

plain_events : (es : List Event) → AllByRecursion EventFits es → AllByRecursion PlainLine (map event_words es ++ end_words ∷ [])
plain_events [] h = (plain_line _ [] refl tt, tt)
plain_events (e ∷ es) h = (plain_event e h.0, plain_events es h.1)

pub printed_is_text : ReadBack
printed_is_text events h = record { spelled = lines_again (journal_words events) (plain_line _ _ refl (refl, tt), plain_events events h); fits = h }
