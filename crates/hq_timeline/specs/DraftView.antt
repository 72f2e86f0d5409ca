-- What a draft means: what the lines so far leave.
use Rattle.hq_timeline.specs.declared.draft.Draft.{Draft}
use Rattle.hq_timeline.specs.TextStates.{State}

-- what the lines so far leave, by the draft's fields
abbrev pub state_of : Draft → State
state_of d = record { stage = d.stage; events = d.events.items }
