-- What a draft means: what the lines so far leave.
use Rattle.std.specs.Prelude.{map, List, [], ◌++◌, replicate}
use Rattle.hq_model.specs.Certificate as model
use Rattle.hq_certread.specs.declared.draft.Draft.{Draft}
use Rattle.hq_certread.specs.TextFaults.{State}
use Rattle.hq_cert.specs.View.{line_of, pair_of}

-- what lines leave, with these lines of the certificate and these pair lines in front of theirs
abbrev pub behind : List model.Line → List model.Pair → State → State
behind front gone s = record {
  stage = s.stage;
  chained = s.chained;
  order = s.order;
  lines = front ++ s.lines;
  pairs = gone ++ s.pairs;
}

-- what the lines so far leave, without what was let go, by the draft's fields
abbrev pub kept_of : Draft → State
kept_of d = record {
  stage = d.stage;
  chained = d.chained;
  order = d.order.items;
  lines = map line_of d.lines.items;
  pairs = map pair_of d.pairs.items;
}

-- what stands for a line that was let go: no test of the lines behind it asks what it says
abbrev pub blank : model.Line
blank = record { p = 0; r = 0; rule = model.Rule.Queue }

-- the same behind as many lines as were let go
abbrev pub state_of : Draft → State
state_of d = behind (replicate d.gone blank) [] (kept_of d)

-- the same without its lines and its pair lines
abbrev pub without_lines : State → State
without_lines s = record { stage = s.stage; chained = s.chained; order = s.order; lines = []; pairs = [] }
