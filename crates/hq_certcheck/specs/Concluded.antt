-- What lines conclude, by whatever rules.
use Rattle.hq_model.specs.Certificate.{Line}
use Rattle.hq_model.specs.Certificate.Rule.{Queue}
use Rattle.hq_certcheck.specs.declared.conclusion.Conclusion.{Conclusion}

-- what a line concludes
abbrev pub conclusion_of : Line → Conclusion
conclusion_of line = record { p = line.p; r = line.r }

-- A line that concludes this, by a rule that nothing asks for.
abbrev pub bare : Conclusion → Line
bare c = record { p = c.p; r = c.r; rule = Queue }
