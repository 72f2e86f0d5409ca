use Rattle.hq_certread.proofs.progress.Progress.finish.Goals as goal

pub returns-clause-read : goal.returns-clause-read
returns-clause-read c lines front gone h = c.finished.ensures.read lines front gone h.counted h.admitted

pub returns-clause-whole : goal.returns-clause-whole
returns-clause-whole c lines h = c.finished.ensures.whole lines h.counted h.admitted
