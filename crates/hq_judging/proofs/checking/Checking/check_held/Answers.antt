use Rattle.hq_judging.proofs.checking.Checking.check_held.Goals as goal

pub returns : goal.returns
returns g c from lines h = c.note.ensures.noted from c.args.chunks.now lines h c.look_meanwhile.ensures.judged
