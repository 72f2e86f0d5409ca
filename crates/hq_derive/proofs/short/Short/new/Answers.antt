use Rattle.std.proofs.Common.{rules}
use Rattle.hq_derive.proofs.Storing.{parts_are}
use Rattle.hq_derive.proofs.short.Short.new.Goals as goal

pub returns-clause-form : goal.returns-clause-form
returns-clause-form c = let a = c.args in let h = c.requires in (parts_are _ a.form a.p a.r a.first a.second h.form h.p_is h.r_is h.first h.second (search rules)).0

pub returns-clause-p : goal.returns-clause-p
returns-clause-p c = let a = c.args in let h = c.requires in (parts_are _ a.form a.p a.r a.first a.second h.form h.p_is h.r_is h.first h.second (search rules)).1

pub returns-clause-r : goal.returns-clause-r
returns-clause-r c = let a = c.args in let h = c.requires in (parts_are _ a.form a.p a.r a.first a.second h.form h.p_is h.r_is h.first h.second (search rules)).2

pub returns-clause-first : goal.returns-clause-first
returns-clause-first c = let a = c.args in let h = c.requires in (parts_are _ a.form a.p a.r a.first a.second h.form h.p_is h.r_is h.first h.second (search rules)).3

pub returns-clause-second : goal.returns-clause-second
returns-clause-second c = let a = c.args in let h = c.requires in (parts_are _ a.form a.p a.r a.first a.second h.form h.p_is h.r_is h.first h.second (search rules)).4
