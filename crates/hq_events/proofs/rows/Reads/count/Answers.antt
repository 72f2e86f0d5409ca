use Rattle.std.proofs.Common.{◌≡◌, inl, inr, ◌∙◌, ap, sym, length, count_by, is_some}
use Rattle.std.proofs.lemmas.Bool.{eq-eqb, true≢false}
use Rattle.std.specs.Vec.{vec_len}
use Rattle.hq_events.proofs.Wholes.{whole_count}
use Rattle.hq_events.proofs.rows.Reads.count.Goals as goal

pub returns-else-is_empty : goal.returns-else-is_empty
returns-else-is_empty c =
    let whole = c.self.inside.whole in
    let none : length c.self.inside.bytes.items ≡ 0 = elim c.self.invariant.one [
      | inl z ↦ absurd (true≢false (sym (eq-eqb (vec_len whole) 0 (whole.ok.0 ∙ z)) ∙ sym c.is_empty.ensures ∙ c.if-is_empty.false))
      | inr e ↦ e
    ] in
    c.len.ensures ∙ whole.ok.0 ∙ sym (whole_count whole.items c.self.inside.bytes.items none) ∙ ap (count_by is_some) c.self.view_is
