use Rattle.std.proofs.Common.{◌+◌, ◌*◌, inl, inr, IsTrue, length, sym, ap, subst, ◌∙◌}
use Rattle.hq_bits.specs.Bits.{has}
use Rattle.hq_bits.proofs.Words.{or_cases}
use Rattle.hq_derive.proofs.Noting.{restored}
use Rattle.hq_derive.proofs.needs.Needs.take_in.Goals as goal

pub returns-clause-widens : goal.returns-clause-widens
returns-clause-widens c =
    let old = c.args.self.now.bits in
    let row = c.deref_mut.result.now in
    let other = c.deref.result.now in
    let long = c.unite.ensures.grown.len ∙ ap length c.deref_mut.ensures.value in
    let is = restored c.unite.new.row old.items old.len long old.ok.0 in
    record {
      room = record { few = c.requires.room.few; len = ap length is ∙ long ∙ c.requires.room.len };
      needed = λ p r h.
          let n = p * 1024 + r in
          (h.0, subst (λ xs. IsTrue (has xs n)) (sym is) (c.unite.ensures.exact n ∙ (or_cases (has row n) (has other n)).1 (inl (subst (λ xs. IsTrue (has xs n)) (sym c.deref_mut.ensures.value) h.1))));
    }

pub returns-clause-taken : goal.returns-clause-taken
returns-clause-taken c =
    let old = c.args.self.now.bits in
    let row = c.deref_mut.result.now in
    let other = c.deref.result.now in
    let long = c.unite.ensures.grown.len ∙ ap length c.deref_mut.ensures.value in
    let is = restored c.unite.new.row old.items old.len long old.ok.0 in
    record {
      room = record { few = c.requires.room.few; len = ap length is ∙ long ∙ c.requires.room.len };
      needed = λ p r h.
          let n = p * 1024 + r in
          (h.0, subst (λ xs. IsTrue (has xs n)) (sym is) (c.unite.ensures.exact n ∙ (or_cases (has row n) (has other n)).1 (inr (subst (λ xs. IsTrue (has xs n)) (sym c.deref.ensures.value) h.1))));
    }
