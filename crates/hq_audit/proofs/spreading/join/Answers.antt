use Rattle.std.proofs.Common.{◌≡◌, ◌+◌, ◌<◌, ◌∙◌, refl, sym, subst, length, arith, slice_index_or}
use Rattle.std.proofs.lemmas.List.{length-set, get_or-set_other}
use Rattle.hq_audit.specs.declared.spreading.Part.{Part}
use Rattle.hq_audit.specs.Rowed.{DraftsUpto, MayDraft, start_of}
use Rattle.hq_audit.proofs.Rowing.{upto_none, upto_joined}
use Rattle.hq_audit.proofs.spreading.join.Goals as goal

pub loop-part-preserved : goal.loop-part-preserved
loop-part-preserved c =
    let job = c.args.before.now in
    let now = c.loop-part.parts in
    let first = c.args.parts.now in
    let i = c.loop-part.part-index in
    let d = c.part-item.result in
    let inv = c.loop-part.invariant in
    let item = slice_index_or now i d in
    let left : Part = record { drafts = c.join.new.others; whole = item.whole } in
    let low : i < length first = omega (arith, c.loop-part-test.true, inv.len) in
    let may : MayDraft job i item = subst (MayDraft job i) (sym (inv.rest i d (omega arith))) (c.requires.parts i d low) in
    record {
      len = length-set now i left ∙ inv.len;
      rest = λ k e above. get_or-set_other now i k left e (λ e. omega (arith, e, above)) ∙ inv.rest k e (omega (arith, above));
      upto = upto_joined job (start_of job i) (start_of job (i + 1)) c.loop-part.all item.drafts c.join.new.self inv.upto (may c.if-not-part.false) c.in-Ok.ensures;
    }

pub loop-part-init : goal.loop-part-init
loop-part-init c = record {
  len = refl;
  rest = λ k d above. refl;
  upto = subst (λ n. DraftsUpto c.args.before.now n c.args.all.now) (omega arith) (upto_none c.args.before.now c.args.all.now c.requires.are);
}

pub returns : goal.returns
returns c = λ t.
    let all : c.loop-part.part-index ≡ length c.args.parts.now = omega (arith, c.loop-part-test.false, c.loop-part.invariant.len) in
    subst (λ n. DraftsUpto c.args.before.now (start_of c.args.before.now n) c.loop-part.all) all c.loop-part.invariant.upto
