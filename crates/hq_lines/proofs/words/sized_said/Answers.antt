use Rattle.std.proofs.Common.{◌≡◌, ◌*◌, ◌∙◌, length, Ok, sym, ap, subst, arith}
use Rattle.std.proofs.lemmas.List.{with_items_is}
use Rattle.hq_lines.specs.Decodes.{Decodes}
use Rattle.hq_lines.proofs.Pairs.{sized_wrong_count, sized_wrong_digit, sized_right}
use Rattle.hq_lines.proofs.words.sized_said.Goals as goal

pub returns-then-word-len-clause-value : goal.returns-then-word-len-clause-value
returns-then-word-len-clause-value c = sized_wrong_count c.args.word.now c.args.len (λ e. c.if-word-len.true (omega (arith, e, c.len.ensures, c.in_ok-bytes.ensures.len)))

pub returns-then-not-decode_pairs-clause-value : goal.returns-then-not-decode_pairs-clause-value
returns-then-not-decode_pairs-clause-value c =
    let twice : length c.args.word.now ≡ 2 * c.args.len = omega (arith, c.if-word-len.false, c.len.ensures, c.in_ok-bytes.ensures.len) in
    sized_wrong_digit c.args.word.now c.args.len twice (subst (λ b. Decodes c.args.word.now c.decode_pairs.new.bytes b) c.if-not-decode_pairs.true c.decode_pairs.ensures)

pub returns-clause-value : goal.returns-clause-value
returns-clause-value c =
    let twice : length c.args.word.now ≡ 2 * c.args.len = omega (arith, c.if-word-len.false, c.len.ensures, c.in_ok-bytes.ensures.len) in
    let bytes = c.in_ok-bytes.bytes in
    let new = c.decode_pairs.new.bytes in
    let long : length new ≡ bytes.len = omega (arith, c.decode_pairs.auto.bytes, c.deref_mut.ensures.len, bytes.ok.0) in
    sized_right c.args.word.now new c.args.len twice (subst (λ b. Decodes c.args.word.now new b) c.if-not-decode_pairs.false c.decode_pairs.ensures) ∙ ap Ok (sym (with_items_is bytes new long))
