use Rattle.std.proofs.Common.{◌≡◌, ◌∙◌, None, subst, sym}
use Rattle.hq_jobtext.proofs.RewrittenLines.{Partly, nothing_yet, ready, last_ready, one_more, all_lines}
use Rattle.hq_jobtext.proofs.rewriting.rewrite_lines.Goals as goal

pub loop-at-init : goal.loop-at-init
loop-at-init c =
    subst (Partly c.args.heads.now c.args.numbers.now c.args.text.now c.args.text.now c.args.numbers.now) (sym c.in_ok-new.ensures.items) (nothing_yet c.args.heads.now c.args.numbers.now c.args.text.now c.requires.numbered c.requires.below)

pub push_line-requires : goal.push_line-requires
push_line-requires c =
    ready c.args.heads.now c.args.numbers.now c.args.text.now c.loop-at.rest.now c.loop-at.left.now c.loop-at.new.items c.in-Some.at c.split_at.result.0.now c.loop-at.invariant (sym c.line_end.ensures ∙ c.in-Some.is) c.split_at.ensures.front

pub loop-at-preserved : goal.loop-at-preserved
loop-at-preserved c =
    one_more c.args.heads.now c.args.numbers.now c.args.text.now c.loop-at.rest.now c.loop-at.left.now c.loop-at.new.items c.in-Some.at c.split_at.result.0.now c.split_at.result.1.now c.split_at-in-Some.result.1.now c.in_ok-left.left.now c.push_line.new.new.items c.push.new.self.items
    c.loop-at.invariant (sym c.line_end.ensures ∙ c.in-Some.is) c.split_at.ensures.front c.split_at.ensures.back c.split_at-in-Some.ensures.back c.in_ok-left.ensures c.in_ok-push.ensures.items

pub push_line-requires-2 : goal.push_line-requires-2
push_line-requires-2 c =
    let none : c.line_end.result ≡ None = c.in_default.is in
    last_ready c.args.heads.now c.args.numbers.now c.args.text.now c.loop-at.rest.now c.loop-at.left.now c.loop-at.new.items c.loop-at.invariant (sym c.line_end.ensures ∙ none)

pub returns : goal.returns
returns c =
    let none : c.line_end.result ≡ None = c.in_default.is in
    all_lines c.args.heads.now c.args.numbers.now c.args.text.now c.loop-at.rest.now c.loop-at.left.now c.loop-at.new.items c.in_ok-push_line.field-0.now c.push_line-2.new.new.items c.loop-at.invariant (sym c.line_end.ensures ∙ none) c.in_ok-push_line.ensures
