use Rattle.std.proofs.Common.{refl}
use Rattle.std.specs.Prelude.{map}
use Rattle.std.proofs.lemmas.List.{map-append}
use Rattle.hq_cert.specs.View.{pair_of}
use Rattle.hq_certread.proofs.Taking.{no_leading_pairs, pair_taken}
use Rattle.hq_certread.proofs.leading.leading_pairs.Goals as goal

pub loop-pair-init : goal.loop-pair-init
loop-pair-init c = no_leading_pairs c.args.before c.args.text.now (map pair_of c.args.pairs.now.items)

pub loop-pair-preserved : goal.loop-pair-preserved
loop-pair-preserved c =
    pair_taken c.args.text.now c.loop-pair.rest.now c.in-Some.behind.now c.loop-pair.taken c.args.before _ (map pair_of c.loop-pair.pairs.items) _ (pair_of c.in-Some.pair)
    c.loop-pair.invariant c.in-Some.ensures (rw (c.in_ok-push.ensures.items, map-append) refl)
