use Rattle.std.proofs.Common.{refl}
use Rattle.std.specs.Prelude.{map}
use Rattle.std.proofs.lemmas.Result.{on_ok_weaker}
use Rattle.hq_certtext.specs.Printed.{is_chain}
use Rattle.hq_cert.specs.View.{line_of, pair_of}
use Rattle.hq_certtext.proofs.Puts.{then_gains, as_text, from_front, text_is}
use Rattle.hq_certtext.proofs.printing.write_text.Goals as goal

pub returns : goal.returns
returns g c = on_ok_weaker c.write_end.result (λ ended.
    from_front
    (as_text
    (then_gains c.in_ok-at.ensures.written
    (then_gains c.in_ok-at-2.ensures.written
    (then_gains c.in_ok-at-3.ensures.written ended)))
    (text_is (λ pair. is_chain pair.fences) pair_of c.args.certificate.now c.has_chain-chained.result c.order.result.now (map line_of c.lines.result.now) c.pairs.result.now c.pairs-2.result.now (λ d. refl)
    c.has_chain-chained.ensures c.pairs.ensures c.order.ensures c.lines.ensures c.pairs-2.ensures))) c.write_end.ensures
