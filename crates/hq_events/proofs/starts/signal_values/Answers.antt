use Rattle.std.proofs.Common.{◌≡◌, length, ap, arith}
use Rattle.std.proofs.lemmas.List.{length-map}
use Rattle.hq_signals.specs.Table.{OpenSignal, starts}
use Rattle.hq_events.proofs.Replicated.{all_get}
use Rattle.hq_events.proofs.starts.signal_values.Goals as goal

pub returns : goal.returns
returns c =
    let signals = c.args.job.now.signals in
    let counted : length (starts signals) ≡ length signals = length-map signals (λ (s : OpenSignal). s.start) in
    let n = c.loop-signal-test.false in
    let e = c.loop-signal.invariant.count in
    let end = c.loop-signal.auto.signal-end in
    let of = c.len-count.ensures.value in
    let table = ap length c.signals-signals.ensures in
    all_get c.loop-signal.values.items (starts signals) c.loop-signal.invariant.are (omega arith)
