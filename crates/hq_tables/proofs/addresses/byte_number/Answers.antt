use Rattle.std.proofs.Common.{◌≡◌, ◌<◌, ◌≤◌, ◌+◌, ◌⊎◌, length, arith, inl, inr, ap}
use Rattle.hq_tables.proofs.BytePlaces.{turn_found, turn_on, total_cut, none_left}
use Rattle.hq_tables.proofs.addresses.byte_number.Goals.{else-buffer-address-via-then-buffer-address+else-address-buffer, else-buffer-address-via-else-buffer-address}
use Rattle.hq_tables.proofs.addresses.byte_number.Goals as goal

pub returns-then-address-buffer : goal.returns-then-address-buffer
returns-then-address-buffer c =
    let len : c.range-len.result.len ≡ length c.buffer-item.result.bytes.items = ap (λ r. r.len) c.range-len.ensures in
    turn_found c.args.buffers.now c.loop-buffer.buffer-index c.buffer-item.result c.loop-buffer.before c.args.address c.loop-buffer-test.true c.buffer-item.is c.loop-buffer.invariant.place (omega arith) (omega arith)

pub loop-buffer-preserved : goal.loop-buffer-preserved
loop-buffer-preserved c =
    let len : c.range-len.result.len ≡ length c.buffer-item.result.bytes.items = ap (λ r. r.len) c.range-len.ensures in
    let out : (c.args.address < c.buffer-item.result.at) ⊎ (c.buffer-item.result.at + length c.buffer-item.result.bytes.items ≤ c.args.address) = elim c.else-buffer-address.branch [
      | else-buffer-address-via-then-buffer-address+else-address-buffer w ↦ inr (omega (arith, w.if-buffer-address.true, w.if-address-buffer.false))
      | else-buffer-address-via-else-buffer-address w ↦ inl (omega (arith, w.if-buffer-address.false))
    ] in
    record {
      total = omega (arith, total_cut c.args.buffers.now c.loop-buffer.buffer-index c.buffer-item.result c.loop-buffer-test.true c.buffer-item.is);
      place = rw len (turn_on c.args.buffers.now c.loop-buffer.buffer-index c.buffer-item.result c.loop-buffer.before c.args.address c.loop-buffer-test.true c.buffer-item.is c.loop-buffer.invariant.place out);
    }

pub returns : goal.returns
returns c = none_left c.args.buffers.now c.loop-buffer.buffer-index c.loop-buffer.before c.args.address c.loop-buffer-test.false c.loop-buffer.invariant.place
