use Rattle.hq_rows.proofs.Exchanging.{half_1, half_2, half_4, half_8, half_16, half_32, turned_round}
use Rattle.hq_rows.proofs.turning.turn_block.Goals as goal

pub exchange-requires : goal.exchange-requires
exchange-requires c = half_32

pub exchange-requires-2 : goal.exchange-requires-2
exchange-requires-2 c = half_16

pub exchange-requires-3 : goal.exchange-requires-3
exchange-requires-3 c = half_8

pub exchange-requires-4 : goal.exchange-requires-4
exchange-requires-4 c = half_4

pub exchange-requires-5 : goal.exchange-requires-5
exchange-requires-5 c = half_2

pub exchange-requires-6 : goal.exchange-requires-6
exchange-requires-6 c = half_1

pub returns : goal.returns
returns c = turned_round c.args.block.now c.exchange.new.block c.exchange-2.new.block c.exchange-3.new.block c.exchange-4.new.block c.exchange-5.new.block c.exchange-6.new.block c.exchange.ensures c.exchange-2.ensures c.exchange-3.ensures c.exchange-4.ensures c.exchange-5.ensures c.exchange-6.ensures
