use Rattle.std.proofs.Common.{rules, ◌≡◌, ◌≤◌, length}
use Rattle.hq_kernels.proofs.KitLists.{kits_pushed, kits_all}
use Rattle.hq_kernels.proofs.StockKits.{stock_kits_pushed}
use Rattle.hq_kernels.proofs.kits.stock_kits.Goals as goal

pub loop-queue-preserved : goal.loop-queue-preserved
loop-queue-preserved g c = record {
  count = search rules;
  fit = kits_pushed c.args.job.now _ c.loop-queue.kits.items c.push.new.self.items c.loop-queue.queue c.in_ok-stock_kit.field-0 c.in_ok-push.ensures.items c.loop-queue.invariant.count c.loop-queue.invariant.fit c.in_ok-stock_kit.ensures.fit;
  stock = stock_kits_pushed _ c.loop-queue.kits.items c.push.new.self.items c.in_ok-stock_kit.field-0 c.in_ok-push.ensures.items c.loop-queue.invariant.stock c.in_ok-stock_kit.ensures.stock;
}

pub returns-clause-fit : goal.returns-clause-fit
returns-clause-fit g c =
    let all : length c.args.job.now.queues ≤ c.loop-queue.queue = search rules in
    let count : length c.loop-queue.kits.items ≡ length c.args.job.now.queues = search rules in
    kits_all c.args.job.now _ c.loop-queue.kits.items c.loop-queue.queue count all c.loop-queue.invariant.fit
