use Rattle.std.proofs.Common.{rules, ◌≡◌, ◌<◌, ◌≤◌, false, length, refl}
use Rattle.hq_kernels.proofs.KitLists.{kits_more, kits_refused, kits_all}
use Rattle.hq_kernels.proofs.kits.kits_fit.Goals as goal

pub returns-then-not-kit_fits : goal.returns-then-not-kit_fits
returns-then-not-kit_fits g c =
    let low : c.loop-queue.queue < length c.args.kits.now = search rules in
    let count : length c.args.kits.now ≡ length c.args.job.now.queues = search rules in
    let fails : c.kit_fits.result ≡ false = search rules in
    kits_refused c.args.job.now _ c.args.kits.now c.loop-queue.queue c.index-kits-queue.result c.kit_fits.result low c.index-kits-queue.is count c.kit_fits.ensures fails

pub loop-queue-preserved : goal.loop-queue-preserved
loop-queue-preserved g c =
    let low : c.loop-queue.queue < length c.args.kits.now = search rules in
    kits_more c.args.job.now _ c.args.kits.now c.loop-queue.queue c.index-kits-queue.result low c.index-kits-queue.is c.loop-queue.invariant (c.kit_fits.ensures.0 (search rules))

pub returns : goal.returns
returns g c =
    let count : length c.args.kits.now ≡ length c.args.job.now.queues = search rules in
    let all : length c.args.job.now.queues ≤ c.loop-queue.queue = search rules in
    (λ t. kits_all c.args.job.now _ c.args.kits.now c.loop-queue.queue count all c.loop-queue.invariant, λ fit. refl)
