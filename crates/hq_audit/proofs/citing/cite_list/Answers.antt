use Rattle.std.proofs.Common.{◌<◌, map, length, arith}
use Rattle.std.proofs.lemmas.List.{length-map}
use Rattle.hq_job.specs.Plan.{plan}
use Rattle.hq_cert.specs.View.{pair_of}
use Rattle.hq_derive.specs.Gathered.{lines_of}
use Rattle.hq_audit.specs.Packed.{unpacked}
use Rattle.hq_derive.specs.Needed.{HasLine}
use Rattle.hq_audit.specs.Drafted.{IsDraft}
use Rattle.hq_audit.proofs.Numbering.{packed_draft, packed_pair, pairs_none, pairs_go}
use Rattle.hq_audit.proofs.citing.cite_list.Goals as goal

pub loop-packed-init : goal.loop-packed-init
loop-packed-init c = pairs_none (plan c.args.job.now) (lines_of c.args.lines.now) c.args.pairs.now

pub loop-packed-preserved : goal.loop-packed-preserved
loop-packed-preserved c =
    let job = plan c.args.job.now in
    let lines = lines_of c.args.lines.now in
    let drafts = c.args.drafts.now in
    let i = c.loop-packed.packed-index in
    let pair = c.in_ok-pair.field-0 in
    let low : i < length (map unpacked drafts) = omega (arith, c.loop-packed-test.true, length-map drafts unpacked) in
    pairs_go job lines (map unpacked drafts) i c.draft.result pair c.args.pairs.now c.loop-packed.pairs c.push.new.self low c.loop-packed.invariant
    (packed_pair job lines drafts i _ c.draft.result (pair_of pair) c.loop-packed-test.true c.draft.ensures c.in_ok-pair.ensures) c.in_ok-push.ensures.items

pub pair-requires : goal.pair-requires
pair-requires c = packed_draft (IsDraft (plan c.args.job.now) (HasLine (lines_of c.args.lines.now))) c.args.drafts.now c.loop-packed.packed-index _ c.draft.result c.loop-packed-test.true c.draft.ensures c.requires
