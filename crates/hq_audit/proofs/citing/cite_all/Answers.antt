use Rattle.std.proofs.Common.{◌≡◌, ◌++◌, sym, subst, map, take, rules, slice_index_or}
use Rattle.std.specs.Prelude.{All}
use Rattle.hq_job.specs.Plan.{plan}
use Rattle.hq_derive.specs.Gathered.{lines_of}
use Rattle.hq_derive.specs.Needed.{HasLine}
use Rattle.hq_audit.specs.Packed.{unpacked}
use Rattle.hq_audit.specs.Drafted.{listed, IsDraft}
use Rattle.hq_audit.specs.Paired.{pairs_of, ArePairsOf}
use Rattle.hq_audit.proofs.Listing.{each_of_list, lists_more}
use Rattle.hq_audit.proofs.citing.cite_all.Goals as goal

pub cite_list-requires : goal.cite_list-requires
cite_list-requires c =
    let Is = IsDraft (plan c.args.job.now) (HasLine (lines_of c.args.lines.now)) in
    let lists = c.args.lists.now in
    let i = c.loop-list.list-index in
    let list = c.list-item.result in
    let is : list ≡ slice_index_or lists i list = search rules in
    subst (λ ws. All Is (map unpacked ws)) (sym c.deref.ensures.value) (each_of_list Is lists i list c.loop-list-test.true is c.requires)

pub loop-list-preserved : goal.loop-list-preserved
loop-list-preserved c =
    let job = plan c.args.job.now in
    let lines = lines_of c.args.lines.now in
    let lists = c.args.lists.now in
    let i = c.loop-list.list-index in
    let list = c.list-item.result in
    let is : list ≡ slice_index_or lists i list = search rules in
    let pairs = pairs_of c.cite_list.new.pairs in
    subst (λ ds. ArePairsOf job lines ds pairs) (sym (lists_more lists i list c.loop-list-test.true is))
    (subst (λ ws. ArePairsOf job lines (listed (take i lists) ++ map unpacked ws) pairs) c.deref.ensures.value (c.in_ok-cite_list.ensures (listed (take i lists)) c.loop-list.invariant))
