use Rattle.std.proofs.Common.{◌≡◌, ◌<◌, ◌∙◌, ap, sym, subst, arith, List, get_or, slice_get, Some}
use Rattle.std.proofs.lemmas.List.{get_or_default}
use Rattle.hq_footprint.specs.declared.footprint.Work.{Work}
use Rattle.hq_footprint.specs.Counts.{reads_of, writes_of}
use Rattle.hq_footprint.specs.Tasks.{result_of}
use Rattle.hq_job.specs.Value.{JobValue}
use Rattle.hq_job.specs.View.{PacketIsRead}
use Rattle.hq_ledger.specs.Pieces.{Part}
use Rattle.hq_hall.specs.Handing.{work_of}
use Rattle.hq_hall.specs.View.{ArePieces, bytes_among, no_piece, piece_at, state_in, work_in}
use Rattle.hq_hall.proofs.Packets.{brought}
use Rattle.hq_hall.proofs.hall.Hall.deliver.Goals as goal

pub take_back-taken-requires-else-writes-eq0-clause-bytes : goal.take_back-taken-requires-else-writes-eq0-clause-bytes
take_back-taken-requires-else-writes-eq0-clause-bytes c = λ _.
    let hall = c.args.self.now in
    let p = c.args.packet in
    let x = c.placed.result.now in
    let items = c.args.pieces.items in
    let work : x.work ≡ work_in hall p = c.placed.ensures.work ∙ ap (λ (v : JobValue). work_of v.packets p) c.job.ensures in
    let are : ArePieces (state_in hall) p (work_in hall p) items =
    subst (λ (ps : List Part). ArePieces (state_in hall) p (work_in hall p) ps) c.deref.ensures.value (c.are_pieces.ensures.0 c.if-not-are_pieces.false) in
    let reads : c.reads.result ≡ reads_of (work_in hall p).task = c.reads.ensures ∙ ap (λ (w : Work). reads_of w.task) work in
    let writes : c.writes.result ≡ writes_of (work_in hall p).task = c.writes.ensures ∙ ap (λ (w : Work). writes_of w.task) work in
    let some : 0 < writes_of (work_in hall p).task = omega (arith, writes, c.if-writes-eq0.false) in
    let item : c.index.result.now ≡ piece_at items (reads_of (work_in hall p).task) =
    c.index.ensures ∙ ap (λ k. get_or items k c.index.result.now) reads
    ∙ get_or_default items (reads_of (work_in hall p).task) c.index.result.now no_piece (omega (arith, are.count, some)) in
    let bytes : c.bytes.result.now ≡ result_of (work_in hall p).task (work_in hall p).foot.write.len (bytes_among (work_in hall p).task items) =
    c.bytes.ensures ∙ ap (λ (part : Part). part.bytes) item ∙ c.requires.done.task are some in
    brought hall.job.job hall.state p x c.placed.ensures.ranges.0 c.placed.ensures.ranges.1 c.placed.ensures.numbers.0 c.placed.ensures.numbers.1 items c.bytes.result.now
    (subst (λ (v : JobValue). PacketIsRead v x) c.job.ensures c.placed.ensures.read)
    (subst (λ (v : JobValue). slice_get v.packets p ≡ Some x) c.job.ensures c.placed.ensures.there)
    c.placed.ensures.ranges.2 c.placed.ensures.numbers.2
    (subst (λ (w : Work). ArePieces (state_in hall) p w items) (sym work) are)
    (subst (λ (w : Work). c.bytes.result.now ≡ result_of w.task w.foot.write.len (bytes_among w.task items)) (sym work) bytes)
