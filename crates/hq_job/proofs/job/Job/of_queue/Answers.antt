use Rattle.std.proofs.Common.{length, ap}
use Rattle.hq_job.proofs.Spans.{spans, as_many}
use Rattle.hq_job.proofs.job.Job.of_queue.Goals as goal

pub span_of-requires : goal.span_of-requires
span_of-requires c = as_many c.self.inside c.self.invariant c.args.self.now c.self.view_is c.deref.result.now c.deref.ensures.value c.args.queue c.requires

pub returns : goal.returns
returns c =
    spans c.self.inside c.self.invariant c.args.self.now c.self.view_is c.deref.result.now c.deref.ensures.value (length c.deref-2.result.now) (ap length c.deref-2.ensures.value) c.args.queue _ _
    (as_many c.self.inside c.self.invariant c.args.self.now c.self.view_is c.deref.result.now c.deref.ensures.value c.args.queue c.requires) c.span_of.ensures.start c.span_of.ensures.end
