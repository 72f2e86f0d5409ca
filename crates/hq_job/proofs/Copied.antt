-- An equal job has equal fields.
use Rattle.std.proofs.Common.{◌≡◌, ℕ, List, length, map, sym, ◌∙◌, ap, subst}
use Rattle.hq_model.specs.Journal.{numbers}
use Rattle.hq_job.specs.declared.job.Job.TheInside.{Inside}
use Rattle.hq_tables.specs.declared.rows.Placed.{Placed}
use Rattle.hq_job.specs.JobFields.{FieldsFit}
use Rattle.hq_job.specs.Numbering.{by_number}
use Rattle.hq_tables.specs.Tables.{Tables}
use Rattle.hq_tables.specs.TablesView.{tables_of}
use Rattle.hq_job.specs.Value.{JobValue}
use Rattle.hq_job.specs.View.{value_of, IsRead}

-- the job of these tables, packets and submissions
shown : Tables → List Placed → List ℕ → JobValue
shown ts packets submissions =
    record {
      rings = ts.rings;
      agents = ts.agents;
      buffers = ts.buffers;
      arguments = ts.arguments;
      signal_names = ts.signal_names;
      signals = ts.signals;
      kernels = ts.kernels;
      queues = ts.queues;
      packets = packets;
      submissions = submissions;
    }

pub same_value : (j k : Inside) → tables_of k.tables ≡ tables_of j.tables → k.packets.items ≡ j.packets.items → k.submissions.items ≡ j.submissions.items → value_of k ≡ value_of j
unfolding shown
same_value j k tables packets submissions = λ i. shown (tables i) (packets i) (submissions i)

pub fit_copied : (j k : Inside) → tables_of k.tables ≡ tables_of j.tables → k.packets.items ≡ j.packets.items → k.firsts.items ≡ j.firsts.items → k.submissions.items ≡ j.submissions.items → FieldsFit j → FieldsFit k
fit_copied j k tables packets firsts submissions fit = record {
  is_read = subst IsRead (sym (same_value j k tables packets submissions)) fit.is_read;
  queues_are = ap (map (λ (p : Placed). p.queue)) packets ∙ fit.queues_are
      ∙ ap (λ ps. map (λ (p : Placed). p.queue) (by_number (length j.tables.queues.items) ps)) (sym packets)
      ∙ ap (λ (ts : Tables). map (λ (p : Placed). p.queue) (by_number (length ts.queues) k.packets.items)) (sym tables);
  firsts_are = firsts ∙ fit.firsts_are
      ∙ ap (λ ps. map (λ q. length (by_number q ps)) (numbers (length j.tables.queues.items))) (sym packets)
      ∙ ap (λ (ts : Tables). map (λ q. length (by_number q k.packets.items)) (numbers (length ts.queues))) (sym tables);
}
