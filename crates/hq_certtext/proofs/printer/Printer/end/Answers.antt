use Rattle.std.proofs.Common.{sym, subst, take, codes}
use Rattle.std.specs.Io.KnownBytes.{Appends, append_known}
use Rattle.std.proofs.lemmas.Result.{on_ok_weaker}
use Rattle.hq_certtext.proofs.Puts.{all_gone}
use Rattle.hq_certtext.proofs.printer.Printer.end.Goals as goal

pub returns : goal.returns
returns g c = on_ok_weaker c.write_end.result (λ ended w text h.
    let contents = g.W.Write.contents in
    all_gone w (contents c.args.writer.now) (contents c.write_end.new.writer) c.deref_mut.result.now c.write_end.new.bytes text (codes "end\n") c.args.self.at
    (subst (λ items. Appends w (append_known (contents c.args.writer.now) (take c.args.self.at items)) text) (sym c.deref_mut.ensures.value) h) ended) c.write_end.ensures
