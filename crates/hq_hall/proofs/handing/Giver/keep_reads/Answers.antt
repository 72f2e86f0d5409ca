use Rattle.std.proofs.Common.{◌≡◌, ◌<◌, List, [], ◌∷◌, ◌++◌, ◌∙◌, ap₂, sym, subst, arith, length, All}
use Rattle.std.specs.List.{flat_map}
use Rattle.std.proofs.lemmas.Result.{on_ok_weaker}
use Rattle.hq_footprint.specs.declared.footprint.Range.{Range}
use Rattle.hq_footprint.specs.Bytes.{bytes_of}
use Rattle.hq_footprint.specs.Counts.{reads_of}
use Rattle.hq_ledger.specs.Pieces.{Part}
use Rattle.hq_machine.specs.View.{state_of}
use Rattle.hq_model.specs.Machine.{lane_sees}
use Rattle.hq_hall.proofs.Handed.{first_within, second_within, one_kept, two_kept, reads_few}
use Rattle.hq_hall.proofs.handing.Giver.keep_reads.Goals as goal

pub read_piece-requires-clause-memory : goal.read_piece-requires-clause-memory
read_piece-requires-clause-memory c =
    let total = length c.args.self.state.now.copies.memory in
    first_within c.both-2.result.0 c.both-2.result.1 total (subst (λ (rs : List Range). All (λ b. b < total) (flat_map bytes_of rs)) c.both-2.ensures c.requires.memory)

pub read_piece-requires-2-clause-memory : goal.read_piece-requires-2-clause-memory
read_piece-requires-2-clause-memory c =
    let total = length c.args.self.state.now.copies.memory in
    second_within c.both-2.result.0 c.both-2.result.1 total (subst (λ (rs : List Range). All (λ b. b < total) (flat_map bytes_of rs)) c.both-2.ensures c.requires.memory)

pub returns-then-count-eq1 : goal.returns-then-count-eq1
returns-then-count-eq1 c = λ job is.
    one_kept c.args.packet c.args.placed.now (lane_sees job (state_of job c.args.self.state.now) c.args.packet) c.both.result.0 c.both.result.1 c.both-2.result.0 c.both-2.result.1 c.requires.ranges c.both.ensures c.both-2.ensures
    c.keep.new.pieces.items
    (sym c.reads-count.ensures ∙ c.if-count-eq1.true)
    (c.in_ok-keep.ensures ∙ ap₂ (λ (xs : List Part) (x : Part). xs ++ x ∷ []) c.requires.none (c.in_ok-read_piece.ensures job is))

pub returns : goal.returns
returns c = λ job is.
    let both : reads_of c.args.placed.now.work.task ≡ 2 = omega (arith, c.reads-count.ensures, c.if-count-eq0.false, c.if-count-eq1.false, reads_few c.args.placed.now.work.task) in
    let one = c.in_ok-keep.ensures ∙ ap₂ (λ (xs : List Part) (x : Part). xs ++ x ∷ []) c.requires.none (c.in_ok-read_piece.ensures job is) in
    on_ok_weaker c.keep-2.result
    (λ e.
    two_kept c.args.packet c.args.placed.now (lane_sees job (state_of job c.args.self.state.now) c.args.packet) c.both.result.0 c.both.result.1 c.both-2.result.0 c.both-2.result.1 c.requires.ranges c.both.ensures c.both-2.ensures
    c.keep-2.new.pieces.items both (e ∙ ap₂ (λ (xs : List Part) (x : Part). xs ++ x ∷ []) one (c.in_ok-read_piece-2.ensures job is)))
    c.keep-2.ensures
