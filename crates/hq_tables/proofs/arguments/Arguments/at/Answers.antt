use Rattle.std.proofs.Common.{◌∙◌, ◌==◌, ap}
use Rattle.std.specs.Prelude.{position}
use Rattle.std.specs.Option.{option_map}
use Rattle.hq_tables.specs.Blocks.{bytes_of, blocks_of}
use Rattle.hq_tables.proofs.RowLaws.{block_placed, block_missing}
use Rattle.hq_tables.proofs.arguments.Arguments.at.Goals as goal

pub returns : goal.returns
returns c =
    rw (← c.self.view_is) (block_placed c.self.inside.rows.items c.args.address c.in_ok-place.place c.index.result.now
    (c.in_ok-place.ensures.index ∙ ap (position (λ a. c.args.address == a)) c.self.invariant.1) c.index.ensures)

pub returns-in_err-place : goal.returns-in_err-place
returns-in_err-place c =
    rw (← c.self.view_is) (ap (option_map (λ b. bytes_of b.now)) c.from_residual.ensures ∙ block_missing (blocks_of c.self.inside.rows.items) c.args.address
    (c.in_err-place.ensures.index ∙ ap (position (λ a. c.args.address == a)) c.self.invariant.1))
