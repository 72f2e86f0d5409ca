use Rattle.std.proofs.Common.{◌≡◌, ◌<◌, ◌≤◌, All, Some, MatchOption, length, slice_get, sym, subst, arith, rules}
use Rattle.std.specs.List.{flat_map}
use Rattle.hq_footprint.specs.Bytes.{bytes_of}
use Rattle.hq_model.specs.declared.limits.TheConstants.{BYTES}
use Rattle.hq_events.proofs.Jobs.{entry_first, entry_low, entries_length, entries_rest, later_match}
use Rattle.hq_events.proofs.packets.+entry_of.Goals as goal

pub overflow_add-result : goal.overflow_add-result
overflow_add-result t c =
    let e = c.in_ok-range.ensures.cases.0 in
    let all = subst (λ rs. All (λ b. b < BYTES) (flat_map bytes_of rs)) e c.requires in
    let low = entry_low c.in_ok-range.range.now (flat_map bytes_of c.in_ok-range.rest.now) c.args.entry all c.if-entry-count.true in
    omega arith

pub entry_of-requires : goal.entry_of-requires
entry_of-requires t c =
    let e = c.in_ok-range.ensures.cases in
    let all = subst (λ rs. All (λ b. b < BYTES) (flat_map bytes_of rs)) e.0 c.requires in
    (search rules, entries_rest c.in_ok-range.range.now (flat_map bytes_of c.in_ok-range.rest.now) all)

pub returns : goal.returns
returns t c =
    let e = c.in_ok-range.ensures.cases.0 in
    subst (λ rs. MatchOption c.entry_of.result (length (flat_map bytes_of rs) ≤ c.args.entry) (λ b. slice_get (flat_map bytes_of rs) c.args.entry ≡ Some b)) (sym e)
    (later_match c.in_ok-range.range.now (flat_map bytes_of c.in_ok-range.rest.now) c.args.entry c.entry_of.result c.if-entry-count.false c.entry_of.ensures)

pub returns-then-entry-count : goal.returns-then-entry-count
returns-then-entry-count t c = search (rules, entry_first, entries_length)
