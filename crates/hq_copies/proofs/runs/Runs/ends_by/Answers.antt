use Rattle.std.proofs.Common.{◌≡◌, ◌<◌, ◌-◌, Some, None, slice_get, length, arith, sym}
use Rattle.std.proofs.lemmas.Bool.{leb-true}
use Rattle.std.proofs.lemmas.Option.{slice_get_within, get_or_from_slice_get}
use Rattle.hq_copies.proofs.Overlays.{none_from, none_of_none, none_last}
use Rattle.hq_copies.proofs.runs.Runs.ends_by.Goals as goal

pub returns-in-Some : goal.returns-in-Some
returns-in-Some c t n l =
    let items = c.args.self.now.edges.items in
    let at : Some c.in-Some.edge.now ≡ slice_get items (length items - 1) = rw c.deref.ensures.value at c.in-Some.ensures.value in
    let low : length items - 1 < length items = slice_get_within items (length items - 1) c.in-Some.edge.now (sym at) in
    none_from items c.args.self.now.bytes.items (length items - 1) c.args.number n c.requires (omega (arith, low)) (omega (arith, get_or_from_slice_get items (length items - 1) c.in-Some.edge.now 0 (sym at), leb-true c.in-Some.edge.now c.args.number t)) l

pub returns-in-None : goal.returns-in-None
returns-in-None c t n l =
    let items = c.args.self.now.edges.items in
    let at : None ≡ slice_get items (length items - 1) = rw c.deref.ensures.value at c.in-None.ensures.value in
    none_of_none items n (none_last items at)
