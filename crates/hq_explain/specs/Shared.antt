-- The bytes that two packets share, and where they lie.
use Rattle.std.specs.Prelude.{ℕ, ◌-◌, nat_lt, if◌then◌else◌, List, [], ◌∷◌, Option, Some, None, min, slice_get}
use Rattle.hq_footprint.specs.declared.footprint.Range.{Range}
use Rattle.hq_footprint.specs.declared.footprint.Footprint.{Footprint}
use Rattle.hq_footprint.specs.Table.{range}
use Rattle.hq_job.specs.Value.{JobValue}
use Rattle.hq_finding.specs.declared.kind.Kind.{Kind}
use Rattle.hq_finding.specs.declared.kind.Kind.TheVariants as kind
use Rattle.hq_tables.specs.declared.rows.Placed.{Placed}
use Rattle.hq_explain.specs.declared.sharing.Run.{Run}
use Rattle.hq_report.specs.Spots.{spot_of}

-- what two ranges have in common: from where the later begins to where the first of them ends
abbrev pub common : Range → Range → Range
common x y = if nat_lt x.at y.at then range y.at (min (x.len - (y.at - x.at)) y.len) else range x.at
    (min x.len (y.len - (x.at - y.at)))

-- of the first of these ranges that has bytes in common with another one, these
abbrev pub first_common : List Range → Range → Option Range
first_common [] y = None
first_common (x ∷ xs) y = if nat_lt 0 (common x y).len then Some (common x y) else first_common xs y

-- the first run of bytes by which two footprints conflict in this way: which the first writes and the second reads;
-- which both write; which the first reads and the second writes
abbrev pub run_of : Kind → Footprint → Footprint → Option Range
run_of kind.WriteRead p r = first_common r.reads p.write
run_of kind.WriteWrite p r = first_common (p.write ∷ []) r.write
run_of kind.ReadWrite p r = first_common p.reads r.write

-- how many bytes a range has, and where the first of them lies, if there is a range
abbrev pub run_at : JobValue → Option Range → Option Run
run_at job None = None
run_at job (Some range) = Some (record { len = range.len; spot = spot_of job.buffers range.at })

-- the first run of bytes by which two packets conflict in this way, if there are both packets
abbrev pub run_of_two : JobValue → Kind → Option Placed → Option Placed → Option Run
run_of_two job kind None second = None
run_of_two job kind (Some first) None = None
run_of_two job kind (Some first) (Some second) = run_at job (run_of kind first.bytes second.bytes)

-- the first run of bytes by which packets p and r conflict in this way, and where it begins
abbrev pub run_between : JobValue → Kind → ℕ → ℕ → Option Run
run_between job kind p r = run_of_two job kind (slice_get job.packets p) (slice_get job.packets r)
