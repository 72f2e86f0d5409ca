-- What was written says what it is to say.
use Rattle.std.proofs.Common.{◌≡◌, ◌↔◌, ◌+◌, ◌<◌, ℕ, List, [], Bool, IsTrue, Option, ap, refl, inl, inr, arith, Result, OnOk}
use Rattle.std.specs.Io.KnownBytes.{Appends}
use Rattle.hq_job.specs.Value.{JobValue}
use Rattle.hq_model.specs.Job.{Job}
use Rattle.hq_model.specs.Order.{Stuck}
use Rattle.hq_audit.specs.declared.directed.Directed.{Directed}
use Rattle.hq_audit.specs.declared.directed.Unshown.{Unshown}
use Rattle.hq_parts.specs.Parts.{NeverConflict}
use Rattle.hq_audit.specs.Refused.{IsDirected, IsUnshown}
use Rattle.hq_graph.specs.declared.nodes.Node.{Node}
use Rattle.hq_graph.specs.declared.part.Part.TheVariants as part
use Rattle.hq_graph.specs.Order.{IsStep}
use Rattle.hq_graph.specs.Graph.{Where, Wrote, NodeText, ConflictText, PairText, RowText, PairsText, node_of, node_there, ordered_text, open_text}
use Rattle.hq_graph.proofs.Joining.{so_on, unwritten, each_empty}

pub node_on : {A E : Type 0} (result : Result A E) (a b : Option (List ℕ)) (job : JobValue) (order : Job) (queue p : ℕ) (node : Option Node) (stuck : Bool) → IsTrue stuck ↔ Stuck order p → node ≡ node_of job queue p
    → OnOk result (Appends a b (node_there node stuck)) → OnOk result (Wrote a b (NodeText job order queue p))
node_on result a b job order queue p node stuck each n h = so_on result a b (NodeText job order queue p) (node_there node stuck) (stuck, each, ap (λ m. node_there m stuck) n) h

pub ordered_on : {A E : Type 0} (result : Result A E) (a b : Option (List ℕ)) (order : Job) (x y : ℕ) (d : Directed) → IsDirected order x y d
    → OnOk result (Appends a b (ordered_text d)) → OnOk result (Wrote a b (ConflictText order x y))
ordered_on result a b order x y d is h = so_on result a b (ConflictText order x y) (ordered_text d) (inl (d, is, refl)) h

pub open_on : {A E : Type 0} (result : Result A E) (a b : Option (List ℕ)) (order : Job) (x y : ℕ) (u : Unshown) → IsUnshown order x y u
    → OnOk result (Appends a b (open_text u)) → OnOk result (Wrote a b (ConflictText order x y))
open_on result a b order x y u is h = so_on result a b (ConflictText order x y) (open_text u) (inr (u, is, refl)) h

-- where something doesn't hold, nothing is written
pub none_there : (a : Option (List ℕ)) (Holds : Type 0) (Line : List ℕ → Type 0) → (¬ Holds) → Wrote a a (Where Holds Line)
none_there a Holds Line never = unwritten a (Where Holds Line) (inr (never, refl))

-- what has no text
pub no_step : (job : JobValue) (order : Job) (r p : ℕ) → (¬ IsStep order p r) → PairText job order part.Steps r p []
no_step job order r p never = inr (never, refl)

pub no_conflict_below : (job : JobValue) (order : Job) (a b : ℕ) → b < a + 1 → PairText job order part.Conflicts a b []
no_conflict_below job order a b low = inr ((λ h. let above = h.0 in absurd (omega (arith, above))), refl)

pub no_conflict : (job : JobValue) (order : Job) (a b : ℕ) → NeverConflict order a b → PairText job order part.Conflicts a b []
no_conflict job order a b never = inr ((λ h. never h.1.0 h.1.1), refl)

pub no_waits_of : (a : Option (List ℕ)) (job : JobValue) (order : Job) (r : ℕ) → (Stuck order r → ⊥) → Wrote a a (RowText job order part.Waits r)
no_waits_of a job order r free = unwritten a (RowText job order part.Waits r) (each_empty (PairText job order part.Waits r) _ (λ p. inr ((λ w. free w.1.second), refl)))

-- where nothing is stuck, nothing waits
pub no_waits : (a : Option (List ℕ)) (job : JobValue) (order : Job) → ((p : ℕ) → Stuck order p → ⊥) → Wrote a a (PairsText job order part.Waits)
no_waits a job order free =
    unwritten a (PairsText job order part.Waits)
    (each_empty (RowText job order part.Waits) _ (λ r. each_empty (PairText job order part.Waits r) _ (λ p. inr ((λ w. free p w.1.first), refl))))
