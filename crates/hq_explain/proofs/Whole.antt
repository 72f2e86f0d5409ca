-- Whole explanations.
use Rattle.std.specs.Prelude.{IfErr, IfOk}
use Rattle.std.proofs.Common.{◌≡◌, ℕ, List, Bool, false, true, Option, Result, Ok, Err, ap, refl, sym, subst, length}
use Rattle.std.specs.Io.KnownBytes.{Appends}
use Rattle.hq_job.specs.Value.{JobValue}
use Rattle.hq_model.specs.Job.{Job, IsPacket}
use Rattle.hq_graph.specs.Graph.{Wrote}
use Rattle.hq_graph.specs.Order.{IsFound}
use Rattle.hq_finding.specs.declared.found.Found.{Found}
use Rattle.hq_finding.specs.declared.found.Found.TheVariants as found
use Rattle.hq_explain.specs.Explain.{PairText}
use Rattle.hq_explain.specs.Explained.{AreTwo, Explained, HasOrder, PairSaid, StuckText, found_if}
use Rattle.hq_explain.specs.Explained.Explained.{stuck, first, all, pair}
use Rattle.hq_explain.specs.Explained.PairSaid.{beyond, apart, said}
use Rattle.hq_explain.specs.Texts.{apart_line, beyond_line}
use Rattle.hq_explain.specs.Told.{AllText, Broken}
use Rattle.hq_explain.specs.declared.fault.ExplainFault.{ExplainFault}
use Rattle.hq_explain.specs.declared.fault.ExplainFault.TheVariants.{Memory}
use Rattle.hq_explain.specs.declared.which.Which.{Which}
use Rattle.hq_explain.specs.declared.which.Which.TheVariants as which
use Rattle.hq_explain.proofs.Counting.{broken_at_once}

pub stuck_explained : (x y : Option (List ℕ)) (job : JobValue) (order : Job) (w : Which) → IsFound order found.Stuck → Wrote x y (StuckText job order) → Wrote x y (Explained job order w found.Stuck)
stuck_explained x y job order w is h = record { text = h.text; says = stuck is h.says; appends = h.appends }

-- ---- two packets

pub beyond_said : (x y : Option (List ℕ)) (job : JobValue) (order before : Job) (p r count : ℕ) → before ≡ order → count ≡ length before.packets → ¬ (IsPacket before p × IsPacket before r) → Appends x y (beyond_line p r count) → Wrote x y (PairSaid job order p r found.Ordered)
beyond_said x y job order before p r count e n never h =
    subst (λ j. Wrote x y (PairSaid job j p r found.Ordered)) e
    (record { text = beyond_line p r count; says = subst (λ k. PairSaid job before p r found.Ordered (beyond_line p r k)) (sym n) (beyond never); appends = h })

pub apart_said : (x y : Option (List ℕ)) (job : JobValue) (order before : Job) (p r : ℕ) → before ≡ order → IsPacket before p × IsPacket before r → ¬ AreTwo before p r → Appends x y (apart_line p r) → Wrote x y (PairSaid job order p r found.Ordered)
apart_said x y job order before p r e are never h =
    subst (λ j. Wrote x y (PairSaid job j p r found.Ordered)) e (record { text = apart_line p r; says = apart are.0 are.1 never; appends = h })

pub two_said : (x y : Option (List ℕ)) (job : JobValue) (order before : Job) (p r : ℕ) (ordered : Bool) (f : Found) → before ≡ order → f ≡ found_if ordered → AreTwo before p r → Wrote x y (PairText job before p r ordered) → Wrote x y (PairSaid job order p r f)
two_said x y job order before p r ordered f e is two h =
    subst (λ j. Wrote x y (PairSaid job j p r f)) e (subst (λ g. Wrote x y (PairSaid job before p r g)) (sym is) (record { text = h.text; says = said ordered two h.says; appends = h.appends }))

-- ---- the pairs that are asked for

pub first_on : (r : Result Found ExplainFault) (x y : Option (List ℕ)) (job : JobValue) (order : Job) (w : Which) → w ≡ which.First → HasOrder order → IfOk r (λ f. Wrote x y (AllText job order false)) → IfOk r (IsFound order) → IfOk r (λ f. Wrote x y (Explained job order w f))
first_on (Ok f) x y job order w e o h is = subst (λ v. Wrote x y (Explained job order v f)) (sym e) (record { text = h.text; says = first is o h.says; appends = h.appends })
first_on (Err u) x y job order w e o h is = tt

pub all_on : (r : Result Found ExplainFault) (x y : Option (List ℕ)) (job : JobValue) (order : Job) (w : Which) → w ≡ which.All → HasOrder order → IfOk r (λ f. Wrote x y (AllText job order true)) → IfOk r (IsFound order) → IfOk r (λ f. Wrote x y (Explained job order w f))
all_on (Ok f) x y job order w e o h is = subst (λ v. Wrote x y (Explained job order v f)) (sym e) (record { text = h.text; says = all is o h.says; appends = h.appends })
all_on (Err u) x y job order w e o h is = tt

pub pair_on : (r : Result Found ExplainFault) (x y : Option (List ℕ)) (job : JobValue) (order : Job) (w : Which) (p q : ℕ) → w ≡ which.Pair p q → HasOrder order → IfOk r (λ f. Wrote x y (PairSaid job order p q f)) → IfOk r (λ f. Wrote x y (Explained job order w f))
pair_on (Ok f) x y job order w p q e o h = subst (λ v. Wrote x y (Explained job order v f)) (sym e) (record { text = h.text; says = pair o h.says; appends = h.appends })
pair_on (Err u) x y job order w p q e o h = tt

-- ---- where memory ran out

pub broken_err : {A : Type 0} (r : Result A ExplainFault) (x : Option (List ℕ)) (job : JobValue) (order : Job) → IfErr r (λ e. e ≡ Memory → Wrote x x (Broken job order))
broken_err (Ok v) x job order = tt
broken_err (Err u) x job order = λ _. broken_at_once x x job order refl

pub unwritten_on : {A S : Type 0} (r : Result A ExplainFault) (held : S → Option (List ℕ)) (old new : S) (job : JobValue) (order : Job) → IfErr r (λ e. e ≡ Memory → new ≡ old) → IfErr r (λ e. e ≡ Memory → Wrote (held old) (held new) (Broken job order))
unwritten_on (Ok v) held old new job order h = tt
unwritten_on (Err u) held old new job order h = λ m. broken_at_once (held old) (held new) job order (ap held (h m))
