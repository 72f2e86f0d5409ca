-- Kits, one by one.
use Rattle.std.proofs.Common.{◌≡◌, Bool, true, false, refl, ℕ, ◌+◌, ◌<◌, ◌≤◌, List, [], ◌∷◌, ◌++◌, length, map, sym, ap, subst, ◌∙◌, arith, inl, inr}
use Rattle.std.specs.Prelude.{IsTrue, ◌↔◌, slice_index_or, slice_range}
use Rattle.std.proofs.lemmas.Bool.{cases_eq}
use Rattle.std.proofs.lemmas.List.{get_or-map, length-map, map-append}
use Rattle.std.proofs.Math.ListN.{get_or-append}
use Rattle.std.proofs.Math.Seq.{get_or-append_seam}
use Rattle.hq_tables.specs.declared.rows.Placed.{Placed}
use Rattle.hq_job.specs.Access.{AreOfQueue}
use Rattle.hq_job.specs.Plan.{plan}
use Rattle.hq_job.specs.Value.{JobValue}
use Rattle.hq_kernels.specs.Kits.{BodySeen, BodiesFit, KitFits, KitsFit}

-- the bodies of the kit in a place
kit_at : {K : Type 0} (f : K → List BodySeen) (kits : List K) (i : ℕ) (kit : K) → i < length kits → kit ≡ slice_index_or kits i kit
    → slice_index_or (map f kits) i [] ≡ f kit
kit_at f kits i kit low is = get_or-map f kits i kit [] low ∙ ap f (sym is)

-- one more kit that fits
pub kits_more : {K : Type 0} (job : JobValue) (f : K → List BodySeen) (kits : List K) (i : ℕ) (kit : K) → i < length kits → kit ≡ slice_index_or kits i kit
    → ((queue : ℕ) → queue < i → KitFits job queue (slice_index_or (map f kits) queue [])) → KitFits job i (f kit)
    → (queue : ℕ) → queue < i + 1 → KitFits job queue (slice_index_or (map f kits) queue [])
kits_more job f kits i kit low is below here queue under = elim (cases_eq queue i) [
  | inl e ↦ subst (λ q. KitFits job q (slice_index_or (map f kits) q [])) (sym e) (subst (λ bodies. KitFits job i bodies) (sym (kit_at f kits i kit low is)) here)
  | inr n ↦ below queue (omega (arith, n, under))
]

-- a kit that doesn't fit
pub kits_refused : {K : Type 0} (job : JobValue) (f : K → List BodySeen) (kits : List K) (i : ℕ) (kit : K) (b : Bool) → i < length kits → kit ≡ slice_index_or kits i kit
    → length kits ≡ length job.queues → (IsTrue b ↔ KitFits job i (f kit)) → b ≡ false → IsTrue false ↔ KitsFit job (map f kits)
kits_refused job f kits i kit b low is count told fails = (
  λ t. absurd (never false t refl),
  λ fit. absurd (never b (told.1 (subst (λ bodies. KitFits job i bodies) (kit_at f kits i kit low is) (fit.each i (omega (arith, low, count))))) fails),
)
  where
    never : (b : Bool) → b ≡ true → b ≡ false → ⊥
    never b t f = cc

-- all kits fit
pub kits_all : {K : Type 0} (job : JobValue) (f : K → List BodySeen) (kits : List K) (n : ℕ) → length kits ≡ length job.queues → length job.queues ≤ n
    → ((queue : ℕ) → queue < n → KitFits job queue (slice_index_or (map f kits) queue [])) → KitsFit job (map f kits)
kits_all job f kits n count all below = record {
  count = length-map kits f ∙ count;
  each = λ queue low. below queue (omega (arith, low, all));
}

-- a test of the bodies for a queue's packets is one of the kit
pub kit_told : {B : Type 0} (job : JobValue) (queue : ℕ) (packets : List Placed) (h : B → BodySeen) (slice items : List B) (b : Bool)
    → (start : ℕ) × (stop : ℕ) × AreOfQueue (plan job) queue start stop × (packets ≡ slice_range job.packets start stop)
    → ((start stop : ℕ) → AreOfQueue (plan job) queue start stop → packets ≡ slice_range job.packets start stop)
    → slice ≡ items → (IsTrue b ↔ BodiesFit packets (map h slice)) → IsTrue b ↔ KitFits job queue (map h items)
kit_told job queue packets h slice items b span every are told =
    let same : map h slice ≡ map h items = ap (map h) are in (
      λ true. record { fit = λ start stop of. subst (λ ps. BodiesFit ps (map h items)) (every start stop of) (subst (λ x. BodiesFit packets x) same (told.0 true)) },
      λ fits. told.1 (subst (λ x. BodiesFit packets x) (sym same) (subst (λ ps. BodiesFit ps (map h items)) (sym span.3) (fits.fit span.0 span.1 span.2))),
    )

-- bodies that fit the queue's packets make a kit that fits
pub kit_made : (job : JobValue) (queue : ℕ) (packets : List Placed) (bodies : List BodySeen)
    → ((start stop : ℕ) → AreOfQueue (plan job) queue start stop → packets ≡ slice_range job.packets start stop)
    → BodiesFit packets bodies → KitFits job queue bodies
kit_made job queue packets bodies every fit = record { fit = λ start stop of. subst (λ ps. BodiesFit ps bodies) (every start stop of) fit }

-- one more kit behind the others
pub kits_pushed : {K : Type 0} (job : JobValue) (f : K → List BodySeen) (kits new : List K) (i : ℕ) (kit : K) → new ≡ kits ++ kit ∷ [] → length kits ≡ i
    → ((queue : ℕ) → queue < i → KitFits job queue (slice_index_or (map f kits) queue [])) → KitFits job i (f kit)
    → (queue : ℕ) → queue < i + 1 → KitFits job queue (slice_index_or (map f new) queue [])
kits_pushed job f kits new i kit are count below here queue under = elim (cases_eq queue i) [
  | inl e ↦ subst (λ q. KitFits job q (slice_index_or (map f new) q [])) (sym e)
      (subst (λ bodies. KitFits job i bodies) (sym (ap (λ ks. slice_index_or (map f ks) i []) are ∙ last)) here)
  | inr n ↦
      let low : queue < i = omega (arith, n, under) in
      subst (λ bodies. KitFits job queue bodies) (sym (ap (λ ks. slice_index_or (map f ks) queue []) are ∙ front queue low)) (below queue low)
]
  where
    longer : length (map f kits) ≡ i
    longer = length-map kits f ∙ count

    split : map f (kits ++ kit ∷ []) ≡ map f kits ++ f kit ∷ []
    split = map-append f kits (kit ∷ [])

    last : slice_index_or (map f (kits ++ kit ∷ [])) i [] ≡ f kit
    last = ap (λ bs. slice_index_or bs i []) split ∙ ap (λ k. slice_index_or (map f kits ++ f kit ∷ []) k []) (sym longer) ∙ get_or-append_seam (map f kits) (f kit) [] []

    front : (queue : ℕ) → queue < i → slice_index_or (map f (kits ++ kit ∷ [])) queue [] ≡ slice_index_or (map f kits) queue []
    front queue low = ap (λ bs. slice_index_or bs queue []) split ∙ get_or-append (map f kits) (f kit ∷ []) [] queue (rw longer low)
