-- A part of a list of maps, of which the clean copies go one after another; what a fence asks; and a level by its place.
use Rattle.std.proofs.Common.{◌≡◌, ℕ, zero, suc, ◌<◌, ◌≤◌, List, [], ◌∷◌, length, take, ◌++◌, set, get_or, refl, ◌≢◌, ◌-◌, length-set, get_or-set_same, get_or-set_other, sym, ap, ap₂, ◌∙◌, arith, Bool, true, false, IsTrue, ◌↔◌, ◌⊎◌, inr, Result, Ok, Err, IfErr}
use Rattle.std.proofs.Math.Seq.{take-append_seam}
use Rattle.std.specs.Result.{IsErrAnd}
use Rattle.hq_copies.specs.declared.fault.CopiesFault.{CopiesFault}
use Rattle.hq_copies.specs.declared.fault.CopiesFault.TheVariants.{Memory}
use Rattle.std.specs.FinMap as finite
use Rattle.hq_packet.specs.declared.packet.Scope.{Scope}
use Rattle.hq_packet.specs.declared.packet.Scope.TheVariants as scope
use Rattle.hq_packet.specs.Scopes.{reaches}
use Rattle.hq_model.specs.Machine.{is_dirty}
use Rattle.hq_model.specs.View.{Held, copies_of}
use Rattle.hq_copies.specs.Copies.{CopiesValue, dirty_only, dirty_within, held, IsClean, IsReleased, NoneDirty, cleaned, written, after_pushes, LanesReleased, AgentReleased}

pub within_step : (xs : List Held) (start i : ℕ) (x : Held) → start ≤ i → i < length xs → x ≡ get_or (dirty_within start i xs) i x → set (dirty_within start i xs) i (dirty_only x) ≡ dirty_within start (suc i) xs
within_step [] start i x l h e = absurd (omega arith)
within_step (y ∷ ys) zero zero x l h e = ap (λ t. dirty_only t ∷ ys) e
within_step (y ∷ ys) zero (suc i) x l h e = ap (λ t. dirty_only y ∷ t) (within_step ys zero i x (omega arith) (omega arith) e)
within_step (y ∷ ys) (suc start) zero x l h e = absurd (omega arith)
within_step (y ∷ ys) (suc start) (suc i) x l h e = ap (λ t. y ∷ t) (within_step ys start i x (omega arith) (omega arith) e)

-- an item that is known by its place
pub item_is : (xs : List Held) (i : ℕ) (x d : Held) → i < length xs → x ≡ get_or xs i x → x ≡ get_or xs i d
item_is [] i x d l e = absurd (omega arith)
item_is (y ∷ ys) zero x d l e = e
item_is (y ∷ ys) (suc i) x d l e = item_is ys i x d (omega arith) e

-- a level that is known by its place
pub level_at : (levels : List Held) (a : ℕ) (m : Held) → a < length levels → m ≡ get_or levels a m → m ≡ held levels a
level_at levels a m l e = item_is levels a m finite.empty l e

pub clean_at : (levels : List Held) (a b n : ℕ) (m : Held) → m ≡ held levels a → n ≡ b → IsClean (finite.get m n) → IsClean (copies_of levels a b)
clean_at levels a b n m e f clean = (clean.0, sym (ap₂ finite.get e f) ∙ clean.1)

pub released_by : (c : CopiesValue) (start end a : ℕ) (fence : Scope) (r : Bool) (m : Held) → (reaches fence scope.Agent ≡ true → (k b : ℕ) → start ≤ k → k < end → is_dirty (copies_of c.lanes k b) ≡ false) → m ≡ held c.agents a → (IsTrue r ↔ NoneDirty m) → reaches fence scope.System ≡ true → IsTrue r ↔ IsReleased c start end a fence
released_by c start end a fence r m lanes same iff far = (
  λ t. record { lanes = lanes; agent = λ s b. ap (λ x. is_dirty (finite.get x b)) (sym same) ∙ iff.0 t b },
  λ released. iff.1 (λ b. ap (λ x. is_dirty (finite.get x b)) same ∙ released.agent far b),
)

pub no_memory : (r : Result (Unit {0}) CopiesFault) (fault : CopiesFault) (P : Type 0) → P → IsErrAnd r (λ e. e ≡ Memory) → IfErr r (λ e. (e ≡ fault) ⊎ ((e ≡ Memory) × P))
no_memory (Ok x) fault P p e = absurd e
no_memory (Err x) fault P p e = inr (e, p)

-- ---- a level in its place, and what a release fence writes back

-- a whole list that was lent
pub lent : {X : Type 0} (n : ℕ) (ys zs : List X) → n ≡ length ys → take n (ys ++ zs) ≡ ys
lent n ys zs e = ap (λ k. take k (ys ++ zs)) e ∙ take-append_seam ys zs

pub set_here : (xs : List Held) (a : ℕ) (m : Held) (b : ℕ) → a < length xs → copies_of (set xs a m) a b ≡ finite.get m b
set_here xs a m b l = ap (λ t. finite.get t b) (get_or-set_same xs a m finite.empty l)

pub set_there : (xs : List Held) (a q : ℕ) (m : Held) (b : ℕ) → q ≢ a → copies_of (set xs a m) q b ≡ copies_of xs q b
set_there xs a q m b d = ap (λ t. finite.get t b) (get_or-set_other xs a q m finite.empty d)

pub lanes_done : (old : CopiesValue) (start end a : ℕ) (lanes : List Held) (below : Held) → a < length old.agents → length lanes ≡ length old.lanes
    → ((l b : ℕ) → start ≤ l → l < end → copies_of lanes l b ≡ cleaned (copies_of old.lanes l b)) → ((l b : ℕ) → (l < start) ⊎ (end ≤ l) → copies_of lanes l b ≡ copies_of old.lanes l b)
    → ((b : ℕ) → finite.get below b ≡ after_pushes old.lanes start (end - start) b (copies_of old.agents a b)) → LanesReleased old start end a (record old { lanes = lanes; agents = set old.agents a below })
lanes_done old start end a lanes below there count inside outside after_pushes_below = record {
  memory = refl;
  lane_agents = refl;
  lane_count = count;
  agent_count = length-set old.agents a below;
  inside = inside;
  outside = outside;
  agent = λ b. set_here old.agents a below b there ∙ after_pushes_below b;
  others = λ q b d. set_there old.agents a q below b d;
}

pub agent_done : (old : CopiesValue) (a : ℕ) (memory : List ℕ) (level : Held) → a < length old.agents → length memory ≡ length old.memory
    → ((b : ℕ) → b < length old.memory → get_or memory b 0 ≡ written (copies_of old.agents a b) (get_or old.memory b 0)) → ((b : ℕ) → finite.get level b ≡ cleaned (copies_of old.agents a b)) → AgentReleased old a (record old { memory = memory; agents = set old.agents a level })
agent_done old a memory level there count bytes clean = record {
  lanes = refl;
  lane_agents = refl;
  agent_count = length-set old.agents a level;
  byte_count = count;
  memory = bytes;
  agent = λ b. set_here old.agents a level b there ∙ clean b;
  others = λ q b d. set_there old.agents a q level b d;
}
