-- What is known of every job that was read is what the rule asks of a job.
use Rattle.std.proofs.Common.{◌≡◌, ◌⊎◌, inl, inr, zero, suc, slice_index, ℕ, ◌+◌, ◌<◌, ◌++◌, replicate, length-append, List, [], ◌∷◌, length, get_or, slice_get, Option, Some, None, refl, sym, ◌∙◌, ap, subst, arith, All, IfSome}
use Rattle.std.proofs.lemmas.List.{length-map, length-replicate, get_or-map}
use Rattle.std.proofs.lemmas.Option.{get_or_from_slice_get, slice_get_within}
use Rattle.hq_job.specs.Plan.{plan, planned}
use Rattle.hq_job.specs.Value.{JobValue}
use Rattle.hq_job.specs.View.{PacketIsRead, WithinLimits}
use Rattle.hq_tables.specs.declared.rows.Placed.{Placed}
use Rattle.hq_model.specs.Job as model
use Rattle.hq_model.specs.Job.{no_packet, packet}
use Rattle.hq_model.specs.Theorems.{Valid}
use Rattle.hq_events.proofs.Jobs.{done_within}
use mathlib.Core.Option.{some, some-injective, some-ne-none}
use lib.ListN.{get_elem?}
use Rattle.hq_board.specs.declared.entry.View.{View}
use Rattle.hq_board.specs.declared.known.Known.{Known}
use Rattle.hq_board.specs.Calls.{AreInOrder, Closes}
use Rattle.hq_board.specs.Told.{IsTold}
use Rattle.hq_board.specs.Rule.{Fits, HasHistory}

start_count : (job : JobValue) → length (plan job).starts ≡ length job.signals
start_count job = length-map job.signals (λ s. s.start)

some_is : {A : Type 0} (y x : A) → Some y ≡ Some x → y ≡ x
some_is y x e = cc

if_some : {A : Type 0} (o : Option A) (P : A → Type 0) (x : A) → o ≡ Some x → IfSome o P → P x
if_some None P x e h = absurd cc
if_some (Some y) P x e h = subst P (some_is y x e) h

some_row : (xs : List Placed) (p : ℕ) → p < length xs → Placed
some_row [] p l = absurd (omega (arith, l))
some_row (x ∷ xs) p l = x

slots_within : (v : JobValue) (p : ℕ) (d : Placed) → All (PacketIsRead v) v.packets → p < length v.packets → All (λ slot. IfSome slot (λ k. k < length v.signals)) (packet (plan v) p).deps
slots_within v p d all l = subst (λ (x : model.Packet). All (λ slot. IfSome slot (λ k. k < length v.signals)) x.deps) (sym (get_or-map planned v.packets p d no_packet l)) (all p d l).slots

packets_count : (v : JobValue) → length (plan v).packets ≡ length v.packets
packets_count v = length-map v.packets planned

signal_in : (deps : List (Option ℕ)) (n slot s : ℕ) → All (λ k. IfSome k (λ j. j < n)) deps → slice_get deps slot ≡ Some (Some s) → s < n
signal_in deps n slot s all e =
    if_some (get_or deps slot None) (λ j. j < n) s (get_or_from_slice_get deps slot (Some s) None e) (all slot None (slice_get_within deps slot (Some s) e))

pub fits : (v : JobValue) → Valid (plan v) → WithinLimits v → All (PacketIsRead v) v.packets → Fits (plan v)
fits v valid limits all = record {
  valid = valid.balanced;
  few = omega (arith, packets_count v, limits.packets);
  in_range = λ p there. valid.queues p there;
  waits = λ p slot s d. let l : p < length v.packets = omega (arith, packets_count v, d.is_packet) in
      omega (arith, start_count v, signal_in (packet (plan v) p).deps (length v.signals) slot s (slots_within v p (some_row v.packets p l) all l) d.signal);
  marks = λ p s d. let l : p < length v.packets = omega (arith, packets_count v, d.is_packet) in
      omega (arith, start_count v, if_some (packet (plan v) p).done (λ j. j < length v.signals) s d.signal (done_within v p (some_row v.packets p l) all l));
}

-- there is a word for each signal and each queue
pub word_count : (job : model.Job) (words : List ℕ) → words ≡ job.starts ++ replicate (length job.queues) 0 → length words ≡ length job.starts + length job.queues
word_count job words e = ap length e ∙ length-append job.starts (replicate (length job.queues) 0) ∙ ap (λ n. length job.starts + n) (length-replicate (length job.queues) 0)

pub index_is : (xs : List ℕ) (i x : ℕ) → get_elem? xs i ≡ some x → get_or xs i 0 ≡ x
index_is [] i x e = absurd (some-ne-none x (sym e))
index_is (y ∷ xs) zero x e = some-injective y x e
index_is (y ∷ xs) (suc i) x e = index_is xs i x e

-- ---- the end

-- what the words say of the signals at the end of a history
pub closes : (job : model.Job) (words values : List ℕ) (views : List View) → Valid job → (k : HasHistory job words views) → length values ≡ length job.starts → ((s : ℕ) → s < length values → slice_index values s ≡ slice_index words s) → IsTold job k.m → Closes job values k.m
closes job words values views valid k count same told = record {
  legal = k.legal;
  right = k.right;
  told = told;
  count = count;
  values_are = λ s l. same s (omega (arith, l, count)) ∙ k.words_right.signals s l;
}

-- ---- seats

pub all_one : {A : Type 0} (P : A → Type 0) (x : A) → P x → All P (x ∷ [])
all_one P x h zero d l = h
all_one P x h (suc k) d l = absurd (omega (arith, l))

at_end : {A : Type 0} (xs : List A) (x : A) (k : ℕ) (y : A) → slice_get (xs ++ x ∷ []) k ≡ Some y → (slice_get xs k ≡ Some y) ⊎ ((k ≡ length xs) × (x ≡ y))
at_end [] x zero y e = inr (refl, some_is x y e)
at_end [] x (suc k) y e = absurd cc
at_end (z ∷ xs) x zero y e = inl e
at_end (z ∷ xs) x (suc k) y e = elim (at_end xs x k y e) [
  | inl h ↦ inl h
  | inr (h, same) ↦ inr (ap suc h, same)
]

-- the next queue's seat comes last
pub one_more : (n : ℕ) (xs : List Known) (x : Known) → AreInOrder n xs → x.queue ≡ n → AreInOrder (n + 1) (xs ++ x ∷ [])
one_more n xs x o q = record {
  count = length-append xs (x ∷ []) ∙ ap (λ k. k + 1) o.count;
  places = λ k seat e. elim (at_end xs x k seat e) [
    | inl h ↦ o.places k seat h
    | inr (last, same) ↦ ap (λ (s : Known). s.queue) (sym same) ∙ q ∙ sym o.count ∙ sym last
  ];
}
