-- A trace follows the steps.
use Rattle.std.proofs.Common.{◌≡◌, ℕ, ◌<◌, inl, inr, IsSome, is_some, IfSome, List, [], ◌∷◌, ◌++◌, length, set, refl, sym, ◌∙◌, ap, subst, arith, Bool, true, false, cond, eqb, Option, Some, None, slice_index, slice_index_or, All}
use Rattle.std.specs.Global.{Vec}
use Rattle.std.proofs.lemmas.Bool.{cases_eq, true≢false, cond-true, cond-false, eq-eqb, ne_eqb}
use Rattle.std.proofs.lemmas.List.{length-set, get_or-set_same, get_or-set_other}
use Rattle.std.proofs.lemmas.List.Elements.{All-push}
use Rattle.hq_events.specs.declared.event.Event.{Event as MachineEvent}
use Rattle.hq_events.specs.declared.event.Event.TheVariants as own
use Rattle.hq_events.specs.Events.{single_of}
use Rattle.hq_model.specs.Job.{Job, packet, IsPacket, agent_of}
use Rattle.hq_model.specs.Machine.{State, Copy, put2, lane_sees}
use Rattle.hq_model.specs.Machine.Event.{Read, Store, PushLane, PushAgent, FillLane, FillAgent}
use Rattle.hq_model.specs.Origins as model
use Rattle.hq_model.specs.Origins.{Origins, origin_or, agent_origin, lane_origin, moved}
use Rattle.hq_model.proofs.Sums.{put_same, put_other, put2_same, put2_other}
use Rattle.hq_witness.specs.declared.origin.Origin.{Origin}
use Rattle.hq_witness.specs.declared.origin.Origin.TheVariants as origin
use Rattle.hq_witness.specs.declared.trace.Sighting.{Sighting}
use Rattle.hq_witness.specs.declared.trace.Trace.{Trace}
use Rattle.hq_witness.specs.Origins.{named}
use Rattle.hq_witness.specs.Traces.{IsTraceOf, TellsCopies, IsSighting, Tells, Follows, noted}

-- ---- tables

length_noted : (t : Trace) (b : ℕ) (table : List Origin) (k : ℕ) (x : Origin) → length (noted t b table k x) ≡ length table
length_noted t b table k x = either (eqb b t.byte)
  where
    either : (s : Bool) → length (cond s (set table k x) table) ≡ length table
    either true = length-set table k x
    either false = refl

-- a table of which one entry is another
noted_tells :
    (f : ℕ → ℕ → model.Origin) (t : Trace) (table : List Origin) (b k n : ℕ) (x : Origin) (y : model.Origin) → length table ≡ n → k < n → (b ≡ t.byte → y ≡ named x)
    → ((a : ℕ) (d : Origin) → a < n → f a t.byte ≡ named (slice_index_or table a d))
    → (a : ℕ) (d : Origin) → a < n → put2 f k b y a t.byte ≡ named (slice_index_or (noted t b table k x) a d)
noted_tells f t table b k n x y len lt new told a d l = elim (cases_eq b t.byte) [
  | inl same ↦
      let is : noted t b table k x ≡ set table k x = cond-true (eqb b t.byte) (set table k x) table (eq-eqb b t.byte same) in
      elim (cases_eq a k) [
        | inl e ↦
            put2_same f k b y a t.byte e (sym same)
            ∙ new same
            ∙ ap named (sym (get_or-set_same table k x d (omega (arith, len))))
            ∙ ap (λ i. named (slice_index_or (set table k x) i d)) (sym e)
            ∙ ap (λ xs. named (slice_index_or xs a d)) (sym is)
        | inr apart ↦
            put2_other f k b y a t.byte (λ e _. apart e)
            ∙ told a d l
            ∙ ap named (sym (get_or-set_other table k a x d apart))
            ∙ ap (λ xs. named (slice_index_or xs a d)) (sym is)
      ]
  | inr other ↦
      put2_other f k b y a t.byte (λ _ e. other (sym e))
      ∙ told a d l
      ∙ ap (λ xs. named (slice_index_or xs a d)) (sym (cond-false (eqb b t.byte) (set table k x) table (ne_eqb b t.byte other)))
]

-- ---- reads

reads_stay : (job : Job) (old new : State) (o n : Origins) (xs : List Sighting) → new.read ≡ old.read → n.read ≡ o.read → All (IsSighting job old o) xs → All (IsSighting job new n) xs
reads_stay job old new o n xs same_state same all k d l =
    let s : Sighting = slice_index_or xs k d in
    let was = all k d l in
    record {
      is_packet = was.is_packet;
      few = was.few;
      there = subst (λ f. IsSome (f s.packet s.entry)) (sym same_state) was.there;
      origin = ap (λ f. f s.packet s.entry) same ∙ was.origin;
    }

-- one read more leaves what was read
reads_more :
    (job : Job) (old new : State) (o n : Origins) (p i v : ℕ) (x : model.Origin) (xs : List Sighting) → old.read p i ≡ None → new.read ≡ put2 old.read p i (Some v) → n.read ≡ put2 o.read p i x
    → All (IsSighting job old o) xs → All (IsSighting job new n) xs
reads_more job old new o n p i v x xs fresh read origins all k d l =
    let s : Sighting = slice_index_or xs k d in
    let was = all k d l in
    let apart : s.packet ≡ p → s.entry ≡ i → ⊥ = λ e g. true≢false (sym was.there ∙ ap is_some (ap (λ q. old.read q s.entry) e ∙ ap (old.read p) g ∙ fresh)) in
    record {
      is_packet = was.is_packet;
      few = was.few;
      there = subst IsSome (sym (ap (λ f. f s.packet s.entry) read ∙ put2_other old.read p i (Some v) s.packet s.entry apart)) was.there;
      origin = ap (λ f. f s.packet s.entry) origins ∙ put2_other o.read p i x s.packet s.entry apart ∙ was.origin;
    }

-- ---- what is seen

pub there_own : (copy : Option Copy) (own below : model.Origin) → is_some copy ≡ true → origin_or copy own below ≡ own
there_own None own below e = absurd (true≢false (sym e))
there_own (Some copy) own below e = refl

pub none_below : (copy : Option Copy) (own below : model.Origin) → is_some copy ≡ false → origin_or copy own below ≡ below
none_below None own below e = refl
none_below (Some copy) own below e = absurd (true≢false e)

pub agent_there : (job : Job) (state : State) (o : Origins) (t : Trace) (a : ℕ) (x : Origin) → TellsCopies job o t → a < job.agents → is_some (state.agent a t.byte) ≡ true → x ≡ slice_index_or t.agents a origin.Start → agent_origin state o a t.byte ≡ named x
agent_there job state o t a x k l some is = there_own (state.agent a t.byte) (o.agent a t.byte) (o.memory t.byte) some ∙ k.agents a origin.Start l ∙ ap named (sym is)

pub agent_below : (job : Job) (state : State) (o : Origins) (t : Trace) (a : ℕ) → TellsCopies job o t → is_some (state.agent a t.byte) ≡ false → agent_origin state o a t.byte ≡ named t.memory
agent_below job state o t a k none = none_below (state.agent a t.byte) (o.agent a t.byte) (o.memory t.byte) none ∙ k.memory

pub lane_there : (job : Job) (state : State) (o : Origins) (t : Trace) (p : ℕ) (x : Origin) → TellsCopies job o t → IsPacket job p → is_some (state.lane p t.byte) ≡ true → x ≡ slice_index_or t.lanes p origin.Start → lane_origin job state o p t.byte ≡ named x
lane_there job state o t p x k l some is = there_own (state.lane p t.byte) (o.lane p t.byte) (agent_origin state o (agent_of job p) t.byte) some ∙ k.lanes p origin.Start l ∙ ap named (sym is)

pub lane_below : (job : Job) (state : State) (o : Origins) (t : Trace) (p a : ℕ) (x : Origin) → a ≡ agent_of job p → is_some (state.lane p t.byte) ≡ false → agent_origin state o a t.byte ≡ named x → lane_origin job state o p t.byte ≡ named x
lane_below job state o t p a x is none below = none_below (state.lane p t.byte) (o.lane p t.byte) (agent_origin state o (agent_of job p) t.byte) none ∙ ap (λ b. agent_origin state o b t.byte) (sym is) ∙ below

-- ---- steps

-- Whether an event moves an origin.
abbrev pub moves : MachineEvent → Bool
moves (own.Read p i) = true
moves (own.Store p i) = true
moves (own.PushLane p b) = true
moves (own.PushAgent a b) = true
moves (own.FillLane p b) = true
moves (own.FillAgent a b) = true
moves _ = false

module _ (job : Job) (new : State) (t : Trace) where
  -- a step that moves no origin, and reads nothing
  stays : (old : State) (o : Origins) → new.read ≡ old.read → Tells job old o t → Tells job new o t
  stays old o same k = record { fits = k.fits; copies = k.copies; reads = reads_stay job old new o o t.reads.items same refl k.reads }

  pub store_follows : (p i : ℕ) → IsTraceOf job t → IsPacket job p → Follows job t (Store p i) new (record t { lanes = noted t (slice_index (packet job p).writes i) t.lanes p (origin.StoredBy p) })
  store_follows p i fits there old o step k =
      let b = slice_index (packet job p).writes i in
      record {
        fits = record { is_byte = fits.is_byte; agents = fits.agents; lanes = length_noted t b t.lanes p (origin.StoredBy p) ∙ fits.lanes };
        copies = record {
          memory = k.copies.memory;
          agents = k.copies.agents;
          lanes = noted_tells o.lane t t.lanes b p (length job.packets) (origin.StoredBy p) (model.Origin.StoredBy p) fits.lanes there (λ _. refl) k.copies.lanes;
        };
        reads = reads_stay job old new o (moved job old o (Store p i)) t.reads.items (ap (λ s. s.read) step.5) refl k.reads;
      }

  pub lane_push_follows :
      (p b : ℕ) → IsTraceOf job t → IsPacket job p → agent_of job p < job.agents
      → Follows job t (PushLane p b) new (record t { agents = noted t b t.agents (agent_of job p) (slice_index_or t.lanes p origin.Start) })
  lane_push_follows p b fits there below old o step k =
      let x : Origin = slice_index_or t.lanes p origin.Start in
      record {
        fits = record { is_byte = fits.is_byte; agents = length_noted t b t.agents (agent_of job p) x ∙ fits.agents; lanes = fits.lanes };
        copies = record {
          memory = k.copies.memory;
          agents = noted_tells o.agent t t.agents b (agent_of job p) job.agents x (o.lane p b) fits.agents below (λ same. ap (o.lane p) same ∙ k.copies.lanes p origin.Start there) k.copies.agents;
          lanes = k.copies.lanes;
        };
        reads = reads_stay job old new o (moved job old o (PushLane p b)) t.reads.items (ap (λ s. s.read) step.4) refl k.reads;
      }

  pub agent_push_follows : (a b : ℕ) → IsTraceOf job t → a < job.agents → Follows job t (PushAgent a b) new (record t { memory = cond (eqb b t.byte) (slice_index_or t.agents a origin.Start) t.memory })
  agent_push_follows a b fits there old o step k = record {
    fits = record { is_byte = fits.is_byte; agents = fits.agents; lanes = fits.lanes };
    copies = record {
      memory = elim (cases_eq b t.byte) [
        | inl same ↦
            put_same o.memory b (o.agent a b) t.byte (sym same)
            ∙ ap (o.agent a) same
            ∙ k.copies.agents a origin.Start there
            ∙ ap named (sym (cond-true (eqb b t.byte) (slice_index_or t.agents a origin.Start) t.memory (eq-eqb b t.byte same)))
        | inr other ↦
            put_other o.memory b (o.agent a b) t.byte (λ e. other (sym e))
            ∙ k.copies.memory
            ∙ ap named (sym (cond-false (eqb b t.byte) (slice_index_or t.agents a origin.Start) t.memory (ne_eqb b t.byte other)))
      ];
      agents = k.copies.agents;
      lanes = k.copies.lanes;
    };
    reads = reads_stay job old new o (moved job old o (PushAgent a b)) t.reads.items (ap (λ s. s.read) step.4) refl k.reads;
  }

  pub lane_fill_follows :
      (p b : ℕ) (x : Origin) → IsTraceOf job t → IsPacket job p → ((o : Origins) → TellsCopies job o t → agent_origin new o (agent_of job p) t.byte ≡ named x)
      → Follows job t (FillLane p b) new (record t { lanes = noted t b t.lanes p x })
  lane_fill_follows p b x fits there seen old o step k = record {
    fits = record { is_byte = fits.is_byte; agents = fits.agents; lanes = length_noted t b t.lanes p x ∙ fits.lanes };
    copies = record {
      memory = k.copies.memory;
      agents = k.copies.agents;
      lanes = noted_tells o.lane t t.lanes b p (length job.packets) x (agent_origin old o (agent_of job p) b) fits.lanes there
          (λ same. ap (agent_origin old o (agent_of job p)) same ∙ sym (ap (λ s. agent_origin s o (agent_of job p) t.byte) step.3) ∙ seen o k.copies) k.copies.lanes;
    };
    reads = reads_stay job old new o (moved job old o (FillLane p b)) t.reads.items (ap (λ s. s.read) step.3) refl k.reads;
  }

  pub agent_fill_follows : (a b : ℕ) → IsTraceOf job t → a < job.agents → Follows job t (FillAgent a b) new (record t { agents = noted t b t.agents a t.memory })
  agent_fill_follows a b fits there old o step k = record {
    fits = record { is_byte = fits.is_byte; agents = length_noted t b t.agents a t.memory ∙ fits.agents; lanes = fits.lanes };
    copies = record {
      memory = k.copies.memory;
      agents = noted_tells o.agent t t.agents b a job.agents t.memory (o.memory b) fits.agents there (λ same. ap o.memory same ∙ k.copies.memory) k.copies.agents;
      lanes = k.copies.lanes;
    };
    reads = reads_stay job old new o (moved job old o (FillAgent a b)) t.reads.items (ap (λ s. s.read) step.3) refl k.reads;
  }

  -- a read of another byte, and one of this byte
  pub other_read_follows : (p i : ℕ) → IsTraceOf job t → Follows job t (Read p i) new t
  other_read_follows p i fits old o step k = record {
    fits = fits;
    copies = record { memory = k.copies.memory; agents = k.copies.agents; lanes = k.copies.lanes };
    reads = reads_more job old new o (moved job old o (Read p i)) p i _ _ t.reads.items step.3 (ap (λ s. s.read) step.4) refl k.reads;
  }

  pub read_follows :
      (p i : ℕ) (x : Origin) (v : Vec Sighting) → IsTraceOf job t → IsPacket job p → i < length (packet job p).reads → slice_index (packet job p).reads i ≡ t.byte
      → ((o : Origins) → TellsCopies job o t → lane_origin job new o p t.byte ≡ named x) → v.items ≡ t.reads.items ++ (record { packet = p; entry = i; origin = x }) ∷ []
      → Follows job t (Read p i) new (record t { reads = v })
  read_follows p i x v fits there few at seen pushed old o step k =
      let b = slice_index (packet job p).reads i in
      let y = lane_origin job old o p b in
      let n = moved job old o (Read p i) in
      let s : Sighting = record { packet = p; entry = i; origin = x } in
      record {
        fits = record { is_byte = fits.is_byte; agents = fits.agents; lanes = fits.lanes };
        copies = record { memory = k.copies.memory; agents = k.copies.agents; lanes = k.copies.lanes };
        reads = subst (All (IsSighting job new n)) (sym pushed)
            (All-push (IsSighting job new n) t.reads.items s (reads_more job old new o n p i _ y t.reads.items step.3 (ap (λ z. z.read) step.4) refl k.reads) (record {
              is_packet = there;
              few = few;
              there = subst IsSome (sym (ap (λ z. z.read p i) step.4 ∙ put2_same old.read p i (Some (lane_sees job old p b)) p i refl refl)) refl;
              origin = put2_same o.read p i y p i refl refl ∙ ap (lane_origin job old o p) at ∙ sym (ap (λ z. lane_origin job z o p t.byte) step.4) ∙ seen o k.copies;
            }));
      }

  quiet : (event : MachineEvent) → moves event ≡ false → IfSome (single_of event) (λ e. Follows job t e new t)
  quiet own.Submit q = λ old o step k. stays old o (ap (λ s. s.read) step.2) k
  quiet (own.Launch queue) q = λ old o step k. stays old o (ap (λ s. s.read) step.2) k
  quiet (own.Observe p slot) q = λ old o step k. stays old o (ap (λ s. s.read) step.6) k
  quiet (own.Enter p) q = λ old o step k. stays old o (ap (λ s. s.read) step.3) k
  quiet (own.Finish p) q = λ old o step k. stays old o (ap (λ s. s.read) step.5) k
  quiet (own.DropLane p b) q = λ old o step k. stays old o (ap (λ s. s.read) step.4) k
  quiet (own.DropAgent a b) q = λ old o step k. stays old o (ap (λ s. s.read) step.4) k
  quiet (own.Fetch p) q = tt
  quiet (own.Deliver p) q = tt
  quiet (own.Complete p) q = tt
  quiet own.Rest q = tt
  quiet (own.Read p i) q = absurd (true≢false q)
  quiet (own.Store p i) q = absurd (true≢false q)
  quiet (own.PushLane p b) q = absurd (true≢false q)
  quiet (own.PushAgent a b) q = absurd (true≢false q)
  quiet (own.FillLane p b) q = absurd (true≢false q)
  quiet (own.FillAgent a b) q = absurd (true≢false q)
