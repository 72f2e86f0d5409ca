-- What the hall keeps, event by event.
use Rattle.std.proofs.Common.{◌≡◌, ℕ, ◌<◌, ◌≢◌, ◌==◌, ◌||◌, inl, inr, Bool, true, false, not, List, [], ◌∷◌, ◌++◌, length, set, get_or, refl, sym, ap, ◌∙◌, subst, arith, replicate, cond, length-set, get_or-set_same, get_or-set_other}
use Rattle.std.specs.List.{list_any}
use Rattle.std.proofs.lemmas.Bool.{cases_eq, eq-eqb, ne_eqb}
use Rattle.std.proofs.lemmas.List.{get_or-replicate, length-replicate}
use Rattle.std.proofs.lemmas.List.Elements.{All-push, All-nil, All-filter}
use Rattle.std.proofs.lemmas.List.Folds.{list_any-append}
use Rattle.hq_tables.specs.declared.rows.Placed.{Placed}
use Rattle.hq_ledger.specs.declared.grants.Grant.{Grant}
use Rattle.hq_ledger.specs.Grants.{IsOut, without}
use Rattle.hq_events.specs.declared.event.Event.{Event}
use Rattle.hq_events.specs.declared.event.Event.TheVariants as event
use Rattle.hq_events.specs.Events.{coarse_of}
use Rattle.hq_model.specs.Job.{Job, packet, agent_of}
use Rattle.hq_packet.specs.Scopes.{reaches}
use Rattle.hq_model.specs.Job.Kind.{Work}
use Rattle.hq_footprint.specs.declared.footprint.Footprint.{Footprint}
use Rattle.hq_model.specs.Machine.{State, Phase, start}
use Rattle.hq_model.specs.Machine.Phase.{Active}
use Rattle.hq_model.specs.Journal.{Happens, packets_of, only_if}
use Rattle.hq_model.specs.Journal.Coarse.{Fetch, Deliver, Complete}
use Rattle.hq_model.proofs.Rested.{coarse_law}
use Rattle.hq_packet.specs.declared.packet.Scope.TheVariants as scope
use Rattle.hq_hall.specs.declared.stage.Stage.{Stage}
use Rattle.hq_hall.specs.declared.stage.Stage.TheVariants as stage
use Rattle.hq_hall.specs.Handing.{foot_of}
use Rattle.hq_hall.specs.Stages.{delivers, fetches, stage_of}
use Rattle.hq_hall.specs.View.{IsAway, Stands}
use Rattle.hq_hall.proofs.Fetching.{fetched_stays}
use Rattle.hq_hall.proofs.Out.{pushed_out, out_pushed, last_out, others_out, out_others}
use Rattle.hq_hall.proofs.Stays.{Stays, ends_or_stores, happens_stays, pushes_stay, stays_read}

-- ---- stages

abbrev stage_by : Bool → Bool → Stage
stage_by delivered fetched = cond delivered stage.Delivered (cond fetched stage.Out stage.Unfetched)

or_false : (b : Bool) → (b || false) ≡ b
or_false true = refl
or_false false = refl

or_true : (b : Bool) → (b || true) ≡ true
or_true true = refl
or_true false = refl

one_more : (test : Event → Bool) (events : List Event) (e : Event) → list_any test (events ++ e ∷ []) ≡ (list_any test events || (test e || false))
one_more test events e = list_any-append test events (e ∷ [])

same_more : (test : Event → Bool) (events : List Event) (e : Event) → test e ≡ false → list_any test (events ++ e ∷ []) ≡ list_any test events
same_more test events e isnt = one_more test events e ∙ ap (λ b. list_any test events || (b || false)) isnt ∙ or_false (list_any test events)

-- an event that is neither its fetch nor its delivery leaves a packet where it stands
pub stage_same : (events : List Event) (e : Event) (p : ℕ) → fetches p e ≡ false → delivers p e ≡ false → stage_of (events ++ e ∷ []) p ≡ stage_of events p
stage_same events e p f d =
    ap (λ b. stage_by b (list_any (fetches p) (events ++ e ∷ []))) (same_more (delivers p) events e d)
    ∙ ap (λ b. stage_by (list_any (delivers p) events) b) (same_more (fetches p) events e f)

fetched_of : (d f : Bool) → stage_by d f ≡ stage.Unfetched → d ≡ false
fetched_of true f e = absurd (cc)
fetched_of false f e = refl

-- its fetch hands it out, and its delivery takes it back
pub stage_fetched : (events : List Event) (p : ℕ) → stage_of events p ≡ stage.Unfetched → stage_of (events ++ event.Fetch p ∷ []) p ≡ stage.Out
stage_fetched events p e =
    ap (λ b. stage_by b (list_any (fetches p) (events ++ event.Fetch p ∷ []))) (same_more (delivers p) events (event.Fetch p) refl ∙ fetched_of (list_any (delivers p) events) (list_any (fetches p) events) e)
    ∙ ap (λ b. stage_by false b) (one_more (fetches p) events (event.Fetch p) ∙ ap (λ b. list_any (fetches p) events || (b || false)) (eq-eqb p p refl) ∙ or_true (list_any (fetches p) events))

pub stage_delivered : (events : List Event) (p : ℕ) → stage_of (events ++ event.Deliver p ∷ []) p ≡ stage.Delivered
stage_delivered events p =
    ap (λ b. stage_by b (list_any (fetches p) (events ++ event.Deliver p ∷ [])))
    (one_more (delivers p) events (event.Deliver p) ∙ ap (λ b. list_any (delivers p) events || (b || false)) (eq-eqb p p refl) ∙ or_true (list_any (delivers p) events))

-- ---- what is stored

-- a completion stores nothing
complete_stores : (job : Job) (old new : State) (p q i : ℕ) → Happens job old (Complete p) new → new.stored q i ≡ old.stored q i
complete_stores job old new p q i (mid, pushes, (last, step, is)) =
    ap (λ (s : State). s.stored q i) (is ∙ step.5)
    ∙ (pushes_stay job old mid (only_if (reaches (packet job p).release scope.Agent) (packets_of job (λ l. (packet job l).queue == (packet job p).queue))) (only_if (reaches (packet job p).release scope.System) (agent_of job p ∷ [])) q pushes).stored i

-- ---- what stands

not_both : {s : Stage} → s ≡ stage.Unfetched → s ≡ stage.Out → ⊥
not_both e f = let never : stage.Unfetched ≡ stage.Out = sym e ∙ f in absurd (cc)

not_delivered : {s : Stage} → s ≡ stage.Unfetched → s ≡ stage.Delivered → ⊥
not_delivered e f = let never : stage.Unfetched ≡ stage.Delivered = sym e ∙ f in absurd (cc)

not_out : {s : Stage} → s ≡ stage.Delivered → s ≡ stage.Out → ⊥
not_out e f = let never : stage.Delivered ≡ stage.Out = sym e ∙ f in absurd (cc)

-- nothing is out where nothing has happened
pub stands_open : (packets : List Placed) (job : Job) → Stands packets [] (start job) [] (replicate (length packets) stage.Unfetched) job
stands_open packets job = record {
  count = length-replicate (length packets) stage.Unfetched;
  stage_is = λ p low. get_or-replicate (length packets) p stage.Unfetched stage.Unfetched low;
  are_out = λ p. ((λ out. absurd (omega (arith, out.2))), (λ is. let never : stage.Unfetched ≡ stage.Out = is.1 in absurd (cc)));
  feet = All-nil (λ grant. grant.foot ≡ foot_of packets grant.packet);
  away = λ p is. absurd (let never : stage.Unfetched ≡ stage.Out = is in cc);
  fresh = λ p _ i. refl;
}

module _ (packets : List Placed) (job : Job) (events : List Event) (old new : State) (out : List Grant) (stages : List Stage) (k : Stands packets events old out stages job) where
  away_on : (p : ℕ) → stage_of events p ≡ stage.Out → Stays old new p → IsAway job new p
  away_on p was s = let a = k.away p was in record { work = a.work; active = s.active a.active; read = stays_read job old new p s a.read }

  -- an event after which every packet stands where it stood, and which leaves those that are out
  pub stands_on : (e : Event) → ((p : ℕ) → fetches p e ≡ false) → ((p : ℕ) → delivers p e ≡ false)
      → ((p : ℕ) → stage_of events p ≡ stage.Out → Stays old new p) → ((p i : ℕ) → new.stored p i ≡ old.stored p i)
      → Stands packets (events ++ e ∷ []) new out stages job
  stands_on e f d stay store = record {
    count = k.count;
    stage_is = λ p low. k.stage_is p low ∙ sym (stage_same events e p (f p) (d p));
    are_out = λ p. ((λ is. let o = (k.are_out p).0 is in (o.0, stage_same events e p (f p) (d p) ∙ o.1)), (λ is. (k.are_out p).1 (is.0, sym (stage_same events e p (f p) (d p)) ∙ is.1)));
    feet = k.feet;
    away = λ p is.
        let was : stage_of events p ≡ stage.Out = sym (stage_same events e p (f p) (d p)) ∙ is in
        away_on p was (stay p was);
    fresh = λ p not i. store p i ∙ k.fresh p (λ is. not (stage_same events e p (f p) (d p) ∙ is)) i;
  }

  -- an event that neither fetches, delivers nor completes
  pub stands_quiet : (e : Event) → ((p : ℕ) → fetches p e ≡ false) → ((p : ℕ) → delivers p e ≡ false) → ((p : ℕ) → ends_or_stores p (coarse_of e) ≡ false)
      → Happens job old (coarse_of e) new → Stands packets (events ++ e ∷ []) new out stages job
  stands_quiet e f d quiet h = stands_on e f d (λ p _. happens_stays job old new (coarse_of e) p (quiet p) h) (λ p i. (happens_stays job old new (coarse_of e) p (quiet p) h).stored i)

  -- the completion of a packet that isn't out
  pub stands_complete : (q : ℕ) → (stage_of events q ≡ stage.Out → ⊥) → Happens job old (Complete q) new → Stands packets (events ++ event.Complete q ∷ []) new out stages job
  stands_complete q inside h =
      stands_on (event.Complete q) (λ p. refl) (λ p. refl)
      (λ p was. happens_stays job old new (Complete q) p (ne_eqb q p (λ e. inside (subst (λ r. stage_of events r ≡ stage.Out) (sym e) was))) h)
      (λ p i. complete_stores job old new q p i h)

  fetch_other : (q p : ℕ) → p ≢ q → stage_of (events ++ event.Fetch q ∷ []) p ≡ stage_of events p
  fetch_other q p d = stage_same events (event.Fetch q) p (ne_eqb q p (λ e. d (sym e))) refl

  deliver_other : (q p : ℕ) → p ≢ q → stage_of (events ++ event.Deliver q ∷ []) p ≡ stage_of events p
  deliver_other q p d = stage_same events (event.Deliver q) p refl (ne_eqb q p (λ e. d (sym e)))

  -- a packet's fetch, which hands it its ranges
  pub stands_fetched : (q : ℕ) → q < length packets → (packet job q).kind ≡ Work → old.phase q ≡ Active → stage_of events q ≡ stage.Unfetched → Happens job old (Fetch q) new
      → (foot : Footprint) → foot ≡ foot_of packets q
      → Stands packets (events ++ event.Fetch q ∷ []) new (out ++ record { packet = q; foot = foot } ∷ []) (set stages q stage.Out) job
  stands_fetched q low work active fresh h foot own =
      let grant : Grant = record { packet = q; foot = foot } in
      let high : q < length stages = omega (arith, k.count, low) in
      let now : stage_of (events ++ event.Fetch q ∷ []) q ≡ stage.Out = stage_fetched events q fresh in
      record {
        count = length-set stages q stage.Out ∙ k.count;
        stage_is = λ p l. elim (cases_eq p q) [
          | inl e ↦ subst (λ r. get_or (set stages q stage.Out) r stage.Unfetched ≡ stage_of (events ++ event.Fetch q ∷ []) r) (sym e) (get_or-set_same stages q stage.Out stage.Unfetched high ∙ sym now)
          | inr d ↦ get_or-set_other stages q p stage.Out stage.Unfetched d ∙ k.stage_is p l ∙ sym (fetch_other q p d)
        ];
        are_out = λ p. (
          (λ is. elim (pushed_out out grant p is) [
            | inl o ↦
                let was = (k.are_out p).0 o in
                (was.0, fetch_other q p (λ e. not_both fresh (subst (λ r. stage_of events r ≡ stage.Out) e was.1)) ∙ was.1)
            | inr e ↦ (subst (λ r. r < length packets) e low, subst (λ r. stage_of (events ++ event.Fetch q ∷ []) r ≡ stage.Out) e now)
          ]),
          (λ is. elim (cases_eq p q) [
            | inl e ↦ subst (IsOut (out ++ grant ∷ [])) (sym e) (last_out out grant)
            | inr d ↦ out_pushed out grant p ((k.are_out p).1 (is.0, sym (fetch_other q p d) ∙ is.1))
          ]),
        );
        feet = All-push (λ g. g.foot ≡ foot_of packets g.packet) out grant k.feet own;
        away = λ p is. elim (cases_eq p q) [
          | inl e ↦ subst (IsAway job new) (sym e) (record { work = work; active = ap (λ (f : ℕ → Phase). f q) (fetched_stays job old new q h).0 ∙ active; read = (coarse_law job old new).fetch q h })
          | inr d ↦ away_on p (sym (fetch_other q p d) ∙ is) (happens_stays job old new (Fetch q) p refl h)
        ];
        fresh = λ p not i. (happens_stays job old new (Fetch q) p refl h).stored i ∙ k.fresh p (λ is. elim (cases_eq p q) [
          | inl e ↦ not_delivered fresh (subst (λ r. stage_of events r ≡ stage.Delivered) e is)
          | inr d ↦ not (fetch_other q p d ∙ is)
        ]) i;
      }

  -- and its delivery, which takes them back
  pub stands_delivered : (q : ℕ) → q < length packets → Happens job old (Deliver q) new
      → Stands packets (events ++ event.Deliver q ∷ []) new (without q out) (set stages q stage.Delivered) job
  stands_delivered q low h =
      let high : q < length stages = omega (arith, k.count, low) in
      let now : stage_of (events ++ event.Deliver q ∷ []) q ≡ stage.Delivered = stage_delivered events q in
      let stay : (p : ℕ) → p ≢ q → Stays old new p = λ p d. happens_stays job old new (Deliver q) p (ne_eqb q p (λ e. d (sym e))) h in
      record {
        count = length-set stages q stage.Delivered ∙ k.count;
        stage_is = λ p l. elim (cases_eq p q) [
          | inl e ↦ subst (λ r. get_or (set stages q stage.Delivered) r stage.Unfetched ≡ stage_of (events ++ event.Deliver q ∷ []) r) (sym e) (get_or-set_same stages q stage.Delivered stage.Unfetched high ∙ sym now)
          | inr d ↦ get_or-set_other stages q p stage.Delivered stage.Unfetched d ∙ k.stage_is p l ∙ sym (deliver_other q p d)
        ];
        are_out = λ p. (
          (λ is. let o = others_out out q p is in let was = (k.are_out p).0 o.0 in (was.0, deliver_other q p o.1 ∙ was.1)),
          (λ is. elim (cases_eq p q) [
            | inl e ↦ absurd (not_out now (subst (λ r. stage_of (events ++ event.Deliver q ∷ []) r ≡ stage.Out) e is.1))
            | inr d ↦ out_others out q p ((k.are_out p).1 (is.0, sym (deliver_other q p d) ∙ is.1)) d
          ]),
        );
        feet = All-filter (λ g. not (g.packet == q)) (λ g. g.foot ≡ foot_of packets g.packet) out k.feet;
        away = λ p is. elim (cases_eq p q) [
          | inl e ↦ absurd (not_out now (subst (λ r. stage_of (events ++ event.Deliver q ∷ []) r ≡ stage.Out) e is))
          | inr d ↦ away_on p (sym (deliver_other q p d) ∙ is) (stay p d)
        ];
        fresh = λ p other i. elim (cases_eq p q) [
          | inl e ↦ absurd (other (subst (λ r. stage_of (events ++ event.Deliver q ∷ []) r ≡ stage.Delivered) (sym e) now))
          | inr d ↦ (stay p d).stored i ∙ k.fresh p (λ is. other (deliver_other q p d ∙ is)) i
        ];
      }
