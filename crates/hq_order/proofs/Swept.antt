-- Rows that have what they are asked for have all of the order.
use Rattle.std.proofs.Common.{◌≡◌, ◌≢◌, ℕ, zero, suc, ◌-◌, ◌<◌, ◌⊎◌, inl, inr, IsTrue, List, [], length, refl, sym, ◌∙◌, ap, subst, arith, slice_get, slice_index_or, slice_set, ◌∷◌, Option, Some, None}
use Rattle.std.specs.Global.{Vec}
use Rattle.std.proofs.lemmas.Bool.{cases_eq, cases_lt}
use Rattle.std.proofs.lemmas.List.{length-set}
use Rattle.std.proofs.lemmas.Option.{get_or_from_slice_get}
use Rattle.hq_job.specs.Value.{JobValue}
use Rattle.hq_job.specs.Plan.{plan}
use Rattle.hq_model.specs.Job.{Job, packet, Earlier, Dependency, Decrements, IsBarrier}
use Rattle.hq_model.specs.Job.Kind.{BarrierAnd}
use Rattle.hq_model.specs.Order.{ByBit, ByQueue, Before, Branch}
use Rattle.hq_model.specs.Order.Before.{by_bit, by_queue, by_and, by_or, through}
use Rattle.hq_model.specs.Order.Branch.{itself, after}
use Rattle.hq_bits.specs.Bits.{has, Covers}
use Rattle.hq_rows.specs.Matrix.{Marks, IsSquare, row, words_for}
use Rattle.hq_rows.specs.Uniting.{CanUnite}
use Rattle.hq_order.specs.Rounds.{Reaches, ByOr}
use Rattle.hq_order.specs.Sweeping.{Asked, StandsTogether, HasAsked, HaveAsked, HaveOrder}
use Rattle.hq_order.specs.Sweeping.Asked.{by_ahead as asked_ahead, by_queue as asked_queue, by_bit as asked_bit, by_and as asked_and, by_or as asked_or}

module _ (job : Job) (rows : List (Vec ℕ)) (h : HaveAsked job rows) where
  abbrev R : ℕ → ℕ → Type 0
  R p r = Marks rows p r

  -- the packet behind e stands behind it in its queue
  next : (e r : ℕ) → Earlier job e r → suc e < r → Earlier job e (suc e)
  next e r f low =
      let g = (h r f.is_packet).together e f low in
      record { ahead = omega arith; is_packet = omega (arith, low, f.is_packet); same_queue = f.same_queue ∙ sym g.same_queue }

  -- what is before a packet is before the later ones of its queue
  chain : (n e r x : ℕ) → n ≡ r - e → Earlier job e r → R x e → R x r
  chain zero e r x is f k = absurd (omega (arith, f.ahead, is))
  chain (suc n) e r x is f k = elim (cases_lt (suc e) r) [
    | inl low ↦
        let to = next e r f low in
        let there : R x (suc e) = (h (suc e) to.is_packet).asked x (asked_ahead {e = e} refl to k) in
        chain n (suc e) r x (omega (arith, is)) ((h r f.is_packet).together e f low) there
    | inr high ↦
        let step : suc e ≡ r = omega (arith, f.ahead, high) in
        (h r f.is_packet).asked x (asked_ahead {e = e} step f k)
  ]

  along : (e r x : ℕ) → Earlier job e r → R x e → R x r
  along e r x f k = chain (r - e) e r x refl f k

  -- m is known to be before r, and so is all that is known to be before m
  record Into (m r : ℕ) : Type 0 where
    here : R m r
    behind : (x : ℕ) → R x m → R x r

  record IntoBranch (m s : ℕ) : Type 0 where
    d : ℕ
    decrements : Decrements job d s
    upto : (m ≡ d) ⊎ Into m d

  from_queue : (p r : ℕ) → ByQueue job p r → R p r
  from_queue p r by = elim (cases_lt (suc p) r) [
    | inl low ↦
        let to = next p r by.earlier low in
        along (suc p) r p ((h r by.earlier.is_packet).together p by.earlier low)
        ((h (suc p) to.is_packet).asked p (asked_queue refl (record { earlier = to; barrier = by.barrier })))
    | inr high ↦ let step : suc p ≡ r = omega (arith, by.earlier.ahead, high) in (h r by.earlier.is_packet).asked p (asked_queue step by)
  ]

  -- a packet is before the one with the barrier bit
  from_bit : (p r j : ℕ) → ByBit job p r j → R p j
  from_bit p r j by = (h j by.earlier.is_packet).asked p (asked_bit (record { earlier = by.earlier; bit = by.bit; upto = inl refl }))

  -- what is before that one is before those behind it
  upto : (j r x : ℕ) → (j ≡ r) ⊎ Earlier job j r → R x j → R x r
  upto j r x (inl is) k = subst (R x) is k
  upto j r x (inr f) k = along j r x f k

  reach : (m s : ℕ) → IntoBranch m s → Reaches job R m s
  reach m s b = record { d = b.d; decrements = b.decrements; upto = elim b.upto [ inl e ↦ inl e | inr i ↦ inr i.here ] }

  reach_behind : (x m s : ℕ) → R x m → IntoBranch m s → Reaches job R x s
  reach_behind x m s k b = record { d = b.d; decrements = b.decrements; upto = inr (elim b.upto [ inl e ↦ subst (R x) e k | inr i ↦ i.behind x k ]) }

  mutual
    into : {m r : ℕ} → Before job m r → Into m r
    into (by_bit {p = p} {r = r} {j = j} by) = record {
      here = upto j r p by.upto (from_bit p r j by);
      behind = λ x k. upto j r x by.upto (along p j x by.earlier k);
    }
    into (by_queue {p = p} {r = r} by) = record { here = from_queue p r by; behind = λ x k. along p r x by.earlier k }
    into (by_and {p = p} {r = r} {slot = slot} {s = s} by) = record {
      here = (h r by.dependency.is_packet).asked p (asked_and {d = p} {slot = slot} {s = s} by (inl refl));
      behind = λ x y. (h r by.dependency.is_packet).asked x (asked_and {d = p} {slot = slot} {s = s} by (inr y));
    }
    into (by_or {p = p} {r = r} any f) = record {
      here = (h r any.some.2.is_packet).asked p (asked_or (record { any = any; each = λ slot s d. reach p s (into_branch (f slot s d)) }));
      behind = λ x y. (h r any.some.2.is_packet).asked x (asked_or (record { any = any; each = λ slot s d. reach_behind x p s y (into_branch (f slot s d)) }));
    }
    into (through {p = p} {m = m} {r = r} b c) =
        let i = into b in
        let j = into c in
        record { here = j.behind p i.here; behind = λ x k. j.behind x (i.behind x k) }

    into_branch : {m s : ℕ} → Branch job m s → IntoBranch m s
    into_branch (itself {p = p} c) = record { d = p; decrements = c; upto = inl refl }
    into_branch (after {p = p} {d = d} c b) = record { d = d; decrements = c; upto = inr (into b) }

pub asked_have_order : (job : Job) (rows : List (Vec ℕ)) → IsSquare (length job.packets) rows → HaveAsked job rows → HaveOrder job rows
asked_have_order job rows square h = record { square = square; all = λ p r b. (into job rows h b).here }

-- without unions rows are taken in one by one
pub can_unite : (rows : List (Vec ℕ)) (words : ℕ) (known : List (Vec ℕ)) (unions : List (List ℕ)) → known ≡ rows → unions ≡ [] → ((k : ℕ) → k < length rows → length (row rows k) ≡ words) → CanUnite known words unions
can_unite rows words known unions e f width = record {
  width = λ k low. ap (λ rs. length (row rs k)) e ∙ width k (omega (arith, low, ap length e));
  are = λ some. absurd (omega (arith, some, ap length f));
}

-- ---- slots of a packet

pub get_there : (slots : List (Option ℕ)) (i j s : ℕ) → i ≡ j → slice_get slots i ≡ Some (Some s) → slice_index_or slots j None ≡ Some s
get_there slots i j s e is = ap (λ k. slice_index_or slots k None) (sym e) ∙ get_or_from_slice_get slots i (Some s) None is

pub get_is : (slots : List (Option ℕ)) (i j s t : ℕ) → i ≡ j → slice_get slots i ≡ Some (Some s) → slice_index_or slots j None ≡ Some t → s ≡ t
get_is slots i j s t e is there = let same : Some s ≡ Some t = sym (get_there slots i j s e is) ∙ there in cc (same)

pub got : (v : JobValue) (p i s : ℕ) (slots : List (Option ℕ)) → slots ≡ (packet (plan v) p).deps → Dependency (plan v) p i s → slice_get slots i ≡ Some (Some s)
got v p i s slots e d = ap (λ q. slice_get q i) e ∙ d.signal

-- ---- a row put in place of another

row_set_same : (rows : List (Vec ℕ)) (r : ℕ) (x : Vec ℕ) → r < length rows → row (slice_set rows r x) r ≡ x.items
row_set_same [] r x low = absurd (omega (arith, low))
row_set_same (y ∷ ys) zero x low = refl
row_set_same (y ∷ ys) (suc r) x low = row_set_same ys r x (omega (arith, low))

row_set_other : (rows : List (Vec ℕ)) (r k : ℕ) (x : Vec ℕ) → k ≢ r → row (slice_set rows r x) k ≡ row rows k
row_set_other [] r k x apart = refl
row_set_other (y ∷ ys) zero zero x apart = absurd (apart refl)
row_set_other (y ∷ ys) zero (suc k) x apart = refl
row_set_other (y ∷ ys) (suc r) zero x apart = refl
row_set_other (y ∷ ys) (suc r) (suc k) x apart = row_set_other ys r k x (λ e. apart (ap suc e))

pub square_set : (n : ℕ) (rows : List (Vec ℕ)) (r : ℕ) (x : Vec ℕ) → IsSquare n rows → r < length rows → length x.items ≡ words_for n → IsSquare n (slice_set rows r x)
square_set n rows r x square low wide = record {
  height = length-set rows r x ∙ square.height;
  width = λ k l. elim (cases_eq k r) [
    | inl same ↦ ap (λ j. length (row (slice_set rows r x) j)) same ∙ ap length (row_set_same rows r x low) ∙ wide
    | inr apart ↦ ap length (row_set_other rows r k x apart) ∙ square.width k l
  ];
  room = square.room;
  few = square.few;
}

-- ---- a row that has what it is asked for

pub has_asked : (job : Job) (rows : List (Vec ℕ)) (r : ℕ) (own asked : List ℕ) → StandsTogether job r → own ≡ row rows r → Covers own asked → ((p : ℕ) → Asked job (Marks rows) p r → IsTrue (has asked p)) → HasAsked job rows r
has_asked job rows r own asked together is covers h = record {
  together = together;
  asked = λ p a. subst (λ xs. IsTrue (has xs p)) is (covers p (h p a));
}

module _ (job : Job) (rows : List (Vec ℕ)) (r : ℕ) (ahead between waits last : List ℕ) (e : between ≡ ahead) (f : last ≡ waits)
    (by_row : (p e : ℕ) → suc e ≡ r → Earlier job e r → Marks rows p e → IsTrue (has ahead p))
    (of_queue : (p : ℕ) → suc p ≡ r → Earlier job p r → IsBarrier job p → IsTrue (has ahead p))
    (of_bit : (p : ℕ) → Earlier job p r → IsTrue (packet job r).bit → IsTrue (has ahead p))
    (kept : (p : ℕ) → IsTrue (has between p) → IsTrue (has waits p))
    (ands : (p slot s : ℕ) → (packet job r).kind ≡ BarrierAnd → Dependency job r slot s → Reaches job (Marks rows) p s → IsTrue (has waits p))
    (ors : (p : ℕ) → ByOr job (Marks rows) p r → IsTrue (has waits p)) where
  on_to : (p : ℕ) → IsTrue (has ahead p) → IsTrue (has waits p)
  on_to p h = kept p (subst (λ xs. IsTrue (has xs p)) (sym e) h)

  in_waits : (p : ℕ) → Asked job (Marks rows) p r → IsTrue (has waits p)
  in_waits p (asked_ahead {e} step at k) = on_to p (by_row p e step at k)
  in_waits p (asked_queue step by) = on_to p (of_queue p step by.earlier by.barrier)
  in_waits p (asked_bit by) = on_to p (of_bit p by.earlier by.bit)
  in_waits p (asked_and {d} {slot} {s} by k) = ands p slot s by.kind by.dependency (record { d = d; decrements = by.decrements; upto = k })
  in_waits p (asked_or b) = ors p b

  pub all_asked : (p : ℕ) → Asked job (Marks rows) p r → IsTrue (has last p)
  all_asked p a = subst (λ xs. IsTrue (has xs p)) (sym f) (in_waits p a)
