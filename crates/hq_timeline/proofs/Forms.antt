-- A line's test gives the fault that the grammar gives its words.
use Rattle.std.proofs.Common.{◌≡◌, ℕ, ◌+◌, ◌^◌, ◌⊎◌, inl, inr, Bool, true, false, cond, List, [], ◌∷◌, length, Option, Some, None, refl, sym, ap, subst, ◌∙◌, arith}
use Rattle.std.specs.Prelude.{Result, Ok, Err, nat_lt}
use Rattle.std.specs.List.{AllByRecursion}
use Rattle.std.specs.Fmt.{decimal}
use Rattle.std.specs.Str.{bytes_eq}
use Rattle.hq_text.specs.Ahead.{IsSmall}
use Rattle.hq_text.specs.Numbers.{number_of}
use Rattle.hq_text.specs.InTurn.{◌>>=◌}
use Rattle.hq_events.specs.declared.event.Event.{Event}
use Rattle.hq_events.specs.declared.event.Event.TheVariants as event
use Rattle.hq_timeline.specs.declared.fault.TimeReason.{TimeReason}
use Rattle.hq_timeline.specs.declared.fault.TimeReason.TheVariants as reason
use Rattle.hq_timeline.specs.declared.draft.Stage.{Stage}
use Rattle.hq_timeline.specs.declared.draft.Stage.TheVariants as stage
use Rattle.hq_timeline.specs.declared.kinds.OneNumber.{OneNumber}
use Rattle.hq_timeline.specs.declared.kinds.OneNumber.TheVariants as one
use Rattle.hq_timeline.specs.declared.kinds.TwoNumbers.{TwoNumbers}
use Rattle.hq_timeline.specs.declared.kinds.TwoNumbers.TheVariants as two
use Rattle.hq_timeline.specs.Names as word
use Rattle.hq_timeline.specs.Grammar.{event_words, EventFits, Says, end_words}
use Rattle.hq_timeline.specs.TextFaults.{first_word, operands, IsSmallNumber, HasEventForm, Refused}
use Rattle.hq_timeline.specs.LineTests.{small, number_said, one_kind, event_of_one, two_kind, event_of_two, plain_said, one_said, two_said, event_said, is_head, is_last}
use Rattle.hq_timeline.specs.TextStates.{State, with_head, with_event, with_end, add_head, add_event, add_content, add_at, added}
use Rattle.hq_timeline.proofs.Parts.{number_is, one_of, two_of, event_ok, head_ok, head_is, last_ok, last_is}

err_is : {A : Type 0} (v w : TimeReason) → (let x : Result A TimeReason = Err v in let y : Result A TimeReason = Err w in x ≡ y) → v ≡ w
err_is v w e = cc

not_both : {A : Type 0} (r : Result A TimeReason) (x : A) (w : TimeReason) → r ≡ Ok x → r ≡ Err w → ⊥
not_both r x w e f = absurd cc

-- ---- which faults the tests have

-- the fault isn't of this test, but of one behind it
behind : {A : Type 0} (b : Bool) (x : A) (r : Result A TimeReason) (v w : TimeReason) → (r ≡ Err w → w ≡ v) → cond b (Ok x) r ≡ Err w → w ≡ v
behind true x r v w more e = absurd cc
behind false x r v w more e = more e

-- no test is left
at_last : {A : Type 0} (v w : TimeReason) → (let x : Result A TimeReason = Err v in let y : Result A TimeReason = Err w in x ≡ y) → w ≡ v
at_last v w e = sym (err_is v w e)

number_err : (w : List ℕ) (why : TimeReason) → number_said w ≡ Err why → why ≡ reason.Number
unfolding number_said
number_err w why e = by (number_of w) e where
  by : (o : Option ℕ) → small o ≡ Err why → why ≡ reason.Number
  by None e = at_last reason.Number why e
  by (Some n) e = behind (nat_lt n (2 ^ 32)) n _ reason.Number why (at_last reason.Number why) e

plain_err : (name : List ℕ) (why : TimeReason) → plain_said name ≡ Err why → why ≡ reason.Word
unfolding plain_said
plain_err name why =
    behind (bytes_eq name word.submit_word) event.Submit _ reason.Word why (
    behind (bytes_eq name word.rest_word) event.Rest _ reason.Word why (
    at_last reason.Word why))

one_err : (name : List ℕ) (why : TimeReason) → one_kind name ≡ Err why → why ≡ reason.Word
unfolding one_kind
one_err name why =
    behind (bytes_eq name word.launch_word) one.Launch _ reason.Word why (
    behind (bytes_eq name word.enter_word) one.Enter _ reason.Word why (
    behind (bytes_eq name word.fetch_word) one.Fetch _ reason.Word why (
    behind (bytes_eq name word.deliver_word) one.Deliver _ reason.Word why (
    behind (bytes_eq name word.complete_word) one.Complete _ reason.Word why (
    behind (bytes_eq name word.finish_word) one.Finish _ reason.Word why (
    at_last reason.Word why))))))

two_err : (name : List ℕ) (why : TimeReason) → two_kind name ≡ Err why → why ≡ reason.Word
unfolding two_kind
two_err name why =
    behind (bytes_eq name word.push_lane_word) two.PushLane _ reason.Word why (
    behind (bytes_eq name word.push_agent_word) two.PushAgent _ reason.Word why (
    behind (bytes_eq name word.fill_lane_word) two.FillLane _ reason.Word why (
    behind (bytes_eq name word.fill_agent_word) two.FillAgent _ reason.Word why (
    behind (bytes_eq name word.drop_lane_word) two.DropLane _ reason.Word why (
    behind (bytes_eq name word.drop_agent_word) two.DropAgent _ reason.Word why (
    behind (bytes_eq name word.read_word) two.Read _ reason.Word why (
    behind (bytes_eq name word.store_word) two.Store _ reason.Word why (
    behind (bytes_eq name word.observe_word) two.Observe _ reason.Word why (
    at_last reason.Word why)))))))))

-- ---- the names of events pass

plain_named : (e : Event) → 1 ≡ length (event_words e) → plain_said (first_word (event_words e)) ≡ Ok e
unfolding plain_said
plain_named event.Submit h = refl
plain_named (event.Launch a) h = absurd (omega arith)
plain_named (event.Observe a b) h = absurd (omega arith)
plain_named (event.Enter a) h = absurd (omega arith)
plain_named (event.Fetch a) h = absurd (omega arith)
plain_named (event.Deliver a) h = absurd (omega arith)
plain_named (event.Complete a) h = absurd (omega arith)
plain_named event.Rest h = refl
plain_named (event.Read a b) h = absurd (omega arith)
plain_named (event.Store a b) h = absurd (omega arith)
plain_named (event.Finish a) h = absurd (omega arith)
plain_named (event.PushLane a b) h = absurd (omega arith)
plain_named (event.PushAgent a b) h = absurd (omega arith)
plain_named (event.FillLane a b) h = absurd (omega arith)
plain_named (event.FillAgent a b) h = absurd (omega arith)
plain_named (event.DropLane a b) h = absurd (omega arith)
plain_named (event.DropAgent a b) h = absurd (omega arith)

-- the name of a kind
record OneNamed (name : List ℕ) : Type 0 where
  kind : OneNumber
  is : one_kind name ≡ Ok kind

one_named : (e : Event) → 2 ≡ length (event_words e) → OneNamed (first_word (event_words e))
unfolding one_kind
one_named event.Submit h = absurd (omega arith)
one_named (event.Launch a) h = record { kind = one.Launch; is = refl }
one_named (event.Observe a b) h = absurd (omega arith)
one_named (event.Enter a) h = record { kind = one.Enter; is = refl }
one_named (event.Fetch a) h = record { kind = one.Fetch; is = refl }
one_named (event.Deliver a) h = record { kind = one.Deliver; is = refl }
one_named (event.Complete a) h = record { kind = one.Complete; is = refl }
one_named event.Rest h = absurd (omega arith)
one_named (event.Read a b) h = absurd (omega arith)
one_named (event.Store a b) h = absurd (omega arith)
one_named (event.Finish a) h = record { kind = one.Finish; is = refl }
one_named (event.PushLane a b) h = absurd (omega arith)
one_named (event.PushAgent a b) h = absurd (omega arith)
one_named (event.FillLane a b) h = absurd (omega arith)
one_named (event.FillAgent a b) h = absurd (omega arith)
one_named (event.DropLane a b) h = absurd (omega arith)
one_named (event.DropAgent a b) h = absurd (omega arith)

record TwoNamed (name : List ℕ) : Type 0 where
  kind : TwoNumbers
  is : two_kind name ≡ Ok kind

two_named : (e : Event) → 3 ≡ length (event_words e) → TwoNamed (first_word (event_words e))
unfolding two_kind
two_named event.Submit h = absurd (omega arith)
two_named (event.Launch a) h = absurd (omega arith)
two_named (event.Observe a b) h = record { kind = two.Observe; is = refl }
two_named (event.Enter a) h = absurd (omega arith)
two_named (event.Fetch a) h = absurd (omega arith)
two_named (event.Deliver a) h = absurd (omega arith)
two_named (event.Complete a) h = absurd (omega arith)
two_named event.Rest h = absurd (omega arith)
two_named (event.Read a b) h = record { kind = two.Read; is = refl }
two_named (event.Store a b) h = record { kind = two.Store; is = refl }
two_named (event.Finish a) h = absurd (omega arith)
two_named (event.PushLane a b) h = record { kind = two.PushLane; is = refl }
two_named (event.PushAgent a b) h = record { kind = two.PushAgent; is = refl }
two_named (event.FillLane a b) h = record { kind = two.FillLane; is = refl }
two_named (event.FillAgent a b) h = record { kind = two.FillAgent; is = refl }
two_named (event.DropLane a b) h = record { kind = two.DropLane; is = refl }
two_named (event.DropAgent a b) h = record { kind = two.DropAgent; is = refl }

-- an event has one to three words
some_words : (e : Event) → 0 ≡ length (event_words e) → ⊥
some_words event.Submit h = omega arith
some_words (event.Launch a) h = omega arith
some_words (event.Observe a b) h = omega arith
some_words (event.Enter a) h = omega arith
some_words (event.Fetch a) h = omega arith
some_words (event.Deliver a) h = omega arith
some_words (event.Complete a) h = omega arith
some_words event.Rest h = omega arith
some_words (event.Read a b) h = omega arith
some_words (event.Store a b) h = omega arith
some_words (event.Finish a) h = omega arith
some_words (event.PushLane a b) h = omega arith
some_words (event.PushAgent a b) h = omega arith
some_words (event.FillLane a b) h = omega arith
some_words (event.FillAgent a b) h = omega arith
some_words (event.DropLane a b) h = omega arith
some_words (event.DropAgent a b) h = omega arith

few_words : (e : Event) (n : ℕ) → n + 4 ≡ length (event_words e) → ⊥
few_words event.Submit n h = omega arith
few_words (event.Launch a) n h = omega arith
few_words (event.Observe a b) n h = omega arith
few_words (event.Enter a) n h = omega arith
few_words (event.Fetch a) n h = omega arith
few_words (event.Deliver a) n h = omega arith
few_words (event.Complete a) n h = omega arith
few_words event.Rest n h = omega arith
few_words (event.Read a b) n h = omega arith
few_words (event.Store a b) n h = omega arith
few_words (event.Finish a) n h = omega arith
few_words (event.PushLane a b) n h = omega arith
few_words (event.PushAgent a b) n h = omega arith
few_words (event.FillLane a b) n h = omega arith
few_words (event.FillAgent a b) n h = omega arith
few_words (event.DropLane a b) n h = omega arith
few_words (event.DropAgent a b) n h = omega arith

-- ---- the numbers of an event

small_number : (n : ℕ) → IsSmall n → IsSmallNumber (decimal n)
small_number n h = record { number = n; spelled = refl; small = h }

numbers_in : (e : Event) → EventFits e → AllByRecursion IsSmallNumber (operands (event_words e))
numbers_in event.Submit h = tt
numbers_in (event.Launch a) h = (small_number a h, tt)
numbers_in (event.Observe a b) h = (small_number a h.0, (small_number b h.1, tt))
numbers_in (event.Enter a) h = (small_number a h, tt)
numbers_in (event.Fetch a) h = (small_number a h, tt)
numbers_in (event.Deliver a) h = (small_number a h, tt)
numbers_in (event.Complete a) h = (small_number a h, tt)
numbers_in event.Rest h = tt
numbers_in (event.Read a b) h = (small_number a h.0, (small_number b h.1, tt))
numbers_in (event.Store a b) h = (small_number a h.0, (small_number b h.1, tt))
numbers_in (event.Finish a) h = (small_number a h, tt)
numbers_in (event.PushLane a b) h = (small_number a h.0, (small_number b h.1, tt))
numbers_in (event.PushAgent a b) h = (small_number a h.0, (small_number b h.1, tt))
numbers_in (event.FillLane a b) h = (small_number a h.0, (small_number b h.1, tt))
numbers_in (event.FillAgent a b) h = (small_number a h.0, (small_number b h.1, tt))
numbers_in (event.DropLane a b) h = (small_number a h.0, (small_number b h.1, tt))
numbers_in (event.DropAgent a b) h = (small_number a h.0, (small_number b h.1, tt))

numbers_said : (words : List (List ℕ)) (e : Event) → Says words e → AllByRecursion IsSmallNumber (operands words)
numbers_said words e h = subst (λ (ws : List (List ℕ)). AllByRecursion IsSmallNumber (operands ws)) (sym h.spelled) (numbers_in e h.fits)

-- a word that is refused as a number is none
no_number : (w : List ℕ) (why : TimeReason) → number_said w ≡ Err why → IsSmallNumber w → ⊥
no_number w why e h = not_both (number_said w) h.number why (ap number_said h.spelled ∙ number_is h.number h.small) e

-- ---- what the test of an event gives

-- an event; or that the words have no event's form; or that they have, but a number is wrong
data Tested (words : List (List ℕ)) (r : Result Event TimeReason) : Type 0 where
  says : (e : Event) → r ≡ Ok e → Tested words r
  formless : r ≡ Err reason.Word → (HasEventForm words → ⊥) → Tested words r
  numberless : r ≡ Err reason.Number → HasEventForm words → (AllByRecursion IsSmallNumber (operands words) → ⊥) → Tested words r

form_of : (words : List (List ℕ)) (e : Event) → Says words e → HasEventForm words
form_of words e h = record { event = e; named = ap first_word h.spelled; counted = ap length h.spelled }

plain_tested : (name : List ℕ) → Tested (name ∷ []) (plain_said name)
plain_tested name = by (plain_said name) refl where
  by : (r : Result Event TimeReason) → plain_said name ≡ r → Tested (name ∷ []) (plain_said name)
  by (Ok e) is = says e is
  by (Err w) is = formless (is ∙ ap Err (plain_err name w is)) (λ h. not_both (plain_said name) h.event w (ap plain_said h.named ∙ plain_named h.event h.counted) is)

one_form : (name first : List ℕ) (kind : OneNumber) → one_kind name ≡ Ok kind → HasEventForm (name ∷ first ∷ [])
one_form name first kind is =
    let h = one_of name kind is 0 (omega arith) in
    record { event = event_of_one kind 0; named = ap first_word h.spelled; counted = ap length h.spelled }

one_tested : (name first : List ℕ) → Tested (name ∷ first ∷ []) (one_said name first)
unfolding one_said
one_tested name first = by (one_kind name) refl (number_said first) refl where
  by : (k : Result OneNumber TimeReason) → one_kind name ≡ k → (a : Result ℕ TimeReason) → number_said first ≡ a → Tested (name ∷ first ∷ []) (one_kind name >>= λ kind. number_said first >>= λ n. Ok (event_of_one kind n))
  by (Err w) is a also = formless (rw (is, one_err name w is) refl) (λ h. let n = one_named h.event h.counted in not_both (one_kind name) n.kind w (ap one_kind h.named ∙ n.is) is)
  by (Ok kind) is (Err w) also = numberless (rw (is, also, number_err first w also) refl) (one_form name first kind is) (λ h. no_number first w also h.0)
  by (Ok kind) is (Ok n) also = says (event_of_one kind n) (rw (is, also) refl)

two_form : (name first second : List ℕ) (kind : TwoNumbers) → two_kind name ≡ Ok kind → HasEventForm (name ∷ first ∷ second ∷ [])
two_form name first second kind is =
    let h = two_of name kind is 0 0 (omega arith) (omega arith) in
    record { event = event_of_two kind 0 0; named = ap first_word h.spelled; counted = ap length h.spelled }

two_tested : (name first second : List ℕ) → Tested (name ∷ first ∷ second ∷ []) (two_said name first second)
unfolding two_said
two_tested name first second = by (two_kind name) refl (number_said first) refl (number_said second) refl where
  by : (k : Result TwoNumbers TimeReason) → two_kind name ≡ k → (a : Result ℕ TimeReason) → number_said first ≡ a → (b : Result ℕ TimeReason) → number_said second ≡ b
      → Tested (name ∷ first ∷ second ∷ []) (two_kind name >>= λ kind. number_said first >>= λ n. number_said second >>= λ m. Ok (event_of_two kind n m))
  by (Err w) is a also b more = formless (rw (is, two_err name w is) refl) (λ h. let n = two_named h.event h.counted in not_both (two_kind name) n.kind w (ap two_kind h.named ∙ n.is) is)
  by (Ok kind) is (Err w) also b more = numberless (rw (is, also, number_err first w also) refl) (two_form name first second kind is) (λ h. no_number first w also h.0)
  by (Ok kind) is (Ok n) also (Err w) more = numberless (rw (is, also, more, number_err second w more) refl) (two_form name first second kind is) (λ h. no_number second w more h.1.0)
  by (Ok kind) is (Ok n) also (Ok m) more = says (event_of_two kind n m) (rw (is, also, more) refl)

tested : (words : List (List ℕ)) → Tested words (event_said words)
unfolding event_said
tested [] = formless refl (λ h. some_words h.event h.counted)
tested (name ∷ []) = plain_tested name
tested (name ∷ a ∷ []) = one_tested name a
tested (name ∷ a ∷ b ∷ []) = two_tested name a b
tested (name ∷ a ∷ b ∷ c ∷ more) = formless refl (λ h. few_words h.event (length more) (let n : length more + 4 ≡ length (name ∷ a ∷ b ∷ c ∷ more) = omega arith in n ∙ h.counted))

-- no event is named as the end
end_formless : HasEventForm end_words → ⊥
unfolding plain_said
end_formless h = by (ap plain_said h.named ∙ plain_named h.event h.counted) where
  by : (let r : Result Event TimeReason = Err reason.Word in r ≡ Ok h.event) → ⊥
  by e = absurd cc

-- ---- what the test of a line gives

head_told : (s : State) (w : List (List ℕ)) (why : TimeReason) → add_head s w ≡ Err why → Refused stage.Head w why
unfolding add_head
head_told s w why e = by (is_head w) refl e where
  by : (b : Bool) → is_head w ≡ b → cond b (Ok (with_head s)) (Err reason.Word) ≡ Err why → Refused stage.Head w why
  by true is e = absurd cc
  by false is e = subst (λ (v : TimeReason). Refused stage.Head w v) (err_is reason.Word why e) (λ h. true_false (sym head_is ∙ ap is_head (sym h) ∙ is)) where
    true_false : true ≡ false → ⊥
    true_false p = absurd cc

event_told : (s : State) (w : List (List ℕ)) (why : TimeReason) → (w ≡ end_words → ⊥) → add_event s w ≡ Err why → Refused stage.Events w why
unfolding add_event
event_told s w why other e = by (tested w) where
  failed : (v : TimeReason) → event_said w ≡ Err v → v ≡ why
  failed v is = err_is v why (rw is at e)

  by : Tested w (event_said w) → Refused stage.Events w why
  by (says x is) = absurd (not_both (add_event s w) (with_event s x) why (rw is refl) e)
  by (formless is none) = subst (λ (v : TimeReason). Refused stage.Events w v) (failed reason.Word is) neither where
    neither : HasEventForm w ⊎ (w ≡ end_words) → ⊥
    neither (inl h) = none h
    neither (inr h) = other h
  by (numberless is form none) = subst (λ (v : TimeReason). Refused stage.Events w v) (failed reason.Number is) (refl, form, none)

true_false : true ≡ false → ⊥
true_false p = absurd cc

content_told : (s : State) (w : List (List ℕ)) (why : TimeReason) → add_content s w ≡ Err why → Refused stage.Events w why
unfolding add_content
content_told s w why e = by (is_last w) refl e where
  by : (b : Bool) → is_last w ≡ b → cond b (Ok (with_end s)) (add_event s w) ≡ Err why → Refused stage.Events w why
  by true is e = absurd cc
  by false is e = event_told s w why (λ h. true_false (sym last_is ∙ ap is_last (sym h) ∙ is)) e

at_told : (place : Stage) (s : State) (w : List (List ℕ)) (why : TimeReason) → add_at place s w ≡ Err why → Refused place w why
at_told stage.Head s w why e = head_told s w why e
at_told stage.Events s w why e = content_told s w why e
at_told stage.Ended s w why e = subst (λ (v : TimeReason). Refused stage.Ended w v) (err_is reason.Word why e) (λ h. h)

-- a line that the tests refuse is refused
pub told : (s : State) (w : List (List ℕ)) (why : TimeReason) → added s w ≡ Err why → Refused s.stage w why
unfolding added
told s w why e = at_told s.stage s w why e

-- ---- and back

formless_refused : (s : State) (w : List (List ℕ)) → (HasEventForm w ⊎ (w ≡ end_words) → ⊥) → add_content s w ≡ Err reason.Word
unfolding add_content add_event
formless_refused s w none = by (is_last w) refl (tested w) where
  by : (b : Bool) → is_last w ≡ b → Tested w (event_said w) → cond b (Ok (with_end s)) (event_said w >>= λ e. Ok (with_event s e)) ≡ Err reason.Word
  by true is t = absurd (none (inr (last_ok w is)))
  by false is (says x e) = absurd (none (inl (form_of w x (event_ok w x e))))
  by false is (formless e no_form) = rw e refl
  by false is (numberless e form wrong) = absurd (none (inl form))

numberless_refused : (s : State) (w : List (List ℕ)) → HasEventForm w → (AllByRecursion IsSmallNumber (operands w) → ⊥) → add_content s w ≡ Err reason.Number
unfolding add_content add_event
numberless_refused s w form none = by (is_last w) refl (tested w) where
  by : (b : Bool) → is_last w ≡ b → Tested w (event_said w) → cond b (Ok (with_end s)) (event_said w >>= λ e. Ok (with_event s e)) ≡ Err reason.Number
  by true is t = absurd (end_formless (subst HasEventForm (last_ok w is) form))
  by false is (says x e) = absurd (none (numbers_said w x (event_ok w x e)))
  by false is (formless e no_form) = absurd (no_form form)
  by false is (numberless e also wrong) = rw e refl

at_refused : (place : Stage) (s : State) (w : List (List ℕ)) (why : TimeReason) → Refused place w why → add_at place s w ≡ Err why
unfolding add_head
at_refused stage.Head s w reason.Word none = by (is_head w) refl where
  by : (b : Bool) → is_head w ≡ b → cond b (Ok (with_head s)) (Err reason.Word) ≡ Err reason.Word
  by true is = absurd (none (head_ok w is))
  by false is = refl
at_refused stage.Events s w reason.Word none = formless_refused s w none
at_refused stage.Ended s w reason.Word none = refl
at_refused stage.Head s w reason.Number h = absurd (other h.0) where
  other : stage.Head ≡ stage.Events → ⊥
  other e = absurd cc
at_refused stage.Events s w reason.Number h = numberless_refused s w h.1 h.2
at_refused stage.Ended s w reason.Number h = absurd (other h.0) where
  other : stage.Ended ≡ stage.Events → ⊥
  other e = absurd cc
at_refused place s w reason.NoEnd h = absurd h
at_refused place s w reason.Memory h = absurd h

-- a line that is refused, the tests refuse
pub refuses : (s : State) (w : List (List ℕ)) (why : TimeReason) → Refused s.stage w why → added s w ≡ Err why
unfolding added
refuses s w why h = at_refused s.stage s w why h
