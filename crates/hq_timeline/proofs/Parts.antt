-- Numbers and lines, both ways.
use Rattle.std.proofs.Common.{◌≡◌, ℕ, ◌^◌, Bool, true, false, cond, List, [], ◌∷◌, Option, Some, None, refl, sym, ap, subst, ◌∙◌, arith}
use Rattle.std.specs.Prelude.{Result, Ok, Err, nat_lt}
use Rattle.std.specs.Fmt.{decimal}
use Rattle.std.specs.Str.{bytes_eq}
use Rattle.std.proofs.lemmas.Bool.{ltb-true, lt-ltb}
use Rattle.hq_text.specs.Ahead.{IsSmall}
use Rattle.hq_text.specs.Numbers.{IsNumber, number_of}
use Rattle.hq_text.proofs.InTurn.{steps, ok_is, both, word_is, guarded}
use Rattle.hq_text.proofs.NumberLaws.{number_only, number_tells}
use Rattle.hq_events.specs.declared.event.Event.{Event}
use Rattle.hq_events.specs.declared.event.Event.TheVariants as event
use Rattle.hq_timeline.specs.declared.fault.TimeReason.{TimeReason}
use Rattle.hq_timeline.specs.declared.fault.TimeReason.TheVariants as reason
use Rattle.hq_timeline.specs.declared.kinds.OneNumber.{OneNumber}
use Rattle.hq_timeline.specs.declared.kinds.OneNumber.TheVariants as one
use Rattle.hq_timeline.specs.declared.kinds.TwoNumbers.{TwoNumbers}
use Rattle.hq_timeline.specs.declared.kinds.TwoNumbers.TheVariants as two
use Rattle.hq_timeline.specs.Names as word
use Rattle.hq_timeline.specs.Grammar.{event_words, EventFits, Says, head_words, end_words}
use Rattle.hq_timeline.specs.LineTests.{small, number_said, one_kind, event_of_one, two_kind, event_of_two, plain_said, one_said, two_said, event_said, is_head, is_last}

-- the word is the number
pub record Number (word : List ℕ) (n : ℕ) : Type 0 where
  pub spelled : word ≡ decimal n
  pub small : IsSmall n

pub number_ok : (word : List ℕ) (n : ℕ) → number_said word ≡ Ok n → Number word n
unfolding number_said
number_ok word n e = by (number_of word) refl e where
  by : (o : Option ℕ) → o ≡ number_of word → small o ≡ Ok n → Number word n
  by None is e = absurd cc
  by (Some k) is e =
      let g = guarded (nat_lt k (2 ^ 32)) k n reason.Number e in
      let found : IsNumber word k = number_tells word (Some k) is in
      subst (λ (m : ℕ). Number word m) g.1 (record { spelled = found.0; small = ltb-true k (2 ^ 32) g.0 })

pub number_is : (n : ℕ) → IsSmall n → number_said (decimal n) ≡ Ok n
unfolding number_said
number_is n h = rw (number_only (decimal n) n (refl, omega arith), lt-ltb n (2 ^ 32) h) refl

-- ---- lines

abbrev pub Says1 : List ℕ → OneNumber → Type 0
Says1 name kind = (a : ℕ) → IsSmall a → Says (name ∷ decimal a ∷ []) (event_of_one kind a)

abbrev pub Says2 : List ℕ → TwoNumbers → Type 0
Says2 name kind = (a b : ℕ) → IsSmall a → IsSmall b → Says (name ∷ decimal a ∷ decimal b ∷ []) (event_of_two kind a b)

-- the name is the word, or the tests behind it tell
chosen : {K : Type 0} (P : List ℕ → K → Type 0) (name other : List ℕ) (x k : K) (r : Result K TimeReason) → P other x → (r ≡ Ok k → P name k) → cond (bytes_eq name other) (Ok x) r ≡ Ok k → P name k
chosen {K = K} P name other x k r here more e = by (bytes_eq name other) refl e where
  by : (b : Bool) → bytes_eq name other ≡ b → cond b (Ok x) r ≡ Ok k → P name k
  by true is e = subst (λ (w : List ℕ). P w k) (sym (word_is name other is)) (subst (λ (m : K). P other m) (ok_is x k e) here)
  by false is e = more e

none_left : {K : Type 0} (X : Type 0) (k : K) (w : TimeReason) → (let r : Result K TimeReason = Err w in r ≡ Ok k) → X
none_left X k w e = absurd cc

pub one_of : (name : List ℕ) (kind : OneNumber) → one_kind name ≡ Ok kind → Says1 name kind
unfolding one_kind
one_of name kind =
    chosen Says1 name word.launch_word one.Launch kind _ (λ a h. record { spelled = refl; fits = h }) (
    chosen Says1 name word.enter_word one.Enter kind _ (λ a h. record { spelled = refl; fits = h }) (
    chosen Says1 name word.fetch_word one.Fetch kind _ (λ a h. record { spelled = refl; fits = h }) (
    chosen Says1 name word.deliver_word one.Deliver kind _ (λ a h. record { spelled = refl; fits = h }) (
    chosen Says1 name word.complete_word one.Complete kind _ (λ a h. record { spelled = refl; fits = h }) (
    chosen Says1 name word.finish_word one.Finish kind _ (λ a h. record { spelled = refl; fits = h }) (
    λ e. none_left (Says1 name kind) kind reason.Word e))))))

pub two_of : (name : List ℕ) (kind : TwoNumbers) → two_kind name ≡ Ok kind → Says2 name kind
unfolding two_kind
two_of name kind =
    chosen Says2 name word.push_lane_word two.PushLane kind _ (λ a b h k. record { spelled = refl; fits = (h, k) }) (
    chosen Says2 name word.push_agent_word two.PushAgent kind _ (λ a b h k. record { spelled = refl; fits = (h, k) }) (
    chosen Says2 name word.fill_lane_word two.FillLane kind _ (λ a b h k. record { spelled = refl; fits = (h, k) }) (
    chosen Says2 name word.fill_agent_word two.FillAgent kind _ (λ a b h k. record { spelled = refl; fits = (h, k) }) (
    chosen Says2 name word.drop_lane_word two.DropLane kind _ (λ a b h k. record { spelled = refl; fits = (h, k) }) (
    chosen Says2 name word.drop_agent_word two.DropAgent kind _ (λ a b h k. record { spelled = refl; fits = (h, k) }) (
    chosen Says2 name word.read_word two.Read kind _ (λ a b h k. record { spelled = refl; fits = (h, k) }) (
    chosen Says2 name word.store_word two.Store kind _ (λ a b h k. record { spelled = refl; fits = (h, k) }) (
    chosen Says2 name word.observe_word two.Observe kind _ (λ a b h k. record { spelled = refl; fits = (h, k) }) (
    λ e. none_left (Says2 name kind) kind reason.Word e)))))))))

abbrev Says0 : List ℕ → Event → Type 0
Says0 name event = Says (name ∷ []) event

plain_ok : (name : List ℕ) (event : Event) → plain_said name ≡ Ok event → Says0 name event
unfolding plain_said
plain_ok name x =
    chosen Says0 name word.submit_word event.Submit x _ (record { spelled = refl; fits = tt }) (
    chosen Says0 name word.rest_word event.Rest x _ (record { spelled = refl; fits = tt }) (
    λ e. none_left (Says0 name x) x reason.Word e))

one_ok : (name first : List ℕ) (event : Event) → one_said name first ≡ Ok event → Says (name ∷ first ∷ []) event
unfolding one_said
one_ok name first event e =
    let s = steps (one_kind name) _ event e in
    let t = steps (number_said first) _ event s.next in
    let n = number_ok first t.value t.first in
    subst (λ (x : Event). Says (name ∷ first ∷ []) x) (ok_is _ event t.next)
    (subst (λ (w : List ℕ). Says (name ∷ w ∷ []) (event_of_one s.value t.value)) (sym n.spelled) (one_of name s.value s.first t.value n.small))

two_ok : (name first second : List ℕ) (event : Event) → two_said name first second ≡ Ok event → Says (name ∷ first ∷ second ∷ []) event
unfolding two_said
two_ok name first second event e =
    let s = steps (two_kind name) _ event e in
    let t = steps (number_said first) _ event s.next in
    let u = steps (number_said second) _ event t.next in
    let n = number_ok first t.value t.first in
    let m = number_ok second u.value u.first in
    subst (λ (x : Event). Says (name ∷ first ∷ second ∷ []) x) (ok_is _ event u.next)
    (subst (λ (w : List ℕ). Says (name ∷ w ∷ second ∷ []) (event_of_two s.value t.value u.value)) (sym n.spelled)
    (subst (λ (w : List ℕ). Says (name ∷ decimal t.value ∷ w ∷ []) (event_of_two s.value t.value u.value)) (sym m.spelled) (two_of name s.value s.first t.value u.value n.small m.small)))

-- what the tests give is said
pub event_ok : (words : List (List ℕ)) (event : Event) → event_said words ≡ Ok event → Says words event
unfolding event_said
event_ok [] event e = absurd cc
event_ok (name ∷ []) event e = plain_ok name event e
event_ok (name ∷ a ∷ []) event e = one_ok name a event e
event_ok (name ∷ a ∷ b ∷ []) event e = two_ok name a b event e
event_ok (name ∷ a ∷ b ∷ c ∷ more) event e = absurd cc

-- and what is said, the tests give
pub event_is : (event : Event) → EventFits event → event_said (event_words event) ≡ Ok event
unfolding event_said plain_said one_said two_said one_kind two_kind
event_is event.Submit h = refl
event_is (event.Launch a) h = rw (number_is a h) refl
event_is (event.Observe a b) h = rw (number_is a h.0, number_is b h.1) refl
event_is (event.Enter a) h = rw (number_is a h) refl
event_is (event.Fetch a) h = rw (number_is a h) refl
event_is (event.Deliver a) h = rw (number_is a h) refl
event_is (event.Complete a) h = rw (number_is a h) refl
event_is event.Rest h = refl
event_is (event.Read a b) h = rw (number_is a h.0, number_is b h.1) refl
event_is (event.Store a b) h = rw (number_is a h.0, number_is b h.1) refl
event_is (event.Finish a) h = rw (number_is a h) refl
event_is (event.PushLane a b) h = rw (number_is a h.0, number_is b h.1) refl
event_is (event.PushAgent a b) h = rw (number_is a h.0, number_is b h.1) refl
event_is (event.FillLane a b) h = rw (number_is a h.0, number_is b h.1) refl
event_is (event.FillAgent a b) h = rw (number_is a h.0, number_is b h.1) refl
event_is (event.DropLane a b) h = rw (number_is a h.0, number_is b h.1) refl
event_is (event.DropAgent a b) h = rw (number_is a h.0, number_is b h.1) refl

pub said : (words : List (List ℕ)) (event : Event) → Says words event → event_said words ≡ Ok event
said words event h = ap event_said h.spelled ∙ event_is event h.fits

-- an event isn't the end
pub not_last : (event : Event) → is_last (event_words event) ≡ false
unfolding is_last
not_last event.Submit = refl
not_last (event.Launch a) = refl
not_last (event.Observe a b) = refl
not_last (event.Enter a) = refl
not_last (event.Fetch a) = refl
not_last (event.Deliver a) = refl
not_last (event.Complete a) = refl
not_last event.Rest = refl
not_last (event.Read a b) = refl
not_last (event.Store a b) = refl
not_last (event.Finish a) = refl
not_last (event.PushLane a b) = refl
not_last (event.PushAgent a b) = refl
not_last (event.FillLane a b) = refl
not_last (event.FillAgent a b) = refl
not_last (event.DropLane a b) = refl
not_last (event.DropAgent a b) = refl

pub head_ok : (words : List (List ℕ)) → is_head words ≡ true → words ≡ head_words
unfolding is_head
head_ok [] e = absurd cc
head_ok (a ∷ []) e = absurd cc
head_ok (a ∷ b ∷ []) e = let t = both (bytes_eq a word.head_word) (bytes_eq b word.version_word) e in same _ _ (word_is a _ t.0) (word_is b _ t.1) where
  same : (c d : List ℕ) → a ≡ c → b ≡ d → a ∷ b ∷ [] ≡ c ∷ d ∷ []
  same c d p q = cc
head_ok (a ∷ b ∷ c ∷ more) e = absurd cc

pub head_is : is_head head_words ≡ true
unfolding is_head
head_is = refl

pub last_ok : (words : List (List ℕ)) → is_last words ≡ true → words ≡ end_words
unfolding is_last
last_ok [] e = absurd cc
last_ok (a ∷ []) e = ap (λ w. w ∷ []) (word_is a word.end_word e)
last_ok (a ∷ b ∷ more) e = absurd cc

pub last_is : is_last end_words ≡ true
unfolding is_last
last_is = refl

-- more than three words
pub more_words : (a b c : List ℕ) (words : List (List ℕ)) (d : List ℕ) (rest : List (List ℕ)) → words ≡ d ∷ rest → event_said (a ∷ b ∷ c ∷ words) ≡ Err reason.Word
unfolding event_said
more_words a b c words d rest is = rw is refl
