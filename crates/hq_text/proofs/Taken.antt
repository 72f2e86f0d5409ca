-- Pieces that were taken from a reader, joined.
use Rattle.std.proofs.Common.{◌≡◌, ℕ, ◌+◌, ◌<◌, ◌≤◌, List, [], ◌++◌, take, Option, Some, None, refl, sym, ap, subst, ◌∙◌, append_assoc, arith}
use Rattle.std.specs.Prelude.{Result, Ok, Err, IfOk, IfErr, IfSome, true, false, if◌then◌else◌}
use Rattle.std.specs.Result.{is_ok}
use Rattle.std.specs.Io.KnownBytes.{Consumes, IsAtEnd}
use Rattle.std.proofs.lemmas.List.{append-nil}
use Rattle.hq_text.specs.Turns.{Turn, Gives, start, more, Ends, Fails, Passes, ReadTurn}
use Rattle.hq_text.specs.Intake.{OfText, FaultOf, GivesUnlessRead}
use Rattle.hq_text.specs.declared.intake.ReadFault.{ReadFault}
use Rattle.hq_text.specs.declared.intake.ReadFault.TheVariants.{Reader, Text}

pub starts : (S : Type 0) (T : Turn S) (s : S) (text : List ℕ) → text ≡ [] → Gives S T s 0 text s
starts S T s text e = subst (λ (t : List ℕ). Gives S T s 0 t s) (sym e) (start s)

-- one turn more, which wasn't the end
pub gives_more : (S : Type 0) (T : Turn S) (s mid new : S) (n count : ℕ) (text buffer all : List ℕ) → Gives S T s n text mid → 0 < count → T mid (Some count) buffer new → all ≡ text ++ take count buffer → Gives S T s (n + 1) all new
gives_more S T s mid new n count text buffer all given some turn e = subst (λ (t : List ℕ). Gives S T s (n + 1) t new) (sym e) (more s mid new n count text buffer given some turn)

pub ends : (S : Type 0) (T : Turn S) (turns : ℕ) (s mid new : S) (n count : ℕ) (text buffer : List ℕ) → Gives S T s n text mid → n < turns → T mid (Some count) buffer new → count ≡ 0 → Ends S T turns s text new
ends S T turns s mid new n count text buffer given within turn e =
    record { count = n; last = mid; buffer = buffer; given = given; within = within; ended = subst (λ (k : ℕ). T mid (Some k) buffer new) e turn }

pub passes : (S : Type 0) (T : Turn S) (turns : ℕ) (s new : S) (n : ℕ) (text : List ℕ) → Gives S T s n text new → turns ≤ n → n ≤ turns → Passes S T turns s new
passes S T turns s new n text given low high =
    let same : n ≡ turns = omega arith in
    record { text = text; given = subst (λ (k : ℕ). Gives S T s k text new) same given }

-- ---- turns behind turns

pub gives_both : (S : Type 0) (T : Turn S) (s mid new : S) (n m : ℕ) (text behind : List ℕ) → Gives S T s n text mid → Gives S T mid m behind new → Gives S T s (n + m) (text ++ behind) new
gives_both S T s mid new n m text behind first (start r) = subst (λ (k : ℕ). Gives S T s k (text ++ []) mid) (omega arith) (subst (λ (t : List ℕ). Gives S T s n t mid) (sym (append-nil text)) first)
gives_both S T s mid new n m text behind first (more r last end k count before buffer given some turn) =
    subst (λ (j : ℕ). Gives S T s j (text ++ (before ++ take count buffer)) end) (omega arith)
    (gives_more S T s last end (n + k) count (text ++ before) buffer (text ++ (before ++ take count buffer)) (gives_both S T s mid last n k text before first given) some turn (sym (append_assoc text before (take count buffer))))

pub ends_later : (S : Type 0) (T : Turn S) (turns more_turns : ℕ) (s mid new : S) (n : ℕ) (text behind : List ℕ) → Gives S T s n text mid → Ends S T more_turns mid behind new → n + more_turns ≤ turns → Ends S T turns s (text ++ behind) new
ends_later S T turns more_turns s mid new n text behind first e low =
    record { count = n + e.count; last = e.last; buffer = e.buffer; given = gives_both S T s mid e.last n e.count text behind first e.given; within = omega (arith, low, e.within); ended = e.ended }

pub fails_later : (S : Type 0) (T : Turn S) (turns more_turns : ℕ) (s mid new : S) (n : ℕ) (text : List ℕ) → Gives S T s n text mid → Fails S T more_turns mid new → n + more_turns ≤ turns → Fails S T turns s new
fails_later S T turns more_turns s mid new n text first f low =
    record { count = n + f.count; text = text ++ f.text; last = f.last; buffer = f.buffer; given = gives_both S T s mid f.last n f.count text f.text first f.given; within = omega (arith, low, f.within); failed = f.failed }

-- ---- what is kept

-- what came is put behind what was kept, or lost
pub kept_more : {E : Type 0} (was got : Result (Unit {0}) E) (first given part old new : List ℕ) → is_ok was ≡ true → IfOk was (λ _. old ≡ first ++ given) → new ≡ (if is_ok got then old ++ part else old) → IfOk got (λ _. new ≡ first ++ (given ++ part))
kept_more (Ok u) (Ok v) first given part old new so h e = e ∙ ap (λ t. t ++ part) h ∙ append_assoc first given part
kept_more (Ok u) (Err f) first given part old new so h e = tt
kept_more (Err f) got first given part old new so h e = absurd cc

pub none_kept : {E : Type 0} (was : Result (Unit {0}) E) (P : Type 0) → is_ok was ≡ false → IfOk was (λ _. P)
none_kept (Ok u) P so = absurd cc
none_kept (Err f) P so = tt

consumes_nothing : (old : Option (List ℕ)) → Consumes old old []
consumes_nothing None = tt
consumes_nothing (Some xs) = refl

consumes_more : (old mid new : Option (List ℕ)) (a b text : List ℕ) → Consumes old mid a → Consumes mid new b → text ≡ a ++ b → Consumes old new text
consumes_more None mid new a b text p q e = tt
consumes_more (Some xs) None new a b text p q e = absurd p
consumes_more (Some xs) (Some ys) None a b text p q e = absurd q
consumes_more (Some xs) (Some ys) (Some zs) a b text p q e = p ∙ ap (λ r. a ++ r) q ∙ sym (append_assoc a b zs) ∙ ap (λ r. r ++ zs) (sym e)

given_consumes : {S : Type 0} (left : S → Option (List ℕ)) (s new : S) (n : ℕ) (text : List ℕ) → Gives S (ReadTurn left) s n text new → Consumes (left s) (left new) text
given_consumes left s new n text (start r) = consumes_nothing (left r)
given_consumes left s new n text (more r mid last k count before buffer given some turn) =
    consumes_more (left r) (left mid) (left last) before (take count buffer) (before ++ take count buffer) (given_consumes left r mid k before given) turn.0 refl

ends_consumes : {S : Type 0} (left : S → Option (List ℕ)) (turns : ℕ) (s new : S) (text : List ℕ) → Ends S (ReadTurn left) turns s text new → Consumes (left s) (left new) text
ends_consumes left turns s new text e =
    consumes_more (left s) (left e.last) (left new) text [] text (given_consumes left s e.last e.count text e.given) e.ended.0 (sym (append-nil text))

ends_at_end : {S : Type 0} (left : S → Option (List ℕ)) (turns : ℕ) (s new : S) (text : List ℕ) → Ends S (ReadTurn left) turns s text new → IsAtEnd (left new)
ends_at_end left turns s new text e = e.ended.1 refl

if_ok : {A E : Type 0} (r : Result A E) (P Q : A → Type 0) → ((a : A) → P a → Q a) → IfOk r P → IfOk r Q
if_ok (Ok a) P Q f h = f a h
if_ok (Err e) P Q f h = tt

pub taken_consumes : {A E S : Type 0} (r : Result A E) (v : A → List ℕ) (left : S → Option (List ℕ)) (turns : ℕ) (s new : S) → IfOk r (λ a. Ends S (ReadTurn left) turns s (v a) new) → IfOk r (λ a. Consumes (left s) (left new) (v a))
taken_consumes r v left turns s new = if_ok r _ _ (λ a. ends_consumes left turns s new (v a))

pub taken_at_end : {A E S : Type 0} (r : Result A E) (v : A → List ℕ) (left : S → Option (List ℕ)) (turns : ℕ) (s new : S) → IfOk r (λ a. Ends S (ReadTurn left) turns s (v a) new) → IfOk r (λ a. IsAtEnd (left new))
taken_at_end r v left turns s new = if_ok r _ _ (λ a. ends_at_end left turns s new (v a))

-- what holds of the text that was taken holds of the known bytes
pub known_text : (P : List ℕ → Type 0) (old new : Option (List ℕ)) (text : List ℕ) → Consumes old new text → IsAtEnd new → P text → IfSome old P
known_text P None new text p q h = tt
known_text P (Some xs) None text p q h = absurd p
known_text P (Some xs) (Some ys) text p q h = subst P (sym (p ∙ ap (λ r. text ++ r) q ∙ append-nil text)) h

-- what holds of all bytes holds of the known ones
pub any_known : (P : List ℕ → Type 0) (old : Option (List ℕ)) → ((xs : List ℕ) → P xs) → IfSome old P
any_known P None h = tt
any_known P (Some xs) h = h xs

-- ---- what is read while it comes

-- so many turns gave a text, and of this the fact holds
pub record Follows (S : Type 0) (T : Turn S) (old : S) (n : ℕ) (new : S) (P : List ℕ → Type 0) : Type 0 where
  pub text : List ℕ
  pub given : Gives S T old n text new
  pub so : P text

-- what is so of the text that was given is so of the bytes that the reader had left, where they are known
pub known : {S : Type 0} (left : S → Option (List ℕ)) (turns : ℕ) (old new : S) (P : List ℕ → Type 0) → OfText S (ReadTurn left) turns old new P → IfSome (left old) P
known left turns old new P h = known_text P (left old) (left new) h.text (ends_consumes left turns old new h.text h.ended) (ends_at_end left turns old new h.text h.ended) h.so

-- what holds of the text of the turns holds of the bytes that the reader had left, where they are known
pub known_found : {A E S : Type 0} (r : Result A E) (P : List ℕ → A → Type 0) (left : S → Option (List ℕ)) (turns : ℕ) (old new : S) → IfOk r (λ a. OfText S (ReadTurn left) turns old new (λ text. P text a)) → IfSome (left old) (λ text. IfOk r (P text))
known_found (Ok a) P left turns old new h = known left turns old new (λ text. P text a) h
known_found (Err e) P left turns old new h = any_known (λ text. Unit {0}) (left old) (λ text. tt)

pub known_fault : {A F S : Type 0} (r : Result A (ReadFault F)) (Q : List ℕ → F → Type 0) (left : S → Option (List ℕ)) (turns : ℕ) (old new : S) (failed : Type 0) → IfErr r (λ e. FaultOf e (λ f. OfText S (ReadTurn left) turns old new (λ text. Q text f)) failed)
    → IfSome (left old) (λ text. IfErr r (λ e. FaultOf e (Q text) (Unit {0})))
known_fault (Ok a) Q left turns old new failed h = any_known (λ text. Unit {0}) (left old) (λ text. tt)
known_fault (Err (Text f)) Q left turns old new failed h = known left turns old new (λ text. Q text f) h
known_fault (Err Reader) Q left turns old new failed h = any_known (λ text. Unit {0}) (left old) (λ text. tt)

-- where a text is of one value, and has no fault then
pub known_only : {A F : Type 0} (r : Result A (ReadFault F)) (P : List ℕ → A → Type 0) (Q : List ℕ → F → Type 0) (no_memory : F) → ((text : List ℕ) (a b : A) → P text a → P text b → a ≡ b) → ((text : List ℕ) (a : A) (f : F) → P text a → Q text f → f ≡ no_memory)
    → (bytes : Option (List ℕ)) → IfSome bytes (λ text. IfOk r (P text)) → IfSome bytes (λ text. IfErr r (λ e. FaultOf e (Q text) (Unit {0}))) → IfSome bytes (λ text. (a : A) → P text a → GivesUnlessRead no_memory r a)
known_only r P Q no_memory one none None found wrong = tt
known_only (Ok b) P Q no_memory one none (Some text) found wrong = λ a h. one text b a found h
known_only (Err Reader) P Q no_memory one none (Some text) found wrong = λ a h. tt
known_only (Err (Text f)) P Q no_memory one none (Some text) found wrong = λ a h. none text a f h wrong
