-- Words and their forms: what the order of tests makes of all words.
use Rattle.std.proofs.Common.{◌≡◌, ℕ, ◌^◌, ◌-◌, inl, inr, Bool, true, false, cond, List, [], ◌∷◌, refl, sym, ap, subst, ◌∙◌}
use Rattle.std.specs.Prelude.{Option, Some, None, Result, Ok, Err, codes, replicate}
use Rattle.std.specs.Str.{bytes_eq}
use Rattle.hq_footprint.specs.declared.task.Code.{Code}
use Rattle.hq_text.specs.InTurn.{◌>>=◌}
use Rattle.hq_text.specs.Names.{is_name, IsName}
use Rattle.hq_text.proofs.InTurn.{word_is}
use Rattle.hq_lines.specs.declared.fault.LineFault.{LineFault}
use Rattle.hq_lines.specs.declared.fault.LineFault.TheVariants as fault
use Rattle.hq_lines.specs.Meaning.{Meaning, Agent, Buffer, Args, Signal, Kernel, Queue, To, End}
use Rattle.hq_lines.specs.Says.{Codes}
use Rattle.hq_lines.specs.Order.{name_said, code_said, agent_said, to_said, zeros_of, filled_of, buffer_said, args_of, args_said, signal_of, signal_said, kernel_of, kernel_said, queue_of, queue_said, end_said, plain_said, packet_digits, fault_in, fault_by, words_fault}
use Rattle.hq_lines.specs.LineForms.{Places, nowhere, counted, some, whole, number, places, numbers_only, HasForm, agent, zeros, buffer, args, signal, kernel, queue, to, packets, ends}
use Rattle.hq_lines.proofs.Parts.{code_ok, code_is}
use Rattle.hq_lines.proofs.Told.{code_told}
use Rattle.hq_lines.proofs.Judged.{Judged, number_then, extent_then, all_fine, sized_end, some_end, size_end, whole_end}

-- ---- the places of the words' form, if they have one

abbrev named : List ℕ → Option Places → Option Places
named name o = cond (is_name name) o None

abbrev of_code : Result Code LineFault → Option Places → Option Places
of_code (Ok c) o = o
of_code (Err e) o = None

abbrev agent_form : List (List ℕ) → Option Places
agent_form (name ∷ []) = named name (Some (numbers_only []))
agent_form _ = None

abbrev buffer_form : List (List ℕ) → Option Places
buffer_form (name ∷ addr ∷ len ∷ []) = named name (Some (numbers_only (number 1 (2 ^ 48) addr ∷ number 1 65536 len ∷ [])))
buffer_form (name ∷ addr ∷ len ∷ digits ∷ []) = named name (Some (places (number 1 (2 ^ 48) addr ∷ number 1 65536 len ∷ []) (counted len digits)))
buffer_form _ = None

abbrev args_form : List (List ℕ) → Option Places
args_form (name ∷ addr ∷ digits ∷ []) = named name (Some (places (number 1 (2 ^ 64 - 1) addr ∷ []) (some digits)))
args_form _ = None

abbrev signal_form : List (List ℕ) → Option Places
signal_form (name ∷ h ∷ s ∷ []) = named name (Some (numbers_only (number 1 (2 ^ 64 - 1) h ∷ number 0 (2 ^ 63 - 1) s ∷ [])))
signal_form _ = None

abbrev kernel_form : List (List ℕ) → Option Places
kernel_form (name ∷ o ∷ c ∷ []) = named name (of_code (code_said c) (Some (numbers_only (number 1 (2 ^ 64 - 1) o ∷ []))))
kernel_form _ = None

abbrev queue_form : List (List ℕ) → Option Places
queue_form (name ∷ owner ∷ s ∷ []) = named name (named owner (Some (record { numbers = number 1 1024 s ∷ []; digits = nowhere; size = Some s })))
queue_form _ = None

abbrev end_form : List (List ℕ) → Option Places
end_form [] = Some (numbers_only [])
end_form _ = None

abbrev plain_form : List (List ℕ) → Option Places
plain_form [] = None
plain_form (first ∷ others) = cond (bytes_eq first (codes "agent")) (agent_form others)
    (cond (bytes_eq first (codes "buffer")) (buffer_form others)
    (cond (bytes_eq first (codes "args")) (args_form others)
    (cond (bytes_eq first (codes "signal")) (signal_form others)
    (cond (bytes_eq first (codes "kernel")) (kernel_form others)
    (cond (bytes_eq first (codes "queue")) (queue_form others)
    (cond (bytes_eq first (codes "to")) (agent_form others)
    (cond (bytes_eq first (codes "end")) (end_form others) None)))))))

abbrev form_by : Option (List ℕ) → List (List ℕ) → Option Places
form_by (Some digits) words = Some (places [] (whole digits))
form_by None words = plain_form words

abbrev pub form_of : List (List ℕ) → Option Places
form_of words = form_by (packet_digits words) words

pub form_is : (words : List (List ℕ)) (p : Places) → HasForm words p → form_of words ≡ Some p
unfolding packet_digits
form_is words p (agent name n) = rw n refl
form_is words p (zeros name addr len n) = rw n refl
form_is words p (buffer name addr len digits n) = rw n refl
form_is words p (args name addr digits n) = rw n refl
form_is words p (signal name h s n) = rw n refl
form_is words p (kernel name o c kind n k) = rw (n, code_is c kind k) refl
form_is words p (queue name owner s n o) = rw (n, o) refl
form_is words p (to name n) = rw n refl
form_is words p (packets digits) = refl
form_is words p ends = refl

-- ---- words by their form

-- words without a form are refused for that, and those with one are judged by it
abbrev pub Class : List (List ℕ) → Option Places → Option LineFault → Type 0
Class words None f = f ≡ Some fault.Word
Class words (Some p) f = HasForm words p × Judged p f

name_then : {B : Type 0} (name : List ℕ) (words : List (List ℕ)) (o : Option Places) (k : List ℕ → Result B LineFault) → (IsName name → Class words o (fault_in (k name))) → Class words (named name o) (fault_in (name_said name >>= k))
unfolding name_said
name_then {B} name words o k h = by (is_name name) refl where
  by : (b : Bool) → is_name name ≡ b → Class words (cond b o None) (fault_in (cond {A = Result (List ℕ) LineFault} b (Ok name) (Err fault.Word) >>= k))
  by true is = h is
  by false is = refl

code_then : {B : Type 0} (word : List ℕ) (words : List (List ℕ)) (o : Option Places) (k : Code → Result B LineFault) → ((c : Code) → Codes word c → Class words o (fault_in (k c))) → Class words (of_code (code_said word) o) (fault_in (code_said word >>= k))
code_then word words o k h = elim (code_told word) [
  | inl (c, is) ↦ rw is (h c (code_ok word c is))
  | inr is ↦ rw is refl
]

agent_class : (others : List (List ℕ)) → Class (codes "agent" ∷ others) (agent_form others) (fault_in (agent_said others))
unfolding agent_said
agent_class [] = refl
agent_class (name ∷ []) = name_then name (codes "agent" ∷ name ∷ []) (Some (numbers_only [])) (λ n. Ok (Agent n)) (λ n. (agent name n, all_fine (Agent name)))
agent_class (name ∷ x ∷ more) = refl

to_class : (others : List (List ℕ)) → Class (codes "to" ∷ others) (agent_form others) (fault_in (to_said others))
unfolding to_said
to_class [] = refl
to_class (name ∷ []) = name_then name (codes "to" ∷ name ∷ []) (Some (numbers_only [])) (λ n. Ok (To n)) (λ n. (to name n, all_fine (To name)))
to_class (name ∷ x ∷ more) = refl

zeros_class : (name addr len : List ℕ) → Class (codes "buffer" ∷ name ∷ addr ∷ len ∷ []) (buffer_form (name ∷ addr ∷ len ∷ [])) (fault_in (zeros_of name addr len))
unfolding zeros_of
zeros_class name addr len =
    name_then name _ _ _ (λ n. (zeros name addr len n, extent_then addr len (numbers_only []) _ (λ at count w. all_fine (Buffer name at (replicate count 0)))))

filled_class : (name addr len digits : List ℕ) → Class (codes "buffer" ∷ name ∷ addr ∷ len ∷ digits ∷ []) (buffer_form (name ∷ addr ∷ len ∷ digits ∷ [])) (fault_in (filled_of name addr len digits))
unfolding filled_of
filled_class name addr len digits =
    name_then name _ _ _ (λ n. (buffer name addr len digits n, extent_then addr len (places [] (counted len digits)) _ (λ at count w. sized_end len digits count (Buffer name at) w.number)))

buffer_class : (others : List (List ℕ)) → Class (codes "buffer" ∷ others) (buffer_form others) (fault_in (buffer_said others))
unfolding buffer_said
buffer_class [] = refl
buffer_class (name ∷ []) = refl
buffer_class (name ∷ addr ∷ []) = refl
buffer_class (name ∷ addr ∷ len ∷ []) = zeros_class name addr len
buffer_class (name ∷ addr ∷ len ∷ digits ∷ []) = filled_class name addr len digits
buffer_class (name ∷ addr ∷ len ∷ digits ∷ x ∷ more) = refl

args_class : (others : List (List ℕ)) → Class (codes "args" ∷ others) (args_form others) (fault_in (args_said others))
unfolding args_said args_of
args_class [] = refl
args_class (name ∷ []) = refl
args_class (name ∷ addr ∷ []) = refl
args_class (name ∷ addr ∷ digits ∷ []) =
    name_then name _ _ _ (λ n. (args name addr digits n, number_then 1 (2 ^ 64 - 1) addr (places [] (some digits)) _ (λ at w. some_end digits (Args name at))))
args_class (name ∷ addr ∷ digits ∷ x ∷ more) = refl

signal_class : (others : List (List ℕ)) → Class (codes "signal" ∷ others) (signal_form others) (fault_in (signal_said others))
unfolding signal_said signal_of
signal_class [] = refl
signal_class (name ∷ []) = refl
signal_class (name ∷ h ∷ []) = refl
signal_class (name ∷ h ∷ s ∷ []) =
    name_then name _ _ _ (λ n. (signal name h s n, number_then 1 (2 ^ 64 - 1) h (numbers_only (number 0 (2 ^ 63 - 1) s ∷ [])) _ (λ handle w. number_then 0 (2 ^ 63 - 1) s (numbers_only []) _ (λ start v. all_fine (Signal name handle start)))))
signal_class (name ∷ h ∷ s ∷ x ∷ more) = refl

kernel_class : (others : List (List ℕ)) → Class (codes "kernel" ∷ others) (kernel_form others) (fault_in (kernel_said others))
unfolding kernel_said kernel_of
kernel_class [] = refl
kernel_class (name ∷ []) = refl
kernel_class (name ∷ o ∷ []) = refl
kernel_class (name ∷ o ∷ c ∷ []) =
    name_then name _ _ _ (λ n. code_then c _ _ _ (λ kind k. (kernel name o c kind n k, number_then 1 (2 ^ 64 - 1) o (numbers_only []) _ (λ object w. all_fine (Kernel name object kind)))))
kernel_class (name ∷ o ∷ c ∷ x ∷ more) = refl

queue_class : (others : List (List ℕ)) → Class (codes "queue" ∷ others) (queue_form others) (fault_in (queue_said others))
unfolding queue_said queue_of
queue_class [] = refl
queue_class (name ∷ []) = refl
queue_class (name ∷ owner ∷ []) = refl
queue_class (name ∷ owner ∷ s ∷ []) =
    name_then name _ _ _ (λ n. name_then owner _ _ _ (λ o. (queue name owner s n o, size_end s (Queue name owner))))
queue_class (name ∷ owner ∷ s ∷ x ∷ more) = refl

end_class : (others : List (List ℕ)) → Class (codes "end" ∷ others) (end_form others) (fault_in (end_said others))
unfolding end_said
end_class [] = (ends, all_fine End)
end_class (x ∷ more) = refl

-- by the first word
class_step : (first word : List ℕ) (others : List (List ℕ)) (o p : Option Places) (said rest : Result Meaning LineFault) → Class (word ∷ others) o (fault_in said) → Class (first ∷ others) p (fault_in rest)
    → Class (first ∷ others) (cond (bytes_eq first word) o p) (fault_in (cond (bytes_eq first word) said rest))
class_step first word others o p said rest this more = by (bytes_eq first word) refl where
  by : (b : Bool) → bytes_eq first word ≡ b → Class (first ∷ others) (cond b o p) (fault_in (cond b said rest))
  by true is = subst (λ (w : List ℕ). Class (w ∷ others) o (fault_in said)) (sym (word_is first word is)) this
  by false is = more

plain_class : (words : List (List ℕ)) → Class words (plain_form words) (fault_in (plain_said words))
unfolding plain_said
plain_class [] = refl
plain_class (first ∷ others) =
    class_step first (codes "agent") others _ _ (agent_said others) _ (agent_class others)
    (class_step first (codes "buffer") others _ _ (buffer_said others) _ (buffer_class others)
    (class_step first (codes "args") others _ _ (args_said others) _ (args_class others)
    (class_step first (codes "signal") others _ _ (signal_said others) _ (signal_class others)
    (class_step first (codes "kernel") others _ _ (kernel_said others) _ (kernel_class others)
    (class_step first (codes "queue") others _ _ (queue_said others) _ (queue_class others)
    (class_step first (codes "to") others _ _ (to_said others) _ (to_class others)
    (class_step first (codes "end") others _ _ (end_said others) (Err fault.Word) (end_class others) refl)))))))

pub packet_words : (words : List (List ℕ)) (digits : List ℕ) → packet_digits words ≡ Some digits → words ≡ codes "packet" ∷ digits ∷ []
unfolding packet_digits
packet_words [] digits e = absurd cc
packet_words (first ∷ []) digits e = absurd cc
packet_words (first ∷ word ∷ []) digits e = by (bytes_eq first (codes "packet")) refl e where
  by : (b : Bool) → bytes_eq first (codes "packet") ≡ b → cond b (Some word) None ≡ Some digits → first ∷ word ∷ [] ≡ codes "packet" ∷ digits ∷ []
  by true is e =
      let same : word ≡ digits = cc in
      ap (λ w. w ∷ word ∷ []) (word_is first (codes "packet") is) ∙ ap (λ d. codes "packet" ∷ d ∷ []) same
  by false is e = absurd cc
packet_words (first ∷ word ∷ x ∷ more) digits e = absurd cc

pub class : (words : List (List ℕ)) → Class words (form_of words) (words_fault words)
class words = by (packet_digits words) refl where
  by : (d : Option (List ℕ)) → packet_digits words ≡ d → Class words (form_by d words) (fault_by d words)
  by (Some digits) is = (subst (λ (ws : List (List ℕ)). HasForm ws (places [] (whole digits))) (sym (packet_words words digits is)) (packets digits), whole_end digits)
  by None is = plain_class words
