-- What `clap` makes of `audit` with a job that isn't an option.
use Rattle.std.proofs.Common.{◌≡◌, ◌∙◌, [], ◌∷◌, ℕ, Bool, true, false, Bor, List, codes, map, refl, sym, ap, subst, Option, Some, None, length, slice_index_or, ◌==◌}
use Rattle.std.specs.Prelude.{◌&&◌, if◌then◌else◌, option_and_then}
use Rattle.std.specs.Str.{bytes_eq}
use Rattle.clap.specs.Lexer.{long_of, long_of_rest, short_of, short_of_rest, strip_byte}
use Rattle.clap.specs.Simple.{filled_from, help_rule}
use Rattle.clap.specs.Walk.{Held, Rule, Step, Walk, after_step, arg_by_index, finished, idle, long_or_other, nothing_held, short_or_plain, to_positional, trailing, value, walk_from, walked, word_met}
use Rattle.clap.specs.Words.{Row, Text, subcommand_of}
use Rattle.clap.proofs.OnLiterals.{clap_on_literals}
use Rattle.hq_words.specs.Asking.{Asks}
use Rattle.hq_words.specs.Commands.{hsaq_app, job_rule}
use Rattle.hq_words.specs.declared.words.Asked.TheVariants.{Audit}
use Rattle.hq_words.proofs.Alone.{reads}

no_hyphen : (x : ℕ) (xs : Text) (b : Bool) → (x == 45) ≡ b → strip_byte 45 (x ∷ xs) ≡ None → (x == 45) ≡ false
no_hyphen x xs false e none = e
no_hyphen x xs true e none = absurd (let some : strip_byte 45 (x ∷ xs) ≡ Some xs = rw e refl in let never : Some xs ≡ None = sym some ∙ none in cc)

no_dashes : (word : Text) → strip_byte 45 word ≡ None → bytes_eq word (45 ∷ 45 ∷ []) ≡ false
no_dashes [] none = refl
no_dashes (x ∷ xs) none = ap (λ b. b && bytes_eq xs (45 ∷ [])) (no_hyphen x xs (x == 45) refl none)

-- such a word goes to an argument by its place
met : (c : List Rule) (position : ℕ) (word : Text) (h : Held) → strip_byte 45 word ≡ None → ◌≡◌ {A = Held × Step} (word_met c [] false idle position word h) (h, value)
met c position word h none =
    let no_long : long_of word ≡ None = ap (λ o. option_and_then long_of_rest (option_and_then (strip_byte 45) o)) none in
    let no_short : short_of word ≡ None = ap (λ o. option_and_then short_of_rest o) none in
    ap {B = Held × Step} (λ b. if b then (h, trailing position) else long_or_other c idle word (long_of word) h) (no_dashes word none)
    ∙ ap {B = Held × Step} (λ o. long_or_other c idle word o h) no_long
    ∙ ap {B = Held × Step} (λ o. short_or_plain c idle word o h) no_short

walked_so : (c : List Rule) (word : Text) → strip_byte 45 word ≡ None → ◌≡◌ {A = Walk} (walked c [] (walk_from nothing_held) word) (to_positional c (arg_by_index c 1) word (walk_from nothing_held) nothing_held)
unfolding walked
walked_so c word none = ap (λ (m : Held × Step). after_step c word (walk_from nothing_held) m.0 m.1) (met c 1 word nothing_held none)

-- the arguments of `audit`
abbrev rules : List Rule
rules = filled_from 1 (job_rule ∷ help_rule ∷ [])

abbrev rows : Text → List Row
rows job = finished rules (to_positional rules (arg_by_index rules 1) job (walk_from nothing_held) nothing_held).held

found : (job : Text) → strip_byte 45 job ≡ None → subcommand_of hsaq_app (codes "audit" ∷ job ∷ []) ≡ Some (codes "audit", rows job)
unfolding clap_on_literals
found job none = reads hsaq_app (codes "audit") (job ∷ []) refl refl ∙ ap (λ (w : Walk). Some (codes "audit", finished rules w.held)) (walked_so rules job none)

-- two words, `audit` and such a word
pub audit_asks : (words : List (Bor Text)) (other : Bor Text) → length words ≡ 2 → (slice_index_or words 0 other).now ≡ codes "audit" → strip_byte 45 (slice_index_or words 1 other).now ≡ None → Asks (subcommand_of hsaq_app (map (λ w. w.now) words)) (Audit (slice_index_or words 1 other))
unfolding clap_on_literals
audit_asks [] other two named none = absurd cc
audit_asks (a ∷ []) other two named none = absurd cc
audit_asks (a ∷ b ∷ c ∷ rest) other two named none = absurd cc
audit_asks (a ∷ b ∷ []) other two named none =
    subst (λ (name : Text). Asks (subcommand_of hsaq_app (name ∷ b.now ∷ [])) (Audit b)) (sym named)
    (subst (λ (asks : Option (Text × List Row)). Asks asks (Audit b)) (sym (found b.now none)) (refl, refl))
