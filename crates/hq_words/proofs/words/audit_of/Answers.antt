use Rattle.std.proofs.Common.{◌≡◌, ◌∙◌, Bor, List, ℕ, [], Option, Some, None, false, refl, sym, rules, length, slice_index_or, codes}
use Rattle.std.specs.Prelude.{is_some}
use Rattle.clap.specs.Lexer.{strip_byte}
use Rattle.hq_words.proofs.Plain.{audit_asks}
use Rattle.hq_words.proofs.words.audit_of.Goals as goal

there_is_none : {X : Type 0} (found : Option X) → is_some found ≡ false → found ≡ None
there_is_none None e = refl
there_is_none (Some x) e = absurd cc

pub returns-then-not-may_be_option-clause-asked : goal.returns-then-not-may_be_option-clause-asked
returns-then-not-may_be_option-clause-asked c =
    let words = c.args.words.now in
    let other : Bor (List ℕ) = record { ref_ptr = (0, 0); now = [] } in
    let two : length words ≡ 2 = search rules in
    let named : (slice_index_or words 0 other).now ≡ codes "audit" = search rules in
    audit_asks words other two named (there_is_none (strip_byte 45 (slice_index_or words 1 other).now) (sym c.may_be_option.ensures ∙ c.if-not-may_be_option.true))
