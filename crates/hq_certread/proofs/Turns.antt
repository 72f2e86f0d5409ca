-- Lines taken in one behind another.
use Rattle.std.proofs.Common.{◌≡◌, ℕ, ◌+◌, ◌⊎◌, inl, inr, List, [], ◌∷◌, ◌++◌, length, refl, sym, ap, subst, ◌∙◌, length-append}
use Rattle.std.specs.Prelude.{Err, replicate}
use Rattle.hq_text.specs.LineByLine.{AdmitsAll, FirstRefused, faulty}
use Rattle.hq_text.specs.Lines.{words_of}
use Rattle.hq_text.proofs.LineByLine.{Taken, admits_both, next_refused, refused_behind}
use Rattle.hq_certread.specs.declared.fault.CertReason.{CertReason}
use Rattle.hq_certread.specs.declared.fault.CertReason.TheVariants as reason
use Rattle.hq_certread.specs.declared.fault.CertFault.{CertFault}
use Rattle.hq_certread.specs.declared.progress.Progress.{Progress}
use Rattle.hq_certread.specs.DraftView.{behind, blank, kept_of, state_of}
use Rattle.hq_model.specs.Certificate as model
use Rattle.hq_certread.specs.SoFar.{HasFault, HasTaken, LinesStand}
use Rattle.hq_certread.proofs.LetGo.{all_behind, kept_lines_stand, many_blank, takes_behind}
use Rattle.hq_certread.specs.TextFaults.{State, start, added, at_line}
use Rattle.hq_certread.specs.Gives.{Fails, no_memory, TakesAll}

-- what the tests give, is why the line is refused, unless memory ran out
refused_by : (why : CertReason) (s : State) (line : List ℕ) → Fails why (added s (words_of line)) → (¬ (why ≡ reason.Memory)) → added s (words_of line) ≡ Err why
refused_by reason.Word s line is n = is
refused_by reason.Number s line is n = is
refused_by reason.Citation s line is n = is
refused_by reason.NoEnd s line is n = is
refused_by reason.Memory s line is n = absurd (n refl)

pub none_more : (all rest more : List (List ℕ)) (line : List ℕ) (before count next : ℕ) (old s new : State) (why : CertReason) (f : CertFault) → Taken added all rest before count old s → rest ≡ line ∷ more → next ≡ count + 1 → Fails why (added s (words_of line))
    → ((why ≡ reason.Memory) × (f ≡ no_memory)) ⊎ ((¬ (why ≡ reason.Memory)) × (f ≡ at_line next why)) → TakesAll (Err f) before all old new
none_more all rest more line before count next old s new why f t cut number fails (inl m) = inl m.1
none_more all rest more line before count next old s new why f t cut number fails (inr n) =
    inr (subst (λ (g : CertFault). FirstRefused added old all before g.line g.reason) (sym n.1) (next_refused added all rest more line before count next old s why t cut number (refused_by why s line fails n.0)))

-- a line's fault is the text's, whatever follows it, behind lines that were taken in
pub fault_behind : (taken lines more : List (List ℕ)) (n : ℕ) (s : State) (f : CertFault) → n ≡ length taken → AdmitsAll added start taken s → (f ≡ no_memory) ⊎ FirstRefused added s lines n f.line f.reason → HasFault (taken ++ (lines ++ more)) f
fault_behind taken lines more n s f number h (inl e) = inl e
fault_behind taken lines more n s f number h (inr r) = inr (faulty (refused_behind added taken lines more start s n f.line f.reason number h r))

-- lines taken in behind those that were taken in
pub lines_behind : (old new : Progress) (lines more : List (List ℕ)) (front : List model.Line) (gone : List model.Pair) → new.count ≡ old.count + length more → new.draft.gone ≡ old.draft.gone → AdmitsAll added (state_of old.draft) more (state_of new.draft) → HasTaken lines front gone old
    → HasTaken (lines ++ more) front gone new
lines_behind old new lines more front gone counted same admitted h =
    let blanks = replicate old.draft.gone blank in
    let still : AdmitsAll added (state_of old.draft) more (behind blanks [] (kept_of new.draft)) = subst (λ (n : ℕ). AdmitsAll added (state_of old.draft) more (behind (replicate n blank) [] (kept_of new.draft))) same admitted in
    record {
      counted = counted ∙ ap (λ n. n + length more) h.counted ∙ sym (length-append lines more);
      numbered = same ∙ h.numbered;
      admitted = admits_both added lines more start (behind front gone (kept_of old.draft)) (behind front gone (kept_of new.draft)) h.admitted (all_behind blanks front gone (many_blank front old.draft.gone h.numbered) more (kept_of old.draft) (kept_of new.draft) still);
    }

-- no more lines where a pair line came
pub lines_still : (old new : Progress) (lines more : List (List ℕ)) (front : List model.Line) (gone : List model.Pair) → new.draft.gone ≡ old.draft.gone → AdmitsAll added (state_of old.draft) more (state_of new.draft) → HasTaken lines front gone old → LinesStand gone old new
lines_still old new lines more front gone same admitted h =
    let blanks = replicate old.draft.gone blank in
    let still : AdmitsAll added (state_of old.draft) more (behind blanks [] (kept_of new.draft)) = subst (λ (n : ℕ). AdmitsAll added (state_of old.draft) more (behind (replicate n blank) [] (kept_of new.draft))) same admitted in
    kept_lines_stand front gone lines more (kept_of old.draft) (kept_of new.draft) h.admitted (all_behind blanks front gone (many_blank front old.draft.gone h.numbered) more (kept_of old.draft) (kept_of new.draft) still)

-- a fault of more lines is the text's
pub fault_of_more : (old : Progress) (lines more others : List (List ℕ)) (front : List model.Line) (gone : List model.Pair) (f : CertFault) → (f ≡ no_memory) ⊎ FirstRefused added (state_of old.draft) more old.count f.line f.reason → HasTaken lines front gone old
    → HasFault (lines ++ (more ++ others)) f
fault_of_more old lines more others front gone f fault h =
    fault_behind lines more others old.count (behind front gone (kept_of old.draft)) f h.counted h.admitted (takes_behind (replicate old.draft.gone blank) front gone (many_blank front old.draft.gone h.numbered) more (kept_of old.draft) old.count f fault)
