-- A line is added.
use Rattle.std.proofs.Common.{◌≡◌, ℕ, ◌+◌, ◌^◌, ◌<◌, inl, inr, List, [], ◌∷◌, ◌++◌, length, refl, sym, ◌∙◌, ap, subst, arith, Some, slice_get, length-append}
use Rattle.std.proofs.lemmas.Bool.{cases_lt}
use Rattle.std.proofs.lemmas.Option.{slice_get_within, same_Some}
use Rattle.hq_job.proofs.Grouped.{get_before, get_after}
use Rattle.hq_cert.specs.declared.certificate.Rule.{Rule}
use Rattle.hq_cert.specs.View.{rule_of}
use Rattle.hq_model.specs.Job.{Job, IsPacket}
use Rattle.hq_model.specs.Certificate as model
use Rattle.hq_model.specs.Certificate.{Says, Follows, LinesHold}
use Rattle.hq_derive.specs.declared.lines.Lines.{Lines}
use Rattle.hq_derive.specs.Gathered.{lines_of, AreSound, Grown, Goes, AddsLine, Numbered}
use Rattle.hq_derive.proofs.Growing.{grown_same, grown_more, grown_by, follows_more}

pub goes_same : (job : Job) (l : Lines) → AreSound job l → Goes job l l
goes_same job l k = record { kept = k; grown = grown_same (lines_of l); ranks = refl }

pub goes_more : (job : Job) (a b c : Lines) → Goes job a b → Goes job b c → Goes job a c
goes_more job a b c g h = record { kept = h.kept; grown = grown_more (lines_of a) (lines_of b) (lines_of c) g.grown h.grown; ranks = h.ranks ∙ g.ranks }

pub last_there : (lines : List model.Line) (x : model.Line) → slice_get (lines ++ x ∷ []) (length lines) ≡ Some x
last_there lines x = let e : length lines ≡ length lines + 0 = omega arith in ap (slice_get (lines ++ x ∷ [])) e ∙ get_after lines (x ∷ []) 0

pub follow_more : (job : Job) (lines : List model.Line) (x : model.Line) → LinesHold job lines → Follows job lines (length lines) x.p x.r x.rule → LinesHold job (lines ++ x ∷ [])
follow_more job lines x all f k line e =
    let low : k < length (lines ++ x ∷ []) = slice_get_within (lines ++ x ∷ []) k line e in
    let long : length (lines ++ x ∷ []) ≡ length lines + 1 = length-append lines (x ∷ []) in
    elim (cases_lt k (length lines)) [
      | inl l ↦ follows_more job lines (lines ++ x ∷ []) k k line.p line.r line.rule (grown_by lines (x ∷ [])) (omega arith) (all k line (sym (get_before lines (x ∷ []) k l) ∙ e))
      | inr h ↦
          let here : length lines ≡ k = omega arith in
          let is : x ≡ line = same_Some x line (sym (last_there lines x) ∙ ap (slice_get (lines ++ x ∷ [])) here ∙ e) in
          subst (λ y. Follows job (lines ++ x ∷ []) k y.p y.r y.rule) is
          (follows_more job lines (lines ++ x ∷ []) (length lines) k x.p x.r x.rule (grown_by lines (x ∷ [])) (omega arith) f)
    ]

-- the line of p before r by this rule
abbrev pub line_by : ℕ → ℕ → Rule → model.Line
line_by p r rule = record { p = p; r = r; rule = rule_of rule }

-- the lines, with this line added as number k
pub record Added (old new : Lines) (p r : ℕ) (rule : Rule) (k : ℕ) : Type 0 where
  pub lines : lines_of new ≡ lines_of old ++ line_by p r rule ∷ []
  pub number : k ≡ length (lines_of old)
  pub ranks : new.ranks ≡ old.ranks

grown_added : (old new : Lines) (p r : ℕ) (rule : Rule) (k : ℕ) → Added old new p r rule k → Grown (lines_of old) (lines_of new)
grown_added old new p r rule k a = subst (Grown (lines_of old)) (sym a.lines) (grown_by (lines_of old) (line_by p r rule ∷ []))

says_added : (old new : Lines) (p r : ℕ) (rule : Rule) (k : ℕ) → Added old new p r rule k → Says (lines_of new) (length (lines_of new)) k p r
says_added old new p r rule k a = record {
  lower = omega (arith, ap length a.lines, length-append (lines_of old) (line_by p r rule ∷ []), a.number);
  line = line_by p r rule;
  there = ap (λ lines. slice_get lines k) a.lines ∙ ap (slice_get (lines_of old ++ line_by p r rule ∷ [])) a.number ∙ last_there (lines_of old) (line_by p r rule);
  first = refl;
  second = refl;
}

pub kept_added : (job : Job) (old new : Lines) (p r : ℕ) (rule : Rule) → AreSound job old → Follows job (lines_of old) (length (lines_of old)) p r (rule_of rule)
    → lines_of new ≡ lines_of old ++ line_by p r rule ∷ [] → AreSound job new
kept_added job old new p r rule kept f added = record {
  few = kept.few;
  follow = subst (LinesHold job) (sym added) (follow_more job (lines_of old) (line_by p r rule) kept.follow f);
}

pub numbered_added : (job : Job) (old new : Lines) (p r : ℕ) (rule : Rule) (k : ℕ) → AreSound job old → IsPacket job p → IsPacket job r
    → Follows job (lines_of old) (length (lines_of old)) p r (rule_of rule) → Added old new p r rule k → k + 1 < 2 ^ 32 → Numbered job old new p r k
numbered_added job old new p r rule k kept a b f added small = record {
  goes = record {
    kept = kept_added job old new p r rule kept f added.lines;
    grown = grown_added old new p r rule k added;
    ranks = added.ranks;
  };
  says = says_added old new p r rule k added;
  small = small;
}

pub numbered_from : (job : Job) (a b c : Lines) (p r k : ℕ) → Goes job a b → Numbered job b c p r k → Numbered job a c p r k
numbered_from job a b c p r k g n = record { goes = goes_more job a b c g n.goes; says = n.says; small = n.small }

-- ---- a line that cites none

pub adds_line : (job : Job) (old new : Lines) (p r : ℕ) (rule : Rule) → AreSound job old → Follows job (lines_of old) (length (lines_of old)) p r (rule_of rule)
    → lines_of new ≡ lines_of old ++ line_by p r rule ∷ [] → length (lines_of old) + 1 < 2 ^ 32 → new.ranks ≡ old.ranks → AddsLine job old new p r
adds_line job old new p r rule kept f e small same =
    let added : Added old new p r rule (length (lines_of old)) = record { lines = e; number = refl; ranks = same } in
    record {
      goes = record { kept = kept_added job old new p r rule kept f e; grown = grown_added old new p r rule (length (lines_of old)) added; ranks = same };
      there = (length (lines_of old), (says_added old new p r rule (length (lines_of old)) added, small));
    }
