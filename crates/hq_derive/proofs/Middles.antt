-- Lines that follow through two others.
use Rattle.std.proofs.Common.{◌≡◌, ℕ, ◌+◌, ◌-◌, ◌<◌, ◌≤◌, Bool, true, false, IsTrue, inl, inr, List, [], ◌++◌, length, refl, sym, ◌∙◌, ap, subst, arith, Some, slice_get, slice_index_or}
use Rattle.std.specs.Option.{option_map}
use Rattle.std.proofs.lemmas.Bool.{cases_lt}
use Rattle.std.proofs.lemmas.List.{length-map}
use Rattle.std.proofs.lemmas.Option.{same_Some, slice_get-get_or, slice_get-map, slice_get_within, get_or_from_slice_get}
use Rattle.hq_job.proofs.Grouped.{get_before, get_after}
use Rattle.hq_model.specs.Job.{Job}
use Rattle.hq_model.specs.Certificate as model
use Rattle.hq_model.specs.Certificate.{Says, Follows, LinesHold}
use Rattle.hq_derive.specs.declared.lines.Lines.{Lines}
use Rattle.hq_derive.specs.declared.short.Short.{Short}
use Rattle.hq_derive.specs.Gathered.{lines_of, AreSound, Goes, Grown}
use Rattle.hq_derive.specs.Short.{form_of, p_of, r_of, first_of, second_of, line_by, line_in, ArePlaced}
use Rattle.hq_derive.specs.Through.{AreThrough, IsThrough, lines_by}
use Rattle.hq_derive.proofs.Growing.{grown_by, grown_same, follows_more}
use Rattle.hq_derive.proofs.Storing.{by_form}

-- what stands for a line that isn't there
abbrev pub blank : Short
blank = record { word = 0 }

-- the line of each number behind others
said : (ahead : List model.Line) (shorts : List Short) (j : ℕ) (s : Short) → slice_get shorts j ≡ Some s → slice_get (ahead ++ lines_by shorts) (length ahead + j) ≡ Some (line_in [] s)
said ahead shorts j s at = get_after ahead (lines_by shorts) j ∙ slice_get-map (line_in []) shorts j ∙ ap (option_map (line_in [])) at

-- of which packets it is
pub short_said : (ahead : List model.Line) (shorts : List Short) (number : ℕ) → length ahead ≤ number → number < length ahead + length shorts → form_of (slice_index_or shorts (number - length ahead) blank) < 4
    → (limit : ℕ) → number < limit → Says (ahead ++ lines_by shorts) limit number (p_of (slice_index_or shorts (number - length ahead) blank)) (r_of (slice_index_or shorts (number - length ahead) blank))
short_said ahead shorts number above below low limit l =
    let j : ℕ = number - length ahead in
    let s : Short = slice_index_or shorts j blank in
    let at : slice_get shorts j ≡ Some s = slice_get-get_or shorts j blank (omega (arith, above, below)) in
    let same : length ahead + j ≡ number = omega (arith, above) in
    let of = by_form [] (form_of s) (p_of s) (r_of s) (first_of s) (second_of s) low in
    record {
      lower = l;
      line = line_in [] s;
      there = subst (λ n. slice_get (ahead ++ lines_by shorts) n ≡ Some (line_in [] s)) same (said ahead shorts j s at);
      first = of.0;
      second = of.1;
    }

-- a line whose two cited ones are found
pub through_by : (ahead : List model.Line) (shorts : List Short) (k : ℕ) (s : Short) (first second p middle from r : ℕ) → slice_get shorts k ≡ Some s → form_of s ≡ 3 → first ≡ first_of s → second ≡ second_of s
    → p_of s ≡ p → r_of s ≡ r → middle ≡ from → Says (ahead ++ lines_by shorts) (length ahead + k) first p middle → Says (ahead ++ lines_by shorts) (length ahead + k) second from r → IsThrough ahead shorts k
through_by ahead shorts k s first second p middle from r at three a b c d e f g =
    let lines = ahead ++ lines_by shorts in
    let limit : ℕ = length ahead + k in
    record {
      short = s;
      there = at;
      form = three;
      middle = middle;
      first = subst (λ n. Says lines limit n (p_of s) middle) a (subst (λ q. Says lines limit first q middle) (sym c) f);
      second = subst (λ n. Says lines limit n middle (r_of s)) b (subst (λ m. Says lines limit second m (r_of s)) (sym e) (subst (λ q. Says lines limit second from q) (sym d) g));
    }

-- none of them is kept as a whole
pub through_placed : (ahead : List model.Line) (shorts : List Short) → AreThrough ahead shorts 0 (length shorts) → ArePlaced [] shorts
through_placed ahead shorts all = λ k d low four.
    let t = all k (omega arith) low in
    let same : slice_index_or shorts k d ≡ t.short = get_or_from_slice_get shorts k t.short d t.there in
    let three : form_of (slice_index_or shorts k d) ≡ 3 = ap form_of same ∙ t.form in
    absurd (omega (arith, three, four))

follows_through : (job : Job) (ahead : List model.Line) (shorts : List Short) (j : ℕ) (line : model.Line) → IsThrough ahead shorts j → slice_get (ahead ++ lines_by shorts) (length ahead + j) ≡ Some line
    → Follows job (ahead ++ lines_by shorts) (length ahead + j) line.p line.r line.rule
follows_through job ahead shorts j line t e =
    let lines = ahead ++ lines_by shorts in
    let s = t.short in
    let form : line_in [] s ≡ line_by [] 3 (p_of s) (r_of s) (first_of s) (second_of s) = ap (λ f. line_by [] f (p_of s) (r_of s) (first_of s) (second_of s)) t.form in
    let is : line_by [] 3 (p_of s) (r_of s) (first_of s) (second_of s) ≡ line = sym form ∙ same_Some (line_in [] s) line (sym (said ahead shorts j s t.there) ∙ e) in
    subst (λ (x : model.Line). Follows job lines (length ahead + j) x.p x.r x.rule) is (t.middle, t.first, t.second)

-- all lines hold where those hold that are ahead
pub through_hold : (job : Job) (ahead : List model.Line) (shorts : List Short) → LinesHold job ahead → AreThrough ahead shorts 0 (length shorts) → LinesHold job (ahead ++ lines_by shorts)
through_hold job ahead shorts hold all k line e =
    let later = lines_by shorts in
    elim (cases_lt k (length ahead)) [
      | inl low ↦ follows_more job ahead (ahead ++ later) k k line.p line.r line.rule (grown_by ahead later) (omega arith) (hold k line (sym (get_before ahead later k low) ∙ e))
      | inr high ↦
          let j : ℕ = k - length ahead in
          let same : length ahead + j ≡ k = omega (arith, high) in
          let here : slice_get (ahead ++ later) (length ahead + j) ≡ Some line = subst (λ n. slice_get (ahead ++ later) n ≡ Some line) (sym same) e in
          let within : j < length later = slice_get_within later j line (sym (get_after ahead later j) ∙ here) in
          let below : j < length shorts = omega (arith, within, length-map shorts (line_in [])) in
          subst (λ n. Follows job (ahead ++ later) n line.p line.r line.rule) same (follows_through job ahead shorts j line (all j (omega arith) below) here)
    ]

-- so the gathering goes on where they are added
pub goes_through : (job : Job) (old new : Lines) (shorts : List Short) → AreSound job old → lines_of new ≡ lines_of old ++ lines_by shorts → new.ranks ≡ old.ranks → AreThrough (lines_of old) shorts 0 (length shorts) → Goes job old new
goes_through job old new shorts kept e ranks all = record {
  kept = record { few = kept.few; follow = subst (LinesHold job) (sym e) (through_hold job (lines_of old) shorts kept.follow all) };
  grown = subst (λ lines. Grown (lines_of old) lines) (sym e) (grown_by (lines_of old) (lines_by shorts));
  ranks = ranks;
}

-- or where they aren't
pub goes_if : (job : Job) (old new : Lines) (shorts : List Short) (taken : Bool) → AreSound job old → (IsTrue taken → lines_of new ≡ lines_of old ++ lines_by shorts) → (taken ≡ false → lines_of new ≡ lines_of old)
    → new.ranks ≡ old.ranks → AreThrough (lines_of old) shorts 0 (length shorts) → Goes job old new
goes_if job old new shorts true kept f g ranks all = goes_through job old new shorts kept (f refl) ranks all
goes_if job old new shorts false kept f g ranks all = record {
  kept = record { few = kept.few; follow = subst (LinesHold job) (sym (g refl)) kept.follow };
  grown = subst (λ lines. Grown (lines_of old) lines) (sym (g refl)) (grown_same (lines_of old));
  ranks = ranks;
}
