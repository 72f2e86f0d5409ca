-- Lines that hold go on holding as lines are added.
use Rattle.std.proofs.Common.{ℕ, ◌≡◌, ◌+◌, ◌*◌, ◌/◌, ◌%◌, ◌<◌, ◌≤◌, subst, List, [], ◌∷◌, ◌++◌, length, ◌∙◌, arith, Option, Some, None, length-append}
use Rattle.std.specs.List.{AllZip}
use Rattle.std.proofs.lemmas.Option.{slice_get_within}
use Rattle.hq_job.proofs.Grouped.{get_before}
use Rattle.hq_model.specs.Job.{Job, packet, Decrements}
use Rattle.hq_model.specs.Certificate.{Line, Rule, Says, Cites, Follows, signals}
use Rattle.hq_model.specs.Certificate.Rule.{Bit, Queue, And, Or, Through}
use Rattle.hq_derive.specs.declared.ranks.Ranks.{Ranks}
use Rattle.hq_derive.specs.Gathered.{Grown, InitialThere, IsInitial}
use Rattle.hq_derive.specs.Needed.{HasLine, IsNumber, WordThere}

pub grown_same : (lines : List Line) → Grown lines lines
grown_same lines = record { len = omega arith; lines = λ k line e. e }

pub grown_more : (a b c : List Line) → Grown a b → Grown b c → Grown a c
grown_more a b c g h = record {
  len = let x = g.len in let y = h.len in omega arith;
  lines = λ k line e. h.lines k line (g.lines k line e);
}

pub grown_by : (lines more : List Line) → Grown lines (lines ++ more)
grown_by lines more = record {
  len = omega (arith, length-append lines more);
  lines = λ k line e. let low : k < length lines = slice_get_within lines k line e in get_before lines more k low ∙ e;
}

pub says_more : (old new : List Line) (a b k p r : ℕ) → Grown old new → a ≤ b → Says old a k p r → Says new b k p r
says_more old new a b k p r g l s = record {
  lower = let x : k < a = s.lower in omega arith;
  line = s.line;
  there = g.lines k s.line s.there;
  first = s.first;
  second = s.second;
}

number_more : (old new : List Line) (p r k : ℕ) → Grown old new → IsNumber old p r k → IsNumber new p r k
number_more old new p r k g h = (says_more old new (length old) (length new) k p r g g.len h.0, h.1)

pub has_more : (old new : List Line) (p r : ℕ) → Grown old new → HasLine old p r → HasLine new p r
has_more old new p r g h = (h.0, number_more old new p r h.0 g h.1)

pub word_more : (old new : List Line) (p word first : ℕ) → Grown old new → WordThere old p word first → WordThere new p word first
word_more old new p word first g there = λ bit low is. has_more old new p (first + bit) g (there bit low is)

pub initial_grown : (old new : List Line) (ranks : Ranks) → Grown old new → InitialThere old ranks → InitialThere new ranks
initial_grown old new ranks g there = λ p k place is. word_more old new p place.initial (k * 64) g (there p k place is)

-- where the line that p is before r is noted as one of round 0, it is there
pub initial_line : (lines : List Line) (ranks : Ranks) (p r : ℕ) → InitialThere lines ranks → IsInitial ranks p r → HasLine lines p r
initial_line lines ranks p r there is =
    let here : r / 64 * 64 + r % 64 ≡ r = omega arith in
    let low : r % 64 < 64 = omega arith in
    subst (HasLine lines p) here (there p (r / 64) is.0 is.1 (r % 64) low is.2)

pub cites_more : (old new : List Line) (a b : ℕ) (c : Option ℕ) (p r : ℕ) → Grown old new → a ≤ b → Cites old a c p r → Cites new b c p r
cites_more old new a b None p r g l s = s
cites_more old new a b (Some k) p r g l s = says_more old new a b k p r g l s

pub zip_more : {A B : Type 0} (R S : A → B → Type 0) (xs : List A) (ys : List B) → ((x : A) (y : B) → R x y → S x y) → AllZip R xs ys → AllZip S xs ys
zip_more R S [] [] f h = h
zip_more R S [] (y ∷ ys) f h = h
zip_more R S (x ∷ xs) [] f h = h
zip_more R S (x ∷ xs) (y ∷ ys) f h = (f x y h.0, zip_more R S xs ys f h.1)

pub follows_more : (job : Job) (old new : List Line) (a b p r : ℕ) (rule : Rule) → Grown old new → a ≤ b → Follows job old a p r rule → Follows job new b p r rule
follows_more job old new a b p r (Bit j) g l f = f
follows_more job old new a b p r Queue g l f = f
follows_more job old new a b p r (And slot) g l f = f
follows_more job old new a b p r (Or branches) g l f = (
  f.0,
  f.1,
  zip_more (λ s branch. (d : ℕ) × Decrements job d s × Cites old a branch p d) (λ s branch. (d : ℕ) × Decrements job d s × Cites new b branch p d) (signals (packet job r).deps) branches
      (λ s branch h. (h.0, h.1, cites_more old new a b branch p h.0 g l h.2)) f.2,
)
follows_more job old new a b p r (Through first second) g l f = (f.0, says_more old new a b first p f.0 g l f.1, says_more old new a b second f.0 r g l f.2)
