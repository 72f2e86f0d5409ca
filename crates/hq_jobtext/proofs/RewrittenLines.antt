-- The lines of a job's text as they are rewritten, one behind another.
use Rattle.std.proofs.Common.{◌≡◌, ℕ, ◌+◌, ◌-◌, ◌<◌, Bool, true, false, List, [], ◌∷◌, ◌++◌, length, take, drop, slice_index, slice_index_or, Option, Some, None, slice_get, All, refl, sym, ap, subst, ◌∙◌, arith, append_assoc, append-nil}
use Rattle.std.specs.Prelude.{position, ◌↔◌}
use Rattle.std.specs.List.{list_any, slice_split, position_or_len}
use Rattle.std.proofs.lemmas.Bool.{or_parts}
use Rattle.std.proofs.lemmas.List.{drop-drop, get_or-take, length-take-le}
use Rattle.std.proofs.lemmas.Option.{slice_get-get_or}
use Rattle.std.proofs.lemmas.List.Elements.{All-cons, All-tail, All-nil}
use Rattle.std.proofs.lemmas.List.Splits.{slice_split_first, slice_split_none, slice_split_at}
use Rattle.std.proofs.lemmas.List.Sums.{fails_before_first}
use Rattle.hq_packet.specs.declared.packet.Head.{Head}
use Rattle.hq_packet.specs.declared.packet.Packet as packet
use Rattle.hq_text.specs.Lines.{is_line_feed}
use Rattle.hq_text.proofs.Cuts.{first_place, no_place}
use Rattle.hq_lines.specs.Bytes.{is_outside}
use Rattle.hq_lines.specs.Heads.{IsPacketLine, BeginsPacket, WithHead}
use Rattle.hq_lines.specs.Meaning as says
use Rattle.hq_lines.specs.Meaning.{Meaning}
use Rattle.hq_lines.proofs.PacketLines.{packets_begin, says_packet, says_with_head}
use Rattle.hq_jobtext.specs.Rewritten.{LineRewritten, stays, packet as rewritten, Rewritten}
use Rattle.hq_jobtext.specs.RewriteSteps.{LineNumbered, no_packet, a_packet, Numbered, LineReady, Appended}

-- ---- bytes without a line feed

abbrev pub NoFeed : List ℕ → Type 0
NoFeed line = All (λ b. is_line_feed b ≡ false) line

feed_outside : (b : ℕ) → is_outside b ≡ false → is_line_feed b ≡ false
feed_outside b h = grind (arith)

pub inside_no_feed : (line : List ℕ) → list_any is_outside line ≡ false → NoFeed line
inside_no_feed [] h = All-nil (λ b. is_line_feed b ≡ false)
inside_no_feed (b ∷ line) h =
    let p = or_parts (is_outside b) (list_any is_outside line) h in
    All-cons (λ b. is_line_feed b ≡ false) b line (feed_outside b p.0) (inside_no_feed line p.1)

pub begins : (line : List ℕ) → IsPacketLine line → BeginsPacket line
begins line h = (packets_begin line (says.Packet h.0) h.1).0 h

-- the new line has none where the old one has none
pub new_no_feed : (heads : List Head) (numbers : List ℕ) (old new behind : List ℕ) → NoFeed old → LineRewritten heads numbers old new behind → NoFeed new
new_no_feed heads numbers old new behind h (stays other same left) = subst NoFeed (sym same) h
new_no_feed heads numbers old new behind h (rewritten number head is found w) = inside_no_feed new (says_with_head old head new w).in_range

-- ---- one line more

pub record Step (heads : List Head) (numbers : List ℕ) (olds news : List (List ℕ)) (left : List ℕ) : Type 0 where
  pub used : List ℕ
  pub numbers_are : numbers ≡ used ++ left
  pub lines : Rewritten heads used olds news

-- the lines so far and one more
line_more : (heads : List Head) (used : List ℕ) (olds news : List (List ℕ)) (left : List ℕ) (old new behind : List ℕ) → Rewritten heads used olds news → LineRewritten heads left old new behind → Step heads (used ++ left) (olds ++ old ∷ []) (news ++ new ∷ []) behind
line_more heads used [] news left old new behind h l =
    let none : used ≡ [] = h.0 in
    let no_news : news ≡ [] = h.1 in
    subst (λ (u : List ℕ). Step heads (u ++ left) (old ∷ []) (news ++ new ∷ []) behind) (sym none) (subst (λ (n : List (List ℕ)). Step heads left (old ∷ []) (n ++ new ∷ []) behind) (sym no_news) (first l))
  where
    first : LineRewritten heads left old new behind → Step heads left (old ∷ []) (new ∷ []) behind
    first (stays other same is) = record { used = []; numbers_are = sym is; lines = (new, [], [], refl, stays other same refl, (refl, refl)) }
    first (rewritten number head is found w) = record { used = number ∷ []; numbers_are = is; lines = (new, [], [], refl, rewritten number head refl found w, (refl, refl)) }
line_more heads used (first ∷ olds) news left old new behind h l = by h.4 (line_more heads h.2 olds h.1 left old new behind h.5 l) where
  by : LineRewritten heads used first h.0 h.2 → Step heads (h.2 ++ left) (olds ++ old ∷ []) (h.1 ++ new ∷ []) behind → Step heads (used ++ left) (first ∷ (olds ++ old ∷ [])) (news ++ new ∷ []) behind
  by (stays other same is) s =
      record {
        used = s.used;
        numbers_are = ap (λ u. u ++ left) (sym is) ∙ s.numbers_are;
        lines = (h.0, h.1 ++ new ∷ [], s.used, ap (λ n. n ++ new ∷ []) h.3, stays other same refl, s.lines);
      }
  by (rewritten number head is found w) s =
      record {
        used = number ∷ s.used;
        numbers_are = ap (λ u. u ++ left) is ∙ ap (λ u. number ∷ u) s.numbers_are;
        lines = (h.0, h.1 ++ new ∷ [], s.used, ap (λ n. n ++ new ∷ []) h.3, rewritten number head refl found w, s.lines);
      }

-- ---- what the loop keeps

-- the text up to the rest is rewritten, and the rest has the numbers that are left
pub record Partly (heads : List Head) (numbers text rest left new : List ℕ) : Type 0 where
  pub front : List (List ℕ)
  pub news : List (List ℕ)
  pub used : List ℕ
  pub cut : slice_split is_line_feed text ≡ front ++ slice_split is_line_feed rest
  pub numbers_are : numbers ≡ used ++ left
  pub lines : Rewritten heads used front news
  pub new_is : (more : List ℕ) → slice_split is_line_feed (new ++ more) ≡ news ++ slice_split is_line_feed more
  pub numbered : Numbered left (slice_split is_line_feed rest)
  pub have_heads : All (λ n. n < length heads) left

pub nothing_yet : (heads : List Head) (numbers text : List ℕ) → Numbered numbers (slice_split is_line_feed text) → All (λ n. n < length heads) numbers → Partly heads numbers text text numbers []
nothing_yet heads numbers text h below = record { front = []; news = []; used = []; cut = refl; numbers_are = refl; lines = (refl, refl); new_is = λ more. refl; numbered = h; have_heads = below }

-- the first line of the rest, and what is left behind it
first_cut : (rest : List ℕ) (at : ℕ) → position is_line_feed rest ≡ Some at → (slice_split is_line_feed rest ≡ take at rest ∷ slice_split is_line_feed (drop 1 (drop at rest))) × NoFeed (take at rest)
first_cut rest at e =
    let place = first_place is_line_feed rest at e in
    let lt : position_or_len is_line_feed rest < length rest = omega (arith, place.0, place.1) in
    let split : slice_split is_line_feed rest ≡ take at rest ∷ slice_split is_line_feed (drop (at + 1) rest)
    = subst (λ (k : ℕ). slice_split is_line_feed rest ≡ take k rest ∷ slice_split is_line_feed (drop (k + 1) rest)) place.0 (slice_split_first is_line_feed rest 0 lt) in
    let count : length (take at rest) ≡ at = length-take-le at rest (omega (arith, place.1)) in (
      split ∙ ap (λ t. take at rest ∷ slice_split is_line_feed t) (sym (drop-drop 1 at rest)),
      λ k d l. subst (λ b. is_line_feed b ≡ false) (sym (get_or-take at rest k d (omega (arith, count)))) (fails_before_first is_line_feed rest k d (omega (arith, count, place.0))),
    )

no_cut : (rest : List ℕ) → position is_line_feed rest ≡ None → (slice_split is_line_feed rest ≡ rest ∷ []) × NoFeed rest
no_cut rest e =
    let le = no_place is_line_feed rest e in
    let none : NoFeed rest = λ k d l. fails_before_first is_line_feed rest k d (omega arith) in
    (slice_split_none is_line_feed rest none, none)

-- the line is known by how it begins
line_ready : (heads : List Head) (left : List ℕ) (line : List ℕ) (more : List (List ℕ)) → Numbered left (line ∷ more) → All (λ n. n < length heads) left → LineReady heads left line
line_ready heads left line more h below = by h.1 where
  by : LineNumbered left line h.0 → LineReady heads left line
  by (no_packet other is) = record { says_packet = λ b. absurd (other b); has_number = λ b. absurd (other b); have_heads = below }
  by (a_packet p number is) = record { says_packet = λ b. p; has_number = λ b. subst (λ (ns : List ℕ). 0 < length ns) (sym is) (omega arith); have_heads = below }

pub ready : (heads : List Head) (numbers text rest left new : List ℕ) (at : ℕ) (line : List ℕ) → Partly heads numbers text rest left new → position is_line_feed rest ≡ Some at → line ≡ take at rest → LineReady heads left line
ready heads numbers text rest left new at line p e is =
    let cut = first_cut rest at e in
    subst (λ (l : List ℕ). LineReady heads left l) (sym is) (line_ready heads left (take at rest) (slice_split is_line_feed (drop 1 (drop at rest))) (subst (λ (ls : List (List ℕ)). Numbered left ls) cut.0 p.numbered) p.have_heads)

pub last_ready : (heads : List Head) (numbers text rest left new : List ℕ) → Partly heads numbers text rest left new → position is_line_feed rest ≡ None → LineReady heads left rest
last_ready heads numbers text rest left new p e = line_ready heads left rest [] (subst (λ (ls : List (List ℕ)). Numbered left ls) (no_cut rest e).0 p.numbered) p.have_heads

-- the numbers behind a line are told in one way
same_behind : (heads : List Head) (numbers : List ℕ) (line new a b : List ℕ) → LineNumbered numbers line a → LineRewritten heads numbers line new b → b ≡ a
same_behind heads numbers line new a b (no_packet other is) (stays none same left) = left ∙ sym is
same_behind heads numbers line new a b (no_packet other is) (rewritten number head left found w) = absurd (other (begins line (w.sent, w.says_it)))
same_behind heads numbers line new a b (a_packet p number is) (stays none same left) = absurd (none p)
same_behind heads numbers line new a b (a_packet p number is) (rewritten other head left found w) = tails other number b a (sym left ∙ is) where
  tails : (x y : ℕ) (xs ys : List ℕ) → x ∷ xs ≡ y ∷ ys → xs ≡ ys
  tails x y xs ys e = cc

heads_behind : (heads : List Head) (numbers : List ℕ) (line new behind : List ℕ) → LineRewritten heads numbers line new behind → All (λ n. n < length heads) numbers → All (λ n. n < length heads) behind
heads_behind heads numbers line new behind (stays none same left) h = subst (λ (ns : List ℕ). All (λ n. n < length heads) ns) (sym left) h
heads_behind heads numbers line new behind (rewritten number head left found w) h = All-tail (λ n. n < length heads) number behind (subst (λ (ns : List ℕ). All (λ n. n < length heads) ns) left h)

-- the new lines and one more
new_more : (new bytes mid next more : List ℕ) (news : List (List ℕ)) → ((others : List ℕ) → slice_split is_line_feed (new ++ others) ≡ news ++ slice_split is_line_feed others) → mid ≡ new ++ bytes → next ≡ mid ++ 10 ∷ [] → NoFeed bytes
    → slice_split is_line_feed (next ++ more) ≡ (news ++ bytes ∷ []) ++ slice_split is_line_feed more
new_more new bytes mid next more news is e f none =
    ap (λ t. slice_split is_line_feed (t ++ more)) (f ∙ ap (λ t. t ++ 10 ∷ []) e)
    ∙ ap (λ t. slice_split is_line_feed t) (append_assoc (new ++ bytes) (10 ∷ []) more ∙ append_assoc new bytes (10 ∷ more))
    ∙ is (bytes ++ 10 ∷ more)
    ∙ ap (λ ls. news ++ ls) (slice_split_at is_line_feed bytes 10 more none refl)
    ∙ sym (append_assoc news (bytes ∷ []) (slice_split is_line_feed more))

pub one_more : (heads : List Head) (numbers text rest left new : List ℕ) (at : ℕ) (line ending behind next_left mid next : List ℕ) → Partly heads numbers text rest left new → position is_line_feed rest ≡ Some at
    → line ≡ take at rest → ending ≡ drop at rest → behind ≡ drop 1 ending → Appended (λ bytes. LineRewritten heads left line bytes next_left) new mid → next ≡ mid ++ 10 ∷ []
    → Partly heads numbers text behind next_left next
one_more heads numbers text rest left new at line ending behind next_left mid next p e line_is ending_is behind_is a next_is =
    let cut = first_cut rest at e in
    let split : slice_split is_line_feed rest ≡ line ∷ slice_split is_line_feed behind
    = cut.0 ∙ (ap (λ l. l ∷ slice_split is_line_feed (drop 1 (drop at rest))) (sym line_is) ∙ ap (λ b. line ∷ slice_split is_line_feed b) (sym (behind_is ∙ ap (drop 1) ending_is))) in
    let none : NoFeed line = subst NoFeed (sym line_is) cut.1 in
    let n : Numbered left (line ∷ slice_split is_line_feed behind) = subst (λ (ls : List (List ℕ)). Numbered left ls) split p.numbered in
    let step = line_more heads p.used p.front p.news left line a.bytes next_left p.lines a.so in
    record {
      front = p.front ++ line ∷ [];
      news = p.news ++ a.bytes ∷ [];
      used = step.used;
      cut = p.cut ∙ (ap (λ ls. p.front ++ ls) split ∙ sym (append_assoc p.front (line ∷ []) (slice_split is_line_feed behind)));
      numbers_are = p.numbers_are ∙ step.numbers_are;
      lines = step.lines;
      new_is = λ more. new_more new a.bytes mid next more p.news p.new_is a.is next_is (new_no_feed heads left line a.bytes next_left none a.so);
      numbered = subst (λ (ns : List ℕ). Numbered ns (slice_split is_line_feed behind)) (sym (same_behind heads left line a.bytes n.0 next_left n.1 a.so)) n.2;
      have_heads = heads_behind heads left line a.bytes next_left a.so p.have_heads;
    }

pub all_lines : (heads : List Head) (numbers text rest left new behind last : List ℕ) → Partly heads numbers text rest left new → position is_line_feed rest ≡ None → Appended (λ bytes. LineRewritten heads left rest bytes behind) new last
    → Rewritten heads numbers (slice_split is_line_feed text) (slice_split is_line_feed last)
all_lines heads numbers text rest left new behind last p e a =
    let cut = no_cut rest e in
    let n : Numbered left (rest ∷ []) = subst (λ (ls : List (List ℕ)). Numbered left ls) cut.0 p.numbered in
    let step = line_more heads p.used p.front p.news left rest a.bytes behind p.lines a.so in
    let nothing : behind ≡ [] = same_behind heads left rest a.bytes n.0 behind n.1 a.so ∙ n.2 in
    let used : step.used ≡ numbers = sym (p.numbers_are ∙ (step.numbers_are ∙ (ap (λ b. step.used ++ b) nothing ∙ append-nil step.used))) in
    let old : p.front ++ rest ∷ [] ≡ slice_split is_line_feed text = sym (p.cut ∙ ap (λ ls. p.front ++ ls) cut.0) in
    let new_lines : p.news ++ a.bytes ∷ [] ≡ slice_split is_line_feed last
    = sym (ap (λ t. slice_split is_line_feed t) a.is ∙ (p.new_is a.bytes ∙ ap (λ ls. p.news ++ ls) (slice_split_none is_line_feed a.bytes (new_no_feed heads left rest a.bytes behind cut.1 a.so)))) in
    subst (λ (ns : List ℕ). Rewritten heads ns (slice_split is_line_feed text) (slice_split is_line_feed last)) used
    (subst (λ (ls : List (List ℕ)). Rewritten heads step.used ls (slice_split is_line_feed last)) old
    (subst (λ (ls : List (List ℕ)). Rewritten heads step.used (p.front ++ rest ∷ []) ls) new_lines step.lines))

-- ---- one line, as the code appends it

pub line_stays : (heads : List Head) (numbers line old new : List ℕ) (b : Bool) → (b ≡ true) ↔ BeginsPacket line → b ≡ false → new ≡ old ++ line → Appended (λ bytes. LineRewritten heads numbers line bytes numbers) old new
line_stays heads numbers line old new b found fails is = record { bytes = line; is = is; so = stays (λ p. (let yes = found.1 (begins line p) in absurd cc)) refl refl }

pub packet_pushed : (heads : List Head) (numbers first behind line old new : List ℕ) (d : Head) → 0 < length numbers → first ≡ take 1 numbers → behind ≡ drop 1 numbers → All (λ n. n < length heads) numbers
    → Appended (WithHead line (slice_index_or heads (slice_index first 0) d)) old new → Appended (λ bytes. LineRewritten heads numbers line bytes behind) old new
packet_pushed heads [] first behind line old new d some first_is behind_is below a = absurd (omega arith)
packet_pushed heads (n ∷ numbers) first behind line old new d some first_is behind_is below a =
    let number : slice_index first 0 ≡ n = ap (λ f. slice_index f 0) first_is in
    let found : slice_get heads (slice_index first 0) ≡ Some (slice_index_or heads (slice_index first 0) d) = slice_get-get_or heads (slice_index first 0) d (omega (arith, number, below 0 0 (omega arith))) in
    record {
      bytes = a.bytes;
      is = a.is;
      so = rewritten n (slice_index_or heads (slice_index first 0) d) (ap (λ b. n ∷ b) (sym behind_is)) (subst (λ m. slice_get heads m ≡ Some (slice_index_or heads (slice_index first 0) d)) number found) a.so;
    }
