-- A job's text with other heads is the text of the job with these heads.
use Rattle.std.proofs.Common.{◌≡◌, ◌≢◌, ℕ, zero, suc, ◌+◌, ◌<◌, ◌≤◌, ◌⊎◌, inl, inr, Bool, true, false, cond, ◌==◌, List, [], ◌∷◌, ◌++◌, length, take, slice_index, slice_index_or, slice_get, map, Option, Some, None, unwrap_or, refl, sym, ap, subst, ◌∙◌, arith, append_assoc, append-nil, length-append}
use Rattle.std.specs.Prelude.{IfSome, IfOk, Result, Ok, Err, count_by}
use Rattle.std.specs.List.{slice_split}
use Rattle.std.proofs.lemmas.List.{take-map}
use Rattle.std.proofs.lemmas.List.Sums.{sum_by-cons}
use Rattle.hq_packet.specs.declared.packet.Head.{Head}
use Rattle.hq_packet.specs.declared.packet.Packet as packet
use Rattle.hq_packet.specs.declared.packet.Packet.TheVariants as format
use Rattle.hq_packet.specs.Parts.{with_head}
use Rattle.hq_text.specs.Lines.{is_line_feed, lines_of, words_of, without_empty_last}
use Rattle.hq_text.proofs.Cuts.{Parts, without}
use Rattle.hq_lines.specs.Heads.{IsPacketLine, BeginsPacket, WithHead}
use Rattle.hq_lines.specs.Meaning as says
use Rattle.hq_lines.specs.Meaning.{Meaning}
use Rattle.hq_lines.specs.Says.{SaysLine}
use Rattle.hq_lines.proofs.PacketLines.{says_packet, says_with_head}
use Rattle.hq_lines.proofs.Whole.{one_meaning}
use Rattle.hq_model.specs.Journal.{numbers}
use Rattle.hq_tables.specs.declared.rows.Placed.{Placed}
use Rattle.hq_job.specs.Value.{JobValue}
use Rattle.hq_job.specs.Numbering.{with_key, grouped, number_of, by_number, submissions_of}
use Rattle.hq_tables.specs.Tables.{Tables, empty, tests, added, NoneApplies, packet_tests, placed_of, with_packet}
use Rattle.hq_jobtext.specs.JobText.{JobText, SaysVersion, one, two, Admits, AdmitsAll}
use Rattle.hq_job.specs.Ended.{value_of}
use Rattle.hq_job.specs.Heads.{placed_with_head}
use Rattle.hq_job.specs.Heads.{with_heads, job_with_heads}
use Rattle.hq_jobtext.specs.Rewritten.{LineRewritten, stays, packet as rewritten, Rewritten, RewrittenIsJob}
use Rattle.hq_jobtext.specs.RewriteSteps.{no_packet, a_packet, Numbered}
use Rattle.hq_job.proofs.Grouped.{numbered, get_number, grouped_more}
use Rattle.hq_tables.proofs.Lists.{within, some_is}
use Rattle.hq_jobtext.proofs.RewrittenLines.{begins}
use Rattle.hq_job.proofs.Submitted.{queue_of, submission_at, length_submissions}
use Rattle.hq_tables.proofs.Lists.{within}

-- ---- what the lines of a job's text say

-- a line says no packet and adds none, or says one and adds it
abbrev Kind : Tables → List ℕ → Tables → Type 0
Kind ts line mid = ((¬ BeginsPacket line) × (mid.placed ≡ ts.placed)) ⊎ (IsPacketLine line × (length mid.placed ≡ length ts.placed + 1))

not_begun : (line : List ℕ) (m : Meaning) → SaysLine line m → ((p : packet.Packet) → m ≢ says.Packet p) → ¬ BeginsPacket line
not_begun line m h other b = let p = says_packet line m h b in other p.0 (one_meaning (words_of line) m (says.Packet p.0) h.words p.1.words)

kind_of : (ts : Tables) (line : List ℕ) (mid : Tables) (m : Meaning) → SaysLine line m → m ≢ says.End → mid ≡ added ts m → Kind ts line mid
kind_of ts line mid (says.Agent name) h e is = inl (not_begun line (says.Agent name) h (λ p same. cc), ap (λ t. t.placed) is)
kind_of ts line mid (says.Buffer name at bytes) h e is = inl (not_begun line (says.Buffer name at bytes) h (λ p same. cc), ap (λ t. t.placed) is)
kind_of ts line mid (says.Args name at bytes) h e is = inl (not_begun line (says.Args name at bytes) h (λ p same. cc), ap (λ t. t.placed) is)
kind_of ts line mid (says.Signal name handle start) h e is = inl (not_begun line (says.Signal name handle start) h (λ p same. cc), ap (λ t. t.placed) is)
kind_of ts line mid (says.Kernel name object code) h e is = inl (not_begun line (says.Kernel name object code) h (λ p same. cc), ap (λ t. t.placed) is)
kind_of ts line mid (says.Queue name owner size) h e is = inl (not_begun line (says.Queue name owner size) h (λ p same. cc), ap (λ t. t.placed) is)
kind_of ts line mid (says.To name) h e is = inl (not_begun line (says.To name) h (λ p same. cc), ap (λ t. t.placed) is)
kind_of ts line mid (says.Packet p) h e is = inr ((p, h), omega (arith, ap (λ t. length t.placed) is, length-append ts.placed (placed_of ts (unwrap_or ts.current 0) p ∷ [])))
kind_of ts line mid says.End h e is = absurd (e refl)

kind : (ts : Tables) (line : List ℕ) (mid : Tables) → Admits ts line mid → Kind ts line mid
kind ts line mid a = kind_of ts line mid a.meaning a.says_it a.not_end a.adds

grows : (front : List (List ℕ)) (ts new : Tables) → AdmitsAll ts front new → length ts.placed ≤ length new.placed
grows [] ts new h = omega (arith, ap (λ t. length t.placed) h)
grows (line ∷ front) ts new h = by (kind ts line h.0 h.1) (grows front h.0 new h.2) where
  by : Kind ts line h.0 → length h.0.placed ≤ length new.placed → length ts.placed ≤ length new.placed
  by (inl k) le = omega (arith, ap (λ ps. length ps) k.1)
  by (inr k) le = omega (arith, k.1)

none_left : (numbers : List ℕ) → length numbers ≡ 0 → [] ≡ numbers
none_left [] e = refl
none_left (n ∷ numbers) e = absurd (omega arith)

-- lines that are admitted, and one more that says no packet
lines_numbered : (front : List (List ℕ)) (last : List ℕ) (ts new : Tables) (ns : List ℕ) → ¬ BeginsPacket last → AdmitsAll ts front new → length ts.placed + length ns ≡ length new.placed → Numbered ns (front ++ last ∷ [])
lines_numbered [] last ts new ns other h count = (ns, no_packet other refl, sym (none_left ns (omega (arith, count, ap (λ t. length t.placed) h))))
lines_numbered (line ∷ front) last ts new ns other h count = by (kind ts line h.0 h.1) ns count (grows front h.0 new h.2) (λ more e. lines_numbered front last h.0 new more other h.2 e) where
  by : Kind ts line h.0 → (left : List ℕ) → length ts.placed + length left ≡ length new.placed → length h.0.placed ≤ length new.placed
      → ((more : List ℕ) → length h.0.placed + length more ≡ length new.placed → Numbered more (front ++ last ∷ [])) → Numbered left (line ∷ (front ++ last ∷ []))
  by (inl k) left e le next = (left, no_packet k.0 refl, next left (omega (arith, e, ap (λ ps. length ps) k.1)))
  by (inr k) [] e le next = absurd (omega (arith, e, k.1, le))
  by (inr k) (n ∷ left) e le next = (left, a_packet k.0 n refl, next left (omega (arith, e, k.1)))

empty_line : ¬ BeginsPacket []
empty_line b = cc (b.1)

pieces_numbered : (pieces : List (List ℕ)) (numbers : List ℕ) → Numbered numbers (without_empty_last pieces) → Numbered numbers pieces
pieces_numbered [] numbers h = h
pieces_numbered ([] ∷ []) numbers h = (numbers, no_packet empty_line refl, h)
pieces_numbered ((b ∷ bs) ∷ []) numbers h = h
pieces_numbered ([] ∷ y ∷ more) numbers h = (h.0, h.1, pieces_numbered (y ∷ more) h.0 h.2)
pieces_numbered ((b ∷ bs) ∷ y ∷ more) numbers h = (h.0, h.1, pieces_numbered (y ∷ more) h.0 h.2)

version_apart : (first : List ℕ) (rings : Bool) → SaysVersion first rings → ¬ BeginsPacket first
version_apart first rings one b = omega (arith, ap (λ w. slice_index w 0) b.1)
version_apart first rings two b = omega (arith, ap (λ w. slice_index w 0) b.1)

pub text_numbered : (text : List ℕ) (job : JobValue) → JobText (lines_of text) job → Numbered job.submissions (slice_split is_line_feed text)
text_numbered text job t =
    let subs : job.submissions ≡ submissions_of t.tables.placed = ap (λ j. j.submissions) t.job_is in
    let count : length job.submissions ≡ length t.tables.placed = ap (λ ns. length ns) subs ∙ length_submissions t.tables.placed in
    let last = not_begun t.last says.End t.ends (λ p same. cc) in
    let behind : Numbered job.submissions (t.front ++ t.last ∷ []) = lines_numbered t.front t.last (empty t.rings) t.tables job.submissions last t.admitted (omega (arith, count)) in
    let all : Numbered job.submissions (t.first ∷ (t.front ++ t.last ∷ [])) = (job.submissions, no_packet (version_apart t.first t.rings t.version) refl, behind) in
    pieces_numbered (slice_split is_line_feed text) job.submissions (subst (λ (ls : List (List ℕ)). Numbered job.submissions ls) (sym t.whole) all)

-- ---- tables with other heads

abbrev with_placed : Tables → List Placed → Tables
with_placed ts placed = record ts { placed = placed }

pub length_with_heads : (ps : List Placed) (heads : List Head) → length (with_heads ps heads) ≡ length ps
length_with_heads [] heads = refl
length_with_heads (p ∷ ps) [] = refl
length_with_heads (p ∷ ps) (head ∷ heads) = ap suc (length_with_heads ps heads)

with_heads_more : (ps : List Placed) (heads : List Head) (p : Placed) (head : Head) → length heads ≡ length ps → with_heads (ps ++ p ∷ []) (heads ++ head ∷ []) ≡ with_heads ps heads ++ placed_with_head p head ∷ []
with_heads_more [] [] p head e = refl
with_heads_more [] (h ∷ heads) p head e = absurd (omega arith)
with_heads_more (q ∷ ps) [] p head e = absurd (omega arith)
with_heads_more (q ∷ ps) (h ∷ heads) p head e = ap (λ qs. placed_with_head q h ∷ qs) (with_heads_more ps heads p head (omega arith))

abbrev in_queue : ℕ → Placed → ℕ
in_queue q p = cond (p.queue == q) 1 0

count_same : (q : ℕ) (ps : List Placed) (heads : List Head) → count_by (λ p. p.queue == q) (with_heads ps heads) ≡ count_by (λ p. p.queue == q) ps
count_same q [] heads = refl
count_same q (p ∷ ps) [] = refl
count_same q (p ∷ ps) (head ∷ heads) =
    sum_by-cons (in_queue q) (placed_with_head p head) (with_heads ps heads) ∙ (ap (λ n. in_queue q p + n) (count_same q ps heads) ∙ sym (sum_by-cons (in_queue q) p ps))

full_too : (o : Option ℕ) (sizes : List ℕ) (ps : List Placed) (heads : List Head) → IfSome o (λ q. slice_index sizes q ≤ count_by (λ p. p.queue == q) (with_heads ps heads)) → IfSome o (λ q. slice_index sizes q ≤ count_by (λ p. p.queue == q) ps)
full_too None sizes ps heads h = h
full_too (Some q) sizes ps heads h = subst (λ (n : ℕ). slice_index sizes q ≤ n) (count_same q ps heads) h

-- a line that says no packet is admitted as before
other_admits : (ts : Tables) (line : List ℕ) (mid : Tables) (ps : List Placed) (m : Meaning) → SaysLine line m → m ≢ says.End → ((p : packet.Packet) → m ≢ says.Packet p) → NoneApplies (tests ts m) → mid ≡ added ts m → Admits (with_placed ts ps) line (with_placed mid ps)
other_admits ts line mid ps (says.Agent name) h e other none is = record { meaning = says.Agent name; says_it = h; not_end = e; none = none; adds = ap (λ t. with_placed t ps) is }
other_admits ts line mid ps (says.Buffer name at bytes) h e other none is = record { meaning = says.Buffer name at bytes; says_it = h; not_end = e; none = none; adds = ap (λ t. with_placed t ps) is }
other_admits ts line mid ps (says.Args name at bytes) h e other none is = record { meaning = says.Args name at bytes; says_it = h; not_end = e; none = none; adds = ap (λ t. with_placed t ps) is }
other_admits ts line mid ps (says.Signal name handle start) h e other none is = record { meaning = says.Signal name handle start; says_it = h; not_end = e; none = none; adds = ap (λ t. with_placed t ps) is }
other_admits ts line mid ps (says.Kernel name object code) h e other none is = record { meaning = says.Kernel name object code; says_it = h; not_end = e; none = none; adds = ap (λ t. with_placed t ps) is }
other_admits ts line mid ps (says.Queue name owner size) h e other none is = record { meaning = says.Queue name owner size; says_it = h; not_end = e; none = none; adds = ap (λ t. with_placed t ps) is }
other_admits ts line mid ps (says.To name) h e other none is = record { meaning = says.To name; says_it = h; not_end = e; none = none; adds = ap (λ t. with_placed t ps) is }
other_admits ts line mid ps (says.Packet p) h e other none is = absurd (other p refl)
other_admits ts line mid ps says.End h e other none is = absurd (e refl)

-- the tests of a packet ask nothing of its head
none_applies : (ts : Tables) (heads : List Head) (p : packet.Packet) (head : Head) → NoneApplies (packet_tests ts p) → NoneApplies (packet_tests (with_placed ts (with_heads ts.placed heads)) (with_head p head))
none_applies ts heads (format.Kernel k) head none = ((λ l. none.0 (omega (arith, l, length_with_heads ts.placed heads))), (none.1.0, ((λ f. none.1.1.0 (f.0, full_too ts.current (map (λ e. e.size) ts.queues) ts.placed heads f.1)), none.1.1.1)))
none_applies ts heads (format.Agent a) head none = ((λ l. none.0 (omega (arith, l, length_with_heads ts.placed heads))), (none.1.0, ((λ f. none.1.1.0 (f.0, full_too ts.current (map (λ e. e.size) ts.queues) ts.placed heads f.1)), none.1.1.1)))
none_applies ts heads (format.And b) head none = ((λ l. none.0 (omega (arith, l, length_with_heads ts.placed heads))), (none.1.0, ((λ f. none.1.1.0 (f.0, full_too ts.current (map (λ e. e.size) ts.queues) ts.placed heads f.1)), none.1.1.1)))
none_applies ts heads (format.Or b) head none = ((λ l. none.0 (omega (arith, l, length_with_heads ts.placed heads))), (none.1.0, ((λ f. none.1.1.0 (f.0, full_too ts.current (map (λ e. e.size) ts.queues) ts.placed heads f.1)), none.1.1.1)))

-- nor does what it adds, but that the head stands in it
adds_with : (ts : Tables) (ps : List Placed) (p : packet.Packet) (head : Head) → with_placed (with_packet ts p) (ps ++ placed_with_head (placed_of ts (unwrap_or ts.current 0) p) head ∷ []) ≡ with_packet (with_placed ts ps) (with_head p head)
adds_with ts ps (format.Kernel k) head = refl
adds_with ts ps (format.Agent a) head = refl
adds_with ts ps (format.And b) head = refl
adds_with ts ps (format.Or b) head = refl

packet_admits : (ts : Tables) (line new : List ℕ) (mid : Tables) (heads : List Head) (p : packet.Packet) (head : Head) → length heads ≡ length ts.placed → SaysLine new (says.Packet (with_head p head)) → NoneApplies (packet_tests ts p) → mid ≡ with_packet ts p
    → Admits (with_placed ts (with_heads ts.placed heads)) new (with_placed mid (with_heads mid.placed (heads ++ head ∷ [])))
packet_admits ts line new mid heads p head count h none is =
    let row = placed_of ts (unwrap_or ts.current 0) p in
    record {
      meaning = says.Packet (with_head p head);
      says_it = h;
      not_end = λ e. cc;
      none = none_applies ts heads p head none;
      adds = ap (λ t. with_placed t (with_heads t.placed (heads ++ head ∷ []))) is
          ∙ (ap (λ ps. with_placed (with_packet ts p) ps) (with_heads_more ts.placed heads row head count) ∙ adds_with ts (with_heads ts.placed heads) p head);
    }

-- ---- lines with other heads

-- the heads of these numbers
abbrev HeadsAre : List Head → List ℕ → List Head → Type 0
HeadsAre heads [] hs = hs ≡ []
HeadsAre heads (n ∷ numbers) hs = (h : Head) × (more : List Head) × (hs ≡ h ∷ more) × (slice_get heads n ≡ Some h) × HeadsAre heads numbers more

-- the new lines are admitted, and leave the packets with their heads
record AdmittedWith (heads : List Head) (news : List (List ℕ)) (ts new : Tables) (before : List Head) (numbers : List ℕ) : Type 0 where
  hs : List Head
  heads_are : HeadsAre heads numbers hs
  admitted : AdmitsAll (with_placed ts (with_heads ts.placed before)) news (with_placed new (with_heads new.placed (before ++ hs)))

-- where the lines go on behind one that says no packet
behind_other : (heads : List Head) (line new_line : List ℕ) (news more : List (List ℕ)) (ts mid new : Tables) (before : List Head) (numbers behind : List ℕ) → Admits ts line mid → ¬ IsPacketLine line → new_line ≡ line → behind ≡ numbers → news ≡ new_line ∷ more
    → (length before ≡ length ts.placed) → ((b : List Head) → length b ≡ length mid.placed → AdmittedWith heads more mid new b behind) → AdmittedWith heads news ts new before numbers
behind_other heads line new_line news more ts mid new before numbers behind a none same left is count next = by (kind ts line mid a) where
  other : (p : packet.Packet) → a.meaning ≢ says.Packet p
  other p e = none (p, subst (λ (m : Meaning). SaysLine line m) e a.says_it)

  by : Kind ts line mid → AdmittedWith heads news ts new before numbers
  by (inr k) = absurd (none k.0)
  by (inl k) =
      let rest = next before (count ∙ ap (λ ps. length ps) (sym k.1)) in
      let here : Admits (with_placed ts (with_heads ts.placed before)) line (with_placed mid (with_heads mid.placed before))
      = subst (λ (ps : List Placed). Admits (with_placed ts (with_heads ts.placed before)) line (with_placed mid (with_heads ps before))) (sym k.1) (other_admits ts line mid (with_heads ts.placed before) a.meaning a.says_it a.not_end other a.none a.adds) in
      record {
        hs = rest.hs;
        heads_are = subst (λ (ns : List ℕ). HeadsAre heads ns rest.hs) left rest.heads_are;
        admitted = subst (λ (ls : List (List ℕ)). AdmitsAll (with_placed ts (with_heads ts.placed before)) ls (with_placed new (with_heads new.placed (before ++ rest.hs)))) (sym (is ∙ ap (λ l. l ∷ more) same)) (with_placed mid (with_heads mid.placed before), here, rest.admitted);
      }

-- and behind the line of a packet
behind_packet : (heads : List Head) (line new_line : List ℕ) (news more : List (List ℕ)) (ts mid new : Tables) (before : List Head) (numbers behind : List ℕ) (number : ℕ) (head : Head) → Admits ts line mid → numbers ≡ number ∷ behind → slice_get heads number ≡ Some head → WithHead line head new_line → news ≡ new_line ∷ more
    → (length before ≡ length ts.placed) → ((b : List Head) → length b ≡ length mid.placed → AdmittedWith heads more mid new b behind) → AdmittedWith heads news ts new before numbers
behind_packet heads line new_line news more ts mid new before numbers behind number head a left found w is count next =
    let said : a.meaning ≡ says.Packet w.sent = one_meaning (words_of line) a.meaning (says.Packet w.sent) a.says_it.words w.says_it.words in
    let none : NoneApplies (packet_tests ts w.sent) = subst (λ (m : Meaning). NoneApplies (tests ts m)) said a.none in
    let adds : mid ≡ with_packet ts w.sent = a.adds ∙ ap (added ts) said in
    let here = packet_admits ts line new_line mid before w.sent head count (says_with_head line head new_line w) none adds in
    let counted : length (before ++ head ∷ []) ≡ length mid.placed = omega (arith, count, length-append before (head ∷ []), ap (λ t. length t.placed) adds, length-append ts.placed (placed_of ts (unwrap_or ts.current 0) w.sent ∷ [])) in
    let rest = next (before ++ head ∷ []) counted in
    let last : AdmitsAll (with_placed mid (with_heads mid.placed (before ++ head ∷ []))) more (with_placed new (with_heads new.placed (before ++ head ∷ rest.hs)))
    = subst (λ (b : List Head). AdmitsAll (with_placed mid (with_heads mid.placed (before ++ head ∷ []))) more (with_placed new (with_heads new.placed b))) (append_assoc before (head ∷ []) rest.hs) rest.admitted in
    record {
      hs = head ∷ rest.hs;
      heads_are = subst (λ (ns : List ℕ). HeadsAre heads ns (head ∷ rest.hs)) (sym left) (head, rest.hs, refl, found, rest.heads_are);
      admitted = subst (λ (ls : List (List ℕ)). AdmitsAll (with_placed ts (with_heads ts.placed before)) ls (with_placed new (with_heads new.placed (before ++ head ∷ rest.hs)))) (sym is) (with_placed mid (with_heads mid.placed (before ++ head ∷ [])), here, last);
    }

lines_admitted : (heads : List Head) (front news : List (List ℕ)) (ts new : Tables) (before : List Head) (numbers : List ℕ) → length before ≡ length ts.placed → AdmitsAll ts front new → Rewritten heads numbers front news → AdmittedWith heads news ts new before numbers
lines_admitted heads [] news ts new before numbers count h r =
    let same : with_placed new (with_heads new.placed (before ++ [])) ≡ with_placed ts (with_heads ts.placed before)
    = ap (λ t. with_placed t (with_heads t.placed (before ++ []))) h ∙ ap (λ b. with_placed ts (with_heads ts.placed b)) (append-nil before) in
    record {
      hs = [];
      heads_are = subst (λ (ns : List ℕ). HeadsAre heads ns []) (sym r.0) refl;
      admitted = subst (λ (ls : List (List ℕ)). AdmitsAll (with_placed ts (with_heads ts.placed before)) ls (with_placed new (with_heads new.placed (before ++ [])))) (sym r.1) same;
    }
lines_admitted heads (line ∷ front) news ts new before numbers count h r = by r.4 (λ b e. lines_admitted heads front r.1 h.0 new b r.2 e h.2 r.5) where
  by : LineRewritten heads numbers line r.0 r.2 → ((b : List Head) → length b ≡ length h.0.placed → AdmittedWith heads r.1 h.0 new b r.2) → AdmittedWith heads news ts new before numbers
  by (stays none same left) next = behind_other heads line r.0 news r.1 ts h.0 new before numbers r.2 h.1 none same left r.3 count next
  by (rewritten number head left found w) next = behind_packet heads line r.0 news r.1 ts h.0 new before numbers r.2 number head h.1 left found w r.3 count next

-- ---- numbers

-- the number of a place, by the keys alone
abbrev number_in : List ℕ → ℕ → ℕ
number_in keys k =
    let q = slice_index keys k in
    length (grouped (λ n. n) q keys) + length (with_key (λ n. n) (take k keys) q)

key_count : (ps : List Placed) (q : ℕ) → length (with_key queue_of ps q) ≡ length (with_key (λ n. n) (map queue_of ps) q)
key_count [] q = refl
key_count (p ∷ ps) q = by (p.queue == q) (key_count ps q) where
  by : (b : Bool) → length (with_key queue_of ps q) ≡ length (with_key (λ n. n) (map queue_of ps) q) → length (cond b (p ∷ with_key queue_of ps q) (with_key queue_of ps q)) ≡ length (cond b (p.queue ∷ with_key (λ n. n) (map queue_of ps) q) (with_key (λ n. n) (map queue_of ps) q))
  by true e = ap suc e
  by false e = e

grouped_count : (n : ℕ) (ps : List Placed) → length (grouped queue_of n ps) ≡ length (grouped (λ m. m) n (map queue_of ps))
grouped_count zero ps = refl
grouped_count (suc n) ps =
    ap (λ xs. length xs) (grouped_more queue_of n ps) ∙ length-append (grouped queue_of n ps) (with_key queue_of ps n)
    ∙ ap (λ m. m + length (with_key queue_of ps n)) (grouped_count n ps)
    ∙ ap (λ m. length (grouped (λ m. m) n (map queue_of ps)) + m) (key_count ps n)
    ∙ sym (ap (λ xs. length xs) (grouped_more (λ m. m) n (map queue_of ps)) ∙ length-append (grouped (λ m. m) n (map queue_of ps)) (with_key (λ m. m) (map queue_of ps) n))

number_by_keys : (ps : List Placed) (k : ℕ) → number_of queue_of ps k ≡ number_in (map queue_of ps) k
number_by_keys ps k =
    let q = slice_index (map queue_of ps) k in
    ap (λ m. m + length (with_key queue_of (take k ps) q)) (grouped_count q ps)
    ∙ ap (λ m. length (grouped (λ n. n) q (map queue_of ps)) + m) (key_count (take k ps) q ∙ ap (λ ks. length (with_key (λ n. n) ks q)) (sym (take-map queue_of k ps)))

keys_same : (ps : List Placed) (heads : List Head) → map queue_of (with_heads ps heads) ≡ map queue_of ps
keys_same [] heads = refl
keys_same (p ∷ ps) [] = refl
keys_same (p ∷ ps) (head ∷ heads) = ap (λ ks. p.queue ∷ ks) (keys_same ps heads)

number_same : (ps : List Placed) (heads : List Head) (k : ℕ) → number_of queue_of (with_heads ps heads) k ≡ number_of queue_of ps k
number_same ps heads k = number_by_keys (with_heads ps heads) k ∙ (ap (λ ks. number_in ks k) (keys_same ps heads) ∙ sym (number_by_keys ps k))

submissions_same : (ps : List Placed) (heads : List Head) → submissions_of (with_heads ps heads) ≡ submissions_of ps
submissions_same ps heads =
    ap (λ n. map (number_of queue_of (with_heads ps heads)) (numbers n)) (length_with_heads ps heads) ∙ ap (λ f. map f (numbers (length ps))) (λ i k. number_same ps heads k i)

-- ---- packets by number

ext_get : {X : Type 0} (xs ys : List X) → length xs ≡ length ys → ((k : ℕ) (x : X) → slice_get xs k ≡ Some x → slice_get ys k ≡ Some x) → xs ≡ ys
ext_get [] [] e h = refl
ext_get [] (y ∷ ys) e h = absurd (omega arith)
ext_get (x ∷ xs) [] e h = absurd (omega arith)
ext_get (x ∷ xs) (y ∷ ys) e h = ap (λ z. z ∷ xs) (sym (some_is y x (h 0 x refl))) ∙ ap (λ zs. y ∷ zs) (ext_get xs ys (omega arith) (λ k z g. h (suc k) z g))

get_with_heads : (ps : List Placed) (heads : List Head) (k : ℕ) (p : Placed) (head : Head) → slice_get ps k ≡ Some p → slice_get heads k ≡ Some head → slice_get (with_heads ps heads) k ≡ Some (placed_with_head p head)
get_with_heads [] heads k p head e f = absurd cc
get_with_heads (q ∷ ps) [] k p head e f = absurd cc
get_with_heads (q ∷ ps) (h ∷ heads) zero p head e f = ap (λ r. Some (placed_with_head r h)) (some_is q p e) ∙ ap (λ g. Some (placed_with_head p g)) (some_is h head f)
get_with_heads (q ∷ ps) (h ∷ heads) (suc k) p head e f = get_with_heads ps heads k p head e f

-- the head of the k-th number
record HeadOf (heads hs : List Head) (numbers : List ℕ) (k : ℕ) : Type 0 where
  head : Head
  listed : slice_get hs k ≡ Some head
  there : slice_get heads (slice_index_or numbers k 0) ≡ Some head

head_of_number : (heads : List Head) (numbers : List ℕ) (hs : List Head) (k : ℕ) → HeadsAre heads numbers hs → k < length numbers → HeadOf heads hs numbers k
head_of_number heads [] hs k h l = absurd (omega arith)
head_of_number heads (n ∷ numbers) hs zero h l = record { head = h.0; listed = ap (λ xs. slice_get xs 0) h.2; there = h.3 }
head_of_number heads (n ∷ numbers) hs (suc k) h l =
    let rest = head_of_number heads numbers h.1 k h.4 (omega arith) in
    record { head = rest.head; listed = ap (λ xs. slice_get xs (suc k)) h.2 ∙ rest.listed; there = rest.there }

by_number_heads : (n : ℕ) (placed : List Placed) (heads hs : List Head) → HeadsAre heads (submissions_of placed) hs → with_heads (by_number n placed) heads ≡ by_number n (with_heads placed hs)
by_number_heads n placed heads hs are = ext_get (with_heads (by_number n placed) heads) (by_number n (with_heads placed hs)) count each where
  grouped_same : length (by_number n (with_heads placed hs)) ≡ length (by_number n placed)
  grouped_same = grouped_count n (with_heads placed hs) ∙ (ap (λ ks. length (grouped (λ m. m) n ks)) (keys_same placed hs) ∙ sym (grouped_count n placed))

  count : length (with_heads (by_number n placed) heads) ≡ length (by_number n (with_heads placed hs))
  count = length_with_heads (by_number n placed) heads ∙ sym grouped_same

  each : (p : ℕ) (y : Placed) → slice_get (with_heads (by_number n placed) heads) p ≡ Some y → slice_get (by_number n (with_heads placed hs)) p ≡ Some y
  each p y e =
      let low : p < length (by_number n placed) = omega (arith, length_with_heads (by_number n placed) heads, within (with_heads (by_number n placed) heads) p y e) in
      let f = numbered queue_of n placed p low in
      let inside : f.k < length placed = within placed f.k f.x f.there in
      let h = head_of_number heads (submissions_of placed) hs f.k are (omega (arith, inside, length_submissions placed)) in
      let at : slice_get heads p ≡ Some h.head = subst (λ (m : ℕ). slice_get heads m ≡ Some h.head) (submission_at placed f.k 0 inside ∙ f.number_is) h.there in
      let old : slice_get (by_number n placed) p ≡ Some f.x = subst (λ (m : ℕ). slice_get (by_number n placed) m ≡ Some f.x) f.number_is (get_number queue_of n placed f.k f.x f.there f.key_below) in
      let is : placed_with_head f.x h.head ≡ y = some_is (placed_with_head f.x h.head) y (sym (get_with_heads (by_number n placed) heads p f.x h.head old at) ∙ e) in
      let new = get_number queue_of n (with_heads placed hs) f.k (placed_with_head f.x h.head) (get_with_heads placed hs f.k f.x h.head f.there h.listed) f.key_below in
      subst (λ (m : ℕ). slice_get (by_number n (with_heads placed hs)) m ≡ Some y) (number_same placed hs f.k ∙ f.number_is) (new ∙ ap (λ r. Some r) is)

-- ---- whole texts

-- the new line is empty only where the old one is
some_byte : (heads : List Head) (numbers : List ℕ) (old new behind : List ℕ) → LineRewritten heads numbers old new behind → 0 < length old → 0 < length new
some_byte heads numbers old new behind (stays none same left) l = omega (arith, l, ap (λ t. length t) same)
some_byte heads numbers old new behind (rewritten number head left found w) l = let b = begins new (with_head w.sent head, says_with_head old head new w) in omega (arith, ap (λ t. length t) b.1)

kept_last : (line : List ℕ) → 0 < length line → without_empty_last (line ∷ []) ≡ line ∷ []
kept_last [] l = absurd (omega arith)
kept_last (b ∷ bs) l = refl

-- an empty last piece is none of the lines, in both texts
last_piece : (heads : List Head) (numbers : List ℕ) (old : List ℕ) (news : List (List ℕ)) → Rewritten heads numbers (old ∷ []) news → Rewritten heads numbers (without_empty_last (old ∷ [])) (without_empty_last news)
last_piece heads numbers [] news r = by r.4 where
  by : LineRewritten heads numbers [] r.0 r.2 → (numbers ≡ []) × (without_empty_last news ≡ [])
  by (stays none same left) = (sym left ∙ r.5.0, ap without_empty_last (r.3 ∙ (ap (λ l. l ∷ r.1) same ∙ ap (λ m. [] ∷ m) r.5.1)))
  by (rewritten number head left found w) = absurd (empty_line (begins [] (w.sent, w.says_it)))
last_piece heads numbers (b ∷ bs) news r =
    let some : 0 < length r.0 = some_byte heads numbers (b ∷ bs) r.0 r.2 r.4 (omega arith) in
    let news_are : news ≡ r.0 ∷ [] = r.3 ∙ ap (λ m. r.0 ∷ m) r.5.1 in
    let same : news ≡ without_empty_last news = news_are ∙ sym (ap without_empty_last news_are ∙ kept_last r.0 some) in
    subst (λ (ls : List (List ℕ)). Rewritten heads numbers ((b ∷ bs) ∷ []) ls) same r

lines_too : (heads : List Head) (numbers : List ℕ) (olds news : List (List ℕ)) → Rewritten heads numbers olds news → Rewritten heads numbers (without_empty_last olds) (without_empty_last news)
lines_too heads numbers [] news r = (r.0, ap without_empty_last r.1)
lines_too heads numbers (old ∷ []) news r = last_piece heads numbers old news r
lines_too heads numbers (old ∷ next ∷ olds) news r =
    let rest = lines_too heads r.2 (next ∷ olds) r.1 r.5 in
    let parts : Parts r.1 = record { first = r.5.0; others = r.5.1; is = r.5.3 } in
    let new_lines : without_empty_last news ≡ r.0 ∷ without_empty_last r.1 = ap without_empty_last r.3 ∙ without r.0 r.1 parts in
    let old_lines : without_empty_last (old ∷ next ∷ olds) ≡ old ∷ without_empty_last (next ∷ olds) = without old (next ∷ olds) (record { first = next; others = olds; is = refl }) in
    subst (λ (ls : List (List ℕ)). Rewritten heads numbers ls (without_empty_last news)) (sym old_lines) (r.0, without_empty_last r.1, r.2, new_lines, r.4, rest)

-- a last line that says no packet stays
record BeforeLast (heads : List Head) (numbers : List ℕ) (front : List (List ℕ)) (last : List ℕ) (news : List (List ℕ)) : Type 0 where
  fronts : List (List ℕ)
  is : news ≡ fronts ++ last ∷ []
  lines : Rewritten heads numbers front fronts

before_last : (heads : List Head) (numbers : List ℕ) (front : List (List ℕ)) (last : List ℕ) (news : List (List ℕ)) → ¬ IsPacketLine last → Rewritten heads numbers (front ++ last ∷ []) news → BeforeLast heads numbers front last news
before_last heads numbers [] last news other r = by r.4 where
  by : LineRewritten heads numbers last r.0 r.2 → BeforeLast heads numbers [] last news
  by (stays none same left) = record { fronts = []; is = r.3 ∙ (ap (λ l. l ∷ r.1) same ∙ ap (λ m. last ∷ m) r.5.1); lines = (sym left ∙ r.5.0, refl) }
  by (rewritten number head left found w) = absurd (other (w.sent, w.says_it))
before_last heads numbers (line ∷ front) last news other r =
    let rest = before_last heads r.2 front last r.1 other r.5 in
    record { fronts = r.0 ∷ rest.fronts; is = r.3 ∙ ap (λ m. r.0 ∷ m) rest.is; lines = (r.0, rest.fronts, r.2, refl, r.4, rest.lines) }

-- and so does the first
first_stays : (heads : List Head) (numbers : List ℕ) (first : List ℕ) (olds news : List (List ℕ)) → ¬ IsPacketLine first → Rewritten heads numbers (first ∷ olds) news → (more : List (List ℕ)) × (news ≡ first ∷ more) × Rewritten heads numbers olds more
first_stays heads numbers first olds news other r = by r.4 where
  by : LineRewritten heads numbers first r.0 r.2 → (more : List (List ℕ)) × (news ≡ first ∷ more) × Rewritten heads numbers olds more
  by (stays none same left) = (r.1, r.3 ∙ ap (λ l. l ∷ r.1) same, subst (λ (ns : List ℕ). Rewritten heads ns olds r.1) left r.5)
  by (rewritten number head left found w) = absurd (other (w.sent, w.says_it))

-- the job of tables whose packets have other heads
job_same : (heads hs : List Head) (ts : Tables) → HeadsAre heads (submissions_of ts.placed) hs → job_with_heads (value_of ts) heads ≡ value_of (with_placed ts (with_heads ts.placed hs))
job_same heads hs ts are =
    let made : List Placed → List ℕ → JobValue = λ ps ns. record (value_of ts) { packets = ps; submissions = ns } in
    ap (λ ps. made ps (submissions_of ts.placed)) (by_number_heads (length ts.queues) ts.placed heads hs are)
    ∙ ap (λ ns. made (by_number (length ts.queues) (with_heads ts.placed hs)) ns) (sym (submissions_same ts.placed hs))

pub rewritten_is_job : RewrittenIsJob
rewritten_is_job heads job old new t r =
    let lines : Rewritten heads job.submissions (lines_of old) (lines_of new) = lines_too heads job.submissions (slice_split is_line_feed old) (slice_split is_line_feed new) r in
    let whole : Rewritten heads job.submissions (t.first ∷ (t.front ++ t.last ∷ [])) (lines_of new) = subst (λ (ls : List (List ℕ)). Rewritten heads job.submissions ls (lines_of new)) t.whole lines in
    let behind = first_stays heads job.submissions t.first (t.front ++ t.last ∷ []) (lines_of new) (λ p. version_apart t.first t.rings t.version (begins t.first p)) whole in
    let front = before_last heads job.submissions t.front t.last behind.0 (λ p. not_begun t.last says.End t.ends (λ q same. cc) (begins t.last p)) behind.2 in
    let admitted = lines_admitted heads t.front front.fronts (empty t.rings) t.tables [] job.submissions refl t.admitted front.lines in
    let are : HeadsAre heads (submissions_of t.tables.placed) admitted.hs = subst (λ (ns : List ℕ). HeadsAre heads ns admitted.hs) (ap (λ j. j.submissions) t.job_is) admitted.heads_are in
    record {
      rings = t.rings;
      first = t.first;
      front = front.fronts;
      last = t.last;
      tables = with_placed t.tables (with_heads t.tables.placed admitted.hs);
      whole = behind.1 ∙ ap (λ m. t.first ∷ m) front.is;
      version = t.version;
      admitted = admitted.admitted;
      ends = t.ends;
      enough = t.enough;
      exact = t.exact;
      job_is = ap (λ j. job_with_heads j heads) t.job_is ∙ job_same heads admitted.hs t.tables are;
    }

-- what the code learns
pub reads_so : {X E : Type 0} (v : X → List ℕ) (r : Result X E) (heads : List Head) (job : JobValue) (text numbers : List ℕ) → numbers ≡ job.submissions → JobText (lines_of text) job
    → IfOk r (λ x. Rewritten heads numbers (slice_split is_line_feed text) (slice_split is_line_feed (v x))) → IfOk r (λ x. JobText (lines_of (v x)) (job_with_heads job heads))
reads_so v (Ok x) heads job text numbers is t h = rewritten_is_job heads job text (v x) t (subst (λ (ns : List ℕ). Rewritten heads ns (slice_split is_line_feed text) (slice_split is_line_feed (v x))) is h)
reads_so v (Err e) heads job text numbers is t h = tt
