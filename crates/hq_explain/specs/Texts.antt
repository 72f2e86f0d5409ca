-- The lines of an explanation, as texts of values.
use Rattle.std.specs.Prelude.{ℕ, Bool, ◌||◌, if◌then◌else◌, List, [], ◌++◌, Option, Some, None, is_some, codes}
use Rattle.std.specs.Prelude.{slice_get}
use Rattle.std.specs.Fmt.{decimal}
use Rattle.hq_packet.specs.declared.packet.Scope.{Scope}
use Rattle.hq_job.specs.Value.{JobValue}
use Rattle.hq_job.specs.Plan.{plan}
use Rattle.hq_tables.specs.declared.rows.Placed.{Placed}
use Rattle.hq_tables.specs.declared.rows.Queue.{Queue}
use Rattle.hq_model.specs.Job.{place_in_queue}
use Rattle.hq_fence.specs.declared.shown.Acquire.{Acquire}
use Rattle.hq_fence.specs.declared.shown.Acquire.TheVariants as acquire
use Rattle.hq_finding.specs.declared.kind.Kind.{Kind}
use Rattle.hq_finding.specs.declared.kind.Kind.TheVariants as kind
use Rattle.hq_fence.specs.declared.shown.Release.{Release}
use Rattle.hq_fence.specs.declared.shown.Release.TheVariants as release
use Rattle.hq_fence.specs.declared.shown.Shown.{Shown}
use Rattle.hq_finding.specs.declared.why.Why.{Why}
use Rattle.hq_finding.specs.declared.why.Why.TheVariants as why
use Rattle.hq_graph.specs.Graph.{name_of, named_by, awaited_by, work_of, work_text}
use Rattle.hq_graph.specs.declared.rule.Rule.{Rule}
use Rattle.hq_graph.specs.declared.rule.Rule.TheVariants as rule
use Rattle.hq_graph.specs.declared.wait.Wait.{Wait}
use Rattle.hq_graph.specs.declared.wait.Wait.TheVariants as wait
use Rattle.hq_report.specs.Shown.{kind_word, scope_word}
use Rattle.hq_explain.specs.Shared.{run_between}
use Rattle.hq_explain.specs.declared.advice.Advice.{Advice}
use Rattle.hq_explain.specs.declared.sharing.Run.{Run}
use Rattle.hq_report.specs.Spots.{spot_text}
use Rattle.hq_report.specs.declared.spots.Spot.{Spot}
use Rattle.hq_explain.specs.declared.conflicts.How.{How}
use Rattle.hq_explain.specs.declared.conflicts.How.TheVariants as how
use Rattle.hq_explain.specs.declared.conflicts.Hows.{Hows}
use Rattle.hq_explain.specs.declared.conflicts.KindLine.{KindLine}
use Rattle.hq_explain.specs.declared.packets.Standing.{Standing}

-- ---- packets

-- two packets, by their numbers
abbrev pub pair_text : ℕ → ℕ → List ℕ
pair_text a b = codes "packets " ++ decimal a ++ codes " and " ++ decimal b

-- whether two packets are ordered, in words
abbrev pub ordered_text : Bool → List ℕ
ordered_text ordered = if ordered then codes "ordered" else codes "not ordered"

-- the line of two packets and whether they are ordered
abbrev pub title : ℕ → ℕ → Bool → List ℕ
title a b ordered = pair_text a b ++ codes ": " ++ ordered_text ordered ++ codes "\n"

-- where a packet stands in its queue
abbrev pub place_text : ℕ → Option Queue → List ℕ
place_text place None = []
place_text place (Some queue) = codes ", place " ++ decimal place ++ codes " of queue " ++ queue.name

-- what a packet is, with its kernel's name or its service, and where it stands
abbrev pub standing_text : Standing → List ℕ
standing_text s = kind_word s.packet ++ work_text s.work ++ place_text s.place s.queue

-- what packet p is and where it stands in its queue, if there is such a packet
abbrev pub standing_of : JobValue → ℕ → Option Placed → Option Standing
standing_of job p None = None
standing_of job p (Some placed) =
    Some
    (record {
      packet = placed.packet;
      work = work_of job placed.packet;
      place = place_in_queue (plan job) p;
      queue = slice_get job.queues placed.queue;
    })

-- the line that says so of packet p, and nothing where there is no such packet
abbrev pub packet_text : ℕ → Option Standing → List ℕ
packet_text p None = []
packet_text p (Some standing) = codes "  packet " ++ decimal p ++ codes ": " ++ standing_text standing ++ codes "\n"

-- the line that says what packet p is
abbrev pub packet_line : JobValue → ℕ → List ℕ
packet_line job p = packet_text p (standing_of job p (slice_get job.packets p))

-- two packets, and whether their conflicts are ordered
abbrev pub head_text : JobValue → ℕ → ℕ → Bool → List ℕ
head_text job a b ordered = title a b ordered ++ packet_line job a ++ packet_line job b

-- ---- conflicts

-- where the first of some bytes lies, in its buffer and in memory, and how many there are
abbrev pub bytes_text : ℕ → Option Spot → List ℕ
bytes_text len None = decimal len ++ codes " bytes"
bytes_text len (Some spot) = spot_text spot ++ codes ", " ++ decimal len ++ codes " bytes"

-- in which way p and r conflict: what p does with the bytes, and what r does
abbrev pub kind_words : Kind → ℕ → ℕ → List ℕ
kind_words kind.WriteRead p r = codes "  packet " ++ decimal p ++ codes " writes what packet " ++ decimal r
    ++ codes " reads: "
kind_words kind.WriteWrite p r = codes "  packet " ++ decimal p ++ codes " writes what packet " ++ decimal r
    ++ codes " writes: "
kind_words kind.ReadWrite p r = codes "  packet " ++ decimal p ++ codes " reads what packet " ++ decimal r
    ++ codes " writes: "

-- the line of such a conflict with its bytes, and nothing where there are none
abbrev pub kind_text : Kind → ℕ → ℕ → Option Run → List ℕ
kind_text kind p r None = []
kind_text kind p r (Some run) = kind_words kind p r ++ bytes_text run.len run.spot ++ codes "\n"

-- the line of this kind of conflict of p with r, p first, where there is such a conflict: the first run of bytes
-- that both touch so
abbrev pub kind_line : JobValue → Kind → ℕ → ℕ → List ℕ
kind_line job kind p r = kind_text kind p r (run_between job kind p r)

-- the fences of a release that is a chain, by their packets
abbrev pub two_releases : ℕ → ℕ → List ℕ
two_releases x x2 = codes "the release fences of packets " ++ decimal x ++ codes " and " ++ decimal x2

-- the fence of a release, or the two of one that is a chain
abbrev pub release_text : Release → List ℕ
release_text (release.Alone x) = codes "the release fence of packet " ++ decimal x
release_text (release.Chained x x2) = two_releases x x2

-- the fences of an acquire that is a chain, by their packets
abbrev pub two_acquires : ℕ → ℕ → List ℕ
two_acquires y2 y = codes "the acquire fences of packets " ++ decimal y2 ++ codes " and " ++ decimal y

-- the fence of an acquire, or the two of one that is a chain
abbrev pub acquire_text : Acquire → List ℕ
acquire_text (acquire.Alone y) = codes "the acquire fence of packet " ++ decimal y
acquire_text (acquire.Chained y2 y) = two_acquires y2 y

-- by which fences a kind of conflict is ordered
abbrev pub how_text : How → List ℕ
how_text how.Unsaid = []
how_text (how.Acquired release acquire) = codes "    ordered by " ++ release_text release ++ codes " and "
    ++ acquire_text acquire ++ codes "\n"
how_text (how.Released release) = codes "    ordered by " ++ release_text release ++ codes "\n"
how_text how.NoFence = codes "    needs no fence\n"

-- of a kind of conflict that there is: the bytes, and how it is ordered, if that is told
abbrev pub part_text : KindLine → How → List ℕ
part_text line how = kind_text line.kind line.p line.r line.run ++ how_text how

-- the same of each kind of conflict of p with r, in the order wr, ww, rw
abbrev pub kinds_text : JobValue → ℕ → ℕ → Hows → List ℕ
kinds_text job p r hows =
    kind_line job kind.WriteRead p r ++ how_text hows.wr ++ (kind_line job kind.WriteWrite p r ++ how_text hows.ww)
    ++ (kind_line job kind.ReadWrite p r ++ how_text hows.rw)

-- how a write that the second packet reads is ordered, where it is: by a release and an acquire
abbrev pub wr_how : Option (Release × Acquire) → How
wr_how None = how.Unsaid
wr_how (Some fences) = how.Acquired fences.0 fences.1

-- how two writes are ordered, where they are: by a release
abbrev pub ww_how : Option Release → How
ww_how None = how.Unsaid
ww_how (Some fences) = how.Released fences

-- how a read of what the second packet writes is ordered, where it is: it needs no fence
abbrev pub rw_how : Bool → How
rw_how there = if there then how.NoFence else how.Unsaid

-- how each kind of conflict is ordered, where it is
abbrev pub hows_of : Shown → Hows
hows_of shown = record { wr = wr_how shown.wr; ww = ww_how shown.ww; rw = rw_how shown.rw }

-- of each kind of conflict, that it isn't told how it is ordered
abbrev pub no_hows : Hows
no_hows = record { wr = how.Unsaid; ww = how.Unsaid; rw = how.Unsaid }

-- ---- the order

-- what opens the steps from p to r: that p is complete before r is active
abbrev pub path_title : ℕ → ℕ → List ℕ
path_title p r = codes "  packet " ++ decimal p ++ codes " is complete before packet " ++ decimal r
    ++ codes " is active:\n"

-- which rule makes a step, with the signal's name where the rule has one
abbrev pub rule_text : Rule → Option (List ℕ) → List ℕ
rule_text (rule.Bit j) name = codes "barrier bit of packet " ++ decimal j
rule_text rule.Queue name = codes "barrier packet ahead in its queue"
rule_text (rule.And s) name = codes "barrier-AND on " ++ name_of name
rule_text rule.Or name = codes "barrier-OR, whichever signal it sees"

-- the two packets of a step, p before r
abbrev pub step_words : ℕ → ℕ → List ℕ
step_words p r = codes "    " ++ decimal p ++ codes " before " ++ decimal r

-- a step's line: its two packets and the rule that makes it, with the name of the rule's signal
abbrev pub step_text : ℕ → ℕ → Rule → Option (List ℕ) → List ℕ
step_text p r by name = step_words p r ++ codes ": " ++ rule_text by name ++ codes "\n"

-- the line of a step from p to r, with the rule that makes it
abbrev pub step_line : JobValue → ℕ → ℕ → Rule → List ℕ
step_line job p r by = step_text p r by (named_by job by)

-- why a conflict of p with r isn't ordered
abbrev pub why_line : Why → ℕ → ℕ → List ℕ
why_line why.Unordered p r = codes "  nothing puts one before the other of packets " ++ decimal p ++ codes " and "
    ++ decimal r ++ codes "\n"
why_line why.NotReleased p r =
    codes "  nothing between them releases what packet " ++ decimal p ++ codes " wrote, as far as packet " ++ decimal r
    ++ codes "\n"
why_line why.NotAcquired p r =
    codes "  packet " ++ decimal p ++ codes " is released, but nothing after that acquires for packet " ++ decimal r
    ++ codes "\n"

-- ---- what would order them

-- that packet p's barrier bit would order them once it is set, if it would
abbrev pub bit_line : ℕ → Bool → List ℕ
bit_line p there = if there then codes "    packet " ++ decimal p ++ codes ": set its barrier bit\n" else []

-- the scope with which packet p's acquire fence would order them, if there is one
abbrev pub acquire_line : ℕ → Option Scope → List ℕ
acquire_line p None = []
acquire_line p (Some scope) = codes "    packet " ++ decimal p ++ codes ": acquire " ++ scope_word scope ++ codes "\n"

-- the scope with which packet p's release fence would order them, if there is one
abbrev pub release_line : ℕ → Option Scope → List ℕ
release_line p None = []
release_line p (Some scope) = codes "    packet " ++ decimal p ++ codes ": release " ++ scope_word scope ++ codes "\n"

-- what of packet p would order them, a line each
abbrev pub advice_lines : ℕ → Advice → List ℕ
advice_lines p advice = bit_line p advice.bit ++ acquire_line p advice.acquire ++ release_line p advice.release

-- these lines where something is said of packet p, else none
abbrev pub advice_there : ℕ → Option Advice → List ℕ
advice_there p None = []
advice_there p (Some advice) = advice_lines p advice

-- whether something of a packet would
abbrev pub is_some_advice : Advice → Bool
is_some_advice advice = advice.bit || is_some advice.acquire || is_some advice.release

-- what opens the changes, any one of which would order them
abbrev pub changes_title : List ℕ
changes_title = codes "  any one of these would order them:\n"

-- that no single change would order them
abbrev pub no_change : List ℕ
no_change = codes "  no single barrier bit or fence would order them\n"

-- ---- pairs that aren't told of

-- that p and r don't conflict
abbrev pub apart_line : ℕ → ℕ → List ℕ
apart_line p r = pair_text p r ++ codes ": no conflict\n"

-- how many packets the job has, where p and r were asked for
abbrev pub beyond_line : ℕ → ℕ → ℕ → List ℕ
beyond_line p r count = pair_text p r ++ codes ": the job has " ++ decimal count ++ codes " packets\n"

-- ---- the end

-- how many pairs that conflict weren't told of
abbrev pub left_line : ℕ → List ℕ
left_line count = codes "and " ++ decimal count ++ codes " more pairs that conflict, of which --all tells too\n"

-- that no two packets conflict
abbrev pub none_line : List ℕ
none_line = codes "no two packets conflict\n"

-- ---- packets that can never complete

-- how a packet stands in another's way, with the signal's name where it completes on one
abbrev pub wait_text : Wait → Option (List ℕ) → List ℕ
wait_text wait.Ahead name = codes "stands ahead of it in its queue"
wait_text wait.Slot name = codes "has its slot"
wait_text wait.Turn name = codes "is to be submitted right ahead of it and never is"
wait_text (wait.Signal s) name = codes "completes on " ++ name_of name

-- that r can never complete, and waits for p
abbrev pub waiting_words : ℕ → ℕ → List ℕ
waiting_words p r = codes "packet " ++ decimal r ++ codes " can never complete: it waits for packet " ++ decimal p

-- the line that says so, and how p stands in r's way, with the name of the signal
abbrev pub waiting_text : ℕ → ℕ → Wait → Option (List ℕ) → List ℕ
waiting_text p r by name = waiting_words p r ++ codes ", which " ++ wait_text by name ++ codes "\n"

-- the same in this job, which has the signal's name
abbrev pub waits_line : JobValue → ℕ → ℕ → Wait → List ℕ
waits_line job p r by = waiting_text p r by (awaited_by job by)
