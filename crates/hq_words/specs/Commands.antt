-- The program's commands, as `clap`'s own definitions speak of them.
use Rattle.std.specs.Prelude.{◌≡◌, ◌∷◌, List, true, Some, codes}
use Rattle.clap.specs.Words.{App, Rule, Text, is_simple, new_app, new_rule, subcommand_of, with_rule, with_subcommand}
use Rattle.clap.specs.declared.builder.action.ArgAction.TheVariants.{Set, SetTrue, Append}

-- the word JOB, which has to be there
abbrev pub job_rule : Rule
job_rule = record (new_rule (codes "JOB")) { required = true; action = Some Set }

-- the word CERT, which has to be there
abbrev pub file_rule : Rule
file_rule = record (new_rule (codes "CERT")) { required = true; action = Some Set }

-- the word TIMELINE, which has to be there
abbrev pub timeline_rule : Rule
timeline_rule = record (new_rule (codes "TIMELINE")) { required = true; action = Some Set }

-- the command `show JOB`
abbrev pub show_app : App
show_app = with_rule (new_app (codes "show")) job_rule

-- the command `audit JOB`
abbrev pub audit_app : App
audit_app = with_rule (new_app (codes "audit")) job_rule

-- the command `check JOB CERT`
abbrev pub check_app : App
check_app = with_rule (with_rule (new_app (codes "check")) job_rule) file_rule

-- the command `replay JOB TIMELINE`
abbrev pub replay_app : App
replay_app = with_rule (with_rule (new_app (codes "replay")) job_rule) timeline_rule

-- the flag `--copies`
abbrev pub copies_rule : Rule
copies_rule = record (new_rule (codes "COPIES")) { long = Some (codes "copies"); action = Some SetTrue }

-- the command `chart JOB TIMELINE [--copies]`
abbrev pub chart_app : App
chart_app = with_rule (with_rule (with_rule (new_app (codes "chart")) job_rule) timeline_rule) copies_rule

-- the command `graph JOB`
abbrev pub graph_app : App
graph_app = with_rule (new_app (codes "graph")) job_rule

-- not a word by its place, but the one behind `--pair`
abbrev pub pair_rule : Rule
pair_rule = record (new_rule (codes "PAIR")) { long = Some (codes "pair"); action = Some Set }

-- the word behind that
abbrev pub second_rule : Rule
second_rule = record (new_rule (codes "SECOND")) { action = Some Set }

-- the flag `--all`
abbrev pub all_rule : Rule
all_rule = record (new_rule (codes "ALL")) { long = Some (codes "all"); action = Some SetTrue }

-- the command `explain JOB [--pair P R] [--all]`
abbrev pub explain_app : App
explain_app = with_rule
    (with_rule (with_rule (with_rule (new_app (codes "explain")) job_rule) pair_rule) second_rule) all_rule

-- not words by their places, but the ones behind `--good` and `--bad`
abbrev pub good_rule : Rule
good_rule = record (new_rule (codes "GOOD")) { long = Some (codes "good"); action = Some Set }

-- of these the one behind `--bad`
abbrev pub bad_rule : Rule
bad_rule = record (new_rule (codes "BAD")) { long = Some (codes "bad"); action = Some Set }

-- the command `witness JOB [--good GOOD] [--bad BAD]`
abbrev pub witness_app : App
witness_app = with_rule (with_rule (with_rule (new_app (codes "witness")) job_rule) good_rule) bad_rule

-- the command `fix JOB`
abbrev pub fix_app : App
fix_app = with_rule (new_app (codes "fix")) job_rule

-- the command `trim JOB`
abbrev pub trim_app : App
trim_app = with_rule (new_app (codes "trim")) job_rule

-- not a word by its place, but the one behind `--timeline`
abbrev pub out_rule : Rule
out_rule = record (new_rule (codes "OUT")) { long = Some (codes "timeline"); action = Some Set }

-- the command `run JOB [--timeline OUT]`
abbrev pub run_app : App
run_app = with_rule (with_rule (new_app (codes "run")) job_rule) out_rule

-- the words behind `pack`, of which there has to be at least one
abbrev pub words_rule : Rule
words_rule = record (new_rule (codes "WORDS")) { required = true; action = Some Append }

-- the command `pack WORDS..`
abbrev pub pack_app : App
pack_app = with_rule (new_app (codes "pack")) words_rule

-- the program, of which the words leave out the program's name
abbrev pub program_app : App
program_app =
    let new = new_app (codes "hsaq") in
    record new { top = record new.top { has_version = true; no_binary_name = true; subcommand_required = true } }

-- the program with the commands that judge a job, then those of runs, those that explain a job, those that change
-- it, and all
abbrev pub judging_app : App
judging_app = with_subcommand (with_subcommand program_app audit_app.top) check_app.top

-- the same, and with `run`, `replay` and `chart`
abbrev pub running_app : App
running_app = with_subcommand (with_subcommand (with_subcommand judging_app run_app.top) replay_app.top) chart_app.top

-- and with `graph`, `explain` and `witness`
abbrev pub telling_app : App
telling_app = with_subcommand
    (with_subcommand (with_subcommand running_app graph_app.top) explain_app.top) witness_app.top

-- and with `fix` and `trim`
abbrev pub changing_app : App
changing_app = with_subcommand (with_subcommand telling_app fix_app.top) trim_app.top

-- and with `show` and `pack`: the program with all its commands
abbrev pub hsaq_app : App
hsaq_app = with_subcommand (with_subcommand changing_app show_app.top) pack_app.top

-- words that begin with this name mean to the command what they mean to the program with all its commands
pub record ReadsAsAll (name : Text) (app : App) : Type 0 where
  pub simple : is_simple app ≡ true
  pub same : (words : List Text) → subcommand_of app (name ∷ words) ≡ subcommand_of hsaq_app (name ∷ words)
