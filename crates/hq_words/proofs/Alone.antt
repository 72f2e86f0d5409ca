-- The program with one command alone reads the words of that command as it does with all.
use Rattle.std.proofs.Common.{◌≡◌, ◌∙◌, ◌∷◌, ℕ, Bor, List, codes, map, refl, sym, ap, subst, slice_get, Some, [], true}
use Rattle.std.specs.Prelude.{if◌then◌else◌, fold}
use Rattle.clap.specs.Simple.{built, entered, names_of}
use Rattle.clap.specs.Walk.{Names, Rule, Walk, nothing_held, stop_after, walk_from, walked}
use Rattle.clap.specs.Words.{App, Text, is_simple, subcommand_of, with_subcommand}
use Rattle.clap.proofs.OnLiterals.{clap_on_literals}
use Rattle.clap.proofs.WalkLemmas.{walk_stopped}
use Rattle.hq_words.specs.Commands.{hsaq_app, program_app, ReadsAsAll}
use Rattle.hq_words.specs.Commands.{show_app, audit_app, check_app, run_app, replay_app, chart_app, graph_app, explain_app, witness_app, fix_app, trim_app, pack_app}

-- the first word is met as the name of a command
abbrev IsMet : App → Text → Type 0
IsMet app name = ◌≡◌ {A = Walk} (walked (built app).top.rules (names_of (built app)) (walk_from nothing_held) name) (record (walk_from nothing_held) { stopped = Some (name, []) })

stops : (c : List Rule) (names : Names) (name : Text) (words : List Text) → ◌≡◌ {A = Walk} (walked c names (walk_from nothing_held) name) (record (walk_from nothing_held) { stopped = Some (name, []) }) → stop_after c names (name ∷ words) ≡ Some (name, words)
stops c names name words met =
    ap (λ (w : Walk). (fold (walked c names) w words).stopped) met ∙ sym (ap (λ (w : Walk). w.stopped) (walk_stopped c names (walk_from nothing_held) name [] words))

pub reads : (app : App) (name : Text) (words : List Text) → app.top.no_binary_name ≡ true → IsMet app name → subcommand_of app (name ∷ words) ≡ entered (built app) (Some (name, words))
reads app name words bare met =
    ap (λ b. entered (built app) (stop_after (built app).top.rules (names_of (built app)) (if b then name ∷ words else words))) bare ∙ ap (entered (built app)) (stops (built app).top.rules (names_of (built app)) name words met)

reads_alone : (alone : App) (name : Text) → is_simple alone ≡ true → alone.top.no_binary_name ≡ true → IsMet alone name → IsMet hsaq_app name → ((words : List Text) → entered (built alone) (Some (name, words)) ≡ entered (built hsaq_app) (Some (name, words))) → ReadsAsAll name alone
reads_alone alone name simple bare met met_by_all same = record {
  simple = simple;
  same = λ words. reads alone name words bare met ∙ same words ∙ sym (reads hsaq_app name words refl met_by_all);
}

-- so it is of words of which the first is the name
pub first_is : (words : List (Bor (List ℕ))) (name : Bor (List ℕ)) (app : App) → slice_get words 0 ≡ Some name → ReadsAsAll name.now app → subcommand_of app (map (λ w. w.now) words) ≡ subcommand_of hsaq_app (map (λ w. w.now) words)
first_is [] name app is reads = absurd cc
first_is (w ∷ ws) name app is reads =
    let same : w ≡ name = cc in
    subst (λ (n : Bor (List ℕ)). subcommand_of app (n.now ∷ map (λ w. w.now) ws) ≡ subcommand_of hsaq_app (n.now ∷ map (λ w. w.now) ws)) (sym same) (reads.same (map (λ w. w.now) ws))

-- so it is where name and command are these
pub alone_where : (name other : Text) (app command : App) → name ≡ other → app ≡ command → ReadsAsAll other (with_subcommand program_app command.top) → ReadsAsAll name (with_subcommand program_app app.top)
alone_where name other app command is_name is_command reads =
    subst (λ (n : Text). ReadsAsAll n (with_subcommand program_app app.top)) (sym is_name) (subst (λ (a : App). ReadsAsAll other (with_subcommand program_app a.top)) (sym is_command) reads)

pub show_alone : ReadsAsAll (codes "show") (with_subcommand program_app show_app.top)
unfolding clap_on_literals
show_alone = reads_alone (with_subcommand program_app show_app.top) (codes "show") refl refl refl refl (λ words. refl)

pub audit_alone : ReadsAsAll (codes "audit") (with_subcommand program_app audit_app.top)
unfolding clap_on_literals
audit_alone = reads_alone (with_subcommand program_app audit_app.top) (codes "audit") refl refl refl refl (λ words. refl)

pub check_alone : ReadsAsAll (codes "check") (with_subcommand program_app check_app.top)
unfolding clap_on_literals
check_alone = reads_alone (with_subcommand program_app check_app.top) (codes "check") refl refl refl refl (λ words. refl)

pub run_alone : ReadsAsAll (codes "run") (with_subcommand program_app run_app.top)
unfolding clap_on_literals
run_alone = reads_alone (with_subcommand program_app run_app.top) (codes "run") refl refl refl refl (λ words. refl)

pub replay_alone : ReadsAsAll (codes "replay") (with_subcommand program_app replay_app.top)
unfolding clap_on_literals
replay_alone = reads_alone (with_subcommand program_app replay_app.top) (codes "replay") refl refl refl refl (λ words. refl)

pub chart_alone : ReadsAsAll (codes "chart") (with_subcommand program_app chart_app.top)
unfolding clap_on_literals
chart_alone = reads_alone (with_subcommand program_app chart_app.top) (codes "chart") refl refl refl refl (λ words. refl)

pub graph_alone : ReadsAsAll (codes "graph") (with_subcommand program_app graph_app.top)
unfolding clap_on_literals
graph_alone = reads_alone (with_subcommand program_app graph_app.top) (codes "graph") refl refl refl refl (λ words. refl)

pub explain_alone : ReadsAsAll (codes "explain") (with_subcommand program_app explain_app.top)
unfolding clap_on_literals
explain_alone = reads_alone (with_subcommand program_app explain_app.top) (codes "explain") refl refl refl refl (λ words. refl)

pub witness_alone : ReadsAsAll (codes "witness") (with_subcommand program_app witness_app.top)
unfolding clap_on_literals
witness_alone = reads_alone (with_subcommand program_app witness_app.top) (codes "witness") refl refl refl refl (λ words. refl)

pub fix_alone : ReadsAsAll (codes "fix") (with_subcommand program_app fix_app.top)
unfolding clap_on_literals
fix_alone = reads_alone (with_subcommand program_app fix_app.top) (codes "fix") refl refl refl refl (λ words. refl)

pub trim_alone : ReadsAsAll (codes "trim") (with_subcommand program_app trim_app.top)
unfolding clap_on_literals
trim_alone = reads_alone (with_subcommand program_app trim_app.top) (codes "trim") refl refl refl refl (λ words. refl)

pub pack_alone : ReadsAsAll (codes "pack") (with_subcommand program_app pack_app.top)
unfolding clap_on_literals
pack_alone = reads_alone (with_subcommand program_app pack_app.top) (codes "pack") refl refl refl refl (λ words. refl)
