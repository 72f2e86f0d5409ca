use Rattle.std.proofs.Common.{codes}
use Rattle.clap.specs.Words.{app_of}
use Rattle.hq_words.specs.Commands.{show_app, audit_app, check_app, run_app, replay_app, chart_app, graph_app, explain_app, witness_app, fix_app, trim_app, pack_app}
use Rattle.hq_words.proofs.Alone.{alone_where, show_alone, audit_alone, check_alone, run_alone, replay_alone, chart_alone, graph_alone, explain_alone, witness_alone, fix_alone, trim_alone, pack_alone}
use Rattle.hq_words.proofs.command.named.Goals as goal

pub returns-in_ok-show-in-show-clause-alone : goal.returns-in_ok-show-in-show-clause-alone
returns-in_ok-show-in-show-clause-alone c = alone_where c.args.name.now (codes "show") (app_of c.in_ok-show-in-show.field-0) show_app c.in-show.is c.in_ok-show-in-show.ensures.app show_alone

pub returns-in_ok-audit-in-audit-clause-alone : goal.returns-in_ok-audit-in-audit-clause-alone
returns-in_ok-audit-in-audit-clause-alone c = alone_where c.args.name.now (codes "audit") (app_of c.in_ok-audit-in-audit.field-0) audit_app c.in-audit.is c.in_ok-audit-in-audit.ensures.app audit_alone

pub returns-in_ok-check-in-check-clause-alone : goal.returns-in_ok-check-in-check-clause-alone
returns-in_ok-check-in-check-clause-alone c = alone_where c.args.name.now (codes "check") (app_of c.in_ok-check-in-check.field-0) check_app c.in-check.is c.in_ok-check-in-check.ensures.app check_alone

pub returns-in_ok-run-in-run-clause-alone : goal.returns-in_ok-run-in-run-clause-alone
returns-in_ok-run-in-run-clause-alone c = alone_where c.args.name.now (codes "run") (app_of c.in_ok-run-in-run.field-0) run_app c.in-run.is c.in_ok-run-in-run.ensures.app run_alone

pub returns-in_ok-replay-in-replay-clause-alone : goal.returns-in_ok-replay-in-replay-clause-alone
returns-in_ok-replay-in-replay-clause-alone c = alone_where c.args.name.now (codes "replay") (app_of c.in_ok-replay-in-replay.field-0) replay_app c.in-replay.is c.in_ok-replay-in-replay.ensures.app replay_alone

pub returns-in_ok-chart-in-chart-clause-alone : goal.returns-in_ok-chart-in-chart-clause-alone
returns-in_ok-chart-in-chart-clause-alone c = alone_where c.args.name.now (codes "chart") (app_of c.in_ok-chart-in-chart.field-0) chart_app c.in-chart.is c.in_ok-chart-in-chart.ensures.app chart_alone

pub returns-in_ok-graph-in-graph-clause-alone : goal.returns-in_ok-graph-in-graph-clause-alone
returns-in_ok-graph-in-graph-clause-alone c = alone_where c.args.name.now (codes "graph") (app_of c.in_ok-graph-in-graph.field-0) graph_app c.in-graph.is c.in_ok-graph-in-graph.ensures.app graph_alone

pub returns-in_ok-explain-in-explain-clause-alone : goal.returns-in_ok-explain-in-explain-clause-alone
returns-in_ok-explain-in-explain-clause-alone c = alone_where c.args.name.now (codes "explain") (app_of c.in_ok-explain-in-explain.field-0) explain_app c.in-explain.is c.in_ok-explain-in-explain.ensures.app explain_alone

pub returns-in_ok-witness-in-witness-clause-alone : goal.returns-in_ok-witness-in-witness-clause-alone
returns-in_ok-witness-in-witness-clause-alone c = alone_where c.args.name.now (codes "witness") (app_of c.in_ok-witness-in-witness.field-0) witness_app c.in-witness.is c.in_ok-witness-in-witness.ensures.app witness_alone

pub returns-in_ok-fix-in-fix-clause-alone : goal.returns-in_ok-fix-in-fix-clause-alone
returns-in_ok-fix-in-fix-clause-alone c = alone_where c.args.name.now (codes "fix") (app_of c.in_ok-fix-in-fix.field-0) fix_app c.in-fix.is c.in_ok-fix-in-fix.ensures.app fix_alone

pub returns-in_ok-trim-in-trim-clause-alone : goal.returns-in_ok-trim-in-trim-clause-alone
returns-in_ok-trim-in-trim-clause-alone c = alone_where c.args.name.now (codes "trim") (app_of c.in_ok-trim-in-trim.field-0) trim_app c.in-trim.is c.in_ok-trim-in-trim.ensures.app trim_alone

pub returns-in_ok-pack-in-pack-clause-alone : goal.returns-in_ok-pack-in-pack-clause-alone
returns-in_ok-pack-in-pack-clause-alone c = alone_where c.args.name.now (codes "pack") (app_of c.in_ok-pack-in-pack.field-0) pack_app c.in-pack.is c.in_ok-pack-in-pack.ensures.app pack_alone
