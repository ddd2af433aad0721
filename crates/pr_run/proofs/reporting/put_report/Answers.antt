use Rattle.std.proofs.Common.{◌≡◌, rules, refl, sym, ap, subst, ◌∙◌}
use Rattle.std.specs.Prelude.{Err}
use Rattle.std.specs.Option.{option_map}
use Rattle.pr_sources.specs.pr_io.Drawn.{received}
use Rattle.pr_sources.specs.pr_io.Moves.{Gets}
use Rattle.kr_loose.specs.kr_core.Kernel.{machine}
use Rattle.pr_sources.specs.kr_text.Canonical.{canonical}
use Rattle.kr_loose.specs.kr_turns.Turn.{Machine}
use Rattle.kr_loose.specs.kr_calm.Calm.{rule_number}
use Rattle.pr_run.specs.Report.{calm_told, errs, report_of}
use Rattle.pr_run.specs.Puts.{PutsCalm, PutsListing, PutsTurns}
use Rattle.pr_run.specs.Slots.{run_of}
use Rattle.pr_run.proofs.BytesLemmas.{gets-trans}
use Rattle.pr_run.proofs.ReportLemmas.{stops-at-calm, stops-at-listing}
use Rattle.pr_run.proofs.reporting.put_report.Goals as goal

pub returns-in_err-put_calm : goal.returns-in_err-put_calm
returns-in_err-put_calm g c =
    let plan = c.args.plan.now in
    let ran = run_of g.S.Graphed.part g.S.Graphed.does g.P.Places.mounts g.P.Places.number plan c.args.kernel.now in
    let r = report_of plan ran in
    let puts = c.in_ok-end.ensures.puts in
    let calm : calm_told plan.calm c.broken.result ≡ r.calm = ap (calm_told plan.calm) (c.broken.ensures ∙ ap (λ (m : Machine g.S.Graphed.Part). option_map rule_number m.tally.broken) (sym c.in_ok-end.ensures.machine)) in
    let put = subst (λ line. PutsCalm line (received g.R.Sink c.run_turns.new.err c.put_calm.new.err) (Err c.in_err-put_calm.field-0.0)) calm c.in_err-put_calm.ensures.put in
    let stopped =
    stops-at-calm r (received g.O.Sink c.args.out.now c.run_turns.new.out) (received g.R.Sink c.args.err.now c.put_calm.new.err) (received g.L.Sink c.args.left.now c.args.left.now)
    (g.R.Sink.got c.run_turns.new.err) (g.R.Sink.faults c.run_turns.new.err) c.run_turns.ensures.err_count puts.1 puts.2 refl c.in_err-put_calm.field-0.0 put in
    let h = c.from_residual-in_err-put_calm.ensures in search (rules, stopped)

pub returns-in_err-put_listing : goal.returns-in_err-put_listing
returns-in_err-put_listing g c =
    let number = g.P.Places.number in
    let plan = c.args.plan.now in
    let ran = run_of g.S.Graphed.part g.S.Graphed.does g.P.Places.mounts number plan c.args.kernel.now in
    let r = report_of plan ran in
    let out = received g.O.Sink c.args.out.now c.run_turns.new.out in
    let err = received g.R.Sink c.args.err.now c.put_calm.new.err in
    let left = received g.L.Sink c.args.left.now c.put_listing.new.left in
    let puts = c.in_ok-end.ensures.puts in
    let calm : calm_told plan.calm c.broken.result ≡ r.calm = ap (calm_told plan.calm) (c.broken.ensures ∙ ap (λ (m : Machine g.S.Graphed.Part). option_map rule_number m.tally.broken) (sym c.in_ok-end.ensures.machine)) in
    let line = subst (λ bytes. Gets (g.R.Sink.got c.run_turns.new.err) (g.R.Sink.got c.put_calm.new.err) bytes) calm c.in_ok-put_calm.ensures.put in
    let turns : PutsTurns r out err = record { out_got = puts.1; err_got = gets-trans (g.R.Sink.got c.args.err.now) (g.R.Sink.got c.run_turns.new.err) (g.R.Sink.got c.put_calm.new.err) (errs r.puts) r.calm puts.2 line } in
    let listing : canonical (machine number c.run_turns.new.kernel).state.tree plan.user ≡ r.left = ap (λ (m : Machine g.S.Graphed.Part). canonical m.state.tree plan.user) (sym c.in_ok-end.ensures.machine) in
    let put = subst (λ bytes. PutsListing bytes left (Err c.in_err-put_listing.field-0.0)) listing c.in_err-put_listing.ensures.put in
    let stopped = stops-at-listing r out err left turns c.in_err-put_listing.field-0.0 put in
    let h = c.from_residual-in_err-put_listing.ensures in search (rules, stopped)
