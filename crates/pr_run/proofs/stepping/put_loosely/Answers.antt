use Rattle.std.proofs.Common.{◌≡◌, inl, inr, false, rules, refl, sym, ap, subst, ◌∙◌}
use Rattle.std.specs.Prelude.{◌↔◌, Err, IsTrue}
use Rattle.pr_sources.specs.pr_io.Drawn.{received}
use Rattle.pr_sources.specs.pr_io.Moves.{Gets}
use Rattle.pr_sources.specs.kr_text.Canonical.{canonical}
use Rattle.pr_sources.specs.declared.answer.Answer.{Answer}
use Rattle.kr_loose.specs.kr_core.Kernel.{Kernel, machine, machine_by}
use Rattle.kr_loose.specs.LooseRun.{Loose}
use Rattle.kr_loose.specs.Quiet.{IsQuiet}
use Rattle.pr_run.specs.Going.{Since}
use Rattle.pr_run.specs.Puts.{PutsListing, PutsTurns, end_told}
use Rattle.pr_run.specs.Report.{answer_of, errs}
use Rattle.pr_run.specs.Stepping.{PutsLoosely, StandsSince, TellsQuiet, loose_line, loose_ran, loose_report}
use Rattle.pr_run.proofs.BytesLemmas.{gets-trans}
use Rattle.pr_run.proofs.ReportLemmas.{stops-at-calm, stops-at-listing}
use Rattle.pr_run.proofs.SteppingLemmas.{err-is, stops-in-run}
use Rattle.pr_run.proofs.stepping.put_loosely.Goals as goal

pub returns-in_err-end : goal.returns-in_err-end
returns-in_err-end g c =
    let table = g.P.Places.mounts c.args.loose.now.kernel.places in
    let ran = loose_ran g.S.Graphed.does g.row.M table c.args.plan.now (machine_by g.P.Places.number g.S.Graphed.part c.args.loose.now.kernel) in
    let r = loose_report c.args.plan.now ran false in
    let out = received g.O.Sink c.args.out.now c.run_steps.new.out in
    let err = received g.R.Sink c.args.err.now c.run_steps.new.err in
    let left = received g.L.Sink c.args.left.now c.args.left.now in
    let stopped : PutsLoosely (loose_report c.args.plan.now ran) (TellsQuiet g.S.Graphed.asked g.row.M table c.args.loose.now.kernel.met ran) out err left (Err c.in_err-end.field-0.0) =
    record { quiet = false; puts = stops-in-run r out err left refl c.in_err-end.field-0.0 c.in_err-end.ensures.puts; line = inl (c.in_err-end.ensures.puts, refl) } in
    let h = c.from_residual in
    subst (λ ended. PutsLoosely (loose_report c.args.plan.now ran) (TellsQuiet g.S.Graphed.asked g.row.M table c.args.loose.now.kernel.met ran) out err left ended) (sym (err-is h.result c.in_err-end.field-0.0 h.ensures.0 h.ensures.1)) stopped

pub returns-in_err-put_line : goal.returns-in_err-put_line
returns-in_err-put_line g c =
    let old = c.args.loose.now.kernel in
    let new = c.run_steps.new.loose in
    let mounts = g.P.Places.mounts in
    let ran = loose_ran g.S.Graphed.does g.row.M (mounts old.places) c.args.plan.now (machine_by g.P.Places.number g.S.Graphed.part old) in
    let quiet = c.is_quiet-quiet.result in
    let r = loose_report c.args.plan.now ran quiet in
    let out = received g.O.Sink c.args.out.now c.run_steps.new.out in
    let err = received g.R.Sink c.args.err.now c.put_line.new.err in
    let left = received g.L.Sink c.args.left.now c.args.left.now in
    let puts = c.in_ok-end.ensures.puts in
    let told = subst (λ p. (x : Since g.S.Graphed.Part) → StandsSince g.P.Places.number g.S.Graphed.part g.S.Stops.asks (mounts p) new.kernel new.judge x → (IsTrue quiet ↔ IsQuiet g.S.Graphed.asked g.row.M (mounts p) x.0 x.1.steps)) c.in_ok-end.ensures.places c.is_quiet-quiet.ensures in
    let is : TellsQuiet g.S.Graphed.asked g.row.M (mounts old.places) old.met ran quiet = told (old.met, ran.left) c.in_ok-end.ensures.left in
    let stopped : PutsLoosely (loose_report c.args.plan.now ran) (TellsQuiet g.S.Graphed.asked g.row.M (mounts old.places) old.met ran) out err left (Err c.in_err-put_line.field-0.0) = record {
      quiet = quiet;
      puts = stops-at-calm r out err left (g.R.Sink.got c.run_steps.new.err) (g.R.Sink.faults c.run_steps.new.err) c.run_steps.ensures.err_count puts.1 puts.2 refl c.in_err-put_line.field-0.0 c.in_err-put_line.ensures.put;
      line = inr is;
    } in
    let h = c.from_residual-in_err-put_line.ensures in search (rules, stopped)

pub returns-in_err-put_listing : goal.returns-in_err-put_listing
returns-in_err-put_listing g c =
    let number = g.P.Places.number in
    let old = c.args.loose.now.kernel in
    let new = c.run_steps.new.loose in
    let mounts = g.P.Places.mounts in
    let plan = c.args.plan.now in
    let ran = loose_ran g.S.Graphed.does g.row.M (mounts old.places) plan (machine_by number g.S.Graphed.part old) in
    let quiet = c.is_quiet-quiet.result in
    let r = loose_report plan ran quiet in
    let out = received g.O.Sink c.args.out.now c.run_steps.new.out in
    let err = received g.R.Sink c.args.err.now c.put_line.new.err in
    let left = received g.L.Sink c.args.left.now c.put_listing.new.left in
    let puts = c.in_ok-end.ensures.puts in
    let stands = c.in_ok-end.ensures.left in
    let told = subst (λ p. (x : Since g.S.Graphed.Part) → StandsSince number g.S.Graphed.part g.S.Stops.asks (mounts p) new.kernel new.judge x → (IsTrue quiet ↔ IsQuiet g.S.Graphed.asked g.row.M (mounts p) x.0 x.1.steps)) c.in_ok-end.ensures.places c.is_quiet-quiet.ensures in
    let turns : PutsTurns r out err = record { out_got = puts.1; err_got = gets-trans (g.R.Sink.got c.args.err.now) (g.R.Sink.got c.run_steps.new.err) (g.R.Sink.got c.put_line.new.err) (errs r.puts) r.calm puts.2 c.in_ok-put_line.ensures.put } in
    let listing : canonical (machine number c.kernel-kernel.result.now).state.tree plan.user ≡ r.left =
    ap (λ (k : Kernel _ _ _ g.row.M). canonical (machine number k).state.tree plan.user) c.kernel-kernel.ensures ∙ ap (λ (l : Loose g.S.Graphed.Part). canonical l.machine.state.tree plan.user) (sym stands.same) in
    let put = subst (λ bytes. PutsListing bytes left (Err c.in_err-put_listing.field-0.0)) listing c.in_err-put_listing.ensures.put in
    let stopped : PutsLoosely (loose_report plan ran) (TellsQuiet g.S.Graphed.asked g.row.M (mounts old.places) old.met ran) out err left (Err c.in_err-put_listing.field-0.0) = record {
      quiet = quiet;
      puts = stops-at-listing r out err left turns c.in_err-put_listing.field-0.0 put;
      line = inr (told (old.met, ran.left) stands);
    } in
    let h = c.from_residual-in_err-put_listing in
    subst (λ ended. PutsLoosely (loose_report plan ran) (TellsQuiet g.S.Graphed.asked g.row.M (mounts old.places) old.met ran) out err left ended) (sym (err-is h.result c.in_err-put_listing.field-0.0 h.ensures.0 h.ensures.1)) stopped

pub returns : goal.returns
returns g c =
    let number = g.P.Places.number in
    let old = c.args.loose.now.kernel in
    let new = c.run_steps.new.loose in
    let mounts = g.P.Places.mounts in
    let plan = c.args.plan.now in
    let ran = loose_ran g.S.Graphed.does g.row.M (mounts old.places) plan (machine_by number g.S.Graphed.part old) in
    let quiet = c.is_quiet-quiet.result in
    let r = loose_report plan ran quiet in
    let puts = c.in_ok-end.ensures.puts in
    let stands = c.in_ok-end.ensures.left in
    let told = subst (λ p. (x : Since g.S.Graphed.Part) → StandsSince number g.S.Graphed.part g.S.Stops.asks (mounts p) new.kernel new.judge x → (IsTrue quiet ↔ IsQuiet g.S.Graphed.asked g.row.M (mounts p) x.0 x.1.steps)) c.in_ok-end.ensures.places c.is_quiet-quiet.ensures in
    let listing : canonical (machine number c.kernel-kernel.result.now).state.tree plan.user ≡ r.left =
    ap (λ (k : Kernel _ _ _ g.row.M). canonical (machine number k).state.tree plan.user) c.kernel-kernel.ensures ∙ ap (λ (l : Loose g.S.Graphed.Part). canonical l.machine.state.tree plan.user) (sym stands.same) in
    let answer : c.answer_of.result ≡ r.answer =
    c.answer_of.ensures
    ∙ ap (λ status. answer_of (end_told c.in_ok-end.end) status) (c.status.ensures ∙ ap (λ (k : Kernel _ _ _ g.row.M). k.status) c.kernel-kernel.ensures ∙ ap (λ (l : Loose g.S.Graphed.Part). l.machine.tally.status) (sym stands.same))
    ∙ ap (λ ending. answer_of ending ran.left.machine.tally.status) (sym puts.0) in
    record {
      quiet = quiet;
      puts = (
        answer,
        record { out_got = puts.1; err_got = gets-trans (g.R.Sink.got c.args.err.now) (g.R.Sink.got c.run_steps.new.err) (g.R.Sink.got c.put_line.new.err) (errs r.puts) r.calm puts.2 c.in_ok-put_line.ensures.put },
        subst (λ bytes. Gets (g.L.Sink.got c.args.left.now) (g.L.Sink.got c.put_listing.new.left) bytes) listing c.in_ok-put_listing.ensures.put,
      );
      line = inr (told (old.met, ran.left) stands);
    }
