use Rattle.std.proofs.Common.{rules, ◌≡◌, inl, Ok, Err, arith, ap, subst, sym, ◌∙◌}
use Rattle.pr_run.specs.kr_mounts.MountTable.{settling}
use Rattle.pr_run.specs.kr_mounts.Stored.{table_of}
use Rattle.pr_start.specs.kr_start.Ready.{IsStaged}
use Rattle.pr_start.specs.kr_first.declared.starting.StartFault.TheVariants as fault
use Rattle.pr_start.specs.pr_words.declared.launch.Launch.{Launch}
use Rattle.pr_top.specs.Opening.{launch_of, started_told}
use Rattle.pr_top.proofs.StepwiseLemmas.{all-fuel, begins-by-stage, begins-unsettled, refused-by-stage}
use Rattle.pr_top.proofs.opening.begin.Goals as goal

pub returns-in-Err-Bad-clause-begun : goal.returns-in-Err-Bad-clause-begun
returns-in-Err-Bad-clause-begun c =
    let a = c.args.asked in
    let settled : settling a.tree a.user c.as_slice.result.now c.as_slice-2.result.now ≡ settling a.tree a.user a.options.root a.options.binds =
    λ i. settling a.tree a.user (c.as_slice.ensures i) (c.as_slice-2.ensures i) in
    let bad = subst (λ f. IsStaged a.user (settling a.tree a.user c.as_slice.result.now c.as_slice-2.result.now) (Err f)) c.in-Err-Bad.field-0-is c.in-Err-Bad.ensures.staged in
    let refused = begins-unsettled a (record { index = c.in-Err-Bad.index; why = c.in-Err-Bad.why }) (ap (λ s. s.answer) (sym settled) ∙ bad) in search (rules, refused)

pub returns-in-Ok-kind-clause-begun : goal.returns-in-Ok-kind-clause-begun
returns-in-Ok-kind-clause-begun c =
    let a = c.args.asked in
    let stage = c.in-Ok.stage in
    let settled : settling a.tree a.user c.as_slice.result.now c.as_slice-2.result.now ≡ settling a.tree a.user a.options.root a.options.binds =
    λ i. settling a.tree a.user (c.as_slice.ensures i) (c.as_slice-2.ensures i) in
    let staged = subst (λ s. IsStaged a.user s (Ok stage)) settled c.in-Ok.ensures.staged in
    let launch : Launch = record { command = a.options.command; env = a.options.env; cwd = a.options.cwd; ids = c.ids_for.result } in
    let launched : launch ≡ launch_of a = λ i. record { command = a.options.command; env = a.options.env; cwd = a.options.cwd; ids = c.ids_for.ensures i } in
    let begun = begins-by-stage a stage.tree (table_of stage.places) stage.user c.gives_slots-steps.result launch staged.0 staged.1 staged.2 c.gives_slots-steps.ensures launched c.start_on-kind.result c.in-Ok-kind.kind c.in-Ok-kind.is c.start_on-kind.ensures.begins in
    begun ∙ ap (λ slots. Ok (record { plan = record { turns = a.options.turns; schedule = slots; calm = a.options.calm; user = a.user }; started = started_told c.in-Ok-kind.kind })) (sym c.slots_for.ensures)

pub returns-in-Err-Err-clause-begun : goal.returns-in-Err-Err-clause-begun
returns-in-Err-Err-clause-begun c =
    let a = c.args.asked in
    let stage = c.in-Ok.stage in
    let settled : settling a.tree a.user c.as_slice.result.now c.as_slice-2.result.now ≡ settling a.tree a.user a.options.root a.options.binds =
    λ i. settling a.tree a.user (c.as_slice.ensures i) (c.as_slice-2.ensures i) in
    let staged = subst (λ s. IsStaged a.user s (Ok stage)) settled c.in-Ok.ensures.staged in
    let launch : Launch = record { command = a.options.command; env = a.options.env; cwd = a.options.cwd; ids = c.ids_for.result } in
    let launched : launch ≡ launch_of a = λ i. record { command = a.options.command; env = a.options.env; cwd = a.options.cwd; ids = c.ids_for.ensures i } in
    let known : c.start_on-kind.result ≡ Err (fault.Err c.in-Err-Err.errno) = search (rules, c.in-Err-Err.is, c.in-Err-Err.field-0-is) in
    inl (refused-by-stage a stage.tree (table_of stage.places) stage.user c.gives_slots-steps.result launch staged.0 staged.1 staged.2 c.gives_slots-steps.ensures launched c.start_on-kind.result c.in-Err-Err.errno known c.start_on-kind.ensures.begins)

pub returns-in-Ok-kind-clause-ready : goal.returns-in-Ok-kind-clause-ready
returns-in-Ok-kind-clause-ready c =
    let sound = c.requires.sound in
    let turns = sound.turns in
    record {
      fresh = c.in-Ok-kind.ensures.fresh;
      marked = c.in-Ok-kind.ensures.marked;
      plan = record {
        turns = omega (arith, turns);
        schedule = all-fuel c.args.asked.options.schedule c.args.asked.options.loose c.slots_for.result c.slots_for.ensures sound.schedule sound.loose;
      };
    }
