use Rattle.std.proofs.Common.{Ok, sym, ap, subst, ◌∙◌}
use Rattle.pr_run.specs.kr_mounts.Standing.{texts_of}
use Rattle.pr_run.specs.kr_mounts.Stored.{table_of}
use Rattle.pr_start.specs.Beginning.{beginning}
use Rattle.pr_start.specs.TracedBeginning.{start_meets, traced_beginning, traced_machine}
use Rattle.pr_top.specs.Opening.{Mounts, StartsAs, Traced, started_as, started_on, stepwise, stepwise_start, watch_for}
use Rattle.pr_top.proofs.StepwiseLemmas.{mounts-stepwise, traced-stepwise}
use Rattle.pr_top.proofs.opening.start_on.Goals as goal

pub returns-then-native-clause-begins : goal.returns-then-native-clause-begins
returns-then-native-clause-begins c =
    let stage = c.args.stage in
    let table = table_of stage.places in
    let met = start_meets (texts_of table) stage.tree stage.user c.args.launch in
    subst (λ expected. StartsAs expected c.start_mounted.result)
    (ap (λ watch. started_as (Mounts table) (beginning table stage.tree stage.user watch c.args.launch c.args.input)) c.watch_for-watch.ensures
    ∙ sym (mounts-stepwise c.args.steps met table (beginning table stage.tree stage.user (watch_for stage.user c.args.ids) c.args.launch c.args.input))
    ∙ ap (λ native. stepwise_start c.args.steps met (started_on native table stage.tree stage.user c.args.ids c.args.launch c.args.input)) (sym c.if-native.true))
    c.start_mounted.ensures.begins

pub returns-in-Ok-clause-begins : goal.returns-in-Ok-clause-begins
returns-in-Ok-clause-begins c =
    let stage = c.args.stage in
    let table = table_of stage.places in
    let met = start_meets (texts_of table) stage.tree stage.user c.args.launch in
    let kernel = c.in-Ok.kernel in
    ap (λ native. stepwise_start c.args.steps met (started_on native table stage.tree stage.user c.args.ids c.args.launch c.args.input)) c.if-native.false
    ∙ traced-stepwise c.args.steps met (traced_beginning (texts_of table) stage.tree stage.user c.args.ids c.args.launch c.args.input) (traced_machine kernel) c.in-Ok.ensures.begins.0
    ∙ ap (λ m. Ok (stepwise c.args.steps m (Traced (traced_machine kernel)))) (sym c.in-Ok.ensures.met)
    ∙ ap (λ started. Ok started) (sym c.watched_kind.ensures.kind)
