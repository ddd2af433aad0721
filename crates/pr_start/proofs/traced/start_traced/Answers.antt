use Rattle.std.proofs.Common.{◌≡◌, lit<, ap, subst, sym, ◌∙◌}
use Rattle.kr_core.proofs.law_allowed.SourceLemmas.{settled-are-named}
use Rattle.kr_core.specs.kr_mounts.Standing.{texts_of}
use Rattle.kr_core.specs.kr_mounts.Stored.{table_of}
use Rattle.kr_core.specs.kr_view.View.{plain}
use Rattle.kr_core.proofs.kr_view.TableLemmas.{plain_stands}
use Rattle.pt_tracer.specs.pt_bind.Binding.{rows_of}
use Rattle.pt_tracer.specs.pt_canon.Remembering.{Walking}
use Rattle.pt_tracer.specs.Agreeing.{AgreesWith}
use Rattle.pt_tracer.proofs.AgreeLemmas.{empty-agrees}
use Rattle.pt_tracer.specs.Keeping.{Keeping}
use Rattle.pt_tracer.specs.Watched.{starting_tracing}
use Rattle.pr_start.proofs.FirstLemmas.{can-start}
use Rattle.pr_start.proofs.TracedLemmas.{begins-from, start-meets, traced-begins}
use Rattle.pr_start.specs.TracedBeginning.{BeginsTraced}
use Rattle.pr_start.proofs.traced.start_traced.Goals as goal

pub first_found-requires : goal.first_found-requires
first_found-requires c = record { unpaused = ap (λ (w : Walking). w.pauses) c.in-Ok.ensures }

pub new-tracer-requires : goal.new-tracer-requires
new-tracer-requires c = record { unpaused = ap (λ (w : Walking). w.pauses) c.first_found.ensures.walker }

pub start-requires : goal.start-requires
start-requires c =
    let tree = c.args.stage.tree in
    let user = c.args.stage.user in
    let ready = c.requires.ready.prepared in
    let stands = plain_stands tree ready.settled.sound in
    let bindings = ap (λ (w : Walking). rows_of w.table) c.in-Ok.ensures ∙ c.requires.texts in
    let first = can-start c.firsts_can_start.ensures _ (table_of c.args.stage.places) tree user (rows_of c.in-Ok.walker.table) c.new-tags.result c.first_found.new.tags c.args.launch c.in-Ok-first_found.first ready.settled bindings c.in-Ok-first_found.ensures.begins in
    let empty = ap (λ (w : Walking). w.remembered) c.first_found.ensures.walker in
    let agrees = subst (λ (x : Keeping). AgreesWith x.pausing.walker tree user) (sym c.new-tracer.ensures) (empty-agrees c.first_found.new.walker tree user empty) in
    (lit< tt, (lit< tt, (stands.0, (lit< tt, (ready.free, (ready.lasts, (settled-are-named tree plain stands.1, (first.0, (first.1, agrees)))))))))

-- the tracer begins with the tags of what begins, by bindings that are the texts of the table
pub returns-in-Ok-first_found-clause-begins : goal.returns-in-Ok-first_found-clause-begins
returns-in-Ok-first_found-clause-begins c =
    let stage = c.args.stage in
    let found = rows_of c.in-Ok.walker.table in
    let bindings = ap (λ (w : Walking). rows_of w.table) c.in-Ok.ensures ∙ c.requires.texts in
    let tables : rows_of c.first_found.new.walker.table ≡ found = ap (λ (w : Walking). rows_of w.table) c.first_found.ensures.walker in
    let traced = ap (λ (k : Keeping). k.tracing) c.new-tracer.ensures ∙ ap (λ rows. starting_tracing rows c.first_found.new.tags stage.user c.args.ids) tables in
    subst (λ answer. BeginsTraced answer c.start.result)
    (traced-begins found (texts_of (table_of stage.places)) stage.tree stage.user c.new-tags.result c.first_found.new.tags c.args.ids c.args.launch c.args.input _ c.in-Ok-first_found.first c.new-tracer.result.tracing
    bindings c.new-tags.ensures c.in-Ok-first_found.ensures.begins traced)
    (begins-from _ c.new-tracer.result _ _ c.start.result c.start.ensures)

pub returns-in-Ok-first_found-clause-met : goal.returns-in-Ok-first_found-clause-met
returns-in-Ok-first_found-clause-met c =
    let bindings = ap (λ (w : Walking). rows_of w.table) c.in-Ok.ensures ∙ c.requires.texts in
    start-meets (rows_of c.in-Ok.walker.table) (texts_of (table_of c.args.stage.places)) c.args.stage.tree c.args.stage.user c.new-tags.result c.first_found.new.tags c.args.launch c.in-Ok-first_found.first _ c.new-tracer.result _ c.start.result
    bindings c.new-tags.ensures c.in-Ok-first_found.ensures.begins c.start.ensures
