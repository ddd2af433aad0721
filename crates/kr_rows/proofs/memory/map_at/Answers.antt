use Rattle.std.proofs.Common.{◌*◌, ◌/◌, Bool, Err, sym, ap, ◌∙◌, [], ◌∷◌, if◌then◌else◌, IsErrOf}
use Rattle.kr_seen.specs.pr_base.declared.errno.Errno.TheVariants.{ENOMEM}
use Rattle.kr_seen.specs.rv_mem.declared.fault.MapFault.TheVariants.{Full}
use Rattle.kr_seen.specs.kr_model.Change.{ChangePages, MapPages}
use Rattle.kr_seen.specs.kr_model.Known.{known}
use Rattle.kr_seen.specs.kr_model.MemoryRows.{mapped_among, passes_limit, rights_of}
use Rattle.kr_seen.specs.kr_model.Reply.{Replying, answers, done, refuse}
use Rattle.kr_seen.specs.kr_model.State as model
use Rattle.kr_seen.specs.kr_ops.Meaning.{meaning}
use Rattle.kr_rows.proofs.PagingLemmas.{limits-for, ok-not-full, page-at}
use Rattle.kr_seen.proofs.PerformLemmas.{by-refusal, by-reply}
use Rattle.kr_rows.proofs.memory.map_at.Goals as goal

pub returns-in-Ok-clause-performs : goal.returns-in-Ok-clause-performs
returns-in-Ok-clause-performs g c = λ some.
    let s = meaning c.args.state.now in
    let k = known model.image_layout c.args.pid s in
    let at = c.args.first * 4096 / 4096 in
    let row : Bool → Replying = λ full. if full then refuse ENOMEM else done (c.args.first * 4096) (ChangePages (MapPages c.args.first c.args.count (rights_of c.args.prot)) ∷ []) in
    let free = ok-not-full c.in-Ok.field-0 Full _ (limits-for s c.args.pid c.requires.caller.lives _ at c.args.count c.rights_of.result c.in-Ok.ensures.full) in
    by-reply c.args.pid _ c.args.state.now c.map_pages.new.self c.address.result c.requires.caller.sound.pids (answers (c.args.first * 4096) (ChangePages (MapPages at c.args.count c.rights_of.result) ∷ []))
    (ap row (ap (λ q. passes_limit k c.args.count (mapped_among k.caller.layout q c.args.count)) (sym (page-at c.args.first)) ∙ free)
    ∙ ap (λ q. done (c.args.first * 4096) (ChangePages (MapPages q c.args.count (rights_of c.args.prot)) ∷ [])) (sym (page-at c.args.first))
    ∙ ap (λ r. done (c.args.first * 4096) (ChangePages (MapPages at c.args.count r) ∷ [])) (sym c.rights_of.ensures))
    c.address.ensures c.in-Ok.ensures.makes

pub returns-in-Err-Full-clause-performs : goal.returns-in-Err-Full-clause-performs
returns-in-Err-Full-clause-performs g c = λ some.
    let s = meaning c.args.state.now in
    let k = known model.image_layout c.args.pid s in
    let at = c.args.first * 4096 / 4096 in
    let row : Bool → Replying = λ full. if full then refuse ENOMEM else done (c.args.first * 4096) (ChangePages (MapPages c.args.first c.args.count (rights_of c.args.prot)) ∷ []) in
    let full = (limits-for s c.args.pid c.requires.caller.lives (IsErrOf c.map_pages.result Full) at c.args.count c.rights_of.result c.map_pages.ensures.full).0 (c.in-Err-Full.is ∙ ap (λ x. Err x) c.in-Err-Full.field-0-is) in
    by-refusal c.args.pid _ c.args.state.now c.map_pages.new.self c.refused.result c.requires.caller.sound.pids ENOMEM
    (ap row (ap (λ q. passes_limit k c.args.count (mapped_among k.caller.layout q c.args.count)) (sym (page-at c.args.first)) ∙ full))
    c.refused.ensures c.in-Err-Full.ensures.err
