use Rattle.std.proofs.Common.{Ok, Result, sym, ap, ◌∙◌}
use Rattle.pt_bind.specs.pr_base.Texts.{Text}
use Rattle.kr_mounts.specs.Found.{HasTexts, located_told, source_told}
use Rattle.kr_mounts.specs.Locations.{location_by}
use Rattle.kr_mounts.specs.MountTable.{Located, Refusal, and_then, located, told}
use Rattle.kr_mounts.specs.Passes.{sourced_told}
use Rattle.kr_mounts.proofs.StopLemmas.{located_fault}
use Rattle.kr_mounts.proofs.passes.locate.Goals as goal

pub returns-in-Ok : goal.returns-in-Ok
returns-in-Ok c =
    let bind = c.args.one.bind.now in
    let go : Text → Result Located Refusal = λ location. Ok (record { index = bind.index; keep = bind.keep; source = source_told c.args.one.source; location = location }) in
    let by = location_by c.args.tree.now c.args.user c.args.root bind.keep in
    (ap (λ r. and_then (told bind.index r) go) (sym (c.in-Ok.ensures.0 ∙ ap by c.as_slice.ensures)), record { source = c.requires; location = c.in-Ok.ensures.1 })

pub returns-in-Err : goal.returns-in-Err
returns-in-Err c =
    let bind = c.args.one.bind.now in
    let go : Text → Result Located Refusal = λ location. Ok (record { index = bind.index; keep = bind.keep; source = source_told c.args.one.source; location = location }) in
    let by = location_by c.args.tree.now c.args.user c.args.root bind.keep in
    located_fault located_told HasTexts (located c.args.tree.now c.args.user c.args.root (sourced_told c.args.one)) bind.index (by c.as_slice.result.now) go (ap (λ b. and_then (told bind.index (by b)) go) (sym c.as_slice.ensures))
    _ c.in-Err.ensures _ c.fault_of.ensures
