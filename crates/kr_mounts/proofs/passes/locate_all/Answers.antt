use Rattle.std.proofs.Common.{List, All, Global, Vec, map, refl}
use Rattle.kr_walk.specs.kr_view.View.{Row}
use Rattle.pt_bind.specs.Binding.{IsWritten}
use Rattle.kr_mounts.specs.Found.{HasTexts, located_told, source_told}
use Rattle.kr_mounts.specs.MountTable.{Located, Sourced, located_all, locations, root_row, sources, told}
use Rattle.kr_mounts.specs.Passes.{HasSource, sourced_told}
use Rattle.kr_mounts.specs.Sources.{root_source_by}
use Rattle.kr_mounts.specs.declared.order.Located.{Located as KeptLocated}
use Rattle.kr_mounts.specs.declared.passes.Bindings.{Bindings}
use Rattle.kr_mounts.specs.declared.passes.Sourced.{Sourced as KeptSourced}
use Rattle.kr_mounts.specs.declared.source.Found.{Found}
use Rattle.kr_mounts.proofs.PassLemmas.{told_error, told_next}
use Rattle.kr_mounts.proofs.passes.locate_all.Goals as goal

abbrev all_told : Bindings → Row × List Located
all_told b = (root_row (source_told b.root), map located_told b.located.items)

abbrev AreFit : Bindings → Type 0
AreFit b = IsWritten b.root.text × All HasTexts b.located.items

abbrev IsFit : Found → Type 0
IsFit f = IsWritten f.text

abbrev sources_told : Vec KeptSourced Global → List Sourced
sources_told v = map sourced_told v.items

abbrev HaveSources : Vec KeptSourced Global → Type 0
HaveSources v = All HasSource v.items

abbrev located_of : Vec KeptLocated Global → List Located
located_of v = map located_told v.items

abbrev HaveTexts : Vec KeptLocated Global → Type 0
HaveTexts v = All HasTexts v.items

pub returns-in_err-root : goal.returns-in_err-root
returns-in_err-root c =
    let t = c.args.tree.now in
    let user = c.args.user in
    let whole = located_all t user c.args.root.now c.args.binds.now in
    told_error all_told AreFit whole source_told IsFit (told 0 (root_source_by t user c.args.root.now)) _ refl _ c.in_err-root.ensures _ c.from_residual.ensures.0 c.from_residual.ensures.1

pub returns-in_err-sourced : goal.returns-in_err-sourced
returns-in_err-sourced c =
    let t = c.args.tree.now in
    let user = c.args.user in
    let whole = located_all t user c.args.root.now c.args.binds.now in
    let root = told_next all_told AreFit whole source_told IsFit (told 0 (root_source_by t user c.args.root.now)) _ refl c.in_ok-root.root c.in_ok-root.ensures in
    told_error all_told AreFit whole sources_told HaveSources (sources t user c.args.binds.now) _ root _ c.in_err-sourced.ensures _ c.from_residual-in_err-sourced.ensures.0 c.from_residual-in_err-sourced.ensures.1

pub locate_sources-requires : goal.locate_sources-requires
locate_sources-requires c = c.in_ok-sourced.ensures.1

pub returns-in_err-located : goal.returns-in_err-located
returns-in_err-located c =
    let t = c.args.tree.now in
    let user = c.args.user in
    let whole = located_all t user c.args.root.now c.args.binds.now in
    let root = told_next all_told AreFit whole source_told IsFit (told 0 (root_source_by t user c.args.root.now)) _ refl c.in_ok-root.root c.in_ok-root.ensures in
    let sourced = told_next all_told AreFit whole sources_told HaveSources (sources t user c.args.binds.now) _ root c.in_ok-sourced.sourced c.in_ok-sourced.ensures in
    told_error all_told AreFit whole located_of HaveTexts (locations t user c.in_ok-root.root.inode (map sourced_told c.in_ok-sourced.sourced.items)) _ sourced _ c.in_err-located.ensures _ c.from_residual-in_err-located.ensures.0 c.from_residual-in_err-located.ensures.1

pub returns : goal.returns
returns c =
    let t = c.args.tree.now in
    let user = c.args.user in
    let whole = located_all t user c.args.root.now c.args.binds.now in
    let root = told_next all_told AreFit whole source_told IsFit (told 0 (root_source_by t user c.args.root.now)) _ refl c.in_ok-root.root c.in_ok-root.ensures in
    let sourced = told_next all_told AreFit whole sources_told HaveSources (sources t user c.args.binds.now) _ root c.in_ok-sourced.sourced c.in_ok-sourced.ensures in
    let located = told_next all_told AreFit whole located_of HaveTexts (locations t user c.in_ok-root.root.inode (map sourced_told c.in_ok-sourced.sourced.items)) _ sourced c.in_ok-located.located c.in_ok-located.ensures in
    (located, (c.in_ok-root.ensures.1, c.in_ok-located.ensures.1))
