use Rattle.std.proofs.Common.{◌≡◌, Option, Some, sym, ap, subst, ◌∙◌}
use Rattle.std.specs.Prelude.{IfOk}
use Rattle.std.specs.Option.{option_map}
use Rattle.pt_bind.specs.pr_base.Paths.{IsPart}
use Rattle.kr_walk.specs.kr_tree.declared.place.Place.{Place}
use Rattle.kr_walk.specs.kr_view.declared.view.HostMount.{HostMount}
use Rattle.kr_mounts.specs.Found.{source_told}
use Rattle.kr_mounts.specs.Sources.{Source, source_at}
use Rattle.kr_mounts.specs.declared.source.Found.{Found}
use Rattle.kr_mounts.proofs.source.source_at.Goals as goal

pub source_of-requires : goal.source_of-requires
source_of-requires c = λ i is none. subst IsPart (sym c.as_slice.ensures) (c.requires i (ap (option_map (λ (p : Place HostMount). p.host)) c.in-Some.is ∙ ap Some is) none)

pub returns-in-Some-clause-source : goal.returns-in-Some-clause-source
returns-in-Some-clause-source c =
    let t = c.args.tree.now in
    let dir = c.args.target.now.dir.host in
    let same : source_at t dir c.as_slice.result.now (Some c.in-Some.place.host) ≡ source_at t dir c.args.target.now.name (option_map (λ (p : Place HostMount). p.host) c.args.target.now.found) =
    ap (λ n. source_at t dir n (Some c.in-Some.place.host)) c.as_slice.ensures ∙ ap (λ o. source_at t dir c.args.target.now.name (option_map (λ (p : Place HostMount). p.host) o)) (sym c.in-Some.is) in
    let P : Option Source → Type 0 = λ s. IfOk c.source_of.result (λ (f : Option Found). option_map source_told f ≡ s) in
    subst P same c.source_of.ensures.source

pub returns-in-None-clause-source : goal.returns-in-None-clause-source
returns-in-None-clause-source c =
    ap (λ o. source_at c.args.tree.now c.args.target.now.dir.host c.args.target.now.name (option_map (λ (p : Place HostMount). p.host) o)) (sym c.in-None.is)
