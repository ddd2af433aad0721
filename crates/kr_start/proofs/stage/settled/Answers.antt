use Rattle.std.proofs.Common.{◌≤◌, ◌∙◌, List, ap, length, sym, subst, arith}
use Rattle.std.proofs.lemmas.Bool.Decides.{nat_tests}
use Rattle.law_walks.specs.pt_bind.Binding.{rows_of}
use Rattle.law_walks.specs.kr_mounts.Standing.{texts_of}
use Rattle.law_walks.specs.kr_mounts.Stored.{table_of}
use Rattle.law_walks.specs.kr_mounts.declared.mount.Mount.{Mount}
use Rattle.kr_start.specs.Ready.{IsReady}
use Rattle.kr_start.proofs.ReadyLemmas.{few-rows, has-numbers, rows-texts, settled-prepared}
use Rattle.kr_start.proofs.stage.settled.Goals as goal

pub settle-requires : goal.settle-requires
settle-requires c = has-numbers c.args.tree c.args.user c.requires.listing c.trees_are_kept.ensures.kept

pub returns-clause-ready : goal.returns-clause-ready
returns-clause-ready c =
    let u = c.settle.new.tree in
    let mounts = c.in_ok-settled.settled in
    let told = c.in_ok-settled.ensures.settled in
    let short : length c.bounds.result.now ≤ 4294967295 = grind (arith, nat_tests) in
    let prepared = settled-prepared c.args.tree u c.args.user c.args.root.now c.args.binds.now (table_of mounts) c.requires.listing c.trees_are_kept.ensures.kept c.trees_are_kept.ensures.there c.requires.numbered c.settle.ensures.grown told.0 told.1 c.settled_bindings_are_settled.ensures in
    subst (λ (m : List Mount). IsReady u c.args.user (table_of m)) (sym c.in_ok-places.ensures) (record { prepared = prepared; few = few-rows mounts c.bounds.result.now c.bounds.ensures short })

pub returns-clause-texts : goal.returns-clause-texts
returns-clause-texts c =
    let mounts = c.in_ok-settled.settled in
    ap rows_of (c.in_ok-texts.ensures ∙ c.bounds-2.ensures) ∙ rows-texts mounts ∙ ap (λ (m : List Mount). texts_of (table_of m)) (sym c.in_ok-places.ensures)
