use Rattle.std.proofs.Common.{◌∙◌, ◌-◌, ◌++◌, Some, ap, sym, take, length}
use Rattle.std.specs.Prelude.{min}
use Rattle.std.specs.FinMap as map
use Rattle.std.specs.Option.{option_map}
use Rattle.kr_files.specs.StoredPipes.{holding}
use Rattle.kr_files.proofs.AnswerLemmas.{on_ok_map, on_error_map, if_ok_map}
use Rattle.kr_tree.proofs.pr_base.MapLemmas.{changed-some, insert-same}
use Rattle.kr_tree.proofs.pr_base.BTreeLemmas.{is_found, found_mut, there_mut, written}
use Rattle.kr_files.proofs.pipes.Pipes.put.Goals as goal

pub unwrap-pipe-requires : goal.unwrap-pipe-requires
unwrap-pipe-requires c = is_found c.self.inside.pipes c.args.self.now c.args.number c.get_mut.result c.self.view_is c.get_mut.ensures.value c.requires

pub returns-clause-count : goal.returns-clause-count
returns-clause-count c =
    let found = found_mut c.self.inside.pipes c.args.self.now c.args.number c.get_mut.result c.unwrap-pipe.result c.self.view_is c.get_mut.ensures.value c.unwrap-pipe.ensures in
    if_ok_map c.put.result _ _ (λ x is. ap (option_map (λ p. min (length c.args.b.now) (65536 - length p.bytes))) found ∙ ap Some (sym is)) c.put.ensures.count

pub returns-clause-ok : goal.returns-clause-ok
returns-clause-ok c =
    let found = found_mut c.self.inside.pipes c.args.self.now c.args.number c.get_mut.result c.unwrap-pipe.result c.self.view_is c.get_mut.ensures.value c.unwrap-pipe.ensures in
    let there = there_mut c.self.inside.pipes c.args.number c.get_mut.result c.unwrap-pipe.result c.get_mut.ensures.value c.unwrap-pipe.ensures in
    on_ok_map c.put.result _ _
    (λ is. written c.self.inside.pipes (c.get_mut.follows.lender c.put.new.self) c.args.self.now c.args.number c.unwrap-pipe.result.now c.put.new.self c.self.view_is there (c.get_mut.follows.holds c.put.new.self).3
    ∙ ap (map.insert c.args.self.now c.args.number) is
    ∙ sym (changed-some c.args.self.now c.args.number (λ p. holding (p.bytes ++ take (65536 - length p.bytes) c.args.b.now) p) c.unwrap-pipe.result.now found))
    c.put.ensures.ok

pub returns-clause-err : goal.returns-clause-err
returns-clause-err c =
    let found = found_mut c.self.inside.pipes c.args.self.now c.args.number c.get_mut.result c.unwrap-pipe.result c.self.view_is c.get_mut.ensures.value c.unwrap-pipe.ensures in
    let there = there_mut c.self.inside.pipes c.args.number c.get_mut.result c.unwrap-pipe.result c.get_mut.ensures.value c.unwrap-pipe.ensures in
    on_error_map c.put.result _ _
    (λ is. written c.self.inside.pipes (c.get_mut.follows.lender c.put.new.self) c.args.self.now c.args.number c.unwrap-pipe.result.now c.put.new.self c.self.view_is there (c.get_mut.follows.holds c.put.new.self).3
    ∙ ap (map.insert c.args.self.now c.args.number) is
    ∙ insert-same c.args.self.now c.args.number c.unwrap-pipe.result.now found)
    c.put.ensures.err
