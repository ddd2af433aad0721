use Rattle.std.proofs.Common.{◌≤◌, ◌+◌, length, ap, arith, rules}
use Rattle.std.proofs.lemmas.List.{length-reverse}
use Rattle.pt_bind.specs.Binding.{names_of}
use Rattle.pt_bind.proofs.ByteLemmas.{spelled_in_turn}
use Rattle.kr_walk.proofs.kr_view.RestLemmas.{parts_fewer}
use Rattle.kr_mounts.proofs.order.count.Goals as goal

pub overflow_add-names : goal.overflow_add-names
overflow_add-names c =
    let inv = c.loop-name.invariant in
    let read = ap length c.in-Some.ensures.steps in
    let few = parts_fewer c.args.text.now in
    let small : c.loop-name.names + 1 ≤ length c.args.text.now = omega arith in
    search rules

pub loop-name-preserved : goal.loop-name-preserved
loop-name-preserved c =
    let inv = c.loop-name.invariant in
    let read = ap length c.in-Some.ensures.steps in
    omega arith

pub returns : goal.returns
returns c =
    let inv = c.loop-name.invariant in
    let none = ap length c.in-None.ensures.steps.0 in
    let turned = ap length (spelled_in_turn c.args.text.now c.requires) in
    let same = length-reverse (names_of c.args.text.now) in
    omega arith
