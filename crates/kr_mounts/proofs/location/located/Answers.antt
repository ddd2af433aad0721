use Rattle.std.proofs.Common.{◌≡◌, ◌≢◌, [], true, false, sym, ap, ◌∙◌}
use Rattle.kr_mounts.specs.Locations.{located_at}
use Rattle.kr_mounts.proofs.CutLemmas.{below_empty, below_written, located_some}
use Rattle.kr_mounts.proofs.location.located.Goals as goal

pub returns-then-is_empty : goal.returns-then-is_empty
returns-then-is_empty c = ap located_at (sym (below_empty c.args.text (c.is_empty.ensures.0 c.if-is_empty.true) c.requires))

pub returns : goal.returns
returns c =
    let some : c.args.text ≢ [] = λ none. let is = c.is_empty.ensures.1 none in let not = c.if-is_empty.false in let clash : true ≡ false = sym is ∙ not in absurd (let no : ⊥ = cc in no) in
    (located_some c.args.text some c.requires, below_written c.args.text some c.requires)
