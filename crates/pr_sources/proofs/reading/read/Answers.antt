use Rattle.std.proofs.Common.{rules}
use Rattle.pr_io.specs.Drawn.{drawn}
use Rattle.pr_sources.proofs.reading.read.Goals as goal

pub returns-in_err-tree-clause-causes : goal.returns-in_err-tree-clause-causes
returns-in_err-tree-clause-causes g c =
    let caused = c.in_err-tree.ensures.causes (drawn g.I.Source c.args.input.now c.args.input.now) in
    let h = c.from_residual.ensures in search (rules, caused)

pub returns-in_err-tree-clause-ends : goal.returns-in_err-tree-clause-ends
returns-in_err-tree-clause-ends g c =
    let ended = c.in_err-tree.ensures.ends (drawn g.I.Source c.args.input.now c.args.input.now) in
    let h = c.from_residual.ensures in search (rules, ended)
