use Rattle.std.proofs.Common.{◌+◌, sym, ap, ◌∙◌}
use Rattle.std.specs.Prelude.{drop}
use Rattle.pr_words.specs.Command.{or_later, path_of}
use Rattle.pr_words.proofs.PathLemmas.{path-at}
use Rattle.pr_words.proofs.search.path_of.Goals as goal

pub returns-in-Some : goal.returns-in-Some
returns-in-Some c =
    let env = c.args.env.now in
    let k = c.loop-k.k in
    sym (c.loop-k.invariant ∙ path-at env k c.in_ok-variable.variable.now (sym c.in_ok-variable.ensures) ∙ ap (λ o. or_later o (path_of (drop (k + 1) env))) (sym c.in-Some.ensures))

pub loop-k-preserved : goal.loop-k-preserved
loop-k-preserved c =
    let env = c.args.env.now in
    let k = c.loop-k.k in
    c.loop-k.invariant ∙ path-at env k c.in_ok-variable.variable.now (sym c.in_ok-variable.ensures) ∙ ap (λ o. or_later o (path_of (drop (k + 1) env))) (sym c.in_default.ensures)
