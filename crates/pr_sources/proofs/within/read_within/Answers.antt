use Rattle.std.proofs.Common.{rules}
use Rattle.pr_io.specs.Drawn.{drawn}
use Rattle.pr_sources.proofs.DrawnLemmas.{drawn_by}
use Rattle.pr_sources.proofs.StageLemmas.{is_early}
use Rattle.pr_sources.proofs.within.read_within.Goals as goal

pub returns-in_err-bytes-clause-told : goal.returns-in_err-bytes-clause-told
returns-in_err-bytes-clause-told g c =
    let d = drawn g.S.Source c.args.source.now c.read_until.new.source in
    let early = is_early c.args.which d c.in_err-bytes.field-0.0 c.in_err-bytes.ensures.refused in
    let h = c.from_residual.ensures in search (rules, early)

pub returns-in_err-bytes-clause-gives : goal.returns-in_err-bytes-clause-gives
returns-in_err-bytes-clause-gives g c = drawn_by _ c.in_err-bytes.ensures.stopped.0 c.in_err-bytes.ensures.stopped.1
