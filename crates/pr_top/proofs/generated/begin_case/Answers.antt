use Rattle.std.proofs.Common.{rules}
use Rattle.pr_start.specs.kr_core.Kernel.{machine}
use Rattle.pr_run.specs.kr_mounts.Stored.{table_of}
use Rattle.pr_start.specs.Numbers.{number_of}
use Rattle.pr_start.specs.TracedBeginning.{traced_machine}
use Rattle.pr_top.specs.Opening.{case_staged}
use Rattle.pr_top.proofs.GeneratedLemmas.{both, unmounted, unwatched}
use Rattle.pr_top.proofs.generated.begin_case.Goals as goal

pub returns-in_err-user-clause-begun : goal.returns-in_err-user-clause-begun
returns-in_err-user-clause-begun c =
    let stopped = unwatched c.args.number c.args.options (case_staged c.args.number) c.in_err-user.field-0.0 c.in_err-user.ensures.begins in
    let h = c.from_residual.ensures in search (rules, stopped)

pub returns-in-Err-clause-begun : goal.returns-in-Err-clause-begun
returns-in-Err-clause-begun c =
    unmounted c.args.number c.args.options (case_staged c.args.number) (c.in_ok-user.user, traced_machine c.in_ok-user.watched) c.in-Err.answer c.in_ok-user.ensures.begins.0 c.in-Err.ensures.begins

pub returns-clause-begun : goal.returns-clause-begun
returns-clause-begun c =
    both c.args.number c.args.options (case_staged c.args.number) (c.in_ok-user.user, traced_machine c.in_ok-user.watched) (table_of c.in-Ok.mounted.places, machine number_of c.in-Ok.mounted)
    c.in_ok-user.ensures.begins.0 c.in-Ok.ensures.begins.0
