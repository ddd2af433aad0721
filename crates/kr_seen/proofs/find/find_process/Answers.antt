use Rattle.std.proofs.Common.{sym, ap, ◌∙◌, Some, None}
use Rattle.std.specs.Bool.{if◌then◌else◌}
use Rattle.kr_ops.specs.Meaning.{meaning}
use Rattle.kr_ops.specs.kr_tree.declared.place.ProcAt.TheVariants.{Dir}
use Rattle.kr_seen.proofs.FindLemmas.{at-most, no-number, process-shown}
use Rattle.kr_seen.proofs.find.find_process.Goals as goal

pub returns-in_err-pid : goal.returns-in_err-pid
returns-in_err-pid g c =
    c.from_residual.ensures
    ∙ sym (no-number (meaning c.args.state.now) c.args.name.now c.requires.pids (at-most _ c.numbers_are_small.ensures) (sym c.if-is_self.ensures) (sym c.number_of.ensures ∙ c.in_err-pid.was))

pub returns-then-lives : goal.returns-then-lives
returns-then-lives g c =
    sym (process-shown (meaning c.args.state.now) c.args.name.now c.requires.pids (at-most _ c.numbers_are_small.ensures) (sym c.if-is_self.ensures) c.in_ok-pid.pid (sym c.number_of.ensures ∙ c.in_ok-pid.was)
    ∙ ap (λ b. if b then Some (Dir c.in_ok-pid.pid) else None) (sym c.if-lives.ensures))

pub returns-else-lives : goal.returns-else-lives
returns-else-lives g c =
    sym (process-shown (meaning c.args.state.now) c.args.name.now c.requires.pids (at-most _ c.numbers_are_small.ensures) (sym c.if-is_self.ensures) c.in_ok-pid.pid (sym c.number_of.ensures ∙ c.in_ok-pid.was)
    ∙ ap (λ b. if b then Some (Dir c.in_ok-pid.pid) else None) (sym c.if-lives.ensures))
