use Rattle.std.proofs.Common.{ap, sym, ◌∙◌}
use Rattle.std.specs.Prelude.{◌==◌}
use Rattle.kr_turns.specs.kr_model.State.{Image}
use Rattle.kr_turns.specs.kr_model.kr_calls.Arguments.{number as call_number}
use Rattle.kr_turns.proofs.HereLemmas.{image-numbered}
use Rattle.kr_core.proofs.kernel.calls_execve.Goals as goal

pub returns : goal.returns
returns g c = λ number. ap (λ n. n == 221) c.register.ensures ∙ ap (λ (i : Image). call_number i.regs == 221) (sym (image-numbered number c.args.pid c.args.state.now))
