use Rattle.std.proofs.Common.{◌≡◌, rules, sym, ◌∙◌}
use Rattle.kr_seen.specs.kr_ops.Meaning.{meaning}
use Rattle.kr_calm.specs.InUse.{is_directory_of, is_in_use}
use Rattle.kr_calm.proofs.AlikeLemmas.{in_use-numbered}
use Rattle.kr_calm.proofs.judging.end_takes_used.Goals as goal

pub returns-clause-numbered : goal.returns-clause-numbered
returns-clause-numbered g c =
    let own : c.any_use.result ≡ is_in_use (is_directory_of c.args.pid) (meaning c.args.state.now) = search rules in
    λ number. own ∙ sym (in_use-numbered number (meaning c.args.state.now) (is_directory_of c.args.pid))
