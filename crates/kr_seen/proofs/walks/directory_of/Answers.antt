use Rattle.std.proofs.Common.{sym, ◌∙◌}
use Rattle.std.specs.Prelude.{None, Some}
use Rattle.kr_ops.specs.Meaning.{meaning}
use Rattle.kr_seen.proofs.BaseLemmas.{at-open, is-directory, has-no-place, no-directory, not-dir}
use Rattle.kr_seen.proofs.walks.directory_of.Goals.{in_default-2-via-in-Dir+in_default, in_default-2-via-in_default}
use Rattle.kr_seen.proofs.walks.directory_of.Goals as goal

pub returns-in_default : goal.returns-in_default
returns-in_default g c = λ number table.
    at-open number table (meaning c.args.state.now) c.args.pid c.args.fd None (sym c.in_default.ensures)

pub returns-in-Dir-Some : goal.returns-in-Dir-Some
returns-in-Dir-Some g c = λ number table.
    at-open number table (meaning c.args.state.now) c.args.pid c.args.fd (Some c.in-Some.opened.now) (sym c.in-Some.ensures)
    ∙ is-directory number c.in-Some.opened.now c.in-Dir-Some.place c.in-Dir-Some.is-0 c.in-Dir-Some.is-1

pub returns-in_default-2 : goal.returns-in_default-2
returns-in_default-2 g c = λ number table.
    at-open number table (meaning c.args.state.now) c.args.pid c.args.fd (Some c.in-Some.opened.now) (sym c.in-Some.ensures)
    ∙ elim c.in_default-2.branch [ in_default-2-via-in-Dir+in_default w ↦ has-no-place number c.in-Some.opened.now w.in_default-2.is-1 | in_default-2-via-in_default w ↦ no-directory number c.in-Some.opened.now (not-dir c.in-Some.opened.now.what w.in_default-2.not-Dir-0) ]
