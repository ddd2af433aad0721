use Rattle.std.proofs.Common.{sym, ap, ◌∙◌}
use Rattle.std.specs.Prelude.{not, if◌then◌else◌}
use Rattle.kr_seen.specs.pr_base.declared.errno.Errno.TheVariants.{ENOTDIR, EACCES}
use Rattle.kr_seen.specs.kr_model.Asking.{is_searched}
use Rattle.kr_seen.specs.kr_model.Known.{known}
use Rattle.kr_seen.specs.kr_model.Reply.{refuse}
use Rattle.kr_seen.specs.kr_model.State.{image_layout}
use Rattle.kr_seen.specs.kr_ops.Meaning.{meaning}
use Rattle.kr_attributes.proofs.directories.may_enter.Goals as goal

pub returns-then-not-is_directory_host-clause-err : goal.returns-then-not-is_directory_host-clause-err
returns-then-not-is_directory_host-clause-err g c = λ pid next.
    let k = known image_layout pid (meaning c.args.state.now) in
    let rest = if not (is_searched k c.args.host) then refuse EACCES else next in
    ap (λ b. if not b then refuse ENOTDIR else rest) (sym (c.is_directory_host.ensures.known pid)) ∙ ap (λ b. if not b then refuse ENOTDIR else rest) c.if-not-is_directory_host.true

pub returns-then-not-is_searched-clause-err : goal.returns-then-not-is_searched-clause-err
returns-then-not-is_searched-clause-err g c = λ pid next.
    let k = known image_layout pid (meaning c.args.state.now) in
    let rest = if not (is_searched k c.args.host) then refuse EACCES else next in
    ap (λ b. if not b then refuse ENOTDIR else rest) (sym (c.is_directory_host.ensures.known pid)) ∙ ap (λ b. if not b then refuse ENOTDIR else rest) c.if-not-is_directory_host.false
    ∙ ap (λ b. if not b then refuse EACCES else next) (sym (c.is_searched.ensures pid)) ∙ ap (λ b. if not b then refuse EACCES else next) c.if-not-is_searched.true

pub returns-else-not-is_searched-clause-ok : goal.returns-else-not-is_searched-clause-ok
returns-else-not-is_searched-clause-ok g c = λ pid next.
    let k = known image_layout pid (meaning c.args.state.now) in
    let rest = if not (is_searched k c.args.host) then refuse EACCES else next in
    ap (λ b. if not b then refuse ENOTDIR else rest) (sym (c.is_directory_host.ensures.known pid)) ∙ ap (λ b. if not b then refuse ENOTDIR else rest) c.if-not-is_directory_host.false
    ∙ ap (λ b. if not b then refuse EACCES else next) (sym (c.is_searched.ensures pid)) ∙ ap (λ b. if not b then refuse EACCES else next) c.if-not-is_searched.false
