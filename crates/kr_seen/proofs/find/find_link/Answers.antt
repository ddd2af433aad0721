use Rattle.std.proofs.Common.{sym, ap, ◌∙◌, None}
use Rattle.std.specs.Bool.{if◌then◌else◌}
use Rattle.kr_ops.specs.Meaning.{meaning}
use Rattle.kr_ops.specs.kr_view.Living.{in_directory}
use Rattle.kr_seen.proofs.FindLemmas.{link-shown}
use Rattle.kr_seen.proofs.find.find_link.Goals as goal

pub returns-then-lives : goal.returns-then-lives
returns-then-lives g c =
    c.link_named.ensures
    ∙ sym (link-shown (meaning c.args.state.now) c.args.name.now c.args.pid ∙ ap (λ b. if b then in_directory c.args.pid c.args.name.now else None) (sym c.if-lives.ensures))

pub returns-else-lives : goal.returns-else-lives
returns-else-lives g c =
    sym (link-shown (meaning c.args.state.now) c.args.name.now c.args.pid ∙ ap (λ b. if b then in_directory c.args.pid c.args.name.now else None) (sym c.if-lives.ensures))
