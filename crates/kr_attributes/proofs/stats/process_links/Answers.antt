use Rattle.std.proofs.Common.{ℕ, sym, ap, ◌∙◌}
use Rattle.std.specs.Prelude.{not, if◌then◌else◌}
use Rattle.kr_seen.specs.kr_model.AttributeRows.{process_links}
use Rattle.kr_seen.specs.kr_model.Known.{known}
use Rattle.kr_seen.specs.kr_model.State.{image_layout}
use Rattle.kr_seen.specs.kr_ops.Meaning.{meaning}
use Rattle.kr_attributes.proofs.stats.process_links.Goals as goal

pub returns-then-lives : goal.returns-then-lives
returns-then-lives g c = λ pid.
    let k = known image_layout pid (meaning c.args.state.now) in
    sym (ap (process_links k) c.in-Dir.is ∙ ap (λ b. if◌then◌else◌ {A = ℕ} (not b) 0 3) (sym (c.lives.ensures pid) ∙ c.if-lives.true))

pub returns-else-lives : goal.returns-else-lives
returns-else-lives g c = λ pid.
    let k = known image_layout pid (meaning c.args.state.now) in
    sym (ap (process_links k) c.in-Dir.is ∙ ap (λ b. if◌then◌else◌ {A = ℕ} (not b) 0 3) (sym (c.lives.ensures pid) ∙ c.if-lives.false))

pub returns-then-lives-2 : goal.returns-then-lives-2
returns-then-lives-2 g c = λ pid.
    let k = known image_layout pid (meaning c.args.state.now) in
    sym (ap (process_links k) c.in-FdDir.is ∙ ap (λ b. if◌then◌else◌ {A = ℕ} (not b) 0 2) (sym (c.lives-in-FdDir.ensures pid) ∙ c.if-lives-2.true))

pub returns-else-lives-2 : goal.returns-else-lives-2
returns-else-lives-2 g c = λ pid.
    let k = known image_layout pid (meaning c.args.state.now) in
    sym (ap (process_links k) c.in-FdDir.is ∙ ap (λ b. if◌then◌else◌ {A = ℕ} (not b) 0 2) (sym (c.lives-in-FdDir.ensures pid) ∙ c.if-lives-2.false))
