use Rattle.std.proofs.Common.{ap, ◌∙◌}
use Rattle.law_lawful.specs.kr_files.Files.{Kept}
use Rattle.kr_ops.specs.declared.state.State.{State}
use Rattle.kr_ops.specs.Meaning.{meaning}
use Rattle.kr_ops.specs.Remembering.{followed}
use Rattle.kr_ops.proofs.NameLemmas.{followed-keeps, moved-name-means, names-served}
use Rattle.kr_ops.proofs.state.State.move_name.Goals as goal

pub returns-clause-makes : goal.returns-clause-makes
returns-clause-makes g c = λ pid mounts.
    ap meaning c.in_ok-follow_all.ensures.others
    ∙ moved-name-means c.args.self.now pid mounts c.args.dir c.args.name.now c.args.to c.args.new.now c.rename.new.self c.renamed.new.self c.follow_all.new.self.living.items
    c.in_ok-rename.ensures.ok c.in_ok-renamed.ensures.ok c.in_ok-follow_all.ensures.living

pub returns-clause-served : goal.returns-clause-served
returns-clause-served g c =
    names-served c.args.self.now c.follow_all.new.self (followed c.args.dir c.args.name.now c.args.to c.args.new.now) (followed-keeps c.args.dir c.args.name.now c.args.to c.args.new.now)
    (ap (λ (s : State _ _). s.room) c.in_ok-follow_all.ensures.others)
    (ap (λ (s : State _ _). s.files.keys) c.in_ok-follow_all.ensures.others ∙ ap (λ (f : Kept _). f.keys) c.in_ok-renamed.ensures.ok) c.in_ok-follow_all.ensures.living
