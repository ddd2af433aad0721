use Rattle.std.proofs.Common.{ap, ◌∙◌}
use Rattle.law_lawful.specs.kr_files.Files.{Kept}
use Rattle.kr_ops.specs.declared.state.State.{State}
use Rattle.kr_ops.specs.Meaning.{meaning}
use Rattle.kr_ops.specs.Remembering.{forgotten}
use Rattle.kr_ops.proofs.NameLemmas.{forgotten-keeps, names-served, removed-means}
use Rattle.kr_ops.proofs.state.State.remove_name.Goals as goal

pub returns-clause-makes : goal.returns-clause-makes
returns-clause-makes g c = λ pid mounts.
    ap meaning c.forget_all.ensures.others
    ∙ removed-means c.args.self.now pid mounts c.args.dir c.args.name.now c.remove.new.self c.removed.new.self c.forget_all.new.self.living.items c.remove.ensures c.removed.ensures c.forget_all.ensures.living

pub returns-clause-served : goal.returns-clause-served
returns-clause-served g c =
    names-served c.args.self.now c.forget_all.new.self (forgotten c.args.dir c.args.name.now) (forgotten-keeps c.args.dir c.args.name.now)
    (ap (λ (s : State _ _). s.room) c.forget_all.ensures.others)
    (ap (λ (s : State _ _). s.files.keys) c.forget_all.ensures.others ∙ ap (λ (f : Kept _). f.keys) c.removed.ensures) c.forget_all.ensures.living
