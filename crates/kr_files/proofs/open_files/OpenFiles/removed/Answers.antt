use Rattle.std.proofs.Common.{◌∙◌, ap}
use Rattle.kr_files.specs.Files.{on_opened}
use Rattle.kr_tree.specs.pr_base.Maps.{mapped}
use Rattle.kr_files.specs.Opened.{after_removal}
use Rattle.kr_files.specs.OpenFiles.{Store}
use Rattle.kr_files.proofs.OpenFileLemmas.{stored-each, numbers-each, files-each}
use Rattle.kr_files.proofs.open_files.OpenFiles.removed.Goals as goal

pub invariant_of-self : goal.invariant_of-self
invariant_of-self g c = stored-each c.self.inside.slab c.forget_all.new.slab (after_removal c.args.dir c.args.name.now) c.forget_all.ensures c.self.invariant

pub returns-clause-keys : goal.returns-clause-keys
returns-clause-keys g c =
    numbers-each c.self.inside.slab c.forget_all.new.slab (after_removal c.args.dir c.args.name.now) c.forget_all.ensures
    ∙ ap (λ (o : Store g.row.M.Denot). o.keys) c.self.view_is

pub returns-clause-files : goal.returns-clause-files
returns-clause-files g c =
    files-each c.self.inside.slab c.forget_all.new.slab (after_removal c.args.dir c.args.name.now) c.forget_all.ensures c.self.invariant.distinct
    ∙ ap (λ (o : Store g.row.M.Denot). mapped (λ n. on_opened (after_removal c.args.dir c.args.name.now)) o.files) c.self.view_is
