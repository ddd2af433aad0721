use Rattle.std.proofs.Common.{subst}
use Rattle.kr_files.specs.Laws.{HaveKeys, AreCounted}
use Rattle.kr_files.specs.OpenFiles.{Store}
use Rattle.kr_files.proofs.OpenFileLemmas.{have_keys, are_counted}
use Rattle.kr_files.proofs.open_files.OpenFiles.are_kept.Goals as goal

pub returns-clause-keys : goal.returns-clause-keys
returns-clause-keys g c = subst (λ (o : Store g.row.M.Denot). HaveKeys o.keys o.files) c.self.view_is (have_keys c.self.inside.slab.slots c.self.invariant)

pub returns-clause-counts : goal.returns-clause-counts
returns-clause-counts g c = subst (λ (o : Store g.row.M.Denot). AreCounted o.files) c.self.view_is (are_counted c.self.inside.slab.slots c.self.invariant)
