use Rattle.std.proofs.Common.{◌∙◌, sym, ap}
use Rattle.std.specs.FinMap as map
use Rattle.std.specs.Option.{option_map}
use Rattle.kr_files.specs.declared.open_files.OpenFile.{OpenFile}
use Rattle.kr_files.proofs.OpenFileLemmas.{get-numbers_in}
use Rattle.kr_files.proofs.open_files.OpenFiles.vacant_key.Goals as goal

pub returns-clause-free : goal.returns-clause-free
returns-clause-free g c =
    sym (ap (λ s. map.get s.keys c.vacant_key.result) c.self.view_is)
    ∙ get-numbers_in c.self.inside.slab.slots c.vacant_key.result
    ∙ ap (option_map (λ (e : OpenFile g.row.M.Denot). e.number)) c.vacant_key.ensures.vacant
