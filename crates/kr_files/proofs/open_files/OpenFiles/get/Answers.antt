use Rattle.std.proofs.Common.{◌∙◌, sym, ap}
use Rattle.std.specs.Option.{option_map}
use Rattle.std.proofs.lemmas.Option.{none-some}
use Rattle.kr_files.specs.Files.{Counted}
use Rattle.kr_files.proofs.OpenFileLemmas.{file_found, entry_of}
use Rattle.kr_files.proofs.open_files.OpenFiles.get.Goals as goal

pub returns-in-Some-clause-value : goal.returns-in-Some-clause-value
returns-in-Some-clause-value g c =
    sym (ap (option_map (λ (h : Counted g.row.M.Denot). h.opened)) (file_found c.self.inside.slab c.args.self.now c.args.descriptor.key c.args.descriptor.number c.self.view_is c.requires c.in-Some.file.now c.self.invariant.distinct (sym c.in-Some.ensures)))

pub returns-in-None : goal.returns-in-None
returns-in-None g c =
    let entry = entry_of c.self.inside.slab c.args.self.now c.args.descriptor.key c.args.descriptor.number c.self.view_is c.requires in
    absurd (none-some entry.0 (c.in-None.ensures ∙ entry.1))
