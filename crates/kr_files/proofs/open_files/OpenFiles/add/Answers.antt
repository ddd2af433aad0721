use Rattle.std.proofs.Common.{◌∙◌, sym, ap, arith}
use Rattle.std.specs.FinMap as map
use Rattle.std.proofs.lemmas.Option.{none-some}
use Rattle.kr_files.specs.declared.open_files.OpenFile.{OpenFile}
use Rattle.kr_files.specs.OpenFiles.{Store, counted}
use Rattle.kr_files.proofs.OpenFileLemmas.{get-files_in, stored-put, numbers-put, files-put}
use Rattle.kr_files.proofs.open_files.OpenFiles.add.Goals as goal

pub invariant_of-self : goal.invariant_of-self
invariant_of-self g c =
    let e : OpenFile g.row.M.Denot = record { number = c.args.number; count = 1; opened = c.args.opened } in
    stored-put c.self.inside.slab c.insert_reserved-key.new.self c.insert_reserved-key.result e c.self.invariant c.insert_reserved-key.ensures.updates (omega arith)
    (λ j a at same. absurd (none-some (counted a)
    (sym c.requires.fresh ∙ sym (ap (λ (o : Store g.row.M.Denot). map.get o.files c.args.number) c.self.view_is) ∙ ap (map.get _) (sym same) ∙ get-files_in c.self.inside.slab.slots j a c.self.invariant.distinct at)))

pub returns-clause-keys : goal.returns-clause-keys
returns-clause-keys g c =
    let e : OpenFile g.row.M.Denot = record { number = c.args.number; count = 1; opened = c.args.opened } in
    numbers-put c.self.inside.slab c.insert_reserved-key.new.self c.insert_reserved-key.result e c.insert_reserved-key.ensures.updates
    ∙ ap (λ (o : Store g.row.M.Denot). map.insert o.keys c.insert_reserved-key.result c.args.number) c.self.view_is
    ∙ ap (λ k. map.insert c.args.self.now.keys k c.args.number) (c.insert_reserved-key.ensures.key ∙ ap (λ (o : Store g.row.M.Denot). o.vacant) c.self.view_is)

pub returns-clause-files : goal.returns-clause-files
returns-clause-files g c =
    let e : OpenFile g.row.M.Denot = record { number = c.args.number; count = 1; opened = c.args.opened } in
    files-put c.self.inside.slab c.insert_reserved-key.new.self c.insert_reserved-key.result e c.self.invariant.distinct (invariant_of-self g c).distinct c.insert_reserved-key.ensures.updates
    (λ a at. absurd (none-some a (sym c.insert_reserved-key.ensures.was_vacant ∙ at)))
    ∙ ap (λ (o : Store g.row.M.Denot). map.insert o.files c.args.number (counted e)) c.self.view_is
