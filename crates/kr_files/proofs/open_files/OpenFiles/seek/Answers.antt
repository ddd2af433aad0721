use Rattle.std.proofs.Common.{refl}
use Rattle.kr_files.specs.declared.open_files.OpenFile.{OpenFile}
use Rattle.kr_files.specs.Files.{on_opened, at_offset}
use Rattle.kr_files.proofs.OpenFileLemmas.{has_key, stored-changed, numbers-changed, files-changed}
use Rattle.kr_files.proofs.open_files.OpenFiles.seek.Goals as goal

pub index_mut-file-requires : goal.index_mut-file-requires
index_mut-file-requires g c = has_key c.self.inside.slab c.args.self.now c.args.descriptor.key c.args.descriptor.number c.self.view_is c.requires

pub invariant_of-self : goal.invariant_of-self
invariant_of-self g c =
    let now : OpenFile g.row.M.Denot = record { number = c.index_mut-file.result.now.number; count = c.index_mut-file.result.now.count; opened = at_offset c.args.at c.index_mut-file.result.now.opened } in
    stored-changed c.self.inside.slab c.args.self.now c.args.descriptor.key c.args.descriptor.number c.self.view_is c.requires c.index_mut-file.result.now now c.index_mut-file.ensures.value refl c.self.invariant (c.self.invariant.named c.args.descriptor.key c.index_mut-file.result.now c.index_mut-file.ensures.value)

pub returns-clause-keys : goal.returns-clause-keys
returns-clause-keys g c =
    let now : OpenFile g.row.M.Denot = record { number = c.index_mut-file.result.now.number; count = c.index_mut-file.result.now.count; opened = at_offset c.args.at c.index_mut-file.result.now.opened } in
    numbers-changed c.self.inside.slab c.args.self.now c.args.descriptor.key c.args.descriptor.number c.self.view_is c.requires c.index_mut-file.result.now now c.index_mut-file.ensures.value refl

pub returns-clause-files : goal.returns-clause-files
returns-clause-files g c =
    let now : OpenFile g.row.M.Denot = record { number = c.index_mut-file.result.now.number; count = c.index_mut-file.result.now.count; opened = at_offset c.args.at c.index_mut-file.result.now.opened } in
    files-changed c.self.inside.slab c.args.self.now c.args.descriptor.key c.args.descriptor.number c.self.view_is c.requires c.index_mut-file.result.now now c.index_mut-file.ensures.value refl (on_opened (at_offset c.args.at)) c.self.invariant.distinct refl
