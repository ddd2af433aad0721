use Rattle.std.proofs.Common.{◌+◌, ◌<◌, ◌^◌, subst, refl, arith}
use Rattle.std.specs.Option.{option_map_or}
use Rattle.kr_files.specs.declared.open_files.OpenFile.{OpenFile}
use Rattle.kr_files.specs.Files.{Counted, counted_more}
use Rattle.kr_files.proofs.OpenFileLemmas.{has_key, file_found, stored-changed, numbers-changed, files-changed}
use Rattle.kr_files.proofs.open_files.OpenFiles.raise.Goals as goal

pub index_mut-file-requires : goal.index_mut-file-requires
index_mut-file-requires g c = has_key c.self.inside.slab c.args.self.now c.args.descriptor.key c.args.descriptor.number c.self.view_is c.requires.named

pub invariant_of-self : goal.invariant_of-self
invariant_of-self g c =
    let now : OpenFile g.row.M.Denot = record { number = c.index_mut-file.result.now.number; count = c.index_mut-file.result.now.count + 1; opened = c.index_mut-file.result.now.opened } in
    stored-changed c.self.inside.slab c.args.self.now c.args.descriptor.key c.args.descriptor.number c.self.view_is c.requires.named c.index_mut-file.result.now now c.index_mut-file.ensures.value refl c.self.invariant (omega arith)

pub returns-clause-keys : goal.returns-clause-keys
returns-clause-keys g c =
    let now : OpenFile g.row.M.Denot = record { number = c.index_mut-file.result.now.number; count = c.index_mut-file.result.now.count + 1; opened = c.index_mut-file.result.now.opened } in
    numbers-changed c.self.inside.slab c.args.self.now c.args.descriptor.key c.args.descriptor.number c.self.view_is c.requires.named c.index_mut-file.result.now now c.index_mut-file.ensures.value refl

pub returns-clause-files : goal.returns-clause-files
returns-clause-files g c =
    let now : OpenFile g.row.M.Denot = record { number = c.index_mut-file.result.now.number; count = c.index_mut-file.result.now.count + 1; opened = c.index_mut-file.result.now.opened } in
    files-changed c.self.inside.slab c.args.self.now c.args.descriptor.key c.args.descriptor.number c.self.view_is c.requires.named c.index_mut-file.result.now now c.index_mut-file.ensures.value refl (counted_more 1) c.self.invariant.distinct refl

pub overflow_add-file : goal.overflow_add-file
overflow_add-file g c =
    let found = file_found c.self.inside.slab c.args.self.now c.args.descriptor.key c.args.descriptor.number c.self.view_is c.requires.named c.index_mut-file.result.now c.self.invariant.distinct c.index_mut-file.ensures.value in
    let small = subst (λ o. option_map_or (λ (h : Counted g.row.M.Denot). h.count) o 0 + 1 < 2 ^ 32) found c.requires.counted in
    omega (arith, small)
