use Rattle.std.proofs.Common.{◌-◌, ◌≤◌, ◌∙◌, sym, ap, subst, refl, None, is_some, cond, arith}
use Rattle.std.specs.FinMap as map
use Rattle.kr_files.specs.declared.open_files.OpenFile.{OpenFile}
use Rattle.kr_files.specs.OpenFiles.{Store, counted}
use Rattle.slab.specs.Slab.{get, Updates}
use Rattle.std.proofs.lemmas.Option.{same_Some}
use Rattle.kr_files.proofs.OpenFileLemmas.{with_value_same, has_key, number_of, file_found, stored-changed, numbers-changed, files-changed_to, stored-clear, numbers-clear, files-clear, ended-more, ended-last, less-more, less-last}
use Rattle.kr_files.proofs.open_files.OpenFiles.lower.Goals as goal

pub index_mut-file-requires : goal.index_mut-file-requires
index_mut-file-requires g c = has_key c.self.inside.slab c.args.self.now c.args.descriptor.key c.args.descriptor.number c.self.view_is c.requires

pub invariant_of-self : goal.invariant_of-self
invariant_of-self g c =
    let now : OpenFile g.row.M.Denot = record { number = c.index_mut-file.result.now.number; count = c.index_mut-file.result.now.count - 1; opened = c.index_mut-file.result.now.opened } in
    stored-changed c.self.inside.slab c.args.self.now c.args.descriptor.key c.args.descriptor.number c.self.view_is c.requires c.index_mut-file.result.now now c.index_mut-file.ensures.value refl c.self.invariant (omega (arith, c.if-file-gt1.true))

pub returns-then-file-gt1-clause-ended : goal.returns-then-file-gt1-clause-ended
returns-then-file-gt1-clause-ended g c =
    let found = file_found c.self.inside.slab c.args.self.now c.args.descriptor.key c.args.descriptor.number c.self.view_is c.requires c.index_mut-file.result.now c.self.invariant.distinct c.index_mut-file.ensures.value in
    sym (ended-more c.args.self.now.files c.args.descriptor.number (counted c.index_mut-file.result.now) found c.if-file-gt1.true)

pub returns-then-file-gt1-clause-files : goal.returns-then-file-gt1-clause-files
returns-then-file-gt1-clause-files g c =
    let found = file_found c.self.inside.slab c.args.self.now c.args.descriptor.key c.args.descriptor.number c.self.view_is c.requires c.index_mut-file.result.now c.self.invariant.distinct c.index_mut-file.ensures.value in
    let now : OpenFile g.row.M.Denot = record { number = c.index_mut-file.result.now.number; count = c.index_mut-file.result.now.count - 1; opened = c.index_mut-file.result.now.opened } in
    files-changed_to c.self.inside.slab c.args.self.now c.args.descriptor.key c.args.descriptor.number c.self.view_is c.requires c.index_mut-file.result.now now c.index_mut-file.ensures.value refl c.self.invariant.distinct
    ∙ sym (less-more c.args.self.now.files c.args.descriptor.number (counted c.index_mut-file.result.now) found c.if-file-gt1.true)

pub returns-then-file-gt1-clause-keys : goal.returns-then-file-gt1-clause-keys
returns-then-file-gt1-clause-keys g c =
    let found = file_found c.self.inside.slab c.args.self.now c.args.descriptor.key c.args.descriptor.number c.self.view_is c.requires c.index_mut-file.result.now c.self.invariant.distinct c.index_mut-file.ensures.value in
    let now : OpenFile g.row.M.Denot = record { number = c.index_mut-file.result.now.number; count = c.index_mut-file.result.now.count - 1; opened = c.index_mut-file.result.now.opened } in
    numbers-changed c.self.inside.slab c.args.self.now c.args.descriptor.key c.args.descriptor.number c.self.view_is c.requires c.index_mut-file.result.now now c.index_mut-file.ensures.value refl
    ∙ sym (ap (λ o. cond (is_some o) (map.remove c.args.self.now.keys c.args.descriptor.key) c.args.self.now.keys) (ended-more c.args.self.now.files c.args.descriptor.number (counted c.index_mut-file.result.now) found c.if-file-gt1.true))

pub invariant_of-self-2 : goal.invariant_of-self-2
invariant_of-self-2 g c =
    let same = with_value_same c.self.inside.slab c.args.descriptor.key c.index_mut-file.result.now c.index_mut-file.ensures.value in
    let updates = subst (λ s. Updates s c.remove-file.new.self c.args.descriptor.key None) same c.remove-file.ensures.updates in
    stored-clear c.self.inside.slab c.remove-file.new.self c.args.descriptor.key c.self.invariant updates

pub returns-clause-ended : goal.returns-clause-ended
returns-clause-ended g c =
    let same = with_value_same c.self.inside.slab c.args.descriptor.key c.index_mut-file.result.now c.index_mut-file.ensures.value in
    let removed = sym (ap (λ s. get s c.args.descriptor.key) same) ∙ c.remove-file.ensures.value in
    let found = file_found c.self.inside.slab c.args.self.now c.args.descriptor.key c.args.descriptor.number c.self.view_is c.requires c.remove-file.result c.self.invariant.distinct removed in
    let few : c.remove-file.result.count ≤ 1 = subst (λ (e : OpenFile g.row.M.Denot). e.count ≤ 1) (same_Some _ _ (sym c.index_mut-file.ensures.value ∙ removed)) c.if-file-gt1.false in
    sym (ended-last c.args.self.now.files c.args.descriptor.number (counted c.remove-file.result) found few)

pub returns-clause-files : goal.returns-clause-files
returns-clause-files g c =
    let same = with_value_same c.self.inside.slab c.args.descriptor.key c.index_mut-file.result.now c.index_mut-file.ensures.value in
    let updates = subst (λ s. Updates s c.remove-file.new.self c.args.descriptor.key None) same c.remove-file.ensures.updates in
    let removed = sym (ap (λ s. get s c.args.descriptor.key) same) ∙ c.remove-file.ensures.value in
    let found = file_found c.self.inside.slab c.args.self.now c.args.descriptor.key c.args.descriptor.number c.self.view_is c.requires c.remove-file.result c.self.invariant.distinct removed in
    let few : c.remove-file.result.count ≤ 1 = subst (λ (e : OpenFile g.row.M.Denot). e.count ≤ 1) (same_Some _ _ (sym c.index_mut-file.ensures.value ∙ removed)) c.if-file-gt1.false in
    files-clear c.self.inside.slab c.remove-file.new.self c.args.descriptor.key c.remove-file.result c.self.invariant.distinct updates removed
    ∙ ap (λ (o : Store g.row.M.Denot). map.remove o.files c.remove-file.result.number) c.self.view_is
    ∙ ap (map.remove c.args.self.now.files) (number_of c.self.inside.slab c.args.self.now c.args.descriptor.key c.args.descriptor.number c.self.view_is c.requires c.remove-file.result removed)
    ∙ sym (less-last c.args.self.now.files c.args.descriptor.number (counted c.remove-file.result) found few)

pub returns-clause-keys : goal.returns-clause-keys
returns-clause-keys g c =
    let same = with_value_same c.self.inside.slab c.args.descriptor.key c.index_mut-file.result.now c.index_mut-file.ensures.value in
    let updates = subst (λ s. Updates s c.remove-file.new.self c.args.descriptor.key None) same c.remove-file.ensures.updates in
    numbers-clear c.self.inside.slab c.remove-file.new.self c.args.descriptor.key updates
    ∙ ap (λ (o : Store g.row.M.Denot). map.remove o.keys c.args.descriptor.key) c.self.view_is
    ∙ ap (λ o. cond (is_some o) (map.remove c.args.self.now.keys c.args.descriptor.key) c.args.self.now.keys) (returns-clause-ended g c)
