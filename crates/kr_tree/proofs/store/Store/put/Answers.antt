use Rattle.std.specs.FinMap as map
use Rattle.std.proofs.Common.{◌≡◌, ◌∙◌, ap, sym, subst, ◌+◌, ◌<◌, ◌^◌, Option, None}
use Rattle.std.specs.Prelude.{IfSome, IsTrue}
use Rattle.kr_tree.specs.Tree.{Inode, is_listed, entry_named, entries_of}
use Rattle.kr_tree.specs.Changes.{with_inode, with_entry}
use Rattle.kr_inode.proofs.pr_base.MapLemmas.{apart, get-insert_other, remove-insert, changed-insert}
use Rattle.kr_tree.proofs.StoreLemmas.{on_ok, on_err}
use Rattle.kr_tree.proofs.store.Store.put.Goals as goal

pub add_entry-added-requires-clause-directory : goal.add_entry-added-requires-clause-directory
add_entry-added-requires-clause-directory c =
    let P : Option Inode → Type 0 = λ o. IfSome o (λ x. IsTrue (is_listed x.node.body)) in
    subst P (sym (ap (λ m. map.get m c.args.dir) c.in_ok-insert.ensures.ok ∙ get-insert_other c.args.self.now c.args.ino c.args.inode c.args.dir (apart c.args.self.now c.args.ino c.args.dir c.requires.new c.requires.there))) c.requires.directory

pub add_entry-added-requires-clause-free : goal.add_entry-added-requires-clause-free
add_entry-added-requires-clause-free c =
    let P : Option Inode → Type 0 = λ o. IfSome o (λ x. entry_named c.args.name.items (entries_of x.node.body) ≡ None) in
    subst P (sym (ap (λ m. map.get m c.args.dir) c.in_ok-insert.ensures.ok ∙ get-insert_other c.args.self.now c.args.ino c.args.inode c.args.dir (apart c.args.self.now c.args.ino c.args.dir c.requires.new c.requires.there))) c.requires.free

pub add_entry-added-requires-clause-serials : goal.add_entry-added-requires-clause-serials
add_entry-added-requires-clause-serials c =
    let P : Option Inode → Type 0 = λ o. IfSome o (λ x. x.next_serial + 1 < 2 ^ 64) in
    subst P (sym (ap (λ m. map.get m c.args.dir) c.in_ok-insert.ensures.ok ∙ get-insert_other c.args.self.now c.args.ino c.args.inode c.args.dir (apart c.args.self.now c.args.ino c.args.dir c.requires.new c.requires.there))) c.requires.serials

pub add_entry-added-requires-clause-directories : goal.add_entry-added-requires-clause-directories
add_entry-added-requires-clause-directories c =
    let P : Option Inode → Type 0 = λ o. IfSome o (λ x. x.directories + 1 < 2 ^ 32) in
    subst P (sym (ap (λ m. map.get m c.args.dir) c.in_ok-insert.ensures.ok ∙ get-insert_other c.args.self.now c.args.ino c.args.inode c.args.dir (apart c.args.self.now c.args.ino c.args.dir c.requires.new c.requires.there))) c.requires.directories

pub returns-then-is_err-clause-err : goal.returns-then-is_err-clause-err
returns-then-is_err-clause-err c =
    on_err _ _ c.add_entry-added.result
    (λ is. c.remove.ensures ∙ ap (λ m. map.remove m c.args.ino) (is ∙ c.in_ok-insert.ensures.ok) ∙ remove-insert c.args.self.now c.args.ino c.args.inode c.requires.new)
    c.add_entry-added.ensures.err

pub returns-else-is_err-clause-ok : goal.returns-else-is_err-clause-ok
returns-else-is_err-clause-ok c =
    on_ok _ _ c.add_entry-added.result
    (λ is. is ∙ ap (with_inode c.args.dir (with_entry c.args.name.items c.args.ino c.args.is_dir)) c.in_ok-insert.ensures.ok
    ∙ changed-insert c.args.self.now c.args.dir c.args.ino (with_entry c.args.name.items c.args.ino c.args.is_dir) c.args.inode (apart c.args.self.now c.args.ino c.args.dir c.requires.new c.requires.there))
    c.add_entry-added.ensures.ok
