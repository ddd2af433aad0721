use Rattle.std.proofs.Common.{◌≡◌, ◌∙◌, ap, subst, ◌+◌, ◌<◌, ◌^◌, Option, None}
use Rattle.std.specs.Prelude.{IfSome, IsTrue}
use Rattle.kr_tree.specs.Tree.{Inode, is_listed, entry_named, entries_of}
use Rattle.kr_tree.specs.Changes.{with_entry}
use Rattle.kr_tree.proofs.StoreLemmas.{inodes_of, at_found, changed, unchanged, untouched, on_ok, on_err}
use Rattle.kr_tree.proofs.store.Store.add_entry.Goals as goal
use Rattle.kr_tree.proofs.store.Store.add_entry.Goals.{in-Some, in-None}

pub add_entry-requires-clause-directory : goal.add_entry-requires-clause-directory
add_entry-requires-clause-directory c =
    let P : Option Inode → Type 0 = λ o. IfSome o (λ x. IsTrue (is_listed x.node.body)) in
    subst P (at_found c.self.inside.inodes.entries c.args.self.now c.args.dir _ c.self.view_is c.in-Some.ensures.value) c.requires.directory

pub add_entry-requires-clause-free : goal.add_entry-requires-clause-free
add_entry-requires-clause-free c =
    let P : Option Inode → Type 0 = λ o. IfSome o (λ x. entry_named c.args.name.items (entries_of x.node.body) ≡ None) in
    subst P (at_found c.self.inside.inodes.entries c.args.self.now c.args.dir _ c.self.view_is c.in-Some.ensures.value) c.requires.free

pub add_entry-requires-clause-serials : goal.add_entry-requires-clause-serials
add_entry-requires-clause-serials c =
    let P : Option Inode → Type 0 = λ o. IfSome o (λ x. x.next_serial + 1 < 2 ^ 64) in
    subst P (at_found c.self.inside.inodes.entries c.args.self.now c.args.dir _ c.self.view_is c.in-Some.ensures.value) c.requires.serials

pub add_entry-requires-clause-directories : goal.add_entry-requires-clause-directories
add_entry-requires-clause-directories c =
    let P : Option Inode → Type 0 = λ o. IfSome o (λ x. x.directories + 1 < 2 ^ 32) in
    subst P (at_found c.self.inside.inodes.entries c.args.self.now c.args.dir _ c.self.view_is c.in-Some.ensures.value) c.requires.directories

pub returns-clause-ok : goal.returns-clause-ok
returns-clause-ok c =
    elim c.match-get_mut.branch [
      | in-Some w ↦
          rw w.result-is
          (on_ok _ _ w.add_entry.result
          (λ is. ap (λ s. inodes_of s.inodes.entries) w.self-inside-is
          ∙ changed c.self.inside.inodes (c.get_mut.follows.lender w.add_entry.new.self) c.args.self.now c.args.dir (with_entry c.args.name.items c.args.inode c.args.is_dir) _ _ c.self.view_is w.in-Some.ensures.value (c.get_mut.follows.holds w.add_entry.new.self).3 is)
          w.add_entry.ensures.ok)
      | in-None w ↦
          rw w.result-is
          (ap (λ s. inodes_of s.inodes.entries) w.self-inside-is
          ∙ unchanged c.self.inside.inodes c.get_mut.follows.lender-at-none c.args.self.now c.args.dir (with_entry c.args.name.items c.args.inode c.args.is_dir) c.self.view_is w.in-None.ensures.value c.get_mut.follows.holds-at-none)
    ]

pub returns-clause-err : goal.returns-clause-err
returns-clause-err c =
    elim c.match-get_mut.branch [
      | in-Some w ↦
          rw w.result-is
          (on_err _ _ w.add_entry.result
          (λ is. ap (λ s. inodes_of s.inodes.entries) w.self-inside-is
          ∙ untouched c.self.inside.inodes (c.get_mut.follows.lender w.add_entry.new.self) c.args.self.now c.args.dir _ _ c.self.view_is w.in-Some.ensures.value (c.get_mut.follows.holds w.add_entry.new.self).3 is)
          w.add_entry.ensures.err)
      | in-None w ↦ rw w.result-is tt
    ]
