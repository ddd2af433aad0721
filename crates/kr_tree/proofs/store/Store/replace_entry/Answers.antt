use Rattle.std.proofs.Common.{◌∙◌, ap, subst, ◌+◌, ◌<◌, ◌≤◌, ◌^◌, Option}
use Rattle.std.specs.Prelude.{IfSome, IsSome, IsTrue}
use Rattle.kr_tree.specs.Tree.{Inode, is_listed, entry_named, entries_of}
use Rattle.kr_tree.specs.Changes.{with_entry, without_entry, counted}
use Rattle.kr_tree.proofs.StoreLemmas.{inodes_of, at_found, changed, unchanged, untouched, on_ok, on_err}
use Rattle.kr_tree.proofs.store.Store.replace_entry.Goals as goal
use Rattle.kr_tree.proofs.store.Store.replace_entry.Goals.{in-Some, in-None}

pub replace_entry-requires-clause-directory : goal.replace_entry-requires-clause-directory
replace_entry-requires-clause-directory c =
    let P : Option Inode → Type 0 = λ o. IfSome o (λ x. IsTrue (is_listed x.node.body)) in
    subst P (at_found c.self.inside.inodes.entries c.args.self.now c.args.dir _ c.self.view_is c.in-Some.ensures.value) c.requires.directory

pub replace_entry-requires-clause-named : goal.replace_entry-requires-clause-named
replace_entry-requires-clause-named c =
    let P : Option Inode → Type 0 = λ o. IfSome o (λ x. IsSome (entry_named c.args.name.now (entries_of x.node.body))) in
    subst P (at_found c.self.inside.inodes.entries c.args.self.now c.args.dir _ c.self.view_is c.in-Some.ensures.value) c.requires.named

pub replace_entry-requires-clause-serials : goal.replace_entry-requires-clause-serials
replace_entry-requires-clause-serials c =
    let P : Option Inode → Type 0 = λ o. IfSome o (λ x. x.next_serial + 1 < 2 ^ 64) in
    subst P (at_found c.self.inside.inodes.entries c.args.self.now c.args.dir _ c.self.view_is c.in-Some.ensures.value) c.requires.serials

pub replace_entry-requires-clause-directories : goal.replace_entry-requires-clause-directories
replace_entry-requires-clause-directories c =
    let P : Option Inode → Type 0 = λ o. IfSome o (λ x. counted c.args.is_dir ≤ x.directories) in
    subst P (at_found c.self.inside.inodes.entries c.args.self.now c.args.dir _ c.self.view_is c.in-Some.ensures.value) c.requires.directories

pub returns-clause-ok : goal.returns-clause-ok
returns-clause-ok c =
    elim c.match-get_mut.branch [
      | in-Some w ↦
          rw w.result-is
          (on_ok _ _ w.replace_entry.result
          (λ is. ap (λ s. inodes_of s.inodes.entries) w.self-inside-is
          ∙ changed c.self.inside.inodes (c.get_mut.follows.lender w.replace_entry.new.self) c.args.self.now c.args.dir (λ x. with_entry c.args.name.now c.args.inode c.args.is_dir (without_entry c.args.name.now c.args.is_dir x)) _ _ c.self.view_is w.in-Some.ensures.value (c.get_mut.follows.holds w.replace_entry.new.self).3 is)
          w.replace_entry.ensures.ok)
      | in-None w ↦
          rw w.result-is
          (ap (λ s. inodes_of s.inodes.entries) w.self-inside-is
          ∙ unchanged c.self.inside.inodes c.get_mut.follows.lender-at-none c.args.self.now c.args.dir (λ x. with_entry c.args.name.now c.args.inode c.args.is_dir (without_entry c.args.name.now c.args.is_dir x)) c.self.view_is w.in-None.ensures.value c.get_mut.follows.holds-at-none)
    ]

pub returns-clause-err : goal.returns-clause-err
returns-clause-err c =
    elim c.match-get_mut.branch [
      | in-Some w ↦
          rw w.result-is
          (on_err _ _ w.replace_entry.result
          (λ is. ap (λ s. inodes_of s.inodes.entries) w.self-inside-is
          ∙ untouched c.self.inside.inodes (c.get_mut.follows.lender w.replace_entry.new.self) c.args.self.now c.args.dir _ _ c.self.view_is w.in-Some.ensures.value (c.get_mut.follows.holds w.replace_entry.new.self).3 is)
          w.replace_entry.ensures.err)
      | in-None w ↦ rw w.result-is tt
    ]
