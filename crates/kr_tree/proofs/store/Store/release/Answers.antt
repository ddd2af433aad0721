use Rattle.std.proofs.Common.{◌∙◌, ap, sym, subst, ◌-◌, ◌<◌, Option}
use Rattle.std.specs.Option.{option_copied_mut, option_map_or}
use Rattle.kr_tree.specs.Tree.{Inode}
use Rattle.kr_tree.specs.Changes.{with_holds}
use Rattle.kr_tree.proofs.StoreLemmas.{inodes_of, at_found, changed, unchanged}
use Rattle.kr_tree.proofs.store.Store.release.Goals as goal
use Rattle.kr_tree.proofs.store.Store.release.Goals.{in-Some, in_default}

pub release-requires : goal.release-requires
release-requires c =
    let P : Option Inode → Type 0 = λ o. 0 < option_map_or (λ x. x.holds) o 1 in
    subst P (at_found c.self.inside.inodes.entries c.args.self.now c.args.ino _ c.self.view_is c.in-Some.ensures.value) c.requires

pub returns : goal.returns
returns c =
    elim c.match-get_mut.branch [
      | in-Some w ↦ ap (λ s. inodes_of s.inodes.entries) w.self-inside-is
          ∙ changed c.self.inside.inodes (c.get_mut.follows.lender w.release.new.self) c.args.self.now c.args.ino (with_holds (λ n. n - 1)) _ _ c.self.view_is w.in-Some.ensures.value (c.get_mut.follows.holds w.release.new.self).3 w.release.ensures
      | in_default w ↦ ap (λ s. inodes_of s.inodes.entries) w.self-inside-is
          ∙ unchanged c.self.inside.inodes c.get_mut.follows.lender-at-none c.args.self.now c.args.ino (with_holds (λ n. n - 1)) c.self.view_is (ap option_copied_mut (sym w.in_default.is) ∙ c.get_mut.ensures.value) c.get_mut.follows.holds-at-none
    ]
