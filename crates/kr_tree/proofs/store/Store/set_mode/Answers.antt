use Rattle.std.proofs.Common.{◌∙◌, ap, sym}
use Rattle.std.specs.Option.{option_copied_mut}
use Rattle.kr_tree.specs.Changes.{with_mode}
use Rattle.kr_tree.proofs.StoreLemmas.{inodes_of, changed, unchanged}
use Rattle.kr_tree.proofs.store.Store.set_mode.Goals as goal
use Rattle.kr_tree.proofs.store.Store.set_mode.Goals.{in-Some, in_default}

pub returns : goal.returns
returns c =
    elim c.match-get_mut.branch [
      | in-Some w ↦ ap (λ s. inodes_of s.inodes.entries) w.self-inside-is
          ∙ changed c.self.inside.inodes (c.get_mut.follows.lender w.set_mode.new.self) c.args.self.now c.args.ino (with_mode c.args.mode) _ _ c.self.view_is w.in-Some.ensures.value (c.get_mut.follows.holds w.set_mode.new.self).3 w.set_mode.ensures
      | in_default w ↦ ap (λ s. inodes_of s.inodes.entries) w.self-inside-is
          ∙ unchanged c.self.inside.inodes c.get_mut.follows.lender-at-none c.args.self.now c.args.ino (with_mode c.args.mode) c.self.view_is (ap option_copied_mut (sym w.in_default.is) ∙ c.get_mut.ensures.value) c.get_mut.follows.holds-at-none
    ]
