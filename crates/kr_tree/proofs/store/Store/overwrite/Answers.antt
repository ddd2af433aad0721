use Rattle.std.proofs.Common.{◌∙◌, ap}
use Rattle.kr_tree.specs.Changes.{with_body, with_bytes, overwritten}
use Rattle.kr_tree.proofs.StoreLemmas.{inodes_of, changed, unchanged, untouched, on_ok, on_err}
use Rattle.kr_tree.proofs.store.Store.overwrite.Goals as goal
use Rattle.kr_tree.proofs.store.Store.overwrite.Goals.{in-Some, in-None}

pub returns-clause-ok : goal.returns-clause-ok
returns-clause-ok c =
    elim c.match-get_mut.branch [
      | in-Some w ↦
          rw w.result-is
          (on_ok _ _ w.overwrite.result
          (λ is. ap (λ s. inodes_of s.inodes.entries) w.self-inside-is
          ∙ changed c.self.inside.inodes (c.get_mut.follows.lender w.overwrite.new.self) c.args.self.now c.args.ino (with_body (with_bytes (overwritten c.args.at c.args.b.now))) _ _ c.self.view_is w.in-Some.ensures.value (c.get_mut.follows.holds w.overwrite.new.self).3 is)
          w.overwrite.ensures.ok)
      | in-None w ↦
          rw w.result-is
          (ap (λ s. inodes_of s.inodes.entries) w.self-inside-is
          ∙ unchanged c.self.inside.inodes c.get_mut.follows.lender-at-none c.args.self.now c.args.ino (with_body (with_bytes (overwritten c.args.at c.args.b.now))) c.self.view_is w.in-None.ensures.value c.get_mut.follows.holds-at-none)
    ]

pub returns-clause-err : goal.returns-clause-err
returns-clause-err c =
    elim c.match-get_mut.branch [
      | in-Some w ↦
          rw w.result-is
          (on_err _ _ w.overwrite.result
          (λ is. ap (λ s. inodes_of s.inodes.entries) w.self-inside-is
          ∙ untouched c.self.inside.inodes (c.get_mut.follows.lender w.overwrite.new.self) c.args.self.now c.args.ino _ _ c.self.view_is w.in-Some.ensures.value (c.get_mut.follows.holds w.overwrite.new.self).3 is)
          w.overwrite.ensures.err)
      | in-None w ↦ rw w.result-is tt
    ]
