use Rattle.std.proofs.Common.{◌≢◌, ◌+◌, ◌∙◌, sym, ap, subst, arith}
use Rattle.std.specs.FinMap as map
use Rattle.std.specs.Prelude.{IsSome}
use Rattle.kr_files.specs.declared.descs.Descriptor.{Descriptor}
use Rattle.kr_tree.proofs.pr_base.MapLemmas.{some-insert, free-insert, get-insert_other}
use Rattle.kr_files.proofs.open_files.OpenFiles.add_pair.Goals as goal

pub add_under-requires-2-clause-fresh : goal.add_under-requires-2-clause-fresh
add_under-requires-2-clause-fresh g c =
    let other : c.args.number + 1 ≢ c.args.number = omega arith in
    ap (λ m. map.get m (c.args.number + 1)) c.add_under.ensures.files
    ∙ get-insert_other c.args.self.now.files c.args.number _ (c.args.number + 1) other ∙ c.requires.fresh_next

pub add_under-requires-2-clause-taken : goal.add_under-requires-2-clause-taken
add_under-requires-2-clause-taken g c =
    subst (λ m. IsSome (map.get m c.args.fds.1)) (sym c.add_under.ensures.descs) (some-insert c.args.d.now c.args.fds.0 c.args.fds.1 _ c.requires.taken_next)

pub returns-clause-gives : goal.returns-clause-gives
returns-clause-gives g c =
    let free = free-insert c.args.self.now.keys c.args.self.now.vacant c.add_under.new.self.vacant c.args.number (sym (ap (λ m. map.get m c.add_under.new.self.vacant) c.add_under.ensures.keys) ∙ c.add_under-2.ensures.free) in
    let second : Descriptor = record { key = c.add_under.new.self.vacant; number = c.args.number + 1; cloexec = c.args.cloexec } in
    record {
      reader = c.args.self.now.vacant;
      writer = c.add_under.new.self.vacant;
      reader_free = c.add_under.ensures.free;
      writer_free = free.1;
      apart = free.0;
      keys = c.add_under-2.ensures.keys ∙ ap (λ m. map.insert m c.add_under.new.self.vacant (c.args.number + 1)) c.add_under.ensures.keys;
      descs = c.add_under-2.ensures.descs ∙ ap (λ m. map.insert m c.args.fds.1 second) c.add_under.ensures.descs;
    }
