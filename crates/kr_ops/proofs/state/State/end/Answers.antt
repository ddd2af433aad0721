use Rattle.std.proofs.Common.{◌≡◌, ◌∙◌, ap, sym, subst, refl, arith}
use Rattle.std.specs.Prelude.{map as map_list, ◌==◌, not}
use Rattle.std.specs.List.{AllByRecursion, filter}
use Rattle.law_lawful.specs.kr_files.Files.{NamesOpenFiles}
use Rattle.law_lawful.specs.kr_model.Applied.{ended_with, put_in, stays}
use Rattle.law_lawful.specs.kr_model.Known.{pages_in_all}
use Rattle.law_lawful.specs.kr_model.State.{image_layout}
use Rattle.kr_ops.specs.declared.state.Process.{Process}
use Rattle.kr_ops.specs.declared.state.State.{State}
use Rattle.kr_ops.specs.Meaning.{ended_meaning, meaning, process_meaning}
use Rattle.kr_ops.proofs.ClosingLemmas.{among, placed-among}
use Rattle.kr_ops.proofs.EndingLemmas.{ended-served, ended-stay, ends, first-ended, nobody-ends, other-ended, room-left}
use Rattle.kr_ops.proofs.ListLemmas.{none-found}
use Rattle.kr_ops.proofs.OpeningLemmas.{found}
use Rattle.kr_ops.proofs.PageLemmas.{counted-in}
use Rattle.kr_ops.proofs.PlaceLemmas.{directory-held, executable-still-held}
use Rattle.kr_ops.proofs.state.State.end.Goals as goal

pub returns-in_default-clause-makes : goal.returns-in_default-clause-makes
returns-in_default-clause-makes g c = λ mounts.
    nobody-ends c.close_all.new.self (meaning c.args.self.now) c.args.pid c.args.status c.close_all.ensures.closed (none-found c.args.pid c.close_all.new.self.living.items (c.index_of.ensures.none c.in_default.is))

pub unmap-requires : goal.unmap-requires
unmap-requires g c = (omega arith, (refl, (omega arith, counted-in c.close_all.new.self.living.items c.in-Some.k c.close_all.new.self.room c.remove-process.result c.close_all.ensures.served.room c.in-Some.ensures.some.within c.remove-process.ensures.value)))

pub release-requires : goal.release-requires
release-requires g c = directory-held c.close_all.new.self c.args.pid c.in-Some.k c.remove-process.result (among c.args.self.now c.close_all.new.self c.args.pid 1024 c.requires c.close_all.ensures.closed c.close_all.ensures.served) c.in-Some.ensures.some c.remove-process.ensures.value

pub release-requires-2 : goal.release-requires-2
release-requires-2 g c = executable-still-held c.close_all.new.self c.args.pid c.in-Some.k c.remove-process.result (among c.args.self.now c.close_all.new.self c.args.pid 1024 c.requires c.close_all.ensures.closed c.close_all.ensures.served) c.in-Some.ensures.some c.remove-process.ensures.value c.release.new.tree c.release.ensures

pub returns-then-process-eq-FIRST_PROCESS-clause-makes : goal.returns-then-process-eq-FIRST_PROCESS-clause-makes
returns-then-process-eq-FIRST_PROCESS-clause-makes g c = λ mounts.
    let s = c.close_all.new.self in
    let p = c.remove-process.result in
    let others = c.adopt_all.ensures.others in
    let left = ap (map_list ended_meaning) c.forget_children.ensures ∙ ap (λ (t : State _ _). map_list ended_meaning (filter (λ e. not (e.parent == c.args.pid)) t.ended.items)) others ∙ ended-stay (stays c.args.pid) s.ended.items in
    let ended = left ∙ first-ended c.args.pid p.parent c.args.status (meaning s).ended c.if-process-eq-FIRST_PROCESS.true in
    (λ j. record {
      tree = (others j).tree;
      user = (others j).user;
      files = (others j).files.table;
      input = (others j).input;
      taken = (others j).taken;
      out = (others j).out;
      err = (others j).err;
      living = map_list process_meaning c.adopt_all.new.self.living.items;
      ended = ended j;
      next_pid = (others j).next_pid;
    })
    ∙ ends c.close_all.new.self c.args.pid c.in-Some.k c.remove-process.result (among c.args.self.now c.close_all.new.self c.args.pid 1024 c.requires c.close_all.ensures.closed c.close_all.ensures.served) c.in-Some.ensures.some c.remove-process.ensures.value
    (meaning c.args.self.now) c.args.status c.release.new.tree c.release-2.new.tree c.remove-process.new.self.items c.adopt_all.new.self.living.items (ended_with c.args.pid p.parent c.args.status (meaning s).ended) c.close_all.ensures.closed
    c.release.ensures c.release-2.ensures c.remove-process.ensures.items c.adopt_all.ensures.living refl

pub returns-then-process-eq-FIRST_PROCESS-clause-served : goal.returns-then-process-eq-FIRST_PROCESS-clause-served
returns-then-process-eq-FIRST_PROCESS-clause-served g c =
    let living = c.adopt_all.new.self.living.items in
    let all = subst (λ (t : State _ _). AllByRecursion (λ (q : Process _ _). NamesOpenFiles t.files q.descs) living × (t.room ≡ pages_in_all image_layout (map_list process_meaning living))) (sym c.adopt_all.ensures.others)
    (ended-served c.close_all.new.self c.args.pid c.in-Some.k c.remove-process.result (among c.args.self.now c.close_all.new.self c.args.pid 1024 c.requires c.close_all.ensures.closed c.close_all.ensures.served) c.in-Some.ensures.some c.remove-process.ensures.value
    c.unmap.new.room c.remove-process.new.self.items living c.remove-process.ensures.items c.adopt_all.ensures.living
    (room-left c.close_all.new.self.room c.unmap.new.room c.remove-process.result.mem c.unmap.new.self (counted-in c.close_all.new.self.living.items c.in-Some.k c.close_all.new.self.room c.remove-process.result c.close_all.ensures.served.room c.in-Some.ensures.some.within c.remove-process.ensures.value) (placed-among c.args.self.now c.close_all.new.self c.args.pid 1024 (process_meaning c.remove-process.result) c.requires c.close_all.ensures.closed (found c.close_all.new.self c.args.pid c.in-Some.k c.remove-process.result (among c.args.self.now c.close_all.new.self c.args.pid 1024 c.requires c.close_all.ensures.closed c.close_all.ensures.served) c.in-Some.ensures.some c.remove-process.ensures.value)) c.unmap.ensures.pages c.unmap.ensures.room)) in
    record { files = all.0; room = all.1 }

pub returns-clause-makes : goal.returns-clause-makes
returns-clause-makes g c = λ mounts.
    let s = c.close_all.new.self in
    let p = c.remove-process.result in
    let others = c.adopt_all.ensures.others in
    let left = ap (map_list ended_meaning) c.forget_children.ensures ∙ ap (λ (t : State _ _). map_list ended_meaning (filter (λ e. not (e.parent == c.args.pid)) t.ended.items)) others ∙ ended-stay (stays c.args.pid) s.ended.items in
    let ended = c.in_ok-put_in.ensures ∙ ap (put_in (record { pid = c.args.pid; parent = p.parent; status = c.args.status })) left ∙ other-ended c.args.pid p.parent c.args.status (meaning s).ended c.if-process-eq-FIRST_PROCESS.false in
    (λ j. record {
      tree = (others j).tree;
      user = (others j).user;
      files = (others j).files.table;
      input = (others j).input;
      taken = (others j).taken;
      out = (others j).out;
      err = (others j).err;
      living = map_list process_meaning c.adopt_all.new.self.living.items;
      ended = ended j;
      next_pid = (others j).next_pid;
    })
    ∙ ends c.close_all.new.self c.args.pid c.in-Some.k c.remove-process.result (among c.args.self.now c.close_all.new.self c.args.pid 1024 c.requires c.close_all.ensures.closed c.close_all.ensures.served) c.in-Some.ensures.some c.remove-process.ensures.value
    (meaning c.args.self.now) c.args.status c.release.new.tree c.release-2.new.tree c.remove-process.new.self.items c.adopt_all.new.self.living.items (ended_with c.args.pid p.parent c.args.status (meaning s).ended) c.close_all.ensures.closed
    c.release.ensures c.release-2.ensures c.remove-process.ensures.items c.adopt_all.ensures.living refl

pub returns-clause-served : goal.returns-clause-served
returns-clause-served g c =
    let living = c.adopt_all.new.self.living.items in
    let all = subst (λ (t : State _ _). AllByRecursion (λ (q : Process _ _). NamesOpenFiles t.files q.descs) living × (t.room ≡ pages_in_all image_layout (map_list process_meaning living))) (sym c.adopt_all.ensures.others)
    (ended-served c.close_all.new.self c.args.pid c.in-Some.k c.remove-process.result (among c.args.self.now c.close_all.new.self c.args.pid 1024 c.requires c.close_all.ensures.closed c.close_all.ensures.served) c.in-Some.ensures.some c.remove-process.ensures.value
    c.unmap.new.room c.remove-process.new.self.items living c.remove-process.ensures.items c.adopt_all.ensures.living
    (room-left c.close_all.new.self.room c.unmap.new.room c.remove-process.result.mem c.unmap.new.self (counted-in c.close_all.new.self.living.items c.in-Some.k c.close_all.new.self.room c.remove-process.result c.close_all.ensures.served.room c.in-Some.ensures.some.within c.remove-process.ensures.value) (placed-among c.args.self.now c.close_all.new.self c.args.pid 1024 (process_meaning c.remove-process.result) c.requires c.close_all.ensures.closed (found c.close_all.new.self c.args.pid c.in-Some.k c.remove-process.result (among c.args.self.now c.close_all.new.self c.args.pid 1024 c.requires c.close_all.ensures.closed c.close_all.ensures.served) c.in-Some.ensures.some c.remove-process.ensures.value)) c.unmap.ensures.pages c.unmap.ensures.room)) in
    record { files = all.0; room = all.1 }
