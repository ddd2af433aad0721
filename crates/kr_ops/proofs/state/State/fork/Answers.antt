use Rattle.std.proofs.Common.{◌≡◌, ◌+◌, ◌≤◌, ◌<◌, ◌^◌, true, false, Err, Option, Some, refl, sym, ap, subst, ◌∙◌, arith}
use Rattle.std.specs.Prelude.{IfSome}
use Rattle.law_lawful.specs.rv_mem.Memory.{Memory, page_count}
use Rattle.law_lawful.specs.rv_mem.Pages.{allows_all}
use Rattle.law_lawful.specs.rv_mem.declared.rights.Use.TheVariants.{Write}
use Rattle.law_lawful.specs.kr_tree.Holds.{holds_at}
use Rattle.law_lawful.specs.kr_tree.Tree.{Tree}
use Rattle.law_lawful.specs.kr_files.Descriptors.{meanings}
use Rattle.law_lawful.specs.kr_files.Files.{Kept, NamesOpenFiles}
use Rattle.law_lawful.specs.kr_model.Applied.{told}
use Rattle.law_lawful.specs.kr_model.MemoryRows.{all_pages}
use Rattle.law_lawful.specs.kr_model.State.{Image, Process, inode_of}
use Rattle.kr_ops.specs.declared.state.Process.{Process as Kept_process}
use Rattle.kr_ops.proofs.CloseLemmas.{held-there, same-at}
use Rattle.kr_ops.proofs.ForkLemmas.{as-before, born-means, born-served, born_state, copies-fit, fits-for, list-before, pushed, room-for, still-for, there-for}
use Rattle.kr_ops.proofs.ListLemmas.{has-number}
use Rattle.kr_ops.proofs.OpeningLemmas.{found, held-is-there, not-living, still-held}
use Rattle.kr_ops.proofs.PageLemmas.{counted-in}
use Rattle.kr_ops.proofs.PlaceLemmas.{directory-held, executable-held}
use Rattle.kr_ops.proofs.ServeLemmas.{all-at}
use Rattle.kr_ops.proofs.UseLemmas.{holds-fit, holds-held-most}
use Rattle.kr_ops.proofs.state.State.fork.Goals as goal

pub unreachable-requires : goal.unreachable-requires
unreachable-requires g c = not-living c.args.self.now c.args.pid (c.index_of.ensures.none c.in_default.is) c.requires.caller.lives

pub fork-requires : goal.fork-requires
fork-requires g c = (omega arith, counted-in c.args.self.now.living.items c.in-Some.k c.args.self.now.room c.index_mut.result.now c.requires.caller.sound.served.room c.in-Some.ensures.some.within c.index_mut.ensures.value)

pub unreachable-requires-in-Err-Full : goal.unreachable-requires-in-Err-Full
unreachable-requires-in-Err-Full g c =
    let room = subst (λ (o : Option (Process _ Image)). IfSome o (λ p. c.args.self.now.room + page_count p.image.memory.pages ≤ all_pages))
    (found c.args.self.now c.args.pid c.in-Some.k c.index_mut.result.now c.requires.caller.sound c.in-Some.ensures.some c.index_mut.ensures.value) c.requires.room in
    let over = c.in-Err-Full.ensures.full.0 (ap Err c.in-Err-Full.field-0-is) in
    absurd (omega arith)

pub tell-requires : goal.tell-requires
tell-requires g c = (
  omega arith,
  subst (λ (m : Memory). IfSome c.args.told_at (λ a. allows_all m.pages a 4 Write ≡ true)) (sym c.in-Ok.ensures.copy)
      (subst (λ (o : Option (Process _ Image)). IfSome o (λ p. IfSome c.args.told_at (λ a. allows_all p.image.memory.pages a 4 Write ≡ true)))
      (found c.args.self.now c.args.pid c.in-Some.k c.index_mut.result.now c.requires.caller.sound c.in-Some.ensures.some c.index_mut.ensures.value) c.requires.told),
)

pub hold_all-requires-clause-names : goal.hold_all-requires-clause-names
hold_all-requires-clause-names g c =
    all-at (λ (q : Kept_process _ _). NamesOpenFiles c.args.self.now.files q.descs) c.args.self.now.living.items c.in-Some.k c.index-parent.result.now c.requires.caller.sound.served.files c.in-Some.ensures.some.within
    (as-before c.args.self.now.living.items c.in-Some.k c.index_mut.result.now c.index-parent.result.now c.fork.new.self c.in-Ok.ensures.same c.index_mut.ensures.value c.index-parent.ensures)

pub hold_all-requires-clause-held : goal.hold_all-requires-clause-held
hold_all-requires-clause-held g c = λ fd. held-there c.args.self.now c.requires.caller.sound c.index-parent.result.now.descs fd _ refl

pub hold_all-requires-clause-fits : goal.hold_all-requires-clause-fits
hold_all-requires-clause-fits g c = holds-fit c.args.self.now c.requires.caller.sound

pub fork-requires-2-clause-names : goal.fork-requires-2-clause-names
fork-requires-2-clause-names g c =
    all-at (λ (q : Kept_process _ _). NamesOpenFiles c.args.self.now.files q.descs) c.args.self.now.living.items c.in-Some.k c.index-parent.result.now c.requires.caller.sound.served.files c.in-Some.ensures.some.within
    (as-before c.args.self.now.living.items c.in-Some.k c.index_mut.result.now c.index-parent.result.now c.fork.new.self c.in-Ok.ensures.same c.index_mut.ensures.value c.index-parent.ensures)

pub fork-requires-2-clause-counts : goal.fork-requires-2-clause-counts
fork-requires-2-clause-counts g c = copies-fit c.args.self.now c.requires.caller.sound c.index-parent.result.now.descs

pub hold-requires-clause-there : goal.hold-requires-clause-there
hold-requires-clause-there g c =
    there-for (meanings c.index-parent.result.now.descs) c.args.self.now.files.table 1024 c.args.self.now.tree c.hold_all.new.tree (Some c.index-parent.result.now.cwd) c.hold_all.ensures
    (directory-held c.args.self.now c.args.pid c.in-Some.k c.index-parent.result.now c.requires.caller.sound c.in-Some.ensures.some (as-before c.args.self.now.living.items c.in-Some.k c.index_mut.result.now c.index-parent.result.now c.fork.new.self c.in-Ok.ensures.same c.index_mut.ensures.value c.index-parent.ensures))

pub hold-requires-clause-fits : goal.hold-requires-clause-fits
hold-requires-clause-fits g c =
    fits-for (meanings c.index-parent.result.now.descs) c.args.self.now.files.table 1024 c.args.self.now.tree c.hold_all.new.tree (Some c.index-parent.result.now.cwd) c.hold_all.ensures (omega arith) (holds-fit c.args.self.now c.requires.caller.sound)

pub hold-requires-2-clause-there : goal.hold-requires-2-clause-there
hold-requires-2-clause-there g c =
    held-is-there c.hold.new.tree (Some c.index-parent.result.now.exe) (still-held c.hold_all.new.tree c.hold.new.tree (Some c.index-parent.result.now.cwd) (Some c.index-parent.result.now.exe) c.hold.ensures
    (still-for (meanings c.index-parent.result.now.descs) c.args.self.now.files.table 1024 c.args.self.now.tree c.hold_all.new.tree (Some c.index-parent.result.now.exe) c.hold_all.ensures
    (executable-held c.args.self.now c.args.pid c.in-Some.k c.index-parent.result.now c.requires.caller.sound c.in-Some.ensures.some (as-before c.args.self.now.living.items c.in-Some.k c.index_mut.result.now c.index-parent.result.now c.fork.new.self c.in-Ok.ensures.same c.index_mut.ensures.value c.index-parent.ensures))))

pub hold-requires-2-clause-fits : goal.hold-requires-2-clause-fits
hold-requires-2-clause-fits g c =
    let i = inode_of c.index-parent.result.now.exe.host in
    let most = holds-held-most (Some c.index-parent.result.now.cwd) c.hold_all.new.tree i in
    let room = subst (λ (t : Tree). holds_at t i + 2 < 2 ^ 32) (sym c.hold_all.ensures) (room-for (meanings c.index-parent.result.now.descs) c.args.self.now.files.table c.args.self.now.tree (holds-fit c.args.self.now c.requires.caller.sound) i) in
    subst (λ (t : Tree). holds_at t i + 1 < 2 ^ 32) (sym c.hold.ensures) (omega arith)

pub returns-clause-makes : goal.returns-clause-makes
returns-clause-makes g c = λ mounts.
    let at = c.in-Some.ensures.some in
    let is = as-before c.args.self.now.living.items c.in-Some.k c.index_mut.result.now c.index-parent.result.now c.fork.new.self c.in-Ok.ensures.same c.index_mut.ensures.value c.index-parent.ensures in
    let same = same-at c.args.self.now.living.items c.in-Some.k c.index_mut.result.now c.index-parent.result.now at.within c.index_mut.ensures.value is in
    ap (λ ps. born_state c.args.self.now c.hold-2.new.tree c.fork-2.new.self.table ps (c.args.self.now.next_pid + 1))
    (pushed _ _ _ _ c.push_reserved.ensures.items (c.in_ok-reserve.ensures.items ∙ list-before c.args.self.now.living.items c.in-Some.k c.index_mut.result.now c.fork.new.self c.in-Ok.ensures.same c.index_mut.ensures.value))
    ∙ born-means c.args.self.now c.args.pid c.in-Some.k c.index-parent.result.now c.requires.caller.sound at is
    mounts c.args.sp c.args.told_at c.child_regs.result c.tell.new.mem c.in_ok-descs.descs c.in_ok-exe_name.exe_name c.hold_all.new.tree c.hold.new.tree c.hold-2.new.tree c.fork-2.new.self c.args.self.now.next_pid c.args.pid (c.args.self.now.next_pid + 1)
    refl (has-number c.args.pid c.in-Some.k c.args.self.now.living.items at c.index-parent.result.now is) refl c.child_regs.ensures
    (c.in_ok-tell.ensures.told ∙ ap (λ (m : Memory). record { pages = told c.args.self.now.next_pid c.args.told_at m.pages; read_marked = m.read_marked }) (c.in-Ok.ensures.copy ∙ ap (λ (p : Kept_process _ _). record { pages = p.mem.pages; read_marked = false }) same))
    c.in_ok-descs.ensures.copies (c.in_ok-exe_name.ensures ∙ c.as_slice.ensures) c.hold_all.ensures c.hold.ensures c.hold-2.ensures c.in_ok-descs.ensures.files

pub returns-clause-served : goal.returns-clause-served
returns-clause-served g c =
    let at = c.in-Some.ensures.some in
    let is = as-before c.args.self.now.living.items c.in-Some.k c.index_mut.result.now c.index-parent.result.now c.fork.new.self c.in-Ok.ensures.same c.index_mut.ensures.value c.index-parent.ensures in
    let names = all-at (λ (q : Kept_process _ _). NamesOpenFiles c.args.self.now.files q.descs) c.args.self.now.living.items c.in-Some.k c.index-parent.result.now c.requires.caller.sound.served.files at.within is in
    let all = born-served c.args.self.now c.requires.caller.sound.served c.fork-2.new.self _ c.push_reserved.new.self.items c.fork.new.room (ap (λ (f : Kept _). f.keys) c.in_ok-descs.ensures.files)
    (pushed _ _ _ _ c.push_reserved.ensures.items (c.in_ok-reserve.ensures.items ∙ list-before c.args.self.now.living.items c.in-Some.k c.index_mut.result.now c.fork.new.self c.in-Ok.ensures.same c.index_mut.ensures.value))
    (subst (λ d. NamesOpenFiles c.args.self.now.files d) (sym c.in_ok-descs.ensures.copies) names)
    (c.in-Ok.ensures.room ∙ ap (λ n. c.args.self.now.room + n) (sym (c.tell.ensures.count ∙ ap (λ (m : Memory). page_count m.pages) c.in-Ok.ensures.copy))) in
    record { files = all.0; room = all.1 }
