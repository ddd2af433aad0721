use Rattle.std.proofs.Common.{sym, ap, ◌∙◌, arith, subst}
use Rattle.std.specs.Prelude.{map as map_list}
use Rattle.law_walks.specs.kr_model.Lawful.{IsLawful}
use Rattle.kr_ops.specs.Meaning.{meaning, process_meaning}
use Rattle.kr_start.specs.Start.{first_of, first_process, with_console}
use Rattle.kr_ops.proofs.law_lawful.AfterLemmas.{object-there}
use Rattle.kr_start.proofs.StartLemmas.{born-lawful}
use Rattle.kr_start.proofs.FirstLemmas.{on-ok, still-there, hold-fits, idle-holds, means-first, put-means, lives-alone, first-served, none-open}
use Rattle.kr_start.proofs.first.begin.Goals as goal

pub hold-requires-clause-holds : goal.hold-requires-clause-holds
hold-requires-clause-holds g c =
    let ready = c.requires.ready in
    let few = idle-holds ready.number ready.table c.args.state.now ready.lawful ready.idle c.inode_of.result in
    omega arith

pub hold-requires-2-clause-there : goal.hold-requires-2-clause-there
hold-requires-2-clause-there g c =
    rw c.inode_of-2.ensures (still-there c.args.state.now.tree c.hold.new.self c.inode_of.result _ c.hold.ensures (object-there c.args.state.now.tree c.args.exe.host c.requires.ready.begins.exe.0.object))

pub hold-requires-2-clause-holds : goal.hold-requires-2-clause-holds
hold-requires-2-clause-holds g c =
    let ready = c.requires.ready in
    hold-fits c.args.state.now.tree c.hold.new.self c.inode_of.result c.inode_of-2.result c.hold.ensures
    (rw c.inode_of.ensures (object-there c.args.state.now.tree c.args.cwd.host ready.begins.cwd.0.object))
    (idle-holds ready.number ready.table c.args.state.now ready.lawful ready.idle)

pub open_console-requires : goal.open_console-requires
open_console-requires g c =
    let s = meaning c.args.state.now in
    let first = first_of c.args.image c.args.cwd c.args.exe c.args.exe_dir c.args.exe_name in
    let lives =
    lives-alone c.args.state.now.living.items c.reserve.new.self.items c.push_reserved.new.self.items _ (first_process first) c.requires.ready.idle.living c.in_ok-reserve.ensures.items c.push_reserved.ensures.items
    (means-first first c.new.result c.new.ensures) in
    let means =
    put-means s first c.hold-2.new.self c.hold.new.self c.inode_of.result c.inode_of-2.result (map_list process_meaning c.push_reserved.new.self.items) c.inode_of.ensures c.inode_of-2.ensures c.hold.ensures c.hold-2.ensures lives.1
    c.requires.ready.idle.next_pid in
    let served = first-served c.args.state.now.files c.args.room c.push_reserved.new.self.items _ lives.0 c.new.ensures c.requires.room in (
      omega arith,
      none-open first c.args.state.now _ c.requires.ready means (record { files = served.0; room = served.1 }) c.can-kept.ensures.whole c.can-kept.ensures.placed
          (let count = c.pages-pages.ensures.count in let limited = c.pages-pages.ensures.limited in omega arith),
    )

pub returns-clause-lawful : goal.returns-clause-lawful
returns-clause-lawful g c =
    let s = meaning c.args.state.now in
    let first = first_of c.args.image c.args.cwd c.args.exe c.args.exe_dir c.args.exe_name in
    let lives =
    lives-alone c.args.state.now.living.items c.reserve.new.self.items c.push_reserved.new.self.items _ (first_process first) c.requires.ready.idle.living c.in_ok-reserve.ensures.items c.push_reserved.ensures.items
    (means-first first c.new.result c.new.ensures) in
    let means =
    put-means s first c.hold-2.new.self c.hold.new.self c.inode_of.result c.inode_of-2.result (map_list process_meaning c.push_reserved.new.self.items) c.inode_of.ensures c.inode_of-2.ensures c.hold.ensures c.hold-2.ensures lives.1
    c.requires.ready.idle.next_pid in
    on-ok c.open_console.result
    (λ keeps number table l begins.
    keeps number table
    (subst (IsLawful number table) (sym means)
    (born-lawful number table s l c.requires.ready.idle first begins c.can-kept.ensures.whole c.can-kept.ensures.placed (let count = c.pages-pages.ensures.count in let limited = c.pages-pages.ensures.limited in omega arith))))
    c.open_console.ensures.lawful

pub returns-clause-begins : goal.returns-clause-begins
returns-clause-begins g c =
    let s = meaning c.args.state.now in
    let first = first_of c.args.image c.args.cwd c.args.exe c.args.exe_dir c.args.exe_name in
    let lives =
    lives-alone c.args.state.now.living.items c.reserve.new.self.items c.push_reserved.new.self.items _ (first_process first) c.requires.ready.idle.living c.in_ok-reserve.ensures.items c.push_reserved.ensures.items
    (means-first first c.new.result c.new.ensures) in
    let means =
    put-means s first c.hold-2.new.self c.hold.new.self c.inode_of.result c.inode_of-2.result (map_list process_meaning c.push_reserved.new.self.items) c.inode_of.ensures c.inode_of-2.ensures c.hold.ensures c.hold-2.ensures lives.1
    c.requires.ready.idle.next_pid in
    on-ok c.open_console.result (λ opens. opens first.cwd.mount ∙ ap (with_console first.cwd.mount) means) c.open_console.ensures.opens
