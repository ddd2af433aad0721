-- Each change that brings bytes leaves a state that has bytes.
use Rattle.std.proofs.Common.{◌≡◌, ℕ, zero, suc, ◌+◌, Bool, true, false, List, [], ◌∷◌, cond, length, refl, ◌∙◌, Option, Some, None}
use Rattle.std.specs.Prelude.{map as map_list, not, ◌==◌}
use Rattle.std.specs.FinMap as map
use Rattle.std.specs.List.{filter}
use Rattle.std.specs.Option.{option_map_or}
use Rattle.std.specs.Int.{w32}
use Rattle.kr_first.specs.pr_base.Maps.{changed}
use Rattle.kr_first.specs.rv_mem.Memory.{Memory}
use Rattle.kr_first.specs.rv_mem.Pages.{HoldsBytes, Pages}
use Rattle.kr_first.specs.rv_mem.declared.regs.Regs.{Regs}
use Rattle.kr_first.specs.kr_tree.Changes as tree
use Rattle.kr_first.specs.kr_tree.Lawful.{AreBytes, HasBytes as TreeHasBytes}
use Rattle.kr_first.specs.kr_tree.Tree.{Tree}
use Rattle.kr_first.specs.kr_tree.declared.place.Host.{Host}
use Rattle.kr_first.specs.kr_files.Descriptors.{Meanings, Named}
use Rattle.kr_first.specs.kr_files.Files.{Table, at_offset, pipe_after_read, pipe_after_write, with_all_opened, with_append, with_opened}
use Rattle.kr_first.specs.kr_files.Opened.{after_removal, after_rename, named_at, nameless, remembers}
use Rattle.kr_first.specs.kr_files.declared.opened.Opened.{Opened}
use Rattle.kr_first.specs.kr_model.Applied.{Mounts, applied, child_of, close, close_below, close_named, close_on_exec_below, copy_named, copy_over, cwd_of, end, exe_after_removal, exe_after_rename, exe_of, exe_remembers, executed, forked_from, gone, held_at, held_for, images, in_mount, is_closed_on_exec, let_go, mount_of, moved_to, on_opened_of, open_in, orphaned, pages_after, pipe_made, released_at, told, with_brk, with_cwd, with_exe, with_exe_name, with_files, with_image, with_living, with_parent, with_program, with_tree, with_umask}
use Rattle.kr_first.specs.kr_model.Change.{AddNode, Birth, Change, ChangeDirectory, ChangePages, CloseDescriptor, CloseOnExec, CopyDescriptor, End, Fork, LinkNode, MakePipe, MapPages, MoveName, OpenFile, PageChange, ProtectPages, PutIntoPipe, Reap, RemoveName, ReplaceExecutable, ReplaceImage, Seek, SetAppend, SetBreak, SetCloexec, SetMode, SetOwner, SetSize, SetUmask, TakeFromPipe, TakeInput, UnmapPages, WriteErr, WriteFile, WriteOut}
use Rattle.kr_first.specs.kr_model.State.{Image, Process, State, inode_of, named, place_of, process, with_descs, with_process}
use Rattle.kr_turns.specs.kr_steps.Computing.{computed}
use Rattle.law_kept.specs.Bringing.{BringsBytes}
use Rattle.law_kept.specs.Bytes.{FilesHaveBytes, HasBytes, ProcessIsSized}
use Rattle.law_kept.specs.Laws.{ChangesKeepBytes, ComputingKeepsBytes}
use Rattle.law_kept.proofs.FileLemmas.{all-copied, all-opened-bytes, closed-bytes, copied, filed, opened-bytes, piped, read-from-pipe, written-to-pipe}
use Rattle.law_kept.proofs.ListLemmas.{word-bytes}
use Rattle.law_kept.proofs.LivingLemmas.{LivingHaveBytes, all-changed, nobody-changed, one-changed, one-come, one-gone, process-bytes}
use Rattle.law_kept.proofs.RegisterLemmas.{child-registers}
use Rattle.law_kept.proofs.PageLemmas.{holds-mapped, holds-protected, holds-unmapped, holds-written}
use Rattle.law_kept.proofs.TreeLemmas.{added-bytes, held-at-bytes, held-for-bytes, linked-bytes, mode-bytes, once-more, overwritten-bytes, owner-bytes, released-at-bytes, removed-bytes, renamed-bytes, sized-bytes}

-- ---- pages

pages-hold : (c : PageChange) (m : Pages) → HoldsBytes m → HoldsBytes (pages_after c m)
pages-hold (MapPages first count rights) m holds = holds-mapped m first count rights holds
pages-hold (UnmapPages first count) m holds = holds-unmapped m first count holds
pages-hold (ProtectPages first count rights) m holds = holds-protected m first count rights holds

told-holds : (pid : ℕ) (at : Option ℕ) (m : Pages) → HoldsBytes m → HoldsBytes (told pid at m)
told-holds pid None m holds = holds
told-holds pid (Some at) m holds = holds-written m at _ (word-bytes w32 pid) holds

module _ {M : Type 0} where
  -- ---- names that are remembered

  either-name : (b : Bool) (p q : Process M Image) → ProcessIsSized p → ProcessIsSized q → ProcessIsSized (cond b p q)
  either-name true p q first second = first
  either-name false p q first second = second

  exe-removed : (dir : ℕ) (name : List ℕ) (p : Process M Image) → ProcessIsSized p → ProcessIsSized (exe_after_removal dir name p)
  exe-removed dir name p has = either-name (exe_remembers dir name p) (with_exe_name 0 [] p) p (record { memory = has.memory; registers = has.registers; exe_name = tt }) has

  exe-renamed : (dir : ℕ) (name : List ℕ) (to : ℕ) (new : List ℕ) → AreBytes new → (p : Process M Image) → ProcessIsSized p → ProcessIsSized (exe_after_rename dir name to new p)
  exe-renamed dir name to new are p has =
      let kept : Process M Image = exe_after_removal to new p in
      let own : ProcessIsSized kept = exe-removed to new p has in
      either-name (exe_remembers dir name kept) (with_exe_name to new kept) kept (record { memory = own.memory; registers = own.registers; exe_name = are }) own

  removed-name : (dir : ℕ) (name : List ℕ) (o : Opened M) → AreBytes o.name → AreBytes (after_removal dir name o).name
  removed-name dir name o are = by (remembers dir name o)
    where
      by : (b : Bool) → AreBytes (cond b (nameless o) o).name
      by true = tt
      by false = are

  renamed-name : (dir : ℕ) (name : List ℕ) (to : ℕ) (new : List ℕ) → AreBytes new → (o : Opened M) → AreBytes o.name → AreBytes (after_rename dir name to new o).name
  renamed-name dir name to new new_are o are = by (after_removal to new o) (removed-name to new o are) (remembers dir name (after_removal to new o))
    where
      by : (kept : Opened M) → AreBytes kept.name → (b : Bool) → AreBytes (cond b (named_at to new kept) kept).name
      by kept own true = new_are
      by kept own false = own

  -- ---- parts of a state

  -- the caller alone
  pub with-one : (pid : ℕ) (f : Process M Image → Process M Image) (s : State M Image) → ((p : Process M Image) → ProcessIsSized p → ProcessIsSized (f p)) → HasBytes s → HasBytes (with_living (with_process pid f) s)
  with-one pid f s keeps has = record { tree = has.tree; processes = one-changed pid f s.living keeps has.processes; files = has.files; input = has.input }

  descs-keep : (f : Meanings → Meanings) (p : Process M Image) → ProcessIsSized p → ProcessIsSized (with_descs f p)
  descs-keep f p has = record { memory = has.memory; registers = has.registers; exe_name = has.exe_name }

  descs-living : (pid : ℕ) (f : Meanings → Meanings) (ps : List (Process M Image)) → LivingHaveBytes ps → LivingHaveBytes (with_process pid (with_descs f) ps)
  descs-living pid f ps have = one-changed pid (with_descs f) ps (descs-keep f) have

  -- ---- closing

  let-go-bytes : (number : ℕ) (s : State M Image) → HasBytes s → HasBytes (let_go number s)
  let-go-bytes number s has = record { tree = released-at-bytes (place_of s.files number) s.tree has.tree; processes = has.processes; files = closed-bytes number s.files has.files; input = has.input }

  close-bytes : (pid fd : ℕ) (s : State M Image) → HasBytes s → HasBytes (close pid fd s)
  unfolding close
  close-bytes pid fd s has = by (named pid fd s)
    where
      by : (o : Option Named) → HasBytes (option_map_or (λ x. close_named pid fd x s) o s)
      by None = has
      by (Some x) = with-one pid (with_descs (λ d. map.remove d fd)) (let_go x.number s) (descs-keep (λ d. map.remove d fd)) (let-go-bytes x.number s has)

  close-below-bytes : (pid count : ℕ) (s : State M Image) → HasBytes s → HasBytes (close_below pid count s)
  unfolding close_below
  close-below-bytes pid zero s has = has
  close-below-bytes pid (suc fd) s has = close-bytes pid fd (close_below pid fd s) (close-below-bytes pid fd s has)

  close-on-exec-bytes : (pid count : ℕ) (s : State M Image) → HasBytes s → HasBytes (close_on_exec_below pid count s)
  unfolding close_on_exec_below
  close-on-exec-bytes pid zero s has = has
  close-on-exec-bytes pid (suc fd) s has = by (close_on_exec_below pid fd s) (close-on-exec-bytes pid fd s has) (is_closed_on_exec pid fd (close_on_exec_below pid fd s))
    where
      by : (before : State M Image) → HasBytes before → (b : Bool) → HasBytes (cond b (close pid fd before) before)
      by before own true = close-bytes pid fd before own
      by before own false = own

  -- ---- the end of a process

  orphaned-keep : (pid : ℕ) (p : Process M Image) → ProcessIsSized p → ProcessIsSized (orphaned pid p)
  orphaned-keep pid p has = either-name (p.parent == pid) (with_parent 1 p) p (record { memory = has.memory; registers = has.registers; exe_name = has.exe_name }) has

  gone-bytes : (pid status : ℕ) (p : Process M Image) (s : State M Image) → HasBytes s → HasBytes (gone pid status p s)
  gone-bytes pid status p s has = record {
    tree = released-at-bytes (Some p.exe) (released_at (Some p.cwd) s.tree) (released-at-bytes (Some p.cwd) s.tree has.tree);
    processes = all-changed (orphaned pid) (filter (λ p. not (p.pid == pid)) s.living) (orphaned-keep pid) (one-gone pid s.living has.processes);
    files = has.files;
    input = has.input;
  }

  pub end-bytes : (pid status : ℕ) (s : State M Image) → HasBytes s → HasBytes (end pid status s)
  end-bytes pid status s has = by (close_below pid 1024 s) (close-below-bytes pid 1024 s has) (process pid (close_below pid 1024 s))
    where
      by : (closed : State M Image) → HasBytes closed → (o : Option (Process M Image)) → HasBytes (option_map_or (λ p. gone pid status p closed) o closed)
      by closed own None = own
      by closed own (Some p) = gone-bytes pid status p closed own

  -- ---- opening, copying and seeking

  pub open-bytes : (pid fd : ℕ) (cloexec : Bool) (o : Opened (Unit {0})) (s : State M Image) → AreBytes o.name → HasBytes s → (m : M) → HasBytes (open_in pid fd cloexec o m s)
  open-bytes pid fd cloexec o s are has m = record {
    tree = held-at-bytes o.place s.tree has.tree;
    processes = descs-living pid (λ d. map.insert d fd (record { number = s.files.last_file + 1; cloexec = cloexec })) s.living has.processes;
    files = filed (in_mount m o) s.files are has.files;
    input = has.input;
  }

  copy-bytes : (pid to : ℕ) (cloexec : Bool) (x : Named) (s : State M Image) → HasBytes s → HasBytes (copy_named pid to cloexec x s)
  copy-bytes pid to cloexec x s has = record {
    tree = held-at-bytes (place_of s.files x.number) s.tree has.tree;
    processes = descs-living pid (λ d. map.insert d to (record { number = x.number; cloexec = cloexec })) s.living has.processes;
    files = copied x.number s.files has.files;
    input = has.input;
  }

  over-bytes : (pid to : ℕ) (cloexec : Bool) (x : Named) (o : Option Named) (s : State M Image) → HasBytes s → HasBytes (copy_over pid to cloexec x o s)
  over-bytes pid to cloexec x None s has = copy-bytes pid to cloexec x s has
  over-bytes pid to cloexec x (Some y) s has = let-go-bytes y.number (copy_named pid to cloexec x s) (copy-bytes pid to cloexec x s has)

  copied-bytes : (pid fd to : ℕ) (cloexec : Bool) (o : Option Named) (s : State M Image) → HasBytes s → HasBytes (option_map_or (λ x. copy_over pid to cloexec x (named pid to s) s) o s)
  copied-bytes pid fd to cloexec None s has = has
  copied-bytes pid fd to cloexec (Some x) s has = over-bytes pid to cloexec x (named pid to s) s has

  with-files-bytes : (f : Table M → Table M) (s : State M Image) → FilesHaveBytes (f s.files) → HasBytes s → HasBytes (with_files f s)
  with-files-bytes f s own has = record { tree = has.tree; processes = has.processes; files = own; input = has.input }

  on-opened-bytes : (pid fd : ℕ) (f : Opened M → Opened M) (s : State M Image) → ((o : Opened M) → AreBytes o.name → AreBytes (f o).name) → HasBytes s → HasBytes (on_opened_of pid fd f s)
  on-opened-bytes pid fd f s keeps has = by (named pid fd s)
    where
      by : (o : Option Named) → HasBytes (option_map_or (λ x. with_files (with_opened x.number f) s) o s)
      by None = has
      by (Some x) = with-files-bytes (with_opened x.number f) s (opened-bytes x.number f s.files keeps has.files) has

  pipe-bytes : (pid first second : ℕ) (cloexec : Bool) (s : State M Image) → HasBytes s → HasBytes (pipe_made pid first second cloexec s)
  pipe-bytes pid first second cloexec s has = record {
    tree = has.tree;
    processes = descs-living pid (λ d. map.insert (map.insert d first (record { number = s.files.last_file + 1; cloexec = cloexec })) second (record { number = s.files.last_file + 1 + 1; cloexec = cloexec })) s.living has.processes;
    files = piped s.files has.files;
    input = has.input;
  }

  -- ---- names

  removal-bytes : (dir : ℕ) (name : List ℕ) (s : State M Image) → HasBytes s → HasBytes (with_living (map_list (exe_after_removal dir name)) (with_files (with_all_opened (after_removal dir name)) (with_tree (tree.removed dir name) s)))
  removal-bytes dir name s has = record {
    tree = removed-bytes dir name s.tree has.tree;
    processes = all-changed (exe_after_removal dir name) s.living (exe-removed dir name) has.processes;
    files = all-opened-bytes (after_removal dir name) s.files (removed-name dir name) has.files;
    input = has.input;
  }

  move-bytes : (dir : ℕ) (name : List ℕ) (to : ℕ) (new : List ℕ) (s : State M Image) → AreBytes new → HasBytes s
      → HasBytes (with_living (map_list (exe_after_rename dir name to new)) (with_files (with_all_opened (after_rename dir name to new)) (with_tree (tree.renamed dir name to new) s)))
  move-bytes dir name to new s are has = record {
    tree = renamed-bytes dir name to new s.tree are has.tree;
    processes = all-changed (exe_after_rename dir name to new) s.living (exe-renamed dir name to new are) has.processes;
    files = all-opened-bytes (after_rename dir name to new) s.files (renamed-name dir name to new are) has.files;
    input = has.input;
  }

  with-tree-bytes : (f : Tree → Tree) (s : State M Image) → TreeHasBytes (f s.tree) → HasBytes s → HasBytes (with_tree f s)
  with-tree-bytes f s own has = record { tree = own; processes = has.processes; files = has.files; input = has.input }

  -- ---- the caller itself, and processes

  moved-bytes : (pid : ℕ) (host : Host) (s : State M Image) → HasBytes s → (m : M) → HasBytes (moved_to pid host m s)
  moved-bytes pid host s has m = record {
    tree = released-at-bytes (cwd_of pid s) (tree.held (inode_of host) s.tree) (once-more (inode_of host) s.tree has.tree);
    processes = one-changed pid (with_cwd (record { mount = m; host = host })) s.living (λ p own. record { memory = own.memory; registers = own.registers; exe_name = own.exe_name }) has.processes;
    files = has.files;
    input = has.input;
  }

  executed-bytes : (pid : ℕ) (host : Host) (dir : ℕ) (name : List ℕ) (s : State M Image) → AreBytes name → HasBytes s → (m : M) → HasBytes (executed pid host dir name m s)
  executed-bytes pid host dir name s are has m = record {
    tree = released-at-bytes (exe_of pid s) (tree.held (inode_of host) s.tree) (once-more (inode_of host) s.tree has.tree);
    processes = one-changed pid (with_exe (record { mount = m; host = host }) dir name) s.living (λ p own. record { memory = own.memory; registers = own.registers; exe_name = are }) has.processes;
    files = has.files;
    input = has.input;
  }

  forked-bytes : (b : Birth) (s : State M Image) → HasBytes s → (p : Process M Image) → ProcessIsSized p → HasBytes (forked_from images b p s)
  forked-bytes b s has p own = record {
    tree = held-at-bytes (Some p.exe) (held_at (Some p.cwd) (held_for p.descs s.files 1024 s.tree)) (held-at-bytes (Some p.cwd) (held_for p.descs s.files 1024 s.tree) (held-for-bytes p.descs s.files 1024 s.tree has.tree));
    processes = one-come s.living (child_of images b p) (record { memory = told-holds b.pid b.told_at p.image.memory.pages own.memory; registers = child-registers b.sp p.image.regs ∙ own.registers; exe_name = own.exe_name }) has.processes;
    files = all-copied p.descs s.files has.files;
    input = has.input;
  }

  fork-bytes : (pid : ℕ) (b : Birth) (s : State M Image) → HasBytes s → HasBytes (option_map_or (λ p. forked_from images b p s) (process pid s) s)
  fork-bytes pid b s has = by (process pid s) refl
    where
      by : (o : Option (Process M Image)) → process pid s ≡ o → HasBytes (option_map_or (λ p. forked_from images b p s) o s)
      by None is = has
      by (Some p) is = forked-bytes b s has p (process-bytes pid s has p is)

  -- in a mount, if the change has one
  in-mount : (f : M → State M Image) (s : State M Image) → HasBytes s → ((m : M) → HasBytes (f m)) → (o : Option M) → HasBytes (option_map_or f o s)
  in-mount f s has each None = has
  in-mount f s has each (Some m) = each m

  -- ---- each change

  pub change-keeps : (mounts : Mounts M) (pid : ℕ) (c : Change) (s : State M Image) → BringsBytes c → HasBytes s → HasBytes (applied images mounts pid c s)
  change-keeps mounts pid (AddNode dir name mode uid gid body) s brings has = with-tree-bytes (tree.added dir name mode uid gid body) s (added-bytes dir name mode uid gid body s.tree brings.0 brings.1 has.tree) has
  change-keeps mounts pid (LinkNode dir name inode) s brings has = with-tree-bytes (tree.linked dir name inode) s (linked-bytes dir name inode s.tree brings has.tree) has
  change-keeps mounts pid (RemoveName dir name) s brings has = removal-bytes dir name s has
  change-keeps mounts pid (MoveName dir name to new) s brings has = move-bytes dir name to new s brings has
  change-keeps mounts pid (SetMode inode mode) s brings has = with-tree-bytes (tree.mode_set inode mode) s (mode-bytes inode mode s.tree has.tree) has
  change-keeps mounts pid (SetOwner inode uid gid) s brings has = with-tree-bytes (tree.owner_set inode uid gid) s (owner-bytes inode uid gid s.tree has.tree) has
  change-keeps mounts pid (SetSize inode size) s brings has = with-tree-bytes (tree.bytes_set inode (tree.sized size)) s (sized-bytes inode size s.tree has.tree) has
  change-keeps mounts pid (WriteFile inode at bytes) s brings has = with-tree-bytes (tree.bytes_set inode (tree.overwritten at bytes)) s (overwritten-bytes inode at bytes s.tree brings has.tree) has
  change-keeps mounts pid (OpenFile fd cloexec from o) s brings has = in-mount (λ m. open_in pid fd cloexec o m s) s has (open-bytes pid fd cloexec o s brings has) (mount_of mounts pid s from)
  change-keeps mounts pid (CopyDescriptor fd to cloexec) s brings has = copied-bytes pid fd to cloexec (named pid fd s) s has
  change-keeps mounts pid (CloseDescriptor fd) s brings has = close-bytes pid fd s has
  change-keeps mounts pid (SetCloexec fd on) s brings has = with-one pid (with_descs (λ d. changed d fd (λ x. record { number = x.number; cloexec = on }))) s (descs-keep (λ d. changed d fd (λ x. record { number = x.number; cloexec = on }))) has
  change-keeps mounts pid (Seek fd at) s brings has = on-opened-bytes pid fd (at_offset at) s (λ o are. are) has
  change-keeps mounts pid (SetAppend fd on) s brings has = on-opened-bytes pid fd (with_append on) s (λ o are. are) has
  change-keeps mounts pid (MakePipe first second cloexec) s brings has = pipe-bytes pid first second cloexec s has
  change-keeps mounts pid (TakeFromPipe pipe count) s brings has = with-files-bytes (pipe_after_read pipe count) s (read-from-pipe pipe count s.files has.files) has
  change-keeps mounts pid (PutIntoPipe pipe bytes) s brings has = with-files-bytes (pipe_after_write pipe bytes) s (written-to-pipe pipe bytes s.files brings has.files) has
  change-keeps mounts pid (TakeInput count) s brings has = record { tree = has.tree; processes = has.processes; files = has.files; input = has.input }
  change-keeps mounts pid (WriteOut bytes) s brings has = record { tree = has.tree; processes = has.processes; files = has.files; input = has.input }
  change-keeps mounts pid (WriteErr bytes) s brings has = record { tree = has.tree; processes = has.processes; files = has.files; input = has.input }
  change-keeps mounts pid (ChangePages c) s brings has = with-one pid (with_image (images.paged c)) s (λ p own. record { memory = pages-hold c p.image.memory.pages own.memory; registers = own.registers; exe_name = own.exe_name }) has
  change-keeps mounts pid (SetBreak brk) s brings has = with-one pid (with_brk brk) s (λ p own. record { memory = own.memory; registers = own.registers; exe_name = own.exe_name }) has
  change-keeps mounts pid (SetUmask umask) s brings has = with-one pid (with_umask umask) s (λ p own. record { memory = own.memory; registers = own.registers; exe_name = own.exe_name }) has
  change-keeps mounts pid (ChangeDirectory from host) s brings has = in-mount (λ m. moved_to pid host m s) s has (moved-bytes pid host s has) (mount_of mounts pid s from)
  change-keeps mounts pid (Fork b) s brings has = fork-bytes pid b s has
  change-keeps mounts pid (End status) s brings has = end-bytes pid status s has
  change-keeps mounts pid (Reap child) s brings has = record { tree = has.tree; processes = has.processes; files = has.files; input = has.input }
  change-keeps mounts pid (ReplaceImage image brk) s brings has = with-one pid (with_program image brk) s (λ p own. record { memory = brings.0; registers = brings.1; exe_name = own.exe_name }) has
  change-keeps mounts pid (ReplaceExecutable from host dir name) s brings has = in-mount (λ m. executed pid host dir name m s) s has (executed-bytes pid host dir name s brings has) (mount_of mounts pid s from)
  change-keeps mounts pid CloseOnExec s brings has = close-on-exec-bytes pid 1024 s has

-- ---- the laws

pub changes-keep-bytes : (M : Type 0) → ChangesKeepBytes M
changes-keep-bytes M mounts pid [] s brings has = has
changes-keep-bytes M mounts pid (c ∷ cs) s brings has = changes-keep-bytes M mounts pid cs (applied images mounts pid c s) brings.1 (change-keeps mounts pid c s brings.0 has)

pub computing-keeps-bytes : (M : Type 0) → ComputingKeepsBytes M
computing-keeps-bytes M pid regs memory s holds count has = with-one pid (with_image (λ (image : Image). record { regs = regs; memory = memory })) s (λ p own. record { memory = holds; registers = count; exe_name = own.exe_name }) has

-- where nobody lives, nothing is changed
pub nobody-computes : {M : Type 0} (pid : ℕ) (f : Process M Image → Process M Image) (s : State M Image) → process pid s ≡ None → HasBytes s → HasBytes (with_living (with_process pid f) s)
nobody-computes pid f s none has = record { tree = has.tree; processes = nobody-changed pid f s.living none has.processes; files = has.files; input = has.input }

-- registers of as many as whoever lives there has
pub computing-there : {M : Type 0} (pid : ℕ) (regs : Regs) (memory : Memory) (s : State M Image) → HoldsBytes memory.pages → ((p : Process M Image) → process pid s ≡ Some p → length regs.x ≡ length p.image.regs.x) → HasBytes s → HasBytes (computed pid regs memory s)
computing-there {M} pid regs memory s holds count has = by (process pid s) refl
  where
    by : (o : Option (Process M Image)) → process pid s ≡ o → HasBytes (computed pid regs memory s)
    by None none = nobody-computes pid (with_image (λ (image : Image). record { regs = regs; memory = memory })) s none has
    by (Some p) lives = computing-keeps-bytes M pid regs memory s holds (count p lives ∙ (process-bytes pid s has p lives).registers) has
