-- What changes make of a state. Each keeps together what belongs together: a descriptor that comes or
-- goes holds or releases its inode, and a name that goes is forgotten by all that remember it.
use Rattle.std.specs.FinMap as map
use Rattle.std.specs.Prelude.{ℕ, zero, suc, ◌+◌, ◌%◌, ◌^◌, Bool, false, List, [], ◌∷◌, ◌++◌, ◌==◌, ◌&&◌, not, length, nat_lt, bytes_eq, Option, Some, None, map as map_list, if◌then◌else◌}
use Rattle.std.specs.List.{filter}
use Rattle.std.specs.Option.{option_map, option_map_or, option_and_then}
use Rattle.std.specs.Int.{to_le_bytes, w32}
use Rattle.std.specs.Prelude.{slice_set}
use Rattle.kr_calls.specs.rv_mem.declared.regs.Regs.{Regs}
use Rattle.kr_calls.specs.rv_mem.Memory as memory
use Rattle.kr_calls.specs.rv_mem.Pages as pages
use Rattle.kr_calls.specs.rv_mem.Layout.{laid}
use Rattle.kr_files.specs.kr_tree.Tree.{Tree}
use Rattle.kr_files.specs.kr_tree.Changes as tree
use Rattle.kr_files.specs.kr_tree.declared.place.Host.{Host}
use Rattle.kr_files.specs.kr_tree.declared.place.Place.{Place}
use Rattle.kr_files.specs.declared.opened.Opened.{Opened}
use Rattle.kr_files.specs.Descriptors.{Meanings, Named}
use Rattle.kr_files.specs.Files.{Table, with_file, with_copy, with_copies, closed, with_pipe, with_opened, with_all_opened, at_offset, with_append, pipe_after_read, pipe_after_write}
use Rattle.kr_files.specs.Opened.{after_removal, after_rename}
use Rattle.kr_calls.specs.pr_base.Maps.{changed}
use Rattle.kr_model.specs.State.{Image, Layout, layout_of, Process, Ended, State, inode_of, process, named, opened, place_of, with_process, with_descs}
use Rattle.kr_model.specs.Change.{Change, AddNode, LinkNode, RemoveName, MoveName, SetMode, SetOwner, SetSize, WriteFile, OpenFile, CopyDescriptor, CloseDescriptor, SetCloexec, Seek, SetAppend, MakePipe, TakeFromPipe, PutIntoPipe, TakeInput, WriteOut, WriteErr, ChangePages, SetBreak, SetUmask, ChangeDirectory, Fork, End, Reap, ReplaceImage, ReplaceExecutable, CloseOnExec, MountOf, OfFound, OfDirectory, OfDescriptor, PageChange, MapPages, UnmapPages, ProtectPages, Birth}

-- ---- what a process computes on

-- how pages are changed, what a child begins with, and what a new program does
pub record Computing (X : Type 0) : Type 0 where
  pub paged : PageChange → X → X
  pub born : Birth → X → X
  pub loaded : Image → X

abbrev pub pages_after : PageChange → pages.Pages → pages.Pages
pages_after (MapPages first count rights) m = pages.mapped m first count rights
pages_after (UnmapPages first count) m = pages.unmapped m first count
pages_after (ProtectPages first count rights) m = pages.protected m first count rights

-- the registers of a child, behind its call modulo 2^64, with 0 as the answer
abbrev pub child_regs : ℕ → Regs → Regs
child_regs sp regs =
    let x = slice_set regs.x 10 0 in
    record { x = (if sp == 0 then x else slice_set x 2 sp); pc = (regs.pc + 4) % 2 ^ 64 }

-- the child's own number in its memory
abbrev pub told : ℕ → Option ℕ → pages.Pages → pages.Pages
told pid None m = m
told pid (Some at) m = pages.written m at (to_le_bytes w32 pid)

abbrev pub images : Computing Image
images = record {
  paged = λ c image. record { regs = image.regs; memory = memory.with_pages image.memory (pages_after c image.memory.pages) };
  born = λ b image. record {
    regs = child_regs b.sp image.regs;
    memory = record { pages = told b.pid b.told_at image.memory.pages; read_marked = false };
  };
  loaded = λ image. image;
}

abbrev pub layout_after : PageChange → Layout → Layout
layout_after (MapPages first count rights) m = laid m first count (λ m k. map.insert m k rights)
layout_after (UnmapPages first count) m = laid m first count (λ m k. map.remove m k)
layout_after (ProtectPages first count rights) m = laid m first count (λ m k. changed m k (λ _. rights))

-- a child has its parent's layout
abbrev pub layouts : Computing Layout
layouts = record { paged = layout_after; born = λ b m. m; loaded = λ image. layout_of image.memory.pages }

-- ---- holds

-- an inode is held once for each descriptor, working directory and executable that stands there
abbrev pub held_at : {M : Type 0} → Option (Place M) → Tree → Tree
held_at None t = t
held_at (Some p) t = tree.held (inode_of p.host) t

abbrev pub released_at : {M : Type 0} → Option (Place M) → Tree → Tree
released_at None t = t
released_at (Some p) t = tree.released (inode_of p.host) t

-- ---- mounts

-- the mounts of what the first path led to and of its directory
pub record Mounts (M : Type 0) : Type 0 where
  pub found : Option M
  pub directory : Option M

-- an open file, seen in a mount
abbrev pub in_mount : {M : Type 0} → M → Opened (Unit {0}) → Opened M
in_mount m o = record {
  place = option_map (λ p. record { mount = m; host = p.host }) o.place;
  dir = o.dir;
  name = o.name;
  what = o.what;
  read = o.read;
  write = o.write;
  append = o.append;
  at = o.at;
}

-- one more hold for each of the first `count` descriptors
unfoldable pub held_for : {M : Type 0} → Meanings → Table M → ℕ → Tree → Tree
held_for d files zero t = t
held_for d files (suc fd) t =
    held_at (option_and_then (λ x. place_of files x.number) (map.get d fd)) (held_for d files fd t)

module _ {M X : Type 0} where
  abbrev pub mount_of : Mounts M → ℕ → State M X → MountOf → Option M
  mount_of mounts pid s OfFound = mounts.found
  mount_of mounts pid s OfDirectory = mounts.directory
  mount_of mounts pid s (OfDescriptor fd) = option_map (λ p. p.mount) (option_and_then (λ o. o.place) (opened pid fd s))

  -- ---- parts of a state

  abbrev pub with_tree : (Tree → Tree) → State M X → State M X
  with_tree f s = record {
    tree = f s.tree;
    user = s.user;
    files = s.files;
    input = s.input;
    taken = s.taken;
    out = s.out;
    err = s.err;
    living = s.living;
    ended = s.ended;
    next_pid = s.next_pid;
  }

  abbrev pub with_files : (Table M → Table M) → State M X → State M X
  with_files f s = record {
    tree = s.tree;
    user = s.user;
    files = f s.files;
    input = s.input;
    taken = s.taken;
    out = s.out;
    err = s.err;
    living = s.living;
    ended = s.ended;
    next_pid = s.next_pid;
  }

  abbrev pub with_living : (List (Process M X) → List (Process M X)) → State M X → State M X
  with_living f s = record {
    tree = s.tree;
    user = s.user;
    files = s.files;
    input = s.input;
    taken = s.taken;
    out = s.out;
    err = s.err;
    living = f s.living;
    ended = s.ended;
    next_pid = s.next_pid;
  }

  -- ---- names

  abbrev pub exe_remembers : ℕ → List ℕ → Process M X → Bool
  exe_remembers dir name p = not (length p.exe_name == 0) && (p.exe_dir == dir && bytes_eq p.exe_name name)

  abbrev pub with_exe_name : ℕ → List ℕ → Process M X → Process M X
  with_exe_name dir name p = record {
    pid = p.pid;
    parent = p.parent;
    image = p.image;
    brk_start = p.brk_start;
    brk = p.brk;
    descs = p.descs;
    cwd = p.cwd;
    exe = p.exe;
    exe_dir = dir;
    exe_name = name;
    umask = p.umask;
    waits = p.waits;
  }

  abbrev pub exe_after_removal : ℕ → List ℕ → Process M X → Process M X
  exe_after_removal dir name p = if exe_remembers dir name p then with_exe_name 0 [] p else p

  abbrev pub exe_after_rename : ℕ → List ℕ → ℕ → List ℕ → Process M X → Process M X
  exe_after_rename dir name to new p =
      let kept = exe_after_removal to new p in
      if exe_remembers dir name kept then with_exe_name to new kept else kept

  -- ---- descriptors

  abbrev pub open_in : ℕ → ℕ → Bool → Opened (Unit {0}) → M → State M X → State M X
  open_in pid fd cloexec o m s = record {
    tree = held_at o.place s.tree;
    user = s.user;
    files = with_file (in_mount m o) s.files;
    input = s.input;
    taken = s.taken;
    out = s.out;
    err = s.err;
    living = with_process pid (with_descs (λ d. map.insert d fd (record { number = s.files.last_file + 1; cloexec = cloexec }))) s.living;
    ended = s.ended;
    next_pid = s.next_pid;
  }

  -- a descriptor less that means an open file: the last one takes it away
  abbrev pub let_go : ℕ → State M X → State M X
  let_go number s = record {
    tree = released_at (place_of s.files number) s.tree;
    user = s.user;
    files = closed number s.files;
    input = s.input;
    taken = s.taken;
    out = s.out;
    err = s.err;
    living = s.living;
    ended = s.ended;
    next_pid = s.next_pid;
  }

  abbrev pub close_named : ℕ → ℕ → Named → State M X → State M X
  close_named pid fd x s = with_living (with_process pid (with_descs (λ d. map.remove d fd))) (let_go x.number s)

  unfoldable pub close : ℕ → ℕ → State M X → State M X
  close pid fd s = option_map_or (λ x. close_named pid fd x s) (named pid fd s) s

  -- a copy of what a descriptor means, under a free one
  abbrev pub copy_named : ℕ → ℕ → Bool → Named → State M X → State M X
  copy_named pid to cloexec x s = record {
    tree = held_at (place_of s.files x.number) s.tree;
    user = s.user;
    files = with_copy x.number s.files;
    input = s.input;
    taken = s.taken;
    out = s.out;
    err = s.err;
    living = with_process pid (with_descs (λ d. map.insert d to (record { number = x.number; cloexec = cloexec }))) s.living;
    ended = s.ended;
    next_pid = s.next_pid;
  }

  -- the new descriptor holds before the old one releases; so an open file that both mean stays
  abbrev pub copy_over : ℕ → ℕ → Bool → Named → Option Named → State M X → State M X
  copy_over pid to cloexec x None s = copy_named pid to cloexec x s
  copy_over pid to cloexec x (Some y) s = let_go y.number (copy_named pid to cloexec x s)

  abbrev pub on_opened_of : ℕ → ℕ → (Opened M → Opened M) → State M X → State M X
  on_opened_of pid fd f s = option_map_or (λ x. with_files (with_opened x.number f) s) (named pid fd s) s

  abbrev pub pipe_made : ℕ → ℕ → ℕ → Bool → State M X → State M X
  pipe_made pid first second cloexec s =
      let number = s.files.last_file + 1 in
      record {
        tree = s.tree;
        user = s.user;
        files = with_pipe s.files;
        input = s.input;
        taken = s.taken;
        out = s.out;
        err = s.err;
        living = with_process pid (with_descs (λ d. map.insert (map.insert d first (record { number = number; cloexec = cloexec })) second (record { number = number + 1; cloexec = cloexec }))) s.living;
        ended = s.ended;
        next_pid = s.next_pid;
      }

  -- ---- the caller itself

  abbrev pub with_image : (X → X) → Process M X → Process M X
  with_image f p = record {
    pid = p.pid;
    parent = p.parent;
    image = f p.image;
    brk_start = p.brk_start;
    brk = p.brk;
    descs = p.descs;
    cwd = p.cwd;
    exe = p.exe;
    exe_dir = p.exe_dir;
    exe_name = p.exe_name;
    umask = p.umask;
    waits = p.waits;
  }

  abbrev pub with_brk : ℕ → Process M X → Process M X
  with_brk brk p = record {
    pid = p.pid;
    parent = p.parent;
    image = p.image;
    brk_start = p.brk_start;
    brk = brk;
    descs = p.descs;
    cwd = p.cwd;
    exe = p.exe;
    exe_dir = p.exe_dir;
    exe_name = p.exe_name;
    umask = p.umask;
    waits = p.waits;
  }

  abbrev pub with_umask : ℕ → Process M X → Process M X
  with_umask umask p = record {
    pid = p.pid;
    parent = p.parent;
    image = p.image;
    brk_start = p.brk_start;
    brk = p.brk;
    descs = p.descs;
    cwd = p.cwd;
    exe = p.exe;
    exe_dir = p.exe_dir;
    exe_name = p.exe_name;
    umask = umask;
    waits = p.waits;
  }

  abbrev pub with_cwd : Place M → Process M X → Process M X
  with_cwd cwd p = record {
    pid = p.pid;
    parent = p.parent;
    image = p.image;
    brk_start = p.brk_start;
    brk = p.brk;
    descs = p.descs;
    cwd = cwd;
    exe = p.exe;
    exe_dir = p.exe_dir;
    exe_name = p.exe_name;
    umask = p.umask;
    waits = p.waits;
  }

  abbrev pub with_parent : ℕ → Process M X → Process M X
  with_parent parent p = record {
    pid = p.pid;
    parent = parent;
    image = p.image;
    brk_start = p.brk_start;
    brk = p.brk;
    descs = p.descs;
    cwd = p.cwd;
    exe = p.exe;
    exe_dir = p.exe_dir;
    exe_name = p.exe_name;
    umask = p.umask;
    waits = p.waits;
  }

  abbrev pub cwd_of : ℕ → State M X → Option (Place M)
  cwd_of pid s = option_map (λ p. p.cwd) (process pid s)

  abbrev pub exe_of : ℕ → State M X → Option (Place M)
  exe_of pid s = option_map (λ p. p.exe) (process pid s)

  -- the new working directory is held before the old one is released
  abbrev pub moved_to : ℕ → Host → M → State M X → State M X
  moved_to pid host m s = record {
    tree = released_at (cwd_of pid s) (tree.held (inode_of host) s.tree);
    user = s.user;
    files = s.files;
    input = s.input;
    taken = s.taken;
    out = s.out;
    err = s.err;
    living = with_process pid (with_cwd (record { mount = m; host = host })) s.living;
    ended = s.ended;
    next_pid = s.next_pid;
  }

  -- ---- processes

  abbrev pub child_of : Computing X → Birth → Process M X → Process M X
  child_of computing b p = record {
    pid = b.pid;
    parent = p.pid;
    image = computing.born b p.image;
    brk_start = p.brk_start;
    brk = p.brk;
    descs = p.descs;
    cwd = p.cwd;
    exe = p.exe;
    exe_dir = p.exe_dir;
    exe_name = p.exe_name;
    umask = p.umask;
    waits = false;
  }

  abbrev pub forked_from : Computing X → Birth → Process M X → State M X → State M X
  forked_from computing b p s = record {
    tree = held_at (Some p.exe) (held_at (Some p.cwd) (held_for p.descs s.files 1024 s.tree));
    user = s.user;
    files = with_copies p.descs s.files;
    input = s.input;
    taken = s.taken;
    out = s.out;
    err = s.err;
    living = s.living ++ child_of computing b p ∷ [];
    ended = s.ended;
    next_pid = b.pid + 1;
  }

  -- the first `count` descriptors are closed in order
  unfoldable pub close_below : ℕ → ℕ → State M X → State M X
  close_below pid zero s = s
  close_below pid (suc fd) s = close pid fd (close_below pid fd s)

  -- ---- a new program

  abbrev pub with_program : X → ℕ → Process M X → Process M X
  with_program image brk p = record {
    pid = p.pid;
    parent = p.parent;
    image = image;
    brk_start = brk;
    brk = brk;
    descs = p.descs;
    cwd = p.cwd;
    exe = p.exe;
    exe_dir = p.exe_dir;
    exe_name = p.exe_name;
    umask = p.umask;
    waits = p.waits;
  }

  abbrev pub with_exe : Place M → ℕ → List ℕ → Process M X → Process M X
  with_exe exe dir name p = record {
    pid = p.pid;
    parent = p.parent;
    image = p.image;
    brk_start = p.brk_start;
    brk = p.brk;
    descs = p.descs;
    cwd = p.cwd;
    exe = exe;
    exe_dir = dir;
    exe_name = name;
    umask = p.umask;
    waits = p.waits;
  }

  -- the new executable is held before the old one is released
  abbrev pub executed : ℕ → Host → ℕ → List ℕ → M → State M X → State M X
  executed pid host dir name m s = record {
    tree = released_at (exe_of pid s) (tree.held (inode_of host) s.tree);
    user = s.user;
    files = s.files;
    input = s.input;
    taken = s.taken;
    out = s.out;
    err = s.err;
    living = with_process pid (with_exe (record { mount = m; host = host }) dir name) s.living;
    ended = s.ended;
    next_pid = s.next_pid;
  }

  -- of the first `count` descriptors those that a new program doesn't get are closed, in order
  abbrev pub is_closed_on_exec : ℕ → ℕ → State M X → Bool
  is_closed_on_exec pid fd s = option_map_or (λ x. x.cloexec) (named pid fd s) false

  unfoldable pub close_on_exec_below : ℕ → ℕ → State M X → State M X
  close_on_exec_below pid zero s = s
  close_on_exec_below pid (suc fd) s =
      let before = close_on_exec_below pid fd s in
      if is_closed_on_exec pid fd before then close pid fd before else before

  -- the children of a process that ended belong to 1
  abbrev pub orphaned : ℕ → Process M X → Process M X
  orphaned pid p = if p.parent == pid then with_parent 1 p else p

-- an ended process that belongs to 1 vanishes
abbrev pub stays : ℕ → Ended → Bool
stays pid e = not (e.parent == pid)

-- an ended process in its place by its number
abbrev pub put_in : Ended → List Ended → List Ended
put_in e [] = e ∷ []
put_in e (f ∷ rest) = if nat_lt e.pid f.pid then e ∷ f ∷ rest else f ∷ put_in e rest

abbrev pub ended_with : ℕ → ℕ → ℕ → List Ended → List Ended
ended_with pid parent status ended =
    if parent == 1 then filter (stays pid) ended
    else put_in (record { pid = pid; parent = parent; status = status }) (filter (stays pid) ended)

module _ {M X : Type 0} where
  -- a process without descriptors leaves
  abbrev pub gone : ℕ → ℕ → Process M X → State M X → State M X
  gone pid status p s = record {
    tree = released_at (Some p.exe) (released_at (Some p.cwd) s.tree);
    user = s.user;
    files = s.files;
    input = s.input;
    taken = s.taken;
    out = s.out;
    err = s.err;
    living = map_list (orphaned pid) (filter (λ p. not (p.pid == pid)) s.living);
    ended = ended_with pid p.parent status s.ended;
    next_pid = s.next_pid;
  }

  abbrev pub end : ℕ → ℕ → State M X → State M X
  end pid status s =
      let closed = close_below pid 1024 s in
      option_map_or (λ p. gone pid status p closed) (process pid closed) closed

  abbrev pub reaped : ℕ → State M X → State M X
  reaped child s = record {
    tree = s.tree;
    user = s.user;
    files = s.files;
    input = s.input;
    taken = s.taken;
    out = s.out;
    err = s.err;
    living = s.living;
    ended = filter (λ e. not (e.pid == child)) s.ended;
    next_pid = s.next_pid;
  }

  -- ---- the console

  abbrev pub input_taken : ℕ → State M X → State M X
  input_taken count s = record {
    tree = s.tree;
    user = s.user;
    files = s.files;
    input = s.input;
    taken = s.taken + count;
    out = s.out;
    err = s.err;
    living = s.living;
    ended = s.ended;
    next_pid = s.next_pid;
  }

  abbrev pub out_written : List ℕ → State M X → State M X
  out_written bytes s = record {
    tree = s.tree;
    user = s.user;
    files = s.files;
    input = s.input;
    taken = s.taken;
    out = s.out ++ bytes;
    err = s.err;
    living = s.living;
    ended = s.ended;
    next_pid = s.next_pid;
  }

  abbrev pub err_written : List ℕ → State M X → State M X
  err_written bytes s = record {
    tree = s.tree;
    user = s.user;
    files = s.files;
    input = s.input;
    taken = s.taken;
    out = s.out;
    err = s.err ++ bytes;
    living = s.living;
    ended = s.ended;
    next_pid = s.next_pid;
  }

  -- ---- changes

  abbrev pub applied : Computing X → Mounts M → ℕ → Change → State M X → State M X
  applied computing mounts pid (AddNode dir name mode uid gid body) s = with_tree (tree.added dir name mode uid gid body) s
  applied computing mounts pid (LinkNode dir name inode) s = with_tree (tree.linked dir name inode) s
  applied computing mounts pid (RemoveName dir name) s =
      with_living (map_list (exe_after_removal dir name)) (with_files (with_all_opened (after_removal dir name)) (with_tree (tree.removed dir name) s))
  applied computing mounts pid (MoveName dir name to new) s =
      with_living (map_list (exe_after_rename dir name to new)) (with_files (with_all_opened (after_rename dir name to new)) (with_tree (tree.renamed dir name to new) s))
  applied computing mounts pid (SetMode inode mode) s = with_tree (tree.mode_set inode mode) s
  applied computing mounts pid (SetOwner inode uid gid) s = with_tree (tree.owner_set inode uid gid) s
  applied computing mounts pid (SetSize inode size) s = with_tree (tree.bytes_set inode (tree.sized size)) s
  applied computing mounts pid (WriteFile inode at bytes) s = with_tree (tree.bytes_set inode (tree.overwritten at bytes)) s
  applied computing mounts pid (OpenFile fd cloexec from o) s = option_map_or (λ m. open_in pid fd cloexec o m s) (mount_of mounts pid s from) s
  applied computing mounts pid (CopyDescriptor fd to cloexec) s = option_map_or (λ x. copy_over pid to cloexec x (named pid to s) s) (named pid fd s) s
  applied computing mounts pid (CloseDescriptor fd) s = close pid fd s
  applied computing mounts pid (SetCloexec fd on) s = with_living (with_process pid (with_descs (λ d. changed d fd (λ x. record { number = x.number; cloexec = on })))) s
  applied computing mounts pid (Seek fd at) s = on_opened_of pid fd (at_offset at) s
  applied computing mounts pid (SetAppend fd on) s = on_opened_of pid fd (with_append on) s
  applied computing mounts pid (MakePipe first second cloexec) s = pipe_made pid first second cloexec s
  applied computing mounts pid (TakeFromPipe pipe count) s = with_files (pipe_after_read pipe count) s
  applied computing mounts pid (PutIntoPipe pipe bytes) s = with_files (pipe_after_write pipe bytes) s
  applied computing mounts pid (TakeInput count) s = input_taken count s
  applied computing mounts pid (WriteOut bytes) s = out_written bytes s
  applied computing mounts pid (WriteErr bytes) s = err_written bytes s
  applied computing mounts pid (ChangePages c) s = with_living (with_process pid (with_image (computing.paged c))) s
  applied computing mounts pid (SetBreak brk) s = with_living (with_process pid (with_brk brk)) s
  applied computing mounts pid (SetUmask umask) s = with_living (with_process pid (with_umask umask)) s
  applied computing mounts pid (ChangeDirectory from host) s = option_map_or (λ m. moved_to pid host m s) (mount_of mounts pid s from) s
  applied computing mounts pid (Fork b) s = option_map_or (λ p. forked_from computing b p s) (process pid s) s
  applied computing mounts pid (End status) s = end pid status s
  applied computing mounts pid (Reap child) s = reaped child s
  applied computing mounts pid (ReplaceImage image brk) s = with_living (with_process pid (with_program (computing.loaded image) brk)) s
  applied computing mounts pid (ReplaceExecutable from host dir name) s = option_map_or (λ m. executed pid host dir name m s) (mount_of mounts pid s from) s
  applied computing mounts pid CloseOnExec s = close_on_exec_below pid 1024 s

  -- changes in their order
  abbrev pub all_applied : Computing X → Mounts M → ℕ → List Change → State M X → State M X
  all_applied computing mounts pid [] s = s
  all_applied computing mounts pid (c ∷ cs) s = all_applied computing mounts pid cs (applied computing mounts pid c s)
