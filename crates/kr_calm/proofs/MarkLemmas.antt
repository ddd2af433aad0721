-- What changes leave of the flag in their caller's memory.
use Rattle.std.specs.FinMap as map
use Rattle.std.proofs.Common.{◌≡◌, ◌≢◌, ℕ, zero, suc, ◌+◌, Bool, true, false, List, [], ◌∷◌, ◌++◌, refl, sym, ap, ◌∙◌, cond, Option, Some, None, is_some}
use Rattle.std.specs.Prelude.{map as map_list, ◌==◌, IsSome}
use Rattle.std.specs.List.{find, list_all}
use Rattle.std.specs.Option.{option_map, option_map_or}
use Rattle.std.proofs.lemmas.Bool.{and_parts}
use Rattle.kr_seen.specs.pr_base.Maps.{changed}
use Rattle.kr_seen.specs.rv_mem.Memory.{Memory}
use Rattle.kr_seen.specs.kr_calls.declared.request.Request.{Request}
use Rattle.kr_seen.specs.kr_tree.declared.place.Host.{Host}
use Rattle.kr_seen.specs.kr_files.declared.opened.Opened.{Opened}
use Rattle.kr_seen.specs.kr_files.Descriptors.{Named}
use Rattle.kr_seen.specs.kr_files.Files.{with_opened, at_offset, with_append}
use Rattle.kr_seen.specs.kr_model.State.{Image, Process, State, image_layout, process, named, is_pid, at_pid, with_process, with_descs}
use Rattle.kr_seen.specs.kr_model.Change.{Change, AddNode, LinkNode, RemoveName, MoveName, SetMode, SetOwner, SetSize, WriteFile, OpenFile, CopyDescriptor, CloseDescriptor, SetCloexec, Seek, SetAppend, MakePipe, TakeFromPipe, PutIntoPipe, TakeInput, WriteOut, WriteErr, ChangePages, SetBreak, SetUmask, ChangeDirectory, Fork, End, Reap, ReplaceImage, ReplaceExecutable, CloseOnExec, Birth}
use Rattle.kr_seen.specs.kr_model.Applied.{Mounts, applied, all_applied, images, mount_of, with_files, with_exe_name, exe_remembers, exe_after_removal, exe_after_rename, open_in, close_named, close, copy_named, copy_over, on_opened_of, pipe_made, with_image, with_brk, with_umask, with_cwd, moved_to, child_of, forked_from, with_exe, executed, is_closed_on_exec, close_on_exec_below}
use Rattle.kr_seen.specs.kr_model.Known.{known}
use Rattle.kr_seen.specs.kr_model.Operation.{operation}
use Rattle.kr_seen.specs.kr_model.Seen.{Seen}
use Rattle.kr_seen.specs.kr_model.declared.outcome.Outcome.TheVariants.{Ended}
use Rattle.kr_seen.proofs.kr_model.BareLemmas.{found-mapped}
use Rattle.kr_seen.specs.Carrying.{after_row, carried, memory_of, no_memory, with_memory, with_memory_of}
use Rattle.kr_calm.specs.Laws.{MarksAreKept, leaves_mark}
use Rattle.kr_calm.proofs.UnjudgedLemmas.{calls-leave}

module _ {M : Type 0} where
  abbrev flag : Process M Image → Bool
  flag p = p.image.memory.read_marked

  abbrev flag_in : ℕ → List (Process M Image) → Bool
  flag_in pid ps = option_map_or flag (find (is_pid pid) ps) false

  flag-told : (pid : ℕ) (s : State M Image) → (memory_of pid s).read_marked ≡ flag_in pid s.living
  flag-told pid s = by (process pid s)
    where
      by : (o : Option (Process M Image)) → (option_map_or (λ (p : Process M Image). p.image.memory) o no_memory).read_marked ≡ option_map_or flag o false
      by None = refl
      by (Some p) = refl

  module _ (pid : ℕ) where
    -- ---- lists of processes

    mapped-flag : (g : Process M Image → Process M Image) → ((p : Process M Image) → (g p).pid ≡ p.pid) → ((p : Process M Image) → flag (g p) ≡ flag p) → (ps : List (Process M Image)) → flag_in pid (map_list g ps) ≡ flag_in pid ps
    mapped-flag g pids flags ps =
        ap (λ o. option_map_or flag o false) (found-mapped g (is_pid pid) (is_pid pid) (λ x. ap (λ n. n == pid) (pids x)) ps) ∙ by (find (is_pid pid) ps)
      where
        by : (o : Option (Process M Image)) → option_map_or flag (option_map g o) false ≡ option_map_or flag o false
        by None = refl
        by (Some p) = flags p

    one-flag : (f : Process M Image → Process M Image) → ((p : Process M Image) → (f p).pid ≡ p.pid) → ((p : Process M Image) → flag (f p) ≡ flag p) → (ps : List (Process M Image)) → flag_in pid (with_process pid f ps) ≡ flag_in pid ps
    one-flag f pids flags ps = mapped-flag (at_pid pid f) (λ p. by-pid p (p.pid == pid)) (λ p. by-flag p (p.pid == pid)) ps
      where
        by-pid : (p : Process M Image) (b : Bool) → (cond b (f p) p).pid ≡ p.pid
        by-pid p true = pids p
        by-pid p false = refl

        by-flag : (p : Process M Image) (b : Bool) → flag (cond b (f p) p) ≡ flag p
        by-flag p true = flags p
        by-flag p false = refl

    -- a child comes behind all that live, with no mark read
    child-flag : (c : Process M Image) → flag c ≡ false → (ps : List (Process M Image)) → flag_in pid (ps ++ c ∷ []) ≡ flag_in pid ps
    child-flag c unread [] = by (c.pid == pid)
      where
        by : (b : Bool) → option_map_or flag (cond b (Some c) None) false ≡ false
        by true = unread
        by false = refl
    child-flag c unread (x ∷ ps) = by (x.pid == pid) (child-flag c unread ps)
      where
        by : (b : Bool) → flag_in pid (ps ++ c ∷ []) ≡ flag_in pid ps → option_map_or flag (cond b (Some x) (find (is_pid pid) (ps ++ c ∷ []))) false ≡ option_map_or flag (cond b (Some x) (find (is_pid pid) ps)) false
        by true rest = refl
        by false rest = rest

    -- ---- changes

    abbrev Keeps : State M Image → State M Image → Type 0
    Keeps s t = flag_in pid t.living ≡ flag_in pid s.living

    exe-flag : (dir : ℕ) (name : List ℕ) (b : Bool) (p : Process M Image) → flag (cond b (with_exe_name dir name p) p) ≡ flag p
    exe-flag dir name true p = refl
    exe-flag dir name false p = refl

    exe-pid : (dir : ℕ) (name : List ℕ) (b : Bool) (p : Process M Image) → (cond b (with_exe_name dir name p) p).pid ≡ p.pid
    exe-pid dir name true p = refl
    exe-pid dir name false p = refl

    removal-keeps : (dir : ℕ) (name : List ℕ) (ps : List (Process M Image)) → flag_in pid (map_list (exe_after_removal dir name) ps) ≡ flag_in pid ps
    removal-keeps dir name ps = mapped-flag (exe_after_removal dir name) (λ p. exe-pid 0 [] (exe_remembers dir name p) p) (λ p. exe-flag 0 [] (exe_remembers dir name p) p) ps

    rename-keeps : (dir : ℕ) (name : List ℕ) (to : ℕ) (new : List ℕ) (ps : List (Process M Image)) → flag_in pid (map_list (exe_after_rename dir name to new) ps) ≡ flag_in pid ps
    rename-keeps dir name to new ps =
        mapped-flag (exe_after_rename dir name to new)
        (λ p. exe-pid to new (exe_remembers dir name (exe_after_removal to new p)) (exe_after_removal to new p) ∙ exe-pid 0 [] (exe_remembers to new p) p)
        (λ p. exe-flag to new (exe_remembers dir name (exe_after_removal to new p)) (exe_after_removal to new p) ∙ exe-flag 0 [] (exe_remembers to new p) p) ps

    close-keeps : (fd : ℕ) (s : State M Image) → Keeps s (close pid fd s)
    unfolding close
    close-keeps fd s = by (named pid fd s)
      where
        by : (o : Option Named) → Keeps s (option_map_or (λ x. close_named pid fd x s) o s)
        by None = refl
        by (Some x) = one-flag (with_descs (λ d. map.remove d fd)) (λ p. refl) (λ p. refl) s.living

    on_exec-keeps : (count : ℕ) (s : State M Image) → Keeps s (close_on_exec_below pid count s)
    unfolding close_on_exec_below
    on_exec-keeps zero s = refl
    on_exec-keeps (suc fd) s = by (close_on_exec_below pid fd s) (on_exec-keeps fd s) (is_closed_on_exec pid fd (close_on_exec_below pid fd s))
      where
        by : (before : State M Image) → Keeps s before → (b : Bool) → Keeps s (cond b (close pid fd before) before)
        by before rest true = close-keeps fd before ∙ rest
        by before rest false = rest

    opened-keeps : (fd : ℕ) (cloexec : Bool) (o : Opened (Unit {0})) (s : State M Image) (m : Option M) → Keeps s (option_map_or (λ m. open_in pid fd cloexec o m s) m s)
    opened-keeps fd cloexec o s None = refl
    opened-keeps fd cloexec o s (Some m) = one-flag (with_descs (λ d. map.insert d fd (record { number = s.files.last_file + 1; cloexec = cloexec }))) (λ p. refl) (λ p. refl) s.living

    copy-keeps : (to : ℕ) (cloexec : Bool) (x : Named) (s : State M Image) → Keeps s (copy_named pid to cloexec x s)
    copy-keeps to cloexec x s = one-flag (with_descs (λ d. map.insert d to (record { number = x.number; cloexec = cloexec }))) (λ p. refl) (λ p. refl) s.living

    over-keeps : (to : ℕ) (cloexec : Bool) (x : Named) (y : Option Named) (s : State M Image) → Keeps s (copy_over pid to cloexec x y s)
    over-keeps to cloexec x None s = copy-keeps to cloexec x s
    over-keeps to cloexec x (Some y) s = copy-keeps to cloexec x s

    copied-keeps : (fd to : ℕ) (cloexec : Bool) (s : State M Image) (o : Option Named) → Keeps s (option_map_or (λ x. copy_over pid to cloexec x (named pid to s) s) o s)
    copied-keeps fd to cloexec s None = refl
    copied-keeps fd to cloexec s (Some x) = over-keeps to cloexec x (named pid to s) s

    on_opened-keeps : (fd : ℕ) (f : Opened M → Opened M) (s : State M Image) → Keeps s (on_opened_of pid fd f s)
    on_opened-keeps fd f s = by (named pid fd s)
      where
        by : (o : Option Named) → Keeps s (option_map_or (λ x. with_files (with_opened x.number f) s) o s)
        by None = refl
        by (Some x) = refl

    pipe-keeps : (first second : ℕ) (cloexec : Bool) (s : State M Image) → Keeps s (pipe_made pid first second cloexec s)
    pipe-keeps first second cloexec s =
        let number : ℕ = s.files.last_file + 1 in
        one-flag (with_descs (λ d. map.insert (map.insert d first (record { number = number; cloexec = cloexec })) second (record { number = number + 1; cloexec = cloexec }))) (λ p. refl) (λ p. refl) s.living

    moved-keeps : (host : Host) (s : State M Image) (o : Option M) → Keeps s (option_map_or (λ m. moved_to pid host m s) o s)
    moved-keeps host s None = refl
    moved-keeps host s (Some m) = one-flag (with_cwd (record { mount = m; host = host })) (λ p. refl) (λ p. refl) s.living

    executed-keeps : (host : Host) (dir : ℕ) (name : List ℕ) (s : State M Image) (o : Option M) → Keeps s (option_map_or (λ m. executed pid host dir name m s) o s)
    executed-keeps host dir name s None = refl
    executed-keeps host dir name s (Some m) = one-flag (with_exe (record { mount = m; host = host }) dir name) (λ p. refl) (λ p. refl) s.living

    forked-keeps : (b : Birth) (s : State M Image) (o : Option (Process M Image)) → Keeps s (option_map_or (λ p. forked_from images b p s) o s)
    forked-keeps b s None = refl
    forked-keeps b s (Some p) = child-flag (child_of images b p) refl s.living

    keeps : (mounts : Mounts M) (c : Change) (s : State M Image) → leaves_mark c ≡ true → Keeps s (applied images mounts pid c s)
    keeps mounts (AddNode dir name mode uid gid body) s e = refl
    keeps mounts (LinkNode dir name inode) s e = refl
    keeps mounts (RemoveName dir name) s e = removal-keeps dir name s.living
    keeps mounts (MoveName dir name to new) s e = rename-keeps dir name to new s.living
    keeps mounts (SetMode inode mode) s e = refl
    keeps mounts (SetOwner inode uid gid) s e = refl
    keeps mounts (SetSize inode size) s e = refl
    keeps mounts (WriteFile inode at bytes) s e = refl
    keeps mounts (OpenFile fd cloexec from o) s e = opened-keeps fd cloexec o s (mount_of mounts pid s from)
    keeps mounts (CopyDescriptor fd to cloexec) s e = copied-keeps fd to cloexec s (named pid fd s)
    keeps mounts (CloseDescriptor fd) s e = close-keeps fd s
    keeps mounts (SetCloexec fd on) s e = one-flag (with_descs (λ d. changed d fd (λ x. record { number = x.number; cloexec = on }))) (λ p. refl) (λ p. refl) s.living
    keeps mounts (Seek fd at) s e = on_opened-keeps fd (at_offset at) s
    keeps mounts (SetAppend fd on) s e = on_opened-keeps fd (with_append on) s
    keeps mounts (MakePipe first second cloexec) s e = pipe-keeps first second cloexec s
    keeps mounts (TakeFromPipe pipe count) s e = refl
    keeps mounts (PutIntoPipe pipe bytes) s e = refl
    keeps mounts (TakeInput count) s e = refl
    keeps mounts (WriteOut bytes) s e = refl
    keeps mounts (WriteErr bytes) s e = refl
    keeps mounts (ChangePages c) s e = one-flag (with_image (images.paged c)) (λ p. refl) (λ p. refl) s.living
    keeps mounts (SetBreak brk) s e = one-flag (with_brk brk) (λ p. refl) (λ p. refl) s.living
    keeps mounts (SetUmask umask) s e = one-flag (with_umask umask) (λ p. refl) (λ p. refl) s.living
    keeps mounts (ChangeDirectory from host) s e = moved-keeps host s (mount_of mounts pid s from)
    keeps mounts (Fork b) s e = forked-keeps b s (process pid s)
    keeps mounts (End status) s e = absurd cc
    keeps mounts (Reap child) s e = refl
    keeps mounts (ReplaceImage image brk) s e = absurd cc
    keeps mounts (ReplaceExecutable from host dir name) s e = executed-keeps host dir name s (mount_of mounts pid s from)
    keeps mounts CloseOnExec s e = on_exec-keeps 1024 s

    all-keep : (mounts : Mounts M) (cs : List Change) (s : State M Image) → list_all leaves_mark cs ≡ true → Keeps s (all_applied images mounts pid cs s)
    all-keep mounts [] s e = refl
    all-keep mounts (c ∷ cs) s e =
        let parts = and_parts (leaves_mark c) (list_all leaves_mark cs) e in
        all-keep mounts cs (applied images mounts pid c s) parts.1 ∙ keeps mounts c s parts.0

    -- ---- the memory that a call left

    noted : (memory : Memory) (ps : List (Process M Image)) → IsSome (find (is_pid pid) ps) → flag_in pid (with_process pid (with_image (with_memory memory)) ps) ≡ memory.read_marked
    noted memory [] lives = absurd cc
    noted memory (x ∷ ps) lives = by (x.pid == pid) refl lives (noted memory ps)
      where
        by : (b : Bool) → (x.pid == pid) ≡ b → is_some (cond b (Some x) (find (is_pid pid) ps)) ≡ true → (IsSome (find (is_pid pid) ps) → flag_in pid (with_process pid (with_image (with_memory memory)) ps) ≡ memory.read_marked)
            → option_map_or flag (cond ((cond b (with_image (with_memory memory) x) x).pid == pid) (Some (cond b (with_image (with_memory memory) x) x)) (find (is_pid pid) (with_process pid (with_image (with_memory memory)) ps))) false ≡ memory.read_marked
        by true is lives rest = ap (λ b. option_map_or flag (cond b (Some (with_image (with_memory memory) x)) (find (is_pid pid) (with_process pid (with_image (with_memory memory)) ps))) false) is
        by false is lives rest = ap (λ b. option_map_or flag (cond b (Some x) (find (is_pid pid) (with_process pid (with_image (with_memory memory)) ps))) false) is ∙ rest lives

-- ---- what calls change, whatever the request is

pub rows_keep_marks : {M : Type 0} (mounts : Mounts M) (pid : ℕ) (request : Request) (seen : Seen) (s : State M Image)
    → let done = carried pid (operation pid request seen (known image_layout pid s)) s in
    IsSome (process pid s) → done.reply.outcome ≢ Ended → (memory_of pid (after_row mounts pid done s)).read_marked ≡ done.memory.read_marked
rows_keep_marks mounts pid request seen s lives goes =
    let done = carried pid (operation pid request seen (known image_layout pid s)) s in
    flag-told pid (after_row mounts pid done s) ∙ all-keep pid mounts done.reply.changes (with_memory_of pid done.memory s) (calls-leave pid request seen (known image_layout pid s) (memory_of pid s) goes)
    ∙ noted pid done.memory s.living lives

pub marks_are_kept : {M : Type 0} → MarksAreKept M
marks_are_kept = record {
  changes = λ mounts pid cs s leave. flag-told pid (all_applied images mounts pid cs s) ∙ all-keep pid mounts cs s leave ∙ sym (flag-told pid s);
  calls = λ mounts pid request seen s kind lives goes. rows_keep_marks mounts pid request seen s lives goes;
}
