-- Slots stay where a change leaves them.
use Rattle.std.specs.FinMap as map
use Rattle.std.proofs.Common.{◌≡◌, ℕ, Bool, true, false, List, [], refl, sym, ap, ◌∙◌, cond, Option, Some, None}
use Rattle.std.specs.Prelude.{◌==◌, map as map_list}
use Rattle.std.specs.List.{find}
use Rattle.std.specs.Option.{option_map, option_map_or, option_and_then}
use Rattle.kr_calls.specs.pr_base.Maps.{changed}
use Rattle.kr_calls.proofs.pr_base.MapLemmas.{by_key, get-changed_same, get-changed_other}
use Rattle.kr_files.specs.Descriptors.{Meanings, Named}
use Rattle.kr_model.specs.State.{Process, State, process, named, is_pid, at_pid, with_process, with_descs}
use Rattle.kr_model.specs.Change.{Change, AddNode, LinkNode, RemoveName, MoveName, SetMode, SetOwner, SetSize, WriteFile, OpenFile, CopyDescriptor, CloseDescriptor, SetCloexec, Seek, SetAppend, MakePipe, TakeFromPipe, PutIntoPipe, TakeInput, WriteOut, WriteErr, ChangePages, SetBreak, SetUmask, ChangeDirectory, Fork, End, Reap, ReplaceImage, ReplaceExecutable, CloseOnExec}
use Rattle.kr_model.specs.Applied.{Computing, Mounts, applied, exe_remembers, with_exe_name, exe_after_removal, exe_after_rename, with_image, with_brk, with_umask, with_program}
use Rattle.kr_model.specs.Judged.{alters_slots, HasSlots}
use Rattle.kr_model.proofs.BareLemmas.{found-mapped}

-- the number that a descriptor names, in a map of descriptors
abbrev number_at : ℕ → Meanings → Option ℕ
number_at fd d = option_map (λ x. x.number) (map.get d fd)

module _ {M X : Type 0} where
  -- a change of processes that leaves their numbers and slots
  pub record LeavesSlots (f : Process M X → Process M X) : Type 0 where
    pub pids : (p : Process M X) → (f p).pid ≡ p.pid
    pub cwds : (p : Process M X) → (f p).cwd ≡ p.cwd
    pub exes : (p : Process M X) → (f p).exe ≡ p.exe
    pub numbers : (p : Process M X) (fd : ℕ) → number_at fd (f p).descs ≡ number_at fd p.descs

  told : {A : Type 0} (f : Process M X → Process M X) (g : Process M X → A) → ((p : Process M X) → g (f p) ≡ g p) → (o : Option (Process M X)) → option_map g (option_map f o) ≡ option_map g o
  told f g same None = refl
  told f g same (Some p) = ap Some (same p)

  number_of : (fd : ℕ) (o : Option (Process M X)) → option_map (λ (x : Named). x.number) (option_and_then (λ (p : Process M X). map.get p.descs fd) o) ≡ option_and_then (λ (p : Process M X). number_at fd p.descs) o
  number_of fd None = refl
  number_of fd (Some p) = refl

  then_told : (f : Process M X → Process M X) (fd : ℕ) → LeavesSlots f → (o : Option (Process M X)) → option_and_then (λ (p : Process M X). number_at fd p.descs) (option_map f o) ≡ option_and_then (λ (p : Process M X). number_at fd p.descs) o
  then_told f fd leaves None = refl
  then_told f fd leaves (Some p) = leaves.numbers p fd

  -- a state with these processes
  by_living : (s t : State M X) (f : Process M X → Process M X) → LeavesSlots f → t.living ≡ map_list f s.living → HasSlots s t
  by_living s t f leaves same = record {
    cwds = λ pid. ap (option_map (λ p. p.cwd)) (found pid) ∙ told f (λ p. p.cwd) leaves.cwds (process pid s);
    exes = λ pid. ap (option_map (λ p. p.exe)) (found pid) ∙ told f (λ p. p.exe) leaves.exes (process pid s);
    descriptors = λ pid fd.
        number_of fd (process pid t)
        ∙ ap (option_and_then (λ (p : Process M X). number_at fd p.descs)) (found pid)
        ∙ then_told f fd leaves (process pid s) ∙ sym (number_of fd (process pid s));
  }
    where
      found : (pid : ℕ) → process pid t ≡ option_map f (process pid s)
      found pid = ap (find (is_pid pid)) same ∙ found-mapped f (is_pid pid) (is_pid pid) (λ p. ap (λ q. q == pid) (leaves.pids p)) s.living

  -- done to one process
  at_one : (pid : ℕ) (f : Process M X → Process M X) → LeavesSlots f → LeavesSlots (at_pid pid f)
  at_one pid f leaves = record {
    pids = λ p. pids (p.pid == pid) p;
    cwds = λ p. cwds (p.pid == pid) p;
    exes = λ p. exes (p.pid == pid) p;
    numbers = λ p fd. numbers (p.pid == pid) p fd;
  }
    where
      pids : (b : Bool) (p : Process M X) → (cond b (f p) p).pid ≡ p.pid
      pids true p = leaves.pids p
      pids false p = refl

      cwds : (b : Bool) (p : Process M X) → (cond b (f p) p).cwd ≡ p.cwd
      cwds true p = leaves.cwds p
      cwds false p = refl

      exes : (b : Bool) (p : Process M X) → (cond b (f p) p).exe ≡ p.exe
      exes true p = leaves.exes p
      exes false p = refl

      numbers : (b : Bool) (p : Process M X) (fd : ℕ) → number_at fd (cond b (f p) p).descs ≡ number_at fd p.descs
      numbers true p fd = leaves.numbers p fd
      numbers false p fd = refl

  one_leaves : (s t : State M X) (pid : ℕ) (f : Process M X → Process M X) → LeavesSlots f → t.living ≡ with_process pid f s.living → HasSlots s t
  one_leaves s t pid f leaves same = by_living s t (at_pid pid f) (at_one pid f leaves) same

  same_living : (s t : State M X) → t.living ≡ s.living → HasSlots s t
  same_living s t same = record {
    cwds = λ pid. ap (λ l. option_map (λ p. p.cwd) (find (is_pid pid) l)) same;
    exes = λ pid. ap (λ l. option_map (λ p. p.exe) (find (is_pid pid) l)) same;
    descriptors = λ pid fd. ap (λ l. option_map (λ (x : Named). x.number) (option_and_then (λ (p : Process M X). map.get p.descs fd) (find (is_pid pid) l))) same;
  }

  -- ---- what changes do to processes

  removal_leaves : (dir : ℕ) (name : List ℕ) → LeavesSlots (exe_after_removal dir name)
  removal_leaves dir name = record {
    pids = λ p. pids (exe_remembers dir name p) p;
    cwds = λ p. cwds (exe_remembers dir name p) p;
    exes = λ p. exes (exe_remembers dir name p) p;
    numbers = λ p fd. numbers (exe_remembers dir name p) p fd;
  }
    where
      pids : (b : Bool) (p : Process M X) → (cond b (with_exe_name 0 [] p) p).pid ≡ p.pid
      pids true p = refl
      pids false p = refl

      cwds : (b : Bool) (p : Process M X) → (cond b (with_exe_name 0 [] p) p).cwd ≡ p.cwd
      cwds true p = refl
      cwds false p = refl

      exes : (b : Bool) (p : Process M X) → (cond b (with_exe_name 0 [] p) p).exe ≡ p.exe
      exes true p = refl
      exes false p = refl

      numbers : (b : Bool) (p : Process M X) (fd : ℕ) → number_at fd (cond b (with_exe_name 0 [] p) p).descs ≡ number_at fd p.descs
      numbers true p fd = refl
      numbers false p fd = refl

  rename_leaves : (dir : ℕ) (name : List ℕ) (to : ℕ) (new : List ℕ) → LeavesSlots (exe_after_rename dir name to new)
  rename_leaves dir name to new =
      let kept = removal_leaves to new in
      record {
        pids = λ p. let k : Process M X = exe_after_removal to new p in pids (exe_remembers dir name k) k ∙ kept.pids p;
        cwds = λ p. let k : Process M X = exe_after_removal to new p in cwds (exe_remembers dir name k) k ∙ kept.cwds p;
        exes = λ p. let k : Process M X = exe_after_removal to new p in exes (exe_remembers dir name k) k ∙ kept.exes p;
        numbers = λ p fd. let k : Process M X = exe_after_removal to new p in numbers (exe_remembers dir name k) k fd ∙ kept.numbers p fd;
      }
    where
      pids : (b : Bool) (p : Process M X) → (cond b (with_exe_name to new p) p).pid ≡ p.pid
      pids true p = refl
      pids false p = refl

      cwds : (b : Bool) (p : Process M X) → (cond b (with_exe_name to new p) p).cwd ≡ p.cwd
      cwds true p = refl
      cwds false p = refl

      exes : (b : Bool) (p : Process M X) → (cond b (with_exe_name to new p) p).exe ≡ p.exe
      exes true p = refl
      exes false p = refl

      numbers : (b : Bool) (p : Process M X) (fd : ℕ) → number_at fd (cond b (with_exe_name to new p) p).descs ≡ number_at fd p.descs
      numbers true p fd = refl
      numbers false p fd = refl

  cloexec_leaves : (fd : ℕ) (on : Bool) → LeavesSlots (with_descs (λ d. changed d fd (λ x. record { number = x.number; cloexec = on })))
  cloexec_leaves fd on = record {
    pids = λ p. refl;
    cwds = λ p. refl;
    exes = λ p. refl;
    numbers = λ p q. by_key (λ q. number_at q (changed p.descs fd flagged) ≡ number_at q p.descs) fd
        (ap (option_map (λ x. x.number)) (get-changed_same p.descs fd flagged) ∙ same (map.get p.descs fd))
        (λ q d. ap (option_map (λ x. x.number)) (get-changed_other p.descs fd flagged q d)) q;
  }
    where
      flagged : Named → Named
      flagged x = record { number = x.number; cloexec = on }

      same : (o : Option Named) → option_map (λ (x : Named). x.number) (option_map flagged o) ≡ option_map (λ (x : Named). x.number) o
      same None = refl
      same (Some x) = refl

  opened_leaves : (o : Option Named) (s : State M X) (g : Named → State M X) → ((x : Named) → HasSlots s (g x)) → HasSlots s (option_map_or g o s)
  opened_leaves None s g each = same_living s s refl
  opened_leaves (Some x) s g each = each x

  plain : {f : Process M X → Process M X} → ((p : Process M X) → (f p).pid ≡ p.pid) → ((p : Process M X) → (f p).cwd ≡ p.cwd) → ((p : Process M X) → (f p).exe ≡ p.exe) → ((p : Process M X) → (f p).descs ≡ p.descs) → LeavesSlots f
  plain pids cwds exes descs = record { pids = pids; cwds = cwds; exes = exes; numbers = λ p fd. ap (number_at fd) (descs p) }

  pub slots_stay : (computing : Computing X) (mounts : Mounts M) (pid : ℕ) (c : Change) (s : State M X) → alters_slots c ≡ false → HasSlots s (applied computing mounts pid c s)
  slots_stay computing mounts pid (AddNode dir name mode uid gid body) s h = same_living s _ refl
  slots_stay computing mounts pid (LinkNode dir name inode) s h = same_living s _ refl
  slots_stay computing mounts pid (RemoveName dir name) s h = by_living s _ (exe_after_removal dir name) (removal_leaves dir name) refl
  slots_stay computing mounts pid (MoveName dir name to new) s h = by_living s _ (exe_after_rename dir name to new) (rename_leaves dir name to new) refl
  slots_stay computing mounts pid (SetMode inode mode) s h = same_living s _ refl
  slots_stay computing mounts pid (SetOwner inode uid gid) s h = same_living s _ refl
  slots_stay computing mounts pid (SetSize inode size) s h = same_living s _ refl
  slots_stay computing mounts pid (WriteFile inode at bytes) s h = same_living s _ refl
  slots_stay computing mounts pid (OpenFile fd cloexec from o) s h = absurd cc
  slots_stay computing mounts pid (CopyDescriptor fd to cloexec) s h = absurd cc
  slots_stay computing mounts pid (CloseDescriptor fd) s h = absurd cc
  slots_stay computing mounts pid (SetCloexec fd on) s h = one_leaves s _ pid (with_descs (λ d. changed d fd (λ x. record { number = x.number; cloexec = on }))) (cloexec_leaves fd on) refl
  slots_stay computing mounts pid (Seek fd at) s h = opened_leaves (named pid fd s) s _ (λ x. same_living s _ refl)
  slots_stay computing mounts pid (SetAppend fd on) s h = opened_leaves (named pid fd s) s _ (λ x. same_living s _ refl)
  slots_stay computing mounts pid (MakePipe first second cloexec) s h = absurd cc
  slots_stay computing mounts pid (TakeFromPipe pipe count) s h = same_living s _ refl
  slots_stay computing mounts pid (PutIntoPipe pipe bytes) s h = same_living s _ refl
  slots_stay computing mounts pid (TakeInput count) s h = same_living s _ refl
  slots_stay computing mounts pid (WriteOut bytes) s h = same_living s _ refl
  slots_stay computing mounts pid (WriteErr bytes) s h = same_living s _ refl
  slots_stay computing mounts pid (ChangePages c) s h = one_leaves s _ pid (with_image (computing.paged c)) (plain (λ p. refl) (λ p. refl) (λ p. refl) (λ p. refl)) refl
  slots_stay computing mounts pid (SetBreak brk) s h = one_leaves s _ pid (with_brk brk) (plain (λ p. refl) (λ p. refl) (λ p. refl) (λ p. refl)) refl
  slots_stay computing mounts pid (SetUmask umask) s h = one_leaves s _ pid (with_umask umask) (plain (λ p. refl) (λ p. refl) (λ p. refl) (λ p. refl)) refl
  slots_stay computing mounts pid (ChangeDirectory from host) s h = absurd cc
  slots_stay computing mounts pid (Fork b) s h = absurd cc
  slots_stay computing mounts pid (End status) s h = absurd cc
  slots_stay computing mounts pid (Reap child) s h = same_living s _ refl
  slots_stay computing mounts pid (ReplaceImage image brk) s h = one_leaves s _ pid (with_program (computing.loaded image) brk) (plain (λ p. refl) (λ p. refl) (λ p. refl) (λ p. refl)) refl
  slots_stay computing mounts pid (ReplaceExecutable from host dir name) s h = absurd cc
  slots_stay computing mounts pid CloseOnExec s h = absurd cc
