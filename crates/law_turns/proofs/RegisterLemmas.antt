-- The registers of a caller behind its call.
use Rattle.std.specs.FinMap as map
use Rattle.std.proofs.Common.{◌≡◌, ℕ, zero, suc, Bool, true, false, cond, List, [], ◌∷◌, ◌++◌, Option, Some, None, refl, ap, ◌∙◌, eq-eqb}
use Rattle.std.specs.Prelude.{◌==◌, map as map_list}
use Rattle.std.specs.List.{find, list_all}
use Rattle.std.specs.Option.{option_map, option_map_or}
use Rattle.std.proofs.lemmas.Option.{same_Some}
use Rattle.std.proofs.lemmas.Bool.{and_parts}
use Rattle.pt_results.specs.rv_mem.declared.regs.Regs.{Regs}
use Rattle.law_places.specs.kr_calm.Laws.{leaves_mark}
use Rattle.law_places.specs.kr_files.Descriptors.{Meanings, Named}
use Rattle.law_places.specs.kr_files.Files.{with_opened}
use Rattle.law_places.specs.kr_model.Applied.{Mounts, all_applied, applied, child_of, close, close_named, close_on_exec_below, copy_over, exe_after_removal, exe_after_rename, exe_remembers, forked_from, images, is_closed_on_exec, mount_of, moved_to, on_opened_of, open_in, executed, with_brk, with_cwd, with_exe, with_exe_name, with_files, with_image, with_umask}
use Rattle.law_places.specs.kr_model.Change.{Change, AddNode, LinkNode, RemoveName, MoveName, SetMode, SetOwner, SetSize, WriteFile, OpenFile, CopyDescriptor, CloseDescriptor, SetCloexec, Seek, SetAppend, MakePipe, TakeFromPipe, PutIntoPipe, TakeInput, WriteOut, WriteErr, ChangePages, SetBreak, SetUmask, ChangeDirectory, Fork, End, Reap, ReplaceImage, ReplaceExecutable, CloseOnExec}
use Rattle.law_places.specs.kr_model.State.{Image, Process, State, at_pid, is_pid, named, process, with_descs, with_process}
use Rattle.law_places.specs.kr_model.declared.outcome.Outcome.{Outcome}
use Rattle.law_places.specs.kr_model.declared.outcome.Outcome.TheVariants.{Answer, Wait, Ended, NoMemory}
use Rattle.kr_core.specs.kr_seen.Carrying.{with_memory, with_memory_of}
use Rattle.kr_core.proofs.law_lawful.ProcessChangeLemmas.{found}
use Rattle.kr_core.specs.kr_steps.Answering.{going, with_answer}
use Rattle.kr_core.specs.kr_steps.Settling.{settled}
use Rattle.law_places.proofs.FollowLemmas.{told_at}
use Rattle.law_places.proofs.TagLemmas.{found_is}
use Rattle.law_turns.specs.Operating.{done_in}
use Rattle.law_turns.specs.Registers.{CallsKeepRegisters, ChangesKeepRegisters, told_by}

module _ (pid : ℕ) (regs : Regs) where
  -- who has the number has the registers
  abbrev HasIn : List (Process ℕ Image) → Type 0
  HasIn ps = option_map (λ p. p.image.regs) (find (is_pid pid) ps) ≡ Some regs

  mapped : (g : Process ℕ Image → Process ℕ Image) → ((p : Process ℕ Image) → (g p).pid ≡ p.pid) → ((p : Process ℕ Image) → (g p).image.regs ≡ p.image.regs) → (ps : List (Process ℕ Image)) → HasIn ps → HasIn (map_list g ps)
  mapped g pids same [] h = h
  mapped g pids same (p ∷ ps) h = ap (λ n. option_map (λ p. p.image.regs) (cond (n == pid) (Some (g p)) (find (is_pid pid) (map_list g ps)))) (pids p) ∙ by (p.pid == pid) h (mapped g pids same ps)
    where
      by : (b : Bool) → option_map (λ p. p.image.regs) (cond b (Some p) (find (is_pid pid) ps)) ≡ Some regs → (HasIn ps → HasIn (map_list g ps)) → option_map (λ p. p.image.regs) (cond b (Some (g p)) (find (is_pid pid) (map_list g ps))) ≡ Some regs
      by true h later = ap Some (same p) ∙ h
      by false h later = later h

  one : (k : ℕ) (f : Process ℕ Image → Process ℕ Image) → ((p : Process ℕ Image) → (f p).pid ≡ p.pid) → ((p : Process ℕ Image) → (f p).image.regs ≡ p.image.regs) → (ps : List (Process ℕ Image)) → HasIn ps → HasIn (with_process k f ps)
  one k f pids same ps h = mapped (at_pid k f) (told_at (λ p. p.pid) k f pids) (told_at (λ p. p.image.regs) k f same) ps h

  descriptors : (k : ℕ) (f : Meanings → Meanings) (ps : List (Process ℕ Image)) → HasIn ps → HasIn (with_process k (with_descs f) ps)
  descriptors k f ps h = one k (with_descs f) (λ p. refl) (λ p. refl) ps h

  grown : (ps rest : List (Process ℕ Image)) → HasIn ps → HasIn (ps ++ rest)
  grown [] rest h = absurd (never h)
    where
      never : {A : Type 0} {a : A} → None ≡ Some a → ⊥
      never e = cc
  grown (p ∷ ps) rest h = by (p.pid == pid) h (grown ps rest)
    where
      by : (b : Bool) → option_map (λ p. p.image.regs) (cond b (Some p) (find (is_pid pid) ps)) ≡ Some regs → (HasIn ps → HasIn (ps ++ rest)) → option_map (λ p. p.image.regs) (cond b (Some p) (find (is_pid pid) (ps ++ rest))) ≡ Some regs
      by true h later = h
      by false h later = later h

  -- ---- executables that are forgotten or renamed

  removal_pid : (dir : ℕ) (name : List ℕ) (p : Process ℕ Image) → (exe_after_removal dir name p).pid ≡ p.pid
  removal_pid dir name p = by (exe_remembers dir name p)
    where
      by : (b : Bool) → (cond b (with_exe_name 0 [] p) p).pid ≡ p.pid
      by true = refl
      by false = refl

  removal_regs : (dir : ℕ) (name : List ℕ) (p : Process ℕ Image) → (exe_after_removal dir name p).image.regs ≡ p.image.regs
  removal_regs dir name p = by (exe_remembers dir name p)
    where
      by : (b : Bool) → (cond b (with_exe_name 0 [] p) p).image.regs ≡ p.image.regs
      by true = refl
      by false = refl

  rename_pid : (dir : ℕ) (name : List ℕ) (to : ℕ) (new : List ℕ) (p : Process ℕ Image) → (exe_after_rename dir name to new p).pid ≡ p.pid
  rename_pid dir name to new p = by (exe_after_removal to new p) (exe_remembers dir name (exe_after_removal to new p)) ∙ removal_pid to new p
    where
      by : (kept : Process ℕ Image) (b : Bool) → (cond b (with_exe_name to new kept) kept).pid ≡ kept.pid
      by kept true = refl
      by kept false = refl

  rename_regs : (dir : ℕ) (name : List ℕ) (to : ℕ) (new : List ℕ) (p : Process ℕ Image) → (exe_after_rename dir name to new p).image.regs ≡ p.image.regs
  rename_regs dir name to new p = by (exe_after_removal to new p) (exe_remembers dir name (exe_after_removal to new p)) ∙ removal_regs to new p
    where
      by : (kept : Process ℕ Image) (b : Bool) → (cond b (with_exe_name to new kept) kept).image.regs ≡ kept.image.regs
      by kept true = refl
      by kept false = refl

  -- ---- changes

  abbrev Has : State ℕ Image → Type 0
  Has s = HasIn s.living

  module _ (mounts : Mounts ℕ) (caller : ℕ) where
    closed : (fd : ℕ) (s : State ℕ Image) → Has s → Has (close caller fd s)
    unfolding close
    closed fd s h = by (named caller fd s)
      where
        by : (o : Option Named) → Has (option_map_or (λ x. close_named caller fd x s) o s)
        by None = h
        by (Some x) = descriptors caller (λ d. map.remove d fd) s.living h

    closed_all : (count : ℕ) (s : State ℕ Image) → Has s → Has (close_on_exec_below caller count s)
    unfolding close_on_exec_below
    closed_all zero s h = h
    closed_all (suc fd) s h = by (is_closed_on_exec caller fd (close_on_exec_below caller fd s)) (closed_all fd s h)
      where
        by : (b : Bool) → Has (close_on_exec_below caller fd s) → Has (cond b (close caller fd (close_on_exec_below caller fd s)) (close_on_exec_below caller fd s))
        by true before = closed fd (close_on_exec_below caller fd s) before
        by false before = before

    opened_kept : (fd : ℕ) (f : _) (s : State ℕ Image) → Has s → Has (on_opened_of caller fd f s)
    opened_kept fd f s h = by (named caller fd s)
      where
        by : (o : Option Named) → Has (option_map_or (λ x. with_files (with_opened x.number f) s) o s)
        by None = h
        by (Some x) = h

    in_mount_kept : (o : Option ℕ) (f : ℕ → State ℕ Image) (s : State ℕ Image) → Has s → ((m : ℕ) → Has (f m)) → Has (option_map_or f o s)
    in_mount_kept None f s h each = h
    in_mount_kept (Some m) f s h each = each m

    copied : (fd to : ℕ) (cloexec : Bool) (s : State ℕ Image) → Has s → Has (applied images mounts caller (CopyDescriptor fd to cloexec) s)
    copied fd to cloexec s h = by (named caller fd s) (named caller to s)
      where
        by : (o q : Option Named) → Has (option_map_or (λ x. copy_over caller to cloexec x q s) o s)
        by None q = h
        by (Some x) None = descriptors caller (λ d. map.insert d to (record { number = x.number; cloexec = cloexec })) s.living h
        by (Some x) (Some y) = descriptors caller (λ d. map.insert d to (record { number = x.number; cloexec = cloexec })) s.living h

    forks : (b : _) (s : State ℕ Image) → Has s → Has (applied images mounts caller (Fork b) s)
    forks b s h = by (process caller s)
      where
        by : (o : Option (Process ℕ Image)) → Has (option_map_or (λ p. forked_from images b p s) o s)
        by None = h
        by (Some p) = grown s.living (child_of images b p ∷ []) h

    change : (c : Change) → leaves_mark c ≡ true → (s : State ℕ Image) → Has s → Has (applied images mounts caller c s)
    change (AddNode dir name mode uid gid body) mild s h = h
    change (LinkNode dir name inode) mild s h = h
    change (RemoveName dir name) mild s h = mapped (exe_after_removal dir name) (removal_pid dir name) (removal_regs dir name) s.living h
    change (MoveName dir name to new) mild s h = mapped (exe_after_rename dir name to new) (rename_pid dir name to new) (rename_regs dir name to new) s.living h
    change (SetMode inode mode) mild s h = h
    change (SetOwner inode uid gid) mild s h = h
    change (SetSize inode size) mild s h = h
    change (WriteFile inode at bytes) mild s h = h
    change (OpenFile fd cloexec from o) mild s h = in_mount_kept (mount_of mounts caller s from) (λ m. open_in caller fd cloexec o m s) s h (λ m. descriptors caller _ s.living h)
    change (CopyDescriptor fd to cloexec) mild s h = copied fd to cloexec s h
    change (CloseDescriptor fd) mild s h = closed fd s h
    change (SetCloexec fd on) mild s h = descriptors caller _ s.living h
    change (Seek fd at) mild s h = opened_kept fd _ s h
    change (SetAppend fd on) mild s h = opened_kept fd _ s h
    change (MakePipe first second cloexec) mild s h = descriptors caller _ s.living h
    change (TakeFromPipe pipe count) mild s h = h
    change (PutIntoPipe pipe bytes) mild s h = h
    change (TakeInput count) mild s h = h
    change (WriteOut bytes) mild s h = h
    change (WriteErr bytes) mild s h = h
    change (ChangePages c) mild s h = one caller (with_image (images.paged c)) (λ p. refl) (λ p. refl) s.living h
    change (SetBreak brk) mild s h = one caller (with_brk brk) (λ p. refl) (λ p. refl) s.living h
    change (SetUmask umask) mild s h = one caller (with_umask umask) (λ p. refl) (λ p. refl) s.living h
    change (ChangeDirectory from host) mild s h = in_mount_kept (mount_of mounts caller s from) (λ m. moved_to caller host m s) s h (λ m. one caller (with_cwd (record { mount = m; host = host })) (λ p. refl) (λ p. refl) s.living h)
    change (Fork b) mild s h = forks b s h
    change (End status) mild s h = absurd cc
    change (Reap child) mild s h = h
    change (ReplaceImage image brk) mild s h = absurd cc
    change (ReplaceExecutable from host dir name) mild s h = in_mount_kept (mount_of mounts caller s from) (λ m. executed caller host dir name m s) s h (λ m. one caller (with_exe (record { mount = m; host = host }) dir name) (λ p. refl) (λ p. refl) s.living h)
    change CloseOnExec mild s h = closed_all 1024 s h

    changes : (cs : List Change) (s : State ℕ Image) → list_all leaves_mark cs ≡ true → Has s → Has (all_applied images mounts caller cs s)
    changes [] s mild h = h
    changes (c ∷ cs) s mild h = let parts = and_parts (leaves_mark c) (list_all leaves_mark cs) mild in changes cs (applied images mounts caller c s) parts.1 (change c parts.0 s h)

pub changes_keep_registers : ChangesKeepRegisters
changes_keep_registers mounts caller pid cs s regs mild h = changes pid regs mounts caller cs s mild h

-- ---- a whole call

module _ (pid : ℕ) (regs : Regs) where
  -- the caller's own registers, where it is told
  gone_on : (f : Regs → Regs) (waits : Bool) (ps : List (Process ℕ Image)) → HasIn pid regs ps → HasIn pid (f regs) (with_process pid (going f waits) ps)
  gone_on f waits ps h = ap (option_map (λ p. p.image.regs)) (found pid (going f waits) (λ p. refl) pid ps) ∙ by (find (is_pid pid) ps) refl h
    where
      by : (o : Option (Process ℕ Image)) → find (is_pid pid) ps ≡ o → option_map (λ p. p.image.regs) o ≡ Some regs → option_map (λ p. p.image.regs) (option_map (at_pid pid (going f waits)) o) ≡ Some (f regs)
      by None is h = absurd (never h)
        where
          never : {A : Type 0} {a : A} → None ≡ Some a → ⊥
          never e = cc
      by (Some p) is h = ap (λ b. Some (cond b (going f waits p) p).image.regs) (eq-eqb p.pid pid (found_is pid ps p is)) ∙ ap (λ r. Some (f r)) (same_Some _ _ h)

  settles : (outcome : Outcome) (s : State ℕ Image) → HasIn pid regs s.living → HasIn pid (told_by outcome regs) (settled pid outcome s).living
  settles (Answer value) s h = gone_on (with_answer value) false s.living h
  settles Wait s h = gone_on (λ regs. regs) true s.living h
  settles Ended s h = h
  settles NoMemory s h = h

pub calls_keep_registers : CallsKeepRegisters
calls_keep_registers pid r seen mounts s p lives mild =
    settles pid p.image.regs (done_in pid r seen s).reply.outcome (all_applied images mounts pid (done_in pid r seen s).reply.changes (with_memory_of pid (done_in pid r seen s).memory s))
    (changes pid p.image.regs mounts pid (done_in pid r seen s).reply.changes (with_memory_of pid (done_in pid r seen s).memory s) mild
    (one pid p.image.regs pid (with_image (with_memory (done_in pid r seen s).memory)) (λ p. refl) (λ p. refl) s.living (ap (option_map (λ p. p.image.regs)) lives)))
