-- Processes that stay at no call, and that calls of others leave them so; what is left of a caller whose call is done; and the number of a child.
use Rattle.std.specs.FinMap as map
use Rattle.std.proofs.Common.{◌≡◌, ◌≢◌, ℕ, zero, suc, ◌+◌, ◌<◌, Bool, true, false, not, List, [], ◌∷◌, cond, Option, Some, None, eq-eqb, refl, sym, ap, ◌∙◌, arith}
use Rattle.std.specs.Prelude.{map as map_list, ◌==◌, Result, Ok, Err, IsSome, pos, negsuc, neg_ℤ}
use Rattle.std.specs.List.{AllByRecursion, filter, find}
use Rattle.std.specs.Option.{option_map_or}
use Rattle.std.proofs.lemmas.Option.{same_Some}
use Rattle.kr_loose.specs.kr_core.pr_base.Errno.{errno_number}
use Rattle.kr_loose.specs.kr_core.pr_base.Maps.{changed}
use Rattle.kr_loose.specs.kr_core.pr_base.declared.errno.Errno.{Errno}
use Rattle.kr_loose.specs.rv_mem.Actions.{CarriedOut, carried_out}
use Rattle.kr_loose.specs.rv_mem.Memory.{Memory}
use Rattle.kr_loose.specs.rv_mem.declared.regs.Regs.{Regs}
use Rattle.kr_loose.specs.kr_tree.declared.place.Host.{Host}
use Rattle.kr_loose.specs.kr_view.View.{Row}
use Rattle.kr_loose.specs.kr_core.kr_calls.Decoding.{Decoded, decoding}
use Rattle.kr_loose.specs.kr_core.kr_calls.declared.request.Request.{Request}
use Rattle.kr_loose.specs.kr_core.kr_calls.declared.request.Request.TheVariants as call
use Rattle.kr_loose.specs.kr_core.kr_files.Descriptors.{Meanings, Named}
use Rattle.kr_loose.specs.kr_core.kr_files.Files.{at_offset, with_append, with_opened}
use Rattle.kr_loose.specs.kr_model.Applied.{Mounts, all_applied, applied, child_of, close, close_below, close_named, close_on_exec_below, copy_over, end, exe_after_removal, exe_after_rename, exe_remembers, executed, forked_from, gone, images, is_closed_on_exec, mount_of, moved_to, open_in, orphaned, with_brk, with_cwd, with_exe, with_exe_name, with_files, with_image, with_living, with_parent, with_program, with_umask}
use Rattle.kr_loose.specs.kr_model.Change.{AddNode, Birth, Change, ChangeDirectory, ChangePages, CloseDescriptor, CloseOnExec, CopyDescriptor, End, Fork, LinkNode, MakePipe, MoveName, OpenFile, PutIntoPipe, Reap, RemoveName, ReplaceExecutable, ReplaceImage, Seek, SetAppend, SetBreak, SetCloexec, SetMode, SetOwner, SetSize, SetUmask, TakeFromPipe, TakeInput, WriteErr, WriteFile, WriteOut}
use Rattle.kr_loose.specs.kr_model.Known.{known}
use Rattle.kr_loose.specs.kr_model.Lawful.{ArePids, RiseFrom}
use Rattle.kr_loose.specs.kr_model.Reply.{Reply}
use Rattle.kr_loose.specs.kr_model.State.{Image, Process, State, at_pid, image_layout, is_pid, named, process, with_descs, with_process}
use Rattle.kr_loose.specs.kr_model.Walks.{seen, targets_of}
use Rattle.kr_loose.specs.kr_model.declared.outcome.Outcome.{Outcome}
use Rattle.kr_loose.specs.kr_model.declared.outcome.Outcome.TheVariants.{Answer, Ended, NoMemory, Wait}
use Rattle.kr_loose.specs.kr_core.law_allowed.Told.{mounts_walked}
use Rattle.kr_loose.specs.kr_core.kr_seen.Carrying.{memory_of, with_memory, with_memory_of}
use Rattle.kr_loose.specs.kr_core.kr_execve.Execution.{Program, after_execution, changes_of, execution, mount_of as mount_of_program}
use Rattle.kr_loose.specs.kr_core.kr_steps.Answering.{going, with_answer}
use Rattle.kr_loose.specs.kr_core.kr_steps.Settling.{settled}
use Rattle.kr_loose.specs.kr_stops.Stopped.{computed, nothing_handed}
use Rattle.kr_loose.specs.kr_turns.PlainCall.{after_decoding, child_of as child_told, end_of, executed as program_executed, operated, plain_call, plain_call_of, refusal_told, replaced, requested, row_on}
use Rattle.kr_loose.specs.kr_turns.Turn.{killed}
use Rattle.kr_loose.specs.kr_turns.declared.plain.CallEnd.TheVariants as ended
use Rattle.kr_loose.proofs.LivingLemmas.{all-found, all-passed}
use Rattle.law_beside.proofs.kr_core.law_allowed.PieceLemmas.{all-append}
use Rattle.law_beside.proofs.kr_core.law_lawful.AfterLemmas.{pids-with}
use Rattle.law_beside.proofs.kr_core.law_lawful.ProcessChangeLemmas.{found-above, found-passes}
use Rattle.law_beside.proofs.kr_core.law_lawful.SumLemmas.{passed-test}
use Rattle.law_beside.proofs.kr_core.kr_model.LineLemmas.{row_keeps}
use Rattle.law_loose.specs.Lagging.{stays_in}

abbrev Machines : Type 0
Machines = State ℕ Image

-- ---- processes that stay nowhere, of a number

-- what is done to a process leaves its number, and whether it stays at a call
abbrev Keeps : (Process ℕ Image → Process ℕ Image) → Type 0
Keeps g = (p : Process ℕ Image) → ((g p).pid ≡ p.pid) × ((g p).waits ≡ p.waits)

at-keeps : (pid : ℕ) (f : Process ℕ Image → Process ℕ Image) → Keeps f → Keeps (at_pid pid f)
at-keeps pid f keeps p = by (p.pid == pid)
  where
    by : (b : Bool) → ((cond b (f p) p).pid ≡ p.pid) × ((cond b (f p) p).waits ≡ p.waits)
    by true = keeps p
    by false = (refl, refl)

named-keeps : (dir : ℕ) (name : List ℕ) (b : Bool) (p : Process ℕ Image) → ((cond b (with_exe_name dir name p) p).pid ≡ p.pid) × ((cond b (with_exe_name dir name p) p).waits ≡ p.waits)
named-keeps dir name true p = (refl, refl)
named-keeps dir name false p = (refl, refl)

removal-keeps : (dir : ℕ) (name : List ℕ) → Keeps (exe_after_removal dir name)
removal-keeps dir name p = named-keeps 0 [] (exe_remembers dir name p) p

rename-keeps : (dir : ℕ) (name : List ℕ) (to : ℕ) (new : List ℕ) → Keeps (exe_after_rename dir name to new)
rename-keeps dir name to new p =
    let kept : Process ℕ Image = exe_after_removal to new p in
    let one = named-keeps to new (exe_remembers dir name kept) kept in
    let two = removal-keeps to new p in
    (one.0 ∙ two.0, one.1 ∙ two.1)

orphan-keeps : (pid : ℕ) → Keeps (orphaned pid)
orphan-keeps pid p = by (p.parent == pid)
  where
    by : (b : Bool) → ((cond b (with_parent 1 p) p).pid ≡ p.pid) × ((cond b (with_parent 1 p) p).waits ≡ p.waits)
    by true = (refl, refl)
    by false = (refl, refl)

module _ (q : ℕ) where
  -- each process of this number stays at no call
  abbrev pub LiveGo : List (Process ℕ Image) → Type 0
  LiveGo ps = AllByRecursion (λ (p : Process ℕ Image). p.pid ≡ q → p.waits ≡ false) ps

  all-go : (g : Process ℕ Image → Process ℕ Image) (ps : List (Process ℕ Image)) → Keeps g → LiveGo ps → LiveGo (map_list g ps)
  all-go g [] keeps go = tt
  all-go g (p ∷ ps) keeps go = (λ is. (keeps p).1 ∙ go.0 (sym (keeps p).0 ∙ is), all-go g ps keeps go.1)

  one-goes : (pid : ℕ) (f : Process ℕ Image → Process ℕ Image) (ps : List (Process ℕ Image)) → Keeps f → LiveGo ps → LiveGo (with_process pid f ps)
  one-goes pid f ps keeps go = all-go (at_pid pid f) ps (at-keeps pid f keeps) go

  -- the others, where one of another number is done anything to
  other-goes : (pid : ℕ) (f : Process ℕ Image → Process ℕ Image) → ((p : Process ℕ Image) → (f p).pid ≡ p.pid) → q ≢ pid → (ps : List (Process ℕ Image)) → LiveGo ps → LiveGo (with_process pid f ps)
  other-goes pid f pids other [] go = tt
  other-goes pid f pids other (p ∷ ps) go = (by (p.pid == pid) refl, other-goes pid f pids other ps go.1)
    where
      by : (b : Bool) → (p.pid == pid) ≡ b → (cond b (f p) p).pid ≡ q → (cond b (f p) p).waits ≡ false
      by true is same = absurd (other (sym same ∙ pids p ∙ passed-test p.pid pid is))
      by false is same = go.0 same

  some-gone : (pid : ℕ) (ps : List (Process ℕ Image)) → LiveGo ps → LiveGo (filter (λ p. not (p.pid == pid)) ps)
  some-gone pid ps go = all-passed (λ (p : Process ℕ Image). p.pid ≡ q → p.waits ≡ false) (λ (p : Process ℕ Image). not (p.pid == pid)) ps go

  descs-go : (pid : ℕ) (f : Meanings → Meanings) (ps : List (Process ℕ Image)) → LiveGo ps → LiveGo (with_process pid (with_descs f) ps)
  descs-go pid f ps go = one-goes pid (with_descs f) ps (λ p. (refl, refl)) go

  maybe-goes : {A : Type 0} (o : Option A) (f : A → Machines) (s : Machines) → LiveGo s.living → ((x : A) → LiveGo (f x).living) → LiveGo (option_map_or f o s).living
  maybe-goes None f s go each = go
  maybe-goes (Some x) f s go each = each x

  -- ---- by changes

  close-goes : (pid fd : ℕ) (s : Machines) → LiveGo s.living → LiveGo (close pid fd s).living
  unfolding close
  close-goes pid fd s go = maybe-goes (named pid fd s) (λ x. close_named pid fd x s) s go (λ x. descs-go pid (λ d. map.remove d fd) s.living go)

  below-goes : (pid count : ℕ) (s : Machines) → LiveGo s.living → LiveGo (close_below pid count s).living
  unfolding close_below
  below-goes pid zero s go = go
  below-goes pid (suc fd) s go = close-goes pid fd (close_below pid fd s) (below-goes pid fd s go)

  on-exec-goes : (pid count : ℕ) (s : Machines) → LiveGo s.living → LiveGo (close_on_exec_below pid count s).living
  unfolding close_on_exec_below
  on-exec-goes pid zero s go = go
  on-exec-goes pid (suc fd) s go = by (close_on_exec_below pid fd s) (on-exec-goes pid fd s go) (is_closed_on_exec pid fd (close_on_exec_below pid fd s))
    where
      by : (before : Machines) → LiveGo before.living → (b : Bool) → LiveGo (cond b (close pid fd before) before).living
      by before own true = close-goes pid fd before own
      by before own false = own

  copied-goes : (pid to : ℕ) (cloexec : Bool) (x : Named) (o : Option Named) (s : Machines) → LiveGo s.living → LiveGo (copy_over pid to cloexec x o s).living
  copied-goes pid to cloexec x None s go = descs-go pid (λ d. map.insert d to (record { number = x.number; cloexec = cloexec })) s.living go
  copied-goes pid to cloexec x (Some y) s go = descs-go pid (λ d. map.insert d to (record { number = x.number; cloexec = cloexec })) s.living go

  -- a child stays nowhere
  forked-goes : (b : Birth) (s : Machines) → LiveGo s.living → (o : Option (Process ℕ Image)) → LiveGo (option_map_or (λ p. forked_from images b p s) o s).living
  forked-goes b s go None = go
  forked-goes b s go (Some p) = all-append (λ (p : Process ℕ Image). p.pid ≡ q → p.waits ≡ false) s.living (child_of images b p ∷ []) go ((λ is. refl), tt)

  gone-goes : (pid status : ℕ) (p : Process ℕ Image) (s : Machines) → LiveGo s.living → LiveGo (gone pid status p s).living
  gone-goes pid status p s go = all-go (orphaned pid) (filter (λ p. not (p.pid == pid)) s.living) (orphan-keeps pid) (some-gone pid s.living go)

  end-goes : (pid status : ℕ) (s : Machines) → LiveGo s.living → LiveGo (end pid status s).living
  end-goes pid status s go = by (close_below pid 1024 s) (below-goes pid 1024 s go) (process pid (close_below pid 1024 s))
    where
      by : (closed : Machines) → LiveGo closed.living → (o : Option (Process ℕ Image)) → LiveGo (option_map_or (λ p. gone pid status p closed) o closed).living
      by closed own None = own
      by closed own (Some p) = gone-goes pid status p closed own

  moved-goes : (pid : ℕ) (host : Host) (s : Machines) → LiveGo s.living → (m : ℕ) → LiveGo (moved_to pid host m s).living
  moved-goes pid host s go m = one-goes pid (with_cwd (record { mount = m; host = host })) s.living (λ p. (refl, refl)) go

  executed-goes : (pid : ℕ) (host : Host) (dir : ℕ) (name : List ℕ) (s : Machines) → LiveGo s.living → (m : ℕ) → LiveGo (executed pid host dir name m s).living
  executed-goes pid host dir name s go m = one-goes pid (with_exe (record { mount = m; host = host }) dir name) s.living (λ p. (refl, refl)) go

  change-goes : (mounts : Mounts ℕ) (pid : ℕ) (c : Change) (s : Machines) → LiveGo s.living → LiveGo (applied images mounts pid c s).living
  change-goes mounts pid (AddNode dir name mode uid gid body) s go = go
  change-goes mounts pid (LinkNode dir name inode) s go = go
  change-goes mounts pid (RemoveName dir name) s go = all-go (exe_after_removal dir name) s.living (removal-keeps dir name) go
  change-goes mounts pid (MoveName dir name to new) s go = all-go (exe_after_rename dir name to new) s.living (rename-keeps dir name to new) go
  change-goes mounts pid (SetMode inode mode) s go = go
  change-goes mounts pid (SetOwner inode uid gid) s go = go
  change-goes mounts pid (SetSize inode size) s go = go
  change-goes mounts pid (WriteFile inode at bytes) s go = go
  change-goes mounts pid (OpenFile fd cloexec from o) s go =
      maybe-goes (mount_of mounts pid s from) (λ m. open_in pid fd cloexec o m s) s go
      (λ m. descs-go pid (λ d. map.insert d fd (record { number = s.files.last_file + 1; cloexec = cloexec })) s.living go)
  change-goes mounts pid (CopyDescriptor fd to cloexec) s go =
      maybe-goes (named pid fd s) (λ x. copy_over pid to cloexec x (named pid to s) s) s go (λ x. copied-goes pid to cloexec x (named pid to s) s go)
  change-goes mounts pid (CloseDescriptor fd) s go = close-goes pid fd s go
  change-goes mounts pid (SetCloexec fd on) s go = descs-go pid (λ d. changed d fd (λ x. record { number = x.number; cloexec = on })) s.living go
  change-goes mounts pid (Seek fd at) s go = maybe-goes (named pid fd s) (λ x. with_files (with_opened x.number (at_offset at)) s) s go (λ x. go)
  change-goes mounts pid (SetAppend fd on) s go = maybe-goes (named pid fd s) (λ x. with_files (with_opened x.number (with_append on)) s) s go (λ x. go)
  change-goes mounts pid (MakePipe first second cloexec) s go =
      descs-go pid (λ d. map.insert (map.insert d first (record { number = s.files.last_file + 1; cloexec = cloexec })) second (record { number = s.files.last_file + 1 + 1; cloexec = cloexec })) s.living go
  change-goes mounts pid (TakeFromPipe pipe count) s go = go
  change-goes mounts pid (PutIntoPipe pipe bytes) s go = go
  change-goes mounts pid (TakeInput count) s go = go
  change-goes mounts pid (WriteOut bytes) s go = go
  change-goes mounts pid (WriteErr bytes) s go = go
  change-goes mounts pid (ChangePages c) s go = one-goes pid (with_image (images.paged c)) s.living (λ p. (refl, refl)) go
  change-goes mounts pid (SetBreak brk) s go = one-goes pid (with_brk brk) s.living (λ p. (refl, refl)) go
  change-goes mounts pid (SetUmask umask) s go = one-goes pid (with_umask umask) s.living (λ p. (refl, refl)) go
  change-goes mounts pid (ChangeDirectory from host) s go = maybe-goes (mount_of mounts pid s from) (λ m. moved_to pid host m s) s go (moved-goes pid host s go)
  change-goes mounts pid (Fork b) s go = forked-goes b s go (process pid s)
  change-goes mounts pid (End status) s go = end-goes pid status s go
  change-goes mounts pid (Reap child) s go = go
  change-goes mounts pid (ReplaceImage image brk) s go = one-goes pid (with_program image brk) s.living (λ p. (refl, refl)) go
  change-goes mounts pid (ReplaceExecutable from host dir name) s go = maybe-goes (mount_of mounts pid s from) (λ m. executed pid host dir name m s) s go (executed-goes pid host dir name s go)
  change-goes mounts pid CloseOnExec s go = on-exec-goes pid 1024 s go

  changes-go : (mounts : Mounts ℕ) (pid : ℕ) (cs : List Change) (s : Machines) → LiveGo s.living → LiveGo (all_applied images mounts pid cs s).living
  changes-go mounts pid [] s go = go
  changes-go mounts pid (c ∷ cs) s go = changes-go mounts pid cs (applied images mounts pid c s) (change-goes mounts pid c s go)

  -- ---- by calls of another one

  module _ (pid : ℕ) (other : q ≢ pid) where
    going-goes : (regs : Regs → Regs) (waits : Bool) (s : Machines) → LiveGo s.living → LiveGo (with_living (with_process pid (going regs waits)) s).living
    going-goes regs waits s go = other-goes pid (going regs waits) (λ p. refl) other s.living go

    settled-goes : (outcome : Outcome) (s : Machines) → LiveGo s.living → LiveGo (settled pid outcome s).living
    settled-goes (Answer value) s go = going-goes (with_answer value) false s go
    settled-goes Wait s go = going-goes (λ regs. regs) true s go
    settled-goes Ended s go = go
    settled-goes NoMemory s go = go

    refused-goes : (e : Errno) (s : Machines) → LiveGo s.living → LiveGo (refusal_told pid e s).state.living
    refused-goes e s go = going-goes (with_answer (neg_ℤ (pos (errno_number e)))) false s go

    replaced-goes : (result : Result Program Errno) (s : Machines) → LiveGo s.living → LiveGo (replaced pid result s).state.living
    replaced-goes (Ok program) s go = going-goes (λ regs. regs) false s go
    replaced-goes (Err e) s go = refused-goes e s go

    noted-goes : (memory : Memory) (s : Machines) → LiveGo s.living → LiveGo (with_memory_of pid memory s).living
    noted-goes memory s go = one-goes pid (with_image (with_memory memory)) s.living (λ p. (refl, refl)) go

    module _ (table : List Row) where
      operated-goes : (r : Request) (s : Machines) → LiveGo s.living → LiveGo (operated table pid r s).state.living
      operated-goes r s go =
          let done : CarriedOut Reply = row_on table pid r s in
          let mounts : Mounts ℕ = mounts_walked (targets_of table pid s r) in
          settled-goes done.reply.outcome (all_applied images mounts pid done.reply.changes (with_memory_of pid done.memory s))
          (changes-go mounts pid done.reply.changes (with_memory_of pid done.memory s) (noted-goes done.memory s go))

      program-goes : (path : List ℕ) (args env : ℕ) (s : Machines) → LiveGo s.living → LiveGo (program_executed table pid path args env s).state.living
      program-goes path args env s go =
          let done : CarriedOut (Result Program Errno) = carried_out (execution table pid s path args env) (memory_of pid s) in
          let mounts : Mounts ℕ = record { found = mount_of_program done.reply; directory = None } in
          replaced-goes done.reply (all_applied images mounts pid (changes_of done.reply) (with_memory_of pid done.memory s))
          (changes-go mounts pid (changes_of done.reply) (with_memory_of pid done.memory s) (noted-goes done.memory s go))

      requested-goes : (r : Request) (s : Machines) → LiveGo s.living → LiveGo (requested table pid r s).state.living
      requested-goes (call.Execve path args env) s go = program-goes path args env s go
      requested-goes r s go = operated-goes r s go

      decoded-goes : (result : Decoded) (s : Machines) → LiveGo s.living → LiveGo (after_decoding table pid result s).state.living
      decoded-goes (Ok r) s go = requested-goes r s go
      decoded-goes (Err e) s go = refused-goes e s go

      call-goes : (s : Machines) → LiveGo s.living → LiveGo (plain_call table pid s).state.living
      call-goes s go = by (process pid s)
        where
          by : (o : Option (Process ℕ Image)) → LiveGo (option_map_or (plain_call_of table pid s) o (record { state = s; end = ended.Waits; child = None; handed = nothing_handed })).state.living
          by None = go
          by (Some p) =
              let done : CarriedOut Decoded = carried_out (decoding p.image.regs) p.image.memory in
              decoded-goes done.reply (computed pid p.image.regs done.memory s)
              (one-goes pid (with_image (λ (image : Image). record { regs = p.image.regs; memory = done.memory })) s.living (λ p. (refl, refl)) go)

-- ---- of a number that is one's own

-- those behind it have greater ones
above-go : (q low next : ℕ) (ps : List (Process ℕ Image)) → RiseFrom low next (map_list (λ p. p.pid) ps) → q < low → LiveGo q ps
above-go q low next [] rise below = tt
above-go q low next (p ∷ ps) rise below = let first = rise.0 in ((λ is. absurd (omega (arith, is))), above-go q (suc p.pid) next ps rise.2 (omega arith))

found-goes : (q low next : ℕ) (ps : List (Process ℕ Image)) → RiseFrom low next (map_list (λ p. p.pid) ps) → option_map_or (λ (p : Process ℕ Image). p.waits) (find (is_pid q) ps) false ≡ false → LiveGo q ps
found-goes q low next [] rise e = tt
found-goes q low next (p ∷ ps) rise e = by (p.pid == q) refl (found-goes q (suc p.pid) next ps rise.2) e
  where
    by : (b : Bool) → (p.pid == q) ≡ b → (option_map_or (λ (p : Process ℕ Image). p.waits) (find (is_pid q) ps) false ≡ false → LiveGo q ps)
        → option_map_or (λ (p : Process ℕ Image). p.waits) (cond b (Some p) (find (is_pid q) ps)) false ≡ false → LiveGo q (p ∷ ps)
    by true is later e = let number = passed-test p.pid q is in ((λ same. e), above-go q (suc p.pid) next ps rise.2 (omega (arith, number)))
    by false is later e = ((λ same. absurd (let no : false ≡ true = sym is ∙ eq-eqb p.pid q same in cc)), later e)

go-told : (q : ℕ) (s : Machines) → ArePids s → stays_in q s ≡ false → LiveGo q s.living
go-told q s pids e = found-goes q 2 s.next_pid s.living pids.living e

told-go : (q : ℕ) (s : Machines) → LiveGo q s.living → stays_in q s ≡ false
told-go q s go = by (process q s) refl
  where
    by : (o : Option (Process ℕ Image)) → process q s ≡ o → option_map_or (λ (p : Process ℕ Image). p.waits) o false ≡ false
    by None e = refl
    by (Some p) e = all-found (λ (p : Process ℕ Image). p.pid ≡ q → p.waits ≡ false) (is_pid q) s.living p go e (passed-test p.pid q (found-passes (is_pid q) s.living p e))

-- a process that computes
pub computing-leaves-going : (pid q : ℕ) (regs : Regs) (memory : Memory) (s : Machines) → ArePids s → stays_in q s ≡ false → stays_in q (computed pid regs memory s) ≡ false
computing-leaves-going pid q regs memory s pids e =
    told-go q (computed pid regs memory s) (one-goes q pid (with_image (λ (image : Image). record { regs = regs; memory = memory })) s.living (λ p. (refl, refl)) (go-told q s pids e))

pub computing-leaves-pids : (pid : ℕ) (regs : Regs) (memory : Memory) (s : Machines) → ArePids s → ArePids (computed pid regs memory s)
computing-leaves-pids pid regs memory s pids = pids-with s (computed pid regs memory s) pid (with_image (λ (image : Image). record { regs = regs; memory = memory })) (λ p. refl) refl refl refl pids

-- another one's call, and another one's death
pub call-leaves-going : (table : List Row) (pid q : ℕ) (s : Machines) → q ≢ pid → ArePids s → stays_in q s ≡ false → stays_in q (plain_call table pid s).state ≡ false
call-leaves-going table pid q s other pids e = told-go q (plain_call table pid s).state (call-goes q pid other table s (go-told q s pids e))

pub death-leaves-going : (pid q signal : ℕ) (s : Machines) → ArePids s → stays_in q s ≡ false → stays_in q (killed pid signal s) ≡ false
death-leaves-going pid q signal s pids e = told-go q (killed pid signal s) (end-goes q pid signal s (go-told q s pids e))

-- ---- a caller whose call is done

-- one that is told an answer stays nowhere
own-answered : (pid : ℕ) (regs : Regs → Regs) (ps : List (Process ℕ Image)) → LiveGo pid (with_process pid (going regs false) ps)
own-answered pid regs [] = tt
own-answered pid regs (p ∷ ps) = (by (p.pid == pid) refl, own-answered pid regs ps)
  where
    by : (b : Bool) → (p.pid == pid) ≡ b → (cond b (going regs false p) p).pid ≡ pid → (cond b (going regs false p) p).waits ≡ false
    by true is same = refl
    by false is same = absurd (let no : false ≡ true = sym is ∙ eq-eqb p.pid pid same in cc)

answered-going : (pid : ℕ) (regs : Regs → Regs) (s : Machines) → stays_in pid (with_living (with_process pid (going regs false)) s) ≡ false
answered-going pid regs s = told-go pid (with_living (with_process pid (going regs false)) s) (own-answered pid regs s.living)

-- nor does one that ended
own-gone : (pid : ℕ) (ps : List (Process ℕ Image)) → LiveGo pid (filter (λ p. not (p.pid == pid)) ps)
own-gone pid [] = tt
own-gone pid (p ∷ ps) = by (p.pid == pid) refl (own-gone pid ps)
  where
    by : (b : Bool) → (p.pid == pid) ≡ b → LiveGo pid (filter (λ p. not (p.pid == pid)) ps) → LiveGo pid (cond (not b) (p ∷ filter (λ p. not (p.pid == pid)) ps) (filter (λ p. not (p.pid == pid)) ps))
    by true is rest = rest
    by false is rest = ((λ same. absurd (let no : false ≡ true = sym is ∙ eq-eqb p.pid pid same in cc)), rest)

end-going : (pid status : ℕ) (s : Machines) → stays_in pid (end pid status s) ≡ false
end-going pid status s = by (close_below pid 1024 s) (process pid (close_below pid 1024 s)) refl
  where
    by : (closed : Machines) (o : Option (Process ℕ Image)) → process pid closed ≡ o → stays_in pid (option_map_or (λ p. gone pid status p closed) o closed) ≡ false
    by closed None e = ap (λ (o : Option (Process ℕ Image)). option_map_or (λ (p : Process ℕ Image). p.waits) o false) e
    by closed (Some p) e =
        told-go pid (gone pid status p closed) (all-go pid (orphaned pid) (filter (λ p. not (p.pid == pid)) closed.living) (orphan-keeps pid) (own-gone pid closed.living))

pub death-ends-waiting : (pid signal : ℕ) (s : Machines) → stays_in pid (killed pid signal s) ≡ false
death-ends-waiting pid signal s = end-going pid signal s

module _ (table : List Row) (pid : ℕ) where
  refused-going : (e : Errno) (s : Machines) → stays_in pid (refusal_told pid e s).state ≡ false
  refused-going e s = answered-going pid (with_answer (neg_ℤ (pos (errno_number e)))) s

  replaced-going : (result : Result Program Errno) (s : Machines) → stays_in pid (replaced pid result s).state ≡ false
  replaced-going (Ok program) s = answered-going pid (λ regs. regs) s
  replaced-going (Err e) s = refused-going e s

  -- by what became of the call, and what it changed
  module _ (r : Request) (mounts : Mounts ℕ) (s : Machines) where
    outcome-going : (o : Outcome) (cs : List Change) → (o ≢ NoMemory) → (o ≡ Ended → (word : ℕ) × (cs ≡ End word ∷ [])) → end_of r o ≢ ended.Waits → stays_in pid (settled pid o (all_applied images mounts pid cs s)) ≡ false
    outcome-going (Answer value) cs some ends goes = answered-going pid (with_answer value) (all_applied images mounts pid cs s)
    outcome-going Wait cs some ends goes = absurd (goes refl)
    outcome-going Ended cs some ends goes =
        let last = ends refl in
        ap (λ (l : List Change). stays_in pid (all_applied images mounts pid l s)) last.1 ∙ end-going pid last.0 s
    outcome-going NoMemory cs some ends goes = absurd (some refl)

  operated-going : (r : Request) (s : Machines) → (operated table pid r s).end ≢ ended.Waits → stays_in pid (operated table pid r s).state ≡ false
  operated-going r s goes =
      let done : CarriedOut Reply = row_on table pid r s in
      outcome-going r (mounts_walked (targets_of table pid s r)) (with_memory_of pid done.memory s) done.reply.outcome done.reply.changes
      (row_keeps pid r (seen table pid s r) (known image_layout pid s) (memory_of pid s)).no_want
      (λ is. (let last = (row_keeps pid r (seen table pid s r) (known image_layout pid s) (memory_of pid s)).ended is in (last.0, last.1)))
      goes

  requested-going : (r : Request) (s : Machines) → (requested table pid r s).end ≢ ended.Waits → stays_in pid (requested table pid r s).state ≡ false
  requested-going (call.Execve path args env) s goes =
      let done : CarriedOut (Result Program Errno) = carried_out (execution table pid s path args env) (memory_of pid s) in
      replaced-going done.reply (after_execution (record { found = mount_of_program done.reply; directory = None }) pid done s)
  requested-going r s goes = operated-going r s goes

  decoded-going : (result : Decoded) (s : Machines) → (after_decoding table pid result s).end ≢ ended.Waits → stays_in pid (after_decoding table pid result s).state ≡ false
  decoded-going (Ok r) s goes = requested-going r s goes
  decoded-going (Err e) s goes = refused-going e s

  -- a call that is done leaves its caller so
  pub call-ends-waiting : (s : Machines) → (plain_call table pid s).end ≢ ended.Waits → stays_in pid (plain_call table pid s).state ≡ false
  call-ends-waiting s goes = by (process pid s) goes
    where
      by : (o : Option (Process ℕ Image)) → (option_map_or (plain_call_of table pid s) o (record { state = s; end = ended.Waits; child = None; handed = nothing_handed })).end ≢ ended.Waits
          → stays_in pid (option_map_or (plain_call_of table pid s) o (record { state = s; end = ended.Waits; child = None; handed = nothing_handed })).state ≡ false
      by None goes = absurd (goes refl)
      by (Some p) goes =
          let done : CarriedOut Decoded = carried_out (decoding p.image.regs) p.image.memory in
          decoded-going done.reply (computed pid p.image.regs done.memory s) goes

-- ---- the number of a child

child-made : (next q : ℕ) (r : Request) (o : Outcome) → child_told next r o ≡ Some q → next ≡ q
child-made next q (call.Clone flags sp ctid) (Answer (pos n)) e = same_Some next q e
child-made next q (call.Clone flags sp ctid) (Answer (negsuc n)) e = absurd cc
child-made next q (call.Clone flags sp ctid) Wait e = absurd cc
child-made next q (call.Clone flags sp ctid) Ended e = absurd cc
child-made next q (call.Clone flags sp ctid) NoMemory e = absurd cc
child-made next q _ o e = absurd cc

module _ (table : List Row) (pid q : ℕ) where
  requested-child : (r : Request) (s : Machines) → (requested table pid r s).child ≡ Some q → s.next_pid ≡ q
  requested-child (call.Execve path args env) s e =
      let done : CarriedOut (Result Program Errno) = carried_out (execution table pid s path args env) (memory_of pid s) in
      by done.reply (after_execution (record { found = mount_of_program done.reply; directory = None }) pid done s) e
    where
      by : (result : Result Program Errno) (t : Machines) → (replaced pid result t).child ≡ Some q → s.next_pid ≡ q
      by (Ok program) t e = absurd cc
      by (Err errno) t e = absurd cc
  requested-child r s e = child-made s.next_pid q r (row_on table pid r s).reply.outcome e

  decoded-child : (result : Decoded) (s : Machines) → (after_decoding table pid result s).child ≡ Some q → s.next_pid ≡ q
  decoded-child (Ok r) s e = requested-child r s e
  decoded-child (Err errno) s e = absurd cc

  child-next : (s : Machines) → (plain_call table pid s).child ≡ Some q → s.next_pid ≡ q
  child-next s e = by (process pid s) e
    where
      by : (o : Option (Process ℕ Image)) → (option_map_or (plain_call_of table pid s) o (record { state = s; end = ended.Waits; child = None; handed = nothing_handed })).child ≡ Some q → s.next_pid ≡ q
      by None e = absurd cc
      by (Some p) e =
          let done : CarriedOut Decoded = carried_out (decoding p.image.regs) p.image.memory in
          decoded-child done.reply (computed pid p.image.regs done.memory s) e

  -- nobody who lives has it
  pub child-is-new : (s : Machines) → ArePids s → (plain_call table pid s).child ≡ Some q → IsSome (process q s) → ⊥
  child-is-new s pids e lives = by (process q s) refl lives
    where
      by : (o : Option (Process ℕ Image)) → process q s ≡ o → IsSome o → ⊥
      by None is some = absurd cc
      by (Some p) is some =
          let next = child-next s e in
          let below = (found-above s.next_pid 2 q s.living p pids.living is).1 in
          omega (arith, next, below)
