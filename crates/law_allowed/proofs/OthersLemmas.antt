-- Changes leave the processes other than their caller with all that is their own.
use Rattle.std.specs.FinMap as map
use Rattle.std.proofs.Common.{◌≡◌, ◌≢◌, ℕ, zero, suc, ◌+◌, Bool, true, false, not, List, [], ◌∷◌, ◌++◌, refl, sym, ap, ◌∙◌, arith, cond, Option, Some, None}
use Rattle.std.specs.Prelude.{map as map_list, ◌==◌}
use Rattle.std.specs.List.{find, filter}
use Rattle.std.specs.Option.{option_map, option_map_or}
use Rattle.std.proofs.lemmas.Bool.Decides.{nat_tests}
use Rattle.law_lawful.specs.pr_base.Maps.{changed}
use Rattle.law_lawful.specs.kr_tree.declared.place.Host.{Host}
use Rattle.law_lawful.specs.kr_files.declared.opened.Opened.{Opened}
use Rattle.law_lawful.specs.kr_files.Descriptors.{Named}
use Rattle.law_lawful.specs.kr_files.Files.{with_opened, at_offset, with_append}
use Rattle.law_lawful.specs.kr_model.State.{Process, State, process, named, is_pid, with_process, with_descs}
use Rattle.law_lawful.specs.kr_model.Change.{Change, AddNode, LinkNode, RemoveName, MoveName, SetMode, SetOwner, SetSize, WriteFile, OpenFile, CopyDescriptor, CloseDescriptor, SetCloexec, Seek, SetAppend, MakePipe, TakeFromPipe, PutIntoPipe, TakeInput, WriteOut, WriteErr, ChangePages, SetBreak, SetUmask, ChangeDirectory, Fork, End, Reap, ReplaceImage, ReplaceExecutable, CloseOnExec, Birth}
use Rattle.law_lawful.specs.kr_model.Applied.{Computing, Mounts, applied, all_applied, mount_of, with_files, with_living, with_exe_name, exe_remembers, exe_after_removal, exe_after_rename, open_in, close_named, close, copy_named, copy_over, on_opened_of, pipe_made, with_image, with_brk, with_umask, with_cwd, moved_to, child_of, forked_from, close_below, with_program, with_exe, executed, is_closed_on_exec, close_on_exec_below, with_parent, orphaned, gone, end}
use Rattle.law_lawful.proofs.kr_model.BareLemmas.{found-mapped}
use Rattle.law_allowed.specs.Others.{own, LivesOn, OthersLiveOn, AllOthersLiveOn, OthersStay}

-- ---- numbers

passed : (a b : ℕ) → (a == b) ≡ true → a ≡ b
passed a b e = grind (arith, nat_tests)

apart_from : (a b : ℕ) → a ≢ b → (a == b) ≡ false
apart_from a b d = grind (arith, nat_tests)

-- another number than one that has these two
another : (a pid q : ℕ) → q ≢ pid → (a == pid) ≡ true → (a == q) ≡ false
another a pid q other is = apart_from a q (λ e. other (sym e ∙ passed a pid is))

module _ {M X : Type 0} where
  -- ---- found in lists

  pub others_found : (pid q : ℕ) → q ≢ pid → (f : Process M X → Process M X) → ((p : Process M X) → (f p).pid ≡ p.pid) → (ps : List (Process M X)) → find (is_pid q) (with_process pid f ps) ≡ find (is_pid q) ps
  others_found pid q other f pids [] = refl
  others_found pid q other f pids (x ∷ ps) = by (x.pid == pid) refl (others_found pid q other f pids ps)
    where
      by : (b : Bool) → (x.pid == pid) ≡ b → find (is_pid q) (with_process pid f ps) ≡ find (is_pid q) ps
          → cond ((cond b (f x) x).pid == q) (Some (cond b (f x) x)) (find (is_pid q) (with_process pid f ps)) ≡ cond (x.pid == q) (Some x) (find (is_pid q) ps)
      by true is rest =
          let apart = another x.pid pid q other is in
          ap (λ b. cond b (Some (f x)) (find (is_pid q) (with_process pid f ps))) (ap (λ n. n == q) (pids x) ∙ apart)
          ∙ rest ∙ sym (ap (λ b. cond b (Some x) (find (is_pid q) ps)) apart)
      by false is rest = ap (λ o. cond (x.pid == q) (Some x) o) rest

  kept_found : (pid q : ℕ) → q ≢ pid → (ps : List (Process M X)) → find (is_pid q) (filter (λ p. not (p.pid == pid)) ps) ≡ find (is_pid q) ps
  kept_found pid q other [] = refl
  kept_found pid q other (x ∷ ps) = by (x.pid == pid) refl (kept_found pid q other ps)
    where
      rest_of : List (Process M X)
      rest_of = filter (λ p. not (p.pid == pid)) ps

      by : (b : Bool) → (x.pid == pid) ≡ b → find (is_pid q) rest_of ≡ find (is_pid q) ps → find (is_pid q) (cond (not b) (x ∷ rest_of) rest_of) ≡ cond (x.pid == q) (Some x) (find (is_pid q) ps)
      by true is rest = rest ∙ sym (ap (λ b. cond b (Some x) (find (is_pid q) ps)) (another x.pid pid q other is))
      by false is rest = ap (λ o. cond (x.pid == q) (Some x) o) rest

  still_found : (q : ℕ) (ps : List (Process M X)) (c p : Process M X) → find (is_pid q) ps ≡ Some p → find (is_pid q) (ps ++ c ∷ []) ≡ Some p
  still_found q [] c p e = absurd cc
  still_found q (x ∷ ps) c p e = by (x.pid == q) (still_found q ps c p) e
    where
      by : (b : Bool) → (find (is_pid q) ps ≡ Some p → find (is_pid q) (ps ++ c ∷ []) ≡ Some p) → cond b (Some x) (find (is_pid q) ps) ≡ Some p → cond b (Some x) (find (is_pid q) (ps ++ c ∷ [])) ≡ Some p
      by true later e = e
      by false later e = later e

  -- ---- what lives on

  stays : (q : ℕ) (s t : State M X) → process q t ≡ process q s → LivesOn q s t
  stays q s t same p lives = (p, same ∙ lives, refl)

  pub unchanged : (q : ℕ) (s : State M X) → LivesOn q s s
  unchanged q s = stays q s s refl

  pub lives_on : (q : ℕ) (s t u : State M X) → LivesOn q s t → LivesOn q t u → LivesOn q s u
  lives_on q s t u first second p lives =
      let one = first p lives in
      let two = second one.0 one.1 in
      (two.0, two.1, two.2 ∙ one.2)

  -- each process changed in what isn't its own
  mapped : (q : ℕ) (g : Process M X → Process M X) → ((p : Process M X) → own (g p) ≡ own p) → (s : State M X) → LivesOn q s (with_living (map_list g) s)
  mapped q g owns s p lives = (g p, found-mapped g (is_pid q) (is_pid q) (λ x. ap (λ o. o.pid == q) (owns x)) s.living ∙ ap (option_map g) lives, owns p)

  -- another one changed alone
  pub one_changed : (pid q : ℕ) → q ≢ pid → (f : Process M X → Process M X) → ((p : Process M X) → (f p).pid ≡ p.pid) → (s : State M X) → LivesOn q s (with_living (with_process pid f) s)
  one_changed pid q other f pids s = stays q s (with_living (with_process pid f) s) (others_found pid q other f pids s.living)

  -- ---- names that executables remember

  exe_named : (dir : ℕ) (name : List ℕ) (b : Bool) (p : Process M X) → own (cond b (with_exe_name dir name p) p) ≡ own p
  exe_named dir name true p = refl
  exe_named dir name false p = refl

  removal_owns : (dir : ℕ) (name : List ℕ) (p : Process M X) → own (exe_after_removal dir name p) ≡ own p
  removal_owns dir name p = exe_named 0 [] (exe_remembers dir name p) p

  rename_owns : (dir : ℕ) (name : List ℕ) (to : ℕ) (new : List ℕ) (p : Process M X) → own (exe_after_rename dir name to new p) ≡ own p
  rename_owns dir name to new p =
      let kept : Process M X = exe_after_removal to new p in
      exe_named to new (exe_remembers dir name kept) kept ∙ removal_owns to new p

  orphaned_owns : (pid : ℕ) (p : Process M X) → own (orphaned pid p) ≡ own p
  orphaned_owns pid p = by (p.parent == pid)
    where
      by : (b : Bool) → own (cond b (with_parent 1 p) p) ≡ own p
      by true = refl
      by false = refl

  -- ---- closing

  module _ (pid q : ℕ) (other : q ≢ pid) where
    close_leaves : (fd : ℕ) (s : State M X) → LivesOn q s (close pid fd s)
    unfolding close
    close_leaves fd s = by (named pid fd s)
      where
        by : (o : Option Named) → LivesOn q s (option_map_or (λ x. close_named pid fd x s) o s)
        by None = unchanged q s
        by (Some x) = one_changed pid q other (with_descs (λ d. map.remove d fd)) (λ p. refl) s

    below_leaves : (count : ℕ) (s : State M X) → LivesOn q s (close_below pid count s)
    unfolding close_below
    below_leaves zero s = unchanged q s
    below_leaves (suc fd) s =
        lives_on q s (close_below pid fd s) (close pid fd (close_below pid fd s)) (below_leaves fd s) (close_leaves fd (close_below pid fd s))

    on_exec_leaves : (count : ℕ) (s : State M X) → LivesOn q s (close_on_exec_below pid count s)
    unfolding close_on_exec_below
    on_exec_leaves zero s = unchanged q s
    on_exec_leaves (suc fd) s = by (close_on_exec_below pid fd s) (on_exec_leaves fd s) (is_closed_on_exec pid fd (close_on_exec_below pid fd s))
      where
        by : (before : State M X) → LivesOn q s before → (b : Bool) → LivesOn q s (cond b (close pid fd before) before)
        by before rest true = lives_on q s before (close pid fd before) rest (close_leaves fd before)
        by before rest false = rest

    -- ---- the end of the caller

    gone_leaves : (status : ℕ) (p : Process M X) (s : State M X) → LivesOn q s (gone pid status p s)
    gone_leaves status p s x lives = (
      orphaned pid x,
      found-mapped (orphaned pid) (is_pid q) (is_pid q) (λ y. ap (λ o. o.pid == q) (orphaned_owns pid y)) (filter (λ p. not (p.pid == pid)) s.living)
          ∙ ap (option_map (orphaned pid)) (kept_found pid q other s.living ∙ lives),
      orphaned_owns pid x,
    )

    end_leaves : (status : ℕ) (s : State M X) → LivesOn q s (end pid status s)
    end_leaves status s = by (close_below pid 1024 s) (below_leaves 1024 s) (process pid (close_below pid 1024 s))
      where
        by : (closed : State M X) → LivesOn q s closed → (o : Option (Process M X)) → LivesOn q s (option_map_or (λ p. gone pid status p closed) o closed)
        by closed rest None = rest
        by closed rest (Some p) = lives_on q s closed (gone pid status p closed) rest (gone_leaves status p closed)

    -- ---- opening, copying and seeking

    opened_leaves : (fd : ℕ) (cloexec : Bool) (o : Opened (Unit {0})) (s : State M X) (m : Option M) → LivesOn q s (option_map_or (λ m. open_in pid fd cloexec o m s) m s)
    opened_leaves fd cloexec o s None = unchanged q s
    opened_leaves fd cloexec o s (Some m) =
        one_changed pid q other (with_descs (λ d. map.insert d fd (record { number = s.files.last_file + 1; cloexec = cloexec }))) (λ p. refl) s

    copy_leaves : (to : ℕ) (cloexec : Bool) (x : Named) (s : State M X) → LivesOn q s (copy_named pid to cloexec x s)
    copy_leaves to cloexec x s =
        one_changed pid q other (with_descs (λ d. map.insert d to (record { number = x.number; cloexec = cloexec }))) (λ p. refl) s

    over_leaves : (to : ℕ) (cloexec : Bool) (x : Named) (y : Option Named) (s : State M X) → LivesOn q s (copy_over pid to cloexec x y s)
    over_leaves to cloexec x None s = copy_leaves to cloexec x s
    over_leaves to cloexec x (Some y) s = copy_leaves to cloexec x s

    copied_leaves : (fd to : ℕ) (cloexec : Bool) (s : State M X) (o : Option Named) → LivesOn q s (option_map_or (λ x. copy_over pid to cloexec x (named pid to s) s) o s)
    copied_leaves fd to cloexec s None = unchanged q s
    copied_leaves fd to cloexec s (Some x) = over_leaves to cloexec x (named pid to s) s

    on_opened_leaves : (fd : ℕ) (f : Opened M → Opened M) (s : State M X) → LivesOn q s (on_opened_of pid fd f s)
    on_opened_leaves fd f s = by (named pid fd s)
      where
        by : (o : Option Named) → LivesOn q s (option_map_or (λ x. with_files (with_opened x.number f) s) o s)
        by None = unchanged q s
        by (Some x) = unchanged q s

    pipe_leaves : (first second : ℕ) (cloexec : Bool) (s : State M X) → LivesOn q s (pipe_made pid first second cloexec s)
    pipe_leaves first second cloexec s =
        let number : ℕ = s.files.last_file + 1 in
        one_changed pid q other (with_descs (λ d. map.insert (map.insert d first (record { number = number; cloexec = cloexec })) second (record { number = number + 1; cloexec = cloexec }))) (λ p. refl) s

    -- ---- places, and children

    moved_leaves : (host : Host) (s : State M X) (o : Option M) → LivesOn q s (option_map_or (λ m. moved_to pid host m s) o s)
    moved_leaves host s None = unchanged q s
    moved_leaves host s (Some m) = one_changed pid q other (with_cwd (record { mount = m; host = host })) (λ p. refl) s

    executed_leaves : (host : Host) (dir : ℕ) (name : List ℕ) (s : State M X) (o : Option M) → LivesOn q s (option_map_or (λ m. executed pid host dir name m s) o s)
    executed_leaves host dir name s None = unchanged q s
    executed_leaves host dir name s (Some m) = one_changed pid q other (with_exe (record { mount = m; host = host }) dir name) (λ p. refl) s

    forked_leaves : (computing : Computing X) (b : Birth) (s : State M X) (o : Option (Process M X)) → LivesOn q s (option_map_or (λ p. forked_from computing b p s) o s)
    forked_leaves computing b s None = unchanged q s
    forked_leaves computing b s (Some p) = λ x lives. (x, still_found q s.living (child_of computing b p) x lives, refl)

    -- ---- each change

    leaves : (computing : Computing X) (mounts : Mounts M) (c : Change) (s : State M X) → LivesOn q s (applied computing mounts pid c s)
    leaves computing mounts (AddNode dir name mode uid gid body) s = unchanged q s
    leaves computing mounts (LinkNode dir name inode) s = unchanged q s
    leaves computing mounts (RemoveName dir name) s = mapped q (exe_after_removal dir name) (removal_owns dir name) s
    leaves computing mounts (MoveName dir name to new) s = mapped q (exe_after_rename dir name to new) (rename_owns dir name to new) s
    leaves computing mounts (SetMode inode mode) s = unchanged q s
    leaves computing mounts (SetOwner inode uid gid) s = unchanged q s
    leaves computing mounts (SetSize inode size) s = unchanged q s
    leaves computing mounts (WriteFile inode at bytes) s = unchanged q s
    leaves computing mounts (OpenFile fd cloexec from o) s = opened_leaves fd cloexec o s (mount_of mounts pid s from)
    leaves computing mounts (CopyDescriptor fd to cloexec) s = copied_leaves fd to cloexec s (named pid fd s)
    leaves computing mounts (CloseDescriptor fd) s = close_leaves fd s
    leaves computing mounts (SetCloexec fd on) s = one_changed pid q other (with_descs (λ d. changed d fd (λ x. record { number = x.number; cloexec = on }))) (λ p. refl) s
    leaves computing mounts (Seek fd at) s = on_opened_leaves fd (at_offset at) s
    leaves computing mounts (SetAppend fd on) s = on_opened_leaves fd (with_append on) s
    leaves computing mounts (MakePipe first second cloexec) s = pipe_leaves first second cloexec s
    leaves computing mounts (TakeFromPipe pipe count) s = unchanged q s
    leaves computing mounts (PutIntoPipe pipe bytes) s = unchanged q s
    leaves computing mounts (TakeInput count) s = unchanged q s
    leaves computing mounts (WriteOut bytes) s = unchanged q s
    leaves computing mounts (WriteErr bytes) s = unchanged q s
    leaves computing mounts (ChangePages c) s = one_changed pid q other (with_image (computing.paged c)) (λ p. refl) s
    leaves computing mounts (SetBreak brk) s = one_changed pid q other (with_brk brk) (λ p. refl) s
    leaves computing mounts (SetUmask umask) s = one_changed pid q other (with_umask umask) (λ p. refl) s
    leaves computing mounts (ChangeDirectory from host) s = moved_leaves host s (mount_of mounts pid s from)
    leaves computing mounts (Fork b) s = forked_leaves computing b s (process pid s)
    leaves computing mounts (End status) s = end_leaves status s
    leaves computing mounts (Reap child) s = unchanged q s
    leaves computing mounts (ReplaceImage image brk) s = one_changed pid q other (with_program (computing.loaded image) brk) (λ p. refl) s
    leaves computing mounts (ReplaceExecutable from host dir name) s = executed_leaves host dir name s (mount_of mounts pid s from)
    leaves computing mounts CloseOnExec s = on_exec_leaves 1024 s

    all_leave : (computing : Computing X) (mounts : Mounts M) (cs : List Change) (s : State M X) → LivesOn q s (all_applied computing mounts pid cs s)
    all_leave computing mounts [] s = unchanged q s
    all_leave computing mounts (c ∷ cs) s =
        let one : State M X = applied computing mounts pid c s in
        lives_on q s one (all_applied computing mounts pid cs one) (leaves computing mounts c s) (all_leave computing mounts cs one)

-- ---- the laws

pub others_live : (M X : Type 0) → OthersLiveOn M X
others_live M X computing mounts pid c s q other = leaves pid q other computing mounts c s

pub all_others_live : (M X : Type 0) → AllOthersLiveOn M X
all_others_live M X computing mounts pid cs s q other = all_leave pid q other computing mounts cs s

pub others_same : (M X : Type 0) → OthersStay M X
others_same M X pid f pids s q other = others_found pid q other f pids s.living
