-- A change does on the bare part of a state what it does on the state.
use Rattle.std.specs.FinMap as map
use Rattle.std.proofs.Common.{◌≡◌, ℕ, zero, suc, ◌+◌, ◌≤◌, ◌<◌, Bool, true, false, not, List, [], ◌∷◌, ◌++◌, refl, sym, ap, ◌∙◌, arith, cond, Option, Some, None}
use Rattle.std.specs.Prelude.{map as map_list, ◌==◌}
use Rattle.std.specs.List.{find, filter}
use Rattle.std.specs.Option.{option_map, option_map_or, option_and_then}
use Rattle.kr_files.specs.kr_tree.Tree.{Tree}
use Rattle.kr_files.specs.kr_tree.Changes as tree
use Rattle.kr_files.specs.kr_tree.declared.place.Host.{Host}
use Rattle.kr_files.specs.kr_tree.declared.place.Place.{Place}
use Rattle.kr_files.specs.declared.opened.Opened.{Opened}
use Rattle.kr_files.specs.Descriptors.{Meanings, Named}
use Rattle.kr_files.specs.Files.{Table, file_at, with_file, at_offset, with_append, with_opened}
use Rattle.kr_calls.specs.pr_base.Maps.{changed}
use Rattle.kr_files.specs.WithoutMounts.{without_mount, without_mounts}
use Rattle.kr_files.proofs.MountLemmas.{file_at-without_mounts, with_file-without_mounts, with_copy-without_mounts, with_copies-without_mounts, seek-without_mounts, append-without_mounts, read-without_mounts, write-without_mounts, removal-without_mounts, rename-without_mounts, with_pipe-without_mounts, closed-without_mounts}
use Rattle.kr_model.specs.State.{Image, Layout, layout_of, image_layout, Process, State, inode_of, process, named, opened, place_of, is_pid, at_pid, with_process, with_descs}
use Rattle.kr_model.specs.Change.{Change, AddNode, LinkNode, RemoveName, MoveName, SetMode, SetOwner, SetSize, WriteFile, OpenFile, CopyDescriptor, CloseDescriptor, SetCloexec, Seek, SetAppend, MakePipe, TakeFromPipe, PutIntoPipe, TakeInput, WriteOut, WriteErr, ChangePages, SetBreak, SetUmask, ChangeDirectory, Fork, End, Reap, ReplaceImage, ReplaceExecutable, CloseOnExec, MountOf, OfFound, OfDirectory, OfDescriptor, Birth}
use Rattle.kr_model.specs.Applied.{Mounts, images, layouts, applied, held_at, released_at, held_for, mount_of, in_mount, open_in, let_go, close_named, close, copy_named, copy_over, with_image, with_brk, with_umask, with_cwd, with_parent, cwd_of, exe_of, with_program, with_exe, executed, is_closed_on_exec, close_on_exec_below, moved_to, child_of, forked_from, close_below, orphaned, ended_with, gone, end, exe_remembers, with_exe_name, exe_after_removal, exe_after_rename, with_tree, with_files, with_living}
use Rattle.kr_model.specs.Bare.{host_only, bare_process, bare, bare_mounts, ArePinned}
use Rattle.kr_model.proofs.LayoutLemmas.{layout-changed, layout-told}
use Rattle.kr_files.specs.kr_tree.Holds.{names_at, holds_at, with_fewer, ChangesWithFewerHolds}
use Rattle.kr_files.proofs.kr_tree.HoldLemmas.{changes_are_alike_with_fewer_holds}
use Rattle.kr_model.proofs.TreeLemmas.{names-released, holds-held}

-- ---- lists

pub maps : {A B C : Type 0} {D : Type 0} (f : B → D) (g : A → B) (h : C → D) (k : A → C) → ((x : A) → f (g x) ≡ h (k x)) → (xs : List A) → map_list f (map_list g xs) ≡ map_list h (map_list k xs)
maps f g h k same [] = refl
maps f g h k same (x ∷ xs) = ap (λ y. y ∷ map_list f (map_list g xs)) (same x) ∙ ap (λ ys. h (k x) ∷ ys) (maps f g h k same xs)

pub mapped-append : {A B : Type 0} (f : A → B) (xs ys : List A) → map_list f (xs ++ ys) ≡ map_list f xs ++ map_list f ys
mapped-append f [] ys = refl
mapped-append f (x ∷ xs) ys = ap (λ zs. f x ∷ zs) (mapped-append f xs ys)

pub found-mapped : {A B : Type 0} (f : A → B) (test : A → Bool) (other : B → Bool) → ((x : A) → other (f x) ≡ test x) → (xs : List A) → find other (map_list f xs) ≡ option_map f (find test xs)
found-mapped f test other same [] = refl
found-mapped f test other same (x ∷ xs) =
    ap (λ b. cond b (Some (f x)) (find other (map_list f xs))) (same x)
    ∙ ap (λ o. cond (test x) (Some (f x)) o) (found-mapped f test other same xs)
    ∙ chosen (test x) (find test xs)
  where
    chosen : (b : Bool) (o : Option _) → cond b (Some (f x)) (option_map f o) ≡ option_map f (cond b (Some x) o)
    chosen true o = refl
    chosen false o = refl

pub kept-mapped : {A B : Type 0} (f : A → B) (test : A → Bool) (other : B → Bool) → ((x : A) → other (f x) ≡ test x) → (xs : List A) → filter other (map_list f xs) ≡ map_list f (filter test xs)
kept-mapped f test other same [] = refl
kept-mapped f test other same (x ∷ xs) =
    ap (λ b. cond b (f x ∷ filter other (map_list f xs)) (filter other (map_list f xs))) (same x)
    ∙ ap (λ ys. cond (test x) (f x ∷ ys) ys) (kept-mapped f test other same xs)
    ∙ chosen (test x) (filter test xs)
  where
    chosen : (b : Bool) (ys : List _) → cond b (f x ∷ map_list f ys) (map_list f ys) ≡ map_list f (cond b (x ∷ ys) ys)
    chosen true ys = refl
    chosen false ys = refl

module _ (M : Type 0) (pins : ℕ → ℕ) where
  abbrev Whole : Type 0
  Whole = State M Image

  abbrev Bare : Type 0
  Bare = State (Unit {0}) Layout

  abbrev bp : Process M Image → Process (Unit {0}) Layout
  bp p = bare_process image_layout p

  abbrev b : Whole → Bare
  b s = bare image_layout pins s

  with_pins : (t : Tree) → ChangesWithFewerHolds pins t
  with_pins t = changes_are_alike_with_fewer_holds pins t

  -- ---- looking

  pub process-bare : (pid : ℕ) (s : Whole) → process pid (b s) ≡ option_map bp (process pid s)
  process-bare pid s = found-mapped bp (is_pid pid) (is_pid pid) (λ p. refl) s.living

  pub named-bare : (pid fd : ℕ) (s : Whole) → named pid fd (b s) ≡ named pid fd s
  named-bare pid fd s = ap (option_and_then (λ p. map.get p.descs fd)) (process-bare pid s) ∙ same (process pid s)
    where
      same : (o : Option (Process M Image)) → option_and_then (λ (p : Process (Unit {0}) Layout). map.get p.descs fd) (option_map bp o) ≡ option_and_then (λ (p : Process M Image). map.get p.descs fd) o
      same None = refl
      same (Some p) = refl

  pub opened-bare : (pid fd : ℕ) (s : Whole) → opened pid fd (b s) ≡ option_map without_mount (opened pid fd s)
  opened-bare pid fd s = ap (option_and_then (λ x. file_at (without_mounts s.files) x.number)) (named-bare pid fd s) ∙ same (named pid fd s)
    where
      same : (o : Option Named) → option_and_then (λ (x : Named). file_at (without_mounts s.files) x.number) o ≡ option_map without_mount (option_and_then (λ (x : Named). file_at s.files x.number) o)
      same None = refl
      same (Some x) = file_at-without_mounts s.files x.number

  place-bare : (files : Table M) (number : ℕ) → place_of (without_mounts files) number ≡ option_map host_only (place_of files number)
  place-bare files number = ap (option_and_then (λ o. o.place)) (file_at-without_mounts files number) ∙ same (file_at files number)
    where
      same : (o : Option (Opened M)) → option_and_then (λ (o : Opened (Unit {0})). o.place) (option_map without_mount o) ≡ option_map host_only (option_and_then (λ (o : Opened M). o.place) o)
      same None = refl
      same (Some o) = refl

  -- ---- processes

  with-bare : (pid : ℕ) (f : Process M Image → Process M Image) (g : Process (Unit {0}) Layout → Process (Unit {0}) Layout) → ((p : Process M Image) → bp (f p) ≡ g (bp p)) → (ps : List (Process M Image)) → map_list bp (with_process pid f ps) ≡ with_process pid g (map_list bp ps)
  with-bare pid f g same ps = maps bp (at_pid pid f) (at_pid pid g) bp (λ p. chosen p (p.pid == pid)) ps
    where
      chosen : (p : Process M Image) (c : Bool) → bp (cond c (f p) p) ≡ cond c (g (bp p)) (bp p)
      chosen p true = same p
      chosen p false = refl

  -- ---- holds

  same_holds : (o : Option (Place M)) (t : Tree) → held_at o t ≡ held_at (option_map host_only o) t
  same_holds None t = refl
  same_holds (Some p) t = refl

  same_releases : (o : Option (Place M)) (t : Tree) → released_at o t ≡ released_at (option_map host_only o) t
  same_releases None t = refl
  same_releases (Some p) t = refl

  held_at-bare : {N : Type 0} (o : Option (Place N)) (t : Tree) → ((i : ℕ) → pins i ≤ holds_at t i) → with_fewer pins (held_at o t) ≡ held_at o (with_fewer pins t)
  held_at-bare None t held = refl
  held_at-bare (Some p) t held = (with_pins t).held (inode_of p.host) (held (inode_of p.host))

  holds-held_at : {N : Type 0} (o : Option (Place N)) (t : Tree) (q : ℕ) → holds_at t q ≤ holds_at (held_at o t) q
  holds-held_at None t q = omega arith
  holds-held_at (Some p) t q = holds-held (inode_of p.host) t q

  released_at-bare : {N : Type 0} (o : Option (Place N)) (t : Tree) → ((i : ℕ) → 0 < pins i → 0 < names_at t i) → with_fewer pins (released_at o t) ≡ released_at o (with_fewer pins t)
  released_at-bare None t named = refl
  released_at-bare (Some p) t named = (with_pins t).released (inode_of p.host) (named (inode_of p.host))

  names-released_at : {N : Type 0} (o : Option (Place N)) (t : Tree) (q : ℕ) → names_at (released_at o t) q ≤ names_at t q
  names-released_at None t q = omega arith
  names-released_at (Some p) t q = names-released (inode_of p.host) t q

  -- ---- descriptors

  -- a file that a number stands for is held once more
  held_place : (number : ℕ) (s : Whole) → ((i : ℕ) → pins i ≤ holds_at s.tree i) → with_fewer pins (held_at (place_of s.files number) s.tree) ≡ held_at (place_of (without_mounts s.files) number) (with_fewer pins s.tree)
  held_place number s held =
      held_at-bare (place_of s.files number) s.tree held ∙ same_holds (place_of s.files number) (with_fewer pins s.tree)
      ∙ ap (λ o. held_at o (with_fewer pins s.tree)) (sym (place-bare s.files number))

  let_go-bare : (number : ℕ) (s : Whole) → ((i : ℕ) → 0 < pins i → 0 < names_at (let_go number s).tree i) → b (let_go number s) ≡ let_go number (b s)
  let_go-bare number s named =
      let before : (i : ℕ) → 0 < pins i → 0 < names_at s.tree i = λ i l. let k = named i l in let le = names-released_at (place_of s.files number) s.tree i in omega arith in
      let trees = released_at-bare (place_of s.files number) s.tree before ∙ same_releases (place_of s.files number) (with_fewer pins s.tree)
      ∙ ap (λ o. released_at o (with_fewer pins s.tree)) (sym (place-bare s.files number)) in
      let tables = closed-without_mounts s.files number in
      λ j. record {
        tree = trees j;
        user = s.user;
        files = tables j;
        input = s.input;
        taken = s.taken;
        out = s.out;
        err = s.err;
        living = map_list bp s.living;
        ended = s.ended;
        next_pid = s.next_pid;
      }

  on_living : (ps qs : List (Process (Unit {0}) Layout)) (s : Bare) → ps ≡ qs → with_living (λ _. ps) s ≡ with_living (λ _. qs) s
  on_living ps qs s e = ap (λ l. with_living (λ _. l) s) e

  with_living-bare : (pid : ℕ) (f : Process M Image → Process M Image) (g : Process (Unit {0}) Layout → Process (Unit {0}) Layout) → ((p : Process M Image) → bp (f p) ≡ g (bp p)) → (s : Whole) → b (with_living (with_process pid f) s) ≡ with_living (with_process pid g) (b s)
  with_living-bare pid f g same s = ap (λ l. with_living (λ _. l) (b s)) (with-bare pid f g same s.living)

  close_named-bare : (pid fd : ℕ) (x : Named) (s : Whole) → ((i : ℕ) → 0 < pins i → 0 < names_at (let_go x.number s).tree i) → b (close_named pid fd x s) ≡ close_named pid fd x (b s)
  close_named-bare pid fd x s named =
      with_living-bare pid (with_descs (λ d. map.remove d fd)) (with_descs (λ d. map.remove d fd)) (λ p. refl) (let_go x.number s)
      ∙ ap (with_living (with_process pid (with_descs (λ d. map.remove d fd)))) (let_go-bare x.number s named)

  pub close-bare : (pid fd : ℕ) (s : Whole) → ((i : ℕ) → 0 < pins i → 0 < names_at (close pid fd s).tree i) → b (close pid fd s) ≡ close pid fd (b s)
  unfolding close
  close-bare pid fd s all =
      by_name (named pid fd s) all ∙ ap (λ o. option_map_or (λ x. close_named pid fd x (b s)) o (b s)) (sym (named-bare pid fd s))
    where
      by_name : (o : Option Named) → ((i : ℕ) → 0 < pins i → 0 < names_at (option_map_or (λ x. close_named pid fd x s) o s).tree i) → b (option_map_or (λ x. close_named pid fd x s) o s) ≡ option_map_or (λ x. close_named pid fd x (b s)) o (b s)
      by_name None named = refl
      by_name (Some x) named = close_named-bare pid fd x s named

  names-closed : (pid fd : ℕ) (s : Whole) (q : ℕ) → names_at (close pid fd s).tree q ≤ names_at s.tree q
  unfolding close
  names-closed pid fd s q = by_name (named pid fd s)
    where
      by_name : (o : Option Named) → names_at (option_map_or (λ x. close_named pid fd x s) o s).tree q ≤ names_at s.tree q
      by_name None = omega arith
      by_name (Some x) = names-released_at (place_of s.files x.number) s.tree q

  copy_named-bare : (pid to : ℕ) (cloexec : Bool) (x : Named) (s : Whole) → ((i : ℕ) → pins i ≤ holds_at s.tree i) → b (copy_named pid to cloexec x s) ≡ copy_named pid to cloexec x (b s)
  copy_named-bare pid to cloexec x s held =
      let f : Meanings → Meanings = λ d. map.insert d to (record { number = x.number; cloexec = cloexec }) in
      let trees = held_place x.number s held in
      let tables = with_copy-without_mounts s.files x.number in
      let lists = with-bare pid (with_descs f) (with_descs f) (λ p. refl) s.living in
      λ j. record {
        tree = trees j;
        user = s.user;
        files = tables j;
        input = s.input;
        taken = s.taken;
        out = s.out;
        err = s.err;
        living = lists j;
        ended = s.ended;
        next_pid = s.next_pid;
      }

  copy_over-bare : (pid to : ℕ) (cloexec : Bool) (x : Named) (y : Option Named) (s : Whole) → ((i : ℕ) → pins i ≤ holds_at s.tree i) → ((i : ℕ) → 0 < pins i → 0 < names_at (copy_over pid to cloexec x y s).tree i) → b (copy_over pid to cloexec x y s) ≡ copy_over pid to cloexec x y (b s)
  copy_over-bare pid to cloexec x None s held named = copy_named-bare pid to cloexec x s held
  copy_over-bare pid to cloexec x (Some y) s held named =
      let_go-bare y.number (copy_named pid to cloexec x s) named ∙ ap (let_go y.number) (copy_named-bare pid to cloexec x s held)

  -- ---- mounts

  mount-bare : (mounts : Mounts M) (pid : ℕ) (s : Whole) (from : MountOf) → mount_of (bare_mounts mounts) pid (b s) from ≡ option_map (λ _. tt) (mount_of mounts pid s from)
  mount-bare mounts pid s OfFound = refl
  mount-bare mounts pid s OfDirectory = refl
  mount-bare mounts pid s (OfDescriptor fd) = ap (λ o. option_map (λ p. p.mount) (option_and_then (λ o. o.place) o)) (opened-bare pid fd s) ∙ same (opened pid fd s)
    where
      by_place : (p : Option (Place M)) → option_map (λ (p : Place (Unit {0})). p.mount) (option_map host_only p) ≡ option_map (λ _. tt) (option_map (λ (p : Place M). p.mount) p)
      by_place None = refl
      by_place (Some p) = refl

      same : (o : Option (Opened M)) → option_map (λ (p : Place (Unit {0})). p.mount) (option_and_then (λ (o : Opened (Unit {0})). o.place) (option_map without_mount o)) ≡ option_map (λ _. tt) (option_map (λ (p : Place M). p.mount) (option_and_then (λ (o : Opened M). o.place) o))
      same None = refl
      same (Some o) = by_place o.place

  abbrev with_place : Opened (Unit {0}) → Option (Place (Unit {0})) → Opened (Unit {0})
  with_place o p = record { place = p; dir = o.dir; name = o.name; what = o.what; read = o.read; write = o.write; append = o.append; at = o.at }

  abbrev in_m : M → Place (Unit {0}) → Place M
  in_m m p = record { mount = m; host = p.host }

  in_mount-bare : (m : M) (o : Opened (Unit {0})) → without_mount (in_mount m o) ≡ in_mount tt o
  in_mount-bare m o = ap (with_place o) (same o.place)
    where
      same : (p : Option (Place (Unit {0}))) → option_map host_only (option_map (in_m m) p) ≡ option_map host_only p
      same None = refl
      same (Some p) = refl

  open-bare : (pid fd : ℕ) (cloexec : Bool) (o : Opened (Unit {0})) (m : M) (s : Whole) → ((i : ℕ) → pins i ≤ holds_at s.tree i) → b (open_in pid fd cloexec o m s) ≡ open_in pid fd cloexec o tt (b s)
  open-bare pid fd cloexec o m s held =
      let f : Meanings → Meanings = λ d. map.insert d fd (record { number = s.files.last_file + 1; cloexec = cloexec }) in
      let trees = held_at-bare o.place s.tree held in
      let tables = with_file-without_mounts s.files (in_mount m o) ∙ ap (λ p. with_file p (without_mounts s.files)) (in_mount-bare m o) in
      let lists = with-bare pid (with_descs f) (with_descs f) (λ p. refl) s.living in
      λ j. record {
        tree = trees j;
        user = s.user;
        files = tables j;
        input = s.input;
        taken = s.taken;
        out = s.out;
        err = s.err;
        living = lists j;
        ended = s.ended;
        next_pid = s.next_pid;
      }

  opened_by-bare : (pid fd : ℕ) (cloexec : Bool) (o : Opened (Unit {0})) (m : Option M) (s : Whole) → ((i : ℕ) → pins i ≤ holds_at s.tree i)
      → b (option_map_or (λ m. open_in pid fd cloexec o m s) m s) ≡ option_map_or (λ m. open_in pid fd cloexec o m (b s)) (option_map (λ _. tt) m) (b s)
  opened_by-bare pid fd cloexec o None s held = refl
  opened_by-bare pid fd cloexec o (Some m) s held = open-bare pid fd cloexec o m s held

  -- ---- the working directory

  cwd-bare : (pid : ℕ) (s : Whole) → cwd_of pid (b s) ≡ option_map host_only (cwd_of pid s)
  cwd-bare pid s = ap (option_map (λ p. p.cwd)) (process-bare pid s) ∙ same (process pid s)
    where
      same : (o : Option (Process M Image)) → option_map (λ (p : Process (Unit {0}) Layout). p.cwd) (option_map bp o) ≡ option_map host_only (option_map (λ (p : Process M Image). p.cwd) o)
      same None = refl
      same (Some p) = refl

  moved_to-bare : (pid : ℕ) (host : Host) (m : M) (s : Whole) → ((i : ℕ) → pins i ≤ holds_at s.tree i) → ((i : ℕ) → 0 < pins i → 0 < names_at (moved_to pid host m s).tree i) → b (moved_to pid host m s) ≡ moved_to pid host tt (b s)
  moved_to-bare pid host m s held named =
      let h : Tree = tree.held (inode_of host) s.tree in
      let before : (i : ℕ) → 0 < pins i → 0 < names_at h i = λ i l. let k = named i l in let le = names-released_at (cwd_of pid s) h i in omega arith in
      let trees = released_at-bare (cwd_of pid s) h before
      ∙ ap (released_at (cwd_of pid s)) ((with_pins s.tree).held (inode_of host) (held (inode_of host)))
      ∙ same_releases (cwd_of pid s) (tree.held (inode_of host) (with_fewer pins s.tree))
      ∙ ap (λ o. released_at o (tree.held (inode_of host) (with_fewer pins s.tree))) (sym (cwd-bare pid s)) in
      let lists = with-bare pid (with_cwd (record { mount = m; host = host })) (with_cwd (record { mount = tt; host = host })) (λ p. refl) s.living in
      λ j. record {
        tree = trees j;
        user = s.user;
        files = without_mounts s.files;
        input = s.input;
        taken = s.taken;
        out = s.out;
        err = s.err;
        living = lists j;
        ended = s.ended;
        next_pid = s.next_pid;
      }

  moved_by-bare : (pid : ℕ) (host : Host) (m : Option M) (s : Whole) → ((i : ℕ) → pins i ≤ holds_at s.tree i) → ((i : ℕ) → 0 < pins i → 0 < names_at (option_map_or (λ m. moved_to pid host m s) m s).tree i)
      → b (option_map_or (λ m. moved_to pid host m s) m s) ≡ option_map_or (λ m. moved_to pid host m (b s)) (option_map (λ _. tt) m) (b s)
  moved_by-bare pid host None s held named = refl
  moved_by-bare pid host (Some m) s held named = moved_to-bare pid host m s held named

  -- ---- the executable

  exe-bare : (pid : ℕ) (s : Whole) → exe_of pid (b s) ≡ option_map host_only (exe_of pid s)
  exe-bare pid s = ap (option_map (λ p. p.exe)) (process-bare pid s) ∙ same (process pid s)
    where
      same : (o : Option (Process M Image)) → option_map (λ (p : Process (Unit {0}) Layout). p.exe) (option_map bp o) ≡ option_map host_only (option_map (λ (p : Process M Image). p.exe) o)
      same None = refl
      same (Some p) = refl

  executed-bare : (pid : ℕ) (host : Host) (dir : ℕ) (name : List ℕ) (m : M) (s : Whole) → ((i : ℕ) → pins i ≤ holds_at s.tree i) → ((i : ℕ) → 0 < pins i → 0 < names_at (executed pid host dir name m s).tree i)
      → b (executed pid host dir name m s) ≡ executed pid host dir name tt (b s)
  executed-bare pid host dir name m s held named =
      let h : Tree = tree.held (inode_of host) s.tree in
      let before : (i : ℕ) → 0 < pins i → 0 < names_at h i = λ i l. let k = named i l in let le = names-released_at (exe_of pid s) h i in omega arith in
      let trees = released_at-bare (exe_of pid s) h before
      ∙ ap (released_at (exe_of pid s)) ((with_pins s.tree).held (inode_of host) (held (inode_of host)))
      ∙ same_releases (exe_of pid s) (tree.held (inode_of host) (with_fewer pins s.tree))
      ∙ ap (λ o. released_at o (tree.held (inode_of host) (with_fewer pins s.tree))) (sym (exe-bare pid s)) in
      let lists = with-bare pid (with_exe (record { mount = m; host = host }) dir name) (with_exe (record { mount = tt; host = host }) dir name) (λ p. refl) s.living in
      λ j. record {
        tree = trees j;
        user = s.user;
        files = without_mounts s.files;
        input = s.input;
        taken = s.taken;
        out = s.out;
        err = s.err;
        living = lists j;
        ended = s.ended;
        next_pid = s.next_pid;
      }

  executed_by-bare : (pid : ℕ) (host : Host) (dir : ℕ) (name : List ℕ) (m : Option M) (s : Whole) → ((i : ℕ) → pins i ≤ holds_at s.tree i) → ((i : ℕ) → 0 < pins i → 0 < names_at (option_map_or (λ m. executed pid host dir name m s) m s).tree i)
      → b (option_map_or (λ m. executed pid host dir name m s) m s) ≡ option_map_or (λ m. executed pid host dir name m (b s)) (option_map (λ _. tt) m) (b s)
  executed_by-bare pid host dir name None s held named = refl
  executed_by-bare pid host dir name (Some m) s held named = executed-bare pid host dir name m s held named

  -- ---- a child

  -- one hold more for each descriptor, and none less
  record HeldFor (d : Meanings) (files : Table M) (t : Tree) (count : ℕ) : Type 0 where
    pub same : with_fewer pins (held_for d files count t) ≡ held_for d (without_mounts files) count (with_fewer pins t)
    pub more : (i : ℕ) → holds_at t i ≤ holds_at (held_for d files count t) i

  held_for-bare : (d : Meanings) (files : Table M) (t : Tree) (count : ℕ) → ((i : ℕ) → pins i ≤ holds_at t i) → HeldFor d files t count
  unfolding held_for
  held_for-bare d files t zero held = record { same = refl; more = λ i. omega arith }
  held_for-bare d files t (suc fd) held =
      let rest = held_for-bare d files t fd held in
      let o : Option (Place M) = option_and_then (λ x. place_of files x.number) (map.get d fd) in
      record {
        same = held_at-bare o (held_for d files fd t) (λ i. let l = held i in let k = rest.more i in omega arith)
            ∙ ap (held_at o) rest.same
            ∙ same_holds o (held_for d (without_mounts files) fd (with_fewer pins t))
            ∙ ap (λ o. held_at o (held_for d (without_mounts files) fd (with_fewer pins t))) (by_name (map.get d fd));
        more = λ i. let k = rest.more i in let l = holds-held_at o (held_for d files fd t) i in omega arith;
      }
    where
      by_name : (o : Option Named) → option_map host_only (option_and_then (λ (x : Named). place_of files x.number) o) ≡ option_and_then (λ (x : Named). place_of (without_mounts files) x.number) o
      by_name None = refl
      by_name (Some x) = sym (place-bare files x.number)

  child-bare : (birth : Birth) (p : Process M Image) → bp (child_of images birth p) ≡ child_of layouts birth (bp p)
  child-bare birth p = ap (λ l. with_image (λ _. l) (child_of layouts birth (bp p))) (layout-told birth.pid birth.told_at p.image.memory.pages)

  forked-bare : (birth : Birth) (p : Process M Image) (s : Whole) → ((i : ℕ) → pins i ≤ holds_at s.tree i) → b (forked_from images birth p s) ≡ forked_from layouts birth (bp p) (b s)
  forked-bare birth p s held =
      let first = held_for-bare p.descs s.files s.tree 1024 held in
      let t0 : Tree = held_for p.descs s.files 1024 s.tree in
      let cwd : Option (Place M) = Some p.cwd in
      let exe : Option (Place M) = Some p.exe in
      let held0 : (i : ℕ) → pins i ≤ holds_at t0 i = λ i. let l = held i in let k = first.more i in omega arith in
      let held1 : (i : ℕ) → pins i ≤ holds_at (held_at cwd t0) i = λ i. let l = held0 i in let k = holds-held_at cwd t0 i in omega arith in
      let trees = held_at-bare exe (held_at cwd t0) held1 ∙ ap (held_at exe) (held_at-bare cwd t0 held0 ∙ ap (held_at cwd) first.same) in
      let tables = with_copies-without_mounts s.files p.descs in
      let lists = mapped-append bp s.living (child_of images birth p ∷ []) ∙ ap (λ c. map_list bp s.living ++ c ∷ []) (child-bare birth p) in
      λ j. record {
        tree = trees j;
        user = s.user;
        files = tables j;
        input = s.input;
        taken = s.taken;
        out = s.out;
        err = s.err;
        living = lists j;
        ended = s.ended;
        next_pid = birth.pid + 1;
      }

  -- ---- the end of a process

  names-closed_below : (pid count : ℕ) (s : Whole) (q : ℕ) → names_at (close_below pid count s).tree q ≤ names_at s.tree q
  unfolding close_below
  names-closed_below pid zero s q = omega arith
  names-closed_below pid (suc fd) s q = let l = names-closed_below pid fd s q in let k = names-closed pid fd (close_below pid fd s) q in omega arith

  close_below-bare : (pid count : ℕ) (s : Whole) → ((i : ℕ) → 0 < pins i → 0 < names_at (close_below pid count s).tree i) → b (close_below pid count s) ≡ close_below pid count (b s)
  unfolding close_below
  close_below-bare pid zero s named = refl
  close_below-bare pid (suc fd) s named =
      close-bare pid fd (close_below pid fd s) named
      ∙ ap (close pid fd) (close_below-bare pid fd s (λ i l. let k = named i l in let le = names-closed pid fd (close_below pid fd s) i in omega arith))

  closed_on_exec-bare : (pid fd : ℕ) (s : Whole) → is_closed_on_exec pid fd (b s) ≡ is_closed_on_exec pid fd s
  closed_on_exec-bare pid fd s = ap (λ o. option_map_or (λ x. x.cloexec) o false) (named-bare pid fd s)

  names-closed_on_exec : (pid count : ℕ) (s : Whole) (q : ℕ) → names_at (close_on_exec_below pid count s).tree q ≤ names_at s.tree q
  unfolding close_on_exec_below
  names-closed_on_exec pid zero s q = omega arith
  names-closed_on_exec pid (suc fd) s q =
      let before : Whole = close_on_exec_below pid fd s in
      let l = names-closed_on_exec pid fd s q in
      let k = by_flag before (is_closed_on_exec pid fd before) in
      omega arith
    where
      by_flag : (before : Whole) (c : Bool) → names_at (cond c (close pid fd before) before).tree q ≤ names_at before.tree q
      by_flag before true = names-closed pid fd before q
      by_flag before false = omega arith

  close_on_exec-bare : (pid count : ℕ) (s : Whole) → ((i : ℕ) → 0 < pins i → 0 < names_at (close_on_exec_below pid count s).tree i) → b (close_on_exec_below pid count s) ≡ close_on_exec_below pid count (b s)
  unfolding close_on_exec_below
  close_on_exec-bare pid zero s named = refl
  close_on_exec-bare pid (suc fd) s named =
      let before : Whole = close_on_exec_below pid fd s in
      let same = close_on_exec-bare pid fd s (λ i l. let k = named i l in let le = by_names before (is_closed_on_exec pid fd before) i in omega arith) in
      by_flag before (is_closed_on_exec pid fd before) named
      ∙ ap (λ c. cond c (close pid fd (b before)) (b before)) (sym (closed_on_exec-bare pid fd before))
      ∙ ap (λ (k : Bare). cond (is_closed_on_exec pid fd k) (close pid fd k) k) same
    where
      by_names : (before : Whole) (c : Bool) (q : ℕ) → names_at (cond c (close pid fd before) before).tree q ≤ names_at before.tree q
      by_names before true q = names-closed pid fd before q
      by_names before false q = omega arith

      by_flag : (before : Whole) (c : Bool) → ((i : ℕ) → 0 < pins i → 0 < names_at (cond c (close pid fd before) before).tree i) → b (cond c (close pid fd before) before) ≡ cond c (close pid fd (b before)) (b before)
      by_flag before true named = close-bare pid fd before named
      by_flag before false named = refl

  gone-bare : (pid status : ℕ) (p : Process M Image) (s : Whole) → ((i : ℕ) → 0 < pins i → 0 < names_at (gone pid status p s).tree i) → b (gone pid status p s) ≡ gone pid status (bp p) (b s)
  gone-bare pid status p s named =
      let cwd : Option (Place M) = Some p.cwd in
      let exe : Option (Place M) = Some p.exe in
      let named1 : (i : ℕ) → 0 < pins i → 0 < names_at (released_at cwd s.tree) i = λ i l. let k = named i l in let le = names-released_at exe (released_at cwd s.tree) i in omega arith in
      let named0 : (i : ℕ) → 0 < pins i → 0 < names_at s.tree i = λ i l. let k = named1 i l in let le = names-released_at cwd s.tree i in omega arith in
      let trees = released_at-bare exe (released_at cwd s.tree) named1 ∙ ap (released_at exe) (released_at-bare cwd s.tree named0) in
      let lists = maps bp (orphaned pid) (orphaned pid) bp (λ p. chosen p (p.parent == pid)) (filter (λ p. not (p.pid == pid)) s.living)
      ∙ ap (map_list (orphaned pid)) (sym (kept-mapped bp (λ p. not (p.pid == pid)) (λ p. not (p.pid == pid)) (λ p. refl) s.living)) in
      λ j. record {
        tree = trees j;
        user = s.user;
        files = without_mounts s.files;
        input = s.input;
        taken = s.taken;
        out = s.out;
        err = s.err;
        living = lists j;
        ended = ended_with pid p.parent status s.ended;
        next_pid = s.next_pid;
      }
    where
      chosen : (p : Process M Image) (c : Bool) → bp (cond c (with_parent 1 p) p) ≡ cond c (with_parent 1 (bp p)) (bp p)
      chosen p true = refl
      chosen p false = refl

  end-bare : (pid status : ℕ) (s : Whole) → ((i : ℕ) → 0 < pins i → 0 < names_at (end pid status s).tree i) → b (end pid status s) ≡ end pid status (b s)
  end-bare pid status s named =
      let k : Whole = close_below pid 1024 s in
      let o : Option (Process M Image) = process pid k in
      by_process k o named
      ∙ ap (λ o. option_map_or (λ p. gone pid status p (b k)) o (b k)) (sym (process-bare pid k))
      ∙ ap (λ k. option_map_or (λ p. gone pid status p k) (process pid k) k) (close_below-bare pid 1024 s (λ i l. let n = named i l in let le = names-gone k o i in omega arith))
    where
      by_process : (k : Whole) (o : Option (Process M Image)) → ((i : ℕ) → 0 < pins i → 0 < names_at (option_map_or (λ p. gone pid status p k) o k).tree i) → b (option_map_or (λ p. gone pid status p k) o k) ≡ option_map_or (λ p. gone pid status p (b k)) (option_map bp o) (b k)
      by_process k None named = refl
      by_process k (Some p) named = gone-bare pid status p k named

      names-gone : (k : Whole) (o : Option (Process M Image)) (q : ℕ) → names_at (option_map_or (λ p. gone pid status p k) o k).tree q ≤ names_at k.tree q
      names-gone k None q = omega arith
      names-gone k (Some p) q =
          let cwd : Option (Place M) = Some p.cwd in
          let exe : Option (Place M) = Some p.exe in
          let one = names-released_at cwd k.tree q in let two = names-released_at exe (released_at cwd k.tree) q in omega arith

  -- ---- names

  removal-bare : (dir : ℕ) (name : List ℕ) (p : Process M Image) → bp (exe_after_removal dir name p) ≡ exe_after_removal dir name (bp p)
  removal-bare dir name p = chosen (exe_remembers dir name p)
    where
      chosen : (c : Bool) → bp (cond c (with_exe_name 0 [] p) p) ≡ cond c (with_exe_name 0 [] (bp p)) (bp p)
      chosen true = refl
      chosen false = refl

  rename-bare : (dir : ℕ) (name : List ℕ) (to : ℕ) (new : List ℕ) (p : Process M Image) → bp (exe_after_rename dir name to new p) ≡ exe_after_rename dir name to new (bp p)
  rename-bare dir name to new p =
      let kept = exe_after_removal to new p in
      chosen kept (exe_remembers dir name kept)
      ∙ ap (λ (k : Process (Unit {0}) Layout). cond (exe_remembers dir name k) (with_exe_name to new k) k) (removal-bare to new p)
    where
      chosen : (k : Process M Image) (c : Bool) → bp (cond c (with_exe_name to new k) k) ≡ cond c (with_exe_name to new (bp k)) (bp k)
      chosen k true = refl
      chosen k false = refl

  -- ---- every change

  on_tree : (s : Whole) (t u : Tree) → t ≡ u → with_tree (λ _. t) (b s) ≡ with_tree (λ _. u) (b s)
  on_tree s t u e = ap (λ t. with_tree (λ _. t) (b s)) e

  on_files : (s : Whole) (t u : Table (Unit {0})) → t ≡ u → with_files (λ _. t) (b s) ≡ with_files (λ _. u) (b s)
  on_files s t u e = ap (λ t. with_files (λ _. t) (b s)) e

  on_opened-bare : (o : Option Named) (f : Opened M → Opened M) (g : Opened (Unit {0}) → Opened (Unit {0})) (s : Whole) → ((n : ℕ) → without_mounts (with_opened n f s.files) ≡ with_opened n g (without_mounts s.files))
      → b (option_map_or (λ x. with_files (with_opened x.number f) s) o s) ≡ option_map_or (λ x. with_files (with_opened x.number g) (b s)) o (b s)
  on_opened-bare None f g s same = refl
  on_opened-bare (Some x) f g s same = on_files s _ _ (same x.number)

  pub change-bare : (mounts : Mounts M) (pid : ℕ) (c : Change) (s : Whole) → ArePinned pins s.tree → ArePinned pins (applied images mounts pid c s).tree → b (applied images mounts pid c s) ≡ applied layouts (bare_mounts mounts) pid c (b s)
  change-bare mounts pid (AddNode dir name mode uid gid body) s before after = on_tree s _ _ ((with_pins s.tree).added dir name mode uid gid body)
  change-bare mounts pid (LinkNode dir name inode) s before after = on_tree s _ _ ((with_pins s.tree).linked dir name inode)
  change-bare mounts pid (RemoveName dir name) s before after =
      let trees = (with_pins s.tree).removed dir name after.named in
      let tables = removal-without_mounts s.files dir name in
      let lists = maps bp (exe_after_removal dir name) (exe_after_removal dir name) bp (removal-bare dir name) s.living in
      λ j. record {
        tree = trees j;
        user = s.user;
        files = tables j;
        input = s.input;
        taken = s.taken;
        out = s.out;
        err = s.err;
        living = lists j;
        ended = s.ended;
        next_pid = s.next_pid;
      }
  change-bare mounts pid (MoveName dir name to new) s before after =
      let trees = (with_pins s.tree).renamed dir name to new after.named in
      let tables = rename-without_mounts s.files dir name to new in
      let lists = maps bp (exe_after_rename dir name to new) (exe_after_rename dir name to new) bp (rename-bare dir name to new) s.living in
      λ j. record {
        tree = trees j;
        user = s.user;
        files = tables j;
        input = s.input;
        taken = s.taken;
        out = s.out;
        err = s.err;
        living = lists j;
        ended = s.ended;
        next_pid = s.next_pid;
      }
  change-bare mounts pid (SetMode inode mode) s before after = on_tree s _ _ ((with_pins s.tree).mode_set inode mode)
  change-bare mounts pid (SetOwner inode uid gid) s before after = on_tree s _ _ ((with_pins s.tree).owner_set inode uid gid)
  change-bare mounts pid (SetSize inode size) s before after = on_tree s _ _ ((with_pins s.tree).bytes_set inode (tree.sized size))
  change-bare mounts pid (WriteFile inode at bytes) s before after = on_tree s _ _ ((with_pins s.tree).bytes_set inode (tree.overwritten at bytes))
  change-bare mounts pid (OpenFile fd cloexec from o) s before after =
      opened_by-bare pid fd cloexec o (mount_of mounts pid s from) s before.held
      ∙ ap (λ m. option_map_or (λ m. open_in pid fd cloexec o m (b s)) m (b s)) (sym (mount-bare mounts pid s from))
  change-bare mounts pid (CopyDescriptor fd to cloexec) s before after = copied (named pid fd s) after.named
    where
      copied : (o : Option Named) → ((i : ℕ) → 0 < pins i → 0 < names_at (option_map_or (λ x. copy_over pid to cloexec x (named pid to s) s) (named pid fd s) s).tree i) → b (option_map_or (λ x. copy_over pid to cloexec x (named pid to s) s) (named pid fd s) s) ≡ option_map_or (λ x. copy_over pid to cloexec x (named pid to (b s)) (b s)) (named pid fd (b s)) (b s)
      copied o n = by_name (named pid fd s) n ∙ ap (λ o. option_map_or (λ x. copy_over pid to cloexec x (named pid to (b s)) (b s)) o (b s)) (sym (named-bare pid fd s))
        where
          by_name : (o : Option Named) → ((i : ℕ) → 0 < pins i → 0 < names_at (option_map_or (λ x. copy_over pid to cloexec x (named pid to s) s) o s).tree i) → b (option_map_or (λ x. copy_over pid to cloexec x (named pid to s) s) o s) ≡ option_map_or (λ x. copy_over pid to cloexec x (named pid to (b s)) (b s)) o (b s)
          by_name None n = refl
          by_name (Some x) n = copy_over-bare pid to cloexec x (named pid to s) s before.held n ∙ ap (λ y. copy_over pid to cloexec x y (b s)) (sym (named-bare pid to s))
  change-bare mounts pid (CloseDescriptor fd) s before after = close-bare pid fd s after.named
  change-bare mounts pid (SetCloexec fd on) s before after = with_living-bare pid (with_descs (λ d. changed d fd (λ x. record { number = x.number; cloexec = on }))) (with_descs (λ d. changed d fd (λ x. record { number = x.number; cloexec = on }))) (λ p. refl) s
  change-bare mounts pid (Seek fd at) s before after =
      on_opened-bare (named pid fd s) (at_offset at) (at_offset at) s (λ n. seek-without_mounts s.files n at)
      ∙ ap (λ o. option_map_or (λ x. with_files (with_opened x.number (at_offset at)) (b s)) o (b s)) (sym (named-bare pid fd s))
  change-bare mounts pid (SetAppend fd on) s before after =
      on_opened-bare (named pid fd s) (with_append on) (with_append on) s (λ n. append-without_mounts s.files n on)
      ∙ ap (λ o. option_map_or (λ x. with_files (with_opened x.number (with_append on)) (b s)) o (b s)) (sym (named-bare pid fd s))
  change-bare mounts pid (MakePipe first second cloexec) s before after =
      let number = s.files.last_file + 1 in
      let f : Meanings → Meanings = λ d. map.insert (map.insert d first (record { number = number; cloexec = cloexec })) second (record { number = number + 1; cloexec = cloexec }) in
      let tables = with_pipe-without_mounts s.files in
      let lists = with-bare pid (with_descs f) (with_descs f) (λ p. refl) s.living in
      λ j. record {
        tree = with_fewer pins s.tree;
        user = s.user;
        files = tables j;
        input = s.input;
        taken = s.taken;
        out = s.out;
        err = s.err;
        living = lists j;
        ended = s.ended;
        next_pid = s.next_pid;
      }
  change-bare mounts pid (TakeFromPipe pipe count) s before after = on_files s _ _ (read-without_mounts s.files pipe count)
  change-bare mounts pid (PutIntoPipe pipe bytes) s before after = on_files s _ _ (write-without_mounts s.files pipe bytes)
  change-bare mounts pid (TakeInput count) s before after = refl
  change-bare mounts pid (WriteOut bytes) s before after = refl
  change-bare mounts pid (WriteErr bytes) s before after = refl
  change-bare mounts pid (ChangePages c) s before after =
      with_living-bare pid (with_image (images.paged c)) (with_image (layouts.paged c)) (λ p. ap (λ l. with_image (λ _. l) (bp p)) (layout-changed c p.image.memory.pages)) s
  change-bare mounts pid (SetBreak brk) s before after = with_living-bare pid (with_brk brk) (with_brk brk) (λ p. refl) s
  change-bare mounts pid (SetUmask umask) s before after = with_living-bare pid (with_umask umask) (with_umask umask) (λ p. refl) s
  change-bare mounts pid (ChangeDirectory from host) s before after =
      moved_by-bare pid host (mount_of mounts pid s from) s before.held after.named
      ∙ ap (λ m. option_map_or (λ m. moved_to pid host m (b s)) m (b s)) (sym (mount-bare mounts pid s from))
  change-bare mounts pid (Fork birth) s before after = by_process (process pid s) ∙ ap (λ o. option_map_or (λ p. forked_from layouts birth p (b s)) o (b s)) (sym (process-bare pid s))
    where
      by_process : (o : Option (Process M Image)) → b (option_map_or (λ p. forked_from images birth p s) o s) ≡ option_map_or (λ p. forked_from layouts birth p (b s)) (option_map bp o) (b s)
      by_process None = refl
      by_process (Some p) = forked-bare birth p s before.held
  change-bare mounts pid (End status) s before after = end-bare pid status s after.named
  change-bare mounts pid (Reap child) s before after = refl
  change-bare mounts pid (ReplaceImage image brk) s before after = with_living-bare pid (with_program image brk) (with_program (layout_of image.memory.pages) brk) (λ p. refl) s
  change-bare mounts pid (ReplaceExecutable from host dir name) s before after =
      executed_by-bare pid host dir name (mount_of mounts pid s from) s before.held after.named
      ∙ ap (λ m. option_map_or (λ m. executed pid host dir name m (b s)) m (b s)) (sym (mount-bare mounts pid s from))
  change-bare mounts pid CloseOnExec s before after = close_on_exec-bare pid 1024 s after.named
