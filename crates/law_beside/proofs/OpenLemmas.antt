-- What is open behind changes was open before, or has a number that wasn't given yet; so others leave what a process has open.
use Rattle.std.specs.FinMap as map
use Rattle.std.proofs.Common.{◌≡◌, inl, inr, ◌≤◌, ◌<◌, ◌+◌, ◌-◌, ℕ, zero, suc, Bool, true, false, cond, List, [], ◌∷◌, nat_lt, drop, Option, Some, None, refl, sym, ap, subst, ◌∙◌, arith}
use Rattle.std.specs.Prelude.{◌⊎◌, ◌==◌, IsSome}
use Rattle.std.specs.List.{AllByRecursion}
use Rattle.std.specs.Option.{option_and_then, option_map, option_map_or}
use Rattle.std.proofs.lemmas.Option.{same_Some}
use Rattle.kr_core.specs.pr_base.Maps.{changed, mapped}
use Rattle.kr_core.specs.rv_mem.Memory.{Memory}
use Rattle.kr_core.specs.rv_mem.declared.regs.Regs.{Regs}
use Rattle.kr_core.specs.kr_tree.declared.place.Place.{Place}
use Rattle.kr_core.specs.kr_files.Descriptors.{Meanings, Named, named_count}
use Rattle.kr_core.specs.kr_files.Files.{Counted, Table, at_offset, closed, counted_more, file_at, has_reader, on_opened, pipe_after_read, pipe_after_write, with_all_opened, with_append, with_bytes, with_copies, with_copy, with_file, with_opened, with_pipe, without_file}
use Rattle.kr_core.specs.kr_files.Opened.{after_removal, after_rename, named_at, nameless, pipe_end, remembers}
use Rattle.kr_core.specs.kr_files.Pipes.{after_write}
use Rattle.kr_core.specs.kr_files.declared.opened.Opened.{Opened}
use Rattle.kr_core.specs.kr_files.declared.opened.What.TheVariants.{PipeRead, PipeWrite}
use Rattle.kr_core.specs.kr_view.View.{Row}
use Rattle.kr_core.specs.kr_model.Applied.{Computing, Mounts, all_applied, applied, close, close_below, close_named, close_on_exec_below, copy_over, end, executed, forked_from, gone, images, in_mount, is_closed_on_exec, mount_of, moved_to, open_in, with_files, with_image}
use Rattle.kr_core.specs.kr_model.Change.{Change, AddNode, LinkNode, RemoveName, MoveName, SetMode, SetOwner, SetSize, WriteFile, OpenFile, CopyDescriptor, CloseDescriptor, SetCloexec, Seek, SetAppend, MakePipe, TakeFromPipe, PutIntoPipe, TakeInput, WriteOut, WriteErr, ChangePages, SetBreak, SetUmask, ChangeDirectory, Fork, End, Reap, ReplaceImage, ReplaceExecutable, CloseOnExec}
use Rattle.kr_core.specs.kr_model.Lawful.{IsLawful}
use Rattle.kr_core.specs.kr_model.State.{Image, Process, State, at_pid, named, opened, process}
use Rattle.kr_core.specs.law_allowed.Others.{LivesOn, Own}
use Rattle.kr_core.specs.kr_stops.Stopped.{computed}
use Rattle.kr_core.specs.kr_turns.Breaking.{no_mounts}
use Rattle.kr_core.specs.kr_turns.PlainCall.{plain_call}
use Rattle.kr_core.specs.kr_turns.Turn.{killed}
use Rattle.kr_core.proofs.pr_base.MapLemmas.{by_key, get-insert_other, get-insert_same, get-mapped, get-remove_other, get-remove_same, stays-changed}
use Rattle.kr_core.proofs.kr_tree.NameLemmas.{map_some}
use Rattle.kr_core.proofs.law_allowed.OthersLemmas.{all_others_live, others_live}
use Rattle.kr_core.proofs.law_lawful.AfterLemmas.{some-of}
use Rattle.kr_core.proofs.law_lawful.ProcessChangeLemmas.{found}
use Rattle.kr_core.proofs.kr_turns.ApartLemmas.{call_leaves}
use Rattle.law_beside.specs.Opened.{NamesOpen, OthersStayOpen, open_of}
use Rattle.law_beside.proofs.BehindLemmas.{Lasts, call-lasts}

module _ {M : Type 0} where
  -- what is told of an open file as far as paths begin there
  abbrev told_at : Table M → ℕ → Option (Bool × Option (Place M))
  told_at t n = option_map open_of (file_at t n)

  abbrev told_of : Option (Counted M) → Option (Bool × Option (Place M))
  told_of o = option_map open_of (option_map (λ h. h.opened) o)

module _ {M : Type 0} (P : Bool × Option (Place M) → Type 0) where
  -- what is open in the second table was so in the first one, or has a later number and is of some kind
  pub record GoesOn (f g : Table M) : Type 0 where
    pub last : f.last_file ≤ g.last_file
    pub files : (n : ℕ) (o : Opened M) → file_at g n ≡ Some o → ((old : Opened M) × (file_at f n ≡ Some old) × (open_of old ≡ open_of o)) ⊎ ((f.last_file < n) × P (open_of o))

  pub goes-itself : (f : Table M) → GoesOn f f
  goes-itself f = record { last = omega arith; files = λ n o e. inl (o, e, refl) }

  pub goes-then : (f g k : Table M) → GoesOn f g → GoesOn g k → GoesOn f k
  goes-then f g k first second =
      let low = first.last in
      let high = second.last in
      record { last = omega (arith, low, high); files = λ n o e. by n o (second.files n o e) }
    where
      back : (n : ℕ) (o mid : Opened M) → open_of mid ≡ open_of o → ((old : Opened M) × (file_at f n ≡ Some old) × (open_of old ≡ open_of mid)) ⊎ ((f.last_file < n) × P (open_of mid))
          → ((old : Opened M) × (file_at f n ≡ Some old) × (open_of old ≡ open_of o)) ⊎ ((f.last_file < n) × P (open_of o))
      back n o mid same (inl old) = inl (old.0, old.1, old.2 ∙ same)
      back n o mid same (inr new) = inr (new.0, subst P same new.1)

      by : (n : ℕ) (o : Opened M) → ((old : Opened M) × (file_at g n ≡ Some old) × (open_of old ≡ open_of o)) ⊎ ((g.last_file < n) × P (open_of o))
          → ((old : Opened M) × (file_at f n ≡ Some old) × (open_of old ≡ open_of o)) ⊎ ((f.last_file < n) × P (open_of o))
      by n o (inl mid) = back n o mid.0 mid.2 (first.files n mid.0 mid.1)
      by n o (inr new) = let low = first.last in let above = new.0 in inr (omega (arith, low, above), new.1)

  -- ---- tables in which the same is told

  told-before : (n : ℕ) (o : Opened M) (u : Option (Opened M)) → option_map open_of (Some o) ≡ option_map open_of u → (old : Opened M) × (u ≡ Some old) × (open_of old ≡ open_of o)
  told-before n o None same = absurd cc
  told-before n o (Some old) same = (old, refl, sym (same_Some (open_of o) (open_of old) same))

  goes-same : (f g : Table M) → f.last_file ≡ g.last_file → ((n : ℕ) → told_at g n ≡ told_at f n) → GoesOn f g
  goes-same f g last same = record {
    last = omega (arith, last);
    files = λ n o e. inl (told-before n o (file_at f n) (sym (ap (option_map open_of) e) ∙ same n));
  }

  one-changed : (f : Table M) (k : ℕ) (F : Counted M → Counted M) → ((h : Counted M) → open_of (F h).opened ≡ open_of h.opened) → (n : ℕ) → told_of (map.get (changed f.files k F) n) ≡ told_of (map.get f.files n)
  one-changed f k F same n = stays-changed told_of f.files k F (λ h. ap Some (same h)) n

  each-changed : (f : Table M) (F : ℕ → Counted M → Counted M) → ((n : ℕ) (h : Counted M) → open_of (F n h).opened ≡ open_of h.opened) → (n : ℕ) → told_of (map.get (mapped F f.files) n) ≡ told_of (map.get f.files n)
  each-changed f F same n = ap told_of (get-mapped F f.files n) ∙ by (map.get f.files n)
    where
      by : (o : Option (Counted M)) → told_of (option_map (F n) o) ≡ told_of o
      by None = refl
      by (Some h) = ap Some (same n h)

  goes-copy : (k : ℕ) (f : Table M) → GoesOn f (with_copy k f)
  goes-copy k f = goes-same f (with_copy k f) refl (one-changed f k (counted_more 1) (λ h. refl))

  goes-copies : (d : Meanings) (f : Table M) → GoesOn f (with_copies d f)
  goes-copies d f = goes-same f (with_copies d f) refl (each-changed f (λ n. counted_more (named_count d n)) (λ n h. refl))

  goes-opened : (k : ℕ) (h : Opened M → Opened M) (f : Table M) → ((o : Opened M) → open_of (h o) ≡ open_of o) → GoesOn f (with_opened k h f)
  goes-opened k h f same = goes-same f (with_opened k h f) refl (one-changed f k (on_opened h) (λ c. same c.opened))

  goes-all : (h : Opened M → Opened M) (f : Table M) → ((o : Opened M) → open_of (h o) ≡ open_of o) → GoesOn f (with_all_opened h f)
  goes-all h f same = goes-same f (with_all_opened h f) refl (each-changed f (λ n. on_opened h) (λ n c. same c.opened))

  goes-read : (p n : ℕ) (f : Table M) → GoesOn f (pipe_after_read p n f)
  goes-read p n f = by (map.get f.pipes p)
    where
      by : (o : Option (List ℕ)) → GoesOn f (option_map_or (λ bytes. with_bytes p (drop n bytes) f) o f)
      by None = goes-itself f
      by (Some bytes) = goes-same f (with_bytes p (drop n bytes) f) refl (λ n. refl)

  goes-written : (p : ℕ) (b : List ℕ) (f : Table M) → GoesOn f (pipe_after_write p b f)
  goes-written p b f = by (map.get f.pipes p)
    where
      by : (o : Option (List ℕ)) → GoesOn f (option_map_or (λ bytes. with_bytes p (after_write bytes (has_reader f p) b) f) o f)
      by None = goes-itself f
      by (Some bytes) = goes-same f (with_bytes p (after_write bytes (has_reader f p) b) f) refl (λ n. refl)

  -- ---- files that come and go

  goes-filed : (new : Opened M) (f : Table M) → P (open_of new) → GoesOn f (with_file new f)
  goes-filed new f own = record { last = omega arith; files = λ n o. by n o }
    where
      count : Counted M
      count = record { opened = new; count = 1 }

      After : ℕ → Opened M → Type 0
      After n o = ((old : Opened M) × (file_at f n ≡ Some old) × (open_of old ≡ open_of o)) ⊎ ((f.last_file < n) × P (open_of o))

      opened_of : Option (Counted M) → Option (Opened M)
      opened_of o = option_map (λ (h : Counted M). h.opened) o

      by : (n : ℕ) (o : Opened M) → file_at (with_file new f) n ≡ Some o → After n o
      by n o =
          by_key (λ n. opened_of (map.get (map.insert f.files (f.last_file + 1) count) n) ≡ Some o → After n o) (f.last_file + 1)
          (λ e. inr (omega arith, subst (λ (o : Opened M). P (open_of o)) (same_Some new o (sym (ap opened_of (get-insert_same f.files (f.last_file + 1) count)) ∙ e)) own))
          (λ m away e. inl (o, sym (ap opened_of (get-insert_other f.files (f.last_file + 1) count m away)) ∙ e, refl)) n

  goes-piped : (f : Table M) → P (false, None) → GoesOn f (with_pipe f)
  goes-piped f none =
      let p : ℕ = f.last_pipe + 1 in
      let reader : Opened M = pipe_end (PipeRead p) true false in
      let writer : Opened M = pipe_end (PipeWrite p) false true in
      let two : GoesOn f (with_file writer (with_file reader f)) = goes-then f (with_file reader f) (with_file writer (with_file reader f)) (goes-filed reader f none) (goes-filed writer (with_file reader f) none) in
      record { last = two.last; files = two.files }

  goes-closed : (k : ℕ) (f : Table M) → GoesOn f (closed k f)
  unfolding closed
  goes-closed k f = by (map.get f.files k) refl
    where
      opened_of : Option (Counted M) → Option (Opened M)
      opened_of o = option_map (λ (h : Counted M). h.opened) o

      fewer-told : (h : Counted M) → map.get f.files k ≡ Some h → (n : ℕ) → told_of (map.get (map.insert f.files k (record h { count = h.count - 1 })) n) ≡ told_of (map.get f.files n)
      fewer-told h at n =
          by_key (λ n. told_of (map.get (map.insert f.files k (record h { count = h.count - 1 })) n) ≡ told_of (map.get f.files n)) k
          (ap told_of (get-insert_same f.files k (record h { count = h.count - 1 })) ∙ sym (ap told_of at))
          (λ m away. ap told_of (get-insert_other f.files k (record h { count = h.count - 1 }) m away)) n

      removed-told : (n : ℕ) (o : Opened M) → opened_of (map.get (map.remove f.files k) n) ≡ Some o → opened_of (map.get f.files n) ≡ Some o
      removed-told n o =
          by_key (λ n. opened_of (map.get (map.remove f.files k) n) ≡ Some o → opened_of (map.get f.files n) ≡ Some o) k
          (λ e. let none : None ≡ Some o = sym (ap opened_of (get-remove_same f.files k)) ∙ e in absurd cc)
          (λ m away e. sym (ap opened_of (get-remove_other f.files k m away)) ∙ e) n

      last : (h : Counted M) → map.get f.files k ≡ Some h → (b : Bool)
          → GoesOn f (cond b (record f { files = map.insert f.files k (record h { count = h.count - 1 }) }) (without_file k h.opened.what f))
      last h at true = goes-same f (record f { files = map.insert f.files k (record h { count = h.count - 1 }) }) refl (fewer-told h at)
      last h at false = record { last = omega arith; files = λ n o e. inl (o, removed-told n o e, refl) }

      by : (o : Option (Counted M)) → map.get f.files k ≡ o
          → GoesOn f (option_map_or (λ (h : Counted M). cond (nat_lt 1 h.count) (record f { files = map.insert f.files k (record h { count = h.count - 1 }) }) (without_file k h.opened.what f)) o f)
      by None at = goes-itself f
      by (Some h) at = last h at (nat_lt 1 h.count)

  -- ---- changes

  -- what a change opens is of that kind, in whatever mount
  abbrev pub Opens : Change → Type 0
  Opens (OpenFile fd cloexec from o) = (m : M) → P (open_of (in_mount m o))
  Opens _ = Unit {0}

  named-same : (b : Bool) (o u : Opened M) → open_of u ≡ open_of o → open_of (cond b u o) ≡ open_of o
  named-same true o u same = same
  named-same false o u same = refl

  removal-same : (dir : ℕ) (name : List ℕ) (o : Opened M) → open_of (after_removal dir name o) ≡ open_of o
  removal-same dir name o = named-same (remembers dir name o) o (nameless o) refl

  rename-same : (dir : ℕ) (name : List ℕ) (to : ℕ) (new : List ℕ) (o : Opened M) → open_of (after_rename dir name to new o) ≡ open_of o
  rename-same dir name to new o =
      let kept : Opened M = after_removal to new o in
      named-same (remembers dir name kept) kept (named_at to new kept) refl ∙ removal-same to new o

  module _ {X : Type 0} (computing : Computing X) (mounts : Mounts M) (pid : ℕ) where
    close-goes : (fd : ℕ) (s : State M X) → GoesOn s.files (close pid fd s).files
    unfolding close
    close-goes fd s = by (named pid fd s)
      where
        by : (o : Option Named) → GoesOn s.files (option_map_or (λ x. close_named pid fd x s) o s).files
        by None = goes-itself s.files
        by (Some x) = goes-closed x.number s.files

    below-goes : (count : ℕ) (s : State M X) → GoesOn s.files (close_below pid count s).files
    unfolding close_below
    below-goes zero s = goes-itself s.files
    below-goes (suc fd) s =
        goes-then s.files (close_below pid fd s).files (close pid fd (close_below pid fd s)).files (below-goes fd s) (close-goes fd (close_below pid fd s))

    on-exec-goes : (count : ℕ) (s : State M X) → GoesOn s.files (close_on_exec_below pid count s).files
    unfolding close_on_exec_below
    on-exec-goes zero s = goes-itself s.files
    on-exec-goes (suc fd) s = by (close_on_exec_below pid fd s) (on-exec-goes fd s) (is_closed_on_exec pid fd (close_on_exec_below pid fd s))
      where
        by : (before : State M X) → GoesOn s.files before.files → (b : Bool) → GoesOn s.files (cond b (close pid fd before) before).files
        by before rest true = goes-then s.files before.files (close pid fd before).files rest (close-goes fd before)
        by before rest false = rest

    end-goes : (status : ℕ) (s : State M X) → GoesOn s.files (end pid status s).files
    end-goes status s = by (close_below pid 1024 s) (below-goes 1024 s) (process pid (close_below pid 1024 s))
      where
        by : (before : State M X) → GoesOn s.files before.files → (o : Option (Process M X)) → GoesOn s.files (option_map_or (λ p. gone pid status p before) o before).files
        by before rest None = rest
        by before rest (Some p) = rest

    over-goes : (to : ℕ) (cloexec : Bool) (x : Named) (y : Option Named) (s : State M X) → GoesOn s.files (copy_over pid to cloexec x y s).files
    over-goes to cloexec x None s = goes-copy x.number s.files
    over-goes to cloexec x (Some y) s = goes-then s.files (with_copy x.number s.files) (closed y.number (with_copy x.number s.files)) (goes-copy x.number s.files) (goes-closed y.number (with_copy x.number s.files))

    -- where something was found
    maybe-goes : {A : Type 0} (f : A → State M X) (s : State M X) → ((x : A) → GoesOn s.files (f x).files) → (o : Option A) → GoesOn s.files (option_map_or f o s).files
    maybe-goes f s goes None = goes-itself s.files
    maybe-goes f s goes (Some x) = goes x

    change-goes : P (false, None) → (c : Change) (s : State M X) → Opens c → GoesOn s.files (applied computing mounts pid c s).files
    change-goes none (AddNode dir name mode uid gid body) s opens = goes-itself s.files
    change-goes none (LinkNode dir name inode) s opens = goes-itself s.files
    change-goes none (RemoveName dir name) s opens = goes-all (after_removal dir name) s.files (removal-same dir name)
    change-goes none (MoveName dir name to new) s opens = goes-all (after_rename dir name to new) s.files (rename-same dir name to new)
    change-goes none (SetMode inode mode) s opens = goes-itself s.files
    change-goes none (SetOwner inode uid gid) s opens = goes-itself s.files
    change-goes none (SetSize inode size) s opens = goes-itself s.files
    change-goes none (WriteFile inode at bytes) s opens = goes-itself s.files
    change-goes none (OpenFile fd cloexec from o) s opens = maybe-goes (λ m. open_in pid fd cloexec o m s) s (λ m. goes-filed (in_mount m o) s.files (opens m)) (mount_of mounts pid s from)
    change-goes none (CopyDescriptor fd to cloexec) s opens = maybe-goes (λ x. copy_over pid to cloexec x (named pid to s) s) s (λ x. over-goes to cloexec x (named pid to s) s) (named pid fd s)
    change-goes none (CloseDescriptor fd) s opens = close-goes fd s
    change-goes none (SetCloexec fd on) s opens = goes-itself s.files
    change-goes none (Seek fd at) s opens = maybe-goes (λ (x : Named). with_files (with_opened x.number (at_offset at)) s) s (λ x. goes-opened x.number (at_offset at) s.files (λ o. refl)) (named pid fd s)
    change-goes none (SetAppend fd on) s opens = maybe-goes (λ (x : Named). with_files (with_opened x.number (with_append on)) s) s (λ x. goes-opened x.number (with_append on) s.files (λ o. refl)) (named pid fd s)
    change-goes none (MakePipe first second cloexec) s opens = goes-piped s.files none
    change-goes none (TakeFromPipe pipe count) s opens = goes-read pipe count s.files
    change-goes none (PutIntoPipe pipe bytes) s opens = goes-written pipe bytes s.files
    change-goes none (TakeInput count) s opens = goes-itself s.files
    change-goes none (WriteOut bytes) s opens = goes-itself s.files
    change-goes none (WriteErr bytes) s opens = goes-itself s.files
    change-goes none (ChangePages c) s opens = goes-itself s.files
    change-goes none (SetBreak brk) s opens = goes-itself s.files
    change-goes none (SetUmask umask) s opens = goes-itself s.files
    change-goes none (ChangeDirectory from host) s opens = maybe-goes (λ m. moved_to pid host m s) s (λ m. goes-itself s.files) (mount_of mounts pid s from)
    change-goes none (Fork b) s opens = maybe-goes (λ (p : Process M X). forked_from computing b p s) s (λ p. goes-copies p.descs s.files) (process pid s)
    change-goes none (End status) s opens = end-goes status s
    change-goes none (Reap child) s opens = goes-itself s.files
    change-goes none (ReplaceImage image brk) s opens = goes-itself s.files
    change-goes none (ReplaceExecutable from host dir name) s opens = maybe-goes (λ m. executed pid host dir name m s) s (λ m. goes-itself s.files) (mount_of mounts pid s from)
    change-goes none CloseOnExec s opens = on-exec-goes 1024 s

    pub changes-go : P (false, None) → (cs : List Change) (s : State M X) → AllByRecursion Opens cs → GoesOn s.files (all_applied computing mounts pid cs s).files
    changes-go none [] s opens = goes-itself s.files
    changes-go none (c ∷ cs) s opens =
        let one : State M X = applied computing mounts pid c s in
        goes-then s.files one.files (all_applied computing mounts pid cs one).files (change-goes none c s opens.0) (changes-go none cs one opens.1)

-- ---- whatever is opened

abbrev pub Anything : Bool × Option (Place ℕ) → Type 0
Anything told = Unit {0}

opens-anything : (c : Change) → Opens Anything c
opens-anything (OpenFile fd cloexec from o) = λ m. tt
opens-anything _ = tt

pub open-anything : (cs : List Change) → AllByRecursion (Opens Anything) cs
open-anything [] = tt
open-anything (c ∷ cs) = (opens-anything c, open-anything cs)

pub anything-goes : (mounts : Mounts ℕ) (pid : ℕ) (cs : List Change) (s : State ℕ Image) → GoesOn Anything s.files (all_applied images mounts pid cs s).files
anything-goes mounts pid cs s = changes-go Anything images mounts pid tt cs s (open-anything cs)

-- ---- what others leave

module _ (q fd : ℕ) (s t : State ℕ Image) (lives : IsSome (process q s)) (on : LivesOn q s t) (goes : GoesOn Anything s.files t.files) (names : NamesOpen s) (behind : NamesOpen t) where
  -- it has the same descriptors
  named-on : named q fd t ≡ named q fd s
  named-on = by (process q s) refl lives
    where
      by : (o : Option (Process ℕ Image)) → process q s ≡ o → IsSome o → named q fd t ≡ option_and_then (λ p. map.get p.descs fd) o
      by None at some = absurd cc
      by (Some p) at some =
          let after = on p at in
          ap (λ (o : Option (Process ℕ Image)). option_and_then (λ (p : Process ℕ Image). map.get p.descs fd) o) after.1 ∙ ap (λ (o : Own ℕ Image). map.get o.descs fd) after.2

  file-on : (x : Named) → named q fd s ≡ Some x → option_map open_of (file_at t.files x.number) ≡ option_map open_of (file_at s.files x.number)
  file-on x at =
      let before = some-of (file_at s.files x.number) (names.there q fd x at) in
      let after = some-of (file_at t.files x.number) (behind.there q fd x (named-on ∙ at)) in
      by before.0 before.1 after.0 after.1 (goes.files x.number after.0 after.1)
    where
      by : (o : Opened ℕ) → file_at s.files x.number ≡ Some o → (u : Opened ℕ) → file_at t.files x.number ≡ Some u
          → ((old : Opened ℕ) × (file_at s.files x.number ≡ Some old) × (open_of old ≡ open_of u)) ⊎ ((s.files.last_file < x.number) × Anything (open_of u))
          → option_map open_of (file_at t.files x.number) ≡ option_map open_of (file_at s.files x.number)
      by o here u there (inl old) = ap (option_map open_of) there ∙ ap Some (sym old.2) ∙ sym (ap (option_map open_of) old.1)
      by o here u there (inr new) = absurd (let low = names.given x.number o here in let high = new.0 in omega (arith, low, high))

  stays-open : option_map open_of (opened q fd t) ≡ option_map open_of (opened q fd s)
  stays-open = ap (λ (o : Option Named). option_map open_of (option_and_then (λ (x : Named). file_at t.files x.number) o)) named-on ∙ by (named q fd s) refl
    where
      by : (o : Option Named) → named q fd s ≡ o
          → option_map open_of (option_and_then (λ (x : Named). file_at t.files x.number) o) ≡ option_map open_of (option_and_then (λ (x : Named). file_at s.files x.number) o)
      by None at = refl
      by (Some x) at = file-on x at

-- ---- behind a call

open-lasts : (s : State ℕ Image) → Lasts (λ t. GoesOn Anything s.files t.files) (λ cs. Unit {0})
open-lasts s = record {
  alone = λ pid f cwds t goes. goes;
  changes = λ mounts pid cs t fine goes. goes-then Anything s.files t.files (all_applied images mounts pid cs t).files goes (anything-goes mounts pid cs t);
}

call-goes : (table : List Row) (pid : ℕ) (s : State ℕ Image) → GoesOn Anything s.files (plain_call table pid s).state.files
call-goes table pid s =
    call-lasts (λ t. GoesOn Anything s.files t.files) (λ cs. Unit {0}) (open-lasts s) (λ result. tt) table pid s (λ p at r is. tt) (goes-itself Anything s.files)

opened-computed : (pid q fd : ℕ) (regs : Regs) (memory : Memory) (s : State ℕ Image) → opened q fd (computed pid regs memory s) ≡ opened q fd s
opened-computed pid q fd regs memory s =
    ap (λ (o : Option (Process ℕ Image)). option_and_then (λ (x : Named). file_at s.files x.number) (option_and_then (λ (p : Process ℕ Image). map.get p.descs fd) o))
    (found pid put (λ p. refl) q s.living)
    ∙ ap (option_and_then (λ (x : Named). file_at s.files x.number)) (by (process q s))
  where
    put : Process ℕ Image → Process ℕ Image
    put p = with_image (λ (image : Image). record { regs = regs; memory = memory }) p

    here : (p : Process ℕ Image) (b : Bool) → map.get (cond b (put p) p).descs fd ≡ map.get p.descs fd
    here p true = refl
    here p false = refl

    by : (o : Option (Process ℕ Image)) → option_and_then (λ (p : Process ℕ Image). map.get p.descs fd) (option_map (at_pid pid put) o) ≡ option_and_then (λ (p : Process ℕ Image). map.get p.descs fd) o
    by None = refl
    by (Some p) = here p (p.pid == pid)

lawful-opens : (number : ℕ → ℕ) (table : List Row) (s : State ℕ Image) → IsLawful number table s → NamesOpen s
lawful-opens number table s lawful = record {
  there = λ pid fd x at. (lawful.descriptors pid fd x at).1;
  given = λ n o at. let h = map_some (λ (h : Counted ℕ). h.opened) (map.get s.files.files n) o at in lawful.uses.numbered n h.0 h.1;
}

pub others_stay_open : OthersStayOpen
others_stay_open = record {
  changes = λ mounts pid q fd cs s other lives names behind.
      stays-open q fd s (all_applied images mounts pid cs s) lives (all_others_live ℕ Image images mounts pid cs s q other) (anything-goes mounts pid cs s) names behind;
  call = λ table pid q fd s other lives names behind. stays-open q fd s (plain_call table pid s).state lives (call_leaves pid q other table s) (call-goes table pid s) names behind;
  killed = λ pid q fd signal s other lives names behind.
      stays-open q fd s (killed pid signal s) lives (others_live ℕ Image images no_mounts pid (End signal) s q other) (anything-goes no_mounts pid (End signal ∷ []) s) names behind;
  computed = opened-computed;
  lawful = lawful-opens;
}
