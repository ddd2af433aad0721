-- Each change leaves its slots with the tags that follow it.
use Rattle.std.specs.FinMap as map
use Rattle.std.proofs.Common.{◌≡◌, ◌≢◌, ℕ, suc, ◌+◌, ◌≤◌, ◌<◌, Bool, true, false, not, cond, List, [], ◌∷◌, Option, Some, None, refl, sym, ap, subst, ◌∙◌, arith, map as map_list}
use Rattle.std.specs.Prelude.{◌==◌, IsSome, drop}
use Rattle.std.specs.Bool.{if◌then◌else◌}
use Rattle.std.specs.List.{find, filter}
use Rattle.std.specs.Option.{IfSome, option_and_then, option_map, option_map_or, option_or}
use Rattle.std.proofs.lemmas.Bool.{eq-eqb, eqb-true}
use Rattle.std.proofs.lemmas.Bool.Decides.{nat_tests}
use Rattle.std.proofs.lemmas.List.Folds.{find-append}
use Rattle.kr_calm.specs.pr_base.Maps.{changed}
use Rattle.kr_calm.proofs.pr_base.MapLemmas.{by_key, get-changed_other, get-changed_same, get-insert_other, get-insert_same}
use Rattle.law_walks.specs.pt_bind.Tags.{TagTable, dropped, forked, tag_of, with_tag}
use Rattle.law_walks.specs.pt_bind.declared.slot.Slot.{Slot}
use Rattle.law_walks.specs.pt_bind.declared.slot.Slot.TheVariants.{Cwd, Exe, Fd}
use Rattle.law_walks.proofs.pt_bind.TagLemmas.{tags_change}
use Rattle.law_walks.specs.kr_tree.declared.place.Host.{Host}
use Rattle.law_walks.specs.kr_tree.declared.place.Place.{Place}
use Rattle.law_walks.proofs.kr_tree.NameLemmas.{map_some, some_is}
use Rattle.law_walks.specs.kr_view.View.{Row}
use Rattle.law_walks.specs.kr_files.declared.opened.Opened.{Opened}
use Rattle.law_walks.specs.kr_files.declared.opened.What.TheVariants.{PipeRead, PipeWrite}
use Rattle.law_walks.specs.kr_files.Descriptors.{Named}
use Rattle.law_walks.specs.kr_files.Files.{Counted, Table, at_offset, counted_more, file_at, has_reader, on_opened, pipe_after_read, pipe_after_write, with_all_opened, with_append, with_bytes, with_copies, with_copy, with_file, with_opened, with_pipe}
use Rattle.law_walks.specs.kr_files.Opened.{after_removal, after_rename, nameless, named_at, pipe_end, remembers}
use Rattle.law_walks.specs.kr_files.Pipes.{after_write}
use Rattle.kr_calm.proofs.law_lawful.AfterLemmas.{some-of}
use Rattle.law_walks.specs.kr_model.Applied.{Mounts, applied, child_of, copy_named, copy_over, end, exe_after_removal, exe_after_rename, exe_remembers, executed, forked_from, gone, images, in_mount, mount_of, moved_to, on_opened_of, open_in, orphaned, pipe_made, close_below, with_brk, with_cwd, with_files, with_exe, with_exe_name, with_image, with_parent, with_program, with_umask}
use Rattle.law_walks.specs.kr_model.Change.{Birth, Change, AddNode, LinkNode, RemoveName, MoveName, SetMode, SetOwner, SetSize, WriteFile, OpenFile, CopyDescriptor, CloseDescriptor, SetCloexec, Seek, SetAppend, MakePipe, TakeFromPipe, PutIntoPipe, TakeInput, WriteOut, WriteErr, ChangePages, SetBreak, SetUmask, ChangeDirectory, Fork, End, Reap, ReplaceImage, ReplaceExecutable, CloseOnExec}
use Rattle.law_walks.specs.kr_model.Conditions.{CanBeMade, CanFork, IsOpen}
use Rattle.law_walks.specs.kr_model.Lawful.{IsLawful, RiseFrom}
use Rattle.law_walks.specs.kr_model.State.{Image, Process, State, is_pid, named, place_of, process, with_descs, with_process}
use Rattle.law_places.specs.Matching.{index_at}
use Rattle.law_places.specs.Tagging.{TagsFollow, tags_made}
use Rattle.law_places.proofs.EndLemmas.{kept_passes}
use Rattle.law_places.proofs.FollowLemmas.{from_process}
use Rattle.law_places.proofs.TagLemmas.{HasOldPlaces, Own, SlotsAre, TagIs, fd_apart, old_changed, old_mapped, others_stay, own_files, place_in_files, slots_at, slots_close, slots_closed, slots_let_go, slots_mapped, slots_of_tags, slots_on_exec, tags_of_slots}

-- the numbers of living processes are below the next one
rise_below : (low next : ℕ) (k : ℕ) (ps : List (Process ℕ Image)) (p : Process ℕ Image) → RiseFrom low next (map_list (λ (p : Process ℕ Image). p.pid) ps) → find (is_pid k) ps ≡ Some p → k < next
rise_below low next k [] p rise e = absurd cc
rise_below low next k (q ∷ ps) p rise e = by (q.pid == k) refl e (rise_below (suc q.pid) next k ps p rise.2)
  where
    by : (b : Bool) → (q.pid == k) ≡ b → cond b (Some q) (find (is_pid k) ps) ≡ Some p → (find (is_pid k) ps ≡ Some p → k < next) → k < next
    by true is e later = subst (λ n. n < next) (eqb-true q.pid k is) rise.1
    by false is e later = later e

module _ (table : List Row) (mounts : Mounts ℕ) (pid : ℕ) (s : State ℕ Image) (tags : TagTable) (lawful : IsLawful (λ m. m) table s) (slots : SlotsAre (TagIs table tags) s) where
  abbrev T : ℕ → Slot → ℕ → Type 0
  T = TagIs table tags

  -- a descriptor names an open file that was numbered
  bound : (k : ℕ) (p : Process ℕ Image) (fd : ℕ) (x : Named) → process k s ≡ Some p → map.get p.descs fd ≡ Some x → x.number ≤ s.files.last_file
  bound k p fd x at under =
      let o = some-of (file_at s.files x.number) (lawful.descriptors k fd x (ap (option_and_then (λ (p : Process ℕ Image). map.get p.descs fd)) at ∙ under)).1 in
      let h = map_some (λ (h : Counted ℕ). h.opened) (map.get s.files.files x.number) o.0 o.1 in
      lawful.uses.numbered x.number h.0 h.1

  abbrev told : Option (Counted ℕ) → Option (Place ℕ)
  told o = option_and_then (λ (o : Opened ℕ). o.place) (option_map (λ (h : Counted ℕ). h.opened) o)

  -- a process that keeps its slots
  keeps : (files : Table ℕ) (g : Process ℕ Image → Process ℕ Image) → ((p : Process ℕ Image) → (g p).pid ≡ p.pid) → ((p : Process ℕ Image) → Own T s.files pid p → Own T files pid (g p)) → HasOldPlaces s.files files
      → (k : ℕ) (q : Process ℕ Image) → find (is_pid k) (with_process pid g s.living) ≡ Some q → Own T files k q
  keeps files g same own old = slots_at T T s files pid g same (λ k p away at own. own_files T s.files files k p old own) (λ p at o. own p o) slots

  -- ---- what is opened

  opens : (fd : ℕ) (cloexec : Bool) (o : Opened (Unit {0})) (m : ℕ) → SlotsAre (TagIs table (with_tag tags pid (Fd fd) (index_at table m))) (open_in pid fd cloexec o m s)
  opens fd cloexec o m =
      slots_at T T' s files pid (with_descs (λ d. map.insert d fd new)) (λ p. refl) (λ k p away at own. others_stay table tags pid (index_at table m) (Fd fd) files k p away (newly k p at own))
      (λ p at own.
      let here = newly pid p at own in
      record {
        cwd = tags_change.set_slots tags pid (Fd fd) (index_at table m) Cwd (λ e. absurd cc) ∙ here.cwd;
        exe = tags_change.set_slots tags pid (Fd fd) (index_at table m) Exe (λ e. absurd cc) ∙ here.exe;
        fds = λ f x q under there. under_key p here f x q there under;
      }) slots
    where
      new : Named
      new = record { number = s.files.last_file + 1; cloexec = cloexec }

      files : Table ℕ
      files = with_file (in_mount m o) s.files

      T' : ℕ → Slot → ℕ → Type 0
      T' = TagIs table (with_tag tags pid (Fd fd) (index_at table m))

      newly : (k : ℕ) (p : Process ℕ Image) → process k s ≡ Some p → Own T s.files k p → Own T files k p
      newly k p at own = record {
        cwd = own.cwd;
        exe = own.exe;
        fds = λ f x q under there.
            let low = bound k p f x at under in
            own.fds f x q under (sym (ap told (get-insert_other s.files.files (s.files.last_file + 1) (record { opened = in_mount m o; count = 1 }) x.number (λ e. absurd (omega (arith, e, low))))) ∙ there);
      }

      in_place : Place (Unit {0}) → Place ℕ
      in_place p = record { mount = m; host = p.host }

      under_key : (p : Process ℕ Image) → Own T files pid p → (f : ℕ) (x : Named) (q : Place ℕ) → place_of files x.number ≡ Some q → map.get (map.insert p.descs fd new) f ≡ Some x → T' pid (Fd f) q.mount
      under_key p here f x q there =
          by_key (λ f. map.get (map.insert p.descs fd new) f ≡ Some x → T' pid (Fd f) q.mount) fd
          (λ e.
          let is : new ≡ x = some_is new x (sym (get-insert_same p.descs fd new) ∙ e) in
          let place : option_map in_place o.place ≡ Some q = sym (ap told (get-insert_same s.files.files (s.files.last_file + 1) (record { opened = in_mount m o; count = 1 }))) ∙ ap (λ (x : Named). place_of files x.number) is ∙ there in
          let r = map_some in_place o.place q place in
          tags_change.set tags pid (Fd fd) (index_at table m) ∙ ap (λ (q : Place ℕ). index_at table q.mount) r.2)
          (λ f away e. tags_change.set_slots tags pid (Fd fd) (index_at table m) (Fd f) (fd_apart table tags pid 0 f fd away) ∙ here.fds f x q (sym (get-insert_other p.descs fd new f away) ∙ e) there) f

  -- ---- copies

  copies : (fd to : ℕ) (cloexec : Bool) (x : Named) → named pid fd s ≡ Some x → SlotsAre (TagIs table (with_tag tags pid (Fd to) (tag_of tags pid (Fd fd)))) (copy_named pid to cloexec x s)
  copies fd to cloexec x is =
      slots_at T T' s files pid (with_descs (λ d. map.insert d to new)) (λ p. refl) (λ k p away at own. others_stay table tags pid tag (Fd to) files k p away (own_files T s.files files k p old own))
      (λ p at own.
      let here = own_files T s.files files pid p old own in
      record {
        cwd = tags_change.set_slots tags pid (Fd to) tag Cwd (λ e. absurd cc) ∙ here.cwd;
        exe = tags_change.set_slots tags pid (Fd to) tag Exe (λ e. absurd cc) ∙ here.exe;
        fds = λ f y q under there. under_key p at own here f y q there under;
      }) slots
    where
      tag : ℕ
      tag = tag_of tags pid (Fd fd)

      new : Named
      new = record { number = x.number; cloexec = cloexec }

      files : Table ℕ
      files = with_copy x.number s.files

      T' : ℕ → Slot → ℕ → Type 0
      T' = TagIs table (with_tag tags pid (Fd to) tag)

      old : HasOldPlaces s.files files
      old n q e = sym (old_changed s.files.files x.number (counted_more 1) (λ h. refl) n) ∙ e

      under_key : (p : Process ℕ Image) → process pid s ≡ Some p → Own T s.files pid p → Own T files pid p → (f : ℕ) (y : Named) (q : Place ℕ) → place_of files y.number ≡ Some q → map.get (map.insert p.descs to new) f ≡ Some y → T' pid (Fd f) q.mount
      under_key p at own here f y q there =
          by_key (λ f. map.get (map.insert p.descs to new) f ≡ Some y → T' pid (Fd f) q.mount) to
          (λ e.
          let same : new ≡ y = some_is new y (sym (get-insert_same p.descs to new) ∙ e) in
          let under : map.get p.descs fd ≡ Some x = sym (ap (option_and_then (λ (p : Process ℕ Image). map.get p.descs fd)) at) ∙ is in
          tags_change.set tags pid (Fd to) tag ∙ own.fds fd x q under (ap (λ (y : Named). place_of s.files y.number) same ∙ old y.number q there))
          (λ f away e. tags_change.set_slots tags pid (Fd to) tag (Fd f) (fd_apart table tags pid 0 f to away) ∙ here.fds f y q (sym (get-insert_other p.descs to new f away) ∙ e) there) f

  -- ---- pipes

  pipes : (first second : ℕ) (cloexec : Bool) → SlotsAre T (pipe_made pid first second cloexec s)
  pipes first second cloexec =
      keeps (with_pipe s.files) (with_descs (λ d. map.insert (map.insert d first a) second b)) (λ p. refl)
      (λ p own. record {
        cwd = own.cwd;
        exe = own.exe;
        fds = λ f x q under there. under_second p own f x q there under;
      }) old
    where
      n : ℕ
      n = s.files.last_file + 1

      a : Named
      a = record { number = n; cloexec = cloexec }

      b : Named
      b = record { number = n + 1; cloexec = cloexec }

      reader : Counted ℕ
      reader = record { opened = pipe_end (PipeRead (s.files.last_pipe + 1)) true false; count = 1 }

      writer : Counted ℕ
      writer = record { opened = pipe_end (PipeWrite (s.files.last_pipe + 1)) false true; count = 1 }

      at_reader : (m : ℕ) (q : Place ℕ) → place_in_files (map.insert s.files.files n reader) m ≡ Some q → place_of s.files m ≡ Some q
      at_reader m q =
          by_key (λ m. place_in_files (map.insert s.files.files n reader) m ≡ Some q → place_of s.files m ≡ Some q) n
          (λ e. let clash : None ≡ Some q = sym (ap told (get-insert_same s.files.files n reader)) ∙ e in absurd cc)
          (λ m away e. sym (ap told (get-insert_other s.files.files n reader m away)) ∙ e) m

      old : HasOldPlaces s.files (with_pipe s.files)
      old m q =
          by_key (λ m. place_in_files (map.insert (map.insert s.files.files n reader) (n + 1) writer) m ≡ Some q → place_of s.files m ≡ Some q) (n + 1)
          (λ e. let clash : None ≡ Some q = sym (ap told (get-insert_same (map.insert s.files.files n reader) (n + 1) writer)) ∙ e in absurd cc)
          (λ m away e. at_reader m q (sym (ap told (get-insert_other (map.insert s.files.files n reader) (n + 1) writer m away)) ∙ e)) m

      none_writer : (q : Place ℕ) → place_of (with_pipe s.files) (n + 1) ≡ Some q → ⊥
      none_writer q e = let clash : None ≡ Some q = sym (ap told (get-insert_same (map.insert s.files.files n reader) (n + 1) writer)) ∙ e in absurd cc

      none_reader : (q : Place ℕ) → place_of (with_pipe s.files) n ≡ Some q → ⊥
      none_reader q e =
          let clash : None ≡ Some q = sym (ap told (get-insert_other (map.insert s.files.files n reader) (n + 1) writer n (λ e. absurd (omega (arith, e)))) ∙ ap told (get-insert_same s.files.files n reader)) ∙ e in
          absurd cc

      under_first : (p : Process ℕ Image) → Own T s.files pid p → (f : ℕ) (x : Named) (q : Place ℕ) → place_of (with_pipe s.files) x.number ≡ Some q → map.get (map.insert p.descs first a) f ≡ Some x → T pid (Fd f) q.mount
      under_first p own f x q there =
          by_key (λ f. map.get (map.insert p.descs first a) f ≡ Some x → T pid (Fd f) q.mount) first
          (λ e. absurd (none_reader q (ap (λ (x : Named). place_of (with_pipe s.files) x.number) (some_is a x (sym (get-insert_same p.descs first a) ∙ e)) ∙ there)))
          (λ f away e. own.fds f x q (sym (get-insert_other p.descs first a f away) ∙ e) (old x.number q there)) f

      under_second : (p : Process ℕ Image) → Own T s.files pid p → (f : ℕ) (x : Named) (q : Place ℕ) → place_of (with_pipe s.files) x.number ≡ Some q → map.get (map.insert (map.insert p.descs first a) second b) f ≡ Some x → T pid (Fd f) q.mount
      under_second p own f x q there =
          by_key (λ f. map.get (map.insert (map.insert p.descs first a) second b) f ≡ Some x → T pid (Fd f) q.mount) second
          (λ e. absurd (none_writer q (ap (λ (x : Named). place_of (with_pipe s.files) x.number) (some_is b x (sym (get-insert_same (map.insert p.descs first a) second b) ∙ e)) ∙ there)))
          (λ f away e. under_first p own f x q there (sym (get-insert_other (map.insert p.descs first a) second b f away) ∙ e)) f

  -- ---- processes

  moves : (host : Host) (m : ℕ) → SlotsAre (TagIs table (with_tag tags pid Cwd (index_at table m))) (moved_to pid host m s)
  moves host m =
      slots_at T (TagIs table (with_tag tags pid Cwd (index_at table m))) s s.files pid (with_cwd (record { mount = m; host = host })) (λ p. refl) (λ k p away at own. others_stay table tags pid (index_at table m) Cwd s.files k p away own)
      (λ p at own. record {
        cwd = tags_change.set tags pid Cwd (index_at table m);
        exe = tags_change.set_slots tags pid Cwd (index_at table m) Exe (λ e. absurd cc) ∙ own.exe;
        fds = λ f x q under there. tags_change.set_slots tags pid Cwd (index_at table m) (Fd f) (λ e. absurd cc) ∙ own.fds f x q under there;
      }) slots

  replaces : (host : Host) (dir : ℕ) (name : List ℕ) (m : ℕ) → SlotsAre (TagIs table (with_tag tags pid Exe (index_at table m))) (executed pid host dir name m s)
  replaces host dir name m =
      slots_at T (TagIs table (with_tag tags pid Exe (index_at table m))) s s.files pid (with_exe (record { mount = m; host = host }) dir name) (λ p. refl) (λ k p away at own. others_stay table tags pid (index_at table m) Exe s.files k p away own)
      (λ p at own. record {
        cwd = tags_change.set_slots tags pid Exe (index_at table m) Cwd (λ e. absurd cc) ∙ own.cwd;
        exe = tags_change.set tags pid Exe (index_at table m);
        fds = λ f x q under there. tags_change.set_slots tags pid Exe (index_at table m) (Fd f) (λ e. absurd cc) ∙ own.fds f x q under there;
      }) slots

  forks : (b : Birth) (p : Process ℕ Image) → process pid s ≡ Some p → b.pid ≡ s.next_pid → SlotsAre (TagIs table (forked tags pid b.pid)) (forked_from images b p s)
  forks b p here next k q e = by (find (is_pid k) s.living) refl (sym (find-append (is_pid k) s.living (child_of images b p ∷ [])) ∙ e)
    where
      files : Table ℕ
      files = with_copies p.descs s.files

      old : HasOldPlaces s.files files
      old n q e = sym (old_mapped s.files.files (λ n. counted_more _) (λ n h. refl) n) ∙ e

      T' : ℕ → Slot → ℕ → Type 0
      T' = TagIs table (forked tags pid b.pid)

      child : Own T' files b.pid (child_of images b p)
      child =
          let own = own_files T s.files files pid p old (slots pid p here) in
          record {
            cwd = tags_change.fork tags pid b.pid Cwd ∙ own.cwd;
            exe = tags_change.fork tags pid b.pid Exe ∙ own.exe;
            fds = λ f x q under there. tags_change.fork tags pid b.pid (Fd f) ∙ own.fds f x q under there;
          }

      by : (o : Option (Process ℕ Image)) → find (is_pid k) s.living ≡ o → option_or o (find (is_pid k) (child_of images b p ∷ [])) ≡ Some q → Own T' files k q
      by (Some r) is e =
          let low = rise_below 2 s.next_pid k s.living r lawful.pids.living is in
          let away : k ≢ b.pid = λ same. absurd (omega (arith, low, same, next)) in
          let own = own_files T s.files files k r old (slots k r is) in
          subst (λ q. Own T' files k q) (some_is r q e) (record {
            cwd = tags_change.fork_others tags pid b.pid k Cwd away ∙ own.cwd;
            exe = tags_change.fork_others tags pid b.pid k Exe away ∙ own.exe;
            fds = λ f x q under there. tags_change.fork_others tags pid b.pid k (Fd f) away ∙ own.fds f x q under there;
          })
      by None is e = last (b.pid == k) refl e
        where
          last : (c : Bool) → (b.pid == k) ≡ c → cond c (Some (child_of images b p)) None ≡ Some q → Own T' files k q
          last true same e = subst (λ k. Own T' files k q) (eqb-true b.pid k same) (subst (λ q. Own T' files b.pid q) (some_is (child_of images b p) q e) child)
          last false same e = absurd cc

  drops : (c : State ℕ Image) (k : ℕ) (p : Process ℕ Image) → k ≢ pid → Own T c.files k p → Own (TagIs table (dropped tags pid)) c.files k p
  drops c k p away own = record {
    cwd = tags_change.drop_others tags pid k Cwd away ∙ own.cwd;
    exe = tags_change.drop_others tags pid k Exe away ∙ own.exe;
    fds = λ f x q under there. tags_change.drop_others tags pid k (Fd f) away ∙ own.fds f x q under there;
  }

  goes : (status : ℕ) (p : Process ℕ Image) (c : State ℕ Image) → SlotsAre T c → SlotsAre (TagIs table (dropped tags pid)) (gone pid status p c)
  goes status p c slots k q e =
      let r = from_process (orphaned pid) pids k (filter (λ p. not (p.pid == pid)) c.living) q e in
      let l = kept_passes (λ (p : Process ℕ Image). not (p.pid == pid)) (is_pid k) (λ x off on y keep test. apart x y off on keep test) c.living r.0 r.1 in
      let away : k ≢ pid = λ same. other (eqb-true r.0.pid k l.1 ∙ same) l.0 in
      subst (λ q. Own (TagIs table (dropped tags pid)) c.files k q) r.2 (same_slots r.0 (drops c k r.0 away (slots k r.0 l.2)))
    where
      pids : (p : Process ℕ Image) → (orphaned pid p).pid ≡ p.pid
      pids p = elim (p.parent == pid) as (λ b. (cond b (with_parent 1 p) p).pid ≡ p.pid) [ true ↦ refl | false ↦ refl ]

      apart : (x y : Process ℕ Image) → not (x.pid == pid) ≡ false → (x.pid == k) ≡ true → not (y.pid == pid) ≡ true → (y.pid == k) ≡ true → ⊥
      apart x y a b c d = grind (arith, nat_tests)

      other : {n : ℕ} → n ≡ pid → not (n == pid) ≡ true → ⊥
      other {n} same e = let clash : false ≡ true = sym (ap not (eq-eqb n pid same)) ∙ e in absurd cc

      same_slots : (p : Process ℕ Image) → Own (TagIs table (dropped tags pid)) c.files k p → Own (TagIs table (dropped tags pid)) c.files k (orphaned pid p)
      same_slots p own = elim (p.parent == pid) as (λ b. Own (TagIs table (dropped tags pid)) c.files k (cond b (with_parent 1 p) p)) [
        | true ↦ record { cwd = own.cwd; exe = own.exe; fds = own.fds }
        | false ↦ own
      ]

  ends : (status : ℕ) → SlotsAre (TagIs table (dropped tags pid)) (end pid status s)
  ends status = let c = close_below pid 1024 s in by c (process pid c) refl (slots_closed T pid 1024 s slots)
    where
      by : (c : State ℕ Image) (o : Option (Process ℕ Image)) → process pid c ≡ o → SlotsAre T c → SlotsAre (TagIs table (dropped tags pid)) (option_map_or (λ p. gone pid status p c) o c)
      by c None none slots = λ k p at. drops c k p (λ same. let clash : None ≡ Some p = sym none ∙ ap (λ k. process k c) (sym same) ∙ at in absurd cc) (slots k p at)
      by c (Some p) is slots = goes status p c slots

  -- ---- what remembers entries

  -- a change of what is remembered, which leaves slots
  record IsIdle (g : Process ℕ Image → Process ℕ Image) : Type 0 where
    pub pid_ : (p : Process ℕ Image) → (g p).pid ≡ p.pid
    pub cwd : (p : Process ℕ Image) → (g p).cwd ≡ p.cwd
    pub exe : (p : Process ℕ Image) → (g p).exe ≡ p.exe
    pub descs : (p : Process ℕ Image) → (g p).descs ≡ p.descs

  idle_own : (files : Table ℕ) (g : Process ℕ Image → Process ℕ Image) → IsIdle g → (k : ℕ) (p : Process ℕ Image) → Own T files k p → Own T files k (g p)
  idle_own files g idle k p own = record {
    cwd = subst (λ (c : Place ℕ). T k Cwd c.mount) (sym (idle.cwd p)) own.cwd;
    exe = subst (λ (c : Place ℕ). T k Exe c.mount) (sym (idle.exe p)) own.exe;
    fds = λ f x q under there. own.fds f x q (ap (λ d. map.get d f) (sym (idle.descs p)) ∙ under) there;
  }

  idle_removal : (dir : ℕ) (name : List ℕ) → IsIdle (exe_after_removal dir name)
  idle_removal dir name = record {
    pid_ = λ p. elim (exe_remembers dir name p) as (λ b. (if b then with_exe_name 0 [] p else p).pid ≡ p.pid) [ true ↦ refl | false ↦ refl ];
    cwd = λ p. elim (exe_remembers dir name p) as (λ b. (if b then with_exe_name 0 [] p else p).cwd ≡ p.cwd) [ true ↦ refl | false ↦ refl ];
    exe = λ p. elim (exe_remembers dir name p) as (λ b. (if b then with_exe_name 0 [] p else p).exe ≡ p.exe) [ true ↦ refl | false ↦ refl ];
    descs = λ p. elim (exe_remembers dir name p) as (λ b. (if b then with_exe_name 0 [] p else p).descs ≡ p.descs) [ true ↦ refl | false ↦ refl ];
  }

  idle_rename : (dir : ℕ) (name : List ℕ) (to : ℕ) (new : List ℕ) → IsIdle (exe_after_rename dir name to new)
  idle_rename dir name to new =
      let first = idle_removal to new in
      record {
        pid_ = λ p. let kept = exe_after_removal to new p in elim (exe_remembers dir name kept) as (λ b. (if b then with_exe_name to new kept else kept).pid ≡ kept.pid) [ true ↦ refl | false ↦ refl ] ∙ first.pid_ p;
        cwd = λ p. let kept = exe_after_removal to new p in elim (exe_remembers dir name kept) as (λ b. (if b then with_exe_name to new kept else kept).cwd ≡ kept.cwd) [ true ↦ refl | false ↦ refl ] ∙ first.cwd p;
        exe = λ p. let kept = exe_after_removal to new p in elim (exe_remembers dir name kept) as (λ b. (if b then with_exe_name to new kept else kept).exe ≡ kept.exe) [ true ↦ refl | false ↦ refl ] ∙ first.exe p;
        descs = λ p. let kept = exe_after_removal to new p in elim (exe_remembers dir name kept) as (λ b. (if b then with_exe_name to new kept else kept).descs ≡ kept.descs) [ true ↦ refl | false ↦ refl ] ∙ first.descs p;
      }

  removal_places : (dir : ℕ) (name : List ℕ) (o : Opened ℕ) → (after_removal dir name o).place ≡ o.place
  removal_places dir name o = elim (remembers dir name o) as (λ b. (if b then nameless o else o).place ≡ o.place) [ true ↦ refl | false ↦ refl ]

  rename_places : (dir : ℕ) (name : List ℕ) (to : ℕ) (new : List ℕ) (o : Opened ℕ) → (after_rename dir name to new o).place ≡ o.place
  rename_places dir name to new o =
      let kept = after_removal to new o in
      elim (remembers dir name kept) as (λ b. (if b then named_at to new kept else kept).place ≡ kept.place) [ true ↦ refl | false ↦ refl ] ∙ removal_places to new o

  -- of all open files and all processes
  forgets : (g : Process ℕ Image → Process ℕ Image) (h : Opened ℕ → Opened ℕ) → IsIdle g → ((o : Opened ℕ) → (h o).place ≡ o.place)
      → (k : ℕ) (q : Process ℕ Image) → find (is_pid k) (map_list g s.living) ≡ Some q → Own T (with_all_opened h s.files) k q
  forgets g h idle places =
      slots_mapped T s (with_all_opened h s.files) g idle.pid_ (λ k p own. idle_own (with_all_opened h s.files) g idle k p (own_files T s.files (with_all_opened h s.files) k p old own)) slots
    where
      old : HasOldPlaces s.files (with_all_opened h s.files)
      old n q e = sym (old_mapped s.files.files (λ n. on_opened h) (λ n x. places x.opened) n) ∙ e

  -- ---- what changes of one open file, and of one process

  on_one : (fd : ℕ) (f : Opened ℕ → Opened ℕ) → ((o : Opened ℕ) → (f o).place ≡ o.place) → SlotsAre T (on_opened_of pid fd f s)
  on_one fd f places = by (named pid fd s)
    where
      by : (o : Option Named) → SlotsAre T (option_map_or (λ x. with_files (with_opened x.number f) s) o s)
      by None = slots
      by (Some x) = λ k p at. own_files T s.files (with_opened x.number f s.files) k p (λ n q e. sym (old_changed s.files.files x.number (on_opened f) (λ h. places h.opened) n) ∙ e) (slots k p at)

  itself : HasOldPlaces s.files s.files
  itself n q e = e

  idle : (g : Process ℕ Image → Process ℕ Image) → IsIdle g → (k : ℕ) (q : Process ℕ Image) → find (is_pid k) (with_process pid g s.living) ≡ Some q → Own T s.files k q
  idle g is = keeps s.files g is.pid_ (λ p own. idle_own s.files g is pid p own) itself

  same_files : (files : Table ℕ) → files.files ≡ s.files.files → SlotsAre T (with_files (λ _. files) s)
  same_files files same k p at = own_files T s.files files k p (λ n q e. ap (λ fs. place_in_files fs n) (sym same) ∙ e) (slots k p at)

  marked : (fd : ℕ) (on : Bool) → (k : ℕ) (q : Process ℕ Image) → find (is_pid k) (with_process pid (with_descs (λ d. changed d fd (λ x. record { number = x.number; cloexec = on }))) s.living) ≡ Some q → Own T s.files k q
  marked fd on =
      keeps s.files (with_descs (λ d. changed d fd F)) (λ p. refl)
      (λ p own. record {
        cwd = own.cwd;
        exe = own.exe;
        fds = λ f x q under there. under_key p own f x q there under;
      }) itself
    where
      F : Named → Named
      F x = record { number = x.number; cloexec = on }

      under_key : (p : Process ℕ Image) → Own T s.files pid p → (f : ℕ) (x : Named) (q : Place ℕ) → place_of s.files x.number ≡ Some q → map.get (changed p.descs fd F) f ≡ Some x → T pid (Fd f) q.mount
      under_key p own f x q there =
          by_key (λ f. map.get (changed p.descs fd F) f ≡ Some x → T pid (Fd f) q.mount) fd
          (λ e.
          let y = map_some F (map.get p.descs fd) x (sym (get-changed_same p.descs fd F) ∙ e) in
          own.fds fd y.0 q y.1 (ap (λ (x : Named). place_of s.files x.number) y.2 ∙ there))
          (λ f away e. own.fds f x q (sym (get-changed_other p.descs fd F f away) ∙ e) there) f

  read_files : (t : Table ℕ) (p n : ℕ) → (pipe_after_read p n t).files ≡ t.files
  read_files t p n = by (map.get t.pipes p)
    where
      by : (o : Option (List ℕ)) → (option_map_or (λ bytes. with_bytes p (drop n bytes) t) o t).files ≡ t.files
      by None = refl
      by (Some bytes) = refl

  write_files : (t : Table ℕ) (p : ℕ) (b : List ℕ) → (pipe_after_write p b t).files ≡ t.files
  write_files t p b = by (map.get t.pipes p)
    where
      by : (o : Option (List ℕ)) → (option_map_or (λ bytes. with_bytes p (after_write bytes (has_reader t p) b) t) o t).files ≡ t.files
      by None = refl
      by (Some bytes) = refl

  -- ---- each change

  open_descriptor : (fd : ℕ) → IsOpen pid fd s → named pid fd s ≡ None → ⊥
  open_descriptor fd is none = let x = some-of (named pid fd s) is in let clash : None ≡ Some x.0 = sym none ∙ x.1 in absurd cc

  follow : (c : Change) → IsSome (process pid s) → CanBeMade (λ m. m) table mounts pid s c → SlotsAre (TagIs table (tags_made table mounts pid s c tags)) (applied images mounts pid c s)
  follow (AddNode dir name mode uid gid body) lives can = slots
  follow (LinkNode dir name inode) lives can = slots
  follow (RemoveName dir name) lives can = forgets (exe_after_removal dir name) (after_removal dir name) (idle_removal dir name) (removal_places dir name)
  follow (MoveName dir name to new) lives can = forgets (exe_after_rename dir name to new) (after_rename dir name to new) (idle_rename dir name to new) (rename_places dir name to new)
  follow (SetMode inode mode) lives can = slots
  follow (SetOwner inode uid gid) lives can = slots
  follow (SetSize inode size) lives can = slots
  follow (WriteFile inode at bytes) lives can = slots
  follow (OpenFile fd cloexec from o) lives can = by (mount_of mounts pid s from)
    where
      by : (m : Option ℕ) → SlotsAre (TagIs table (option_map_or (λ m. with_tag tags pid (Fd fd) (index_at table m)) m tags)) (option_map_or (λ m. open_in pid fd cloexec o m s) m s)
      by None = slots
      by (Some m) = opens fd cloexec o m
  follow (CopyDescriptor fd to cloexec) lives can = by (named pid fd s) refl
    where
      by : (o : Option Named) → named pid fd s ≡ o → SlotsAre (TagIs table (with_tag tags pid (Fd to) (tag_of tags pid (Fd fd)))) (option_map_or (λ x. copy_over pid to cloexec x (named pid to s) s) o s)
      by None none = absurd (open_descriptor fd can.old none)
      by (Some x) is = over (named pid to s)
        where
          over : (y : Option Named) → SlotsAre (TagIs table (with_tag tags pid (Fd to) (tag_of tags pid (Fd fd)))) (copy_over pid to cloexec x y s)
          over None = copies fd to cloexec x is
          over (Some y) = slots_let_go (TagIs table (with_tag tags pid (Fd to) (tag_of tags pid (Fd fd)))) pid y.number (copy_named pid to cloexec x s) (copies fd to cloexec x is)
  follow (CloseDescriptor fd) lives can = slots_close T pid fd s slots
  follow (SetCloexec fd on) lives can = marked fd on
  follow (Seek fd at) lives can = on_one fd (at_offset at) (λ o. refl)
  follow (SetAppend fd on) lives can = on_one fd (with_append on) (λ o. refl)
  follow (MakePipe first second cloexec) lives can = pipes first second cloexec
  follow (TakeFromPipe pipe count) lives can = same_files (pipe_after_read pipe count s.files) (read_files s.files pipe count)
  follow (PutIntoPipe pipe bytes) lives can = same_files (pipe_after_write pipe bytes s.files) (write_files s.files pipe bytes)
  follow (TakeInput count) lives can = slots
  follow (WriteOut bytes) lives can = slots
  follow (WriteErr bytes) lives can = slots
  follow (ChangePages c) lives can = idle (with_image (images.paged c)) (record { pid_ = λ p. refl; cwd = λ p. refl; exe = λ p. refl; descs = λ p. refl })
  follow (SetBreak brk) lives can = idle (with_brk brk) (record { pid_ = λ p. refl; cwd = λ p. refl; exe = λ p. refl; descs = λ p. refl })
  follow (SetUmask umask) lives can = idle (with_umask umask) (record { pid_ = λ p. refl; cwd = λ p. refl; exe = λ p. refl; descs = λ p. refl })
  follow (ChangeDirectory from host) lives can = by (mount_of mounts pid s from)
    where
      by : (m : Option ℕ) → SlotsAre (TagIs table (option_map_or (λ m. with_tag tags pid Cwd (index_at table m)) m tags)) (option_map_or (λ m. moved_to pid host m s) m s)
      by None = slots
      by (Some m) = moves host m
  follow (Fork b) lives can = by (process pid s) refl can
    where
      by : (o : Option (Process ℕ Image)) → process pid s ≡ o → IfSome o (CanFork b s) → SlotsAre (TagIs table (forked tags pid b.pid)) (option_map_or (λ p. forked_from images b p s) o s)
      by None none can = let x = some-of (process pid s) lives in let clash : None ≡ Some x.0 = sym none ∙ x.1 in absurd cc
      by (Some p) is can = forks b p is can.next
  follow (End status) lives can = ends status
  follow (Reap child) lives can = slots
  follow (ReplaceImage image brk) lives can = idle (with_program image brk) (record { pid_ = λ p. refl; cwd = λ p. refl; exe = λ p. refl; descs = λ p. refl })
  follow (ReplaceExecutable from host dir name) lives can = by (mount_of mounts pid s from)
    where
      by : (m : Option ℕ) → SlotsAre (TagIs table (option_map_or (λ m. with_tag tags pid Exe (index_at table m)) m tags)) (option_map_or (λ m. executed pid host dir name m s) m s)
      by None = slots
      by (Some m) = replaces host dir name m
  follow CloseOnExec lives can = slots_on_exec T pid 1024 s slots

pub tags_follow : TagsFollow
tags_follow table mounts pid c s tags lawful lives can tagged =
    tags_of_slots table (tags_made table mounts pid s c tags) (applied images mounts pid c s) (follow table mounts pid s tags lawful (slots_of_tags table tags s tagged) c lives can)
