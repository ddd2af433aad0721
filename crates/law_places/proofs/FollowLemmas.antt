-- What follows from a state by the parts of changes: one lemma for each part of a state.
use Rattle.std.specs.FinMap as map
use Rattle.std.proofs.Common.{◌≡◌, ◌+◌, ◌-◌, ℕ, zero, suc, Bool, true, false, cond, List, [], ◌∷◌, ◌++◌, nat_lt, Option, Some, None, refl, sym, ap, subst, ◌∙◌, map as map_list}
use Rattle.std.specs.Prelude.{◌==◌}
use Rattle.std.specs.Bool.{if◌then◌else◌}
use Rattle.std.specs.List.{find}
use Rattle.std.specs.Option.{option_map, option_map_or, option_and_then, option_or}
use Rattle.std.specs.Ordering.{nat_cmp}
use Rattle.std.proofs.lemmas.List.Folds.{find-append}
use Rattle.kr_calm.specs.pr_base.Maps.{changed, mapped}
use Rattle.kr_calm.proofs.pr_base.MapLemmas.{by_key, get-changed_other, get-changed_same, get-insert_other, get-insert_same, get-mapped, get-remove_other, get-remove_same}
use Rattle.law_walks.specs.kr_tree.declared.place.Place.{Place}
use Rattle.law_walks.specs.kr_tree.Tree.{Tree}
use Rattle.law_walks.proofs.kr_tree.NameLemmas.{map_some, some_is}
use Rattle.law_walks.specs.kr_view.Living.{first}
use Rattle.law_walks.specs.kr_files.declared.opened.Opened.{Opened}
use Rattle.law_walks.specs.kr_files.declared.opened.What.TheVariants.{PipeRead, PipeWrite}
use Rattle.law_walks.specs.kr_files.Descriptors.{Meanings, Named, named_count}
use Rattle.law_walks.specs.kr_files.Files.{Counted, Table, closed, counted_more, file_at, on_opened, with_copies, with_copy, with_file, with_opened, with_pipe, without_file}
use Rattle.law_walks.specs.kr_files.Opened.{pipe_end}
use Rattle.law_walks.specs.kr_model.Applied.{Computing, child_of, close, close_named, copy_named, copy_over, forked_from, held_at, held_for, in_mount, let_go, on_opened_of, open_in, pipe_made, released_at, with_files, with_living, with_tree}
use Rattle.law_walks.specs.kr_model.Change.{Birth}
use Rattle.law_walks.specs.kr_model.State.{Process, State, at_pid, inode_of, is_pid, named, place_of, process, with_descs, with_process}
use Rattle.law_walks.proofs.kr_model.BareLemmas.{found-mapped, mapped-append}
use Rattle.law_places.specs.Following.{Follows, pids_of}
use Rattle.law_places.specs.Losses.{InodesStay, Losses, PidsStay}
use Rattle.law_places.specs.Uses.{Use, cwd_use, exe_use, open_use}
use Rattle.law_places.proofs.TreeLemmas.{held_stays, released_stays, stay_all}

-- ---- open files

module _ (P : Use → Type 0) where
  abbrev Files : Type 0
  Files = map.FinMap nat_cmp (Counted ℕ)

  abbrev pub Fine : Counted ℕ → Type 0
  Fine h = (q : Place ℕ) → h.opened.place ≡ Some q → P (open_use h.opened q)

  abbrev pub AllFine : Files → Type 0
  AllFine files = (n : ℕ) (h : Counted ℕ) → map.get files n ≡ Some h → Fine h

  fine_insert : (files : Files) (k : ℕ) (h : Counted ℕ) → AllFine files → Fine h → AllFine (map.insert files k h)
  fine_insert files k h all fine n g at =
      by_key (λ n. map.get (map.insert files k h) n ≡ Some g → Fine g) k (λ at. subst Fine (some_is h g (sym (get-insert_same files k h) ∙ at)) fine) (λ q away at. all q g (sym (get-insert_other files k h q away) ∙ at)) n at

  fine_remove : (files : Files) (k : ℕ) → AllFine files → AllFine (map.remove files k)
  fine_remove files k all n g at =
      by_key (λ n. map.get (map.remove files k) n ≡ Some g → Fine g) k (λ at. let no : None ≡ Some g = sym (get-remove_same files k) ∙ at in absurd cc) (λ q away at. all q g (sym (get-remove_other files k q away) ∙ at)) n at

  fine_mapped : (files : Files) (F : ℕ → Counted ℕ → Counted ℕ) → ((n : ℕ) (h : Counted ℕ) → Fine h → Fine (F n h)) → AllFine files → AllFine (mapped F files)
  fine_mapped files F keeps all n g at = let m = map_some (F n) (map.get files n) g (sym (get-mapped F files n) ∙ at) in subst Fine m.2 (keeps n m.0 (all n m.0 m.1))

  fine_changed : (files : Files) (k : ℕ) (F : Counted ℕ → Counted ℕ) → ((h : Counted ℕ) → Fine h → Fine (F h)) → AllFine files → AllFine (changed files k F)
  fine_changed files k F keeps all n g at =
      by_key (λ n. map.get (changed files k F) n ≡ Some g → Fine g) k
      (λ at. let m = map_some F (map.get files k) g (sym (get-changed_same files k F) ∙ at) in subst Fine m.2 (keeps m.0 (all k m.0 m.1)))
      (λ q away at. all q g (sym (get-changed_other files k F q away) ∙ at)) n at

  fine_closed : (t : Table ℕ) (n : ℕ) → AllFine t.files → AllFine (closed n t).files
  unfolding closed
  fine_closed t n all = by (map.get t.files n) refl
    where
      by : (o : Option (Counted ℕ)) → map.get t.files n ≡ o → AllFine (option_map_or (λ (h : Counted ℕ). cond (nat_lt 1 h.count) (record t { files = map.insert t.files n (record h { count = h.count - 1 }) }) (without_file n h.opened.what t)) o t).files
      by None e = all
      by (Some h) e = one (nat_lt 1 h.count)
        where
          one : (b : Bool) → AllFine (cond b (record t { files = map.insert t.files n (record h { count = h.count - 1 }) }) (without_file n h.opened.what t)).files
          one true = fine_insert t.files n (record h { count = h.count - 1 }) all (all n h e)
          one false = fine_remove t.files n all

  pub opens_fine : (t : Table ℕ) → AllFine t.files → (n : ℕ) (o : Opened ℕ) (q : Place ℕ) → file_at t n ≡ Some o → o.place ≡ Some q → P (open_use o q)
  opens_fine t all n o q at there =
      let h = map_some (λ (h : Counted ℕ). h.opened) (map.get t.files n) o at in
      subst (λ (o : Opened ℕ). o.place ≡ Some q → P (open_use o q)) h.2 (all n h.0 h.1 q) there

-- ---- the numbers of processes

pub pids_same : (lost : Losses) (ps qs : List ℕ) → qs ≡ ps → (ns : List ℕ) → PidsStay lost ns ps → PidsStay lost ns qs
pids_same lost ps qs same ns stay = subst (λ (ps : List ℕ). PidsStay lost ns ps) (sym same) stay

first_append : (test : ℕ → Bool) (ps more : List ℕ) (n : ℕ) → first test ps ≡ Some n → first test (ps ++ more) ≡ Some n
first_append test [] more n e = absurd cc
first_append test (p ∷ ps) more n e = by (test p) e (first_append test ps more n)
  where
    by : (b : Bool) → (if b then Some p else first test ps) ≡ Some n → (first test ps ≡ Some n → first test (ps ++ more) ≡ Some n) → (if b then Some p else first test (ps ++ more)) ≡ Some n
    by true e later = e
    by false e later = later e

-- ---- trees

module _ (lost : Losses) {X : Type 0} (one : State ℕ X) where
  abbrev pub Stay : Tree → Type 0
  Stay t = InodesStay one.user lost one.tree.inodes t.inodes

  pub held_at_stays : {M : Type 0} (o : Option (Place M)) (t : Tree) → Stay t → Stay (held_at o t)
  held_at_stays None t before = before
  held_at_stays (Some p) t before = held_stays one.user lost one.tree.inodes t before (inode_of p.host)

  pub released_at_stays : {M : Type 0} (o : Option (Place M)) (t : Tree) → Stay t → Stay (released_at o t)
  released_at_stays None t before = before
  released_at_stays (Some p) t before = released_stays one.user lost one.tree.inodes t before (inode_of p.host)

  held_for_stays : {M : Type 0} (d : Meanings) (files : Table M) (n : ℕ) (t : Tree) → Stay t → Stay (held_for d files n t)
  unfolding held_for
  held_for_stays d files zero t before = before
  held_for_stays d files (suc fd) t before = held_at_stays (option_and_then (λ x. place_of files x.number) (map.get d fd)) (held_for d files fd t) (held_for_stays d files fd t before)

-- ---- processes

module _ {X : Type 0} where
  -- what is told of a process of which f leaves that
  pub told_at : {A : Type 0} (tell : Process ℕ X → A) (pid : ℕ) (f : Process ℕ X → Process ℕ X) → ((p : Process ℕ X) → tell (f p) ≡ tell p) → (p : Process ℕ X) → tell (at_pid pid f p) ≡ tell p
  told_at tell pid f same p = elim (p.pid == pid) as (λ b. tell (cond b (f p) p) ≡ tell p) [ true ↦ same p | false ↦ refl ]

  -- a process of a number afterwards is one from before
  pub from_process : (g : Process ℕ X → Process ℕ X) → ((p : Process ℕ X) → (g p).pid ≡ p.pid) → (k : ℕ) (ps : List (Process ℕ X)) (q : Process ℕ X) → find (is_pid k) (map_list g ps) ≡ Some q → (p : Process ℕ X) × (find (is_pid k) ps ≡ Some p) × (g p ≡ q)
  from_process g same k ps q e = map_some g (find (is_pid k) ps) q (sym (found-mapped g (is_pid k) (is_pid k) (λ p. ap (λ n. n == k) (same p)) ps) ∙ e)

  pub pids_mapped : (g : Process ℕ X → Process ℕ X) → ((p : Process ℕ X) → (g p).pid ≡ p.pid) → (ps : List (Process ℕ X)) → map_list (λ (p : Process ℕ X). p.pid) (map_list g ps) ≡ map_list (λ (p : Process ℕ X). p.pid) ps
  pids_mapped g same [] = refl
  pids_mapped g same (p ∷ ps) = ap (λ n. n ∷ map_list (λ (p : Process ℕ X). p.pid) (map_list g ps)) (same p) ∙ ap (λ ns. p.pid ∷ ns) (pids_mapped g same ps)

  -- a function of processes that leaves their places
  pub record IsIdle (f : Process ℕ X → Process ℕ X) : Type 0 where
    pub pid : (p : Process ℕ X) → (f p).pid ≡ p.pid
    pub cwd : (p : Process ℕ X) → cwd_use (f p) ≡ cwd_use p
    pub exe : (p : Process ℕ X) → exe_use (f p) ≡ exe_use p

  pub idle_descs : (f : Meanings → Meanings) → IsIdle (with_descs f)
  idle_descs f = record { pid = λ p. refl; cwd = λ p. refl; exe = λ p. refl }

  module _ (lost : Losses) (P : Use → Type 0) (one : State ℕ X) where
    abbrev pub F : State ℕ X → Type 0
    F s = Follows lost P one s

    -- ---- the parts of a state

    pub follows_itself : ((pid : ℕ) (p : Process ℕ X) → process pid one ≡ Some p → P (cwd_use p) × P (exe_use p)) → ((n : ℕ) (o : Opened ℕ) (q : Place ℕ) → file_at one.files n ≡ Some o → o.place ≡ Some q → P (open_use o q)) → F one
    follows_itself own opens = record {
      user = refl;
      inodes = stay_all one.user lost one.tree.inodes;
      pids = λ test pid e still. e;
      cwds = λ pid p at. (own pid p at).0;
      exes = λ pid p at. (own pid p at).1;
      opens = opens;
    }

    pub follows_tree : (f : Tree → Tree) (s : State ℕ X) → (Stay lost one s.tree → Stay lost one (f s.tree)) → F s → F (with_tree f s)
    follows_tree f s keeps w = record { user = w.user; inodes = keeps w.inodes; pids = w.pids; cwds = w.cwds; exes = w.exes; opens = w.opens }

    all_fine : (s : State ℕ X) → F s → AllFine P s.files.files
    all_fine s w n h at q there = w.opens n h.opened q (ap (option_map (λ (h : Counted ℕ). h.opened)) at) there

    pub follows_files : (f : Table ℕ → Table ℕ) (s : State ℕ X) → (AllFine P s.files.files → AllFine P (f s.files).files) → F s → F (with_files f s)
    follows_files f s keeps w = record { user = w.user; inodes = w.inodes; pids = w.pids; cwds = w.cwds; exes = w.exes; opens = opens_fine P (f s.files) (keeps (all_fine s w)) }

    pub follows_living : (f : List (Process ℕ X) → List (Process ℕ X)) (s : State ℕ X) → (PidsStay lost (pids_of one) (pids_of s) → PidsStay lost (pids_of one) (map_list (λ (p : Process ℕ X). p.pid) (f s.living)))
        → ((k : ℕ) (q : Process ℕ X) → find (is_pid k) (f s.living) ≡ Some q → P (cwd_use q) × P (exe_use q)) → F s → F (with_living f s)
    follows_living f s stay each w = record { user = w.user; inodes = w.inodes; pids = stay w.pids; cwds = λ k q e. (each k q e).0; exes = λ k q e. (each k q e).1; opens = w.opens }

    -- each process changed
    pub follows_mapped : (g : Process ℕ X → Process ℕ X) (s : State ℕ X) → ((p : Process ℕ X) → (g p).pid ≡ p.pid) → ((k : ℕ) (p : Process ℕ X) → process k s ≡ Some p → P (cwd_use (g p)) × P (exe_use (g p))) → F s → F (with_living (map_list g) s)
    follows_mapped g s same each w =
        follows_living (map_list g) s (pids_same lost (pids_of s) (map_list (λ (p : Process ℕ X). p.pid) (map_list g s.living)) (pids_mapped g same s.living) (pids_of one))
        (λ k q e. let p = from_process g same k s.living q e in subst (λ q. P (cwd_use q) × P (exe_use q)) p.2 (each k p.0 p.1)) w

    pub follows_idle : (pid : ℕ) (f : Process ℕ X → Process ℕ X) (s : State ℕ X) → IsIdle f → F s → F (with_living (with_process pid f) s)
    follows_idle pid f s idle w =
        follows_mapped (at_pid pid f) s (told_at (λ p. p.pid) pid f idle.pid)
        (λ k p at. (subst P (sym (told_at cwd_use pid f idle.cwd p)) (w.cwds k p at), subst P (sym (told_at exe_use pid f idle.exe p)) (w.exes k p at))) w

    -- ---- a descriptor that goes

    pub follows_let_go : (n : ℕ) (s : State ℕ X) → F s → F (let_go n s)
    follows_let_go n s w =
        let a = follows_tree (released_at (place_of s.files n)) s (released_at_stays lost one (place_of s.files n) s.tree) w in
        follows_files (closed n) (with_tree (released_at (place_of s.files n)) s) (fine_closed P s.files n) a

    pub follows_close : (pid fd : ℕ) (s : State ℕ X) → F s → F (close pid fd s)
    unfolding close
    follows_close pid fd s w = by (named pid fd s)
      where
        by : (o : Option Named) → F (option_map_or (λ x. close_named pid fd x s) o s)
        by None = w
        by (Some x) = follows_idle pid (with_descs (λ d. map.remove d fd)) (let_go x.number s) (idle_descs _) (follows_let_go x.number s w)

    -- ---- descriptors that come

    follows_held : {M : Type 0} (o : Option (Place M)) (s : State ℕ X) → F s → F (with_tree (held_at o) s)
    follows_held o s w = follows_tree (held_at o) s (held_at_stays lost one o s.tree) w

    follows_copy : (pid to : ℕ) (cloexec : Bool) (x : Named) (s : State ℕ X) → F s → F (copy_named pid to cloexec x s)
    follows_copy pid to cloexec x s w =
        let held = with_tree (held_at (place_of s.files x.number)) s in
        let a = follows_held (place_of s.files x.number) s w in
        let b = follows_files (with_copy x.number) held (fine_changed P s.files.files x.number (counted_more 1) (λ h fine. fine)) a in
        follows_idle pid (with_descs (λ d. map.insert d to (record { number = x.number; cloexec = cloexec }))) (with_files (with_copy x.number) held) (idle_descs _) b

    pub follows_copy_over : (pid to : ℕ) (cloexec : Bool) (x : Named) (y : Option Named) (s : State ℕ X) → F s → F (copy_over pid to cloexec x y s)
    follows_copy_over pid to cloexec x None s w = follows_copy pid to cloexec x s w
    follows_copy_over pid to cloexec x (Some y) s w = follows_let_go y.number (copy_named pid to cloexec x s) (follows_copy pid to cloexec x s w)

    pub follows_opened : (pid fd : ℕ) (f : Opened ℕ → Opened ℕ) (s : State ℕ X) → ((o : Opened ℕ) (q : Place ℕ) → (o.place ≡ Some q → P (open_use o q)) → (f o).place ≡ Some q → P (open_use (f o) q)) → F s → F (on_opened_of pid fd f s)
    follows_opened pid fd f s keeps w = by (named pid fd s)
      where
        by : (o : Option Named) → F (option_map_or (λ x. with_files (with_opened x.number f) s) o s)
        by None = w
        by (Some x) = follows_files (with_opened x.number f) s (fine_changed P s.files.files x.number (on_opened f) (λ h fine q. keeps h.opened q (fine q))) w

    -- a new open file at a place
    pub follows_open : (pid fd : ℕ) (cloexec : Bool) (o : Opened (Unit {0})) (m : ℕ) (s : State ℕ X) → Fine P (record { opened = in_mount m o; count = 1 }) → F s → F (open_in pid fd cloexec o m s)
    follows_open pid fd cloexec o m s fine w =
        let held = with_tree (held_at o.place) s in
        let a = follows_held o.place s w in
        let b = follows_files (with_file (in_mount m o)) held (λ all. fine_insert P s.files.files (s.files.last_file + 1) (record { opened = in_mount m o; count = 1 }) all fine) a in
        follows_idle pid (with_descs (λ d. map.insert d fd (record { number = s.files.last_file + 1; cloexec = cloexec }))) (with_files (with_file (in_mount m o)) held) (idle_descs _) b

    pub follows_pipe : (pid one two : ℕ) (cloexec : Bool) (s : State ℕ X) → F s → F (pipe_made pid one two cloexec s)
    follows_pipe pid first second cloexec s w =
        let n = s.files.last_file + 1 in
        let reader : Counted ℕ = record { opened = pipe_end (PipeRead (s.files.last_pipe + 1)) true false; count = 1 } in
        let writer : Counted ℕ = record { opened = pipe_end (PipeWrite (s.files.last_pipe + 1)) false true; count = 1 } in
        let a = follows_files with_pipe s (λ all. fine_insert P (map.insert s.files.files n reader) (n + 1) writer (fine_insert P s.files.files n reader all (λ q e. absurd cc)) (λ q e. absurd cc)) w in
        follows_idle pid (with_descs (λ d. map.insert (map.insert d first (record { number = n; cloexec = cloexec })) second (record { number = n + 1; cloexec = cloexec }))) (with_files with_pipe s) (idle_descs _) a

    -- ---- processes

    -- one process more, with the places of another
    pub follows_fork : (computing : Computing X) (b : Birth) (pid : ℕ) (p : Process ℕ X) (s : State ℕ X) → process pid s ≡ Some p → F s → F (forked_from computing b p s)
    follows_fork computing b pid p s here w =
        let grown = λ (t : Tree). held_at (Some p.exe) (held_at (Some p.cwd) (held_for p.descs s.files 1024 t)) in
        let a = follows_tree grown s
        (λ k. held_at_stays lost one (Some p.exe) (held_at (Some p.cwd) (held_for p.descs s.files 1024 s.tree)) (held_at_stays lost one (Some p.cwd) (held_for p.descs s.files 1024 s.tree) (held_for_stays lost one p.descs s.files 1024 s.tree k))) w in
        let c = follows_files (with_copies p.descs) (with_tree grown s) (fine_mapped P s.files.files (λ n. counted_more (named_count p.descs n)) (λ n h fine. fine)) a in
        let d = follows_living (λ ps. ps ++ child_of computing b p ∷ []) (with_files (with_copies p.descs) (with_tree grown s)) grows (λ k q e. child k q e) c in
        record { user = d.user; inodes = d.inodes; pids = d.pids; cwds = d.cwds; exes = d.exes; opens = d.opens }
      where
        grows : PidsStay lost (pids_of one) (pids_of s) → PidsStay lost (pids_of one) (map_list (λ (p : Process ℕ X). p.pid) (s.living ++ child_of computing b p ∷ []))
        grows stay =
            pids_same lost (pids_of s ++ b.pid ∷ []) (map_list (λ (p : Process ℕ X). p.pid) (s.living ++ child_of computing b p ∷ [])) (mapped-append (λ (p : Process ℕ X). p.pid) s.living (child_of computing b p ∷ [])) (pids_of one)
            (λ test k e still. first_append test (pids_of s) (b.pid ∷ []) k (stay test k e still))

        child : (k : ℕ) (q : Process ℕ X) → find (is_pid k) (s.living ++ child_of computing b p ∷ []) ≡ Some q → P (cwd_use q) × P (exe_use q)
        child k q e = by (find (is_pid k) s.living) refl (sym (find-append (is_pid k) s.living (child_of computing b p ∷ [])) ∙ e)
          where
            by : (o : Option (Process ℕ X)) → find (is_pid k) s.living ≡ o → option_or o (find (is_pid k) (child_of computing b p ∷ [])) ≡ Some q → P (cwd_use q) × P (exe_use q)
            by (Some r) is e = let same = some_is r q e in (w.cwds k q (is ∙ ap Some same), w.exes k q (is ∙ ap Some same))
            by None is e = last (b.pid == k) e
              where
                last : (c : Bool) → cond c (Some (child_of computing b p)) None ≡ Some q → P (cwd_use q) × P (exe_use q)
                last true e = let same = some_is (child_of computing b p) q e in (subst (λ q. P (cwd_use q)) same (w.cwds pid p here), subst (λ q. P (exe_use q)) same (w.exes pid p here))
                last false e = absurd cc
