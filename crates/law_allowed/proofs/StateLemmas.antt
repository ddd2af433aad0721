-- What lasts of a state, by how many names, files and pids it drew, and how what holds and releases inodes keeps it.
use Rattle.std.specs.FinMap as map
use Rattle.std.proofs.Common.{◌≡◌, ℕ, zero, suc, ◌+◌, ◌-◌, ◌*◌, ◌≤◌, ◌<◌, ◌^◌, Bool, true, false, List, arith, cond, nat_lt, Option, Some, None}
use Rattle.std.specs.Option.{option_map_or, option_and_then}
use Rattle.law_lawful.specs.kr_inode.declared.user.User.{User}
use Rattle.law_lawful.specs.kr_tree.Tree.{Tree}
use Rattle.law_lawful.specs.kr_tree.Changes as tree
use Rattle.law_lawful.specs.kr_tree.declared.place.Host.{Host}
use Rattle.law_lawful.specs.kr_tree.declared.place.Place.{Place}
use Rattle.law_lawful.specs.kr_files.declared.opened.Opened.{Opened}
use Rattle.law_lawful.specs.kr_files.Descriptors.{Meanings, Named}
use Rattle.law_lawful.specs.kr_files.Files.{Table, Counted, without_file, closed, with_bytes, pipe_after_read, pipe_after_write}
use Rattle.law_lawful.specs.kr_model.State.{Process, State, inode_of, process, named, place_of}
use Rattle.law_lawful.specs.kr_model.Change.{Birth}
use Rattle.law_lawful.specs.kr_model.Applied.{Computing, held_at, released_at, held_for, open_in, let_go, close_named, close, copy_named, copy_over, cwd_of, exe_of, moved_to, forked_from, close_below, gone, end, executed, is_closed_on_exec, close_on_exec_below}
use Rattle.law_allowed.proofs.TreeLemmas.{TreeLasts, tree-later, held-lasts, released-lasts}

-- ---- open files and pipes

-- what lasts of a table that drew `drawn` times: two open files each time at most, or a pipe
pub record FilesLast {M : Type 0} (drawn : ℕ) (t : Table M) : Type 0 where
  pub files : t.last_file < 2 ^ 31 + 2 * drawn
  pub pipes : t.last_pipe < 2 ^ 31 + drawn

module _ {M : Type 0} (drawn : ℕ) (t : Table M) (last : FilesLast drawn t) where
  closed-last : (n : ℕ) → FilesLast drawn (closed n t)
  unfolding closed
  closed-last n = by (map.get t.files n)
    where
      last-one : (h : Counted M) (b : Bool) → FilesLast drawn (cond b (record t { files = map.insert t.files n (record h { count = h.count - 1 }) }) (without_file n h.opened.what t))
      last-one h true = record { files = last.files; pipes = last.pipes }
      last-one h false = record { files = last.files; pipes = last.pipes }

      by : (o : Option (Counted M)) → FilesLast drawn (option_map_or (λ h. cond (nat_lt 1 h.count) (record t { files = map.insert t.files n (record h { count = h.count - 1 }) }) (without_file n h.opened.what t)) o t)
      by None = last
      by (Some h) = last-one h (nat_lt 1 h.count)

  written-last : (pipe : ℕ) (f : List ℕ → List ℕ) → FilesLast drawn (option_map_or (λ bytes. with_bytes pipe (f bytes) t) (map.get t.pipes pipe) t)
  written-last pipe f = by (map.get t.pipes pipe)
    where
      by : (o : Option (List ℕ)) → FilesLast drawn (option_map_or (λ bytes. with_bytes pipe (f bytes) t) o t)
      by None = last
      by (Some bytes) = record { files = last.files; pipes = last.pipes }

  pub read-last : (pipe count : ℕ) → FilesLast drawn (pipe_after_read pipe count t)
  read-last pipe count = written-last pipe _

  pub write-last : (pipe : ℕ) (bytes : List ℕ) → FilesLast drawn (pipe_after_write pipe bytes t)
  write-last pipe bytes = written-last pipe _

-- ---- holds

module _ {M : Type 0} (names : ℕ) where
  held_at-lasts : (o : Option (Place M)) (t : Tree) → TreeLasts names t → TreeLasts names (held_at o t)
  held_at-lasts None t lasts = lasts
  held_at-lasts (Some p) t lasts = held-lasts names t lasts (inode_of p.host)

  released_at-lasts : (o : Option (Place M)) (t : Tree) → TreeLasts names t → TreeLasts names (released_at o t)
  released_at-lasts None t lasts = lasts
  released_at-lasts (Some p) t lasts = released-lasts names t lasts (inode_of p.host)

  held_for-lasts : (d : Meanings) (files : Table M) (count : ℕ) (t : Tree) → TreeLasts names t → TreeLasts names (held_for d files count t)
  unfolding held_for
  held_for-lasts d files zero t lasts = lasts
  held_for-lasts d files (suc fd) t lasts =
      held_at-lasts (option_and_then (λ x. place_of files x.number) (map.get d fd)) (held_for d files fd t) (held_for-lasts d files fd t lasts)

-- ---- the state

-- how often a state drew of each kind
pub record Drawn : Type 0 where
  pub names : ℕ
  pub files : ℕ
  pub pids : ℕ

pub record IsNoLess (d e : Drawn) : Type 0 where
  pub names : d.names ≤ e.names
  pub files : d.files ≤ e.files
  pub pids : d.pids ≤ e.pids

-- what lasts of the state of a user that drew as often as `drawn` says
pub record StateLasts {M X : Type 0} (owner : User) (drawn : Drawn) (s : State M X) : Type 0 where
  pub user : s.user ≡ owner
  pub tree : TreeLasts drawn.names s.tree
  pub files : FilesLast drawn.files s.files
  pub pids : s.next_pid < 2 ^ 31 + drawn.pids

module _ {M X : Type 0} (user : User) where
  pub state-later : (d e : Drawn) → IsNoLess d e → (s : State M X) → StateLasts user d s → StateLasts user e s
  state-later d e more s lasts = record {
    user = lasts.user;
    tree = tree-later d.names e.names more.names s.tree lasts.tree;
    files = record {
      files = let before = lasts.files.files in let l = more.files in omega arith;
      pipes = let before = lasts.files.pipes in let l = more.files in omega arith;
    };
    pids = let before = lasts.pids in let l = more.pids in omega arith;
  }

  module _ (drawn : Drawn) where
    -- a number more is drawn for the open file
    pub open-lasts : (pid fd : ℕ) (cloexec : Bool) (o : Opened (Unit {0})) (m : M) (s : State M X) → StateLasts user drawn s
        → StateLasts user (record { names = drawn.names; files = suc drawn.files; pids = drawn.pids }) (open_in pid fd cloexec o m s)
    open-lasts pid fd cloexec o m s lasts = record {
      user = lasts.user;
      tree = held_at-lasts drawn.names o.place s.tree lasts.tree;
      files = record {
        files = let before = lasts.files.files in omega arith;
        pipes = let before = lasts.files.pipes in omega arith;
      };
      pids = lasts.pids;
    }

    let_go-lasts : (number : ℕ) (s : State M X) → StateLasts user drawn s → StateLasts user drawn (let_go number s)
    let_go-lasts number s lasts = record {
      user = lasts.user;
      tree = released_at-lasts drawn.names (place_of s.files number) s.tree lasts.tree;
      files = closed-last drawn.files s.files lasts.files number;
      pids = lasts.pids;
    }

    pub close-lasts : (pid fd : ℕ) (s : State M X) → StateLasts user drawn s → StateLasts user drawn (close pid fd s)
    unfolding close
    close-lasts pid fd s lasts = by (named pid fd s)
      where
        by : (o : Option Named) → StateLasts user drawn (option_map_or (λ x. close_named pid fd x s) o s)
        by None = lasts
        by (Some x) = let gone = let_go-lasts x.number s lasts in record { user = gone.user; tree = gone.tree; files = gone.files; pids = gone.pids }

    copy_named-lasts : (pid to : ℕ) (cloexec : Bool) (x : Named) (s : State M X) → StateLasts user drawn s → StateLasts user drawn (copy_named pid to cloexec x s)
    copy_named-lasts pid to cloexec x s lasts = record {
      user = lasts.user;
      tree = held_at-lasts drawn.names (place_of s.files x.number) s.tree lasts.tree;
      files = record { files = lasts.files.files; pipes = lasts.files.pipes };
      pids = lasts.pids;
    }

    pub copy_over-lasts : (pid to : ℕ) (cloexec : Bool) (x : Named) (y : Option Named) (s : State M X) → StateLasts user drawn s → StateLasts user drawn (copy_over pid to cloexec x y s)
    copy_over-lasts pid to cloexec x None s lasts = copy_named-lasts pid to cloexec x s lasts
    copy_over-lasts pid to cloexec x (Some y) s lasts = let_go-lasts y.number (copy_named pid to cloexec x s) (copy_named-lasts pid to cloexec x s lasts)

    pub moved_to-lasts : (pid : ℕ) (host : Host) (m : M) (s : State M X) → StateLasts user drawn s → StateLasts user drawn (moved_to pid host m s)
    moved_to-lasts pid host m s lasts = record {
      user = lasts.user;
      tree = released_at-lasts drawn.names (cwd_of pid s) (tree.held (inode_of host) s.tree) (held-lasts drawn.names s.tree lasts.tree (inode_of host));
      files = lasts.files;
      pids = lasts.pids;
    }

    pub executed-lasts : (pid : ℕ) (host : Host) (dir : ℕ) (name : List ℕ) (m : M) (s : State M X) → StateLasts user drawn s → StateLasts user drawn (executed pid host dir name m s)
    executed-lasts pid host dir name m s lasts = record {
      user = lasts.user;
      tree = released_at-lasts drawn.names (exe_of pid s) (tree.held (inode_of host) s.tree) (held-lasts drawn.names s.tree lasts.tree (inode_of host));
      files = lasts.files;
      pids = lasts.pids;
    }

    -- the child has the number that is drawn
    pub forked-lasts : (computing : Computing X) (b : Birth) (p : Process M X) (s : State M X) → b.pid ≡ s.next_pid → StateLasts user drawn s
        → StateLasts user (record { names = drawn.names; files = drawn.files; pids = suc drawn.pids }) (forked_from computing b p s)
    forked-lasts computing b p s next lasts =
        let t : Tree = held_for p.descs s.files 1024 s.tree in
        record {
          user = lasts.user;
          tree = held_at-lasts drawn.names (Some p.exe) (held_at (Some p.cwd) t) (held_at-lasts drawn.names (Some p.cwd) t (held_for-lasts drawn.names p.descs s.files 1024 s.tree lasts.tree));
          files = record { files = lasts.files.files; pipes = lasts.files.pipes };
          pids = let before = lasts.pids in omega arith;
        }

    close_below-lasts : (pid count : ℕ) (s : State M X) → StateLasts user drawn s → StateLasts user drawn (close_below pid count s)
    unfolding close_below
    close_below-lasts pid zero s lasts = lasts
    close_below-lasts pid (suc fd) s lasts = close-lasts pid fd (close_below pid fd s) (close_below-lasts pid fd s lasts)

    pub close_on_exec-lasts : (pid count : ℕ) (s : State M X) → StateLasts user drawn s → StateLasts user drawn (close_on_exec_below pid count s)
    unfolding close_on_exec_below
    close_on_exec-lasts pid zero s lasts = lasts
    close_on_exec-lasts pid (suc fd) s lasts =
        let before : State M X = close_on_exec_below pid fd s in
        by before (close_on_exec-lasts pid fd s lasts) (is_closed_on_exec pid fd before)
      where
        by : (before : State M X) → StateLasts user drawn before → (b : Bool) → StateLasts user drawn (cond b (close pid fd before) before)
        by before last true = close-lasts pid fd before last
        by before last false = last

    pub end-lasts : (pid status : ℕ) (s : State M X) → StateLasts user drawn s → StateLasts user drawn (end pid status s)
    end-lasts pid status s lasts =
        let closed : State M X = close_below pid 1024 s in
        by closed (close_below-lasts pid 1024 s lasts) (process pid closed)
      where
        by : (k : State M X) → StateLasts user drawn k → (o : Option (Process M X)) → StateLasts user drawn (option_map_or (λ p. gone pid status p k) o k)
        by k last None = last
        by k last (Some p) = record {
          user = last.user;
          tree = released_at-lasts drawn.names (Some p.exe) (released_at (Some p.cwd) k.tree) (released_at-lasts drawn.names (Some p.cwd) k.tree last.tree);
          files = last.files;
          pids = last.pids;
        }
